use Rattle.std.proofs.Common.{sym, refl, ap, ◌≡◌, ℕ, zero, suc, ◌+◌, List, [], ◌∷◌, length, take, drop, ◌++◌}
use Rattle.std.proofs.lemmas.List.{drop-drop}
use Rattle.std.proofs.Math.Seq.{take-append_seam}
use Rattle.mr_base.proofs.mem_link.MemLinkLink.get.Goals as goal

-- the first m bytes, where there are so many, and then those after them are all
parts : (m : ℕ) (ys : List ℕ) → ys ≡ take m ys ++ drop (length (take m ys)) ys
parts zero ys = refl
parts (suc m) [] = refl
parts (suc m) (y ∷ ys) = ap (λ zs. y ∷ zs) (parts m ys)

-- the first bytes to come, put before other bytes, and those after them are all that were to come
moved : (m at : ℕ) (xs bytes got other : List ℕ) → bytes ≡ take m (drop at xs) → got ≡ bytes
    → drop at xs ≡ take (length bytes) (got ++ other) ++ drop (at + length bytes) xs
moved m at xs bytes got other is same =
    rw (sym (drop-drop (length bytes) at xs), same, take-append_seam bytes other, is) (parts m (drop at xs))

pub returns-clause-moved : goal.returns-clause-moved
returns-clause-moved c =
    let link = c.args.self.now in
    let bytes = c.next_bytes-bytes.result.now in
    moved _ link.at link.input.items bytes c.copy_from_slice.new.self
    (drop (length bytes) c.args.space.now)
    c.next_bytes-bytes.ensures c.copy_from_slice.ensures.after
