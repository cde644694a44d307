-- Pieces and what they were cut from.
use Rattle.std.proofs.Common.{◌≡◌, ℕ, ◌==◌, Bool, true, false, List, [], ◌∷◌, refl, sym, ap, ◌∙◌}
use Rattle.std.specs.Prelude.{if◌then◌else◌}
use Rattle.std.specs.List.{join_with_byte}
use Rattle.mr_words.specs.Parts.{before, parts_behind, parts_of}
use Rattle.mr_text.proofs.Parting.{is_equal}

join_onto : (sep b : ℕ) (p : List ℕ) (ps : List (List ℕ)) → join_with_byte sep ((b ∷ p) ∷ ps) ≡ b ∷ join_with_byte sep (p ∷ ps)
join_onto sep b p [] = refl
join_onto sep b p (q ∷ qs) = refl

rejoined_by : (sep b : ℕ) (bs : List ℕ) (c : Bool) → (b == sep) ≡ c → join_with_byte sep (parts_of sep bs) ≡ bs
    → join_with_byte sep ((if c then [] else b ∷ before sep bs) ∷ (if c then before sep bs ∷ parts_behind sep bs else parts_behind sep bs)) ≡ b ∷ bs
rejoined_by sep b bs true e more =
    let same : b ≡ sep = is_equal b sep e in
    ap (λ l. sep ∷ l) more ∙ ap (λ x. x ∷ bs) (sym same)
rejoined_by sep b bs false e more = join_onto sep b (before sep bs) (parts_behind sep bs) ∙ ap (λ l. b ∷ l) more

-- The parts of bytes, with the separator between them, are the bytes.
pub rejoined : (sep : ℕ) (bs : List ℕ) → join_with_byte sep (parts_of sep bs) ≡ bs
rejoined sep [] = refl
rejoined sep (b ∷ bs) = rejoined_by sep b bs (b == sep) refl (rejoined sep bs)
