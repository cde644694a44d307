-- Names parted by commas: the first, and the others each behind a comma.
use Rattle.std.proofs.Common.{◌≡◌, ℕ, ◌<◌, ◌-◌, List, [], ◌∷◌, ◌++◌}
use Rattle.std.proofs.Common.{length, take, drop, slice_index_or}
use Rattle.std.proofs.Common.{refl, sym, subst, append-nil, arith}
use Rattle.std.proofs.Math.Seq.{take-length}
use Rattle.std.specs.Prelude.{flat_map}
use Rattle.std.specs.List.{join_with_byte}

pub join_first : (x : List ℕ) (xs : List (List ℕ)) →
    join_with_byte 44 (x ∷ xs) ≡ x ++ flat_map (λ w. 44 ∷ w) xs
join_first x [] = sym (append-nil x)
join_first x (y ∷ ys) = rw (join_first y ys) refl

-- the same, where the first and the others are parts of a list
pub join_parts : (xs : List (List ℕ)) (d : List ℕ) → 0 < length xs →
    join_with_byte 44 xs
    ≡ slice_index_or xs 0 d ++ flat_map (λ w. 44 ∷ w) (take (length xs - 1) (drop 1 xs))
join_parts [] d some = absurd (omega (arith, some))
join_parts (x ∷ xs) d some =
    let size : length xs ≡ length (x ∷ xs) - 1 = omega arith in
    subst (λ n. join_with_byte 44 (x ∷ xs) ≡ x ++ flat_map (λ w. 44 ∷ w) (take n xs)) size
    (rw (take-length xs) (join_first x xs))
