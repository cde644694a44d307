use Rattle.std.proofs.Common.{◌≡◌, ℕ, zero, suc, ◌<◌, ◌≤◌, ◌==◌, ◌&&◌, Bool, true, unwrap_or, slice_index_or, refl, arith, eq-or-lt_of_le, subst, sym, inl, inr}
use Rattle.std.proofs.lemmas.Bool.{and_parts, eqb-true}
use Rattle.mr_scenario.specs.Forms.{hex_digit}
use Rattle.mr_scenario.specs.declared.hex.TheConstants.{DIGITS}
use Rattle.mr_scenario.proofs.hex.digit.Goals as goal

abbrev is_right : ℕ → Bool
is_right b = slice_index_or DIGITS b 0 == unwrap_or (hex_digit b) 256

-- the table is right at each byte below n
abbrev right_below : ℕ → Bool
right_below zero = true
right_below (suc n) = is_right n && right_below n

right_at : (n b : ℕ) → right_below n ≡ true → suc b ≤ n → is_right b ≡ true
right_at zero b right below = absurd (omega arith)
right_at (suc n) b right below =
    let parts : (is_right n ≡ true) × (right_below n ≡ true) = and_parts (is_right n) (right_below n) right in
    elim (eq-or-lt_of_le below) [
      | inl same ↦ let last : b ≡ n = omega arith in subst (λ k. is_right k ≡ true) (sym last) parts.0
      | inr under ↦ right_at n b parts.1 (omega arith)
    ]

table_right : (b : ℕ) → b < 256 → slice_index_or DIGITS b 0 ≡ unwrap_or (hex_digit b) 256
table_right b below = eqb-true _ _ (right_at 256 b refl (omega arith))

pub returns : goal.returns
returns c = rw c.from.ensures (table_right c.args.b (omega (arith, c.ranges.b.fits)))
