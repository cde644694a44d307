-- The rule holds of the worked table, and not of those beside it.
use Rattle.std.proofs.Common.{◌≡◌, ℕ, zero, suc, List, [], ◌∷◌, length, refl, sym, ap, ◌∙◌, subst}
use Rattle.std.proofs.lemmas.List.Elements.{All-nil, All-cons, All-head}
use mathlib.Core.Option.{some, some-injective, some-ne-none}
use mathlib.Core.List.{IsPrefix}
use lib.ListN.{get_elem?}
use Rattle.mr_book.specs.declared.pairs.Pair.{Pair}
use Rattle.mr_book.specs.declared.view.View.{View}
use Rattle.mr_book.specs.Rule.{by, OwnEntries, Fits, IsCounted}
use Rattle.mr_book.specs.Views.{pen}
use Rattle.mr_book.specs.Pairs.{pair, pair_author}
use Rattle.mr_book.specs.WorkedTable.{all_three, seat_of, table_of, seat_a, seat_b}
use Rattle.mr_book.proofs.Blank.{off, same_number}
use Rattle.mr_book.proofs.Splitting.{pen_fits}

fits_a : Fits pair_author 2 (λ k. k) all_three 0 seat_a
fits_a = record {
  right = λ r. absurd (off r);
  begins = ([], refl);
  olds = All-nil (λ (old : List Pair). IsPrefix old all_three);
  number = λ k is. sym (same_number is);
  holders = All-cons (λ (own : ℕ × List Pair). own.0 ≡ 0) (0, pair 0 5 ∷ []) [] refl (All-nil (λ (own : ℕ × List Pair). own.0 ≡ 0));
  owns = All-cons (λ (own : ℕ × List Pair). by pair_author own.0 all_three ≡ own.1) (0, pair 0 5 ∷ []) [] refl (All-nil (λ (own : ℕ × List Pair). by pair_author own.0 all_three ≡ own.1));
}

fits_b : Fits pair_author 2 (λ k. k) all_three 1 seat_b
fits_b = record {
  right = λ r. absurd (off r);
  begins = ([], refl);
  olds = All-nil (λ (old : List Pair). IsPrefix old all_three);
  number = λ k is. sym (same_number is);
  holders = All-cons (λ (own : ℕ × List Pair). own.0 ≡ 1) (1, pair 1 6 ∷ pair 1 7 ∷ []) [] refl (All-nil (λ (own : ℕ × List Pair). own.0 ≡ 1));
  owns = All-cons (λ (own : ℕ × List Pair). by pair_author own.0 all_three ≡ own.1) (1, pair 1 6 ∷ pair 1 7 ∷ []) [] refl (All-nil (λ (own : ℕ × List Pair). by pair_author own.0 all_three ≡ own.1));
}

each_fits : (i : ℕ) (v : View Pair) → get_elem? (seat_a ∷ seat_b ∷ pen all_three ∷ []) i ≡ some v → Fits pair_author 2 (λ k. k) all_three i v
each_fits zero v at = subst (Fits pair_author 2 (λ k. k) all_three 0) (some-injective _ _ at) fits_a
each_fits (suc zero) v at = subst (Fits pair_author 2 (λ k. k) all_three 1) (some-injective _ _ at) fits_b
each_fits (suc (suc zero)) v at = subst (Fits pair_author 2 (λ k. k) all_three 2) (some-injective _ _ at) (pen_fits pair_author (λ k. k) all_three all_three 2 refl)
each_fits (suc (suc (suc i))) v at = absurd (some-ne-none v (sym at))

pub rule_holds : IsCounted pair_author (table_of 3 seat_a seat_b)
rule_holds = record {
  log = all_three;
  keeper = 2;
  holds = λ k. k;
  count = refl;
  one = (pen all_three, refl, refl);
  fits = each_fits;
}

-- the list is what the pen has seen
pub log_is : (count : ℕ) (a b : View Pair) (kept : IsCounted pair_author (table_of count a b)) → kept.log ≡ all_three
log_is count a b kept = sym ((kept.fits 2 (pen all_three) refl).right refl).1

-- the count is one too low
pub miscounted : IsCounted pair_author (table_of 2 seat_a seat_b) → ⊥
miscounted kept = absurd (cc (kept.count, ap length (log_is 2 seat_a seat_b kept)))

-- A has seen what is no beginning
pub no_beginning : IsCounted pair_author (table_of 3 (seat_of 0 (pair 1 6 ∷ []) (pair 0 5 ∷ [])) seat_b) → ⊥
no_beginning kept =
    let a = seat_of 0 (pair 1 6 ∷ []) (pair 0 5 ∷ []) in
    let begins = subst (IsPrefix (pair 1 6 ∷ [])) (log_is 3 a seat_b kept) (kept.fits 0 a refl).begins in
    let first : pair 1 6 ≡ pair 0 5 = cc (begins.1) in
    absurd (cc (ap (λ (p : Pair). p.author) first))

-- B does not know its own 6
pub not_known : IsCounted pair_author (table_of 3 seat_a (seat_of 1 all_three (pair 1 7 ∷ []))) → ⊥
not_known kept =
    let b = seat_of 1 all_three (pair 1 7 ∷ []) in
    let own = subst (OwnEntries pair_author ((1, pair 1 7 ∷ []) ∷ [])) (log_is 3 seat_a b kept) (kept.fits 1 b refl).owns in
    let same : pair 1 6 ∷ pair 1 7 ∷ [] ≡ pair 1 7 ∷ [] = All-head (λ (own : ℕ × List Pair). by pair_author own.0 all_three ≡ own.1) (1, pair 1 7 ∷ []) [] own in
    absurd (cc (ap length same))

-- both answer for one number
pub held_twice : IsCounted pair_author (table_of 3 (seat_of 1 all_three (pair 1 6 ∷ pair 1 7 ∷ [])) seat_b) → ⊥
held_twice kept =
    let a = seat_of 1 all_three (pair 1 6 ∷ pair 1 7 ∷ []) in
    let same : 0 ≡ 1 = sym ((kept.fits 0 a refl).number 1 refl) ∙ (kept.fits 1 seat_b refl).number 1 refl in
    absurd (cc same)

-- a seat that may count beside the pen
pub two_may_count : IsCounted pair_author (table_of 3 (pen all_three) seat_b) → ⊥
two_may_count kept =
    let same : 0 ≡ 2 = ((kept.fits 0 (pen all_three) refl).right refl).0 ∙ sym ((kept.fits 2 (pen all_three) refl).right refl).0 in
    absurd (cc same)
