-- What a search by index finds among a lane's places.
use Rattle.std.proofs.Common.{◌≡◌, ℕ, zero, suc, ◌<◌, ◌≤◌, ◌≢◌, [], ◌∷◌, ◌++◌, List, length, get_or, Some, None, Result, Ok, Err, IfOk, IfErr, refl, sym, ap, inl, inr, arith}
use Rattle.std.specs.List.{AllByRecursion}
use Rattle.std.specs.List.Sorted.{IsSearchInRange, IsBinarySearchResult, IsNonDecreasingBy}
use Rattle.std.specs.Ordering.{nat_cmp, ordering_index}
use Rattle.std.proofs.lemmas.Bool.{eq-eqb, ne_eqb, cases_lt}
use Rattle.std.proofs.lemmas.Cmp.{ranked}
use Rattle.std.proofs.lemmas.List.Sorted.{IsNonDecreasingBy-from_default}
use Rattle.std.proofs.lemmas.Bool.Decides.{nat_tests}
use Rattle.std.proofs.lemmas.Grind.{common_steps}
use Rattle.mr_fates.specs.declared.lane.Place.{Place}
use Rattle.mr_fates.specs.Lanes.{no_place, index_at, IsRising, line_in}

-- the first place with the index is found
pub found_at : (l : List Place) (k i : ℕ) → i < length l → index_at l i ≡ k
    → ((j : ℕ) → j < i → index_at l j ≢ k) → line_in l k ≡ Some (get_or l i no_place).line
found_at [] k i within has other = absurd (omega (arith, within))
found_at (p ∷ l) k zero within has other = rw (eq-eqb p.index k has) refl
found_at (p ∷ l) k (suc i) within has other =
    rw (ne_eqb p.index k (other 0 (omega arith))) (found_at l k i (omega (arith, within)) has (λ j lt. other (suc j) (omega (arith, lt))))

pub found_nowhere : (l : List Place) (k : ℕ) → ((j : ℕ) → j < length l → index_at l j ≢ k)
    → line_in l k ≡ None
found_nowhere [] k other = refl
found_nowhere (p ∷ l) k other =
    rw (ne_eqb p.index k (other 0 (omega arith))) (found_nowhere l k (λ j lt. other (suc j) (omega (arith, lt))))

module _ (l : List Place) (rising : IsRising l) (k : ℕ) where
  comparisons_rise : IsNonDecreasingBy (λ p. ordering_index (nat_cmp p.index k)) l
  comparisons_rise = IsNonDecreasingBy-from_default (λ p. ordering_index (nat_cmp p.index k)) l no_place (λ i j le in_range.
      let indexes_rise : index_at l i ≤ index_at l j = grind (arith, rising i j, λ (same : i ≡ j). ap (index_at l) same) in
      grind (arith, nat_tests))

  -- a binary search ends at the index, which none before it has, or where no place has it
  pub searched : (r : Result ℕ ℕ) → IsSearchInRange r (length l) → IsBinarySearchResult (λ p. nat_cmp p.index k) l r → record { found : IfOk r (λ at. line_in l k ≡ Some (get_or l at no_place).line); absent : IfErr r (λ at. line_in l k ≡ None) }
  searched (Ok at) in_range equal =
      let has : index_at l at ≡ k = ranked _ k _ (sym (equal no_place)) in
      record { found = found_at l k at in_range has (λ j lt same. omega (arith, rising j at lt in_range, has, same)); absent = tt }
  searched (Err at) in_range parted = record {
    found = tt;
    absent = found_nowhere l k (λ j lt same. elim (cases_lt j at) [
      | inl before ↦
          let smaller : index_at l j < k = ranked _ k _ (sym ((parted comparisons_rise).0 j no_place (omega arith) before)) in
          omega (arith, smaller, same)
      | inr behind ↦
          let greater : k < index_at l j = ranked _ k _ (sym ((parted comparisons_rise).1 j no_place behind lt)) in
          omega (arith, greater, same)
    ]);
  }

-- the indexes of a list rise, also without its first place
pub rising_tail : (p : Place) (l : List Place) → IsRising (p ∷ l) → IsRising l
rising_tail p l rising i j lt within = rising (suc i) (suc j) (omega (arith, lt)) (omega (arith, within))

-- what is above at each place is above in all
pub all_above : (m : ℕ) (l : List Place) → ((j : ℕ) → j < length l → m < index_at l j)
    → AllByRecursion (λ q. m < q.index) l
all_above m [] above = tt
all_above m (p ∷ l) above = (above 0 (omega arith), all_above m l (λ j lt. above (suc j) (omega (arith, lt))))

pub head_below : (p : Place) (l : List Place) → IsRising (p ∷ l)
    → AllByRecursion (λ q. p.index < q.index) l
head_below p l rising = all_above p.index l (λ j lt. rising 0 (suc j) (omega arith) (omega (arith, lt)))

pub above_none : (m : ℕ) (l : List Place) → AllByRecursion (λ q. m < q.index) l → line_in l m ≡ None
above_none m [] above = refl
above_none m (p ∷ l) above = rw (ne_eqb p.index m (λ same. omega (arith, above.0, same))) (above_none m l above.1)

-- a place above all others goes last
pub below_at : (m : ℕ) (l : List Place) (i : ℕ) → AllByRecursion (λ q. q.index < m) l
    → i < length l → index_at l i < m
below_at m [] i below within = absurd (omega (arith, within))
below_at m (p ∷ l) zero below within = below.0
below_at m (p ∷ l) (suc i) below within = below_at m l i below.1 (omega (arith, within))

pub rising_push : (l : List Place) (p : Place) → AllByRecursion (λ q. q.index < p.index) l
    → IsRising l → IsRising (l ++ p ∷ [])
rising_push l p below rising i j lt within = grind (arith, common_steps, rising i j, below_at p.index l i below)
