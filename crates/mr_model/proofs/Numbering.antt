-- The numbers of entries fall, so that a number names one entry.
use Rattle.std.proofs.Common.{◌≡◌, ℕ, ◌+◌, ◌<◌, ◌≤◌, ◌==◌, Bool, true, false, if◌then◌else◌, List, [], ◌∷◌, Some, find, filter, refl, sym, ap, ◌∙◌, arith, inl, inr, ne_eqb, eq-eqb}
use Rattle.std.proofs.lemmas.Bool.{cases_Bool}
use Rattle.mr_base.specs.declared.route.Route.{Route}
use Rattle.mr_model.specs.declared.change.What.{What}
use Rattle.mr_model.specs.declared.change.What.TheVariants.{NewRoute, OldRoute, DropRoute, Flush}
use Rattle.mr_model.specs.Numbers.{NumbersFall}
use Rattle.mr_model.specs.RouteList.{has_number, changed_to, change_first, remove_first}
use Rattle.mr_model.specs.Tables.{routes_after}

pub fall_below : (m n : ℕ) (rs : List Route) → m ≤ n → NumbersFall m rs → NumbersFall n rs
fall_below m n [] w f = tt
fall_below m n (r ∷ rs) w f = (omega (arith, w, f.0), f.1)

pub fall_filter : (test : Route → Bool) (n : ℕ) (rs : List Route) → NumbersFall n rs → NumbersFall n (filter test rs)
fall_filter test n [] f = tt
fall_filter test n (r ∷ rs) f =
    let more = fall_filter test r.number rs f.1 in
    elim (test r) as (λ b. NumbersFall n (if b then r ∷ filter test rs else filter test rs)) [
      | true ↦ (f.0, more)
      | false ↦ fall_below r.number n (filter test rs) (omega (arith, f.0)) more
    ]

pub fall_change : (test : Route → Bool) (parent : ℕ) (ttls : List ℕ) (fixed : Bool) (n : ℕ) (rs : List Route) → NumbersFall n rs → NumbersFall n (change_first test (changed_to parent ttls fixed) rs)
fall_change test parent ttls fixed n [] f = tt
fall_change test parent ttls fixed n (r ∷ rs) f =
    let more = fall_change test parent ttls fixed r.number rs f.1 in
    let change = changed_to parent ttls fixed in
    elim (test r) as (λ b. NumbersFall n (if b then change r ∷ rs else r ∷ change_first test change rs)) [
      | true ↦ f
      | false ↦ (f.0, more)
    ]

pub fall_remove : (test : Route → Bool) (n : ℕ) (rs : List Route) → NumbersFall n rs → NumbersFall n (remove_first test rs)
fall_remove test n [] f = tt
fall_remove test n (r ∷ rs) f =
    let more = fall_remove test r.number rs f.1 in
    elim (test r) as (λ b. NumbersFall n (if b then rs else r ∷ remove_first test rs)) [
      | true ↦ fall_below r.number n rs (omega (arith, f.0)) f.1
      | false ↦ (f.0, more)
    ]

-- a change with a number above all keeps them falling
pub fall_after : (n : ℕ) (rs : List Route) (w : What) → NumbersFall n rs → NumbersFall (n + 1) (routes_after rs n w)
fall_after n rs (NewRoute src dst parent ttls fixed) f = (omega arith, f)
fall_after n rs (OldRoute target parent ttls fixed) f =
    fall_below n (n + 1) _ (omega arith) (fall_change (has_number target) parent ttls fixed n rs f)
fall_after n rs (DropRoute target) f = fall_below n (n + 1) _ (omega arith) (fall_remove (has_number target) n rs f)
fall_after n rs (Flush bits) f = fall_below n (n + 1) _ (omega arith) (fall_filter _ n rs f)
fall_after n rs w f = fall_below n (n + 1) rs (omega arith) f

-- an entry that is found has a number below all that stand before
pub found_below : (test : Route → Bool) (n : ℕ) (rs : List Route) (r : Route) → NumbersFall n rs → find test rs ≡ Some r → r.number < n
found_below test n [] r f p = cc p
found_below test n (x ∷ rs) r f p = elim (cases_Bool (test x)) [
  | inl met ↦
      let is : Some x ≡ Some r = ap (λ (b : Bool). if b then Some x else find test rs) (sym met) ∙ p in
      let same : x.number ≡ r.number = cc is in
      omega (arith, f.0, same)
  | inr other ↦
      let is : find test rs ≡ Some r = ap (λ (b : Bool). if b then Some x else find test rs) (sym other) ∙ p in
      let below = found_below test x.number rs r f.1 is in
      omega (arith, f.0, below)
]

-- The first entry that passes a test is changed, or removed, by its number.
pub change_by_number : (test : Route → Bool) (change by : Route → Route) (n : ℕ) (rs : List Route) (r : Route) → NumbersFall n rs → find test rs ≡ Some r → change r ≡ by r → change_first test change rs ≡ change_first (has_number r.number) by rs
change_by_number test change by n [] r f p same = refl
change_by_number test change by n (x ∷ rs) r f p same = elim (cases_Bool (test x)) [
  | inl met ↦
      let is : Some x ≡ Some r = ap (λ (b : Bool). if b then Some x else find test rs) (sym met) ∙ p in
      let it : x ≡ r = cc is in
      let number : (x.number == r.number) ≡ true = eq-eqb x.number r.number (ap (λ (y : Route). y.number) it) in
      let changed : change x ≡ by x = cc (it, same) in
      rw (met, number, changed) refl
  | inr other ↦
      let is : find test rs ≡ Some r = ap (λ (b : Bool). if b then Some x else find test rs) (sym other) ∙ p in
      let below = found_below test x.number rs r f.1 is in
      let number : (x.number == r.number) ≡ false = ne_eqb x.number r.number (λ e. omega (arith, e, below)) in
      let more = change_by_number test change by x.number rs r f.1 is same in
      rw (other, number, more) refl
]

pub remove_by_number : (test : Route → Bool) (n : ℕ) (rs : List Route) (r : Route) → NumbersFall n rs → find test rs ≡ Some r → remove_first test rs ≡ remove_first (has_number r.number) rs
remove_by_number test n [] r f p = refl
remove_by_number test n (x ∷ rs) r f p = elim (cases_Bool (test x)) [
  | inl met ↦
      let is : Some x ≡ Some r = ap (λ (b : Bool). if b then Some x else find test rs) (sym met) ∙ p in
      let it : x ≡ r = cc is in
      let number : (x.number == r.number) ≡ true = eq-eqb x.number r.number (ap (λ (y : Route). y.number) it) in
      rw (met, number) refl
  | inr other ↦
      let is : find test rs ≡ Some r = ap (λ (b : Bool). if b then Some x else find test rs) (sym other) ∙ p in
      let below = found_below test x.number rs r f.1 is in
      let number : (x.number == r.number) ≡ false = ne_eqb x.number r.number (λ e. omega (arith, e, below)) in
      let more = remove_by_number test x.number rs r f.1 is in
      rw (other, number, more) refl
]
