-- One step of the way over places.
use Rattle.std.proofs.Common.{◌≡◌, ◌∙◌, sym, ap, ℕ, zero, suc, ◌-◌, ◌<◌, ◌≤◌, Some, None, Bool, true, false, ◌&&◌, List, length, take, find, get_or, slice_get, slice_index_or, inl, inr, arith}
use Rattle.std.proofs.lemmas.Bool.{cases_lt}
use Rattle.std.proofs.lemmas.Option.{slice_get-get_or, get_or_from_slice_get}
use Rattle.std.proofs.Math.Seq.{take-length}
use Rattle.mr_base.specs.declared.numbers.Addr.{Addr}
use Rattle.mr_base.specs.declared.route.Route.{Route}
use Rattle.mr_model.specs.RouteList.{is_entry}
use Rattle.mr_plain_lists.specs.declared.slots.Slot.{Slot}
use Rattle.mr_plain_lists.specs.Indexed.{newest_first, Leads, AreLinked}
use Rattle.mr_plain_lists.proofs.Walking.{leads_on, skips, walk_on, walk_ends}

pub true_false : true ≡ false → ⊥
true_false same = cc

pub at_place : (slots : List Slot) (i : ℕ) (d : Slot) → i < length slots → slice_get slots i ≡ Some (slice_index_or slots i d)
at_place slots i d within = slice_get-get_or slots i d within

pub smaller : (slots : List Slot) (n : ℕ) (d : Slot) → AreLinked slots → 0 < n → n ≤ length slots → (slice_index_or slots (n - 1) d).older ≤ n - 1
smaller slots n d linked some fits = (linked (n - 1) (slice_index_or slots (n - 1) d) (at_place slots (n - 1) d (omega arith))).within

pub below : (m n : ℕ) → 0 < n → m ≤ n - 1 → m < n
below m n some less = omega (arith, some, less)

pub fits : (m n k : ℕ) → n ≤ k → m ≤ n - 1 → m ≤ k
fits m n k within less = omega (arith, within, less)

-- all places are gone over
pub from_start : (slots : List Slot) (n : ℕ) (src dst : Addr) (t : Route → Bool) → Leads slots n (length slots) src dst
    → find (λ r. is_entry src dst r && t r) (newest_first (take n slots)) ≡ find (λ r. is_entry src dst r && t r) (newest_first slots)
from_start slots n src dst t leads =
    sym (skips slots n (length slots) src dst t leads (omega arith))
    ∙ ap (λ (xs : List Slot). find (λ r. is_entry src dst r && t r) (newest_first xs)) (take-length slots)

abbrev pub AreOf : List Slot → ℕ → Addr → Addr → Type 0
AreOf slots n src dst = (j : ℕ) (x : Slot) → n ≡ suc j → slice_get slots j ≡ Some x → is_entry src dst x.route ≡ true

of_last : (slots : List Slot) (n : ℕ) (d : Slot) (src dst : Addr) → 0 < n → n ≤ length slots → AreOf slots n src dst
    → is_entry src dst (slice_index_or slots (n - 1) d).route ≡ true
of_last slots n d src dst some fits of = of (n - 1) (slice_index_or slots (n - 1) d) (omega arith) (at_place slots (n - 1) d (omega arith))

pub on_older : (slots : List Slot) (n : ℕ) (d : Slot) (src dst : Addr) → AreLinked slots → 0 < n → n ≤ length slots → AreOf slots n src dst
    → AreOf slots (slice_index_or slots (n - 1) d).older src dst
on_older slots n d src dst linked some fits of =
    (leads_on slots (n - 1) (slice_index_or slots (n - 1) d) src dst linked (at_place slots (n - 1) d (omega arith)) (of_last slots n d src dst some fits of)).last

pub on_found : (slots : List Slot) (n : ℕ) (d : Slot) (src dst : Addr) (t : Route → Bool) → AreLinked slots → 0 < n → n ≤ length slots → AreOf slots n src dst
    → ((slice_index_or slots (n - 1) d).live ≡ true → t (slice_index_or slots (n - 1) d).route ≡ false)
    → find (λ r. is_entry src dst r && t r) (newest_first (take n slots)) ≡ find (λ r. is_entry src dst r && t r) (newest_first slots)
    → find (λ r. is_entry src dst r && t r) (newest_first (take (slice_index_or slots (n - 1) d).older slots)) ≡ find (λ r. is_entry src dst r && t r) (newest_first slots)
on_found slots n d src dst t linked some fits of fails same =
    sym (walk_on slots n (slice_index_or slots (n - 1) d) src dst t linked some fits (at_place slots (n - 1) d (omega arith)) (of_last slots n d src dst some fits of) fails) ∙ same

pub on_end : (slots : List Slot) (n : ℕ) (d : Slot) (src dst : Addr) (t : Route → Bool) → 0 < n → n ≤ length slots → AreOf slots n src dst
    → (slice_index_or slots (n - 1) d).live ≡ true → true ≡ t (slice_index_or slots (n - 1) d).route
    → find (λ r. is_entry src dst r && t r) (newest_first (take n slots)) ≡ find (λ r. is_entry src dst r && t r) (newest_first slots)
    → Some (slice_index_or slots (n - 1) d).route ≡ find (λ r. is_entry src dst r && t r) (newest_first slots)
on_end slots n d src dst t some fits of live passes same =
    sym (walk_ends slots n (slice_index_or slots (n - 1) d) src dst t some (at_place slots (n - 1) d (omega arith)) (of_last slots n d src dst some fits of) live (sym passes)) ∙ same

-- past an entry that is gone
pub past : (slots : List Slot) (n : ℕ) (d : Slot) (src dst : Addr) → AreLinked slots → 0 < n → n ≤ length slots → (slice_index_or slots (n - 1) d).live ≡ false
    → Leads slots n (length slots) src dst → Leads slots (slice_index_or slots (n - 1) d).older (length slots) src dst
past slots n d src dst linked some fits gone leads =
    let x : Slot = slice_index_or slots (n - 1) d in
    let at : slice_get slots (n - 1) ≡ Some x = at_place slots (n - 1) d (omega arith) in
    let on : Leads slots x.older (n - 1) src dst = leads_on slots (n - 1) x src dst linked at (of_last slots n d src dst some fits leads.last) in
    record {
      within = omega (arith, on.within);
      last = on.last;
      none = λ j y low high there live. elim (cases_lt j (n - 1)) [
        | inl below ↦ on.none j y low below there live
        | inr above ↦ elim (cases_lt (n - 1) j) [
          | inl over ↦ leads.none j y (omega arith) high there live
          | inr here ↦ absurd (is_gone j y (omega arith) there live)
        ]
      ];
    }
  where
    is_gone : (j : ℕ) (y : Slot) → j ≡ n - 1 → slice_get slots j ≡ Some y → y.live ≡ true → ⊥
    is_gone j y here there live =
        let same : get_or slots j d ≡ y = get_or_from_slice_get slots j y d there in
        true_false (sym live ∙ ap (λ (z : Slot). z.live) (sym same) ∙ (ap (λ (i : ℕ). (get_or slots i d).live) here ∙ gone))

-- nothing is in front
pub nothing : (slots : List Slot) (n : ℕ) (p : Route → Bool) → n ≤ 0 → find p (newest_first (take n slots)) ≡ find p (newest_first slots)
    → None ≡ find p (newest_first slots)
nothing slots zero p over same = same
nothing slots (suc n) p over same = absurd (omega (arith, over))
