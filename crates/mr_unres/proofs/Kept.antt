-- What an edit of the places keeps of the waiting list's fields.
use Rattle.std.proofs.Common.{◌≡◌, ℕ, suc, ◌+◌, ◌-◌, ◌*◌, ◌<◌, ◌≤◌, Some, None, List, [], ◌∷◌, ◌++◌, length, take, slice_set, sym, ap, ◌∙◌, arith, subst}
use Rattle.std.proofs.lemmas.List.{length-append, length-set}
use Rattle.mr_unres.specs.declared.unresolved.Unresolved.{Unresolved}
use Rattle.mr_unres.specs.declared.unresolved.TheConstants.{MOST_ENTRIES, MOST_PACKETS}
use Rattle.mr_unres.specs.Entries.{awaiting, NoneAfter}
use Rattle.mr_unres.specs.Slots.{SlotList, StandsFirst, somes, with_slots}
use Rattle.mr_unres.specs.Keeping.{IsKept, IsRising, AreFew}
use Rattle.mr_unres.proofs.Places.{Slot, entry_there}
use Rattle.mr_unres.proofs.Listed.{somes_append, somes_between, entry_between, somes_gap, somes_set, gone_gap, gone_set, gone_push, gaps_before, place_within}
use Rattle.mr_unres.proofs.Ordered.{all_split, all_put, all_push, rising_without, rising_with, rising_push}

-- an entry is taken out
pub kept_gap : (limit count oldest : ℕ) (slots : SlotList) (before : List Slot) (e : Unresolved) (after : List Slot) (i n : ℕ)
    → slots.items ≡ before ++ Some e ∷ after → length before ≡ i → n ≤ length slots.items → somes (take n slots.items) ≡ []
    → IsKept limit count oldest slots → IsKept limit (count - 1) n (with_slots slots (slice_set slots.items i None))
kept_gap limit count oldest slots before e after i n whole place fits gone kept =
    let old : somes slots.items ≡ somes before ++ e ∷ somes after = somes_between slots.items before e after whole in
    let new : somes (slice_set slots.items i None) ≡ somes before ++ somes after = somes_gap slots.items before e after i whole place in
    let rising : IsRising (somes before ++ e ∷ somes after) = subst (λ (es : List Unresolved). IsRising es) old kept.rising in
    let few : AreFew (somes before ++ e ∷ somes after) = subst (λ (es : List Unresolved). AreFew es) old kept.few in
    let was : length (somes slots.items) ≡ length (somes before) + suc (length (somes after)) = ap length old ∙ length-append (somes before) (e ∷ somes after) in
    let is : length (somes (slice_set slots.items i None)) ≡ length (somes before) + length (somes after) = ap length new ∙ length-append (somes before) (somes after) in
    record {
      counted = omega (arith, kept.counted);
      within = omega (arith, kept.within);
      bounded = kept.bounded;
      room = kept.room;
      inside = omega (arith, length-set slots.items i None);
      gone = gone_gap slots.items n i gone;
      rising = subst (λ (es : List Unresolved). IsRising es) (sym new) (rising_without (somes before) e (somes after) rising);
      few = subst (λ (es : List Unresolved). AreFew es) (sym new) (all_split (λ f. length f.packets ≤ MOST_PACKETS) (somes before) e (somes after) few).0;
    }

-- an entry gets another packet
pub kept_set : (limit count oldest : ℕ) (slots : SlotList) (before : List Slot) (e f : Unresolved) (after : List Slot) (i : ℕ)
    → slots.items ≡ before ++ Some e ∷ after → length before ≡ i → f.since ≡ e.since → length f.packets ≤ MOST_PACKETS
    → IsKept limit count oldest slots → IsKept limit count oldest (with_slots slots (slice_set slots.items i (Some f)))
kept_set limit count oldest slots before e f after i whole place same fits kept =
    let old : somes slots.items ≡ somes before ++ e ∷ somes after = somes_between slots.items before e after whole in
    let new : somes (slice_set slots.items i (Some f)) ≡ somes before ++ f ∷ somes after = somes_set slots.items before e f after i whole place in
    let rising : IsRising (somes before ++ e ∷ somes after) = subst (λ (es : List Unresolved). IsRising es) old kept.rising in
    let few : AreFew (somes before ++ e ∷ somes after) = subst (λ (es : List Unresolved). AreFew es) old kept.few in
    let was : length (somes slots.items) ≡ length (somes before) + suc (length (somes after)) = ap length old ∙ length-append (somes before) (e ∷ somes after) in
    let is : length (somes (slice_set slots.items i (Some f))) ≡ length (somes before) + suc (length (somes after)) =
    ap length new ∙ length-append (somes before) (f ∷ somes after) in
    record {
      counted = omega (arith, kept.counted);
      within = kept.within;
      bounded = kept.bounded;
      room = kept.room;
      inside = omega (arith, kept.inside, length-set slots.items i (Some f));
      gone = gone_set slots.items oldest i e f (entry_there slots.items i e (entry_between slots.items before e after i whole place)) kept.gone;
      rising = subst (λ (es : List Unresolved). IsRising es) (sym new) (rising_with (somes before) e f (somes after) same rising);
      few = subst (λ (es : List Unresolved). AreFew es) (sym new)
          (all_put (λ g. length g.packets ≤ MOST_PACKETS) (somes before) f (somes after)
          (all_split (λ g. length g.packets ≤ MOST_PACKETS) (somes before) e (somes after) few).0 fits);
    }

-- one more entry, made last
pub kept_push : (limit count oldest : ℕ) (slots : SlotList) (e : Unresolved) → count < limit → limit ≤ MOST_ENTRIES → 2 * limit ≤ slots.capacity
    → count ≡ length (somes slots.items) → oldest ≤ length slots.items → somes (take oldest slots.items) ≡ []
    → IsRising (somes slots.items) → AreFew (somes slots.items) → NoneAfter e.since (awaiting (somes slots.items)) → length e.packets ≤ MOST_PACKETS
    → IsKept limit (count + 1) oldest (with_slots slots (slots.items ++ Some e ∷ []))
kept_push limit count oldest slots e below bounded room counted inside gone rising few later fits =
    let new : somes (slots.items ++ Some e ∷ []) ≡ somes slots.items ++ e ∷ [] = somes_append slots.items (Some e ∷ []) in
    let is : length (somes (slots.items ++ Some e ∷ [])) ≡ length (somes slots.items) + 1 = ap length new ∙ length-append (somes slots.items) (e ∷ []) in
    record {
      counted = omega arith;
      within = omega arith;
      bounded = bounded;
      room = room;
      inside = omega (arith, length-append slots.items (Some e ∷ []));
      gone = gone_push slots.items oldest (Some e) inside gone;
      rising = subst (λ (es : List Unresolved). IsRising es) (sym new) (rising_push (somes slots.items) e later rising);
      few = subst (λ (es : List Unresolved). AreFew es) (sym new) (all_push (λ g. length g.packets ≤ MOST_PACKETS) (somes slots.items) e few fits);
    }

-- an entry that stands somewhere is counted
pub counted_there : (limit count oldest : ℕ) (slots : SlotList) (before : List Slot) (e : Unresolved) (after : List Slot)
    → slots.items ≡ before ++ Some e ∷ after → IsKept limit count oldest slots → 1 ≤ count
counted_there limit count oldest slots before e after whole kept =
    let was : length (somes slots.items) ≡ length (somes before) + suc (length (somes after)) =
    ap length (somes_between slots.items before e after whole) ∙ length-append (somes before) (e ∷ somes after) in
    omega (arith, kept.counted)

-- the oldest entry is taken out
pub kept_pop : (limit count oldest : ℕ) (old new : SlotList) (i : ℕ) (s : StandsFirst old.items i) → new ≡ with_slots old (slice_set old.items i None)
    → IsKept limit count oldest old → IsKept limit (count - 1) i new
kept_pop limit count oldest old new i s gap kept =
    let within : i < length old.items = place_within old.items s.before s.entry s.after i s.whole s.place in
    subst (λ (slots : SlotList). IsKept limit (count - 1) i slots) (sym gap)
    (kept_gap limit count oldest old s.before s.entry s.after i i s.whole s.place (omega arith) (gaps_before old.items i s) kept)
