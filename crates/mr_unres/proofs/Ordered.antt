-- What an edit of the list of entries keeps: the order of their moments, and that no entry has more than four packets.
use Rattle.std.proofs.Common.{◌≡◌, ℕ, ◌+◌, ◌-◌, ◌*◌, ◌<◌, ◌≤◌, Bool, true, false, List, [], ◌∷◌, ◌++◌, length, filter, nat_lt, refl, sym, ap, ◌∙◌, arith, subst, slice_set, Option, None, Some}
use Rattle.std.specs.List.{AllByRecursion}
use Rattle.std.proofs.lemmas.Bool.{lt-ltb, ltb-true}
use Rattle.std.proofs.lemmas.List.Sums.{sum_by-cons}
use Rattle.mr_unres.specs.declared.unresolved.Unresolved.{Unresolved}
use Rattle.mr_unres.specs.Entries.{awaiting, is_young, NoneAfter, packet_count}
use Rattle.mr_unres.specs.Slots.{somes, StandsFirst, entry_in}
use Rattle.mr_unres.proofs.Places.{Slot}
use Rattle.mr_unres.proofs.Listed.{entry_first, somes_first, somes_rest}
use Rattle.std.proofs.lemmas.Option.{same_Some}
use Rattle.std.specs.Prelude.{IfSome}
use Rattle.mr_unres.specs.Keeping.{NoneBefore, IsRising, AreFew}

-- what all have, each part of the list has
pub all_split : (P : Unresolved → Type 0) (before : List Unresolved) (e : Unresolved) (after : List Unresolved) → AllByRecursion P (before ++ e ∷ after)
    → AllByRecursion P (before ++ after) × P e
all_split P [] e after all = (all.1, all.0)
all_split P (b ∷ before) e after all = let rest = all_split P before e after all.1 in ((all.0, rest.0), rest.1)

pub all_put : (P : Unresolved → Type 0) (before : List Unresolved) (e : Unresolved) (after : List Unresolved) → AllByRecursion P (before ++ after)
    → P e → AllByRecursion P (before ++ e ∷ after)
all_put P [] e after all one = (one, all)
all_put P (b ∷ before) e after all one = (all.0, all_put P before e after all.1 one)

pub all_push : (P : Unresolved → Type 0) (es : List Unresolved) (e : Unresolved) → AllByRecursion P es → P e → AllByRecursion P (es ++ e ∷ [])
all_push P [] e all one = (one, tt)
all_push P (f ∷ es) e all one = (all.0, all_push P es e all.1 one)

pub rising_without : (before : List Unresolved) (e : Unresolved) (after : List Unresolved) → IsRising (before ++ e ∷ after) → IsRising (before ++ after)
rising_without [] e after rising = rising.1
rising_without (b ∷ before) e after rising =
    ((all_split (λ f. b.since ≤ f.since) before e after rising.0).0, rising_without before e after rising.1)

-- an entry in the place of one that was made at the same moment
pub rising_with : (before : List Unresolved) (e f : Unresolved) (after : List Unresolved) → f.since ≡ e.since → IsRising (before ++ e ∷ after)
    → IsRising (before ++ f ∷ after)
rising_with [] e f after same rising = (subst (λ (n : ℕ). NoneBefore n after) (sym same) rising.0, rising.1)
rising_with (b ∷ before) e f after same rising =
    let rest = all_split (λ g. b.since ≤ g.since) before e after rising.0 in
    let one : b.since ≤ f.since = omega (arith, rest.1) in
    (all_put (λ g. b.since ≤ g.since) before f after rest.0 one, rising_with before e f after same rising.1)

pub rising_push : (es : List Unresolved) (e : Unresolved) → NoneAfter e.since (awaiting es) → IsRising es → IsRising (es ++ e ∷ [])
rising_push [] e none rising = (tt, tt)
rising_push (f ∷ es) e none rising = (all_push (λ g. f.since ≤ g.since) es e rising.0 none.0, rising_push es e none.1 rising.1)

-- where the oldest is young, all are
pub young_from : (now since : ℕ) (es : List Unresolved) → nat_lt (now - since) 10000 ≡ true → NoneBefore since es → filter (is_young now) es ≡ es
young_from now since [] young none = refl
young_from now since (e ∷ es) young none =
    let gap : now - since < 10000 = ltb-true (now - since) 10000 young in
    let one : is_young now e ≡ true = lt-ltb (now - e.since) 10000 (omega (arith, none.0)) in
    rw one (ap (λ (xs : List Unresolved). e ∷ xs) (young_from now since es young none.1))

pub count_few : (es : List Unresolved) → AreFew es → packet_count es ≤ 4 * length es
count_few [] few = omega arith
count_few (e ∷ es) few = omega (arith, sum_by-cons (λ (f : Unresolved). length f.packets) e es, few.0, count_few es few.1)

-- the oldest is young, so all are
pub young_all : (now : ℕ) (slots : List Slot) (i : ℕ) (young : Bool) → StandsFirst slots i
    → IfSome (entry_in slots i) (λ e. young ≡ is_young now e) → young ≡ true → IsRising (somes slots)
    → filter (is_young now) (somes slots) ≡ somes slots
young_all now slots i young s says so rising =
    let is : young ≡ is_young now s.entry = subst (λ (o : Option Unresolved). IfSome o (λ e. young ≡ is_young now e)) (entry_first slots i s) says in
    let here : is_young now s.entry ≡ true = sym is ∙ so in
    let order : IsRising (s.entry ∷ somes s.after) = subst (λ (es : List Unresolved). IsRising es) (somes_first slots i s) rising in
    let kept : filter (is_young now) (s.entry ∷ somes s.after) ≡ s.entry ∷ somes s.after =
    rw here (ap (λ (es : List Unresolved). s.entry ∷ es) (young_from now s.entry.since (somes s.after) here order.0)) in
    subst (λ (es : List Unresolved). filter (is_young now) es ≡ es) (sym (somes_first slots i s)) kept

-- the oldest, and the others once it is taken out
pub first_out : (slots after : List Slot) (i : ℕ) (e : Unresolved) → StandsFirst slots i → entry_in slots i ≡ Some e → after ≡ slice_set slots i None
    → somes slots ≡ e ∷ somes after
first_out slots after i e s at gap =
    let is : s.entry ≡ e = same_Some s.entry e (sym (entry_first slots i s) ∙ at) in
    let rest : somes s.after ≡ somes after = sym (somes_rest slots i s) ∙ ap somes (sym gap) in
    somes_first slots i s ∙ ap (λ (f : Unresolved). f ∷ somes s.after) is ∙ ap (λ (es : List Unresolved). e ∷ es) rest

-- the oldest is not young
pub oldest_expired : (now : ℕ) (slots : List Slot) (i : ℕ) (young : Bool) (e : Unresolved) → entry_in slots i ≡ Some e
    → IfSome (entry_in slots i) (λ f. young ≡ is_young now f) → young ≡ false → is_young now e ≡ false
oldest_expired now slots i young e at says so =
    sym (subst (λ (o : Option Unresolved). IfSome o (λ f. young ≡ is_young now f)) at says) ∙ so

-- the young ones are among those that stay
pub young_rest : (now : ℕ) (old new : List Unresolved) (e : Unresolved) → old ≡ e ∷ new → is_young now e ≡ false
    → filter (is_young now) new ≡ filter (is_young now) old
young_rest now old new e out so =
    let kept : filter (is_young now) (e ∷ new) ≡ filter (is_young now) new = rw so refl in
    sym (ap (λ (es : List Unresolved). filter (is_young now) es) out ∙ kept)

-- how many packets there are besides those of one
pub count_rest : (n : ℕ) (old new : List Unresolved) (e : Unresolved) → old ≡ e ∷ new → n ≡ length e.packets
    → n + packet_count new ≡ packet_count old
count_rest n old new e out long =
    let whole : packet_count old ≡ length e.packets + packet_count new =
    ap (λ (es : List Unresolved). packet_count es) out ∙ sum_by-cons (λ (f : Unresolved). length f.packets) e new in
    omega arith
