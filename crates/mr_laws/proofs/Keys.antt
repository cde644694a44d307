-- The waiting records of a legal history have different keys.
use Rattle.std.proofs.Common.{◌≡◌, ℕ, ◌==◌, ◌&&◌, Bool, true, false, if◌then◌else◌, List, [], ◌∷◌, ◌++◌, filter, refl, sym, ◌∙◌, ◌⊎◌, inl, inr}
use Rattle.std.proofs.lemmas.Bool.{or_parts, or_from, cases_eq, eq-eqb, ne_eqb}
use Rattle.std.specs.List.{list_any}
use Rattle.mr_base.specs.declared.numbers.Addr.{Addr}
use Rattle.mr_model.specs.declared.entry.Entry.{Entry}
use Rattle.mr_model.specs.declared.limits.Limits.{Limits}
use Rattle.mr_model.specs.Legal.{IsLegal}
use Rattle.mr_model.specs.State.{state}
use Rattle.mr_model.specs.Waiting.{waiting}
use Rattle.mr_model.specs.WaitingList.{Waiter, Awaiting, is_awaiting, park}
use Rattle.mr_laws.specs.Shape.{KeysDiffer}
use Rattle.mr_laws.proofs.WaitingSteps.{waiting_induction}

-- what no element passes no element of a part passes
pub none_filtered : {X : Type 0} (test part : X → Bool) (xs : List X) → list_any test xs ≡ false → list_any test (filter part xs) ≡ false
none_filtered test part [] p = refl
none_filtered {X} test part (x ∷ xs) p =
    let parts = or_parts (test x) (list_any test xs) p in
    let more = none_filtered test part xs parts.1 in
    elim (part x) as (λ b. list_any test (if b then x ∷ filter part xs else filter part xs) ≡ false) [
      | true ↦ or_from (test x) (list_any test (filter part xs)) parts.0 more
      | false ↦ more
    ]

keys_filter : (test : Awaiting → Bool) (ws : List Awaiting) → KeysDiffer ws → KeysDiffer (filter test ws)
keys_filter test [] k = tt
keys_filter test (a ∷ ws) k =
    let more = keys_filter test ws k.1 in
    elim (test a) as (λ b. KeysDiffer (if b then a ∷ filter test ws else filter test ws)) [
      | true ↦ (none_filtered (is_awaiting a.src a.dst) test ws k.0, more)
      | false ↦ more
    ]

-- a key that differs from that of the packet is not made by parking it
none_parked : (src dst : Addr) (now : ℕ) (w : Waiter) (ws : List Awaiting) → (w.flow.src.0 == src.0 && w.flow.dst.0 == dst.0) ≡ false → list_any (is_awaiting src dst) ws ≡ false → list_any (is_awaiting src dst) (park ws now w) ≡ false
none_parked src dst now w [] other p = or_from (w.flow.src.0 == src.0 && w.flow.dst.0 == dst.0) false other refl
none_parked src dst now w (a ∷ ws) other p =
    let parts = or_parts (is_awaiting src dst a) (list_any (is_awaiting src dst) ws) p in
    let more = none_parked src dst now w ws other parts.1 in
    elim (is_awaiting w.flow.src w.flow.dst a) as (λ b. list_any (is_awaiting src dst) (if b then record a { packets = a.packets ++ w ∷ [] } ∷ ws else a ∷ park ws now w) ≡ false) [
      | true ↦ p
      | false ↦ or_from (is_awaiting src dst a) (list_any (is_awaiting src dst) (park ws now w)) parts.0 more
    ]

pub eqb_swap : (m n : ℕ) → (m == n) ≡ (n == m)
eqb_swap m n = by (cases_eq m n)
  where
    by : (m ≡ n) ⊎ (m ≡ n → ⊥) → (m == n) ≡ (n == m)
    by (inl same) = eq-eqb m n same ∙ sym (eq-eqb n m (sym same))
    by (inr other) = ne_eqb m n other ∙ sym (ne_eqb n m (λ p. other (sym p)))

keys_park : (now : ℕ) (w : Waiter) (ws : List Awaiting) → KeysDiffer ws → KeysDiffer (park ws now w)
keys_park now w [] k = (refl, tt)
keys_park now w (a ∷ ws) k = by (is_awaiting w.flow.src w.flow.dst a) refl (keys_park now w ws k.1)
  where
    by : (b : Bool) → is_awaiting w.flow.src w.flow.dst a ≡ b → KeysDiffer (park ws now w) → KeysDiffer (if b then record a { packets = a.packets ++ w ∷ [] } ∷ ws else a ∷ park ws now w)
    by true p more = k
    by false p more =
        let other : (w.flow.src.0 == a.src.0 && w.flow.dst.0 == a.dst.0) ≡ false =
        rw (eqb_swap w.flow.src.0 a.src.0, eqb_swap w.flow.dst.0 a.dst.0) p in
        (none_parked a.src a.dst now w ws other k.0, more)

pub keys_differ : (limits : Limits) (h : List Entry) → IsLegal limits h → KeysDiffer (waiting limits h)
keys_differ limits h l =
    waiting_induction limits KeysDiffer tt keys_filter
    (λ g legal lane index look flow a k. keys_park (state limits g).now (record { lane = lane; index = index; flow = flow }) (state limits g).waiting k) h l
