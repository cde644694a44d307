-- What pushing and popping does to a ring.
use Rattle.std.proofs.Common.{◌≡◌, ℕ, ◌+◌, ◌-◌, ◌%◌, ◌<◌, ◌≤◌, List, [], ◌∷◌, ◌++◌, length, get_or, set, slice_get, Option, Some, None, refl, sym, ap, ◌∙◌, inl, inr, mod-eq_of_lt, ◌↔◌, IsNone, IfSome, IfNone, arith, length-append, length-set}
use native.Mathlib.Nat.{mod-eq-sub-mod}
use Rattle.std.proofs.lemmas.Option.{slice_get_past}
use Rattle.circular_buffer.specs.Places.{Wraps, somes, filled}
use Rattle.circular_buffer.proofs.Places.{Holds, Holds-from_laid, Holds-written, laid-from_Holds, somes-filled, slice_get-last, slice_get-push, slice_get-tail, below_or_not, cut_front}
use Rattle.mr_upcall.specs.Rings.{in_ring, IsRing}

-- a step round the end of n slots
wraps : (start i n : ℕ) → start < n → i ≤ n → Wraps start i n ((start + i) % n)
wraps start i n s le = elim (below_or_not (start + i) n) [
  | inl low ↦ let e = mod-eq_of_lt low in (omega arith, inl e)
  | inr high ↦
      let e : (start + i) % n ≡ start + i - n = mod-eq-sub-mod high ∙ mod-eq_of_lt (omega arith) in
      (omega arith, inr (omega arith))
]

module _ {X : Type 0} where
  -- a ring is made by what each slot holds
  ring_of : (n oldest count : ℕ) (slots : List (Option X)) (xs : List X) → length slots ≡ n → oldest < n → count ≤ n
      → count ≡ length xs → Holds slots oldest n (slice_get xs)
      → IsRing n oldest count slots × (in_ring oldest slots ≡ xs)
  ring_of n oldest count slots xs places start fits counted h =
      let laid = laid-from_Holds slots oldest n xs places (omega arith) (λ _. start) (omega arith) h in
      let is : in_ring oldest slots ≡ xs = ap somes laid ∙ somes-filled xs n in (
        record {
          places = places;
          start = start;
          fits = fits;
          counted = counted ∙ sym (ap length is);
          laid = laid ∙ ap (λ l. filled l n) (sym is);
        },
        is,
      )

  holds : (n oldest count : ℕ) (slots : List (Option X)) → IsRing n oldest count slots
      → Holds slots oldest n (slice_get (in_ring oldest slots))
  holds n oldest count slots r =
      let start = r.start in
      Holds-from_laid slots oldest n (in_ring oldest slots) r.places (omega arith) r.laid

  -- slots that hold nothing
  pub empty_ring : (n : ℕ) (slots : List (Option X)) → 0 < n → length slots ≡ n
      → ((i : ℕ) → i < n → get_or slots i None ≡ None) → IsRing n 0 0 slots × (in_ring 0 slots ≡ [])
  empty_ring n slots some places each = ring_of n 0 0 slots [] places some (omega arith) refl (λ i p lt w. each p w.0)

  -- one more behind the others
  pub ring_after_push : (n oldest count : ℕ) (slots : List (Option X)) (x : X) → IsRing n oldest count slots → count < n
      → IsRing n oldest (count + 1) (set slots ((oldest + count) % n) (Some x))
      × (in_ring oldest (set slots ((oldest + count) % n) (Some x)) ≡ in_ring oldest slots ++ x ∷ [])
  ring_after_push n oldest count slots x r room =
      let xs = in_ring oldest slots in let ys = xs ++ x ∷ [] in
      let place = (oldest + count) % n in
      let counted = r.counted in let start = r.start in
      let written = Holds-written slots oldest n (slice_get xs) (slice_get ys) count place (Some x) 0 oldest r.places r.start room (inl (omega arith))
      (holds n oldest count slots r) (wraps oldest count n r.start (omega arith)) (r.start, inl (omega arith))
      (λ i j lt at below.
      let same : j ≡ i = elim at [ inl e ↦ omega arith | inr e ↦ omega arith ] in
      (λ e. slice_get-last xs x i (omega arith), λ ne. slice_get-push xs x i (λ e. ne (omega arith)) ∙ ap (slice_get xs) (sym same))) in
      ring_of n oldest (count + 1) (set slots place (Some x)) ys (length-set slots place (Some x) ∙ r.places) r.start (omega arith)
      (omega (arith, length-append xs (x ∷ []))) written

  -- The oldest is taken out of a ring that has one.
  pub ring_after_pop : (n oldest count : ℕ) (slots : List (Option X)) → IsRing n oldest count slots → 0 < count
      → (x : X) × (get_or slots oldest None ≡ Some x)
      × (IsRing n ((oldest + 1) % n) (count - 1) (set slots oldest None))
      × (in_ring oldest slots ≡ x ∷ in_ring ((oldest + 1) % n) (set slots oldest None))
  ring_after_pop n oldest count slots r some =
      let xs = in_ring oldest slots in
      let counted = r.counted in let start = r.start in let fits = r.fits in
      let cut = cut_front xs (omega arith) in
      let x = cut.0 in let ys = cut.1 in
      let more = ap length cut.2 in
      let next = (oldest + 1) % n in
      let first : Wraps oldest 0 n oldest = (r.start, inl (omega arith)) in
      let moved = wraps oldest 1 n r.start (omega arith) in
      let item = holds n oldest count slots r 0 oldest (omega arith) first ∙ ap (λ l. slice_get l 0) cut.2 in
      let written = Holds-written slots oldest n (slice_get xs) (slice_get ys) 0 oldest None 1 next r.places r.start (omega arith)
      (elim (below_or_not 1 n) [ inl f ↦ inl f | inr f ↦ inr (omega arith) ]) (holds n oldest count slots r) first moved
      (λ i j lt at below. (
        λ f. slice_get_past ys i (elim at [ inl k ↦ omega arith | inr k ↦ omega arith ]),
        λ ne. sym (ap (λ l. slice_get l j) cut.2 ∙ slice_get-tail x ys i j (elim at [ inl k ↦ omega arith | inr k ↦ absurd (ne (omega arith)) ])),
      )) in
      let made = ring_of n next (count - 1) (set slots oldest None) ys (length-set slots oldest None ∙ r.places) moved.0 (omega arith) (omega arith) written in
      (x, item, made.0, cut.2 ∙ ap (λ l. x ∷ l) (sym made.1))

-- What is taken where the oldest is there.
module _ {X : Type 0} (taken : Option X) (x : X) (old new : List X) (is : taken ≡ Some x) (split : old ≡ x ∷ new) where
  pub oldest_taken : IfSome taken (λ message. old ≡ message ∷ new)
  oldest_taken = rw is split

  pub some_taken : IsNone taken ↔ (old ≡ [])
  some_taken = (λ none. let e = rw is at none in cc, λ empty. let no : ⊥ = cc in absurd no)

  pub nothing_stays : IfNone taken (new ≡ old)
  nothing_stays = rw is tt
