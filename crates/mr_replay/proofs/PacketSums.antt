-- A legal history has no more packets than its limits give to all lanes.
use Rattle.std.proofs.Common.{◌≡◌, ℕ, zero, suc, ◌+◌, ◌≤◌, ◌==◌, Bool, true, false, List, [], ◌∷◌, ◌++◌, length, take, slice_index, refl, ap, ◌∙◌, subst, sym, arith, eq-eqb, eqb-true, eq-or-lt_of_le, inl, inr, sum}
use Rattle.std.proofs.lemmas.List.Sums.{sum_by_more, sum_by_push, sum_by-take-le}
use Rattle.std.specs.Prelude.{if◌then◌else◌, sum_by}
use Rattle.mr_base.specs.declared.numbers.LaneNo.{LaneNo}
use Rattle.mr_model.proofs.Induction.{legal_induction}
use Rattle.mr_model.proofs.PushingLists.{packets_push}
use Rattle.mr_model.specs.Legal.{Agrees, IsLegal, packets_given}
use Rattle.mr_model.specs.Past.{is_of_lane, packets_in, packets}
use Rattle.mr_model.specs.declared.entry.Entry.{Entry}
use Rattle.mr_model.specs.declared.entry.Entry.TheVariants.{Call, Slow, Settle, Tick, Recv, EndPhase}
use Rattle.mr_model.specs.declared.limits.Limits.{Limits}

-- the packets of the first n lanes in a history, and in an entry
abbrev lane_of : ℕ → LaneNo
lane_of n = record { 0 = n }

abbrev lanes_sum : ℕ → List Entry → ℕ
lanes_sum zero g = 0
lanes_sum (suc n) g = lanes_sum n g + packets (lane_of (suc n)) g

abbrev adds : LaneNo → Entry → ℕ
adds lane e = if is_of_lane lane e then packets_in e else 0

abbrev adds_sum : ℕ → Entry → ℕ
adds_sum zero e = 0
adds_sum (suc n) e = adds_sum n e + adds (lane_of (suc n)) e

sum_push : (n : ℕ) (g : List Entry) (e : Entry) → lanes_sum n (g ++ e ∷ []) ≡ lanes_sum n g + adds_sum n e
sum_push zero g e = refl
sum_push (suc n) g e = omega (arith, sum_push n g e, packets_push (lane_of (suc n)) g e)

-- an entry of a lane adds its packets
all_adds : (n : ℕ) (l : LaneNo) (e : Entry) → ((lane : LaneNo) → is_of_lane lane e ≡ (l.0 == lane.0)) → 1 ≤ l.0 → l.0 ≤ n → packets_in e ≤ adds_sum n e
all_adds zero l e own least most = absurd (omega (arith, least, most))
all_adds (suc n) l e own least most =
    elim (eq-or-lt_of_le most) [
      | inl same ↦
          let mine : adds (lane_of (suc n)) e ≡ packets_in e = ap (λ (b : Bool). if b then packets_in e else 0) (own (lane_of (suc n)) ∙ eq-eqb l.0 (suc n) same) in
          omega (arith, mine)
      | inr below ↦ let more = all_adds n l e own least (omega (arith, below)) in omega (arith, more)
    ]

record Fitting (limits : Limits) (g : List Entry) : Type 0 where
  lane_room : (lane : LaneNo) → packets lane g ≤ packets_given limits lane
  total : sum_by packets_in g ≤ lanes_sum (length limits.packets) g

lane_more : (limits : Limits) (g : List Entry) (l lane : LaneNo) (n : ℕ) (b : Bool) → (l.0 == lane.0) ≡ b → packets l g + n ≤ packets_given limits l
    → packets lane g ≤ packets_given limits lane → packets lane g + (if b then n else 0) ≤ packets_given limits lane
lane_more limits g l lane n true e fits before =
    let same : l.0 ≡ lane.0 = eqb-true l.0 lane.0 e in
    let is : l ≡ lane = (λ i. record { 0 = same i }) in
    let there : packets l g ≡ packets lane g = ap (λ (x : LaneNo). packets x g) is in
    let given : packets_given limits l ≡ packets_given limits lane = ap (packets_given limits) is in
    omega (arith, fits, there, given)
lane_more limits g l lane n false e fits before = omega (arith, before)

lane_step : (limits : Limits) (g : List Entry) (l : LaneNo) (e : Entry) → Fitting limits g → ((lane : LaneNo) → is_of_lane lane e ≡ (l.0 == lane.0)) → 1 ≤ l.0 → l.0 ≤ length limits.packets
    → packets l g + packets_in e ≤ packets_given limits l → Fitting limits (g ++ e ∷ [])
lane_step limits g l e f own least most fits = record {
  lane_room = λ lane.
      let added : packets lane (g ++ e ∷ []) ≡ packets lane g + (if l.0 == lane.0 then packets_in e else 0) =
      packets_push lane g e ∙ ap (λ (b : Bool). packets lane g + (if b then packets_in e else 0)) (own lane) in
      let more = lane_more limits g l lane (packets_in e) (l.0 == lane.0) refl fits (f.lane_room lane) in
      omega (arith, added, more);
  total = omega (arith, f.total, sum_by_push packets_in g e, sum_push (length limits.packets) g e, all_adds (length limits.packets) l e own least most);
}

-- an entry of no lane
other_step : (limits : Limits) (g : List Entry) (e : Entry) → Fitting limits g → ((lane : LaneNo) → is_of_lane lane e ≡ false) → packets_in e ≡ 0 → Fitting limits (g ++ e ∷ [])
other_step limits g e f none no_packets = record {
  lane_room = λ lane.
      let added : packets lane (g ++ e ∷ []) ≡ packets lane g + 0 = packets_push lane g e ∙ ap (λ (b : Bool). packets lane g + (if b then packets_in e else 0)) (none lane) in
      omega (arith, added, f.lane_room lane);
  total = omega (arith, f.total, sum_by_push packets_in g e, sum_push (length limits.packets) g e, no_packets);
}

step : (limits : Limits) (g : List Entry) (e : Entry) → Agrees limits g e → Fitting limits g → Fitting limits (g ++ e ∷ [])
step limits g (Call d r reply released) a f = other_step limits g (Call d r reply released) f (λ lane. refl) refl
step limits g (Tick d ms) a f = other_step limits g (Tick d ms) f (λ lane. refl) refl
step limits g (Recv d message) a f = other_step limits g (Recv d message) f (λ lane. refl) refl
step limits g EndPhase a f = other_step limits g EndPhase f (λ lane. refl) refl
step limits g (Slow l index look flow o) a f = lane_step limits g l (Slow l index look flow o) f (λ lane. refl) a.lane_is.first a.lane_is.last (omega (arith, a.room))
step limits g (Settle l records) a f = lane_step limits g l (Settle l records) f (λ lane. refl) a.lane_is.first a.lane_is.last a.room

sum_within : (limits : Limits) (g : List Entry) (n : ℕ) → n ≤ length limits.packets → ((lane : LaneNo) → packets lane g ≤ packets_given limits lane) → lanes_sum n g ≤ sum (take n limits.packets)
sum_within limits g zero within fits = omega arith
sum_within limits g (suc n) within fits =
    let before = sum_within limits g n (omega (arith, within)) fits in
    let one : packets (lane_of (suc n)) g ≤ slice_index limits.packets n = subst (λ (i : ℕ). packets (lane_of (suc n)) g ≤ slice_index limits.packets i) (omega arith) (fits (lane_of (suc n))) in
    let more : sum (take (n + 1) limits.packets) ≡ sum (take n limits.packets) + slice_index limits.packets n = sum_by_more (λ x. x) limits.packets n 0 (omega (arith, within)) in
    let place : n + 1 ≡ suc n = omega arith in
    let all : sum (take (suc n) limits.packets) ≡ sum (take n limits.packets) + slice_index limits.packets n = ap (λ (i : ℕ). sum (take i limits.packets)) (sym place) ∙ more in
    omega (arith, before, one, all)

pub packets_within : (limits : Limits) (h : List Entry) → IsLegal limits h → sum_by packets_in h ≤ sum limits.packets
packets_within limits h legal =
    let none : Fitting limits [] = record { lane_room = λ lane. omega arith; total = omega arith } in
    let f : Fitting limits h = legal_induction limits (Fitting limits) none (λ g e before a p. step limits g e a p) h legal in
    let lanes : lanes_sum (length limits.packets) h ≤ sum (take (length limits.packets) limits.packets) = sum_within limits h (length limits.packets) (omega arith) f.lane_room in
    let all : sum (take (length limits.packets) limits.packets) ≤ sum limits.packets = sum_by-take-le (λ x. x) limits.packets (length limits.packets) in
    omega (arith, f.total, lanes, all)
