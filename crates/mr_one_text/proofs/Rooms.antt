-- A legal history has no more entries than its limits leave room for.
use Rattle.std.proofs.Common.{◌≡◌, ℕ, zero, suc, ◌+◌, ◌<◌, ◌≤◌, ◌==◌, Bool, true, false, List, [], ◌∷◌, ◌++◌, length, take, slice_index, refl, sym, ap, ◌∙◌, subst, arith, append_assoc, eq-eqb, eqb-true, eq-or-lt_of_le, inl, inr, sum, append-nil}
use Rattle.std.proofs.lemmas.List.{length-append}
use Rattle.std.proofs.lemmas.List.Sums.{sum_by_more, sum_by-take-le}
use Rattle.std.specs.Prelude.{if◌then◌else◌}
use Rattle.mr_base.specs.declared.numbers.LaneNo.{LaneNo}
use Rattle.mr_model.proofs.PushingLists.{controls_push, phases_push, packets_push}
use Rattle.mr_model.specs.Legal.{Agrees, LegalFrom, packets_given}
use Rattle.mr_model.specs.Past.{is_of_lane, packets_in, controls, phases, packets}
use Rattle.mr_model.specs.declared.entry.Entry.{Entry}
use Rattle.mr_model.specs.declared.entry.Entry.TheVariants.{Call, Slow, Settle, Tick, Recv, EndPhase}
use Rattle.mr_model.specs.declared.limits.Limits.{Limits}
use Rattle.mr_one_text.specs.Laws.{LegalHasRoom}
use Rattle.mr_one_text.specs.Room.{room}

-- the packets of the first n lanes in a history, and in an entry
abbrev lane_of : ℕ → LaneNo
lane_of n = record { 0 = n }

abbrev lanes_sum : ℕ → List Entry → ℕ
lanes_sum zero g = 0
lanes_sum (suc n) g = lanes_sum n g + packets (lane_of (suc n)) g

abbrev adds : LaneNo → Entry → ℕ
adds lane e = if is_of_lane lane e then packets_in e else 0

abbrev adds_sum : ℕ → Entry → ℕ
adds_sum zero e = 0
adds_sum (suc n) e = adds_sum n e + adds (lane_of (suc n)) e

sum_push : (n : ℕ) (g : List Entry) (e : Entry) → lanes_sum n (g ++ e ∷ []) ≡ lanes_sum n g + adds_sum n e
sum_push zero g e = refl
sum_push (suc n) g e = omega (arith, sum_push n g e, packets_push (lane_of (suc n)) g e)

-- an entry of a lane with a packet adds one at least
some_adds : (n : ℕ) (l : LaneNo) (e : Entry) → ((lane : LaneNo) → is_of_lane lane e ≡ (l.0 == lane.0)) → 1 ≤ packets_in e → 1 ≤ l.0 → l.0 ≤ n → 1 ≤ adds_sum n e
some_adds zero l e own some least most = absurd (omega (arith, least, most))
some_adds (suc n) l e own some least most =
    elim (eq-or-lt_of_le most) [
      | inl same ↦
          let mine : adds (lane_of (suc n)) e ≡ packets_in e = ap (λ (b : Bool). if b then packets_in e else 0) (own (lane_of (suc n)) ∙ eq-eqb l.0 (suc n) same) in
          omega (arith, mine, some)
      | inr below ↦ let more = some_adds n l e own some least (omega (arith, below)) in omega (arith, more)
    ]

record Counted (limits : Limits) (g : List Entry) : Type 0 where
  control_room : controls g ≤ limits.controls
  phase_room : phases g ≤ limits.phases
  lane_room : (lane : LaneNo) → packets lane g ≤ packets_given limits lane
  total : length g ≤ controls g + phases g + lanes_sum (length limits.packets) g

-- packets of a lane that had room for them
lane_more : (limits : Limits) (g : List Entry) (l lane : LaneNo) (n : ℕ) (b : Bool) → (l.0 == lane.0) ≡ b → packets l g + n ≤ packets_given limits l
    → packets lane g ≤ packets_given limits lane → packets lane g + (if b then n else 0) ≤ packets_given limits lane
lane_more limits g l lane n true e fits before =
    let same : l.0 ≡ lane.0 = eqb-true l.0 lane.0 e in
    let is : l ≡ lane = (λ i. record { 0 = same i }) in
    let there : packets l g ≡ packets lane g = ap (λ (x : LaneNo). packets x g) is in
    let given : packets_given limits l ≡ packets_given limits lane = ap (packets_given limits) is in
    omega (arith, fits, there, given)
lane_more limits g l lane n false e fits before = omega (arith, before)

lane_fits : (limits : Limits) (g : List Entry) (l : LaneNo) (e : Entry) → ((lane : LaneNo) → is_of_lane lane e ≡ (l.0 == lane.0)) → packets l g + packets_in e ≤ packets_given limits l
    → ((lane : LaneNo) → packets lane g ≤ packets_given limits lane) → (lane : LaneNo) → packets lane (g ++ e ∷ []) ≤ packets_given limits lane
lane_fits limits g l e own fits before lane =
    let added : packets lane (g ++ e ∷ []) ≡ packets lane g + (if l.0 == lane.0 then packets_in e else 0) =
    packets_push lane g e ∙ ap (λ (b : Bool). packets lane g + (if b then packets_in e else 0)) (own lane) in
    let more = lane_more limits g l lane (packets_in e) (l.0 == lane.0) refl fits (before lane) in
    omega (arith, added, more)

-- an entry of no lane
lane_kept : (limits : Limits) (g : List Entry) (e : Entry) → ((lane : LaneNo) → is_of_lane lane e ≡ false)
    → ((lane : LaneNo) → packets lane g ≤ packets_given limits lane) → (lane : LaneNo) → packets lane (g ++ e ∷ []) ≤ packets_given limits lane
lane_kept limits g e none before lane =
    let added : packets lane (g ++ e ∷ []) ≡ packets lane g + 0 = packets_push lane g e ∙ ap (λ (b : Bool). packets lane g + (if b then packets_in e else 0)) (none lane) in
    omega (arith, added, before lane)

-- One entry more is counted among the controls, the ends or the packets.
total_more : (n : ℕ) (g : List Entry) (e : Entry) (c p : ℕ) → controls (g ++ e ∷ []) ≡ controls g + c → phases (g ++ e ∷ []) ≡ phases g + p → 1 ≤ c + p + adds_sum n e
    → length g ≤ controls g + phases g + lanes_sum n g → length (g ++ e ∷ []) ≤ controls (g ++ e ∷ []) + phases (g ++ e ∷ []) + lanes_sum n (g ++ e ∷ [])
total_more n g e c p more_controls more_phases some before = omega (arith, length-append g (e ∷ []), more_controls, more_phases, sum_push n g e, some, before)

control_step : (limits : Limits) (g : List Entry) (e : Entry) → Counted limits g → controls g < limits.controls → controls (g ++ e ∷ []) ≡ controls g + 1 → phases (g ++ e ∷ []) ≡ phases g + 0
    → ((lane : LaneNo) → is_of_lane lane e ≡ false) → Counted limits (g ++ e ∷ [])
control_step limits g e c room more_controls more_phases none = record {
  control_room = omega (arith, more_controls, room);
  phase_room = omega (arith, more_phases, c.phase_room);
  lane_room = lane_kept limits g e none c.lane_room;
  total = total_more (length limits.packets) g e 1 0 more_controls more_phases (omega arith) c.total;
}

lane_step : (limits : Limits) (g : List Entry) (l : LaneNo) (e : Entry) → Counted limits g → ((lane : LaneNo) → is_of_lane lane e ≡ (l.0 == lane.0)) → 1 ≤ packets_in e → 1 ≤ l.0 → l.0 ≤ length limits.packets
    → packets l g + packets_in e ≤ packets_given limits l → controls (g ++ e ∷ []) ≡ controls g + 0 → phases (g ++ e ∷ []) ≡ phases g + 0 → Counted limits (g ++ e ∷ [])
lane_step limits g l e c own some least most fits more_controls more_phases = record {
  control_room = omega (arith, more_controls, c.control_room);
  phase_room = omega (arith, more_phases, c.phase_room);
  lane_room = lane_fits limits g l e own fits c.lane_room;
  total = total_more (length limits.packets) g e 0 0 more_controls more_phases (omega (arith, some_adds (length limits.packets) l e own some least most)) c.total;
}

counted_step : (limits : Limits) (g : List Entry) (e : Entry) → Counted limits g → Agrees limits g e → Counted limits (g ++ e ∷ [])
counted_step limits g (Call d r reply released) c a = control_step limits g (Call d r reply released) c a.control.room (controls_push g (Call d r reply released)) (phases_push g (Call d r reply released)) (λ lane. refl)
counted_step limits g (Tick d ms) c a = control_step limits g (Tick d ms) c a.room (controls_push g (Tick d ms)) (phases_push g (Tick d ms)) (λ lane. refl)
counted_step limits g (Recv d message) c a = control_step limits g (Recv d message) c a.control.room (controls_push g (Recv d message)) (phases_push g (Recv d message)) (λ lane. refl)
counted_step limits g (Slow l index look flow o) c a =
    lane_step limits g l (Slow l index look flow o) c (λ lane. refl) (omega arith) a.lane_is.first a.lane_is.last (omega (arith, a.room)) (controls_push g (Slow l index look flow o)) (phases_push g (Slow l index look flow o))
counted_step limits g (Settle l records) c a =
    lane_step limits g l (Settle l records) c (λ lane. refl) a.some a.lane_is.first a.lane_is.last a.room (controls_push g (Settle l records)) (phases_push g (Settle l records))
counted_step limits g EndPhase c a =
    let more_controls = controls_push g EndPhase in
    let more_phases = phases_push g EndPhase in
    record {
      control_room = omega (arith, more_controls, c.control_room);
      phase_room = omega (arith, more_phases, a);
      lane_room = lane_kept limits g EndPhase (λ lane. refl) c.lane_room;
      total = total_more (length limits.packets) g EndPhase 0 1 more_controls more_phases (omega arith) c.total;
    }

counted_all : (limits : Limits) (g h : List Entry) → Counted limits g → LegalFrom limits g h → Counted limits (g ++ h)
counted_all limits g [] c legal = subst (Counted limits) (sym (append-nil g)) c
counted_all limits g (e ∷ h) c legal = subst (Counted limits) (append_assoc g (e ∷ []) h) (counted_all limits (g ++ e ∷ []) h (counted_step limits g e c legal.0) legal.1)

sum_within : (limits : Limits) (g : List Entry) (n : ℕ) → n ≤ length limits.packets → ((lane : LaneNo) → packets lane g ≤ packets_given limits lane) → lanes_sum n g ≤ sum (take n limits.packets)
sum_within limits g zero within fits = omega arith
sum_within limits g (suc n) within fits =
    let before = sum_within limits g n (omega (arith, within)) fits in
    let one : packets (lane_of (suc n)) g ≤ slice_index limits.packets n = subst (λ (i : ℕ). packets (lane_of (suc n)) g ≤ slice_index limits.packets i) (omega arith) (fits (lane_of (suc n))) in
    let more : sum (take (n + 1) limits.packets) ≡ sum (take n limits.packets) + slice_index limits.packets n = sum_by_more (λ x. x) limits.packets n 0 (omega (arith, within)) in
    let place : n + 1 ≡ suc n = omega arith in
    let all : sum (take (suc n) limits.packets) ≡ sum (take n limits.packets) + slice_index limits.packets n = ap (λ (i : ℕ). sum (take i limits.packets)) (sym place) ∙ more in
    omega (arith, before, one, all)

pub legal_has_room : LegalHasRoom
legal_has_room limits h legal =
    let none : Counted limits [] = record { control_room = omega arith; phase_room = omega arith; lane_room = λ lane. omega arith; total = omega arith } in
    let c : Counted limits h = counted_all limits [] h none legal in
    let lanes : lanes_sum (length limits.packets) h ≤ sum (take (length limits.packets) limits.packets) = sum_within limits h (length limits.packets) (omega arith) c.lane_room in
    let all : sum (take (length limits.packets) limits.packets) ≤ sum limits.packets = sum_by-take-le (λ x. x) limits.packets (length limits.packets) in
    omega (arith, c.total, c.control_room, c.phase_room, lanes, all)
