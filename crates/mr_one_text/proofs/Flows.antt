-- The flows of a history are those of its scenario's packets.
use Rattle.std.proofs.Common.{◌≡◌, ℕ, ◌==◌, List, [], ◌∷◌, map, refl, sym, ap, ◌∙◌, eq-eqb}
use Rattle.mr_base.specs.declared.numbers.LaneNo.{LaneNo}
use Rattle.mr_load.specs.Callers.{IsCalled}
use Rattle.mr_load.specs.Made.{Sent}
use Rattle.mr_model.specs.declared.entry.Entry.{Entry}
use Rattle.mr_model.specs.declared.entry.Entry.TheVariants.{Call, Slow, Settle, Tick, Recv, EndPhase}
use Rattle.mr_model.specs.declared.entry.FastRecord.{FastRecord}
use Rattle.mr_model.specs.declared.flow.Flow.{Flow}
use Rattle.mr_model.specs.declared.outcome.Outcome.{Outcome}
use Rattle.mr_one_text.specs.Bare.{bare_record, bare_entry, bare}
use Rattle.mr_one_text.specs.Laws.{FlowsAreSent}
use Rattle.mr_one_text.specs.Turns.{Settled, turn_of, turns}
use Rattle.mr_one_text.proofs.Sending.{SameIn, made_same, made_called, same_by, picked_same}
use Rattle.mr_scenario.specs.declared.scenario.Scenario.{Scenario}

-- a slow packet, and settled ones, as a lane's
abbrev pub slow_sent : ℕ → Flow → Sent
slow_sent index flow = record { index = index; flow = flow }

abbrev pub settled_sent : List FastRecord → List Sent
settled_sent rs = map (λ r. record { index = r.index; flow = r.flow }) rs

-- two slow packets of a lane at one place are the same
pub slow_same : (s : Scenario) (l m : LaneNo) (i j a b : ℕ) (x y : Flow) (o p : Outcome) → IsCalled s (Slow l i a x o) → l.0 ≡ m.0
    → SameIn s (Slow l i a x o) (Slow m j b y p) → (i ≡ j) × (x ≡ y)
slow_same s l m i j a b x y o p called lane same =
    let whole : slow_sent i x ∷ [] ≡ slow_sent j y ∷ [] =
    picked_same (l.0 == l.0) (m.0 == l.0) _ _ (eq-eqb l.0 l.0 refl) (eq-eqb m.0 l.0 (sym lane)) (same.lanes l.0 called.first called.last) in
    let one : slow_sent i x ≡ slow_sent j y = cc whole in
    (ap (λ (t : Sent). t.index) one, ap (λ (t : Sent). t.flow) one)

-- and so are settled ones
pub settled_same : (s : Scenario) (l m : LaneNo) (rs qs : List FastRecord) → IsCalled s (Settle l rs) → l.0 ≡ m.0
    → SameIn s (Settle l rs) (Settle m qs) → settled_sent rs ≡ settled_sent qs
settled_same s l m rs qs called lane same =
    picked_same (l.0 == l.0) (m.0 == l.0) _ _ (eq-eqb l.0 l.0 refl) (eq-eqb m.0 l.0 (sym lane)) (same.lanes l.0 called.first called.last)

bare_looks : (rs : List FastRecord) → map (λ r. r.look) (map bare_record rs) ≡ map (λ r. r.look) rs
bare_looks [] = refl
bare_looks (r ∷ rs) = ap (λ (ls : List ℕ). r.look ∷ ls) (bare_looks rs)

bare_turn : (e : Entry) → turn_of (bare_entry e) ≡ turn_of e
bare_turn (Call d request reply released) = refl
bare_turn (Slow lane index look flow o) = refl
bare_turn (Settle lane records) = ap (λ (ls : List ℕ). Settled lane ls) (bare_looks records)
bare_turn (Tick d ms) = refl
bare_turn (Recv d message) = refl
bare_turn EndPhase = refl

bare_turns : (h : List Entry) → turns (bare h) ≡ turns h
bare_turns [] = refl
bare_turns (e ∷ h) = let first = bare_turn e in let more = bare_turns h in (λ i. first i ∷ more i)

records_same : (rs qs : List FastRecord) → map bare_record rs ≡ map bare_record qs → settled_sent rs ≡ settled_sent qs → rs ≡ qs
records_same [] [] e f = refl
records_same [] (q ∷ qs) e f = absurd (cc e)
records_same (r ∷ rs) [] e f = absurd (cc e)
records_same (r ∷ rs) (q ∷ qs) e f =
    let head : bare_record r ≡ bare_record q = cc e in
    let rest : map bare_record rs ≡ map bare_record qs = cc e in
    let packet : slow_sent r.index r.flow ≡ slow_sent q.index q.flow = cc f in
    let packets : settled_sent rs ≡ settled_sent qs = cc f in
    let more : rs ≡ qs = records_same rs qs rest packets in
    let one : r ≡ q = λ i. record (head i) { flow = (packet i).flow } in
    (λ i. one i ∷ more i)

-- entries that are the same but for flows, with the same packets
one_same : (s : Scenario) (e f : Entry) → bare_entry e ≡ bare_entry f → IsCalled s e → SameIn s e f → e ≡ f
one_same s (Slow l i a x o) (Slow m j b y p) e called same =
    let lane : l ≡ m = cc e in
    let index : i ≡ j = cc e in
    let look : a ≡ b = cc e in
    let out : o ≡ p = cc e in
    let flow = slow_same s l m i j a b x y o p called (ap (λ (t : LaneNo). t.0) lane) same in
    (λ t. Slow (lane t) (index t) (look t) (flow.1 t) (out t))
one_same s (Settle l rs) (Settle m qs) e called same =
    let lane : l ≡ m = cc e in
    let bares : map bare_record rs ≡ map bare_record qs = cc e in
    let all : rs ≡ qs = records_same rs qs bares (settled_same s l m rs qs called (ap (λ (t : LaneNo). t.0) lane) same) in
    (λ t. Settle (lane t) (all t))
one_same s (Call d request reply released) (Call c request' reply' released') e called same = e
one_same s (Tick d ms) (Tick c ns) e called same = e
one_same s (Recv d message) (Recv c message') e called same = e
one_same s EndPhase EndPhase e called same = e
one_same s e f eq called same = absurd (cc eq)

abbrev BareSame : List Entry → List Entry → List Entry → Type 0
BareSame g h k = bare h ≡ bare k

pub flows_are_sent : FlowsAreSent
flows_are_sent files s h k m n e =
    same_by s BareSame
    (λ g x y h k b called same turn. one_same s x y (cc b) called same)
    (λ g x y h k b is. cc b)
    h k [] e (sym (bare_turns h) ∙ ap turns e ∙ bare_turns k) (made_called files s s.phases [] h m.phases) (made_same files s s.phases [] h k m.phases n.phases)
