-- What a history says of a lane: how many packets, the last one's index, and the looks.
use Rattle.std.proofs.Common.{◌≡◌, ◌∙◌, ℕ, ◌+◌, ◌==◌, Bool, true, false, List, [], ◌∷◌, ◌++◌, length, map, fold, refl, sym, ap, arith, append-nil, subst, Option}
use Rattle.std.proofs.lemmas.Grind.{flat_map-append}
use Rattle.std.proofs.lemmas.List.{length-append, length-map}
use Rattle.std.proofs.lemmas.List.Sums.{sum_by-cons}
use Rattle.std.specs.Prelude.{if◌then◌else◌}
use Rattle.mr_base.specs.declared.numbers.LaneNo.{LaneNo}
use Rattle.mr_load.specs.Made.{Sent, sent_in, sent, asked_in, asked}
use Rattle.mr_scenario.specs.declared.scenario.Script.{Script}
use Rattle.mr_scenario.specs.declared.scenario.Script.TheVariants as script
use Rattle.mr_base.specs.declared.numbers.DaemonNo.{DaemonNo}
use Rattle.mr_model.specs.declared.entry.ReleasedId.{ReleasedId}
use Rattle.mr_model.specs.declared.flow.Flow.{Flow}
use Rattle.mr_model.specs.declared.message.MessageId.{MessageId}
use Rattle.mr_model.specs.declared.outcome.Outcome.{Outcome}
use Rattle.mr_model.specs.declared.reply.Reply.{Reply}
use Rattle.mr_model.specs.declared.request.Request.{Request}
use Rattle.mr_check.proofs.Packets.{SentRise, next_number, rise_behind}
use Rattle.mr_model.specs.declared.entry.Entry.{Entry}
use Rattle.mr_model.specs.declared.entry.Entry.TheVariants.{Call, Slow, Settle, Tick, Recv, EndPhase}
use Rattle.mr_model.specs.declared.entry.FastRecord.{FastRecord}
use Rattle.mr_model.specs.Past.{index_after, is_of_lane, last_index, packets, packets_in}

one_length : (b : Bool) (x : Sent) → (if b then 1 else 0) ≡ length (if b then x ∷ [] else [])
one_length true x = refl
one_length false x = refl

abbrev as_sent : FastRecord → Sent
as_sent r = record { index = r.index; flow = r.flow }

all_length : (b : Bool) (rs : List FastRecord) → (if b then length rs else 0) ≡ length (if b then map as_sent rs else [])
all_length true rs = sym (length-map rs as_sent)
all_length false rs = refl

entry_packets : (lane : LaneNo) (e : Entry) → (if is_of_lane lane e then packets_in e else 0) ≡ length (sent_in lane.0 e)
entry_packets lane (Call d request reply released) = refl
entry_packets lane (Slow l index look flow o) = one_length (l.0 == lane.0) (record { index = index; flow = flow })
entry_packets lane (Settle l records) = all_length (l.0 == lane.0) records
entry_packets lane (Tick d ms) = refl
entry_packets lane (Recv d message) = refl
entry_packets lane EndPhase = refl

-- a lane has as many packets as were sent
pub packets_sent : (lane : LaneNo) (h : List Entry) → packets lane h ≡ length (sent lane.0 h)
packets_sent lane [] = refl
packets_sent lane (e ∷ h) =
    let one : (if is_of_lane lane e then packets_in e else 0) ≡ length (sent_in lane.0 e) = entry_packets lane e in
    let rest : packets lane h ≡ length (sent lane.0 h) = packets_sent lane h in
    omega (arith, sum_by-cons (λ (x : Entry). if is_of_lane lane x then packets_in x else 0) e h, length-append (sent_in lane.0 e) (sent lane.0 h), one, rest)

-- the index of the last of packets, or one before
abbrev pub last_of : ℕ → List Sent → ℕ
last_of before xs = fold (λ b x. x.index) before xs

last_append : (n : ℕ) (xs ys : List Sent) → last_of n (xs ++ ys) ≡ last_of (last_of n xs) ys
last_append n [] ys = refl
last_append n (x ∷ xs) ys = last_append x.index xs ys

one_last : (b : Bool) (n : ℕ) (x : Sent) → last_of n (if b then x ∷ [] else []) ≡ (if b then x.index else n)
one_last true n x = refl
one_last false n x = refl

map_last : (n : ℕ) (rs : List FastRecord) → last_of n (map as_sent rs) ≡ fold (λ b (r : FastRecord). r.index) n rs
map_last n [] = refl
map_last n (r ∷ rs) = map_last r.index rs

all_last : (b : Bool) (n : ℕ) (rs : List FastRecord) → last_of n (if b then map as_sent rs else []) ≡ (if b then fold (λ c (r : FastRecord). r.index) n rs else n)
all_last true n rs = map_last n rs
all_last false n rs = refl

entry_last : (lane : LaneNo) (n : ℕ) (e : Entry) → last_of n (sent_in lane.0 e) ≡ index_after lane n e
entry_last lane n (Call d request reply released) = refl
entry_last lane n (Slow l index look flow o) = one_last (l.0 == lane.0) n (record { index = index; flow = flow })
entry_last lane n (Settle l records) = all_last (l.0 == lane.0) n records
entry_last lane n (Tick d ms) = refl
entry_last lane n (Recv d message) = refl
entry_last lane n EndPhase = refl

last_sent_from : (lane : LaneNo) (n : ℕ) (h : List Entry) → last_of n (sent lane.0 h) ≡ fold (index_after lane) n h
last_sent_from lane n [] = refl
last_sent_from lane n (e ∷ h) =
    last_append n (sent_in lane.0 e) (sent lane.0 h)
    ∙ ap (λ (m : ℕ). last_of m (sent lane.0 h)) (entry_last lane n e)
    ∙ last_sent_from lane (index_after lane n e) h

-- the lane's last index is that of the last packet that was sent
pub last_sent : (lane : LaneNo) (h : List Entry) → last_of 0 (sent lane.0 h) ≡ last_index lane h
last_sent lane h = last_sent_from lane 0 h

-- the next number is one more than the last one
next_last : (n : ℕ) (xs : List Sent) → next_number (n + 1) xs ≡ last_of n xs + 1
next_last n [] = refl
next_last n (x ∷ xs) = next_last x.index xs

-- where packets rise from 1, those behind a history's are above its last one
pub rise_last : (lane : LaneNo) (h : List Entry) (ys : List Sent) → SentRise 1 (sent lane.0 h ++ ys) → SentRise (last_index lane h + 1) ys
rise_last lane h ys r =
    let number : next_number 1 (sent lane.0 h) ≡ last_index lane h + 1 = next_last 0 (sent lane.0 h) ∙ ap (λ (n : ℕ). n + 1) (last_sent lane h) in
    subst (λ (n : ℕ). SentRise n ys) number (rise_behind 1 (sent lane.0 h) ys r)

-- one entry more

pub sent_push : (lane : ℕ) (h : List Entry) (e : Entry) → sent lane (h ++ e ∷ []) ≡ sent lane h ++ sent_in lane e
sent_push lane h e = flat_map-append (sent_in lane) h (e ∷ []) ∙ ap (λ (xs : List Sent). sent lane h ++ xs) (append-nil (sent_in lane e))

pub asked_push : (d : ℕ) (h : List Entry) (e : Entry) → asked d (h ++ e ∷ []) ≡ asked d h ++ asked_in d e
asked_push d h e = flat_map-append (asked_in d) h (e ∷ []) ∙ ap (λ (xs : List Script). asked d h ++ xs) (append-nil (asked_in d e))

itself : (n : ℕ) → (n == n) ≡ true
itself n = grind arith

pub slow_sends : (lane : LaneNo) (index look : ℕ) (flow : Flow) (o : Outcome) → sent_in lane.0 (Slow lane index look flow o) ≡ record { index = index; flow = flow } ∷ []
slow_sends lane index look flow o = rw (itself lane.0) refl

pub settle_sends : (lane : LaneNo) (records : List FastRecord) → sent_in lane.0 (Settle lane records) ≡ map (λ r. record { index = r.index; flow = r.flow }) records
settle_sends lane records = rw (itself lane.0) refl

pub call_asks : (d : DaemonNo) (r : Request) (reply : Reply) (released : List ReleasedId) → asked_in d.0 (Call d r reply released) ≡ script.Ask r ∷ []
call_asks d r reply released = rw (itself d.0) refl

pub tick_asks : (d : DaemonNo) (ms : ℕ) → asked_in d.0 (Tick d ms) ≡ script.Tick ms ∷ []
tick_asks d ms = rw (itself d.0) refl

pub recv_asks : (d : DaemonNo) (m : Option MessageId) → asked_in d.0 (Recv d m) ≡ script.Recv ∷ []
recv_asks d m = rw (itself d.0) refl
