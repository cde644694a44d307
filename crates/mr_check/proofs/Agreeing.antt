-- An entry whose lines are right agrees with the history before it.
use Rattle.std.proofs.Common.{◌≡◌, ◌∙◌, ℕ, suc, ◌+◌, ◌≤◌, ◌<◌, List, [], ◌∷◌, ◌++◌, length, map, take, fold, refl, ap, arith, subst}
use Rattle.std.proofs.lemmas.List.{length-append, length-map}
use Rattle.std.specs.Prelude.{IfSome, slice_get}
use Rattle.mr_base.specs.Outside.{Files}
use Rattle.mr_base.specs.declared.numbers.LaneNo.{LaneNo}
use Rattle.mr_callers.proofs.Called.{run_callers}
use Rattle.mr_load.specs.Loads.{IsLoaded}
use Rattle.mr_load.specs.Made.{Sent, sent, sent_in}
use Rattle.mr_load.specs.declared.loading.Loaded.{Loaded}
use Rattle.mr_model.specs.Answer.{answer}
use Rattle.mr_model.specs.Legal.{Agrees, least_look, packets_given}
use Rattle.mr_model.specs.Past.{last_index, packets}
use Rattle.mr_model.specs.declared.entry.Entry.{Entry}
use Rattle.mr_model.specs.declared.entry.Entry.TheVariants.{Call, Slow, Settle, Tick, Recv, EndPhase}
use Rattle.mr_model.specs.declared.entry.FastRecord.{FastRecord}
use Rattle.mr_model.specs.declared.entry.ReleasedId.{ReleasedId}
use Rattle.mr_model.specs.declared.limits.Limits.{Limits}
use Rattle.mr_plain.specs.Following.{IndexesRise, RecordsLook}
use Rattle.mr_plain.proofs.Looking.{agrees}
use Rattle.mr_text.specs.Whole.{line_count}
use Rattle.mr_check.specs.Callers.{packets_to}
use Rattle.mr_check.specs.Judging.{EntryRight}
use Rattle.mr_check.specs.Rules.{FirstLine, FurtherLine, RecordLooks, SendsNext, present}
use Rattle.mr_check.proofs.Lists.{front_length, same_each}
use Rattle.mr_check.proofs.Packets.{SentRise, given_is, lines_packets, packets_are, packets_most, packets_rise, rise_take}
use Rattle.mr_check.proofs.Sent.{packets_sent, rise_last, sent_push, settle_sends, slow_sends}

-- all lines of an entry are right
abbrev pub AllRight : Loaded → List Entry → ℕ → Entry → Type 0
AllRight l g first e = (n : ℕ) → EntryRight l g first e n

pub first_right : (l : Loaded) (g : List Entry) (first : ℕ) (e : Entry) → AllRight l g first e → FirstLine l g e
first_right l g first e r = (r first).first_line refl

further_right : (l : Loaded) (g : List Entry) (first : ℕ) (e : Entry) → AllRight l g first e → (i : ℕ) → i + 1 < line_count e → FurtherLine l g e i
further_right l g first e r i less = (r (first + 1 + i)).further i less refl

-- the lanes and the daemons of the limits are the scenario's
pub lanes_many : (files : Files) (l : Loaded) → IsLoaded files l → length l.limits.packets ≡ l.scenario.lanes
lanes_many files l is = ap (λ (x : Limits). length x.packets) is.limits ∙ (run_callers files l.scenario is.fits).lanes

pub daemons_many : (files : Files) (l : Loaded) → IsLoaded files l → length l.limits.admins ≡ length l.scenario.daemons
daemons_many files l is = ap (λ (x : Limits). length x.admins) is.limits ∙ (run_callers files l.scenario is.fits).daemons

pub phases_many : (files : Files) (l : Loaded) → IsLoaded files l → l.limits.phases ≡ length l.scenario.phases
phases_many files l is = ap (λ (x : Limits). x.phases) is.limits ∙ is.fits.phases

-- a lane has room for what it sends next, and the numbers rise
pub sends_next : (files : Files) (l : Loaded) → IsLoaded files l → (g : List Entry) (lane : LaneNo) (e : Entry) (xs : List Sent) → sent_in lane.0 e ≡ xs → SendsNext l g lane e
    → (packets lane g + length xs ≤ packets_given l.limits lane) × SentRise (last_index lane g + 1) xs
sends_next files l is g lane e xs what next =
    let most : lane.0 ≤ l.scenario.lanes = omega (arith, next.lane_is.last, lanes_many files l is) in
    let all : List Sent = lines_packets files l (present g) lane.0 in
    let same : packets_to l (present g) lane.0 ≡ all = packets_are files l (present g) lane.0 is next.lane_is.first most in
    let now : List Sent = sent lane.0 (g ++ e ∷ []) in
    let whole : now ≡ sent lane.0 g ++ xs = sent_push lane.0 g e ∙ ap (λ (ys : List Sent). sent lane.0 g ++ ys) what in
    let front : take (length now) all ≡ now = subst (λ (ys : List Sent). take (length now) ys ≡ now) same next.next in
    let given : packets_given l.limits lane ≡ _ = ap (λ (x : Limits). packets_given x lane) is.limits ∙ given_is files l.scenario lane.0 next.lane_is.first most in
    let fits : packets lane g + length xs ≤ packets_given l.limits lane =
    omega (arith, packets_sent lane g, ap length whole, length-append (sent lane.0 g) xs, front_length now all front, packets_most files l (present g) lane.0, given) in
    let rise : SentRise 1 now = subst (SentRise 1) front (rise_take 1 (length now) all (packets_rise files l (present g) lane.0)) in
    (fits, rise_last lane g xs (subst (SentRise 1) whole rise))

abbrev as_sent : FastRecord → Sent
as_sent r = record { index = r.index; flow = r.flow }

indexes : (n : ℕ) (rs : List FastRecord) → SentRise (n + 1) (map as_sent rs) → IndexesRise n rs
indexes n [] r = tt
indexes n (x ∷ rs) r = (omega (arith, r.0), indexes x.index rs r.1)

looks : (limits : Limits) (g : List Entry) (least : ℕ) (rs : List FastRecord)
    → ((i : ℕ) → i < length rs → IfSome (slice_get rs i) (RecordLooks limits g (fold (λ b r. r.look) least (take i rs)))) → RecordsLook limits g least rs
looks limits g least [] each = tt
looks limits g least (r ∷ rs) each =
    let first : RecordLooks limits g least r = each 0 (omega arith) in
    (first.within, first.behind, first.forward, looks limits g r.look rs (λ i less. each (suc i) (omega (arith, less))))

pub entry_agrees : (files : Files) (l : Loaded) → IsLoaded files l → (g : List Entry) (first : ℕ) (e : Entry) → AllRight l g first e → Agrees l.limits g e
entry_agrees files l is g first (Call d r reply released) right =
    let line = first_right l g first (Call d r reply released) right in
    let answered : List ReleasedId = (answer l.limits g d r).released in
    let same : released ≡ answered = same_each released answered line.machine.many (λ i less. further_right l g first (Call d r reply released) right i (omega (arith, less))) in
    record { control = record { daemon = line.next.daemon_is; room = line.machine.room }; replies = line.machine.replies; releases = same }
entry_agrees files l is g first (Slow lane index look flow o) right =
    let line = first_right l g first (Slow lane index look flow o) right in
    let sends = sends_next files l is g lane (Slow lane index look flow o) _ (slow_sends lane index look flow o) line.next in
    agrees l.limits g (Slow lane index look flow o)
    (record { lane_is = line.next.lane_is; room = omega (arith, sends.0); next = omega (arith, sends.1.0); is_outcome = line.machine })
    line.look
entry_agrees files l is g first (Settle lane records) right =
    let line = first_right l g first (Settle lane records) right in
    let sends = sends_next files l is g lane (Settle lane records) _ (settle_sends lane records) line.next in
    let many : length (map as_sent records) ≡ length records = length-map records as_sent in
    agrees l.limits g (Settle lane records)
    (record {
      lane_is = line.next.lane_is;
      some = line.size.0;
      most = line.size.1;
      room = omega (arith, sends.0, many);
      rise = indexes (last_index lane g) records sends.1;
    })
    (looks l.limits g (least_look lane g) records (λ i less. further_right l g first (Settle lane records) right i (omega (arith, less))))
entry_agrees files l is g first (Tick d ms) right =
    let line = first_right l g first (Tick d ms) right in
    record { daemon = line.next.daemon_is; room = line.machine }
entry_agrees files l is g first (Recv d message) right =
    let line = first_right l g first (Recv d message) right in
    record { control = record { daemon = line.next.daemon_is; room = line.machine.0 }; gives = line.machine.1 }
entry_agrees files l is g first EndPhase right =
    let line = first_right l g first EndPhase right in
    omega (arith, line.ends.is_open, phases_many files l is)
