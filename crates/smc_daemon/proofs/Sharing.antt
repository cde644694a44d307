-- Each control entry, each report and each poll is one daemon's.
use Rattle.std.proofs.Common.{◌≡◌, ◌∙◌, ◌+◌, ◌≤◌, ℕ, Bool, true, false, if◌then◌else◌, Option, Some, None, List, [], ◌∷◌, ◌++◌, length, refl, arith}
use Rattle.std.specs.Prelude.{◌==◌, cond, flat_map, sum_by}
use Rattle.std.proofs.lemmas.List.{length-append}
use Rattle.std.proofs.lemmas.List.Sums.{sum_by-append, sum_by-cons}
use Rattle.mr_model.specs.Deeds.{Deed, Asked, Received, Ticked}
use Rattle.mr_model.specs.Legal.{Agrees, LegalFrom}
use Rattle.mr_model.specs.Past.{is_control, controls}
use Rattle.mr_model.specs.declared.entry.Entry.{Entry}
use Rattle.mr_model.specs.declared.entry.Entry.TheVariants.{Call, Slow, Settle, Tick, Recv, EndPhase}
use Rattle.mr_model.specs.declared.flow.Flow.{Flow}
use Rattle.mr_model.specs.declared.limits.Limits.{Limits}
use Rattle.mr_model.specs.declared.message.MessageId.{MessageId}
use Rattle.mr_scenario.specs.declared.scenario.DaemonKind.{DaemonKind}
use Rattle.mr_scenario.specs.declared.scenario.Phase.{Phase}
use Rattle.mr_scenario.specs.declared.scenario.Script.{Script}
use Rattle.mr_scenario.specs.declared.scenario.Script.TheVariants as script
use Rattle.mr_scenario.specs.declared.scenario.ScriptLine.{ScriptLine}
use Rattle.smc_daemon.specs.Deeds.{deeds_in, slow_flow, told, told_by}
use Rattle.smc_daemon.specs.Lines.{driving, of_daemon, lines_among, lines_in}
use Rattle.smc_daemon.specs.Reporting.{brought, brought_by, brought_in, brought_at, brought_to_all}
use Rattle.smc_daemon.specs.Room.{receives, asked_reports}
use Rattle.smc_daemon.proofs.Summing.{sum_from, sum_le, sum_same, sum_both, sum_none, hit, hits, hits_most}

one_length : (b : Bool) (x : Deed) → length (if b then x ∷ [] else []) ≡ (if b then 1 else 0)
one_length true x = refl
one_length false x = refl

-- an entry of one of these daemons
one_made : (c : ℕ) (x : Deed) (ks : List DaemonKind) → 1 ≤ c → c ≤ length ks → sum_from (λ d k. length (if c == d then x ∷ [] else [])) 1 ks ≡ 1
one_made c x ks first last =
    sum_same (λ d k. length (if c == d then x ∷ [] else [])) (hit c 1) 1 ks (λ d k. one_length (c == d) x)
    ∙ hits c 1 1 ks first (omega (arith, last))

within : (limits : Limits) (ks : List DaemonKind) (n : ℕ) → length limits.admins ≡ length ks → n ≤ length limits.admins → n ≤ length ks
within limits ks n same last = omega (arith, same, last)

entry_made : (limits : Limits) (g h : List Entry) (e : Entry) (ks : List DaemonKind) → length limits.admins ≡ length ks → Agrees limits g e → sum_from (λ d k. length (deeds_in d h e)) 1 ks ≡ cond (is_control e) 1 0
entry_made limits g h (Call c r reply released) ks same a = one_made c.0 (Asked r reply) ks a.control.daemon.first (within limits ks c.0 same a.control.daemon.last)
entry_made limits g h (Slow lane index look flow o) ks same a = sum_none 1 ks
entry_made limits g h (Settle lane records) ks same a = sum_none 1 ks
entry_made limits g h (Tick c ms) ks same a = one_made c.0 (Ticked ms) ks a.daemon.first (within limits ks c.0 same a.daemon.last)
entry_made limits g h (Recv c message) ks same a = one_made c.0 _ ks a.control.daemon.first (within limits ks c.0 same a.control.daemon.last)
entry_made limits g h EndPhase ks same a = sum_none 1 ks

-- The control entries of a legal history are those of its daemons.
pub all_made : (limits : Limits) (g h es : List Entry) (ks : List DaemonKind) → length limits.admins ≡ length ks → LegalFrom limits g es → sum_from (λ d k. length (flat_map (deeds_in d h) es)) 1 ks ≡ controls es
all_made limits g h [] ks same l = sum_none 1 ks
all_made limits g h (e ∷ es) ks same l =
    let one = entry_made limits g h e ks same l.0 in
    let more = all_made limits (g ++ e ∷ []) h es ks same l.1 in
    let parts = sum_same (λ d k. length (flat_map (deeds_in d h) (e ∷ es))) (λ d k. length (deeds_in d h e) + length (flat_map (deeds_in d h) es)) 1 ks (λ d k. length-append (deeds_in d h e) (flat_map (deeds_in d h) es)) in
    let both = sum_both (λ d k. length (deeds_in d h e)) (λ d k. length (flat_map (deeds_in d h) es)) 1 ks in
    let n = sum_by-cons (λ x. cond (is_control x) 1 0) e es in
    omega (arith, one, more, parts, both, n)

one_brings : (b : Bool) (x : Deed) → brought_in (if b then x ∷ [] else []) ≡ (if b then brought x else 0)
one_brings true x = omega arith
one_brings false x = refl

one_brought : (c : ℕ) (x : Deed) (ks : List DaemonKind) → sum_from (λ d k. brought_in (if c == d then x ∷ [] else [])) 1 ks ≤ brought x
one_brought c x ks =
    let same = sum_same (λ d k. brought_in (if c == d then x ∷ [] else [])) (hit c (brought x)) 1 ks (λ d k. one_brings (c == d) x) in
    omega (arith, same, hits_most c (brought x) 1 ks)

kind_is : (m : MessageId) (o : Option Flow) → brought (Received (Some (told_by m o))) ≡ brought_by m.kind
kind_is m None = refl
kind_is m (Some flow) = refl

entry_brings : (h : List Entry) (e : Entry) (ks : List DaemonKind) → sum_from (λ d k. brought_in (deeds_in d h e)) 1 ks ≤ brought_at e
entry_brings h (Call c r reply released) ks = one_brought c.0 (Asked r reply) ks
entry_brings h (Slow lane index look flow o) ks = omega (arith, sum_none 1 ks)
entry_brings h (Settle lane records) ks = omega (arith, sum_none 1 ks)
entry_brings h (Tick c ms) ks = one_brought c.0 (Ticked ms) ks
entry_brings h (Recv c None) ks = one_brought c.0 (Received None) ks
entry_brings h (Recv c (Some m)) ks = omega (arith, one_brought c.0 (Received (Some (told h m))) ks, kind_is m (slow_flow h m.lane m.index))
entry_brings h EndPhase ks = omega (arith, sum_none 1 ks)

-- What reports bring to each daemon, they bring to all.
pub all_brought : (h es : List Entry) (ks : List DaemonKind) → sum_from (λ d k. brought_in (flat_map (deeds_in d h) es)) 1 ks ≤ brought_to_all es
all_brought h [] ks = omega (arith, sum_none 1 ks)
all_brought h (e ∷ es) ks =
    let parts = sum_same (λ d k. brought_in (flat_map (deeds_in d h) (e ∷ es))) (λ d k. brought_in (deeds_in d h e) + brought_in (flat_map (deeds_in d h) es)) 1 ks (λ d k. sum_by-append brought (deeds_in d h e) (flat_map (deeds_in d h) es)) in
    let both = sum_both (λ d k. brought_in (deeds_in d h e)) (λ d k. brought_in (flat_map (deeds_in d h) es)) 1 ks in
    omega (arith, entry_brings h e ks, all_brought h es ks, parts, both, sum_by-cons brought_at e es)

script_asks : (s : Script) → sum_by asked_reports (driving s) ≤ receives s
script_asks script.Start = omega arith
script_asks (script.Poll n) = omega arith
script_asks (script.Tick ms) = omega arith
script_asks (script.Words words) = omega arith
script_asks s = omega arith

one_asks : (b : Bool) (s : Script) → sum_by asked_reports (if b then driving s else []) ≤ (if b then receives s else 0)
one_asks true s = script_asks s
one_asks false s = omega arith

line_asks : (l : ScriptLine) (ks : List DaemonKind) → sum_from (λ d k. sum_by asked_reports (of_daemon d l)) 1 ks ≤ receives l.script
line_asks l ks =
    let most = sum_le (λ d k. sum_by asked_reports (of_daemon d l)) (hit l.daemon.0 (receives l.script)) 1 ks (λ d k. one_asks (l.daemon.0 == d) l.script) in
    omega (arith, most, hits_most l.daemon.0 (receives l.script) 1 ks)

lines_ask : (ls : List ScriptLine) (ks : List DaemonKind) → sum_from (λ d k. sum_by asked_reports (lines_among d ls)) 1 ks ≤ sum_by (λ l. receives l.script) ls
lines_ask [] ks = omega (arith, sum_none 1 ks)
lines_ask (l ∷ ls) ks =
    let parts = sum_same (λ d k. sum_by asked_reports (lines_among d (l ∷ ls))) (λ d k. sum_by asked_reports (of_daemon d l) + sum_by asked_reports (lines_among d ls)) 1 ks (λ d k. sum_by-append asked_reports (of_daemon d l) (lines_among d ls)) in
    let both = sum_both (λ d k. sum_by asked_reports (of_daemon d l)) (λ d k. sum_by asked_reports (lines_among d ls)) 1 ks in
    omega (arith, line_asks l ks, lines_ask ls ks, parts, both, sum_by-cons (λ (x : ScriptLine). receives x.script) l ls)

-- What the polls of each daemon ask for, the polls of all do.
pub phases_ask : (ps : List Phase) (ks : List DaemonKind) → sum_from (λ d k. sum_by asked_reports (flat_map (lines_in d) ps)) 1 ks ≤ sum_by (λ p. sum_by (λ l. receives l.script) p.script) ps
phases_ask [] ks = omega (arith, sum_none 1 ks)
phases_ask (p ∷ ps) ks =
    let parts = sum_same (λ d k. sum_by asked_reports (flat_map (lines_in d) (p ∷ ps))) (λ d k. sum_by asked_reports (lines_in d p) + sum_by asked_reports (flat_map (lines_in d) ps)) 1 ks (λ d k. sum_by-append asked_reports (lines_in d p) (flat_map (lines_in d) ps)) in
    let both = sum_both (λ d k. sum_by asked_reports (lines_in d p)) (λ d k. sum_by asked_reports (flat_map (lines_in d) ps)) 1 ks in
    omega (arith, lines_ask p.script ks, phases_ask ps ks, parts, both, sum_by-cons (λ (x : Phase). sum_by (λ (l : ScriptLine). receives l.script) x.script) p ps)
