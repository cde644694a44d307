-- The bounds of all daemons of a scenario.
use Rattle.std.proofs.Common.{◌≡◌, ◌+◌, ◌*◌, ◌≤◌, ℕ, zero, suc, min, false, Some, List, [], ◌∷◌, ◌++◌, length, refl, sym, ap, subst, arith}
use Rattle.std.specs.Prelude.{cond, flat_map, slice_get, sum_by}
use Rattle.std.specs.List.{list_any}
use Rattle.std.proofs.lemmas.Bool.{or_parts}
use Rattle.std.proofs.lemmas.Grind.{flat_map-append}
use Rattle.std.proofs.lemmas.List.Sums.{sum_by-append, sum_by_push}
use Rattle.mr_base.specs.Outside.{Files}
use Rattle.mr_model.specs.Deeds.{Deed}
use Rattle.mr_model.specs.Legal.{Agrees, IsLegal}
use Rattle.mr_model.specs.Past.{is_control, controls, packets_in}
use Rattle.mr_model.specs.declared.entry.Entry.{Entry}
use Rattle.mr_model.specs.declared.entry.Entry.TheVariants.{Call, Slow, Settle, Tick, Recv, EndPhase}
use Rattle.mr_model.specs.declared.limits.Limits.{Limits}
use Rattle.mr_model.proofs.Induction.{legal_induction}
use Rattle.mr_scenario.specs.PhaseLines.{is_smc}
use Rattle.mr_scenario.specs.declared.scenario.DaemonKind.{DaemonKind}
use Rattle.mr_scenario.specs.declared.scenario.DaemonKind.TheVariants.{Plain, Admin, Smc}
use Rattle.mr_scenario.specs.declared.scenario.Phase.{Phase}
use Rattle.mr_scenario.specs.declared.scenario.Scenario.{Scenario}
use Rattle.smc_core.specs.Driving.{Line, smc, answers_in}
use Rattle.smc_core.specs.Machine.{Machine}
use Rattle.smc_daemon.specs.Courses.{course, DrivesTo, IsBegun, machine_behind}
use Rattle.smc_daemon.specs.Deeds.{did}
use Rattle.smc_daemon.specs.Lines.{lines_in}
use Rattle.smc_daemon.specs.Machines.{machine_of}
use Rattle.smc_daemon.specs.Reaching.{OfEach, Ran, Reach, IsReach, Lacks, made}
use Rattle.smc_daemon.specs.Reporting.{brought, brought_in}
use Rattle.smc_daemon.specs.Room.{asked_reports, least_by, least_from, least, polled, most}
use Rattle.smc_daemon.specs.RunLaws.{IsOf}
use Rattle.smc_daemon.proofs.Begun.{begun_most, did_behind}
use Rattle.smc_daemon.proofs.Bringing.{polled_brings}
use Rattle.smc_daemon.proofs.Counted.{did_parts}
use Rattle.smc_daemon.proofs.Packets.{packets_bring}
use Rattle.smc_daemon.proofs.Phases.{drives_counts}
use Rattle.smc_daemon.proofs.Sharing.{all_made, all_brought, phases_ask}
use Rattle.smc_daemon.proofs.Summing.{sum_from, sum_le, sum_both, EachFrom, each_from, sum_each, sum_of}

-- room for all control entries
room_push : (limits : Limits) (g : List Entry) (e : Entry) → Agrees limits g e → controls g ≤ limits.controls → controls (g ++ e ∷ []) ≤ limits.controls
room_push limits g e a within = omega (arith, sum_by_push (λ x. cond (is_control x) 1 0) g e, by e a)
  where
    by : (e : Entry) → Agrees limits g e → controls g + cond (is_control e) 1 0 ≤ limits.controls
    by (Call c r reply released) a = omega (arith, a.control.room)
    by (Tick c ms) a = omega (arith, a.room)
    by (Recv c message) a = omega (arith, a.control.room)
    by (Slow lane index look flow o) a = omega (arith, within)
    by (Settle lane records) a = omega (arith, within)
    by EndPhase a = omega (arith, within)

pub room_of_legal : (limits : Limits) (h : List Entry) → IsLegal limits h → controls h ≤ limits.controls
room_of_legal limits h l =
    legal_induction limits (λ g. controls g ≤ limits.controls) (omega arith) (λ g e legal a p. room_push limits g e a p) h l

least_is : (files : Files) (s : Scenario) (d : ℕ) (ks : List DaemonKind) → least_from files s d ks ≡ sum_from (least_by files s) d ks
least_is files s d [] = refl
least_is files s d (k ∷ ks) = ap (λ n. least_by files s d k + n) (least_is files s (d + 1) ks)

-- numbers from 1 on
pub each_daemon : (s : Scenario) (P : ℕ → DaemonKind → Type 0) → OfEach s P → EachFrom P 1 s.daemons
each_daemon s P each = each_from P 1 s.daemons (λ i k is. let n : i + 1 ≡ 1 + i = omega arith in subst (λ (n : ℕ). P n k) n (each i k is))

-- daemons that were through
ran_least : (files : Files) (s : Scenario) (h : List Entry) (d : ℕ) (k : DaemonKind) → Ran files s h d k → least_by files s d k ≤ length (did d [] h)
ran_least files s h d (Smc names) ran = omega (arith, (drives_counts d (machine_of files s names) s.phases h refl ran).lower)
ran_least files s h d Plain ran = omega (arith, ran)
ran_least files s h d Admin ran = omega (arith, ran)

pub least_of_runs : (files : Files) (s : Scenario) (limits : Limits) (h : List Entry) → IsOf s limits h → OfEach s (Ran files s h) → least files s ≤ controls h
least_of_runs files s limits h of_ each =
    let all = all_made limits [] h h s.daemons of_.daemons of_.legal in
    let more = sum_each (least_by files s) (λ d k. length (did d [] h)) 1 s.daemons (each_daemon s (λ d k. least_by files s d k ≤ length (did d [] h)) (λ i k is. ran_least files s h (i + 1) k (each i k is))) in
    omega (arith, all, more, least_is files s 1 s.daemons)

-- what phases that were driven brought
asks : ℕ → List Phase → ℕ
asks d ps = sum_by asked_reports (flat_map (lines_in d) ps)

phase_polls : (m : Machine) (ls : List Line) (deeds : List Deed) → deeds ≡ (course m ls deeds).deeds → brought_in deeds ≤ 3 * sum_by asked_reports ls
phase_polls m ls deeds is = omega (arith, polled_brings m ls (answers_in deeds), ap brought_in is)

driven_polls : (ps : List Phase) (d : ℕ) (m : Machine) (before h : List Entry) (last : Machine) → DrivesTo d m before ps h last → brought_in (did d [] h) ≤ 3 * sum_by asked_reports (flat_map (lines_in d) ps)
driven_polls [] d m before h last (is, same) = subst (λ (x : List Entry). brought_in (did d [] x) ≤ 3 * 0) (sym is) (omega arith)
driven_polls (p ∷ ps) d m before h last (part, rest, is, open_, drives, more) =
    let one = phase_polls m (lines_in d p) (did d before part) drives in
    let later = driven_polls ps d (machine_behind d m p before part) _ rest last more in
    let a = did_parts d before part rest in
    let b = sum_by-append brought (did d before part) (did d [] rest) in
    let n = sum_by-append asked_reports (lines_in d p) (flat_map (lines_in d) ps) in
    subst (λ (x : List Entry). brought_in (did d [] x) ≤ 3 * sum_by asked_reports (flat_map (lines_in d) (p ∷ ps))) (sym is) (omega (arith, one, later, a.brought, b, n))

begun_polls : (d : ℕ) (first : Machine) (done left : List Phase) (p : Phase) (before part : List Entry) (m : Machine) (missing : List Deed) → DrivesTo d first [] done before m → IsBegun m (lines_in d p) (did d before part) missing → brought_in (did d [] (before ++ part)) ≤ 3 * sum_by asked_reports (flat_map (lines_in d) (done ++ p ∷ left))
begun_polls d first done left p before part m missing drives begun =
    let deeds = did d before part in
    let a = did_behind d before part in
    let b = sum_by-append brought (did d [] before) deeds in
    let c = sum_by-append brought deeds missing in
    let former = driven_polls done d first [] before m drives in
    let here = polled_brings m (lines_in d p) (answers_in deeds) in
    let n = ap (λ (ls : List Line). sum_by asked_reports ls) (flat_map-append (lines_in d) done (p ∷ left)) in
    let n1 = sum_by-append asked_reports (flat_map (lines_in d) done) (lines_in d p ++ flat_map (lines_in d) left) in
    let n2 = sum_by-append asked_reports (lines_in d p) (flat_map (lines_in d) left) in
    omega (arith, a.brought, b, c, former, here, ap brought_in begun, n, n1, n2)

-- what reports bring to a machine
abbrev extra : List Entry → ℕ → DaemonKind → ℕ
extra h d (Smc names) = brought_in (did d [] h)
extra h d Plain = 0
extra h d Admin = 0

extra_most : (h : List Entry) (d : ℕ) (k : DaemonKind) → extra h d k ≤ brought_in (did d [] h)
extra_most h d (Smc names) = omega arith
extra_most h d Plain = omega arith
extra_most h d Admin = omega arith

lacks_made : (files : Files) (s : Scenario) (r : Reach) (d : ℕ) (k : DaemonKind) (n : ℕ) → IsReach s r → Lacks files s r d k n → length (did d [] (made r)) + n ≤ least_by files s d k + extra (made r) d k
lacks_made files s r d (Smc names) n is (m, missing, drives, begun, most_) =
    let b = begun_most d (machine_of files s names) r.done r.ahead r.begun r.before r.part m missing refl drives begun in
    let same = ap (λ (ps : List Phase). length (smc (machine_of files s names) (flat_map (lines_in d) ps) []).deeds) is in
    omega (arith, b, same, most_)
lacks_made files s r d Plain n is lacks = omega (arith, lacks)
lacks_made files s r d Admin n is lacks = omega (arith, lacks)

lacks_polls : (files : Files) (s : Scenario) (r : Reach) (d : ℕ) (k : DaemonKind) (n : ℕ) → IsReach s r → Lacks files s r d k n → extra (made r) d k ≤ 3 * sum_by asked_reports (flat_map (lines_in d) s.phases)
lacks_polls files s r d (Smc names) n is (m, missing, drives, begun, most_) =
    subst (λ (ps : List Phase). brought_in (did d [] (made r)) ≤ 3 * sum_by asked_reports (flat_map (lines_in d) ps)) (sym is)
    (begun_polls d (machine_of files s names) r.done r.ahead r.begun r.before r.part m missing drives begun)
lacks_polls files s r d Plain n is lacks = omega arith
lacks_polls files s r d Admin n is lacks = omega arith

-- What was made and what all lack is the least, and what reports bring to machines.
all_lack : (files : Files) (s : Scenario) (limits : Limits) (r : Reach) (lacks : ℕ → ℕ) → IsOf s limits (made r) → IsReach s r → OfEach s (λ d k. Lacks files s r d k (lacks d)) → controls (made r) + sum_from (λ d k. lacks d) 1 s.daemons ≤ least files s + sum_from (extra (made r)) 1 s.daemons
all_lack files s limits r lacks of_ is each =
    let h = made r in
    let all = all_made limits [] h h s.daemons of_.daemons of_.legal in
    let most_ = sum_each (λ d k. length (did d [] h) + lacks d) (λ d k. least_by files s d k + extra h d k) 1 s.daemons
    (each_daemon s (λ d k. length (did d [] h) + lacks d ≤ least_by files s d k + extra h d k) (λ i k at. lacks_made files s r (i + 1) k (lacks (i + 1)) is (each i k at))) in
    let b1 = sum_both (λ d k. length (did d [] h)) (λ d k. lacks d) 1 s.daemons in
    let b2 = sum_both (least_by files s) (extra h) 1 s.daemons in
    omega (arith, all, most_, b1, b2, least_is files s 1 s.daemons)

thrice : (f : ℕ → DaemonKind → ℕ) (d : ℕ) (ks : List DaemonKind) → sum_from (λ d k. 3 * f d k) d ks ≡ 3 * sum_from f d ks
thrice f d [] = refl
thrice f d (k ∷ ks) = omega (arith, thrice f (d + 1) ks)

extra_polled : (files : Files) (s : Scenario) (r : Reach) (lacks : ℕ → ℕ) → IsReach s r → OfEach s (λ d k. Lacks files s r d k (lacks d)) → sum_from (extra (made r)) 1 s.daemons ≤ 3 * polled s
extra_polled files s r lacks is each =
    let most_ = sum_each (extra (made r)) (λ d k. 3 * sum_by asked_reports (flat_map (lines_in d) s.phases)) 1 s.daemons
    (each_daemon s (λ d k. extra (made r) d k ≤ 3 * sum_by asked_reports (flat_map (lines_in d) s.phases)) (λ i k at. lacks_polls files s r (i + 1) k (lacks (i + 1)) is (each i k at))) in
    omega (arith, most_, thrice (λ d k. sum_by asked_reports (flat_map (lines_in d) s.phases)) 1 s.daemons, phases_ask s.phases s.daemons)

extra_sent : (s : Scenario) (limits : Limits) (h : List Entry) → IsLegal limits h → sum_from (extra h) 1 s.daemons ≤ 5 * sum_by packets_in h
extra_sent s limits h l =
    let most_ = sum_le (extra h) (λ d k. brought_in (did d [] h)) 1 s.daemons (extra_most h) in
    omega (arith, most_, all_brought h h s.daemons, packets_bring limits h l)

within_both : (x a b : ℕ) → x ≤ a → x ≤ b → x ≤ min a b
within_both x a b p q = omega (arith, p, q)

-- what one lacks
one_lacks : (s : Scenario) (lacks : ℕ → ℕ) (i : ℕ) (k : DaemonKind) → slice_get s.daemons i ≡ Some k → lacks (i + 1) ≤ sum_from (λ d k. lacks d) 1 s.daemons
one_lacks s lacks i k at =
    let n : 1 + i ≡ i + 1 = omega arith in
    subst (λ (n : ℕ). lacks n ≤ sum_from (λ d k. lacks d) 1 s.daemons) n (sum_of (λ d k. lacks d) 1 s.daemons i k at)

pub most_of_runs : (files : Files) (s : Scenario) (limits : Limits) (r : Reach) (lacks : ℕ → ℕ) (packets i : ℕ) (k : DaemonKind) → IsOf s limits (made r) → IsReach s r → sum_by packets_in (made r) ≤ packets → OfEach s (λ d kind. Lacks files s r d kind (lacks d)) → slice_get s.daemons i ≡ Some k → controls (made r) + lacks (i + 1) ≤ most files s packets
most_of_runs files s limits r lacks packets i k of_ is sent each at =
    let x = sum_from (extra (made r)) 1 s.daemons in
    let sent_ : x ≤ 5 * packets = omega (arith, extra_sent s limits (made r) of_.legal, sent) in
    let both = within_both x (3 * polled s) (5 * packets) (extra_polled files s r lacks is each) sent_ in
    omega (arith, all_lack files s limits r lacks of_ is each, both, one_lacks s lacks i k at)

-- where no daemon has a machine
not_smc : (ks : List DaemonKind) (i : ℕ) (k : DaemonKind) → list_any is_smc ks ≡ false → slice_get ks i ≡ Some k → is_smc k ≡ false
not_smc [] i k none at = absurd (cc at)
not_smc (x ∷ ks) zero k none at =
    let same : x ≡ k = cc at in
    subst (λ (y : DaemonKind). is_smc y ≡ false) same (or_parts (is_smc x) (list_any is_smc ks) none).0
not_smc (x ∷ ks) (suc i) k none at = not_smc ks i k (or_parts (is_smc x) (list_any is_smc ks) none).1 at

plain_made : (files : Files) (s : Scenario) (r : Reach) (d : ℕ) (k : DaemonKind) (n : ℕ) → is_smc k ≡ false → Lacks files s r d k n → length (did d [] (made r)) + n ≤ least_by files s d k
plain_made files s r d (Smc names) n none lacks = absurd (cc none)
plain_made files s r d Plain n none lacks = lacks
plain_made files s r d Admin n none lacks = lacks

pub most_without : (files : Files) (s : Scenario) (limits : Limits) (r : Reach) (lacks : ℕ → ℕ) (i : ℕ) (k : DaemonKind) → IsOf s limits (made r) → list_any is_smc s.daemons ≡ false → OfEach s (λ d kind. Lacks files s r d kind (lacks d)) → slice_get s.daemons i ≡ Some k → controls (made r) + lacks (i + 1) ≤ least files s
most_without files s limits r lacks i k of_ none each at =
    let h = made r in
    let all = all_made limits [] h h s.daemons of_.daemons of_.legal in
    let most_ = sum_each (λ d k. length (did d [] h) + lacks d) (least_by files s) 1 s.daemons
    (each_daemon s (λ d k. length (did d [] h) + lacks d ≤ least_by files s d k) (λ i k at. plain_made files s r (i + 1) k (lacks (i + 1)) (not_smc s.daemons i k none at) (each i k at))) in
    let both = sum_both (λ d k. length (did d [] h)) (λ d k. lacks d) 1 s.daemons in
    omega (arith, all, most_, both, least_is files s 1 s.daemons, one_lacks s lacks i k at)
