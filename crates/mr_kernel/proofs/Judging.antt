-- What the live parts decide is what the state decides.
use Rattle.std.proofs.Common.{◌≡◌, ℕ, ◌<◌, ◌&&◌, Bool, true, false, if◌then◌else◌, is_some}
use Rattle.std.proofs.Common.{is_none, nat_lt, nat_le, Option, Some, None, length, refl, ap, ◌∙◌}
use Rattle.std.proofs.Common.{sym, subst}
use Rattle.std.proofs.lemmas.Bool.{ltb-true}
use Rattle.mr_base.specs.declared.numbers.DaemonNo.{DaemonNo}
use Rattle.mr_base.specs.declared.numbers.LaneNo.{LaneNo}
use Rattle.mr_base.specs.declared.numbers.Mask.{Mask}
use Rattle.mr_base.specs.declared.route.Route.{Route}
use Rattle.mr_model.specs.declared.limits.Limits.{Limits}
use Rattle.mr_model.specs.declared.flow.Flow.{Flow}
use Rattle.mr_model.specs.declared.outcome.Cause.TheVariants as cause
use Rattle.mr_model.specs.declared.outcome.Outcome.{Outcome}
use Rattle.mr_model.specs.declared.outcome.Outcome.TheVariants as outcome
use Rattle.mr_model.specs.declared.outcome.Outcome.TheVariants.{Parked, Dropped}
use Rattle.mr_model.specs.declared.outcome.Report.TheVariants.{Quiet, Told, Lost}
use Rattle.mr_model.specs.declared.verdict.Verdict.{Verdict}
use Rattle.mr_model.specs.declared.verdict.Verdict.TheVariants as verdict
use Rattle.mr_model.specs.Found.{found_in}
use Rattle.mr_model.specs.Outcome.{asks_report, wrong_report, decided, judged, joins, unmet}
use Rattle.mr_model.specs.Outcome.{outcome_in, outcome_met}
use Rattle.mr_model.specs.State.{State, arrived, reported}
use Rattle.mr_model.specs.Tables.{Tables}
use Rattle.mr_model.specs.Unread.{accepts_in}
use Rattle.mr_model.specs.Verdict.{judge_in}
use Rattle.mr_model.specs.VifList.{vif_on}
use Rattle.mr_model.specs.WaitingList.{Awaiting, awaiting_of}
use Rattle.mr_model.specs.declared.packet.Packet.{Packet}
use Rattle.mr_kernel.specs.declared.live.Live.{Live}
use Rattle.mr_kernel.specs.Flows.{back_by}
use Rattle.mr_kernel.specs.Standing.{StandsFor, tells}

pub judged_by : (limits : Limits) (s : State) (l : Live) (r : Route) (dev ttl : ℕ) (v : Verdict)
    → StandsFor limits s l
    → v ≡ judge_in l.tables.tables.vifs l.tables.tables.routes r dev ttl
    → decided s r v ≡ judged s r dev ttl
judged_by limits s l r dev ttl v st by =
    ap (λ (x : Verdict). decided s r x)
    (by ∙ ap (λ (t : Tables). judge_in t.vifs t.routes r dev ttl) st.tables)

pub outcome_by : (limits : Limits) (s : State) (l : Live) (flow : Flow) (r : Route)
    → StandsFor limits s l
    → Some r ≡ found_in l.tables.tables.vifs l.tables.tables.routes flow.dev flow.src flow.dst
    → judged s r flow.dev flow.ttl ≡ outcome_in limits s flow
outcome_by limits s l flow r st by =
    ap (λ (o : Option Route). outcome_met limits s flow o)
    (by ∙ ap (λ (t : Tables). found_in t.vifs t.routes flow.dev flow.src flow.dst) st.tables)

-- Who accepts a report has room for it.
accepted_room : (s : State) → accepts_in s ≡ true → length s.unread < 64
accepted_room s so = by s.owner so
  where
    by : (o : Option DaemonNo) → (is_some o && nat_lt (length s.unread) 64) ≡ true
        → length s.unread < 64
    by None so = cc
    by (Some d) so = ltb-true (length s.unread) 64 so

register_told : (s : State) (entry : ℕ) (input : Option ℕ) (outs : Mask) (b : Bool)
    → tells (outcome.Register entry input outs b) ≡ true → b ≡ true
register_told s entry input outs true so = refl
register_told s entry input outs false so = cc

wrong_told : (s : State) (r : Route) (entry : ℕ) (vif : Option ℕ)
    → tells (outcome.Wrong entry vif (wrong_report s r vif)) ≡ true → accepts_in s ≡ true
wrong_told s r entry vif so = by (asks_report s r vif) (accepts_in s) so
  where
    by : (a b : Bool) → tells (outcome.Wrong entry vif
        (if a then (if b then Told else Lost) else Quiet)) ≡ true → b ≡ true
    by true true so = refl
    by true false so = cc
    by false b so = cc

decided_room : (s : State) (r : Route) (v : Verdict) → tells (decided s r v) ≡ true
    → length s.unread < 64
decided_room s r (verdict.Forward entry input outs) so = cc
decided_room s r (verdict.Register entry input outs) so =
    accepted_room s (register_told s entry input outs (accepts_in s) so)
decided_room s r (verdict.Wrong entry vif) so = accepted_room s (wrong_told s r entry vif so)
decided_room s r (verdict.Miss vif) so = cc
decided_room s r verdict.NoVif so = cc

pub judged_room : (s : State) (r : Route) (dev ttl : ℕ) → tells (judged s r dev ttl) ≡ true
    → length s.unread < 64
judged_room s r dev ttl so = decided_room s r (judge_in s.tables.vifs s.tables.routes r dev ttl) so

unmet_quiet : (limits : Limits) (s : State) (flow : Flow) (v : Option ℕ)
    → tells (unmet limits s flow v) ≡ false
unmet_quiet limits s flow None = refl
unmet_quiet limits s flow (Some v) = joins_quiet (awaiting_of s.waiting flow.src flow.dst)
  where
    by : (a b c : Bool) → tells (if a then Dropped cause.Entries
        else (if b then Dropped cause.NoDaemon
        else (if c then Dropped cause.Upcall else Parked))) ≡ false
    by true b c = refl
    by false true c = refl
    by false false true = refl
    by false false false = refl

    either : (a : Bool) → tells (if a then Dropped cause.Packets else Parked) ≡ false
    either true = refl
    either false = refl

    joins_quiet : (o : Option Awaiting) → tells (joins limits s o) ≡ false
    joins_quiet None = by (nat_le limits.unresolved (length s.waiting)) (is_none s.owner)
        (nat_le 64 (length s.unread))
    joins_quiet (Some a) = either (nat_le 4 (length a.packets))

met_room : (limits : Limits) (s : State) (flow : Flow) (o : Option Route)
    → tells (outcome_met limits s flow o) ≡ true → length s.unread < 64
met_room limits s flow None so =
    let quiet = unmet_quiet limits s flow (vif_on s.tables.vifs flow.dev) in cc
met_room limits s flow (Some r) so = judged_room s r flow.dev flow.ttl so

pub outcome_room : (limits : Limits) (s : State) (flow : Flow) (o : Outcome)
    → o ≡ outcome_in limits s flow → tells o ≡ true → length s.unread < 64
outcome_room limits s flow o is so =
    met_room limits s flow (found_in s.tables.vifs s.tables.routes flow.dev flow.src flow.dst)
    (subst (λ (x : Outcome). tells x ≡ true) is so)

pub arrived_reports : (s : State) (lane : LaneNo) (index : ℕ) (flow : Flow) (o : Outcome)
    → (o ≡ Parked → ⊥) → arrived s lane index flow o ≡ reported s lane index o
arrived_reports s lane index flow (outcome.Forward entry input outs) not = refl
arrived_reports s lane index flow (outcome.Register entry input outs told) not = refl
arrived_reports s lane index flow (outcome.Wrong entry vif report) not = refl
arrived_reports s lane index flow (outcome.Dropped cause) not = refl
arrived_reports s lane index flow outcome.Parked not = absurd (not refl)

pub some_back : (o : Outcome) (p : Packet) → (o ≡ Parked → ⊥) → Some p ≡ back_by o p
some_back (outcome.Forward entry input outs) p not = refl
some_back (outcome.Register entry input outs told) p not = refl
some_back (outcome.Wrong entry vif report) p not = refl
some_back (outcome.Dropped cause) p not = refl
some_back outcome.Parked p not = absurd (not refl)
