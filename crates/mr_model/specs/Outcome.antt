-- What becomes of a packet that is decided under the lock (ipmr.c, ip_mr_forward and ipmr_cache_unresolved).
use Rattle.std.specs.Prelude.{ℕ, ◌+◌, ◌&&◌, ◌||◌, Bool, true, false, is_none, nat_lt, nat_le, if◌then◌else◌, Option, Some, None, List, length}
use Rattle.mr_base.specs.declared.route.Route.{Route}
use Rattle.mr_model.specs.declared.entry.Entry.{Entry}
use Rattle.mr_model.specs.declared.flow.Flow.{Flow}
use Rattle.mr_model.specs.declared.limits.Limits.{Limits}
use Rattle.mr_model.specs.declared.outcome.Cause.TheVariants as cause
use Rattle.mr_model.specs.declared.outcome.Outcome.{Outcome}
use Rattle.mr_model.specs.declared.outcome.Outcome.TheVariants.{Forward, Register, Wrong, Parked, Dropped}
use Rattle.mr_model.specs.declared.outcome.Report.{Report}
use Rattle.mr_model.specs.declared.outcome.Report.TheVariants.{Quiet, Told, Lost}
use Rattle.mr_model.specs.declared.verdict.Verdict.{Verdict}
use Rattle.mr_model.specs.declared.verdict.Verdict.TheVariants as verdict
use Rattle.mr_model.specs.VifList.{vif_on}
use Rattle.mr_model.specs.WaitingList.{Awaiting, awaiting_of}
use Rattle.mr_model.specs.Messages.{last_attempt}
use Rattle.mr_model.specs.State.{State, state}
use Rattle.mr_model.specs.Found.{reaches, found_in}
use Rattle.mr_model.specs.Verdict.{judge_in}
use Rattle.mr_model.specs.Unread.{accepts_in}

-- no attempt yet, or the last one more than 3,000 ms ago (MFC_ASSERT_THRESH)
abbrev pub is_due : ℕ → Option ℕ → Bool
is_due now None = true
is_due now (Some last) = nat_lt (last + 3000) now

-- Whether a wrong interface is to be reported: assert is on, pim is on or the route reaches the vif, and a report is due.
abbrev pub asks_report : State → Route → Option ℕ → Bool
asks_report s r None = false
asks_report s r (Some i) = s.tables.asserts && (s.tables.pim || reaches r i) && is_due s.now (last_attempt s.attempts r.number)

abbrev pub wrong_report : State → Route → Option ℕ → Report
wrong_report s r v = if asks_report s r v then (if accepts_in s then Told else Lost) else Quiet

-- what a route's verdict comes to
abbrev pub decided : State → Route → Verdict → Outcome
decided s r (verdict.Forward entry input outs) = Forward entry input outs
decided s r (verdict.Register entry input outs) = Register entry input outs (accepts_in s)
decided s r (verdict.Wrong entry vif) = Wrong entry vif (wrong_report s r vif)
-- no route's verdict is a miss
decided s r (verdict.Miss vif) = Parked
decided s r verdict.NoVif = Parked

-- the outcome of a packet that meets this route
abbrev pub judged : State → Route → ℕ → ℕ → Outcome
judged s r dev ttl = decided s r (judge_in s.tables.vifs s.tables.routes r dev ttl)

-- a packet whose source and group have no waiting entry
abbrev pub parks_new : Limits → State → Outcome
parks_new limits s =
    if nat_le limits.unresolved (length s.waiting) then Dropped cause.Entries
    else (if is_none s.owner then Dropped cause.NoDaemon
    else (if nat_le 64 (length s.unread) then Dropped cause.Upcall
    else Parked))

abbrev pub joins : Limits → State → Option Awaiting → Outcome
joins limits s (Some a) = if nat_le 4 (length a.packets) then Dropped cause.Packets else Parked
joins limits s None = parks_new limits s

-- A packet that meets no route: the first cause that holds drops it, else it waits.
abbrev pub unmet : Limits → State → Flow → Option ℕ → Outcome
unmet limits s flow None = Dropped cause.NoVif
unmet limits s flow (Some i) = joins limits s (awaiting_of s.waiting flow.src flow.dst)

abbrev pub outcome_met : Limits → State → Flow → Option Route → Outcome
outcome_met limits s flow None = unmet limits s flow (vif_on s.tables.vifs flow.dev)
outcome_met limits s flow (Some r) = judged s r flow.dev flow.ttl

abbrev pub outcome_in : Limits → State → Flow → Outcome
outcome_in limits s flow = outcome_met limits s flow (found_in s.tables.vifs s.tables.routes flow.dev flow.src flow.dst)

-- the outcome of a packet after a history
abbrev pub outcome : Limits → List Entry → Flow → Outcome
outcome limits h flow = outcome_in limits (state limits h) flow
