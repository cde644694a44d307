-- How many control entries (calls, ticks and receives) the daemons of a scenario make: at least so
-- many, and at most so many.
use Rattle.std.specs.Prelude.{ℕ, ◌+◌, ◌*◌, ◌==◌, min, if◌then◌else◌, List, [], ◌∷◌}
use Rattle.std.specs.Prelude.{flat_map, length, sum_by}
use Rattle.mr_base.specs.Outside.{Files}
use Rattle.mr_scenario.specs.declared.scenario.DaemonKind.{DaemonKind}
use Rattle.mr_scenario.specs.declared.scenario.DaemonKind.TheVariants.{Plain, Admin, Smc}
use Rattle.mr_scenario.specs.declared.scenario.Phase.{Phase}
use Rattle.mr_scenario.specs.declared.scenario.Scenario.{Scenario}
use Rattle.mr_scenario.specs.declared.scenario.Script.{Script}
use Rattle.mr_scenario.specs.declared.scenario.Script.TheVariants as script
use Rattle.smc_core.specs.Driving.{Line, Poll, smc}
use Rattle.smc_daemon.specs.Lines.{lines_in}
use Rattle.smc_daemon.specs.Machines.{machine_of}

-- how many lines of a phase are a daemon's
abbrev pub lines_of : ℕ → Phase → ℕ
lines_of d p = sum_by (λ l. if l.daemon.0 == d then 1 else 0) p.script

-- A line of a daemon without a machine makes one entry. A machine makes what it does where every
-- receive gives none.
abbrev pub least_by : Files → Scenario → ℕ → DaemonKind → ℕ
least_by files scenario d (Smc names) =
    length
    (smc (machine_of files scenario names) (flat_map (lines_in d) scenario.phases) []).deeds
least_by files scenario d Plain = sum_by (lines_of d) scenario.phases
least_by files scenario d Admin = sum_by (lines_of d) scenario.phases

-- those of daemons of which the first has number d
abbrev pub least_from : Files → Scenario → ℕ → List DaemonKind → ℕ
least_from files scenario d [] = 0
least_from files scenario d (k ∷ ks) =
    least_by files scenario d k + least_from files scenario (d + 1) ks

abbrev pub least : Files → Scenario → ℕ
least files scenario = least_from files scenario 1 scenario.daemons

abbrev pub receives : Script → ℕ
receives (script.Poll n) = n
receives s = 0

-- how many reports a line of a machine asks for
abbrev pub asked_reports : Line → ℕ
asked_reports (Poll n) = n
asked_reports l = 0

-- how many receives the polls ask for
abbrev pub polled : Scenario → ℕ
polled scenario = sum_by (λ p. sum_by (λ l. receives l.script) p.script) scenario.phases

-- A report that is received makes at most three entries beside those: its receive, its route, and
-- later the removal of that. A packet makes at most three reports, one learned route and one
-- removal of it.
abbrev pub most : Files → Scenario → ℕ → ℕ
most files scenario packets =
    least files scenario + min (3 * polled scenario) (5 * packets)
