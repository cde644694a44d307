-- The routing machines of a scenario's daemons, before their first line.
use Rattle.std.specs.Prelude.{Option, Some, None, List, map}
use Rattle.mr_base.specs.Outside.{Files}
use Rattle.mr_scenario.specs.declared.scenario.DaemonKind.{DaemonKind}
use Rattle.mr_scenario.specs.declared.scenario.DaemonKind.TheVariants.{Plain, Admin, Smc}
use Rattle.mr_scenario.specs.declared.scenario.Scenario.{Scenario}
use Rattle.smc_core.specs.Machine.{Machine}
use Rattle.smc_daemon.specs.Machines.{machine_of}

-- the machine of a daemon, if it has one
abbrev pub machine_for : Files → Scenario → DaemonKind → Option Machine
machine_for files s (Smc names) = Some (machine_of files s names)
machine_for files s Plain = None
machine_for files s Admin = None

-- for each daemon, from daemon 1 on
abbrev pub machines_in : Files → Scenario → List (Option Machine)
machines_in files s = map (machine_for files s) s.daemons
