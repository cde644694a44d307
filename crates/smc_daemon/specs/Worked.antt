-- The worked text of an office with two lanes: its smcroute daemon starts, a packet misses, and it
-- polls. The items of its lanes are left out here.
use Rattle.std.specs.Prelude.{ℕ, true, Some, None, if◌then◌else◌, List, [], ◌∷◌, ◌++◌}
use Rattle.std.specs.Prelude.{bytes_eq, codes}
use Rattle.mr_base.specs.Outside.{Files}
use Rattle.mr_base.specs.declared.numbers.DaemonNo.{DaemonNo}
use Rattle.mr_base.specs.declared.numbers.LaneNo.{LaneNo}
use Rattle.mr_model.specs.declared.entry.Entry.{Entry}
use Rattle.mr_model.specs.declared.entry.Entry.TheVariants.{Call, Slow, Recv, EndPhase}
use Rattle.mr_model.specs.declared.flow.Flow.{Flow}
use Rattle.mr_model.specs.declared.message.Kind.TheVariants as kind
use Rattle.mr_model.specs.declared.outcome.Outcome.TheVariants as outcome
use Rattle.mr_model.specs.declared.reply.Reply.TheVariants as answer
use Rattle.mr_model.specs.declared.request.Request.{Request}
use Rattle.mr_model.specs.declared.request.Request.TheVariants as request
use Rattle.mr_scenario.specs.declared.scenario.DaemonKind.TheVariants.{Admin, Smc}
use Rattle.mr_scenario.specs.declared.scenario.Phase.{Phase}
use Rattle.mr_scenario.specs.declared.scenario.Scenario.{Scenario}
use Rattle.mr_scenario.specs.declared.scenario.Script.{Script}
use Rattle.mr_scenario.specs.declared.scenario.Script.TheVariants as script
use Rattle.mr_scenario.specs.declared.scenario.ScriptLine.{ScriptLine}
use Rattle.smc_conf.specs.WorkedConfigurations.{office}
use Rattle.smc_core.specs.Machine.{Machine}
use Rattle.smc_core.specs.Worked.{addr, add_vif, add_mfc, news, film}
use Rattle.smc_daemon.specs.Courses.{machine_behind}
use Rattle.smc_daemon.specs.Machines.{machine_of}
use Rattle.smc_daemon.specs.Reaching.{Reach}
use Rattle.smc_words.specs.Words.{Word}

abbrev pub conf_name : Word
conf_name = codes "smcroute.conf"

abbrev pub files : Files
files name = if bytes_eq name conf_name then Some office else None

abbrev pub daemon : ℕ → DaemonNo
daemon n = record { 0 = n }

abbrev pub lane : ℕ → LaneNo
lane n = record { 0 = n }

abbrev pub line : ℕ → ℕ → Script → ScriptLine
line n d s = record { line = n; daemon = daemon d; script = s }

abbrev pub phase : ℕ → List ScriptLine → Phase
phase n ls = record { line = n; items = []; script = ls }

-- The second daemon, an admin, looks at the version.
abbrev pub first_phase : Phase
first_phase =
    phase 8 (line 9 1 script.Start ∷ line 10 2 (script.Ask request.GetVersion) ∷ [])

abbrev pub second_phase : Phase
second_phase = phase 11 []

abbrev pub third_phase : Phase
third_phase = phase 14 (line 15 1 (script.Poll 4) ∷ [])

abbrev pub scenario : Scenario
scenario = record {
  limits = record {
    entries = 1024;
    unresolved = 10;
    controls = 65536;
    phases = 3;
    packets = 0 ∷ 0 ∷ [];
    admins = true ∷ true ∷ [];
    devices =
        record { addr = addr 0x0A000001 } ∷ record { addr = addr 0x0A000101 }
        ∷ record { addr = addr 0x0A000201 } ∷ [];
  };
  devices =
      record { name = codes "eth0"; addr = addr 0x0A000001 }
      ∷ record { name = codes "eth1"; addr = addr 0x0A000101 }
      ∷ record { name = codes "eth2"; addr = addr 0x0A000201 } ∷ [];
  lanes = 2;
  daemons = Smc (conf_name ∷ []) ∷ Admin ∷ [];
  phases = first_phase ∷ second_phase ∷ third_phase ∷ [];
}

abbrev pub machine : Machine
machine = machine_of files scenario (conf_name ∷ [])

abbrev pub call : ℕ → Request → Entry
call d r = Call (daemon d) r answer.Good []

abbrev pub started : List Entry
started =
    call 1 request.Init ∷ call 1 (add_vif 0 1)
    ∷ Call (daemon 2) request.GetVersion (answer.Value 773) []
    ∷ call 1 (add_vif 1 2) ∷ call 1 (add_vif 2 3)
    ∷ call 1 (add_mfc (addr 0x0A000009) news 0 (0 ∷ 1 ∷ 1 ∷ []) 29) ∷ []

abbrev pub started_without_vif : List Entry
started_without_vif =
    call 1 request.Init ∷ call 1 (add_vif 0 1) ∷ call 1 (add_vif 1 2)
    ∷ call 1 (add_mfc (addr 0x0A000009) news 0 (0 ∷ 1 ∷ 1 ∷ []) 29) ∷ []

abbrev pub flow : Flow
flow = record { dev = 3; src = addr 0x0A000207; dst = film; ttl = 9; length = 28 }

abbrev pub missed : List Entry
missed = Slow (lane 2) 1 7 flow outcome.Parked ∷ []

abbrev pub heard : Entry
heard = Recv (daemon 1) (Some (record { kind = kind.NoCache; vif = 2; lane = lane 2; index = 1 }))

abbrev pub learned : Entry
learned = call 1 (add_mfc (addr 0x0A000207) film 2 (0 ∷ 1 ∷ []) 30)

abbrev pub heard_none : Entry
heard_none = Recv (daemon 1) None

abbrev pub polled : List Entry
polled = heard ∷ learned ∷ heard_none ∷ []

abbrev pub before : List Entry
before = started ++ EndPhase ∷ missed ++ EndPhase ∷ []

-- the same, but the packet has another source
abbrev pub before_other : List Entry
before_other =
    started ++ EndPhase ∷ Slow (lane 2) 1 7 (record flow { src = addr 0x0A000208 }) outcome.Parked
    ∷ EndPhase ∷ []

abbrev pub history : List Entry
history = started ++ EndPhase ∷ missed ++ EndPhase ∷ polled ++ EndPhase ∷ []

-- the machine behind the first phase
abbrev pub running : Machine
running = machine_behind 1 machine first_phase [] started

-- the third phase is begun, and its report is not handled yet
abbrev pub reach : Reach
reach = record {
  done = first_phase ∷ second_phase ∷ [];
  before = before;
  begun = third_phase;
  part = heard ∷ [];
  ahead = [];
}
