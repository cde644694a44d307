-- A scenario of two phases with two lanes and two daemons, and a history of it in which they stand beside each other.
use Rattle.std.specs.Prelude.{ℕ, true, false, None, List, [], ◌∷◌, ◌++◌}
use Rattle.mr_base.specs.Outside.{Files}
use Rattle.mr_base.specs.WorkedHeads as heads
use Rattle.mr_base.specs.declared.errno.Errno.TheVariants.{Access}
use Rattle.mr_lines.specs.declared.skip.Skip.{Skip}
use Rattle.mr_load.specs.Dues.{Due, LaneValue}
use Rattle.mr_model.specs.declared.entry.Entry.{Entry}
use Rattle.mr_model.specs.declared.entry.Entry.TheVariants.{EndPhase, Recv, Settle, Slow, Tick}
use Rattle.mr_model.specs.declared.flow.Flow.{Flow}
use Rattle.mr_model.specs.declared.reply.Reply.TheVariants.{Value}
use Rattle.mr_model.specs.declared.request.Request.TheVariants.{GetVersion, Init, Unknown}
use Rattle.mr_rows.specs.Samples.{source, group, devices_at, limits_of, daemon, lane, add_vif, add_mfc, call, good, refused, packet, forward, fast}
use Rattle.mr_scenario.specs.declared.scenario.DaemonKind.TheVariants.{Plain, Admin}
use Rattle.mr_scenario.specs.declared.scenario.Given.TheVariants.{Bytes}
use Rattle.mr_scenario.specs.declared.scenario.Item.{Item}
use Rattle.mr_scenario.specs.declared.scenario.Phase.{Phase}
use Rattle.mr_scenario.specs.declared.scenario.Scenario.{Scenario}
use Rattle.mr_scenario.specs.declared.scenario.Script.{Script}
use Rattle.mr_scenario.specs.declared.scenario.Script.TheVariants as script
use Rattle.mr_scenario.specs.declared.scenario.ScriptLine.{ScriptLine}

-- There are no files: the scenario names none.
abbrev pub files : Files
files name = None

-- a line with an item of a lane that comes on device 1
abbrev pub item : ℕ → ℕ → List ℕ → Item
item line l bytes = record { line = line; lane = lane l; dev = 1; given = Bytes bytes }

abbrev pub asks : ℕ → ℕ → Script → ScriptLine
asks line d s = record { line = line; daemon = daemon d; script = s }

-- The second item's head is refused.
abbrev pub first_phase : Phase
first_phase = record {
  line = 7;
  items = item 8 1 heads.packet ∷ item 9 2 heads.short ∷ item 12 2 heads.packet ∷ [];
  script =
      asks 10 1 (script.Ask Init)
      ∷ asks 11 1 (script.Ask (add_vif 0 8 1))
      ∷ asks 13 2 (script.Table 9)
      ∷ asks 14 1 (script.Ask (add_vif 1 8 2))
      ∷ asks 15 2 (script.Tick 5)
      ∷ asks 16 1 (script.Ask (add_mfc source group 0 ((1, 1) ∷ []))) ∷ [];
}

abbrev pub second_phase : Phase
second_phase = record {
  line = 17;
  items = item 18 2 heads.packet ∷ item 19 1 heads.packet ∷ [];
  script = asks 20 2 script.Recv ∷ asks 21 1 (script.Ask GetVersion) ∷ [];
}

abbrev pub scenario : Scenario
scenario = record {
  limits = limits_of 2 (0 ∷ 0 ∷ []) (true ∷ false ∷ []) (devices_at (0 ∷ 1 ∷ []));
  devices = record { name = 97 ∷ []; addr = record { 0 = 167772161 } } ∷ record { name = 98 ∷ []; addr = record { 0 = 167772417 } } ∷ [];
  lanes = 2;
  daemons = Admin ∷ Plain ∷ [];
  phases = first_phase ∷ second_phase ∷ [];
}

-- the refused item: the first of lane 2, which is too short
abbrev pub skips : List Skip
skips = record { lane = lane 2; index = 1; cause = 1 } ∷ []

-- a packet that came on device 1, with its phase and its number
abbrev pub due : ℕ → ℕ → Due
due k n = record { phase = k; index = n; dev = 1; bytes = heads.packet }

-- Each lane's packets. Those of lane 2 are its items 2 and 3.
abbrev pub lanes : List LaneValue
lanes =
    record { lane = lane 1; packets = due 0 1 ∷ due 1 2 ∷ [] }
    ∷ record { lane = lane 2; packets = due 0 2 ∷ due 1 3 ∷ [] } ∷ []

abbrev pub flow : Flow
flow = packet 1 source group 2

abbrev pub tables_made : List Entry
tables_made =
    good 1 Init
    ∷ refused 2 (Unknown 209) Access
    ∷ good 1 (add_vif 0 8 1)
    ∷ good 1 (add_vif 1 8 2)
    ∷ Tick (daemon 2) 5
    ∷ good 1 (add_mfc source group 0 ((1, 1) ∷ [])) ∷ []

-- the entries of each phase
abbrev pub first_part : List Entry
first_part =
    tables_made
    ++ Slow (lane 2) 2 6 flow (forward 6 0 (1 ∷ []))
    ∷ Slow (lane 1) 1 7 flow (forward 6 0 (1 ∷ [])) ∷ []

abbrev pub second_part : List Entry
second_part =
    Settle (lane 2) (fast 3 9 flow 6 0 (1 ∷ []) ∷ [])
    ∷ Recv (daemon 2) None
    ∷ call 1 GetVersion (Value 773)
    ∷ Slow (lane 1) 2 12 flow (forward 6 0 (1 ∷ [])) ∷ []

abbrev pub history : List Entry
history = first_part ++ EndPhase ∷ second_part ++ EndPhase ∷ []
