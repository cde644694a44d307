-- The worked office with a routing machine, and the packet that one of its lanes sends.
use Rattle.std.specs.Prelude.{ℕ, List, [], ◌∷◌}
use Rattle.mr_scenario.specs.declared.scenario.Given.TheVariants.{Bytes}
use Rattle.mr_scenario.specs.declared.scenario.Item.{Item}
use Rattle.mr_scenario.specs.declared.scenario.Phase.{Phase}
use Rattle.mr_scenario.specs.declared.scenario.Scenario.{Scenario}
use Rattle.smc_daemon.specs.Worked as office

-- UDP from 10.0.2.7 to 239.2.3.4, with TTL 9 and 28 bytes
abbrev pub packet : List ℕ
packet =
    0x45 ∷ 0x00 ∷ 0x00 ∷ 0x1C ∷ 0x00 ∷ 0x00 ∷ 0x00 ∷ 0x00 ∷ 0x09 ∷ 0x11 ∷ 0xB3 ∷ 0xC4 ∷ 0x0A ∷ 0x00
    ∷ 0x02 ∷ 0x07 ∷ 0xEF ∷ 0x02 ∷ 0x03 ∷ 0x04 ∷ 0x00 ∷ 0x00 ∷ 0x00 ∷ 0x00 ∷ 0x00 ∷ 0x00 ∷ 0x00 ∷ 0x00 ∷ []

abbrev pub item : Item
item = record { line = 12; lane = office.lane 2; dev = 3; given = Bytes packet }

abbrev pub second_phase : Phase
second_phase = record office.second_phase { items = item ∷ [] }

abbrev pub scenario : Scenario
scenario = record office.scenario {
  phases = office.first_phase ∷ second_phase ∷ office.third_phase ∷ [];
}
