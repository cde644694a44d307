-- The scenario that a seed makes: its daemon adds vifs and (S,G) entries in the first phase, and in the second one each lane sends
-- packets of entries that its generator draws.
use Rattle.std.specs.Prelude.{ℕ, ◌+◌, ◌%◌, true, List, [], ◌∷◌, flat_map, map, replicate}
use Rattle.mr_base.specs.declared.limits.TheConstants.{DEFAULT_CONTROLS, DEFAULT_ENTRIES, DEFAULT_UNRESOLVED}
use Rattle.mr_gen.specs.declared.routes.TheConstants.{ENTRIES}
use Rattle.mr_gen.specs.Entries.{devices, packet_of, parent_of, script_lines}
use Rattle.mr_gen.specs.Words.{words_of}
use Rattle.mr_load.specs.Callers.{one_to}
use Rattle.mr_model.specs.declared.limits.Limits.{Limits}
use Rattle.mr_scenario.specs.declared.scenario.DaemonKind.TheVariants.{Admin}
use Rattle.mr_scenario.specs.declared.scenario.Given.TheVariants.{Bytes}
use Rattle.mr_scenario.specs.declared.scenario.Item.{Item}
use Rattle.mr_scenario.specs.declared.scenario.Phase.{Phase}
use Rattle.mr_scenario.specs.declared.scenario.Scenario.{Scenario}
use Rattle.mr_scenario.specs.Spelled.{address_only}

-- The word w of a lane: its packet is that of entry w mod 64, on the device of the entry's parent.
abbrev pub item_of : (lane w : ℕ) → Item
item_of lane w =
    let k = w % ENTRIES in
    record { line = 0; lane = record { 0 = lane }; dev = parent_of k + 1; given = Bytes (packet_of k) }

-- so many packets of a lane
abbrev pub items_of : (seed packets lane : ℕ) → List Item
items_of seed packets lane = map (item_of lane) (words_of seed lane packets)

-- the packets of all lanes, lane by lane
abbrev pub items : (seed lanes packets : ℕ) → List Item
items seed lanes packets = flat_map (items_of seed packets) (one_to lanes)

abbrev pub limits : ℕ → Limits
limits lanes = record {
  entries = DEFAULT_ENTRIES;
  unresolved = DEFAULT_UNRESOLVED;
  controls = DEFAULT_CONTROLS;
  phases = 2;
  packets = replicate lanes 0;
  admins = true ∷ [];
  devices = map address_only devices;
}

-- the daemon's phase, and the phase of these lines of lanes
abbrev pub phases : List Item → List Phase
phases is =
    record { line = 0; items = []; script = script_lines }
    ∷ record { line = 0; items = is; script = [] } ∷ []

abbrev pub generated : (seed lanes packets : ℕ) → Scenario
generated seed lanes packets = record {
  limits = limits lanes;
  devices = devices;
  lanes = lanes;
  daemons = Admin ∷ [];
  phases = phases (items seed lanes packets);
}
