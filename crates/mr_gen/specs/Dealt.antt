-- The packets that a lane is given for the words of its generator.
use Rattle.std.specs.Prelude.{◌≡◌, ℕ, ◌+◌, ◌%◌, None, List, [], ◌∷◌, map, replicate}
use Rattle.std.specs.List.{AllByRecursion}
use Rattle.mr_gen.specs.declared.routes.TheConstants.{ENTRIES}
use Rattle.mr_gen.specs.Entries.{packet_of, parent_of}
use Rattle.mr_gen.specs.Generated.{limits}
use Rattle.mr_gen.specs.Words.{words_of}
use Rattle.mr_load.specs.Callers.{from_on, one_to}
use Rattle.mr_load.specs.Dues.{Due, LaneValue, IsBefore}
use Rattle.mr_load.specs.declared.loading.Loaded.{Loaded}

-- the packets of all entries, in their order
abbrev pub packet_table : List (List ℕ)
packet_table = map packet_of (from_on 0 64)

-- the packet of a word, with its number in the lane
abbrev pub dealt : (index w : ℕ) → Due
dealt index w =
    let k = w % ENTRIES in
    record { phase = 1; index = index; dev = parent_of k + 1; bytes = packet_of k }

-- those of words in their order, of which the first has this number
abbrev pub dealt_from : ℕ → List ℕ → List Due
dealt_from n [] = []
dealt_from n (w ∷ ws) = dealt n w ∷ dealt_from (n + 1) ws

abbrev pub lane_dealt : (seed packets lane : ℕ) → LaneValue
lane_dealt seed packets lane =
    record { lane = record { 0 = lane }; packets = dealt_from 1 (words_of seed lane packets) }

-- A packet with this number may stand behind those of the lane.
abbrev pub IsBehind : ℕ → LaneValue → Type 0
IsBehind index v = AllByRecursion (IsBefore index 1) v.packets

-- what is loaded beside the scenario itself
pub record IsDealt (seed many packets : ℕ) (l : Loaded) : Type 0 where
  pub limits : l.limits ≡ record (limits many) { packets = replicate many packets }
  pub lanes : l.lanes ≡ map (lane_dealt seed packets) (one_to many)
  pub skips : l.skips ≡ []
  pub skip_devs : l.skip_devs ≡ []
  pub machines : l.machines ≡ None ∷ []
