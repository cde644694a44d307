-- Laws of what is loaded.
use Rattle.std.specs.Prelude.{◌≡◌, ℕ, ◌+◌, ◌≤◌, List, [], length, map}
use Rattle.std.specs.List.{AllByRecursion}
use Rattle.mr_base.specs.Outside.{Files}
use Rattle.mr_load.specs.Dues.{sent_of, dues_in, dues_from}
use Rattle.mr_load.specs.Loading.{skips_from, items_in}
use Rattle.mr_load.specs.Made.{packets_from, items_of, to_send}
use Rattle.mr_scenario.specs.declared.scenario.Item.{Item}
use Rattle.mr_scenario.specs.declared.scenario.Phase.{Phase}

-- every item of a lane is a packet or a skip
abbrev pub EveryItem : Type 0
EveryItem = (files : Files) (lane n : ℕ) (is : List Item)
    → length (packets_from files lane n is) + length (skips_from files lane n is) ≡ items_of files lane is

-- the packets that a lane has of a phase are those that it is to send in it
abbrev pub SentInPhase : Type 0
SentInPhase = (files : Files) (lane k : ℕ) (before : List Item) (p : Phase) → map sent_of (dues_in files lane k before p) ≡ to_send files lane before p

-- each of them has the phase's number
abbrev pub OfPhase : Type 0
OfPhase = (files : Files) (lane k : ℕ) (before : List Item) (p : Phase) → AllByRecursion (λ d. d.phase ≡ k) (dues_in files lane k before p)

-- from a phase on, no packet has a lesser number
abbrev pub OfLaterPhases : Type 0
OfLaterPhases = (files : Files) (lane k : ℕ) (before : List Item) (ps : List Phase) → AllByRecursion (λ d. k ≤ d.phase) (dues_from files lane k before ps)

-- a lane has as many packets as items with an accepted head
abbrev pub PacketCount : Type 0
PacketCount = (files : Files) (lane : ℕ) (ps : List Phase) → length (dues_from files lane 0 [] ps) ≡ length (packets_from files lane 1 (items_in ps))
