-- The shape of the list of waiting records.
use Rattle.std.specs.Prelude.{◌≡◌, ℕ, ◌+◌, ◌<◌, ◌≤◌, false, List, [], ◌∷◌, length}
use Rattle.std.specs.List.{list_any, AllByRecursion}
use Rattle.mr_model.specs.WaitingList.{Waiter, Awaiting, is_awaiting}

-- no two records have one source and group
abbrev pub KeysDiffer : List Awaiting → Type 0
KeysDiffer [] = Unit {0}
KeysDiffer (a ∷ ws) = (list_any (is_awaiting a.src a.dst) ws ≡ false) × KeysDiffer ws

-- a record has 1 to 4 packets
abbrev pub HasPackets : Awaiting → Type 0
HasPackets a = (1 ≤ length a.packets) × (length a.packets ≤ 4)

-- a packet is of the record's source and group
abbrev pub IsOf : Awaiting → Waiter → Type 0
IsOf a w = (w.flow.src ≡ a.src) × (w.flow.dst ≡ a.dst)

abbrev pub HasItsOwn : Awaiting → Type 0
HasItsOwn a = AllByRecursion (IsOf a) a.packets

-- each record's moment is no earlier than m, and no earlier than that of the record before
abbrev pub MomentsRise : ℕ → List Awaiting → Type 0
MomentsRise m [] = Unit {0}
MomentsRise m (a ∷ ws) = (m ≤ a.since) × MomentsRise a.since ws

-- a record's moment is not after now, and less than ten seconds ago
abbrev pub IsYoung : ℕ → Awaiting → Type 0
IsYoung now a = (a.since ≤ now) × (now < a.since + 10000)
