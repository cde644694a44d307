-- Waiting records, an entry and parkings on which the words of the laws are evaluated.
use Rattle.std.specs.Prelude.{ℕ, ◌+◌, false, List, [], ◌∷◌}
use Rattle.mr_base.specs.declared.numbers.Addr.{Addr}
use Rattle.mr_base.specs.declared.numbers.LaneNo.{LaneNo}
use Rattle.mr_base.specs.declared.route.Route.{Route}
use Rattle.mr_model.specs.declared.ending.Fate.TheVariants.{Waiting}
use Rattle.mr_model.specs.declared.ending.FateLine.{FateLine}
use Rattle.mr_model.specs.declared.entry.Entry.{Entry}
use Rattle.mr_model.specs.declared.entry.Entry.TheVariants.{Slow}
use Rattle.mr_model.specs.declared.entry.ReleasedId.{ReleasedId}
use Rattle.mr_model.specs.declared.flow.Flow.{Flow}
use Rattle.mr_model.specs.declared.outcome.Cause.TheVariants.{NoVif}
use Rattle.mr_model.specs.declared.outcome.Outcome.TheVariants.{Parked, Dropped}
use Rattle.mr_model.specs.WaitingList.{Waiter, Awaiting}

-- 10.0.0.n
abbrev pub source : ℕ → Addr
source n = record { 0 = 167772160 + n }

-- 239.1.1.1
abbrev pub group : Addr
group = record { 0 = 4009820417 }

abbrev pub lane : ℕ → LaneNo
lane n = record { 0 = n }

abbrev pub flow : ℕ → Flow
flow n = record { dev = 1; src = source n; dst = group; ttl = 9; length = 28 }

-- the packet of lane 1 with this index, from 10.0.0.n
abbrev pub from : ℕ → ℕ → Waiter
from n index = record { lane = lane 1; index = index; flow = flow n }

-- packets that wait for an entry of 10.0.0.n and the group since a moment
abbrev pub waits : ℕ → ℕ → List Waiter → Awaiting
waits n since packets = record { src = source n; dst = group; since = since; packets = packets }

abbrev pub four : List Waiter
four = from 1 1 ∷ from 1 2 ∷ from 1 3 ∷ from 1 4 ∷ []

-- the entry of 10.0.0.n and the group
abbrev pub entry : ℕ → Route
entry n = record { number = 5; src = source n; dst = group; parent = 0; ttls = []; fixed = false }

abbrev pub released : ℕ → ReleasedId
released index = record { lane = lane 1; index = index; outcome = Dropped NoVif }

abbrev pub parked : ℕ → Entry
parked index = Slow (lane 1) index 0 (flow 1) Parked

abbrev pub dropped : ℕ → Entry
dropped index = Slow (lane 1) index 0 (flow 1) (Dropped NoVif)

abbrev pub line : ℕ → FateLine
line index = record { lane = lane 1; index = index; fate = Waiting }
