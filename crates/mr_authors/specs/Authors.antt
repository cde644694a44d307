-- Who made an entry of the history, as a number: 0 for the router itself, which ends the phases, L for
-- lane L, and 16 + D for daemon D.
use Rattle.std.specs.Prelude.{ℕ, ◌+◌, ◌==◌, List, filter}
use Rattle.mr_model.specs.declared.entry.Entry.{Entry}
use Rattle.mr_model.specs.declared.entry.Entry.TheVariants.{Call, Slow, Settle, Tick, Recv, EndPhase}

-- the number of a daemon among all callers
abbrev pub daemon_author : ℕ → ℕ
daemon_author d = 16 + d

abbrev pub author : Entry → ℕ
author (Call d r reply released) = daemon_author d.0
author (Slow lane index look flow o) = lane.0
author (Settle lane records) = lane.0
author (Tick d ms) = daemon_author d.0
author (Recv d message) = daemon_author d.0
author EndPhase = 0

-- the entries of one author, in order
abbrev pub own : ℕ → List Entry → List Entry
own n h = filter (λ e. author e == n) h
