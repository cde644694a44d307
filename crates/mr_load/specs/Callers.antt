-- The lanes and daemons of a scenario, by number.
use Rattle.std.specs.Prelude.{ℕ, ◌+◌, ◌≤◌, zero, suc, Bool, false, Option, None, List, [], ◌∷◌, length, slice_get}
use Rattle.std.specs.Option.{option_map_or}
use Rattle.mr_model.specs.declared.entry.Entry.{Entry}
use Rattle.mr_model.specs.declared.entry.Entry.TheVariants.{Call, Slow, Settle, Tick, Recv, EndPhase}
use Rattle.mr_scenario.specs.PhaseLines.{is_smc}
use Rattle.mr_scenario.specs.declared.scenario.DaemonKind.{DaemonKind}
use Rattle.mr_scenario.specs.declared.scenario.Scenario.{Scenario}

-- so many numbers, of which the first is n
abbrev pub from_on : ℕ → ℕ → List ℕ
from_on n zero = []
from_on n (suc k) = n ∷ from_on (n + 1) k

-- 1 up to n
abbrev pub one_to : ℕ → List ℕ
one_to n = from_on 1 n

-- one of the numbers 1 up to k
pub record IsOneTo (k n : ℕ) : Type 0 where
  pub first : 1 ≤ n
  pub last : n ≤ k

-- The entry is of a lane or a daemon that the scenario has. The end of a phase is nobody's.
abbrev pub IsCalled : Scenario → Entry → Type 0
IsCalled s (Call d request reply released) = IsOneTo (length s.daemons) d.0
IsCalled s (Slow l index look flow outcome) = IsOneTo s.lanes l.0
IsCalled s (Settle l records) = IsOneTo s.lanes l.0
IsCalled s (Tick d ms) = IsOneTo (length s.daemons) d.0
IsCalled s (Recv d message) = IsOneTo (length s.daemons) d.0
IsCalled s EndPhase = Unit {0}

-- the sort of daemon d, counted from 1
abbrev pub kind_of : Scenario → ℕ → Option DaemonKind
kind_of s zero = None
kind_of s (suc i) = slice_get s.daemons i

-- whether daemon d is driven by a routing machine
abbrev pub has_machine : Scenario → ℕ → Bool
has_machine s d = option_map_or is_smc (kind_of s d) false
