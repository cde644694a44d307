-- What each input gives.
use Rattle.std.specs.Prelude.{◌≡◌, ◌<◌, Result, Ok, Err}
use Rattle.mr_base.specs.declared.numbers.Memory.{Memory}
use Rattle.smc_core.specs.Answers.{turn_of}
use Rattle.smc_core.specs.Machine.{Machine, Turn}
use Rattle.smc_core.specs.Replies.{reply}
use Rattle.smc_core.specs.Reports.{report}
use Rattle.smc_core.specs.Smc.{command}
use Rattle.smc_core.specs.declared.input.Input.{Input}
use Rattle.smc_core.specs.declared.input.Input.TheVariants as input
use Rattle.smc_core.specs.declared.input.Output.{Output}

-- A reply comes exactly while one is waited for.
abbrev pub IsDue : Machine → Input → Type 0
IsDue m (input.Reply r) = 0 < m.plan.left
IsDue m i = m.plan.left ≡ 0

abbrev pub turn : Machine → Input → Turn
turn m (input.Command words) = command m words.now
turn m (input.Reply r) = reply m r
turn m (input.Upcall told) = report m told

-- An input takes the machine from old to new so; without memory it leaves it as it was.
abbrev pub Takes : Result Output Memory → Machine → Machine → Turn → Type 0
Takes (Ok o) old new t = t ≡ turn_of new o
Takes (Err e) old new t = new ≡ old
