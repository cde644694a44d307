-- What is wrong with a command, and the line that says so.
use Rattle.std.specs.Prelude.{ℕ, Bool, if◌then◌else◌, Result, Ok, Err, List, codes}
use Rattle.smc_core.specs.declared.mistake.Mistake.{Mistake}
use Rattle.smc_core.specs.declared.mistake.Mistake.TheVariants as mistake

abbrev pub wants : Bool → Mistake → Result (Unit {0}) Mistake
wants test e = if test then Ok tt else Err e

abbrev pub mistake_line : Mistake → List ℕ
mistake_line mistake.NotRunning = codes "error not running\n"
mistake_line mistake.Running = codes "error running\n"
mistake_line mistake.Usage = codes "error usage\n"
mistake_line mistake.Address = codes "error address\n"
mistake_line mistake.Interface = codes "error interface\n"
mistake_line mistake.NoRoute = codes "error no such route\n"
mistake_line mistake.NoGroup = codes "error no such group\n"
