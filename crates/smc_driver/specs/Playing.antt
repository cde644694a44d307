-- What a caller did that played lines with a machine.
use Rattle.std.specs.Prelude.{◌≡◌, ◌<◌, List, ◌++◌, length}
use Rattle.mr_model.specs.Deeds.{Deed}
use Rattle.mr_model.specs.declared.caller.CallError.{CallError}
use Rattle.mr_model.specs.declared.caller.CallError.TheVariants as call_error
use Rattle.smc_core.specs.Driving.{Line}
use Rattle.smc_core.specs.Machine.{Machine}
use Rattle.smc_daemon.specs.Courses.{IsCourse, IsBegun, machine_after}

-- Its deeds went from old to new by just what the machine m makes of these lines, with the replies
-- and reports that stand in them, and m' is the machine behind them.
pub record Plays (m : Machine) (lines : List Line) (old new : List Deed) (m' : Machine) : Type 0 where
  pub deeds : List Deed
  pub grew : new ≡ old ++ deeds
  pub course : IsCourse m lines deeds
  pub machine : m' ≡ machine_after m lines deeds

-- It stopped within the lines: its deeds went from old to new by what the machine makes first. Where
-- no control entry was left, the machine makes more than that.
pub record BreaksOff (e : CallError) (m : Machine) (lines : List Line) (old new : List Deed) : Type 0 where
  pub deeds : List Deed
  pub missing : List Deed
  pub grew : new ≡ old ++ deeds
  pub begun : IsBegun m lines deeds missing
  pub full : e ≡ call_error.ControlFull → 0 < length missing
