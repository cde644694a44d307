use Rattle.std.proofs.Common.{◌≡◌, ◌∙◌, List, length, sym, ap}
use Rattle.smc_core.specs.Driving.{Command, driven}
use Rattle.smc_core.specs.Machine.{Turn}
use Rattle.smc_daemon.proofs.Extending.{line_extends}
use Rattle.smc_driver.proofs.Leading.{lost}
use Rattle.smc_driver.proofs.Waiting.{Waits, command_waits}
use Rattle.smc_driver.proofs.asking.command.Goals as goal

pub work_off-requires : goal.work_off-requires
work_off-requires g c =
    let w = command_waits c.args.smc.now c.args.words.now c.requires.idle in
    record { waits = sym (ap (λ (t : Turn). t.machine.plan.left) c.in-Ok.ensures) ∙ w.is ∙ ap (λ (t : Turn). length t.requests) c.in-Ok.ensures }

pub returns-in-Err-clause-err : goal.returns-in-Err-clause-err
returns-in-Err-clause-err g c = lost (λ x. driven x (Command c.args.words.now)) c.args.smc.now _ (λ x. line_extends x (Command c.args.words.now))
