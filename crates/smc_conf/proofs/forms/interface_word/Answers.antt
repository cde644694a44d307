use Rattle.std.proofs.Common.{rules}
use Rattle.smc_conf.proofs.Clean.{device_clean}
use Rattle.smc_conf.proofs.forms.interface_word.Goals as goal

pub returns-clause-clean : goal.returns-clause-clean
returns-clause-clean c = device_clean c.in_ok-name.name.now (search rules)
