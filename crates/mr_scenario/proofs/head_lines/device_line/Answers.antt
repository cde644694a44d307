use Rattle.std.proofs.Common.{rules}
use Rattle.mr_scenario.proofs.Clean.{device_clean}
use Rattle.mr_scenario.proofs.head_lines.device_line.Goals as goal

pub name_of-requires-clause-clean : goal.name_of-requires-clause-clean
name_of-requires-clause-clean c = device_clean c.in_ok-name.name.now (search rules)
