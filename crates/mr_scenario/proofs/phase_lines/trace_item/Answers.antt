use Rattle.std.proofs.Common.{rules}
use Rattle.mr_scenario.proofs.Clean.{file_clean}
use Rattle.mr_scenario.proofs.phase_lines.trace_item.Goals as goal

pub name_of-requires-clause-clean : goal.name_of-requires-clause-clean
name_of-requires-clause-clean c = file_clean c.args.file.now (search rules)
