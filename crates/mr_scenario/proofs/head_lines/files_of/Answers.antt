use Rattle.std.proofs.Common.{rules}
use Rattle.mr_scenario.proofs.Clean.{file_clean}
use Rattle.mr_scenario.proofs.head_lines.files_of.Goals as goal

pub name_of-requires-clause-clean : goal.name_of-requires-clause-clean
name_of-requires-clause-clean c = file_clean c.in-Some.word.now (search rules)
