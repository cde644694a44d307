use Rattle.std.proofs.Common.{sym, ◌∙◌}
use Rattle.mr_lines.proofs.WordLaws.{name_plain}
use Rattle.mr_lines.proofs.words.name_of.Goals as goal

pub name_of-requires-clause-clean : goal.name_of-requires-clause-clean
name_of-requires-clause-clean c = name_plain c.args.word.now (sym c.is_vif_name.ensures ∙ c.if-is_vif_name.true)
