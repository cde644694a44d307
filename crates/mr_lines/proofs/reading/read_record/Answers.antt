use Rattle.std.proofs.Common.{sym, ◌∙◌}
use Rattle.mr_lines.specs.Bytes.{behind}
use Rattle.mr_lines.proofs.RecordLaws.{no_record, record_whole}
use Rattle.mr_lines.proofs.reading.read_record.Goals as goal

pub returns-in-None : goal.returns-in-None
returns-in-None c = sym (no_record c.args.line.now c.in-None.ensures)

pub returns-in-Some : goal.returns-in-Some
returns-in-Some c = c.whole_record.ensures ∙ record_whole (behind c.in-Some.left.now) _ c.in-Some.ensures
