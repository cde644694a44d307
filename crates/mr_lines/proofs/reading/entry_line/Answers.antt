use Rattle.std.proofs.Common.{sym, subst}
use Rattle.mr_lines.specs.Bytes.{behind, Gives}
use Rattle.mr_lines.proofs.ByteLaws.{number_leads}
use Rattle.mr_lines.proofs.reading.entry_line.Goals as goal

pub returns : goal.returns
returns c =
    subst (λ read. Gives (λ r. r.now) c.entry_by_word.result read)
    (sym (number_leads c.args.line.now c.in_ok-number.number c.in_ok-word.word.now (behind c.in_ok-number.rest.now) (behind c.in_ok-word.rest.now) c.in_ok-number.ensures c.in_ok-word.ensures))
    c.entry_by_word.ensures
