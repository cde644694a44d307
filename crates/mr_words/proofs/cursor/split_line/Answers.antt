use Rattle.mr_words.proofs.Cuts.{split_at_end}
use Rattle.mr_words.proofs.cursor.split_line.Goals as goal

pub returns : goal.returns
returns c =
    rw c.past.ensures
    (split_at_end c.args.bytes.now c.line_end-end.result c.requires c.line_end-end.ensures.bound c.line_end-end.ensures.clean c.line_end-end.ensures.stops)
