use Rattle.mr_lines.proofs.ByteLaws.{word_first}
use Rattle.mr_lines.proofs.cursor.first_word.Goals as goal

pub returns : goal.returns
returns c = rw c.from_index.ensures (word_first c.args.bytes.now c.word_end-end.result c.word_end-end.ensures.bound c.word_end-end.ensures.clean c.word_end-end.ensures.stops)
