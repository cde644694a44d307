use Rattle.mr_words.proofs.Cuts.{part_first, part_alone}
use Rattle.mr_words.proofs.parts.split_part.Goals as goal

pub returns-then-end-word : goal.returns-then-end-word
returns-then-end-word c =
    rw c.past.ensures (part_first c.args.sep c.args.word.now c.part_end-end.result c.if-end-word.true c.part_end-end.ensures.clean c.part_end-end.ensures.stops)

pub returns-else-end-word : goal.returns-else-end-word
returns-else-end-word c = part_alone c.args.sep c.args.word.now c.part_end-end.result c.if-end-word.false c.part_end-end.ensures.clean
