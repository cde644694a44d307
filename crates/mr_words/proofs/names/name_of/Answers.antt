use Rattle.mr_words.proofs.Clean.{clean_is_text}
use Rattle.mr_words.proofs.names.name_of.Goals as goal

pub unreachable-requires : goal.unreachable-requires
unreachable-requires c = c.in-Err.ensures.cases.0 (clean_is_text c.args.word.now c.requires.clean)
