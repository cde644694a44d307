use Rattle.std.proofs.Common.{◌∙◌, arith}
use Rattle.mr_book.proofs.Joining.{joins}
use Rattle.mr_book.proofs.Looking.{looks}
use Rattle.mr_book.proofs.place.take_in.Goals as goal

pub join_seat-requires : goal.join_seat-requires
join_seat-requires g c =
    (c.requires.into, c.requires.from.0, c.requires.from.1, omega (arith, c.requires.word), joins g.E.Authored.author _ _ _ _)

pub load-requires : goal.load-requires
load-requires g c =
    (c.join_seat.ensures.0 ∙ c.requires.into, omega (arith, c.requires.word), looks g.E.Authored.author _ _ _)
