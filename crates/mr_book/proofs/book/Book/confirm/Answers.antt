use Rattle.std.proofs.Common.{◌∙◌, sym, arith}
use Rattle.mr_book.proofs.Looking.{looks}
use Rattle.mr_book.proofs.book.Book.confirm.Goals as goal

pub load-requires : goal.load-requires
load-requires g c =
    let book = c.args.self.now in
    (c.seat.invariant.0 ∙ sym book.named, omega (arith, book.one_word), looks g.T.Entry.Authored.author _ _ _)
