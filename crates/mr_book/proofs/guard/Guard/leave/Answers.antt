use Rattle.std.proofs.Common.{◌∙◌, sym, ap, arith}
use Rattle.mr_book.proofs.Splitting.{gives_pen}
use Rattle.mr_book.proofs.guard.Guard.leave.Goals as goal

pub split_seat-keeper-requires : goal.split_seat-keeper-requires
split_seat-keeper-requires g c =
    let book = c.args.self.book.now in
    (c.seat.invariant.0 ∙ sym book.named, omega (arith, book.one_word), gives_pen g.T.Entry.Authored.author _ _ (ap (λ m. m.0.right) c.seat.invariant.1))
