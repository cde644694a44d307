use Rattle.std.proofs.Common.{◌∙◌, sym, arith}
use Rattle.mr_book.proofs.Splitting.{copies}
use Rattle.mr_book.proofs.book.Book.split.Goals as goal

pub split_seat-place-requires : goal.split_seat-place-requires
split_seat-place-requires g c =
    let book = c.args.self.now in
    (c.seat.invariant.0 ∙ sym book.named, omega (arith, book.one_word), copies g.T.Entry.Authored.author _ _)
