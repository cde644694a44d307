use Rattle.std.proofs.Common.{ap, arith}
use Rattle.mr_book.proofs.Splitting.{opens, gives_pen}
use Rattle.mr_book.proofs.opened.Opened.new.Goals as goal

pub of_words-requires : goal.of_words-requires
of_words-requires g c = opens g.T.Entry.Authored.author c.args.callers

pub split_seat-keeper-requires : goal.split_seat-keeper-requires
split_seat-keeper-requires g c =
    let made = c.in-Ok.ensures in
    (made.2, omega (arith, made.0), gives_pen g.T.Entry.Authored.author _ _ (ap (λ m. m.0.right) made.4))
