use Rattle.std.proofs.Common.{◌<◌, ◌∙◌, sym, subst, arith}
use Rattle.mr_book.proofs.Splitting.{deals_first}
use Rattle.mr_book.proofs.book.Book.deal.Goals as goal

pub split_seat-place-requires : goal.split_seat-place-requires
split_seat-place-requires g c =
    let book = c.args.self.now in
    let i = c.dealer.invariant in
    (i.0 ∙ sym book.named, omega (arith, book.one_word), deals_first g.T.Entry.Authored.author _ _ _ _ i.1 (subst (λ n. 0 < n.left) (sym c.dealer.view_is) c.requires))
