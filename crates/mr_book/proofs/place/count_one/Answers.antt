use Rattle.std.proofs.Common.{◌∙◌, ap, arith, length}
use Rattle.mr_book.proofs.Counting.{counts, Grew}
use Rattle.mr_book.proofs.place.count_one.Goals as goal

pub fetch_add-requires : goal.fetch_add-requires
fetch_add-requires g c =
    let grew : Grew g.T.Entry.Authored.author g.X.Grown.list c.args.place.now.me.0 = record { last = c.requires.grew.0; is = c.requires.list ∙ c.requires.grew.1; number = c.requires.grew.2 } in
    (c.requires.table, omega (arith, c.requires.word), counts g.T.Entry.Authored.author _ _ _ _ (ap (λ m. m.0.right) c.requires.right) (omega (arith, ap length c.requires.list, c.count-length.ensures)) grew)
