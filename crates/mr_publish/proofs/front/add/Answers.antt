use Rattle.std.proofs.Common.{◌≡◌, ◌++◌, sym, ◌∙◌, ap, subst}
use Rattle.mr_model.specs.Numbers.{NumbersRise}
use Rattle.mr_publish.specs.Lists.{last_number}
use Rattle.mr_publish.specs.Rules.{no_change}
use Rattle.mr_publish.proofs.Adding.{adds_moves}
use Rattle.mr_publish.proofs.front.add.Goals as goal

pub compare_exchange-requires : goal.compare_exchange-requires
compare_exchange-requires g c =
    let head = c.args.head.now.head_is in
    let list = c.requires.list ∙ sym (ap (λ w. w.book) head) in
    let offer = c.plain-offer.ensures in
    let pen = c.no_pen-pen.ensures in
    let seen = c.args.seen.now.log in
    let more = g.X.Batched.changes in
    let batch = c.requires.batch in
    let last : last_number 0 (seen ++ more) ≡ c.from-2.result =
    ap (λ cs. last_number 0 (seen ++ cs)) batch
    ∙ (sym c.requires.newest ∙ sym c.from-2.ensures) in
    let rise : NumbersRise 0 (seen ++ more) =
    subst (λ cs. NumbersRise 0 (seen ++ cs)) (sym batch) c.requires.rise in
    let version = sym c.requires.version ∙ sym c.from.ensures in (
      ap (λ w. w.tracked) head,
      list,
      pen.0 ∙ list,
      offer.0,
      rw (ap (λ w. w.key) head, pen.1, offer.3)
          (adds_moves seen more no_change c.from.result c.from-2.result version last rise),
    )
