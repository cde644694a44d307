use Rattle.std.proofs.Common.{◌≡◌, ◌<◌, ◌++◌, ◌∷◌, [], true, sym, ◌∙◌, ap, subst, append_assoc}
use Rattle.std.specs.List.{fold}
use Rattle.std.proofs.lemmas.List.Sums.{fold-append}
use Rattle.mr_tables.specs.Fitting.{fits}
use Rattle.mr_tables.specs.Values.{applied}
use Rattle.mr_publish.specs.Copies.{tables_after}
use Rattle.mr_publish.specs.Lists.{last_number}
use Rattle.mr_publish.specs.Values.{Published}
use Rattle.mr_publish.proofs.Fitting.{one_more_fits}
use Rattle.mr_publish.proofs.Rising.{one_more_rises, one_more_last}
use Rattle.mr_publish.proofs.publisher.Publisher.stage.Goals as goal

pub invariant_of-self-2 : goal.invariant_of-self-2
invariant_of-self-2 g c =
    let start = g.J.PairName.start in
    let front = c.self.inside.front in
    let staged = c.self.inside.staged.items in
    let inv = c.self.invariant in
    let change = c.args.change.now in
    let fit : fits (fold applied (tables_after start front) staged) change ≡ true =
    ap (λ v. fits v change) (sym (fold-append applied start front staged))
    ∙ subst (λ (v : Published).
    fits (tables_after start (v.published ++ v.staged)) change ≡ true)
    (sym c.self.view_is) c.requires.fits in
    let above : last_number 0 (front ++ staged) < change.number =
    subst (λ (v : Published). last_number 0 (v.published ++ v.staged) < change.number)
    (sym c.self.view_is) c.requires.above in
    let all : front ++ (staged ++ change ∷ []) ≡ (front ++ staged) ++ change ∷ [] =
    sym (append_assoc front staged (change ∷ [])) in
    rw (c.in-Ok.ensures.items) (
      inv.0,
      inv.1,
      one_more_fits (tables_after start front) staged change inv.2 fit,
      rw all (one_more_rises 0 (front ++ staged) change inv.3 above),
      rw all (sym (one_more_last 0 (front ++ staged) change)),
    )
