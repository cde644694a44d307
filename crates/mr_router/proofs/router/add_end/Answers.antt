use Rattle.std.proofs.Common.{◌≡◌, ◌<◌, ◌∙◌, List, [], ◌∷◌, ◌++◌, refl, sym, ap, subst}
use Rattle.mr_book.specs.declared.view.Known.{Known}
use Rattle.mr_book.specs.Views.{with_entry, with_seen}
use Rattle.mr_model.specs.declared.entry.Entry.{Entry}
use Rattle.mr_model.specs.declared.entry.Entry.TheVariants.{EndPhase}
use Rattle.mr_model.specs.Legal.{IsLegal}
use Rattle.mr_model.specs.Past.{phases}
use Rattle.mr_authors.specs.Authors.{author}
use Rattle.mr_router.specs.Seats.{HoldsRouter, first_own}
use Rattle.mr_authors.proofs.Owning.{phases_own}
use Rattle.mr_router.proofs.Holding.{router_own, router_makes, adds_end}
use Rattle.mr_router.proofs.router.add_end.Goals as goal

pub end_phase-requires : goal.end_phase-requires
end_phase-requires g c =
    let k = c.args.seat.now in
    let h = c.take_lock-guard.result.value in
    let same = router_own (first_own k.owns) k h c.requires.router c.take_lock-guard.ensures.own in
    subst (λ n. n < g.C.RunName.limits.phases) (sym (sym (phases_own h) ∙ ap phases same)) c.requires.room

pub returns-clause-router : goal.returns-clause-router
returns-clause-router g c =
    let k = c.args.seat.now in
    let h = c.take_lock-guard.result.value in
    let t = c.take_lock-guard.ensures in
    let same = router_own (first_own k.owns) k h c.requires.router t.own in
    let at = ap (λ (v : Known Entry). v.seen) t.seat in
    let made = c.commit.ensures.seat EndPhase (c.end_phase.ensures.entry ∙ ap (λ (s : List Entry). s ++ EndPhase ∷ []) (sym at)) in
    let seat = c.leave.ensures ∙ c.count.ensures.seat ∙ made ∙ ap (with_entry author EndPhase) t.seat in
    subst HoldsRouter (sym seat) (router_makes (first_own k.owns) k h c.requires.router same)

pub returns-clause-adds : goal.returns-clause-adds
returns-clause-adds g c =
    let k = c.args.seat.now in
    let h = c.take_lock-guard.result.value in
    let t = c.take_lock-guard.ensures in
    let at = ap (λ (v : Known Entry). v.seen) t.seat in
    let made = c.commit.ensures.seat EndPhase (c.end_phase.ensures.entry ∙ ap (λ (s : List Entry). s ++ EndPhase ∷ []) (sym at)) in
    let seat = c.leave.ensures ∙ c.count.ensures.seat ∙ made ∙ ap (with_entry author EndPhase) t.seat in
    let legal = subst (IsLegal g.C.RunName.limits) c.end_phase.ensures.entry c.end_phase.ensures.legal in
    adds_end g.C.RunName.limits (first_own k.owns) k c.leave.result h c.requires.router refl t.begins t.own t.legal legal seat
