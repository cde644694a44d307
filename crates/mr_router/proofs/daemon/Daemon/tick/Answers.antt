use Rattle.std.proofs.Common.{◌≡◌, ◌+◌, ◌∙◌, List, [], ◌∷◌, ◌++◌, refl, sym, ap, subst, map, option_map}
use Rattle.mr_book.specs.declared.view.Known.{Known}
use Rattle.mr_book.specs.Views.{with_entry, with_seen}
use Rattle.mr_model.specs.declared.entry.Entry.{Entry}
use Rattle.mr_model.specs.declared.entry.Entry.TheVariants.{Call, Recv, Tick}
use Rattle.mr_model.specs.Legal.{IsLegal}
use Rattle.mr_model.specs.Past.{controls}
use Rattle.mr_authors.specs.Authors.{author, daemon_author}
use Rattle.mr_router.specs.Callers.{DaemonValue}
use Rattle.mr_router.specs.Histories.{GoesOn, Makes}
use Rattle.mr_router.proofs.Holding.{daemon_refused, daemon_went_on, daemon_made, entry_made}
use Rattle.mr_router.proofs.daemon.Daemon.tick.Goals as goal

-- no control entry is left
pub invariant_of-self : goal.invariant_of-self
invariant_of-self g c =
    let l = c.self.inside in
    let t = c.take_lock-guard.ensures in
    let full = c.in_default.ensures.full in
    daemon_refused g.C.RunName.limits l.number l.left l.seat c.leave.result c.take_lock-guard.result.value c.self.invariant t.begins t.own t.legal full (c.leave.ensures ∙ t.seat)

pub returns-in_default-clause-goes_on : goal.returns-in_default-clause-goes_on
returns-in_default-clause-goes_on g c =
    let l = c.self.inside in
    let t = c.take_lock-guard.ensures in
    let limits = g.C.RunName.limits in
    let s = c.leave.result in
    subst (λ (v : DaemonValue). GoesOn limits (daemon_author v.daemon.0) v.seen s.seen) c.self.view_is
    (daemon_went_on limits (daemon_author l.number.0) l.seat s c.take_lock-guard.result.value c.self.invariant.seat t.begins t.own t.legal (c.leave.ensures ∙ t.seat))

pub returns-in_default-clause-full : goal.returns-in_default-clause-full
returns-in_default-clause-full g c =
    let seen = ap (λ (v : Known Entry). v.seen) (c.leave.ensures ∙ c.take_lock-guard.ensures.seat) in
    ap controls seen ∙ c.in_default.ensures.full

-- the entry is made
pub invariant_of-self-2 : goal.invariant_of-self-2
invariant_of-self-2 g c =
    let l = c.self.inside in
    let t = c.take_lock-guard.ensures in
    let h = c.take_lock-guard.result.value in
    let e = Tick l.number c.args.ms in
    let is = c.in-Ok.ensures.entry in
    let at = ap (λ (v : Known Entry). v.seen) t.seat in
    let made = c.commit.ensures.seat e (is ∙ ap (λ (s : List Entry). s ++ e ∷ []) (sym at)) in
    let seat = c.leave-2.ensures ∙ made ∙ ap (with_entry author e) t.seat in
    let after = c.controls_left-self-inside.result in
    let room = subst (λ h. controls h + after ≡ g.C.RunName.limits.controls) (c.commit.ensures.value ∙ is) c.controls_left-self-inside.ensures in
    daemon_made g.C.RunName.limits l.number l.left after l.seat c.leave-2.result h e c.self.invariant t.begins t.own t.legal refl tt room seat

pub returns-clause-entry : goal.returns-clause-entry
returns-clause-entry g c =
    let l = c.self.inside in
    let t = c.take_lock-guard.ensures in
    let limits = g.C.RunName.limits in
    let h = c.take_lock-guard.result.value in
    let e = Tick l.number c.args.ms in
    let is = c.in-Ok.ensures.entry in
    let at = ap (λ (v : Known Entry). v.seen) t.seat in
    let made = c.commit.ensures.seat e (is ∙ ap (λ (s : List Entry). s ++ e ∷ []) (sym at)) in
    let seat = c.leave-2.ensures ∙ made ∙ ap (with_entry author e) t.seat in
    let legal = subst (IsLegal limits) is c.tick.ensures.legal in
    subst (λ (v : DaemonValue). Makes limits (daemon_author v.daemon.0) v.seen c.leave-2.result.seen (Tick v.daemon c.args.ms)) c.self.view_is
    (entry_made limits (daemon_author l.number.0) l.seat c.leave-2.result h e c.self.invariant.seat t.begins t.own t.legal refl legal seat)
