use Rattle.std.proofs.Common.{◌≡◌, ◌+◌, ◌∙◌, ℕ, Bool, true, false, List, length, not, sym, subst}
use Rattle.std.proofs.Common.{ap}
use Rattle.mr_base.specs.declared.route.Route.{Route}
use Rattle.mr_model.specs.declared.limits.Limits.{Limits}
use Rattle.mr_model.specs.Answer.{value_of, refused_by_tables}
use Rattle.mr_model.specs.Granting.{what_of}
use Rattle.mr_model.specs.State.{state, is_owner}
use Rattle.mr_model.specs.Tables.{Tables}
use Rattle.mr_mfc.specs.Caches.{is_above}
use Rattle.mr_tables.proofs.History.{number_is_above}
use Rattle.mr_kernel.specs.Asking.{may_ask}
use Rattle.mr_kernel.specs.Plans.{plan_by}
use Rattle.mr_kernel.proofs.Planning.{set_refused, set_granted}
use Rattle.mr_kernel.proofs.answering.set.Goals as goal

pub returns-then-not-may_ask : goal.returns-then-not-may_ask
returns-then-not-may_ask c =
    let j = c.args.journal.now in
    let s = state j.limits j.entries in
    let may : may_ask j.limits s c.args.daemon c.args.request.now ≡ false =
    ap (λ (l : Limits). may_ask l s c.args.daemon c.args.request.now) (sym c.limits.ensures)
    ∙ sym (c.may_ask.ensures s c.requires.stands.owner) ∙ c.if-not-may_ask.true in
    c.refused.ensures ∙ set_refused j c.args.daemon c.args.request.now c.requires.sets may

pub change-requires-clause-above : goal.change-requires-clause-above
change-requires-clause-above c =
    let j = c.args.journal.now in
    rw (c.len.ensures, c.requires.stands.tables) (number_is_above j.limits j.entries)

pub returns : goal.returns
returns c =
    let j = c.args.journal.now in
    let s = state j.limits j.entries in
    let d = c.args.daemon in
    let r = c.args.request.now in
    let may : may_ask j.limits s d r ≡ true =
    ap (λ (l : Limits). may_ask l s d r) (sym c.limits.ensures)
    ∙ sym (c.may_ask.ensures s c.requires.stands.owner) ∙ c.if-not-may_ask.false in
    c.change.ensures j.limits s (value_of j.entries s r) c.requires.stands
    ∙ ap (λ n. plan_by (n + 1) (value_of j.entries s r) (refused_by_tables j.limits s r)
    (what_of j.limits.devices s.tables (not (is_owner s d)) r)) c.len.ensures
    ∙ set_granted j d r c.requires.sets may
