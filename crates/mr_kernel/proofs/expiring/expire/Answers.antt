use Rattle.std.proofs.Common.{◌≡◌, ap, ◌∙◌, List, subst}
use Rattle.mr_unres.specs.Entries.{WaitingEntries, awaiting}
use Rattle.mr_kernel.proofs.Ending.{young_all, expired_all}
use Rattle.mr_kernel.proofs.expiring.expire.Goals as goal

pub returns-clause-waiting : goal.returns-clause-waiting
returns-clause-waiting c =
    ap (λ (w : WaitingEntries). awaiting w.entries) c.in_default.ensures.stays ∙
    young_all c.args.number c.args.moment c.args.waiting.now c.loop-entry.waiting
    c.args.fates.now c.loop-entry.fates c.loop-entry.invariant c.in_default.ensures.none

pub returns-clause-lines : goal.returns-clause-lines
returns-clause-lines c =
    expired_all c.args.number c.args.moment c.args.waiting.now c.loop-entry.waiting
    c.args.fates.now c.loop-entry.fates c.loop-entry.invariant c.in_default.ensures.none
