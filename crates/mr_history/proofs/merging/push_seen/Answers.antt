use Rattle.std.proofs.Common.{append-nil}
use Rattle.mr_history.proofs.Interleaving.{behind, none_at}
use Rattle.mr_history.proofs.merging.push_seen.Goals as goal

pub returns-then-next-look-clause-steps : goal.returns-then-next-look-clause-steps
returns-then-next-look-clause-steps c =
    let v = c.loop-rest.invariant in
    let from = behind _ c.args.look _ v.sorted v.from c.if-next-look.true in
    rw (none_at _ c.args.look from, append-nil) at v.steps

pub returns-then-next-look-clause-from : goal.returns-then-next-look-clause-from
returns-then-next-look-clause-from c =
    let v = c.loop-rest.invariant in
    behind _ c.args.look _ v.sorted v.from c.if-next-look.true
