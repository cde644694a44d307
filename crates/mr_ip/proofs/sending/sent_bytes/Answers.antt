use Rattle.std.proofs.Common.{◌∙◌, ap, rules}
use Rattle.mr_base.specs.Heads.{ones_sum}
use Rattle.mr_ip.proofs.SentHeads.{is_sent}
use Rattle.mr_ip.proofs.Sums.{AreBytes}
use Rattle.mr_ip.proofs.sending.sent_bytes.Goals as goal

pub returns-clause-raised : goal.returns-clause-raised
returns-clause-raised c = search rules

pub returns-clause-from_scratch : goal.returns-clause-from_scratch
returns-clause-from_scratch c =
    let bs = c.args.bytes.now in
    let r = c.requires in
    let small : AreBytes bs = search rules in
    returns-clause-raised c ∙ (is_sent bs r.enough r.ttl r.version small r.sum).bytes

pub returns-clause-sum : goal.returns-clause-sum
returns-clause-sum c =
    let bs = c.args.bytes.now in
    let r = c.requires in
    let small : AreBytes bs = search rules in
    ap (ones_sum 0) (returns-clause-raised c) ∙ (is_sent bs r.enough r.ttl r.version small r.sum).sum
