use Rattle.std.proofs.Common.{rules, subst}
use Rattle.mr_ip.specs.MadeHeads.{made_head, unsummed_head}
use Rattle.mr_ip.proofs.Checksums.{is_head-made_head}
use Rattle.mr_ip.proofs.Sums.{AreBytes}
use Rattle.mr_ip.proofs.making.make_head.Goals as goal

pub returns-clause-bytes : goal.returns-clause-bytes
unfolding made_head
returns-clause-bytes c = search rules

pub invariant_of-result : goal.invariant_of-result
unfolding made_head
invariant_of-result c =
    let small : AreBytes c.unsummed_head-bytes.result = search rules in
    let all : AreBytes (unsummed_head c.args.ident c.args.ttl c.args.src.0 c.args.dst.0 c.args.length) =
    subst AreBytes c.unsummed_head-bytes.ensures small in
    let r = c.requires in
    record {
      accepted =
          rw (c.from_slice.ensures, c.ones_sum-checksum.ensures, c.unsummed_head-bytes.ensures)
          (is_head-made_head c.args.ident c.args.ttl c.args.src.0 c.args.dst.0 c.args.length
          all r.holds_head r.source r.multicast r.forwarded);
    }
