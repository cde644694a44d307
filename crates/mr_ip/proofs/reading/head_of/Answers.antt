use Rattle.std.proofs.Common.{sym, arith}
use Rattle.std.proofs.lemmas.List.{length-take-le}
use Rattle.mr_ip.proofs.Heads.{head_within, read_is_head}
use Rattle.mr_ip.proofs.reading.head_of.Goals as goal

pub slice_bounds-from_slice-end : goal.slice_bounds-from_slice-end
slice_bounds-from_slice-end c =
    let within = head_within c.args.bytes.now c.requires.accepted in
    sym (length-take-le c.head_length.result c.args.bytes.now (omega (arith, c.head_length.ensures)))

pub invariant_of-result : goal.invariant_of-result
invariant_of-result c = record {
  accepted =
      rw (c.from_slice.ensures, c.head_length.ensures, c.two_at.ensures, c.four_at.ensures, c.four_at-2.ensures)
      (read_is_head c.args.bytes.now c.requires.accepted);
}
