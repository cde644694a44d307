use Rattle.std.proofs.Common.{◌-◌, length, drop, append_assoc, length-drop, refl, arith}
use Rattle.std.proofs.lemmas.List.{take_all}
use Rattle.mr_upcall.proofs.report.put_message.Goals as goal

pub returns : goal.returns
returns c =
    let h = c.args.head.now in
    let rest = take_all (length h - 12) (drop 12 h) (omega (arith, length-drop 12 h)) in
    rw (
      c.in_ok-extend_from_slice-2.ensures.items,
      c.in_ok-extend_from_slice.ensures.items,
      append_assoc,
      c.message_fields-fields.ensures,
      rest,
    ) refl
