use Rattle.std.proofs.Common.{refl, arith}
use Rattle.mr_opt.proofs.Again.{ttls_first, rest_behind, mfcctl_again, mfc_key_again}
use Rattle.mr_opt.proofs.writing.mfcctl_bytes.Goals as goal

pub returns-clause-bytes : goal.returns-clause-bytes
returns-clause-bytes c =
    let ttls = c.args.ttls.now in
    rw (
      ttls_first ttls _ c.told-ttls,
      rest_behind ttls _ c.told-ttls,
      c.copy_from_slice.ensures.after,
      c.write_u16.ensures,
      c.write_u32-2.ensures,
      c.write_u32.ensures,
    ) refl

pub returns-clause-again : goal.returns-clause-again
returns-clause-again c =
    let made = returns-clause-bytes c in
    let a = c.args in
    rw made (mfcctl_again a.src a.dst a.parent a.ttls.now (omega arith) (omega arith) (omega arith) c.told-ttls)

pub returns-clause-key : goal.returns-clause-key
returns-clause-key c =
    let made = returns-clause-bytes c in
    let a = c.args in
    rw made (mfc_key_again a.src a.dst a.parent a.ttls.now (omega arith) (omega arith) (omega arith))
