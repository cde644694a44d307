use Rattle.std.proofs.Common.{◌≡◌, [], ◌∷◌, length, take, drop, refl, ◌∙◌, arith, length-drop}
use Rattle.std.proofs.lemmas.List.{take-append-le, take_all, length-take-le}
use Rattle.mr_opt.specs.Fields.{numbers_from, number}
use Rattle.mr_opt.proofs.reading.mfcctl_of.Goals as goal

pub returns : goal.returns
returns c =
    let bs = c.args.bytes.now in
    let ttls = take 32 (drop 10 bs) in
    let long : length ttls ≡ 32 = length-take-le 32 (drop 10 bs) (omega (arith, length-drop 10 bs)) in
    let rest = numbers_from 42 (number 4 ∷ number 4 ∷ number 4 ∷ number 4 ∷ []) bs in
    let same = take-append-le 32 ttls rest (omega arith) ∙ take_all 32 ttls (omega arith) in
    rw (c.mfc_key_of-parent.ensures, c.copy_from_slice.ensures.after, same) refl
