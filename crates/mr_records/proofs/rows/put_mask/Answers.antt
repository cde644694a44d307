use Rattle.std.proofs.Common.{◌∷◌, ◌++◌, drop, ap, sym, ◌∙◌, arith}
use Rattle.mr_records.proofs.RowLemmas.{mask_over, mask_is}
use Rattle.mr_records.proofs.rows.put_mask.Goals as goal

pub bounds-row-at : goal.bounds-row-at
bounds-row-at c =
    let t = c.digits_of-top.ensures in
    let r = mask_over c.args.outs _ _ c.put_items-at.result _ t.above t.within c.if-outs-eq0.false c.put_items-at.ensures.text in
    omega (arith, r.0)

pub returns-clause-text : goal.returns-clause-text
returns-clause-text c =
    let t = c.digits_of-top.ensures in
    let r = mask_over c.args.outs _ _ c.put_items-at.result _ t.above t.within c.if-outs-eq0.false c.put_items-at.ensures.text in
    r.1 ∙ ap (λ x. 32 ∷ (x ++ drop c.args.end c.args.row.now)) (sym (mask_is c.args.outs c.if-outs-eq0.false))
