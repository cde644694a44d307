use Rattle.std.proofs.Common.{◌-◌, arith}
use Rattle.mr_records.proofs.RowLemmas.{items_top, items_down, items_done}
use Rattle.mr_records.proofs.rows.put_items.Goals as goal

pub loop-vif-init : goal.loop-vif-init
loop-vif-init c = record {
  text = items_top c.args.outs c.args.top _ c.requires.top.0;
  vif = omega arith;
  low = omega arith;
  room = omega arith;
}

pub loop-vif-preserved : goal.loop-vif-preserved
loop-vif-preserved c =
    let l = c.loop-vif in
    let t = c.put_if_in-at.ensures.within in
    record {
      text = items_down c.args.outs (l.vif - 1) l.vif _ _ _ (omega arith) (omega arith) c.put_if_in-at.ensures.text l.invariant.text;
      vif = omega arith;
      low = omega (arith, t.0);
      room = omega (arith, t.1);
    }

pub returns-clause-text : goal.returns-clause-text
returns-clause-text c = items_done c.args.outs c.loop-vif.vif _ _ (omega arith) c.loop-vif.invariant.text
