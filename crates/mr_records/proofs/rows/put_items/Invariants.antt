use Rattle.std.proofs.Common.{◌≡◌, ◌+◌, ◌-◌, ◌*◌, ◌≤◌, ◌++◌, drop}
use Rattle.mr_records.proofs.RowLemmas.{behind_commas, vifs_from}
use Rattle.mr_records.proofs.rows.put_items.Given as goal

-- the vifs from the present one on are put
abbrev pub invariant-loop-vif : goal.invariant-loop-vif
invariant-loop-vif l = record {
  text : drop l.at l.row ≡ behind_commas l.outs (vifs_from l.vif) ++ drop l.end l.fn.row;
  vif : l.vif ≤ 32;
  low : l.at ≤ l.end;
  room : l.end ≤ l.at + 3 * (32 - l.vif);
}

abbrev pub decreases-loop-vif : goal.decreases-loop-vif
decreases-loop-vif l = l.vif
