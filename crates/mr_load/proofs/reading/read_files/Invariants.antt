use Rattle.std.proofs.Common.{◌≡◌}
use Rattle.mr_base.specs.Outside.{AllStay}
use Rattle.mr_load.specs.Reading.{Progress}
use Rattle.mr_load.proofs.reading.read_files.Given as goal

-- the first files are read, and no call failed
abbrev pub invariant-loop-i : goal.invariant-loop-i
invariant-loop-i g l = record {
  progress : Progress (g.S.Store.told l.fn.store) l.fn.file l.fn.own l.fn.totals l.fn.files.entries l.i l.reading (g.S.Store.calls l.fn.store) (g.S.Store.calls l.store);
  stay : AllStay (g.S.Store.told l.fn.store) (g.S.Store.told l.store);
  faults : g.S.Store.faults l.store ≡ g.S.Store.faults l.fn.store;
}
