use Rattle.std.proofs.Common.{◌≡◌}
use Rattle.mr_replay.specs.Egress.{egress_file}
use Rattle.mr_replay.proofs.Egressing.{AreWritten}
use Rattle.mr_replay.proofs.egress.write_files.Given as goal

-- the first files are written, and no call failed
abbrev pub invariant-loop-place : goal.invariant-loop-place
invariant-loop-place g l = record {
  written : AreWritten (egress_file l.kernel.limits l.lanes l.devices l.kernel.history) l.place (g.S.Store.told l.fn.store) (g.S.Store.told l.store) (g.S.Store.calls l.fn.store) (g.S.Store.calls l.store);
  faults : g.S.Store.faults l.store ≡ g.S.Store.faults l.fn.store;
}
