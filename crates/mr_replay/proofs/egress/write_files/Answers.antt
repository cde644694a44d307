use Rattle.std.proofs.Common.{◌∙◌, arith, length}
use Rattle.mr_replay.specs.Egress.{egress_file}
use Rattle.mr_replay.proofs.Egressing.{one_written, rose_still, stopped}
use Rattle.mr_replay.proofs.egress.write_files.Goals as goal

pub loop-place-preserved : goal.loop-place-preserved
loop-place-preserved g c = record {
  written = one_written (egress_file c.args.kernel.now.limits c.args.lanes.now c.args.devices.now c.args.kernel.now.history) c.loop-place.place
      (g.S.Store.told c.args.store.now) (g.S.Store.told c.loop-place.store) (g.S.Store.told c.write_file.new.store)
      (g.S.Store.calls c.args.store.now) (g.S.Store.calls c.loop-place.store) (g.S.Store.calls c.write_file.new.store)
      c.write_file.result c.in-Good.is c.loop-place.invariant.written c.write_file.ensures.files c.write_file.ensures.calls;
  faults = c.write_file.ensures.good c.in-Good.is ∙ c.loop-place.invariant.faults;
}

pub returns-in_default : goal.returns-in_default
returns-in_default g c = record {
  writes = stopped (egress_file c.args.kernel.now.limits c.args.lanes.now c.args.devices.now c.args.kernel.now.history) (length c.args.devices.now) c.loop-place.place
      (g.S.Store.told c.args.store.now) (g.S.Store.told c.loop-place.store) (g.S.Store.told c.write_file.new.store)
      (g.S.Store.calls c.args.store.now) (g.S.Store.calls c.loop-place.store) (g.S.Store.calls c.write_file.new.store)
      c.write_file.result (omega (arith, c.loop-place-test.true, c.loop-place.auto.place-end)) c.in_default.not-Good c.loop-place.invariant.written c.write_file.ensures.files c.write_file.ensures.calls;
  last = c.write_file.ensures.last;
  rose = rose_still c.write_file.result (g.S.Store.faults c.args.store.now) (g.S.Store.faults c.loop-place.store) (g.S.Store.faults c.write_file.new.store) c.loop-place.invariant.faults c.write_file.ensures.rose;
}
