use Rattle.std.proofs.Common.{◌≤◌, ◌∙◌, length, refl, sym}
use Rattle.mr_load.specs.Naming.{Naming}
use Rattle.mr_load.proofs.ReadOn.{all_at, progress_first, progress_on, stay_on, stays, stops_at}
use Rattle.mr_load.proofs.reading.read_files.Goals as goal

pub loop-i-init : goal.loop-i-init
loop-i-init g c = record {
  progress = progress_first (g.S.Store.told c.args.store.now) c.args.file.now c.args.own.now c.args.files.now.entries (record { totals = c.args.totals; confs = c.new.result; traces = c.new-2.result }) (g.S.Store.calls c.args.store.now)
      c.new.ensures.empty c.new-2.ensures.empty;
  stay = stays (g.S.Store.told c.args.store.now);
  faults = refl;
}

pub read_file-requires-clause-named : goal.read_file-requires-clause-named
read_file-requires-clause-named g c =
    rw c.as_str.ensures.value (all_at (λ (n : Naming). 1 ≤ length n.0) c.args.files.now.entries c.loop-i.i (c.in-Some.name.now, c.in-Some.used.now) (sym c.in-Some.ensures.entry) c.requires.named)

pub returns-in-Err-clause-stops : goal.returns-in-Err-clause-stops
returns-in-Err-clause-stops g c =
    stops_at (g.S.Store.told c.args.store.now) (g.S.Store.told c.loop-i.store) c.args.file.now c.args.own.now c.args.totals c.args.files.now.entries c.loop-i.i (c.in-Some.name.now, c.in-Some.used.now)
    c.loop-i.reading c.in-Err.status (g.S.Store.calls c.args.store.now) (g.S.Store.calls c.loop-i.store) (g.S.Store.calls c.read_file.new.store)
    (sym c.in-Some.ensures.entry) c.loop-i.invariant.stay c.loop-i.invariant.progress (rw c.as_str.ensures.value at c.in-Err.ensures.refusal) (rw c.as_str.ensures.value at c.in-Err.ensures.calls)

pub loop-i-preserved : goal.loop-i-preserved
loop-i-preserved g c = record {
  progress = progress_on (g.S.Store.told c.args.store.now) (g.S.Store.told c.loop-i.store) c.args.file.now c.args.own.now c.args.totals c.args.files.now.entries c.loop-i.i (c.in-Some.name.now, c.in-Some.used.now)
      c.loop-i.reading c.read_file.new.reading (g.S.Store.calls c.args.store.now) (g.S.Store.calls c.loop-i.store) (g.S.Store.calls c.read_file.new.store)
      (sym c.in-Some.ensures.entry) c.loop-i.invariant.stay (rw c.as_str.ensures.value at c.in-Ok.ensures.put) (rw c.as_str.ensures.value at c.in-Ok.ensures.calls) c.loop-i.invariant.progress;
  stay = stay_on (g.S.Store.told c.args.store.now) (g.S.Store.told c.loop-i.store) (g.S.Store.told c.read_file.new.store) c.loop-i.invariant.stay c.in-Ok.ensures.outside.files;
  faults = c.in-Ok.ensures.outside.good refl ∙ c.loop-i.invariant.faults;
}
