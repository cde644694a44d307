use Rattle.mr_load.proofs.ReadOn.{stop_by}
use Rattle.mr_load.proofs.reading.read_file.Goals as goal

pub returns-clause-refusal : goal.returns-clause-refusal
returns-clause-refusal g c =
    stop_by (g.S.Store.told c.args.store.now) c.args.file.now c.args.own.now c.args.reading.now.totals c.take_file.new.reading.totals (c.args.name.now, c.args.used) c.in_ok-bytes.bytes.items c.take_file.result
    c.in_ok-bytes.ensures.bytes c.take_file.ensures.after
