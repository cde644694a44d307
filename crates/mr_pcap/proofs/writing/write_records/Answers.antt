use Rattle.std.proofs.Common.{◌∙◌, ℕ, ◌<◌, get_or, rules, arith}
use Rattle.mr_pcap.proofs.Again.{all_fit}
use Rattle.mr_pcap.proofs.Written.{one_written}
use Rattle.mr_pcap.proofs.writing.write_records.Goals as goal

pub loop-start-preserved : goal.loop-start-preserved
loop-start-preserved c =
    rw (c.in_ok-write_record.ensures.written)
    (one_written c.args.order c.loop-start.out.items c.args.file.now c.args.starts.now c.loop-start.start-index _ (omega arith) c.record_at.ensures.record
    ∙ c.loop-start.invariant)

pub returns-in_err-write_record-clause-fit : goal.returns-in_err-write_record-clause-fit
returns-in_err-write_record-clause-fit c =
    let small : (k : ℕ) → get_or c.args.file.now k 0 < 256 = search rules in
    all_fit c.args.order c.args.file.now small c.args.starts.now

pub returns-clause-fit : goal.returns-clause-fit
returns-clause-fit c =
    let small : (k : ℕ) → get_or c.args.file.now k 0 < 256 = search rules in
    all_fit c.args.order c.args.file.now small c.args.starts.now
