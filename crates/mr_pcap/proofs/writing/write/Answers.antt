use Rattle.std.proofs.Common.{◌≡◌, ◌∙◌, ap, rules, All}
use Rattle.mr_pcap.proofs.Again.{file_again}
use Rattle.mr_pcap.specs.Places.{Fits}
use Rattle.mr_pcap.specs.Traces.{capture_of, file_bytes}
use Rattle.mr_pcap.proofs.writing.write.Goals as goal

pub returns-clause-again : goal.returns-clause-again
returns-clause-again c =
    let written : c.write_records.new.out.items ≡ file_bytes c.args.trace.now = search rules in
    let fit : All Fits c.args.trace.now.records = search rules in
    ap capture_of written ∙ file_again c.args.trace.now fit
