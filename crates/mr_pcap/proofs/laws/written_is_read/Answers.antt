use Rattle.mr_pcap.proofs.Again.{file_again}
use Rattle.mr_pcap.proofs.laws.written_is_read.Goals as goal

pub returns : goal.returns
returns c = file_again
