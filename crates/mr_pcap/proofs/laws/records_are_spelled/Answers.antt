use Rattle.mr_pcap.proofs.Again.{all_again}
use Rattle.mr_pcap.proofs.Spelling.{spelled_by_records}
use Rattle.mr_pcap.proofs.laws.records_are_spelled.Goals as goal

pub returns-clause-read : goal.returns-clause-read
returns-clause-read c = spelled_by_records

pub returns-clause-spelled : goal.returns-clause-spelled
returns-clause-spelled c order n rs fits = all_again order rs n fits
