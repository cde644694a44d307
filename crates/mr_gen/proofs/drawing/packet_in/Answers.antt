use Rattle.std.proofs.Common.{◌≡◌, ap, ◌∙◌}
use Rattle.mr_base.specs.Heads.{cause_of}
use Rattle.mr_gen.proofs.Accepted.{accepted}
use Rattle.mr_gen.proofs.Counting.{table_at}
use Rattle.mr_gen.proofs.drawing.packet_in.Goals as goal

pub returns-clause-bytes : goal.returns-clause-bytes
returns-clause-bytes c = table_at c.args.table.now c.args.entry _ c.requires.table c.requires.entry

pub returns-clause-accepted : goal.returns-clause-accepted
returns-clause-accepted c = ap cause_of (table_at c.args.table.now c.args.entry _ c.requires.table c.requires.entry) ∙ accepted c.args.entry c.requires.entry
