use Rattle.std.proofs.Common.{sym, ◌∙◌}
use Rattle.mr_load.proofs.LanePasses.{packet_passes, skip_passes}
use Rattle.mr_load.proofs.passing.pass_bytes.Goals as goal

pub returns-in_default : goal.returns-in_default
returns-in_default c =
    packet_passes c.args.phase c.args.item.now c.args.bytes.now c.args.passed.now c.pass_packet.new.passed (sym c.cause_of.ensures.cause ∙ c.in_default.is) c.requires.before
    c.in_ok-pass_packet.ensures.packets c.in_ok-pass_packet.ensures.skips c.in_ok-pass_packet.ensures.devs c.in_ok-pass_packet.ensures.next

pub returns : goal.returns
returns c =
    skip_passes c.args.phase c.args.item.now c.args.bytes.now c.in-Some.cause c.args.passed.now c.pass_skip.new.passed (sym c.cause_of.ensures.cause ∙ c.in-Some.is) c.requires.before
    c.in_ok-pass_skip.ensures.packets (rw c.cause_number.ensures at c.in_ok-pass_skip.ensures.skips) c.in_ok-pass_skip.ensures.devs c.in_ok-pass_skip.ensures.next
