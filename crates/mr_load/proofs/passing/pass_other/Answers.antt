use Rattle.mr_load.proofs.LanePasses.{other_item}
use Rattle.mr_load.proofs.passing.pass_other.Goals as goal

pub returns : goal.returns
returns c =
    other_item c.args.phase c.args.item.now c.args.passed.now c.pass_skip.new.passed c.requires.before
    c.in_ok-pass_skip.ensures.packets c.in_ok-pass_skip.ensures.skips c.in_ok-pass_skip.ensures.devs c.in_ok-pass_skip.ensures.next
