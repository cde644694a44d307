use Rattle.std.proofs.Common.{◌≡◌, arith, sym, ap, ◌∙◌}
use Rattle.mr_model.specs.declared.verdict.Verdict.TheVariants as verdict
use Rattle.mr_kernel.proofs.Judging.{judged_by}
use Rattle.mr_kernel.proofs.deciding.judge.Goals as goal

pub returns-in-Register : goal.returns-in-Register
returns-in-Register c limits s st there =
    let accepts = c.accepts.ensures limits s st in
    rw accepts (judged_by limits s c.args.live.now c.args.route.now c.args.dev c.args.ttl _ st
    c.in-Register.ensures)

pub returns-in-Wrong : goal.returns-in-Wrong
returns-in-Wrong c limits s st there =
    let report = c.wrong_report.ensures limits s st there in
    rw report (judged_by limits s c.args.live.now c.args.route.now c.args.dev c.args.ttl _ st
    c.in-Wrong.ensures)
