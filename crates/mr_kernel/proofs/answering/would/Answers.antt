use Rattle.std.proofs.Common.{◌≡◌, sym, subst}
use Rattle.mr_model.specs.declared.request.Request.{Request}
use Rattle.mr_kernel.specs.Plans.{plan}
use Rattle.mr_kernel.proofs.Planning.{value_in}
use Rattle.mr_kernel.proofs.answering.would.Goals as goal

pub returns-in-VifCount : goal.returns-in-VifCount
returns-in-VifCount c =
    subst (λ (r : Request). c.vif_count.result
    ≡ plan (value_in c.args.journal.now) c.args.daemon r) (sym c.in-VifCount.is)
    (c.vif_count.ensures c.args.daemon)

pub returns-in-SgCount : goal.returns-in-SgCount
returns-in-SgCount c =
    subst (λ (r : Request). c.sg_count.result
    ≡ plan (value_in c.args.journal.now) c.args.daemon r) (sym c.in-SgCount.is)
    (c.sg_count.ensures c.args.daemon)
