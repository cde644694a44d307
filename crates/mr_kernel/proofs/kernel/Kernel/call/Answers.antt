use Rattle.std.proofs.Common.{◌≡◌, ◌∙◌, [], List, map, sym, subst, ap}
use Rattle.std.specs.List.{AllByRecursion}
use Rattle.mr_model.specs.declared.packet.Freed.{Freed}
use Rattle.mr_model.specs.Answer.{answer}
use Rattle.mr_kernel.specs.Flows.{IsKnown, id_of}
use Rattle.mr_kernel.specs.Plans.{plan}
use Rattle.mr_kernel.specs.Values.{KernelValue}
use Rattle.mr_kernel.proofs.Replies.{answer_agrees}
use Rattle.mr_kernel.proofs.kernel.Kernel.call.Goals as goal

pub invariant_of-self : goal.invariant_of-self
invariant_of-self c = c.answer.ensures.holds c.self.inside.fates c.self.invariant

pub returns-in-Answer-clause-reply : goal.returns-in-Answer-clause-reply
returns-in-Answer-clause-reply c =
    subst (λ (v : KernelValue). c.in-Answer.reply
    ≡ (answer v.limits v.history c.args.daemon c.args.request.now).reply) c.self.view_is
    c.answer.ensures.agrees.replies

pub returns-in-Answer-clause-released : goal.returns-in-Answer-clause-released
returns-in-Answer-clause-released c =
    ap (λ (fs : List Freed). map id_of fs) c.new.ensures
    ∙ subst (λ (v : KernelValue). []
    ≡ (answer v.limits v.history c.args.daemon c.args.request.now).released) c.self.view_is
    c.answer.ensures.agrees.releases

pub returns-in-Tables-clause-packets : goal.returns-in-Tables-clause-packets
returns-in-Tables-clause-packets c =
    subst (λ (v : KernelValue). AllByRecursion
    (λ f. IsKnown v.history f.packet) c.change-freed.result.items) c.self.view_is
    c.change-freed.ensures.known
