use Rattle.std.proofs.Common.{◌≡◌, subst}
use Rattle.mr_model.specs.declared.reply.Reply.{Reply}
use Rattle.mr_model.specs.declared.entry.Entry.TheVariants.{Call}
use Rattle.mr_fates.specs.Lines.{FateList}
use Rattle.mr_history.specs.Journals.{with_entry}
use Rattle.mr_kernel.specs.declared.plan.Plan.TheVariants as plans
use Rattle.mr_kernel.specs.Plans.{plan}
use Rattle.mr_kernel.specs.Holding.{Holds}
use Rattle.mr_kernel.proofs.Planning.{value_in}
use Rattle.mr_kernel.proofs.Replies.{answer_agrees, good_holds, other_holds}
use Rattle.mr_kernel.proofs.replying.answer.Goals as goal

pub returns-in-Good-clause-holds : goal.returns-in-Good-clause-holds
returns-in-Good-clause-holds c f h =
    let j = c.args.journal.now in
    let is = subst (λ (x : Reply). plan (value_in j) c.args.daemon c.args.request.now
    ≡ plans.Answer x) c.in-Good.is c.requires.plan in
    let s = c.set_owner.ensures in
    rw (c.push_call.ensures, c.in-Good.is)
    (good_holds j c.args.live.now c.set_owner.new.live f c.args.daemon c.args.request.now
    c.requires.daemon c.requires.room is
    s.owner s.unread s.heads s.tables s.moment s.waiting s.attempts h)

pub returns-in_default-clause-holds : goal.returns-in_default-clause-holds
returns-in_default-clause-holds c f h =
    rw (c.push_call.ensures) (other_holds c.args.journal.now c.args.live.now f c.args.daemon
    c.args.request.now c.args.reply c.requires.daemon c.requires.room c.requires.plan
    c.in_default.not-Good h)

pub returns-in-Good-clause-agrees : goal.returns-in-Good-clause-agrees
returns-in-Good-clause-agrees c =
    answer_agrees c.args.journal.now c.args.daemon c.args.request.now c.args.reply
    c.requires.daemon c.requires.room c.requires.plan

pub returns-in_default-clause-agrees : goal.returns-in_default-clause-agrees
returns-in_default-clause-agrees c =
    answer_agrees c.args.journal.now c.args.daemon c.args.request.now c.args.reply
    c.requires.daemon c.requires.room c.requires.plan
