use Rattle.std.proofs.Common.{◌∙◌, ap, sym, is_some, Option}
use Rattle.mr_base.specs.declared.vif_record.VifRecord.{VifRecord}
use Rattle.mr_vif.proofs.VifLemmas.{has_from_at}
use Rattle.mr_kernel.proofs.ChangesVifs.{gone_left, kept_left, none_left}
use Rattle.mr_kernel.proofs.changing.flush_vif.Goals as goal

pub forget_vif-requires-clause-there : goal.forget_vif-requires-clause-there
forget_vif-requires-clause-there c =
    has_from_at c.args.vifs.now c.args.vif
    ∙ ap (λ (o : Option VifRecord). is_some o) (sym c.in-Some.ensures)

pub returns-then-flushes-clause-here : goal.returns-then-flushes-clause-here
returns-then-flushes-clause-here c within =
    gone_left c.args.loose c.args.fixed c.args.vifs.now c.args.vif c.in-Some.record
    c.forget_vif.new.journal.vifs c.rules.ensures.distinct c.in-Some.ensures
    (sym c.flushes.ensures ∙ c.if-flushes.true) c.forget_vif.ensures.here

pub returns-else-flushes-clause-here : goal.returns-else-flushes-clause-here
returns-else-flushes-clause-here c within =
    kept_left c.args.loose c.args.fixed c.args.vifs.now c.args.vif c.in-Some.record
    c.args.journal.now.vifs c.rules.ensures.distinct c.in-Some.ensures
    (sym c.flushes.ensures ∙ c.if-flushes.false) (c.requires.counts within)

pub returns-in_default-clause-here : goal.returns-in_default-clause-here
returns-in_default-clause-here c within =
    none_left c.args.loose c.args.fixed c.args.vifs.now c.args.vif c.args.journal.now.vifs
    c.rules.ensures.distinct c.in_default.ensures (c.requires.counts within)
