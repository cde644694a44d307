use Rattle.std.proofs.Common.{◌≡◌, ◌+◌, ◌∙◌, List, length, map, sym, subst, ap}
use Rattle.std.specs.List.{AllByRecursion}
use Rattle.mr_model.specs.declared.entry.ReleasedId.{ReleasedId}
use Rattle.mr_model.specs.declared.packet.Freed.{Freed}
use Rattle.mr_history.specs.Journals.{NamesUpTo}
use Rattle.mr_kernel.specs.Flows.{id_of}
use Rattle.mr_kernel.proofs.calling.change.Goals as goal

pub push_call-requires-clause-named : goal.push_call-requires-clause-named
push_call-requires-clause-named c =
    let ids : c.as_slice-3.result.now ≡ map id_of c.make-freed.result.items =
    c.as_slice-3.ensures.value ∙ c.ids_of-ids.ensures
    ∙ ap (λ (fs : List Freed). map id_of fs) c.as_slice.ensures.value in
    subst (λ (rs : List ReleasedId). AllByRecursion
    (λ r. NamesUpTo (length c.make-freed.new.journal.entries + 1) r.outcome) rs)
    (sym ids) c.make-freed.ensures.named
