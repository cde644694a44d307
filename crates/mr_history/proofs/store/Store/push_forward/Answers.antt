use Rattle.std.proofs.Common.{refl, ◌++◌, ◌∷◌, [], Some, ap, ◌∙◌}
use Rattle.std.proofs.lemmas.List.{length-map, map-append}
use Rattle.mr_history.specs.Small.{fast_of}
use Rattle.mr_history.specs.Stores.{lists_of, entries_of, forward_of}
use Rattle.mr_history.proofs.Kept.{forward_pushed}
use Rattle.mr_history.proofs.store.Store.push_forward.Goals as goal

pub returns-clause-entries : goal.returns-clause-entries
returns-clause-entries c =
    rw (
      c.push_reserved-2.ensures.items,
      c.push_reserved.ensures.items,
      map-append fast_of c.self.inside.records.items (c.keep.result ∷ []),
      ← c.self.view_is,
    )
    (forward_pushed (lists_of c.self.inside) c.self.inside.kept.items c.args.lane _
    (fast_of c.keep.result) c.self.invariant.within
    (rw (c.as_slice.ensures.value, length-map) refl)
    ∙ ap (λ r. entries_of (lists_of c.self.inside) c.self.inside.kept.items
    ++ forward_of c.args.lane (Some r) ∷ []) c.keep.ensures)
