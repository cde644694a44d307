use Rattle.std.proofs.Common.{rules}
use Rattle.std.proofs.lemmas.List.Sorted.{IsNonDecreasingBy-from_sort_by_key}
use Rattle.std.proofs.lemmas.Fn.{always_returns_same}
use Rattle.mr_history.proofs.Interleaving.{sorted_from, same_sorted}
use Rattle.mr_history.proofs.unfolding.unfolded_of.Goals as goal

pub merge-requires-clause-sorted : goal.merge-requires-clause-sorted
merge-requires-clause-sorted c =
    rw c.as_slice.ensures.value
    (sorted_from _ (IsNonDecreasingBy-from_sort_by_key
    (λ p. p.fast.look) _ c.in_ok-sort_by_key.ensures.sorted (λ a r q k. search rules)))

pub merge-requires-clause-same : goal.merge-requires-clause-same
merge-requires-clause-same c =
    let stable = c.in_ok-sort_by_key.ensures.stable (λ p. p.fast.look)
    (always_returns_same _ _ _ (λ a r f k. search rules)) in
    rw (c.as_slice.ensures.value, ← c.in_ok-fast.ensures)
    (same_sorted c.in_ok-fast.fast.items _ stable)
