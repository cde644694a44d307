use Rattle.std.proofs.Common.{rules}
use Rattle.std.proofs.lemmas.List.Sorted.{IsNonDecreasingBy-from_sort_by_key}
use Rattle.std.proofs.lemmas.Fn.{always_returns_same}
use Rattle.mr_egress.proofs.Merging.{sorted_from, same_sorted}
use Rattle.mr_egress.proofs.fast.by_looks.Goals as goal

pub returns : goal.returns
returns c = record {
  sorted = sorted_from _ (IsNonDecreasingBy-from_sort_by_key (λ p. p.look) _
      c.in_ok-sort_by_key.ensures.sorted (λ a r q k. search rules));
  same =
      let stable = c.in_ok-sort_by_key.ensures.stable (λ p. p.look)
      (always_returns_same _ _ _ (λ a r f k. search rules)) in
      rw (← c.in_ok-all.ensures) (same_sorted c.in_ok-all.all.items _ stable);
}
