use Rattle.std.proofs.Common.{◌≡◌, ◌<◌, ◌++◌, drop, flat_map, option_map}
use Rattle.std.specs.Prelude.{option_to_list}
use Rattle.std.specs.List.{AllByRecursion}
use Rattle.mr_model.specs.VifList.{vif_at}
use Rattle.mr_kernel.specs.Endings.{vif_pair}
use Rattle.mr_kernel.proofs.closing.vif_lines.Given as goal

abbrev pub invariant-loop-i : goal.invariant-loop-i
invariant-loop-i l =
    (l.pairs.items ++ flat_map (λ i. option_to_list
    (option_map (vif_pair l.journal.entries) (vif_at l.vifs i))) (drop l.i-index l.indexes)
    ≡ flat_map (λ i. option_to_list (option_map (vif_pair l.journal.entries) (vif_at l.vifs i)))
    l.indexes)
    × AllByRecursion (λ i. i < 32) (drop l.i-index l.indexes)
