use Rattle.std.proofs.Common.{◌≡◌, ◌<◌, ◌++◌, [], drop, flat_map, if◌then◌else◌}
use Rattle.std.specs.List.{AllByRecursion}
use Rattle.mr_model.specs.Verdict.{is_in}
use Rattle.mr_egress.specs.Files.{record_with}
use Rattle.mr_egress.proofs.copying.write_each.Given as goal

abbrev pub invariant-loop-vif : goal.invariant-loop-vif
invariant-loop-vif l =
    (l.out.items ++ flat_map (λ i. if is_in l.mask i then record_with l.total l.head l.body else [])
    (drop l.vif-index l.indexes)
    ≡ l.initial.out.items ++ flat_map (λ i. if is_in l.mask i then record_with l.total l.head l.body else []) l.indexes)
    × AllByRecursion (λ i. i < 32) (drop l.vif-index l.indexes)
