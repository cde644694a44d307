use Rattle.std.proofs.Common.{◌≡◌, ◌+◌, drop}
use Rattle.std.specs.List.{sum_by}
use Rattle.mr_load.specs.Naming.{named_on}
use Rattle.mr_load.proofs.naming.name_items.Given as goal
use Rattle.mr_scenario.specs.Fits.{packets_in}

abbrev pub invariant-loop-item : goal.invariant-loop-item
invariant-loop-item l = record {
  files : named_on l.named.files.entries (drop l.item-index l.items) ≡ named_on l.initial.named.files.entries l.items;
  packets : l.named.packets + sum_by (λ i. packets_in i.given) (drop l.item-index l.items) ≡ l.initial.named.packets + sum_by (λ i. packets_in i.given) l.items;
}
