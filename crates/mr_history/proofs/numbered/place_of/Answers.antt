use Rattle.std.proofs.Common.{ltb, rules, arith}
use Rattle.std.proofs.lemmas.List.Sorted.{IsPartitionPoint-from_clause, IsPartitionedBy-ltb}
use Rattle.std.proofs.lemmas.Grind.{common_steps}
use Rattle.mr_history.proofs.Numbering.{absent, non_decreasing}
use Rattle.mr_history.proofs.numbered.place_of.Goals as goal

pub returns-in_default-clause-none : goal.returns-in_default-clause-none
returns-in_default-clause-none g c =
    let parted = IsPartitionedBy-ltb (λ p. p.0) c.args.rising.now c.args.number
    (non_decreasing _ c.requires) in
    let point = IsPartitionPoint-from_clause
    (λ p. ltb p.0 c.args.number) _ _ c.partition_point-place.ensures.partitioned parted
    (λ a r q k. search rules) in
    absent c.args.rising.now c.args.number c.partition_point-place.result c.requires point
    (λ d within same. grind (arith, common_steps))

pub returns-in_default-2-clause-none : goal.returns-in_default-2-clause-none
returns-in_default-2-clause-none g c =
    let parted = IsPartitionedBy-ltb (λ p. p.0) c.args.rising.now c.args.number
    (non_decreasing _ c.requires) in
    let point = IsPartitionPoint-from_clause
    (λ p. ltb p.0 c.args.number) _ _ c.partition_point-place.ensures.partitioned parted
    (λ a r q k. search rules) in
    absent c.args.rising.now c.args.number c.partition_point-place.result c.requires point
    (λ d within same. grind (arith, common_steps))
