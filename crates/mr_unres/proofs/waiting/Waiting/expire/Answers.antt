use Rattle.std.proofs.Common.{◌-◌, ◌<◌, nat_lt, refl, sym, ap, ◌∙◌, subst, arith}
use Rattle.mr_unres.specs.Entries.{WaitingEntries, awaiting, packet_count}
use Rattle.mr_unres.specs.Slots.{somes}
use Rattle.mr_unres.proofs.Listed.{awaiting_filter}
use Rattle.mr_unres.proofs.Ordered.{count_few, young_rest, count_rest}
use Rattle.mr_unres.proofs.waiting.Waiting.expire.Goals as goal

pub loop-entry-init : goal.loop-entry-init
loop-entry-init c =
    let few : packet_count (somes c.self.inside.slots.items) < 4294967296 =
    omega (arith, count_few (somes c.self.inside.slots.items) c.self.invariant.few) in
    (refl, refl, omega arith, subst (λ (w : WaitingEntries). packet_count w.entries < 4294967296) c.self.view_is few)

pub returns-clause-model : goal.returns-clause-model
returns-clause-model c =
    ap (λ (w : WaitingEntries). awaiting w.entries) c.in_default.ensures.stays
    ∙ ap awaiting (sym c.in_default.ensures.none ∙ c.loop-entry.invariant.0)
    ∙ sym (awaiting_filter (λ a. nat_lt (c.args.now - a.since) 10000) c.args.self.now.entries)

pub loop-entry-preserved : goal.loop-entry-preserved
loop-entry-preserved c =
    let out = (c.in-Some.ensures).some in
    let count = count_rest c.packet_count-dropped.result c.loop-entry.self.entries c.pop_expired.new.self.entries c.in-Some.entry out c.packet_count-dropped.ensures in (
      young_rest c.args.now c.loop-entry.self.entries c.pop_expired.new.self.entries c.in-Some.entry out (c.in-Some.ensures).expired ∙ c.loop-entry.invariant.0,
      c.pop_expired.ensures.limit ∙ c.loop-entry.invariant.1,
      omega (arith, count, c.loop-entry.invariant.2),
      c.loop-entry.invariant.3,
    )
