use Rattle.std.proofs.Common.{◌∙◌, refl}
use Rattle.mr_load.specs.Kept.{contents_kept}
use Rattle.mr_load.specs.Passing.{EachFrom, HasPassed}
use Rattle.mr_load.proofs.Gathered.{lanes_are, counts_are, skips_are, devs_are, few_packets}
use Rattle.mr_load.proofs.loading.with_items.Goals as goal

pub gather-requires : goal.gather-requires
gather-requires c =
    few_packets (contents_kept c.args.traces.now.entries) c.args.scenario.phases c.in_ok-passed.passed.items c.requires.items (rw c.phases_of.ensures at c.in_ok-passed.ensures.passed)

pub returns-clause-given : goal.returns-clause-given
returns-clause-given c =
    let C = contents_kept c.args.traces.now.entries in
    let s = c.args.scenario in
    let passed = c.in_ok-passed.passed.items in
    let count = c.in_ok-passed.ensures.count in
    let has : EachFrom (HasPassed C s.phases) 1 passed = rw c.phases_of.ensures at c.in_ok-passed.ensures.passed in
    record {
      limits = c.in_ok-limits.ensures ∙ rw (c.limits_of.ensures, c.in_ok-lanes.ensures.counts, counts_are C s passed count has) refl;
      lanes = c.in_ok-lanes.ensures.lanes ∙ lanes_are C s passed count has;
      skips = c.in_ok-lanes.ensures.skips ∙ skips_are C s passed count has;
      skip_devs = c.in_ok-lanes.ensures.devs ∙ devs_are C s passed count has;
      machines = c.in_ok-machines.ensures;
    }
