use Rattle.std.proofs.Common.{◌≡◌, length, take}
use Rattle.mr_load.specs.Kept.{contents_kept}
use Rattle.mr_load.specs.Passing.{EachFrom, HasPassed}
use Rattle.mr_load.proofs.passing.pass_phases.Given as goal

-- the phases so far are passed
abbrev pub invariant-loop-i : goal.invariant-loop-i
invariant-loop-i l = record {
  passed : EachFrom (HasPassed (contents_kept l.traces.entries) (take l.i l.phases)) 1 l.lanes.items;
  count : length l.lanes.items ≡ length l.initial.lanes.items;
}
