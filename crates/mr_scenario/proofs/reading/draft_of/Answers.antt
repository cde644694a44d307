use Rattle.std.proofs.Common.{rules}
use Rattle.mr_scenario.proofs.Binds.{after_step}
use Rattle.mr_scenario.proofs.FitsDraft.{Keeps, empty_keeps, line_keeps}
use Rattle.mr_scenario.proofs.reading.draft_of.Goals as goal

pub lines-init : goal.lines-init
lines-init c = record {
  same = search rules;
  keeps = rw (c.new.ensures.items, c.new-2.ensures.items, c.new-3.ensures.items) empty_keeps;
}

pub line_of-requires-clause-devices : goal.line_of-requires-clause-devices
line_of-requires-clause-devices c = c.lines.invariant.keeps.head.devices

pub line_of-requires-clause-daemons : goal.line_of-requires-clause-daemons
line_of-requires-clause-daemons c = c.lines.invariant.keeps.head.daemons

pub lines-preserved : goal.lines-preserved
lines-preserved c = record {
  same = search rules;
  keeps = after_step c.line_of.result c.in-Ok.field-0 c.line_of.new.draft _ Keeps c.in-Ok.is c.line_of.ensures (line_keeps c.lines.line c.lines.draft _ c.lines.invariant.keeps);
}
