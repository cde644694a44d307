use Rattle.std.proofs.Common.{take}
use Rattle.mr_replay.specs.Daemons.{HasAsked, lines_by}
use Rattle.mr_replay.proofs.asking.ask_lines.Given as goal

abbrev pub invariant-loop-line : goal.invariant-loop-line
invariant-loop-line g l = HasAsked (lines_by l.number (take l.line-index l.script)) l.initial.daemon l.daemon
