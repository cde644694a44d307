use Rattle.std.proofs.Common.{◌≡◌, ◌+◌, ◌-◌, ◌≤◌, ◌++◌, map}
use Rattle.mr_gen.specs.Dealt.{IsBehind, dealt_from}
use Rattle.mr_gen.specs.Generated.{item_of, items_of}
use Rattle.mr_gen.specs.Words.{words_from, words_of}
use Rattle.mr_gen.proofs.drawing.draw_lane.Given as goal

abbrev pub invariant-loop-i : goal.invariant-loop-i
invariant-loop-i l = record {
  most : l.i ≤ l.fn.packets;
  lane : l.held.lane ≡ record { 0 = l.fn.lane };
  behind : IsBehind (l.i + 1) l.held;
  packets : l.held.packets ++ dealt_from (l.i + 1) (words_from l.words (l.fn.packets - l.i)) ≡ dealt_from 1 (words_of l.fn.seed l.fn.lane l.fn.packets);
  lines : l.items.items ++ map (item_of l.fn.lane) (words_from l.words (l.fn.packets - l.i)) ≡ l.initial.items.items ++ items_of l.fn.seed l.fn.packets l.fn.lane;
}
