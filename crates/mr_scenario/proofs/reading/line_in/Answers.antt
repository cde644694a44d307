use Rattle.std.proofs.Common.{◌≡◌, true, false, Option, Some, None, Result, rules}
use Rattle.mr_scenario.specs.Answers.{Steps}
use Rattle.mr_scenario.specs.Counts.{Word}
use Rattle.mr_scenario.specs.Spelled.{head_line, phase_part, line_in}
use Rattle.mr_scenario.specs.declared.draft.Draft.{Draft}
use Rattle.mr_scenario.specs.declared.scenario.Phase.{Phase}
use Rattle.mr_scenario.specs.declared.stop.Stop.{Stop}
use Rattle.std.specs.Prelude.{ℕ, List, is_some, unwrap_or}
use Rattle.mr_scenario.proofs.reading.line_in.Goals as goal

-- a line of an open phase, and a line where there is none
in_phase : (r : Result (Unit {0}) Stop) (new : Draft) (n : ℕ) (d : Draft) (c : Option Phase) (p : Phase) (w : Word) (ws : List Word) → is_some c ≡ true →
    Steps r new (phase_part n d (unwrap_or c p) w ws) → Steps r new (line_in n d c w ws)
in_phase r new n d (Some q) p w ws there steps = steps
in_phase r new n d None p w ws there steps = absurd (cc there)

in_head : (r : Result (Unit {0}) Stop) (new : Draft) (n : ℕ) (d : Draft) (c : Option Phase) (w : Word) (ws : List Word) → is_some c ≡ false →
    Steps r new (head_line n d w ws) → Steps r new (line_in n d c w ws)
in_head r new n d None w ws shut steps = steps
in_head r new n d (Some q) w ws shut steps = absurd (cc shut)

pub returns-then-is_some : goal.returns-then-is_some
returns-then-is_some c =
    in_phase c.phase_part.result c.phase_part.new.draft c.args.line c.args.draft.now c.args.draft.now.current _ c.args.word.now _ (search rules) c.phase_part.ensures

pub returns-else-is_some : goal.returns-else-is_some
returns-else-is_some c =
    in_head c.head_line.result c.head_line.new.draft c.args.line c.args.draft.now c.args.draft.now.current c.args.word.now _ (search rules) c.head_line.ensures
