use Rattle.std.proofs.Common.{◌∷◌, codes, decimal}
use Rattle.mr_lines.specs.Lines.{outcome_words}
use Rattle.mr_print.proofs.WritingLemmas.{line_put}
use Rattle.mr_print.proofs.lines.write_slow.Goals as goal

pub returns : goal.returns
returns c =
    line_put _ _ _ _ _ (codes "slow" ∷ decimal c.args.lane.0 ∷ decimal c.args.index ∷ decimal c.args.look ∷ outcome_words c.args.outcome.now)
    c.in_ok-write_number.ensures c.in_ok-write_slow_words.ensures c.in_ok-extend_from_slice.ensures.items
