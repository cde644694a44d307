use Rattle.mr_base.specs.declared.numbers.LaneNo.{LaneNo}
use Rattle.mr_text.specs.declared.reading_state.State.{State}
use Rattle.mr_text.specs.Answers.{GoesOn, settling}
use Rattle.mr_text.proofs.reading.take_records.Given as goal

-- what is left comes to what the whole text comes to
abbrev pub invariant-records : goal.invariant-records
invariant-records l =
    (s : State) (lane : LaneNo) → GoesOn l.fn.line (settling s lane l.fn.records.items l.fn.left) l.fn.text l.next (settling s lane l.records.items l.due) l.rest

abbrev pub decreases-records : goal.decreases-records
decreases-records l = l.due
