-- When a wrong interface was last reported for an entry (ipmr.c, mfc_last_assert): the moment of the last outcome `wrong` of the
-- entry that was not quiet, whether it was told or lost.
use Rattle.std.specs.Prelude.{ℕ, ◌+◌, Option, List, [], ◌∷◌, ◌++◌, flat_map, reverse}
use Rattle.mr_model.specs.declared.entry.Entry.{Entry}
use Rattle.mr_model.specs.declared.entry.Entry.TheVariants.{Call, Slow}
use Rattle.mr_model.specs.declared.reply.Reply.TheVariants.{Good}
use Rattle.mr_model.specs.Messages.{Attempt, attempts_by, last_attempt}
use Rattle.mr_model.specs.Now.{milliseconds}

-- the attempts of an entry at a moment
abbrev pub attempted_by : ℕ → Entry → List Attempt
attempted_by now (Slow lane index look flow o) = attempts_by now o
attempted_by now (Call d r Good released) = flat_map (λ x. attempts_by now x.outcome) released
attempted_by now _ = []

-- the attempts of the entries h from a moment on, the oldest first
abbrev pub attempts_from : ℕ → List Entry → List Attempt
attempts_from now [] = []
attempts_from now (e ∷ h) = attempted_by now e ++ attempts_from (now + milliseconds e) h

abbrev pub attempt : List Entry → ℕ → Option ℕ
attempt h entry = last_attempt (reverse (attempts_from 0 h)) entry
