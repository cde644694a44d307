-- What the code answers, beside what the definitions say.
use Rattle.std.specs.Prelude.{◌≡◌, ◌<◌, ◌≤◌, ℕ, Option, Some, None, Result, Ok, Err, List, length}
use Rattle.mr_base.specs.declared.numbers.LaneNo.{LaneNo}
use Rattle.mr_model.specs.declared.entry.FastRecord.{FastRecord}
use Rattle.mr_text.specs.declared.history_text.HistoryText.{HistoryText}
use Rattle.mr_text.specs.declared.history_text.TextError.{TextError}
use Rattle.mr_text.specs.declared.history_text.TextError.TheVariants as error
use Rattle.mr_text.specs.declared.reading_state.Current.TheVariants as current
use Rattle.mr_text.specs.declared.reading_state.State.{State}
use Rattle.mr_text.specs.Walk.{walk}
use Rattle.mr_words.specs.Parts.{parts_of}

-- A line leaves the state that it makes, or it may not come and is named; memory may run out.
abbrev pub Steps : {A : Type 0} → Result A TextError → ℕ → State → Option State → Type 0
Steps (Ok done) n new made = made ≡ Some new
Steps (Err (error.Line m)) n new made = (made ≡ None) × (m ≡ n)
Steps (Err error.Memory) n new made = Unit {0}

-- A text gives these parts, or this is its first line outside the grammar; memory may run out.
abbrev pub Gives : Result HistoryText TextError → Result HistoryText ℕ → Type 0
Gives (Ok t) read = read ≡ Ok t
Gives (Err (error.Line n)) read = read ≡ Err n
Gives (Err error.Memory) read = Unit {0}

-- the state with a settle as its current entry: the records so far, and how many lines are still due
abbrev pub settling : State → LaneNo → List FastRecord → ℕ → State
settling s lane records left = record s { current = current.Settle lane records left }

-- From line m and state t on, what is left of a text comes to what all of it comes to from line n and state s on.
abbrev pub GoesOn : ℕ → State → List ℕ → ℕ → State → List ℕ → Type 0
GoesOn n s bytes m t rest =
    (walk m t (parts_of 10 rest) ≡ walk n s (parts_of 10 bytes)) × (length (parts_of 10 rest) ≤ length (parts_of 10 bytes))

-- A line was taken off a text, which goes on behind it, or none was and nothing changed, or this is the number of the first that may
-- not come; memory may run out.
abbrev pub Turns : {R : Type 0} → (R → List ℕ) → Result (Option R) TextError → ℕ → State → List ℕ → ℕ → State → Type 0
Turns left (Ok None) n s bytes m t = (m ≡ n) × (t ≡ s)
Turns left (Ok (Some rest)) n s bytes m t = GoesOn n s bytes m t (left rest) × (length (parts_of 10 (left rest)) < length (parts_of 10 bytes))
Turns left (Err (error.Line k)) n s bytes m t = walk n s (parts_of 10 bytes) ≡ Err k
Turns left (Err error.Memory) n s bytes m t = Unit {0}
