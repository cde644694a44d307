-- What is read fits and is the text that was read.
use Rattle.std.proofs.Common.{◌≡◌, ◌∙◌, sym, ap, ℕ, Result, Ok, Err, List, [], ◌∷◌, IfOk}
use Rattle.mr_text.specs.declared.history_text.HistoryText.{HistoryText}
use Rattle.mr_text.specs.declared.history_text.TextError.{TextError}
use Rattle.mr_text.specs.declared.reading_state.State.{State}
use Rattle.mr_text.specs.Answers.{Gives}
use Rattle.mr_text.specs.Laws.{ReadIsText}
use Rattle.mr_text.specs.Text.{text}
use Rattle.mr_text.specs.Walk.{last_line, walk, parts_result, walked}
use Rattle.mr_text.specs.Whole.{PartsFit, first_lines}
use Rattle.mr_words.specs.Parts.{parts_of}

pub found_by : ReadIsText → (bytes rest piece : List ℕ) (n : ℕ) (s : State) (r : Result HistoryText TextError)
    → Gives r (parts_result (last_line n s piece)) → parts_of 10 rest ≡ piece ∷ [] → parts_result (walk n s (parts_of 10 rest)) ≡ walked bytes
    → IfOk r (λ t. PartsFit t.skips t.entries t.tail × (bytes ≡ text t.skips t.entries t.tail) × (t.lines ≡ first_lines t.skips t.entries))
found_by law bytes rest piece n s (Ok t) gives cut goes = law bytes t (sym goes ∙ ap (λ ps. parts_result (walk n s ps)) cut ∙ gives)
found_by law bytes rest piece n s (Err e) gives cut goes = tt
