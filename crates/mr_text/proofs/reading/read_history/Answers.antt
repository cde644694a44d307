use Rattle.std.proofs.Common.{ℕ, List, Bor, ap, ◌∙◌, ◌∷◌}
use Rattle.std.specs.Prelude.{option_copied}
use Rattle.mr_text.specs.Walk.{walk, parts_result}
use Rattle.mr_text.proofs.Finding.{found_by}
use Rattle.mr_text.proofs.SettleLaws.{none_taken}
use Rattle.mr_text.proofs.TextLaws.{read_law}
use Rattle.mr_text.proofs.reading.read_history.Goals as goal
use Rattle.mr_words.specs.Parts.{parts_left, parts_of}

pub returns-in_default-None-clause-found : goal.returns-in_default-None-clause-found
returns-in_default-None-clause-found c =
    let due = c.take_due.new in
    let now = c.take_settle.new in
    let rest = c.in_ok-rest.rest.now in
    let same = none_taken (λ (r : Bor (List ℕ)). r.now) c.in_ok-after.field-0 due.line now.line due.state now.state rest c.in_ok-after.ensures c.in-None.is in
    found_by read_law c.args.bytes.now rest c.split_part.result.0.now now.line now.state c.whole.result c.whole.ensures
    (c.split_part.ensures ∙ ap (λ o. c.split_part.result.0.now ∷ parts_left 10 (option_copied o)) c.in_default-None.is-1)
    ((λ i. parts_result (walk (same.0 i) (same.1 i) (parts_of 10 rest))) ∙ ap parts_result c.in_ok-rest.ensures.0 ∙ c.lines.invariant)
