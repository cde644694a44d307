use Rattle.std.proofs.Common.{◌≡◌, ◌≤◌, ◌∙◌, ap, Result, Ok, Err, IfOk, List, ℕ, length}
use Rattle.std.proofs.lemmas.Result.{IfOk-at_ok}
use Rattle.mr_scenario.specs.Answers.{Gives}
use Rattle.mr_scenario.specs.Fits.{Fits}
use Rattle.mr_scenario.specs.PhaseLines.{phases_so_far}
use Rattle.mr_scenario.specs.Spelled.{draft_from, empty_draft, whole}
use Rattle.mr_scenario.specs.declared.draft.Draft.{Draft}
use Rattle.mr_scenario.specs.declared.scenario.Scenario.{Scenario}
use Rattle.mr_scenario.specs.declared.stop.ScenarioError.{ScenarioError}
use Rattle.mr_words.specs.Binds.{◌>>=◌}
use Rattle.mr_words.specs.Words.{lines_of}
use Rattle.mr_scenario.proofs.FitsDraft.{Keeps, empty_keeps, lines_keep, spelled_keeps}
use Rattle.mr_scenario.proofs.reading.read.Goals as goal

few_phases : (bytes : List ℕ) (d : Draft) → draft_from 1 empty_draft (lines_of bytes) ≡ Ok d → length (phases_so_far d) ≤ 1000
few_phases bytes d drafted =
    let keeps : Keeps d = IfOk-at_ok Keeps drafted (lines_keep 1 empty_draft (lines_of bytes) empty_keeps) in
    keeps.phases

-- what is read of bytes that spell it fits
fits_read : (bytes : List ℕ) (d : Draft) (r : Result Scenario ScenarioError) → draft_from 1 empty_draft (lines_of bytes) ≡ Ok d → Gives (λ s. s) r (whole d) → IfOk r Fits
fits_read bytes d (Ok s) drafted gives = spelled_keeps bytes s (ap (λ t. t >>= whole) drafted ∙ gives)
fits_read bytes d (Err e) drafted gives = tt

pub whole-requires : goal.whole-requires
whole-requires c = few_phases c.args.bytes.now c.in_ok-draft.draft c.in_ok-draft.ensures

pub returns-clause-fits : goal.returns-clause-fits
returns-clause-fits c = fits_read c.args.bytes.now c.in_ok-draft.draft c.whole.result c.in_ok-draft.ensures c.whole.ensures
