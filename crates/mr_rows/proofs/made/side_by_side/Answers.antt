use Rattle.std.proofs.Common.{rules, ◌≡◌, ℕ, zero, suc, Some, List, [], ◌∷◌, ◌++◌, refl}
use Rattle.mr_base.specs.Heads.{cause_in}
use Rattle.mr_load.specs.Callers.{kind_of}
use Rattle.mr_load.specs.Loading.{skips_of}
use Rattle.mr_load.specs.Made.{PartOf, sent, asked, to_send, to_ask}
use Rattle.mr_model.specs.Legal.{IsLegal}
use Rattle.mr_model.specs.declared.entry.Entry.TheVariants.{EndPhase}
use Rattle.mr_load.specs.Loading.{run_limits}
use Rattle.mr_rows.specs.SideBySide.{files, scenario, skips, first_phase, second_phase, first_part, second_part, history}
use Rattle.mr_rows.proofs.MadeParts.{one_and_two}
use Rattle.mr_rows.proofs.made.side_by_side.Goals as goal
use Rattle.mr_scenario.specs.declared.scenario.DaemonKind.TheVariants.{Smc}
use Rattle.smc_words.specs.Words.{Word}

no_machine : (d : ℕ) (names : List Word) → kind_of scenario d ≡ Some (Smc names) → ⊥
no_machine zero names e = absurd (cc e)
no_machine (suc zero) names e = absurd (cc e)
no_machine (suc (suc zero)) names e = absurd (cc e)
no_machine (suc (suc (suc n))) names e = absurd (cc e)

first : PartOf files scenario [] first_phase first_part
unfolding cause_in
first = record {
  no_end = refl;
  callers = search rules;
  lanes = one_and_two (λ lane. sent lane first_part ≡ to_send files lane [] first_phase) refl refl;
  daemons = λ d least most none. one_and_two (λ d. asked d first_part ≡ to_ask d first_phase) refl refl d least most;
}

second : PartOf files scenario first_phase.items second_phase second_part
unfolding cause_in
second = record {
  no_end = refl;
  callers = search rules;
  lanes = one_and_two (λ lane. sent lane second_part ≡ to_send files lane first_phase.items second_phase) refl refl;
  daemons = λ d least most none. one_and_two (λ d. asked d second_part ≡ to_ask d second_phase) refl refl d least most;
}

skips_are : skips_of files scenario ≡ skips
unfolding cause_in
skips_are = refl

legal : IsLegal (run_limits files scenario) history
unfolding cause_in
legal = search rules

pub returns-clause-skips : goal.returns-clause-skips
returns-clause-skips c = skips_are

pub returns-clause-legal : goal.returns-clause-legal
returns-clause-legal c = legal

pub returns-clause-made : goal.returns-clause-made
returns-clause-made c = record {
  phases = (first_part, second_part ++ EndPhase ∷ [], refl, first, (second_part, [], refl, second, refl));
  machines = λ d names e. absurd (no_machine d names e);
}
