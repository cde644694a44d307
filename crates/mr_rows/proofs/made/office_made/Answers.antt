use Rattle.std.proofs.Common.{rules, ◌≡◌, ◌≤◌, ℕ, zero, suc, false, Some, List, [], ◌∷◌, ◌++◌, refl, subst, arith}
use Rattle.mr_base.specs.Heads.{cause_in}
use Rattle.mr_load.specs.Callers.{has_machine, kind_of}
use Rattle.mr_load.specs.Made.{PartOf, sent, asked, to_send, to_ask}
use Rattle.mr_model.specs.declared.entry.Entry.TheVariants.{EndPhase}
use Rattle.mr_rows.specs.Office.{item, second_phase, scenario}
use Rattle.mr_rows.proofs.MadeParts.{one_and_two}
use Rattle.mr_rows.proofs.made.office_made.Goals as goal
use Rattle.mr_scenario.specs.declared.scenario.DaemonKind.TheVariants.{Smc}
use Rattle.smc_daemon.specs.Courses.{DrivesFrom}
use Rattle.smc_daemon.specs.Machines.{machine_of}
use Rattle.smc_daemon.specs.Worked.{files, history, conf_name, first_phase, third_phase, started, missed, polled}
use Rattle.smc_words.specs.Words.{Word}

-- the second daemon alone has no machine
second_alone : (P : ℕ → Type 0) → P 2 → (d : ℕ) → 1 ≤ d → d ≤ 2 → has_machine scenario d ≡ false → P d
second_alone P p zero least most none = absurd (omega (arith, least))
second_alone P p (suc zero) least most none = absurd (cc none)
second_alone P p (suc (suc zero)) least most none = p
second_alone P p (suc (suc (suc n))) least most none = absurd (omega (arith, most))

first : PartOf files scenario [] first_phase started
first = record {
  no_end = refl;
  callers = search rules;
  lanes = one_and_two (λ lane. sent lane started ≡ to_send files lane [] first_phase) refl refl;
  daemons = second_alone (λ d. asked d started ≡ to_ask d first_phase) refl;
}

second : PartOf files scenario [] second_phase missed
unfolding cause_in
second = record {
  no_end = refl;
  callers = search rules;
  lanes = one_and_two (λ lane. sent lane missed ≡ to_send files lane [] second_phase) refl refl;
  daemons = second_alone (λ d. asked d missed ≡ to_ask d second_phase) refl;
}

third : PartOf files scenario (item ∷ []) third_phase polled
unfolding cause_in
third = record {
  no_end = refl;
  callers = search rules;
  lanes = one_and_two (λ lane. sent lane polled ≡ to_send files lane (item ∷ []) third_phase) refl refl;
  daemons = second_alone (λ d. asked d polled ≡ to_ask d third_phase) refl;
}

whole : DrivesFrom 1 (machine_of files scenario (conf_name ∷ [])) [] scenario.phases history
whole = (started, missed ++ EndPhase ∷ polled ++ EndPhase ∷ [], refl, refl, refl, (missed, polled ++ EndPhase ∷ [], refl, refl, refl, (polled, [], refl, refl, refl, refl)))

drives : (d : ℕ) (names : List Word) → kind_of scenario d ≡ Some (Smc names) → DrivesFrom d (machine_of files scenario names) [] scenario.phases history
drives zero names e = absurd (cc e)
drives (suc zero) names e =
    let same : conf_name ∷ [] ≡ names = cc e in
    subst (λ (ns : List Word). DrivesFrom 1 (machine_of files scenario ns) [] scenario.phases history) same whole
drives (suc (suc zero)) names e = absurd (cc e)
drives (suc (suc (suc n))) names e = absurd (cc e)

pub returns : goal.returns
returns c = record {
  phases = (started, missed ++ EndPhase ∷ polled ++ EndPhase ∷ [], refl, first, (missed, polled ++ EndPhase ∷ [], refl, second, (polled, [], refl, third, refl)));
  machines = drives;
}
