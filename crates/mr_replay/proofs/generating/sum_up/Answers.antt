use Rattle.std.proofs.Common.{◌∙◌, None, Err, ap}
use Rattle.mr_replay.proofs.Coming.{with_its_own}
use Rattle.mr_replay.proofs.Ready.{can_run, these_fit}
use Rattle.mr_replay.proofs.Summing.{never_short, sums_over}
use Rattle.mr_replay.proofs.generating.sum_up.Goals as goal

pub run_loaded-requires-clause-can : goal.run_loaded-requires-clause-can
run_loaded-requires-clause-can g c =
    λ κs within. can_run (λ name. None) c.in-Ok.loaded c.replace-machines.new.dest (c.in-Ok.ensures.loaded (λ name. None))

pub run_loaded-requires-clause-machines : goal.run_loaded-requires-clause-machines
run_loaded-requires-clause-machines g c =
    λ κs within. these_fit (λ name. None) c.in-Ok.loaded c.machines.inside.0.items (c.machines.view_is ∙ c.replace-machines.ensures.value) (c.in-Ok.ensures.loaded (λ name. None))

pub returns-in-Ok-run_loaded-clause-good : goal.returns-in-Ok-run_loaded-clause-good
returns-in-Ok-run_loaded-clause-good g c =
    λ e. (
      c.in-Ok-run_loaded.kernel.history,
      λ files. sums_over files c.in-Ok.loaded c.in-Ok-run_loaded.kernel _ _ (c.in-Ok.ensures.loaded files) c.in-Ok.ensures.scenario c.in-Ok-run_loaded.ensures.limits c.facts.ensures.legal
          (c.in-Ok-run_loaded.ensures.made files (with_its_own files c.in-Ok.loaded c.machines.inside.0.items (c.machines.view_is ∙ c.replace-machines.ensures.value) (c.in-Ok.ensures.loaded files)))
          (c.write_sums.ensures.good e),
    )

pub returns-in-Ok-run_loaded-clause-sink_fault : goal.returns-in-Ok-run_loaded-clause-sink_fault
returns-in-Ok-run_loaded-clause-sink_fault g c =
    λ e. (
      c.in-Ok-run_loaded.kernel.history,
      λ files. sums_over files c.in-Ok.loaded c.in-Ok-run_loaded.kernel _ _ (c.in-Ok.ensures.loaded files) c.in-Ok.ensures.scenario c.in-Ok-run_loaded.ensures.limits c.facts.ensures.legal
          (c.in-Ok-run_loaded.ensures.made files (with_its_own files c.in-Ok.loaded c.machines.inside.0.items (c.machines.view_is ∙ c.replace-machines.ensures.value) (c.in-Ok.ensures.loaded files)))
          (c.write_sums.ensures.cut e),
    )

pub returns-in-Err-ControlFull-clause-only : goal.returns-in-Err-ControlFull-clause-only
returns-in-Err-ControlFull-clause-only g c =
    absurd (never_short c.in-Ok.loaded c.machines.inside.0.items _ _ _ c.in-Ok.ensures.scenario c.in-Ok.ensures.loaded (c.machines.view_is ∙ c.replace-machines.ensures.value) (c.run_loaded.ensures.full (c.in-Err-ControlFull.is ∙ ap Err c.in-Err-ControlFull.field-0-is)))
