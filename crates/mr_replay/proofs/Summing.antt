-- A generated scenario has room for its daemon, and what is summed up is a run of it.
use Rattle.std.proofs.Common.{◌≡◌, ◌∙◌, ℕ, ◌≤◌, Option, None, List, refl, sym, ap, arith, subst}
use Rattle.std.specs.Prelude.{sum}
use Rattle.mr_base.specs.Outside.{Files}
use Rattle.mr_base.specs.declared.limits.TheConstants.{DEFAULT_CONTROLS}
use Rattle.mr_gen.specs.Generated.{generated}
use Rattle.mr_gen.specs.Summary.{summary}
use Rattle.mr_kernel.specs.Values.{KernelValue}
use Rattle.mr_load.specs.Loading.{run_limits}
use Rattle.mr_load.specs.Loads.{IsLoaded}
use Rattle.mr_load.specs.Made.{Made}
use Rattle.mr_load.specs.declared.loading.Loaded.{Loaded}
use Rattle.mr_model.specs.Legal.{IsLegal}
use Rattle.mr_model.specs.declared.limits.Limits.{Limits}
use Rattle.mr_scenario.specs.declared.scenario.Scenario.{Scenario}
use Rattle.smc_core.specs.Machine.{Machine}
use Rattle.smc_daemon.specs.Room.{least, most, polled}
use Rattle.mr_replay.specs.Generating.{SumsOver}
use Rattle.mr_replay.specs.Running.{IsShort, with_machines}
use Rattle.mr_replay.proofs.Coming.{with_its_own}

pub sums_over : (files : Files) (l : Loaded) (k : KernelValue) (s : Scenario) (IsWritten : List ℕ → Type 0) → IsLoaded files l → l.scenario ≡ s → k.limits ≡ l.limits
    → IsLegal k.limits k.history → Made files l.scenario k.history → IsWritten (summary k.limits k.history) → SumsOver files s k.history IsWritten
sums_over files l k s IsWritten i same limits legal made written =
    let run : k.limits ≡ run_limits files s = limits ∙ i.limits ∙ ap (run_limits files) same in
    record {
      legal = subst (λ (x : Limits). IsLegal x k.history) run legal;
      made = subst (λ (t : Scenario). Made files t k.history) same made;
      written = subst (λ (x : Limits). IsWritten (summary x k.history)) run written;
    }

-- its daemon has 69 lines, and no machine
asked_least : (files : Files) (seed lanes packets : ℕ) → least files (generated seed lanes packets) ≡ 69
asked_least files seed lanes packets = refl

none_polled : (seed lanes packets : ℕ) → polled (generated seed lanes packets) ≡ 0
none_polled seed lanes packets = refl

has_room : (files : Files) (seed lanes packets n : ℕ) → most files (generated seed lanes packets) n ≤ DEFAULT_CONTROLS
has_room files seed lanes packets n = omega (arith, asked_least files seed lanes packets, none_polled seed lanes packets)

pub never_short : (l : Loaded) (ms : List (Option Machine)) (seed lanes packets : ℕ) → l.scenario ≡ generated seed lanes packets → ((files : Files) → IsLoaded files l) → ms ≡ l.machines
    → IsShort (with_machines l ms) → ⊥
never_short l ms seed lanes packets is all same short =
    let none : Files = λ name. None in
    let less = short none (with_its_own none l ms same (all none)) in
    let room : most none l.scenario (sum l.limits.packets) ≤ DEFAULT_CONTROLS =
    subst (λ (s : Scenario). most none s (sum l.limits.packets) ≤ DEFAULT_CONTROLS) (sym is) (has_room none seed lanes packets (sum l.limits.packets)) in
    let controls : l.scenario.limits.controls ≡ DEFAULT_CONTROLS = ap (λ (s : Scenario). s.limits.controls) is in
    omega (arith, less, room, controls)
