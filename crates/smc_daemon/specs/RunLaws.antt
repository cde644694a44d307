-- How many control entries all daemons of a scenario make.
use Rattle.std.specs.Prelude.{◌≡◌, ◌+◌, ◌≤◌, ℕ, false, Some, List, length, slice_get, sum, sum_by}
use Rattle.std.specs.List.{list_any}
use Rattle.mr_base.specs.Outside.{Files}
use Rattle.mr_model.specs.Legal.{IsLegal}
use Rattle.mr_model.specs.Past.{controls, packets_in}
use Rattle.mr_model.specs.declared.entry.Entry.{Entry}
use Rattle.mr_model.specs.declared.limits.Limits.{Limits}
use Rattle.mr_scenario.specs.PhaseLines.{is_smc}
use Rattle.mr_scenario.specs.declared.scenario.DaemonKind.{DaemonKind}
use Rattle.mr_scenario.specs.declared.scenario.Scenario.{Scenario}
use Rattle.smc_daemon.specs.Reaching.{OfEach, Ran, Reach, IsReach, Lacks, made}
use Rattle.smc_daemon.specs.Room.{least, most}

-- the history is one of so many daemons, and legal
pub record IsOf (s : Scenario) (limits : Limits) (h : List Entry) : Type 0 where
  pub legal : IsLegal limits h
  pub daemons : length limits.admins ≡ length s.daemons

-- There is room for all control entries of a legal history.
abbrev pub RoomOfLegal : Type 0
RoomOfLegal = (limits : Limits) (h : List Entry) → IsLegal limits h → controls h ≤ limits.controls

-- It has no more packets than its lanes are given.
abbrev pub PacketsOfLegal : Type 0
PacketsOfLegal = (limits : Limits) (h : List Entry)
    → IsLegal limits h → sum_by packets_in h ≤ sum limits.packets

-- Daemons that were through made the least at least.
abbrev pub LeastOfRuns : Type 0
LeastOfRuns = (files : Files) (s : Scenario) (limits : Limits) (h : List Entry)
    → IsOf s limits h → OfEach s (Ran files s h) → least files s ≤ controls h

-- What was made, and what any one daemon lacks, is not more than the most.
abbrev pub MostOfRuns : Type 0
MostOfRuns = (files : Files) (s : Scenario) (limits : Limits) (r : Reach) (lacks : ℕ → ℕ)
    (packets i : ℕ) (k : DaemonKind)
    → IsOf s limits (made r) → IsReach s r → sum_by packets_in (made r) ≤ packets
    → OfEach s (λ d kind. Lacks files s r d kind (lacks d)) → slice_get s.daemons i ≡ Some k
    → controls (made r) + lacks (i + 1) ≤ most files s packets

-- Where no daemon has a machine, it is not more than the least.
abbrev pub MostWithoutMachines : Type 0
MostWithoutMachines = (files : Files) (s : Scenario) (limits : Limits) (r : Reach) (lacks : ℕ → ℕ)
    (i : ℕ) (k : DaemonKind)
    → IsOf s limits (made r) → list_any is_smc s.daemons ≡ false
    → OfEach s (λ d kind. Lacks files s r d kind (lacks d)) → slice_get s.daemons i ≡ Some k
    → controls (made r) + lacks (i + 1) ≤ least files s
