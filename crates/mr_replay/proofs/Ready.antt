-- What was loaded can be run.
use Rattle.std.proofs.Common.{◌≡◌, ◌∙◌, ℕ, zero, suc, ◌+◌, ◌-◌, ◌≤◌, ◌<◌, Option, Some, None, List, [], ◌∷◌, get_or, length, map, refl, sym, ap, arith, subst}
use Rattle.std.proofs.lemmas.List.{length-map}
use Rattle.std.specs.List.{AllByRecursion}
use Rattle.std.specs.Prelude.{slice_get, slice_index}
use Rattle.mr_base.specs.Outside.{Files}
use Rattle.mr_callers.proofs.Called.{run_callers}
use Rattle.mr_load.specs.Callers.{from_on}
use Rattle.mr_load.specs.Dues.{Due, LaneValue, dues_from, lane_of}
use Rattle.mr_load.specs.Loading.{packets_in, run_limits}
use Rattle.mr_load.specs.Loads.{IsLoaded}
use Rattle.mr_load.specs.declared.loading.Loaded.{Loaded}
use Rattle.mr_model.specs.declared.limits.Limits.{Limits}
use Rattle.mr_model.specs.Legal.{packets_given}
use Rattle.mr_replay.specs.Lanes.{LaneFits, LanesFit, LanesReady, lane_at}
use Rattle.mr_load.specs.Callers.{kind_of}
use Rattle.mr_load.specs.Machines.{machine_for}
use Rattle.mr_replay.specs.Running.{CanRun, IsFor, MachinesFit}
use Rattle.mr_scenario.specs.declared.scenario.DaemonKind.{DaemonKind}
use Rattle.mr_scenario.specs.declared.scenario.DaemonKind.TheVariants.{Plain, Admin, Smc}
use Rattle.smc_core.specs.Machine.{Machine}
use Rattle.mr_load.proofs.LawDues.{dues_count}
use Rattle.mr_replay.proofs.Duing.{from_all}
use Rattle.mr_replay.proofs.Limits.{limits_fit}
use Rattle.mr_replay.proofs.Plain.{lines_suit}
use Rattle.mr_replay.proofs.Phasing.{lane_is, lanes_many, lanes_of}
use Rattle.mr_scenario.specs.declared.scenario.Scenario.{Scenario}
use Rattle.mr_scenario.specs.Fits.{Fits, IsItem}
use Rattle.mr_scenario.specs.Spelled.{address_only}

index_from : (n k l : ℕ) (f : ℕ → ℕ) → l < k → slice_index (map f (from_on n k)) l ≡ f (n + l)
index_from n zero l f less = absurd (omega (arith, less))
index_from n (suc k) zero f less = ap f (omega arith)
index_from n (suc k) (suc l) f less =
    let place : n + 1 + l ≡ n + suc l = omega arith in
    index_from (n + 1) k l f (omega (arith, less)) ∙ ap f place

given_is : (files : Files) (s : Scenario) (n : ℕ) → 1 ≤ n → n ≤ s.lanes → packets_given (run_limits files s) (record { 0 = n }) ≡ packets_in files s n
given_is files s n least most =
    let place : 1 + (n - 1) ≡ n = omega (arith, least) in
    index_from 1 s.lanes (n - 1) (packets_in files s) (omega (arith, least, most)) ∙ ap (packets_in files s) place

-- as many packets as the limits give the lane
due_many : (files : Files) (s : Scenario) (n : ℕ) → length (dues_from files n 0 [] s.phases) ≡ packets_in files s n
due_many files s n = dues_count files n s.phases

lane_fits : (files : Files) (s : Scenario) → Fits s → (n : ℕ) → 1 ≤ n → n ≤ s.lanes → LaneFits (run_limits files s) (lane_of files s n)
lane_fits files s fits n least most = record {
  lane_is = record { first = least; last = omega (arith, most, (run_callers files s fits).lanes) };
  given = given_is files s n least most ∙ sym (due_many files s n);
  devices = from_all (λ (d : Due). d.dev ≤ length s.limits.devices) (IsItem s.lanes (length s.devices)) files n 0 [] s.phases
      (λ i k m bs q. omega (arith, q.most_device, ap length fits.devices, length-map s.devices address_only)) fits.items;
}

lanes_fit : (files : Files) (s : Scenario) (vs : List LaneValue) → Fits s → vs ≡ lanes_of files s → LanesFit (run_limits files s) vs
lanes_fit files s vs fits same =
    let many : length vs ≡ s.lanes = ap length same ∙ lanes_many files s in
    let at : (n : ℕ) → 1 ≤ n → n ≤ length vs → lane_at vs n ≡ lane_of files s n = λ n least most. ap (λ (xs : List LaneValue). lane_at xs n) same ∙ lane_is files s n least (omega (arith, most, many)) in
    record {
      numbers = λ n least most. ap (λ (v : LaneValue). v.lane.0) (at n least most);
      each = λ n least most. subst (λ (v : LaneValue). LaneFits (run_limits files s) v) (sym (at n least most)) (lane_fits files s fits n least (omega (arith, most, many)));
    }

all_from_zero : (ds : List Due) → AllByRecursion (λ d. 0 ≤ d.phase) ds
all_from_zero [] = tt
all_from_zero (d ∷ ds) = (omega arith, all_from_zero ds)

-- no lane has begun
pub none_ready : (vs : List LaneValue) → LanesReady 0 vs []
none_ready vs = λ n least most. record {
  place = 0;
  ready = record { has = record { within = omega arith; sent_is = refl }; past = tt; left = all_from_zero (lane_at vs n).packets };
}

-- the machines of what was loaded are idle, and stand at their places
fits_for : (files : Files) (s : Scenario) (k : DaemonKind) → IsFor (Some k) (machine_for files s k)
fits_for files s (Smc names) = refl
fits_for files s Plain = tt
fits_for files s Admin = tt

fit_at : (files : Files) (s : Scenario) (ks : List DaemonKind) (i : ℕ) → i < length ks → IsFor (slice_get ks i) (get_or (map (machine_for files s) ks) i None)
fit_at files s [] i less = absurd (omega (arith, less))
fit_at files s (k ∷ ks) zero less = fits_for files s k
fit_at files s (k ∷ ks) (suc i) less = fit_at files s ks i (omega (arith, less))

pub machines_fit : (files : Files) (l : Loaded) → IsLoaded files l → MachinesFit l.scenario l.machines
machines_fit files l i = record {
  many = ap length i.machines ∙ length-map l.scenario.daemons (machine_for files l.scenario);
  each = λ n less.
      let next : suc n ≡ n + 1 = omega arith in
      subst (λ (d : ℕ). IsFor (kind_of l.scenario d) (get_or l.machines n None)) next
      (subst (λ (ms : List (Option Machine)). IsFor (slice_get l.scenario.daemons n) (get_or ms n None)) (sym i.machines) (fit_at files l.scenario l.scenario.daemons n less));
}

pub these_fit : (files : Files) (l : Loaded) (ms : List (Option Machine)) → ms ≡ l.machines → IsLoaded files l → MachinesFit l.scenario ms
these_fit files l ms same i = subst (λ (xs : List (Option Machine)). MachinesFit l.scenario xs) (sym same) (machines_fit files l i)

-- What was loaded can be run; its machines may stand elsewhere.
pub can_run : (files : Files) (l : Loaded) (ms : List (Option Machine)) → IsLoaded files l → CanRun (record l { machines = ms })
can_run files l ms i =
    let callers = run_callers files l.scenario i.fits in
    let s : Scenario = l.scenario in
    record {
      fits = i.fits;
      limits = limits_fit files l i;
      lines = lines_suit s i.fits;
      phases = ap (λ (x : Limits). x.phases) i.limits ∙ i.fits.phases;
      lanes = subst (λ (x : Limits). LanesFit x l.lanes) (sym i.limits) (lanes_fit files s l.lanes i.fits i.lanes);
      many_lanes = ap length i.lanes ∙ lanes_many files s;
      given_lanes = ap (λ (x : Limits). length x.packets) i.limits ∙ callers.lanes;
      given_daemons = ap (λ (x : Limits). length x.admins) i.limits ∙ callers.daemons;
    }
