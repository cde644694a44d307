-- The entries of a legal history are of lanes and daemons that there are.
use Rattle.std.proofs.Common.{◌≡◌, ◌∙◌, ℕ, zero, suc, ◌+◌, List, [], ◌∷◌, ◌++◌, length, map, ap, arith, refl}
use Rattle.std.proofs.lemmas.List.{length-map}
use Rattle.std.specs.List.{AllByRecursion}
use Rattle.mr_base.specs.Outside.{Files}
use Rattle.mr_load.specs.Callers.{IsCalled, from_on}
use Rattle.mr_load.specs.Loading.{packets_in, run_limits}
use Rattle.mr_model.specs.declared.entry.Entry.{Entry}
use Rattle.mr_model.specs.declared.entry.Entry.TheVariants.{Call, Slow, Settle, Tick, Recv, EndPhase}
use Rattle.mr_model.specs.declared.limits.Limits.{Limits}
use Rattle.mr_model.specs.Legal.{Agrees, LegalFrom}
use Rattle.mr_scenario.specs.declared.scenario.Scenario.{Scenario}
use Rattle.mr_scenario.specs.Fits.{Fits}
use Rattle.mr_scenario.specs.Spelled.{is_admin_kind}

-- the limits have a lane for each of the scenario's, and a daemon for each
pub record HasCallers (limits : Limits) (s : Scenario) : Type 0 where
  pub lanes : length limits.packets ≡ s.lanes
  pub daemons : length limits.admins ≡ length s.daemons

one_called : (limits : Limits) (s : Scenario) (g : List Entry) (e : Entry) → HasCallers limits s → Agrees limits g e → IsCalled s e
one_called limits s g (Call d r reply released) c a = record { first = a.control.daemon.first; last = omega (arith, a.control.daemon.last, c.daemons) }
one_called limits s g (Slow lane index look flow o) c a = record { first = a.lane_is.first; last = omega (arith, a.lane_is.last, c.lanes) }
one_called limits s g (Settle lane records) c a = record { first = a.lane_is.first; last = omega (arith, a.lane_is.last, c.lanes) }
one_called limits s g (Tick d ms) c a = record { first = a.daemon.first; last = omega (arith, a.daemon.last, c.daemons) }
one_called limits s g (Recv d message) c a = record { first = a.control.daemon.first; last = omega (arith, a.control.daemon.last, c.daemons) }
one_called limits s g EndPhase c a = tt

-- also those behind others
pub part_called : (limits : Limits) (s : Scenario) (g h part : List Entry) → HasCallers limits s → LegalFrom limits g (h ++ part) → AllByRecursion (IsCalled s) part
part_called limits s g [] [] c a = tt
part_called limits s g [] (e ∷ part) c a = (one_called limits s g e c a.0, part_called limits s (g ++ e ∷ []) [] part c a.1)
part_called limits s g (e ∷ h) part c a = part_called limits s (g ++ e ∷ []) h part c a.1

length_from_on : (n k : ℕ) (f : ℕ → ℕ) → length (map f (from_on n k)) ≡ k
length_from_on n zero f = refl
length_from_on n (suc k) f =
    let rest : length (map f (from_on (n + 1) k)) ≡ k = length_from_on (n + 1) k f in
    omega (arith, rest)

-- so have the limits of a run
pub run_callers : (files : Files) (s : Scenario) → Fits s → HasCallers (run_limits files s) s
run_callers files s fits = record {
  lanes = length_from_on 1 s.lanes (packets_in files s);
  daemons = ap length fits.admins ∙ length-map s.daemons is_admin_kind;
}
