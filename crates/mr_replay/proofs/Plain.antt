-- A scenario that was loaded is what its bytes spell, and no daemon without a machine has lines for one.
use Rattle.std.proofs.Common.{◌≡◌, ◌∙◌, ℕ, zero, suc, ◌-◌, ◌≤◌, true, false, Result, Ok, List, [], ◌∷◌, length, refl, sym, ap, arith}
use Rattle.std.proofs.lemmas.Bool.Decides.{nat_tests}
use Rattle.std.specs.List.{AllByRecursion}
use Rattle.std.specs.Option.{option_map_or}
use Rattle.std.specs.Prelude.{nat_lt, slice_get}
use Rattle.mr_base.specs.Outside.{Files}
use Rattle.mr_load.specs.Callers.{has_machine}
use Rattle.mr_load.specs.Naming.{named_in}
use Rattle.mr_load.specs.Refusals.{after_files, before_traces, if_there, loaded, scenario_of, with_files}
use Rattle.mr_load.specs.declared.status.Status.{Status}
use Rattle.mr_replay.specs.Daemons.{IsPlain}
use Rattle.mr_replay.specs.Running.{LineSuits}
use Rattle.mr_scenario.specs.Fits.{Fits, IsAsked, NeedsNoMachine, SuitsDaemon}
use Rattle.mr_scenario.specs.PhaseLines.{is_smc, is_smc_at}
use Rattle.mr_scenario.specs.declared.scenario.DaemonKind.{DaemonKind}
use Rattle.mr_scenario.specs.declared.scenario.Phase.{Phase}
use Rattle.mr_scenario.specs.declared.scenario.Scenario.{Scenario}
use Rattle.mr_scenario.specs.declared.scenario.Script.{Script}
use Rattle.mr_scenario.specs.declared.scenario.Script.TheVariants.{Ask, Raw, Table, Tick, Recv, Start, Poll, Words}
use Rattle.mr_scenario.specs.declared.scenario.ScriptLine.{ScriptLine}
use Rattle.mr_words.proofs.Binds.{bind_ok}
use Rattle.mr_words.specs.Binds.{◌>>=◌}

ok_same : (s t : Scenario) → ◌≡◌ {A = Result Scenario Status} (Ok s) (Ok t) → s ≡ t
ok_same s t e = cc

-- what is loaded is what the scenario's own bytes spell
pub loaded_scenario : (files : Files) (file : List ℕ) (s : Scenario) → loaded files file ≡ Ok s → (if_there file (files file) >>= scenario_of) ≡ Ok s
loaded_scenario files file s e =
    let b = bind_ok (if_there file (files file) >>= scenario_of) (with_files files) s e in
    let t = bind_ok (after_files files (before_traces b.0) (named_in b.0)) (λ u. Ok b.0) s b.2 in
    b.1 ∙ ap Ok (ok_same b.0 s t.2)

-- which daemons have a machine
at_next : (k : DaemonKind) (ks : List DaemonKind) (n m : ℕ) → nat_lt 1 n ≡ true → n - 1 ≡ m → is_smc_at (k ∷ ks) n ≡ is_smc_at ks m
at_next k ks n m t e = rw t (ap (is_smc_at ks) e)

same_at : (ks : List DaemonKind) (i : ℕ) → option_map_or is_smc (slice_get ks i) false ≡ is_smc_at ks (suc i)
same_at [] zero = refl
same_at [] (suc i) = refl
same_at (k ∷ ks) zero = refl
same_at (k ∷ ks) (suc i) = same_at ks i ∙ sym (at_next k ks (suc (suc i)) (suc i) (grind (arith, nat_tests)) (omega arith))

same_number : (s : Scenario) (n : ℕ) → 1 ≤ n → has_machine s n ≡ is_smc_at s.daemons n
same_number s zero least = absurd (omega (arith, least))
same_number s (suc i) least = same_at s.daemons i

is_plain : (x : Script) → NeedsNoMachine x → IsPlain x
is_plain (Ask r) n = tt
is_plain (Raw opt bytes) n = tt
is_plain (Table t) n = tt
is_plain (Tick ms) n = tt
is_plain Recv n = tt
is_plain Start n = n
is_plain (Poll k) n = n
is_plain (Words ws) n = n

suits : (s : Scenario) (l : ScriptLine) → IsAsked (length s.daemons) l → SuitsDaemon s.daemons l → LineSuits s l
suits s l a f = λ none. is_plain l.script (f (sym (same_number s l.daemon.0 a.least) ∙ none))

both : {X : Type 0} (P Q R : X → Type 0) → ((x : X) → P x → Q x → R x) → (xs : List X) → AllByRecursion P xs → AllByRecursion Q xs → AllByRecursion R xs
both P Q R f [] a b = tt
both P Q R f (x ∷ xs) a b = (f x a.0 b.0, both P Q R f xs a.1 b.1)

pub lines_suit : (s : Scenario) → Fits s → AllByRecursion (λ p. AllByRecursion (LineSuits s) p.script) s.phases
lines_suit s fits =
    both (λ (p : Phase). AllByRecursion (IsAsked (length s.daemons)) p.script) (λ (p : Phase). AllByRecursion (SuitsDaemon s.daemons) p.script) (λ (p : Phase). AllByRecursion (LineSuits s) p.script)
    (λ p a b. both (IsAsked (length s.daemons)) (SuitsDaemon s.daemons) (LineSuits s) (λ l x y. suits s l x y) p.script a b) s.phases fits.script fits.machine_lines
