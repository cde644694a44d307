-- What the file that is replayed comes to.
use Rattle.std.proofs.Common.{◌≡◌, ◌≤◌, ◌<◌, ◌+◌, ℕ, suc, Bool, false, Option, Some, None, Result, Ok, Err, List, [], ◌++◌, length, refl, sym, ap, ◌∙◌, arith, subst, inl, inr}
use Rattle.std.specs.Option.{option_map_or}
use Rattle.std.specs.Prelude.{slice_get, sum_by}
use Rattle.mr_base.specs.Outside.{Files}
use Rattle.mr_load.specs.Refusals.{if_there, accepted, scenario_of, loaded}
use Rattle.mr_load.specs.Told.{IsTold}
use Rattle.mr_kernel.specs.Values.{KernelValue}
use Rattle.mr_load.specs.Loading.{run_limits}
use Rattle.mr_base.specs.declared.store_call.StoreCall.{StoreCall}
use Rattle.mr_load.specs.Callers.{one_to}
use Rattle.mr_load.specs.Faults.{HasRead, cuts, fails, is_cut, is_fault, reads_of}
use Rattle.mr_load.specs.Loads.{IsLoaded, LoadsTo}
use Rattle.mr_load.specs.Made.{Made}
use Rattle.mr_load.specs.declared.loading.Loaded.{Loaded}
use Rattle.mr_model.specs.Legal.{IsLegal}
use Rattle.mr_model.specs.declared.limits.Limits.{Limits}
use Rattle.mr_tail.specs.Text.{history_text}
use Rattle.mr_load.specs.declared.status.Status.{Status}
use Rattle.mr_load.specs.Refusals.{files_read}
use Rattle.mr_load.specs.declared.status.Status.TheVariants as status
use Rattle.mr_replay.specs.Egress.{EgressFile, HasWritten, IsOutput, Writing, egress_by, egress_file, egress_files, egress_names, names_of, text_by}
use Rattle.mr_replay.specs.Endings.{CallsFor, EndsBy, IfLoaded, IfStoreFault, ReadsAndWrites, ReadsFor, RunsTo, Replays}
use Rattle.mr_replay.specs.Running.{with_machines}
use Rattle.smc_core.specs.Machine.{Machine}
use Rattle.mr_model.specs.declared.entry.Entry.{Entry}
use Rattle.mr_callers.proofs.Called.{run_callers}
use Rattle.mr_load.specs.Callers.{has_machine, kind_of}
use Rattle.mr_replay.proofs.Driving.{all_did, asked_phases, got_less}
use Rattle.mr_replay.proofs.Egressing.{names_made}
use Rattle.mr_scenario.specs.Fits.{Fits}
use Rattle.mr_scenario.specs.PhaseLines.{is_smc}
use Rattle.mr_scenario.specs.declared.scenario.DaemonKind.{DaemonKind}
use Rattle.mr_scenario.specs.declared.scenario.DaemonKind.TheVariants.{Plain, Admin, Smc}
use Rattle.smc_daemon.specs.Deeds.{did}
use Rattle.smc_daemon.specs.Reaching.{Ran}
use Rattle.smc_daemon.specs.Room.{least, lines_of}
use Rattle.smc_daemon.proofs.Runs.{least_of_runs, room_of_legal}
use Rattle.mr_replay.proofs.Plain.{loaded_scenario}
use Rattle.mr_scenario.specs.Spelled.{spelled}
use Rattle.mr_scenario.specs.declared.scenario.Scenario.{Scenario}
use Rattle.mr_scenario.specs.declared.stop.ScenarioError.{ScenarioError}
use Rattle.mr_scenario.specs.declared.stop.ScenarioError.TheVariants as error
use Rattle.mr_words.proofs.Binds.{bind_ok}

there_ok : (file : List ℕ) (o : Option (List ℕ)) (bytes : List ℕ) → if_there file o ≡ Ok bytes → o ≡ Some bytes
there_ok file (Some given) bytes e = cc
there_ok file None bytes e = absurd (cc)

accepted_ok : (r : Result Scenario ScenarioError) (s : Scenario) → accepted r ≡ Ok s → r ≡ Ok s
accepted_ok (Ok t) s e = cc
accepted_ok (Err (error.Bad line k text)) s e = absurd (cc)
accepted_ok (Err error.Memory) s e = absurd (cc)

scenario_spelled : (bytes : List ℕ) (s : Scenario) → scenario_of bytes ≡ Ok s → spelled bytes ≡ Ok s
scenario_spelled bytes s e = accepted_ok (spelled bytes) s e

-- what is loaded of a file is what its bytes spell
loaded_spelled : (files : Files) (file : List ℕ) (s : Scenario) → loaded files file ≡ Ok s → (bytes : List ℕ) × (files file ≡ Some bytes) × (spelled bytes ≡ Ok s)
loaded_spelled files file s e =
    let b = bind_ok (if_there file (files file)) scenario_of s (loaded_scenario files file s e) in
    (b.0, there_ok file (files file) b.0 b.1, scenario_spelled b.0 s b.2)

-- the least that the daemons make has room
by_lines : (files : Files) (s : Scenario) (d : ℕ) (h : List Entry) → 1 ≤ d → d ≤ length s.daemons → has_machine s d ≡ false → Made files s h → length (did d [] h) ≡ sum_by (lines_of d) s.phases
by_lines files s d h least last none made = all_did d h h ∙ asked_phases files s d [] s.phases h least last none made.phases

ran : (files : Files) (s : Scenario) (h : List Entry) (i : ℕ) (k : DaemonKind) → slice_get s.daemons i ≡ Some k → i < length s.daemons → Made files s h → Ran files s h (i + 1) k
ran files s h i (Smc names) is less made =
    let next : i + 1 ≡ suc i = omega arith in
    made.machines (i + 1) names (ap (kind_of s) next ∙ is)
ran files s h i Plain is less made =
    let next : i + 1 ≡ suc i = omega arith in
    by_lines files s (i + 1) h (omega arith) (omega (arith, less)) (ap (λ (o : Option DaemonKind). option_map_or is_smc o false) (ap (kind_of s) next ∙ is)) made
ran files s h i Admin is less made =
    let next : i + 1 ≡ suc i = omega arith in
    by_lines files s (i + 1) h (omega arith) (omega (arith, less)) (ap (λ (o : Option DaemonKind). option_map_or is_smc o false) (ap (kind_of s) next ∙ is)) made

least_fits : (files : Files) (s : Scenario) (h : List Entry) → Fits s → IsLegal (run_limits files s) h → Made files s h → least files s ≤ s.limits.controls
least_fits files s h fits legal made =
    let all = least_of_runs files s (run_limits files s) h (record { legal = legal; daemons = (run_callers files s fits).daemons }) (λ i k is. ran files s h i k is (got_less s.daemons i k is) made) in
    let room = room_of_legal (run_limits files s) h legal in
    omega (arith, all, room)

runs_to : (files : Files) (file : List ℕ) (s : Scenario) (h : List Entry) → loaded files file ≡ Ok s → Fits s → IsLegal (run_limits files s) h → Made files s h → RunsTo files file s h
runs_to files file s h e fits legal made =
    let spelt = loaded_spelled files file s e in
    record {
      bytes = spelt.0;
      stored = spelt.1;
      spells = spelt.2;
      accepted = e;
      room = least_fits files s h fits legal made;
      legal = legal;
      made = made;
    }

-- what a machine gives that has run what was loaded
text_given : (files : Files) (l : Loaded) (k : KernelValue) → IsLoaded files l → k.limits ≡ l.limits → text_by l k ≡ history_text files l.scenario k.history
text_given files l k i limits =
    let run : k.limits ≡ run_limits files l.scenario = limits ∙ i.limits in
    rw (i.skips, run) refl

egress_given : (files : Files) (l : Loaded) (k : KernelValue) → IsLoaded files l → k.limits ≡ l.limits → egress_by l k ≡ egress_files files l.scenario k.history
egress_given files l k i limits =
    let run : k.limits ≡ run_limits files l.scenario = limits ∙ i.limits in
    rw (i.lanes, run) refl

-- The file was loaded, and a machine has run it.
pub record HasRun (told : Option Files) (files : Files) (file : List ℕ) (l : Loaded) (k : KernelValue) : Type 0 where
  pub told_is : IsTold told files
  pub loads : loaded files file ≡ Ok l.scenario
  pub is : IsLoaded files l
  pub limits : k.limits ≡ l.limits
  pub legal : IsLegal k.limits k.history
  pub made : Made files l.scenario k.history

pub replays : (told : Option Files) (files : Files) (file : List ℕ) (l : Loaded) (k : KernelValue) (IsWritten : List ℕ → List EgressFile → Type 0)
    → HasRun told files file l k → IsWritten (text_by l k) (egress_by l k) → Replays file told IsWritten
replays told files file l k IsWritten r written =
    let run : k.limits ≡ run_limits files l.scenario = r.limits ∙ r.is.limits in
    record {
      files = files;
      scenario = l.scenario;
      history = k.history;
      told_is = r.told_is;
      run = runs_to files file l.scenario k.history r.loads r.is.fits (subst (λ (x : Limits). IsLegal x k.history) run r.legal) r.made;
      written = subst (λ (t : List ℕ). IsWritten t (egress_files files l.scenario k.history)) (text_given files l k r.is r.limits)
          (subst (IsWritten (text_by l k)) (egress_given files l k r.is r.limits) written);
    }

-- what loading read is what the run read
pub loads_read : (told : Option Files) (file : List ℕ) (r : Result Loaded Status) (s : Status) (old new : List StoreCall) → LoadsTo told file r old new → (cuts s ≡ false → is_cut r ≡ false) → is_fault r ≡ fails s
    → ReadsFor told file s old new
loads_read told file r s old new l whole same = record {
  files = l.files;
  told_is = l.told_is;
  reads = record {
    read = l.reads.read;
    left = l.reads.left;
    order = l.reads.order;
    all = λ e. l.reads.all (whole e);
    calls = l.reads.calls ∙ ap (λ (b : Bool). old ++ reads_of l.reads.read b) same;
  };
}

-- the store's calls of a run that loaded, behind which the text and the files are written
pub calls_written : (told : Option Files) (file : List ℕ) (files : Files) (l : Loaded) (k : KernelValue) (s : Status) (old between new : List StoreCall) → IsTold told files → loaded files file ≡ Ok l.scenario
    → HasRead (files_read files file) false false old between → Writing (names_of (egress_by l k)) s between new → IsOutput s → CallsFor told file s old new
calls_written told file files l k s old between new told_is e reads writing is = by_status s is writing
  where
    names : names_of (egress_by l k) ≡ egress_names l.scenario
    names = names_made (egress_file k.limits l.lanes l.scenario.devices k.history) (one_to (length l.scenario.devices))

    wrote : (t : Status) → HasWritten (names_of (egress_by l k)) (cuts t) (fails t) between new → ReadsAndWrites told file t old new
    wrote t w = record {
      files = files;
      told_is = told_is;
      scenario = l.scenario;
      scenario_is = e;
      between = between;
      reads = reads;
      writes = subst (λ (ns : List (List ℕ)). HasWritten ns (cuts t) (fails t) between new) names w;
    }

    by_status : (t : Status) → IsOutput t → Writing (names_of (egress_by l k)) t between new → CallsFor told file t old new
    by_status status.Good o w = wrote status.Good w
    by_status status.Memory o w = inr (wrote status.Memory w)
    by_status (status.StoreFault name) o w = inr (wrote (status.StoreFault name) w)
    by_status status.SinkFault o w = record { files = files; told_is = told_is; reads = subst (HasRead (files_read files file) false false old) (sym w) reads }
    by_status status.Usage o w = absurd o
    by_status (status.Scenario line kind text) o w = absurd o
    by_status (status.Trace name cause) o w = absurd o
    by_status status.ControlFull o w = absurd o
    by_status (status.Conf name line kind text) o w = absurd o

-- the store's calls of a run that read alone
pub calls_read : (told : Option Files) (file : List ℕ) (s : Status) (old new : List StoreCall) → (s ≡ status.Good → ⊥) → ReadsFor told file s old new → CallsFor told file s old new
calls_read told file status.Good old new never r = absurd (never refl)
calls_read told file status.Memory old new never r = inl r
calls_read told file (status.StoreFault name) old new never r = inl r
calls_read told file status.SinkFault old new never r = r
calls_read told file status.Usage old new never r = r
calls_read told file (status.Scenario line kind text) old new never r = r
calls_read told file (status.Trace name cause) old new never r = r
calls_read told file status.ControlFull old new never r = r
calls_read told file (status.Conf name line kind text) old new never r = r

-- where the outside did not fail, a run that loaded and wrote ends as it should
ends : (files : Files) (s : Status) (t : Scenario) (outcome : Result Scenario Status) → IsOutput s → outcome ≡ Ok t → least files t ≤ t.limits.controls → (s ≡ status.SinkFault → ⊥) → IfStoreFault s (λ _. ⊥) → EndsBy files s outcome
ends files status.Good t outcome o e room sink store = subst (λ (r : Result Scenario Status). IfLoaded r (λ x. least files x ≤ x.limits.controls)) (sym e) room
ends files status.Memory t outcome o e room sink store = tt
ends files (status.StoreFault name) t outcome o e room sink store = store
ends files status.SinkFault t outcome o e room sink store = sink refl
ends files status.Usage t outcome o e room sink store = absurd o
ends files (status.Scenario line kind text) t outcome o e room sink store = absurd o
ends files (status.Trace name cause) t outcome o e room sink store = absurd o
ends files status.ControlFull t outcome o e room sink store = absurd o
ends files (status.Conf name line kind text) t outcome o e room sink store = absurd o

-- what the file comes to, where the store tells
its_files : (told : Option Files) (files its : Files) → IsTold told files → told ≡ Some its → its ≡ files
its_files told files its t e = subst (λ (o : Option Files). IsTold o files) e t

-- what was loaded, with its machines taken out and given back
pub with_its_own : (files : Files) (l : Loaded) (ms : List (Option Machine)) → ms ≡ l.machines → IsLoaded files l → IsLoaded files (with_machines l ms)
with_its_own files l ms same i = subst (λ (xs : List (Option Machine)). IsLoaded files (with_machines l xs)) (sym same) i

-- over a store that tells, what was loaded decides how a run ends
pub ends_written : (told : Option Files) (files its : Files) (file : List ℕ) (l : Loaded) (k : KernelValue) (s : Status) → HasRun told files file l k → told ≡ Some its
    → IsOutput s → (s ≡ status.SinkFault → ⊥) → IfStoreFault s (λ _. ⊥) → EndsBy its s (loaded its file)
ends_written told files its file l k s r tells o sink store =
    let same : its ≡ files = its_files told files its r.told_is tells in
    let run : k.limits ≡ run_limits files l.scenario = r.limits ∙ r.is.limits in
    let room : least files l.scenario ≤ l.scenario.limits.controls = least_fits files l.scenario k.history r.is.fits (subst (λ (x : Limits). IsLegal x k.history) run r.legal) r.made in
    subst (λ (f : Files). EndsBy f s (loaded f file)) (sym same)
    (ends files s l.scenario (loaded files file) o r.loads room sink store)
