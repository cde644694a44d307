-- Where the routing machines stand behind the phases so far, and what a run comes to.
use Rattle.std.proofs.Common.{◌≡◌, ◌∙◌, ℕ, zero, suc, ◌+◌, ◌≤◌, ◌<◌, ◌==◌, Bool, true, false, Option, Some, None, List, [], ◌∷◌, ◌++◌, drop, length, map, take, take_all, get_or, sum, refl, sym, ap, arith, subst}
use Rattle.std.proofs.lemmas.Grind.{flat_map-append}
use Rattle.std.proofs.lemmas.List.{length-append, length-map}
use Rattle.std.proofs.lemmas.List.Sums.{sum_by-append, sum_by-cons}
use Rattle.std.specs.Option.{option_map_or}
use Rattle.std.specs.Prelude.{flat_map, if◌then◌else◌, option_map, slice_get, sum_by}
use Rattle.mr_base.specs.Outside.{Files}
use Rattle.mr_load.specs.Callers.{has_machine, kind_of}
use Rattle.mr_load.specs.Loads.{IsLoaded}
use Rattle.mr_load.specs.Machines.{machine_for}
use Rattle.mr_load.specs.Made.{Made, MadeFrom, as_asked, asked, asked_in, of_daemon}
use Rattle.mr_load.specs.declared.loading.Loaded.{Loaded}
use Rattle.mr_model.specs.Deeds.{Asked, Received, Ticked}
use Rattle.mr_model.specs.declared.entry.Entry.{Entry}
use Rattle.mr_model.specs.declared.entry.Entry.TheVariants.{Call, Slow, Settle, Tick, Recv, EndPhase}
use Rattle.mr_replay.specs.Daemons.{lines_by}
use Rattle.mr_replay.specs.Running.{CanRun, HasRun, IsFor, IsShort, LacksIn, MachinesFit, PhaseCut, PhaseDriven, with_machines}
use Rattle.mr_replay.proofs.PacketSums.{packets_within}
use Rattle.mr_replay.proofs.Phasing.{take_phase}
use Rattle.mr_router.specs.Callers.{DaemonValue}
use Rattle.mr_router.specs.Callers as router
use Rattle.mr_scenario.specs.PhaseLines.{is_smc}
use Rattle.mr_scenario.specs.declared.scenario.DaemonKind.{DaemonKind}
use Rattle.mr_scenario.specs.declared.scenario.DaemonKind.TheVariants.{Plain, Admin, Smc}
use Rattle.mr_scenario.specs.declared.scenario.Item.{Item}
use Rattle.mr_scenario.specs.declared.scenario.Phase.{Phase}
use Rattle.mr_scenario.specs.declared.scenario.Scenario.{Scenario}
use Rattle.mr_scenario.specs.declared.scenario.Script.TheVariants as script
use Rattle.mr_scenario.specs.declared.scenario.ScriptLine.{ScriptLine}
use Rattle.smc_core.specs.Machine.{Machine}
use Rattle.smc_daemon.specs.Courses.{DrivesFrom, DrivesTo, machine_behind}
use Rattle.smc_daemon.specs.Deeds.{deeds_in, did, told}
use Rattle.smc_daemon.specs.Machines.{machine_of}
use Rattle.smc_daemon.specs.Reaching.{Lacks, Reach}
use Rattle.smc_daemon.specs.Room.{lines_of}
use Rattle.smc_daemon.proofs.Begun.{drives_all, drives_on}
use Rattle.smc_daemon.proofs.Runs.{most_of_runs}

-- Each machine that there was at first has driven the first k phases, and stands at its place now.
pub record AreBehind (k : ℕ) (ps : List Phase) (h : List Entry) (first ms : List (Option Machine)) : Type 0 where
  pub many : length ms ≡ length first
  pub each : (i : ℕ) (m : Machine) → i < length first → get_or first i None ≡ Some m → (n : Machine) × (get_or ms i None ≡ Some n) × DrivesTo (i + 1) m [] (take k ps) h n

pub behind_none : (ps : List Phase) (h : List Entry) (first : List (Option Machine)) → h ≡ [] → AreBehind 0 ps h first first
behind_none ps h first none = record { many = refl; each = λ i m less is. (m, is, (none, refl)) }

pub behind_next : (k : ℕ) (s : Scenario) (h new : List Entry) (first ms ms' : List (Option Machine)) → length ms' ≡ length ms → PhaseDriven k s h new ms ms' → AreBehind k s.phases h first ms → AreBehind (k + 1) s.phases new first ms'
behind_next k s h new first ms ms' same d b = record {
  many = same ∙ b.many;
  each = λ i m less is. next i m less (b.each i m less is);
}
  where
    next : (i : ℕ) (m : Machine) → i < length first → ((n : Machine) × (get_or ms i None ≡ Some n) × DrivesTo (i + 1) m [] (take k s.phases) h n)
        → (n : Machine) × (get_or ms' i None ≡ Some n) × DrivesTo (i + 1) m [] (take (k + 1) s.phases) new n
    next i m less (n, is, drives) =
        let inside : i < length ms = omega (arith, less, b.many) in
        let later = machine_behind (i + 1) n d.phase h d.part in
        let on : DrivesTo (i + 1) m [] (take k s.phases ++ d.phase ∷ []) (h ++ d.part ++ EndPhase ∷ []) later = drives_on (take k s.phases) (i + 1) m n d.phase [] h d.part drives d.no_end (d.drives i n inside is) in (
          later,
          d.machines i n inside is,
          subst (λ (ps : List Phase). DrivesTo (i + 1) m [] ps new later) (sym (take_phase s.phases k d.phase d.is_phase))
              (subst (λ (es : List Entry). DrivesTo (i + 1) m [] (take k s.phases ++ d.phase ∷ []) es later) (sym d.is) on),
        )

-- the machine of a daemon that was loaded
got_map : {X Y : Type 0} (f : X → Option Y) (xs : List X) (i : ℕ) (x : X) → slice_get xs i ≡ Some x → get_or (map f xs) i None ≡ f x
got_map f [] i x is = absurd (cc)
got_map f (y ∷ xs) zero x is = let same : y ≡ x = cc in ap f same
got_map f (y ∷ xs) (suc i) x is = got_map f xs i x is

pub got_less : {X : Type 0} (xs : List X) (i : ℕ) (x : X) → slice_get xs i ≡ Some x → i < length xs
got_less [] i x is = absurd (cc)
got_less (y ∷ xs) zero x is = omega arith
got_less (y ∷ xs) (suc i) x is = omega (arith, got_less xs i x is)

first_is : (files : Files) (l : Loaded) (first : List (Option Machine)) (i : ℕ) (k : DaemonKind) → IsLoaded files (with_machines l first) → slice_get l.scenario.daemons i ≡ Some k → get_or first i None ≡ machine_for files l.scenario k
first_is files l first i k loaded is =
    ap (λ (ms : List (Option Machine)). get_or ms i None) loaded.machines ∙ got_map (machine_for files l.scenario) l.scenario.daemons i k is

first_inside : (files : Files) (l : Loaded) (first : List (Option Machine)) (i : ℕ) (k : DaemonKind) → IsLoaded files (with_machines l first) → slice_get l.scenario.daemons i ≡ Some k → i < length first
first_inside files l first i k loaded is =
    omega (arith, got_less l.scenario.daemons i k is, ap length loaded.machines, length-map l.scenario.daemons (machine_for files l.scenario))

-- all phases have run
pub run_ends : (l : Loaded) (k : ℕ) (h : List Entry) (lanes : List router.LaneValue) (daemons : List DaemonValue) (first ms : List (Option Machine)) → length l.scenario.phases ≤ k → HasRun l k h lanes daemons → AreBehind k l.scenario.phases h first ms
    → (files : Files) → IsLoaded files (with_machines l first) → Made files l.scenario h
run_ends l k h lanes daemons first ms le run b files loaded = record {
  phases = subst (λ (ps : List Phase). MadeFrom files l.scenario [] ps h) all (run.made files first loaded);
  machines = drives;
}
  where
    all : take k l.scenario.phases ≡ l.scenario.phases
    all = take_all k l.scenario.phases le

    drives : (d : ℕ) (names : List (List ℕ)) → kind_of l.scenario d ≡ Some (Smc names) → DrivesFrom d (machine_of files l.scenario names) [] l.scenario.phases h
    drives zero names is = absurd (cc is)
    drives (suc i) names is =
        let at = b.each i (machine_of files l.scenario names) (first_inside files l first i (Smc names) loaded is) (first_is files l first i (Smc names) loaded is) in
        let next : i + 1 ≡ suc i = omega arith in
        subst (λ (d : ℕ). DrivesFrom d (machine_of files l.scenario names) [] l.scenario.phases h) next
        (subst (λ (ps : List Phase). DrivesFrom (i + 1) (machine_of files l.scenario names) [] ps h) all (drives_all (take k l.scenario.phases) (i + 1) (machine_of files l.scenario names) at.0 [] h at.2))

-- a daemon without a machine made an entry for each line
counted : {X Y : Type 0} (b : Bool) (x : X) (y : Y) → length (if b then x ∷ [] else []) ≡ length (if b then y ∷ [] else [])
counted true x y = refl
counted false x y = refl

one_did : (d : ℕ) (h : List Entry) (e : Entry) → length (deeds_in d h e) ≡ length (asked_in d e)
one_did d h (Call c r reply released) = counted (c.0 == d) (Asked r reply) (script.Ask r)
one_did d h (Slow l i look flow o) = refl
one_did d h (Settle l records) = refl
one_did d h (Tick c ms) = counted (c.0 == d) (Ticked ms) (script.Tick ms)
one_did d h (Recv c message) = counted (c.0 == d) (Received (option_map (told h) message)) script.Recv
one_did d h EndPhase = refl

pub all_did : (d : ℕ) (h es : List Entry) → length (flat_map (deeds_in d h) es) ≡ length (asked d es)
all_did d h [] = refl
all_did d h (e ∷ es) =
    omega (arith, one_did d h e, all_did d h es, length-append (deeds_in d h e) (flat_map (deeds_in d h) es), length-append (asked_in d e) (asked d es))

if_one : {X : Type 0} (b : Bool) (x : X) → length (if b then x ∷ [] else []) ≡ (if b then 1 else 0)
if_one true x = refl
if_one false x = refl

lines_many : (d : ℕ) (ls : List ScriptLine) → length (lines_by d ls) ≡ sum_by (λ l. if l.daemon.0 == d then 1 else 0) ls
lines_many d [] = refl
lines_many d (l ∷ ls) =
    omega (arith, if_one (l.daemon.0 == d) (as_asked l.script), lines_many d ls, length-append (of_daemon d l) (lines_by d ls), sum_by-cons (λ (l : ScriptLine). if l.daemon.0 == d then 1 else 0) l ls)

-- so it did in the phases that are made
pub asked_phases : (files : Files) (s : Scenario) (d : ℕ) (before : List Item) (ps : List Phase) (h : List Entry) → 1 ≤ d → d ≤ length s.daemons → has_machine s d ≡ false → MadeFrom files s before ps h
    → length (asked d h) ≡ sum_by (lines_of d) ps
asked_phases files s d before [] h least last none is = ap (λ (es : List Entry). length (asked d es)) is
asked_phases files s d before (p ∷ ps) h least last none (part, rest, is, its, more) =
    let parts : asked d h ≡ asked d part ++ asked d rest = ap (asked d) is ∙ flat_map-append (asked_in d) part (EndPhase ∷ rest) in
    omega (
      arith,
      ap length parts,
      length-append (asked d part) (asked d rest),
      ap length (its.daemons d least last none),
      lines_many d p.script,
      asked_phases files s d (before ++ p.items) ps rest least last none more,
      sum_by-cons (lines_of d) p ps,
    )

-- the phase that was cut short among all
splits : (ps : List Phase) (k : ℕ) (p : Phase) → slice_get ps k ≡ Some p → ps ≡ take k ps ++ p ∷ drop (suc k) ps
splits [] k p is = absurd (cc)
splits (q ∷ ps) zero p is = let same : q ≡ p = cc in ap (λ (x : Phase). x ∷ ps) same
splits (q ∷ ps) (suc k) p is = ap (λ (xs : List Phase). q ∷ xs) (splits ps k p is)

lines_left : (d : ℕ) (ps : List Phase) (k : ℕ) (p : Phase) → slice_get ps k ≡ Some p → sum_by (lines_of d) (take k ps) + lines_of d p ≤ sum_by (lines_of d) ps
lines_left d ps k p is =
    omega (arith, ap (sum_by (lines_of d)) (splits ps k p is), sum_by-append (lines_of d) (take k ps) (p ∷ drop (suc k) ps), sum_by-cons (lines_of d) p (drop (suc k) ps))

pub is_short : (l : Loaded) (k : ℕ) (h : List Entry) (lanes : List router.LaneValue) (daemons : List DaemonValue) (first ms : List (Option Machine)) → CanRun l → MachinesFit l.scenario ms → HasRun l k h lanes daemons
    → AreBehind k l.scenario.phases h first ms → PhaseCut l k h ms → IsShort (with_machines l first)
is_short l k h lanes daemons first ms can fit run b cut files loaded =
    let all = most_of_runs files s l.limits reach cut.lacks (sum l.limits.packets) cut.which kind.0 (record { legal = cut.legal; daemons = can.given_daemons }) (splits s.phases k cut.phase cut.is_phase)
    (packets_within l.limits (h ++ cut.part) cut.legal) lacks kind.1 in
    omega (arith, all, cut.full, cut.one, ap (λ x. x.controls) loaded.limits)
  where
    s : Scenario
    s = l.scenario

    reach : Reach
    reach = record { done = take k s.phases; before = h; begun = cut.phase; part = cut.part; ahead = drop (suc k) s.phases }

    found : {X : Type 0} (xs : List X) (i : ℕ) → i < length xs → (x : X) × (slice_get xs i ≡ Some x)
    found [] i less = absurd (omega (arith, less))
    found (x ∷ xs) zero less = (x, refl)
    found (x ∷ xs) (suc i) less = found xs i (omega (arith, less))

    kind : (x : DaemonKind) × (slice_get s.daemons cut.which ≡ Some x)
    kind = found s.daemons cut.which cut.which_is

    by_lines : (i n : ℕ) → i < length s.daemons → has_machine s (i + 1) ≡ false → LacksIn (i + 1) cut.phase h cut.part None n
        → length (did (i + 1) [] (h ++ cut.part)) + n ≤ sum_by (lines_of (i + 1)) s.phases
    by_lines i n less none lacks =
        let d = i + 1 in
        let before = asked_phases files s d [] (take k s.phases) h (omega arith) (omega (arith, less)) none (run.made files first loaded) in
        omega (
          arith,
          lacks,
          before,
          all_did d (h ++ cut.part) (h ++ cut.part),
          ap length (flat_map-append (asked_in d) h cut.part),
          length-append (asked d h) (asked d cut.part),
          lines_many d cut.phase.script,
          lines_left d s.phases k cut.phase cut.is_phase,
        )

    at_next : (i : ℕ) (x : DaemonKind) → slice_get s.daemons i ≡ Some x → kind_of s (i + 1) ≡ Some x
    at_next i x is = let next : i + 1 ≡ suc i = omega arith in ap (kind_of s) next ∙ is

    none_of : (i : ℕ) (x : DaemonKind) → slice_get s.daemons i ≡ Some x → is_smc x ≡ false → has_machine s (i + 1) ≡ false
    none_of i x is none = ap (λ (o : Option DaemonKind). option_map_or is_smc o false) (at_next i x is) ∙ none

    not_for : (x : DaemonKind) (m : Machine) → is_smc x ≡ false → IsFor (Some x) (Some m) → ⊥
    not_for (Smc names) m none f = absurd (cc none)
    not_for Plain m none f = f
    not_for Admin m none f = f

    wrong : (i : ℕ) (x : DaemonKind) → slice_get s.daemons i ≡ Some x → (m : Machine) → get_or ms i None ≡ Some m → is_smc x ≡ false → ⊥
    wrong i x is m at none = not_for x m none (subst (λ (o : Option DaemonKind). IsFor o (Some m)) (at_next i x is) (subst (IsFor (kind_of s (i + 1))) at (fit.each i (got_less s.daemons i x is))))

    by_kind : (i : ℕ) (x : DaemonKind) → slice_get s.daemons i ≡ Some x → (o : Option Machine) → get_or ms i None ≡ o → LacksIn (i + 1) cut.phase h cut.part o (cut.lacks (i + 1)) → Lacks files s reach (i + 1) x (cut.lacks (i + 1))
    by_kind i (Smc names) is o at lacks =
        let there = b.each i (machine_of files s names) (first_inside files l first i (Smc names) loaded is) (first_is files l first i (Smc names) loaded is) in
        let same : o ≡ Some there.0 = sym at ∙ there.1 in
        let its = subst (λ (x : Option Machine). LacksIn (i + 1) cut.phase h cut.part x (cut.lacks (i + 1))) same lacks in
        (there.0, its.0, there.2, its.1, its.2)
    by_kind i Plain is None at lacks = by_lines i (cut.lacks (i + 1)) (got_less s.daemons i Plain is) (none_of i Plain is refl) lacks
    by_kind i Admin is None at lacks = by_lines i (cut.lacks (i + 1)) (got_less s.daemons i Admin is) (none_of i Admin is refl) lacks
    by_kind i Plain is (Some m) at lacks = absurd (wrong i Plain is m at refl)
    by_kind i Admin is (Some m) at lacks = absurd (wrong i Admin is m at refl)

    lacks : (i : ℕ) (x : DaemonKind) → slice_get s.daemons i ≡ Some x → Lacks files s reach (i + 1) x (cut.lacks (i + 1))
    lacks i x is = by_kind i x is (get_or ms i None) refl (cut.each i (got_less s.daemons i x is))
