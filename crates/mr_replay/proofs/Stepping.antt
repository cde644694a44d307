-- One phase of a run, and its end.
use Rattle.std.proofs.Common.{◌≡◌, ◌≢◌, ◌∙◌, ℕ, zero, suc, ◌+◌, ◌-◌, ◌≤◌, ◌<◌, ◌==◌, Bool, true, false, All, Option, Some, None, Ok, Err, List, [], ◌∷◌, ◌++◌, length, get_or, map, take, refl, sym, ap, arith, append-nil, subst}
use Rattle.std.proofs.lemmas.Bool.Decides.{nat_tests}
use Rattle.std.proofs.lemmas.List.{length-append}
use Rattle.std.proofs.lemmas.List.Elements.{All-get_or}
use Rattle.std.specs.List.{list_any}
use Rattle.std.specs.Option.{option_map_or}
use Rattle.std.specs.Prelude.{IsOk, OnOk, nat_le, nat_lt, slice_get}
use mathlib.Core.List.{IsPrefix}
use Rattle.mr_base.specs.Outside.{Files}
use Rattle.mr_callers.specs.Joining.{MadeSoFar}
use Rattle.mr_callers.proofs.Doing.{own_append}
use Rattle.mr_callers.proofs.Joined.{asked_own, joined, sent_own}
use Rattle.mr_callers.proofs.Owning.{no_ends}
use Rattle.mr_load.specs.Callers.{has_machine, kind_of}
use Rattle.mr_load.specs.Dues.{LaneValue, sent_of}
use Rattle.mr_load.specs.Loads.{IsLoaded}
use Rattle.mr_load.specs.Made.{asked, sent, to_ask}
use Rattle.mr_model.specs.declared.caller.CallError.TheVariants as call_error
use Rattle.mr_load.specs.declared.loading.Loaded.{Loaded}
use Rattle.mr_model.specs.declared.entry.Entry.{Entry}
use Rattle.mr_model.specs.declared.entry.Entry.TheVariants.{EndPhase}
use Rattle.mr_model.specs.declared.limits.Limits.{Limits}
use Rattle.mr_model.specs.Legal.{IsLegal}
use Rattle.mr_model.specs.Past.{controls, is_end, phases}
use Rattle.mr_model.proofs.PushingLists.{phases_push}
use Rattle.mr_replay.specs.Daemons.{at_daemon}
use Rattle.mr_replay.specs.Turns.{AllTurn, Stop}
use Rattle.mr_replay.specs.Lanes.{AllSend, LanesReady, at_lane, due_in, lane_at}
use Rattle.mr_replay.specs.Running.{CanRun, HasRun, IsFor, LacksIn, MachinesFit, PhaseCut, PhaseDriven, with_machines}
use Rattle.mr_replay.proofs.Duing.{sent_at}
use Rattle.mr_replay.proofs.Meeting.{Did, LaneDid, daemons_did, daemons_see, lanes_did, lanes_see}
use Rattle.mr_replay.proofs.Phasing.{lane_is, phase_less, phases_stay, take_phase}
use Rattle.mr_replay.proofs.Ready.{none_ready}
use Rattle.mr_authors.specs.Authors.{daemon_author, own}
use Rattle.mr_router.specs.Callers.{DaemonValue, daemon_sees, lane_sees, new_daemons, new_lanes}
use Rattle.mr_router.specs.Callers as router
use Rattle.mr_router.specs.Histories.{Ends, GoesOn}
use Rattle.mr_authors.proofs.Owning.{none_of_nobody, nothing_more, phases_own}
use Rattle.mr_scenario.specs.PhaseLines.{is_smc}
use Rattle.mr_scenario.specs.declared.scenario.DaemonKind.{DaemonKind}
use Rattle.mr_scenario.specs.declared.scenario.DaemonKind.TheVariants.{Plain, Admin, Smc}
use Rattle.mr_scenario.specs.declared.scenario.Phase.{Phase}
use Rattle.smc_core.specs.Machine.{Machine}
use Rattle.smc_daemon.specs.Courses.{Drives, machine_behind}
use Rattle.smc_daemon.specs.Deeds.{did as smc_did}

-- A phase has room for its end.
pub end_room : (l : Loaded) (k : ℕ) (p : Phase) (h : List Entry) (limits : Limits) → l.limits ≡ limits → CanRun l → slice_get l.scenario.phases k ≡ Some p → phases h ≡ k → phases (own 0 h) < limits.phases
end_room l k p h limits same can at ended =
    omega (arith, phases_own h, ended, can.phases, phase_less l.scenario.phases k p at, ap (λ (x : Limits). x.phases) same)

-- The history of a phase: what stood before it, what the callers did in it, and its end.
record Added (limits : Limits) (h new before : List Entry) : Type 0 where
  part : List Entry
  splits : h ++ part ≡ before
  is : new ≡ (h ++ part) ++ EndPhase ∷ []
  no_end : own 0 part ≡ []
  legal : IsLegal limits (h ++ part)

added : (limits : Limits) (h new : List Entry) (lanes : List router.LaneValue) (daemons : List DaemonValue) → (e : Ends limits h new lanes daemons) → Added limits h new e.before
added limits h new lanes daemons e =
    let part : List Entry = e.later.begins.0 in
    let before : h ++ part ≡ e.before = e.later.begins.1 in
    record {
      part = part;
      splits = before;
      is = e.seen ∙ ap (λ (es : List Entry). es ++ EndPhase ∷ []) (sym before);
      no_end = no_more (own 0 h) (own 0 part) (sym (own_append 0 h part) ∙ ap (own 0) before ∙ e.later.own);
      legal = subst (IsLegal limits) (sym before) e.later.legal;
    }
  where
    no_more : (xs ys : List Entry) → xs ++ ys ≡ xs → ys ≡ []
    no_more [] ys same = same
    no_more (x ∷ xs) ys same = no_more xs ys (cc)

phase_made : (files : Files) (l : Loaded) (ms : List (Option Machine)) (k : ℕ) (p : Phase) (h part : List Entry) → CanRun l → slice_get l.scenario.phases k ≡ Some p → IsLoaded files (with_machines l ms) → own 0 part ≡ [] → IsLegal l.limits (h ++ part)
    → ((n : ℕ) → 1 ≤ n → n ≤ l.scenario.lanes → sent n part ≡ map sent_of (due_in k (lane_at l.lanes n).packets))
    → ((d : ℕ) → 1 ≤ d → d ≤ length l.scenario.daemons → has_machine l.scenario d ≡ false → asked d part ≡ to_ask d p)
    → MadeSoFar files l.scenario (take k l.scenario.phases) h → MadeSoFar files l.scenario (take (k + 1) l.scenario.phases) ((h ++ part) ++ EndPhase ∷ [])
phase_made files l ms k p h part can at i no_end legal sends asks made =
    subst (λ (ps : List Phase). MadeSoFar files l.scenario ps ((h ++ part) ++ EndPhase ∷ [])) (sym (take_phase l.scenario.phases k p at))
    (joined files l.scenario (take k l.scenario.phases) p h part (λ n. own n part) can.fits (subst (λ (x : Limits). IsLegal x (h ++ part)) i.limits legal) made (λ n. own_append n h part)
    (record {
      no_end = no_end;
      lanes = λ n least most.
          sent_own n part ∙ sends n least most
          ∙ ap (λ (v : LaneValue). map sent_of (due_in k v.packets)) (ap (λ (xs : List LaneValue). lane_at xs n) i.lanes ∙ lane_is files l.scenario n least most)
          ∙ sent_at files n l.scenario.phases k p at;
      daemons = λ d least most none. asked_own d part ∙ asks d least most none;
    }))

-- a daemon without a machine has none in its place
no_machine : (o : Option DaemonKind) (m : Option Machine) → IsFor o m → option_map_or is_smc o false ≡ false → m ≡ None
no_machine (Some (Smc names)) m f none = absurd (cc none)
no_machine (Some Plain) None f none = refl
no_machine (Some Plain) (Some m) f none = absurd f
no_machine (Some Admin) None f none = refl
no_machine (Some Admin) (Some m) f none = absurd f
no_machine None m f none = absurd f

asked_all : (limits : Limits) (p : Phase) (d : ℕ) (h part : List Entry) (m m' : Option Machine) (stop : Stop) → Did limits p d h part m m' stop → m ≡ None → IsOk stop → asked d part ≡ to_ask d p
asked_all limits p d h part None None (Ok u) did none ok = did
asked_all limits p d h part None None (Err e) did none ok = absurd (cc ok)
asked_all limits p d h part None (Some m') stop did none ok = absurd did
asked_all limits p d h part (Some m) m' stop did none ok = absurd (cc none)

fit_on : (limits : Limits) (p : Phase) (d : ℕ) (h part : List Entry) (o : Option DaemonKind) (m m' : Option Machine) (stop : Stop) → IsFor o m → Did limits p d h part m m' stop → IsOk stop → IsFor o m'
fit_on limits p d h part (Some (Smc names)) (Some m) (Some m') (Ok u) f did ok = did.2
fit_on limits p d h part (Some (Smc names)) (Some m) (Some m') (Err e) f did ok = absurd (cc ok)
fit_on limits p d h part (Some (Smc names)) (Some m) None stop f did ok = absurd did
fit_on limits p d h part (Some (Smc names)) None m' stop f did ok = absurd f
fit_on limits p d h part (Some Plain) None None stop f did ok = tt
fit_on limits p d h part (Some Plain) None (Some m') stop f did ok = absurd did
fit_on limits p d h part (Some Plain) (Some m) m' stop f did ok = absurd f
fit_on limits p d h part (Some Admin) None None stop f did ok = tt
fit_on limits p d h part (Some Admin) None (Some m') stop f did ok = absurd did
fit_on limits p d h part (Some Admin) (Some m) m' stop f did ok = absurd f
fit_on limits p d h part None m m' stop f did ok = absurd f

driven : (limits : Limits) (p : Phase) (d : ℕ) (h part : List Entry) (o o' : Option Machine) (stop : Stop) (m : Machine) → Did limits p d h part o o' stop → IsOk stop → o ≡ Some m
    → Drives d m p h part × (o' ≡ Some (machine_behind d m p h part))
driven limits p d h part (Some n) (Some n') (Ok u) m did ok is =
    let same : n ≡ m = cc is in
    subst (λ (x : Machine). Drives d x p h part × (Some n' ≡ Some (machine_behind d x p h part))) same (did.0, ap Some did.1)
driven limits p d h part (Some n) (Some n') (Err e) m did ok is = absurd (cc ok)
driven limits p d h part (Some n) None stop m did ok is = absurd did
driven limits p d h part None o' stop m did ok is = absurd (cc is)

-- what a daemon lacks that stopped for want of room
abbrev lack : Bool → ℕ
lack true = 1
lack false = 0

lacks_in : (limits : Limits) (p : Phase) (d : ℕ) (h part : List Entry) (o o' : Option Machine) (stop : Stop) (b : Bool) → Did limits p d h part o o' stop → (b ≡ true → stop ≡ Err call_error.ControlFull) → LacksIn d p h part o (lack b)
lacks_in limits p d h part None None (Ok u) true did is = absurd (cc (is refl))
lacks_in limits p d h part None None (Ok u) false did is = omega (arith, ap length did)
lacks_in limits p d h part None None (Err e) true did is = omega (arith, did.0)
lacks_in limits p d h part None None (Err e) false did is = omega (arith, did.0)
lacks_in limits p d h part (Some m) (Some m') (Ok u) true did is = absurd (cc (is refl))
lacks_in limits p d h part (Some m) (Some m') (Ok u) false did is = ([], (sym did.0 ∙ sym (append-nil (smc_did d h part))), (omega arith))
lacks_in limits p d h part (Some m) (Some m') (Err e) true did is =
    let full : e ≡ call_error.ControlFull = cc (is refl) in
    (did.0, did.1, (omega (arith, (did.2 full).0)))
lacks_in limits p d h part (Some m) (Some m') (Err e) false did is = (did.0, did.1, (omega arith))
lacks_in limits p d h part None (Some m') stop b did is = absurd did
lacks_in limits p d h part (Some m) None stop b did is = absurd did

no_room : (limits : Limits) (p : Phase) (d : ℕ) (h part : List Entry) (o o' : Option Machine) (stop : Stop) → Did limits p d h part o o' stop → stop ≡ Err call_error.ControlFull → limits.controls ≤ controls (h ++ part)
no_room limits p d h part None None (Ok u) did is = absurd (cc is)
no_room limits p d h part None None (Err e) did is = did.1
no_room limits p d h part (Some m) (Some m') (Ok u) did is = absurd (cc is)
no_room limits p d h part (Some m) (Some m') (Err e) did is = (did.2 (cc is)).1
no_room limits p d h part None (Some m') stop did is = absurd did
no_room limits p d h part (Some m) None stop did is = absurd did

-- what holds behind a phase, by why the first daemon stopped that did
pub record PhaseRan (l : Loaded) (k : ℕ) (h new : List Entry) (lanes_after : List router.LaneValue) (daemons_after : List DaemonValue) (ms ms' : List (Option Machine)) : Type 0 where
  pub run : HasRun l (k + 1) new lanes_after daemons_after
  pub machines : MachinesFit l.scenario ms'
  pub driven : PhaseDriven k l.scenario h new ms ms'

pub record PhaseEnds (l : Loaded) (k : ℕ) (h new : List Entry) (lanes_after : List router.LaneValue) (daemons_after : List DaemonValue) (ms ms' : List (Option Machine)) (stop : Stop) : Type 0 where
  pub ran : IsOk stop → PhaseRan l k h new lanes_after daemons_after ms ms'
  pub cut : stop ≡ Err call_error.ControlFull → PhaseCut l k h ms

-- what each way to end says
pub on_ok : (stop : Stop) (P : Type 0) → (IsOk stop → P) → OnOk stop P
on_ok (Ok u) P f = f refl
on_ok (Err e) P f = tt

pub phase_runs : (l : Loaded) (k : ℕ) (p : Phase) (limits : Limits) (stop : Stop) (h new : List Entry) (lanes lanes_mid lanes_after : List router.LaneValue) (daemons daemons_mid daemons_after : List DaemonValue) (ms ms' : List (Option Machine))
    → l.limits ≡ limits → CanRun l → slice_get l.scenario.phases k ≡ Some p → HasRun l k h lanes daemons → MachinesFit l.scenario ms → AllSend k l.lanes lanes lanes_mid → AllTurn limits p.script stop daemons ms daemons_mid ms'
    → Ends limits h new lanes_mid daemons_mid
    → All (λ (x : router.LaneValue). own x.lane.0 new ≡ own x.lane.0 x.seen) lanes_mid
    → All (λ (d : DaemonValue). own (daemon_author d.daemon.0) new ≡ own (daemon_author d.daemon.0) d.seen) daemons_mid
    → lanes_after ≡ map (lane_sees new) lanes_mid → daemons_after ≡ map (daemon_sees new) daemons_mid → PhaseEnds l k h new lanes_after daemons_after ms ms' stop
phase_runs l k p limits stop h new lanes lanes_mid lanes_after daemons daemons_mid daemons_after ms ms' same can at run fit sends turns ends known_lanes known_daemons lanes_is daemons_is =
    record { ran = ran; cut = cut }
  where
    many : ℕ
    many = length l.scenario.daemons

    a : Added limits h new ends.before
    a = added limits h new lanes_mid daemons_mid ends

    legal : IsLegal l.limits (h ++ a.part)
    legal = subst (λ (x : Limits). IsLegal x (h ++ a.part)) (sym same) a.legal

    sent_all : (n : ℕ) → 1 ≤ n → n ≤ l.scenario.lanes → LaneDid k (lane_at l.lanes n) n a.part new
    sent_all = lanes_did k l.scenario.lanes l.lanes h a.part new lanes lanes_mid run.lanes sends a.is known_lanes

    begun : All (λ (d : DaemonValue). IsPrefix d.seen (h ++ a.part)) daemons_mid
    begun = subst (λ (es : List Entry). All (λ (d : DaemonValue). IsPrefix d.seen es) daemons_mid) (sym a.splits) ends.of_daemons

    did : (i : ℕ) → i < many → Did limits p (i + 1) h a.part (get_or ms i None) (get_or ms' i None) (turns.stops i)
    did = daemons_did limits p many h a.part new stop daemons daemons_mid ms ms' run.daemons turns a.is known_daemons begun

    ok_at : IsOk stop → (i : ℕ) → i < many → IsOk (turns.stops i)
    ok_at ok i less = turns.all ok i (omega (arith, less, run.daemons.many))

    asks : IsOk stop → (d : ℕ) → 1 ≤ d → d ≤ many → has_machine l.scenario d ≡ false → asked d a.part ≡ to_ask d p
    asks ok d least most none =
        let i = d - 1 in
        let next : i + 1 ≡ d = omega (arith, least) in
        let less : i < many = omega (arith, least, most) in
        let free : get_or ms i None ≡ None = no_machine (kind_of l.scenario (i + 1)) (get_or ms i None) (fit.each i less) (ap (has_machine l.scenario) next ∙ none) in
        subst (λ (n : ℕ). asked n a.part ≡ to_ask n p) next
        (asked_all limits p (i + 1) h a.part (get_or ms i None) (get_or ms' i None) (turns.stops i) (did i less) free (ok_at ok i less))

    no_end : list_any is_end a.part ≡ false
    no_end = no_ends a.part a.no_end

    ran : IsOk stop → PhaseRan l k h new lanes_after daemons_after ms ms'
    ran ok = record {
      run = record {
        lanes = lanes_see k l.scenario.lanes l.lanes h new lanes lanes_mid lanes_after run.lanes sends lanes_is;
        daemons = daemons_see limits many p.script h new stop daemons daemons_mid daemons_after ms ms' run.daemons turns daemons_is;
        ready = λ n least most. (sent_all n least (omega (arith, most, can.many_lanes))).ready;
        ended = omega (arith, ap phases a.is, phases_push (h ++ a.part) EndPhase, phases_stay h a.part (h ++ a.part) refl a.no_end, run.ended);
        made = λ files first i.
            subst (λ (es : List Entry). MadeSoFar files l.scenario (take (k + 1) l.scenario.phases) es) (sym a.is)
            (phase_made files l first k p h a.part can at i a.no_end legal (λ n least most. (sent_all n least most).sent_is) (asks ok) (run.made files first i));
      };
      machines = record {
        many = turns.many_machines ∙ fit.many;
        each = λ i less. fit_on limits p (i + 1) h a.part (kind_of l.scenario (i + 1)) (get_or ms i None) (get_or ms' i None) (turns.stops i) (fit.each i less) (did i less) (ok_at ok i less);
      };
      driven = record {
        phase = p;
        is_phase = at;
        part = a.part;
        no_end = no_end;
        is = a.is;
        drives = λ i m less is.
            let inside : i < many = omega (arith, less, fit.many) in
            (driven limits p (i + 1) h a.part (get_or ms i None) (get_or ms' i None) (turns.stops i) m (did i inside) (ok_at ok i inside) is).0;
        machines = λ i m less is.
            let inside : i < many = omega (arith, less, fit.many) in
            (driven limits p (i + 1) h a.part (get_or ms i None) (get_or ms' i None) (turns.stops i) m (did i inside) (ok_at ok i inside) is).1;
      };
    }

    cut : stop ≡ Err call_error.ControlFull → PhaseCut l k h ms
    cut is =
        let one = turns.one call_error.ControlFull is in
        let which : ℕ = one.0 in
        let inside : which < many = omega (arith, one.1, run.daemons.many) in
        record {
          phase = p;
          is_phase = at;
          part = a.part;
          no_end = no_end;
          legal = legal;
          full = subst (λ (x : Limits). x.controls ≤ controls (h ++ a.part)) (sym same) (no_room limits p (which + 1) h a.part (get_or ms which None) (get_or ms' which None) (turns.stops which) (did which inside) one.2);
          lacks = λ n. lack (n == which + 1);
          each = λ i less.
              lacks_in limits p (i + 1) h a.part (get_or ms i None) (get_or ms' i None) (turns.stops i) (i + 1 == which + 1) (did i less)
              (λ its. let here : i ≡ which = grind (arith, its) in ap turns.stops here ∙ one.2);
          which = which;
          which_is = inside;
          one = let itself : (which + 1 == which + 1) ≡ true = grind arith in rw itself (omega arith);
        }

-- the lanes and daemons of a router that was opened
many_lanes : (n : ℕ) → length (new_lanes n) ≡ n
many_lanes zero = refl
many_lanes (suc n) = omega (arith, many_lanes n, length-append (new_lanes n) (router.new_lane (suc n) ∷ []))

got_last : {X : Type 0} (xs : List X) (x d : X) (i : ℕ) → i ≡ length xs → get_or (xs ++ x ∷ []) i d ≡ x
got_last [] x d zero is = refl
got_last [] x d (suc i) is = absurd (omega (arith, is))
got_last (y ∷ xs) x d zero is = absurd (omega (arith, is))
got_last (y ∷ xs) x d (suc i) is = got_last xs x d i (omega (arith, is))

got_first : {X : Type 0} (xs ys : List X) (d : X) (i : ℕ) → i < length xs → get_or (xs ++ ys) i d ≡ get_or xs i d
got_first [] ys d i less = absurd (omega (arith, less))
got_first (x ∷ xs) ys d zero less = refl
got_first (x ∷ xs) ys d (suc i) less = got_first xs ys d i (omega (arith, less))

new_lane_at : (n i : ℕ) (d : router.LaneValue) → i < n → get_or (new_lanes n) i d ≡ at_lane (i + 1) []
new_lane_at zero i d less = absurd (omega (arith, less))
new_lane_at (suc n) i d less = by_last (i == n) refl (new_lane_at n i d)
  where
    by_last : (b : Bool) → (i == n) ≡ b → (i < n → get_or (new_lanes n) i d ≡ at_lane (i + 1) []) → get_or (new_lanes n ++ router.new_lane (suc n) ∷ []) i d ≡ at_lane (i + 1) []
    by_last true t rest =
        let same : i ≡ n = grind (arith, t) in
        let next : suc n ≡ i + 1 = omega (arith, same) in
        got_last (new_lanes n) (router.new_lane (suc n)) d i (omega (arith, same, many_lanes n)) ∙ ap (λ (m : ℕ). at_lane m []) next
    by_last false t rest =
        let before : i < n = grind (arith, t, less) in
        got_first (new_lanes n) (router.new_lane (suc n) ∷ []) d i (omega (arith, before, many_lanes n)) ∙ rest before

many_daemons : (n : ℕ) → length (new_daemons n) ≡ n
many_daemons zero = refl
many_daemons (suc n) = omega (arith, many_daemons n, length-append (new_daemons n) (router.new_daemon (suc n) ∷ []))

new_daemon_at : (n i : ℕ) (d : DaemonValue) → i < n → get_or (new_daemons n) i d ≡ at_daemon (i + 1) []
new_daemon_at zero i d less = absurd (omega (arith, less))
new_daemon_at (suc n) i d less = by_last (i == n) refl (new_daemon_at n i d)
  where
    by_last : (b : Bool) → (i == n) ≡ b → (i < n → get_or (new_daemons n) i d ≡ at_daemon (i + 1) []) → get_or (new_daemons n ++ router.new_daemon (suc n) ∷ []) i d ≡ at_daemon (i + 1) []
    by_last true t rest =
        let same : i ≡ n = grind (arith, t) in
        let next : suc n ≡ i + 1 = omega (arith, same) in
        got_last (new_daemons n) (router.new_daemon (suc n)) d i (omega (arith, same, many_daemons n)) ∙ ap (λ (m : ℕ). at_daemon m []) next
    by_last false t rest =
        let before : i < n = grind (arith, t, less) in
        got_first (new_daemons n) (router.new_daemon (suc n) ∷ []) d i (omega (arith, before, many_daemons n)) ∙ rest before

pub run_begins : (l : Loaded) (h : List Entry) (lanes : List router.LaneValue) (daemons : List DaemonValue) (limits : Limits) → CanRun l → l.limits ≡ limits → h ≡ [] → lanes ≡ new_lanes (length limits.packets)
    → daemons ≡ new_daemons (length limits.admins) → HasRun l 0 h lanes daemons
run_begins l h lanes daemons limits can same none lanes_are daemons_are =
    let lanes_many : length limits.packets ≡ l.scenario.lanes = ap (λ (x : Limits). length x.packets) (sym same) ∙ can.given_lanes in
    let daemons_many : length limits.admins ≡ length l.scenario.daemons = ap (λ (x : Limits). length x.admins) (sym same) ∙ can.given_daemons in
    let lanes_is : lanes ≡ new_lanes l.scenario.lanes = lanes_are ∙ ap new_lanes lanes_many in
    let daemons_is : daemons ≡ new_daemons (length l.scenario.daemons) = daemons_are ∙ ap new_daemons daemons_many in
    record {
      lanes = record {
        many = ap length lanes_is ∙ many_lanes l.scenario.lanes;
        each = λ i x inside. ap (λ (xs : List router.LaneValue). get_or xs i x) lanes_is ∙ new_lane_at l.scenario.lanes i x inside ∙ ap (at_lane (i + 1)) (sym none);
      };
      daemons = record {
        many = ap length daemons_is ∙ many_daemons (length l.scenario.daemons);
        each = λ i x inside. ap (λ (xs : List DaemonValue). get_or xs i x) daemons_is ∙ new_daemon_at (length l.scenario.daemons) i x inside ∙ ap (at_daemon (i + 1)) (sym none);
      };
      ready = subst (LanesReady 0 l.lanes) (sym none) (none_ready l.lanes);
      ended = ap phases none;
      made = λ files first loaded. none;
    }

pub phase_got : (ps : List Phase) (k : ℕ) (p : Phase) → k < length ps → p ≡ get_or ps k p → slice_get ps k ≡ Some p
phase_got [] k p less at = absurd (omega (arith, less))
phase_got (q ∷ ps) zero p less at = ap Some (sym at)
phase_got (q ∷ ps) (suc k) p less at = phase_got ps k p (omega (arith, less)) at

-- The machine that is handed back has no more than all had seen.
first_none : (xs ys : List Entry) → xs ++ ys ≡ [] → xs ≡ []
first_none [] ys none = refl
first_none (x ∷ xs) ys none = absurd (cc)

pub close_same : (l : Loaded) (k : ℕ) (limits : Limits) (h end : List Entry) (lanes : List router.LaneValue) (daemons : List DaemonValue) → l.limits ≡ limits → CanRun l → HasRun l k h lanes daemons → GoesOn limits 0 h end
    → All (λ (x : router.LaneValue). GoesOn limits x.lane.0 x.seen end) lanes → All (λ (d : DaemonValue). GoesOn limits (daemon_author d.daemon.0) d.seen end) daemons → end ≡ h
close_same l k limits h end lanes daemons same can run went of_lanes of_daemons =
    sym went.begins.1 ∙ ap (λ (es : List Entry). h ++ es) none ∙ append-nil h
  where
    more : List Entry
    more = went.begins.0

    lanes_many : length limits.packets ≡ l.scenario.lanes
    lanes_many = ap (λ (x : Limits). length x.packets) (sym same) ∙ can.given_lanes

    daemons_many : length limits.admins ≡ length l.scenario.daemons
    daemons_many = ap (λ (x : Limits). length x.admins) (sym same) ∙ can.given_daemons

    of_lane : (n : ℕ) → 1 ≤ n → n ≤ l.scenario.lanes → own n end ≡ own n h
    of_lane n least most =
        let i = n - 1 in
        let next : i + 1 ≡ n = omega (arith, least) in
        let inside : i < l.scenario.lanes = omega (arith, least, most) in
        let x = get_or lanes i (at_lane 0 []) in
        let is : x ≡ at_lane (i + 1) h = run.lanes.each i (at_lane 0 []) inside in
        let its : GoesOn limits x.lane.0 x.seen end = All-get_or (λ (x : router.LaneValue). GoesOn limits x.lane.0 x.seen end) lanes i (at_lane 0 []) (omega (arith, inside, run.lanes.many)) of_lanes in
        subst (λ (m : ℕ). own m end ≡ own m h) next (subst (λ (y : router.LaneValue). own y.lane.0 end ≡ own y.lane.0 y.seen) is its.own)

    of_daemon : (d : ℕ) → 1 ≤ d → d ≤ length l.scenario.daemons → own (daemon_author d) end ≡ own (daemon_author d) h
    of_daemon d least most =
        let i = d - 1 in
        let next : i + 1 ≡ d = omega (arith, least) in
        let inside : i < length l.scenario.daemons = omega (arith, least, most) in
        let x = get_or daemons i (at_daemon 0 []) in
        let is : x ≡ at_daemon (i + 1) h = run.daemons.each i (at_daemon 0 []) inside in
        let its : GoesOn limits (daemon_author x.daemon.0) x.seen end = All-get_or (λ (x : DaemonValue). GoesOn limits (daemon_author x.daemon.0) x.seen end) daemons i (at_daemon 0 []) (omega (arith, inside, run.daemons.many)) of_daemons in
        subst (λ (m : ℕ). own (daemon_author m) end ≡ own (daemon_author m) h) next (subst (λ (y : DaemonValue). own (daemon_author y.daemon.0) end ≡ own (daemon_author y.daemon.0) y.seen) is its.own)

    of_nobody : (n : ℕ) → n ≢ 0 → l.scenario.lanes < n → ((d : ℕ) → 1 ≤ d → d ≤ length l.scenario.daemons → daemon_author d ≢ n) → own n end ≡ own n h
    of_nobody n some beyond no_daemon =
        let none : own n end ≡ [] = none_of_nobody limits n end some (λ lane is. λ e. omega (arith, is.last, lanes_many, beyond, e)) (λ d is. no_daemon d.0 is.first (omega (arith, is.last, daemons_many))) went.legal in
        none ∙ sym (first_none (own n h) (own n more) (sym (own_append n h more) ∙ ap (own n) went.begins.1 ∙ none))

    by_daemon : (n : ℕ) → n ≢ 0 → l.scenario.lanes < n → (b : Bool) → nat_lt 16 n ≡ b → (c : Bool) → nat_le n (16 + length l.scenario.daemons) ≡ c → own n end ≡ own n h
    by_daemon n some beyond true above true within =
        let is : daemon_author (n - 16) ≡ n = grind (arith, nat_tests, above) in
        let least : 1 ≤ n - 16 = grind (arith, nat_tests, above) in
        let most : n - 16 ≤ length l.scenario.daemons = grind (arith, nat_tests, above, within) in
        subst (λ (m : ℕ). own m end ≡ own m h) is (of_daemon (n - 16) least most)
    by_daemon n some beyond true above false within =
        let past : 16 + length l.scenario.daemons < n = grind (arith, nat_tests, within) in
        of_nobody n some beyond (λ d least most e. omega (arith, most, e, past))
    by_daemon n some beyond false above c within =
        let low : n ≤ 16 = grind (arith, nat_tests, above) in
        of_nobody n some beyond (λ d least most e. omega (arith, least, e, low))

    by_lane : (n : ℕ) → n ≢ 0 → (b : Bool) → nat_le n l.scenario.lanes ≡ b → own n end ≡ own n h
    by_lane n some true t =
        let least : 1 ≤ n = omega (arith, some) in
        let most : n ≤ l.scenario.lanes = grind (arith, nat_tests, t) in
        of_lane n least most
    by_lane n some false t =
        let beyond : l.scenario.lanes < n = grind (arith, nat_tests, t) in
        by_daemon n some beyond (nat_lt 16 n) refl (nat_le n (16 + length l.scenario.daemons)) refl

    by_number : (n : ℕ) → own n end ≡ own n h
    by_number zero = went.own
    by_number (suc n) = by_lane (suc n) (λ e. absurd (omega (arith, e))) (nat_le (suc n) l.scenario.lanes) refl

    none : more ≡ []
    none = nothing_more h more (λ n. ap (own n) went.begins.1 ∙ by_number n)

-- a list that was written back over another one of its length
pub taken : {X : Type 0} (n : ℕ) (xs ys : List X) → n ≡ length xs → take n (xs ++ ys) ≡ xs
taken zero [] ys same = refl
taken (suc n) [] ys same = absurd (omega (arith, same))
taken zero (x ∷ xs) ys same = absurd (omega (arith, same))
taken {X} (suc n) (x ∷ xs) ys same = ap (λ (zs : List X). x ∷ zs) (taken n xs ys (omega (arith, same)))

pub all_written : {X : Type 0} (P : X → Type 0) (n : ℕ) (xs ys : List X) → n ≡ length xs → All P (take n (xs ++ ys)) → All P xs
all_written {X} P n xs ys same all = subst (λ (zs : List X). All P zs) (taken n xs ys same) all
