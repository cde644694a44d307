-- A history whose lines are right is legal, and what its callers did is what the phases that have ended ask.
use Rattle.std.proofs.Common.{◌≡◌, ◌∙◌, ℕ, ◌+◌, ◌≤◌, ◌==◌, false, Some, List, [], ◌∷◌, ◌++◌, length, take, refl, sym, ap, arith, append-nil, append_assoc, subst}
use Rattle.std.proofs.lemmas.Grind.{flat_map-append}
use Rattle.std.proofs.lemmas.List.{length-append, length-map}
use Rattle.mr_base.specs.Outside.{Files}
use Rattle.mr_base.specs.declared.numbers.LaneNo.{LaneNo}
use Rattle.mr_authors.specs.Authors.{own}
use Rattle.mr_callers.specs.Joining.{MadeSoFar}
use Rattle.mr_callers.proofs.Doing.{own_append}
use Rattle.mr_callers.proofs.Joined.{asked_own, joined, sent_own}
use Rattle.mr_load.specs.Callers.{has_machine}
use Rattle.mr_load.specs.Loading.{items_in, run_limits}
use Rattle.mr_load.specs.Loads.{IsLoaded}
use Rattle.mr_load.specs.Made.{Made, Sent, asked, asked_in, sent, sent_in, to_ask, to_send}
use Rattle.mr_load.specs.declared.loading.Loaded.{Loaded}
use Rattle.mr_model.proofs.Pushing.{legal_push}
use Rattle.mr_model.proofs.PushingLists.{phases_push}
use Rattle.mr_model.specs.Legal.{IsLegal}
use Rattle.mr_model.specs.Past.{phases}
use Rattle.mr_model.specs.declared.entry.Entry.{Entry}
use Rattle.mr_model.specs.declared.entry.Entry.TheVariants.{Call, Slow, Settle, Tick, Recv, EndPhase}
use Rattle.mr_model.specs.declared.limits.Limits.{Limits}
use Rattle.mr_scenario.specs.declared.scenario.Phase.{Phase}
use Rattle.mr_scenario.specs.declared.scenario.Script.{Script}
use Rattle.mr_text.specs.Whole.{line_count}
use Rattle.smc_core.specs.Machine.{Machine}
use Rattle.smc_daemon.specs.Courses.{DrivesFrom}
use Rattle.smc_daemon.specs.Machines.{machine_of}
use Rattle.mr_check.specs.Callers.{lines_to, machine_at, packets_to}
use Rattle.mr_check.specs.Judging.{EntriesRight}
use Rattle.mr_check.specs.Rules.{CanEnd, FirstLine, SendsNext, present}
use Rattle.mr_check.proofs.Agreeing.{AllRight, entry_agrees, first_right, lanes_many}
use Rattle.mr_check.proofs.Lists.{at_place, behind_same, front_length, take_at, take_over}
use Rattle.mr_check.proofs.Machines.{machine_is}
use Rattle.mr_check.proofs.Packets.{lines_more, lines_packets, packets_are, packets_more, packets_over}
use Rattle.mr_check.proofs.Sent.{asked_push, sent_push, settle_sends, slow_sends}

-- A history is cut behind the last end of a phase.
pub record Cut (files : Files) (l : Loaded) (g : List Entry) : Type 0 where
  pub front : List Entry
  pub part : List Entry
  pub splits : g ≡ front ++ part
  pub made : MadeSoFar files l.scenario (take (phases g) l.scenario.phases) front
  pub no_end : own 0 part ≡ []
  pub lanes : (lane : ℕ) → 1 ≤ lane → lane ≤ l.scenario.lanes → sent lane front ≡ lines_packets files l (phases g) lane
  pub daemons : (d : ℕ) → 1 ≤ d → d ≤ length l.scenario.daemons → has_machine l.scenario d ≡ false → asked d front ≡ lines_to l (phases g) d
  pub machines : (d : ℕ) (m : Machine) → machine_at l d ≡ Some m → DrivesFrom d m [] (take (phases g) l.scenario.phases) front
  pub over : length l.scenario.phases ≤ phases g → part ≡ []

pub begins : (files : Files) (l : Loaded) → Cut files l []
begins files l = record {
  front = [];
  part = [];
  splits = refl;
  made = refl;
  no_end = refl;
  lanes = λ lane least most. refl;
  daemons = λ d least most none. refl;
  machines = λ d m has. refl;
  over = λ less. refl;
}

-- an entry in a phase
kept : (files : Files) (l : Loaded) (g : List Entry) (e : Entry) → phases (g ++ e ∷ []) ≡ phases g → own 0 (e ∷ []) ≡ []
    → (length l.scenario.phases ≤ phases g → ⊥) → Cut files l g → Cut files l (g ++ e ∷ [])
kept files l g e same none is_open c = record {
  front = c.front;
  part = c.part ++ e ∷ [];
  splits = ap (λ (x : List Entry). x ++ e ∷ []) c.splits ∙ append_assoc c.front c.part (e ∷ []);
  made = subst (λ (k : ℕ). MadeSoFar files l.scenario (take k l.scenario.phases) c.front) (sym same) c.made;
  no_end = own_append 0 c.part (e ∷ []) ∙ rw (c.no_end, none) refl;
  lanes = λ lane least most. c.lanes lane least most ∙ ap (λ (k : ℕ). lines_packets files l k lane) (sym same);
  daemons = λ d least most plain. c.daemons d least most plain ∙ ap (λ (k : ℕ). lines_to l k d) (sym same);
  machines = λ d m has. subst (λ (k : ℕ). DrivesFrom d m [] (take k l.scenario.phases) c.front) (sym same) (c.machines d m has);
  over = λ less. absurd (is_open (omega (arith, less, same)));
}

whole_front : (files : Files) (l : Loaded) (g : List Entry) (c : Cut files l g) → length l.scenario.phases ≤ phases g → g ≡ c.front
whole_front files l g c over = c.splits ∙ ap (λ (x : List Entry). c.front ++ x) (c.over over) ∙ append-nil c.front

-- a lane that sends more is in a phase
lane_open : (files : Files) (l : Loaded) → IsLoaded files l → (g : List Entry) (lane : LaneNo) (e : Entry) (xs : List Sent) → Cut files l g → SendsNext l g lane e → sent_in lane.0 e ≡ xs → 1 ≤ length xs
    → length l.scenario.phases ≤ phases g → ⊥
lane_open files l is g lane e xs c next what some over =
    let most : lane.0 ≤ l.scenario.lanes = omega (arith, next.lane_is.last, lanes_many files l is) in
    let done : sent lane.0 g ≡ lines_packets files l (phases g) lane.0 = ap (sent lane.0) (whole_front files l g c over) ∙ c.lanes lane.0 next.lane_is.first most in
    let all : packets_to l (present g) lane.0 ≡ lines_packets files l (phases g) lane.0 = packets_are files l (present g) lane.0 is next.lane_is.first most ∙ packets_over files l (phases g) lane.0 over in
    let now : List Sent = sent lane.0 (g ++ e ∷ []) in
    let more : now ≡ sent lane.0 g ++ xs = sent_push lane.0 g e ∙ ap (λ (ys : List Sent). sent lane.0 g ++ ys) what in
    omega (arith, ap length more, length-append (sent lane.0 g) xs, ap length done, ap length all, front_length now (packets_to l (present g) lane.0) next.next, some)

lane_author : (lane : LaneNo) → 1 ≤ lane.0 → (lane.0 == 0) ≡ false
lane_author lane least = grind (arith, least)

daemon_author : (d : ℕ) → (16 + d == 0) ≡ false
daemon_author d = grind arith

-- the end of a phase
ended : (files : Files) (l : Loaded) → IsLoaded files l → (g : List Entry) → IsLegal l.limits g → CanEnd l g → Cut files l g → Cut files l (g ++ EndPhase ∷ [])
ended files l is g legal ends c =
    let k : ℕ = phases g in
    let ps : List Phase = l.scenario.phases in
    let at = at_place ps k ends.is_open in
    let p : Phase = at.0 in
    let next : phases (g ++ EndPhase ∷ []) ≡ k + 1 = omega (arith, phases_push g EndPhase) in
    let whole : IsLegal (run_limits files l.scenario) (c.front ++ c.part) =
    subst (λ (h : List Entry). IsLegal (run_limits files l.scenario) h) c.splits (subst (λ (x : Limits). IsLegal x g) is.limits legal) in
    let lane_all : (lane : ℕ) → 1 ≤ lane → lane ≤ l.scenario.lanes → sent lane g ≡ lines_packets files l (k + 1) lane = λ lane least most.
    ends.lanes lane least most ∙ packets_are files l (k + 1) lane is least most in
    let lane_part : (lane : ℕ) → 1 ≤ lane → lane ≤ l.scenario.lanes → sent lane (own lane c.part) ≡ to_send files lane (items_in (take k ps)) p = λ lane least most.
    sent_own lane c.part
    ∙ behind_same (lines_packets files l k lane) (sent lane c.part) (to_send files lane (items_in (take k ps)) p) (sent lane g)
    (ap (λ (xs : List Sent). xs ++ sent lane c.part) (sym (c.lanes lane least most)) ∙ sym (flat_map-append (sent_in lane) c.front c.part) ∙ ap (sent lane) (sym c.splits))
    (lane_all lane least most ∙ packets_more files l k lane p at.1) in
    let daemon_part : (d : ℕ) → 1 ≤ d → d ≤ length l.scenario.daemons → has_machine l.scenario d ≡ false → asked d (own (16 + d) c.part) ≡ to_ask d p = λ d least most plain.
    asked_own d c.part
    ∙ behind_same (lines_to l k d) (asked d c.part) (to_ask d p) (asked d g)
    (ap (λ (xs : List Script). xs ++ asked d c.part) (sym (c.daemons d least most plain)) ∙ sym (flat_map-append (asked_in d) c.front c.part) ∙ ap (asked d) (sym c.splits))
    (ends.daemons d least most plain ∙ lines_more l k d p at.1) in
    let made : MadeSoFar files l.scenario (take k ps ++ p ∷ []) (c.front ++ c.part ++ EndPhase ∷ []) =
    joined files l.scenario (take k ps) p c.front c.part (λ n. own n c.part) is.fits whole c.made (λ n. own_append n c.front c.part)
    (record { no_end = c.no_end; lanes = lane_part; daemons = daemon_part }) in
    let now : MadeSoFar files l.scenario (take (k + 1) ps) (g ++ EndPhase ∷ []) =
    subst (λ (qs : List Phase). MadeSoFar files l.scenario qs (g ++ EndPhase ∷ [])) (sym (take_at ps k p at.1))
    (subst (λ (h : List Entry). MadeSoFar files l.scenario (take k ps ++ p ∷ []) (h ++ EndPhase ∷ [])) (sym c.splits) made) in
    record {
      front = g ++ EndPhase ∷ [];
      part = [];
      splits = sym (append-nil (g ++ EndPhase ∷ []));
      made = subst (λ (n : ℕ). MadeSoFar files l.scenario (take n ps) (g ++ EndPhase ∷ [])) (sym next) now;
      no_end = refl;
      lanes = λ lane least most. sent_push lane g EndPhase ∙ append-nil (sent lane g) ∙ lane_all lane least most ∙ ap (λ (n : ℕ). lines_packets files l n lane) (sym next);
      daemons = λ d least most plain. asked_push d g EndPhase ∙ append-nil (asked d g) ∙ ends.daemons d least most plain ∙ ap (λ (n : ℕ). lines_to l n d) (sym next);
      machines = λ d m has. subst (λ (n : ℕ). DrivesFrom d m [] (take n ps) (g ++ EndPhase ∷ [])) (sym next) (ends.machines d m has);
      over = λ less. refl;
    }

-- one entry more
cut_next : (files : Files) (l : Loaded) → IsLoaded files l → (g : List Entry) (e : Entry) → IsLegal l.limits g → FirstLine l g e → Cut files l g → Cut files l (g ++ e ∷ [])
cut_next files l is g (Call d r reply released) legal line c =
    kept files l g (Call d r reply released) (omega (arith, phases_push g (Call d r reply released))) (rw (daemon_author d.0) refl)
    (λ over. omega (arith, over, line.next.is_open)) c
cut_next files l is g (Tick d ms) legal line c =
    kept files l g (Tick d ms) (omega (arith, phases_push g (Tick d ms))) (rw (daemon_author d.0) refl)
    (λ over. omega (arith, over, line.next.is_open)) c
cut_next files l is g (Recv d message) legal line c =
    kept files l g (Recv d message) (omega (arith, phases_push g (Recv d message))) (rw (daemon_author d.0) refl)
    (λ over. omega (arith, over, line.next.is_open)) c
cut_next files l is g (Slow lane index look flow o) legal line c =
    kept files l g (Slow lane index look flow o) (omega (arith, phases_push g (Slow lane index look flow o))) (rw (lane_author lane line.next.lane_is.first) refl)
    (lane_open files l is g lane (Slow lane index look flow o) _ c line.next (slow_sends lane index look flow o) (omega arith)) c
cut_next files l is g (Settle lane records) legal line c =
    let many : length (sent_in lane.0 (Settle lane records)) ≡ length records = ap length (settle_sends lane records) ∙ length-map records _ in
    kept files l g (Settle lane records) (omega (arith, phases_push g (Settle lane records))) (rw (lane_author lane line.next.lane_is.first) refl)
    (lane_open files l is g lane (Settle lane records) (sent_in lane.0 (Settle lane records)) c line.next refl (omega (arith, many, line.size.0))) c
cut_next files l is g EndPhase legal line c = ended files l is g legal line.ends c

-- what is known of a history whose lines are right
pub record Sound (files : Files) (l : Loaded) (g : List Entry) : Type 0 where
  pub legal : IsLegal l.limits g
  pub cut : Cut files l g

pub all_sound : (files : Files) (l : Loaded) → IsLoaded files l → (g : List Entry) (first : ℕ) (h : List Entry) → ((n : ℕ) → EntriesRight l g first h n) → Sound files l g → Sound files l (g ++ h)
all_sound files l is g first [] right s = subst (Sound files l) (sym (append-nil g)) s
all_sound files l is g first (e ∷ h) right s =
    let one : AllRight l g first e = λ n. (right n).0 in
    let legal : IsLegal l.limits (g ++ e ∷ []) = legal_push l.limits g e s.legal (entry_agrees files l is g first e one) in
    let cut : Cut files l (g ++ e ∷ []) = cut_next files l is g e s.legal (first_right l g first e one) s.cut in
    subst (Sound files l) (append_assoc g (e ∷ []) h)
    (all_sound files l is (g ++ e ∷ []) (first + line_count e) h (λ n. (right n).1) (record { legal = legal; cut = cut }))

-- where all phases have ended nothing stands behind the last
pub made_all : (files : Files) (l : Loaded) → IsLoaded files l → (h : List Entry) → Cut files l h → phases h ≡ length l.scenario.phases → Made files l.scenario h
made_all files l is h c all =
    let whole : c.front ≡ h = sym (whole_front files l h c (omega (arith, all))) in
    let every : take (phases h) l.scenario.phases ≡ l.scenario.phases = take_over l.scenario.phases (phases h) (omega (arith, all)) in
    record {
      phases = subst (λ (x : List Entry). MadeSoFar files l.scenario l.scenario.phases x) whole (subst (λ (qs : List Phase). MadeSoFar files l.scenario qs c.front) every c.made);
      machines = λ d names kind.
          let first = machine_of files l.scenario names in
          subst (λ (x : List Entry). DrivesFrom d first [] l.scenario.phases x) whole
          (subst (λ (qs : List Phase). DrivesFrom d first [] qs c.front) every (c.machines d first (machine_is files l is d names kind)));
    }
