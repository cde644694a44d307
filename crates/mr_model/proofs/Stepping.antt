-- What one step of the state does to each of its parts.
use Rattle.std.proofs.Common.{◌≡◌, ℕ, ◌+◌, Bool, List, [], ◌∷◌, ◌++◌, reverse, fold, flat_map, refl, ap, sym, ◌∙◌, append_assoc, append-nil, add-zero, Option, Some, None}
use Rattle.std.proofs.lemmas.List.{reverse-append}
use Rattle.mr_base.specs.declared.numbers.DaemonNo.{DaemonNo}
use Rattle.mr_base.specs.declared.route.Route.{Route}
use Rattle.mr_base.specs.declared.vif_record.VifRecord.{VifRecord}
use Rattle.mr_model.specs.declared.entry.Entry.{Entry}
use Rattle.mr_model.specs.declared.entry.Entry.TheVariants.{Call, Slow, Tick, Recv}
use Rattle.mr_model.specs.declared.entry.ReleasedId.{ReleasedId}
use Rattle.mr_model.specs.declared.limits.Limits.{Limits}
use Rattle.mr_model.specs.declared.outcome.Outcome.{Outcome}
use Rattle.mr_model.specs.declared.outcome.Outcome.TheVariants as outcome
use Rattle.mr_model.specs.declared.outcome.Report.TheVariants as report
use Rattle.mr_model.specs.declared.reply.Reply.TheVariants.{Good}
use Rattle.mr_model.specs.declared.request.MfcCtl.{MfcCtl}
use Rattle.mr_model.specs.declared.request.Request.{Request}
use Rattle.mr_model.specs.declared.request.Request.TheVariants.{Init, Finish, AddMfc, AddProxy, Pim, Assert}
use Rattle.mr_model.specs.Messages.{Attempt, attempts_by, told_by}
use Rattle.mr_model.specs.Now.{milliseconds}
use Rattle.mr_model.specs.Attempt.{attempted_by}
use Rattle.mr_model.specs.Owner.{owner_after}
use Rattle.mr_model.specs.Switches.{Switches, switches_after}
use Rattle.mr_model.specs.Tables.{Tables, vifs_after, changed_by}
use Rattle.mr_model.specs.Granting.{route_change, numbered}
use Rattle.mr_model.specs.State.{State, step, granted, after_released}

-- what the released packets of a call leave as it was
pub record Releases (s : State) (rs : List ReleasedId) (t : State) : Type 0 where
  pub count : t.count ≡ s.count
  pub owner : t.owner ≡ s.owner
  pub tables : t.tables ≡ s.tables
  pub waiting : t.waiting ≡ s.waiting
  pub now : t.now ≡ s.now
  pub attempts : t.attempts ≡ reverse (flat_map (λ x. attempts_by s.now x.outcome) rs) ++ s.attempts
  pub unread : t.unread ≡ s.unread ++ flat_map (λ x. told_by s.tables.vifs x.lane x.index x.outcome) rs

-- an outcome makes one attempt at most
pub one_attempt : (now : ℕ) (o : Outcome) → reverse (attempts_by now o) ≡ attempts_by now o
one_attempt now (outcome.Wrong entry vif report.Quiet) = refl
one_attempt now (outcome.Wrong entry vif report.Told) = refl
one_attempt now (outcome.Wrong entry vif report.Lost) = refl
one_attempt now o = refl

pub released_does : (s : State) (rs : List ReleasedId) → Releases s rs (fold after_released s rs)
released_does s [] = record {
  count = refl;
  owner = refl;
  tables = refl;
  waiting = refl;
  now = refl;
  attempts = refl;
  unread = sym (append-nil s.unread);
}
released_does s (r ∷ rs) =
    let more = released_does (after_released s r) rs in
    let tells = told_by s.tables.vifs r.lane r.index r.outcome in
    let tried = attempts_by s.now r.outcome in
    let others = flat_map (λ x. attempts_by s.now x.outcome) rs in
    let joined : reverse (tried ++ others) ++ s.attempts ≡ reverse others ++ (tried ++ s.attempts) =
    rw (reverse-append tried others, one_attempt s.now r.outcome, append_assoc (reverse others) tried s.attempts) refl in
    record {
      count = more.count;
      owner = more.owner;
      tables = more.tables;
      waiting = more.waiting;
      now = more.now;
      attempts = more.attempts ∙ sym joined;
      unread = more.unread ∙ append_assoc s.unread tells _;
    }

pub step_count : (limits : Limits) (s : State) (e : Entry) → (step limits s e).count ≡ s.count + 1
step_count limits s (Call d r Good released) =
    ap (λ n. n + 1) (released_does (granted limits s d r) released).count
step_count limits s (Recv d None) = refl
step_count limits s (Recv d (Some message)) = refl
step_count limits s (Slow lane index look flow outcome.Parked) = refl
step_count limits s e = refl

pub step_now : (limits : Limits) (s : State) (e : Entry) → (step limits s e).now ≡ s.now + milliseconds e
step_now limits s (Call d r Good released) =
    (released_does (granted limits s d r) released).now ∙ sym (add-zero s.now)
step_now limits s (Tick d ms) = refl
step_now limits s (Recv d None) = sym (add-zero s.now)
step_now limits s (Recv d (Some message)) = sym (add-zero s.now)
step_now limits s (Slow lane index look flow outcome.Parked) = sym (add-zero s.now)
step_now limits s e = sym (add-zero s.now)

granted_owner : (limits : Limits) (s : State) (d : DaemonNo) (r : Request) (released : List ReleasedId) → (granted limits s d r).owner ≡ owner_after s.owner (Call d r Good released)
granted_owner limits s d Init released = refl
granted_owner limits s d Finish released = refl
granted_owner limits s d r released = refl

pub step_owner : (limits : Limits) (s : State) (e : Entry) → (step limits s e).owner ≡ owner_after s.owner e
step_owner limits s (Call d r Good released) =
    (released_does (granted limits s d r) released).owner ∙ granted_owner limits s d r released
step_owner limits s (Call d Init reply released) = refl
step_owner limits s (Call d Finish reply released) = refl
step_owner limits s (Call d r reply released) = refl
step_owner limits s (Recv d None) = refl
step_owner limits s (Recv d (Some message)) = refl
step_owner limits s (Slow lane index look flow outcome.Parked) = refl
step_owner limits s e = refl

abbrev pub switches_in : Tables → Switches
switches_in t = record { pim = t.pim; asserts = t.asserts }

abbrev pub switches_of : State → Switches
switches_of s = switches_in s.tables

-- a change of an entry leaves the vifs and the switches
pub route_change_vifs : (vifs : List VifRecord) (n : ℕ) (fixed : Bool) (c : MfcCtl) (r : Option Route) → vifs_after vifs n (route_change vifs fixed c r) ≡ vifs
route_change_vifs vifs n fixed c None = refl
route_change_vifs vifs n fixed c (Some r) = refl

route_change_switches : (t : Tables) (n : ℕ) (fixed : Bool) (c : MfcCtl) (r : Option Route) → switches_in (changed_by t (numbered n (route_change t.vifs fixed c r))) ≡ switches_in t
route_change_switches t n fixed c None = refl
route_change_switches t n fixed c (Some r) = refl

granted_switches : (limits : Limits) (s : State) (d : DaemonNo) (r : Request) (released : List ReleasedId) → switches_of (granted limits s d r) ≡ switches_after (switches_of s) (Call d r Good released)
granted_switches limits s d (AddMfc c) released = route_change_switches s.tables (s.count + 1) _ c _
granted_switches limits s d (AddProxy c) released = route_change_switches s.tables (s.count + 1) _ c _
granted_switches limits s d (Pim n) released = refl
granted_switches limits s d (Assert n) released = refl
granted_switches limits s d r released = refl

pub step_switches : (limits : Limits) (s : State) (e : Entry) → switches_of (step limits s e) ≡ switches_after (switches_of s) e
step_switches limits s (Call d r Good released) =
    ap (λ (t : Tables). switches_in t) (released_does (granted limits s d r) released).tables
    ∙ granted_switches limits s d r released
step_switches limits s (Call d (Pim n) reply released) = refl
step_switches limits s (Call d (Assert n) reply released) = refl
step_switches limits s (Call d r reply released) = refl
step_switches limits s (Recv d None) = refl
step_switches limits s (Recv d (Some message)) = refl
step_switches limits s (Slow lane index look flow outcome.Parked) = refl
step_switches limits s e = refl

pub step_attempts : (limits : Limits) (s : State) (e : Entry) → (step limits s e).attempts ≡ reverse (attempted_by s.now e) ++ s.attempts
step_attempts limits s (Call d r Good released) = (released_does (granted limits s d r) released).attempts
step_attempts limits s (Recv d None) = refl
step_attempts limits s (Recv d (Some message)) = refl
step_attempts limits s (Slow lane index look flow outcome.Parked) = refl
step_attempts limits s (Slow lane index look flow o) = ap (λ (tried : List Attempt). tried ++ s.attempts) (sym (one_attempt s.now o))
step_attempts limits s e = refl
