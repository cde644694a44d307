-- A call that changes no tables.
use Rattle.std.proofs.Common.{◌≡◌, ℕ, ◌+◌, ◌<◌, ◌≤◌, ◌⊎◌, inl, inr, Bool, true, false, not, Option}
use Rattle.std.proofs.Common.{Some, None, List, [], ◌∷◌, ◌++◌, length, map, fold, refl, sym, ap}
use Rattle.std.proofs.Common.{◌∙◌, subst, arith}
use Rattle.mr_base.specs.declared.errno.Errno.{Errno}
use Rattle.mr_base.specs.declared.numbers.DaemonNo.{DaemonNo}
use Rattle.mr_model.specs.declared.change.What.{What}
use Rattle.mr_model.specs.declared.entry.Entry.{Entry}
use Rattle.mr_model.specs.declared.entry.Entry.TheVariants.{Call}
use Rattle.mr_model.specs.declared.entry.ReleasedId.{ReleasedId}
use Rattle.mr_model.specs.declared.limits.Limits.{Limits}
use Rattle.mr_model.specs.declared.message.MessageId.{MessageId}
use Rattle.mr_model.specs.declared.reply.Reply.{Reply}
use Rattle.mr_model.specs.declared.reply.Reply.TheVariants.{Good, Value, Sg, Vif, Refused}
use Rattle.mr_model.specs.declared.request.Request.{Request}
use Rattle.mr_model.specs.declared.request.Request.TheVariants.{Init, Finish, AddVif, DelVif}
use Rattle.mr_model.specs.declared.request.Request.TheVariants.{AddMfc, DelMfc, AddProxy, DelProxy}
use Rattle.mr_model.specs.declared.request.Request.TheVariants.{Pim, Assert, Flush}
use Rattle.mr_model.specs.Answer.{answer, error_of, value_of, or_refused, if_good, released_in}
use Rattle.mr_model.specs.Fate.{fates}
use Rattle.mr_model.specs.Granting.{what_of}
use Rattle.mr_model.specs.Legal.{CallAgrees, IsDaemon, IsLegal}
use Rattle.mr_model.specs.Past.{controls}
use Rattle.mr_model.specs.State.{State, state, granted, called, is_owner, owner_by, unread_by}
use Rattle.mr_model.specs.State.{waiting_by}
use Rattle.mr_model.specs.Tables.{Tables}
use Rattle.mr_fates.specs.After.{drops_all}
use Rattle.mr_fates.specs.Lines.{FateList}
use Rattle.mr_fates.proofs.Giving.{fates_released, fates_same}
use Rattle.mr_history.specs.Journals.{JournalValue, with_entry}
use Rattle.mr_tables.specs.Values.{TablesValue}
use Rattle.mr_unres.specs.Entries.{WaitingEntries, awaiting}
use Rattle.mr_history.specs.Numbers.{NumberedValue}
use Rattle.mr_kernel.specs.declared.live.Live.{Live}
use Rattle.mr_kernel.specs.declared.plan.Plan.TheVariants as plans
use Rattle.mr_kernel.specs.Flows.{AreHeads}
use Rattle.mr_kernel.specs.Holding.{CountsFor, Holds}
use Rattle.mr_kernel.specs.Plans.{plan, plan_by}
use Rattle.mr_kernel.specs.Standing.{StandsFor, moments}
use Rattle.mr_kernel.proofs.Holds.{Grows, grown_holds, still_early, heads_stay}
use Rattle.mr_kernel.proofs.Planning.{value_in}

-- what a plan to answer says: it is refused, or changes nothing
pub record Answers (error : Option Errno) (w : Option What) (value reply : Reply)
    (rs : List ReleasedId) : Type 0 where
  pub is : reply ≡ or_refused error value
  pub none : if_good error rs ≡ []
  pub quiet : reply ≡ Good → (error ≡ None) × (w ≡ None)

pub plan_answers : (n : ℕ) (value reply : Reply) (error : Option Errno) (w : Option What)
    (rs : List ReleasedId) → (w ≡ None → rs ≡ []) → plan_by n value error w ≡ plans.Answer reply
    → Answers error w value reply rs
plan_answers n value reply (Some errno) w rs none is =
    let same : Refused errno ≡ reply = cc in
    record {
      is = sym same;
      none = refl;
      quiet = λ good. absurd (refused_good errno (same ∙ good));
    }
  where
    refused_good : (e : Errno) → Refused e ≡ Good → ⊥
    refused_good e p = cc
plan_answers n value reply None (Some w) rs none is = cc
plan_answers n value reply None None rs none is =
    let same : value ≡ reply = cc in
    record { is = sym same; none = none refl; quiet = λ good. (refl, refl) }

-- who changes nothing releases nothing, drops nothing and takes no packet
pub record Quiet (limits : Limits) (s : State) (d : DaemonNo) (r : Request) : Type 0 where
  pub released : released_in limits s d r ≡ []
  pub waiting : waiting_by s r ≡ s.waiting
  pub drops : drops_all r ≡ false

pub quiet_is : (limits : Limits) (s : State) (d : DaemonNo) (fixed : Bool) (r : Request)
    → what_of limits.devices s.tables fixed r ≡ None → Quiet limits s d r
quiet_is limits s d fixed Finish is = cc
quiet_is limits s d fixed (AddVif c) is = cc
quiet_is limits s d fixed (DelVif i) is = cc
quiet_is limits s d fixed (AddMfc c) is = cc
quiet_is limits s d fixed (DelMfc k) is = cc
quiet_is limits s d fixed (AddProxy c) is = cc
quiet_is limits s d fixed (DelProxy k) is = cc
quiet_is limits s d fixed (Pim n) is = cc
quiet_is limits s d fixed (Assert n) is = cc
quiet_is limits s d fixed (Flush bits) is = cc
quiet_is limits s d fixed r is = record { released = refl; waiting = refl; drops = refl }

-- what the live parts are after such a call that is answered good
pub owned_stands : (limits : Limits) (s : State) (d : DaemonNo) (r : Request) (old new : Live)
    → StandsFor limits s old
    → what_of limits.devices s.tables (not (is_owner s d)) r ≡ None
    → new.owner ≡ owner_by old.owner d r
    → map (λ u. u.id) new.unread ≡ unread_by (map (λ u. u.id) old.unread) r
    → new.tables ≡ old.tables → new.moment ≡ old.moment → new.waiting ≡ old.waiting
    → new.attempts ≡ old.attempts
    → StandsFor limits (granted limits s d r) new
owned_stands limits s d r old new st none owner unread tables moment waiting attempts =
    let same : (granted limits s d r).tables ≡ s.tables = rw none refl in
    let q = quiet_is limits s d (not (is_owner s d)) r none in
    record {
      owner = owner ∙ ap (λ (o : Option DaemonNo). owner_by o d r) st.owner;
      tables = ap (λ (v : TablesValue). v.tables) tables ∙ st.tables ∙ sym same;
      slots = ap (λ (v : TablesValue). v.slots) tables ∙ st.slots;
      devices = ap (λ (v : TablesValue). v.devices) tables ∙ st.devices;
      moment = moment ∙ st.moment;
      waiting = ap (λ (w : WaitingEntries). awaiting w.entries) waiting ∙ st.waiting
          ∙ sym q.waiting;
      limit = ap (λ (w : WaitingEntries). w.limit) waiting ∙ st.limit;
      unread = unread ∙ ap (λ (ms : List MessageId). unread_by ms r) st.unread;
      attempts = ap (λ (n : NumberedValue (Option ℕ)). n.items) attempts ∙ st.attempts
          ∙ ap (λ (t : Tables). moments s.attempts t.routes) (sym same);
      room = ap (λ (n : NumberedValue (Option ℕ)). n.room) attempts ∙ st.room;
    }

answer_of : (j : JournalValue) (d : DaemonNo) (r : Request) (reply : Reply)
    → plan (value_in j) d r ≡ plans.Answer reply
    → Answers (error_of j.limits (state j.limits j.entries) d r)
    (what_of j.limits.devices (state j.limits j.entries).tables
    (not (is_owner (state j.limits j.entries) d)) r)
    (value_of j.entries (state j.limits j.entries) r) reply
    (released_in j.limits (state j.limits j.entries) d r)
answer_of j d r reply is =
    let s = state j.limits j.entries in
    plan_answers (length j.entries + 1) (value_of j.entries s r) reply (error_of j.limits s d r)
    (what_of j.limits.devices s.tables (not (is_owner s d)) r)
    (released_in j.limits s d r) (λ none.
    (quiet_is j.limits s d (not (is_owner s d)) r none).released) is

pub answer_agrees : (j : JournalValue) (d : DaemonNo) (r : Request) (reply : Reply)
    → IsDaemon j.limits d → controls j.entries < j.limits.controls
    → plan (value_in j) d r ≡ plans.Answer reply → CallAgrees j.limits j.entries d r reply []
answer_agrees j d r reply daemon room is =
    let a = answer_of j d r reply is in
    record {
      control = record { daemon = daemon; room = room };
      replies = a.is;
      releases = sym a.none;
    }

-- any answer but good leaves the state as it is
called_other : (limits : Limits) (s : State) (d : DaemonNo) (r : Request) (reply : Reply)
    → (reply ≡ Good → ⊥) → called limits s d r reply [] ≡ s
called_other limits s d r Good other = absurd (other refl)
called_other limits s d r (Value n) other = refl
called_other limits s d r (Sg totals) other = refl
called_other limits s d r (Vif totals) other = refl
called_other limits s d r (Refused errno) other = refl

fates_other : (limits : Limits) (h : List Entry) (d : DaemonNo) (r : Request) (reply : Reply)
    → (reply ≡ Good → ⊥) → fates limits (h ++ Call d r reply [] ∷ []) ≡ fates limits h
fates_other limits h d r Good other = absurd (other refl)
fates_other limits h d r (Value n) other = fates_same limits h (Call d r (Value n) []) refl
fates_other limits h d r (Sg totals) other = fates_same limits h (Call d r (Sg totals) []) refl
fates_other limits h d r (Vif totals) other = fates_same limits h (Call d r (Vif totals) []) refl
fates_other limits h d r (Refused errno) other =
    fates_same limits h (Call d r (Refused errno) []) refl

pub other_holds : (j : JournalValue) (l : Live) (f : FateList) (d : DaemonNo) (r : Request)
    (reply : Reply) → IsDaemon j.limits d → controls j.entries < j.limits.controls
    → plan (value_in j) d r ≡ plans.Answer reply → (reply ≡ Good → ⊥) → Holds j l f
    → Holds (with_entry j (Call d r reply [])) l f
other_holds j l f d r reply daemon room is other h =
    let e = Call d r reply [] in
    let s = state j.limits j.entries in
    grown_holds j (with_entry j e) e l f l f h (record {
      agrees = answer_agrees j d r reply daemon room is;
      entries = refl;
      limits = refl;
      stands = subst (λ (t : State). StandsFor j.limits t l)
          (sym (called_other j.limits s d r reply other)) h.stands;
      early = still_early l.moment j.entries e h.early;
      heads = heads_stay j.entries (e ∷ []) l.unread h.heads;
      counts = record { routes = h.counts.routes; vifs = h.counts.vifs };
      fates = h.fates ∙ sym (fates_other j.limits j.entries d r reply other);
      lanes = h.lanes;
    })

pub good_holds : (j : JournalValue) (l new : Live) (f : FateList) (d : DaemonNo) (r : Request)
    → IsDaemon j.limits d → controls j.entries < j.limits.controls
    → plan (value_in j) d r ≡ plans.Answer Good
    → new.owner ≡ owner_by l.owner d r
    → map (λ u. u.id) new.unread ≡ unread_by (map (λ u. u.id) l.unread) r
    → ((h : List Entry) → AreHeads h l.unread → AreHeads h new.unread)
    → new.tables ≡ l.tables → new.moment ≡ l.moment → new.waiting ≡ l.waiting
    → new.attempts ≡ l.attempts
    → Holds j l f → Holds (with_entry j (Call d r Good [])) new f
good_holds j l new f d r daemon room is owner unread heads tables moment waiting attempts h =
    let e = Call d r Good [] in
    let s = state j.limits j.entries in
    let quiet = (answer_of j d r Good is).quiet refl in
    let q = quiet_is j.limits s d (not (is_owner s d)) r quiet.1 in
    let agrees = answer_agrees j d r Good daemon room is in
    grown_holds j (with_entry j e) e l f new f h (record {
      agrees = agrees;
      entries = refl;
      limits = refl;
      stands = owned_stands j.limits s d r l new h.stands quiet.1 owner unread tables moment
          waiting attempts;
      early = rw moment (still_early l.moment j.entries e h.early);
      heads = heads_stay j.entries (e ∷ []) new.unread (heads j.entries h.heads);
      counts = subst (λ (v : TablesValue). CountsFor v.tables (with_entry j e)) (sym tables)
          (record { routes = h.counts.routes; vifs = h.counts.vifs });
      fates = h.fates ∙ sym (fates_released j.limits j.entries d r [] h.legal agrees q.drops);
      lanes = h.lanes;
    })
