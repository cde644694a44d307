-- What a call would come to, by what the live parts and the journal tell.
use Rattle.std.proofs.Common.{◌≡◌, ℕ, ◌+◌, ◌<◌, ◌≤◌, ◌==◌, ◌||◌, nat_le, is_some, Bool, true}
use Rattle.std.proofs.Common.{false, not, if◌then◌else◌, Option, Some, None, option_map, List, []}
use Rattle.std.proofs.Common.{◌∷◌, length, map, find, refl, sym, ap, ◌∙◌, subst, arith}
use Rattle.std.proofs.lemmas.Bool.{eqb-true}
use Rattle.std.proofs.lemmas.Grind.{common_steps}
use Rattle.std.specs.List.{list_any}
use Rattle.mr_base.specs.declared.errno.Errno.{Errno}
use Rattle.mr_base.specs.declared.errno.Errno.TheVariants.{Access, Invalid, NotAvailable}
use Rattle.mr_base.specs.declared.numbers.Addr.{Addr}
use Rattle.mr_base.specs.declared.numbers.DaemonNo.{DaemonNo}
use Rattle.mr_base.specs.declared.route.Route.{Route}
use Rattle.mr_base.specs.declared.vif_record.VifRecord.{VifRecord}
use Rattle.mr_model.specs.declared.change.What.{What}
use Rattle.mr_model.specs.declared.limits.Limits.{Limits}
use Rattle.mr_model.specs.declared.reply.Reply.{Reply}
use Rattle.mr_model.specs.declared.reply.Reply.TheVariants.{Refused, Sg, Vif}
use Rattle.mr_model.specs.declared.reply.RouteTotals.{RouteTotals}
use Rattle.mr_model.specs.declared.reply.VifTotals.{VifTotals}
use Rattle.mr_model.specs.declared.request.Request.{Request}
use Rattle.mr_model.specs.declared.request.Request.TheVariants.{Finish, AddVif, DelVif, AddMfc}
use Rattle.mr_model.specs.declared.request.Request.TheVariants.{DelMfc, AddProxy, DelProxy, Pim}
use Rattle.mr_model.specs.declared.request.Request.TheVariants.{Assert, Flush, VifCount, SgCount}
use Rattle.mr_model.specs.Answer.{error_of, value_of, refused_by_tables, vif_reply, route_reply}
use Rattle.mr_model.specs.Counts.{route_counts, vif_counts}
use Rattle.mr_model.specs.Granting.{sets_tables, what_of}
use Rattle.mr_model.specs.Refusing.{refuse}
use Rattle.mr_model.specs.RouteList.{has_number as is_numbered, is_entry, is_named}
use Rattle.mr_model.specs.State.{State, state, is_owner}
use Rattle.mr_model.specs.Tables.{Tables}
use Rattle.mr_model.specs.VifList.{vif_at, has_vif, max_vif}
use Rattle.mr_tables.proofs.Found.{any_found, named_entry}
use Rattle.mr_mfc.proofs.Falling.{number_there}
use Rattle.mr_history.specs.Journals.{JournalValue, has_number, number_at, numbered_vif}
use Rattle.mr_history.specs.Journals.{route_totals, vif_totals}
use Rattle.mr_kernel.specs.declared.live.Live.{Live}
use Rattle.mr_kernel.specs.declared.plan.Plan.TheVariants.{Answer}
use Rattle.mr_kernel.specs.Asking.{may_ask}
use Rattle.mr_kernel.specs.Holding.{CountsFor}
use Rattle.mr_kernel.specs.Plans.{plan, plan_by}
use Rattle.mr_kernel.specs.Standing.{StandsFor}
use Rattle.mr_kernel.specs.Values.{KernelValue}

-- who may ask, and then what the tables say
pub set_error : (limits : Limits) (s : State) (d : DaemonNo) (r : Request) → sets_tables r ≡ true
    → error_of limits s d r ≡ refuse (not (may_ask limits s d r)) Access
    (refused_by_tables limits s r)
set_error limits s d Finish sets = refl
set_error limits s d (AddVif c) sets = refl
set_error limits s d (DelVif i) sets = refl
set_error limits s d (AddMfc c) sets = refl
set_error limits s d (DelMfc k) sets = refl
set_error limits s d (AddProxy c) sets = refl
set_error limits s d (DelProxy k) sets = refl
set_error limits s d (Pim n) sets = refl
set_error limits s d (Assert n) sets = refl
set_error limits s d (Flush bits) sets = refl
set_error limits s d r sets = absurd cc

abbrev pub value_in : JournalValue → KernelValue
value_in j = record { limits = j.limits; history = j.entries }

pub set_refused : (j : JournalValue) (d : DaemonNo) (r : Request) → sets_tables r ≡ true
    → may_ask j.limits (state j.limits j.entries) d r ≡ false
    → Answer (Refused Access) ≡ plan (value_in j) d r
set_refused j d r sets may =
    let error = set_error j.limits (state j.limits j.entries) d r sets in
    rw (error, may) refl

pub set_granted : (j : JournalValue) (d : DaemonNo) (r : Request) → sets_tables r ≡ true
    → may_ask j.limits (state j.limits j.entries) d r ≡ true
    → plan_by (length j.entries + 1) (value_of j.entries (state j.limits j.entries) r)
    (refused_by_tables j.limits (state j.limits j.entries) r)
    (what_of j.limits.devices (state j.limits j.entries).tables
    (not (is_owner (state j.limits j.entries) d)) r)
    ≡ plan (value_in j) d r
set_granted j d r sets may =
    let error = set_error j.limits (state j.limits j.entries) d r sets in
    rw (error, may) refl

-- a vif is there where one with its index is found
vif_there : (vifs : List VifRecord) (i : ℕ) → has_vif vifs i ≡ is_some (vif_at vifs i)
vif_there [] i = refl
vif_there (v ∷ vs) i = grind (arith, common_steps, vif_there vs i)

pub vif_index : (vifs : List VifRecord) (i : ℕ) (v : VifRecord) → vif_at vifs i ≡ Some v
    → v.vif ≡ i
vif_index [] i v is = cc
vif_index (w ∷ vs) i v is = by (w.vif == i) refl is (vif_index vs i v)
  where
    by : (b : Bool) → (w.vif == i) ≡ b → (if b then Some w else vif_at vs i) ≡ Some v
        → (vif_at vs i ≡ Some v → v.vif ≡ i) → v.vif ≡ i
    by true so is more = let same : w ≡ v = cc in
        subst (λ (x : VifRecord). x.vif ≡ i) same (eqb-true w.vif i so)
    by false so is more = more is

record VifCounted (j : JournalValue) (t : Tables) (i : ℕ) (o : Option VifTotals) : Type 0 where
  pub there : is_some o ≡ has_vif t.vifs i
  pub counted : (totals : VifTotals) → o ≡ Some totals
      → Vif totals ≡ vif_reply j.entries (vif_at t.vifs i)

vif_counted : (j : JournalValue) (t : Tables) (i : ℕ) → CountsFor t j → i < 32
    → VifCounted j t i (vif_totals j i)
vif_counted j t i counts small = by (vif_at t.vifs i) refl
  where
    by : (o : Option VifRecord) → vif_at t.vifs i ≡ o → VifCounted j t i (vif_totals j i)
    by None so =
        let none : number_at j.vifs i ≡ None = counts.vifs i small
        ∙ ap (option_map (λ v. v.number)) so in
        let absent : has_vif t.vifs i ≡ false = vif_there t.vifs i
        ∙ ap (λ (x : Option VifRecord). is_some x) so in
        rw none (record { there = sym absent; counted = λ totals is. cc })
    by (Some v) so =
        let some : number_at j.vifs i ≡ Some v.number = counts.vifs i small
        ∙ ap (option_map (λ v. v.number)) so in
        let there : has_vif t.vifs i ≡ true = vif_there t.vifs i
        ∙ ap (λ (x : Option VifRecord). is_some x) so in
        let index = vif_index t.vifs i v so in
        rw some (record {
          there = sym there;
          counted = λ totals is.
              let given : vif_counts j.entries (numbered_vif i v.number) ≡ totals = cc in
              let same : vif_counts j.entries (numbered_vif v.vif v.number) ≡ totals =
              subst (λ n. vif_counts j.entries (numbered_vif n v.number) ≡ totals)
              (sym index) given in
              rw so (ap (λ (x : VifTotals). Vif x) (sym same));
        })

pub vif_absent : (j : JournalValue) (l : Live) (d : DaemonNo) (i : ℕ)
    → StandsFor j.limits (state j.limits j.entries) l → CountsFor l.tables.tables j
    → nat_le (max_vif l.tables.tables.vifs) i ≡ false → i < 32 → vif_totals j i ≡ None
    → Answer (Refused NotAvailable) ≡ plan (value_in j) d (VifCount i)
vif_absent j l d i st counts below small none =
    let c = vif_counted j l.tables.tables i counts small in
    let absent : has_vif l.tables.tables.vifs i ≡ false = sym c.there
    ∙ ap (λ (x : Option VifTotals). is_some x) none in
    rw (← st.tables, below, absent) refl

pub vif_present : (j : JournalValue) (l : Live) (d : DaemonNo) (i : ℕ) (totals : VifTotals)
    → StandsFor j.limits (state j.limits j.entries) l → CountsFor l.tables.tables j
    → nat_le (max_vif l.tables.tables.vifs) i ≡ false → i < 32 → vif_totals j i ≡ Some totals
    → Answer (Vif totals) ≡ plan (value_in j) d (VifCount i)
vif_present j l d i totals st counts below small some =
    let c = vif_counted j l.tables.tables i counts small in
    let there : has_vif l.tables.tables.vifs i ≡ true = sym c.there
    ∙ ap (λ (x : Option VifTotals). is_some x) some in
    rw (← st.tables, below, there, c.counted totals some) refl

numbers_there : (rs : List Route) (n : ℕ)
    → has_number (map (λ r. r.number) rs) n ≡ list_any (is_numbered n) rs
numbers_there [] n = refl
numbers_there (r ∷ rs) n = grind (arith, common_steps, numbers_there rs n)

pub sg_absent : (j : JournalValue) (l : Live) (d : DaemonNo) (src dst : Addr)
    → StandsFor j.limits (state j.limits j.entries) l
    → find (is_named src dst None) l.tables.tables.routes ≡ None
    → Answer (Refused NotAvailable) ≡ plan (value_in j) d (SgCount src dst)
sg_absent j l d src dst st none =
    let rs = l.tables.tables.routes in
    let gone : list_any (is_entry src dst) rs ≡ false =
    any_found (is_entry src dst) rs
    ∙ ap (λ (x : Option Route). is_some x) (sym (named_entry src dst rs) ∙ none) in
    rw (← st.tables, gone) refl

pub sg_counted : (j : JournalValue) (l : Live) (src dst : Addr) (r : Route)
    → CountsFor l.tables.tables j
    → find (is_named src dst None) l.tables.tables.routes ≡ Some r
    → route_totals j r.number ≡ Some (route_counts j.entries r.number)
sg_counted j l src dst r counts found =
    let rs = l.tables.tables.routes in
    let there : has_number j.routes r.number ≡ true =
    ap (λ (ns : List ℕ). has_number ns r.number) counts.routes ∙ numbers_there rs r.number
    ∙ number_there (is_named src dst None) rs r found in
    rw there refl

pub sg_present : (j : JournalValue) (l : Live) (d : DaemonNo) (src dst : Addr) (r : Route)
    → StandsFor j.limits (state j.limits j.entries) l → CountsFor l.tables.tables j
    → find (is_named src dst None) l.tables.tables.routes ≡ Some r
    → Answer (Sg (route_counts j.entries r.number)) ≡ plan (value_in j) d (SgCount src dst)
sg_present j l d src dst r st counts found =
    let rs = l.tables.tables.routes in
    let entry : find (is_entry src dst) rs ≡ Some r = sym (named_entry src dst rs) ∙ found in
    let there : list_any (is_entry src dst) rs ≡ true = any_found (is_entry src dst) rs
    ∙ ap (λ (x : Option Route). is_some x) entry in
    rw (← st.tables, there, entry) refl
