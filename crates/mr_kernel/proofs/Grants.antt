-- A good call by the change that it makes.
use Rattle.std.proofs.Common.{◌≡◌, ℕ, ◌+◌, ◌≤◌, ◌==◌, ◌||◌, is_some, Bool, true, false, not}
use Rattle.std.proofs.Common.{if◌then◌else◌, Option, Some, None, List, [], ◌∷◌, ◌++◌, length, map}
use Rattle.std.proofs.Common.{find, fold, refl, sym, ap, ◌∙◌, subst, arith}
use Rattle.std.specs.List.{list_any, AllByRecursion}
use Rattle.mr_base.specs.declared.device.Device.{Device}
use Rattle.mr_base.specs.declared.errno.Errno.{Errno}
use Rattle.mr_base.specs.declared.errno.Errno.TheVariants.{Access}
use Rattle.mr_base.specs.declared.numbers.Addr.{Addr}
use Rattle.mr_base.specs.declared.numbers.DaemonNo.{DaemonNo}
use Rattle.mr_base.specs.declared.route.Route.{Route}
use Rattle.mr_base.specs.declared.vif_record.VifRecord.{VifRecord}
use Rattle.mr_model.specs.declared.change.Change.{Change}
use Rattle.mr_model.specs.declared.change.What.{What}
use Rattle.mr_model.specs.declared.change.What.TheVariants as what
use Rattle.mr_model.specs.declared.ending.Fate.TheVariants.{Flushed}
use Rattle.mr_model.specs.declared.ending.FateLine.{FateLine}
use Rattle.mr_model.specs.declared.entry.Entry.{Entry}
use Rattle.mr_model.specs.declared.entry.Entry.TheVariants.{Call}
use Rattle.mr_model.specs.declared.entry.ReleasedId.{ReleasedId}
use Rattle.mr_model.specs.declared.limits.Limits.{Limits}
use Rattle.mr_model.specs.declared.message.MessageId.{MessageId}
use Rattle.mr_model.specs.declared.packet.Freed.{Freed}
use Rattle.mr_model.specs.declared.packet.Packet.{Packet}
use Rattle.mr_model.specs.declared.reply.Reply.{Reply}
use Rattle.mr_model.specs.declared.reply.Reply.TheVariants.{Good}
use Rattle.mr_model.specs.declared.request.MfcCtl.{MfcCtl}
use Rattle.mr_model.specs.declared.request.Request.{Request}
use Rattle.mr_model.specs.declared.request.Request.TheVariants.{Finish, AddVif, DelVif, AddMfc}
use Rattle.mr_model.specs.declared.request.Request.TheVariants.{DelMfc, AddProxy, DelProxy, Pim}
use Rattle.mr_model.specs.declared.request.Request.TheVariants.{Assert, Flush}
use Rattle.mr_model.specs.Answer.{error_of, value_of, refused_by_tables, packets_of, release}
use Rattle.mr_model.specs.Answer.{released_in, made_route}
use Rattle.mr_model.specs.Answer.{freed_by as freed_for}
use Rattle.mr_model.specs.Fate.{fates}
use Rattle.mr_model.specs.Granting.{sets_tables, tables_error, what_of, route_change, numbered}
use Rattle.mr_model.specs.Granting.{number_found, truth}
use Rattle.mr_model.specs.Legal.{CallAgrees, IsLegal}
use Rattle.mr_model.specs.Messages.{Attempt}
use Rattle.mr_model.specs.Refusing.{refuse}
use Rattle.mr_model.specs.RouteList.{is_named, has_number, thresholds_from}
use Rattle.mr_model.specs.State.{State, state, granted, is_owner, is_there, owner_by, unread_by}
use Rattle.mr_model.specs.State.{waiting_by}
use Rattle.mr_model.specs.Tables.{Tables, changed_by}
use Rattle.mr_model.specs.VifList.{has_flag}
use Rattle.mr_model.specs.Waiting.{waiting}
use Rattle.mr_model.specs.WaitingList.{Waiter, Awaiting, awaiting_of, is_awaiting}
use Rattle.mr_model.specs.WaitingList.{without_awaiting}
use Rattle.mr_model.proofs.Induction.{good_released}
use Rattle.mr_fates.specs.After.{ended_all, released_each, drops_all}
use Rattle.mr_fates.proofs.Giving.{fates_released, fates_flushed}
use Rattle.mr_tables.specs.Values.{TablesValue, applied}
use Rattle.mr_tables.proofs.Found.{any_found}
use Rattle.mr_unres.specs.Entries.{awaiting, waiter_of}
use Rattle.mr_kernel.specs.declared.live.Live.{Live}
use Rattle.mr_kernel.specs.declared.plan.Plan.{Plan}
use Rattle.mr_kernel.specs.declared.plan.Plan.TheVariants as plans
use Rattle.mr_kernel.specs.Asking.{may_ask}
use Rattle.mr_kernel.specs.Changing.{waiting_after, freed_by, lines_after, released_by, is_made}
use Rattle.mr_kernel.specs.Plans.{plan_by}
use Rattle.mr_kernel.specs.Standing.{StandsFor, moments}
use Rattle.mr_kernel.proofs.Known.{IsSlow, AreSlows}
use Rattle.mr_kernel.proofs.Planning.{set_error}

-- what a plan to change says
pub record Changes (n : ℕ) (error : Option Errno) (w : Option What) (c : Change) : Type 0 where
  pub free : error ≡ None
  pub makes : w ≡ Some c.what
  pub number : c.number ≡ n

pub plan_changes : (n : ℕ) (value : Reply) (error : Option Errno) (w : Option What) (c : Change)
    → plan_by n value error w ≡ plans.Tables c → Changes n error w c
plan_changes n value (Some errno) w c is = cc
plan_changes n value None (Some w) c is =
    let same : numbered n w ≡ c = cc in
    record {
      free = refl;
      makes = ap (λ (x : Change). Some x.what) same;
      number = ap (λ (x : Change). x.number) (sym same);
    }
plan_changes n value None None c is = cc

-- a request that changes something sets tables, and is answered good
pub makes_sets : (ds : List Device) (t : Tables) (fixed : Bool) (r : Request) (w : What)
    → what_of ds t fixed r ≡ Some w → sets_tables r ≡ true
makes_sets ds t fixed Finish w is = refl
makes_sets ds t fixed (AddVif c) w is = refl
makes_sets ds t fixed (DelVif i) w is = refl
makes_sets ds t fixed (AddMfc c) w is = refl
makes_sets ds t fixed (DelMfc k) w is = refl
makes_sets ds t fixed (AddProxy c) w is = refl
makes_sets ds t fixed (DelProxy k) w is = refl
makes_sets ds t fixed (Pim n) w is = refl
makes_sets ds t fixed (Assert n) w is = refl
makes_sets ds t fixed (Flush bits) w is = refl
makes_sets ds t fixed r w is = absurd cc

pub sets_good : (g : List Entry) (s : State) (r : Request) → sets_tables r ≡ true
    → value_of g s r ≡ Good
sets_good g s Finish is = refl
sets_good g s (AddVif c) is = refl
sets_good g s (DelVif i) is = refl
sets_good g s (AddMfc c) is = refl
sets_good g s (DelMfc k) is = refl
sets_good g s (AddProxy c) is = refl
sets_good g s (DelProxy k) is = refl
sets_good g s (Pim n) is = refl
sets_good g s (Assert n) is = refl
sets_good g s (Flush bits) is = refl
sets_good g s r is = absurd cc

refused_none : (may : Bool) (further : Option Errno) → refuse (not may) Access further ≡ None
    → further ≡ None
refused_none true further is = is
refused_none false further is = cc

-- the tables have no objection to a request that is not refused
pub free_tables : (limits : Limits) (s : State) (d : DaemonNo) (r : Request)
    → sets_tables r ≡ true → error_of limits s d r ≡ None → refused_by_tables limits s r ≡ None
free_tables limits s d r sets free =
    refused_none (may_ask limits s d r) (refused_by_tables limits s r)
    (sym (set_error limits s d r sets) ∙ free)

-- an entry that a call names is there, or a new one is made
is_made_new : (vifs : List VifRecord) (fixed : Bool) (c : MfcCtl) (w : What)
    → what.NewRoute c.src c.dst c.parent (thresholds_from vifs 0 c.ttls) fixed ≡ w
    → (ws : List Awaiting) → waiting_after w ws ≡ without_awaiting ws c.src c.dst
is_made_new vifs fixed c w is ws = ap (λ (x : What). waiting_after x ws) (sym is)

waiting_added : (s : State) (c : MfcCtl) (fixed : Bool) (parent : Option ℕ) (o : Option Route)
    (there : Bool) (w : What) → there ≡ is_some o
    → route_change s.tables.vifs fixed c o ≡ w
    → (if there then s.waiting else without_awaiting s.waiting c.src c.dst)
    ≡ waiting_after w s.waiting
waiting_added s c fixed parent None there w so is =
    rw so (ap (λ (x : What). waiting_after x s.waiting) is)
waiting_added s c fixed parent (Some r) there w so is =
    rw so (ap (λ (x : What). waiting_after x s.waiting) is)

some_made : (x w : What) → Some x ≡ Some w → x ≡ w
some_made x w is = cc

pub waiting_is : (ds : List Device) (s : State) (fixed : Bool) (r : Request) (w : What)
    → what_of ds s.tables fixed r ≡ Some w → waiting_by s r ≡ waiting_after w s.waiting
waiting_is ds s fixed Finish w is = ap (λ (x : What). waiting_after x s.waiting) (some_made _ w is)
waiting_is ds s fixed (AddVif c) w is =
    ap (λ (x : What). waiting_after x s.waiting) (some_made _ w is)
waiting_is ds s fixed (DelVif i) w is =
    ap (λ (x : What). waiting_after x s.waiting) (some_made _ w is)
waiting_is ds s fixed (AddMfc c) w is =
    waiting_added s c fixed None (find (is_named c.src c.dst None) s.tables.routes)
    (is_there s c None) w (any_found (is_named c.src c.dst None) s.tables.routes)
    (some_made _ w is)
waiting_is ds s fixed (AddProxy c) w is =
    waiting_added s c fixed (Some c.parent)
    (find (is_named c.src c.dst (Some c.parent)) s.tables.routes)
    (is_there s c (Some c.parent)) w
    (any_found (is_named c.src c.dst (Some c.parent)) s.tables.routes) (some_made _ w is)
waiting_is ds s fixed (DelMfc k) w is =
    ap (λ (x : What). waiting_after x s.waiting) (some_made _ w is)
waiting_is ds s fixed (DelProxy k) w is =
    ap (λ (x : What). waiting_after x s.waiting) (some_made _ w is)
waiting_is ds s fixed (Pim n) w is =
    ap (λ (x : What). waiting_after x s.waiting) (some_made _ w is)
waiting_is ds s fixed (Assert n) w is =
    ap (λ (x : What). waiting_after x s.waiting) (some_made _ w is)
waiting_is ds s fixed (Flush bits) w is =
    ap (λ (x : What). waiting_after x s.waiting) (some_made _ w is)
waiting_is ds s fixed r w is = absurd cc

-- what a good call releases, by its change
released_added : (g s : State) (d : DaemonNo) (c : MfcCtl) (o : Option Route) (there : Bool)
    (w : What) → there ≡ is_some o
    → route_change s.tables.vifs (not (is_owner s d)) c o ≡ w
    → release g (made_route s d c)
    (if there then [] else packets_of (awaiting_of s.waiting c.src c.dst))
    ≡ released_by g (s.count + 1) w (freed_by w s.waiting)
released_added g s d c None there w so is =
    rw so (ap (λ (x : What). released_by g (s.count + 1) x (freed_by x s.waiting)) is)
released_added g s d c (Some r) there w so is =
    rw so (ap (λ (x : What). released_by g (s.count + 1) x (freed_by x s.waiting)) is)

pub released_is : (limits : Limits) (s : State) (d : DaemonNo) (r : Request) (w : What)
    → what_of limits.devices s.tables (not (is_owner s d)) r ≡ Some w
    → released_in limits s d r ≡ released_by (granted limits s d r) (s.count + 1) w
    (freed_by w s.waiting)
released_is limits s d (AddMfc c) w is =
    released_added (granted limits s d (AddMfc c)) s d c
    (find (is_named c.src c.dst None) s.tables.routes) (is_there s c None) w
    (any_found (is_named c.src c.dst None) s.tables.routes) (some_made _ w is)
released_is limits s d (AddProxy c) w is =
    released_added (granted limits s d (AddProxy c)) s d c
    (find (is_named c.src c.dst (Some c.parent)) s.tables.routes)
    (is_there s c (Some c.parent)) w
    (any_found (is_named c.src c.dst (Some c.parent)) s.tables.routes) (some_made _ w is)
released_is limits s d Finish w is =
    ap (λ (x : What). released_by (granted limits s d Finish) (s.count + 1) x
    (freed_by x s.waiting)) (some_made _ w is)
released_is limits s d (AddVif c) w is =
    ap (λ (x : What). released_by (granted limits s d (AddVif c)) (s.count + 1) x
    (freed_by x s.waiting)) (some_made _ w is)
released_is limits s d (DelVif i) w is =
    ap (λ (x : What). released_by (granted limits s d (DelVif i)) (s.count + 1) x
    (freed_by x s.waiting)) (some_made _ w is)
released_is limits s d (DelMfc k) w is =
    ap (λ (x : What). released_by (granted limits s d (DelMfc k)) (s.count + 1) x
    (freed_by x s.waiting)) (some_made _ w is)
released_is limits s d (DelProxy k) w is =
    ap (λ (x : What). released_by (granted limits s d (DelProxy k)) (s.count + 1) x
    (freed_by x s.waiting)) (some_made _ w is)
released_is limits s d (Pim n) w is =
    ap (λ (x : What). released_by (granted limits s d (Pim n)) (s.count + 1) x
    (freed_by x s.waiting)) (some_made _ w is)
released_is limits s d (Assert n) w is =
    ap (λ (x : What). released_by (granted limits s d (Assert n)) (s.count + 1) x
    (freed_by x s.waiting)) (some_made _ w is)
released_is limits s d (Flush bits) w is =
    ap (λ (x : What). released_by (granted limits s d (Flush bits)) (s.count + 1) x
    (freed_by x s.waiting)) (some_made _ w is)
released_is limits s d r w is = absurd cc

-- the lines of fates behind a good call, by its change
lines_added : (n : ℕ) (vifs : List VifRecord) (fixed : Bool) (c : MfcCtl) (o : Option Route)
    (w : What) (ws : List Awaiting) (lines : List FateLine)
    → route_change vifs fixed c o ≡ w → lines_after n w ws lines ≡ lines
lines_added n vifs fixed c None w ws lines is =
    ap (λ (x : What). lines_after n x ws lines) (sym is)
lines_added n vifs fixed c (Some r) w ws lines is =
    ap (λ (x : What). lines_after n x ws lines) (sym is)

pub lines_is : (n : ℕ) (ds : List Device) (t : Tables) (fixed : Bool) (r : Request) (w : What)
    (ws : List Awaiting) (lines : List FateLine) → what_of ds t fixed r ≡ Some w
    → lines_after n w ws lines ≡ (if drops_all r then ended_all (Flushed n) ws lines else lines)
lines_is n ds t fixed Finish w ws lines is =
    ap (λ (x : What). lines_after n x ws lines) (sym (some_made _ w is))
lines_is n ds t fixed (AddVif c) w ws lines is =
    ap (λ (x : What). lines_after n x ws lines) (sym (some_made _ w is))
lines_is n ds t fixed (DelVif i) w ws lines is =
    ap (λ (x : What). lines_after n x ws lines) (sym (some_made _ w is))
lines_is n ds t fixed (AddMfc c) w ws lines is =
    lines_added n t.vifs fixed c (find (is_named c.src c.dst None) t.routes) w ws lines
    (some_made _ w is)
lines_is n ds t fixed (AddProxy c) w ws lines is =
    lines_added n t.vifs fixed c (find (is_named c.src c.dst (Some c.parent)) t.routes) w ws
    lines (some_made _ w is)
lines_is n ds t fixed (DelMfc k) w ws lines is =
    ap (λ (x : What). lines_after n x ws lines) (sym (some_made _ w is))
lines_is n ds t fixed (DelProxy k) w ws lines is =
    ap (λ (x : What). lines_after n x ws lines) (sym (some_made _ w is))
lines_is n ds t fixed (Pim b) w ws lines is =
    ap (λ (x : What). lines_after n x ws lines) (sym (some_made _ w is))
lines_is n ds t fixed (Assert b) w ws lines is =
    ap (λ (x : What). lines_after n x ws lines) (sym (some_made _ w is))
lines_is n ds t fixed (Flush bits) w ws lines is =
    ap (λ (x : What). lines_after n x ws lines) (sym (some_made _ w is))
lines_is n ds t fixed r w ws lines is = absurd cc

-- a call that drops all releases none
pub drops_none : (limits : Limits) (s : State) (d : DaemonNo) (r : Request) → drops_all r ≡ true
    → released_in limits s d r ≡ []
drops_none limits s d Finish drops = refl
drops_none limits s d (Flush bits) drops = refl
drops_none limits s d r drops = absurd cc

pub fates_changed : (limits : Limits) (h : List Entry) (d : DaemonNo) (r : Request) (w : What)
    (ids : List ReleasedId) → IsLegal limits h → CallAgrees limits h d r Good ids
    → what_of limits.devices (state limits h).tables (not (is_owner (state limits h) d)) r ≡ Some w
    → fates limits (h ++ Call d r Good ids ∷ [])
    ≡ released_each (length h + 1) ids
    (lines_after (length h + 1) w (waiting limits h) (fates limits h))
fates_changed limits h d r w ids legal a makes =
    rw (lines_is (length h + 1) limits.devices (state limits h).tables
    (not (is_owner (state limits h) d)) r w (waiting limits h) (fates limits h) makes)
    (by (drops_all r) refl)
  where
    by : (b : Bool) → drops_all r ≡ b
        → fates limits (h ++ Call d r Good ids ∷ [])
        ≡ released_each (length h + 1) ids
        (if b then ended_all (Flushed (length h + 1)) (waiting limits h) (fates limits h)
        else fates limits h)
    by true so =
        let none : ids ≡ [] = good_released limits h d r ids a
        ∙ drops_none limits (state limits h) d r so in
        fates_flushed limits h d r ids legal a so
        ∙ ap (λ (xs : List ReleasedId). released_each (length h + 1) xs
        (ended_all (Flushed (length h + 1)) (waiting limits h) (fates limits h))) (sym none)
    by false so = fates_released limits h d r ids legal a so

-- what the live parts are after a good call, before it releases
pub granted_stands : (limits : Limits) (s : State) (d : DaemonNo) (r : Request) (c : Change)
    (old new : Live) → StandsFor limits s old
    → what_of limits.devices s.tables (not (is_owner s d)) r ≡ Some c.what → c.number ≡ s.count + 1
    → new.tables ≡ applied old.tables c
    → new.owner ≡ owner_by old.owner d r
    → new.moment ≡ old.moment
    → awaiting new.waiting.entries ≡ waiting_after c.what (awaiting old.waiting.entries)
    → new.waiting.limit ≡ old.waiting.limit
    → map (λ u. u.id) new.unread ≡ unread_by (map (λ u. u.id) old.unread) r
    → new.attempts.items ≡ moments s.attempts new.tables.tables.routes
    → new.attempts.room ≡ old.attempts.room
    → StandsFor limits (granted limits s d r) new
granted_stands limits s d r c old new st makes number tables owner moment waiting limit unread
    attempts room =
    let made : new.tables.tables ≡ changed_by s.tables (numbered (s.count + 1) c.what) =
    ap (λ (v : TablesValue). v.tables) tables ∙ rw (st.tables, number) refl in
    let after : (granted limits s d r).tables
    ≡ changed_by s.tables (numbered (s.count + 1) c.what) = rw makes refl in
    record {
      owner = owner ∙ ap (λ (o : Option DaemonNo). owner_by o d r) st.owner;
      tables = made ∙ sym after;
      slots = ap (λ (v : TablesValue). v.slots) tables ∙ st.slots;
      devices = ap (λ (v : TablesValue). v.devices) tables ∙ st.devices;
      moment = moment ∙ st.moment;
      waiting = waiting ∙ ap (λ (ws : List Awaiting). waiting_after c.what ws) st.waiting
          ∙ sym (waiting_is limits.devices s (not (is_owner s d)) r c.what makes);
      limit = limit ∙ st.limit;
      unread = unread ∙ ap (λ (ms : List MessageId). unread_by ms r) st.unread;
      attempts = attempts ∙ ap (λ (t : Tables). moments s.attempts t.routes) (made ∙ sym after);
      room = room ∙ st.room;
    }

-- the packets that a new entry takes are known
slows_found : (h : List Entry) (src dst : Addr) (ws : List Awaiting) → AreSlows h ws
    → AllByRecursion (IsSlow h) (packets_of (find (is_awaiting src dst) ws))
slows_found h src dst [] all = tt
slows_found h src dst (a ∷ ws) all = by (is_awaiting src dst a) (slows_found h src dst ws all.1)
  where
    by : (b : Bool) → AllByRecursion (IsSlow h) (packets_of (find (is_awaiting src dst) ws))
        → AllByRecursion (IsSlow h) (packets_of
        (if b then Some a else find (is_awaiting src dst) ws))
    by true more = all.0
    by false more = more

pub slows_freed : (h : List Entry) (w : What) (ws : List Awaiting) → AreSlows h ws
    → AllByRecursion (IsSlow h) (freed_by w ws)
slows_freed h (what.NewRoute src dst parent ttls fixed) ws all = slows_found h src dst ws all
slows_freed h (what.AddVif vif dev register fixed) ws all = tt
slows_freed h (what.DelVif i) ws all = tt
slows_freed h (what.OldRoute target parent ttls fixed) ws all = tt
slows_freed h (what.DropRoute target) ws all = tt
slows_freed h (what.Flush bits) ws all = tt
slows_freed h (what.Pim on) ws all = tt
slows_freed h (what.Assert on) ws all = tt
