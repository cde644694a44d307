-- The answer to a control call (ipmr.c, ip_mroute_setsockopt, ip_mroute_getsockopt and ipmr_ioctl).
use Rattle.std.specs.Prelude.{ℕ, ◌+◌, ◌-◌, ◌==◌, ◌&&◌, ◌||◌, Bool, true, false, not, nat_lt, nat_le, is_some, if◌then◌else◌, Option, Some, None, List, [], ◌∷◌, find, slice_index_or}
use Rattle.std.specs.List.{list_any}
use Rattle.mr_base.specs.declared.errno.Errno.{Errno}
use Rattle.mr_base.specs.declared.errno.Errno.TheVariants.{Access, Invalid, NoOption, InUse, NotAvailable}
use Rattle.mr_base.specs.declared.numbers.DaemonNo.{DaemonNo}
use Rattle.mr_base.specs.declared.route.Route.{Route}
use Rattle.mr_base.specs.declared.vif_record.VifRecord.{VifRecord}
use Rattle.mr_model.specs.declared.entry.Entry.{Entry}
use Rattle.mr_model.specs.declared.entry.ReleasedId.{ReleasedId}
use Rattle.mr_model.specs.declared.limits.Limits.{Limits}
use Rattle.mr_model.specs.declared.reply.Reply.{Reply}
use Rattle.mr_model.specs.declared.reply.Reply.TheVariants.{Good, Value, Sg, Vif, Refused}
use Rattle.mr_model.specs.declared.request.MfcCtl.{MfcCtl}
use Rattle.mr_model.specs.declared.request.Request.{Request}
use Rattle.mr_model.specs.declared.request.Request.TheVariants.{Init, Finish, AddVif, DelVif, AddMfc, DelMfc, AddProxy, DelProxy, Pim, Assert, Flush, Unknown, BadLength, GetVersion, GetPim, GetAssert, VifCount, SgCount}
use Rattle.mr_model.specs.Refusing.{refuse}
use Rattle.mr_model.specs.VifList.{vif_at, has_vif, max_vif}
use Rattle.mr_model.specs.RouteList.{is_entry, new_route}
use Rattle.mr_model.specs.Granting.{tables_error}
use Rattle.mr_model.specs.WaitingList.{Waiter, Awaiting, awaiting_of}
use Rattle.mr_model.specs.State.{State, state, is_owner, is_there, granted, reported}
use Rattle.mr_model.specs.Outcome.{judged}
use Rattle.mr_model.specs.Counts.{route_counts, vif_counts}

abbrev pub is_admin : Limits → DaemonNo → Bool
is_admin limits d = nat_lt 0 d.0 && slice_index_or limits.admins (d.0 - 1) false

-- A request that sets something is for the owner and for admins alone; then come its further checks.
abbrev pub permitted : Limits → State → DaemonNo → Option Errno → Option Errno
permitted limits s d further = refuse (not (is_owner s d || is_admin limits d)) Access further

-- why the tables refuse it
abbrev pub refused_by_tables : Limits → State → Request → Option Errno
refused_by_tables limits s r = tables_error limits.entries limits.devices s.tables r

-- Why a request is refused, the checks in their order: access, the record's length, the option, the rules of each request.
-- MRT_INIT has no check of access, also with a record of wrong length; MRT_DONE is for the owner alone; and what only reads is for all.
abbrev pub error_of : Limits → State → DaemonNo → Request → Option Errno
error_of limits s d Init = refuse (is_some s.owner) InUse None
error_of limits s d Finish = refuse (not (is_owner s d)) Access None
error_of limits s d (AddVif c) = permitted limits s d (refused_by_tables limits s (AddVif c))
error_of limits s d (DelVif i) = permitted limits s d (refused_by_tables limits s (DelVif i))
error_of limits s d (AddMfc c) = permitted limits s d (refused_by_tables limits s (AddMfc c))
error_of limits s d (AddProxy c) = permitted limits s d (refused_by_tables limits s (AddProxy c))
error_of limits s d (DelMfc k) = permitted limits s d (refused_by_tables limits s (DelMfc k))
error_of limits s d (DelProxy k) = permitted limits s d (refused_by_tables limits s (DelProxy k))
error_of limits s d (Pim n) = permitted limits s d (refused_by_tables limits s (Pim n))
error_of limits s d (Assert n) = permitted limits s d (refused_by_tables limits s (Assert n))
error_of limits s d (Flush bits) = permitted limits s d (refused_by_tables limits s (Flush bits))
error_of limits s d (Unknown option) = permitted limits s d (Some NoOption)
error_of limits s d (BadLength option) = if option == 200 then Some Invalid else permitted limits s d (Some Invalid)
error_of limits s d (VifCount i) = refuse (nat_le (max_vif s.tables.vifs) i) Invalid (refuse (not (has_vif s.tables.vifs i)) NotAvailable None)
error_of limits s d (SgCount src dst) = refuse (not (list_any (is_entry src dst) s.tables.routes)) NotAvailable None
error_of limits s d _ = None

-- 1 for on, 0 for off
abbrev pub switch_value : Bool → ℕ
switch_value true = 1
switch_value false = 0

abbrev pub vif_reply : List Entry → Option VifRecord → Reply
vif_reply g (Some v) = Vif (vif_counts g v)
-- an absent vif was refused
vif_reply g None = Good

abbrev pub route_reply : List Entry → Option Route → Reply
route_reply g (Some r) = Sg (route_counts g r.number)
-- an absent entry was refused
route_reply g None = Good

-- What a request that is not refused answers: a setting one `Good`, a reading one its value. The version is 0x0305; of several
-- entries of one origin and group the first counts.
abbrev pub value_of : List Entry → State → Request → Reply
value_of g s GetVersion = Value 0x0305
value_of g s GetPim = Value (switch_value s.tables.pim)
value_of g s GetAssert = Value (switch_value s.tables.asserts)
value_of g s (VifCount i) = vif_reply g (vif_at s.tables.vifs i)
value_of g s (SgCount src dst) = route_reply g (find (is_entry src dst) s.tables.routes)
value_of g s _ = Good

abbrev pub or_refused : Option Errno → Reply → Reply
or_refused (Some errno) reply = Refused errno
or_refused None reply = reply

-- the reply in a state s, which is that after g
abbrev pub reply_in : Limits → List Entry → State → DaemonNo → Request → Reply
reply_in limits g s d request = or_refused (error_of limits s d request) (value_of g s request)

-- The waiting packets as a new route releases them, oldest first: each is judged by that route, and what it tells and attempts
-- stands before the next.
abbrev pub release : State → Route → List Waiter → List ReleasedId
release s r [] = []
release s r (w ∷ ws) =
    let o = judged s r w.flow.dev w.flow.ttl in
    record { lane = w.lane; index = w.index; outcome = o } ∷ release (reported s w.lane w.index o) r ws

abbrev pub packets_of : Option Awaiting → List Waiter
packets_of None = []
packets_of (Some a) = a.packets

-- the packets that a call frees: those of its origin and group, where it makes a new route
abbrev pub freed_by : State → MfcCtl → Option ℕ → List Waiter
freed_by s c parent = if is_there s c parent then [] else packets_of (awaiting_of s.waiting c.src c.dst)

abbrev pub made_route : State → DaemonNo → MfcCtl → Route
made_route s d c = new_route s.tables.vifs c (not (is_owner s d)) (s.count + 1)

-- the packets that a good request releases, on the tables after it
abbrev pub released_in : Limits → State → DaemonNo → Request → List ReleasedId
released_in limits s d (AddMfc c) = release (granted limits s d (AddMfc c)) (made_route s d c) (freed_by s c None)
released_in limits s d (AddProxy c) = release (granted limits s d (AddProxy c)) (made_route s d c) (freed_by s c (Some c.parent))
released_in limits s d _ = []

abbrev pub if_good : Option Errno → List ReleasedId → List ReleasedId
if_good None released = released
if_good (Some errno) released = []

-- a reply, and the packets that the call releases
pub record Answered : Type 0 where
  pub reply : Reply
  pub released : List ReleasedId

-- the answer to a daemon's request after a history
abbrev pub answer : Limits → List Entry → DaemonNo → Request → Answered
answer limits g d request =
    let s = state limits g in
    record {
      reply = reply_in limits g s d request;
      released = if_good (error_of limits s d request) (released_in limits s d request);
    }
