-- The entries as a list of routes, newest first (ipmr.c, ipmr_mfc_add and ipmr_mfc_delete).
use Rattle.std.specs.Prelude.{ℕ, ◌+◌, ◌==◌, ◌&&◌, ◌||◌, Bool, true, not, nat_lt, nat_le, if◌then◌else◌, Option, Some, None, List, [], ◌∷◌, length, filter, slice_index_or}
use Rattle.std.specs.List.{list_any}
use Rattle.mr_base.specs.Heads.{is_multicast}
use Rattle.mr_base.specs.declared.errno.Errno.{Errno}
use Rattle.mr_base.specs.declared.errno.Errno.TheVariants.{NoEntry, Invalid, TooManyVifs, NoBuffers}
use Rattle.mr_base.specs.declared.numbers.Addr.{Addr}
use Rattle.mr_base.specs.declared.route.Route.{Route}
use Rattle.mr_base.specs.declared.vif_record.VifRecord.{VifRecord}
use Rattle.mr_model.specs.declared.request.MfcCtl.{MfcCtl}
use Rattle.mr_model.specs.Refusing.{refuse}
use Rattle.mr_model.specs.VifList.{has_vif, has_flag}

-- a route's threshold of a vif; a vif of 32 or more has 255, which no TTL exceeds
abbrev pub ttl_of : Route → ℕ → ℕ
ttl_of r i = slice_index_or r.ttls i 255

abbrev pub is_entry : Addr → Addr → Route → Bool
is_entry src dst r = r.src.0 == src.0 && r.dst.0 == dst.0

-- no parent asks for none
abbrev pub has_parent : Option ℕ → Route → Bool
has_parent None r = true
has_parent (Some parent) r = r.parent == parent

-- origin and group name an entry, and for the proxy calls the parent too (ipmr.c, ipmr_cache_find_parent)
abbrev pub is_named : Addr → Addr → Option ℕ → Route → Bool
is_named src dst parent r = is_entry src dst r && has_parent parent r

-- The threshold of vif i that is kept: what is asked, where the vif is there and that is 1 to 254 (ipmr.c, ipmr_update_thresholds).
abbrev pub threshold : List VifRecord → ℕ → ℕ → ℕ
threshold vifs i asked = if has_vif vifs i && nat_lt 0 asked && nat_lt asked 255 then asked else 255

-- the thresholds of the vifs from i on
abbrev pub thresholds_from : List VifRecord → ℕ → List ℕ → List ℕ
thresholds_from vifs i [] = []
thresholds_from vifs i (asked ∷ more) = threshold vifs i asked ∷ thresholds_from vifs (i + 1) more

-- 0.0.0.0 or in 224.0.0.0/4
abbrev pub is_group : ℕ → Bool
is_group a = a == 0 || is_multicast a

-- Why MRT_ADD_MFC is refused: an entry that is there may always change.
abbrev pub add_route_error : ℕ → List Route → MfcCtl → Option ℕ → Option Errno
add_route_error most routes c parent =
    refuse (nat_le 32 c.parent) TooManyVifs
    (if list_any (is_named c.src c.dst parent) routes then None
    else (refuse (not (is_group c.dst.0)) Invalid (refuse (nat_le most (length routes)) NoBuffers None)))

-- why MRT_DEL_MFC is refused
abbrev pub del_route_error : List Route → Addr → Addr → Option ℕ → Option Errno
del_route_error routes src dst parent = refuse (not (list_any (is_named src dst parent) routes)) NoEntry None

abbrev pub new_route : List VifRecord → MfcCtl → Bool → ℕ → Route
new_route vifs c fixed number = record {
  number = number;
  src = c.src;
  dst = c.dst;
  parent = c.parent;
  ttls = thresholds_from vifs 0 c.ttls;
  fixed = fixed;
}

-- An entry that is there keeps its number, and stays static once it is.
abbrev pub changed_route : List VifRecord → MfcCtl → Bool → Route → Route
changed_route vifs c fixed r = record r { parent = c.parent; ttls = thresholds_from vifs 0 c.ttls; fixed = r.fixed || fixed }

abbrev pub change_first : (Route → Bool) → (Route → Route) → List Route → List Route
change_first test change [] = []
change_first test change (r ∷ rs) = if test r then change r ∷ rs else r ∷ change_first test change rs

abbrev pub remove_first : (Route → Bool) → List Route → List Route
remove_first test [] = []
remove_first test (r ∷ rs) = if test r then rs else r ∷ remove_first test rs

-- An entry's number, that of the call which made it, names it: no two entries have one.
abbrev pub has_number : ℕ → Route → Bool
has_number n r = r.number == n

-- an entry that changes keeps its number, origin and group
abbrev pub changed_to : ℕ → List ℕ → Bool → Route → Route
changed_to parent ttls fixed r = record r { parent = parent; ttls = ttls; fixed = fixed }

-- the entries without the static ones, where `fixed`, and without the others, where `loose`
abbrev pub routes_left : Bool → Bool → List Route → List Route
routes_left loose fixed routes = filter (λ r. not (if r.fixed then fixed else loose)) routes

-- MRT_FLUSH: flag 1 (MRT_FLUSH_MFC) removes the entries that are not static, 2 (MRT_FLUSH_MFC_STATIC) those that are.
abbrev pub routes_kept : ℕ → List Route → List Route
routes_kept bits routes = routes_left (has_flag bits 1) (has_flag bits 2) routes
