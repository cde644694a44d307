-- Which entry a packet meets (ipmr.c, ipmr_cache_find, ipmr_cache_find_any and ipmr_cache_find_any_parent).
use Rattle.std.specs.Prelude.{ℕ, ◌&&◌, ◌||◌, Bool, false, nat_lt, Option, Some, None, List, find}
use Rattle.mr_base.specs.declared.numbers.Addr.{Addr}
use Rattle.mr_base.specs.declared.route.Route.{Route}
use Rattle.mr_base.specs.declared.vif_record.VifRecord.{VifRecord}
use Rattle.mr_model.specs.declared.entry.Entry.{Entry}
use Rattle.mr_model.specs.declared.limits.Limits.{Limits}
use Rattle.mr_model.specs.State.{state}
use Rattle.mr_model.specs.VifList.{vif_on}
use Rattle.mr_model.specs.RouteList.{ttl_of, is_entry}

-- whether a route's threshold of vif i is below 255
abbrev pub reaches : Route → ℕ → Bool
reaches r i = nat_lt (ttl_of r i) 255

abbrev pub any_address : Addr
any_address = record { 0 = 0 }

-- the first (0.0.0.0, 0.0.0.0) entry that reaches vif i
abbrev pub proxy_in : List Route → ℕ → Option Route
proxy_in routes i = find (λ r. is_entry any_address any_address r && reaches r i) routes

abbrev pub reaches_if_any : Option Route → ℕ → Bool
reaches_if_any None i = false
reaches_if_any (Some r) i = reaches r i

-- whether the proxy entry of a route's parent reaches vif i
abbrev pub is_proxied : List Route → Route → ℕ → Bool
is_proxied routes r i = reaches_if_any (proxy_in routes r.parent) i

-- An entry serves vif i which it, or the proxy entry of its parent, reaches.
abbrev pub serves : List Route → Route → ℕ → Bool
serves routes r i = reaches r i || is_proxied routes r i

-- the first (0.0.0.0, G) entry that serves vif i
abbrev pub star_in : List Route → Addr → ℕ → Option Route
star_in routes dst i = find (λ r. is_entry any_address dst r && serves routes r i) routes

abbrev pub or_else : Option Route → Option Route → Option Route
or_else None second = second
or_else (Some r) second = Some r

-- where the packet's device has a vif: the group's entry, else the proxy entry
abbrev pub wildcard_in : List Route → Option ℕ → Addr → Option Route
wildcard_in routes None dst = None
wildcard_in routes (Some i) dst = or_else (star_in routes dst i) (proxy_in routes i)

-- The entry met: the first exact one, else the first wildcard that serves the vif of the device.
abbrev pub found_in : List VifRecord → List Route → ℕ → Addr → Addr → Option Route
found_in vifs routes dev src dst = or_else (find (is_entry src dst) routes) (wildcard_in routes (vif_on vifs dev) dst)

-- the same after a history
abbrev pub proxy : Limits → List Entry → ℕ → Option Route
proxy limits h i = proxy_in (state limits h).tables.routes i

abbrev pub found : Limits → List Entry → ℕ → Addr → Addr → Option Route
found limits h dev src dst = found_in (state limits h).tables.vifs (state limits h).tables.routes dev src dst
