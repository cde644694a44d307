-- What the tables say of a packet (ipmr.c, ip_mr_forward).
use Rattle.std.specs.Prelude.{ℕ, ◌/◌, ◌%◌, ◌^◌, ◌==◌, ◌&&◌, ◌||◌, Bool, true, false, not, nat_lt, if◌then◌else◌, Option, Some, None, List, fold, filter, bit_or}
use Rattle.mr_base.specs.declared.numbers.Addr.{Addr}
use Rattle.mr_base.specs.declared.numbers.Mask.{Mask}
use Rattle.mr_base.specs.declared.route.Route.{Route}
use Rattle.mr_base.specs.declared.vif_record.VifRecord.{VifRecord}
use Rattle.mr_model.specs.declared.entry.Entry.{Entry}
use Rattle.mr_model.specs.declared.limits.Limits.{Limits}
use Rattle.mr_model.specs.declared.verdict.Verdict.{Verdict}
use Rattle.mr_model.specs.declared.verdict.Verdict.TheVariants.{Forward, Register, Wrong, Miss, NoVif}
use Rattle.mr_model.specs.State.{state}
use Rattle.mr_model.specs.VifList.{vif_at, vif_on, has_vif, register_vif}
use Rattle.mr_model.specs.RouteList.{ttl_of, is_entry}
use Rattle.mr_model.specs.Found.{any_address, is_proxied, found_in}

-- whether vif i is in a mask
abbrev pub is_in : Mask → ℕ → Bool
is_in outs i = outs.0 / 2 ^ i % 2 == 1

abbrev pub is_vif : Option ℕ → ℕ → Bool
is_vif None i = false
is_vif (Some j) i = j == i

-- whether a route's parent is there and on this device
abbrev pub comes_by_parent : List VifRecord → Route → ℕ → Bool
comes_by_parent vifs r dev = is_on (vif_at vifs r.parent)
  where
    is_on : Option VifRecord → Bool
    is_on None = false
    is_on (Some v) = v.dev == dev

abbrev pub passes_proxied : List Route → Route → Option ℕ → Bool
passes_proxied routes r None = false
passes_proxied routes r (Some i) = r.src.0 == 0 && is_proxied routes r i

-- A packet passes by the parent's device; of an entry for any origin also on a vif that the parent's proxy entry reaches.
abbrev pub passes : List VifRecord → List Route → Route → ℕ → Bool
passes vifs routes r dev = passes_proxied routes r (vif_on vifs dev) || comes_by_parent vifs r dev

-- Whether a route sends on vif i what came in on vif v: the TTL exceeds the threshold. A (0.0.0.0, 0.0.0.0) entry sends
-- on its parent alone, and no entry for any origin sends back on v.
abbrev pub sends_on : Route → Option ℕ → ℕ → ℕ → Bool
sends_on r v ttl i =
    nat_lt (ttl_of r i) ttl
    && not (r.src.0 == 0 && is_vif v i)
    && (not (is_entry any_address any_address r) || r.parent == i)

-- the vifs that are there and on which the route sends
abbrev pub outs_of : List VifRecord → Route → ℕ → ℕ → Mask
outs_of vifs r dev ttl =
    record { 0 = fold (λ m v. bit_or m (2 ^ v.vif)) 0 (filter (λ v. sends_on r (vif_on vifs dev) ttl v.vif) vifs) }

-- the parent, where it is there
abbrev pub input_of : List VifRecord → Route → Option ℕ
input_of vifs r = if has_vif vifs r.parent then Some r.parent else None

abbrev pub has_register : List VifRecord → Mask → Bool
has_register vifs outs = holds (register_vif vifs)
  where
    holds : Option ℕ → Bool
    holds None = false
    holds (Some i) = is_in outs i

-- the verdict of one route
abbrev pub judge_in : List VifRecord → List Route → Route → ℕ → ℕ → Verdict
judge_in vifs routes r dev ttl =
    if passes vifs routes r dev
    then (if has_register vifs (outs_of vifs r dev ttl)
    then Register r.number (input_of vifs r) (outs_of vifs r dev ttl)
    else Forward r.number (input_of vifs r) (outs_of vifs r dev ttl))
    else Wrong r.number (vif_on vifs dev)

abbrev pub missed : Option ℕ → Verdict
missed None = NoVif
missed (Some i) = Miss i

abbrev pub judge_or_miss : List VifRecord → List Route → Option Route → ℕ → ℕ → Verdict
judge_or_miss vifs routes None dev ttl = missed (vif_on vifs dev)
judge_or_miss vifs routes (Some r) dev ttl = judge_in vifs routes r dev ttl

-- the verdict of the route that is met, or a miss
abbrev pub verdict_in : List VifRecord → List Route → ℕ → Addr → Addr → ℕ → Verdict
verdict_in vifs routes dev src dst ttl = judge_or_miss vifs routes (found_in vifs routes dev src dst) dev ttl

-- a verdict that is decided without the lock
abbrev pub is_plain : Verdict → Bool
is_plain (Forward entry input outs) = true
is_plain (Register entry input outs) = false
is_plain (Wrong entry vif) = false
is_plain (Miss vif) = false
is_plain NoVif = false

-- the same after a history
abbrev pub judge : Limits → List Entry → Route → ℕ → ℕ → Verdict
judge limits h r dev ttl = judge_in (state limits h).tables.vifs (state limits h).tables.routes r dev ttl

abbrev pub verdict : Limits → List Entry → ℕ → Addr → Addr → ℕ → Verdict
verdict limits h dev src dst ttl = verdict_in (state limits h).tables.vifs (state limits h).tables.routes dev src dst ttl
