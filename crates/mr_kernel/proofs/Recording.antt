-- What the records of a settle that agrees name: looks, entries and devices that there are.
use Rattle.std.proofs.Common.{◌≡◌, ℕ, ◌+◌, ◌<◌, ◌≤◌, ◌==◌, ◌||◌, ◌&&◌, nat_lt, nat_le, max, Bool}
use Rattle.std.proofs.Common.{true, false, not, if◌then◌else◌, Option, Some, None, unwrap_or}
use Rattle.std.proofs.Common.{option_map, option_to_list, List, [], ◌∷◌, ◌++◌, length, take, find}
use Rattle.std.proofs.Common.{filter, fold, refl, sym, ap, ◌∙◌, subst, arith, length-take}
use Rattle.std.proofs.lemmas.Bool.{eqb-true, leb-true}
use Rattle.std.specs.List.{AllByRecursion}
use Rattle.mr_base.specs.declared.device.Device.{Device}
use Rattle.mr_base.specs.declared.numbers.DaemonNo.{DaemonNo}
use Rattle.mr_base.specs.declared.numbers.LaneNo.{LaneNo}
use Rattle.mr_base.specs.declared.numbers.Mask.{Mask}
use Rattle.mr_base.specs.declared.route.Route.{Route}
use Rattle.mr_base.specs.declared.vif_record.VifRecord.{VifRecord}
use Rattle.mr_model.specs.declared.change.Change.{Change}
use Rattle.mr_model.specs.declared.change.What.{What}
use Rattle.mr_model.specs.declared.change.What.TheVariants as what
use Rattle.mr_model.specs.declared.entry.Entry.{Entry}
use Rattle.mr_model.specs.declared.entry.Entry.TheVariants.{Call}
use Rattle.mr_model.specs.declared.entry.FastRecord.{FastRecord}
use Rattle.mr_model.specs.declared.flow.Flow.{Flow}
use Rattle.mr_model.specs.declared.limits.Limits.{Limits}
use Rattle.mr_model.specs.declared.reply.Reply.TheVariants.{Good}
use Rattle.mr_model.specs.declared.request.Request.{Request}
use Rattle.mr_model.specs.declared.request.Request.TheVariants.{Finish, AddVif, DelVif, AddMfc}
use Rattle.mr_model.specs.declared.request.Request.TheVariants.{DelMfc, AddProxy, DelProxy, Pim}
use Rattle.mr_model.specs.declared.request.Request.TheVariants.{Assert, Flush}
use Rattle.mr_model.specs.declared.request.VifCtl.{VifCtl}
use Rattle.mr_model.specs.declared.verdict.Verdict.{Verdict}
use Rattle.mr_model.specs.declared.verdict.Verdict.TheVariants.{Forward, Register, Wrong}
use Rattle.mr_model.specs.Changes.{change_by}
use Rattle.mr_model.specs.Found.{found_in, is_proxied}
use Rattle.mr_model.specs.Granting.{what_of, route_change, number_found, numbered, truth}
use Rattle.mr_model.specs.Legal.{RecordsAgree, SettleAgrees, least_look}
use Rattle.mr_model.specs.Past.{last_index}
use Rattle.mr_model.specs.RouteList.{is_named}
use Rattle.mr_model.specs.State.{State, state, step, first_state, is_owner}
use Rattle.mr_model.specs.Tables.{Tables, vifs_after, changed_by}
use Rattle.mr_model.specs.Verdict.{passes, passes_proxied, comes_by_parent, has_register, outs_of}
use Rattle.mr_model.specs.Verdict.{input_of, missed, judge_or_miss, verdict}
use Rattle.mr_model.specs.VifList.{vif_on, vif_at, higher, device_from, device_meant, vif_device}
use Rattle.mr_model.specs.VifList.{has_flag}
use Rattle.mr_model.proofs.Changing.{routes_fall, step_tables}
use Rattle.mr_model.proofs.Stepping.{route_change_vifs}
use Rattle.mr_laws.proofs.Shaping.{all_filter, all_push}
use Rattle.mr_kernel.proofs.Naming.{found_number}

pub records_looks : (limits : Limits) (g : List Entry) (index least : ℕ) (rs : List FastRecord)
    → RecordsAgree limits g index least rs → AllByRecursion (λ r. r.look ≤ length g) rs
records_looks limits g index least [] a = tt
records_looks limits g index least (r ∷ rs) a = (a.1, records_looks limits g r.index r.look rs a.4)

-- a plain forward names an entry that is there, which let the packet pass
plain_by : (n : ℕ) (p q : Bool) (input vif input' : Option ℕ) (outs outs' : Mask) (entry : ℕ)
    → (if p then (if q then Register n input outs else Forward n input outs) else Wrong n vif)
    ≡ Forward entry input' outs' → (p ≡ true) × (n ≡ entry)
plain_by n true true input vif input' outs outs' entry is = cc
plain_by n true false input vif input' outs outs' entry is = (refl, cc)
plain_by n false q input vif input' outs outs' entry is = cc

plain_missed : (o : Option ℕ) (entry : ℕ) (input : Option ℕ) (outs : Mask)
    → missed o ≡ Forward entry input outs → ⊥
plain_missed None entry input outs is = cc
plain_missed (Some i) entry input outs is = cc

record Plain (vifs : List VifRecord) (routes : List Route) (o : Option Route)
    (dev entry : ℕ) : Type 0 where
  route : Route
  met : o ≡ Some route
  number : route.number ≡ entry
  passed : passes vifs routes route dev ≡ true

plain_met : (vifs : List VifRecord) (routes : List Route) (o : Option Route) (dev ttl entry : ℕ)
    (input : Option ℕ) (outs : Mask)
    → judge_or_miss vifs routes o dev ttl ≡ Forward entry input outs
    → Plain vifs routes o dev entry
plain_met vifs routes None dev ttl entry input outs is =
    absurd (plain_missed (vif_on vifs dev) entry input outs is)
plain_met vifs routes (Some r) dev ttl entry input outs is =
    let by = plain_by r.number (passes vifs routes r dev)
    (has_register vifs (outs_of vifs r dev ttl)) (input_of vifs r) (vif_on vifs dev) input
    (outs_of vifs r dev ttl) outs entry is in
    record { route = r; met = refl; number = by.1; passed = by.0 }

forward_plain : (limits : Limits) (k : List Entry) (r : FastRecord)
    → verdict limits k r.flow.dev r.flow.src r.flow.dst r.flow.ttl ≡ Forward r.entry r.input r.outs
    → Plain (state limits k).tables.vifs (state limits k).tables.routes
    (found_in (state limits k).tables.vifs
    (state limits k).tables.routes r.flow.dev r.flow.src r.flow.dst) r.flow.dev r.entry
forward_plain limits k r is =
    let t = (state limits k).tables in
    plain_met t.vifs t.routes (found_in t.vifs t.routes r.flow.dev r.flow.src r.flow.dst)
    r.flow.dev r.flow.ttl r.entry r.input r.outs is

forward_named : (limits : Limits) (k : List Entry) (r : FastRecord)
    → verdict limits k r.flow.dev r.flow.src r.flow.dst r.flow.ttl
    ≡ Forward r.entry r.input r.outs → r.entry ≤ length k
forward_named limits k r is =
    let t = (state limits k).tables in
    let p = forward_plain limits k r is in
    let below = found_number (length k + 1) t.vifs t.routes r.flow.dev r.flow.src r.flow.dst
    (routes_fall limits k) p.route p.met in
    omega (arith, below, p.number)

pub records_named : (limits : Limits) (g : List Entry) (index least : ℕ) (rs : List FastRecord)
    → RecordsAgree limits g index least rs → AllByRecursion (λ r. r.entry ≤ length g) rs
records_named limits g index least [] a = tt
records_named limits g index least (r ∷ rs) a =
    let named : r.entry ≤ length (take r.look g) = forward_named limits (take r.look g) r a.3 in
    let short : length (take r.look g) ≤ length g = rw (length-take r.look g) (omega arith) in
    (omega (arith, named, short), records_named limits g r.index r.look rs a.4)

-- every vif is on a device that there is
abbrev pub OnDevices : ℕ → List VifRecord → Type 0
OnDevices n vifs = AllByRecursion (λ v. v.dev ≤ n) vifs

on_device : (n : ℕ) (vifs : List VifRecord) (dev i : ℕ) → OnDevices n vifs
    → vif_on vifs dev ≡ Some i → dev ≤ n
on_device n [] dev i all is = cc
on_device n (v ∷ vs) dev i all is = by (v.dev == dev) refl is (on_device n vs dev i all.1)
  where
    by : (b : Bool) → (v.dev == dev) ≡ b
        → (if b then higher v.vif (vif_on vs dev) else vif_on vs dev) ≡ Some i
        → (vif_on vs dev ≡ Some i → dev ≤ n) → dev ≤ n
    by true so is more = let same = eqb-true v.dev dev so in omega (arith, same, all.0)
    by false so is more = more is

found_device : (n : ℕ) (test : VifRecord → Bool) (vifs : List VifRecord) (v : VifRecord)
    → OnDevices n vifs → find test vifs ≡ Some v → v.dev ≤ n
found_device n test [] v all is = cc
found_device n test (w ∷ vs) v all is = by (test w) is (found_device n test vs v all.1)
  where
    by : (b : Bool) → (if b then Some w else find test vs) ≡ Some v
        → (find test vs ≡ Some v → v.dev ≤ n) → v.dev ≤ n
    by true is more = let same : w ≡ v = cc in subst (λ (x : VifRecord). x.dev ≤ n) same all.0
    by false is more = more is

passed_device : (n : ℕ) (vifs : List VifRecord) (routes : List Route) (r : Route) (dev : ℕ)
    → OnDevices n vifs → passes vifs routes r dev ≡ true → dev ≤ n
passed_device n vifs routes r dev all passed = by (vif_on vifs dev) refl passed
  where
    parent : (o : Option VifRecord) → vif_at vifs r.parent ≡ o
        → (elim o as (λ x. Bool) [ None ↦ false | Some v ↦ v.dev == dev ]) ≡ true → dev ≤ n
    parent None so is = cc
    parent (Some v) so is =
        let within = found_device n (λ v. v.vif == r.parent) vifs v all so in
        let same = eqb-true v.dev dev is in
        omega (arith, within, same)

    by : (o : Option ℕ) → vif_on vifs dev ≡ o
        → (passes_proxied routes r o || comes_by_parent vifs r dev) ≡ true → dev ≤ n
    by None so is = parent (vif_at vifs r.parent) refl is
    by (Some i) so is = on_device n vifs dev i all so

-- the devices that calls can mean are those that there are
device_within : (n : ℕ) (ds : List Device) (addr m : ℕ) → device_from n ds addr ≡ Some m
    → m < n + length ds
device_within n [] addr m is = cc
device_within n (d ∷ ds) addr m is = by (d.addr.0 == addr) is (device_within (n + 1) ds addr m)
  where
    by : (b : Bool) → (if b then Some n else device_from (n + 1) ds addr) ≡ Some m
        → (device_from (n + 1) ds addr ≡ Some m → m < n + 1 + length ds) → m < n + length (d ∷ ds)
    by true is more = let same : n ≡ m = cc in omega (arith, same)
    by false is more = let within = more is in omega (arith, within)

meant_within : (ds : List Device) (c : VifCtl) (o : Option ℕ) → device_meant ds c ≡ o
    → unwrap_or o 0 ≤ length ds
meant_within ds c None is = omega arith
meant_within ds c (Some m) is = by (c.flags == 8) is
  where
    local : (p q : Bool) → q ≡ nat_le c.local (length ds)
        → (if p && q then Some c.local else None) ≡ Some m → m ≤ length ds
    local true true so is = let same : c.local ≡ m = cc in
        let le = leb-true c.local (length ds) (sym so) in omega (arith, same, le)
    local true false so is = cc
    local false q so is = cc

    by : (b : Bool) → (if b then (if nat_lt 0 c.local && nat_le c.local (length ds)
        then Some c.local else None) else device_from 1 ds c.local) ≡ Some m → m ≤ length ds
    by true is = local (nat_lt 0 c.local) (nat_le c.local (length ds)) refl is
    by false is = let within = device_within 1 ds c.local m is in omega (arith, within)

vif_within : (ds : List Device) (c : VifCtl) → vif_device ds c ≤ length ds
vif_within ds c = by (c.flags == 4)
  where
    by : (b : Bool) → (if b then 0 else unwrap_or (device_meant ds c) 0) ≤ length ds
    by true = omega arith
    by false = meant_within ds c (device_meant ds c) refl

what_within : (n number : ℕ) (ds : List Device) (t : Tables) (fixed : Bool) (r : Request)
    (w : What) → length ds ≤ n → what_of ds t fixed r ≡ Some w
    → OnDevices n t.vifs → OnDevices n (vifs_after t.vifs number w)
what_within n number ds t fixed (AddVif c) w few is all =
    let same : what.AddVif c.vif (vif_device ds c) (c.flags == 4) fixed ≡ w = cc in
    subst (λ (x : What). OnDevices n (vifs_after t.vifs number x)) same
    (let within = vif_within ds c in
    all_push (λ v. v.dev ≤ n) t.vifs
    (record {
      vif = c.vif;
      dev = vif_device ds c;
      register = c.flags == 4;
      fixed = fixed;
      number = number;
    }) all (omega (arith, within, few)))
what_within n number ds t fixed (DelVif i) w few is all =
    let same : what.DelVif i ≡ w = cc in
    subst (λ (x : What). OnDevices n (vifs_after t.vifs number x)) same
    (all_filter (λ v. v.dev ≤ n) (λ v. not (v.vif == i)) t.vifs all)
what_within n number ds t fixed Finish w few is all =
    let same : what.Flush 5 ≡ w = cc in
    subst (λ (x : What). OnDevices n (vifs_after t.vifs number x)) same
    (all_filter (λ v. v.dev ≤ n) (λ v. not (if v.fixed then has_flag 5 8 else has_flag 5 4))
    t.vifs all)
what_within n number ds t fixed (Flush bits) w few is all =
    let same : what.Flush bits ≡ w = cc in
    subst (λ (x : What). OnDevices n (vifs_after t.vifs number x)) same
    (all_filter (λ v. v.dev ≤ n) (λ v. not
    (if v.fixed then has_flag bits 8 else has_flag bits 4)) t.vifs all)
what_within n number ds t fixed (AddMfc c) w few is all =
    let same : route_change t.vifs fixed c (find (is_named c.src c.dst None) t.routes) ≡ w = cc in
    subst (λ (x : What). OnDevices n (vifs_after t.vifs number x)) same
    (rw (route_change_vifs t.vifs number fixed c (find (is_named c.src c.dst None) t.routes))
    all)
what_within n number ds t fixed (AddProxy c) w few is all =
    let same : route_change t.vifs fixed c (find (is_named c.src c.dst (Some c.parent)) t.routes)
    ≡ w = cc in
    subst (λ (x : What). OnDevices n (vifs_after t.vifs number x)) same
    (rw (route_change_vifs t.vifs number fixed c
    (find (is_named c.src c.dst (Some c.parent)) t.routes)) all)
what_within n number ds t fixed (DelMfc k) w few is all =
    let same : what.DropRoute (number_found (find (is_named k.src k.dst None) t.routes)) ≡ w =
    cc in
    subst (λ (x : What). OnDevices n (vifs_after t.vifs number x)) same all
what_within n number ds t fixed (DelProxy k) w few is all =
    let same : what.DropRoute (number_found
    (find (is_named k.src k.dst (Some k.parent)) t.routes)) ≡ w = cc in
    subst (λ (x : What). OnDevices n (vifs_after t.vifs number x)) same all
what_within n number ds t fixed (Pim b) w few is all =
    let same : what.Pim (truth b) ≡ w = cc in
    subst (λ (x : What). OnDevices n (vifs_after t.vifs number x)) same all
what_within n number ds t fixed (Assert b) w few is all =
    let same : what.Assert (truth b) ≡ w = cc in
    subst (λ (x : What). OnDevices n (vifs_after t.vifs number x)) same all
what_within n number ds t fixed r w few is all = absurd cc

changed_within : (n number : ℕ) (ds : List Device) (t : Tables) (fixed : Bool) (r : Request)
    (o : Option What) → length ds ≤ n → what_of ds t fixed r ≡ o
    → OnDevices n t.vifs → OnDevices n
    (fold changed_by t (option_to_list (option_map (numbered number) o))).vifs
changed_within n number ds t fixed r None few is all = all
changed_within n number ds t fixed r (Some w) few is all =
    what_within n number ds t fixed r w few is all

step_within : (limits : Limits) (s : State) (e : Entry)
    → OnDevices (length limits.devices) s.tables.vifs
    → OnDevices (length limits.devices) (step limits s e).tables.vifs
step_within limits s (Call d r Good released) all =
    subst (λ (t : Tables). OnDevices (length limits.devices) t.vifs)
    (sym (step_tables limits s (Call d r Good released)))
    (changed_within (length limits.devices) (s.count + 1) limits.devices s.tables
    (not (is_owner s d)) r (what_of limits.devices s.tables (not (is_owner s d)) r)
    (omega arith) refl all)
step_within limits s e all = subst (λ (t : Tables). OnDevices (length limits.devices) t.vifs)
    (sym (step_tables limits s e)) all

from_within : (limits : Limits) (s : State) (h : List Entry)
    → OnDevices (length limits.devices) s.tables.vifs
    → OnDevices (length limits.devices) (fold (step limits) s h).tables.vifs
from_within limits s [] all = all
from_within limits s (e ∷ h) all =
    from_within limits (step limits s e) h (step_within limits s e all)

vifs_within : (limits : Limits) (h : List Entry)
    → OnDevices (length limits.devices) (state limits h).tables.vifs
vifs_within limits h = from_within limits first_state h tt

pub records_devices : (limits : Limits) (g : List Entry) (index least : ℕ) (rs : List FastRecord)
    → length limits.devices ≤ 64 → RecordsAgree limits g index least rs
    → AllByRecursion (λ r. r.flow.dev ≤ 255) rs
records_devices limits g index least [] few a = tt
records_devices limits g index least (r ∷ rs) few a =
    let k = take r.look g in
    let t = (state limits k).tables in
    let p = forward_plain limits k r a.3 in
    let within = passed_device (length limits.devices) t.vifs t.routes p.route r.flow.dev
    (vifs_within limits k) p.passed in
    (omega (arith, within, few), records_devices limits g r.index r.look rs few a.4)

pub settle_looks : (limits : Limits) (g : List Entry) (lane : LaneNo) (rs : List FastRecord)
    → SettleAgrees limits g lane rs → AllByRecursion (λ r. r.look ≤ length g) rs
settle_looks limits g lane rs a =
    records_looks limits g (last_index lane g) (least_look lane g) rs a.all

pub settle_named : (limits : Limits) (g : List Entry) (lane : LaneNo) (rs : List FastRecord)
    → SettleAgrees limits g lane rs → AllByRecursion (λ r. r.entry ≤ length g) rs
settle_named limits g lane rs a =
    records_named limits g (last_index lane g) (least_look lane g) rs a.all

pub settle_devices : (limits : Limits) (g : List Entry) (lane : LaneNo) (rs : List FastRecord)
    → length limits.devices ≤ 64 → SettleAgrees limits g lane rs
    → AllByRecursion (λ r. r.flow.dev ≤ 255) rs
settle_devices limits g lane rs few a =
    records_devices limits g (last_index lane g) (least_look lane g) rs few a.all
