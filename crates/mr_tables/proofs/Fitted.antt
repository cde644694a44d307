-- What the tables grant fits them.
use Rattle.std.proofs.Common.{◌≡◌, ℕ, ◌==◌, ◌&&◌, ◌||◌, Bool, true, false, not, nat_lt, nat_le, is_some, is_none, Option, Some, None, List, length, find, refl, subst, arith}
use Rattle.std.proofs.lemmas.Grind.{common_steps}
use Rattle.std.specs.List.{list_any}
use Rattle.mr_base.specs.declared.device.Device.{Device}
use Rattle.mr_base.specs.declared.errno.Errno.{Errno}
use Rattle.mr_base.specs.declared.errno.Errno.TheVariants.{NoEntry, Invalid, TooManyVifs, InUse, NotAvailable, NoBuffers}
use Rattle.mr_base.specs.declared.numbers.Addr.{Addr}
use Rattle.mr_base.specs.declared.route.Route.{Route}
use Rattle.mr_base.specs.declared.vif_record.VifRecord.{VifRecord}
use Rattle.mr_model.specs.declared.change.Change.{Change}
use Rattle.mr_model.specs.declared.change.What.{What}
use Rattle.mr_model.specs.declared.change.What.TheVariants as what
use Rattle.mr_model.specs.declared.request.MfcCtl.{MfcCtl}
use Rattle.mr_model.specs.declared.request.Request.{Request}
use Rattle.mr_model.specs.declared.request.Request.TheVariants.{Finish, AddVif, DelVif, AddMfc, DelMfc, AddProxy, DelProxy, Pim, Assert, Flush}
use Rattle.mr_model.specs.declared.request.VifCtl.{VifCtl}
use Rattle.mr_model.specs.Refusing.{refuse}
use Rattle.mr_model.specs.VifList.{has_vif, register_vif, vif_device, add_vif_error, del_vif_error}
use Rattle.mr_model.specs.RouteList.{is_named, is_group, add_route_error, del_route_error}
use Rattle.mr_model.specs.Granting.{route_change, number_found, what_of, numbered, tables_error}
use Rattle.mr_mfc.specs.Caches.{is_above}
use Rattle.mr_mfc.proofs.Falling.{number_there}
use Rattle.mr_tables.specs.Values.{TablesValue}
use Rattle.mr_tables.specs.Fitting.{vif_fits, fits}
use Rattle.mr_tables.proofs.Found.{none_there}

-- the change, where there is one, fits
abbrev pub FitsIf : TablesValue → ℕ → Option What → Type 0
FitsIf v n None = Unit {0}
FitsIf v n (Some w) = fits v (numbered n w) ≡ true

-- a check that does not refuse did not hold, nor did those behind it
pub passed : (test : Bool) (e : Errno) (further : Option Errno) → refuse test e further ≡ None
    → (test ≡ false) × (further ≡ None)
passed true e further is = absurd cc
passed false e further is = (refl, is)

added_fits : (devices : List Device) (vifs : List VifRecord) (c : VifCtl) (fixed : Bool) →
    add_vif_error devices vifs c ≡ None
    → vif_fits vifs (what.AddVif c.vif (vif_device devices c) (c.flags == 4) fixed) ≡ true
added_fits devices vifs c fixed is =
    let first = passed (nat_le 32 c.vif) TooManyVifs _ is in
    let second = passed (has_vif vifs c.vif) InUse _ first.1 in
    let third = passed (c.flags == 4 && is_some (register_vif vifs)) InUse _ second.1 in
    holds (c.flags == 4) (register_vif vifs) first.0 second.0 third.0
  where
    holds : (register : Bool) (o : Option ℕ) → nat_le 32 c.vif ≡ false → has_vif vifs c.vif ≡ false
        → register && is_some o ≡ false
        → nat_lt c.vif 32 && not (has_vif vifs c.vif) && (not register || is_none o) ≡ true
    holds true None index free one = grind (arith, common_steps)
    holds true (Some i) index free one = absurd cc
    holds false o index free one = grind (arith, common_steps)

deleted_fits : (vifs : List VifRecord) (i : ℕ) → del_vif_error vifs i ≡ None → has_vif vifs i ≡ true
deleted_fits vifs i is =
    let first = passed (nat_le 32 i) TooManyVifs _ is in
    let second = passed (not (has_vif vifs i)) NotAvailable _ first.1 in
    grind (arith, common_steps, second.0)

set_fits : (v : TablesValue) (c : MfcCtl) (named : Option ℕ) (fixed : Bool) (n : ℕ) →
    add_route_error v.slots v.tables.routes c named ≡ None → is_above n v.tables.routes ≡ true
    → fits v (numbered n (route_change v.tables.vifs fixed c
    (find (is_named c.src c.dst named) v.tables.routes))) ≡ true
set_fits v c named fixed n is above = by (find (is_named c.src c.dst named) v.tables.routes) refl
  where
    by : (o : Option Route) → find (is_named c.src c.dst named) v.tables.routes ≡ o
        → fits v (numbered n (route_change v.tables.vifs fixed c o)) ≡ true
    by None none =
        let away = none_there (is_named c.src c.dst named) v.tables.routes none in
        let full : Bool = nat_le v.slots (length v.tables.routes) in
        let first = passed (nat_le 32 c.parent) TooManyVifs _ is in
        let new : refuse (not (is_group c.dst.0)) Invalid (refuse full NoBuffers None) ≡ None =
        rw away at first.1 in
        let second = passed (not (is_group c.dst.0)) Invalid _ new in
        let third : full ≡ false = (passed full NoBuffers _ second.1).0 in
        grind (arith, common_steps, third, above)
    by (Some r) it = number_there (is_named c.src c.dst named) v.tables.routes r it

dropped_fits : (v : TablesValue) (src dst : Addr) (named : Option ℕ) (n : ℕ) →
    del_route_error v.tables.routes src dst named ≡ None
    → fits v (numbered n (what.DropRoute (number_found
    (find (is_named src dst named) v.tables.routes)))) ≡ true
dropped_fits v src dst named n is = by (find (is_named src dst named) v.tables.routes) refl
  where
    by : (o : Option Route) → find (is_named src dst named) v.tables.routes ≡ o
        → fits v (numbered n (what.DropRoute (number_found o))) ≡ true
    by None none =
        let away = none_there (is_named src dst named) v.tables.routes none in
        let absent : Bool = not (list_any (is_named src dst named) v.tables.routes) in
        let there : not false ≡ false = rw away at (passed absent NoEntry _ is).0 in
        absurd (cc there)
    by (Some r) it = number_there (is_named src dst named) v.tables.routes r it

-- what the tables grant, if it changes anything, fits
pub if_fits : (v : TablesValue) (r : Request) (fixed : Bool) (n : ℕ) →
    tables_error v.slots v.devices v.tables r ≡ None → is_above n v.tables.routes ≡ true
    → FitsIf v n (what_of v.devices v.tables fixed r)
if_fits v Finish fixed n is above = refl
if_fits v (AddVif c) fixed n is above = rw (added_fits v.devices v.tables.vifs c fixed is) refl
if_fits v (DelVif i) fixed n is above = rw (deleted_fits v.tables.vifs i is) refl
if_fits v (AddMfc c) fixed n is above = set_fits v c None fixed n is above
if_fits v (AddProxy c) fixed n is above = set_fits v c (Some c.parent) fixed n is above
if_fits v (DelMfc k) fixed n is above = dropped_fits v k.src k.dst None n is
if_fits v (DelProxy k) fixed n is above = dropped_fits v k.src k.dst (Some k.parent) n is
if_fits v (Pim on) fixed n is above = refl
if_fits v (Assert on) fixed n is above = refl
if_fits v (Flush bits) fixed n is above = refl
if_fits v r fixed n is above = tt

-- what the tables grant fits
pub granted_fits : (v : TablesValue) (r : Request) (fixed : Bool) (c : Change) →
    tables_error v.slots v.devices v.tables r ≡ None → is_above c.number v.tables.routes ≡ true
    → what_of v.devices v.tables fixed r ≡ Some c.what → fits v c ≡ true
granted_fits v r fixed c is above made =
    subst (λ (o : Option What). FitsIf v c.number o) made (if_fits v r fixed c.number is above)
