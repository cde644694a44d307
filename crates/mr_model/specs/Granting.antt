-- What a request changes in the tables where it is granted, and why they refuse it (ipmr.c, ip_mroute_setsockopt).
use Rattle.std.specs.Prelude.{ℕ, ◌==◌, ◌||◌, Bool, true, false, not, Option, Some, None, unwrap_or, option_map, List, find}
use Rattle.mr_base.specs.declared.device.Device.{Device}
use Rattle.mr_base.specs.declared.errno.Errno.{Errno}
use Rattle.mr_base.specs.declared.route.Route.{Route}
use Rattle.mr_base.specs.declared.vif_record.VifRecord.{VifRecord}
use Rattle.mr_model.specs.declared.change.Change.{Change}
use Rattle.mr_model.specs.declared.change.What.{What}
use Rattle.mr_model.specs.declared.change.What.TheVariants as what
use Rattle.mr_model.specs.declared.request.MfcCtl.{MfcCtl}
use Rattle.mr_model.specs.declared.request.Request.{Request}
use Rattle.mr_model.specs.declared.request.Request.TheVariants.{Finish, AddVif, DelVif, AddMfc, DelMfc, AddProxy, DelProxy, Pim, Assert, Flush}
use Rattle.mr_model.specs.VifList.{vif_device, add_vif_error, del_vif_error}
use Rattle.mr_model.specs.RouteList.{is_named, thresholds_from, add_route_error, del_route_error}
use Rattle.mr_model.specs.Tables.{Tables, changed_by}

-- a request that sets tables; Init is none, since the owner is no table
abbrev pub sets_tables : Request → Bool
sets_tables Finish = true
sets_tables (AddVif c) = true
sets_tables (DelVif i) = true
sets_tables (AddMfc c) = true
sets_tables (DelMfc k) = true
sets_tables (AddProxy c) = true
sets_tables (DelProxy k) = true
sets_tables (Pim n) = true
sets_tables (Assert n) = true
sets_tables (Flush bits) = true
sets_tables _ = false

-- the truth value of a number
abbrev pub truth : ℕ → Bool
truth n = not (n == 0)

-- An entry of the name that is there changes in its place, and stays static once it is; else a new one is made.
abbrev pub route_change : List VifRecord → Bool → MfcCtl → Option Route → What
route_change vifs fixed c None = what.NewRoute c.src c.dst c.parent (thresholds_from vifs 0 c.ttls) fixed
route_change vifs fixed c (Some r) =
    what.OldRoute r.number c.parent (thresholds_from vifs 0 c.ttls) (r.fixed || fixed)

-- the number of an entry; where there is none the request was refused
abbrev pub number_found : Option Route → ℕ
number_found r = unwrap_or (option_map (λ x. x.number) r) 0

-- What a good request changes; `fixed`: who asks is not the owner, so that what it adds or changes is static.
abbrev pub what_of : List Device → Tables → Bool → Request → Option What
what_of devices t fixed Finish = Some (what.Flush 5)
what_of devices t fixed (AddVif c) = Some (what.AddVif c.vif (vif_device devices c) (c.flags == 4) fixed)
what_of devices t fixed (DelVif i) = Some (what.DelVif i)
what_of devices t fixed (AddMfc c) =
    Some (route_change t.vifs fixed c (find (is_named c.src c.dst None) t.routes))
what_of devices t fixed (AddProxy c) =
    Some (route_change t.vifs fixed c (find (is_named c.src c.dst (Some c.parent)) t.routes))
what_of devices t fixed (DelMfc k) =
    Some (what.DropRoute (number_found (find (is_named k.src k.dst None) t.routes)))
what_of devices t fixed (DelProxy k) =
    Some (what.DropRoute (number_found (find (is_named k.src k.dst (Some k.parent)) t.routes)))
what_of devices t fixed (Pim n) = Some (what.Pim (truth n))
what_of devices t fixed (Assert n) = Some (what.Assert (truth n))
what_of devices t fixed (Flush bits) = Some (what.Flush bits)
what_of devices t fixed _ = None

abbrev pub numbered : ℕ → What → Change
numbered n w = record { number = n; what = w }

-- the tables after call n, which changed this
abbrev pub tables_with : Tables → ℕ → Option What → Tables
tables_with t n None = t
tables_with t n (Some w) = changed_by t (numbered n w)

-- Why the tables refuse a request that sets them, whoever asks; `most` entries may be there.
abbrev pub tables_error : ℕ → List Device → Tables → Request → Option Errno
tables_error most devices t (AddVif c) = add_vif_error devices t.vifs c
tables_error most devices t (DelVif i) = del_vif_error t.vifs i
tables_error most devices t (AddMfc c) = add_route_error most t.routes c None
tables_error most devices t (AddProxy c) = add_route_error most t.routes c (Some c.parent)
tables_error most devices t (DelMfc k) = del_route_error t.routes k.src k.dst None
tables_error most devices t (DelProxy k) = del_route_error t.routes k.src k.dst (Some k.parent)
tables_error most devices t _ = None
