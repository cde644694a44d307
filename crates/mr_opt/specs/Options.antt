-- The options that a call sets, each with its record (mroute.h).
use Rattle.std.specs.Prelude.{ℕ, ◌==◌, ◌||◌, if◌then◌else◌, Bool, Option, Some, None, List, [], length, replicate}
use Rattle.mr_model.specs.declared.request.Request.{Request}
use Rattle.mr_model.specs.declared.request.Request.TheVariants.{Init, Finish, AddVif, DelVif, AddMfc, DelMfc, AddProxy, DelProxy, Pim, Assert, Flush, Unknown, BadLength}
use Rattle.mr_opt.specs.Fields.{record_length}
use Rattle.mr_opt.specs.Records.{vifctl, mfcctl, int, vifctl_bytes, mfcctl_bytes, int_bytes, vifctl_of, mfcctl_of, mfc_key_of, int_of}

-- The options of mroute.h that can be set.
abbrev pub mrt_init : ℕ
mrt_init = 200

abbrev pub mrt_done : ℕ
mrt_done = 201

abbrev pub mrt_add_vif : ℕ
mrt_add_vif = 202

abbrev pub mrt_del_vif : ℕ
mrt_del_vif = 203

abbrev pub mrt_add_mfc : ℕ
mrt_add_mfc = 204

abbrev pub mrt_del_mfc : ℕ
mrt_del_mfc = 205

abbrev pub mrt_assert : ℕ
mrt_assert = 207

abbrev pub mrt_pim : ℕ
mrt_pim = 208

abbrev pub mrt_add_mfc_proxy : ℕ
mrt_add_mfc_proxy = 210

abbrev pub mrt_del_mfc_proxy : ℕ
mrt_del_mfc_proxy = 211

abbrev pub mrt_flush : ℕ
mrt_flush = 212

-- The option and the record by which a request is made. A number that is ignored is 1, what else
-- is ignored zeros, and MRT_DONE has no record. None for requests that read and for those that no
-- record makes.
abbrev pub set_by : Request → Option (ℕ × List ℕ)
set_by Init = Some (mrt_init, int_bytes 1)
set_by Finish = Some (mrt_done, [])
set_by (AddVif c) = Some (mrt_add_vif, vifctl_bytes c.vif c.flags c.local)
set_by (DelVif vif) = Some (mrt_del_vif, vifctl_bytes vif 0 0)
set_by (AddMfc c) = Some (mrt_add_mfc, mfcctl_bytes c.src c.dst c.parent c.ttls)
set_by (DelMfc k) = Some (mrt_del_mfc, mfcctl_bytes k.src k.dst k.parent (replicate 32 0))
set_by (Assert n) = Some (mrt_assert, int_bytes n)
set_by (Pim n) = Some (mrt_pim, int_bytes n)
set_by (AddProxy c) = Some (mrt_add_mfc_proxy, mfcctl_bytes c.src c.dst c.parent c.ttls)
set_by (DelProxy k) = Some (mrt_del_mfc_proxy, mfcctl_bytes k.src k.dst k.parent (replicate 32 0))
set_by (Flush bits) = Some (mrt_flush, int_bytes bits)
set_by _ = None

-- what kind of record an option takes
abbrev pub takes_int : ℕ → Bool
takes_int option =
    option == mrt_init || option == mrt_assert || option == mrt_pim || option == mrt_flush

abbrev pub takes_vifctl : ℕ → Bool
takes_vifctl option = option == mrt_add_vif || option == mrt_del_vif

abbrev pub takes_mfcctl : ℕ → Bool
takes_mfcctl option =
    option == mrt_add_mfc || option == mrt_del_mfc
    || option == mrt_add_mfc_proxy || option == mrt_del_mfc_proxy

-- the length of an option's record; none for MRT_DONE, which takes any bytes, and for what cannot
-- be set
abbrev pub length_of : ℕ → Option ℕ
length_of option =
    if takes_int option then Some (record_length int)
    else (if takes_vifctl option then Some (record_length (vifctl 0))
    else (if takes_mfcctl option then Some (record_length mfcctl)
    else None))

-- the request of an option with a record of the right length
abbrev pub request_in : ℕ → List ℕ → Request
request_in option bs =
    if option == mrt_init then Init
    else (if option == mrt_add_vif then AddVif (vifctl_of bs)
    else (if option == mrt_del_vif then DelVif (vifctl_of bs).vif
    else (if option == mrt_add_mfc then AddMfc (mfcctl_of bs)
    else (if option == mrt_del_mfc then DelMfc (mfc_key_of bs)
    else (if option == mrt_assert then Assert (int_of bs)
    else (if option == mrt_pim then Pim (int_of bs)
    else (if option == mrt_add_mfc_proxy then AddProxy (mfcctl_of bs)
    else (if option == mrt_del_mfc_proxy then DelProxy (mfc_key_of bs)
    else Flush (int_of bs)))))))))

-- the request of an option whose record has this length, where it has one
abbrev pub request_by : ℕ → Option ℕ → List ℕ → Request
request_by option (Some n) bs = if length bs == n then request_in option bs else BadLength option
request_by option None bs = if option == mrt_done then Finish else Unknown option

-- The request that an option and its bytes make: BadLength where the option can be set and the
-- record has another length, Unknown where it cannot be set.
abbrev pub request_of : ℕ → List ℕ → Request
request_of option bs = request_by option (length_of option) bs
