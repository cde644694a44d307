-- The vifs as a list of records, in the order in which they were added (ipmr.c, vif_add and vif_delete).
use Rattle.std.specs.Prelude.{ℕ, ◌+◌, ◌==◌, ◌&&◌, ◌||◌, Bool, not, nat_lt, nat_le, max, is_some, is_none, if◌then◌else◌, Option, Some, None, unwrap_or, option_map, List, [], ◌∷◌, length, find, filter, bit_and}
use Rattle.std.specs.List.{list_any}
use Rattle.mr_base.specs.declared.device.Device.{Device}
use Rattle.mr_base.specs.declared.errno.Errno.{Errno}
use Rattle.mr_base.specs.declared.errno.Errno.TheVariants.{Invalid, TooManyVifs, InUse, NotAvailable}
use Rattle.mr_base.specs.declared.vif_record.VifRecord.{VifRecord}
use Rattle.mr_model.specs.declared.request.VifCtl.{VifCtl}
use Rattle.mr_model.specs.Refusing.{refuse}

-- the vif with this index
abbrev pub vif_at : List VifRecord → ℕ → Option VifRecord
vif_at vifs i = find (λ v. v.vif == i) vifs

abbrev pub has_vif : List VifRecord → ℕ → Bool
has_vif vifs i = list_any (λ v. v.vif == i) vifs

-- the index of the register vif
abbrev pub register_vif : List VifRecord → Option ℕ
register_vif vifs = option_map (λ v. v.vif) (find (λ v. v.register) vifs)

-- the greater of the two, where there are two
abbrev pub higher : ℕ → Option ℕ → Option ℕ
higher i None = Some i
higher i (Some j) = Some (max i j)

-- the highest vif on a device (ipmr.c, ipmr_find_vif, which looks from the last vif down)
abbrev pub vif_on : List VifRecord → ℕ → Option ℕ
vif_on [] dev = None
vif_on (v ∷ vs) dev = if v.dev == dev then higher v.vif (vif_on vs dev) else vif_on vs dev

-- one more than the highest vif, or 0 (ipmr.c, maxvif)
abbrev pub max_vif : List VifRecord → ℕ
max_vif [] = 0
max_vif (v ∷ vs) = max (v.vif + 1) (max_vif vs)

-- the number of the first device with this address, where the first of these devices has number n
abbrev pub device_from : ℕ → List Device → ℕ → Option ℕ
device_from n [] addr = None
device_from n (d ∷ ds) addr = if d.addr.0 == addr then Some n else device_from (n + 1) ds addr

-- The device that is meant: with flags 8 (VIFF_USE_IFINDEX) by its number, else by its address.
abbrev pub device_meant : List Device → VifCtl → Option ℕ
device_meant devices c =
    if c.flags == 8
    then (if nat_lt 0 c.local && nat_le c.local (length devices) then Some c.local else None)
    else device_from 1 devices c.local

-- why MRT_ADD_VIF is refused, the checks in their order
abbrev pub add_vif_error : List Device → List VifRecord → VifCtl → Option Errno
add_vif_error devices vifs c =
    refuse (nat_le 32 c.vif) TooManyVifs
    (refuse (has_vif vifs c.vif) InUse
    (refuse (c.flags == 4 && is_some (register_vif vifs)) InUse
    (refuse ((c.flags == 0 || c.flags == 8) && is_none (device_meant devices c)) NotAvailable
    (refuse (not (c.flags == 0 || c.flags == 4 || c.flags == 8)) Invalid None))))

-- the device of the vif that MRT_ADD_VIF makes; flags 4 (VIFF_REGISTER) make the register vif, whose device is 0
abbrev pub vif_device : List Device → VifCtl → ℕ
vif_device devices c = if c.flags == 4 then 0 else unwrap_or (device_meant devices c) 0

-- the vif that it makes
abbrev pub new_vif : List Device → VifCtl → Bool → ℕ → VifRecord
new_vif devices c fixed number = record {
  vif = c.vif;
  dev = vif_device devices c;
  register = c.flags == 4;
  fixed = fixed;
  number = number;
}

-- why MRT_DEL_VIF is refused
abbrev pub del_vif_error : List VifRecord → ℕ → Option Errno
del_vif_error vifs i = refuse (nat_le 32 i) TooManyVifs (refuse (not (has_vif vifs i)) NotAvailable None)

abbrev pub without_vif : List VifRecord → ℕ → List VifRecord
without_vif vifs i = filter (λ v. not (v.vif == i)) vifs

-- whether one of the flags in bits is set in n
abbrev pub has_flag : ℕ → ℕ → Bool
has_flag n bits = not (bit_and n bits == 0)

-- the vifs without the static ones, where `fixed`, and without the others, where `loose`
abbrev pub vifs_left : Bool → Bool → List VifRecord → List VifRecord
vifs_left loose fixed vifs = filter (λ v. not (if v.fixed then fixed else loose)) vifs

-- MRT_FLUSH: flag 4 (MRT_FLUSH_VIFS) removes the vifs that are not static, 8 (MRT_FLUSH_VIFS_STATIC) those that are.
abbrev pub vifs_kept : ℕ → List VifRecord → List VifRecord
vifs_kept bits vifs = vifs_left (has_flag bits 4) (has_flag bits 8) vifs
