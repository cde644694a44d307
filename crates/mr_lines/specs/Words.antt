-- What single words of a line say; none where a word says nothing of its kind.
use Rattle.std.specs.Prelude.{ℕ, zero, suc, ◌+◌, ◌^◌, ◌==◌, Bool, true, false, nat_le, if◌then◌else◌, Option, Some, None, option_and_then, option_map, List, [], ◌∷◌, drop, bytes_eq, codes}
use Rattle.mr_base.specs.declared.errno.Errno.{Errno}
use Rattle.mr_base.specs.declared.errno.Errno.TheVariants as errno
use Rattle.mr_base.specs.declared.numbers.Addr.{Addr}
use Rattle.mr_base.specs.declared.numbers.Mask.{Mask}
use Rattle.mr_model.specs.declared.message.Kind.{Kind}
use Rattle.mr_model.specs.declared.message.Kind.TheVariants as kind
use Rattle.mr_model.specs.declared.outcome.Cause.{Cause}
use Rattle.mr_model.specs.declared.outcome.Cause.TheVariants as cause
use Rattle.mr_model.specs.declared.outcome.Report.{Report}
use Rattle.mr_model.specs.declared.outcome.Report.TheVariants as report
use Rattle.mr_words.specs.Items.{item_of}
use Rattle.mr_words.specs.Numbers.{number_of, address_of}
use Rattle.mr_words.specs.Parts.{parts_of}
use Rattle.mr_lines.specs.Fit.{is_vif_name}
use Rattle.mr_lines.specs.Forms.{Word}

abbrev pub number8 : Word → Option ℕ
number8 w = number_of 255 w

abbrev pub number16 : Word → Option ℕ
number16 w = number_of 65535 w

abbrev pub number32 : Word → Option ℕ
number32 w = number_of 4294967295 w

abbrev pub number64 : Word → Option ℕ
number64 w = number_of 18446744073709551615 w

abbrev pub to_addr : ℕ → Addr
to_addr n = record { 0 = n }

abbrev pub addr_of : Word → Option Addr
addr_of w = option_map to_addr (address_of w)

-- a vif, or `-`
abbrev pub vif_or_none_of : Word → Option (Option ℕ)
vif_or_none_of w = if bytes_eq w (codes "-") then Some None else option_map Some (number8 w)

-- The mask with the vifs that words spell, each above the one before, from `least` to 31.
unfoldable pub with_vifs : ℕ → ℕ → List Word → Option ℕ
with_vifs least mask [] = Some mask
with_vifs least mask (w ∷ ws) =
    option_and_then (λ v. if nat_le least v then with_vifs (v + 1) (mask + 2 ^ v) ws else None) (number_of 31 w)

abbrev pub to_mask : ℕ → Mask
to_mask n = record { 0 = n }

-- the mask of vifs in rising order, parted by commas, or `-`
abbrev pub mask_of : Word → Option Mask
mask_of w = if bytes_eq w (codes "-") then Some (to_mask 0) else option_map to_mask (with_vifs 0 0 (parts_of 44 w))

abbrev pub name_of : Word → Option Word
name_of w = if is_vif_name w then Some w else None

-- `@` and a number
abbrev pub at_number : Word → Option ℕ
at_number [] = None
at_number (b ∷ w) = if b == 64 then number32 w else None

-- the local field: `@N` with flags 8, else an address
abbrev pub local_of : ℕ → Word → Option ℕ
local_of flags w = if flags == 8 then at_number w else address_of w

-- the threshold that an item `V:T` asks for vif i, or 0
abbrev pub asked_for : ℕ → Option (ℕ × ℕ) → ℕ
asked_for i None = 0
asked_for i (Some item) = if item.0 == i then item.1 else 0

-- the threshold that the first word asks for vif i, or 0
abbrev pub first_for : ℕ → List Word → ℕ
first_for i [] = 0
first_for i (w ∷ ws) = asked_for i (item_of w)

abbrev pub onto : ℕ → (List ℕ × List Word) → List ℕ × List Word
onto t x = (t ∷ x.0, x.1)

-- The thresholds of the vifs i, i + 1 and so on, as many as the first number says, and the words behind their items. A vif
-- that no item names has 0.
unfoldable pub ttls_from : ℕ → ℕ → List Word → List ℕ × List Word
ttls_from zero i ws = ([], ws)
ttls_from (suc k) i ws = onto (first_for i ws) (ttls_from k (i + 1) (if first_for i ws == 0 then ws else drop 1 ws))

-- the eight numbers of errno.h
abbrev pub errno_of : Word → Option Errno
errno_of w =
    if bytes_eq w (codes "2") then Some errno.NoEntry
    else if bytes_eq w (codes "13") then Some errno.Access
    else if bytes_eq w (codes "22") then Some errno.Invalid
    else if bytes_eq w (codes "23") then Some errno.TooManyVifs
    else if bytes_eq w (codes "92") then Some errno.NoOption
    else if bytes_eq w (codes "98") then Some errno.InUse
    else if bytes_eq w (codes "99") then Some errno.NotAvailable
    else if bytes_eq w (codes "105") then Some errno.NoBuffers
    else None

abbrev pub report_of : Word → Option Report
report_of w =
    if bytes_eq w (codes "quiet") then Some report.Quiet
    else if bytes_eq w (codes "told") then Some report.Told
    else if bytes_eq w (codes "lost") then Some report.Lost
    else None

abbrev pub told_of : Word → Option Bool
told_of w = if bytes_eq w (codes "told") then Some true else if bytes_eq w (codes "lost") then Some false else None

abbrev pub cause_of : Word → Option Cause
cause_of w =
    if bytes_eq w (codes "novif") then Some cause.NoVif
    else if bytes_eq w (codes "nodaemon") then Some cause.NoDaemon
    else if bytes_eq w (codes "entries") then Some cause.Entries
    else if bytes_eq w (codes "packets") then Some cause.Packets
    else if bytes_eq w (codes "upcall") then Some cause.Upcall
    else None

abbrev pub kind_of : Word → Option Kind
kind_of w =
    if bytes_eq w (codes "nocache") then Some kind.NoCache
    else if bytes_eq w (codes "wrongvif") then Some kind.WrongVif
    else if bytes_eq w (codes "wholepkt") then Some kind.WholePkt
    else None
