-- Calls that are refused, each with its errno, by an admin and by a plain daemon.
use Rattle.std.specs.Prelude.{true, false, List, [], ◌∷◌, ◌++◌}
use Rattle.mr_base.specs.declared.errno.Errno.TheVariants.{Access, InUse, Invalid, NoEntry, NoOption, NotAvailable, TooManyVifs}
use Rattle.mr_model.specs.declared.ending.Ending.{Ending}
use Rattle.mr_model.specs.declared.entry.Entry.{Entry}
use Rattle.mr_model.specs.declared.entry.Entry.TheVariants.{EndPhase}
use Rattle.mr_model.specs.declared.limits.Limits.{Limits}
use Rattle.mr_model.specs.declared.reply.Reply.TheVariants.{Value}
use Rattle.mr_model.specs.declared.request.Request.TheVariants.{BadLength, DelMfc, DelVif, GetVersion, Init, Pim, Unknown, VifCount}
use Rattle.mr_rows.specs.Samples.{addr, any, source, group, devices_at, limits_of, add_vif, add_mfc, key, call, good, refused, vif, register, vif_totals}

abbrev pub limits : Limits
limits = limits_of 2 (0 ∷ []) (true ∷ false ∷ []) (devices_at (0 ∷ []))

-- the owner's calls
abbrev pub first_phase : List Entry
first_phase =
    good 1 Init
    ∷ good 1 (add_vif 31 8 1)
    ∷ refused 1 (add_vif 32 8 1) TooManyVifs
    ∷ refused 1 (add_vif 31 8 1) InUse
    ∷ good 1 (DelVif 31)
    ∷ refused 1 (DelVif 31) NotAvailable
    ∷ refused 1 (DelVif 32) TooManyVifs
    ∷ refused 1 (add_vif 0 1 (addr 10 0 0 1).0) Invalid
    ∷ refused 1 (add_vif 0 8 9) NotAvailable
    ∷ good 1 (add_vif 5 4 any.0)
    ∷ refused 1 (add_vif 6 4 any.0) InUse
    ∷ refused 1 (Unknown 209) NoOption
    ∷ call 1 GetVersion (Value 773)
    ∷ good 1 (add_vif 0 8 1)
    ∷ refused 1 (BadLength 202) Invalid
    ∷ refused 1 (VifCount 6) Invalid
    ∷ refused 1 (VifCount 4) NotAvailable
    ∷ refused 1 (DelMfc (key source group 0)) NoEntry
    ∷ refused 1 (add_mfc source (addr 10 0 0 8) 0 []) Invalid
    ∷ EndPhase ∷ []

-- those of a daemon that is neither the owner nor an admin
abbrev pub second_phase : List Entry
second_phase = refused 2 (Pim 1) Access ∷ refused 2 Init InUse ∷ EndPhase ∷ []

abbrev pub history : List Entry
history = first_phase ++ second_phase

abbrev pub tail : Ending
tail = record {
  routes = [];
  vifs = (vif 0 1 14, vif_totals 0 0 0 0) ∷ (register 5 10, vif_totals 0 0 0 0) ∷ [];
  fates = [];
}
