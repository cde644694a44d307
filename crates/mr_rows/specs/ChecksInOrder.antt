-- Refused calls for which two checks fail: the first one in the order of checks decides. Daemon 1 owns the machine, daemon 2 is an
-- admin, and daemon 3 is neither.
use Rattle.std.specs.Prelude.{true, false, List, [], ◌∷◌}
use Rattle.mr_base.specs.declared.errno.Errno.TheVariants.{Access, InUse, Invalid, NoOption, NotAvailable, TooManyVifs}
use Rattle.mr_model.specs.declared.ending.Ending.{Ending}
use Rattle.mr_model.specs.declared.entry.Entry.{Entry}
use Rattle.mr_model.specs.declared.entry.Entry.TheVariants.{EndPhase}
use Rattle.mr_model.specs.declared.limits.Limits.{Limits}
use Rattle.mr_model.specs.declared.reply.Reply.TheVariants.{Value}
use Rattle.mr_model.specs.declared.request.Request.TheVariants.{BadLength, Finish, GetVersion, Init, SgCount, Unknown, VifCount}
use Rattle.mr_rows.specs.Samples.{addr, any, source, group, devices_at, limits_of, add_vif, call, good, refused, register, vif_totals}

abbrev pub limits : Limits
limits = limits_of 1 (0 ∷ []) (true ∷ true ∷ false ∷ []) (devices_at (0 ∷ []))

abbrev pub history : List Entry
history =
    good 1 Init
    ∷ refused 3 (BadLength 200) Invalid
    ∷ refused 3 (BadLength 202) Access
    ∷ refused 3 (Unknown 209) Access
    ∷ refused 3 (add_vif 32 8 1) Access
    ∷ call 3 GetVersion (Value 773)
    ∷ refused 3 (VifCount 0) Invalid
    ∷ refused 3 (SgCount source group) NotAvailable
    ∷ refused 2 Finish Access
    ∷ refused 2 (BadLength 202) Invalid
    ∷ refused 2 (Unknown 1) NoOption
    ∷ refused 3 Finish Access
    ∷ refused 2 (add_vif 40 8 9) TooManyVifs
    ∷ good 2 (add_vif 0 4 any.0)
    ∷ refused 2 (add_vif 0 4 any.0) InUse
    ∷ refused 2 (add_vif 1 4 any.0) InUse
    ∷ refused 2 (add_vif 1 0 (addr 10 0 9 9).0) NotAvailable
    ∷ refused 2 (add_vif 1 8 0) NotAvailable
    ∷ refused 2 (add_vif 1 2 0) Invalid
    ∷ EndPhase ∷ []

abbrev pub tail : Ending
tail = record { routes = []; vifs = (record (register 0 14) { fixed = true }, vif_totals 0 0 0 0) ∷ []; fates = [] }
