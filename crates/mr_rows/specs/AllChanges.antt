-- Every kind of change, by the owner and by another admin.
use Rattle.std.specs.Prelude.{true, false, List, [], ◌∷◌}
use Rattle.mr_base.specs.declared.errno.Errno.TheVariants.{NoEntry}
use Rattle.mr_model.specs.declared.change.Change.{Change}
use Rattle.mr_model.specs.declared.change.What.TheVariants as what
use Rattle.mr_model.specs.declared.entry.Entry.{Entry}
use Rattle.mr_model.specs.declared.entry.Entry.TheVariants.{EndPhase}
use Rattle.mr_model.specs.declared.limits.Limits.{Limits}
use Rattle.mr_model.specs.declared.reply.Reply.TheVariants.{Value}
use Rattle.mr_model.specs.declared.request.Request.TheVariants.{Init, Finish, DelVif, DelMfc, DelProxy, Pim, Assert, Flush, GetPim}
use Rattle.mr_rows.specs.Samples.{source, group, second_group, devices_at, limits_of, thresholds, add_vif, add_mfc, add_proxy, key, call, good, refused, change}

abbrev pub limits : Limits
limits = limits_of 1 (0 ∷ []) (true ∷ true ∷ []) (devices_at (0 ∷ 1 ∷ []))

-- Vif 1 is added by its device's address, 10.0.1.1, and vif 2 is the register vif. No vif is 5,
-- and the threshold 255 means none. The first deletion takes the newest entry of its origin and
-- group, the second one that of the parent.
abbrev pub history : List Entry
history =
    good 1 Init
    ∷ good 1 (add_vif 0 8 1)
    ∷ good 2 (add_vif 1 0 167772417)
    ∷ good 1 (add_vif 2 4 0)
    ∷ good 1 (add_mfc source group 0 ((1, 4) ∷ (5, 7) ∷ []))
    ∷ good 2 (add_mfc source group 1 ((0, 7) ∷ []))
    ∷ good 1 (add_mfc source group 1 ((0, 8) ∷ (1, 255) ∷ []))
    ∷ good 1 (add_proxy source group 0 ((1, 2) ∷ []))
    ∷ refused 1 (DelMfc (key source second_group 0)) NoEntry
    ∷ good 1 (DelMfc (key source group 9))
    ∷ good 1 (DelProxy (key source group 1))
    ∷ good 1 (Pim 7)
    ∷ good 1 (Assert 0)
    ∷ good 1 (DelVif 1)
    ∷ call 1 GetPim (Value 1)
    ∷ good 2 (Flush 6)
    ∷ good 1 Finish
    ∷ EndPhase ∷ []

-- The entry with number 5 is static from the other admin's change on. An owner that leaves flushes
-- the entries and the vifs that are not static.
abbrev pub changed : List Change
changed =
    change 2 (what.AddVif 0 1 false false)
    ∷ change 3 (what.AddVif 1 2 false true)
    ∷ change 4 (what.AddVif 2 0 true false)
    ∷ change 5 (what.NewRoute source group 0 (thresholds 255 ((1, 4) ∷ [])) false)
    ∷ change 6 (what.OldRoute 5 1 (thresholds 255 ((0, 7) ∷ [])) true)
    ∷ change 7 (what.OldRoute 5 1 (thresholds 255 ((0, 8) ∷ [])) true)
    ∷ change 8 (what.NewRoute source group 0 (thresholds 255 ((1, 2) ∷ [])) false)
    ∷ change 10 (what.DropRoute 8)
    ∷ change 11 (what.DropRoute 5)
    ∷ change 12 (what.Pim true)
    ∷ change 13 (what.Assert false)
    ∷ change 14 (what.DelVif 1)
    ∷ change 16 (what.Flush 6)
    ∷ change 17 (what.Flush 5) ∷ []
