-- Vifs and thresholds on which definitions are evaluated.
use Rattle.std.specs.Prelude.{ℕ, true, false, List, [], ◌∷◌}
use Rattle.mr_base.specs.declared.vif_record.VifRecord.{VifRecord}

-- on device 1
abbrev pub lower : VifRecord
lower = record { vif = 3; dev = 1; register = false; fixed = false; number = 13 }

-- on device 1 too, and static
abbrev pub higher : VifRecord
higher = record { vif = 31; dev = 1; register = false; fixed = true; number = 41 }

-- the register vif
abbrev pub register : VifRecord
register = record { vif = 5; dev = 0; register = true; fixed = false; number = 15 }

-- on device 70, and static
abbrev pub far : VifRecord
far = record { vif = 0; dev = 70; register = false; fixed = true; number = 10 }

abbrev pub added : List VifRecord
added = lower ∷ higher ∷ register ∷ far ∷ []

-- 1 for vif 0, 9 for vif 3, 1 for vif 4, 10 for vif 31, none for the others
abbrev pub thresholds : List ℕ
thresholds = 1 ∷ 255 ∷ 255 ∷ 9 ∷ 1 ∷ 255 ∷ 255 ∷ 255 ∷ 255 ∷ 255 ∷ 255 ∷ 255 ∷ 255 ∷ 255 ∷ 255 ∷ 255
    ∷ 255 ∷ 255 ∷ 255 ∷ 255 ∷ 255 ∷ 255 ∷ 255 ∷ 255 ∷ 255 ∷ 255 ∷ 255 ∷ 255 ∷ 255 ∷ 255 ∷ 255 ∷ 10 ∷ []
