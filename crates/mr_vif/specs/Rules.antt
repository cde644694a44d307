-- What holds of every list of vifs.
use Rattle.std.specs.Prelude.{◌<◌, ◌≤◌, ◌==◌, List, length, filter}
use Rattle.std.specs.List.{AllByRecursion, IsDistinct}
use Rattle.mr_base.specs.declared.vif_record.VifRecord.{VifRecord}

-- indexes below 32, each once, and one register vif at most
pub record AreVifs (vifs : List VifRecord) : Type 0 where
  pub small : AllByRecursion (λ v. v.vif < 32) vifs
  pub distinct : IsDistinct (λ v w. v.vif == w.vif) vifs
  pub single : length (filter (λ v. v.register) vifs) ≤ 1
