-- What is kept beside a list of vifs.
use Rattle.std.specs.Prelude.{◌≡◌, ℕ, ◌<◌, Option, None, List, length, count_by, is_some, slice_index_or}
use Rattle.mr_base.specs.declared.vif_record.VifRecord.{VifRecord}
use Rattle.mr_model.specs.VifList.{vif_at, vif_on, register_vif, max_vif}
use Rattle.mr_vif.specs.declared.answers.Answers.{Answers}
use Rattle.mr_vif.specs.Masks.{mask_of}

-- the highest vif on each device, by its number
abbrev pub AreHighest : List (Option ℕ) → List VifRecord → Type 0
AreHighest highest vifs = (d : ℕ) → d < 65 → slice_index_or highest d None ≡ vif_on vifs d

-- the answers of a list of vifs, by place
pub record AreAnswers (answers : Answers) (vifs : List VifRecord) : Type 0 where
  pub each : (i : ℕ) → i < 32 → slice_index_or answers.at i None ≡ vif_at vifs i
  pub filled : count_by is_some answers.at ≡ length vifs
  pub devices : AreHighest answers.highest vifs
  pub one : answers.register ≡ register_vif vifs
  pub last : answers.end ≡ max_vif vifs
  pub mask : answers.present ≡ (mask_of vifs).0
