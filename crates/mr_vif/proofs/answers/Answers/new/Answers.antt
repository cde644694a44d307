use Rattle.std.proofs.Common.{refl, Option, None, ℕ}
use Rattle.std.proofs.lemmas.List.{get_or-replicate}
use Rattle.mr_base.specs.declared.vif_record.VifRecord.{VifRecord}
use Rattle.mr_vif.proofs.answers.Answers.new.Goals as goal

pub returns : goal.returns
returns c = record {
  each = λ i within. get_or-replicate {A = Option VifRecord} 32 i None None within;
  filled = refl;
  devices = λ d within. get_or-replicate {A = Option ℕ} 65 d None None within;
  one = refl;
  last = refl;
  mask = refl;
}
