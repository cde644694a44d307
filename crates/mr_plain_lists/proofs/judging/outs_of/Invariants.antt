use Rattle.std.proofs.Common.{ℕ, ◌≡◌, ◌<◌, ◌^◌, drop, filter, fold}
use Rattle.std.specs.Prelude.{bit_or}
use Rattle.std.specs.List.{AllByRecursion}
use Rattle.mr_base.specs.declared.vif_record.VifRecord.{VifRecord}
use Rattle.mr_model.specs.Verdict.{sends_on}
use Rattle.mr_plain_lists.proofs.judging.outs_of.Given as goal

abbrev pub invariant-loop-v : goal.invariant-loop-v
invariant-loop-v l = record {
  small : AllByRecursion (λ (v : VifRecord). v.vif < 32) (drop l.v-index l.vifs);
  same : fold (λ (m : ℕ) (v : VifRecord). bit_or m (2 ^ v.vif)) l.outs
      (filter (λ (v : VifRecord). sends_on l.route l.from l.ttl v.vif) (drop l.v-index l.vifs))
      ≡ fold (λ (m : ℕ) (v : VifRecord). bit_or m (2 ^ v.vif)) 0
      (filter (λ (v : VifRecord). sends_on l.route l.from l.ttl v.vif) l.vifs);
}
