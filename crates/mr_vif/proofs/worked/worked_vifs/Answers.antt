use Rattle.std.proofs.Common.{arith, refl, rules}
use Rattle.std.specs.List.{IsDistinct}
use Rattle.mr_vif.proofs.worked.worked_vifs.Goals as goal

pub returns-clause-rules : goal.returns-clause-rules
unfolding IsDistinct
returns-clause-rules c = record {
  small = search rules;
  distinct = ((refl, (refl, (refl, tt))), ((refl, (refl, tt)), ((refl, tt), (tt, tt))));
  single = omega arith;
}
