use Rattle.std.proofs.Common.{◌≡◌, length, drop, replicate}
use Rattle.smc_rules.specs.Requests.{outputs_from}
use Rattle.smc_rules.proofs.requests.outputs.Given as goal

abbrev pub invariant-loop-out : goal.invariant-loop-out
invariant-loop-out l =
    record {
      same :
          outputs_from l.interfaces l.input l.ttls (drop l.out-index l.outs)
          ≡ outputs_from l.interfaces l.input (replicate 32 0) l.outs;
      size : length l.ttls ≡ 32;
    }
