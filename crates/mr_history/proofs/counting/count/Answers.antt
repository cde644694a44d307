use Rattle.mr_history.specs.Totals.{met_of, IsIn, IsOut}
use Rattle.std.proofs.Common.{◌++◌, ◌∷◌, [], sym, subst}
use Rattle.mr_history.proofs.Summing.{has_room, in_step, out_step, in_keeps_out, out_keeps_in}
use Rattle.mr_history.proofs.counting.count.Goals as goal

pub returns-clause-sums : goal.returns-clause-sums
returns-clause-sums c = λ ms few are.
    let m = met_of c.args.met.now in
    let room = has_room ms m few in
    record {
      routes = c.count_route.ensures.sums ms few are.routes;
      ins = λ i. subst (λ k. IsIn i (ms ++ m ∷ []) k) (sym (c.count_outs.ensures.at i))
          (out_keeps_in i (ms ++ m ∷ []) m _ _
          (subst (λ k. IsIn i (ms ++ m ∷ []) k) (sym (c.count_in.ensures.at i))
          (in_step i ms m _ room (are.ins i))));
      outs = λ i. subst (λ k. IsOut i (ms ++ m ∷ []) k) (sym (c.count_outs.ensures.at i))
          (out_step i ms m _ room (subst (λ k. IsOut i ms k) (sym (c.count_in.ensures.at i))
          (in_keeps_out i ms m _ _ (are.outs i))));
    }
