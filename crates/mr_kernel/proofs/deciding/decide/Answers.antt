use Rattle.std.proofs.Common.{◌≡◌, arith, ◌∙◌, subst, true}
use Rattle.std.specs.List.{list_any}
use Rattle.mr_model.specs.RouteList.{has_number}
use Rattle.mr_model.specs.Tables.{Tables}
use Rattle.mr_kernel.proofs.Judging.{outcome_by}
use Rattle.mr_kernel.proofs.deciding.decide.Goals as goal

pub returns-in-Some : goal.returns-in-Some
returns-in-Some c limits s st =
    let there = subst (λ (t : Tables). list_any (has_number c.in-Some.route.number) t.routes
    ≡ true) st.tables c.in-Some.ensures.there in
    c.judge.ensures limits s st there
    ∙ outcome_by limits s c.args.live.now c.args.flow.now c.in-Some.route st
    c.in-Some.ensures.met
