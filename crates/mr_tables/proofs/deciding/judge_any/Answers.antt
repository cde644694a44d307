use Rattle.std.proofs.Common.{◌≡◌, ◌∙◌, true, refl, sym}
use Rattle.mr_model.specs.Verdict.{outs_of, passes}
use Rattle.mr_tables.proofs.Sending.{outs_by}
use Rattle.mr_tables.proofs.deciding.judge_any.Goals as goal

pub returns : goal.returns
returns c =
    let outs : c.outs.result ≡ outs_of c.args.vifs.now c.args.route.now c.args.dev c.args.ttl =
    c.outs.ensures
    ∙ outs_by c.args.vifs.now c.args.route.now c.args.dev c.args.ttl c.any_ttls.result
    (λ i. rw (← c.of_device-vif.ensures.vif) (c.any_ttls.ensures c.args.ttl i c.ranges.ttl.fits)) in
    let by : passes c.args.vifs.now c.args.cache.now.routes c.args.route.now c.args.dev ≡ true =
    rw (← c.of_device-vif.ensures.vif) (sym c.if-not-passes.ensures) in
    rw (c.forward.ensures, outs, by) refl
