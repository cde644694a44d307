use Rattle.std.proofs.Common.{◌≡◌, ◌∙◌, Some, refl, sym}
use Rattle.mr_model.specs.Found.{found_in}
use Rattle.mr_model.specs.Verdict.{passes_proxied}
use Rattle.mr_model.specs.VifList.{vif_on}
use Rattle.mr_plain_lists.specs.Knowing.{state_of}
use Rattle.mr_plain_lists.proofs.outcomes.outcome.Goals as goal

pub returns-in-Some : goal.returns-in-Some
returns-in-Some c =
    let vifs = c.as_slice-vifs.ensures.value in
    let met : found_in c.args.known.now.vifs.items c.args.known.now.routes.items c.args.flow.now.dev c.args.flow.now.src c.args.flow.now.dst ≡ Some c.in-Some.route = rw vifs at (sym c.found.ensures ∙ c.in-Some.is) in
    let through : c.passes_proxied-proxied.result ≡ passes_proxied c.args.known.now.routes.items c.in-Some.route (vif_on c.args.known.now.vifs.items c.args.flow.now.dev) = rw (c.vif_on.ensures, vifs) at c.passes_proxied-proxied.ensures in
    rw met (c.judged.ensures (state_of c.args.known.now) refl refl refl refl refl c.reports_of-reports.ensures.unread c.reports_of-reports.ensures.last through)
