use Rattle.std.proofs.Common.{◌≡◌, ◌∙◌, List, map, reverse, flat_map, option_map, sym, ap, subst}
use Rattle.std.specs.Prelude.{option_to_list}
use Rattle.mr_base.specs.declared.route.Route.{Route}
use Rattle.mr_base.specs.declared.vif_record.VifRecord.{VifRecord}
use Rattle.mr_model.specs.declared.ending.Ending.{Ending}
use Rattle.mr_model.specs.Ending.{ending, indexes}
use Rattle.mr_model.specs.VifList.{vif_at}
use Rattle.mr_kernel.specs.Endings.{route_pair, vif_pair}
use Rattle.mr_kernel.specs.Values.{KernelValue}
use Rattle.mr_kernel.proofs.Closings.{gathered}
use Rattle.mr_kernel.proofs.kernel.Kernel.gather.Goals as goal

pub returns : goal.returns
returns c =
    let k = c.self.inside in
    let h = k.journal.entries in
    let routes : c.in_ok-routes.routes.items
    ≡ map (route_pair h) (reverse k.live.tables.tables.routes) =
    c.in_ok-routes.ensures ∙ ap (λ (rs : List Route). map (route_pair h) (reverse rs))
    c.cache.ensures.routes in
    let vifs : c.in_ok-vifs.vifs.items
    ≡ flat_map (λ i. option_to_list
    (option_map (vif_pair h) (vif_at k.live.tables.tables.vifs i))) indexes =
    c.in_ok-vifs.ensures ∙ ap (λ (vs : List VifRecord). flat_map
    (λ i. option_to_list (option_map (vif_pair h) (vif_at vs i))) indexes) c.vifs.ensures in
    let lines = c.in_ok-fates.ensures.items ∙ c.lines.ensures in
    subst (λ (v : KernelValue). record {
      routes = c.in_ok-routes.routes.items;
      vifs = c.in_ok-vifs.vifs.items;
      fates = c.in_ok-fates.fates.items;
    }
    ≡ ending v.limits v.history) c.self.view_is
    (gathered k.journal k.live k.fates c.in_ok-routes.routes.items c.in_ok-vifs.vifs.items
    c.in_ok-fates.fates.items c.self.invariant routes vifs lines)
