use Rattle.std.proofs.Common.{◌∙◌, ◌&&◌, find, ap, List}
use Rattle.mr_model.specs.RouteList.{is_entry}
use Rattle.mr_plain_lists.specs.declared.slots.Slot.{Slot}
use Rattle.mr_plain_lists.specs.Finding.{RoutesValue}
use Rattle.mr_plain_lists.specs.Indexed.{newest_first}
use Rattle.mr_plain_lists.proofs.routes.Routes.first.Goals as goal

pub returns : goal.returns
returns g c = λ t answers. c.first_from.ensures t answers ∙ ap (λ (xs : List Slot). find (λ r. is_entry c.args.src c.args.dst r && t r) (newest_first xs)) c.as_slice.ensures.value
    ∙ ap (λ (v : RoutesValue). find (λ r. is_entry c.args.src c.args.dst r && t r) v.items) c.self.view_is
