-- Whether an entry serves the packets that wait.
use Rattle.std.specs.Prelude.{Bool, List}
use Rattle.std.specs.List.{list_any}
use Rattle.mr_base.specs.declared.route.Route.{Route}
use Rattle.mr_model.specs.RouteList.{is_entry}
use Rattle.mr_model.specs.WaitingList.{Awaiting}

-- an (S,G) entry of the source and group for which the packets wait is live
abbrev pub is_served : List Route → Awaiting → Bool
is_served routes a = list_any (is_entry a.src a.dst) routes
