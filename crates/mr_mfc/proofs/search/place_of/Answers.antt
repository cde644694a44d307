use Rattle.std.proofs.Common.{arith}
use Rattle.mr_model.specs.RouteList.{has_number}
use Rattle.mr_mfc.proofs.Places.{place_found}
use Rattle.mr_mfc.proofs.search.place_of.Goals as goal

pub unreachable-requires : goal.unreachable-requires
unreachable-requires c = grind (arith, place_found (has_number c.args.number) c.args.routes.now c.requires)

pub returns-clause-first : goal.returns-clause-first
returns-clause-first c = grind (arith, place_found (has_number c.args.number) c.args.routes.now c.requires)
