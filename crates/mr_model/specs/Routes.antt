-- The routes after a history, newest first.
use Rattle.std.specs.Prelude.{List}
use Rattle.mr_base.specs.declared.route.Route.{Route}
use Rattle.mr_model.specs.declared.entry.Entry.{Entry}
use Rattle.mr_model.specs.declared.limits.Limits.{Limits}
use Rattle.mr_model.specs.State.{state}

abbrev pub routes : Limits → List Entry → List Route
routes limits h = (state limits h).tables.routes
