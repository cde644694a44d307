-- Requests whose vif or parent has a number that a vif may have.
use Rattle.std.specs.Prelude.{◌<◌}
use Rattle.mr_model.specs.declared.request.Request.{Request}
use Rattle.mr_model.specs.declared.request.Request.TheVariants.{AddVif, DelVif, AddMfc, AddProxy}

-- the vif or the parent of a request is one that there may be
abbrev pub IsSmall : Request → Type 0
IsSmall (AddVif c) = c.vif < 32
IsSmall (DelVif i) = i < 32
IsSmall (AddMfc c) = c.parent < 32
IsSmall (AddProxy c) = c.parent < 32
IsSmall _ = Unit {0}
