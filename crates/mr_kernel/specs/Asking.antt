-- Who may ask for what sets tables, and why it is refused.
use Rattle.std.specs.Prelude.{ℕ, ◌||◌, Bool, not, Option, Some, None, List}
use Rattle.mr_base.specs.declared.numbers.DaemonNo.{DaemonNo}
use Rattle.mr_model.specs.declared.limits.Limits.{Limits}
use Rattle.mr_model.specs.declared.request.Request.{Request}
use Rattle.mr_model.specs.declared.request.Request.TheVariants.{Finish}
use Rattle.mr_model.specs.Answer.{is_admin}
use Rattle.mr_model.specs.State.{State, is_owner}

-- MRT_DONE is for the owner alone, all else for admins too
abbrev pub may_ask : Limits → State → DaemonNo → Request → Bool
may_ask limits s d Finish = is_owner s d
may_ask limits s d r = is_owner s d || is_admin limits d
