-- What a call would come to: an answer, or a change of the tables.
use Rattle.std.specs.Prelude.{ℕ, ◌+◌, ◌||◌, Bool, not, Option, Some, None, List, length}
use Rattle.mr_base.specs.declared.errno.Errno.{Errno}
use Rattle.mr_base.specs.declared.numbers.DaemonNo.{DaemonNo}
use Rattle.mr_model.specs.declared.change.What.{What}
use Rattle.mr_model.specs.declared.limits.Limits.{Limits}
use Rattle.mr_model.specs.declared.reply.Reply.{Reply}
use Rattle.mr_model.specs.declared.reply.Reply.TheVariants.{Refused}
use Rattle.mr_model.specs.declared.request.Request.{Request}
use Rattle.mr_model.specs.Answer.{error_of, value_of}
use Rattle.mr_model.specs.Granting.{what_of, numbered}
use Rattle.mr_model.specs.State.{State, state, is_owner}
use Rattle.mr_kernel.specs.declared.plan.Plan.{Plan}
use Rattle.mr_kernel.specs.declared.plan.Plan.TheVariants.{Answer, Tables}
use Rattle.mr_kernel.specs.Values.{KernelValue}

-- A request that is refused, or changes no tables, is answered; else the change has the number
-- of the call.
abbrev pub plan_by : ℕ → Reply → Option Errno → Option What → Plan
plan_by n value (Some errno) what = Answer (Refused errno)
plan_by n value None (Some what) = Tables (numbered n what)
plan_by n value None None = Answer value

abbrev pub plan : KernelValue → DaemonNo → Request → Plan
plan k d r =
    let s = state k.limits k.history in
    plan_by
    (length k.history + 1)
    (value_of k.history s r)
    (error_of k.limits s d r)
    (what_of k.limits.devices s.tables (not (is_owner s d)) r)
