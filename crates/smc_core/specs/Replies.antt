-- Replies: all requests of a plan are made, whatever the replies.
use Rattle.std.specs.Prelude.{ℕ, ◌-◌, ◌==◌, Bool, true, false, if◌then◌else◌}
use Rattle.std.specs.Prelude.{Option, Some, None, List, [], ◌∷◌, codes, decimal, length, take}
use Rattle.mr_base.specs.Errnos.{number_of}
use Rattle.mr_base.specs.declared.errno.Errno.{Errno}
use Rattle.mr_model.specs.declared.reply.Reply.{Reply}
use Rattle.mr_model.specs.declared.reply.Reply.TheVariants as answer
use Rattle.smc_core.specs.Machine.{Machine, Turn, silent, saying}
use Rattle.smc_words.specs.Words.{line, ok_line}
use Rattle.smc_rules.specs.declared.learned.Learned.{Learned}
use Rattle.smc_core.specs.declared.plan.Plan.{Plan}

-- the first error among replies
abbrev pub first_error : Option Errno → Reply → Option Errno
first_error (Some e) r = Some e
first_error None (answer.Refused e) = Some e
first_error None r = None

-- one reply less is waited for
abbrev pub plan_after : Plan → Reply → Plan
plan_after p r = record p { left = p.left - 1; refused = first_error p.refused r }

-- the text of a command with its last reply
abbrev pub outcome_text : Option Errno → List ℕ
outcome_text None = ok_line
outcome_text (Some e) = line (codes "error" ∷ decimal (number_of e) ∷ [])

-- A route that the kernel refuses is taken off the learned ones again; it is the last of them.
abbrev pub kept : Option Errno → List Learned → List Learned
kept None ls = ls
kept (Some e) ls = take (length ls - 1) ls

abbrev pub settled : Machine → Bool → Option Errno → Turn
settled m true refused = silent (record m { learned = kept refused m.learned })
settled m false refused = saying m (outcome_text refused)

-- what the machine does once its plan is so
abbrev pub followed : Machine → Turn
followed m = if m.plan.left == 0 then settled m m.plan.learning m.plan.refused else silent m

abbrev pub reply : Machine → Reply → Turn
reply m r = followed (record m { plan = plan_after m.plan r })
