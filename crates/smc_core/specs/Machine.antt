-- The routing machine as a value, and what a step of it gives.
use Rattle.std.specs.Prelude.{ℕ, Bool, false, None, List, [], ◌∷◌, length}
use Rattle.mr_model.specs.declared.request.Request.{Request}
use Rattle.smc_conf.specs.declared.conf.Conf.{Conf}
use Rattle.smc_rules.specs.Settings.{SettingsValue}
use Rattle.smc_rules.specs.declared.learned.Learned.{Learned}
use Rattle.smc_words.specs.Words.{Word, ok_line}
use Rattle.smc_core.specs.declared.plan.Plan.{Plan}

pub record Machine : Type 0 where
  -- the devices in order; their numbers are 1, 2, ..
  pub names : List Word
  pub confs : List Conf
  -- which of them was taken last, from 0
  pub place : ℕ
  pub running : Bool
  -- what it set, as commands have changed it since
  pub settings : SettingsValue
  -- the routes that were made for reports, oldest first
  pub learned : List Learned
  pub plan : Plan

-- What an input gives: the machine behind it, the requests that are now to be made, and a text.
pub record Turn : Type 0 where
  pub machine : Machine
  pub requests : List Request
  pub text : List ℕ

-- nothing is asked, and nothing is said
abbrev pub silent : Machine → Turn
silent m = record { machine = m; requests = []; text = [] }

-- a text at once
abbrev pub saying : Machine → List ℕ → Turn
saying m text = record { machine = m; requests = []; text = text }

abbrev pub with_plan : Machine → ℕ → Bool → Machine
with_plan m n learning =
    record m { plan = record { left = n; refused = None; learning = learning } }

-- A command that makes no requests answers at once, and else with the last reply.
abbrev pub text_at_once : List Request → List ℕ
text_at_once [] = ok_line
text_at_once (r ∷ rs) = []

abbrev pub asking : Machine → List Request → Turn
asking m rs = record {
  machine = with_plan m (length rs) false;
  requests = rs;
  text = text_at_once rs;
}
