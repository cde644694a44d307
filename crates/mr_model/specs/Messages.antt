-- What an outcome tells the owner, and which attempts it makes (ipmr.c, ipmr_cache_report and ip_mr_forward).
use Rattle.std.specs.Prelude.{ℕ, ◌==◌, true, false, Option, unwrap_or, option_map, List, [], ◌∷◌, find}
use Rattle.mr_base.specs.declared.numbers.LaneNo.{LaneNo}
use Rattle.mr_base.specs.declared.vif_record.VifRecord.{VifRecord}
use Rattle.mr_model.specs.declared.message.Kind.TheVariants.{NoCache, WrongVif, WholePkt}
use Rattle.mr_model.specs.declared.message.MessageId.{MessageId}
use Rattle.mr_model.specs.declared.outcome.Outcome.{Outcome}
use Rattle.mr_model.specs.declared.outcome.Outcome.TheVariants as outcome
use Rattle.mr_model.specs.declared.outcome.Report.TheVariants as report
use Rattle.mr_model.specs.VifList.{register_vif}

-- The report that a decided packet pushes: WHOLEPKT for a copy on the register vif that was told, WRONGVIF for a wrong
-- interface that was. (A packet that is parked may push NOCACHE, which the waiting packets decide.)
abbrev pub told_by : List VifRecord → LaneNo → ℕ → Outcome → List MessageId
told_by vifs lane index (outcome.Forward entry input outs) = []
told_by vifs lane index (outcome.Register entry input outs false) = []
told_by vifs lane index (outcome.Register entry input outs true) =
    record { kind = WholePkt; vif = unwrap_or (register_vif vifs) 0; lane = lane; index = index } ∷ []
told_by vifs lane index (outcome.Wrong entry vif report.Quiet) = []
told_by vifs lane index (outcome.Wrong entry vif report.Lost) = []
told_by vifs lane index (outcome.Wrong entry vif report.Told) =
    record { kind = WrongVif; vif = unwrap_or vif 0; lane = lane; index = index } ∷ []
told_by vifs lane index outcome.Parked = []
told_by vifs lane index (outcome.Dropped cause) = []

-- the report of a packet that makes a waiting entry
abbrev pub no_cache : ℕ → LaneNo → ℕ → MessageId
no_cache vif lane index = record { kind = NoCache; vif = vif; lane = lane; index = index }

-- an attempt to report a wrong interface: the entry that was met, and the moment
pub record Attempt : Type 0 where
  pub entry : ℕ
  pub moment : ℕ

-- the attempt that an outcome makes, told or lost
abbrev pub attempts_by : ℕ → Outcome → List Attempt
attempts_by now (outcome.Forward entry input outs) = []
attempts_by now (outcome.Register entry input outs told) = []
attempts_by now (outcome.Wrong entry vif report.Quiet) = []
attempts_by now (outcome.Wrong entry vif report.Told) = record { entry = entry; moment = now } ∷ []
attempts_by now (outcome.Wrong entry vif report.Lost) = record { entry = entry; moment = now } ∷ []
attempts_by now outcome.Parked = []
attempts_by now (outcome.Dropped cause) = []

-- the moment of the last attempt for an entry, in a list with the newest first
abbrev pub last_attempt : List Attempt → ℕ → Option ℕ
last_attempt attempts entry = option_map (λ a. a.moment) (find (λ a. a.entry == entry) attempts)
