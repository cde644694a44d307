-- What a packet that is decided needs of the machine, and what it leaves.
use Rattle.std.proofs.Common.{◌≡◌, ℕ, ◌+◌, ◌-◌, ◌<◌, ◌≤◌, List, [], ◌∷◌, ◌++◌, length, slice_index}
use Rattle.std.proofs.Common.{refl, sym, ap, ◌∙◌, subst, arith}
use Rattle.std.specs.List.{AllByRecursion}
use Rattle.mr_base.specs.declared.numbers.LaneNo.{LaneNo}
use Rattle.mr_model.specs.declared.ending.FateLine.{FateLine}
use Rattle.mr_model.specs.declared.flow.Flow.{Flow}
use Rattle.mr_model.specs.declared.limits.Limits.{Limits}
use Rattle.mr_model.specs.declared.outcome.Outcome.{Outcome}
use Rattle.mr_model.specs.Fate.{fates}
use Rattle.mr_model.specs.Legal.{packets_given}
use Rattle.mr_model.specs.Outcome.{outcome_in}
use Rattle.mr_model.specs.Past.{last_index, packets}
use Rattle.mr_model.specs.State.{State, state}
use Rattle.mr_model.specs.WaitingList.{Awaiting}
use Rattle.mr_fates.specs.Lines.{FateList, IsNext, lane_count}
use Rattle.mr_fates.proofs.Laning.{lane_next, lane_fits}
use Rattle.mr_history.specs.Journals.{JournalValue, NamesUpTo}
use Rattle.mr_laws.specs.Shape.{IsYoung}
use Rattle.mr_laws.proofs.Shaping.{legal_timely}
use Rattle.mr_unres.specs.Entries.{NoneAfter, awaiting}
use Rattle.mr_kernel.specs.declared.live.Live.{Live}
use Rattle.mr_kernel.specs.Holding.{Holds}
use Rattle.mr_kernel.proofs.Known.{all_more}
use Rattle.mr_kernel.proofs.Naming.{named_outcome, named_more}

pub slow_named : (j : JournalValue) (l : Live) (f : FateList) (flow : Flow) (o : Outcome)
    → Holds j l f → o ≡ outcome_in j.limits (state j.limits j.entries) flow
    → NamesUpTo (length j.entries + 1) o
slow_named j l f flow o h is =
    named_more (length j.entries) (length j.entries + 1) o (omega arith)
    (subst (λ (x : Outcome). NamesUpTo (length j.entries) x) (sym is)
    (named_outcome j.limits j.entries flow))

pub slow_next : (j : JournalValue) (l : Live) (f : FateList) (lane : LaneNo) (index : ℕ)
    → Holds j l f → last_index lane j.entries < index → IsNext lane index f.lines
slow_next j l f lane index h next =
    rw (h.fates) (lane_next j.limits j.entries lane index h.legal next)

pub slow_room : (j : JournalValue) (l : Live) (f : FateList) (lane : LaneNo) → Holds j l f
    → packets lane j.entries < packets_given j.limits lane
    → lane_count lane f.lines < slice_index f.packets (lane.0 - 1)
slow_room j l f lane h room =
    rw (h.fates, h.lanes) (let fit = lane_fits j.limits j.entries lane in omega (arith, fit, room))

-- no waiting entry is of a later moment
pub waits_young : (j : JournalValue) (l : Live) (f : FateList) → Holds j l f
    → NoneAfter l.moment (awaiting l.waiting.entries)
waits_young j l f h =
    let s = state j.limits j.entries in
    let timely = legal_timely j.limits j.entries h.legal in
    rw (h.stands.moment, h.stands.waiting)
    (all_more (IsYoung s.now) (λ a. a.since ≤ s.now) s.waiting
    (λ a young. young.0) timely.young)
