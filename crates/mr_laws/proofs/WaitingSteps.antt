-- What holds of the waiting list holds after one more entry, where filtering keeps it and parking does.
use Rattle.std.proofs.Common.{ℕ, ◌+◌, ◌-◌, nat_lt, Bool, true, false, not, if◌then◌else◌, Some, None, List, [], filter, sym, subst}
use Rattle.mr_base.specs.declared.numbers.DaemonNo.{DaemonNo}
use Rattle.mr_base.specs.declared.numbers.LaneNo.{LaneNo}
use Rattle.mr_model.specs.declared.entry.Entry.{Entry}
use Rattle.mr_model.specs.declared.entry.Entry.TheVariants.{Call, Slow, Tick, Recv}
use Rattle.mr_model.specs.declared.flow.Flow.{Flow}
use Rattle.mr_model.specs.declared.limits.Limits.{Limits}
use Rattle.mr_model.specs.declared.outcome.Outcome.TheVariants as outcome
use Rattle.mr_model.specs.declared.reply.Reply.TheVariants.{Good}
use Rattle.mr_model.specs.declared.request.Request.{Request}
use Rattle.mr_model.specs.declared.request.Request.TheVariants.{Finish, Flush, AddMfc, AddProxy}
use Rattle.mr_model.specs.Legal.{Agrees, IsLegal}
use Rattle.mr_model.specs.State.{State, state, step, granted, is_there}
use Rattle.mr_model.specs.VifList.{has_flag}
use Rattle.mr_model.specs.WaitingList.{Awaiting, is_awaiting, park, without_awaiting}
use Rattle.mr_model.proofs.Induction.{state_induction}
use Rattle.mr_model.proofs.Stepping.{released_does}

-- a part of the list
abbrev pub KeepsFilter : (List Awaiting → Type 0) → Type 0
KeepsFilter P = (test : Awaiting → Bool) (ws : List Awaiting) → P ws → P (filter test ws)

abbrev pub KeepsPark : Limits → List Entry → (List Awaiting → Type 0) → Type 0
KeepsPark limits g P =
    (lane : LaneNo) (index look : ℕ) (flow : Flow) → Agrees limits g (Slow lane index look flow outcome.Parked) → P (state limits g).waiting → P (park (state limits g).waiting (state limits g).now (record { lane = lane; index = index; flow = flow }))

pub granted_waiting : (limits : Limits) (s : State) (d : DaemonNo) (r : Request) (P : List Awaiting → Type 0) → P [] → KeepsFilter P → P s.waiting → P (granted limits s d r).waiting
granted_waiting limits s d Finish P none part p = none
granted_waiting limits s d (Flush bits) P none part p =
    elim (has_flag bits 1) as (λ b. P (if b then [] else s.waiting)) [ true ↦ none | false ↦ p ]
granted_waiting limits s d (AddMfc c) P none part p =
    elim (is_there s c None) as (λ b. P (if b then s.waiting else without_awaiting s.waiting c.src c.dst)) [ true ↦ p | false ↦ part (λ a. not (is_awaiting c.src c.dst a)) s.waiting p ]
granted_waiting limits s d (AddProxy c) P none part p =
    elim (is_there s c (Some c.parent)) as (λ b. P (if b then s.waiting else without_awaiting s.waiting c.src c.dst)) [ true ↦ p | false ↦ part (λ a. not (is_awaiting c.src c.dst a)) s.waiting p ]
granted_waiting limits s d r P none part p = p

pub waiting_step : (limits : Limits) (g : List Entry) (e : Entry) (P : List Awaiting → Type 0) → P [] → KeepsFilter P → KeepsPark limits g P → Agrees limits g e → P (state limits g).waiting → P (step limits (state limits g) e).waiting
waiting_step limits g (Call d r Good released) P none part parks a p =
    subst (λ (ws : List Awaiting). P ws) (sym (released_does (granted limits (state limits g) d r) released).waiting)
    (granted_waiting limits (state limits g) d r P none part p)
waiting_step limits g (Slow lane index look flow outcome.Parked) P none part parks a p = parks lane index look flow a p
waiting_step limits g (Tick d ms) P none part parks a p = part (λ a. nat_lt ((state limits g).now + ms - a.since) 10000) (state limits g).waiting p
waiting_step limits g (Recv d None) P none part parks a p = p
waiting_step limits g (Recv d (Some m)) P none part parks a p = p
waiting_step limits g e P none part parks a p = p

-- What holds of the empty list, of each part of a list, and after parking, holds of the waiting list of each legal history.
pub waiting_induction : (limits : Limits) (P : List Awaiting → Type 0) → P [] → KeepsFilter P → ((g : List Entry) → IsLegal limits g → KeepsPark limits g P) → (h : List Entry) → IsLegal limits h → P (state limits h).waiting
waiting_induction limits P none part parks h l =
    state_induction limits (λ s. P s.waiting) none (λ g e legal a p. waiting_step limits g e P none part (parks g legal) a p) h l
