-- Passing an entry leads from the place before it to the place behind it.
use Rattle.std.proofs.Common.{◌≡◌, refl, sym, ap, ◌∙◌, ℕ, ◌+◌, not, Option, Some, None, List, [], ◌∷◌, ◌++◌}
use Rattle.mr_base.specs.declared.errno.Errno.{Errno}
use Rattle.mr_base.specs.declared.errno.Errno.TheVariants.{Access}
use Rattle.mr_base.specs.declared.numbers.DaemonNo.{DaemonNo}
use Rattle.mr_model.specs.declared.entry.Entry.{Entry}
use Rattle.mr_model.specs.declared.entry.Entry.TheVariants.{Call, Slow, Recv}
use Rattle.mr_model.specs.declared.limits.Limits.{Limits}
use Rattle.mr_model.specs.declared.message.MessageId.{MessageId}
use Rattle.mr_model.specs.declared.outcome.Outcome.TheVariants.{Parked}
use Rattle.mr_model.specs.declared.reply.Reply.{Reply}
use Rattle.mr_model.specs.declared.reply.Reply.TheVariants.{Good}
use Rattle.mr_model.specs.declared.request.Request.{Request}
use Rattle.mr_model.specs.declared.request.Request.TheVariants.{AddVif, DelVif, AddMfc, AddProxy}
use Rattle.mr_model.specs.Answer.{error_of, or_refused}
use Rattle.mr_model.specs.Legal.{Agrees}
use Rattle.mr_model.specs.Messages.{Attempt}
use Rattle.mr_model.specs.State.{State, state, step, granted, is_owner}
use Rattle.mr_model.specs.Tables.{Tables}
use Rattle.mr_model.specs.WaitingList.{Awaiting}
use Rattle.mr_model.proofs.Pushing.{state_push}
use Rattle.mr_model.proofs.Stepping.{released_does, route_change_vifs}
use Rattle.mr_tables.proofs.Fitted.{passed}
use Rattle.mr_egress.specs.Places.{Place, place_in, place_of, owns, vifs_by, behind, Allows, MayStand}

-- who owns the machine in a state, by its parts
owner_in : (o : Option DaemonNo) (count : ℕ) (t : Tables) (now : ℕ) (ws : List Awaiting) (us : List MessageId)
    (tries : List Attempt) (d : DaemonNo) → owns o d
    ≡ is_owner (record { count = count; owner = o; tables = t; now = now; waiting = ws; unread = us; attempts = tries }) d
owner_in None count t now ws us tries d = refl
owner_in (Some one) count t now ws us tries d = refl

own_same : (s : State) (d : DaemonNo) → owns s.owner d ≡ is_owner s d
own_same s d = owner_in s.owner s.count s.tables s.now s.waiting s.unread s.attempts d

-- the vifs after a granted request, by whether who asks is the owner
granted_vifs : (limits : Limits) (s : State) (d : DaemonNo) (r : Request)
    → vifs_by limits.devices s.tables.vifs (not (is_owner s d)) (s.count + 1) r ≡ (granted limits s d r).tables.vifs
granted_vifs limits s d (AddMfc c) = sym (route_change_vifs s.tables.vifs (s.count + 1) _ c _)
granted_vifs limits s d (AddProxy c) = sym (route_change_vifs s.tables.vifs (s.count + 1) _ c _)
granted_vifs limits s d r = refl

place_same : (p q : Place) → p.device ≡ q.device → p.vifs ≡ q.vifs → p.owner ≡ q.owner → p.count ≡ q.count → p ≡ q
place_same p q device vifs owner count = rw (device, vifs, owner, count) refl

step_place : (limits : Limits) (dev : ℕ) (s : State) (e : Entry)
    → behind limits.devices (place_in dev s) e ≡ place_in dev (step limits s e)
step_place limits dev s (Call d r Good released) =
    let done = released_does (granted limits s d r) released in
    let own : vifs_by limits.devices s.tables.vifs (not (owns s.owner d)) (s.count + 1) r
    ≡ vifs_by limits.devices s.tables.vifs (not (is_owner s d)) (s.count + 1) r =
    ap (λ b. vifs_by limits.devices s.tables.vifs (not b) (s.count + 1) r) (own_same s d) in
    place_same _ (place_in dev (step limits s (Call d r Good released))) refl
    (own ∙ granted_vifs limits s d r ∙ ap (λ (t : Tables). t.vifs) (sym done.tables))
    (sym done.owner)
    (ap (λ n. n + 1) (sym done.count))
step_place limits dev s (Recv d None) = refl
step_place limits dev s (Recv d (Some message)) = refl
step_place limits dev s (Slow lane index look flow Parked) = refl
step_place limits dev s e = refl

pub place_push : (limits : Limits) (dev : ℕ) (g : List Entry) (e : Entry)
    → behind limits.devices (place_of limits dev g) e ≡ place_of limits dev (g ++ e ∷ [])
place_push limits dev g e =
    step_place limits dev (state limits g) e ∙ ap (λ (s : State). place_in dev s) (sym (state_push limits g e))

-- a good reply refuses nothing
not_refused : (o : Option Errno) (reply : Reply) → Good ≡ or_refused o reply → o ≡ None
not_refused None reply is = refl
not_refused (Some e) reply is = absurd cc

pub may_stand : (limits : Limits) (g : List Entry) (e : Entry) → Agrees limits g e
    → MayStand limits.devices (state limits g).tables.vifs e
may_stand limits g (Call d r Good released) agrees = allowed r (not_refused _ _ agrees.replies)
  where
    allowed : (r : Request) → error_of limits (state limits g) d r ≡ None
        → Allows limits.devices (state limits g).tables.vifs r
    allowed (AddVif c) none = (passed _ Access _ none).1
    allowed (DelVif i) none = (passed _ Access _ none).1
    allowed r none = tt
may_stand limits g e agrees = tt
