-- What a daemon with a machine did in a phase, as the history has it then.
use Rattle.std.proofs.Common.{◌≡◌, ◌∙◌, ℕ, ◌==◌, ◌&&◌, Bool, true, false, Option, Some, None, List, [], ◌∷◌, ◌++◌, refl, sym, ap, ap₂, arith, append-nil, subst}
use Rattle.std.proofs.lemmas.Grind.{flat_map-append}
use Rattle.std.proofs.lemmas.List.{append_cancel_left}
use Rattle.std.specs.Prelude.{flat_map, if◌then◌else◌, option_map}
use mathlib.Core.List.{IsPrefix}
use Rattle.mr_authors.specs.Authors.{author, daemon_author, own}
use Rattle.mr_base.specs.declared.numbers.DaemonNo.{DaemonNo}
use Rattle.mr_base.specs.declared.numbers.LaneNo.{LaneNo}
use Rattle.mr_callers.proofs.Doing.{own_append}
use Rattle.mr_callers.proofs.Owning.{deeds_none, flat_own}
use Rattle.mr_kernel.specs.Flows as kernel
use Rattle.mr_model.specs.declared.entry.Entry.{Entry}
use Rattle.mr_model.specs.declared.entry.Entry.TheVariants.{Call, Slow, Settle, Tick, Recv, EndPhase}
use Rattle.mr_model.specs.declared.flow.Flow.{Flow}
use Rattle.mr_model.specs.declared.message.MessageId.{MessageId}
use Rattle.mr_model.specs.Deeds.{Deed, Received}
use Rattle.mr_replay.specs.Daemons.{at_daemon, made_by}
use Rattle.mr_replay.specs.Turns.{HasSeenOn}
use Rattle.mr_replay.proofs.Phasing.{none_own}
use Rattle.mr_router.specs.Callers.{DaemonValue}
use Rattle.mr_router.specs.Deeds as router
use Rattle.mr_router.proofs.Hearing.{deeds_stay}
use Rattle.smc_daemon.specs.Deeds as daemon

-- both know the same Slow of a packet
flow_step : (b : Bool) (flow : Flow) (g h : Option Flow) → g ≡ h → (if b then Some flow else g) ≡ (if b then Some flow else h)
flow_step b flow g h same = ap (λ (o : Option Flow). if b then Some flow else o) same

flows_same : (h : List Entry) (lane : LaneNo) (index : ℕ) → daemon.slow_flow h lane index ≡ kernel.slow_flow h lane index
flows_same [] lane index = refl
flows_same (Call d r reply released ∷ h) lane index = flows_same h lane index
flows_same (Slow l i look flow o ∷ h) lane index =
    flow_step (l.0 == lane.0 && i == index) flow (daemon.slow_flow h lane index) (kernel.slow_flow h lane index) (flows_same h lane index)
flows_same (Settle l records ∷ h) lane index = flows_same h lane index
flows_same (Tick d ms ∷ h) lane index = flows_same h lane index
flows_same (Recv d message ∷ h) lane index = flows_same h lane index
flows_same (EndPhase ∷ h) lane index = flows_same h lane index

told_by_same : (m : MessageId) (o : Option Flow) → daemon.told_by m o ≡ router.told_by m o
told_by_same m (Some flow) = refl
told_by_same m None = refl

told_same : (h : List Entry) (m : MessageId) → daemon.told h m ≡ router.told h m
told_same h m = ap (daemon.told_by m) (flows_same h m.lane m.index) ∙ told_by_same m (kernel.slow_flow h m.lane m.index)

heard_same : (h : List Entry) (message : Option MessageId) → option_map (daemon.told h) message ≡ router.told_of h message
heard_same h None = refl
heard_same h (Some m) = ap Some (told_same h m)

-- an entry of the daemon itself is the same to both
its_own : (d n : ℕ) → (daemon_author n == daemon_author d) ≡ true → (n == d) ≡ true
its_own d n same = grind (arith, same)

entry_same : (d : ℕ) (h : List Entry) (e : Entry) → (author e == daemon_author d) ≡ true → daemon.deeds_in d h e ≡ router.deeds_in h e
entry_same d h (Call c r reply released) its = rw (its_own d c.0 its) refl
entry_same d h (Slow l i look flow o) its = refl
entry_same d h (Settle l records) its = refl
entry_same d h (Tick c ms) its = rw (its_own d c.0 its) refl
entry_same d h (Recv c message) its = rw (its_own d c.0 its) (ap (λ x. Received x ∷ []) (heard_same h message))
entry_same d h EndPhase its = refl

own_same : (d : ℕ) (h es : List Entry) → flat_map (daemon.deeds_in d h) (own (daemon_author d) es) ≡ flat_map (router.deeds_in h) (own (daemon_author d) es)
own_same d h [] = refl
own_same d h (e ∷ es) = by_test (author e == daemon_author d) refl (own_same d h es)
  where
    by_test : (b : Bool) → (author e == daemon_author d) ≡ b → flat_map (daemon.deeds_in d h) (own (daemon_author d) es) ≡ flat_map (router.deeds_in h) (own (daemon_author d) es) → flat_map (daemon.deeds_in d h) (own (daemon_author d) (e ∷ es)) ≡ flat_map (router.deeds_in h) (own (daemon_author d) (e ∷ es))
    by_test true is rest = rw is (ap₂ (λ xs ys. xs ++ ys) (entry_same d h e is) rest)
    by_test false is rest = rw is rest

-- what the daemon did in the phase is what its deeds have more
pub did_is : (d : ℕ) (h part new : List Entry) (mid : DaemonValue) (more : List Deed) → new ≡ (h ++ part) ++ EndPhase ∷ [] → HasSeenOn (at_daemon d h) mid
    → own (daemon_author mid.daemon.0) new ≡ made_by mid → IsPrefix mid.seen (h ++ part) → router.deeds mid ≡ router.deeds (at_daemon d h) ++ more → daemon.did d h part ≡ more
did_is d h part new mid more is seen known begins grew =
    sym (flat_own (daemon.deeds_in d g) a (deeds_none d g) part) ∙ own_same d g part
    ∙ append_cancel_left (flat_map (router.deeds_in g) (own a h)) (flat_map (router.deeds_in g) (own a part)) more both
  where
    a : ℕ
    a = daemon_author d

    g : List Entry
    g = h ++ part

    number : mid.daemon.0 ≡ d
    number = ap (λ (n : DaemonNo). n.0) seen.went_on.daemon

    all : own a g ≡ made_by mid
    all =
        sym (ap (own a) is ∙ own_append a g (EndPhase ∷ []) ∙ ap (λ (es : List Entry). own a g ++ es) (none_own a (omega arith)) ∙ append-nil (own a g))
        ∙ subst (λ (n : ℕ). own (daemon_author n) new ≡ made_by mid) number known

    before : flat_map (router.deeds_in g) (own a h) ≡ router.deeds (at_daemon d h)
    before = deeds_stay h g (own a h) (part, refl) seen.knew

    now : flat_map (router.deeds_in g) (made_by mid) ≡ router.deeds mid
    now = deeds_stay mid.seen g (made_by mid) begins seen.knows

    both : flat_map (router.deeds_in g) (own a h) ++ flat_map (router.deeds_in g) (own a part) ≡ flat_map (router.deeds_in g) (own a h) ++ more
    both =
        sym (flat_map-append (router.deeds_in g) (own a h) (own a part)) ∙ ap (flat_map (router.deeds_in g)) (sym (own_append a h part) ∙ all)
        ∙ now ∙ grew ∙ ap (λ (xs : List Deed). xs ++ more) (sym before)
