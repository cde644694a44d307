-- The packets that wait, and a lane's next packet, as the Slows of a legal history know them.
use Rattle.std.proofs.Common.{◌≡◌, ℕ, ◌+◌, ◌-◌, ◌<◌, ◌≤◌, ◌==◌, ◌&&◌, nat_lt, Bool, true, false}
use Rattle.std.proofs.Common.{not, if◌then◌else◌, Option, Some, None, List, [], ◌∷◌, ◌++◌, filter}
use Rattle.std.proofs.Common.{refl, sym, ap, ◌∙◌, subst, arith}
use Rattle.std.proofs.lemmas.Bool.{eqb-true, eq-eqb}
use Rattle.std.specs.List.{AllByRecursion}
use Rattle.mr_base.specs.declared.numbers.DaemonNo.{DaemonNo}
use Rattle.mr_base.specs.declared.numbers.LaneNo.{LaneNo}
use Rattle.mr_model.specs.declared.entry.Entry.{Entry}
use Rattle.mr_model.specs.declared.entry.Entry.TheVariants.{Call, Slow, Settle, Tick, Recv}
use Rattle.mr_model.specs.declared.entry.Entry.TheVariants.{EndPhase}
use Rattle.mr_model.specs.declared.flow.Flow.{Flow}
use Rattle.mr_model.specs.declared.limits.Limits.{Limits}
use Rattle.mr_model.specs.declared.outcome.Outcome.{Outcome}
use Rattle.mr_model.specs.declared.outcome.Outcome.TheVariants as outcome
use Rattle.mr_model.specs.declared.reply.Reply.TheVariants.{Good}
use Rattle.mr_model.specs.Counts.{length_of}
use Rattle.mr_model.specs.Legal.{Agrees, IsLegal}
use Rattle.mr_model.specs.Past.{index_after, last_index}
use Rattle.mr_model.specs.State.{State, state, step, granted}
use Rattle.mr_model.specs.WaitingList.{Waiter, Awaiting, is_awaiting, park}
use Rattle.mr_model.proofs.Induction.{legal_induction, index_rises}
use Rattle.mr_model.proofs.Pushing.{state_push}
use Rattle.mr_model.proofs.PushingLists.{last_index_push}
use Rattle.mr_model.proofs.Stepping.{released_does}
use Rattle.mr_laws.proofs.WaitingSteps.{KeepsFilter, granted_waiting}
use Rattle.mr_laws.proofs.Shaping.{all_filter, all_push}
use Rattle.mr_kernel.specs.Flows.{slow_flow}

-- what a history knows of a packet, a longer one knows too
pub slow_stays : (h k : List Entry) (lane : LaneNo) (index : ℕ) (flow : Flow)
    → slow_flow h lane index ≡ Some flow → slow_flow (h ++ k) lane index ≡ Some flow
slow_stays [] k lane index flow known = cc
slow_stays (Slow l i look f o ∷ h) k lane index flow known =
    by (l.0 == lane.0 && i == index) known (slow_stays h k lane index flow)
  where
    by : (b : Bool) → (if b then Some f else slow_flow h lane index) ≡ Some flow
        → (slow_flow h lane index ≡ Some flow → slow_flow (h ++ k) lane index ≡ Some flow)
        → (if b then Some f else slow_flow (h ++ k) lane index) ≡ Some flow
    by true known more = known
    by false known more = more known
slow_stays (Call d r reply released ∷ h) k lane index flow known =
    slow_stays h k lane index flow known
slow_stays (Settle l records ∷ h) k lane index flow known = slow_stays h k lane index flow known
slow_stays (Tick d ms ∷ h) k lane index flow known = slow_stays h k lane index flow known
slow_stays (Recv d message ∷ h) k lane index flow known = slow_stays h k lane index flow known
slow_stays (EndPhase ∷ h) k lane index flow known = slow_stays h k lane index flow known

-- what it does not know stands in the rest
pub slow_behind : (h k : List Entry) (lane : LaneNo) (index : ℕ) → slow_flow h lane index ≡ None
    → slow_flow (h ++ k) lane index ≡ slow_flow k lane index
slow_behind [] k lane index none = refl
slow_behind (Slow l i look f o ∷ h) k lane index none =
    by (l.0 == lane.0 && i == index) none (slow_behind h k lane index)
  where
    by : (b : Bool) → (if b then Some f else slow_flow h lane index) ≡ None
        → (slow_flow h lane index ≡ None → slow_flow (h ++ k) lane index ≡ slow_flow k lane index)
        → (if b then Some f else slow_flow (h ++ k) lane index) ≡ slow_flow k lane index
    by true none more = cc
    by false none more = more none
slow_behind (Call d r reply released ∷ h) k lane index none = slow_behind h k lane index none
slow_behind (Settle l records ∷ h) k lane index none = slow_behind h k lane index none
slow_behind (Tick d ms ∷ h) k lane index none = slow_behind h k lane index none
slow_behind (Recv d message ∷ h) k lane index none = slow_behind h k lane index none
slow_behind (EndPhase ∷ h) k lane index none = slow_behind h k lane index none

-- the length of a packet is that of its flow
pub length_known : (h : List Entry) (lane : LaneNo) (index : ℕ) (flow : Flow)
    → slow_flow h lane index ≡ Some flow → length_of h lane index ≡ flow.length
length_known [] lane index flow known = cc
length_known (Slow l i look f o ∷ h) lane index flow known =
    by (l.0 == lane.0 && i == index) known (length_known h lane index flow)
  where
    by : (b : Bool) → (if b then Some f else slow_flow h lane index) ≡ Some flow
        → (slow_flow h lane index ≡ Some flow → length_of h lane index ≡ flow.length)
        → (if b then f.length else length_of h lane index) ≡ flow.length
    by true known more = let same : f ≡ flow = cc in ap (λ (x : Flow). x.length) same
    by false known more = more known
length_known (Call d r reply released ∷ h) lane index flow known =
    length_known h lane index flow known
length_known (Settle l records ∷ h) lane index flow known = length_known h lane index flow known
length_known (Tick d ms ∷ h) lane index flow known = length_known h lane index flow known
length_known (Recv d message ∷ h) lane index flow known = length_known h lane index flow known
length_known (EndPhase ∷ h) lane index flow known = length_known h lane index flow known

-- No Slow has an index above the lane's last one.
slow_one : (l lane : LaneNo) (i index look last : ℕ) (f : Flow) (o : Outcome)
    → index_after lane last (Slow l i look f o) < index
    → slow_flow (Slow l i look f o ∷ []) lane index ≡ None
slow_one l lane i index look last f o above = by (l.0 == lane.0) (i == index) refl above
  where
    by : (a b : Bool) → (i == index) ≡ b → (if a then i else last) < index
        → (if a && b then Some f else None) ≡ None
    by true true so above = let same : i ≡ index = eqb-true i index so in
        absurd (omega (arith, same, above))
    by true false so above = refl
    by false b so above = refl

fresh_step : (g : List Entry) (e : Entry) (lane : LaneNo) (index : ℕ)
    → last_index lane (g ++ e ∷ []) < index → slow_flow (e ∷ []) lane index ≡ None
fresh_step g (Slow l i look f o) lane index above =
    slow_one l lane i index look (last_index lane g) f o
    (subst (λ n. n < index) (last_index_push lane g (Slow l i look f o)) above)
fresh_step g (Call d r reply released) lane index above = refl
fresh_step g (Settle l records) lane index above = refl
fresh_step g (Tick d ms) lane index above = refl
fresh_step g (Recv d message) lane index above = refl
fresh_step g EndPhase lane index above = refl

pub slow_fresh : (limits : Limits) (lane : LaneNo) (index : ℕ) (h : List Entry)
    → IsLegal limits h → last_index lane h < index → slow_flow h lane index ≡ None
slow_fresh limits lane index h legal above =
    (legal_induction limits (λ g. last_index lane g < index → slow_flow g lane index ≡ None)
    (λ above. refl)
    (λ g e legal a more above.
    let rises = index_rises limits g e lane a in
    slow_behind g (e ∷ []) lane index (more (omega (arith, rises, above)))
    ∙ fresh_step g e lane index above)
    h legal) above

-- so a lane's next packet is known by its own Slow
pub slow_own : (limits : Limits) (h : List Entry) (lane : LaneNo) (index look : ℕ) (flow : Flow)
    (o : Outcome) → IsLegal limits h → last_index lane h < index
    → slow_flow (h ++ Slow lane index look flow o ∷ []) lane index ≡ Some flow
slow_own limits h lane index look flow o legal above =
    slow_behind h (Slow lane index look flow o ∷ []) lane index
    (slow_fresh limits lane index h legal above)
    ∙ own (lane.0 == lane.0) (index == index) (eq-eqb lane.0 lane.0 refl)
    (eq-eqb index index refl)
  where
    own : (a b : Bool) → a ≡ true → b ≡ true → (if a && b then Some flow else None) ≡ Some flow
    own true true p q = refl
    own true false p q = cc
    own false b p q = cc

pub all_more : {X : Type 0} (P Q : X → Type 0) (xs : List X) → ((x : X) → P x → Q x)
    → AllByRecursion P xs → AllByRecursion Q xs
all_more P Q [] more all = tt
all_more P Q (x ∷ xs) more all = (more x all.0, all_more P Q xs more all.1)

-- each packet that waits has the flow of its Slow
abbrev pub IsSlow : List Entry → Waiter → Type 0
IsSlow h w = slow_flow h w.lane w.index ≡ Some w.flow

abbrev pub AreSlows : List Entry → List Awaiting → Type 0
AreSlows h ws = AllByRecursion (λ a. AllByRecursion (IsSlow h) a.packets) ws

slows_stay : (h k : List Entry) (ws : List Awaiting) → AreSlows h ws → AreSlows (h ++ k) ws
slows_stay h k ws all =
    all_more (λ a. AllByRecursion (IsSlow h) a.packets)
    (λ a. AllByRecursion (IsSlow (h ++ k)) a.packets) ws
    (λ a own. all_more (IsSlow h) (IsSlow (h ++ k)) a.packets
    (λ w known. slow_stays h k w.lane w.index w.flow known) own) all

slows_park : (h : List Entry) (now : ℕ) (w : Waiter) (ws : List Awaiting) → IsSlow h w
    → AreSlows h ws → AreSlows h (park ws now w)
slows_park h now w [] known all = ((known, tt), tt)
slows_park h now w (a ∷ ws) known all =
    by (is_awaiting w.flow.src w.flow.dst a) (slows_park h now w ws known all.1)
  where
    by : (b : Bool) → AreSlows h (park ws now w)
        → AreSlows h (if b then record a { packets = a.packets ++ w ∷ [] } ∷ ws
        else a ∷ park ws now w)
    by true more = (all_push (IsSlow h) a.packets w all.0 known, all.1)
    by false more = (all.0, more)

slows_step : (limits : Limits) (g : List Entry) (e : Entry) → IsLegal limits g
    → Agrees limits g e → AreSlows (g ++ e ∷ []) (state limits g).waiting
    → AreSlows (g ++ e ∷ []) (step limits (state limits g) e).waiting
slows_step limits g (Call d r Good released) legal a all =
    subst (λ (ws : List Awaiting). AreSlows (g ++ Call d r Good released ∷ []) ws)
    (sym (released_does (granted limits (state limits g) d r) released).waiting)
    (granted_waiting limits (state limits g) d r (AreSlows (g ++ Call d r Good released ∷ [])) tt
    (all_filter (λ a. AllByRecursion (IsSlow (g ++ Call d r Good released ∷ [])) a.packets))
    all)
slows_step limits g (Slow lane index look flow outcome.Parked) legal a all =
    slows_park (g ++ Slow lane index look flow outcome.Parked ∷ []) (state limits g).now
    (record { lane = lane; index = index; flow = flow }) (state limits g).waiting
    (slow_own limits g lane index look flow outcome.Parked legal a.next) all
slows_step limits g (Tick d ms) legal a all =
    all_filter (λ a. AllByRecursion (IsSlow (g ++ Tick d ms ∷ [])) a.packets)
    (λ a. nat_lt ((state limits g).now + ms - a.since) 10000) (state limits g).waiting all
slows_step limits g (Recv d None) legal a all = all
slows_step limits g (Recv d (Some m)) legal a all = all
slows_step limits g e legal a all = all

pub waiters_known : (limits : Limits) (h : List Entry) → IsLegal limits h
    → AreSlows h (state limits h).waiting
waiters_known limits h legal =
    legal_induction limits (λ g. AreSlows g (state limits g).waiting) tt
    (λ g e legal a all. subst (λ (s : State). AreSlows (g ++ e ∷ []) s.waiting)
    (sym (state_push limits g e))
    (slows_step limits g e legal a (slows_stay g (e ∷ []) (state limits g).waiting all)))
    h legal
