-- The Slow of a packet stays where it stands as the history grows, and so do what a daemon heard and did.
use Rattle.std.proofs.Common.{◌≡◌, ℕ, ◌==◌, ◌&&◌, Option, Some, None, IfSome, option_map, List, [], ◌∷◌, ◌++◌, Bool, true, false, flat_map, refl, sym, ap, ap₂, subst, ◌∙◌, if◌then◌else◌}
use mathlib.Core.List.{IsPrefix}
use Rattle.std.specs.List.{AllByRecursion}
use Rattle.mr_base.specs.declared.numbers.DaemonNo.{DaemonNo}
use Rattle.mr_base.specs.declared.numbers.LaneNo.{LaneNo}
use Rattle.mr_kernel.specs.Flows.{slow_flow, IsKnown, IsHeadOf, flow_of, flow_by}
use Rattle.mr_base.specs.declared.head.Head.{Head}
use Rattle.mr_model.specs.declared.entry.Entry.{Entry}
use Rattle.mr_model.specs.declared.entry.Entry.TheVariants.{Call, Slow, Settle, Tick, Recv, EndPhase}
use Rattle.mr_model.specs.declared.flow.Flow.{Flow}
use Rattle.mr_model.specs.declared.message.MessageId.{MessageId}
use Rattle.mr_model.specs.declared.packet.Freed.{Freed}
use Rattle.mr_model.specs.Deeds.{Deed, Received}
use Rattle.mr_upcall.specs.declared.upcall.Upcall.{Upcall}
use Rattle.mr_router.specs.Deeds.{told, told_by, told_of, deeds_in, IsHeard, AllHeard}

slow_step : (b : Bool) (own flow : Flow) (g h : Option Flow) → (g ≡ Some flow → h ≡ Some flow) → (if b then Some own else g) ≡ Some flow → (if b then Some own else h) ≡ Some flow
slow_step true own flow g h rest is = is
slow_step false own flow g h rest is = rest is

slow_more : (g t : List Entry) (lane : LaneNo) (index : ℕ) (flow : Flow) → slow_flow g lane index ≡ Some flow → slow_flow (g ++ t) lane index ≡ Some flow
slow_more [] t lane index flow is = absurd (cc is)
slow_more (Call d r reply released ∷ g) t lane index flow is = slow_more g t lane index flow is
slow_more (Slow l i look own o ∷ g) t lane index flow is =
    slow_step (l.0 == lane.0 && i == index) own flow (slow_flow g lane index) (slow_flow (g ++ t) lane index) (slow_more g t lane index flow) is
slow_more (Settle l records ∷ g) t lane index flow is = slow_more g t lane index flow is
slow_more (Tick d ms ∷ g) t lane index flow is = slow_more g t lane index flow is
slow_more (Recv d message ∷ g) t lane index flow is = slow_more g t lane index flow is
slow_more (EndPhase ∷ g) t lane index flow is = slow_more g t lane index flow is

pub slow_stays : (g h : List Entry) (lane : LaneNo) (index : ℕ) (flow : Flow) → IsPrefix g h → slow_flow g lane index ≡ Some flow → slow_flow h lane index ≡ Some flow
slow_stays g h lane index flow begins is = subst (λ k. slow_flow k lane index ≡ Some flow) begins.1 (slow_more g begins.0 lane index flow is)

pub known_stay : (g h : List Entry) (fs : List Freed) → IsPrefix g h → AllByRecursion (λ f. IsKnown g f.packet) fs → AllByRecursion (λ f. IsKnown h f.packet) fs
known_stay g h [] begins all = tt
known_stay g h (f ∷ fs) begins all = (slow_stays g h f.packet.lane f.packet.index (flow_of f.packet) begins all.0, known_stay g h fs begins all.1)

pub head_stays : (g h : List Entry) (lane : LaneNo) (index : ℕ) (head : Head) → IsPrefix g h → IsHeadOf g lane index head → IsHeadOf h lane index head
head_stays g h lane index head begins is = record { dev = is.dev; known = slow_stays g h lane index (flow_by is.dev head) begins is.known }

heard_one : (g h : List Entry) (e : Entry) → IsPrefix g h → IsHeard g e → IsHeard h e
heard_one g h (Call d r reply released) begins is = tt
heard_one g h (Slow l i look flow o) begins is = tt
heard_one g h (Settle l records) begins is = tt
heard_one g h (Tick d ms) begins is = tt
heard_one g h (Recv d None) begins is = tt
heard_one g h (Recv d (Some m)) begins is = (is.0, slow_stays g h m.lane m.index is.0 begins is.1)
heard_one g h EndPhase begins is = tt

-- the report that a daemon got
pub heads_stay : (g h : List Entry) (m : Option Upcall) → IsPrefix g h → IfSome m (λ u. IsHeadOf g u.id.lane u.id.index u.head) → IfSome m (λ u. IsHeadOf h u.id.lane u.id.index u.head)
heads_stay g h None begins is = tt
heads_stay g h (Some u) begins is = head_stays g h u.id.lane u.id.index u.head begins is

pub heard_recv : (g h : List Entry) (d : DaemonNo) (m : Option Upcall) → IsPrefix g h → IfSome m (λ u. IsHeadOf g u.id.lane u.id.index u.head) → IsHeard h (Recv d (option_map (λ u. u.id) m))
heard_recv g h d None begins is = tt
heard_recv g h d (Some u) begins is = (flow_by is.dev u.head, slow_stays g h u.id.lane u.id.index (flow_by is.dev u.head) begins is.known)

pub heard_stays : (g h es : List Entry) → IsPrefix g h → AllHeard g es → AllHeard h es
heard_stays g h [] begins all = tt
heard_stays g h (e ∷ es) begins all = (heard_one g h e begins all.0, heard_stays g h es begins all.1)

pub heard_push : (h es : List Entry) (e : Entry) → AllHeard h es → IsHeard h e → AllHeard h (es ++ e ∷ [])
heard_push h [] e all one = (one, tt)
heard_push h (x ∷ es) e all one = (all.0, heard_push h es e all.1 one)

-- what was told stays
told_stays : (g h : List Entry) (m : MessageId) (flow : Flow) → IsPrefix g h → slow_flow g m.lane m.index ≡ Some flow → told h m ≡ told g m
told_stays g h m flow begins is = ap (told_by m) (slow_stays g h m.lane m.index flow begins is ∙ sym is)

deed_stays : (g h : List Entry) (e : Entry) → IsPrefix g h → IsHeard g e → deeds_in h e ≡ deeds_in g e
deed_stays g h (Call d r reply released) begins is = refl
deed_stays g h (Slow l i look flow o) begins is = refl
deed_stays g h (Settle l records) begins is = refl
deed_stays g h (Tick d ms) begins is = refl
deed_stays g h (Recv d None) begins is = refl
deed_stays g h (Recv d (Some m)) begins is = ap (λ t. Received (Some t) ∷ []) (told_stays g h m is.0 begins is.1)
deed_stays g h EndPhase begins is = refl

pub deeds_stay : (g h es : List Entry) → IsPrefix g h → AllHeard g es → flat_map (deeds_in h) es ≡ flat_map (deeds_in g) es
deeds_stay g h [] begins all = refl
deeds_stay g h (e ∷ es) begins all = ap₂ (λ x y. x ++ y) (deed_stays g h e begins all.0) (deeds_stay g h es begins all.1)
