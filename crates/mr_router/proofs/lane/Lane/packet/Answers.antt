use Rattle.std.proofs.Common.{◌≡◌, ◌<◌, ◌≤◌, ◌+◌, ◌-◌, ◌∙◌, length, ℕ, List, [], ◌∷◌, ◌++◌, refl, sym, ap, subst, arith}
use Rattle.mr_book.specs.declared.view.Known.{Known}
use Rattle.mr_book.specs.Views.{with_entry, with_seen}
use Rattle.mr_kernel.specs.Flows.{flow_of}
use Rattle.mr_model.specs.declared.entry.Entry.{Entry}
use Rattle.mr_model.specs.declared.entry.Entry.TheVariants.{Slow}
use Rattle.mr_model.specs.Legal.{IsLegal, packets_given}
use Rattle.mr_model.specs.Past.{packets, last_index}
use Rattle.mr_authors.specs.Authors.{author}
use Rattle.mr_router.specs.Callers.{LaneValue}
use Rattle.mr_router.specs.Histories.{GoesOn, Makes}
use Rattle.mr_router.specs.Seats.{HoldsLane}
use Rattle.mr_router.proofs.Holding.{goes_on, makes, lane_makes, looks_stay, same_packets, same_last_index}
use Rattle.mr_router.proofs.lane.Lane.packet.Goals as goal

pub slow-handled-requires-clause-room : goal.slow-handled-requires-clause-room
slow-handled-requires-clause-room g c =
    let l = c.self.inside in
    let k = l.seat in
    let limits = g.C.RunName.limits in
    let h = c.take_lock-guard.result.value in
    let e = c.take_lock-guard.ensures in
    let later = goes_on limits l.number.0 k h c.self.invariant.seat e.begins e.own e.legal in
    let room : packets l.number k.seen < packets_given limits l.number = subst (λ (v : LaneValue). packets v.lane v.seen < packets_given limits v.lane) (sym c.self.view_is) c.requires.room in
    subst (λ n. n < packets_given limits l.number) (sym (same_packets l.number k.seen h later.own)) room

pub slow-handled-requires-clause-next : goal.slow-handled-requires-clause-next
slow-handled-requires-clause-next g c =
    let l = c.self.inside in
    let k = l.seat in
    let h = c.take_lock-guard.result.value in
    let e = c.take_lock-guard.ensures in
    let later = goes_on g.C.RunName.limits l.number.0 k h c.self.invariant.seat e.begins e.own e.legal in
    let next : last_index l.number k.seen < c.args.packet.index = subst (λ (v : LaneValue). last_index v.lane v.seen < c.args.packet.index) (sym c.self.view_is) c.requires.next in
    subst (λ n. n < c.args.packet.index) (sym (same_last_index l.number k.seen h later.own)) next

pub slow-handled-requires-clause-looks : goal.slow-handled-requires-clause-looks
slow-handled-requires-clause-looks g c =
    let l = c.self.inside in
    let k = l.seat in
    let h = c.take_lock-guard.result.value in
    let e = c.take_lock-guard.ensures in
    let later = goes_on g.C.RunName.limits l.number.0 k h c.self.invariant.seat e.begins e.own e.legal in
    looks_stay l.number k.seen h e.begins later.own c.self.invariant.looks

pub invariant_of-self : goal.invariant_of-self
invariant_of-self g c =
    let l = c.self.inside in
    let k = l.seat in
    let limits = g.C.RunName.limits in
    let h = c.take_lock-guard.result.value in
    let t = c.take_lock-guard.ensures in
    let later = goes_on limits l.number.0 k h c.self.invariant.seat t.begins t.own t.legal in
    let e = Slow l.number c.args.packet.index (length h) (flow_of c.args.packet) c.slow-handled.result.outcome in
    let at = ap (λ (v : Known Entry). v.seen) t.seat in
    let made = c.commit.ensures.seat e (c.slow-handled.ensures.entry ∙ ap (λ (s : List Entry). s ++ e ∷ []) (sym at)) in
    let seat = c.leave.ensures ∙ made ∙ ap (with_entry author e) t.seat in
    let room : packets l.number k.seen < packets_given limits l.number = subst (λ (v : LaneValue). packets v.lane v.seen < packets_given limits v.lane) (sym c.self.view_is) c.requires.room in
    let some : l.left - 1 + 1 ≡ l.left = omega (arith, room, c.self.invariant.counted) in
    subst (HoldsLane limits l.number (l.left - 1)) (sym seat) (lane_makes limits l.number l.left (l.left - 1) k h c.args.packet.index (flow_of c.args.packet) c.slow-handled.result.outcome c.self.invariant later.own some)

pub returns-clause-entry : goal.returns-clause-entry
returns-clause-entry g c =
    let l = c.self.inside in
    let k = l.seat in
    let limits = g.C.RunName.limits in
    let p = c.args.packet in
    let handled = c.slow-handled.result in
    let h = c.take_lock-guard.result.value in
    let t = c.take_lock-guard.ensures in
    let later = goes_on limits l.number.0 k h c.self.invariant.seat t.begins t.own t.legal in
    let e = Slow l.number p.index (length h) (flow_of p) handled.outcome in
    let at = ap (λ (v : Known Entry). v.seen) t.seat in
    let made = c.commit.ensures.seat e (c.slow-handled.ensures.entry ∙ ap (λ (s : List Entry). s ++ e ∷ []) (sym at)) in
    let seat = c.leave.ensures ∙ made ∙ ap (with_entry author e) t.seat in
    let seen : c.leave.result.seen ≡ h ++ e ∷ [] = ap (λ (v : Known Entry). v.seen) seat in
    let legal : IsLegal limits c.leave.result.seen = subst (IsLegal limits) (c.slow-handled.ensures.entry ∙ sym seen) c.slow-handled.ensures.legal in
    let look : length h ≡ handled.number - 1 = omega (arith, c.slow-handled.ensures.number) in
    let made : Makes limits l.number.0 k.seen c.leave.result.seen e = makes limits l.number.0 k.seen h c.leave.result.seen e later refl seen legal in
    subst (λ (v : LaneValue). Makes limits v.lane.0 v.seen c.leave.result.seen (Slow v.lane p.index (handled.number - 1) (flow_of p) handled.outcome)) c.self.view_is
    (subst (λ n. Makes limits l.number.0 k.seen c.leave.result.seen (Slow l.number p.index n (flow_of p) handled.outcome)) look made)
