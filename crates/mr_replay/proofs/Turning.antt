-- The packets of each lane in a phase.
use Rattle.std.proofs.Common.{◌≡◌, ◌∙◌, ℕ, zero, suc, ◌+◌, ◌-◌, ◌≤◌, ◌<◌, List, [], ◌∷◌, ◌++◌, length, map, take, get_or, sym, ap, arith, subst}
use Rattle.std.proofs.lemmas.List.{length-map, length-take}
use Rattle.mr_base.specs.declared.numbers.LaneNo.{LaneNo}
use Rattle.mr_callers.specs.Deeds.{Sends}
use Rattle.mr_load.specs.Dues.{IsPacketOf, LaneValue, flow_by, sent_of}
use Rattle.mr_load.specs.Made.{Sent, sent}
use Rattle.mr_model.specs.declared.entry.Entry.{Entry}
use Rattle.mr_model.specs.declared.entry.Entry.TheVariants.{Slow}
use Rattle.mr_model.specs.declared.limits.Limits.{Limits}
use Rattle.mr_model.specs.declared.outcome.Outcome.{Outcome}
use Rattle.mr_model.specs.declared.packet.Packet.{Packet}
use Rattle.mr_model.specs.Legal.{packets_given}
use Rattle.mr_model.specs.Past.{last_index, packets}
use Rattle.mr_replay.specs.Lanes.{AreLanes, Hands, HasSent, HasTurn, IsReady, LaneFits, LanesFit, LanesReady, at_lane, lane_at, next_due, no_lane, own_of}
use Rattle.mr_replay.proofs.OneLane.{no_due}
use Rattle.mr_replay.proofs.Sent.{packets_sent}
use Rattle.mr_replay.proofs.Slowing.{has_next, packet_sends}
use Rattle.mr_authors.specs.Authors.{own}
use Rattle.mr_router.specs.Callers as router
use Rattle.mr_router.specs.Histories.{Makes}
use Rattle.mr_authors.proofs.Owning.{last_index_own, packets_own}

got_any : {X : Type 0} (xs : List X) (i : ℕ) (v none : X) → i < length xs → v ≡ get_or xs i v → v ≡ get_or xs i none
got_any [] i v none less at = absurd (omega (arith, less))
got_any (x ∷ xs) zero v none less at = at
got_any (x ∷ xs) (suc i) v none less at = got_any xs i v none (omega (arith, less)) at

-- the lane at a place, counted from 0
pub lane_got : (vs : List LaneValue) (i : ℕ) (v : LaneValue) → i < length vs → v ≡ get_or vs i v → v ≡ lane_at vs (i + 1)
lane_got vs i v less at =
    let place : i ≡ i + 1 - 1 = omega arith in
    got_any vs i v no_lane less at ∙ ap (λ (n : ℕ). get_or vs n no_lane) place

-- the turn of the lane at a place
pub turn_at : (limits : Limits) (k i : ℕ) (vs : List LaneValue) (h : List Entry) (ls : List router.LaneValue) (l : router.LaneValue) → LanesFit limits vs → AreLanes (length vs) h ls → LanesReady k vs h
    → i < length ls → l ≡ get_or ls i l → HasTurn limits k vs i l
turn_at limits k i vs h ls l fit are ready less at =
    let within : i < length vs = omega (arith, less, are.many) in
    let is : l ≡ at_lane (i + 1) h = at ∙ are.each i l within in
    let number : (lane_at vs (i + 1)).lane.0 ≡ i + 1 = fit.numbers (i + 1) (omega arith) (omega (arith, within)) in
    record {
      within = within;
      lane = ap (λ (x : router.LaneValue). x.lane) is ∙ ap (λ (n : ℕ). no_such n) (sym number);
      fits = fit.each (i + 1) (omega arith) (omega (arith, within));
      ready = subst (λ (es : List Entry). IsReady k (lane_at vs (i + 1)) es) (sym (ap own_of is)) (ready (i + 1) (omega arith) (omega (arith, within)));
    }
  where
    no_such : ℕ → LaneNo
    no_such n = record { 0 = n }

-- the lane's next packet stands where its packets so far end
pub place_of : (limits : Limits) (k : ℕ) (v : LaneValue) (l : router.LaneValue) (left : ℕ) (r : IsReady k v (own_of l)) → LaneFits limits v → l.lane ≡ v.lane
    → packets l.lane l.seen + left ≡ packets_given limits l.lane → length v.packets - left ≡ r.place
place_of limits k v l left r fits same counted =
    let lane_own : packets v.lane (own v.lane.0 l.seen) ≡ packets v.lane l.seen = packets_own v.lane l.seen in
    let own_is : own_of l ≡ own v.lane.0 l.seen = ap (λ (n : LaneNo). own n.0 l.seen) same in
    let sent_many : packets v.lane (own_of l) ≡ length (sent v.lane.0 (own_of l)) = packets_sent v.lane (own_of l) in
    let count : packets v.lane (own_of l) ≡ packets v.lane l.seen = ap (packets v.lane) own_is ∙ lane_own in
    let here : packets v.lane l.seen + left ≡ packets_given limits v.lane = subst (λ (n : LaneNo). packets n l.seen + left ≡ packets_given limits n) same counted in
    omega (arith, here, count, sent_many, ap length r.ready.has.sent_is, length-map (take r.place v.packets) sent_of, length-take r.place v.packets, r.ready.has.within, fits.given)

-- what a lane's own entries tell of it
pub own_packets : (v : LaneValue) (l : router.LaneValue) → l.lane ≡ v.lane → packets v.lane (own_of l) ≡ packets l.lane l.seen
own_packets v l same =
    subst (λ (n : LaneNo). packets n (own_of l) ≡ packets l.lane l.seen) same (packets_own l.lane l.seen)

pub own_index : (v : LaneValue) (l : router.LaneValue) → l.lane ≡ v.lane → last_index v.lane (own_of l) ≡ last_index l.lane l.seen
own_index v l same =
    subst (λ (n : LaneNo). last_index n (own_of l) ≡ last_index l.lane l.seen) same (last_index_own l.lane l.seen)

pub lane_room : (limits : Limits) (v : LaneValue) (l : router.LaneValue) → l.lane ≡ v.lane → packets v.lane (own_of l) < packets_given limits v.lane → packets l.lane l.seen < packets_given limits l.lane
lane_room limits v l same room = omega (arith, room, own_packets v l same, ap (packets_given limits) same)

pub lane_next : (v : LaneValue) (l : router.LaneValue) (index : ℕ) → l.lane ≡ v.lane → last_index v.lane (own_of l) < index → last_index l.lane l.seen < index
lane_next v l index same less = omega (arith, less, own_index v l same)

-- the lane's packet is decided
pub hands_one : (limits : Limits) (v : LaneValue) (place look : ℕ) (p : Packet) (o : Outcome) (old new : router.LaneValue) → old.lane ≡ v.lane → new.lane ≡ old.lane → place < length v.packets
    → IsPacketOf v.lane p (get_or v.packets place no_due) → Makes limits old.lane.0 old.seen new.seen (Slow old.lane p.index look (flow_by p.dev p.head) o) → Hands (map sent_of (next_due place v.packets)) old new
hands_one limits v place look p o old new same still less is m =
    let behind : own_of new ≡ own_of old ++ Slow v.lane p.index look (flow_by p.dev p.head) o ∷ [] =
    ap (λ (n : LaneNo). own n.0 new.seen) still ∙ m.own ∙ ap (λ (n : LaneNo). own_of old ++ Slow n p.index look (flow_by p.dev p.head) o ∷ []) same in
    record {
      lane = still;
      sends = subst (λ (n : LaneNo). Sends n.0 (map sent_of (next_due place v.packets)) (own_of old) (own_of new)) (sym same) (packet_sends v place look p o (own_of old) (own_of new) less is behind);
    }

pub sent_one : (v : LaneValue) (place : ℕ) (old new : router.LaneValue) → old.lane ≡ v.lane → HasSent v place (own_of old) → place < length v.packets → Hands (map sent_of (next_due place v.packets)) old new → HasSent v (place + 1) (own_of new)
sent_one v place old new same has less hands =
    has_next v place (own_of old) (own_of new) has less (subst (λ (n : LaneNo). Sends n.0 (map sent_of (next_due place v.packets)) (own_of old) (own_of new)) same hands.sends)

-- the same, of one packet among those of a phase
pub its_sends : (v : LaneValue) (what : List Sent) (old new : router.LaneValue) → old.lane ≡ v.lane → Hands what old new → Sends v.lane.0 what (own_of old) (own_of new)
its_sends v what old new same hands = subst (λ (n : LaneNo). Sends n.0 what (own_of old) (own_of new)) same hands.sends

pub hands_all : (v : LaneValue) (what : List Sent) (old new : router.LaneValue) → old.lane ≡ v.lane → new.lane ≡ v.lane → Sends v.lane.0 what (own_of old) (own_of new) → Hands what old new
hands_all v what old new same still sends = record {
  lane = still ∙ sym same;
  sends = subst (λ (n : LaneNo). Sends n.0 what (own_of old) (own_of new)) (sym same) sends;
}

-- no more packets are left than there are
pub left_within : (limits : Limits) (v : LaneValue) (l : router.LaneValue) (left : ℕ) → LaneFits limits v → l.lane ≡ v.lane → packets l.lane l.seen + left ≡ packets_given limits l.lane → left ≤ length v.packets
left_within limits v l left fits same counted = omega (arith, counted, ap (packets_given limits) same, fits.given)
