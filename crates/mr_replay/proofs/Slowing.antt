-- A lane's next packet: it may be decided, and it is then sent.
use Rattle.std.proofs.Common.{◌≡◌, ◌∙◌, ℕ, ◌+◌, ◌≤◌, ◌<◌, ◌==◌, true, cond, List, [], ◌∷◌, ◌++◌, length, map, take, get_or, refl, sym, ap, arith, subst}
use Rattle.std.proofs.lemmas.Grind.{flat_map-append}
use Rattle.std.proofs.lemmas.List.{length-map, length-take, map-append}
use Rattle.mr_callers.specs.Deeds.{Sends}
use Rattle.mr_callers.proofs.Doing.{does_one}
use Rattle.mr_load.specs.Dues.{Due, IsPacketOf, LaneValue, RiseFrom, flow_by, sent_of}
use Rattle.mr_load.specs.Made.{Sent, sent, sent_in}
use Rattle.mr_model.specs.declared.entry.Entry.{Entry}
use Rattle.mr_model.specs.declared.entry.Entry.TheVariants.{Slow}
use Rattle.mr_model.specs.declared.flow.Flow.{Flow}
use Rattle.mr_model.specs.declared.limits.Limits.{Limits}
use Rattle.mr_model.specs.declared.outcome.Outcome.{Outcome}
use Rattle.mr_model.specs.declared.packet.Packet.{Packet}
use Rattle.mr_model.specs.Legal.{packets_given}
use Rattle.mr_model.specs.Past.{last_index, packets}
use Rattle.mr_replay.specs.Lanes.{HasSent, LaneFits, next_due}
use Rattle.mr_replay.proofs.OneLane.{all_at, next_is, no_due, take_next}
use Rattle.mr_replay.proofs.Sent.{last_of, last_sent, packets_sent, rises}

-- the lane has room for one packet more
pub room_next : (limits : Limits) (v : LaneValue) (place : ℕ) (h : List Entry) → LaneFits limits v → HasSent v place h → place < length v.packets → packets v.lane h < packets_given limits v.lane
room_next limits v place h fits has less =
    omega (arith, packets_sent v.lane h, ap length has.sent_is, length-map (take place v.packets) sent_of, length-take place v.packets, fits.given, less)

-- its index is greater than the last one
pub index_next : (v : LaneValue) (place index : ℕ) (h : List Entry) → RiseFrom 0 0 v.packets → HasSent v place h → place < length v.packets → index ≡ (get_or v.packets place no_due).index → last_index v.lane h < index
index_next v place index h r has less same =
    omega (arith, last_sent v.lane h, ap (last_of 0) has.sent_is, rises 0 0 v.packets place no_due r less, same)

pub device_next : (limits : Limits) (v : LaneValue) (place dev : ℕ) → LaneFits limits v → place < length v.packets → dev ≡ (get_or v.packets place no_due).dev → dev ≤ length limits.devices
device_next limits v place dev fits less same =
    omega (arith, all_at (λ (d : Due). d.dev ≤ length limits.devices) v.packets place no_due less fits.devices, same)

itself : (n : ℕ) → (n == n) ≡ true
itself n = grind arith

one_of : (n : ℕ) (x : Sent) → cond (n == n) (x ∷ []) [] ≡ x ∷ []
one_of n x = rw (itself n) refl

abbrev made_sent : ℕ → Flow → Sent
made_sent n f = record { index = n; flow = f }

-- the entry of the packet sends it
pub packet_sends : (v : LaneValue) (place look : ℕ) (p : Packet) (o : Outcome) (h g : List Entry) → place < length v.packets → IsPacketOf v.lane p (get_or v.packets place no_due)
    → g ≡ h ++ Slow v.lane p.index look (flow_by p.dev p.head) o ∷ [] → Sends v.lane.0 (map sent_of (next_due place v.packets)) h g
packet_sends v place look p o h g less is behind =
    let d : Due = get_or v.packets place no_due in
    let e : Entry = Slow v.lane p.index look (flow_by p.dev p.head) o in
    let x : Sent = record { index = p.index; flow = flow_by p.dev p.head } in
    let same : x ≡ sent_of d = ap (λ (n : ℕ). made_sent n (flow_by p.dev p.head)) is.index ∙ ap (made_sent d.index) is.flow in
    let what : map sent_of (next_due place v.packets) ≡ sent_of d ∷ [] = ap (map sent_of) (next_is v.packets place less) in
    subst (λ (xs : List Sent). Sends v.lane.0 xs h g) (one_of v.lane.0 x ∙ ap (λ (y : Sent). y ∷ []) same ∙ sym what)
    (does_one v.lane.0 (sent_in v.lane.0) h g e behind refl)

-- and the history has it then
pub has_next : (v : LaneValue) (place : ℕ) (h g : List Entry) → HasSent v place h → place < length v.packets → Sends v.lane.0 (map sent_of (next_due place v.packets)) h g → HasSent v (place + 1) g
has_next v place h g has less s = record {
  within = omega (arith, less);
  sent_is =
      ap (sent v.lane.0) s.behind ∙ flat_map-append (sent_in v.lane.0) h s.part ∙ rw (has.sent_is, s.does)
      (sym (ap (map sent_of) (take_next v.packets place less) ∙ map-append sent_of (take place v.packets) (next_due place v.packets)));
}
