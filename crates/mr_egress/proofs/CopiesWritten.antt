-- The copies of one packet as records.
use Rattle.std.proofs.Common.{◌≡◌, refl, sym, ap, ◌∙◌, ℕ, ◌+◌, ◌-◌, ◌<◌, ◌≤◌, ◌&&◌, Bool, true, false, Option, Some, None, List, [], ◌∷◌, ◌++◌, length, map, find, option_map, IfSome, flat_map, take, get_or, slice_get, slice_index, nat_lt, lt-ltb, bit_and, arith, if◌then◌else◌, append-nil}
use Rattle.std.proofs.lemmas.Bool.{le-ltb}
use Rattle.std.proofs.lemmas.List.{map-append}
use Rattle.std.proofs.lemmas.Option.{slice_get-get_or, slice_get_past}
use Rattle.std.proofs.lemmas.List.Concat.{flat_map-append}
use Rattle.std.specs.List.{AllByRecursion}
use Rattle.mr_base.specs.Heads.{cause_of, head_length, sent, two_at}
use Rattle.mr_base.specs.declared.numbers.LaneNo.{LaneNo}
use Rattle.mr_base.specs.declared.numbers.Mask.{Mask}
use Rattle.mr_base.specs.declared.vif_record.VifRecord.{VifRecord}
use Rattle.mr_ip.specs.Bodies.{body_of}
use Rattle.mr_ip.proofs.Heads.{total_within}
use Rattle.mr_load.specs.Dues.{Due, LaneValue, AreDue, IsAccepted, IsPacketOf}
use Rattle.mr_model.specs.declared.packet.Packet.{Packet}
use Rattle.mr_model.specs.Ending.{indexes}
use Rattle.mr_model.specs.Verdict.{is_in}
use Rattle.mr_model.specs.VifList.{vif_at}
use Rattle.mr_pcap.specs.Traces.{record_bytes}
use Rattle.mr_egress.specs.Copies.{leads_to, loaded, bytes_in, packets_of, is_due, sent_on, sent_packet, copies_of}
use Rattle.mr_egress.specs.Files.{record_of, records_of, record_with, each_way}
use Rattle.mr_egress.specs.Places.{AreWays}
use Rattle.mr_egress.proofs.Bits.{and_bit, zero_bit, bit_in}
use Rattle.mr_egress.proofs.Indexes.{at_place}
use Rattle.mr_egress.proofs.Whole.{at_all, body_length, copy_is_whole, head_sent_length}

pub records-append : (cs ds : List (List ℕ)) → records_of (cs ++ ds) ≡ records_of cs ++ records_of ds
records-append cs ds =
    ap (λ rs. flat_map record_bytes rs) (map-append record_of cs ds)
    ∙ flat_map-append record_bytes (map record_of cs) (map record_of ds)

-- The records of what each vif that passes sends, where a mask has just these vifs.
pub each_sends : (test : ℕ → Bool) (mask : Mask) (copies : List (List ℕ)) (is : List ℕ)
    → AllByRecursion (λ i. i < 32) is → ((i : ℕ) → i < 32 → is_in mask i ≡ test i) →
    flat_map (λ i. if is_in mask i then records_of copies else []) is
    ≡ records_of (flat_map (λ i. if test i then copies else []) is)
each_sends test mask copies [] small same = refl
each_sends test mask copies (i ∷ is) small same =
    one (is_in mask i) (test i) (same i small.0) (each_sends test mask copies is small.1 same)
  where
    one : (b t : Bool) → b ≡ t →
        flat_map (λ k. if is_in mask k then records_of copies else []) is
        ≡ records_of (flat_map (λ k. if test k then copies else []) is) →
        (if b then records_of copies else []) ++ flat_map (λ k. if is_in mask k then records_of copies else []) is
        ≡ records_of ((if t then copies else []) ++ flat_map (λ k. if test k then copies else []) is)
    one true true is_same more = ap (λ bs. records_of copies ++ bs) more ∙ sym (records-append copies _)
    one false false is_same more = more
    one true false is_same more = absurd cc
    one false true is_same more = absurd cc

pub all_small : AllByRecursion (λ i. i < 32) indexes
all_small = omega arith

-- the outputs that are among the ways
pub both_bits : (outs ways : Mask) (dev : ℕ) (vs : List VifRecord) → AreWays dev vs ways
    → (i : ℕ) → i < 32 → is_in (record { 0 = bit_and outs.0 ways.0 }) i ≡ (is_in outs i && leads_to dev (vif_at vs i))
both_bits outs ways dev vs are i small =
    and_bit outs.0 ways.0 i ∙ ap (λ b. is_in outs i && b) (are i small)

-- where no vif passes, or where there is nothing to send, there are no records
pub none_pass : (test : ℕ → Bool) (copies : List (List ℕ)) (is : List ℕ) → AllByRecursion (λ i. i < 32) is
    → ((i : ℕ) → i < 32 → test i ≡ false) → flat_map (λ i. if test i then copies else []) is ≡ []
none_pass test copies [] small none = refl
none_pass test copies (i ∷ is) small none = rw (none i small.0) (none_pass test copies is small.1 none)

pub nothing_sent : {A : Type 0} (test : ℕ → Bool) (each : List A) (is : List ℕ) → each ≡ []
    → flat_map (λ i. if test i then each else []) is ≡ []
nothing_sent test each [] none = refl
nothing_sent {A} test each (i ∷ is) none = one (test i) (nothing_sent test each is none)
  where
    one : (b : Bool) {more : List A} → more ≡ [] → (if b then each else []) ++ more ≡ []
    one true {more} is_none = rw (none, is_none) refl
    one false {more} is_none = is_none

abbrev goes : ℕ → List VifRecord → Mask → ℕ → Bool
goes dev vs outs i = is_in outs i && leads_to dev (vif_at vs i)

-- a packet that was not loaded has no copy
pub absent : (lanes : List LaneValue) (dev : ℕ) (vs : List VifRecord) (lane : LaneNo) (index : ℕ) (outs : Mask)
    → loaded lanes lane index ≡ None → copies_of lanes dev vs lane index outs ≡ []
absent lanes dev vs lane index outs is =
    nothing_sent (goes dev vs outs) (sent_on (loaded lanes lane index)) indexes (ap sent_on is)

-- one that goes out on no vif of the device has none
pub not_out : (lanes : List LaneValue) (dev : ℕ) (vs : List VifRecord) (lane : LaneNo) (index : ℕ) (outs ways : Mask)
    → bit_and outs.0 ways.0 ≡ 0 → AreWays dev vs ways → copies_of lanes dev vs lane index outs ≡ []
not_out lanes dev vs lane index outs ways none are =
    none_pass (goes dev vs outs) (sent_on (loaded lanes lane index)) indexes all_small
    (λ i small. sym (both_bits outs ways dev vs are i small) ∙ ap (λ m. bit_in m i) none ∙ zero_bit i)

-- the copies of a packet that was loaded, as they are written
pub copies_are : (lanes : List LaneValue) (dev : ℕ) (vs : List VifRecord) (lane : LaneNo) (index : ℕ) (outs ways : Mask)
    (o : Option (List ℕ)) → loaded lanes lane index ≡ o → AreWays dev vs ways →
    each_way (record { 0 = bit_and outs.0 ways.0 }) (records_of (sent_on o))
    ≡ records_of (copies_of lanes dev vs lane index outs)
unfolding each_way
copies_are lanes dev vs lane index outs ways o is are =
    each_sends (goes dev vs outs) (record { 0 = bit_and outs.0 ways.0 }) (sent_on o) indexes all_small
    (both_bits outs ways dev vs are)
    ∙ ap (λ (p : Option (List ℕ)). records_of (flat_map (λ i. if goes dev vs outs i then sent_on p else []) indexes)) (sym is)

-- where the lane stands at a place, its packets are those that were loaded
pub loaded_in : (lanes : List LaneValue) (lane : LaneNo) (index : ℕ) (v : LaneValue) (i : ℕ) → i ≡ lane.0 - 1
    → i < length lanes → v ≡ get_or lanes i v → loaded lanes lane index ≡ bytes_in v.packets index
loaded_in lanes lane index v i at within is =
    ap (λ k. bytes_in (packets_of (slice_get lanes k)) index) (sym at)
    ∙ ap (λ o. bytes_in (packets_of o) index) (slice_get-get_or lanes i v within ∙ ap Some (sym is))

pub not_loaded : (lanes : List LaneValue) (lane : LaneNo) (index : ℕ) → length lanes ≤ lane.0 - 1
    → loaded lanes lane index ≡ None
not_loaded lanes lane index past = ap (λ o. bytes_in (packets_of o) index) (slice_get_past lanes (lane.0 - 1) past)

pub none_written : (bytes : List ℕ) (copies : List (List ℕ)) → copies ≡ [] → bytes ≡ bytes ++ records_of copies
none_written bytes copies none = sym (ap (λ cs. bytes ++ records_of cs) none ∙ append-nil bytes)

no_way : (mask : Mask) (bytes : List ℕ) → bytes ≡ [] → each_way mask bytes ≡ []
unfolding each_way
no_way mask bytes none = nothing_sent (is_in mask) bytes indexes none

-- a packet that is not there is not written
pub none_found : (ps : List Due) (index : ℕ) (mask : Mask) (bytes : List ℕ) → find (is_due index) ps ≡ None
    → bytes ++ each_way mask (records_of (sent_on (bytes_in ps index))) ≡ bytes
none_found ps index mask bytes none =
    let nothing : bytes_in ps index ≡ None = ap (λ (o : Option Due). option_map (λ d. d.bytes) o) none in
    ap (λ bs. bytes ++ bs) (no_way mask _ (ap (λ (o : Option (List ℕ)). records_of (sent_on o)) nothing)) ∙ append-nil bytes

pub packet_found : (ps : List Due) (index : ℕ) (mask : Mask) (i : ℕ) (old new : List ℕ) → i < length ps
    → find (is_due index) ps ≡ slice_get ps i
    → IfSome (slice_get ps i) (λ d. new ≡ old ++ each_way mask (records_of (sent_on (Some d.bytes))))
    → new ≡ old ++ each_way mask (records_of (sent_on (bytes_in ps index)))
packet_found ps index mask i old new within is written =
    let here = at_place ps i within in
    let there : bytes_in ps index ≡ Some here.0.bytes =
    ap (λ (o : Option Due). option_map (λ d. d.bytes) o) (is ∙ here.1) in
    let this : new ≡ old ++ each_way mask (records_of (sent_on (Some here.0.bytes))) = rw here.1 at written in
    this ∙ ap (λ (o : Option (List ℕ)). old ++ each_way mask (records_of (sent_on o))) (sym there)

-- a packet of a lane, with the item that it comes of
pub record PacketAt (lane : LaneNo) (p : Packet) (ps : List Due) (i : ℕ) : Type 0 where
  pub due : Due
  pub is : slice_get ps i ≡ Some due
  pub packet : IsPacketOf lane p due
  pub accepted : cause_of due.bytes ≡ None

pub packet_at : (lane : LaneNo) (p : Packet) (ps : List Due) (i : ℕ) → i < length ps → AreDue ps
    → IfSome (slice_get ps i) (IsPacketOf lane p) → PacketAt lane p ps i
packet_at lane p ps i within due packet =
    let here = at_place ps i within in
    record {
      due = here.0;
      is = here.1;
      packet = rw here.1 at packet;
      accepted = rw here.1 at (at_all IsAccepted ps i due.accepted);
    }

-- a head and its body have the packet's total length
pub whole_parts : (bs head body : List ℕ) (total : ℕ) → cause_of bs ≡ None → head ≡ sent (take (head_length bs) bs)
    → body ≡ body_of bs → total ≡ two_at bs 2 → length head + length body ≡ total
whole_parts bs head body total none head_is body_is total_is =
    let first : length head ≡ head_length bs = ap length head_is ∙ head_sent_length bs none in
    let second : length body ≡ two_at bs 2 - head_length bs = ap length body_is ∙ body_length bs none in
    omega (arith, first, second, total_is, (total_within bs none).0)

-- a packet is written as its copy
pub record_is : (bs head body : List ℕ) (total ttl : ℕ) → ttl ≡ slice_index bs 8 → 2 ≤ ttl → cause_of bs ≡ None
    → head ≡ sent (take (head_length bs) bs) → body ≡ body_of bs → total ≡ two_at bs 2
    → record_with total head body ≡ records_of (sent_on (Some bs))
record_is bs head body total ttl ttl_is more none head_is body_is total_is =
    let sends : nat_lt (slice_index bs 8) 2 ≡ false = le-ltb (slice_index bs 8) 2 (omega (arith, ttl_is, more)) in
    let whole : total ≡ length (sent_packet bs) = total_is ∙ sym (copy_is_whole bs none) in
    rw (sends, head_is, body_is, whole) (sym (append-nil (record_bytes (record_of (sent_packet bs)))))

-- and one with TTL 0 or 1 not at all
pub not_sent : (bs : List ℕ) (mask : Mask) (bytes : List ℕ) (ttl : ℕ) → ttl ≡ slice_index bs 8 → ttl < 2
    → bytes ++ each_way mask (records_of (sent_on (Some bs))) ≡ bytes
not_sent bs mask bytes ttl ttl_is less =
    let none : nat_lt (slice_index bs 8) 2 ≡ true = lt-ltb (slice_index bs 8) 2 (omega (arith, ttl_is, less)) in
    ap (λ rs. bytes ++ rs) (no_way mask (records_of (sent_on (Some bs))) (rw none refl)) ∙ append-nil bytes

-- the records of several packets, one after another
pub records_flat : {A : Type 0} (f : A → List (List ℕ)) (xs : List A)
    → flat_map (λ x. records_of (f x)) xs ≡ records_of (flat_map f xs)
records_flat f [] = refl
records_flat f (x ∷ xs) =
    ap (λ bs. records_of (f x) ++ bs) (records_flat f xs) ∙ sym (records-append (f x) (flat_map f xs))
