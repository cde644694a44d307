-- The copies that leave by a device, in the order of the unfolded history (ipmr.c, ipmr_queue_xmit).
use Rattle.std.specs.Prelude.{ℕ, ◌-◌, ◌==◌, ◌&&◌, Bool, false, not, nat_lt, if◌then◌else◌, Option, Some, None, option_map, List, [], ◌∷◌, ◌++◌, take, find, flat_map, slice_get, slice_index}
use Rattle.mr_base.specs.Heads.{head_length, sent}
use Rattle.mr_base.specs.declared.numbers.LaneNo.{LaneNo}
use Rattle.mr_base.specs.declared.numbers.Mask.{Mask}
use Rattle.mr_base.specs.declared.vif_record.VifRecord.{VifRecord}
use Rattle.mr_ip.specs.Bodies.{body_of}
use Rattle.mr_load.specs.Dues.{Due, LaneValue}
use Rattle.mr_model.specs.declared.entry.Entry.{Entry}
use Rattle.mr_model.specs.declared.entry.Entry.TheVariants.{Call, Slow}
use Rattle.mr_model.specs.declared.entry.FastRecord.{FastRecord}
use Rattle.mr_model.specs.declared.entry.ReleasedId.{ReleasedId}
use Rattle.mr_model.specs.declared.limits.Limits.{Limits}
use Rattle.mr_model.specs.declared.outcome.Outcome.{Outcome}
use Rattle.mr_model.specs.declared.outcome.Outcome.TheVariants.{Forward, Register}
use Rattle.mr_model.specs.declared.step.Step.{Step}
use Rattle.mr_model.specs.declared.step.Step.TheVariants.{Fast, Kept}
use Rattle.mr_model.specs.Ending.{indexes}
use Rattle.mr_model.specs.Unfolded.{unfolded}
use Rattle.mr_model.specs.Verdict.{is_in}
use Rattle.mr_model.specs.VifList.{vif_at}
use Rattle.mr_model.specs.Vifs.{vifs}

abbrev pub is_due : ℕ → Due → Bool
is_due index d = d.index == index

-- the packets of lane n, where the lanes stand from lane 1 on
abbrev pub packets_of : Option LaneValue → List Due
packets_of None = []
packets_of (Some v) = v.packets

-- the bytes of a packet by its index
abbrev pub bytes_in : List Due → ℕ → Option (List ℕ)
bytes_in dues index = option_map (λ d. d.bytes) (find (is_due index) dues)

-- the bytes of a lane's packet among those that were loaded
abbrev pub loaded : List LaneValue → LaneNo → ℕ → Option (List ℕ)
loaded lanes lane index = bytes_in (packets_of (slice_get lanes (lane.0 - 1))) index

-- A packet as it is sent on: its head with TTL less one and the checksum that goes with it, and what stands behind the head, up
-- to the total length.
abbrev pub sent_packet : List ℕ → List ℕ
sent_packet bs = sent (take (head_length bs) bs) ++ body_of bs

-- A packet whose TTL is 0 or 1 is never sent on (RFC 1812 section 5.3.1).
abbrev pub sent_on : Option (List ℕ) → List (List ℕ)
sent_on None = []
sent_on (Some bs) = if nat_lt (slice_index bs 8) 2 then [] else sent_packet bs ∷ []

-- Whether packets leave by a device on this vif. A copy on the register vif is a report, and leaves by none.
abbrev pub leads_to : ℕ → Option VifRecord → Bool
leads_to dev None = false
leads_to dev (Some v) = v.dev == dev && not v.register

-- The copies of one packet: one for each of its outputs on the device, by rising vif.
abbrev pub copies_of : List LaneValue → ℕ → List VifRecord → LaneNo → ℕ → Mask → List (List ℕ)
copies_of lanes dev vs lane index outs =
    flat_map (λ i. if is_in outs i && leads_to dev (vif_at vs i) then sent_on (loaded lanes lane index) else []) indexes

abbrev pub no_outs : Mask
no_outs = record { 0 = 0 }

-- the outputs of a packet that was decided under the lock
abbrev pub outs_in : Outcome → Mask
outs_in (Forward entry input outs) = outs
outs_in (Register entry input outs told) = outs
outs_in _ = no_outs

abbrev pub copies_freed : List LaneValue → ℕ → List VifRecord → ReleasedId → List (List ℕ)
copies_freed lanes dev vs r = copies_of lanes dev vs r.lane r.index (outs_in r.outcome)

-- The copies of an entry, where these vifs are there: of a packet that was decided under the lock, and of those that a call
-- released, in their order. A Settle sends nothing: its packets were sent where they stand.
abbrev pub copies_in : List LaneValue → ℕ → List VifRecord → Entry → List (List ℕ)
copies_in lanes dev vs (Slow lane index look flow o) = copies_of lanes dev vs lane index (outs_in o)
copies_in lanes dev vs (Call d r reply released) = flat_map (copies_freed lanes dev vs) released
copies_in lanes dev vs _ = []

-- those of a packet that was forwarded without the lock
abbrev pub copies_fast : List LaneValue → ℕ → List VifRecord → LaneNo → FastRecord → List (List ℕ)
copies_fast lanes dev vs lane r = copies_of lanes dev vs lane r.index r.outs

-- the copies of these steps, behind the entries g
abbrev pub copies_from : Limits → List LaneValue → ℕ → List Entry → List Step → List (List ℕ)
copies_from limits lanes dev g [] = []
copies_from limits lanes dev g (Fast lane r ∷ steps) =
    copies_fast lanes dev (vifs limits g) lane r ++ copies_from limits lanes dev g steps
copies_from limits lanes dev g (Kept e ∷ steps) =
    copies_in lanes dev (vifs limits g) e ++ copies_from limits lanes dev (g ++ e ∷ []) steps

-- The copies that leave by a device over a history, of packets whose bytes were loaded: each step of the unfolded history at its
-- place.
abbrev pub copies : Limits → List LaneValue → List Entry → ℕ → List (List ℕ)
copies limits lanes h dev = copies_from limits lanes dev [] (unfolded h)
