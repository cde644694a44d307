-- What became of each packet that had to wait, with the number of the entry at which it did.
use Rattle.std.specs.Prelude.{◌≡◌, ℕ, ◌+◌, ◌==◌, ◌&&◌, Bool, true, false, not, if◌then◌else◌, Option, Some, None, unwrap_or, List, [], ◌∷◌, ◌++◌, length}
use Rattle.std.specs.List.{list_any}
use Rattle.mr_base.specs.declared.numbers.LaneNo.{LaneNo}
use Rattle.mr_model.specs.declared.ending.Fate.{Fate}
use Rattle.mr_model.specs.declared.ending.Fate.TheVariants.{Released, Expired, Flushed, Waiting}
use Rattle.mr_model.specs.declared.ending.FateLine.{FateLine}
use Rattle.mr_model.specs.declared.entry.Entry.{Entry}
use Rattle.mr_model.specs.declared.entry.Entry.TheVariants.{Call, Slow, Settle, Tick, Recv, EndPhase}
use Rattle.mr_model.specs.declared.entry.ReleasedId.{ReleasedId}
use Rattle.mr_model.specs.declared.limits.Limits.{Limits}
use Rattle.mr_model.specs.declared.outcome.Outcome.TheVariants.{Forward, Register, Wrong, Parked, Dropped}
use Rattle.mr_model.specs.declared.reply.Reply.TheVariants.{Good}
use Rattle.mr_model.specs.declared.request.Request.TheVariants.{Finish, Flush}
use Rattle.mr_model.specs.VifList.{has_flag}
use Rattle.mr_model.specs.WaitingList.{is_waiting}
use Rattle.mr_model.specs.Waiting.{waiting}

-- whether a packet is among those released
abbrev pub names : List ReleasedId → LaneNo → ℕ → Bool
names released lane index = list_any (λ r. r.lane.0 == lane.0 && r.index == index) released

-- whether a packet waits before e and not after it
abbrev pub loses : Limits → List Entry → Entry → LaneNo → ℕ → Bool
loses limits g e lane index = is_waiting (waiting limits g) lane index && not (is_waiting (waiting limits (g ++ e ∷ [])) lane index)

-- a good call releases the packet: it names it
abbrev pub releases : Entry → LaneNo → ℕ → Bool
releases (Call d r Good released) lane index = names released lane index
releases _ lane index = false

-- a tick behind the history g lets the packet expire
abbrev pub expires : Limits → List Entry → Entry → LaneNo → ℕ → Bool
expires limits g (Tick d ms) lane index = loses limits g (Tick d ms) lane index
expires limits g _ lane index = false

-- a good MRT_DONE, or MRT_FLUSH with flag 1, drops the packet, which waited
abbrev pub flushes : Limits → List Entry → Entry → LaneNo → ℕ → Bool
flushes limits g (Call d Finish Good released) lane index = is_waiting (waiting limits g) lane index
flushes limits g (Call d (Flush bits) Good released) lane index =
    has_flag bits 1 && is_waiting (waiting limits g) lane index
flushes limits g _ lane index = false

-- Entry e, which stands behind the history g, is that of this fate: its number is the fate's.
abbrev pub FateBy : Limits → List Entry → Entry → LaneNo → ℕ → Fate → Type 0
FateBy limits g e lane index (Released n) = (n ≡ length g + 1) × (releases e lane index ≡ true)
FateBy limits g e lane index (Expired n) = (n ≡ length g + 1) × (expires limits g e lane index ≡ true)
FateBy limits g e lane index (Flushed n) = (n ≡ length g + 1) × (flushes limits g e lane index ≡ true)
FateBy limits g e lane index Waiting = ⊥

-- an entry of the history is that of this fate
pub record IsMet (limits : Limits) (h : List Entry) (lane : LaneNo) (index : ℕ) (fate : Fate) : Type 0 where
  pub front : List Entry
  pub entry : Entry
  pub behind : List Entry
  pub whole : h ≡ front ++ entry ∷ behind
  pub by : FateBy limits front entry lane index fate

-- A packet that was parked has this fate: it was released, it expired or it was flushed by an entry of the history, or it
-- waits still.
abbrev pub IsFate : Limits → List Entry → LaneNo → ℕ → Fate → Type 0
IsFate limits h lane index Waiting = is_waiting (waiting limits h) lane index ≡ true
IsFate limits h lane index fate = IsMet limits h lane index fate

-- the fate that entry e, which stands behind the history g, gives to a packet
abbrev pub fate_in : Limits → List Entry → Entry → LaneNo → ℕ → Option Fate
fate_in limits g e lane index =
    if releases e lane index then Some (Released (length g + 1))
    else (if expires limits g e lane index then Some (Expired (length g + 1))
    else (if flushes limits g e lane index then Some (Flushed (length g + 1)) else None))

-- the first of these among the entries h behind g; a packet without one waits still
abbrev pub fate_from : Limits → List Entry → List Entry → LaneNo → ℕ → Fate
fate_from limits g [] lane index = Waiting
fate_from limits g (e ∷ h) lane index = unwrap_or (fate_in limits g e lane index) (fate_from limits (g ++ e ∷ []) h lane index)

abbrev pub fate : Limits → List Entry → LaneNo → ℕ → Fate
fate limits h lane index = fate_from limits [] h lane index

-- a Slow parks the packet
abbrev pub parks : Entry → LaneNo → ℕ → Bool
parks (Slow l i look flow Parked) lane index = l.0 == lane.0 && i == index
parks _ lane index = false

-- whether the packet was parked
abbrev pub was_parked : List Entry → LaneNo → ℕ → Bool
was_parked h lane index = list_any (λ e. parks e lane index) h

-- the packets of the entries es that were parked, in the order of their Slows, with their fates in h
abbrev pub fates_of : Limits → List Entry → List Entry → List FateLine
fates_of limits h [] = []
fates_of limits h (Slow lane index look flow Parked ∷ es) = record { lane = lane; index = index; fate = fate limits h lane index } ∷ fates_of limits h es
fates_of limits h (Slow lane index look flow (Forward entry input outs) ∷ es) = fates_of limits h es
fates_of limits h (Slow lane index look flow (Register entry input outs told) ∷ es) = fates_of limits h es
fates_of limits h (Slow lane index look flow (Wrong entry vif report) ∷ es) = fates_of limits h es
fates_of limits h (Slow lane index look flow (Dropped cause) ∷ es) = fates_of limits h es
fates_of limits h (Call d r reply released ∷ es) = fates_of limits h es
fates_of limits h (Settle lane records ∷ es) = fates_of limits h es
fates_of limits h (Tick d ms ∷ es) = fates_of limits h es
fates_of limits h (Recv d message ∷ es) = fates_of limits h es
fates_of limits h (EndPhase ∷ es) = fates_of limits h es

abbrev pub fates : Limits → List Entry → List FateLine
fates limits h = fates_of limits h h
