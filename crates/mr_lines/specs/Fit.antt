-- The lines that a history may have: each number lies in the range of its field.
use Rattle.std.specs.Prelude.{◌≡◌, ◌≤◌, ℕ, ◌||◌, Bool, true, Option, Some, None, List, slice_index, length, bytes_eq, codes}
use Rattle.mr_base.specs.declared.numbers.Addr.{Addr}
use Rattle.mr_base.specs.declared.numbers.DaemonNo.{DaemonNo}
use Rattle.mr_base.specs.declared.numbers.LaneNo.{LaneNo}
use Rattle.mr_base.specs.declared.numbers.Mask.{Mask}
use Rattle.mr_lines.specs.declared.line.Line.{Line}
use Rattle.mr_lines.specs.declared.line.Line.TheVariants as line
use Rattle.mr_lines.specs.declared.skip.Skip.{Skip}
use Rattle.mr_lines.specs.declared.tail.RouteLine.{RouteLine}
use Rattle.mr_lines.specs.declared.tail.VifLine.{VifLine}
use Rattle.mr_model.specs.declared.ending.Fate.{Fate}
use Rattle.mr_model.specs.declared.ending.Fate.TheVariants as fate
use Rattle.mr_model.specs.declared.ending.FateLine.{FateLine}
use Rattle.mr_model.specs.declared.entry.FastRecord.{FastRecord}
use Rattle.mr_model.specs.declared.entry.ReleasedId.{ReleasedId}
use Rattle.mr_model.specs.declared.flow.Flow.{Flow}
use Rattle.mr_model.specs.declared.message.MessageId.{MessageId}
use Rattle.mr_model.specs.declared.outcome.Outcome.{Outcome}
use Rattle.mr_model.specs.declared.outcome.Outcome.TheVariants as outcome
use Rattle.mr_model.specs.declared.reply.Reply.{Reply}
use Rattle.mr_model.specs.declared.reply.Reply.TheVariants as reply
use Rattle.mr_model.specs.declared.reply.RouteTotals.{RouteTotals}
use Rattle.mr_model.specs.declared.reply.VifTotals.{VifTotals}
use Rattle.mr_model.specs.declared.request.MfcCtl.{MfcCtl}
use Rattle.mr_model.specs.declared.request.MfcKey.{MfcKey}
use Rattle.mr_model.specs.declared.request.Request.{Request}
use Rattle.mr_model.specs.declared.request.Request.TheVariants as request
use Rattle.mr_model.specs.declared.request.VifCtl.{VifCtl}
use Rattle.mr_words.specs.Names.{is_device_name}
use Rattle.mr_lines.specs.Forms.{Word}

-- numbers of 8, 16, 32 and 64 bits
abbrev pub Fits8 : ℕ → Type 0
Fits8 n = n ≤ 255

abbrev pub Fits16 : ℕ → Type 0
Fits16 n = n ≤ 65535

abbrev pub Fits32 : ℕ → Type 0
Fits32 n = n ≤ 4294967295

abbrev pub Fits64 : ℕ → Type 0
Fits64 n = n ≤ 18446744073709551615

abbrev pub AddrFits : Addr → Type 0
AddrFits a = Fits32 a.0

abbrev pub LaneFits : LaneNo → Type 0
LaneFits l = Fits32 l.0

abbrev pub DaemonFits : DaemonNo → Type 0
DaemonFits d = Fits32 d.0

abbrev pub MaskFits : Mask → Type 0
MaskFits m = Fits32 m.0

-- a vif, where there is one
abbrev pub VifFits : Option ℕ → Type 0
VifFits None = Unit {0}
VifFits (Some i) = Fits8 i

-- just 32 thresholds of 8 bits
abbrev pub TtlsFit : List ℕ → Type 0
TtlsFit ts = (length ts ≡ 32) × ((i : ℕ) → Fits8 (slice_index ts i))

-- a device's name, or the register device's
abbrev pub is_vif_name : Word → Bool
is_vif_name w = is_device_name w || bytes_eq w (codes "pimreg")

-- the flow of a packet in a text, where it is not printed
abbrev pub no_flow : Flow
no_flow = record { dev = 0; src = record { 0 = 0 }; dst = record { 0 = 0 }; ttl = 0; length = 0 }

abbrev pub VifCtlFits : VifCtl → Type 0
VifCtlFits c = Fits16 c.vif × (Fits8 c.flags × Fits32 c.local)

abbrev pub MfcCtlFits : MfcCtl → Type 0
MfcCtlFits c = AddrFits c.src × (AddrFits c.dst × (Fits16 c.parent × TtlsFit c.ttls))

abbrev pub MfcKeyFits : MfcKey → Type 0
MfcKeyFits k = AddrFits k.src × (AddrFits k.dst × Fits16 k.parent)

abbrev pub RequestFits : Request → Type 0
RequestFits request.Init = Unit {0}
RequestFits request.Finish = Unit {0}
RequestFits (request.AddVif c) = VifCtlFits c
RequestFits (request.DelVif i) = Fits16 i
RequestFits (request.AddMfc c) = MfcCtlFits c
RequestFits (request.DelMfc k) = MfcKeyFits k
RequestFits (request.AddProxy c) = MfcCtlFits c
RequestFits (request.DelProxy k) = MfcKeyFits k
RequestFits (request.Pim n) = Fits32 n
RequestFits (request.Assert n) = Fits32 n
RequestFits (request.Flush bits) = Fits32 bits
RequestFits (request.Unknown option) = Fits16 option
RequestFits (request.BadLength option) = Fits16 option
RequestFits request.GetVersion = Unit {0}
RequestFits request.GetPim = Unit {0}
RequestFits request.GetAssert = Unit {0}
RequestFits (request.VifCount i) = Fits16 i
RequestFits (request.SgCount src dst) = AddrFits src × AddrFits dst

abbrev pub RouteTotalsFit : RouteTotals → Type 0
RouteTotalsFit t = Fits64 t.packets × (Fits64 t.bytes × Fits64 t.wrong)

abbrev pub VifTotalsFit : VifTotals → Type 0
VifTotalsFit t = Fits64 t.packets_in × (Fits64 t.packets_out × (Fits64 t.bytes_in × Fits64 t.bytes_out))

abbrev pub ReplyFits : Reply → Type 0
ReplyFits reply.Good = Unit {0}
ReplyFits (reply.Value n) = Fits32 n
ReplyFits (reply.Sg t) = RouteTotalsFit t
ReplyFits (reply.Vif t) = VifTotalsFit t
ReplyFits (reply.Refused errno) = Unit {0}

abbrev pub OutcomeFits : Outcome → Type 0
OutcomeFits (outcome.Forward entry input outs) = Fits32 entry × (VifFits input × MaskFits outs)
OutcomeFits (outcome.Register entry input outs told) = Fits32 entry × (VifFits input × MaskFits outs)
OutcomeFits (outcome.Wrong entry vif report) = Fits32 entry × VifFits vif
OutcomeFits outcome.Parked = Unit {0}
OutcomeFits (outcome.Dropped cause) = Unit {0}

abbrev pub MessageFits : Option MessageId → Type 0
MessageFits None = Unit {0}
MessageFits (Some m) = Fits8 m.vif × (LaneFits m.lane × Fits32 m.index)

abbrev pub FateFits : Fate → Type 0
FateFits (fate.Released n) = Fits32 n
FateFits (fate.Expired n) = Fits32 n
FateFits (fate.Flushed n) = Fits32 n
FateFits fate.Waiting = Unit {0}

abbrev pub SkipFits : Skip → Type 0
SkipFits s = LaneFits s.lane × (Fits32 s.index × Fits8 s.cause)

abbrev pub ReleasedFits : ReleasedId → Type 0
ReleasedFits r = LaneFits r.lane × (Fits32 r.index × OutcomeFits r.outcome)

-- The flow of a record is not printed, so it is all zeros.
abbrev pub RecordFits : FastRecord → Type 0
RecordFits r = Fits32 r.index × (Fits32 r.look × (Fits32 r.entry × (VifFits r.input × (MaskFits r.outs × (r.flow ≡ no_flow)))))

abbrev pub RouteLineFits : RouteLine → Type 0
RouteLineFits r = Fits32 r.number × (AddrFits r.src × (AddrFits r.dst × (Fits8 r.parent × RouteTotalsFit r.totals)))

abbrev pub VifLineFits : VifLine → Type 0
VifLineFits v = Fits8 v.vif × ((is_vif_name v.name ≡ true) × VifTotalsFit v.totals)

abbrev pub FateLineFits : FateLine → Type 0
FateLineFits f = LaneFits f.lane × (Fits32 f.index × FateFits f.fate)

-- what holds of each line that can be read
abbrev pub LineFits : Line → Type 0
LineFits line.History = Unit {0}
LineFits (line.Skip s) = SkipFits s
LineFits (line.Call n d r reply) = Fits64 n × (DaemonFits d × (RequestFits r × ReplyFits reply))
LineFits (line.Released r) = ReleasedFits r
LineFits (line.Slow n lane index look o) = Fits64 n × (LaneFits lane × (Fits32 index × (Fits32 look × OutcomeFits o)))
LineFits (line.Settle n lane count) = Fits64 n × (LaneFits lane × Fits64 count)
LineFits (line.Record r) = RecordFits r
LineFits (line.Tick n d ms) = Fits64 n × (DaemonFits d × Fits32 ms)
LineFits (line.Recv n d message) = Fits64 n × (DaemonFits d × MessageFits message)
LineFits (line.Phase n) = Fits64 n
LineFits (line.Route r) = RouteLineFits r
LineFits (line.Vif v) = VifLineFits v
LineFits (line.Fate f) = FateLineFits f
LineFits line.End = Unit {0}
