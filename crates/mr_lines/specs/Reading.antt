-- What the words of a line say.
use Rattle.std.specs.Prelude.{ℕ, ◌||◌, Bool, Option, Some, None, List, [], ◌∷◌, bytes_eq, codes, if◌then◌else◌, option_and_then}
use Rattle.mr_base.specs.declared.numbers.Addr.{Addr}
use Rattle.mr_base.specs.declared.numbers.DaemonNo.{DaemonNo}
use Rattle.mr_base.specs.declared.numbers.LaneNo.{LaneNo}
use Rattle.mr_base.specs.declared.numbers.Mask.{Mask}
use Rattle.mr_lines.specs.declared.line.Line.{Line}
use Rattle.mr_lines.specs.declared.line.Line.TheVariants as line
use Rattle.mr_lines.specs.declared.skip.Skip.{Skip}
use Rattle.mr_lines.specs.declared.tail.RouteLine.{RouteLine}
use Rattle.mr_lines.specs.declared.tail.VifLine.{VifLine}
use Rattle.mr_model.specs.declared.ending.Fate.{Fate}
use Rattle.mr_model.specs.declared.ending.Fate.TheVariants as fate
use Rattle.mr_model.specs.declared.ending.FateLine.{FateLine}
use Rattle.mr_model.specs.declared.entry.FastRecord.{FastRecord}
use Rattle.mr_model.specs.declared.message.Kind.{Kind}
use Rattle.mr_model.specs.declared.message.MessageId.{MessageId}
use Rattle.mr_model.specs.declared.outcome.Outcome.{Outcome}
use Rattle.mr_model.specs.declared.outcome.Outcome.TheVariants as outcome
use Rattle.mr_model.specs.declared.outcome.Report.{Report}
use Rattle.mr_model.specs.declared.reply.Reply.{Reply}
use Rattle.mr_model.specs.declared.reply.Reply.TheVariants as reply
use Rattle.mr_model.specs.declared.reply.RouteTotals.{RouteTotals}
use Rattle.mr_model.specs.declared.reply.VifTotals.{VifTotals}
use Rattle.mr_model.specs.declared.request.MfcCtl.{MfcCtl}
use Rattle.mr_model.specs.declared.request.MfcKey.{MfcKey}
use Rattle.mr_model.specs.declared.request.Request.{Request}
use Rattle.mr_model.specs.declared.request.Request.TheVariants as request
use Rattle.mr_model.specs.declared.request.VifCtl.{VifCtl}
use Rattle.mr_lines.specs.Fields.{Read, one, done, both, mapped, keyword, closed_by, by_word, whole}
use Rattle.mr_lines.specs.Fit.{no_flow}
use Rattle.mr_lines.specs.Forms.{Word}
use Rattle.mr_lines.specs.Words.{number8, number16, number32, number64, addr_of, vif_or_none_of, mask_of, name_of, local_of, ttls_from, errno_of, report_of, told_of, cause_of, kind_of}

-- Fields of one word.
abbrev pub u8 : Read ℕ
u8 ws = one number8 ws

abbrev pub u16 : Read ℕ
u16 ws = one number16 ws

abbrev pub u32 : Read ℕ
u32 ws = one number32 ws

abbrev pub u64 : Read ℕ
u64 ws = one number64 ws

abbrev pub addr : Read Addr
addr ws = one addr_of ws

abbrev pub vif_or_none : Read (Option ℕ)
vif_or_none ws = one vif_or_none_of ws

abbrev pub mask : Read Mask
mask ws = one mask_of ws

abbrev pub to_lane : ℕ → LaneNo
to_lane n = record { 0 = n }

abbrev pub lane : Read LaneNo
lane ws = mapped to_lane u32 ws

abbrev pub to_daemon : ℕ → DaemonNo
to_daemon n = record { 0 = n }

abbrev pub daemon : Read DaemonNo
daemon ws = mapped to_daemon u32 ws

-- PACKETS BYTES WRONG
abbrev pub to_route_totals : (ℕ × (ℕ × ℕ)) → RouteTotals
to_route_totals p = record { packets = p.0; bytes = p.1.0; wrong = p.1.1 }

abbrev pub route_totals : Read RouteTotals
route_totals ws = mapped to_route_totals (both u64 (both u64 u64)) ws

-- IN OUT BYTESIN BYTESOUT
abbrev pub to_vif_totals : (ℕ × (ℕ × (ℕ × ℕ))) → VifTotals
to_vif_totals p = record { packets_in = p.0; packets_out = p.1.0; bytes_in = p.1.1.0; bytes_out = p.1.1.1 }

abbrev pub vif_totals : Read VifTotals
vif_totals ws = mapped to_vif_totals (both u64 (both u64 (both u64 u64))) ws

-- VIF FLAGS LOCAL, where the flags say what LOCAL is
abbrev pub to_vif_ctl : (ℕ × ℕ) → ℕ → VifCtl
to_vif_ctl p local = record { vif = p.0; flags = p.1; local = local }

abbrev pub with_local : ((ℕ × ℕ) × List Word) → Option (VifCtl × List Word)
with_local x = mapped (to_vif_ctl x.0) (one (local_of x.0.1)) x.1

abbrev pub vif_ctl : Read VifCtl
vif_ctl ws = option_and_then with_local (both u16 u8 ws)

-- S G PARENT
abbrev pub to_key : (Addr × (Addr × ℕ)) → MfcKey
to_key p = record { src = p.0; dst = p.1.0; parent = p.1.1 }

abbrev pub key : Read MfcKey
key ws = mapped to_key (both addr (both addr u16)) ws

-- the items `V:T` of a request
abbrev pub ttls : Read (List ℕ)
ttls ws = Some (ttls_from 32 0 ws)

-- S G PARENT V:T ..
abbrev pub to_route_ctl : (MfcKey × List ℕ) → MfcCtl
to_route_ctl p = record { src = p.0.src; dst = p.0.dst; parent = p.0.parent; ttls = p.1 }

abbrev pub route_ctl : Read MfcCtl
route_ctl ws = mapped to_route_ctl (both key ttls) ws

abbrev pub to_count : (Addr × Addr) → Request
to_count p = request.SgCount p.0 p.1

-- a request by its first word
abbrev pub request_at : Word → Read Request
request_at w ws =
    if bytes_eq w (codes "init") then done request.Init ws
    else if bytes_eq w (codes "done") then done request.Finish ws
    else if bytes_eq w (codes "addvif") then mapped request.AddVif vif_ctl ws
    else if bytes_eq w (codes "delvif") then mapped request.DelVif u16 ws
    else if bytes_eq w (codes "addmfc") then mapped request.AddMfc route_ctl ws
    else if bytes_eq w (codes "delmfc") then mapped request.DelMfc key ws
    else if bytes_eq w (codes "addproxy") then mapped request.AddProxy route_ctl ws
    else if bytes_eq w (codes "delproxy") then mapped request.DelProxy key ws
    else if bytes_eq w (codes "pim") then mapped request.Pim u32 ws
    else if bytes_eq w (codes "assert") then mapped request.Assert u32 ws
    else if bytes_eq w (codes "flush") then mapped request.Flush u32 ws
    else if bytes_eq w (codes "unknown") then mapped request.Unknown u16 ws
    else if bytes_eq w (codes "badlength") then mapped request.BadLength u16 ws
    else if bytes_eq w (codes "version") then done request.GetVersion ws
    else if bytes_eq w (codes "getpim") then done request.GetPim ws
    else if bytes_eq w (codes "getassert") then done request.GetAssert ws
    else if bytes_eq w (codes "vifcnt") then mapped request.VifCount u16 ws
    else if bytes_eq w (codes "sgcnt") then mapped to_count (both addr addr) ws
    else None

-- a request, and the word `=` behind it
abbrev pub asked : Read Request
asked ws = closed_by (codes "=") (by_word request_at) ws

-- `ok`, or `ok VALUE`
abbrev pub good : Read Reply
good [] = Some (reply.Good, [])
good (w ∷ ws) = mapped reply.Value u32 (w ∷ ws)

abbrev pub reply_at : Word → Read Reply
reply_at w ws =
    if bytes_eq w (codes "ok") then good ws
    else if bytes_eq w (codes "sg") then mapped reply.Sg route_totals ws
    else if bytes_eq w (codes "vif") then mapped reply.Vif vif_totals ws
    else if bytes_eq w (codes "err") then mapped reply.Refused (one errno_of) ws
    else None

abbrev pub replied : Read Reply
replied ws = by_word reply_at ws

-- outcomes
abbrev pub to_forward : (ℕ × (Option ℕ × Mask)) → Outcome
to_forward p = outcome.Forward p.0 p.1.0 p.1.1

abbrev pub to_register : (ℕ × (Option ℕ × (Mask × Bool))) → Outcome
to_register p = outcome.Register p.0 p.1.0 p.1.1.0 p.1.1.1

abbrev pub to_wrong : (ℕ × (Option ℕ × Report)) → Outcome
to_wrong p = outcome.Wrong p.0 p.1.0 p.1.1

abbrev pub outcome_at : Word → Read Outcome
outcome_at w ws =
    if bytes_eq w (codes "fwd") then mapped to_forward (both u32 (both vif_or_none mask)) ws
    else if bytes_eq w (codes "reg") then mapped to_register (both u32 (both vif_or_none (both mask (one told_of)))) ws
    else if bytes_eq w (codes "wrong") then mapped to_wrong (both u32 (both vif_or_none (one report_of))) ws
    else if bytes_eq w (codes "parked") then done outcome.Parked ws
    else if bytes_eq w (codes "drop") then mapped outcome.Dropped (one cause_of) ws
    else None

abbrev pub happened : Read Outcome
happened ws = by_word outcome_at ws

-- whether a word begins an outcome
abbrev pub is_outcome : Word → Bool
is_outcome w = bytes_eq w (codes "fwd") || bytes_eq w (codes "reg") || bytes_eq w (codes "wrong") || bytes_eq w (codes "parked") || bytes_eq w (codes "drop")

-- `- LANE INDEX OUTCOME`, a released packet, and `- INDEX LOOK ENTRY IN OUTS`, a record: what stands behind both numbers tells
abbrev pub to_released : (ℕ × ℕ) → Outcome → Line
to_released p o = line.Released (record { lane = to_lane p.0; index = p.1; outcome = o })

abbrev pub record_of : (ℕ × ℕ) → (ℕ × (Option ℕ × Mask)) → FastRecord
record_of p q = record { index = p.0; look = p.1; entry = q.0; input = q.1.0; outs = q.1.1; flow = no_flow }

abbrev pub to_record : (ℕ × ℕ) → (ℕ × (Option ℕ × Mask)) → Line
to_record p q = line.Record (record_of p q)

abbrev pub dash_at : (ℕ × ℕ) → Word → Read Line
dash_at p w ws =
    if is_outcome w then mapped (to_released p) happened (w ∷ ws) else mapped (to_record p) (both u32 (both vif_or_none mask)) (w ∷ ws)

abbrev pub behind_numbers : ((ℕ × ℕ) × List Word) → Option (Line × List Word)
behind_numbers x = by_word (dash_at x.0) x.1

abbrev pub dash : Read Line
dash ws = option_and_then behind_numbers (both u32 u32 ws)

-- LANE ITEM CAUSE
abbrev pub to_skip : (LaneNo × (ℕ × ℕ)) → Skip
to_skip p = record { lane = p.0; index = p.1.0; cause = p.1.1 }

abbrev pub skip : Read Skip
skip ws = mapped to_skip (both lane (both u32 u8)) ws

-- NUMBER S G PARENT PACKETS BYTES WRONG
abbrev pub to_route : (ℕ × (Addr × (Addr × (ℕ × RouteTotals)))) → RouteLine
to_route p = record { number = p.0; src = p.1.0; dst = p.1.1.0; parent = p.1.1.1.0; totals = p.1.1.1.1 }

abbrev pub route : Read RouteLine
route ws = mapped to_route (both u32 (both addr (both addr (both u8 route_totals)))) ws

-- I DEVICE IN OUT BYTESIN BYTESOUT
abbrev pub to_vif : (ℕ × (Word × VifTotals)) → VifLine
to_vif p = record { vif = p.0; name = p.1.0; totals = p.1.1 }

abbrev pub vif : Read VifLine
vif ws = mapped to_vif (both u8 (both (one name_of) vif_totals)) ws

-- LANE INDEX, and what became of the packet
abbrev pub fate_at : Word → Read Fate
fate_at w ws =
    if bytes_eq w (codes "released") then mapped fate.Released u32 ws
    else if bytes_eq w (codes "expired") then mapped fate.Expired u32 ws
    else if bytes_eq w (codes "flushed") then mapped fate.Flushed u32 ws
    else if bytes_eq w (codes "waiting") then done fate.Waiting ws
    else None

abbrev pub to_fate : (LaneNo × (ℕ × Fate)) → FateLine
to_fate p = record { lane = p.0; index = p.1.0; fate = p.1.1 }

abbrev pub fate_line : Read FateLine
fate_line ws = mapped to_fate (both lane (both u32 (by_word fate_at))) ws

-- entries, behind their number n
abbrev pub to_call : ℕ → (DaemonNo × (Request × Reply)) → Line
to_call n p = line.Call n p.0 p.1.0 p.1.1

abbrev pub to_slow : ℕ → (LaneNo × (ℕ × (ℕ × Outcome))) → Line
to_slow n p = line.Slow n p.0 p.1.0 p.1.1.0 p.1.1.1

abbrev pub to_settle : ℕ → (LaneNo × ℕ) → Line
to_settle n p = line.Settle n p.0 p.1

abbrev pub to_tick : ℕ → (DaemonNo × ℕ) → Line
to_tick n p = line.Tick n p.0 p.1

abbrev pub to_recv : ℕ → (DaemonNo × Option MessageId) → Line
to_recv n p = line.Recv n p.0 p.1

-- VIF LANE INDEX of a message
abbrev pub to_message : Kind → (ℕ × (LaneNo × ℕ)) → Option MessageId
to_message k p = Some (record { kind = k; vif = p.0; lane = p.1.0; index = p.1.1 })

abbrev pub message_of : Option Kind → Read (Option MessageId)
message_of None ws = None
message_of (Some k) ws = mapped (to_message k) (both u8 (both lane u32)) ws

-- `none`, or a kind and what names the message
abbrev pub message_at : Word → Read (Option MessageId)
message_at w ws = if bytes_eq w (codes "none") then done None ws else message_of (kind_of w) ws

abbrev pub entry_at : ℕ → Word → Read Line
entry_at n w ws =
    if bytes_eq w (codes "call") then mapped (to_call n) (both daemon (both asked replied)) ws
    else if bytes_eq w (codes "slow") then mapped (to_slow n) (both lane (both u32 (both u32 happened))) ws
    else if bytes_eq w (codes "settle") then mapped (to_settle n) (both lane u64) ws
    else if bytes_eq w (codes "tick") then mapped (to_tick n) (both daemon u32) ws
    else if bytes_eq w (codes "recv") then mapped (to_recv n) (both daemon (by_word message_at)) ws
    else if bytes_eq w (codes "phase") then done (line.Phase n) ws
    else None

abbrev pub entry_of : Option ℕ → Read Line
entry_of None ws = None
entry_of (Some n) ws = by_word (entry_at n) ws

abbrev pub numbered : Word → Read Line
numbered w ws = entry_of (number64 w) ws

-- a line by its first word; that of an entry is its number
abbrev pub line_at : Word → Read Line
line_at w ws =
    if bytes_eq w (codes "history") then keyword (codes "1") line.History ws
    else if bytes_eq w (codes "skip") then mapped line.Skip skip ws
    else if bytes_eq w (codes "-") then dash ws
    else if bytes_eq w (codes "route") then mapped line.Route route ws
    else if bytes_eq w (codes "vif") then mapped line.Vif vif ws
    else if bytes_eq w (codes "fate") then mapped line.Fate fate_line ws
    else if bytes_eq w (codes "end") then done line.End ws
    else numbered w ws

-- the line that words spell
abbrev pub line_of : List Word → Option Line
line_of ws = whole (by_word line_at) ws

-- the fields of a record alone
abbrev pub record_behind : ((ℕ × ℕ) × List Word) → Option (FastRecord × List Word)
record_behind x = mapped (record_of x.0) (both u32 (both vif_or_none mask)) x.1

abbrev pub record_fields : Read FastRecord
record_fields ws = option_and_then record_behind (both u32 u32 ws)

-- the record that a line is
abbrev pub as_record : Line → Option FastRecord
as_record (line.Record r) = Some r
as_record _ = None
