-- The words of each line of a history.
use Rattle.std.specs.Prelude.{Bool, true, false, Option, Some, None, List, [], ◌∷◌, ◌++◌, codes, decimal}
use Rattle.mr_base.specs.Errnos.{number_of}
use Rattle.mr_lines.specs.declared.line.Line.{Line}
use Rattle.mr_lines.specs.declared.line.Line.TheVariants as line
use Rattle.mr_lines.specs.declared.skip.Skip.{Skip}
use Rattle.mr_lines.specs.declared.tail.RouteLine.{RouteLine}
use Rattle.mr_lines.specs.declared.tail.VifLine.{VifLine}
use Rattle.mr_model.specs.declared.ending.Fate.{Fate}
use Rattle.mr_model.specs.declared.ending.Fate.TheVariants as fate
use Rattle.mr_model.specs.declared.ending.FateLine.{FateLine}
use Rattle.mr_model.specs.declared.entry.FastRecord.{FastRecord}
use Rattle.mr_model.specs.declared.entry.ReleasedId.{ReleasedId}
use Rattle.mr_model.specs.declared.message.Kind.{Kind}
use Rattle.mr_model.specs.declared.message.Kind.TheVariants as kind
use Rattle.mr_model.specs.declared.message.MessageId.{MessageId}
use Rattle.mr_model.specs.declared.outcome.Cause.{Cause}
use Rattle.mr_model.specs.declared.outcome.Cause.TheVariants as cause
use Rattle.mr_model.specs.declared.outcome.Outcome.{Outcome}
use Rattle.mr_model.specs.declared.outcome.Outcome.TheVariants as outcome
use Rattle.mr_model.specs.declared.outcome.Report.{Report}
use Rattle.mr_model.specs.declared.outcome.Report.TheVariants as report
use Rattle.mr_model.specs.declared.reply.Reply.{Reply}
use Rattle.mr_model.specs.declared.reply.Reply.TheVariants as reply
use Rattle.mr_model.specs.declared.reply.RouteTotals.{RouteTotals}
use Rattle.mr_model.specs.declared.reply.VifTotals.{VifTotals}
use Rattle.mr_model.specs.declared.request.Request.{Request}
use Rattle.mr_model.specs.declared.request.Request.TheVariants as request
use Rattle.mr_lines.specs.Forms.{Word, address, mask, vif_or_none, local_word, route_words, key_words}

abbrev pub request_words : Request → List Word
request_words request.Init = codes "init" ∷ []
request_words request.Finish = codes "done" ∷ []
request_words (request.AddVif c) = codes "addvif" ∷ decimal c.vif ∷ decimal c.flags ∷ local_word c ∷ []
request_words (request.DelVif i) = codes "delvif" ∷ decimal i ∷ []
request_words (request.AddMfc c) = codes "addmfc" ∷ route_words c
request_words (request.DelMfc k) = codes "delmfc" ∷ key_words k
request_words (request.AddProxy c) = codes "addproxy" ∷ route_words c
request_words (request.DelProxy k) = codes "delproxy" ∷ key_words k
request_words (request.Pim n) = codes "pim" ∷ decimal n ∷ []
request_words (request.Assert n) = codes "assert" ∷ decimal n ∷ []
request_words (request.Flush bits) = codes "flush" ∷ decimal bits ∷ []
request_words (request.Unknown option) = codes "unknown" ∷ decimal option ∷ []
request_words (request.BadLength option) = codes "badlength" ∷ decimal option ∷ []
request_words request.GetVersion = codes "version" ∷ []
request_words request.GetPim = codes "getpim" ∷ []
request_words request.GetAssert = codes "getassert" ∷ []
request_words (request.VifCount i) = codes "vifcnt" ∷ decimal i ∷ []
request_words (request.SgCount src dst) = codes "sgcnt" ∷ address src ∷ address dst ∷ []

abbrev pub route_total_words : RouteTotals → List Word
route_total_words t = decimal t.packets ∷ decimal t.bytes ∷ decimal t.wrong ∷ []

-- in and out in packets, then in and out in bytes
abbrev pub vif_total_words : VifTotals → List Word
vif_total_words t = decimal t.packets_in ∷ decimal t.packets_out ∷ decimal t.bytes_in ∷ decimal t.bytes_out ∷ []

abbrev pub reply_words : Reply → List Word
reply_words reply.Good = codes "ok" ∷ []
reply_words (reply.Value n) = codes "ok" ∷ decimal n ∷ []
reply_words (reply.Sg t) = codes "sg" ∷ route_total_words t
reply_words (reply.Vif t) = codes "vif" ∷ vif_total_words t
reply_words (reply.Refused errno) = codes "err" ∷ decimal (number_of errno) ∷ []

abbrev pub report_word : Report → Word
report_word report.Quiet = codes "quiet"
report_word report.Told = codes "told"
report_word report.Lost = codes "lost"

abbrev pub cause_word : Cause → Word
cause_word cause.NoVif = codes "novif"
cause_word cause.NoDaemon = codes "nodaemon"
cause_word cause.Entries = codes "entries"
cause_word cause.Packets = codes "packets"
cause_word cause.Upcall = codes "upcall"

abbrev pub told_word : Bool → Word
told_word true = codes "told"
told_word false = codes "lost"

abbrev pub outcome_words : Outcome → List Word
outcome_words (outcome.Forward entry input outs) = codes "fwd" ∷ decimal entry ∷ vif_or_none input ∷ mask outs ∷ []
outcome_words (outcome.Register entry input outs told) = codes "reg" ∷ decimal entry ∷ vif_or_none input ∷ mask outs ∷ told_word told ∷ []
outcome_words (outcome.Wrong entry vif report) = codes "wrong" ∷ decimal entry ∷ vif_or_none vif ∷ report_word report ∷ []
outcome_words outcome.Parked = codes "parked" ∷ []
outcome_words (outcome.Dropped cause) = codes "drop" ∷ cause_word cause ∷ []

abbrev pub kind_word : Kind → Word
kind_word kind.NoCache = codes "nocache"
kind_word kind.WrongVif = codes "wrongvif"
kind_word kind.WholePkt = codes "wholepkt"

abbrev pub message_words : Option MessageId → List Word
message_words None = codes "none" ∷ []
message_words (Some m) = kind_word m.kind ∷ decimal m.vif ∷ decimal m.lane.0 ∷ decimal m.index ∷ []

abbrev pub fate_words : Fate → List Word
fate_words (fate.Released n) = codes "released" ∷ decimal n ∷ []
fate_words (fate.Expired n) = codes "expired" ∷ decimal n ∷ []
fate_words (fate.Flushed n) = codes "flushed" ∷ decimal n ∷ []
fate_words fate.Waiting = codes "waiting" ∷ []

-- a released packet, and a fast record
abbrev pub released_words : ReleasedId → List Word
released_words r = codes "-" ∷ decimal r.lane.0 ∷ decimal r.index ∷ outcome_words r.outcome

abbrev pub record_words : FastRecord → List Word
record_words r = codes "-" ∷ decimal r.index ∷ decimal r.look ∷ decimal r.entry ∷ vif_or_none r.input ∷ mask r.outs ∷ []

abbrev pub skip_words : Skip → List Word
skip_words s = codes "skip" ∷ decimal s.lane.0 ∷ decimal s.index ∷ decimal s.cause ∷ []

abbrev pub route_line_words : RouteLine → List Word
route_line_words r =
    codes "route" ∷ decimal r.number ∷ address r.src ∷ address r.dst ∷ decimal r.parent ∷ route_total_words r.totals

abbrev pub vif_line_words : VifLine → List Word
vif_line_words v = codes "vif" ∷ decimal v.vif ∷ v.name ∷ vif_total_words v.totals

abbrev pub fate_line_words : FateLine → List Word
fate_line_words f = codes "fate" ∷ decimal f.lane.0 ∷ decimal f.index ∷ fate_words f.fate

-- the words of a line
abbrev pub line_words : Line → List Word
line_words line.History = codes "history" ∷ codes "1" ∷ []
line_words (line.Skip s) = skip_words s
line_words (line.Call n d r reply) = decimal n ∷ codes "call" ∷ decimal d.0 ∷ (request_words r ++ codes "=" ∷ reply_words reply)
line_words (line.Released r) = released_words r
line_words (line.Slow n lane index look o) = decimal n ∷ codes "slow" ∷ decimal lane.0 ∷ decimal index ∷ decimal look ∷ outcome_words o
line_words (line.Settle n lane count) = decimal n ∷ codes "settle" ∷ decimal lane.0 ∷ decimal count ∷ []
line_words (line.Record r) = record_words r
line_words (line.Tick n d ms) = decimal n ∷ codes "tick" ∷ decimal d.0 ∷ decimal ms ∷ []
line_words (line.Recv n d message) = decimal n ∷ codes "recv" ∷ decimal d.0 ∷ message_words message
line_words (line.Phase n) = decimal n ∷ codes "phase" ∷ []
line_words (line.Route r) = route_line_words r
line_words (line.Vif v) = vif_line_words v
line_words (line.Fate f) = fate_line_words f
line_words line.End = codes "end" ∷ []
