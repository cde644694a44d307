-- What the worked histories are written with.
use Rattle.std.specs.Prelude.{ℕ, ◌+◌, ◌*◌, ◌^◌, ◌==◌, Bool, true, false, if◌then◌else◌, Option, Some, List, [], ◌∷◌, map, sum_by}
use Rattle.mr_base.specs.declared.device.Device.{Device}
use Rattle.mr_base.specs.declared.errno.Errno.{Errno}
use Rattle.mr_base.specs.declared.numbers.Addr.{Addr}
use Rattle.mr_base.specs.declared.numbers.DaemonNo.{DaemonNo}
use Rattle.mr_base.specs.declared.numbers.LaneNo.{LaneNo}
use Rattle.mr_base.specs.declared.numbers.Mask.{Mask}
use Rattle.mr_base.specs.declared.route.Route.{Route}
use Rattle.mr_base.specs.declared.vif_record.VifRecord.{VifRecord}
use Rattle.mr_model.specs.declared.change.Change.{Change}
use Rattle.mr_model.specs.declared.change.What.{What}
use Rattle.mr_model.specs.declared.ending.Fate.{Fate}
use Rattle.mr_model.specs.declared.ending.FateLine.{FateLine}
use Rattle.mr_model.specs.declared.entry.Entry.{Entry}
use Rattle.mr_model.specs.declared.entry.Entry.TheVariants.{Call, Slow, Settle, Tick, Recv}
use Rattle.mr_model.specs.declared.entry.FastRecord.{FastRecord}
use Rattle.mr_model.specs.declared.entry.ReleasedId.{ReleasedId}
use Rattle.mr_model.specs.declared.flow.Flow.{Flow}
use Rattle.mr_model.specs.declared.limits.Limits.{Limits}
use Rattle.mr_model.specs.declared.message.Kind.{Kind}
use Rattle.mr_model.specs.declared.message.MessageId.{MessageId}
use Rattle.mr_model.specs.declared.outcome.Outcome.{Outcome}
use Rattle.mr_model.specs.declared.outcome.Outcome.TheVariants.{Forward}
use Rattle.mr_model.specs.declared.reply.Reply.{Reply}
use Rattle.mr_model.specs.declared.reply.Reply.TheVariants.{Good, Refused}
use Rattle.mr_model.specs.declared.reply.RouteTotals.{RouteTotals}
use Rattle.mr_model.specs.declared.reply.VifTotals.{VifTotals}
use Rattle.mr_model.specs.declared.request.MfcKey.{MfcKey}
use Rattle.mr_model.specs.declared.request.Request.{Request}
use Rattle.mr_model.specs.declared.request.Request.TheVariants.{Init, AddVif, AddMfc, AddProxy}
use Rattle.mr_model.specs.Ending.{indexes}

-- the address a.b.c.d
abbrev pub addr : ℕ → ℕ → ℕ → ℕ → Addr
addr a b c d = record { 0 = ((a * 256 + b) * 256 + c) * 256 + d }

-- 0.0.0.0
abbrev pub any : Addr
any = record { 0 = 0 }

-- the source 10.0.0.9 and the group 239.1.1.1, which most histories have
abbrev pub source : Addr
source = addr 10 0 0 9

abbrev pub group : Addr
group = addr 239 1 1 1

-- the group 239.1.1.2
abbrev pub second_group : Addr
second_group = addr 239 1 1 2

-- the devices at 10.0.i.1 for these i
abbrev pub devices_at : List ℕ → List Device
devices_at is = map (λ i. record { addr = addr 10 0 i 1 }) is

-- The fixed data of a run with the usual limits: 1,024 entries, ten waiting entries and 65,536 control entries.
abbrev pub limits_of : ℕ → List ℕ → List Bool → List Device → Limits
limits_of phases packets admins devices = record {
  entries = 1024;
  unresolved = 10;
  controls = 65536;
  phases = phases;
  packets = packets;
  admins = admins;
  devices = devices;
}

-- that of one admin daemon and one lane with so many packets
abbrev pub usual : ℕ → ℕ → List ℕ → Limits
usual phases packets devices = limits_of phases (packets ∷ []) (true ∷ []) (devices_at devices)

abbrev pub daemon : ℕ → DaemonNo
daemon n = record { 0 = n }

abbrev pub lane : ℕ → LaneNo
lane n = record { 0 = n }

-- the set of these vifs
abbrev pub mask : List ℕ → Mask
mask vifs = record { 0 = sum_by (λ i. 2 ^ i) vifs }

-- what the pairs give for vif i, and where they give nothing `other`
abbrev pub given : ℕ → List (ℕ × ℕ) → ℕ → ℕ
given other [] i = other
given other (p ∷ ps) i = if p.0 == i then p.1 else given other ps i

-- a threshold for each of the 32 vifs, by pairs of a vif and its threshold
abbrev pub thresholds : ℕ → List (ℕ × ℕ) → List ℕ
thresholds other pairs = map (given other pairs) indexes

-- MRT_ADD_VIF of vif i, with flags and what they make of the local field
abbrev pub add_vif : ℕ → ℕ → ℕ → Request
add_vif i flags local = AddVif (record { vif = i; flags = flags; local = local })

-- MRT_ADD_MFC and MRT_ADD_MFC_PROXY, with pairs of a vif and the threshold that is asked for it
abbrev pub add_mfc : Addr → Addr → ℕ → List (ℕ × ℕ) → Request
add_mfc src dst parent pairs = AddMfc (record { src = src; dst = dst; parent = parent; ttls = thresholds 0 pairs })

abbrev pub add_proxy : Addr → Addr → ℕ → List (ℕ × ℕ) → Request
add_proxy src dst parent pairs = AddProxy (record { src = src; dst = dst; parent = parent; ttls = thresholds 0 pairs })

-- origin, group and parent of an entry that is to be deleted
abbrev pub key : Addr → Addr → ℕ → MfcKey
key src dst parent = record { src = src; dst = dst; parent = parent }

-- a call that releases nothing
abbrev pub call : ℕ → Request → Reply → Entry
call d request reply = Call (daemon d) request reply []

abbrev pub good : ℕ → Request → Entry
good d request = call d request Good

abbrev pub refused : ℕ → Request → Errno → Entry
refused d request errno = call d request (Refused errno)

-- Daemon 1 becomes the owner and adds these vifs, each on the device whose number is one more.
abbrev pub opening : List ℕ → List Entry
opening vifs = good 1 Init ∷ map (λ i. good 1 (add_vif i 8 (i + 1))) vifs

abbrev pub tick : ℕ → Entry
tick ms = Tick (daemon 1) ms

abbrev pub recv : Option MessageId → Entry
recv message = Recv (daemon 1) message

-- a report that a packet of lane 1 caused
abbrev pub report : Kind → ℕ → ℕ → MessageId
report kind vif index = record { kind = kind; vif = vif; lane = lane 1; index = index }

-- a packet of 28 bytes
abbrev pub packet : ℕ → Addr → Addr → ℕ → Flow
packet dev src dst ttl = record { dev = dev; src = src; dst = dst; ttl = ttl; length = 28 }

-- the packet of lane 1 with this index, decided under the lock
abbrev pub slow : ℕ → ℕ → Flow → Outcome → Entry
slow index look flow outcome = Slow (lane 1) index look flow outcome

-- It met the entry, counts in on a vif and goes out on these vifs.
abbrev pub forward : ℕ → ℕ → List ℕ → Outcome
forward entry input outs = Forward entry (Some input) (mask outs)

-- the same of a packet that is forwarded without the lock, by what its look had seen
abbrev pub fast : ℕ → ℕ → Flow → ℕ → ℕ → List ℕ → FastRecord
fast index look flow entry input outs = record {
  index = index;
  look = look;
  entry = entry;
  input = Some input;
  outs = mask outs;
  flow = flow;
}

-- such packets of lane 1 are counted
abbrev pub settle : List FastRecord → Entry
settle records = Settle (lane 1) records

-- a packet of lane 1 that a call released
abbrev pub freed : ℕ → Outcome → ReleasedId
freed index outcome = record { lane = lane 1; index = index; outcome = outcome }

-- a live entry with pairs of a vif and its threshold, the others having none
abbrev pub route : ℕ → Addr → Addr → ℕ → List (ℕ × ℕ) → Route
route number src dst parent pairs = record {
  number = number;
  src = src;
  dst = dst;
  parent = parent;
  ttls = thresholds 255 pairs;
  fixed = false;
}

-- a live vif on a device
abbrev pub vif : ℕ → ℕ → ℕ → VifRecord
vif i dev number = record { vif = i; dev = dev; register = false; fixed = false; number = number }

-- a live register vif
abbrev pub register : ℕ → ℕ → VifRecord
register i number = record { vif = i; dev = 0; register = true; fixed = false; number = number }

abbrev pub route_totals : ℕ → ℕ → ℕ → RouteTotals
route_totals packets bytes wrong = record { packets = packets; bytes = bytes; wrong = wrong }

-- packets in and out, bytes in and out
abbrev pub vif_totals : ℕ → ℕ → ℕ → ℕ → VifTotals
vif_totals packets_in packets_out bytes_in bytes_out = record {
  packets_in = packets_in;
  packets_out = packets_out;
  bytes_in = bytes_in;
  bytes_out = bytes_out;
}

-- the fate of a packet of lane 1
abbrev pub fate_line : ℕ → Fate → FateLine
fate_line index fate = record { lane = lane 1; index = index; fate = fate }

-- the same as `route` and `vif`, static
abbrev pub fixed_route : ℕ → Addr → Addr → ℕ → List (ℕ × ℕ) → Route
fixed_route number src dst parent pairs = record (route number src dst parent pairs) { fixed = true }

abbrev pub fixed_vif : ℕ → ℕ → ℕ → VifRecord
fixed_vif i dev number = record (vif i dev number) { fixed = true }

-- the change that call n makes
abbrev pub change : ℕ → What → Change
change n what = record { number = n; what = what }
