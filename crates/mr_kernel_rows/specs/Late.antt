-- A packet that went out on a vif before it was made again, and is settled behind that.
use Rattle.std.specs.Prelude.{ℕ, ◌+◌, true, Some, List, [], ◌∷◌, replicate}
use Rattle.mr_base.specs.declared.numbers.Addr.{Addr}
use Rattle.mr_base.specs.declared.numbers.DaemonNo.{DaemonNo}
use Rattle.mr_model.specs.declared.entry.Entry.{Entry}
use Rattle.mr_model.specs.declared.entry.Entry.TheVariants.{Call}
use Rattle.mr_model.specs.declared.entry.FastRecord.{FastRecord}
use Rattle.mr_model.specs.declared.limits.Limits.{Limits}
use Rattle.mr_model.specs.declared.reply.Reply.TheVariants.{Good}
use Rattle.mr_model.specs.declared.request.Request.{Request}
use Rattle.mr_model.specs.declared.request.Request.TheVariants.{Init, AddVif, DelVif, AddMfc}

abbrev pub address : ℕ → Addr
address n = record { 0 = n }

-- 10.0.0.9 and 239.1.1.1
abbrev pub source : Addr
source = address 167772169

abbrev pub group : Addr
group = address 4009820417

-- devices with the addresses 10.0.0.1 and 10.0.1.1, one lane of one packet, and one daemon
abbrev pub limits : Limits
limits = record {
  entries = 4;
  unresolved = 1;
  controls = 8;
  phases = 1;
  packets = 1 ∷ [];
  admins = true ∷ [];
  devices =
      record { addr = address 167772161 } ∷ record { addr = address 167772417 } ∷ [];
}

-- `addvif VIF 8 @VIF+1`
abbrev pub add_vif : ℕ → Request
add_vif i = AddVif (record { vif = i; flags = 8; local = i + 1 })

-- `addmfc 10.0.0.9 239.1.1.1 0 1:1`
abbrev pub add_mfc : Request
add_mfc = AddMfc (record { src = source; dst = group; parent = 0; ttls = 0 ∷ 1 ∷ replicate 30 0 })

abbrev pub daemon_1 : DaemonNo
daemon_1 = record { 0 = 1 }

-- a good call that releases nothing
abbrev pub good : Request → Entry
good r = Call daemon_1 r Good []

-- the calls before the packet is settled
abbrev pub calls : List Entry
calls =
    good Init
    ∷ good (add_vif 0)
    ∷ good (add_vif 1)
    ∷ good add_mfc
    ∷ good (DelVif 1)
    ∷ good (add_vif 1) ∷ []

-- the packet, which the first four entries forwarded from vif 0 to vif 1
abbrev pub late : FastRecord
late = record {
  index = 1;
  look = 4;
  entry = 4;
  input = Some 0;
  outs = record { 0 = 2 };
  flow = record { dev = 1; src = source; dst = group; ttl = 9; length = 28 };
}
