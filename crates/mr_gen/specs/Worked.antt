-- A worked history: five packets, of which two (S,G) entries counted two each, and one waits.
use Rattle.std.specs.Prelude.{ℕ, ◌+◌, true, Some, None, List, [], ◌∷◌, codes, replicate}
use Rattle.mr_base.specs.declared.device.Device.{Device}
use Rattle.mr_base.specs.declared.numbers.Addr.{Addr}
use Rattle.mr_gen.specs.Entries.{address}
use Rattle.mr_model.specs.declared.entry.Entry.{Entry}
use Rattle.mr_model.specs.declared.entry.Entry.TheVariants.{Call, Slow, Settle, EndPhase}
use Rattle.mr_model.specs.declared.entry.FastRecord.{FastRecord}
use Rattle.mr_model.specs.declared.flow.Flow.{Flow}
use Rattle.mr_model.specs.declared.limits.Limits.{Limits}
use Rattle.mr_model.specs.declared.outcome.Outcome.{Outcome}
use Rattle.mr_model.specs.declared.outcome.Outcome.TheVariants.{Forward, Parked}
use Rattle.mr_model.specs.declared.reply.Reply.TheVariants.{Good}
use Rattle.mr_model.specs.declared.request.Request.{Request}
use Rattle.mr_model.specs.declared.request.Request.TheVariants.{Init, AddVif, AddMfc}

-- three devices, one lane with five packets, one admin
abbrev pub limits : Limits
limits = record {
  entries = 16;
  unresolved = 10;
  controls = 16;
  phases = 2;
  packets = 5 ∷ [];
  admins = true ∷ [];
  devices = record { addr = address 10 0 0 1 } ∷ record { addr = address 10 0 1 1 } ∷ record { addr = address 10 0 2 1 } ∷ [];
}

abbrev good : Request → Entry
good r = Call (record { 0 = 1 }) r Good []

abbrev vif : ℕ → Request
vif i = AddVif (record { vif = i; flags = 8; local = i + 1 })

-- from 10.0.0.9 to 239.1.1.G, by vif 0
abbrev entry : ℕ → List ℕ → Request
entry g ttls = AddMfc (record { src = address 10 0 0 9; dst = address 239 1 1 g; parent = 0; ttls = ttls })

abbrev flow : ℕ → ℕ → Flow
flow g len = record { dev = 1; src = address 10 0 0 9; dst = address 239 1 1 g; ttl = 9; length = len }

abbrev slow : ℕ → ℕ → Flow → Outcome → Entry
slow index look f o = Slow (record { 0 = 1 }) index look f o

-- Entry 5 sends on vif 1, entry 6 on vif 1 and vif 2.
abbrev fast : ℕ → ℕ → FastRecord
fast index len = record { index = index; look = 8; entry = 6; input = Some 0; outs = record { 0 = 6 }; flow = flow 2 len }

abbrev pub history : List Entry
history =
    good Init
    ∷ good (vif 0)
    ∷ good (vif 1)
    ∷ good (vif 2)
    ∷ good (entry 1 (0 ∷ 1 ∷ replicate 30 0))
    ∷ good (entry 2 (0 ∷ 1 ∷ 1 ∷ replicate 29 0))
    ∷ EndPhase
    ∷ slow 1 7 (flow 1 28) (Forward 5 (Some 0) (record { 0 = 2 }))
    ∷ Settle (record { 0 = 1 }) (fast 2 100 ∷ fast 3 28 ∷ [])
    ∷ slow 4 9 (flow 3 28) Parked
    ∷ slow 5 10 (flow 1 40) (Forward 5 (Some 0) (record { 0 = 2 }))
    ∷ EndPhase
    ∷ []

-- Both entries counted two packets; the one with the lower number is named.
abbrev pub text : List ℕ
text = codes "packets 5\nfast 2\nslow 3\ncopies 6\nbytes 196\nbusiest 5 2\n"

-- The packet of the first word of the lane, whose generator is seeded with 8: 3046447000, which is 24 above a multiple of 64.
abbrev pub first_packet : List ℕ
first_packet =
    69 ∷ 0 ∷ 0 ∷ 28 ∷ 0 ∷ 0 ∷ 0 ∷ 0 ∷ 64 ∷ 17 ∷ 129 ∷ 144
    ∷ 10 ∷ 8 ∷ 0 ∷ 25 ∷ 239 ∷ 8 ∷ 0 ∷ 24 ∷ replicate 8 0
