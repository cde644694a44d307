-- Records, byte by byte.
use Rattle.std.specs.Prelude.{ℕ, List, [], ◌∷◌, ◌++◌}
use Rattle.mr_base.specs.declared.numbers.Addr.{Addr}
use Rattle.mr_model.specs.declared.reply.RouteTotals.{RouteTotals}
use Rattle.mr_model.specs.declared.reply.VifTotals.{VifTotals}
use Rattle.mr_model.specs.declared.request.MfcCtl.{MfcCtl}
use Rattle.mr_model.specs.declared.request.MfcKey.{MfcKey}
use Rattle.mr_model.specs.declared.request.VifCtl.{VifCtl}
use Rattle.mr_opt.specs.Records.{addr}

-- 10.0.0.9 and 239.1.1.1
abbrev pub source : Addr
source = addr 167772169

abbrev pub group : Addr
group = addr 4009820417

-- vif 0 on device 1: 0000 08 00 00000000 01000000 00000000
abbrev pub on_device : VifCtl
on_device = record { vif = 0; flags = 8; local = 1 }

abbrev pub on_device_bytes : List ℕ
on_device_bytes = 0 ∷ 0 ∷ 8 ∷ 0 ∷ 0 ∷ 0 ∷ 0 ∷ 0 ∷ 1 ∷ 0 ∷ 0 ∷ 0 ∷ 0 ∷ 0 ∷ 0 ∷ 0 ∷ []

-- the same with a threshold of 7, a rate and a remote address
abbrev pub on_device_and_more : List ℕ
on_device_and_more = 0 ∷ 0 ∷ 8 ∷ 7 ∷ 1 ∷ 2 ∷ 3 ∷ 4 ∷ 1 ∷ 0 ∷ 0 ∷ 0 ∷ 10 ∷ 0 ∷ 0 ∷ 5 ∷ []

-- vif 258 at the address 10.0.0.9: 0201 00 00 00000000 0a000009 00000000
abbrev pub by_address : VifCtl
by_address = record { vif = 258; flags = 0; local = 167772169 }

abbrev pub by_address_bytes : List ℕ
by_address_bytes = 2 ∷ 1 ∷ 0 ∷ 0 ∷ 0 ∷ 0 ∷ 0 ∷ 0 ∷ 10 ∷ 0 ∷ 0 ∷ 9 ∷ 0 ∷ 0 ∷ 0 ∷ 0 ∷ []

-- vif 258 alone
abbrev pub vif_alone : List ℕ
vif_alone = 2 ∷ 1 ∷ 0 ∷ 0 ∷ 0 ∷ 0 ∷ 0 ∷ 0 ∷ 0 ∷ 0 ∷ 0 ∷ 0 ∷ 0 ∷ 0 ∷ 0 ∷ 0 ∷ []

-- thresholds 1 to 32
abbrev pub rising : List ℕ
rising = 1 ∷ 2 ∷ 3 ∷ 4 ∷ 5 ∷ 6 ∷ 7 ∷ 8 ∷ 9 ∷ 10 ∷ 11 ∷ 12 ∷ 13 ∷ 14 ∷ 15 ∷ 16
    ∷ 17 ∷ 18 ∷ 19 ∷ 20 ∷ 21 ∷ 22 ∷ 23 ∷ 24 ∷ 25 ∷ 26 ∷ 27 ∷ 28 ∷ 29 ∷ 30 ∷ 31 ∷ 32 ∷ []

abbrev pub sixteen : List ℕ
sixteen = 0 ∷ 0 ∷ 0 ∷ 0 ∷ 0 ∷ 0 ∷ 0 ∷ 0 ∷ 0 ∷ 0 ∷ 0 ∷ 0 ∷ 0 ∷ 0 ∷ 0 ∷ 0 ∷ []

-- an entry with the parent 258: 0a000009 ef010101 0201, the thresholds, and 16 zeros
abbrev pub entry : MfcCtl
entry = record { src = source; dst = group; parent = 258; ttls = rising }

abbrev pub name : MfcKey
name = record { src = source; dst = group; parent = 258 }

abbrev pub name_bytes : List ℕ
name_bytes = 10 ∷ 0 ∷ 0 ∷ 9 ∷ 239 ∷ 1 ∷ 1 ∷ 1 ∷ 2 ∷ 1 ∷ []

abbrev pub entry_bytes : List ℕ
entry_bytes = name_bytes ++ rising ++ sixteen

-- its name alone: the same with zeros in place of the thresholds
abbrev pub name_alone : List ℕ
name_alone = name_bytes ++ sixteen ++ sixteen ++ sixteen

-- 0x01020304 as a number: 04030201
abbrev pub number_bytes : List ℕ
number_bytes = 4 ∷ 3 ∷ 2 ∷ 1 ∷ []

-- an (S,G) count of 0x0102030405060708 packets, 258 bytes, and 3 packets on a wrong interface
abbrev pub totals : RouteTotals
totals = record { packets = 72623859790382856; bytes = 258; wrong = 3 }

abbrev pub sg_record : List ℕ
sg_record = 10 ∷ 0 ∷ 0 ∷ 9 ∷ 239 ∷ 1 ∷ 1 ∷ 1 ∷ 8 ∷ 7 ∷ 6 ∷ 5 ∷ 4 ∷ 3 ∷ 2 ∷ 1
    ∷ 2 ∷ 1 ∷ 0 ∷ 0 ∷ 0 ∷ 0 ∷ 0 ∷ 0 ∷ 3 ∷ 0 ∷ 0 ∷ 0 ∷ 0 ∷ 0 ∷ 0 ∷ 0 ∷ []

-- a vif count of 1 packet in, 2 out, 300 bytes in and 600 out, for vif 31
abbrev pub vif_totals : VifTotals
vif_totals = record { packets_in = 1; packets_out = 2; bytes_in = 300; bytes_out = 600 }

abbrev pub vif_record : List ℕ
vif_record = 31 ∷ 0 ∷ 1 ∷ 0 ∷ 0 ∷ 0 ∷ 0 ∷ 0 ∷ 0 ∷ 0 ∷ 2 ∷ 0 ∷ 0 ∷ 0 ∷ 0 ∷ 0 ∷ 0 ∷ 0
    ∷ 44 ∷ 1 ∷ 0 ∷ 0 ∷ 0 ∷ 0 ∷ 0 ∷ 0 ∷ 88 ∷ 2 ∷ 0 ∷ 0 ∷ 0 ∷ 0 ∷ 0 ∷ 0 ∷ []
