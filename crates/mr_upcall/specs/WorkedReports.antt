-- Reports on two packets, byte by byte.
use Rattle.std.specs.Prelude.{ℕ, List, [], ◌∷◌, ◌++◌, take, drop}
use Rattle.mr_model.specs.declared.message.Kind.{Kind}
use Rattle.mr_model.specs.declared.message.Kind.TheVariants.{WholePkt}
use Rattle.mr_base.specs.WorkedHeads.{packet, with_option}
use Rattle.mr_upcall.specs.Reports.{report}

-- the report on the packet of 28 bytes
abbrev pub on_packet : Kind → ℕ → List ℕ
on_packet kind vif = report kind vif (take 20 packet) 28 (drop 20 packet)

-- the report on the packet of 32 bytes with an option
abbrev pub on_option : Kind → ℕ → List ℕ
on_option kind vif = report kind vif (take 24 with_option) 32 (drop 24 with_option)

-- WHOLEPKT on a packet of so many bytes
abbrev pub on_long : ℕ → List ℕ
on_long total = report WholePkt 0 (take 20 packet) total (drop 20 packet)

-- NOCACHE on the packet of 28 bytes, on vif 0:
-- 4500001c 00010000 01000000 0a000009 ef010101, and then 01000000 00000000.
abbrev pub no_cache : List ℕ
no_cache = 69 ∷ 0 ∷ 0 ∷ 28 ∷ 0 ∷ 1 ∷ 0 ∷ 0 ∷ 1 ∷ 0 ∷ 0 ∷ 0 ∷ 10 ∷ 0 ∷ 0 ∷ 9 ∷ 239 ∷ 1 ∷ 1 ∷ 1
    ∷ 1 ∷ 0 ∷ 0 ∷ 0 ∷ 0 ∷ 0 ∷ 0 ∷ 0 ∷ []

-- WRONGVIF on the packet with an option, on vif 31: its head of 24 bytes, and 32 in all.
-- 46000020 00074000 02001f00 0a000009 ef010101 94040000, and then 02000000 00000000.
abbrev pub wrong_vif : List ℕ
wrong_vif = 70 ∷ 0 ∷ 0 ∷ 32 ∷ 0 ∷ 7 ∷ 64 ∷ 0 ∷ 2 ∷ 0 ∷ 31 ∷ 0 ∷ 10 ∷ 0 ∷ 0 ∷ 9 ∷ 239 ∷ 1 ∷ 1 ∷ 1
    ∷ 148 ∷ 4 ∷ 0 ∷ 0 ∷ 2 ∷ 0 ∷ 0 ∷ 0 ∷ 0 ∷ 0 ∷ 0 ∷ 0 ∷ []

-- WHOLEPKT on the packet of 28 bytes, with register vif 2:
-- 45000030 00010000 03000200 0a000009 ef010101, and then the packet.
abbrev pub whole_pkt : List ℕ
whole_pkt =
    (69 ∷ 0 ∷ 0 ∷ 48 ∷ 0 ∷ 1 ∷ 0 ∷ 0 ∷ 3 ∷ 0 ∷ 2 ∷ 0 ∷ 10 ∷ 0 ∷ 0 ∷ 9 ∷ 239 ∷ 1 ∷ 1 ∷ 1 ∷ [])
    ++ packet

-- WHOLEPKT on the packet of 32 bytes with an option, with register vif 0:
-- 45000034 00074000 03000000 0a000009 ef010101, and then the packet.
abbrev pub whole_with_option : List ℕ
whole_with_option =
    (69 ∷ 0 ∷ 0 ∷ 52 ∷ 0 ∷ 7 ∷ 64 ∷ 0 ∷ 3 ∷ 0 ∷ 0 ∷ 0 ∷ 10 ∷ 0 ∷ 0 ∷ 9 ∷ 239 ∷ 1 ∷ 1 ∷ 1 ∷ [])
    ++ with_option
