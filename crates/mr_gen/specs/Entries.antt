-- What a generated scenario has four or 64 of: devices, vifs, (S,G) entries, and a packet for each entry.
use Rattle.std.specs.Prelude.{ℕ, ◌+◌, ◌*◌, ◌%◌, List, [], ◌∷◌, ◌++◌, codes, map, replicate, slice_set}
use Rattle.mr_base.specs.declared.numbers.Addr.{Addr}
use Rattle.mr_gen.specs.declared.routes.TheConstants.{VIFS, ENTRIES, TTL, LENGTH, BODY}
use Rattle.mr_ip.specs.MadeHeads.{made_head}
use Rattle.mr_load.specs.Callers.{from_on}
use Rattle.mr_model.specs.declared.request.Request.{Request}
use Rattle.mr_model.specs.declared.request.Request.TheVariants.{Init, AddVif, AddMfc}
use Rattle.mr_scenario.specs.declared.scenario.Named.{Named}
use Rattle.mr_scenario.specs.declared.scenario.Script.TheVariants as script
use Rattle.mr_scenario.specs.declared.scenario.ScriptLine.{ScriptLine}

-- a.b.c.d
abbrev pub address : (a b c d : ℕ) → Addr
address a b c d = record { 0 = a * 16777216 + b * 65536 + c * 256 + d }

-- a device at 10.9.N.1
abbrev pub device : List ℕ → ℕ → Named
device name n = record { name = name; addr = address 10 9 n 1 }

abbrev pub devices : List Named
devices = device (codes "g0") 0 ∷ device (codes "g1") 1 ∷ device (codes "g2") 2 ∷ device (codes "g3") 3 ∷ []

-- The 64 entries are numbered from 0. Their parents are vif 0 to vif 3 in turn.
abbrev pub parent_of : ℕ → ℕ
parent_of k = k % VIFS

abbrev pub source_of : ℕ → Addr
source_of k = address 10 8 0 (k + 1)

abbrev pub group_of : ℕ → Addr
group_of k = address 239 8 0 k

-- threshold 1 on the three vifs other than the parent, and none on the 29 others
abbrev pub thresholds_of : ℕ → List ℕ
thresholds_of k = slice_set (replicate VIFS 1 ++ replicate 28 0) (parent_of k) 0

-- Vif i leads to the device of number i + 1.
abbrev pub add_vif : ℕ → Request
add_vif i = AddVif (record { vif = i; flags = 8; local = i + 1 })

abbrev pub add_entry : ℕ → Request
add_entry k = AddMfc (record { src = source_of k; dst = group_of k; parent = parent_of k; ttls = thresholds_of k })

-- The one daemon asks; a generated scenario has no text, so its lines have number 0.
abbrev pub asks : Request → ScriptLine
asks r = record { line = 0; daemon = record { 0 = 1 }; script = script.Ask r }

-- all that the daemon asks
abbrev pub script_lines : List ScriptLine
script_lines = asks Init ∷ map (λ i. asks (add_vif i)) (from_on 0 VIFS) ++ map (λ k. asks (add_entry k)) (from_on 0 ENTRIES)

-- a packet that meets entry k: a head with ident 0 and TTL 64, 28 bytes in all, with eight zeros behind the head
abbrev pub packet_of : ℕ → List ℕ
packet_of k = made_head 0 TTL (source_of k).0 (group_of k).0 LENGTH ++ replicate BODY 0
