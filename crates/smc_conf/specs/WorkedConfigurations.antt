-- Worked rows of configurations.
use Rattle.std.specs.Prelude.{◌≡◌, ℕ, suc, zero, ◌+◌, ◌/◌, ◌%◌, true, false, Err, List, [], ◌∷◌, ◌++◌, codes}
use Rattle.smc_conf.specs.declared.conf.Conf.{Conf}
use Rattle.smc_conf.specs.Spelled.{spelled}
use Rattle.smc_conf.specs.declared.conf.Prefix.{Prefix}
use Rattle.smc_conf.specs.declared.stop.ConfError.TheVariants.{Bad}
use Rattle.smc_conf.specs.declared.stop.Kind.{Kind}

-- lines, each with its line feed
abbrev pub text : List (List ℕ) → List ℕ
text [] = []
text (l ∷ ls) = l ++ 10 ∷ text ls

abbrev pub office : List ℕ
office = text (
    codes "# office"
    ∷ codes "phyint eth0 enable ttl-threshold 1"
    ∷ codes "phyint eth1 enable"
    ∷ codes "phyint eth2 enable"
    ∷ codes "mroute from eth0 source 10.0.0.9 group 239.1.1.1 to eth1 eth2"
    ∷ codes "mroute from eth2 group 239.2.0.0/16 to eth1"
    ∷ [])

abbrev pub prefix : ℕ → ℕ → Prefix
prefix addr len = record { addr = record { 0 = addr }; len = len }

abbrev pub office_conf : Conf
office_conf = record {
  phyints =
      record { name = codes "eth0"; enabled = true; threshold = 1 }
      ∷ record { name = codes "eth1"; enabled = true; threshold = 1 }
      ∷ record { name = codes "eth2"; enabled = true; threshold = 1 } ∷ [];
  groups = [];
  rules =
      record {
        input = codes "eth0";
        source = prefix 0x0A000009 32;
        group = prefix 0xEF010101 32;
        outs = codes "eth1" ∷ codes "eth2" ∷ [];
      }
      ∷ record {
        input = codes "eth2";
        source = prefix 0 0;
        group = prefix 0xEF020000 16;
        outs = codes "eth1" ∷ [];
      } ∷ [];
}

-- The bits behind a prefix are taken off, source and group come in either order, a carriage return
-- is taken off, and the last line may lack its line feed.
abbrev pub joins : List ℕ
joins =
    codes "phyint a disable ttl-threshold 255" ++ 13 ∷ 10 ∷ 9
    ∷ codes "mgroup from a group 224.0.0.255/4 source 10.255.0.9/9 # behind"
    ++ 10 ∷ 10 ∷ codes "mgroup from a source 10.0.0.9/0 group 239.255.255.255/31"

abbrev pub joins_conf : Conf
joins_conf = record {
  phyints = record { name = codes "a"; enabled = false; threshold = 255 } ∷ [];
  groups =
      record { input = codes "a"; source = prefix 0x0A800000 9; group = prefix 0xE0000000 4 }
      ∷ record { input = codes "a"; source = prefix 0 0; group = prefix 0xEFFFFFFE 31 } ∷ [];
  rules = [];
}

abbrev pub nothing : Conf
nothing = record { phyints = []; groups = []; rules = [] }

-- lines that enable the interfaces i01 to in, of two digits, the last of them first
abbrev pub enabling : ℕ → List (List ℕ)
enabling zero = []
enabling (suc n) =
    (codes "phyint i" ++ (48 + suc n / 10) ∷ (48 + suc n % 10) ∷ codes " enable") ∷ enabling n

-- A text of this line alone is refused so.
abbrev pub Refused : List ℕ → Kind → Type 0
Refused line k = spelled line ≡ Err (Bad 1 k line)
