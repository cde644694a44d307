-- The active interfaces: the enabled ones that are devices. They get the vifs 0, 1, .. in the order
-- of the configuration.
use Rattle.std.specs.Prelude.{ℕ, ◌+◌, min, nat_lt, if◌then◌else◌, Option, Some, None}
use Rattle.std.specs.Prelude.{List, [], ◌∷◌, ◌++◌, bytes_eq, length, slice_get}
use Rattle.std.specs.Option.{option_map_or}
use Rattle.smc_conf.specs.declared.conf.Phyint.{Phyint}
use Rattle.smc_words.specs.Words.{Word}
use Rattle.smc_rules.specs.declared.interface.Interface.{Interface}

-- the number of the next device; it stops at the greatest of 32 bits
abbrev pub next_device : ℕ → ℕ
next_device n = min (n + 1) 4294967295

-- the number of the device with this name, among devices of which the first has number n
abbrev pub device_from : ℕ → Word → List Word → Option ℕ
device_from n name [] = None
device_from n name (d ∷ ds) =
    if bytes_eq d name then Some n else device_from (next_device n) name ds

-- An interface that is a device goes last; there are no more than 32 vifs.
abbrev pub with_device : Phyint → List Interface → Option ℕ → List Interface
with_device p is None = is
with_device p is (Some number) =
    if nat_lt (length is) 32
    then is ++ record { name = p.name; device = number; threshold = p.threshold } ∷ []
    else is

abbrev pub with_phyint : List Word → List Interface → Phyint → List Interface
with_phyint names is p =
    if p.enabled then with_device p is (device_from 1 p.name names) else is

-- these active interfaces, and those of further lines
abbrev pub interfaces_from : List Word → List Interface → List Phyint → List Interface
interfaces_from names is [] = is
interfaces_from names is (p ∷ ps) = interfaces_from names (with_phyint names is p) ps

-- the vif of the interface with this name, among interfaces of which the first has vif n
abbrev pub vif_from : ℕ → Word → List Interface → Option ℕ
vif_from n name [] = None
vif_from n name (i ∷ is) = if bytes_eq i.name name then Some n else vif_from (n + 1) name is

abbrev pub vif_of : List Interface → Word → Option ℕ
vif_of is name = vif_from 0 name is

abbrev pub name_of : List Interface → ℕ → Word
name_of is v = option_map_or (λ i. i.name) (slice_get is v) []

abbrev pub threshold_of : List Interface → ℕ → ℕ
threshold_of is v = option_map_or (λ i. i.threshold) (slice_get is v) 0
