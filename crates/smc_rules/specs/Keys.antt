-- What names a rule or a group: the interface on which packets come, a prefix of their sources and
-- one of their groups.
use Rattle.std.specs.Prelude.{ℕ, ◌-◌, ◌/◌, ◌^◌, ◌==◌, ◌&&◌, Bool, bytes_eq}
use Rattle.smc_conf.specs.declared.conf.Prefix.{Prefix}
use Rattle.smc_rules.specs.declared.key.Key.{Key}

abbrev pub same_prefix : Prefix → Prefix → Bool
same_prefix p q = p.addr.0 == q.addr.0 && p.len == q.len

abbrev pub same_key : Key → Key → Bool
same_key k l =
    bytes_eq k.input l.input && same_prefix k.source l.source && same_prefix k.group l.group

-- Both prefixes are single addresses.
abbrev pub is_exact : Key → Bool
is_exact k = k.source.len == 32 && k.group.len == 32

-- an address that begins with the bits of a prefix
abbrev pub is_in : Prefix → ℕ → Bool
is_in p addr = addr / 2 ^ (32 - p.len) == p.addr.0 / 2 ^ (32 - p.len)
