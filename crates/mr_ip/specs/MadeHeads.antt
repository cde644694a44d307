-- The head that is made for a packet (RFC 791 section 3.1).
use Rattle.std.specs.Prelude.{ℕ, ◌-◌, ◌/◌, ◌%◌, List, [], ◌∷◌}
use Rattle.mr_base.specs.Heads.{ones_sum, with_two}

-- Twenty bytes with zeros in the checksum's place: version 4, no options, type of service 0, no
-- flags, the first fragment, protocol 17.
unfoldable pub unsummed_head : (ident ttl src dst length : ℕ) → List ℕ
unsummed_head ident ttl src dst length =
    69 ∷ 0 ∷ (length / 256) ∷ (length % 256)
    ∷ (ident / 256) ∷ (ident % 256) ∷ 0 ∷ 0
    ∷ ttl ∷ 17 ∷ 0 ∷ 0
    ∷ (src / 16777216) ∷ (src / 65536 % 256) ∷ (src / 256 % 256) ∷ (src % 256)
    ∷ (dst / 16777216) ∷ (dst / 65536 % 256) ∷ (dst / 256 % 256) ∷ (dst % 256) ∷ []

-- That head with its checksum, the complement of its sum.
unfoldable pub made_head : (ident ttl src dst length : ℕ) → List ℕ
made_head ident ttl src dst length =
    let bytes = unsummed_head ident ttl src dst length in
    with_two bytes 10 (65535 - ones_sum 0 bytes)
