-- Sums with their carries.
use Rattle.std.specs.Prelude.{ℕ, ◌+◌, ◌-◌, ◌%◌, ◌==◌, if◌then◌else◌, List, slice_index, slice_set}
use Rattle.mr_base.specs.Heads.{plus, two_at, with_two}

-- The sum with all carries of 16 bits added at the low end (RFC 1071): 0 for 0, else the number of
-- 1 to 65,535 that leaves the same rest by 65,535.
abbrev pub carried : ℕ → ℕ
carried n = if n == 0 then 0 else (n - 1) % 65535 + 1

-- A checksum with 0x0100 added, the carry added at the low end; 0 where that gives 65,535
-- (RFC 1141, RFC 1624).
abbrev pub raised : ℕ → ℕ
raised c = let s = plus c 256 in if s == 65535 then 0 else s

-- A head with its TTL one less and its checksum raised.
abbrev pub lowered : List ℕ → List ℕ
lowered bs = with_two (slice_set bs 8 (slice_index bs 8 - 1)) 10 (raised (two_at bs 10))
