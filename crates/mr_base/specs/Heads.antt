-- Accepted IPv4 heads (RFC 791 section 3.1), and the head with which a packet is sent on.
use Rattle.std.specs.Prelude.{ℕ, ◌+◌, ◌-◌, ◌*◌, ◌/◌, ◌%◌, ◌==◌, ◌&&◌, ◌||◌, Bool, not, nat_lt, is_none, if◌then◌else◌, Option, Some, None, List, [], ◌∷◌, length, take, slice_index, slice_set}
use Rattle.mr_base.specs.declared.head_error.HeadError.{HeadError}
use Rattle.mr_base.specs.declared.head_error.HeadError.TheVariants.{Short, Version, HeaderLength, Checksum, TotalLength, NotMulticast, LinkLocal, BadSource}

-- the big-endian number of 16 bits that stands at i
abbrev pub two_at : List ℕ → ℕ → ℕ
two_at bs i = slice_index bs i * 256 + slice_index bs (i + 1)

-- the big-endian number of 32 bits that stands at i
abbrev pub four_at : List ℕ → ℕ → ℕ
four_at bs i = two_at bs i * 65536 + two_at bs (i + 2)

-- The ones' complement sum of two numbers of 16 bits: a carry is added at the low end (RFC 1071).
abbrev pub plus : ℕ → ℕ → ℕ
plus a b = if nat_lt (a + b) 65536 then a + b else a + b - 65535

-- the ones' complement sum of the big-endian numbers of 16 bits, on top of s; an odd last byte is left out
abbrev pub ones_sum : ℕ → List ℕ → ℕ
ones_sum s (a ∷ b ∷ bs) = ones_sum (plus s (a * 256 + b)) bs
ones_sum s _ = s

-- how long the head is by its first byte: four bytes for each of the low four bits' count
abbrev pub head_length : List ℕ → ℕ
head_length bs = 4 * (slice_index bs 0 % 16)

-- 224.0.0.0/4
abbrev pub is_multicast : ℕ → Bool
is_multicast a = a / 268435456 == 14

-- 224.0.0.0/24, which is never forwarded
abbrev pub is_link_local : ℕ → Bool
is_link_local a = a / 256 == 14680064

-- 0.0.0.0/8, 127.0.0.0/8, 224.0.0.0/4 and 255.255.255.255 are no sources
abbrev pub is_bad_source : ℕ → Bool
is_bad_source a = a / 16777216 == 0 || a / 16777216 == 127 || is_multicast a || a == 4294967295

-- The first cause for which n bytes bs do not begin with an accepted head.
unfoldable pub cause_in : ℕ → List ℕ → Option HeadError
cause_in n bs =
    if nat_lt n 20 then Some Short
    else (if not (slice_index bs 0 / 16 == 4) then Some Version
    else (if nat_lt (head_length bs) 20 || nat_lt n (head_length bs) then Some HeaderLength
    else (if not (ones_sum 0 (take (head_length bs) bs) == 65535) then Some Checksum
    else (if nat_lt (two_at bs 2) (head_length bs) || nat_lt n (two_at bs 2) then Some TotalLength
    else (if not (is_multicast (four_at bs 16)) then Some NotMulticast
    else (if is_link_local (four_at bs 16) then Some LinkLocal
    else (if is_bad_source (four_at bs 12) then Some BadSource
    else None)))))))

-- The first cause for which these bytes do not begin with an accepted head.
abbrev pub cause_of : List ℕ → Option HeadError
cause_of bs = cause_in (length bs) bs

-- These are the bytes of an accepted head of a packet of this length, and the fields agree with them.
unfoldable pub is_head : List ℕ → ℕ → ℕ → ℕ → ℕ → Bool
is_head bs total ttl src dst =
    is_none (cause_in total bs) && length bs == head_length bs
    && two_at bs 2 == total && slice_index bs 8 == ttl && four_at bs 12 == src && four_at bs 16 == dst

-- The head that a `Head` has by default: from 10.0.0.1 to 224.0.1.0, protocol 17, ident 0, no flags, TTL 1.
abbrev pub least : List ℕ
least = 69 ∷ 0 ∷ 0 ∷ 20 ∷ 0 ∷ 0 ∷ 0 ∷ 0 ∷ 1 ∷ 17 ∷ 206 ∷ 216 ∷ 10 ∷ 0 ∷ 0 ∷ 1 ∷ 224 ∷ 0 ∷ 1 ∷ 0 ∷ []

-- with the number of 16 bits n at i
abbrev pub with_two : List ℕ → ℕ → ℕ → List ℕ
with_two bs i n = slice_set (slice_set bs i (n / 256)) (i + 1) (n % 256)

-- The head with which a packet is sent on: TTL less one, and the checksum from scratch
-- (RFC 791 section 3.1: the complement of the sum, taken with zeros in its own place).
abbrev pub sent : List ℕ → List ℕ
sent bs =
    let lower = with_two (slice_set bs 8 (slice_index bs 8 - 1)) 10 0 in
    with_two lower 10 (65535 - ones_sum 0 lower)
