-- A packet as it comes in and as it is sent on, and changes of it that are refused.
use Rattle.std.specs.Prelude.{ℕ, ◌+◌, ◌*◌, List, [], ◌∷◌, take, slice_set}

-- A UDP packet of 28 bytes from 10.0.0.9 to 239.1.1.1 with TTL 2:
-- 4500001c 00010000 0211bec5 0a000009 ef010101, and then 03e803e9 00080000.
abbrev pub packet : List ℕ
packet = 69 ∷ 0 ∷ 0 ∷ 28 ∷ 0 ∷ 1 ∷ 0 ∷ 0 ∷ 2 ∷ 17 ∷ 190 ∷ 197 ∷ 10 ∷ 0 ∷ 0 ∷ 9 ∷ 239 ∷ 1 ∷ 1 ∷ 1
    ∷ 3 ∷ 232 ∷ 3 ∷ 233 ∷ 0 ∷ 8 ∷ 0 ∷ 0 ∷ []

-- the head with which it is sent on: 4500001c 00010000 0111bfc5 0a000009 ef010101
abbrev pub sent_on : List ℕ
sent_on = 69 ∷ 0 ∷ 0 ∷ 28 ∷ 0 ∷ 1 ∷ 0 ∷ 0 ∷ 1 ∷ 17 ∷ 191 ∷ 197 ∷ 10 ∷ 0 ∷ 0 ∷ 9 ∷ 239 ∷ 1 ∷ 1 ∷ 1 ∷ []

-- the first 19 bytes
abbrev pub short : List ℕ
short = take 19 packet

-- version 6: byte 0 is 0x65
abbrev pub wrong_version : List ℕ
wrong_version = slice_set packet 0 101

-- a head of 16 bytes: byte 0 is 0x44
abbrev pub short_head : List ℕ
short_head = slice_set packet 0 68

-- a head of 60 bytes, of which 28 are there: byte 0 is 0x4f
abbrev pub long_head : List ℕ
long_head = slice_set packet 0 79

-- TTL 3 under the checksum of TTL 2
abbrev pub wrong_checksum : List ℕ
wrong_checksum = slice_set packet 8 3

-- the first 27 bytes
abbrev pub cut : List ℕ
cut = take 27 packet

-- to 10.0.1.9, with the right checksum 0xa3bf
abbrev pub to_one : List ℕ
to_one = 69 ∷ 0 ∷ 0 ∷ 28 ∷ 0 ∷ 1 ∷ 0 ∷ 0 ∷ 2 ∷ 17 ∷ 163 ∷ 191 ∷ 10 ∷ 0 ∷ 0 ∷ 9 ∷ 10 ∷ 0 ∷ 1 ∷ 9
    ∷ 3 ∷ 232 ∷ 3 ∷ 233 ∷ 0 ∷ 8 ∷ 0 ∷ 0 ∷ []

-- to 224.0.0.251, with the right checksum 0xcdcc
abbrev pub to_local : List ℕ
to_local = 69 ∷ 0 ∷ 0 ∷ 28 ∷ 0 ∷ 1 ∷ 0 ∷ 0 ∷ 2 ∷ 17 ∷ 205 ∷ 204 ∷ 10 ∷ 0 ∷ 0 ∷ 9 ∷ 224 ∷ 0 ∷ 0 ∷ 251
    ∷ 3 ∷ 232 ∷ 3 ∷ 233 ∷ 0 ∷ 8 ∷ 0 ∷ 0 ∷ []

-- from 127.0.0.1, with the right checksum 0x49cd
abbrev pub from_loopback : List ℕ
from_loopback = 69 ∷ 0 ∷ 0 ∷ 28 ∷ 0 ∷ 1 ∷ 0 ∷ 0 ∷ 2 ∷ 17 ∷ 73 ∷ 205 ∷ 127 ∷ 0 ∷ 0 ∷ 1 ∷ 239 ∷ 1 ∷ 1 ∷ 1
    ∷ 3 ∷ 232 ∷ 3 ∷ 233 ∷ 0 ∷ 8 ∷ 0 ∷ 0 ∷ []

-- A head of 24 bytes with the option of RFC 2113 and TTL 5, and 8 bytes more:
-- 46000020 00074000 0511e6b6 0a000009 ef010101 94040000, and then 03e803e9 00080000.
abbrev pub with_option : List ℕ
with_option = 70 ∷ 0 ∷ 0 ∷ 32 ∷ 0 ∷ 7 ∷ 64 ∷ 0 ∷ 5 ∷ 17 ∷ 230 ∷ 182 ∷ 10 ∷ 0 ∷ 0 ∷ 9 ∷ 239 ∷ 1 ∷ 1 ∷ 1
    ∷ 148 ∷ 4 ∷ 0 ∷ 0 ∷ 3 ∷ 232 ∷ 3 ∷ 233 ∷ 0 ∷ 8 ∷ 0 ∷ 0 ∷ []

-- the head with which it is sent on: 46000020 00074000 0411e7b6 0a000009 ef010101 94040000
abbrev pub option_sent_on : List ℕ
option_sent_on = 70 ∷ 0 ∷ 0 ∷ 32 ∷ 0 ∷ 7 ∷ 64 ∷ 0 ∷ 4 ∷ 17 ∷ 231 ∷ 182 ∷ 10 ∷ 0 ∷ 0 ∷ 9 ∷ 239 ∷ 1 ∷ 1 ∷ 1
    ∷ 148 ∷ 4 ∷ 0 ∷ 0 ∷ []

-- the number of the address a.b.c.d
abbrev pub address : ℕ → ℕ → ℕ → ℕ → ℕ
address a b c d = ((a * 256 + b) * 256 + c) * 256 + d

-- the ends of the ranges that are no sources
abbrev pub bad_sources : List ℕ
bad_sources = address 0 0 0 0 ∷ address 0 255 255 255 ∷ address 127 0 0 0 ∷ address 127 255 255 255
    ∷ address 224 0 0 0 ∷ address 239 255 255 255 ∷ address 255 255 255 255 ∷ []

-- the addresses beside those ranges
abbrev pub good_sources : List ℕ
good_sources = address 1 0 0 0 ∷ address 126 255 255 255 ∷ address 128 0 0 0 ∷ address 223 255 255 255
    ∷ address 240 0 0 0 ∷ address 255 255 255 254 ∷ []

-- the ends of the multicast range, and those of its part that is never forwarded
abbrev pub groups : List ℕ
groups = address 224 0 0 0 ∷ address 239 255 255 255 ∷ []

abbrev pub local_groups : List ℕ
local_groups = address 224 0 0 0 ∷ address 224 0 0 255 ∷ []

-- the addresses beside them
abbrev pub no_groups : List ℕ
no_groups = address 223 255 255 255 ∷ address 240 0 0 0 ∷ []

abbrev pub no_local_groups : List ℕ
no_local_groups = address 223 255 255 255 ∷ address 224 0 1 0 ∷ []
