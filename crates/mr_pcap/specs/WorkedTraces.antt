-- Worked rows of traces.
use Rattle.std.specs.Prelude.{ℕ, true, false, List, [], ◌∷◌, ◌++◌, replicate}
use Rattle.mr_pcap.specs.declared.link_type.LinkType.TheVariants.{Ethernet, RawIp, RawIpv4}
use Rattle.mr_pcap.specs.Traces.{Capture, Captured}

-- An egress trace: raw IPv4, microseconds. First without a record.
abbrev pub empty_file : List ℕ
empty_file =
    212 ∷ 195 ∷ 178 ∷ 161 ∷ 2 ∷ 0 ∷ 4 ∷ 0 ∷ 0 ∷ 0 ∷ 0 ∷ 0 ∷ 0 ∷ 0 ∷ 0 ∷ 0
    ∷ 255 ∷ 255 ∷ 0 ∷ 0 ∷ 228 ∷ 0 ∷ 0 ∷ 0 ∷ []

-- a UDP packet of 28 bytes from 10.0.0.9 to 239.1.1.1 with ident 1 and TTL 1
abbrev pub packet : List ℕ
packet =
    69 ∷ 0 ∷ 0 ∷ 28 ∷ 0 ∷ 1 ∷ 0 ∷ 0 ∷ 1 ∷ 17 ∷ 191 ∷ 197 ∷ 10 ∷ 0 ∷ 0 ∷ 9
    ∷ 239 ∷ 1 ∷ 1 ∷ 1 ∷ 3 ∷ 232 ∷ 3 ∷ 233 ∷ 0 ∷ 8 ∷ 0 ∷ 0 ∷ []

-- the head of its record: seconds 0, fraction 0, and twice the length
abbrev pub packet_head : List ℕ
packet_head = 0 ∷ 0 ∷ 0 ∷ 0 ∷ 0 ∷ 0 ∷ 0 ∷ 0 ∷ 28 ∷ 0 ∷ 0 ∷ 0 ∷ 28 ∷ 0 ∷ 0 ∷ 0 ∷ []

abbrev pub egress_file : List ℕ
egress_file = empty_file ++ packet_head ++ packet

abbrev pub egress : List Captured → Capture
egress records = record { link = RawIpv4; nanos = false; records = records }

abbrev pub sent_packet : Captured
sent_packet = record { sec = 0; frac = 0; orig = 28; bytes = packet }

-- A big-endian file with microseconds, Ethernet, and one record: at second 258, fraction 3, two
-- bytes of a packet of 60.
abbrev pub big_file : List ℕ
big_file =
    161 ∷ 178 ∷ 195 ∷ 212 ∷ 0 ∷ 2 ∷ 0 ∷ 4 ∷ 0 ∷ 0 ∷ 0 ∷ 0 ∷ 0 ∷ 0 ∷ 0 ∷ 0
    ∷ 0 ∷ 0 ∷ 255 ∷ 255 ∷ 0 ∷ 0 ∷ 0 ∷ 1 ∷ []
    ++ (0 ∷ 0 ∷ 1 ∷ 2 ∷ 0 ∷ 0 ∷ 0 ∷ 3 ∷ 0 ∷ 0 ∷ 0 ∷ 2 ∷ 0 ∷ 0 ∷ 0 ∷ 60
    ∷ 170 ∷ 187 ∷ [])

abbrev pub big_capture : Capture
big_capture = record {
  link = Ethernet;
  nanos = false;
  records = record { sec = 258; frac = 3; orig = 60; bytes = 170 ∷ 187 ∷ [] } ∷ [];
}

-- Nanoseconds, little-endian and big-endian. Of the number of the link type, 101, the high 16 bits
-- say something else; version and zone are any.
abbrev pub nanos_file : List ℕ
nanos_file =
    77 ∷ 60 ∷ 178 ∷ 161 ∷ 9 ∷ 0 ∷ 9 ∷ 0 ∷ 1 ∷ 0 ∷ 0 ∷ 0 ∷ 2 ∷ 0 ∷ 0 ∷ 0
    ∷ 3 ∷ 0 ∷ 0 ∷ 0 ∷ 101 ∷ 0 ∷ 0 ∷ 240 ∷ []

abbrev pub big_nanos_file : List ℕ
big_nanos_file =
    161 ∷ 178 ∷ 60 ∷ 77 ∷ 0 ∷ 9 ∷ 0 ∷ 9 ∷ 0 ∷ 0 ∷ 0 ∷ 1 ∷ 0 ∷ 0 ∷ 0 ∷ 2
    ∷ 0 ∷ 0 ∷ 0 ∷ 3 ∷ 240 ∷ 0 ∷ 0 ∷ 101 ∷ []

abbrev pub nanos_capture : Capture
nanos_capture = record { link = RawIp; nanos = true; records = [] }

-- two records without bytes, and a third whose head says 42 bytes where so many follow
abbrev pub third_with : ℕ → List ℕ
third_with n =
    empty_file ++ replicate 32 0
    ++ (0 ∷ 0 ∷ 0 ∷ 0 ∷ 0 ∷ 0 ∷ 0 ∷ 0 ∷ 42 ∷ 0 ∷ 0 ∷ 0 ∷ 42 ∷ 0 ∷ 0 ∷ 0 ∷ []) ++ replicate n 7

-- link type 105 (a wireless LAN), and then half a record's head
abbrev pub other_link : List ℕ
other_link =
    212 ∷ 195 ∷ 178 ∷ 161 ∷ 2 ∷ 0 ∷ 4 ∷ 0 ∷ 0 ∷ 0 ∷ 0 ∷ 0 ∷ 0 ∷ 0 ∷ 0 ∷ 0
    ∷ 255 ∷ 255 ∷ 0 ∷ 0 ∷ 105 ∷ 0 ∷ 0 ∷ 0 ∷ [] ++ replicate 8 0

-- a pcapng file begins so
abbrev pub next_generation : ℕ → List ℕ
next_generation n = 10 ∷ 13 ∷ 13 ∷ 10 ∷ replicate n 0

-- frames that say IPv4 on each link, with its head of so many bytes
abbrev pub ethernet_frame : List ℕ
ethernet_frame = replicate 12 1 ++ 8 ∷ 0 ∷ packet

abbrev pub cooked_frame : List ℕ
cooked_frame = replicate 14 1 ++ 8 ∷ 0 ∷ packet

abbrev pub cooked2_frame : List ℕ
cooked2_frame = 8 ∷ 0 ∷ replicate 18 0 ++ packet
