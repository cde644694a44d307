-- Classic pcap files (the savefile format of libpcap): a header of 24 bytes, and then records,
-- each a head of 16 bytes and the bytes of a packet.
use Rattle.std.specs.Prelude.{ℕ, zero, suc, ◌+◌, ◌/◌, ◌%◌, ◌==◌, ◌&&◌, nat_lt, nat_le, if◌then◌else◌, Bool, true, false, Option, Some, None, Result, Ok, Err, ok_or, is_some, List, [], ◌∷◌, ◌++◌, length, take, drop, flat_map, min, slice_index}
use Rattle.byteorder.specs.Endian.{big_bytes, big_number, little_bytes, little_number}
use Rattle.mr_pcap.specs.declared.header.Header.{Header}
use Rattle.mr_pcap.specs.declared.link_type.LinkType.{LinkType}
use Rattle.mr_pcap.specs.declared.link_type.LinkType.TheVariants.{Ethernet, RawIp, LinuxCooked, RawIpv4, LinuxCooked2}
use Rattle.mr_pcap.specs.declared.order.Order.{Order}
use Rattle.mr_pcap.specs.declared.order.Order.TheVariants.{Little, Big}
use Rattle.mr_pcap.specs.declared.pcap_error.PcapError.{PcapError}
use Rattle.mr_pcap.specs.declared.pcap_error.PcapError.TheVariants as error

-- A captured packet: its time, its length before it was cut, and its bytes.
pub record Captured : Type 0 where
  pub sec : ℕ
  pub frac : ℕ
  pub orig : ℕ
  pub bytes : List ℕ

-- What a file says: what its frames begin with, whether fractions of seconds are nanoseconds, and
-- the packets.
pub record Capture : Type 0 where
  pub link : LinkType
  pub nanos : Bool
  pub records : List Captured

-- the link types by their numbers of the registry of tcpdump.org
abbrev pub number_of : LinkType → ℕ
number_of Ethernet = 1
number_of RawIp = 101
number_of LinuxCooked = 113
number_of RawIpv4 = 228
number_of LinuxCooked2 = 276

abbrev pub link_type_of : ℕ → Option LinkType
link_type_of n =
    if n == 1 then Some Ethernet
    else (if n == 101 then Some RawIp
    else (if n == 113 then Some LinuxCooked
    else (if n == 228 then Some RawIpv4
    else (if n == 276 then Some LinuxCooked2
    else None))))

-- The magic number: fractions of seconds are microseconds, or nanoseconds.
abbrev pub magic : Bool → ℕ
magic false = 0xA1B2C3D4
magic true = 0xA1B23C4D

-- the number of 32 bits that stands at i, in the file's order
abbrev pub number_at : Order → ℕ → List ℕ → ℕ
number_at Little i bs = little_number 4 (drop i bs)
number_at Big i bs = big_number 4 (drop i bs)

-- what the magic number says: the order of the file's numbers, and whether fractions are
-- nanoseconds
abbrev pub magic_of : List ℕ → Option (Order × Bool)
magic_of bs =
    if number_at Little 0 bs == magic false then Some (Little, false)
    else (if number_at Little 0 bs == magic true then Some (Little, true)
    else (if number_at Big 0 bs == magic false then Some (Big, false)
    else (if number_at Big 0 bs == magic true then Some (Big, true)
    else None)))

-- The record that stands at the front of bytes: seconds, fraction, how many bytes are here, how
-- long the packet was, and then the bytes.
abbrev pub record_of : Order → List ℕ → Captured
record_of order bs = record {
  sec = number_at order 0 bs;
  frac = number_at order 4 bs;
  orig = number_at order 12 bs;
  bytes = take (number_at order 8 bs) (drop 16 bs);
}

-- how long it is, where its head is there and so are its bytes
abbrev pub whole_length : Order → List ℕ → Option ℕ
whole_length order bs =
    if nat_lt (length bs) 16 then None
    else (if nat_le (16 + number_at order 8 bs) (length bs) then Some (16 + number_at order 8 bs)
    else None)

abbrev pub onto_records : Captured → Result (List Captured) PcapError
    → Result (List Captured) PcapError
onto_records r (Ok rs) = Ok (r ∷ rs)
onto_records r (Err e) = Err e

-- The records that stand behind `skip` bytes, one behind another up to the end, where the first of
-- them has the number n; or the first of them that is cut. Behind a whole record's first byte the
-- rest of it is skipped.
abbrev pub records_behind : Order → ℕ → ℕ → List ℕ → Result (List Captured) PcapError
records_behind order n skip [] = Ok []
records_behind order n (suc skip) (b ∷ bs) = records_behind order n skip bs
records_behind order n zero (b ∷ bs) =
    if is_some (whole_length order (b ∷ bs))
    then onto_records (record_of order (b ∷ bs))
    (records_behind order (min (n + 1) 4294967295) (15 + number_at order 8 (b ∷ bs)) bs)
    else Err (error.CutRecord n)

infixl 10 ◌>>=◌
abbrev pub ◌>>=◌ : {A B : Type 0} → Result A PcapError → (A → Result B PcapError)
    → Result B PcapError
(Ok x) >>= f = f x
(Err e) >>= f = Err e

-- What a file's header says, or the first cause why it says nothing: it is cut, has no magic
-- number, or a link type other than the five. The high 16 bits beside the link type are ignored.
abbrev pub header_of : List ℕ → Result Header PcapError
header_of bs =
    if nat_lt (length bs) 24 then Err error.CutHeader
    else (ok_or (magic_of bs) error.Magic >>= λ m.
    ok_or (link_type_of (number_at m.0 20 bs % 65536)) error.LinkType >>= λ link.
    Ok (record { order = m.0; nanos = m.1; link = link }))

-- What a file says, or the first cause why it says nothing: that of its header, or its first
-- record that is cut.
abbrev pub capture_of : List ℕ → Result Capture PcapError
capture_of bs = do
  header ← header_of bs
  records ← records_behind header.order 1 24 bs
  Ok (record { link = header.link; nanos = header.nanos; records = records })

-- The bytes by which a file is written, little-endian. In the header stand the magic number, the
-- version 2.4, two zeros, the greatest length 65,535, and the link type.
abbrev pub header_bytes : LinkType → Bool → List ℕ
header_bytes link nanos =
    little_bytes 4 (magic nanos) ++ little_bytes 2 2 ++ little_bytes 2 4
    ++ little_bytes 4 0 ++ little_bytes 4 0
    ++ little_bytes 4 65535 ++ little_bytes 4 (number_of link)

-- a number of 32 bits in the file's order
abbrev pub number_bytes : Order → ℕ → List ℕ
number_bytes Little n = little_bytes 4 n
number_bytes Big n = big_bytes 4 n

-- The bytes of a record: seconds, fraction, how many bytes are here, how long the packet was, and
-- then the bytes.
abbrev pub record_in : Order → Captured → List ℕ
record_in order r =
    number_bytes order r.sec ++ number_bytes order r.frac
    ++ number_bytes order (length r.bytes) ++ number_bytes order r.orig ++ r.bytes

abbrev pub record_bytes : Captured → List ℕ
record_bytes r = record_in Little r

abbrev pub file_bytes : Capture → List ℕ
file_bytes c = header_bytes c.link c.nanos ++ flat_map record_bytes c.records

-- The bytes from `start` on where a frame of a link has the EtherType of IPv4, 0x0800, at `at`.
abbrev pub behind_type : ℕ → ℕ → List ℕ → Option (List ℕ)
behind_type at start f =
    if nat_le start (length f) && slice_index f at == 8 && slice_index f (at + 1) == 0
    then Some (drop start f)
    else None

-- The IPv4 packet in a frame; none where the frame does not say IPv4.
abbrev pub ip_part_of : LinkType → List ℕ → Option (List ℕ)
ip_part_of Ethernet f = behind_type 12 14 f
ip_part_of RawIp f = if nat_le 1 (length f) && slice_index f 0 / 16 == 4 then Some f else None
ip_part_of LinuxCooked f = behind_type 14 16 f
ip_part_of RawIpv4 f = Some f
ip_part_of LinuxCooked2 f = behind_type 0 20 f
