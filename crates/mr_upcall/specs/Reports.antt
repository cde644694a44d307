-- Reports as bytes (mroute.h, struct igmpmsg; ipmr.c, ipmr_cache_report).
use Rattle.std.specs.Prelude.{ℕ, ◌+◌, ◌*◌, ◌/◌, ◌%◌, ◌^◌, List, ◌∷◌, ◌++◌, length, take, drop, slice_index, replicate}
use Rattle.std.specs.Int.{bytes_high_first, bytes_low_first}
use Rattle.mr_model.specs.declared.message.Kind.{Kind}
use Rattle.mr_model.specs.declared.message.Kind.TheVariants.{NoCache, WrongVif, WholePkt}
use Rattle.mr_upcall.specs.declared.upcall.Upcall.{Upcall}

-- The type of a report: IGMPMSG_NOCACHE, IGMPMSG_WRONGVIF or IGMPMSG_WHOLEPKT.
abbrev pub type_of : Kind → ℕ
type_of NoCache = 1
type_of WrongVif = 2
type_of WholePkt = 3

-- The fields of the message in front of a report, which are those of the head h up to its
-- addresses: the first byte, the total length in place of the head's own, and where TTL, protocol
-- and checksum stood the type, a zero, and the vif's low and high byte.
abbrev pub message_fields : ℕ → List ℕ → ℕ → Kind → ℕ → List ℕ
message_fields first h total kind vif =
    first ∷ slice_index h 1 ∷ (bytes_high_first 2 total
    ++ (slice_index h 4 ∷ slice_index h 5 ∷ slice_index h 6 ∷ slice_index h 7
    ∷ type_of kind ∷ 0 ∷ bytes_low_first 0 2 vif))

-- the message: those 12 bytes, and the addresses and options of the head h
abbrev pub message_bytes : ℕ → List ℕ → ℕ → Kind → ℕ → List ℕ
message_bytes first h total kind vif = message_fields first h total kind vif ++ drop 12 h

-- A report without the packet: a message made of its whole head, whose total length is 8 above
-- the head's, and the type with seven zeros (where IGMP's eight bytes would stand).
abbrev pub short_report : Kind → ℕ → List ℕ → List ℕ
short_report kind vif head =
    message_bytes (slice_index head 0) head (length head + 8) kind vif
    ++ type_of kind ∷ replicate 7 0

-- the version of a first byte, with a head's length of five times four bytes
abbrev pub without_options : ℕ → ℕ
without_options first = first / 16 * 16 + 5

-- A report with the packet: a message made of the first 20 bytes of its head, whose total length
-- is 20 above the packet's, modulo 2 ^ 16; and the whole packet, head and body.
abbrev pub whole_report : ℕ → List ℕ → ℕ → List ℕ → List ℕ
whole_report vif head total body =
    let first = without_options (slice_index head 0) in
    message_bytes first (take 20 head) ((total + 20) % 2 ^ 16) WholePkt vif ++ (head ++ body)

-- The bytes of a report on a packet with this head and total length, whose bytes behind the head
-- are the body.
abbrev pub report : Kind → ℕ → List ℕ → ℕ → List ℕ → List ℕ
report NoCache vif head total body = short_report NoCache vif head
report WrongVif vif head total body = short_report WrongVif vif head
report WholePkt vif head total body = whole_report vif head total body

abbrev pub report_bytes : Upcall → List ℕ → List ℕ
report_bytes message body =
    report message.id.kind message.id.vif message.head.bytes message.head.length body
