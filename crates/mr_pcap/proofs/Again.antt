-- What is written, read, is the trace again.
use Rattle.std.proofs.Common.{◌≡◌, ℕ, zero, ◌+◌, ◌<◌, ◌≤◌, ◌∙◌, ap, sym, refl, arith, nat_lt, Bool, true, false, All, List, [], ◌∷◌, ◌++◌, length, drop, map, flat_map, get_or, ◌^◌, min, Some, Ok}
use Rattle.std.proofs.lemmas.Bool.Decides.{nat_tests}
use Rattle.std.proofs.lemmas.List.{drop-drop, get_or-drop, length-append, length-take}
use Rattle.std.proofs.lemmas.List.Concat.{flat_map-cons}
use Rattle.std.proofs.lemmas.List.Elements.{All-head, All-map, All-tail}
use Rattle.std.proofs.Math.Seq.{take-append_seam, drop-append_seam}
use Rattle.byteorder.specs.Numbers.{big_from-lt, big_number-reads_back, little_from-lt, little_number-reads_back}
use Rattle.mr_pcap.specs.declared.order.Order.{Order}
use Rattle.mr_pcap.specs.declared.order.Order.TheVariants.{Little, Big}
use Rattle.mr_pcap.specs.declared.link_type.LinkType.{LinkType}
use Rattle.mr_pcap.specs.declared.link_type.LinkType.TheVariants.{Ethernet, RawIp, LinuxCooked, RawIpv4, LinuxCooked2}
use Rattle.mr_pcap.specs.Places.{Fits, captured_at}
use Rattle.mr_pcap.specs.Traces.{Capture, Captured, capture_of, file_bytes, header_bytes, header_of, number_at, onto_records, record_bytes, record_in, record_of, records_behind, whole_length}
use Rattle.mr_pcap.proofs.Records.{next_record}

whole_when : (order : Order) (bs : List ℕ) (size : ℕ) → 16 + number_at order 8 bs ≡ size → size ≤ length bs → whole_length order bs ≡ Some size
whole_when order bs size e h = grind (arith, nat_tests)

pub record_again : (order : Order) (r : Captured) (rest : List ℕ) (n : ℕ) → Fits r
    → records_behind order n zero (record_in order r ++ rest)
    ≡ onto_records r (records_behind order (min (n + 1) 4294967295) zero rest)
record_again Little r rest n f =
    let bs = record_in Little r ++ rest in
    let sec = little_number-reads_back 4 r.sec [] f.sec in
    let frac = little_number-reads_back 4 r.frac [] f.frac in
    let orig = little_number-reads_back 4 r.orig [] f.orig in
    let here = little_number-reads_back 4 (length r.bytes) [] f.bytes in
    let long : length bs ≡ 16 + (length r.bytes + length rest) =
    omega (arith, length-append r.bytes rest) in
    let whole : whole_length Little bs ≡ Some (16 + length r.bytes) =
    whole_when Little bs (16 + length r.bytes) (ap (λ n. 16 + n) here) (omega arith) in
    let same : record_of Little bs ≡ r =
    rw (sec, frac, orig, here, take-append_seam r.bytes rest) refl in
    let behind : drop (16 + length r.bytes) bs ≡ rest =
    sym (drop-drop (length r.bytes) 16 bs) ∙ drop-append_seam r.bytes rest in
    let others = records_behind Little (min (n + 1) 4294967295) zero in
    next_record Little n (16 + length r.bytes) bs (omega arith) whole
    ∙ ap (λ x. onto_records x (others (drop (16 + length r.bytes) bs))) same
    ∙ ap (λ l. onto_records r (others l)) behind
record_again Big r rest n f =
    let bs = record_in Big r ++ rest in
    let sec = big_number-reads_back 4 r.sec [] f.sec in
    let frac = big_number-reads_back 4 r.frac [] f.frac in
    let orig = big_number-reads_back 4 r.orig [] f.orig in
    let here = big_number-reads_back 4 (length r.bytes) [] f.bytes in
    let long : length bs ≡ 16 + (length r.bytes + length rest) =
    omega (arith, length-append r.bytes rest) in
    let whole : whole_length Big bs ≡ Some (16 + length r.bytes) =
    whole_when Big bs (16 + length r.bytes) (ap (λ n. 16 + n) here) (omega arith) in
    let same : record_of Big bs ≡ r =
    rw (sec, frac, orig, here, take-append_seam r.bytes rest) refl in
    let behind : drop (16 + length r.bytes) bs ≡ rest =
    sym (drop-drop (length r.bytes) 16 bs) ∙ drop-append_seam r.bytes rest in
    let others = records_behind Big (min (n + 1) 4294967295) zero in
    next_record Big n (16 + length r.bytes) bs (omega arith) whole
    ∙ ap (λ x. onto_records x (others (drop (16 + length r.bytes) bs))) same
    ∙ ap (λ l. onto_records r (others l)) behind

pub all_again : (order : Order) (rs : List Captured) (n : ℕ) → All Fits rs
    → records_behind order n zero (flat_map (record_in order) rs) ≡ Ok rs
all_again order [] n fits = refl
all_again order (r ∷ rs) n fits =
    ap (records_behind order n zero) (flat_map-cons (record_in order) r rs)
    ∙ record_again order r (flat_map (record_in order) rs) n (All-head Fits r rs fits)
    ∙ ap (onto_records r) (all_again order rs (min (n + 1) 4294967295) (All-tail Fits r rs fits))

at_least : (m n : ℕ) → n ≤ m → nat_lt m n ≡ false
at_least m n h = grind (arith, nat_tests)

not_cut : (link : LinkType) (nanos : Bool) (rest : List ℕ) → nat_lt (length (header_bytes link nanos ++ rest)) 24 ≡ false
not_cut link nanos rest = at_least (length (header_bytes link nanos ++ rest)) 24 (omega arith)

header_again : (link : LinkType) (nanos : Bool) (rest : List ℕ)
    → header_of (header_bytes link nanos ++ rest) ≡ Ok (record { order = Little; nanos = nanos; link = link })
header_again Ethernet false rest = rw (not_cut Ethernet false rest) refl
header_again Ethernet true rest = rw (not_cut Ethernet true rest) refl
header_again RawIp false rest = rw (not_cut RawIp false rest) refl
header_again RawIp true rest = rw (not_cut RawIp true rest) refl
header_again LinuxCooked false rest = rw (not_cut LinuxCooked false rest) refl
header_again LinuxCooked true rest = rw (not_cut LinuxCooked true rest) refl
header_again RawIpv4 false rest = rw (not_cut RawIpv4 false rest) refl
header_again RawIpv4 true rest = rw (not_cut RawIpv4 true rest) refl
header_again LinuxCooked2 false rest = rw (not_cut LinuxCooked2 false rest) refl
header_again LinuxCooked2 true rest = rw (not_cut LinuxCooked2 true rest) refl

pub file_again : (c : Capture) → All Fits c.records → capture_of (file_bytes c) ≡ Ok c
file_again c fits =
    rw (header_again c.link c.nanos (flat_map record_bytes c.records), all_again Little c.records 1 fits) refl

-- The numbers of a record that lies in bytes fit in 32 bits.
number_fits : (order : Order) (i : ℕ) (bs : List ℕ) → ((k : ℕ) → get_or bs k 0 < 256) → number_at order i bs < 2 ^ 32
number_fits Little i bs all = little_from-lt 0 4 (drop i bs) (λ k. rw (get_or-drop i bs k 0) (all (i + k)))
number_fits Big i bs all = big_from-lt 0 4 (drop i bs) (λ k. rw (get_or-drop i bs k 0) (all (i + k)))

captured_fits : (order : Order) (file : List ℕ) → ((k : ℕ) → get_or file k 0 < 256) → (start : ℕ) → Fits (captured_at order file start)
captured_fits order file all start =
    let bs = drop start file in
    let each : (k : ℕ) → get_or bs k 0 < 256 = λ k. rw (get_or-drop start file k 0) (all (start + k)) in
    record {
      sec = number_fits order 0 bs each;
      frac = number_fits order 4 bs each;
      orig = number_fits order 12 bs each;
      bytes = let few = number_fits order 8 bs each in omega (arith, length-take (number_at order 8 bs) (drop 16 bs));
    }

pub all_fit : (order : Order) (file : List ℕ) → ((k : ℕ) → get_or file k 0 < 256) → (starts : List ℕ)
    → All Fits (map (captured_at order file) starts)
all_fit order file all starts =
    All-map Fits (captured_at order file) starts (λ k d h. captured_fits order file all (get_or starts k d))
