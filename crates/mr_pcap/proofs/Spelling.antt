-- What is read of records is spelled by them.
use Rattle.std.proofs.Common.{◌≡◌, ℕ, zero, suc, ◌+◌, ◌/◌, ◌%◌, ◌<◌, ◌≤◌, ◌∙◌, ap, sym, refl, arith, List, [], ◌∷◌, ◌++◌, length, drop, take, flat_map, min, Option, Some, None, Result, Ok, Err}
use Rattle.std.proofs.lemmas.List.{drop-drop, get_or-drop, length-drop, length-take-le, take-append-drop}
use Rattle.std.proofs.lemmas.List.Concat.{flat_map-cons}
use Rattle.mr_pcap.specs.declared.order.Order.{Order}
use Rattle.mr_pcap.specs.declared.order.Order.TheVariants.{Little, Big}
use Rattle.mr_pcap.specs.declared.pcap_error.PcapError.{PcapError}
use Rattle.mr_pcap.specs.Places.{AreBytes}
use Rattle.mr_pcap.specs.Traces.{Captured, number_at, number_bytes, onto_records, record_in, record_of, records_behind, whole_length}
use Rattle.mr_pcap.proofs.Records.{cut_record, next_record, whole_is}

little_four : (a b c d : ℕ) (bs : List ℕ) → a < 256 → b < 256 → c < 256 → d < 256
    → a ∷ b ∷ c ∷ d ∷ bs ≡ number_bytes Little (number_at Little 0 (a ∷ b ∷ c ∷ d ∷ bs)) ++ bs
little_four a b c d bs p q r s =
    let n = number_at Little 0 (a ∷ b ∷ c ∷ d ∷ bs) in
    let e : a ≡ n % 256 = omega arith in
    let f : b ≡ n / 256 % 256 = omega arith in
    let g : c ≡ n / 65536 % 256 = omega arith in
    let h : d ≡ n / 16777216 % 256 = omega arith in
    ap (λ x. x ∷ b ∷ c ∷ d ∷ bs) e ∙ ap (λ x. (n % 256) ∷ x ∷ c ∷ d ∷ bs) f
    ∙ ap (λ x. (n % 256) ∷ (n / 256 % 256) ∷ x ∷ d ∷ bs) g
    ∙ ap (λ x. (n % 256) ∷ (n / 256 % 256) ∷ (n / 65536 % 256) ∷ x ∷ bs) h

big_four : (a b c d : ℕ) (bs : List ℕ) → a < 256 → b < 256 → c < 256 → d < 256
    → a ∷ b ∷ c ∷ d ∷ bs ≡ number_bytes Big (number_at Big 0 (a ∷ b ∷ c ∷ d ∷ bs)) ++ bs
big_four a b c d bs p q r s =
    let n = number_at Big 0 (a ∷ b ∷ c ∷ d ∷ bs) in
    let e : a ≡ n / 16777216 % 256 = omega arith in
    let f : b ≡ n / 65536 % 256 = omega arith in
    let g : c ≡ n / 256 % 256 = omega arith in
    let h : d ≡ n % 256 = omega arith in
    ap (λ x. x ∷ b ∷ c ∷ d ∷ bs) e ∙ ap (λ x. (n / 16777216 % 256) ∷ x ∷ c ∷ d ∷ bs) f
    ∙ ap (λ x. (n / 16777216 % 256) ∷ (n / 65536 % 256) ∷ x ∷ d ∷ bs) g
    ∙ ap (λ x. (n / 16777216 % 256) ∷ (n / 65536 % 256) ∷ (n / 256 % 256) ∷ x ∷ bs) h

-- the number with which bytes begin, and the bytes behind it
four : (order : Order) (bs : List ℕ) → AreBytes bs → 4 ≤ length bs
    → bs ≡ number_bytes order (number_at order 0 bs) ++ drop 4 bs
four order [] all h = absurd (omega arith)
four order (a ∷ []) all h = absurd (omega arith)
four order (a ∷ b ∷ []) all h = absurd (omega arith)
four order (a ∷ b ∷ c ∷ []) all h = absurd (omega arith)
four Little (a ∷ b ∷ c ∷ d ∷ bs) all h = little_four a b c d bs (all 0) (all 1) (all 2) (all 3)
four Big (a ∷ b ∷ c ∷ d ∷ bs) all h = big_four a b c d bs (all 0) (all 1) (all 2) (all 3)

behind : (n : ℕ) (bs : List ℕ) → AreBytes bs → AreBytes (drop n bs)
behind n bs all k = rw (get_or-drop n bs k 0) (all (n + k))

-- the number that stands at n, and the bytes behind it
four_begins : (order : Order) (n : ℕ) (bs : List ℕ) → drop n bs ≡ number_bytes order (number_at order 0 (drop n bs)) ++ drop 4 (drop n bs)
    → drop n bs ≡ number_bytes order (number_at order n bs) ++ drop (n + 4) bs
four_begins Little n bs e = e ∙ ap (λ l. number_bytes Little (number_at Little n bs) ++ l) (drop-drop 4 n bs)
four_begins Big n bs e = e ∙ ap (λ l. number_bytes Big (number_at Big n bs) ++ l) (drop-drop 4 n bs)

four_at : (order : Order) (n : ℕ) (bs : List ℕ) → AreBytes bs → n + 4 ≤ length bs
    → drop n bs ≡ number_bytes order (number_at order n bs) ++ drop (n + 4) bs
four_at order n bs all h =
    four_begins order n bs (four order (drop n bs) (behind n bs all) (omega (arith, length-drop n bs)))

-- the parts of a record
joined : (order : Order) (bs rest : List ℕ) → length (take (number_at order 8 bs) (drop 16 bs)) ≡ number_at order 8 bs
    → drop 0 bs ≡ number_bytes order (number_at order 0 bs) ++ drop 4 bs
    → drop 4 bs ≡ number_bytes order (number_at order 4 bs) ++ drop 8 bs
    → drop 8 bs ≡ number_bytes order (number_at order 8 bs) ++ drop 12 bs
    → drop 12 bs ≡ number_bytes order (number_at order 12 bs) ++ drop 16 bs
    → drop 16 bs ≡ take (number_at order 8 bs) (drop 16 bs) ++ rest
    → bs ≡ record_in order (record_of order bs) ++ rest
joined Little bs rest long sec frac here orig bytes =
    let part = number_bytes Little in
    let own = take (number_at Little 8 bs) (drop 16 bs) in
    sec ∙ ap (λ l. part (number_at Little 0 bs) ++ l) (frac ∙ ap (λ l. part (number_at Little 4 bs) ++ l)
    (here ∙ ap (λ l. part (number_at Little 8 bs) ++ l) (orig ∙ ap (λ l. part (number_at Little 12 bs) ++ l) bytes)))
    ∙ ap (λ (n : ℕ). part (number_at Little 0 bs) ++ (part (number_at Little 4 bs) ++ (part n ++ (part (number_at Little 12 bs) ++ (own ++ rest))))) (sym long)
joined Big bs rest long sec frac here orig bytes =
    let part = number_bytes Big in
    let own = take (number_at Big 8 bs) (drop 16 bs) in
    sec ∙ ap (λ l. part (number_at Big 0 bs) ++ l) (frac ∙ ap (λ l. part (number_at Big 4 bs) ++ l)
    (here ∙ ap (λ l. part (number_at Big 8 bs) ++ l) (orig ∙ ap (λ l. part (number_at Big 12 bs) ++ l) bytes)))
    ∙ ap (λ (n : ℕ). part (number_at Big 0 bs) ++ (part (number_at Big 4 bs) ++ (part n ++ (part (number_at Big 12 bs) ++ (own ++ rest))))) (sym long)

-- a whole record, and what stands behind it
front_spelled : (order : Order) (bs : List ℕ) (size : ℕ) → AreBytes bs → whole_length order bs ≡ Some size
    → bs ≡ record_in order (record_of order bs) ++ drop size bs
front_spelled order bs size all e =
    let w = whole_is order bs size e in
    let here = number_at order 8 bs in
    let long : length (take here (drop 16 bs)) ≡ here = length-take-le here (drop 16 bs) (omega (arith, w.is, w.within, length-drop 16 bs)) in
    let sec = four_at order 0 bs all (omega (arith, w.is, w.within)) in
    let frac = four_at order 4 bs all (omega (arith, w.is, w.within)) in
    let len = four_at order 8 bs all (omega (arith, w.is, w.within)) in
    let orig = four_at order 12 bs all (omega (arith, w.is, w.within)) in
    let rest : drop 16 bs ≡ take here (drop 16 bs) ++ drop size bs =
    sym (take-append-drop here (drop 16 bs))
    ∙ ap (λ l. take here (drop 16 bs) ++ l) (drop-drop here 16 bs ∙ ap (λ n. drop n bs) (sym w.is)) in
    joined order bs (drop size bs) long sec frac len orig rest

size_least : (order : Order) (bs : List ℕ) (size : ℕ) → whole_length order bs ≡ Some size → 16 ≤ size
size_least order bs size e = let w = whole_is order bs size e in omega (arith, w.is)

-- a record in front of others
record Onto (r : Captured) (o : Result (List Captured) PcapError) (rs : List Captured) : Type 0 where
  pub others : List Captured
  pub is : o ≡ Ok others
  pub all : rs ≡ r ∷ others

onto : (r : Captured) (o : Result (List Captured) PcapError) (rs : List Captured) → onto_records r o ≡ Ok rs → Onto r o rs
onto r (Ok others) rs e = record { others = others; is = refl; all = cc e }
onto r (Err x) rs e = absurd (cc e)

-- bytes, at most so many, are spelled by the records that are read of them
abbrev Spelled : ℕ → Order → Type 0
Spelled m order =
    (n : ℕ) (bs : List ℕ) (rs : List Captured) → length bs ≤ m → AreBytes bs
    → records_behind order n zero bs ≡ Ok rs → bs ≡ flat_map (record_in order) rs

one_record : (m : ℕ) (order : Order) (n : ℕ) (bs : List ℕ) (rs : List Captured) (o : Option ℕ) → Spelled m order
    → length bs ≤ suc m → 0 < length bs → AreBytes bs → records_behind order n zero bs ≡ Ok rs → whole_length order bs ≡ o
    → bs ≡ flat_map (record_in order) rs
one_record m order n bs rs None ih long some all e w = absurd (cc (sym (cut_record order n bs some w) ∙ e))
one_record m order n bs rs (Some size) ih long some all e w =
    let o = onto (record_of order bs) _ rs (sym (next_record order n size bs some w) ∙ e) in
    let least = size_least order bs size w in
    let rest = ih (min (n + 1) 4294967295) (drop size bs) o.others
    (omega (arith, least, length-drop size bs)) (behind size bs all) o.is in
    front_spelled order bs size all w
    ∙ ap (λ l. record_in order (record_of order bs) ++ l) rest
    ∙ sym (flat_map-cons (record_in order) (record_of order bs) o.others)
    ∙ ap (flat_map (record_in order)) (sym o.all)

none_read : (rs : List Captured) → ◌≡◌ {A = Result (List Captured) PcapError} (Ok []) (Ok rs) → [] ≡ rs
none_read rs e = cc e

spelled_within : (m : ℕ) (order : Order) → Spelled m order
spelled_within m order n [] rs long all e = ap (flat_map (record_in order)) (none_read rs e)
spelled_within zero order n (b ∷ bs) rs long all e = absurd (omega arith)
spelled_within (suc m) order n (b ∷ bs) rs long all e =
    one_record m order n (b ∷ bs) rs (whole_length order (b ∷ bs)) (spelled_within m order) long (omega arith) all e refl

pub spelled_by_records : (order : Order) (n : ℕ) (bs : List ℕ) (rs : List Captured) → AreBytes bs
    → records_behind order n zero bs ≡ Ok rs → bs ≡ flat_map (record_in order) rs
spelled_by_records order n bs rs all e = spelled_within (length bs) order n bs rs (omega arith) all e
