-- Records one behind another.
use Rattle.std.proofs.Common.{◌≡◌, ℕ, zero, suc, ◌+◌, ◌<◌, ◌≤◌, ◌∙◌, ap, sym, refl, arith, List, [], ◌∷◌, ◌++◌, length, drop, map, min, Some, None, Result, Ok, Err}
use Rattle.std.proofs.lemmas.Bool.Decides.{nat_tests}
use Rattle.std.proofs.lemmas.List.{append-nil, drop-drop, length-drop, map-append}
use Rattle.std.proofs.Math.ListN.{drop_of_length-le}
use Rattle.std.proofs.Math.Seq.{append_snoc}
use Rattle.mr_pcap.specs.declared.order.Order.{Order}
use Rattle.mr_pcap.specs.declared.pcap_error.PcapError.{PcapError}
use Rattle.mr_pcap.specs.declared.pcap_error.PcapError.TheVariants as error
use Rattle.mr_pcap.specs.Places.{captured_at}
use Rattle.mr_pcap.specs.Traces.{Captured, number_at, record_of, onto_records, records_behind, whole_length}

-- these records in front of what follows them
abbrev pub onto_all : List Captured → Result (List Captured) PcapError → Result (List Captured) PcapError
onto_all rs (Ok others) = Ok (rs ++ others)
onto_all rs (Err e) = Err e

onto_none : (o : Result (List Captured) PcapError) → onto_all [] o ≡ o
onto_none (Ok others) = refl
onto_none (Err e) = refl

pub onto_push : (rs : List Captured) (r : Captured) (o : Result (List Captured) PcapError)
    → onto_all (rs ++ r ∷ []) o ≡ onto_all rs (onto_records r o)
onto_push rs r (Ok others) = ap Ok (append_snoc rs r others)
onto_push rs r (Err e) = refl

-- to skip bytes is to drop them
pub skip_is_drop : (order : Order) (n skip : ℕ) (bs : List ℕ)
    → records_behind order n skip bs ≡ records_behind order n zero (drop skip bs)
skip_is_drop order n zero [] = refl
skip_is_drop order n (suc skip) [] = refl
skip_is_drop order n zero (b ∷ bs) = refl
skip_is_drop order n (suc skip) (b ∷ bs) = skip_is_drop order n skip bs

-- a whole record's length
pub record WholeLength (order : Order) (bs : List ℕ) (size : ℕ) : Type 0 where
  pub is : size ≡ 16 + number_at order 8 bs
  pub within : size ≤ length bs

pub whole_is : (order : Order) (bs : List ℕ) (size : ℕ) → whole_length order bs ≡ Some size → WholeLength order bs size
whole_is order bs size e = record { is = grind (arith, nat_tests); within = grind (arith, nat_tests) }

drop_more : (b : ℕ) (bs : List ℕ) (n m : ℕ) → n ≡ suc m → drop n (b ∷ bs) ≡ drop m bs
drop_more b bs n m e = rw e refl

pub next_record : (order : Order) (n size : ℕ) (bs : List ℕ) → 0 < length bs → whole_length order bs ≡ Some size
    → records_behind order n zero bs ≡ onto_records (record_of order bs) (records_behind order (min (n + 1) 4294967295) zero (drop size bs))
next_record order n size [] h e = absurd (omega arith)
next_record order n size (b ∷ bs) h e =
    let w = whole_is order (b ∷ bs) size e in
    let behind : drop size (b ∷ bs) ≡ drop (15 + number_at order 8 (b ∷ bs)) bs = drop_more b bs size _ (omega (arith, w.is)) in
    rw (e, behind) (ap (onto_records (record_of order (b ∷ bs))) (skip_is_drop order (min (n + 1) 4294967295) (15 + number_at order 8 (b ∷ bs)) bs))

pub cut_record : (order : Order) (n : ℕ) (bs : List ℕ) → 0 < length bs → whole_length order bs ≡ None
    → records_behind order n zero bs ≡ Err (error.CutRecord n)
cut_record order n [] h e = absurd (omega arith)
cut_record order n (b ∷ bs) h e = rw e refl

pub at_end : (order : Order) (n start : ℕ) (file : List ℕ) (rs : List Captured) → length file ≤ start
    → onto_all rs (records_behind order n zero (drop start file)) ≡ Ok rs
at_end order n start file rs h = rw (drop_of_length-le file {i = start} h) (ap Ok (append-nil rs))

pub starts_within : (order : Order) (start size : ℕ) (file : List ℕ) → start < length file → whole_length order (drop start file) ≡ Some size
    → start + size ≤ length file
starts_within order start size file h e =
    let w = whole_is order (drop start file) size e in
    omega (arith, w.within, length-drop start file)

pub next_start : (order : Order) (n start size : ℕ) (file : List ℕ) → start < length file → whole_length order (drop start file) ≡ Some size
    → records_behind order n zero (drop start file)
    ≡ onto_records (captured_at order file start) (records_behind order (min (n + 1) 4294967295) zero (drop (start + size) file))
next_start order n start size file h e =
    next_record order n size (drop start file) (omega (arith, length-drop start file)) e
    ∙ ap (λ l. onto_records (captured_at order file start) (records_behind order (min (n + 1) 4294967295) zero l)) (drop-drop size start file)

-- one more record found
pub one_more : (order : Order) (n start size : ℕ) (file starts : List ℕ) → start < length file → whole_length order (drop start file) ≡ Some size
    → onto_all (map (captured_at order file) (starts ++ start ∷ [])) (records_behind order (min (n + 1) 4294967295) zero (drop (start + size) file))
    ≡ onto_all (map (captured_at order file) starts) (records_behind order n zero (drop start file))
one_more order n start size file starts h e =
    ap (λ rs. onto_all rs (records_behind order (min (n + 1) 4294967295) zero (drop (start + size) file))) (map-append (captured_at order file) starts (start ∷ []))
    ∙ onto_push (map (captured_at order file) starts) (captured_at order file start) _
    ∙ ap (onto_all (map (captured_at order file) starts)) (sym (next_start order n start size file h e))

pub same_start : (order : Order) (n skip : ℕ) (file : List ℕ)
    → onto_all [] (records_behind order n zero (drop skip file)) ≡ records_behind order n skip file
same_start order n skip file = onto_none _ ∙ sym (skip_is_drop order n skip file)
