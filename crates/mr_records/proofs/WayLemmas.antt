-- The two parts of a record's line in rows.
use Rattle.std.proofs.Common.{◌≡◌, ℕ, ◌+◌, ◌-◌, ◌<◌, ◌≤◌, None, List, [], ◌∷◌, ◌++◌, length, take, drop, decimal, sym, ap, ◌∙◌, arith, append_assoc, length-drop, lit<}
use Rattle.std.proofs.lemmas.Fmt.{decimal_digit}
use Rattle.std.proofs.Math.Seq.{take-append-add, take-append_seam, drop-append_seam}
use Rattle.std.proofs.lemmas.List.{take-append-drop, take-take, length-take-le}
use Rattle.mr_lines.specs.Forms.{mask, vif_or_none, line_bytes}
use Rattle.mr_lines.specs.Lines.{record_words}
use Rattle.mr_model.specs.declared.entry.FastRecord.{FastRecord}
use Rattle.mr_records.specs.Ways.{head_bytes, way_of, way_bytes}

-- the way of no entry
pub first_bytes : 32 ∷ 48 ∷ 32 ∷ 45 ∷ 32 ∷ 45 ∷ 10 ∷ [] ≡ way_bytes (record { entry = 0; input = None; outs = record { 0 = 0 } })
unfolding mask vif_or_none
first_bytes = ap (λ d. 32 ∷ (d ++ 32 ∷ 45 ∷ [] ++ 32 ∷ 45 ∷ [] ++ 10 ∷ [])) (sym (decimal_digit 0 (lit< tt)))

-- the bytes of a way at the end of a row are as many as the row has from there on
pub long_way : (row w : List ℕ) (at : ℕ) → drop at row ≡ w → length row ≡ 144 → 32 < 144 - at → 32 < length w
long_way row w at is long more = omega (arith, length-drop at row, ap length is)

-- both parts are the line
pub line_parts : (r : FastRecord) → head_bytes r.index r.look ++ way_bytes (way_of r) ≡ line_bytes (record_words r)
line_parts r =
    let index = decimal r.index in
    let look = decimal r.look in
    let entry = decimal r.entry in
    let input = vif_or_none r.input in
    let outs = mask r.outs in
    let behind = entry ++ 32 ∷ (input ++ 32 ∷ outs) in
    ap (λ x. 45 ∷ 32 ∷ x) (append_assoc index (32 ∷ look) (way_bytes (way_of r))
    ∙ ap (λ x. index ++ 32 ∷ (look ++ 32 ∷ (x ++ 10 ∷ []))) (append_assoc entry (32 ∷ input) (32 ∷ outs))
    ∙ ap (λ x. index ++ 32 ∷ x) (sym (append_assoc look (32 ∷ behind) (10 ∷ [])))
    ∙ sym (append_assoc index (32 ∷ (look ++ 32 ∷ behind)) (10 ∷ [])))

-- a text that begins as a row does
pub front_is : (text front row w : List ℕ) (count : ℕ) → front ≡ take 32 text → count ≤ 32 → take count front ≡ take count row → take count row ≡ w → text ≡ w ++ drop count text
front_is text front row w count is few same spelled =
    let shorter : take count (take 32 text) ≡ take count text = take-take count 32 text few in
    sym (take-append-drop count text) ∙ ap (λ x. x ++ drop count text) (sym shorter ∙ ap (take count) (sym is) ∙ same ∙ spelled)

-- bytes of a row that are put behind a text and cut off
pub cut_off : (out part : List ℕ) (n many before : ℕ) (whole short : List ℕ) → before ≡ length out → whole ≡ out ++ take many part → short ≡ take (before + n) whole → n ≤ many
    → short ≡ out ++ take n part
cut_off out part n many before whole short long is cut few =
    cut ∙ (λ i. take (long i + n) (is i)) ∙ take-append-add out (take many part) n ∙ ap (λ x. out ++ x) (take-take n many part few)

-- a row that stands in another from 24 on
pub put_front : (row ys rest : List ℕ) → 24 ≤ length row → length ys ≡ 32 → take 32 (drop 24 (take 24 row ++ (ys ++ rest))) ≡ ys
put_front row ys rest long full =
    let front : length (take 24 row) ≡ 24 = length-take-le 24 row long in
    (λ i. take (sym full i) (drop (sym front i) (take 24 row ++ (ys ++ rest)))) ∙ ap (take (length ys)) (drop-append_seam (take 24 row) (ys ++ rest)) ∙ take-append_seam ys rest

-- a head in front of a way's row
pub known_line : (r : FastRecord) (row behind known : List ℕ) (at count : ℕ) → drop at row ≡ head_bytes r.index r.look ++ behind → at + length (head_bytes r.index r.look) ≡ 24
    → take 32 behind ≡ known → count ≤ 32 → take count known ≡ way_bytes (way_of r) → take (24 + count - at) (drop at row) ≡ line_bytes (record_words r)
known_line r row behind known at count cut start is few spelled =
    let head = head_bytes r.index r.look in
    let many : 24 + count - at ≡ length head + count = omega (arith, start) in
    let shorter : take count (take 32 behind) ≡ take count behind = take-take count 32 behind few in
    (λ i. take (many i) (cut i)) ∙ take-append-add head behind count ∙ ap (λ x. head ++ x) (sym shorter ∙ ap (take count) is ∙ spelled) ∙ line_parts r
