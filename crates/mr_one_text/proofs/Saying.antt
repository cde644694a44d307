-- No line says a flow.
use Rattle.std.proofs.Common.{◌≡◌, ℕ, ◌+◌, List, [], ◌∷◌, ◌++◌, length, map, flat_map, refl, sym, ap, ◌∙◌, append_assoc}
use Rattle.std.proofs.lemmas.List.{length-map}
use Rattle.std.proofs.lemmas.List.Concat.{flat_map-append}
use Rattle.mr_lines.specs.declared.line.Line.{Line}
use Rattle.mr_lines.specs.declared.line.Line.TheVariants as line
use Rattle.mr_lines.specs.declared.skip.Skip.{Skip}
use Rattle.mr_lines.specs.declared.tail.Tail.{Tail}
use Rattle.mr_model.specs.declared.entry.Entry.{Entry}
use Rattle.mr_model.specs.declared.entry.Entry.TheVariants.{Call, Slow, Settle, Tick, Recv, EndPhase}
use Rattle.mr_model.specs.declared.entry.FastRecord.{FastRecord}
use Rattle.mr_one_text.specs.Bare.{bare_record, bare_entry, bare}
use Rattle.mr_one_text.specs.Laws.{SaysNoFlow}
use Rattle.mr_text.specs.Text.{line_text, entry_lines, entries_lines, tail_lines, text}

-- the bytes of entries of which the first has number n, and behind them
abbrev pub entries_text : ℕ → List Entry → List ℕ
entries_text n h = flat_map line_text (entries_lines n h)

abbrev pub end_text : Tail → List ℕ
end_text t = flat_map line_text (tail_lines t ++ line.End ∷ [])

pub text_parts : (skips : List Skip) (h : List Entry) (t : Tail) → text skips h t ≡ line_text line.History ++ (flat_map line_text (map line.Skip skips) ++ (entries_text 1 h ++ end_text t))
text_parts skips h t =
    let front = map line.Skip skips in
    let entries = entries_lines 1 h in
    let behind = tail_lines t ++ line.End ∷ [] in
    let grouped : front ++ entries ++ tail_lines t ++ line.End ∷ [] ≡ front ++ (entries ++ behind) =
    append_assoc (front ++ entries) (tail_lines t) (line.End ∷ []) ∙ append_assoc front entries behind in
    ap (λ (ls : List Line). line_text line.History ++ flat_map line_text ls) grouped
    ∙ ap (λ (b : List ℕ). line_text line.History ++ b) (flat_map-append line_text front (entries ++ behind))
    ∙ ap (λ (b : List ℕ). line_text line.History ++ (flat_map line_text front ++ b)) (flat_map-append line_text entries behind)

records_bare : (rs : List FastRecord) → flat_map line_text (map line.Record (map bare_record rs)) ≡ flat_map line_text (map line.Record rs)
records_bare [] = refl
records_bare (r ∷ rs) = ap (λ b. line_text (line.Record r) ++ b) (records_bare rs)

entry_bare : (n : ℕ) (e : Entry) → flat_map line_text (entry_lines n (bare_entry e)) ≡ flat_map line_text (entry_lines n e)
entry_bare n (Call d request reply released) = refl
entry_bare n (Slow lane index look flow o) = refl
entry_bare n (Settle lane records) =
    let count : length (map bare_record records) ≡ length records = length-map records bare_record in
    let more = records_bare records in
    (λ i. line_text (line.Settle n lane (count i)) ++ more i)
entry_bare n (Tick d ms) = refl
entry_bare n (Recv d message) = refl
entry_bare n EndPhase = refl

entries_bare : (n : ℕ) (h : List Entry) → entries_text n (bare h) ≡ entries_text n h
entries_bare n [] = refl
entries_bare n (e ∷ h) =
    let first = entry_bare n e in
    let more = entries_bare (n + 1) h in
    flat_map-append line_text (entry_lines n (bare_entry e)) (entries_lines (n + 1) (bare h))
    ∙ (λ i. first i ++ more i) ∙ sym (flat_map-append line_text (entry_lines n e) (entries_lines (n + 1) h))

pub says_no_flow : SaysNoFlow
says_no_flow skips h t =
    text_parts skips (bare h) t
    ∙ ap (λ b. line_text line.History ++ (flat_map line_text (map line.Skip skips) ++ (b ++ end_text t))) (entries_bare 1 h)
    ∙ sym (text_parts skips h t)
