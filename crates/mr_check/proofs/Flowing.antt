-- No line says a flow, and so a text is that of the history with the scenario's flows.
use Rattle.std.proofs.Common.{◌≡◌, ℕ, ◌+◌, List, [], ◌∷◌, ◌++◌, length, map, refl, sym, ap, ◌∙◌}
use Rattle.std.proofs.lemmas.List.{length-map}
use Rattle.std.proofs.lemmas.List.Concat.{flat_map-append}
use Rattle.std.specs.Prelude.{flat_map}
use Rattle.mr_base.specs.declared.numbers.LaneNo.{LaneNo}
use Rattle.mr_lines.specs.declared.line.Line.TheVariants as line
use Rattle.mr_load.specs.declared.loading.Loaded.{Loaded}
use Rattle.mr_model.specs.declared.entry.Entry.{Entry}
use Rattle.mr_model.specs.declared.entry.Entry.TheVariants.{Call, Slow, Settle, Tick, Recv, EndPhase}
use Rattle.mr_model.specs.declared.entry.FastRecord.{FastRecord}
use Rattle.mr_text.specs.Text.{line_text, entry_lines, entries_lines}
use Rattle.mr_check.specs.Callers.{bare, flowing, record_bare, record_flowing}

records_flow : (l : Loaded) (lane : LaneNo) (rs : List FastRecord) → flat_map line_text (map line.Record (map (record_flowing l lane) rs)) ≡ flat_map line_text (map line.Record rs)
records_flow l lane [] = refl
records_flow l lane (r ∷ rs) = ap (λ (b : List ℕ). line_text (line.Record r) ++ b) (records_flow l lane rs)

entry_flows : (l : Loaded) (n : ℕ) (e : Entry) → flat_map line_text (entry_lines n (flowing l e)) ≡ flat_map line_text (entry_lines n e)
entry_flows l n (Call d request reply released) = refl
entry_flows l n (Slow lane index look flow o) = refl
entry_flows l n (Settle lane records) =
    let count : length (map (record_flowing l lane) records) ≡ length records = length-map records (record_flowing l lane) in
    let more = records_flow l lane records in
    (λ i. line_text (line.Settle n lane (count i)) ++ more i)
entry_flows l n (Tick d ms) = refl
entry_flows l n (Recv d message) = refl
entry_flows l n EndPhase = refl

-- the entries of a text say as much with their flows
pub entries_flow : (l : Loaded) (n : ℕ) (h : List Entry) → flat_map line_text (entries_lines n (map (flowing l) h)) ≡ flat_map line_text (entries_lines n h)
entries_flow l n [] = refl
entries_flow l n (e ∷ h) =
    let first = entry_flows l n e in
    let more = entries_flow l (n + 1) h in
    flat_map-append line_text (entry_lines n (flowing l e)) (entries_lines (n + 1) (map (flowing l) h))
    ∙ (λ i. first i ++ more i) ∙ sym (flat_map-append line_text (entry_lines n e) (entries_lines (n + 1) h))

records_bare : (rs : List FastRecord) → flat_map line_text (map line.Record (map record_bare rs)) ≡ flat_map line_text (map line.Record rs)
records_bare [] = refl
records_bare (r ∷ rs) = ap (λ (b : List ℕ). line_text (line.Record r) ++ b) (records_bare rs)

entry_bare : (n : ℕ) (e : Entry) → flat_map line_text (entry_lines n (bare e)) ≡ flat_map line_text (entry_lines n e)
entry_bare n (Call d request reply released) = refl
entry_bare n (Slow lane index look flow o) = refl
entry_bare n (Settle lane records) =
    let count : length (map record_bare records) ≡ length records = length-map records record_bare in
    let more = records_bare records in
    (λ i. line_text (line.Settle n lane (count i)) ++ more i)
entry_bare n (Tick d ms) = refl
entry_bare n (Recv d message) = refl
entry_bare n EndPhase = refl

-- and so do those of a history without theirs
pub entries_bare : (n : ℕ) (h : List Entry) → flat_map line_text (entries_lines n (map bare h)) ≡ flat_map line_text (entries_lines n h)
entries_bare n [] = refl
entries_bare n (e ∷ h) =
    let first = entry_bare n e in
    let more = entries_bare (n + 1) h in
    flat_map-append line_text (entry_lines n (bare e)) (entries_lines (n + 1) (map bare h))
    ∙ (λ i. first i ++ more i) ∙ sym (flat_map-append line_text (entry_lines n e) (entries_lines (n + 1) h))
