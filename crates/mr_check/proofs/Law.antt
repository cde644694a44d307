-- Where no rule fails, a text is that of a legal history that has what the scenario asks.
use Rattle.std.proofs.Common.{◌≡◌, ◌∙◌, ℕ, ◌+◌, List, [], ◌∷◌, ◌++◌, length, map, refl, sym, ap, append_assoc, subst}
use Rattle.std.proofs.lemmas.List.Concat.{flat_map-append}
use Rattle.std.specs.Prelude.{flat_map}
use Rattle.mr_lines.specs.declared.line.Line.{Line}
use Rattle.mr_lines.specs.declared.line.Line.TheVariants as line
use Rattle.mr_lines.specs.declared.skip.Skip.{Skip}
use Rattle.mr_lines.specs.declared.tail.Tail.{Tail}
use Rattle.mr_load.specs.Loading.{run_limits, skips_of}
use Rattle.mr_model.specs.Ending.{ending}
use Rattle.mr_model.specs.Legal.{IsLegal}
use Rattle.mr_model.specs.Past.{phases}
use Rattle.mr_model.specs.declared.entry.Entry.{Entry}
use Rattle.mr_model.specs.declared.limits.Limits.{Limits}
use Rattle.mr_scenario.specs.declared.scenario.Scenario.{Scenario}
use Rattle.mr_tail.specs.Text.{tail_of}
use Rattle.mr_text.specs.Text.{entries_lines, line_text, tail_lines, text}
use Rattle.mr_text.proofs.TextLaws.{read_law}
use Rattle.mr_check.specs.Judging.{entries_from, tail_from, told}
use Rattle.mr_check.specs.Laws.{RightIsRun}
use Rattle.mr_check.proofs.Cutting.{Sound, all_sound, begins, made_all}
use Rattle.mr_check.proofs.Flowing.{entries_flow}
use Rattle.mr_check.proofs.Lists.{same_upto}

-- the bytes behind the entries
abbrev end_text : List Line → List ℕ
end_text ls = flat_map line_text (ls ++ line.End ∷ [])

text_parts : (skips : List Skip) (h : List Entry) (t : Tail)
    → text skips h t ≡ line_text line.History ++ (flat_map line_text (map line.Skip skips) ++ (flat_map line_text (entries_lines 1 h) ++ end_text (tail_lines t)))
text_parts skips h t =
    let front = map line.Skip skips in
    let entries = entries_lines 1 h in
    let behind = tail_lines t ++ line.End ∷ [] in
    let grouped : front ++ entries ++ tail_lines t ++ line.End ∷ [] ≡ front ++ (entries ++ behind) =
    append_assoc (front ++ entries) (tail_lines t) (line.End ∷ []) ∙ append_assoc front entries behind in
    ap (λ (ls : List Line). line_text line.History ++ flat_map line_text ls) grouped
    ∙ ap (λ (b : List ℕ). line_text line.History ++ b) (flat_map-append line_text front (entries ++ behind))
    ∙ ap (λ (b : List ℕ). line_text line.History ++ (flat_map line_text front ++ b)) (flat_map-append line_text entries behind)

-- texts of the same skips, entries with the same lines, and tails with the same lines are the same
pub text_same : (skips ks : List Skip) (h g : List Entry) (t u : Tail) → skips ≡ ks → flat_map line_text (entries_lines 1 h) ≡ flat_map line_text (entries_lines 1 g) → tail_lines t ≡ tail_lines u
    → text skips h t ≡ text ks g u
text_same skips ks h g t u a b c =
    let first : flat_map line_text (map line.Skip skips) ≡ flat_map line_text (map line.Skip ks) = ap (λ (xs : List Skip). flat_map line_text (map line.Skip xs)) a in
    let last : end_text (tail_lines t) ≡ end_text (tail_lines u) = ap end_text c in
    text_parts skips h t ∙ (λ i. line_text line.History ++ (first i ++ (b i ++ last i))) ∙ sym (text_parts ks g u)

pub right_is_run : RightIsRun
right_is_run files l bytes p is read right =
    let s : Scenario = l.scenario in
    let h : List Entry = told l p in
    let sound : Sound files l h = all_sound files l is [] (entries_from p) h (λ n. (right n).entries) (record { legal = tt; cut = begins files l }) in
    let all : phases h ≡ length s.phases = (right (tail_from p)).phases refl in
    let skips : p.skips ≡ skips_of files s = same_upto p.skips l.skips (λ k within. (right (2 + k)).skips k within refl) ∙ is.skips in
    let ends : tail_lines p.tail ≡ tail_lines (tail_of s.devices (ending (run_limits files s) h)) =
    same_upto (tail_lines p.tail) (tail_lines (tail_of s.devices (ending l.limits h))) (λ k within. (right (tail_from p + k)).tail k within refl)
    ∙ ap (λ (x : Limits). tail_lines (tail_of s.devices (ending x h))) is.limits in
    let law = read_law bytes p read in (
      record { legal = subst (λ (x : Limits). IsLegal x h) is.limits sound.legal; made = made_all files l is h sound.cut all },
      law.1 ∙ text_same p.skips (skips_of files s) p.entries h p.tail (tail_of s.devices (ending (run_limits files s) h)) skips (sym (entries_flow l 1 p.entries)) ends,
    )
