-- A text tells the turns of a history.
use Rattle.std.proofs.Common.{◌≡◌, ℕ, ◌+◌, ◌*◌, ◌<◌, List, [], ◌∷◌, ◌++◌, map, codes, decimal, refl, sym, ap, ◌∙◌, arith}
use Rattle.std.proofs.lemmas.Fmt.{decimal_injective}
use Rattle.std.proofs.lemmas.List.{append_cancel_left}
use Rattle.std.specs.List.{AllByRecursion}
use Rattle.mr_base.specs.declared.numbers.DaemonNo.{DaemonNo}
use Rattle.mr_base.specs.declared.numbers.LaneNo.{LaneNo}
use Rattle.mr_lines.specs.Fit.{Fits64}
use Rattle.mr_lines.specs.Forms.{Word}
use Rattle.mr_lines.specs.Lines.{record_words}
use Rattle.mr_lines.specs.declared.skip.Skip.{Skip}
use Rattle.mr_lines.specs.declared.tail.Tail.{Tail}
use Rattle.mr_lines.specs.declared.line.Line.TheVariants as line
use Rattle.mr_model.specs.declared.entry.Entry.{Entry}
use Rattle.mr_model.specs.declared.entry.Entry.TheVariants.{Call, Slow, Settle, Tick, Recv, EndPhase}
use Rattle.mr_model.specs.declared.entry.FastRecord.{FastRecord}
use Rattle.mr_one_text.specs.Laws.{TextTells}
use Rattle.mr_one_text.specs.Turns.{Called, Slowed, Settled, Ticked, Received, turn_of, turns, TurnFits, TurnsFit}
use Rattle.mr_one_text.proofs.Rows.{rows, head, said, dashed, next_rows, IsDashed, are_dashed, end_head, entry_head, no_dash}
use Rattle.mr_one_text.proofs.Saying.{entries_text, end_text, text_parts}
use Rattle.mr_text.specs.Text.{line_text, text}

-- the words that tell an entry's turn
abbrev pub told : Entry → List Word
told (Call d r reply released) = codes "call" ∷ decimal d.0 ∷ []
told (Slow lane index look flow o) = codes "slow" ∷ decimal lane.0 ∷ decimal look ∷ []
told (Settle lane records) = codes "settle" ∷ decimal lane.0 ∷ map (λ r. decimal r.look) records
told (Tick d ms) = codes "tick" ∷ decimal d.0 ∷ []
told (Recv d message) = codes "recv" ∷ decimal d.0 ∷ []
told EndPhase = codes "phase" ∷ []

-- the first two letters of the first word
abbrev mark : List Word → ℕ
mark ((a ∷ b ∷ w) ∷ ws) = a * 256 + b
mark ws = 0

-- rows with a dash before one without
peel : (xs ys left right : List (List Word)) → AllByRecursion IsDashed xs → AllByRecursion IsDashed ys → (head left ≡ 45 → ⊥) → (head right ≡ 45 → ⊥)
    → xs ++ left ≡ ys ++ right → (xs ≡ ys) × (left ≡ right)
peel [] [] left right a b p q e = (refl, e)
peel [] (y ∷ ys) left right a b p q e = absurd (p (ap head e ∙ b.0))
peel (x ∷ xs) [] left right a b p q e = absurd (q (ap head (sym e) ∙ a.0))
peel (x ∷ xs) (y ∷ ys) left right a b p q e =
    let first : x ≡ y = cc e in
    let rest : xs ++ left ≡ ys ++ right = cc e in
    let more = peel xs ys left right a.1 b.1 p q rest in
    ((λ i. first i ∷ more.0 i), more.1)

looks_told : (rs qs : List FastRecord) → map record_words rs ≡ map record_words qs → map (λ r. decimal r.look) rs ≡ map (λ r. decimal r.look) qs
looks_told [] [] e = refl
looks_told [] (q ∷ qs) e = absurd (cc e)
looks_told (r ∷ rs) [] e = absurd (cc e)
looks_told (r ∷ rs) (q ∷ qs) e =
    let one : record_words r ≡ record_words q = cc e in
    let rest : map record_words rs ≡ map record_words qs = cc e in
    let look : decimal r.look ≡ decimal q.look = cc one in
    let more = looks_told rs qs rest in
    (λ i. look i ∷ more i)

-- entries with the same words have the same turn in words
told_one : (e f : Entry) → said e ≡ said f → dashed e ≡ dashed f → told e ≡ told f
told_one (Call d r reply released) (Call c r' reply' released') p q = let daemon : decimal d.0 ≡ decimal c.0 = cc p in (λ i. codes "call" ∷ daemon i ∷ [])
told_one (Slow l i x flow o) (Slow m j y flow' o') p q =
    let lane : decimal l.0 ≡ decimal m.0 = cc p in
    let look : decimal x ≡ decimal y = cc p in
    (λ k. codes "slow" ∷ lane k ∷ look k ∷ [])
told_one (Settle l rs) (Settle m qs) p q =
    let lane : decimal l.0 ≡ decimal m.0 = cc p in
    let looks = looks_told rs qs q in
    (λ k. codes "settle" ∷ lane k ∷ looks k)
told_one (Tick d ms) (Tick c ns) p q = let daemon : decimal d.0 ≡ decimal c.0 = cc p in (λ i. codes "tick" ∷ daemon i ∷ [])
told_one (Recv d message) (Recv c message') p q = let daemon : decimal d.0 ≡ decimal c.0 = cc p in (λ i. codes "recv" ∷ daemon i ∷ [])
told_one EndPhase EndPhase p q = refl
told_one e f p q = let apart : mark (said e) ≡ mark (said f) = ap mark p in absurd (omega (arith, apart))

told_same : (h k : List Entry) (n : ℕ) (x y : List ℕ) → 57 < head (rows x) → 57 < head (rows y) → rows (entries_text n h ++ x) ≡ rows (entries_text n k ++ y) → map told h ≡ map told k
told_same [] [] n x y p q e = refl
told_same [] (f ∷ k) n x y p q e = let within = entry_head n f k y in let same : head (rows x) ≡ head (rows (entries_text n (f ∷ k) ++ y)) = ap head e in absurd (omega (arith, within.1, p, same))
told_same (f ∷ h) [] n x y p q e = let within = entry_head n f h x in let same : head (rows (entries_text n (f ∷ h) ++ x)) ≡ head (rows y) = ap head e in absurd (omega (arith, within.1, q, same))
told_same (e ∷ h) (f ∷ k) n x y p q same =
    let both : (decimal n ∷ said e) ∷ (dashed e ++ rows (entries_text (n + 1) h ++ x)) ≡ (decimal n ∷ said f) ∷ (dashed f ++ rows (entries_text (n + 1) k ++ y)) =
    sym (next_rows n e h x) ∙ same ∙ next_rows n f k y in
    let first : said e ≡ said f = cc both in
    let behind : dashed e ++ rows (entries_text (n + 1) h ++ x) ≡ dashed f ++ rows (entries_text (n + 1) k ++ y) = cc both in
    let peeled = peel (dashed e) (dashed f) _ _ (are_dashed e) (are_dashed f) (no_dash (n + 1) h x p) (no_dash (n + 1) k y q) behind in
    let one = told_one e f first peeled.0 in
    let more = told_same h k (n + 1) x y p q peeled.1 in
    (λ i. one i ∷ more i)

pub text_told : (skips : List Skip) (h k : List Entry) (t u : Tail) → text skips h t ≡ text skips k u → map told h ≡ map told k
text_told skips h k t u e =
    let cut = append_cancel_left (line_text line.History) _ _ (sym (text_parts skips h t) ∙ e ∙ text_parts skips k u) in
    let rest = append_cancel_left _ (entries_text 1 h ++ end_text t) (entries_text 1 k ++ end_text u) cut in
    told_same h k 1 (end_text t) (end_text u) (end_head t) (end_head u) (ap rows rest)

number_same : (m n : ℕ) → Fits64 m → Fits64 n → decimal m ≡ decimal n → m ≡ n
number_same m n p q e = decimal_injective m n (omega (arith, p)) (omega (arith, q)) e

daemon_same : (d c : DaemonNo) → Fits64 d.0 → Fits64 c.0 → decimal d.0 ≡ decimal c.0 → d ≡ c
daemon_same d c p q e = let same = number_same d.0 c.0 p q e in (λ i. record { 0 = same i })

lane_same : (l m : LaneNo) → Fits64 l.0 → Fits64 m.0 → decimal l.0 ≡ decimal m.0 → l ≡ m
lane_same l m p q e = let same = number_same l.0 m.0 p q e in (λ i. record { 0 = same i })

looks_same : (rs qs : List FastRecord) → AllByRecursion Fits64 (map (λ r. r.look) rs) → AllByRecursion Fits64 (map (λ r. r.look) qs)
    → map (λ r. decimal r.look) rs ≡ map (λ r. decimal r.look) qs → map (λ r. r.look) rs ≡ map (λ r. r.look) qs
looks_same [] [] p q e = refl
looks_same [] (c ∷ qs) p q e = absurd (cc e)
looks_same (r ∷ rs) [] p q e = absurd (cc e)
looks_same (r ∷ rs) (c ∷ qs) p q e =
    let one : decimal r.look ≡ decimal c.look = cc e in
    let rest : map (λ r. decimal r.look) rs ≡ map (λ r. decimal r.look) qs = cc e in
    let same = number_same r.look c.look p.0 q.0 one in
    let more = looks_same rs qs p.1 q.1 rest in
    (λ i. same i ∷ more i)

turn_same : (e f : Entry) → TurnFits (turn_of e) → TurnFits (turn_of f) → told e ≡ told f → turn_of e ≡ turn_of f
turn_same (Call d r reply released) (Call c r' reply' released') p q e = ap Called (daemon_same d c p q (cc e))
turn_same (Slow l i x flow o) (Slow m j y flow' o') p q e =
    let lane = lane_same l m p.0 q.0 (cc e) in
    let look = number_same x y p.1 q.1 (cc e) in
    (λ k. Slowed (lane k) (look k))
turn_same (Settle l rs) (Settle m qs) p q e =
    let lane = lane_same l m p.0 q.0 (cc e) in
    let looks = looks_same rs qs p.1 q.1 (cc e) in
    (λ k. Settled (lane k) (looks k))
turn_same (Tick d ms) (Tick c ns) p q e = ap Ticked (daemon_same d c p q (cc e))
turn_same (Recv d message) (Recv c message') p q e = ap Received (daemon_same d c p q (cc e))
turn_same EndPhase EndPhase p q e = refl
turn_same e f p q same = let apart : mark (told e) ≡ mark (told f) = ap mark same in absurd (omega (arith, apart))

pub turns_same : (h k : List Entry) → TurnsFit h → TurnsFit k → map told h ≡ map told k → turns h ≡ turns k
turns_same [] [] p q e = refl
turns_same [] (f ∷ k) p q e = absurd (cc e)
turns_same (e ∷ h) [] p q same = absurd (cc same)
turns_same (e ∷ h) (f ∷ k) p q same =
    let one = turn_same e f p.0 q.0 (cc same) in
    let more = turns_same h k p.1 q.1 (cc same) in
    (λ i. one i ∷ more i)

pub text_tells : TextTells
text_tells skips h k t u p q e = turns_same h k p q (text_told skips h k t u e)
