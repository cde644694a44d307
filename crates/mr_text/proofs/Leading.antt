-- The text of parts that fit is read: list by list, its lines lead to a state with these parts.
use Rattle.std.proofs.Common.{◌≡◌, ℕ, ◌+◌, ◌-◌, ◌==◌, ◌≤◌, true, false, Option, Some, List, [], ◌∷◌, ◌++◌, length, map, refl, sym, ap, ◌∙◌, subst, arith, append-nil, append_assoc, length-append}
use Rattle.std.specs.Prelude.{nat_lt, option_and_then}
use Rattle.std.specs.List.{AllByRecursion}
use Rattle.mr_base.specs.declared.numbers.DaemonNo.{DaemonNo}
use Rattle.mr_base.specs.declared.numbers.LaneNo.{LaneNo}
use Rattle.mr_lines.specs.declared.line.Line.{Line}
use Rattle.mr_lines.specs.declared.line.Line.TheVariants as line
use Rattle.mr_lines.specs.declared.skip.Skip.{Skip}
use Rattle.mr_lines.specs.declared.tail.RouteLine.{RouteLine}
use Rattle.mr_lines.specs.declared.tail.Tail.{Tail}
use Rattle.mr_lines.specs.declared.tail.VifLine.{VifLine}
use Rattle.mr_model.specs.declared.ending.FateLine.{FateLine}
use Rattle.mr_model.specs.declared.entry.Entry.{Entry}
use Rattle.mr_model.specs.declared.entry.Entry.TheVariants as entry
use Rattle.mr_model.specs.declared.entry.FastRecord.{FastRecord}
use Rattle.mr_model.specs.declared.entry.ReleasedId.{ReleasedId}
use Rattle.mr_model.specs.declared.reply.Reply.{Reply}
use Rattle.mr_model.specs.declared.request.Request.{Request}
use Rattle.mr_text.specs.declared.reading_state.Current.{Current}
use Rattle.mr_text.specs.declared.reading_state.Current.TheVariants as current
use Rattle.mr_text.specs.declared.reading_state.State.{State}
use Rattle.mr_text.specs.Orders.{skip_follows, route_follows, vif_follows}
use Rattle.mr_text.specs.Text.{entry_lines, entries_lines, tail_lines, text_lines}
use Rattle.mr_text.specs.Walk.{when, first_state, closed, added_in, added, opened_in, opened, with_route, with_vif, with_fate, with_end, step}
use Rattle.mr_text.specs.Whole.{Rising, PartsFit, EntryFits}
use Rattle.mr_text.proofs.Parting.{then_some, then_goes}
use Rattle.mr_text.proofs.Telling.{Sound, Takes, next_of, step_told}

-- the state behind lines
abbrev pub runs : State → List Line → Option State
runs s [] = Some s
runs s (l ∷ ls) = option_and_then (λ t. runs t ls) (step (next_of s) s l)

pub runs_append : (xs ys : List Line) (s t u : State) → runs s xs ≡ Some t → runs t ys ≡ Some u → runs s (xs ++ ys) ≡ Some u
runs_append [] ys s t u one two =
    let same : s ≡ t = cc one in
    subst (λ s. runs s ys ≡ Some u) (sym same) two
runs_append (x ∷ xs) ys s t u one two =
    let found : (q : State) × (step (next_of s) s x ≡ Some q) × (runs q xs ≡ Some t) = then_some (step (next_of s) s x) (λ t. runs t xs) t one in
    then_goes (step (next_of s) s x) (λ t. runs t (xs ++ ys)) found.0 found.1 ∙ runs_append xs ys found.0 t u found.2 two

pub runs_on : (l : Line) (ls : List Line) (s t u : State) → step (next_of s) s l ≡ Some t → runs t ls ≡ Some u → runs s (l ∷ ls) ≡ Some u
runs_on l ls s t u one more = then_goes (step (next_of s) s l) (λ t. runs t ls) t one ∙ more

pub runs_sound : (ls : List Line) (s t : State) → Sound s → runs s ls ≡ Some t → Sound t
runs_sound [] s t k e = subst Sound (cc e) k
runs_sound (l ∷ ls) s t k e =
    let found : (q : State) × (step (next_of s) s l ≡ Some q) × (runs q ls ≡ Some t) = then_some (step (next_of s) s l) (λ t. runs t ls) t e in
    let taken : Takes s l found.0 = step_told s l found.0 k found.1 in
    runs_sound ls found.0 t taken.0 found.2

-- a text of these parts so far
abbrev at : List Skip → List Entry → List ℕ → Current → List RouteLine → List VifLine → List FateLine → State
at ks es ls o rs vs fs = record { begun = true; skips = ks; entries = es; lines = ls; current = o; routes = rs; vifs = vs; fates = fs; ended = false }

run_skips : (ks done : List Skip) → Rising skip_follows done ks → runs (at done [] [] current.Nothing [] [] []) (map line.Skip ks) ≡ Some (at (done ++ ks) [] [] current.Nothing [] [] [])
run_skips [] done r = ap (λ ks. Some (at ks [] [] current.Nothing [] [] [])) (sym (append-nil done))
run_skips (k ∷ ks) done r =
    runs_on (line.Skip k) (map line.Skip ks) (at done [] [] current.Nothing [] [] []) (at (done ++ k ∷ []) [] [] current.Nothing [] [] []) _
    (ap (λ b. when b (Some (at (done ++ k ∷ []) [] [] current.Nothing [] [] []))) r.0)
    (run_skips ks (done ++ k ∷ []) r.1 ∙ ap (λ ks. Some (at ks [] [] current.Nothing [] [] [])) (append_assoc done (k ∷ []) ks))

-- Behind lines the entry in work may end: then the state has these entries.
abbrev Quiet : State → List Skip → List Entry → List RouteLine → List VifLine → List FateLine → Type 0
Quiet s ks es rs vs fs = (ls : List ℕ) × (closed s ≡ Some (at ks es ls current.Nothing rs vs fs))

-- Lines lead from a state to one where an entry may end.
abbrev Leads : State → List Line → List Skip → List Entry → List RouteLine → List VifLine → List FateLine → Type 0
Leads s lines ks es rs vs fs = (t : State) × (runs s lines ≡ Some t) × Quiet t ks es rs vs fs

same_number : (n : ℕ) → (n == n) ≡ true
same_number n = grind arith

lead_one : (s : State) (l : Line) (e : Entry) (ks : List Skip) (es : List Entry) → Quiet s ks es [] [] [] → step (next_of s) s l ≡ added (next_of s) (length es + 1) e s
    → Leads s (l ∷ []) ks (es ++ e ∷ []) [] [] []
lead_one s l e ks es q is =
    let t : State = at ks (es ++ e ∷ []) (q.0 ++ next_of s ∷ []) current.Nothing [] [] [] in
    let goes : added (next_of s) (length es + 1) e s ≡ Some t =
    then_goes (closed s) (added_in (next_of s) (length es + 1) e) (at ks es q.0 current.Nothing [] [] []) q.1 ∙ ap (λ b. when b (Some t)) (same_number (length es + 1)) in
    (t, runs_on l [] s t t (is ∙ goes) refl, (q.0 ++ next_of s ∷ [], refl))

lead_open : (s : State) (l : Line) (o : Current) (ks : List Skip) (es : List Entry) (more : List Line) (u : State) (q : Quiet s ks es [] [] [])
    → step (next_of s) s l ≡ opened (next_of s) (length es + 1) o s → runs (at ks es (q.0 ++ next_of s ∷ []) o [] [] []) more ≡ Some u → runs s (l ∷ more) ≡ Some u
lead_open s l o ks es more u q is further =
    let t : State = at ks es (q.0 ++ next_of s ∷ []) o [] [] [] in
    let goes : opened (next_of s) (length es + 1) o s ≡ Some t =
    then_goes (closed s) (opened_in (next_of s) (length es + 1) o) (at ks es q.0 current.Nothing [] [] []) q.1 ∙ ap (λ b. when b (Some t)) (same_number (length es + 1)) in
    runs_on l more s t u (is ∙ goes) further

below_four : (n : ℕ) → n + 1 ≤ 4 → nat_lt n 4 ≡ true
below_four n h = grind arith

some_left : (left n : ℕ) → left ≡ n + 1 → nat_lt 0 left ≡ true
some_left left n h = grind arith

run_released : (ks : List Skip) (es : List Entry) (ls : List ℕ) (d : DaemonNo) (r : Request) (reply : Reply) (ps done : List ReleasedId) → length (done ++ ps) ≤ 4
    → runs (at ks es ls (current.Call d r reply done) [] [] []) (map line.Released ps) ≡ Some (at ks es ls (current.Call d r reply (done ++ ps)) [] [] [])
run_released ks es ls d r reply [] done few = ap (λ ps. Some (at ks es ls (current.Call d r reply ps) [] [] [])) (sym (append-nil done))
run_released ks es ls d r reply (p ∷ ps) done few =
    let t : State = at ks es ls (current.Call d r reply (done ++ p ∷ [])) [] [] [] in
    let all : length (done ++ p ∷ ps) ≡ length done + length (p ∷ ps) = length-append done (p ∷ ps) in
    let one : length done + 1 ≤ 4 = omega arith in
    let same : (done ++ p ∷ []) ++ ps ≡ done ++ p ∷ ps = append_assoc done (p ∷ []) ps in
    runs_on (line.Released p) (map line.Released ps) (at ks es ls (current.Call d r reply done) [] [] []) t _
    (ap (λ b. when b (Some t)) (below_four (length done) one))
    (run_released ks es ls d r reply ps (done ++ p ∷ []) (subst (λ l. length l ≤ 4) (sym same) few) ∙ ap (λ ps. Some (at ks es ls (current.Call d r reply ps) [] [] [])) same)

run_records : (ks : List Skip) (es : List Entry) (ls : List ℕ) (lane : LaneNo) (fs done : List FastRecord) (left : ℕ) → left ≡ length fs
    → runs (at ks es ls (current.Settle lane done left) [] [] []) (map line.Record fs) ≡ Some (at ks es ls (current.Settle lane (done ++ fs) 0) [] [] [])
run_records ks es ls lane [] done left is =
    ap (λ i. Some (at ks es ls (current.Settle lane done i) [] [] [])) is ∙ ap (λ fs. Some (at ks es ls (current.Settle lane fs 0) [] [] [])) (sym (append-nil done))
run_records ks es ls lane (f ∷ fs) done left is =
    let t : State = at ks es ls (current.Settle lane (done ++ f ∷ []) (left - 1)) [] [] [] in
    let one : left ≡ length fs + 1 = omega arith in
    let less : left - 1 ≡ length fs = omega arith in
    runs_on (line.Record f) (map line.Record fs) (at ks es ls (current.Settle lane done left) [] [] []) t _
    (ap (λ b. when b (Some t)) (some_left left (length fs) one))
    (run_records ks es ls lane fs (done ++ f ∷ []) (left - 1) less ∙ ap (λ fs. Some (at ks es ls (current.Settle lane fs 0) [] [] [])) (append_assoc done (f ∷ []) fs))

lead_entry : (s : State) (e : Entry) (ks : List Skip) (es : List Entry) → Quiet s ks es [] [] [] → EntryFits e → Leads s (entry_lines (length es + 1) e) ks (es ++ e ∷ []) [] [] []
lead_entry s (entry.Call d r reply released) ks es q few =
    let ls : List ℕ = q.0 ++ next_of s ∷ [] in (
      at ks es ls (current.Call d r reply released) [] [] [],
      lead_open s (line.Call (length es + 1) d r reply) (current.Call d r reply []) ks es (map line.Released released) _ q refl (run_released ks es ls d r reply released [] few),
      (ls, refl),
    )
lead_entry s (entry.Slow lane index look flow o) ks es q same =
    lead_one s (line.Slow (length es + 1) lane index look o) (entry.Slow lane index look flow o) ks es q (ap (λ f. added (next_of s) (length es + 1) (entry.Slow lane index look f o) s) (sym same))
lead_entry s (entry.Settle lane records) ks es q few =
    let ls : List ℕ = q.0 ++ next_of s ∷ [] in (
      at ks es ls (current.Settle lane records 0) [] [] [],
      lead_open s (line.Settle (length es + 1) lane (length records)) (current.Settle lane [] (length records)) ks es (map line.Record records) _ q refl (run_records ks es ls lane records [] (length records) refl),
      (ls, refl),
    )
lead_entry s (entry.Tick d ms) ks es q fits = lead_one s (line.Tick (length es + 1) d ms) (entry.Tick d ms) ks es q refl
lead_entry s (entry.Recv d message) ks es q fits = lead_one s (line.Recv (length es + 1) d message) (entry.Recv d message) ks es q refl
lead_entry s entry.EndPhase ks es q fits = lead_one s (line.Phase (length es + 1)) entry.EndPhase ks es q refl

lead_entries : (h : List Entry) (s : State) (ks : List Skip) (es : List Entry) → Quiet s ks es [] [] [] → AllByRecursion EntryFits h → Leads s (entries_lines (length es + 1) h) ks (es ++ h) [] [] []
lead_entries [] s ks es q fits = (s, refl, subst (λ h. Quiet s ks h [] [] []) (sym (append-nil es)) q)
lead_entries (e ∷ h) s ks es q fits =
    let one : Leads s (entry_lines (length es + 1) e) ks (es ++ e ∷ []) [] [] [] = lead_entry s e ks es q fits.0 in
    let more : Leads one.0 (entries_lines (length (es ++ e ∷ []) + 1) h) ks ((es ++ e ∷ []) ++ h) [] [] [] = lead_entries h one.0 ks (es ++ e ∷ []) one.2 fits.1 in
    let number : length (es ++ e ∷ []) + 1 ≡ length es + 1 + 1 = ap (λ i. i + 1) (length-append es (e ∷ [])) in (
      more.0,
      runs_append (entry_lines (length es + 1) e) (entries_lines (length es + 1 + 1) h) s one.0 more.0 one.1 (ap (λ i. runs one.0 (entries_lines i h)) (sym number) ∙ more.1),
      subst (λ h. Quiet more.0 ks h [] [] []) (append_assoc es (e ∷ []) h) more.2,
    )

lead_routes : (xs rs : List RouteLine) (s : State) (ks : List Skip) (es : List Entry) → Quiet s ks es rs [] [] → Rising route_follows rs xs → Leads s (map line.Route xs) ks es (rs ++ xs) [] []
lead_routes [] rs s ks es q r = (s, refl, subst (λ l. Quiet s ks es l [] []) (sym (append-nil rs)) q)
lead_routes (x ∷ xs) rs s ks es q r =
    let t : State = at ks es q.0 current.Nothing (rs ++ x ∷ []) [] [] in
    let goes : step (next_of s) s (line.Route x) ≡ Some t =
    then_goes (closed s) (with_route x) (at ks es q.0 current.Nothing rs [] []) q.1 ∙ ap (λ b. when b (Some t)) r.0 in
    let more : Leads t (map line.Route xs) ks es ((rs ++ x ∷ []) ++ xs) [] [] = lead_routes xs (rs ++ x ∷ []) t ks es (q.0, refl) r.1 in
    (more.0, runs_on (line.Route x) (map line.Route xs) s t more.0 goes more.1, subst (λ l. Quiet more.0 ks es l [] []) (append_assoc rs (x ∷ []) xs) more.2)

lead_vifs : (xs vs : List VifLine) (s : State) (ks : List Skip) (es : List Entry) (rs : List RouteLine) → Quiet s ks es rs vs [] → Rising vif_follows vs xs → Leads s (map line.Vif xs) ks es rs (vs ++ xs) []
lead_vifs [] vs s ks es rs q r = (s, refl, subst (λ l. Quiet s ks es rs l []) (sym (append-nil vs)) q)
lead_vifs (x ∷ xs) vs s ks es rs q r =
    let t : State = at ks es q.0 current.Nothing rs (vs ++ x ∷ []) [] in
    let goes : step (next_of s) s (line.Vif x) ≡ Some t =
    then_goes (closed s) (with_vif x) (at ks es q.0 current.Nothing rs vs []) q.1 ∙ ap (λ b. when b (Some t)) r.0 in
    let more : Leads t (map line.Vif xs) ks es rs ((vs ++ x ∷ []) ++ xs) [] = lead_vifs xs (vs ++ x ∷ []) t ks es rs (q.0, refl) r.1 in
    (more.0, runs_on (line.Vif x) (map line.Vif xs) s t more.0 goes more.1, subst (λ l. Quiet more.0 ks es rs l []) (append_assoc vs (x ∷ []) xs) more.2)

lead_fates : (xs fs : List FateLine) (s : State) (ks : List Skip) (es : List Entry) (rs : List RouteLine) (vs : List VifLine) → Quiet s ks es rs vs fs → Leads s (map line.Fate xs) ks es rs vs (fs ++ xs)
lead_fates [] fs s ks es rs vs q = (s, refl, subst (λ l. Quiet s ks es rs vs l) (sym (append-nil fs)) q)
lead_fates (x ∷ xs) fs s ks es rs vs q =
    let t : State = at ks es q.0 current.Nothing rs vs (fs ++ x ∷ []) in
    let goes : step (next_of s) s (line.Fate x) ≡ Some t = then_goes (closed s) (with_fate x) (at ks es q.0 current.Nothing rs vs fs) q.1 in
    let more : Leads t (map line.Fate xs) ks es rs vs ((fs ++ x ∷ []) ++ xs) = lead_fates xs (fs ++ x ∷ []) t ks es rs vs (q.0, refl) in
    (more.0, runs_on (line.Fate x) (map line.Fate xs) s t more.0 goes more.1, subst (λ l. Quiet more.0 ks es rs vs l) (append_assoc fs (x ∷ []) xs) more.2)

-- the state behind the line `end`
abbrev pub ended : List Skip → List Entry → Tail → List ℕ → State
ended ks h t ls = record (at ks h ls current.Nothing t.routes t.vifs t.fates) { ended = true }

-- The lines of parts that fit lead to the state with just these parts.
pub lead_all : (ks : List Skip) (h : List Entry) (t : Tail) → PartsFit ks h t → (ls : List ℕ) × (runs first_state (text_lines ks h t) ≡ Some (ended ks h t ls))
lead_all ks h t p =
    let begun : State = at [] [] [] current.Nothing [] [] [] in
    let skips : runs begun (map line.Skip ks) ≡ Some (at ks [] [] current.Nothing [] [] []) = run_skips ks [] p.skips_rise in
    let entries : Leads (at ks [] [] current.Nothing [] [] []) (entries_lines 1 h) ks h [] [] [] = lead_entries h (at ks [] [] current.Nothing [] [] []) ks [] ([], refl) p.each in
    let routes : Leads entries.0 (map line.Route t.routes) ks h t.routes [] [] = lead_routes t.routes [] entries.0 ks h entries.2 p.routes_rise in
    let vifs : Leads routes.0 (map line.Vif t.vifs) ks h t.routes t.vifs [] = lead_vifs t.vifs [] routes.0 ks h t.routes routes.2 p.vifs_rise in
    let fates : Leads vifs.0 (map line.Fate t.fates) ks h t.routes t.vifs t.fates = lead_fates t.fates [] vifs.0 ks h t.routes t.vifs vifs.2 in
    let q : Quiet fates.0 ks h t.routes t.vifs t.fates = fates.2 in
    let last : runs fates.0 (line.End ∷ []) ≡ Some (ended ks h t q.0) =
    runs_on line.End [] fates.0 (ended ks h t q.0) (ended ks h t q.0) (then_goes (closed fates.0) with_end (at ks h q.0 current.Nothing t.routes t.vifs t.fates) q.1) refl in
    let tail : runs entries.0 (tail_lines t) ≡ Some fates.0 =
    runs_append (map line.Route t.routes ++ map line.Vif t.vifs) (map line.Fate t.fates) entries.0 vifs.0 fates.0
    (runs_append (map line.Route t.routes) (map line.Vif t.vifs) entries.0 routes.0 vifs.0 routes.1 vifs.1) fates.1 in
    let front : runs begun (map line.Skip ks ++ entries_lines 1 h) ≡ Some entries.0 = runs_append (map line.Skip ks) (entries_lines 1 h) begun (at ks [] [] current.Nothing [] [] []) entries.0 skips entries.1 in (
      q.0,
      runs_append (map line.Skip ks ++ entries_lines 1 h ++ tail_lines t) (line.End ∷ []) begun fates.0 (ended ks h t q.0)
          (runs_append (map line.Skip ks ++ entries_lines 1 h) (tail_lines t) begun entries.0 fates.0 front tail) last,
    )
