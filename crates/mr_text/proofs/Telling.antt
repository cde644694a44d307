-- What is read is the text of its parts: a line that is taken is the one that the state tells more.
use Rattle.std.proofs.Common.{◌≡◌, ℕ, ◌+◌, ◌-◌, ◌==◌, ◌&&◌, ◌≤◌, ◌<◌, Bool, true, false, not, Option, Some, List, [], ◌∷◌, ◌++◌, length, map, refl, sym, ap, ◌∙◌, subst, arith, add-zero, zero-add, lit≤, append-nil, length-append}
use Rattle.std.specs.Prelude.{nat_lt, option_and_then}
use Rattle.std.specs.List.{AllByRecursion}
use Rattle.std.proofs.lemmas.Bool.{and_parts}
use Rattle.std.proofs.lemmas.List.{length-map, map-append}
use Rattle.mr_lines.specs.declared.line.Line.{Line}
use Rattle.mr_lines.specs.declared.line.Line.TheVariants as line
use Rattle.mr_lines.specs.declared.skip.Skip.{Skip}
use Rattle.mr_lines.specs.declared.tail.RouteLine.{RouteLine}
use Rattle.mr_lines.specs.declared.tail.VifLine.{VifLine}
use Rattle.mr_lines.specs.Fit.{no_flow}
use Rattle.mr_model.specs.declared.ending.FateLine.{FateLine}
use Rattle.mr_model.specs.declared.entry.Entry.{Entry}
use Rattle.mr_model.specs.declared.entry.Entry.TheVariants as entry
use Rattle.mr_model.specs.declared.entry.FastRecord.{FastRecord}
use Rattle.mr_model.specs.declared.entry.ReleasedId.{ReleasedId}
use Rattle.mr_text.specs.declared.reading_state.Current.{Current}
use Rattle.mr_text.specs.declared.reading_state.Current.TheVariants as current
use Rattle.mr_text.specs.declared.reading_state.State.{State}
use Rattle.mr_text.specs.Orders.{skip_follows, route_follows, vif_follows}
use Rattle.mr_text.specs.Text.{entry_lines, entries_lines}
use Rattle.mr_text.specs.Walk.{when, is_empty, first_state, with_entry, closed_current, closed, has_no_tail, is_inside, is_next, with_open, opened_in, opened, with_line, added_in, added, released, recorded, skipped, with_route, with_vif, with_fate, with_end, step}
use Rattle.mr_text.specs.Whole.{Rising, EntryFits, capped, first_lines_from, first_lines, current_lines, begin_line, end_line, told}
use Rattle.mr_text.proofs.Parting.{when_some, then_some, empty_nil, not_both, is_equal, front_joined, joined, push_b, push_c, push_d, push_e, push_f, push_g, push_h, shift_c, rising_push, all_push, firsts_push, entries_push}

-- the entry whose lines are read, as it stands so far
abbrev pub current_entries : Current → List Entry
current_entries current.Nothing = []
current_entries (current.Call d r reply released) = entry.Call d r reply released ∷ []
current_entries (current.Settle lane records left) = entry.Settle lane records ∷ []

abbrev pub CurrentFits : Current → Type 0
CurrentFits (current.Call d r reply released) = length released ≤ 4
CurrentFits _ = Unit

-- Lines of entries may still come: the text has begun, no line of the tail has come, and it has not ended.
abbrev pub NoTail : State → Type 0
NoTail s = (s.begun ≡ true) × (s.routes ≡ []) × (s.vifs ≡ []) × (s.fates ≡ []) × (s.ended ≡ false)

abbrev pub OpenIn : State → Current → Type 0
OpenIn s current.Nothing = Unit
OpenIn s (current.Call d r reply released) = NoTail s
OpenIn s (current.Settle lane records left) = NoTail s

-- What holds of each state that lines lead to.
pub record Sound (s : State) : Type 0 where
  pub fresh : s.begun ≡ false → s ≡ first_state
  pub open_in : OpenIn s s.current
  pub firsts : s.lines ≡ first_lines s.skips (s.entries ++ current_entries s.current)
  pub each : AllByRecursion EntryFits s.entries
  pub current_fits : CurrentFits s.current
  pub skips_rise : Rising skip_follows [] s.skips
  pub routes_rise : Rising route_follows [] s.routes
  pub vifs_rise : Rising vif_follows [] s.vifs

pub first_sound : Sound first_state
first_sound = record { fresh = λ _. refl; open_in = tt; firsts = refl; each = tt; current_fits = tt; skips_rise = tt; routes_rise = tt; vifs_rise = tt }

-- A line was taken: the state stays sound and tells it.
abbrev pub Takes : State → Line → State → Type 0
Takes s l t = Sound t × (told t ≡ told s ++ l ∷ [])

-- the number of the line that a state may take next
abbrev pub next_of : State → ℕ
next_of s = capped (length (told s) + 1)

-- An entry whose lines have all come is told among the others.
abbrev pub Closes : State → State → Type 0
Closes s q = Sound q × (told q ≡ told s) × (q.current ≡ current.Nothing)

entry_closed : (s : State) (o : Current) (e : Entry) → s.current ≡ o → Sound s → NoTail s → EntryFits e
    → current_entries o ≡ e ∷ [] → entry_lines (length s.entries + 1) e ≡ current_lines (length s.entries + 1) o → Closes s (with_entry s e)
entry_closed s o e is k n fits one spelled =
    let same : 1 + length s.entries ≡ length s.entries + 1 = omega arith in
    let pushed : entries_lines 1 (s.entries ++ e ∷ []) ≡ entries_lines 1 s.entries ++ current_lines (length s.entries + 1) s.current =
    entries_push 1 s.entries e ∙ ap (λ i. entries_lines 1 s.entries ++ entry_lines i e) same ∙ ap (λ l. entries_lines 1 s.entries ++ l) (spelled ∙ ap (current_lines (length s.entries + 1)) (sym is)) in (
      record {
        fresh = λ b. absurd (not_both s.begun n.0 b);
        open_in = tt;
        firsts = k.firsts ∙ ap (λ l. first_lines s.skips (s.entries ++ l)) (ap current_entries is ∙ one) ∙ ap (first_lines s.skips) (sym (append-nil (s.entries ++ e ∷ [])));
        each = all_push EntryFits s.entries e k.each fits;
        current_fits = tt;
        skips_rise = k.skips_rise;
        routes_rise = k.routes_rise;
        vifs_rise = k.vifs_rise;
      },
      ap (λ l. joined (begin_line s.begun) (map line.Skip s.skips) l [] (map line.Route s.routes) (map line.Vif s.vifs) (map line.Fate s.fates) (end_line s.ended)) pushed
          ∙ shift_c (begin_line s.begun) (map line.Skip s.skips) (entries_lines 1 s.entries) (current_lines (length s.entries + 1) s.current) (map line.Route s.routes) (map line.Vif s.vifs) (map line.Fate s.fates) (end_line s.ended),
      refl,
    )

closed_by : (s : State) (o : Current) (q : State) → s.current ≡ o → Sound s → closed_current s o ≡ Some q → Closes s q
closed_by s current.Nothing q is k e =
    let same : s ≡ q = cc e in
    subst (λ q. Closes s q) same (k, refl, is)
closed_by s (current.Call d r reply released) q is k e =
    let same : with_entry s (entry.Call d r reply released) ≡ q = cc e in
    subst (λ q. Closes s q) same (entry_closed s (current.Call d r reply released) (entry.Call d r reply released) is k (subst (OpenIn s) is k.open_in) (subst CurrentFits is k.current_fits) refl refl)
closed_by s (current.Settle lane records left) q is k e =
    let parts : ((left == 0) ≡ true) × (with_entry s (entry.Settle lane records) ≡ q) = when_some (left == 0) (with_entry s (entry.Settle lane records)) q e in
    let none : left ≡ 0 = is_equal left 0 parts.0 in
    subst (λ q. Closes s q) parts.1
    (entry_closed s (current.Settle lane records left) (entry.Settle lane records) is k (subst (OpenIn s) is k.open_in) tt refl
    (rw (none, add-zero) refl))

pub closed_told : (s q : State) → Sound s → closed s ≡ Some q → Closes s q
closed_told s q k e = closed_by s s.current q refl k e

not_true : (b : Bool) → not b ≡ true → b ≡ false
not_true true e = cc e
not_true false e = refl

inside_parts : (s : State) → is_inside s ≡ true → (s.begun ≡ true) × (s.ended ≡ false)
inside_parts s e =
    let both : (s.begun ≡ true) × (not s.ended ≡ true) = and_parts s.begun (not s.ended) e in
    (both.0, not_true s.ended both.1)

tail_parts : (s : State) → has_no_tail s ≡ true → (s.routes ≡ []) × (s.vifs ≡ []) × (s.fates ≡ [])
tail_parts s e =
    let both : ((is_empty s.routes && is_empty s.vifs) ≡ true) × (is_empty s.fates ≡ true) = and_parts (is_empty s.routes && is_empty s.vifs) (is_empty s.fates) e in
    let rest : (is_empty s.routes ≡ true) × (is_empty s.vifs ≡ true) = and_parts (is_empty s.routes) (is_empty s.vifs) both.0 in
    (empty_nil s.routes rest.0, empty_nil s.vifs rest.1, empty_nil s.fates both.1)

next_parts : (s : State) (number : ℕ) → is_next s number ≡ true → NoTail s × (number ≡ length s.entries + 1)
next_parts s number e =
    let both : ((is_inside s && has_no_tail s) ≡ true) × ((number == length s.entries + 1) ≡ true) = and_parts (is_inside s && has_no_tail s) (number == length s.entries + 1) e in
    let rest : (is_inside s ≡ true) × (has_no_tail s ≡ true) = and_parts (is_inside s) (has_no_tail s) both.0 in
    let inside : (s.begun ≡ true) × (s.ended ≡ false) = inside_parts s rest.0 in
    let tail : (s.routes ≡ []) × (s.vifs ≡ []) × (s.fates ≡ []) = tail_parts s rest.1 in
    ((inside.0, tail.0, tail.1, tail.2, inside.1), is_equal number (length s.entries + 1) both.1)

told_length : (q : State) → q.current ≡ current.Nothing → NoTail q → length (told q) + 1 ≡ length q.skips + 2 + length (entries_lines 1 q.entries)
told_length q none n =
    let front : told q ≡ begin_line q.begun ++ map line.Skip q.skips ++ entries_lines 1 q.entries =
    front_joined (begin_line q.begun) (map line.Skip q.skips) (entries_lines 1 q.entries) (current_lines (length q.entries + 1) q.current) (map line.Route q.routes) (map line.Vif q.vifs) (map line.Fate q.fates) (end_line q.ended)
    (ap (current_lines (length q.entries + 1)) none) (ap (map line.Route) n.1) (ap (map line.Vif) n.2) (ap (map line.Fate) n.3) (ap end_line n.4) in
    let all : length (told q) ≡ length (begin_line q.begun ++ map line.Skip q.skips ++ entries_lines 1 q.entries) = ap length front in
    let most : length (begin_line q.begun ++ map line.Skip q.skips ++ entries_lines 1 q.entries) ≡ length (begin_line q.begun ++ map line.Skip q.skips) + length (entries_lines 1 q.entries) = length-append (begin_line q.begun ++ map line.Skip q.skips) (entries_lines 1 q.entries) in
    let both : length (begin_line q.begun ++ map line.Skip q.skips) ≡ length (begin_line q.begun) + length (map line.Skip q.skips) = length-append (begin_line q.begun) (map line.Skip q.skips) in
    let first : length (begin_line q.begun) ≡ 1 = ap (λ b. length (begin_line b)) n.0 in
    let each : length (map line.Skip q.skips) ≡ length q.skips = length-map q.skips line.Skip in
    omega arith

lines_known : (q : State) → Sound q → q.current ≡ current.Nothing → q.lines ≡ first_lines q.skips q.entries
lines_known q k none = k.firsts ∙ ap (λ c. first_lines q.skips (q.entries ++ current_entries c)) none ∙ ap (first_lines q.skips) (append-nil q.entries)

-- an entry more begins where the next line is
firsts_more : (q : State) (e : Entry) → Sound q → q.current ≡ current.Nothing → NoTail q → q.lines ++ next_of q ∷ [] ≡ first_lines q.skips (q.entries ++ e ∷ [])
firsts_more q e k none n =
    ap (λ l. l ++ next_of q ∷ []) (lines_known q k none)
    ∙ ap (λ i. first_lines q.skips q.entries ++ capped i ∷ []) (told_length q none n)
    ∙ sym (firsts_push (length q.skips + 2) 1 q.entries e)

firsts_same : (m : ℕ) (h : List Entry) (e f : Entry) → first_lines_from m (h ++ e ∷ []) ≡ first_lines_from m (h ++ f ∷ [])
firsts_same m h e f = firsts_push m 1 h e ∙ sym (firsts_push m 1 h f)

none_open : (t : State) (o : Current) → o ≡ current.Nothing → OpenIn t o
none_open t o none = subst (OpenIn t) (sym none) tt

open_as : (q : State) (o : Current) → OpenIn q o → OpenIn (with_open (next_of q) o q) o
open_as q current.Nothing w = tt
open_as q (current.Call d r reply released) w = w
open_as q (current.Settle lane records left) w = w

opened_told : (q : State) (o : Current) (e : Entry) (l : Line) → Sound q → q.current ≡ current.Nothing → NoTail q → CurrentFits o → OpenIn q o
    → current_entries o ≡ e ∷ [] → current_lines (length q.entries + 1) o ≡ l ∷ [] → Takes q l (with_open (next_of q) o q)
opened_told q o e l k none n fits within one spelled = (
  record {
    fresh = λ b. absurd (not_both q.begun n.0 b);
    open_in = open_as q o within;
    firsts = firsts_more q e k none n ∙ ap (λ l. first_lines q.skips (q.entries ++ l)) (sym one);
    each = k.each;
    current_fits = fits;
    skips_rise = k.skips_rise;
    routes_rise = k.routes_rise;
    vifs_rise = k.vifs_rise;
  },
  ap (λ d. joined (begin_line q.begun) (map line.Skip q.skips) (entries_lines 1 q.entries) d (map line.Route q.routes) (map line.Vif q.vifs) (map line.Fate q.fates) (end_line q.ended)) spelled
      ∙ push_d (begin_line q.begun) (map line.Skip q.skips) (entries_lines 1 q.entries) [] (map line.Route q.routes) (map line.Vif q.vifs) (map line.Fate q.fates) (end_line q.ended) (l ∷ [])
      (ap (map line.Route) n.1) (ap (map line.Vif) n.2) (ap (map line.Fate) n.3) (ap end_line n.4)
      ∙ ap (λ c. joined (begin_line q.begun) (map line.Skip q.skips) (entries_lines 1 q.entries) (current_lines (length q.entries + 1) c) (map line.Route q.routes) (map line.Vif q.vifs) (map line.Fate q.fates) (end_line q.ended) ++ l ∷ []) (sym none),
)

added_told : (q : State) (e : Entry) (l : Line) → Sound q → q.current ≡ current.Nothing → NoTail q → EntryFits e
    → entry_lines (length q.entries + 1) e ≡ l ∷ [] → Takes q l (with_line (next_of q) e q)
added_told q e l k none n fits spelled =
    let same : 1 + length q.entries ≡ length q.entries + 1 = omega arith in
    let pushed : entries_lines 1 (q.entries ++ e ∷ []) ≡ entries_lines 1 q.entries ++ l ∷ [] =
    entries_push 1 q.entries e ∙ ap (λ i. entries_lines 1 q.entries ++ entry_lines i e) same ∙ ap (λ l. entries_lines 1 q.entries ++ l) spelled in (
      record {
        fresh = λ b. absurd (not_both q.begun n.0 b);
        open_in = none_open (with_line (next_of q) e q) q.current none;
        firsts = firsts_more q e k none n ∙ ap (first_lines q.skips) (sym (append-nil (q.entries ++ e ∷ []))) ∙ ap (λ c. first_lines q.skips ((q.entries ++ e ∷ []) ++ current_entries c)) (sym none);
        each = all_push EntryFits q.entries e k.each fits;
        current_fits = k.current_fits;
        skips_rise = k.skips_rise;
        routes_rise = k.routes_rise;
        vifs_rise = k.vifs_rise;
      },
      ap (λ c. joined (begin_line q.begun) (map line.Skip q.skips) (entries_lines 1 (q.entries ++ e ∷ [])) (current_lines (length (q.entries ++ e ∷ []) + 1) c) (map line.Route q.routes) (map line.Vif q.vifs) (map line.Fate q.fates) (end_line q.ended)) none
          ∙ ap (λ c. joined (begin_line q.begun) (map line.Skip q.skips) c [] (map line.Route q.routes) (map line.Vif q.vifs) (map line.Fate q.fates) (end_line q.ended)) pushed
          ∙ push_c (begin_line q.begun) (map line.Skip q.skips) (entries_lines 1 q.entries) [] (map line.Route q.routes) (map line.Vif q.vifs) (map line.Fate q.fates) (end_line q.ended) (l ∷ [])
          refl (ap (map line.Route) n.1) (ap (map line.Vif) n.2) (ap (map line.Fate) n.3) (ap end_line n.4)
          ∙ ap (λ c. joined (begin_line q.begun) (map line.Skip q.skips) (entries_lines 1 q.entries) (current_lines (length q.entries + 1) c) (map line.Route q.routes) (map line.Vif q.vifs) (map line.Fate q.fates) (end_line q.ended) ++ l ∷ []) (sym none),
    )

-- a first line of an entry is taken behind the lines of the entry before
opens : (s : State) (number : ℕ) (o : Current) (e : Entry) (l : Line) (t : State) → Sound s → CurrentFits o → ((q : State) → NoTail q → OpenIn q o)
    → current_entries o ≡ e ∷ [] → current_lines number o ≡ l ∷ [] → opened (next_of s) number o s ≡ Some t → Takes s l t
opens s number o e l t k fits within one spelled gives =
    let found : (q : State) × (closed s ≡ Some q) × (opened_in (next_of s) number o q ≡ Some t) = then_some (closed s) (opened_in (next_of s) number o) t gives in
    let q : State = found.0 in
    let closes : Closes s q = closed_told s q k found.1 in
    let may : (is_next q number ≡ true) × (with_open (next_of s) o q ≡ t) = when_some (is_next q number) (with_open (next_of s) o q) t found.2 in
    let next : NoTail q × (number ≡ length q.entries + 1) = next_parts q number may.0 in
    let taken : Takes q l (with_open (next_of q) o q) =
    opened_told q o e l closes.0 closes.2 next.0 fits (within q next.0) one (ap (λ i. current_lines i o) (sym next.1) ∙ spelled) in
    let same : with_open (next_of q) o q ≡ t = ap (λ i. with_open (capped (length i + 1)) o q) closes.1 ∙ may.1 in
    let moved : Takes q l t = subst (λ t. Takes q l t) same taken in
    (moved.0, moved.1 ∙ ap (λ i. i ++ l ∷ []) closes.1)

-- an entry of one line is taken behind the lines of the entry before
adds : (s : State) (number : ℕ) (e : Entry) (l : Line) (t : State) → Sound s → EntryFits e
    → entry_lines number e ≡ l ∷ [] → added (next_of s) number e s ≡ Some t → Takes s l t
adds s number e l t k fits spelled gives =
    let found : (q : State) × (closed s ≡ Some q) × (added_in (next_of s) number e q ≡ Some t) = then_some (closed s) (added_in (next_of s) number e) t gives in
    let q : State = found.0 in
    let closes : Closes s q = closed_told s q k found.1 in
    let may : (is_next q number ≡ true) × (with_line (next_of s) e q ≡ t) = when_some (is_next q number) (with_line (next_of s) e q) t found.2 in
    let next : NoTail q × (number ≡ length q.entries + 1) = next_parts q number may.0 in
    let taken : Takes q l (with_line (next_of q) e q) = added_told q e l closes.0 closes.2 next.0 fits (ap (λ i. entry_lines i e) (sym next.1) ∙ spelled) in
    let same : with_line (next_of q) e q ≡ t = ap (λ i. with_line (capped (length i + 1)) e q) closes.1 ∙ may.1 in
    let moved : Takes q l t = subst (λ t. Takes q l t) same taken in
    (moved.0, moved.1 ∙ ap (λ i. i ++ l ∷ []) closes.1)

-- A line of the current entry is taken.
grows : (s : State) (o u : Current) (e f : Entry) (l : Line) → s.current ≡ o → Sound s → NoTail s → CurrentFits u → ((q : State) → NoTail q → OpenIn q u)
    → current_entries o ≡ e ∷ [] → current_entries u ≡ f ∷ [] → ((i : ℕ) → current_lines i u ≡ current_lines i o ++ l ∷ []) → Takes s l (record s { current = u })
grows s o u e f l is k n fits within was one spelled = (
  record {
    fresh = λ b. absurd (not_both s.begun n.0 b);
    open_in = within (record s { current = u }) n;
    firsts = k.firsts ∙ ap (λ c. first_lines s.skips (s.entries ++ c)) (ap current_entries is ∙ was) ∙ firsts_same (length s.skips + 2) s.entries e f ∙ ap (λ c. first_lines s.skips (s.entries ++ c)) (sym one);
    each = k.each;
    current_fits = fits;
    skips_rise = k.skips_rise;
    routes_rise = k.routes_rise;
    vifs_rise = k.vifs_rise;
  },
  ap (λ d. joined (begin_line s.begun) (map line.Skip s.skips) (entries_lines 1 s.entries) d (map line.Route s.routes) (map line.Vif s.vifs) (map line.Fate s.fates) (end_line s.ended)) (spelled (length s.entries + 1))
      ∙ push_d (begin_line s.begun) (map line.Skip s.skips) (entries_lines 1 s.entries) (current_lines (length s.entries + 1) o) (map line.Route s.routes) (map line.Vif s.vifs) (map line.Fate s.fates) (end_line s.ended) (l ∷ [])
      (ap (map line.Route) n.1) (ap (map line.Vif) n.2) (ap (map line.Fate) n.3) (ap end_line n.4)
      ∙ ap (λ c. joined (begin_line s.begun) (map line.Skip s.skips) (entries_lines 1 s.entries) (current_lines (length s.entries + 1) c) (map line.Route s.routes) (map line.Vif s.vifs) (map line.Fate s.fates) (end_line s.ended) ++ l ∷ []) (sym is),
)

five : (n : ℕ) → nat_lt n 4 ≡ true → n + 1 ≤ 4
five n e = grind arith

due : (n : ℕ) → nat_lt 0 n ≡ true → 0 < n
due n e = grind arith

releases : (s : State) (p : ReleasedId) (o : Current) (t : State) → s.current ≡ o → Sound s → released s p o ≡ Some t → Takes s (line.Released p) t
releases s p current.Nothing t is k gives = absurd (cc gives)
releases s p (current.Settle lane records left) t is k gives = absurd (cc gives)
releases s p (current.Call d r reply ps) t is k gives =
    let u : Current = current.Call d r reply (ps ++ p ∷ []) in
    let may : (nat_lt (length ps) 4 ≡ true) × (record s { current = u } ≡ t) = when_some (nat_lt (length ps) 4) (record s { current = u }) t gives in
    let few : length ps + 1 ≤ 4 = five (length ps) may.0 in
    let more : length (ps ++ p ∷ []) ≡ length ps + 1 = length-append ps (p ∷ []) in
    subst (λ t. Takes s (line.Released p) t) may.1
    (grows s (current.Call d r reply ps) u (entry.Call d r reply ps) (entry.Call d r reply (ps ++ p ∷ [])) (line.Released p) is k (subst (OpenIn s) is k.open_in)
    (omega arith) (λ q n. n) refl refl (λ i. ap (λ l. line.Call i d r reply ∷ l) (map-append line.Released ps (p ∷ []))))

records_told : (s : State) (f : FastRecord) (o : Current) (t : State) → s.current ≡ o → Sound s → recorded s f o ≡ Some t → Takes s (line.Record f) t
records_told s f current.Nothing t is k gives = absurd (cc gives)
records_told s f (current.Call d r reply ps) t is k gives = absurd (cc gives)
records_told s f (current.Settle lane records left) t is k gives =
    let u : Current = current.Settle lane (records ++ f ∷ []) (left - 1) in
    let may : (nat_lt 0 left ≡ true) × (record s { current = u } ≡ t) = when_some (nat_lt 0 left) (record s { current = u }) t gives in
    let some : 0 < left = due left may.0 in
    let more : length (records ++ f ∷ []) ≡ length records + 1 = length-append records (f ∷ []) in
    let same : length (records ++ f ∷ []) + (left - 1) ≡ length records + left = omega arith in
    subst (λ t. Takes s (line.Record f) t) may.1
    (grows s (current.Settle lane records left) u (entry.Settle lane records) (entry.Settle lane (records ++ f ∷ [])) (line.Record f) is k (subst (OpenIn s) is k.open_in)
    tt (λ q n. n) refl refl (λ i. ap (λ c. line.Settle i lane c ∷ map line.Record (records ++ f ∷ [])) same ∙ ap (λ l. line.Settle i lane (length records + left) ∷ l) (map-append line.Record records (f ∷ []))))

routes_told : (q : State) (r : RouteLine) (t : State) → Sound q → q.current ≡ current.Nothing → with_route r q ≡ Some t → Takes q (line.Route r) t
routes_told q r t k none gives =
    let u : State = record q { routes = q.routes ++ r ∷ [] } in
    let may : ((is_inside q && is_empty q.vifs && is_empty q.fates && route_follows q.routes r) ≡ true) × (u ≡ t) = when_some (is_inside q && is_empty q.vifs && is_empty q.fates && route_follows q.routes r) u t gives in
    let last : ((is_inside q && is_empty q.vifs && is_empty q.fates) ≡ true) × (route_follows q.routes r ≡ true) = and_parts (is_inside q && is_empty q.vifs && is_empty q.fates) (route_follows q.routes r) may.0 in
    let more : ((is_inside q && is_empty q.vifs) ≡ true) × (is_empty q.fates ≡ true) = and_parts (is_inside q && is_empty q.vifs) (is_empty q.fates) last.0 in
    let first : (is_inside q ≡ true) × (is_empty q.vifs ≡ true) = and_parts (is_inside q) (is_empty q.vifs) more.0 in
    let n : (q.begun ≡ true) × (q.ended ≡ false) = inside_parts q first.0 in
    subst (λ t. Takes q (line.Route r) t) may.1 (
      record {
        fresh = λ b. absurd (not_both q.begun n.0 b);
        open_in = none_open (u) q.current none;
        firsts = k.firsts;
        each = k.each;
        current_fits = k.current_fits;
        skips_rise = k.skips_rise;
        routes_rise = rising_push route_follows [] q.routes r k.routes_rise last.1;
        vifs_rise = k.vifs_rise;
      },
      ap (λ l. joined (begin_line q.begun) (map line.Skip q.skips) (entries_lines 1 q.entries) (current_lines (length q.entries + 1) q.current) l (map line.Vif q.vifs) (map line.Fate q.fates) (end_line q.ended)) (map-append line.Route q.routes (r ∷ []))
          ∙ push_e (begin_line q.begun) (map line.Skip q.skips) (entries_lines 1 q.entries) (current_lines (length q.entries + 1) q.current) (map line.Route q.routes) (map line.Vif q.vifs) (map line.Fate q.fates) (end_line q.ended) (line.Route r ∷ []) (ap (map line.Vif) (empty_nil q.vifs first.1)) (ap (map line.Fate) (empty_nil q.fates more.1)) (ap end_line n.1),
    )

vifs_told : (q : State) (v : VifLine) (t : State) → Sound q → q.current ≡ current.Nothing → with_vif v q ≡ Some t → Takes q (line.Vif v) t
vifs_told q v t k none gives =
    let u : State = record q { vifs = q.vifs ++ v ∷ [] } in
    let may : ((is_inside q && is_empty q.fates && vif_follows q.vifs v) ≡ true) × (u ≡ t) = when_some (is_inside q && is_empty q.fates && vif_follows q.vifs v) u t gives in
    let last : ((is_inside q && is_empty q.fates) ≡ true) × (vif_follows q.vifs v ≡ true) = and_parts (is_inside q && is_empty q.fates) (vif_follows q.vifs v) may.0 in
    let first : (is_inside q ≡ true) × (is_empty q.fates ≡ true) = and_parts (is_inside q) (is_empty q.fates) last.0 in
    let n : (q.begun ≡ true) × (q.ended ≡ false) = inside_parts q first.0 in
    subst (λ t. Takes q (line.Vif v) t) may.1 (
      record {
        fresh = λ b. absurd (not_both q.begun n.0 b);
        open_in = none_open (u) q.current none;
        firsts = k.firsts;
        each = k.each;
        current_fits = k.current_fits;
        skips_rise = k.skips_rise;
        routes_rise = k.routes_rise;
        vifs_rise = rising_push vif_follows [] q.vifs v k.vifs_rise last.1;
      },
      ap (λ l. joined (begin_line q.begun) (map line.Skip q.skips) (entries_lines 1 q.entries) (current_lines (length q.entries + 1) q.current) (map line.Route q.routes) l (map line.Fate q.fates) (end_line q.ended)) (map-append line.Vif q.vifs (v ∷ []))
          ∙ push_f (begin_line q.begun) (map line.Skip q.skips) (entries_lines 1 q.entries) (current_lines (length q.entries + 1) q.current) (map line.Route q.routes) (map line.Vif q.vifs) (map line.Fate q.fates) (end_line q.ended) (line.Vif v ∷ []) (ap (map line.Fate) (empty_nil q.fates first.1)) (ap end_line n.1),
    )

fates_told : (q : State) (f : FateLine) (t : State) → Sound q → q.current ≡ current.Nothing → with_fate f q ≡ Some t → Takes q (line.Fate f) t
fates_told q f t k none gives =
    let u : State = record q { fates = q.fates ++ f ∷ [] } in
    let may : (is_inside q ≡ true) × (u ≡ t) = when_some (is_inside q) u t gives in
    let n : (q.begun ≡ true) × (q.ended ≡ false) = inside_parts q may.0 in
    subst (λ t. Takes q (line.Fate f) t) may.1 (
      record {
        fresh = λ b. absurd (not_both q.begun n.0 b);
        open_in = none_open (u) q.current none;
        firsts = k.firsts;
        each = k.each;
        current_fits = k.current_fits;
        skips_rise = k.skips_rise;
        routes_rise = k.routes_rise;
        vifs_rise = k.vifs_rise;
      },
      ap (λ l. joined (begin_line q.begun) (map line.Skip q.skips) (entries_lines 1 q.entries) (current_lines (length q.entries + 1) q.current) (map line.Route q.routes) (map line.Vif q.vifs) l (end_line q.ended)) (map-append line.Fate q.fates (f ∷ []))
          ∙ push_g (begin_line q.begun) (map line.Skip q.skips) (entries_lines 1 q.entries) (current_lines (length q.entries + 1) q.current) (map line.Route q.routes) (map line.Vif q.vifs) (map line.Fate q.fates) (end_line q.ended) (line.Fate f ∷ []) (ap end_line n.1),
    )

end_told : (q : State) (t : State) → Sound q → q.current ≡ current.Nothing → with_end q ≡ Some t → Takes q line.End t
end_told q t k none gives =
    let u : State = record q { ended = true } in
    let may : (is_inside q ≡ true) × (u ≡ t) = when_some (is_inside q) u t gives in
    let n : (q.begun ≡ true) × (q.ended ≡ false) = inside_parts q may.0 in
    subst (λ t. Takes q line.End t) may.1 (
      record {
        fresh = λ b. absurd (not_both q.begun n.0 b);
        open_in = none_open (u) q.current none;
        firsts = k.firsts;
        each = k.each;
        current_fits = k.current_fits;
        skips_rise = k.skips_rise;
        routes_rise = k.routes_rise;
        vifs_rise = k.vifs_rise;
      },
      push_h (begin_line q.begun) (map line.Skip q.skips) (entries_lines 1 q.entries) (current_lines (length q.entries + 1) q.current) (map line.Route q.routes) (map line.Vif q.vifs) (map line.Fate q.fates) (line.End ∷ [])
          ∙ ap (λ e. joined (begin_line q.begun) (map line.Skip q.skips) (entries_lines 1 q.entries) (current_lines (length q.entries + 1) q.current) (map line.Route q.routes) (map line.Vif q.vifs) (map line.Fate q.fates) e ++ line.End ∷ []) (ap end_line (sym n.1)),
    )

-- Where no entry has begun, none stands in the state.
no_firsts : (m : ℕ) (h : List Entry) → first_lines_from m h ≡ [] → h ≡ []
no_firsts m [] e = refl
no_firsts m (x ∷ h) e = absurd (cc e)

append_none : {A : Type 0} (a b : List A) → a ++ b ≡ [] → (a ≡ []) × (b ≡ [])
append_none [] b e = (refl, e)
append_none (x ∷ a) b e = absurd (cc e)

none_current : (o : Current) → current_entries o ≡ [] → o ≡ current.Nothing
none_current current.Nothing e = refl
none_current (current.Call d r reply released) e = absurd (cc e)
none_current (current.Settle lane records left) e = absurd (cc e)

skips_told : (q : State) (s : Skip) (t : State) → Sound q → skipped q s ≡ Some t → Takes q (line.Skip s) t
skips_told q s t k gives =
    let u : State = record q { skips = q.skips ++ s ∷ [] } in
    let may : ((is_inside q && is_empty q.lines && has_no_tail q && skip_follows q.skips s) ≡ true) × (u ≡ t) = when_some (is_inside q && is_empty q.lines && has_no_tail q && skip_follows q.skips s) u t gives in
    let last : ((is_inside q && is_empty q.lines && has_no_tail q) ≡ true) × (skip_follows q.skips s ≡ true) = and_parts (is_inside q && is_empty q.lines && has_no_tail q) (skip_follows q.skips s) may.0 in
    let more : ((is_inside q && is_empty q.lines) ≡ true) × (has_no_tail q ≡ true) = and_parts (is_inside q && is_empty q.lines) (has_no_tail q) last.0 in
    let first : (is_inside q ≡ true) × (is_empty q.lines ≡ true) = and_parts (is_inside q) (is_empty q.lines) more.0 in
    let n : (q.begun ≡ true) × (q.ended ≡ false) = inside_parts q first.0 in
    let tail : (q.routes ≡ []) × (q.vifs ≡ []) × (q.fates ≡ []) = tail_parts q more.1 in
    let no_lines : q.lines ≡ [] = empty_nil q.lines first.1 in
    let nothing : (q.entries ≡ []) × (current_entries q.current ≡ []) =
    append_none q.entries (current_entries q.current) (no_firsts (length q.skips + 2) (q.entries ++ current_entries q.current) (sym k.firsts ∙ no_lines)) in
    let none : q.current ≡ current.Nothing = none_current q.current nothing.1 in
    subst (λ t. Takes q (line.Skip s) t) may.1 (
      record {
        fresh = λ b. absurd (not_both q.begun n.0 b);
        open_in = none_open u q.current none;
        firsts = no_lines ∙ ap (first_lines (q.skips ++ s ∷ [])) (sym (ap (λ h. h ++ current_entries q.current) nothing.0 ∙ nothing.1));
        each = k.each;
        current_fits = k.current_fits;
        skips_rise = rising_push skip_follows [] q.skips s k.skips_rise last.1;
        routes_rise = k.routes_rise;
        vifs_rise = k.vifs_rise;
      },
      ap (λ l. joined (begin_line q.begun) l (entries_lines 1 q.entries) (current_lines (length q.entries + 1) q.current) (map line.Route q.routes) (map line.Vif q.vifs) (map line.Fate q.fates) (end_line q.ended)) (map-append line.Skip q.skips (s ∷ []))
          ∙ push_b (begin_line q.begun) (map line.Skip q.skips) (entries_lines 1 q.entries) (current_lines (length q.entries + 1) q.current) (map line.Route q.routes) (map line.Vif q.vifs) (map line.Fate q.fates) (end_line q.ended) (line.Skip s ∷ [])
          (ap (entries_lines 1) nothing.0) (ap (current_lines (length q.entries + 1)) none) (ap (map line.Route) tail.0) (ap (map line.Vif) tail.1) (ap (map line.Fate) tail.2) (ap end_line n.1),
    )

begins : (s : State) (t : State) → Sound s → when (not s.begun) (Some (record s { begun = true })) ≡ Some t → Takes s line.History t
begins s t k gives =
    let may : (not s.begun ≡ true) × (record s { begun = true } ≡ t) = when_some (not s.begun) (record s { begun = true }) t gives in
    let is : first_state ≡ s = sym (k.fresh (not_true s.begun may.0)) in
    subst (λ t. Takes s line.History t) may.1
    (subst (λ s. Takes s line.History (record s { begun = true })) is
    (record { fresh = λ b. absurd (cc b); open_in = tt; firsts = refl; each = tt; current_fits = tt; skips_rise = tt; routes_rise = tt; vifs_rise = tt }, refl))

-- A line of the tail is taken behind the lines of the last entry.
ends : (s : State) (l : Line) (f : State → Option State) (t : State) → Sound s → ((q : State) → Sound q → q.current ≡ current.Nothing → f q ≡ Some t → Takes q l t)
    → option_and_then f (closed s) ≡ Some t → Takes s l t
ends s l f t k takes gives =
    let found : (q : State) × (closed s ≡ Some q) × (f q ≡ Some t) = then_some (closed s) f t gives in
    let closes : Closes s found.0 = closed_told s found.0 k found.1 in
    let taken : Takes found.0 l t = takes found.0 closes.0 closes.2 found.2 in
    (taken.0, taken.1 ∙ ap (λ i. i ++ l ∷ []) closes.1)

-- a step takes just the line that it is given
pub step_told : (s : State) (l : Line) (t : State) → Sound s → step (next_of s) s l ≡ Some t → Takes s l t
step_told s line.History t k gives = begins s t k gives
step_told s (line.Skip x) t k gives = skips_told s x t k gives
step_told s (line.Call number d r reply) t k gives =
    opens s number (current.Call d r reply []) (entry.Call d r reply []) (line.Call number d r reply) t k (lit≤ tt) (λ q n. n) refl refl gives
step_told s (line.Released p) t k gives = releases s p s.current t refl k gives
step_told s (line.Slow number lane index look o) t k gives =
    adds s number (entry.Slow lane index look no_flow o) (line.Slow number lane index look o) t k refl refl gives
step_told s (line.Settle number lane count) t k gives =
    opens s number (current.Settle lane [] count) (entry.Settle lane []) (line.Settle number lane count) t k tt (λ q n. n) refl (rw zero-add refl) gives
step_told s (line.Record f) t k gives = records_told s f s.current t refl k gives
step_told s (line.Tick number d ms) t k gives = adds s number (entry.Tick d ms) (line.Tick number d ms) t k tt refl gives
step_told s (line.Recv number d message) t k gives = adds s number (entry.Recv d message) (line.Recv number d message) t k tt refl gives
step_told s (line.Phase number) t k gives = adds s number entry.EndPhase (line.Phase number) t k tt refl gives
step_told s (line.Route r) t k gives = ends s (line.Route r) (with_route r) t k (λ q. routes_told q r t) gives
step_told s (line.Vif v) t k gives = ends s (line.Vif v) (with_vif v) t k (λ q. vifs_told q v t) gives
step_told s (line.Fate f) t k gives = ends s (line.Fate f) (with_fate f) t k (λ q. fates_told q f t) gives
step_told s line.End t k gives = ends s line.End with_end t k (λ q. end_told q t) gives
