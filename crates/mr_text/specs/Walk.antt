-- A text is read line by line: which lines may come next, and the first that is none of them.
use Rattle.std.specs.Prelude.{ℕ, ◌+◌, ◌-◌, ◌==◌, ◌&&◌, Bool, true, false, not, min, nat_lt, if◌then◌else◌, Option, Some, None, option_and_then, Result, Ok, Err, List, [], ◌∷◌, ◌++◌, length}
use Rattle.mr_lines.specs.declared.line.Line.{Line}
use Rattle.mr_lines.specs.declared.line.Line.TheVariants as line
use Rattle.mr_lines.specs.declared.tail.RouteLine.{RouteLine}
use Rattle.mr_lines.specs.declared.tail.VifLine.{VifLine}
use Rattle.mr_lines.specs.declared.skip.Skip.{Skip}
use Rattle.mr_lines.specs.Fit.{no_flow}
use Rattle.mr_lines.specs.Reading.{line_of}
use Rattle.mr_model.specs.declared.ending.FateLine.{FateLine}
use Rattle.mr_model.specs.declared.entry.Entry.{Entry}
use Rattle.mr_model.specs.declared.entry.Entry.TheVariants as entry
use Rattle.mr_model.specs.declared.entry.FastRecord.{FastRecord}
use Rattle.mr_model.specs.declared.entry.ReleasedId.{ReleasedId}
use Rattle.mr_text.specs.declared.history_text.HistoryText.{HistoryText}
use Rattle.mr_text.specs.declared.reading_state.Current.{Current}
use Rattle.mr_text.specs.declared.reading_state.Current.TheVariants as current
use Rattle.mr_text.specs.declared.reading_state.State.{State}
use Rattle.mr_text.specs.Orders.{skip_follows, route_follows, vif_follows}
use Rattle.mr_words.specs.Binds.{◌>>=◌}
use Rattle.mr_words.specs.Parts.{parts_of}

-- something, where a test holds
abbrev pub when : {A : Type 0} → Bool → Option A → Option A
when test further = if test then further else None

abbrev pub is_empty : {A : Type 0} → List A → Bool
is_empty xs = length xs == 0

-- before the first line
abbrev pub first_state : State
first_state = record { begun = false; skips = []; entries = []; lines = []; current = current.Nothing; routes = []; vifs = []; fates = []; ended = false }

-- one more entry whose lines have all come
abbrev pub with_entry : State → Entry → State
with_entry s e = record s { entries = s.entries ++ e ∷ []; current = current.Nothing }

-- what `closed` gives, by the current entry
abbrev pub closed_current : State → Current → Option State
closed_current s current.Nothing = Some s
closed_current s (current.Call d r reply released) = Some (with_entry s (entry.Call d r reply released))
closed_current s (current.Settle lane records left) = when (left == 0) (Some (with_entry s (entry.Settle lane records)))

-- The entry whose lines were read stands at the end of the others; none where lines of it are still due.
abbrev pub closed : State → Option State
closed s = closed_current s s.current

-- no line of the tail has come
abbrev pub has_no_tail : State → Bool
has_no_tail s = is_empty s.routes && is_empty s.vifs && is_empty s.fates

-- between the first line and the last
abbrev pub is_inside : State → Bool
is_inside s = s.begun && not s.ended

-- Entry `number` may come: it is the next one, and no line of the tail has come.
abbrev pub is_next : State → ℕ → Bool
is_next s number = is_inside s && has_no_tail s && number == length s.entries + 1

-- the state with the first line n of an entry
abbrev pub with_open : ℕ → Current → State → State
with_open n o s = record s { lines = s.lines ++ n ∷ []; current = o }

abbrev pub opened_in : ℕ → ℕ → Current → State → Option State
opened_in n number o s = when (is_next s number) (Some (with_open n o s))

-- an entry of several lines begins
abbrev pub opened : ℕ → ℕ → Current → State → Option State
opened n number o s = option_and_then (opened_in n number o) (closed s)

-- the state with an entry of the one line n
abbrev pub with_line : ℕ → Entry → State → State
with_line n e s = record s { lines = s.lines ++ n ∷ []; entries = s.entries ++ e ∷ [] }

abbrev pub added_in : ℕ → ℕ → Entry → State → Option State
added_in n number e s = when (is_next s number) (Some (with_line n e s))

-- an entry of one line
abbrev pub added : ℕ → ℕ → Entry → State → Option State
added n number e s = option_and_then (added_in n number e) (closed s)

-- a released packet, behind a call; at most four
abbrev pub released : State → ReleasedId → Current → Option State
released s p (current.Call d r reply ps) = when (nat_lt (length ps) 4) (Some (record s { current = current.Call d r reply (ps ++ p ∷ []) }))
released s p _ = None

-- a record, behind a settle, as long as one is due
abbrev pub recorded : State → FastRecord → Current → Option State
recorded s f (current.Settle lane records left) = when (nat_lt 0 left) (Some (record s { current = current.Settle lane (records ++ f ∷ []) (left - 1) }))
recorded s f _ = None

-- `history 1`, before any other line
abbrev pub begun : State → Option State
begun s = when (not s.begun) (Some (record s { begun = true }))

-- a skip, before the entries, behind those that it follows
abbrev pub skipped : State → Skip → Option State
skipped s k =
    when (is_inside s && is_empty s.lines && has_no_tail s && skip_follows s.skips k) (Some (record s { skips = s.skips ++ k ∷ [] }))

-- a live entry, before the live vifs and the fates
abbrev pub with_route : RouteLine → State → Option State
with_route r s = when (is_inside s && is_empty s.vifs && is_empty s.fates && route_follows s.routes r) (Some (record s { routes = s.routes ++ r ∷ [] }))

-- a live vif, before the fates
abbrev pub with_vif : VifLine → State → Option State
with_vif v s = when (is_inside s && is_empty s.fates && vif_follows s.vifs v) (Some (record s { vifs = s.vifs ++ v ∷ [] }))

-- the fate of a packet that waited
abbrev pub with_fate : FateLine → State → Option State
with_fate f s = when (is_inside s) (Some (record s { fates = s.fates ++ f ∷ [] }))

-- the last line
abbrev pub with_end : State → Option State
with_end s = when (is_inside s) (Some (record s { ended = true }))

-- What line n leaves of the state; none where it may not come.
abbrev pub step : ℕ → State → Line → Option State
step n s line.History = begun s
step n s (line.Skip k) = skipped s k
step n s (line.Call number d r reply) = opened n number (current.Call d r reply []) s
step n s (line.Released p) = released s p s.current
step n s (line.Slow number lane index look o) = added n number (entry.Slow lane index look no_flow o) s
step n s (line.Settle number lane count) = opened n number (current.Settle lane [] count) s
step n s (line.Record f) = recorded s f s.current
step n s (line.Tick number d ms) = added n number (entry.Tick d ms) s
step n s (line.Recv number d message) = added n number (entry.Recv d message) s
step n s (line.Phase number) = added n number entry.EndPhase s
step n s (line.Route r) = option_and_then (with_route r) (closed s)
step n s (line.Vif v) = option_and_then (with_vif v) (closed s)
step n s (line.Fate f) = option_and_then (with_fate f) (closed s)
step n s line.End = option_and_then with_end (closed s)

-- what the bytes of line n leave of the state
abbrev pub line_step : ℕ → State → List ℕ → Option State
line_step n s bytes = option_and_then (step n s) (line_of (parts_of 32 bytes))

-- the number of the next line; it stops at the greatest of 32 bits
abbrev pub next_line : ℕ → ℕ
next_line n = min (n + 1) 4294967295

-- Behind the last line feed nothing stands, and `end` was the last line.
abbrev pub last_line : ℕ → State → List ℕ → Result State ℕ
last_line n s bytes = if s.ended && is_empty bytes then Ok s else Err n

-- the state behind line n, or its number where it may not come
abbrev pub line_gives : ℕ → Option State → Result State ℕ
line_gives n None = Err n
line_gives n (Some s) = Ok s

-- The state behind lines of which the first has number n, or the number of the first that may not come. Behind the last line
-- feed there is one piece more.
abbrev pub walk : ℕ → State → List (List ℕ) → Result State ℕ
walk n s [] = Err n
walk n s (p ∷ []) = last_line n s p
walk n s (p ∷ q ∷ ps) = line_gives n (line_step n s p) >>= λ t. walk (next_line n) t (q ∷ ps)

-- what was read, without what was needed to read it
abbrev pub parts : State → HistoryText
parts s = record {
  skips = s.skips;
  entries = s.entries;
  tail = record { routes = s.routes; vifs = s.vifs; fates = s.fates };
  lines = s.lines;
}

abbrev pub parts_result : Result State ℕ → Result HistoryText ℕ
parts_result (Ok s) = Ok (parts s)
parts_result (Err n) = Err n

-- the parts of a text, or its first line outside the grammar
abbrev pub walked : List ℕ → Result HistoryText ℕ
walked bytes = parts_result (walk 1 first_state (parts_of 10 bytes))
