-- Which parts have a text, what a state has taken of a text, and where entries begin.
use Rattle.std.specs.Prelude.{◌≡◌, ℕ, ◌+◌, ◌≤◌, Bool, true, false, min, List, [], ◌∷◌, ◌++◌, map, flat_map, take, length}
use Rattle.std.specs.List.{AllByRecursion}
use Rattle.mr_lines.specs.Fit.{LineFits, no_flow}
use Rattle.mr_lines.specs.declared.line.Line.{Line}
use Rattle.mr_lines.specs.declared.line.Line.TheVariants as line
use Rattle.mr_lines.specs.declared.skip.Skip.{Skip}
use Rattle.mr_lines.specs.declared.tail.Tail.{Tail}
use Rattle.mr_model.specs.declared.entry.Entry.{Entry}
use Rattle.mr_model.specs.declared.entry.Entry.TheVariants as entry
use Rattle.mr_text.specs.declared.reading_state.Current.{Current}
use Rattle.mr_text.specs.declared.reading_state.Current.TheVariants as current
use Rattle.mr_text.specs.declared.reading_state.State.{State}
use Rattle.mr_text.specs.Orders.{skip_follows, route_follows, vif_follows}
use Rattle.mr_text.specs.Text.{entries_lines, text_lines}
use Rattle.mr_words.specs.Parts.{parts_of}

-- Each element may come behind those before it, the elements of `done` first: each one and its next rise.
abbrev pub Rising : {A : Type 0} → (List A → A → Bool) → List A → List A → Type 0
Rising follows done [] = Unit
Rising follows done (x ∷ xs) = (follows done x ≡ true) × Rising follows (done ++ x ∷ []) xs

-- What no line of an entry tells: a packet's flow is all zeros, and a call releases at most four packets.
abbrev pub EntryFits : Entry → Type 0
EntryFits (entry.Call d r reply released) = length released ≤ 4
EntryFits (entry.Slow lane index look flow o) = flow ≡ no_flow
EntryFits _ = Unit

-- The parts that have a text: each line spells what it says, and skips, route lines and vif lines rise.
pub record PartsFit (skips : List Skip) (entries : List Entry) (tail : Tail) : Type 0 where
  pub lines : AllByRecursion LineFits (text_lines skips entries tail)
  pub each : AllByRecursion EntryFits entries
  pub skips_rise : Rising skip_follows [] skips
  pub routes_rise : Rising route_follows [] tail.routes
  pub vifs_rise : Rising vif_follows [] tail.vifs

-- how many lines an entry has
abbrev pub line_count : Entry → ℕ
line_count (entry.Call d r reply released) = length released + 1
line_count (entry.Settle lane records) = length records + 1
line_count _ = 1

-- numbers of lines stop at the greatest of 32 bits
abbrev pub capped : ℕ → ℕ
capped n = min n 4294967295

-- the first lines of entries of which the first begins at line n
abbrev pub first_lines_from : ℕ → List Entry → List ℕ
first_lines_from n [] = []
first_lines_from n (e ∷ h) = capped n ∷ first_lines_from (n + line_count e) h

-- The first line of each entry. `history 1` and the skips stand before.
abbrev pub first_lines : List Skip → List Entry → List ℕ
first_lines skips h = first_lines_from (length skips + 2) h

-- the lines of the current entry, which has number n, that have come
abbrev pub current_lines : ℕ → Current → List Line
current_lines n current.Nothing = []
current_lines n (current.Call d r reply released) = line.Call n d r reply ∷ map line.Released released
current_lines n (current.Settle lane records left) = line.Settle n lane (length records + left) ∷ map line.Record records

-- the first line, if it has come, and the last
abbrev pub begin_line : Bool → List Line
begin_line true = line.History ∷ []
begin_line false = []

abbrev pub end_line : Bool → List Line
end_line true = line.End ∷ []
end_line false = []

-- the lines that a state has taken
abbrev pub told : State → List Line
told s =
    begin_line s.begun ++ map line.Skip s.skips ++ entries_lines 1 s.entries ++ current_lines (length s.entries + 1) s.current
    ++ map line.Route s.routes ++ map line.Vif s.vifs ++ map line.Fate s.fates ++ end_line s.ended

-- the first n lines of a text, each with its line feed
abbrev pub first_bytes : ℕ → List ℕ → List ℕ
first_bytes n bytes = flat_map (λ piece. piece ++ 10 ∷ []) (take n (parts_of 10 bytes))
