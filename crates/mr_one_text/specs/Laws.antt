-- A text tells a history: it says no flow, but in a history of a scenario each flow is that of the scenario's packet.
use Rattle.std.specs.Prelude.{◌≡◌, ◌≤◌, List, length}
use Rattle.mr_base.specs.Outside.{Files}
use Rattle.mr_lines.specs.Fit.{Fits64}
use Rattle.mr_lines.specs.declared.skip.Skip.{Skip}
use Rattle.mr_lines.specs.declared.tail.Tail.{Tail}
use Rattle.mr_base.specs.declared.limits.TheConstants.{MOST_ITEMS}
use Rattle.mr_load.specs.Items.{all_items, contents_of}
use Rattle.mr_load.specs.Loading.{items_in, skips_of, run_limits}
use Rattle.mr_load.specs.Made.{Made}
use Rattle.mr_model.specs.declared.entry.Entry.{Entry}
use Rattle.mr_model.specs.Legal.{IsLegal}
use Rattle.mr_model.specs.declared.limits.Limits.{Limits}
use Rattle.mr_scenario.specs.declared.scenario.Scenario.{Scenario}
use Rattle.mr_scenario.specs.Fits.{Fits}
use Rattle.mr_text.specs.Text.{text}
use Rattle.mr_tail.specs.Text.{history_text}
use Rattle.mr_one_text.specs.Bare.{bare}
use Rattle.mr_one_text.specs.Room.{room}
use Rattle.mr_one_text.specs.Turns.{turns, TurnsFit}

-- The text of a history is that of the history without its flows.
abbrev pub SaysNoFlow : Type 0
SaysNoFlow = (skips : List Skip) (h : List Entry) (t : Tail) → text skips (bare h) t ≡ text skips h t

-- Two histories of one scenario that are the same but for flows are the same.
abbrev pub FlowsAreSent : Type 0
FlowsAreSent = (files : Files) (s : Scenario) (h k : List Entry) → Made files s h → Made files s k → bare h ≡ bare k → h ≡ k

-- Two legal histories of one scenario with the same turns are the same.
abbrev pub TurnsTell : Type 0
TurnsTell = (files : Files) (s : Scenario) (h k : List Entry) → Made files s h → Made files s k
    → IsLegal (run_limits files s) h → IsLegal (run_limits files s) k → turns h ≡ turns k → h ≡ k

-- Histories with the same text have the same turns, whatever stands behind the entries. (A number beyond 64 decimal digits would
-- stand in the text by its last 64 alone.)
abbrev pub TextTells : Type 0
TextTells = (skips : List Skip) (h k : List Entry) (t u : Tail) → TurnsFit h → TurnsFit k → text skips h t ≡ text skips k u → turns h ≡ turns k

-- A legal history has no more entries than its limits leave room for.
abbrev pub LegalHasRoom : Type 0
LegalHasRoom = (limits : Limits) (h : List Entry) → IsLegal limits h → length h ≤ room limits

-- A scenario that was loaded with these files: its lines give no more items than a scenario may have.
pub record WasLoaded (files : Files) (s : Scenario) : Type 0 where
  pub fits : Fits s
  pub items : all_items (contents_of files) (items_in s.phases) ≤ MOST_ITEMS

-- A scenario that was loaded leaves room for so few entries that 64 bits number them.
abbrev pub RoomFits : Type 0
RoomFits = (files : Files) (s : Scenario) → WasLoaded files s → Fits64 (room (run_limits files s))

-- Two legal histories of one scenario that was loaded are the same, or have different texts, whatever stands behind their
-- entries. Nothing is asked of their entries alone: they need not fit the grammar.
abbrev pub OneHistory : Type 0
OneHistory = (files : Files) (s : Scenario) (h k : List Entry) (t u : Tail) → WasLoaded files s → Made files s h → Made files s k
    → IsLegal (run_limits files s) h → IsLegal (run_limits files s) k → text (skips_of files s) h t ≡ text (skips_of files s) k u → h ≡ k

-- Two legal histories of one scenario that was loaded are the same, or are written as different texts.
abbrev pub OneWritten : Type 0
OneWritten = (files : Files) (s : Scenario) (h k : List Entry) → WasLoaded files s → Made files s h → Made files s k
    → IsLegal (run_limits files s) h → IsLegal (run_limits files s) k → history_text files s h ≡ history_text files s k → h ≡ k
