-- What a daemon did in its turn of a phase, and what all daemons did.
use Rattle.std.specs.Prelude.{◌≡◌, ◌≤◌, ◌<◌, ℕ, ◌+◌, Option, Some, None, Result, Ok, Err, IfSome, IsOk, List, get_or, length}
use Rattle.std.specs.List.{AllByRecursion}
use Rattle.mr_model.specs.declared.caller.CallError.{CallError}
use Rattle.mr_model.specs.declared.caller.CallError.TheVariants as call_error
use Rattle.mr_model.specs.declared.limits.Limits.{Limits}
use Rattle.mr_model.specs.Past.{controls}
use Rattle.mr_replay.specs.Daemons.{FindsEnd, HasAsked, IsPlainLine, lines_by, made_by}
use Rattle.mr_router.specs.Callers.{DaemonValue}
use Rattle.mr_router.specs.Deeds.{AllHeard, deeds}
use Rattle.mr_router.specs.Histories.{WentOn}
use Rattle.mr_scenario.specs.declared.scenario.ScriptLine.{ScriptLine}
use Rattle.smc_core.specs.Driving.{Line}
use Rattle.smc_core.specs.Machine.{Machine}
use Rattle.smc_daemon.specs.Lines.{lines_among}
use Rattle.smc_driver.specs.Playing.{BreaksOff, Plays}

-- a machine that waits for no reply
abbrev pub IsIdle : Machine → Type 0
IsIdle m = m.plan.left ≡ 0

-- the lines of a daemon without a machine are none for a machine
abbrev pub IsPlainFor : ℕ → Option Machine → List ScriptLine → Type 0
IsPlainFor d None ls = AllByRecursion (IsPlainLine d) ls
IsPlainFor d (Some m) ls = Unit {0}

-- why a daemon stopped within its lines, if it did
abbrev pub Stop : Type 0
Stop = Result (Unit {0}) CallError

-- The daemon has seen more of the history, and of each report that it got the packet's Slow.
pub record HasSeenOn (old new : DaemonValue) : Type 0 where
  pub went_on : WentOn old new
  pub knew : AllHeard old.seen (made_by old)
  pub knows : AllHeard new.seen (made_by new)

-- A machine played its lines over the daemon, and waits for no reply.
pub record HasPlayed (m : Machine) (lines : List Line) (old new : DaemonValue) (m' : Machine) : Type 0 where
  pub seen : HasSeenOn old new
  pub plays : Plays m lines (deeds old) (deeds new) m'
  pub idle : IsIdle m'

-- It stopped within the lines: where it wanted one control entry more, the history had no room.
pub record HasBrokenOff (limits : Limits) (e : CallError) (m : Machine) (lines : List Line) (old new : DaemonValue) : Type 0 where
  pub seen : HasSeenOn old new
  pub breaks : BreaksOff e m lines (deeds old) (deeds new)
  pub full : e ≡ call_error.ControlFull → limits.controls ≤ controls new.seen

-- a daemon without a machine asked its lines
abbrev pub AskTurn : Limits → List ScriptLine → ℕ → Stop → DaemonValue → DaemonValue → Type 0
AskTurn limits ls d (Ok u) old new = HasAsked (lines_by d ls) old new
AskTurn limits ls d (Err e) old new = FindsEnd limits (lines_by d ls) old new

-- a machine played them
abbrev pub PlayTurn : Limits → List ScriptLine → ℕ → Machine → Machine → Stop → DaemonValue → DaemonValue → Type 0
PlayTurn limits ls d m m' (Ok u) old new = HasPlayed m (lines_among d ls) old new m'
PlayTurn limits ls d m m' (Err e) old new = HasBrokenOff limits e m (lines_among d ls) old new

-- Daemon d, with its machine before and behind the turn, if it has one, and why it stopped.
abbrev pub Turn : Limits → List ScriptLine → ℕ → Option Machine → Option Machine → Stop → DaemonValue → DaemonValue → Type 0
Turn limits ls d None None stop old new = AskTurn limits ls d stop old new
Turn limits ls d (Some m) (Some m') stop old new = PlayTurn limits ls d m m' stop old new
Turn limits ls d _ _ stop old new = ⊥

-- daemons 1 to n, in order
abbrev pub AreNumbered : List DaemonValue → Type 0
AreNumbered ds = (i : ℕ) (d : DaemonValue) → i < length ds → (get_or ds i d).daemon.0 ≡ i + 1

-- Each daemon has its place for a machine, and each machine that there is waits for no reply.
pub record AreReady (ds : List DaemonValue) (ms : List (Option Machine)) : Type 0 where
  pub many : length ms ≡ length ds
  pub idle : (i : ℕ) → i < length ds → IfSome (get_or ms i None) IsIdle

-- no daemon without a machine has lines for one
abbrev pub LinesSuit : List ScriptLine → List (Option Machine) → Type 0
LinesSuit ls ms = (i : ℕ) → i < length ms → IsPlainFor (i + 1) (get_or ms i None) ls

-- the first that stopped
abbrev pub first_stop : Stop → Stop → Stop
first_stop (Ok u) b = b
first_stop (Err e) b = Err e

-- Each daemon had its turn, and stopped or not; where one of them stopped, why the first did is the answer for all.
pub record AllTurn (limits : Limits) (ls : List ScriptLine) (stop : Stop) (old : List DaemonValue) (ms : List (Option Machine)) (new : List DaemonValue) (ms' : List (Option Machine)) : Type 0 where
  pub many : length new ≡ length old
  pub many_machines : length ms' ≡ length ms
  pub stops : ℕ → Stop
  pub each :
      (i : ℕ) (d : DaemonValue) → i < length old →
      Turn limits ls (i + 1) (get_or ms i None) (get_or ms' i None) (stops i) (get_or old i d) (get_or new i d)
  pub all : IsOk stop → (i : ℕ) → i < length old → IsOk (stops i)
  pub one : (e : CallError) → stop ≡ Err e → (i : ℕ) × (i < length old) × (stops i ≡ Err e)
