-- How far a daemon has come with its lines.
use Rattle.std.specs.Prelude.{◌≡◌, ℕ, ◌+◌, ◌<◌, List, get_or, length, flat_map}
use Rattle.mr_callers.specs.Deeds.{Asks}
use Rattle.mr_load.specs.Made.{of_daemon}
use Rattle.mr_model.specs.declared.entry.Entry.{Entry}
use Rattle.mr_model.specs.declared.limits.Limits.{Limits}
use Rattle.mr_model.specs.Past.{controls}
use Rattle.mr_authors.specs.Authors.{daemon_author, own}
use Rattle.mr_router.specs.Callers.{DaemonValue}
use Rattle.mr_scenario.specs.declared.scenario.Script.{Script}
use Rattle.mr_scenario.specs.declared.scenario.Script.TheVariants.{Ask, Raw, Table, Tick, Recv}
use Rattle.mr_scenario.specs.declared.scenario.ScriptLine.{ScriptLine}

-- no line of an smcroute daemon
abbrev pub IsPlain : Script → Type 0
IsPlain (Ask r) = Unit {0}
IsPlain (Raw opt bytes) = Unit {0}
IsPlain (Table n) = Unit {0}
IsPlain (Tick ms) = Unit {0}
IsPlain Recv = Unit {0}
IsPlain _ = ⊥

-- if it is daemon d's
abbrev pub IsPlainLine : ℕ → ScriptLine → Type 0
IsPlainLine d l = l.daemon.0 ≡ d → IsPlain l.script

-- the lines of daemon d
abbrev pub lines_by : ℕ → List ScriptLine → List Script
lines_by d ls = flat_map (of_daemon d) ls

-- the entries that a daemon made itself
abbrev pub made_by : DaemonValue → List Entry
made_by d = own (daemon_author d.daemon.0) d.seen

-- The daemon asks these lines: they are in the entries of its own, behind those that it had.
pub record HasAsked (what : List Script) (old new : DaemonValue) : Type 0 where
  pub daemon : new.daemon ≡ old.daemon
  pub asks : Asks old.daemon.0 what (made_by old) (made_by new)

-- The daemon does nothing, and has seen a history that has no room for one more call, tick or receive.
pub record FindsFull (limits : Limits) (old new : DaemonValue) : Type 0 where
  pub daemon : new.daemon ≡ old.daemon
  pub same : made_by new ≡ made_by old
  pub full : controls new.seen ≡ limits.controls

-- The daemon asks the first of these lines, and not all, since the history that it has seen then has no room for more.
pub record FindsEnd (limits : Limits) (what : List Script) (old new : DaemonValue) : Type 0 where
  pub done : List Script
  pub asked : HasAsked done old new
  pub fewer : length done < length what
  pub full : controls new.seen ≡ limits.controls

-- daemon n has seen this history
abbrev pub at_daemon : ℕ → List Entry → DaemonValue
at_daemon n h = record { daemon = record { 0 = n }; seen = h }

-- These are the daemons 1 to n, which have seen a history.
pub record AreDaemons (n : ℕ) (h : List Entry) (ds : List DaemonValue) : Type 0 where
  pub many : length ds ≡ n
  pub each : (i : ℕ) (d : DaemonValue) → i < n → get_or ds i d ≡ at_daemon (i + 1) h
