-- What the lines of a scenario spell: `scenario 1` first, then head lines in any order, then phases.
use Rattle.std.specs.Prelude.{ℕ, ◌+◌, Bool, true, false, min, if◌then◌else◌, Option, Some, None, replicate, unwrap_or, Result, Ok, Err, List, [], ◌∷◌, length, map, take, bytes_eq, codes}
use Rattle.mr_base.specs.declared.device.Device.{Device}
use Rattle.mr_base.specs.declared.limits.TheConstants.{DEFAULT_CONTROLS, DEFAULT_ENTRIES, DEFAULT_UNRESOLVED}
use Rattle.mr_model.specs.declared.limits.Limits.{Limits}
use Rattle.mr_scenario.specs.Counts.{Word}
use Rattle.mr_scenario.specs.HeadLines.{header_line, limit_line, lanes_line, device_line, daemon_line, smc_line}
use Rattle.mr_scenario.specs.Kinds.{in_line, found}
use Rattle.mr_scenario.specs.PhaseLines.{lanes_of, phases_so_far, phase_line, lane_line, script_line}
use Rattle.mr_scenario.specs.declared.draft.Draft.{Draft}
use Rattle.mr_scenario.specs.declared.scenario.DaemonKind.{DaemonKind}
use Rattle.mr_scenario.specs.declared.scenario.DaemonKind.TheVariants.{Plain, Admin, Smc}
use Rattle.mr_scenario.specs.declared.scenario.Named.{Named}
use Rattle.mr_scenario.specs.declared.scenario.Phase.{Phase}
use Rattle.mr_scenario.specs.declared.scenario.Scenario.{Scenario}
use Rattle.mr_scenario.specs.declared.stop.Kind.TheVariants as kind
use Rattle.mr_scenario.specs.declared.stop.Mistake.{Mistake}
use Rattle.mr_scenario.specs.declared.stop.ScenarioError.{ScenarioError}
use Rattle.mr_scenario.specs.declared.stop.ScenarioError.TheVariants as error
use Rattle.mr_scenario.specs.declared.stop.TheConstants.{MOST_TEXT}
use Rattle.mr_words.specs.Binds.{◌>>=◌}
use Rattle.mr_words.specs.Words.{lines_of, without_return, words_of}

-- a line before the phases, or the first `phase`
abbrev pub head_line : ℕ → Draft → Word → List Word → Result Draft Mistake
head_line n d w ws =
    if bytes_eq w (codes "limit") then limit_line d ws
    else (if bytes_eq w (codes "lanes") then lanes_line d ws
    else (if bytes_eq w (codes "device") then device_line d ws
    else (if bytes_eq w (codes "daemon") then daemon_line d ws
    else (if bytes_eq w (codes "smc") then smc_line d ws
    else (if bytes_eq w (codes "phase") then phase_line n d ws
    else Err (in_line kind.Word))))))

-- a line of a phase, or a further `phase`
abbrev pub phase_part : ℕ → Draft → Phase → Word → List Word → Result Draft Mistake
phase_part n d p w ws =
    if bytes_eq w (codes "lane") then lane_line n d p ws
    else (if bytes_eq w (codes "daemon") then script_line n d p ws
    else (if bytes_eq w (codes "phase") then phase_line n d ws
    else Err (in_line kind.Word)))

abbrev pub line_in : ℕ → Draft → Option Phase → Word → List Word → Result Draft Mistake
line_in n d None w ws = head_line n d w ws
line_in n d (Some p) w ws = phase_part n d p w ws

-- What line n, of these words, makes of the draft, or what is wrong with it. A line without words is passed over.
abbrev pub line_of : ℕ → Draft → List Word → Result Draft Mistake
line_of n d [] = Ok d
line_of n d (w ∷ ws) = if d.begun then line_in n d d.current w ws else header_line d (w ∷ ws)

-- the number of the next line; it stops at the greatest of 32 bits
abbrev pub next_line : ℕ → ℕ
next_line n = min (n + 1) 4294967295

-- what is wrong with line n carries the first bytes of what is at fault
abbrev pub at_line : {A : Type 0} → ℕ → List ℕ → Result A Mistake → Result A ScenarioError
at_line n l (Ok x) = Ok x
at_line n l (Err m) = Err (error.Bad n m.kind (take MOST_TEXT (found m l)))

-- the draft after lines of which the first has number n, or the first bad line
abbrev pub draft_from : ℕ → Draft → List (List ℕ) → Result Draft ScenarioError
draft_from n d [] = Ok d
draft_from n d (l ∷ ls) =
    at_line n (without_return l) (line_of n d (words_of (without_return l)))
    >>= λ t. draft_from (next_line n) t ls

abbrev pub empty_draft : Draft
empty_draft = record { begun = false; entries = None; unresolved = None; controls = None; lanes = None; devices = []; daemons = []; sent = 0; phases = []; current = None }

abbrev pub is_admin_kind : DaemonKind → Bool
is_admin_kind Plain = false
is_admin_kind Admin = true
is_admin_kind (Smc files) = true

abbrev pub address_only : Named → Device
address_only d = record { addr = d.addr }

-- The limits that lines give, else the defaults: 1,024 entries, 10 waiting entries, 65,536 control entries. No item is read yet.
abbrev pub limits_of : Draft → Limits
limits_of d = record {
  entries = unwrap_or d.entries DEFAULT_ENTRIES;
  unresolved = unwrap_or d.unresolved DEFAULT_UNRESOLVED;
  controls = unwrap_or d.controls DEFAULT_CONTROLS;
  phases = length (phases_so_far d);
  packets = replicate (lanes_of d) 0;
  admins = map is_admin_kind d.daemons;
  devices = map address_only d.devices;
}

-- the scenario of all lines; without `scenario 1` the first line is bad
abbrev pub whole : Draft → Result Scenario ScenarioError
whole d =
    if d.begun
    then Ok (record { limits = limits_of d; devices = d.devices; lanes = lanes_of d; daemons = d.daemons; phases = phases_so_far d })
    else Err (error.Bad 1 kind.Header [])

-- the scenario that bytes spell, or the first bad line and what is wrong with it
abbrev pub spelled : List ℕ → Result Scenario ScenarioError
spelled bytes = draft_from 1 empty_draft (lines_of bytes) >>= whole
