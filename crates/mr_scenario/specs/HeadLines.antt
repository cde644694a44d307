-- The head lines of a scenario: each by the words behind its first one.
use Rattle.std.specs.Prelude.{ℕ, ◌+◌, ◌&&◌, true, not, nat_lt, is_none, if◌then◌else◌, Option, Some, Result, Ok, Err, List, [], ◌∷◌, ◌++◌, length, bytes_eq, codes}
use Rattle.mr_base.specs.declared.limits.TheConstants.{MOST_CONFIGURATIONS, MOST_CONTROLS, MOST_DAEMONS, MOST_DEVICES, MOST_ENTRIES, MOST_LANES, MOST_UNRESOLVED}
use Rattle.mr_scenario.specs.Counts.{Word, one_of, two_of}
use Rattle.mr_scenario.specs.Forms.{number_word, positive_word, address_word, is_taken}
use Rattle.mr_scenario.specs.Kinds.{in_line, bad, or_bad, wants}
use Rattle.mr_scenario.specs.declared.draft.Draft.{Draft}
use Rattle.mr_scenario.specs.declared.scenario.DaemonKind.{DaemonKind}
use Rattle.mr_scenario.specs.declared.scenario.DaemonKind.TheVariants.{Plain, Admin, Smc}
use Rattle.mr_scenario.specs.declared.stop.Kind.TheVariants as kind
use Rattle.mr_scenario.specs.declared.stop.Mistake.{Mistake}
use Rattle.mr_words.specs.Binds.{◌>>=◌}
use Rattle.mr_words.specs.Names.{is_device_name, is_file}

-- `scenario 1`
abbrev pub header_line : Draft → List Word → Result Draft Mistake
header_line d ws = do
  w ← or_bad (two_of ws) (in_line kind.Header)
  _ ← wants (bytes_eq w.0 (codes "scenario") && bytes_eq w.1 (codes "1")) (in_line kind.Header)
  Ok (record d { begun = true })

-- A limit stands at most once: where it stood before, its name is a bad word.
abbrev pub limit : Option ℕ → ℕ → Word → Result ℕ Mistake
limit before most w = do
  _ ← wants (is_none before) (in_line kind.Word)
  positive_word 2 most w

-- `limit entries N`, 1 to 16,384
abbrev pub entries_limit : Draft → Word → Result Draft Mistake
entries_limit d w = do
  n ← limit d.entries MOST_ENTRIES w
  Ok (record d { entries = Some n })

-- `limit unresolved N`, 1 to 64
abbrev pub unresolved_limit : Draft → Word → Result Draft Mistake
unresolved_limit d w = do
  n ← limit d.unresolved MOST_UNRESOLVED w
  Ok (record d { unresolved = Some n })

-- `limit control N`, 1 to 1,048,576
abbrev pub control_limit : Draft → Word → Result Draft Mistake
control_limit d w = do
  n ← limit d.controls MOST_CONTROLS w
  Ok (record d { controls = Some n })

abbrev pub limit_by_name : Draft → Word → Word → Result Draft Mistake
limit_by_name d name w =
    if bytes_eq name (codes "entries") then entries_limit d w
    else (if bytes_eq name (codes "unresolved") then unresolved_limit d w
    else (if bytes_eq name (codes "control") then control_limit d w
    else Err (in_line kind.Word)))

-- `limit NAME N`
abbrev pub limit_line : Draft → List Word → Result Draft Mistake
limit_line d ws = do
  w ← or_bad (two_of ws) (in_line kind.Word)
  limit_by_name d w.0 w.1

-- `lanes N`, 0 to 16, at most once
abbrev pub lanes_line : Draft → List Word → Result Draft Mistake
lanes_line d ws = do
  w ← or_bad (one_of ws) (in_line kind.Word)
  _ ← wants (is_none d.lanes) (in_line kind.Word)
  n ← number_word 1 MOST_LANES w
  Ok (record d { lanes = Some n })

abbrev pub with_device : Draft → Word → ℕ → Draft
with_device d name addr = record d { devices = d.devices ++ record { name = name; addr = record { 0 = addr } } ∷ [] }

-- `device NAME ADDRESS`, at most 64, no name twice
abbrev pub device_line : Draft → List Word → Result Draft Mistake
device_line d ws = do
  w ← or_bad (two_of ws) (in_line kind.Word)
  _ ← wants (is_device_name w.0 && not (is_taken d.devices w.0)) (bad 1 w.0 kind.Name)
  addr ← address_word 2 w.1
  _ ← wants (nat_lt (length d.devices) MOST_DEVICES) (in_line kind.Limit)
  Ok (with_device d w.0 addr)

-- one daemon more, at most 8
abbrev pub with_daemon : Draft → DaemonKind → Result Draft Mistake
with_daemon d k = do
  _ ← wants (nat_lt (length d.daemons) MOST_DAEMONS) (in_line kind.Limit)
  Ok (record d { daemons = d.daemons ++ k ∷ [] })

abbrev pub daemon_by_word : Draft → Word → Result Draft Mistake
daemon_by_word d w =
    if bytes_eq w (codes "admin") then with_daemon d Admin
    else (if bytes_eq w (codes "plain") then with_daemon d Plain
    else Err (in_line kind.Word))

-- `daemon admin` or `daemon plain`
abbrev pub daemon_line : Draft → List Word → Result Draft Mistake
daemon_line d ws = do
  w ← or_bad (one_of ws) (in_line kind.Word)
  daemon_by_word d w

-- These files, and further ones: at most 8. Each stands behind `smc` and those before it.
abbrev pub files_from : List Word → List Word → Result (List Word) Mistake
files_from files [] = Ok files
files_from files (w ∷ ws) = do
  _ ← wants (is_file w && nat_lt (length files) MOST_CONFIGURATIONS) (bad (length files + 1) w kind.File)
  files_from (files ++ w ∷ []) ws

-- `smc FILE ..`, one file or more
abbrev pub smc_line : Draft → List Word → Result Draft Mistake
smc_line d ws = do
  _ ← wants (nat_lt 0 (length ws)) (in_line kind.Word)
  files ← files_from [] ws
  with_daemon d (Smc files)
