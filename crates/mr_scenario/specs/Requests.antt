-- The operations of daemons: each by the words behind its own, from place 3 on. The number of words is tested first, then the daemon.
use Rattle.std.specs.Prelude.{ℕ, Bool, false, not, if◌then◌else◌, replicate, Result, Ok, Err, List, [], ◌∷◌, ◌++◌, bytes_eq, codes}
use Rattle.mr_base.specs.declared.limits.TheConstants.{MAXVIFS, MOST_UNREAD}
use Rattle.mr_model.specs.declared.request.MfcCtl.{MfcCtl}
use Rattle.mr_model.specs.declared.request.MfcKey.{MfcKey}
use Rattle.mr_model.specs.declared.request.Request.{Request}
use Rattle.mr_model.specs.declared.request.Request.TheVariants as request
use Rattle.mr_model.specs.declared.request.VifCtl.{VifCtl}
use Rattle.mr_scenario.specs.Counts.{Word, none_of, one_of, two_of, three_of, three_led, some_of}
use Rattle.mr_scenario.specs.Forms.{number_word, positive_word, address_word, local_word, thresholds_from, raw_word}
use Rattle.mr_scenario.specs.Kinds.{in_line, in_word, or_bad, wants}
use Rattle.mr_scenario.specs.declared.scenario.Script.{Script}
use Rattle.mr_scenario.specs.declared.scenario.Script.TheVariants as script
use Rattle.mr_scenario.specs.declared.stop.Kind.TheVariants as kind
use Rattle.mr_scenario.specs.declared.stop.Mistake.{Mistake}
use Rattle.mr_words.specs.Binds.{◌>>=◌}
use Rattle.mr_words.specs.Names.{is_clean}

-- Who asks: whether the daemon is driven by smcroute, or what is wrong with its number.
abbrev pub Who : Type 0
Who = Result Bool Mistake

-- a plain or admin daemon alone
abbrev pub by_hand : Who → Result (Unit {0}) Mistake
by_hand who = do
  smc ← who
  wants (not smc) (in_word 1 kind.Daemon)

-- an smcroute daemon alone
abbrev pub by_smcroute : Who → Result (Unit {0}) Mistake
by_smcroute who = do
  smc ← who
  wants smc (in_word 1 kind.Daemon)

-- no operand
abbrev pub plain_request : Request → Who → List Word → Result Request Mistake
plain_request r who ws = do
  _ ← or_bad (none_of ws) (in_line kind.Word)
  _ ← by_hand who
  Ok r

-- `I F LOCAL`
abbrev pub vif_ctl : Who → List Word → Result VifCtl Mistake
vif_ctl who ws = do
  w ← or_bad (three_of ws) (in_line kind.Word)
  _ ← by_hand who
  vif ← number_word 3 65535 w.0
  flags ← number_word 4 255 w.1
  local ← local_word 5 w.2
  Ok (record { vif = vif; flags = flags; local = local })

-- `S G P V:T ..`; a vif that is not named has threshold 0
abbrev pub mfc_ctl : Who → List Word → Result MfcCtl Mistake
mfc_ctl who ws = do
  w ← or_bad (three_led ws) (in_line kind.Word)
  _ ← by_hand who
  src ← address_word 3 w.0
  dst ← address_word 4 w.1
  parent ← number_word 5 65535 w.2
  ttls ← thresholds_from 6 (replicate MAXVIFS 0) (replicate MAXVIFS false) w.3
  Ok (record { src = record { 0 = src }; dst = record { 0 = dst }; parent = parent; ttls = ttls })

-- `S G P`
abbrev pub mfc_key : Who → List Word → Result MfcKey Mistake
mfc_key who ws = do
  w ← or_bad (three_of ws) (in_line kind.Word)
  _ ← by_hand who
  src ← address_word 3 w.0
  dst ← address_word 4 w.1
  parent ← number_word 5 65535 w.2
  Ok (record { src = record { 0 = src }; dst = record { 0 = dst }; parent = parent })

-- `N`
abbrev pub value : ℕ → Who → List Word → Result ℕ Mistake
value most who ws = do
  w ← or_bad (one_of ws) (in_line kind.Word)
  _ ← by_hand who
  number_word 3 most w

-- `S G`
abbrev pub count_request : Who → List Word → Result Request Mistake
count_request who ws = do
  w ← or_bad (two_of ws) (in_line kind.Word)
  _ ← by_hand who
  src ← address_word 3 w.0
  dst ← address_word 4 w.1
  Ok (request.SgCount (record { 0 = src }) (record { 0 = dst }))

-- an operation that is none: its daemon is tested first
abbrev pub unknown : {A : Type 0} → Who → Result A Mistake
unknown who = do
  _ ← who
  Err (in_line kind.Word)

-- the requests that read: `version`, `getpim`, `getassert`, `vifcnt I`, `sgcnt S G`
abbrev pub question : Word → Who → List Word → Result Request Mistake
question op who ws =
    if bytes_eq op (codes "version") then plain_request request.GetVersion who ws
    else (if bytes_eq op (codes "getpim") then plain_request request.GetPim who ws
    else (if bytes_eq op (codes "getassert") then plain_request request.GetAssert who ws
    else (if bytes_eq op (codes "vifcnt") then (value 65535 who ws >>= λ i. Ok (request.VifCount i))
    else (if bytes_eq op (codes "sgcnt") then count_request who ws
    else unknown who))))

-- the requests on switches: `pim N`, `assert N`, `flush N`
abbrev pub switch_request : Word → Who → List Word → Result Request Mistake
switch_request op who ws =
    if bytes_eq op (codes "pim") then (value 4294967295 who ws >>= λ n. Ok (request.Pim n))
    else (if bytes_eq op (codes "assert") then (value 4294967295 who ws >>= λ n. Ok (request.Assert n))
    else (if bytes_eq op (codes "flush") then (value 4294967295 who ws >>= λ n. Ok (request.Flush n))
    else question op who ws))

-- the requests on entries: `addmfc S G P V:T ..`, `delmfc S G P`, and both for a proxy
abbrev pub entry_request : Word → Who → List Word → Result Request Mistake
entry_request op who ws =
    if bytes_eq op (codes "addmfc") then (mfc_ctl who ws >>= λ c. Ok (request.AddMfc c))
    else (if bytes_eq op (codes "delmfc") then (mfc_key who ws >>= λ k. Ok (request.DelMfc k))
    else (if bytes_eq op (codes "addproxy") then (mfc_ctl who ws >>= λ c. Ok (request.AddProxy c))
    else (if bytes_eq op (codes "delproxy") then (mfc_key who ws >>= λ k. Ok (request.DelProxy k))
    else switch_request op who ws)))

-- all requests; the other ones are `init`, `done`, `addvif I F LOCAL`, `delvif I`
abbrev pub request_of : Word → Who → List Word → Result Request Mistake
request_of op who ws =
    if bytes_eq op (codes "init") then plain_request request.Init who ws
    else (if bytes_eq op (codes "done") then plain_request request.Finish who ws
    else (if bytes_eq op (codes "addvif") then (vif_ctl who ws >>= λ c. Ok (request.AddVif c))
    else (if bytes_eq op (codes "delvif") then (value 65535 who ws >>= λ i. Ok (request.DelVif i))
    else entry_request op who ws)))

-- `raw OPT HEX`
abbrev pub raw_script : Who → List Word → Result Script Mistake
raw_script who ws = do
  w ← or_bad (two_of ws) (in_line kind.Word)
  _ ← by_hand who
  opt ← number_word 3 65535 w.0
  bytes ← raw_word 4 w.1
  Ok (script.Raw opt bytes)

-- `tick MS`, for every sort of daemon
abbrev pub tick_script : Who → List Word → Result Script Mistake
tick_script who ws = do
  w ← or_bad (one_of ws) (in_line kind.Word)
  _ ← who
  ms ← number_word 3 4294967295 w
  Ok (script.Tick ms)

-- `recv`
abbrev pub recv_script : Who → List Word → Result Script Mistake
recv_script who ws = do
  _ ← or_bad (none_of ws) (in_line kind.Word)
  _ ← by_hand who
  Ok script.Recv

-- `start`
abbrev pub start_script : Who → List Word → Result Script Mistake
start_script who ws = do
  _ ← or_bad (none_of ws) (in_line kind.Word)
  _ ← by_smcroute who
  Ok script.Start

-- `poll N`, 1 to 64
abbrev pub poll_script : Who → List Word → Result Script Mistake
poll_script who ws = do
  w ← or_bad (one_of ws) (in_line kind.Word)
  _ ← by_smcroute who
  n ← positive_word 3 MOST_UNREAD w
  Ok (script.Poll n)

-- The words so far, and further ones, parted by one space.
abbrev pub joined_from : List ℕ → List Word → Result (List ℕ) Mistake
joined_from text [] = Ok text
joined_from text (w ∷ ws) = do
  _ ← wants (is_clean w) (in_line kind.Word)
  joined_from (text ++ 32 ∷ w) ws

-- `smc WORDS`: one word or more
abbrev pub words_script : Who → List Word → Result Script Mistake
words_script who ws = do
  w ← or_bad (some_of ws) (in_line kind.Word)
  _ ← by_smcroute who
  _ ← wants (is_clean w.0) (in_line kind.Word)
  text ← joined_from w.0 w.1
  Ok (script.Words text)

-- the operations of smcroute daemons alone
abbrev pub smcroute_script : Word → Who → List Word → Result Script Mistake
smcroute_script op who ws =
    if bytes_eq op (codes "smc") then words_script who ws
    else (if bytes_eq op (codes "start") then start_script who ws
    else (if bytes_eq op (codes "poll") then poll_script who ws
    else (request_of op who ws >>= λ r. Ok (script.Ask r))))

-- all operations
abbrev pub script_of : Word → Who → List Word → Result Script Mistake
script_of op who ws =
    if bytes_eq op (codes "raw") then raw_script who ws
    else (if bytes_eq op (codes "table") then (value 4294967295 who ws >>= λ n. Ok (script.Table n))
    else (if bytes_eq op (codes "tick") then tick_script who ws
    else (if bytes_eq op (codes "recv") then recv_script who ws
    else smcroute_script op who ws)))
