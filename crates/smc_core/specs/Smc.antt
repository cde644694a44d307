-- The routing machine after smcroute: what each input gives.
use Rattle.std.specs.Prelude.{ℕ, false, if◌then◌else◌, None, Result, Ok, Err}
use Rattle.std.specs.Prelude.{List, [], ◌∷◌, bytes_eq, codes}
use Rattle.mr_words.specs.Binds.{◌>>=◌}
use Rattle.smc_conf.specs.declared.conf.Conf.{Conf}
use Rattle.smc_rules.specs.Settings.{no_settings}
use Rattle.smc_core.specs.Changing.{add, remove}
use Rattle.smc_core.specs.Ending.{flush, kill, poll}
use Rattle.smc_core.specs.Joining.{join, leave}
use Rattle.smc_core.specs.Machine.{Machine, Turn, saying}
use Rattle.smc_core.specs.Showing.{show_text}
use Rattle.smc_core.specs.Starting.{start, reload, taking}
use Rattle.smc_core.specs.Mistakes.{mistake_line}
use Rattle.smc_words.specs.Words.{Word, command_words}
use Rattle.smc_core.specs.declared.mistake.Mistake.{Mistake}
use Rattle.smc_core.specs.declared.mistake.Mistake.TheVariants as mistake

-- a machine over these devices and configurations, before its first input
abbrev pub first_machine : List Word → List Conf → Machine
first_machine names confs =
    taking
    (record {
      names = names;
      confs = confs;
      place = 0;
      running = false;
      settings = no_settings;
      learned = [];
      plan = record { left = 0; refused = None; learning = false };
    })
    0

abbrev pub show : Machine → List Word → Result Turn Mistake
show m ws = do
  text ← show_text m ws
  Ok (saying m text)

abbrev pub by_word : Machine → Word → List Word → Result Turn Mistake
by_word m w ws =
    if bytes_eq w (codes "start") then Err mistake.Running
    else (if bytes_eq w (codes "add") then add m ws
    else (if bytes_eq w (codes "remove") then remove m ws
    else (if bytes_eq w (codes "join") then join m ws
    else (if bytes_eq w (codes "leave") then leave m ws
    else (if bytes_eq w (codes "flush") then flush m ws
    else (if bytes_eq w (codes "show") then show m ws
    else (if bytes_eq w (codes "reload") then reload m ws
    else (if bytes_eq w (codes "poll") then poll m ws
    else (if bytes_eq w (codes "kill") then kill m ws
    else Err mistake.Usage)))))))))

-- a command while the machine is running
abbrev pub while_running : Machine → List Word → Result Turn Mistake
while_running m [] = Err mistake.Usage
while_running m (w ∷ ws) = by_word m w ws

-- a command while it isn't: `start` alone is one
abbrev pub while_stopped : Machine → List Word → Result Turn Mistake
while_stopped m [] = Err mistake.NotRunning
while_stopped m (w ∷ ws) =
    if bytes_eq w (codes "start") then start m ws else Err mistake.NotRunning

abbrev pub by_state : Machine → List Word → Result Turn Mistake
by_state m ws = if m.running then while_running m ws else while_stopped m ws

-- A mistaken command changes nothing and asks nothing.
abbrev pub told_off : Machine → Result Turn Mistake → Turn
told_off m (Ok t) = t
told_off m (Err e) = saying m (mistake_line e)

-- what a command line gives
abbrev pub command : Machine → List ℕ → Turn
command m bytes = told_off m (by_state m (command_words bytes))
