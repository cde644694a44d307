-- What a daemon that drives a machine does for its lines.
use Rattle.std.specs.Prelude.{ℕ, zero, suc, Option, None, List, [], ◌∷◌, ◌++◌, codes, fold}
use Rattle.std.specs.Option.{option_map_or}
use Rattle.mr_model.specs.Deeds.{Deed, Asked, Received, Ticked}
use Rattle.mr_model.specs.declared.message.Told.{Told}
use Rattle.mr_model.specs.declared.reply.Reply.{Reply}
use Rattle.mr_model.specs.declared.reply.Reply.TheVariants as answer
use Rattle.mr_model.specs.declared.request.Request.{Request}
use Rattle.smc_core.specs.Machine.{Machine, Turn}
use Rattle.smc_core.specs.Replies.{reply}
use Rattle.smc_core.specs.Reports.{report}
use Rattle.smc_core.specs.Smc.{command}

pub data Line : Type 0 where
  Start : Line
  -- receives, up to so many
  Poll : ℕ → Line
  -- so many milliseconds
  Tick : ℕ → Line
  Command : List ℕ → Line

-- what the kernel answered, in order
pub data Answer : Type 0 where
  Replied : Reply → Answer
  Reported : Option Told → Answer

-- a machine, what its daemon did, the texts that it was answered, and the answers still to come
pub record Course : Type 0 where
  pub machine : Machine
  pub deeds : List Deed
  pub text : List ℕ
  pub answers : List Answer

-- Where answers run out each reply is good, and each receive gives none.
abbrev pub next_reply : List Answer → Reply × List Answer
next_reply (Replied r ∷ left) = (r, left)
next_reply left = (answer.Good, left)

abbrev pub next_report : List Answer → Option Told × List Answer
next_report (Reported told ∷ left) = (told, left)
next_report left = (None, left)

abbrev pub asked : Course → Request → Turn → Reply × List Answer → Course
asked c r t a = record {
  machine = t.machine;
  deeds = c.deeds ++ Asked r a.0 ∷ [];
  text = c.text ++ t.text;
  answers = a.1;
}

abbrev pub ask : Course → Request → Course
ask c r = asked c r (reply c.machine (next_reply c.answers).0) (next_reply c.answers)

-- the requests of a turn are made, all of them, one after another
abbrev pub worked_off : Course → Turn → Course
worked_off c t =
    fold ask (record c { machine = t.machine; text = c.text ++ t.text }) t.requests

abbrev pub received : Course → Option Told × List Answer → Course
received c a = record c { deeds = c.deeds ++ Received a.0 ∷ []; answers = a.1 }

-- a report is handled before the next receive
abbrev pub handled : Course → Told → Course
handled c told = worked_off c (report c.machine told)

-- receives, up to so many, ending at the first that gives none
abbrev pub polled : ℕ → Course → Course
polled zero c = c
polled (suc n) c =
    option_map_or (λ told. polled n (handled (received c (next_report c.answers)) told))
    (next_report c.answers).0 (received c (next_report c.answers))

abbrev pub driven : Course → Line → Course
driven c Start = worked_off c (command c.machine (codes "start"))
driven c (Poll n) = polled n c
driven c (Tick ms) = record c { deeds = c.deeds ++ Ticked ms ∷ [] }
driven c (Command words) = worked_off c (command c.machine words)

-- The routing machine over lines, with the answers that it gets: what it did, what it said, and the
-- machine behind it.
abbrev pub smc : Machine → List Line → List Answer → Course
smc m lines answers =
    fold driven (record { machine = m; deeds = []; text = []; answers = answers }) lines

-- the answers that stand in what was done
abbrev pub answers_in : List Deed → List Answer
answers_in [] = []
answers_in (Asked r a ∷ ds) = Replied a ∷ answers_in ds
answers_in (Received told ∷ ds) = Reported told ∷ answers_in ds
answers_in (Ticked ms ∷ ds) = answers_in ds
