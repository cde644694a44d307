-- How a course goes on while a caller makes the calls of a machine: what the definitions give from a
-- machine on is what they give from a later one on, with what the caller did in between.
use Rattle.std.specs.Prelude.{◌≡◌, ◌<◌, ℕ, List, ◌++◌, length}
use Rattle.mr_model.specs.Deeds.{Deed}
use Rattle.mr_model.specs.declared.caller.CallError.{CallError}
use Rattle.mr_model.specs.declared.caller.CallError.TheVariants as call_error
use Rattle.smc_core.specs.Driving.{Course, Answer, answers_in}
use Rattle.smc_core.specs.Machine.{Machine}

-- what is done at some point, and what is still to be done there
abbrev pub at : Machine → List Deed → List ℕ → List Answer → Course
at m deeds text answers =
    record { machine = m; deeds = deeds; text = text; answers = answers }

-- nothing is still to be done
abbrev pub all : Course → Course
all c = c

-- The caller's deeds went from old to new, and the machine from m to m'. With the answers that stand
-- in these deeds, f behind m is g behind m', and this text was said in between.
pub record Leads (f g : Course → Course) (m m' : Machine) (old new : List Deed) (text : List ℕ) : Type 0 where
  pub deeds : List Deed
  pub grew : new ≡ old ++ deeds
  pub same :
      (before : List Deed) (said : List ℕ) (left : List Answer) →
      f (at m before said (answers_in deeds ++ left)) ≡ g (at m' (before ++ deeds) (said ++ text) left)

-- the same, with whatever text
pub record Goes (f g : Course → Course) (m m' : Machine) (old new : List Deed) : Type 0 where
  pub text : List ℕ
  pub leads : Leads f g m m' old new text

-- A course does this first, and then what is missing: something, where no control entry was left.
pub record Lacks (e : CallError) (c : Course) (done : List Deed) : Type 0 where
  pub missing : List Deed
  pub is : c.deeds ≡ done ++ missing
  pub full : e ≡ call_error.ControlFull → 0 < length missing

-- The caller's deeds went from old to new, and then it stopped; f behind m does these first.
pub record Breaks (e : CallError) (f : Course → Course) (m : Machine) (old new : List Deed) : Type 0 where
  pub deeds : List Deed
  pub grew : new ≡ old ++ deeds
  pub lacks :
      (before : List Deed) (said : List ℕ) →
      Lacks e (f (at m before said (answers_in deeds))) (before ++ deeds)
