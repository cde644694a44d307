-- The parts of the state are what the definitions that go over a history say.
use Rattle.std.proofs.Common.{◌≡◌, ℕ, ◌+◌, Option, List, [], ◌∷◌, ◌++◌, reverse, fold, refl, ap, ◌∙◌, append_assoc, append-nil}
use Rattle.std.proofs.lemmas.List.{reverse-append}
use Rattle.mr_base.specs.declared.numbers.DaemonNo.{DaemonNo}
use Rattle.mr_model.specs.declared.entry.Entry.{Entry}
use Rattle.mr_model.specs.declared.limits.Limits.{Limits}
use Rattle.mr_model.specs.Messages.{Attempt, last_attempt}
use Rattle.mr_model.specs.Now.{milliseconds, now}
use Rattle.mr_model.specs.Attempt.{attempted_by, attempts_from, attempt}
use Rattle.mr_model.specs.Owner.{owner_after, owner}
use Rattle.mr_model.specs.Switches.{Switches, switches_after, pim, asserts}
use Rattle.mr_model.specs.State.{State, first_state, step, state}
use Rattle.mr_model.proofs.Stepping.{step_owner, switches_of, step_switches, step_now, step_attempts}

owner_from : (limits : Limits) (s : State) (h : List Entry) → (fold (step limits) s h).owner ≡ fold owner_after s.owner h
owner_from limits s [] = refl
owner_from limits s (e ∷ h) =
    owner_from limits (step limits s e) h ∙ ap (λ (o : Option DaemonNo). fold owner_after o h) (step_owner limits s e)

pub owner_agrees : (limits : Limits) (h : List Entry) → (state limits h).owner ≡ owner h
owner_agrees limits h = owner_from limits first_state h

switches_from : (limits : Limits) (s : State) (h : List Entry) → switches_of (fold (step limits) s h) ≡ fold switches_after (switches_of s) h
switches_from limits s [] = refl
switches_from limits s (e ∷ h) =
    switches_from limits (step limits s e) h ∙ ap (λ (w : Switches). fold switches_after w h) (step_switches limits s e)

pub pim_agrees : (limits : Limits) (h : List Entry) → (state limits h).tables.pim ≡ pim h
pim_agrees limits h = ap (λ (w : Switches). w.pim) (switches_from limits first_state h)

pub asserts_agrees : (limits : Limits) (h : List Entry) → (state limits h).tables.asserts ≡ asserts h
asserts_agrees limits h = ap (λ (w : Switches). w.asserts) (switches_from limits first_state h)

now_from : (limits : Limits) (s : State) (h : List Entry) → (fold (step limits) s h).now ≡ fold (λ a x. a + milliseconds x) s.now h
now_from limits s [] = refl
now_from limits s (e ∷ h) =
    now_from limits (step limits s e) h ∙ ap (λ (n : ℕ). fold (λ a x. a + milliseconds x) n h) (step_now limits s e)

pub now_agrees : (limits : Limits) (h : List Entry) → (state limits h).now ≡ now h
now_agrees limits h = now_from limits first_state h

attempts_agree_from : (limits : Limits) (s : State) (h : List Entry) → (fold (step limits) s h).attempts ≡ reverse (attempts_from s.now h) ++ s.attempts
attempts_agree_from limits s [] = refl
attempts_agree_from limits s (e ∷ h) =
    let first = attempted_by s.now e in
    let more = attempts_from (s.now + milliseconds e) h in
    let joined : reverse more ++ (reverse first ++ s.attempts) ≡ reverse (first ++ more) ++ s.attempts =
    rw (reverse-append first more, append_assoc (reverse more) (reverse first) s.attempts) refl in
    attempts_agree_from limits (step limits s e) h
    ∙ ap (λ (n : ℕ). reverse (attempts_from n h) ++ (step limits s e).attempts) (step_now limits s e)
    ∙ ap (λ (old : List Attempt). reverse more ++ old) (step_attempts limits s e)
    ∙ joined

pub attempts_agree : (limits : Limits) (h : List Entry) → (state limits h).attempts ≡ reverse (attempts_from 0 h)
attempts_agree limits h = attempts_agree_from limits first_state h ∙ append-nil (reverse (attempts_from 0 h))

pub attempt_agrees : (limits : Limits) (h : List Entry) (n : ℕ) → last_attempt (state limits h).attempts n ≡ attempt h n
attempt_agrees limits h n = ap (λ (tried : List Attempt). last_attempt tried n) (attempts_agree limits h)
