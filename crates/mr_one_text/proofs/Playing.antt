-- A course is a play of questions and answers. So what was done tells what is asked next, whatever is answered later.
use Rattle.std.proofs.Common.{◌≡◌, ◌∙◌, ℕ, zero, suc, Option, Some, None, List, [], ◌∷◌, ◌++◌, refl, sym, subst, append_assoc, append-nil}
use Rattle.std.specs.List.{fold}
use Rattle.std.specs.Prelude.{codes}
use Rattle.std.specs.Option.{option_map_or}
use Rattle.mr_model.specs.Deeds.{Deed, Asked, Received, Ticked}
use Rattle.mr_model.specs.declared.message.Told.{Told}
use Rattle.mr_model.specs.declared.reply.Reply.{Reply}
use Rattle.mr_model.specs.declared.request.Request.{Request}
use Rattle.smc_core.specs.Driving.{Course, Line, Start, Poll, Tick, Command, Answer, ask, worked_off, received, handled, polled, driven, next_reply, next_report, answers_in}
use Rattle.smc_core.specs.Machine.{Machine, Turn}
use Rattle.smc_core.specs.Replies.{reply}
use Rattle.smc_core.specs.Reports.{report}
use Rattle.smc_core.specs.Smc.{command}
use Rattle.smc_daemon.specs.Courses.{IsCourse}

data Play : Type 0 where
  Over : Play
  Ask : Request → (Reply → Play) → Play
  Hear : (Option Told → Play) → Play
  Wait : ℕ → Play → Play

-- what is done in a play, with these answers
abbrev played : Play → List Answer → List Deed
played Over answers = []
played (Ask r next) answers = Asked r (next_reply answers).0 ∷ played (next (next_reply answers).0) (next_reply answers).1
played (Hear next) answers = Received (next_report answers).0 ∷ played (next (next_report answers).0) (next_report answers).1
played (Wait ms next) answers = Ticked ms ∷ played next answers

abbrev asking : List Request → Machine → (Machine → Play) → Play
asking [] m next = next m
asking (r ∷ rs) m next = Ask r (λ a. asking rs (reply m a).machine next)

abbrev working : Turn → (Machine → Play) → Play
working t next = asking t.requests t.machine next

abbrev hearing : ℕ → Machine → (Machine → Play) → Play
hearing zero m next = next m
hearing (suc n) m next = Hear (λ o. option_map_or (λ told. working (report m told) (λ m'. hearing n m' next)) o (next m))

abbrev driving : Line → Machine → (Machine → Play) → Play
driving Start m next = working (command m (codes "start")) next
driving (Poll n) m next = hearing n m next
driving (Tick ms) m next = Wait ms (next m)
driving (Command words) m next = working (command m words) next

abbrev playing : List Line → Machine → Play
playing [] m = Over
playing (l ∷ ls) m = driving l m (λ m'. playing ls m')

-- what a course did, and next a play from its machine on
abbrev with_play : Course → (Machine → Play) → List Deed
with_play c next = c.deeds ++ played (next c.machine) c.answers

asks_play : (rs : List Request) (c : Course) (next : Machine → Play) → with_play (fold ask c rs) next ≡ with_play c (λ m. asking rs m next)
asks_play [] c next = refl
asks_play (r ∷ rs) c next =
    let a = next_reply c.answers in
    asks_play rs (ask c r) next ∙ append_assoc c.deeds (Asked r a.0 ∷ []) (played (asking rs (reply c.machine a.0).machine next) a.1)

works_play : (c : Course) (t : Turn) (next : Machine → Play) → with_play (worked_off c t) next ≡ c.deeds ++ played (working t next) c.answers
works_play c t next = asks_play t.requests (record c { machine = t.machine; text = c.text ++ t.text }) next

heard_by : (n : ℕ) (c : Course) (o : Option Told) (left : List Answer) (next : Machine → Play) → ((d : Course) → with_play (polled n d) next ≡ with_play d (λ m. hearing n m next))
    → with_play (option_map_or (λ told. polled n (handled (received c (o, left)) told)) o (received c (o, left))) next
    ≡ c.deeds ++ Received o ∷ played (option_map_or (λ told. working (report c.machine told) (λ m'. hearing n m' next)) o (next c.machine)) left
heard_by n c None left next more = append_assoc c.deeds (Received None ∷ []) (played (next c.machine) left)
heard_by n c (Some told) left next more =
    let d = received c (Some told, left) in
    more (handled d told) ∙ works_play d (report c.machine told) (λ m'. hearing n m' next)
    ∙ append_assoc c.deeds (Received (Some told) ∷ []) (played (working (report c.machine told) (λ m'. hearing n m' next)) left)

polls_play : (n : ℕ) (c : Course) (next : Machine → Play) → with_play (polled n c) next ≡ with_play c (λ m. hearing n m next)
polls_play zero c next = refl
polls_play (suc n) c next = heard_by n c (next_report c.answers).0 (next_report c.answers).1 next (λ d. polls_play n d next)

line_plays : (l : Line) (c : Course) (next : Machine → Play) → with_play (driven c l) next ≡ with_play c (λ m. driving l m next)
line_plays Start c next = works_play c (command c.machine (codes "start")) next
line_plays (Poll n) c next = polls_play n c next
line_plays (Tick ms) c next = append_assoc c.deeds (Ticked ms ∷ []) (played (next c.machine) c.answers)
line_plays (Command words) c next = works_play c (command c.machine words) next

lines_play : (ls : List Line) (c : Course) → (fold driven c ls).deeds ≡ with_play c (playing ls)
lines_play [] c = sym (append-nil c.deeds)
lines_play (l ∷ ls) c = lines_play ls (driven c l) ∙ line_plays l c (playing ls)

-- the same is asked, whatever is answered
abbrev pub AsksSame : Deed → Deed → Type 0
AsksSame (Asked r a) (Asked s b) = r ≡ s
AsksSame (Received a) (Received b) = Unit {0}
AsksSame (Ticked m) (Ticked n) = m ≡ n
AsksSame x y = ⊥

next_of : (p : Play) (done more others : List Deed) (x y : Deed) → done ++ x ∷ more ≡ played p (answers_in (done ++ x ∷ more)) → done ++ y ∷ others ≡ played p (answers_in (done ++ y ∷ others)) → AsksSame x y
next_of Over [] more others x y e f = absurd (cc e)
next_of Over (z ∷ done) more others x y e f = absurd (cc e)
next_of (Ask r next) [] more others x y e f =
    let mine : Asked r (next_reply (answers_in (x ∷ more))).0 ≡ x = cc e in
    let other : Asked r (next_reply (answers_in (y ∷ others))).0 ≡ y = cc f in
    subst (λ (d : Deed). AsksSame x d) other (subst (λ (d : Deed). AsksSame d (Asked r (next_reply (answers_in (y ∷ others))).0)) mine refl)
next_of (Hear next) [] more others x y e f =
    let mine : Received (next_report (answers_in (x ∷ more))).0 ≡ x = cc e in
    let other : Received (next_report (answers_in (y ∷ others))).0 ≡ y = cc f in
    subst (λ (d : Deed). AsksSame x d) other (subst (λ (d : Deed). AsksSame d (Received (next_report (answers_in (y ∷ others))).0)) mine tt)
next_of (Wait ms next) [] more others x y e f =
    let mine : Ticked ms ≡ x = cc e in
    let other : Ticked ms ≡ y = cc f in
    subst (λ (d : Deed). AsksSame x d) other (subst (λ (d : Deed). AsksSame d (Ticked ms)) mine refl)
next_of (Ask r next) (Asked s a ∷ done) more others x y e f = next_of (next a) done more others x y (cc e) (cc f)
next_of (Ask r next) (Received o ∷ done) more others x y e f = absurd (cc e)
next_of (Ask r next) (Ticked n ∷ done) more others x y e f = absurd (cc e)
next_of (Hear next) (Received o ∷ done) more others x y e f = next_of (next o) done more others x y (cc e) (cc f)
next_of (Hear next) (Asked s a ∷ done) more others x y e f = absurd (cc e)
next_of (Hear next) (Ticked n ∷ done) more others x y e f = absurd (cc e)
next_of (Wait ms next) (Ticked n ∷ done) more others x y e f = next_of next done more others x y (cc e) (cc f)
next_of (Wait ms next) (Asked s a ∷ done) more others x y e f = absurd (cc e)
next_of (Wait ms next) (Received o ∷ done) more others x y e f = absurd (cc e)

-- what is done in a course is what is played
course_plays : (m : Machine) (lines : List Line) (deeds : List Deed) → IsCourse m lines deeds → deeds ≡ played (playing lines m) (answers_in deeds)
course_plays m lines deeds is = is ∙ lines_play lines (record { machine = m; deeds = []; text = []; answers = answers_in deeds })

-- Two courses that did the same so far ask the same next.
pub next_same : (m : Machine) (lines : List Line) (done more others : List Deed) (x y : Deed) → IsCourse m lines (done ++ x ∷ more) → IsCourse m lines (done ++ y ∷ others) → AsksSame x y
next_same m lines done more others x y a b =
    next_of (playing lines m) done more others x y (course_plays m lines (done ++ x ∷ more) a) (course_plays m lines (done ++ y ∷ others) b)
