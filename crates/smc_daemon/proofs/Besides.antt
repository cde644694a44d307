-- A course beside the one in which no receive gives a report: it makes as much at least, and at most as
-- much more as its reports bring.
use Rattle.std.proofs.Common.{◌≡◌, ◌∙◌, ◌+◌, ◌-◌, ◌≤◌, ℕ, zero, suc, Bool, true, false, if◌then◌else◌, Option, Some, None, List, [], ◌∷◌, ◌++◌, length, refl, sym, ap, ap₂, subst, append-nil, arith}
use Rattle.std.specs.Prelude.{◌==◌, codes}
use Rattle.std.specs.List.{fold}
use Rattle.std.specs.Option.{option_map_or}
use Rattle.std.proofs.lemmas.List.{length-append, length-take}
use Rattle.std.proofs.lemmas.List.Sums.{sum_by-append}
use Rattle.mr_base.specs.declared.errno.Errno.{Errno}
use Rattle.mr_model.specs.Deeds.{Deed, Asked, Received, Ticked}
use Rattle.mr_model.specs.declared.message.Kind.{Kind}
use Rattle.mr_model.specs.declared.message.Kind.TheVariants as kind
use Rattle.mr_model.specs.declared.message.Told.{Told}
use Rattle.mr_model.specs.declared.reply.Reply.{Reply}
use Rattle.mr_model.specs.declared.request.Request.{Request}
use Rattle.smc_core.specs.Driving.{Course, Line, Start, Poll, Tick, Command, Answer, next_reply, next_report, ask, worked_off, received, handled, polled, driven, smc}
use Rattle.smc_core.specs.Machine.{Machine, Turn, silent}
use Rattle.smc_core.specs.Replies.{reply, settled, kept, plan_after}
use Rattle.smc_core.specs.Reports.{report, report_by, learning}
use Rattle.smc_core.specs.Smc.{command}
use Rattle.smc_rules.specs.Reports.{asked_for}
use Rattle.smc_rules.specs.declared.learned.Learned.{Learned}
use Rattle.smc_daemon.specs.Reporting.{brought, brought_by, brought_in}
use Rattle.smc_daemon.proofs.Extending.{Extends, extends_trans, work_extends, polls_extend}
use Rattle.smc_daemon.proofs.Nearness.{bare, parts, IsNear, command_near}

-- A reply leaves all but the plan, and may take off the last learned route.
record Quieter (m m' : Machine) : Type 0 where
  pub same : bare m' ≡ bare m
  pub fewer : length m'.learned ≤ length m.learned

kept_fewer : (e : Option Errno) (ls : List Learned) → length (kept e ls) ≤ length ls
kept_fewer None ls = omega arith
kept_fewer (Some e) ls = rw (length-take (length ls - 1) ls) (omega arith)

settled_quieter : (m : Machine) (b : Bool) → Quieter m (settled m b m.plan.refused).machine
settled_quieter m true = record { same = refl; fewer = kept_fewer m.plan.refused m.learned }
settled_quieter m false = record { same = refl; fewer = omega arith }

followed_quieter : (m : Machine) (b : Bool) → Quieter m (if b then settled m m.plan.learning m.plan.refused else silent m).machine
followed_quieter m true = settled_quieter m m.plan.learning
followed_quieter m false = record { same = refl; fewer = omega arith }

reply_quieter : (m : Machine) (a : Reply) → Quieter m (reply m a).machine
reply_quieter m a =
    let p = plan_after m.plan a in
    let q = followed_quieter (record m { plan = p }) (p.left == 0) in
    record { same = q.same; fewer = q.fewer }

-- what making requests does to a course
pub record Makes (n : ℕ) (c c' : Course) : Type 0 where
  pub same : bare c'.machine ≡ bare c.machine
  pub fewer : length c'.machine.learned ≤ length c.machine.learned
  pub deeds : length c'.deeds ≡ length c.deeds + n
  pub brought : brought_in c'.deeds ≡ brought_in c.deeds
  pub none : c.answers ≡ [] → c'.answers ≡ []

rest_none : (answers : List Answer) → answers ≡ [] → (next_reply answers).1 ≡ []
rest_none [] is = refl
rest_none (a ∷ answers) is = absurd (cc is)

ask_makes : (c : Course) (r : Request) → Makes 1 c (ask c r)
ask_makes c r =
    let a = next_reply c.answers in
    let q = reply_quieter c.machine a.0 in
    record {
      same = q.same;
      fewer = q.fewer;
      deeds = length-append c.deeds (Asked r a.0 ∷ []);
      brought = sum_by-append brought c.deeds (Asked r a.0 ∷ []) ∙ omega arith;
      none = rest_none c.answers;
    }

asks_make : (rs : List Request) (c : Course) → Makes (length rs) c (fold ask c rs)
asks_make [] c = record { same = refl; fewer = omega arith; deeds = omega arith; brought = refl; none = λ is. is }
asks_make (r ∷ rs) c =
    let one = ask_makes c r in
    let more = asks_make rs (ask c r) in
    record {
      same = more.same ∙ one.same;
      fewer = omega (arith, one.fewer, more.fewer);
      deeds = omega (arith, one.deeds, more.deeds);
      brought = more.brought ∙ one.brought;
      none = λ is. more.none (one.none is);
    }

pub work_makes : (c : Course) (t : Turn) → Makes (length t.requests) (record c { machine = t.machine; text = c.text ++ t.text }) (worked_off c t)
work_makes c t = asks_make t.requests (record c { machine = t.machine; text = c.text ++ t.text })

-- c0 is the course without reports, and c the other one, before which k entries were made, and reports
-- brought w.
pub record Beside (k w : ℕ) (c0 c : Course) : Type 0 where
  pub same : bare c0.machine ≡ bare c.machine
  pub unlearned : c0.machine.learned ≡ []
  pub none : c0.answers ≡ []
  pub lower : length c0.deeds ≤ k + length c.deeds
  pub upper : k + length c.deeds + length c.machine.learned ≤ length c0.deeds + (w + brought_in c.deeds)

-- the machine without reports is the other one without learned routes
machine_is : (m0 m : Machine) → bare m0 ≡ bare m → m0.learned ≡ [] → m0 ≡ parts m [] m0.plan
machine_is m0 m same none = ap₂ (λ (x : Machine) (l : List Learned). parts x l m0.plan) same none

nothing_left : (ls : List Learned) → length ls ≤ 0 → ls ≡ []
nothing_left [] is = refl
nothing_left (l ∷ ls) is = absurd (omega (arith, is))

works_beside : (k w : ℕ) (c0 c : Course) (t0 t : Turn) → Beside k w c0 c → IsNear c.machine.learned t0 t → Beside k w (worked_off c0 t0) (worked_off c t)
works_beside k w c0 c t0 t b near =
    let a0 = work_makes c0 t0 in
    let a = work_makes c t in
    record {
      same = a0.same ∙ near.same ∙ sym a.same;
      unlearned = nothing_left (worked_off c0 t0).machine.learned (omega (arith, a0.fewer, ap (λ (l : List Learned). length l) near.none));
      none = a0.none b.none;
      lower = omega (arith, a0.deeds, a.deeds, b.lower, near.lower);
      upper = omega (arith, a0.deeds, a.deeds, a.fewer, a.brought, b.upper, near.upper);
    }

pub command_beside : (k w : ℕ) (c0 c : Course) (bytes : List ℕ) → Beside k w c0 c → Beside k w (worked_off c0 (command c0.machine bytes)) (worked_off c (command c.machine bytes))
command_beside k w c0 c bytes b =
    works_beside k w c0 c (command c0.machine bytes) (command c.machine bytes) b
    (subst (λ (m : Machine). IsNear c.machine.learned (command m bytes) (command c.machine bytes))
    (sym (machine_is c0.machine c.machine b.same b.unlearned))
    (command_near c.machine c.machine.learned c0.machine.plan c.machine.plan bytes))

-- what handling a report does, that is brought so much behind its receive
record Handles (n : ℕ) (c c' : Course) : Type 0 where
  pub same : bare c'.machine ≡ bare c.machine
  pub more : length c'.deeds + length c'.machine.learned ≤ length c.deeds + length c.machine.learned + n
  pub brought : brought_in c'.deeds ≡ brought_in c.deeds

-- what a report brings behind its receive
abbrev behind : Kind → ℕ
behind kind.NoCache = 2
behind kind.WrongVif = 0
behind kind.WholePkt = 0

learning_handles : (c : Course) (o : Option (Request × Learned)) → Handles 2 c (worked_off c (learning c.machine o))
learning_handles c None = record { same = refl; more = omega arith; brought = refl }
learning_handles c (Some a) =
    let w = work_makes c (learning c.machine (Some a)) in
    record {
      same = w.same;
      more = omega (arith, w.deeds, w.fewer, length-append c.machine.learned (a.1 ∷ []));
      brought = w.brought;
    }

kind_handles : (k : Kind) (c : Course) (told : Told) → Handles (behind k) c (worked_off c (report_by k c.machine told))
kind_handles kind.NoCache c told = learning_handles c (asked_for c.machine.settings told)
kind_handles kind.WrongVif c told = record { same = refl; more = omega arith; brought = refl }
kind_handles kind.WholePkt c told = record { same = refl; more = omega arith; brought = refl }

brought_is : (k : Kind) → brought_by k ≡ behind k + 1
brought_is kind.NoCache = refl
brought_is kind.WrongVif = refl
brought_is kind.WholePkt = refl

-- what polling does: at most one entry more than reports bring
record Polls (c c' : Course) : Type 0 where
  pub same : bare c'.machine ≡ bare c.machine
  pub more : length c'.deeds + length c'.machine.learned + brought_in c.deeds ≤ length c.deeds + length c.machine.learned + 1 + brought_in c'.deeds

poll_by : (n : ℕ) (c : Course) (o : Option Told) (rest : List Answer) → ((d : Course) → Polls d (polled n d)) → Polls c (option_map_or (λ told. polled n (handled (received c (o, rest)) told)) o (received c (o, rest)))
poll_by n c None rest ih = record {
  same = refl;
  more = omega (arith, length-append c.deeds (Received None ∷ []), sum_by-append brought c.deeds (Received None ∷ []));
}
poll_by n c (Some told) rest ih =
    let c₁ = received c (Some told, rest) in
    let h = kind_handles told.kind c₁ told in
    let p = ih (handled c₁ told) in
    record {
      same = p.same ∙ h.same;
      more = omega (arith, p.more, h.more, h.brought, brought_is told.kind, length-append c.deeds (Received (Some told) ∷ []), sum_by-append brought c.deeds (Received (Some told) ∷ []));
    }

polls : (n : ℕ) (c : Course) → Polls c (polled n c)
polls zero c = record { same = refl; more = omega arith }
polls (suc n) c = poll_by n c (next_report c.answers).0 (next_report c.answers).1 (polls n)

-- a poll makes one entry at least, if it asks for any
polls_some : (n : ℕ) (c : Course) (o : Option Told) (rest : List Answer) → Extends (received c (o, rest)) (option_map_or (λ told. polled n (handled (received c (o, rest)) told)) o (received c (o, rest)))
polls_some n c None rest = record { more = []; is = sym (append-nil (received c (None, rest)).deeds) }
polls_some n c (Some told) rest = extends_trans (received c (Some told, rest)) (handled (received c (Some told, rest)) told) (polled n (handled (received c (Some told, rest)) told)) (work_extends (received c (Some told, rest)) (report c.machine told)) (polls_extend n (handled (received c (Some told, rest)) told))

longer : (c c' : Course) → Extends c c' → length c.deeds ≤ length c'.deeds
longer c c' e = omega (arith, ap (λ (l : List Deed). length l) e.is, length-append c.deeds e.more)

poll_beside : (n k w : ℕ) (c0 c : Course) → Beside k w c0 c → Beside k w (polled n c0) (polled n c)
poll_beside zero k w c0 c b = b
poll_beside (suc n) k w c0 c b =
    let p = polls (suc n) c in
    let e = longer (received c (next_report c.answers)) (polled (suc n) c) (polls_some n c (next_report c.answers).0 (next_report c.answers).1) in
    let first : polled (suc n) c0 ≡ received c0 (None, []) = ap (λ (x : List Answer). polled (suc n) (record c0 { answers = x })) b.none in
    subst (λ (x : Course). Beside k w x (polled (suc n) c)) (sym first) (record {
      same = b.same ∙ sym p.same;
      unlearned = b.unlearned;
      none = refl;
      lower = omega (arith, e, b.lower, length-append c.deeds (Received (next_report c.answers).0 ∷ []), length-append c0.deeds (Received None ∷ []));
      upper = omega (arith, p.more, b.upper, length-append c0.deeds (Received None ∷ []));
    })

tick_beside : (ms k w : ℕ) (c0 c : Course) → Beside k w c0 c → Beside k w (driven c0 (Tick ms)) (driven c (Tick ms))
tick_beside ms k w c0 c b = record {
  same = b.same;
  unlearned = b.unlearned;
  none = b.none;
  lower = omega (arith, b.lower, length-append c.deeds (Ticked ms ∷ []), length-append c0.deeds (Ticked ms ∷ []));
  upper = omega (arith, b.upper, length-append c.deeds (Ticked ms ∷ []), length-append c0.deeds (Ticked ms ∷ []), sum_by-append brought c.deeds (Ticked ms ∷ []));
}

pub line_beside : (l : Line) (k w : ℕ) (c0 c : Course) → Beside k w c0 c → Beside k w (driven c0 l) (driven c l)
line_beside Start k w c0 c b = command_beside k w c0 c (codes "start") b
line_beside (Poll n) k w c0 c b = poll_beside n k w c0 c b
line_beside (Tick ms) k w c0 c b = tick_beside ms k w c0 c b
line_beside (Command words) k w c0 c b = command_beside k w c0 c words b

pub lines_beside : (ls : List Line) (k w : ℕ) (c0 c : Course) → Beside k w c0 c → Beside k w (fold driven c0 ls) (fold driven c ls)
lines_beside [] k w c0 c b = b
lines_beside (l ∷ ls) k w c0 c b = lines_beside ls k w (driven c0 l) (driven c l) (line_beside l k w c0 c b)

-- a course whose machine has learned nothing yet
pub bounded : (m : Machine) (ls : List Line) (answers : List Answer) → m.learned ≡ [] → Beside 0 0 (smc m ls []) (smc m ls answers)
bounded m ls answers none = lines_beside ls 0 0 (record { machine = m; deeds = []; text = []; answers = [] }) (record { machine = m; deeds = []; text = []; answers = answers }) (record {
  same = refl;
  unlearned = none;
  none = refl;
  lower = omega arith;
  upper = omega (arith, ap (λ (l : List Learned). length l) none);
})

pub bounded_least : (m : Machine) (ls : List Line) (answers : List Answer) → m.learned ≡ [] → length (smc m ls []).deeds ≤ length (smc m ls answers).deeds
bounded_least m ls answers none = omega (arith, (bounded m ls answers none).lower)

pub bounded_most : (m : Machine) (ls : List Line) (answers : List Answer) → m.learned ≡ [] → length (smc m ls answers).deeds ≤ length (smc m ls []).deeds + brought_in (smc m ls answers).deeds
bounded_most m ls answers none = omega (arith, (bounded m ls answers none).upper)
