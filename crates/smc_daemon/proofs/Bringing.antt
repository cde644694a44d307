-- What the reports of a course bring, they bring as answers, and a poll asks for so many at most.
use Rattle.std.proofs.Common.{◌≡◌, ◌∙◌, ◌+◌, ◌*◌, ◌≤◌, ℕ, zero, suc, Option, Some, None, List, [], ◌∷◌, ◌++◌, refl, sym, ap, arith}
use Rattle.std.specs.Prelude.{sum_by, codes}
use Rattle.std.specs.List.{fold}
use Rattle.std.specs.Option.{option_map_or}
use Rattle.std.proofs.lemmas.List.Sums.{sum_by-append}
use Rattle.mr_model.specs.Deeds.{Deed, Asked, Received, Ticked}
use Rattle.mr_model.specs.declared.message.Kind.{Kind}
use Rattle.mr_model.specs.declared.message.Kind.TheVariants as kind
use Rattle.mr_model.specs.declared.message.Told.{Told}
use Rattle.mr_model.specs.declared.request.Request.{Request}
use Rattle.smc_core.specs.Driving.{Course, Line, Start, Poll, Tick, Command, Answer, Replied, Reported, next_reply, next_report, ask, worked_off, received, handled, polled, driven, smc, answers_in}
use Rattle.smc_core.specs.Machine.{Machine, Turn}
use Rattle.smc_core.specs.Reports.{report}
use Rattle.smc_core.specs.Smc.{command}
use Rattle.smc_daemon.specs.Reporting.{brought, brought_by, brought_in}
use Rattle.smc_daemon.specs.Room.{asked_reports}

-- what answers bring
abbrev bring : List Answer → ℕ
bring [] = 0
bring (Replied a ∷ answers) = bring answers
bring (Reported told ∷ answers) = brought (Received told) + bring answers

bring_is : (ds : List Deed) → bring (answers_in ds) ≡ brought_in ds
bring_is [] = refl
bring_is (Asked r a ∷ ds) = bring_is ds ∙ sym (sum_by-append brought (Asked r a ∷ []) ds ∙ omega arith)
bring_is (Received told ∷ ds) = ap (λ n. brought (Received told) + n) (bring_is ds) ∙ sym (sum_by-append brought (Received told ∷ []) ds ∙ omega arith)
bring_is (Ticked ms ∷ ds) = bring_is ds ∙ sym (sum_by-append brought (Ticked ms ∷ []) ds ∙ omega arith)

-- what was brought and what answers still bring, before and behind, with n reports asked in between
pub record Brings (n : ℕ) (c c' : Course) : Type 0 where
  pub given : brought_in c'.deeds + bring c'.answers ≤ brought_in c.deeds + bring c.answers
  pub asked : brought_in c'.deeds ≤ brought_in c.deeds + 3 * n

brings_trans : (n k : ℕ) (a b c : Course) → Brings n a b → Brings k b c → Brings (n + k) a c
brings_trans n k a b c x y = record { given = omega (arith, x.given, y.given); asked = omega (arith, x.asked, y.asked) }

rest_brings : (answers : List Answer) → bring (next_reply answers).1 ≤ bring answers
rest_brings [] = omega arith
rest_brings (Replied a ∷ answers) = omega arith
rest_brings (Reported told ∷ answers) = omega arith

ask_brings : (c : Course) (r : Request) → Brings 0 c (ask c r)
ask_brings c r =
    let e = sum_by-append brought c.deeds (Asked r (next_reply c.answers).0 ∷ []) in
    record { given = omega (arith, e, rest_brings c.answers); asked = omega (arith, e) }

asks_bring : (rs : List Request) (c : Course) → Brings 0 c (fold ask c rs)
asks_bring [] c = record { given = omega arith; asked = omega arith }
asks_bring (r ∷ rs) c = brings_trans 0 0 c (ask c r) (fold ask c (r ∷ rs)) (ask_brings c r) (asks_bring rs (ask c r))

work_brings : (c : Course) (t : Turn) → Brings 0 c (worked_off c t)
work_brings c t = let b = asks_bring t.requests (record c { machine = t.machine; text = c.text ++ t.text }) in record { given = b.given; asked = b.asked }

reports_bring : (answers : List Answer) → bring (next_report answers).1 + brought (Received (next_report answers).0) ≤ bring answers
reports_bring [] = omega arith
reports_bring (Replied a ∷ answers) = omega arith
reports_bring (Reported told ∷ answers) = omega arith

three_at_most : (k : Kind) → brought_by k ≤ 3
three_at_most kind.NoCache = omega arith
three_at_most kind.WrongVif = omega arith
three_at_most kind.WholePkt = omega arith

told_at_most : (o : Option Told) → brought (Received o) ≤ 3
told_at_most None = omega arith
told_at_most (Some told) = three_at_most told.kind

receive_brings : (c : Course) → Brings 1 c (received c (next_report c.answers))
receive_brings c =
    let e = sum_by-append brought c.deeds (Received (next_report c.answers).0 ∷ []) in
    record {
      given = omega (arith, e, reports_bring c.answers);
      asked = omega (arith, e, told_at_most (next_report c.answers).0);
    }

poll_brings_by : (n : ℕ) (c d : Course) (o : Option Told) → Brings 1 c d → ((c : Course) → Brings n c (polled n c)) → Brings (suc n) c (option_map_or (λ told. polled n (handled d told)) o d)
poll_brings_by n c d None b ih = record { given = b.given; asked = omega (arith, b.asked) }
poll_brings_by n c d (Some told) b ih =
    let w = work_brings d (report d.machine told) in
    let p = ih (handled d told) in
    record { given = omega (arith, b.given, w.given, p.given); asked = omega (arith, b.asked, w.asked, p.asked) }

polls_bring : (n : ℕ) (c : Course) → Brings n c (polled n c)
polls_bring zero c = record { given = omega arith; asked = omega arith }
polls_bring (suc n) c = poll_brings_by n c (received c (next_report c.answers)) (next_report c.answers).0 (receive_brings c) (polls_bring n)

line_brings : (l : Line) (c : Course) → Brings (asked_reports l) c (driven c l)
line_brings Start c = work_brings c (command c.machine (codes "start"))
line_brings (Poll n) c = polls_bring n c
line_brings (Tick ms) c =
    let e = sum_by-append brought c.deeds (Ticked ms ∷ []) in
    record { given = omega (arith, e); asked = omega (arith, e) }
line_brings (Command words) c = work_brings c (command c.machine words)

pub lines_bring : (ls : List Line) (c : Course) → Brings (sum_by asked_reports ls) c (fold driven c ls)
lines_bring [] c = record { given = omega arith; asked = omega arith }
lines_bring (l ∷ ls) c =
    let one = line_brings l c in
    let more = lines_bring ls (driven c l) in
    let e = sum_by-append asked_reports (l ∷ []) ls in
    record { given = omega (arith, one.given, more.given); asked = omega (arith, one.asked, more.asked, e) }

-- what a course brings is no more than what its answers do
pub course_brings : (m : Machine) (ls : List Line) (ds : List Deed) → brought_in (smc m ls (answers_in ds)).deeds ≤ brought_in ds
course_brings m ls ds =
    let b = lines_bring ls (record { machine = m; deeds = []; text = []; answers = answers_in ds }) in
    omega (arith, b.given, bring_is ds)

pub polled_brings : (m : Machine) (ls : List Line) (answers : List Answer) → brought_in (smc m ls answers).deeds ≤ 3 * sum_by asked_reports ls
polled_brings m ls answers =
    let b = lines_bring ls (record { machine = m; deeds = []; text = []; answers = answers }) in
    omega (arith, b.asked)
