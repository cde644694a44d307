-- What is done stays done: whatever a machine makes goes behind it.
use Rattle.std.proofs.Common.{◌≡◌, ◌∙◌, ℕ, zero, suc, Option, Some, None, List, [], ◌∷◌, ◌++◌, refl, sym, ap, append_assoc, append-nil}
use Rattle.std.specs.List.{fold}
use Rattle.std.specs.Prelude.{codes}
use Rattle.std.specs.Option.{option_map_or}
use Rattle.mr_model.specs.Deeds.{Deed, Asked, Received, Ticked}
use Rattle.mr_model.specs.declared.message.Told.{Told}
use Rattle.mr_model.specs.declared.request.Request.{Request}
use Rattle.smc_core.specs.Driving.{Course, Line, Start, Poll, Tick, Command, Answer, ask, worked_off, received, handled, polled, driven, next_reply, next_report}
use Rattle.smc_core.specs.Machine.{Turn}
use Rattle.smc_core.specs.Reports.{report}
use Rattle.smc_core.specs.Smc.{command}

-- c' has done what c has, and more
pub record Extends (c c' : Course) : Type 0 where
  pub more : List Deed
  pub is : c'.deeds ≡ c.deeds ++ more

pub extends_same : (c c' : Course) → c'.deeds ≡ c.deeds → Extends c c'
extends_same c c' is = record { more = []; is = is ∙ sym (append-nil c.deeds) }

pub extends_trans : (a b c : Course) → Extends a b → Extends b c → Extends a c
extends_trans a b c x y = record {
  more = x.more ++ y.more;
  is = y.is ∙ ap (λ l. l ++ y.more) x.is ∙ append_assoc a.deeds x.more y.more;
}

pub asks_extend : (rs : List Request) (c : Course) → Extends c (fold ask c rs)
asks_extend [] c = extends_same c c refl
asks_extend (r ∷ rs) c =
    extends_trans c (ask c r) (fold ask c (r ∷ rs))
    (record { more = Asked r (next_reply c.answers).0 ∷ []; is = refl })
    (asks_extend rs (ask c r))

pub work_extends : (c : Course) (t : Turn) → Extends c (worked_off c t)
work_extends c t =
    let e = asks_extend t.requests (record c { machine = t.machine; text = c.text ++ t.text }) in
    record { more = e.more; is = e.is }

polls_extend_by : (n : ℕ) (c d : Course) (o : Option Told) (rest : List Answer) → ((c : Course) → Extends c (polled n c)) → Extends c d → Extends c (option_map_or (λ told. polled n (handled d told)) o d)
polls_extend_by n c d None rest ih e = e
polls_extend_by n c d (Some told) rest ih e =
    extends_trans c d (polled n (handled d told)) e
    (extends_trans d (handled d told) (polled n (handled d told)) (work_extends d (report d.machine told)) (ih (handled d told)))

pub polls_extend : (n : ℕ) (c : Course) → Extends c (polled n c)
polls_extend zero c = extends_same c c refl
polls_extend (suc n) c =
    polls_extend_by n c (received c (next_report c.answers)) (next_report c.answers).0 (next_report c.answers).1 (polls_extend n)
    (record { more = Received (next_report c.answers).0 ∷ []; is = refl })

pub line_extends : (c : Course) (l : Line) → Extends c (driven c l)
line_extends c Start = work_extends c (command c.machine (codes "start"))
line_extends c (Poll n) = polls_extend n c
line_extends c (Tick ms) = record { more = Ticked ms ∷ []; is = refl }
line_extends c (Command words) = work_extends c (command c.machine words)

pub lines_extend : (ls : List Line) (c : Course) → Extends c (fold driven c ls)
lines_extend [] c = extends_same c c refl
lines_extend (l ∷ ls) c =
    extends_trans c (driven c l) (fold driven c (l ∷ ls)) (line_extends c l) (lines_extend ls (driven c l))
