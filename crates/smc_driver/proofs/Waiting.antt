-- How many replies are waited for is how many requests are made.
use Rattle.std.proofs.Common.{◌≡◌, ◌-◌, ℕ, zero, suc, Bool, true, false, if◌then◌else◌, Option, Some, None, Result, Ok, Err, List, [], ◌∷◌, length, refl}
use Rattle.std.specs.Prelude.{◌==◌, IfOk, bytes_eq, codes, not}
use Rattle.mr_model.specs.declared.message.Kind.{Kind}
use Rattle.mr_model.specs.declared.message.Kind.TheVariants as kind
use Rattle.mr_model.specs.declared.message.Told.{Told}
use Rattle.mr_model.specs.declared.reply.Reply.{Reply}
use Rattle.mr_model.specs.declared.request.Request.{Request}
use Rattle.mr_words.specs.Binds.{◌>>=◌}
use Rattle.smc_core.specs.Machine.{Machine, Turn, silent}
use Rattle.smc_core.specs.Mistakes.{wants}
use Rattle.smc_core.specs.Replies.{reply, followed, settled, plan_after}
use Rattle.smc_core.specs.Reports.{report, report_by, learning}
use Rattle.smc_core.specs.Smc.{command, by_state, by_word, while_running, while_stopped, told_off}
use Rattle.smc_core.specs.Changing.{add, remove}
use Rattle.smc_core.specs.Ending.{flush, kill, poll}
use Rattle.smc_core.specs.Joining.{group_in, join, leave}
use Rattle.smc_core.specs.Ranges.{range_of, active_key, is_none_behind, names_from}
use Rattle.smc_core.specs.Showing.{show_text}
use Rattle.smc_core.specs.Smc.{show}
use Rattle.smc_core.specs.Starting.{start, reload}
use Rattle.smc_core.specs.declared.mistake.Mistake.{Mistake}
use Rattle.smc_core.specs.declared.mistake.Mistake.TheVariants as mistake
use Rattle.smc_rules.specs.Groups.{has_group}
use Rattle.smc_rules.specs.Reports.{asked_for}
use Rattle.smc_rules.specs.Rules.{has_rule}
use Rattle.smc_rules.specs.declared.learned.Learned.{Learned}
use Rattle.smc_words.specs.Words.{Word, command_words}

-- as many replies are waited for as requests are made
pub record Waits (t : Turn) : Type 0 where
  pub is : t.machine.plan.left ≡ length t.requests

waits_behind : {A : Type 0} (r : Result A Mistake) (f : A → Result Turn Mistake) → ((x : A) → IfOk (f x) Waits) → IfOk (r >>= f) Waits
waits_behind (Ok x) f each = each x
waits_behind (Err e) f each = tt

either : (b : Bool) (x y : Result Turn Mistake) → IfOk x Waits → IfOk y Waits → IfOk (if b then x else y) Waits
either true x y p q = p
either false x y p q = q

asks : {t : Turn} → t.machine.plan.left ≡ length t.requests → Waits t
asks e = record { is = e }

start_waits : (m : Machine) (ws : List Word) → IfOk (start m ws) Waits
start_waits m ws = waits_behind (wants (is_none_behind ws) mistake.Usage) _ (λ x. record { is = refl })

reload_waits : (m : Machine) (ws : List Word) → IfOk (reload m ws) Waits
reload_waits m ws = waits_behind (wants (is_none_behind ws) mistake.Usage) _ (λ x. record { is = refl })

flush_waits : (m : Machine) (ws : List Word) → IfOk (flush m ws) Waits
flush_waits m ws = waits_behind (wants (is_none_behind ws) mistake.Usage) _ (λ x. record { is = refl })

kill_waits : (m : Machine) (ws : List Word) → IfOk (kill m ws) Waits
kill_waits m ws = waits_behind (wants (is_none_behind ws) mistake.Usage) _ (λ x. record { is = refl })

poll_waits : (m : Machine) (ws : List Word) → IfOk (poll m ws) Waits
poll_waits m ws = waits_behind (wants (is_none_behind ws) mistake.Usage) _ (λ x. record { is = refl })

show_waits : (m : Machine) (ws : List Word) → m.plan.left ≡ 0 → IfOk (show m ws) Waits
show_waits m ws idle = waits_behind (show_text m ws) _ (λ x. record { is = idle })

add_waits : (m : Machine) (ws : List Word) → IfOk (add m ws) Waits
add_waits m ws =
    waits_behind (range_of ws) _ (λ r. waits_behind (wants (not (is_none_behind r.behind)) mistake.Usage) _ (λ x.
    waits_behind (active_key m.settings.interfaces r) _ (λ k. waits_behind (names_from m.settings.interfaces [] r.behind) _ (λ outs. record { is = refl }))))

remove_waits : (m : Machine) (ws : List Word) → IfOk (remove m ws) Waits
remove_waits m ws =
    waits_behind (range_of ws) _ (λ r. waits_behind (wants (is_none_behind r.behind) mistake.Usage) _ (λ x.
    waits_behind (active_key m.settings.interfaces r) _ (λ k. waits_behind (wants (has_rule m.settings.rules k.1) mistake.NoRoute) _ (λ y. record { is = refl }))))

join_waits : (m : Machine) (ws : List Word) → IfOk (join m ws) Waits
join_waits m ws = waits_behind (group_in m.settings.interfaces ws) _ (λ k. record { is = refl })

leave_waits : (m : Machine) (ws : List Word) → IfOk (leave m ws) Waits
leave_waits m ws = waits_behind (group_in m.settings.interfaces ws) _ (λ k. waits_behind (wants (has_group m.settings.groups k) mistake.NoGroup) _ (λ x. record { is = refl }))

word_waits : (m : Machine) (w : Word) (ws : List Word) → m.plan.left ≡ 0 → IfOk (by_word m w ws) Waits
word_waits m w ws idle =
    either (bytes_eq w (codes "start")) _ _ tt
    (either (bytes_eq w (codes "add")) _ _ (add_waits m ws)
    (either (bytes_eq w (codes "remove")) _ _ (remove_waits m ws)
    (either (bytes_eq w (codes "join")) _ _ (join_waits m ws)
    (either (bytes_eq w (codes "leave")) _ _ (leave_waits m ws)
    (either (bytes_eq w (codes "flush")) _ _ (flush_waits m ws)
    (either (bytes_eq w (codes "show")) _ _ (show_waits m ws idle)
    (either (bytes_eq w (codes "reload")) _ _ (reload_waits m ws)
    (either (bytes_eq w (codes "poll")) _ _ (poll_waits m ws)
    (either (bytes_eq w (codes "kill")) _ _ (kill_waits m ws) tt)))))))))

running_waits : (m : Machine) (ws : List Word) → m.plan.left ≡ 0 → IfOk (while_running m ws) Waits
running_waits m [] idle = tt
running_waits m (w ∷ ws) idle = word_waits m w ws idle

stopped_waits : (m : Machine) (ws : List Word) → IfOk (while_stopped m ws) Waits
stopped_waits m [] = tt
stopped_waits m (w ∷ ws) = either (bytes_eq w (codes "start")) _ _ (start_waits m ws) tt

told_waits : (m : Machine) (r : Result Turn Mistake) → m.plan.left ≡ 0 → IfOk r Waits → Waits (told_off m r)
told_waits m (Ok t) idle w = w
told_waits m (Err e) idle w = record { is = idle }

pub command_waits : (m : Machine) (bytes : List ℕ) → m.plan.left ≡ 0 → Waits (command m bytes)
command_waits m bytes idle =
    told_waits m (by_state m (command_words bytes)) idle
    (either m.running _ _ (running_waits m (command_words bytes) idle) (stopped_waits m (command_words bytes)))

learning_waits : (m : Machine) (o : Option (Request × Learned)) → m.plan.left ≡ 0 → Waits (learning m o)
learning_waits m None idle = record { is = idle }
learning_waits m (Some a) idle = record { is = refl }

report_waits_by : (k : Kind) (m : Machine) (told : Told) → m.plan.left ≡ 0 → Waits (report_by k m told)
report_waits_by kind.NoCache m told idle = learning_waits m (asked_for m.settings told) idle
report_waits_by kind.WrongVif m told idle = record { is = idle }
report_waits_by kind.WholePkt m told idle = record { is = idle }

pub report_waits : (m : Machine) (told : Told) → m.plan.left ≡ 0 → Waits (report m told)
report_waits m told idle = report_waits_by told.kind m told idle

settled_left : (m : Machine) (b : Bool) → (settled m b m.plan.refused).machine.plan.left ≡ m.plan.left
settled_left m true = refl
settled_left m false = refl

followed_left : (m : Machine) (b : Bool) → (if b then settled m m.plan.learning m.plan.refused else silent m).machine.plan.left ≡ m.plan.left
followed_left m true = settled_left m m.plan.learning
followed_left m false = refl

-- a reply less is waited for
pub reply_left : (m : Machine) (a : Reply) → (reply m a).machine.plan.left ≡ m.plan.left - 1
reply_left m a = followed_left (record m { plan = plan_after m.plan a }) (m.plan.left - 1 == 0)
