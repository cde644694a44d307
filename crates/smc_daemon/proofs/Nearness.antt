-- What learned routes change in a machine's turn: only further removals, each of which takes off one.
use Rattle.std.proofs.Common.{◌≡◌, ◌+◌, ◌≤◌, ℕ, Bool, true, false, if◌then◌else◌, None, Result, Ok, Err, List, [], ◌∷◌, ◌++◌, length, map, refl, arith}
use Rattle.std.specs.Prelude.{bytes_eq, codes, filter, not}
use Rattle.std.proofs.lemmas.List.{length-append, length-map}
use Rattle.std.proofs.lemmas.List.Filters.{length-filter_both}
use Rattle.mr_model.specs.declared.request.Request.{Request}
use Rattle.mr_words.specs.Binds.{◌>>=◌}
use Rattle.smc_core.specs.Changing.{add, remove, is_of, without_the_rule}
use Rattle.smc_core.specs.Ending.{flush, kill, poll}
use Rattle.smc_core.specs.Joining.{group_in, join, leave}
use Rattle.smc_core.specs.Machine.{Machine, Turn, asking, saying}
use Rattle.smc_core.specs.Mistakes.{wants}
use Rattle.smc_core.specs.Ranges.{range_of, active_key, is_none_behind, names_from}
use Rattle.smc_core.specs.Showing.{show_text, shown}
use Rattle.smc_core.specs.Smc.{command, by_state, by_word, while_running, while_stopped, told_off, show}
use Rattle.smc_core.specs.Starting.{start, reload, reloaded}
use Rattle.smc_core.specs.declared.mistake.Mistake.{Mistake}
use Rattle.smc_core.specs.declared.mistake.Mistake.TheVariants as mistake
use Rattle.smc_core.specs.declared.plan.Plan.{Plan}
use Rattle.smc_rules.specs.Groups.{has_group}
use Rattle.smc_rules.specs.Keys.{is_exact}
use Rattle.smc_rules.specs.Requests.{del_route, del_learned}
use Rattle.smc_rules.specs.Rules.{has_rule}
use Rattle.smc_rules.specs.Settings.{makings}
use Rattle.smc_rules.specs.declared.key.Key.{Key}
use Rattle.smc_rules.specs.declared.learned.Learned.{Learned}
use Rattle.smc_words.specs.Words.{Word, command_words}

-- the machine with these learned routes and this plan
abbrev pub parts : Machine → List Learned → Plan → Machine
parts m ls p = record m { learned = ls; plan = p }

-- no requests are waited for
abbrev pub no_plan : Plan
no_plan = record { left = 0; refused = None; learning = false }

-- all of a machine but its learned routes and its plan
abbrev pub bare : Machine → Machine
bare m = parts m [] no_plan

-- t0 is what t would be without the learned routes ls
pub record IsNear (ls : List Learned) (t0 t : Turn) : Type 0 where
  pub same : bare t0.machine ≡ bare t.machine
  pub none : t0.machine.learned ≡ []
  pub lower : length t0.requests ≤ length t.requests
  pub upper : length t.requests + length t.machine.learned ≤ length t0.requests + length ls

-- the same of turns, or one mistake
abbrev pub AreNear : List Learned → Result Turn Mistake → Result Turn Mistake → Type 0
AreNear ls (Ok t0) (Ok t) = IsNear ls t0 t
AreNear ls (Err e0) (Err e) = e0 ≡ e
AreNear ls (Ok t0) (Err e) = ⊥
AreNear ls (Err e0) (Ok t) = ⊥

near_behind : {A : Type 0} (ls : List Learned) (r : Result A Mistake) (f0 f : A → Result Turn Mistake) → ((x : A) → AreNear ls (f0 x) (f x)) → AreNear ls (r >>= f0) (r >>= f)
near_behind ls (Ok x) f0 f each = each x
near_behind ls (Err e) f0 f each = refl

either : (ls : List Learned) (b : Bool) (x0 y0 x y : Result Turn Mistake) → AreNear ls x0 x → AreNear ls y0 y → AreNear ls (if b then x0 else y0) (if b then x else y)
either ls true x0 y0 x y p q = p
either ls false x0 y0 x y p q = q

start_near : (m : Machine) (ls : List Learned) (p0 p : Plan) (ws : List Word) → AreNear ls (start (parts m [] p0) ws) (start (parts m ls p) ws)
start_near m ls p0 p ws = near_behind ls (wants (is_none_behind ws) mistake.Usage) _ _ (λ x. record { same = refl; none = refl; lower = omega arith; upper = omega arith })

cleared : (xs zs ms : List Request) (ls : List Learned) → length (xs ++ map del_learned [] ++ zs ++ ms) ≤ length (xs ++ map del_learned ls ++ zs ++ ms)
cleared xs zs ms ls = rw (length-append (xs ++ map del_learned [] ++ zs) ms, length-append (xs ++ map del_learned []) zs, length-append xs (map del_learned []), length-append (xs ++ map del_learned ls ++ zs) ms, length-append (xs ++ map del_learned ls) zs, length-append xs (map del_learned ls)) (omega arith)

cleared_most : (xs zs ms : List Request) (ls : List Learned) → length (xs ++ map del_learned ls ++ zs ++ ms) + 0 ≤ length (xs ++ map del_learned [] ++ zs ++ ms) + length ls
cleared_most xs zs ms ls = rw (length-append (xs ++ map del_learned [] ++ zs) ms, length-append (xs ++ map del_learned []) zs, length-append xs (map del_learned []), length-append (xs ++ map del_learned ls ++ zs) ms, length-append (xs ++ map del_learned ls) zs, length-append xs (map del_learned ls), length-map ls del_learned) (omega arith)

reload_near : (m : Machine) (ls : List Learned) (p0 p : Plan) (ws : List Word) → AreNear ls (reload (parts m [] p0) ws) (reload (parts m ls p) ws)
reload_near m ls p0 p ws = near_behind ls (wants (is_none_behind ws) mistake.Usage) _ _ (λ x. record {
  same = refl;
  none = refl;
  lower = cleared _ _ (makings (reloaded (parts m ls p)).settings) ls;
  upper = cleared_most _ _ (makings (reloaded (parts m ls p)).settings) ls;
})

flush_near : (m : Machine) (ls : List Learned) (p0 p : Plan) (ws : List Word) → AreNear ls (flush (parts m [] p0) ws) (flush (parts m ls p) ws)
flush_near m ls p0 p ws = near_behind ls (wants (is_none_behind ws) mistake.Usage) _ _ (λ x. record { same = refl; none = refl; lower = omega arith; upper = rw (length-map ls del_learned) (omega arith) })

kill_near : (m : Machine) (ls : List Learned) (p0 p : Plan) (ws : List Word) → AreNear ls (kill (parts m [] p0) ws) (kill (parts m ls p) ws)
kill_near m ls p0 p ws = near_behind ls (wants (is_none_behind ws) mistake.Usage) _ _ (λ x. record { same = refl; none = refl; lower = omega arith; upper = omega arith })

poll_near : (m : Machine) (ls : List Learned) (p0 p : Plan) (ws : List Word) → AreNear ls (poll (parts m [] p0) ws) (poll (parts m ls p) ws)
poll_near m ls p0 p ws = near_behind ls (wants (is_none_behind ws) mistake.Usage) _ _ (λ x. record { same = refl; none = refl; lower = omega arith; upper = omega arith })

-- two texts, or one mistake
abbrev AreTexts : Result (List ℕ) Mistake → Result (List ℕ) Mistake → Type 0
AreTexts (Ok t0) (Ok t) = Unit {0}
AreTexts (Err e0) (Err e) = e0 ≡ e
AreTexts (Ok t0) (Err e) = ⊥
AreTexts (Err e0) (Ok t) = ⊥

either_text : (b : Bool) (x0 y0 x y : Result (List ℕ) Mistake) → AreTexts x0 x → AreTexts y0 y → AreTexts (if b then x0 else y0) (if b then x else y)
either_text true x0 y0 x y p q = p
either_text false x0 y0 x y p q = q

text_behind : {A : Type 0} (r : Result A Mistake) (f0 f : A → Result (List ℕ) Mistake) → ((x : A) → AreTexts (f0 x) (f x)) → AreTexts (r >>= f0) (r >>= f)
text_behind (Ok x) f0 f each = each x
text_behind (Err e) f0 f each = refl

shown_texts : (m0 m : Machine) (w : Word) → AreTexts (shown m0 w) (shown m w)
shown_texts m0 m w =
    either_text (bytes_eq w (codes "routes")) _ _ _ _ tt
    (either_text (bytes_eq w (codes "groups")) _ _ _ _ tt
    (either_text (bytes_eq w (codes "interfaces")) _ _ _ _ tt refl))

texts : (m0 m : Machine) (ws : List Word) → AreTexts (show_text m0 ws) (show_text m ws)
texts m0 m [] = tt
texts m0 m (w ∷ ws) = text_behind (wants (is_none_behind ws) mistake.Usage) _ _ (λ x. shown_texts m0 m w)

says_near : (m : Machine) (ls : List Learned) (p0 p : Plan) (r0 r : Result (List ℕ) Mistake) → AreTexts r0 r → AreNear ls (r0 >>= λ t. Ok (saying (parts m [] p0) t)) (r >>= λ t. Ok (saying (parts m ls p) t))
says_near m ls p0 p (Ok t0) (Ok t) e = record { same = refl; none = refl; lower = omega arith; upper = omega arith }
says_near m ls p0 p (Err e0) (Err e) is = is
says_near m ls p0 p (Ok t0) (Err e) is = elim is [ ]
says_near m ls p0 p (Err e0) (Ok t) is = elim is [ ]

show_near : (m : Machine) (ls : List Learned) (p0 p : Plan) (ws : List Word) → AreNear ls (show (parts m [] p0) ws) (show (parts m ls p) ws)
show_near m ls p0 p ws = says_near m ls p0 p (show_text (parts m [] p0) ws) (show_text (parts m ls p) ws) (texts (parts m [] p0) (parts m ls p) ws)

add_near : (m : Machine) (ls : List Learned) (p0 p : Plan) (ws : List Word) → AreNear ls (add (parts m [] p0) ws) (add (parts m ls p) ws)
add_near m ls p0 p ws =
    near_behind ls (range_of ws) _ _ (λ r. near_behind ls (wants (not (is_none_behind r.behind)) mistake.Usage) _ _ (λ x.
    near_behind ls (active_key m.settings.interfaces r) _ _ (λ k. near_behind ls (names_from m.settings.interfaces [] r.behind) _ _ (λ outs. record { same = refl; none = refl; lower = omega arith; upper = omega arith }))))

-- each learned route goes or stays
pub parted : (q : Learned → Bool) (ls : List Learned) → length (filter q ls) + length (filter (λ l. not (q l)) ls) ≡ length ls
parted q ls = length-filter_both q (λ l. not (q l)) (λ l. refl) ls

removed_near : (b : Bool) (m : Machine) (ls : List Learned) (v : ℕ) (k : Key) (q : Learned → Bool) (r : Request) → IsNear ls
    (asking (record m { learned = if b then [] else filter (λ l. not (q l)) [] }) (if b then r ∷ [] else map del_learned (filter q [])))
    (asking (record m { learned = if b then ls else filter (λ l. not (q l)) ls }) (if b then r ∷ [] else map del_learned (filter q ls)))
removed_near true m ls v k q r = record { same = refl; none = refl; lower = omega arith; upper = omega arith }
removed_near false m ls v k q r = record {
  same = refl;
  none = refl;
  lower = omega arith;
  upper = rw (length-map (filter q ls) del_learned) (omega (arith, parted q ls));
}

remove_near : (m : Machine) (ls : List Learned) (p0 p : Plan) (ws : List Word) → AreNear ls (remove (parts m [] p0) ws) (remove (parts m ls p) ws)
remove_near m ls p0 p ws =
    near_behind ls (range_of ws) _ _ (λ r. near_behind ls (wants (is_none_behind r.behind) mistake.Usage) _ _ (λ x.
    near_behind ls (active_key m.settings.interfaces r) _ _ (λ k. near_behind ls (wants (has_rule m.settings.rules k.1) mistake.NoRoute) _ _ (λ y.
    removed_near (is_exact k.1) (without_the_rule m k.0 k.1) ls k.0 k.1 (is_of k.0 k.1) (del_route k.0 k.1.source.addr k.1.group.addr)))))

join_near : (m : Machine) (ls : List Learned) (p0 p : Plan) (ws : List Word) → AreNear ls (join (parts m [] p0) ws) (join (parts m ls p) ws)
join_near m ls p0 p ws = near_behind ls (group_in m.settings.interfaces ws) _ _ (λ k. record { same = refl; none = refl; lower = omega arith; upper = omega arith })

leave_near : (m : Machine) (ls : List Learned) (p0 p : Plan) (ws : List Word) → AreNear ls (leave (parts m [] p0) ws) (leave (parts m ls p) ws)
leave_near m ls p0 p ws = near_behind ls (group_in m.settings.interfaces ws) _ _ (λ k. near_behind ls (wants (has_group m.settings.groups k) mistake.NoGroup) _ _ (λ x. record { same = refl; none = refl; lower = omega arith; upper = omega arith }))

word_near : (m : Machine) (ls : List Learned) (p0 p : Plan) (w : Word) (ws : List Word) → AreNear ls (by_word (parts m [] p0) w ws) (by_word (parts m ls p) w ws)
word_near m ls p0 p w ws =
    either ls (bytes_eq w (codes "start")) _ _ _ _ refl
    (either ls (bytes_eq w (codes "add")) _ _ _ _ (add_near m ls p0 p ws)
    (either ls (bytes_eq w (codes "remove")) _ _ _ _ (remove_near m ls p0 p ws)
    (either ls (bytes_eq w (codes "join")) _ _ _ _ (join_near m ls p0 p ws)
    (either ls (bytes_eq w (codes "leave")) _ _ _ _ (leave_near m ls p0 p ws)
    (either ls (bytes_eq w (codes "flush")) _ _ _ _ (flush_near m ls p0 p ws)
    (either ls (bytes_eq w (codes "show")) _ _ _ _ (show_near m ls p0 p ws)
    (either ls (bytes_eq w (codes "reload")) _ _ _ _ (reload_near m ls p0 p ws)
    (either ls (bytes_eq w (codes "poll")) _ _ _ _ (poll_near m ls p0 p ws)
    (either ls (bytes_eq w (codes "kill")) _ _ _ _ (kill_near m ls p0 p ws) refl)))))))))

running_near : (m : Machine) (ls : List Learned) (p0 p : Plan) (ws : List Word) → AreNear ls (while_running (parts m [] p0) ws) (while_running (parts m ls p) ws)
running_near m ls p0 p [] = refl
running_near m ls p0 p (w ∷ ws) = word_near m ls p0 p w ws

stopped_near : (m : Machine) (ls : List Learned) (p0 p : Plan) (ws : List Word) → AreNear ls (while_stopped (parts m [] p0) ws) (while_stopped (parts m ls p) ws)
stopped_near m ls p0 p [] = refl
stopped_near m ls p0 p (w ∷ ws) = either ls (bytes_eq w (codes "start")) _ _ _ _ (start_near m ls p0 p ws) refl

told_near : (m : Machine) (ls : List Learned) (p0 p : Plan) (r0 r : Result Turn Mistake) → AreNear ls r0 r → IsNear ls (told_off (parts m [] p0) r0) (told_off (parts m ls p) r)
told_near m ls p0 p (Ok t0) (Ok t) near = near
told_near m ls p0 p (Err e0) (Err e) near = record { same = refl; none = refl; lower = omega arith; upper = omega arith }
told_near m ls p0 p (Ok t0) (Err e) is = elim is [ ]
told_near m ls p0 p (Err e0) (Ok t) is = elim is [ ]

pub command_near : (m : Machine) (ls : List Learned) (p0 p : Plan) (bytes : List ℕ) → IsNear ls (command (parts m [] p0) bytes) (command (parts m ls p) bytes)
command_near m ls p0 p bytes =
    told_near m ls p0 p (by_state (parts m [] p0) (command_words bytes)) (by_state (parts m ls p) (command_words bytes))
    (either ls m.running _ _ _ _ (running_near m ls p0 p (command_words bytes)) (stopped_near m ls p0 p (command_words bytes)))
