-- Counts of what the live parts hold are those of the state.
use Rattle.std.proofs.Common.{◌≡◌, ℕ, ◌==◌, ◌||◌, Bool, true, false, if◌then◌else◌, Option, Some}
use Rattle.std.proofs.Common.{None, option_map, List, [], ◌∷◌, length, map, find, refl, ap, ◌∙◌}
use Rattle.std.proofs.Common.{sym, subst, arith}
use Rattle.std.proofs.lemmas.List.{length-map}
use Rattle.std.proofs.lemmas.Bool.{eqb-true}
use Rattle.std.specs.List.{list_any}
use Rattle.std.proofs.lemmas.Grind.{common_steps}
use Rattle.mr_laws.proofs.Keys.{eqb_swap}
use Rattle.mr_base.specs.declared.route.Route.{Route}
use Rattle.mr_model.specs.declared.outcome.Outcome.{Outcome}
use Rattle.mr_model.specs.Messages.{Attempt, last_attempt, attempts_by}
use Rattle.mr_model.specs.RouteList.{has_number}
use Rattle.mr_model.specs.declared.limits.Limits.{Limits}
use Rattle.mr_model.specs.State.{State}
use Rattle.mr_unres.specs.Entries.{awaiting, awaiting_by}
use Rattle.mr_history.specs.Numbers.{NumberedValue, value_of, with_value, AreBelow, AreFalling}
use Rattle.mr_kernel.specs.declared.live.Live.{Live}
use Rattle.mr_kernel.specs.Standing.{StandsFor, moments, attempt_at, attempted}

pub unread_count : (limits : Limits) (s : State) (l : Live) → StandsFor limits s l
    → length l.unread ≡ length s.unread
unread_count limits s l st = sym (length-map l.unread (λ u. u.id)) ∙ ap length st.unread

pub waiting_count : (limits : Limits) (s : State) (l : Live) → StandsFor limits s l
    → length l.waiting.entries ≡ length s.waiting
waiting_count limits s l st = sym (length-map l.waiting.entries awaiting_by) ∙ ap length st.waiting

-- the moment that is kept for an entry that is there
pub moment_found : (attempts : List Attempt) (rs : List Route) (n : ℕ)
    → list_any (has_number n) rs ≡ true
    → value_of (moments attempts rs) n ≡ Some (last_attempt attempts n)
moment_found attempts [] n there = cc
moment_found attempts (r ∷ rs) n there = by (r.number == n) refl (moment_found attempts rs n)
  where
    by : (b : Bool) → (r.number == n) ≡ b
        → (list_any (has_number n) rs ≡ true
        → value_of (moments attempts rs) n ≡ Some (last_attempt attempts n))
        → (if r.number == n then Some (last_attempt attempts r.number)
        else value_of (moments attempts rs) n) ≡ Some (last_attempt attempts n)
    by true so more = rw so (ap (λ m. Some (last_attempt attempts m)) (eqb-true r.number n so))
    by false so more = rw so (more
        (subst (λ (b : Bool). (b || list_any (has_number n) rs) ≡ true) so there))

pub moment_kept : (limits : Limits) (s : State) (l : Live) (n : ℕ) → StandsFor limits s l
    → list_any (has_number n) s.tables.routes ≡ true
    → value_of l.attempts.items n ≡ Some (last_attempt s.attempts n)
moment_kept limits s l n st there =
    rw (st.attempts) (moment_found s.attempts s.tables.routes n there)

-- an attempt for another entry than these changes no moment of theirs
moments_stay : (entry moment : ℕ) (attempts : List Attempt) (rs : List Route)
    → AreBelow entry (moments attempts rs)
    → moments (attempt_at moment entry ∷ attempts) rs ≡ moments attempts rs
moments_stay entry moment attempts [] below = refl
moments_stay entry moment attempts (r ∷ rs) below =
    let other : (entry == r.number) ≡ false = grind (arith, common_steps) in
    rw (other, moments_stay entry moment attempts rs below.1) refl

-- the moments after one more attempt
pub moments_set : (entry moment : ℕ) (attempts : List Attempt) (rs : List Route)
    → AreFalling (moments attempts rs)
    → moments (attempt_at moment entry ∷ attempts) rs
    ≡ with_value (moments attempts rs) entry (Some moment)
moments_set entry moment attempts [] fall = refl
moments_set entry moment attempts (r ∷ rs) fall =
    by (r.number == entry) refl (moments_set entry moment attempts rs fall.1)
  where
    by : (b : Bool) → (r.number == entry) ≡ b
        → moments (attempt_at moment entry ∷ attempts) rs
        ≡ with_value (moments attempts rs) entry (Some moment)
        → moments (attempt_at moment entry ∷ attempts) (r ∷ rs)
        ≡ with_value (moments attempts (r ∷ rs)) entry (Some moment)
    by true so more =
        let same : r.number ≡ entry = eqb-true r.number entry so in
        let back : (entry == r.number) ≡ true = eqb_swap entry r.number ∙ so in
        let stay : moments (attempt_at moment entry ∷ attempts) rs ≡ moments attempts rs =
        moments_stay entry moment attempts rs
        (subst (λ n. AreBelow n (moments attempts rs)) same fall.0) in
        rw (so, back, stay, same) refl
    by false so more =
        let back : (entry == r.number) ≡ false = eqb_swap entry r.number ∙ so in
        rw (so, back, more) refl

pub attempt_stands : (limits : Limits) (s : State) (l : Live) (o : Outcome) (entry : ℕ)
    (new : NumberedValue (Option ℕ)) → StandsFor limits s l
    → attempts_by s.now o ≡ attempt_at s.now entry ∷ []
    → AreFalling l.attempts.items
    → new.items ≡ with_value l.attempts.items entry (Some l.moment)
    → new.room ≡ l.attempts.room
    → StandsFor limits (attempted s o) (record l { attempts = new })
attempt_stands limits s l o entry new st makes fall set room = record {
  owner = st.owner;
  tables = st.tables;
  slots = st.slots;
  devices = st.devices;
  moment = st.moment;
  waiting = st.waiting;
  limit = st.limit;
  unread = st.unread;
  attempts = rw (set, st.attempts, st.moment, makes)
      (sym (moments_set entry s.now s.attempts s.tables.routes
      (subst (λ (ps : List (ℕ × Option ℕ)). AreFalling ps) st.attempts fall)));
  room = room ∙ st.room;
}

-- an attempt for an entry that is not there changes no moment
pub moments_absent : (entry moment : ℕ) (attempts : List Attempt) (rs : List Route)
    → value_of (moments attempts rs) entry ≡ None
    → moments (attempt_at moment entry ∷ attempts) rs ≡ moments attempts rs
moments_absent entry moment attempts [] none = refl
moments_absent entry moment attempts (r ∷ rs) none =
    by (r.number == entry) refl none (moments_absent entry moment attempts rs)
  where
    by : (b : Bool) → (r.number == entry) ≡ b
        → (if r.number == entry then Some (last_attempt attempts r.number)
        else value_of (moments attempts rs) entry) ≡ None
        → (value_of (moments attempts rs) entry ≡ None
        → moments (attempt_at moment entry ∷ attempts) rs ≡ moments attempts rs)
        → moments (attempt_at moment entry ∷ attempts) (r ∷ rs) ≡ moments attempts (r ∷ rs)
    by true so none more = let bad =
        subst (λ (b : Bool). (if b then Some (last_attempt attempts r.number)
        else value_of (moments attempts rs) entry) ≡ None) so none in cc
    by false so none more =
        let back : (entry == r.number) ≡ false = eqb_swap entry r.number ∙ so in
        let rest = more (subst (λ (b : Bool).
        (if b then Some (last_attempt attempts r.number)
        else value_of (moments attempts rs) entry) ≡ None) so none) in
        rw (back, rest) refl

pub absent_stands : (limits : Limits) (s : State) (l : Live) (o : Outcome) (entry : ℕ)
    → StandsFor limits s l
    → attempts_by s.now o ≡ attempt_at s.now entry ∷ []
    → value_of l.attempts.items entry ≡ None
    → StandsFor limits (attempted s o) l
absent_stands limits s l o entry st makes none = record {
  owner = st.owner;
  tables = st.tables;
  slots = st.slots;
  devices = st.devices;
  moment = st.moment;
  waiting = st.waiting;
  limit = st.limit;
  unread = st.unread;
  attempts = rw (makes, st.attempts) (sym (moments_absent entry s.now s.attempts s.tables.routes
      (subst (λ (ps : List (ℕ × Option ℕ)). value_of ps entry ≡ None) st.attempts none)));
  room = st.room;
}
