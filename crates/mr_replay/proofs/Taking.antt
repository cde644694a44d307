-- Turns of daemons: of one, and of one more behind others.
use Rattle.std.proofs.Common.{◌≡◌, ◌∙◌, ℕ, zero, suc, ◌+◌, ◌<◌, ◌==◌, Bool, true, false, Option, None, Ok, Err, List, [], ◌∷◌, ◌++◌, length, get_or, refl, sym, ap, arith, subst}
use Rattle.std.proofs.lemmas.List.{length-append}
use Rattle.std.specs.Prelude.{IfErr, IfOk, IfSome, IsErrOf, IsOk, is_ok}
use Rattle.mr_model.specs.declared.caller.CallError.{CallError}
use Rattle.mr_model.specs.declared.caller.CallError.TheVariants as call_error
use Rattle.mr_model.specs.declared.limits.Limits.{Limits}
use Rattle.mr_replay.specs.Turns.{AllTurn, AreNumbered, AreReady, HasSeenOn, IsIdle, IsPlainFor, LinesSuit, PlayTurn, Stop, Turn, first_stop}
use Rattle.mr_router.specs.Callers.{DaemonValue}
use Rattle.mr_router.specs.Deeds.{controls_left, deeds}
use Rattle.mr_scenario.specs.declared.scenario.ScriptLine.{ScriptLine}
use Rattle.smc_core.specs.Machine.{Machine}
use Rattle.smc_daemon.specs.Lines.{lines_among}
use Rattle.smc_driver.specs.Playing.{BreaksOff, Plays}

-- what the driver says of a turn
pub play_turn : (limits : Limits) (ls : List ScriptLine) (d : ℕ) (m m' : Machine) (stop : Stop) (old new : DaemonValue) → HasSeenOn old new
    → IfOk stop (λ _. Plays m (lines_among d ls) (deeds old) (deeds new) m') → IfOk stop (λ _. IsIdle m') → IfErr stop (λ e. BreaksOff e m (lines_among d ls) (deeds old) (deeds new))
    → (IsErrOf stop call_error.ControlFull → controls_left limits new ≡ 0) → PlayTurn limits ls d m m' stop old new
play_turn limits ls d m m' (Ok u) old new seen plays idle breaks full = record { seen = seen; plays = plays; idle = idle }
play_turn limits ls d m m' (Err e) old new seen plays idle breaks full = record {
  seen = seen;
  breaks = breaks;
  full = λ is. let none : controls_left limits new ≡ 0 = full (ap Err is) in omega (arith, none);
}

-- a list with one element more, by index
pub got_last : {X : Type 0} (xs : List X) (x d : X) (i : ℕ) → i ≡ length xs → get_or (xs ++ x ∷ []) i d ≡ x
got_last [] x d zero is = refl
got_last [] x d (suc i) is = absurd (omega (arith, is))
got_last (y ∷ xs) x d zero is = absurd (omega (arith, is))
got_last (y ∷ xs) x d (suc i) is = got_last xs x d i (omega (arith, is))

pub got_first : {X : Type 0} (xs ys : List X) (d : X) (i : ℕ) → i < length xs → get_or (xs ++ ys) i d ≡ get_or xs i d
got_first [] ys d i less = absurd (omega (arith, less))
got_first (x ∷ xs) ys d zero less = refl
got_first (x ∷ xs) ys d (suc i) less = got_first xs ys d i (omega (arith, less))

longer : {X : Type 0} (xs : List X) (x : X) → length (xs ++ x ∷ []) ≡ length xs + 1
longer xs x = omega (arith, length-append xs (x ∷ []))

-- daemons without the last one
pub numbered_first : (ds : List DaemonValue) (d : DaemonValue) → AreNumbered (ds ++ d ∷ []) → AreNumbered ds
numbered_first ds d are = λ i x less.
    let inside : i < length (ds ++ d ∷ []) = omega (arith, less, longer ds d) in
    ap (λ (y : DaemonValue). y.daemon.0) (sym (got_first ds (d ∷ []) x i less)) ∙ are i x inside

pub numbered_last : (ds : List DaemonValue) (d : DaemonValue) → AreNumbered (ds ++ d ∷ []) → d.daemon.0 ≡ length ds + 1
numbered_last ds d are =
    let inside : length ds < length (ds ++ d ∷ []) = omega (arith, longer ds d) in
    ap (λ (y : DaemonValue). y.daemon.0) (sym (got_last ds d d (length ds) refl)) ∙ are (length ds) d inside

pub ready_first : (ds : List DaemonValue) (d : DaemonValue) (ms : List (Option Machine)) (m : Option Machine) → AreReady (ds ++ d ∷ []) (ms ++ m ∷ []) → AreReady ds ms
ready_first ds d ms m r =
    let many : length ms ≡ length ds = omega (arith, r.many, longer ds d, longer ms m) in
    record {
      many = many;
      idle = λ i less.
          let inside : i < length (ds ++ d ∷ []) = omega (arith, less, longer ds d) in
          let here : i < length ms = omega (arith, less, many) in
          subst (λ (o : Option Machine). IfSome o IsIdle) (got_first ms (m ∷ []) None i here) (r.idle i inside);
    }

pub ready_last : (ds : List DaemonValue) (d : DaemonValue) (ms : List (Option Machine)) (m : Option Machine) → AreReady (ds ++ d ∷ []) (ms ++ m ∷ []) → IfSome m IsIdle
ready_last ds d ms m r =
    let same : length ds ≡ length ms = omega (arith, r.many, longer ds d, longer ms m) in
    let inside : length ds < length (ds ++ d ∷ []) = omega (arith, longer ds d) in
    subst (λ (o : Option Machine). IfSome o IsIdle) (got_last ms m None (length ds) same) (r.idle (length ds) inside)

pub suit_first : (ls : List ScriptLine) (ms : List (Option Machine)) (m : Option Machine) → LinesSuit ls (ms ++ m ∷ []) → LinesSuit ls ms
suit_first ls ms m s = λ i less.
    let inside : i < length (ms ++ m ∷ []) = omega (arith, less, longer ms m) in
    subst (λ (o : Option Machine). IsPlainFor (i + 1) o ls) (got_first ms (m ∷ []) None i less) (s i inside)

pub suit_last : (ls : List ScriptLine) (ms : List (Option Machine)) (m : Option Machine) → LinesSuit ls (ms ++ m ∷ []) → IsPlainFor (length ms + 1) m ls
suit_last ls ms m s =
    let inside : length ms < length (ms ++ m ∷ []) = omega (arith, longer ms m) in
    subst (λ (o : Option Machine). IsPlainFor (length ms + 1) o ls) (got_last ms m None (length ms) refl) (s (length ms) inside)

-- no daemon
pub none_turned : (limits : Limits) (ls : List ScriptLine) (ds ds' : List DaemonValue) (ms : List (Option Machine)) → length ds ≡ 0 → length ds' ≡ 0 → AllTurn limits ls (Ok tt) ds ms ds' ms
none_turned limits ls ds ds' ms none none' = record {
  many = omega (arith, none, none');
  many_machines = refl;
  stops = λ i. Ok tt;
  each = λ i d less. absurd (omega (arith, less, none));
  all = λ ok i less. refl;
  one = λ e is. absurd (cc is);
}

-- One daemon more: why each stopped,
abbrev pub if_last : Bool → Stop → Stop → Stop
if_last true last other = last
if_last false last other = other

abbrev pub stops_with : ℕ → Stop → (ℕ → Stop) → ℕ → Stop
stops_with n last f i = if_last (i == n) last (f i)

first_ok : (a b : Stop) → IsOk (first_stop a b) → IsOk a × IsOk b
first_ok (Ok u) b ok = (refl, ok)
first_ok (Err e) b ok = absurd (cc ok)

here_is : (n : ℕ) → (n == n) ≡ true
here_is n = grind arith

before_is : (i n : ℕ) → i < n → (i == n) ≡ false
before_is i n less = grind (arith, less)

-- and its turn behind theirs.
pub turns_push : (limits : Limits) (ls : List ScriptLine) (stop last : Stop) (ds ds' : List DaemonValue) (ms ms' : List (Option Machine)) (d d' : DaemonValue) (m m' : Option Machine)
    → length ms ≡ length ds → AllTurn limits ls stop ds ms ds' ms' → Turn limits ls (length ds + 1) m m' last d d'
    → AllTurn limits ls (first_stop stop last) (ds ++ d ∷ []) (ms ++ m ∷ []) (ds' ++ d' ∷ []) (ms' ++ m' ∷ [])
turns_push limits ls stop last ds ds' ms ms' d d' m m' same t turn = record {
  many = omega (arith, longer ds d, longer ds' d', t.many);
  many_machines = omega (arith, longer ms m, longer ms' m', t.many_machines);
  stops = stops_with (length ds) last t.stops;
  each = λ i x less. by_place i x (omega (arith, less, longer ds d)) (i == length ds) refl;
  all = λ ok i less. ok_at i (omega (arith, less, longer ds d)) (first_ok stop last ok) (i == length ds) refl;
  one = λ e is. one_of stop refl e is;
}
  where
    n : ℕ
    n = length ds

    Wanted : ℕ → DaemonValue → Stop → Type 0
    Wanted i x s = Turn limits ls (i + 1) (get_or (ms ++ m ∷ []) i None) (get_or (ms' ++ m' ∷ []) i None) s (get_or (ds ++ d ∷ []) i x) (get_or (ds' ++ d' ∷ []) i x)

    at_last : (i : ℕ) (x : DaemonValue) → i ≡ n → Wanted i x last
    at_last i x is =
        let two : i ≡ length ds' = omega (arith, is, t.many) in
        let three : i ≡ length ms = omega (arith, is, same) in
        let four : i ≡ length ms' = omega (arith, three, t.many_machines) in
        rw (got_last ms m None i three, got_last ms' m' None i four, got_last ds d x i is, got_last ds' d' x i two, is) turn

    at_first : (i : ℕ) (x : DaemonValue) → i < n → Wanted i x (t.stops i)
    at_first i x less =
        let two : i < length ds' = omega (arith, less, t.many) in
        let three : i < length ms = omega (arith, less, same) in
        let four : i < length ms' = omega (arith, three, t.many_machines) in
        rw (got_first ms (m ∷ []) None i three, got_first ms' (m' ∷ []) None i four, got_first ds (d ∷ []) x i less, got_first ds' (d' ∷ []) x i two) (t.each i x less)

    by_place : (i : ℕ) (x : DaemonValue) → i < n + 1 → (b : Bool) → (i == n) ≡ b → Wanted i x (stops_with n last t.stops i)
    by_place i x less true is = rw is (at_last i x (grind (arith, is)))
    by_place i x less false is = rw is (at_first i x (grind (arith, is, less)))

    ok_at : (i : ℕ) → i < n + 1 → IsOk stop × IsOk last → (b : Bool) → (i == n) ≡ b → IsOk (stops_with n last t.stops i)
    ok_at i less ok true is = rw is ok.1
    ok_at i less ok false is = rw is (t.all ok.0 i (grind (arith, is, less)))

    one_of : (s : Stop) → stop ≡ s → (e : CallError) → first_stop stop last ≡ Err e → (i : ℕ) × (i < length (ds ++ d ∷ [])) × (stops_with n last t.stops i ≡ Err e)
    one_of (Ok u) is e first =
        let its : last ≡ Err e = subst (λ (s : Stop). first_stop s last ≡ Err e) is first in
        (n, (omega (arith, longer ds d)), rw (here_is n) its)
    one_of (Err x) is e first =
        let its : stop ≡ Err e = is ∙ subst (λ (s : Stop). first_stop s last ≡ Err e) is first in
        let at = t.one e its in
        (at.0, (omega (arith, at.1, longer ds d)), rw (before_is at.0 n at.1) at.2)

-- The last daemon and its machine, taken off lists that are known whole.
pub first_numbered : (all ds : List DaemonValue) (d : DaemonValue) → all ≡ ds ++ d ∷ [] → AreNumbered all → AreNumbered ds
first_numbered all ds d is are = numbered_first ds d (subst AreNumbered is are)

pub last_numbered : (all ds : List DaemonValue) (d : DaemonValue) (n : ℕ) → all ≡ ds ++ d ∷ [] → n ≡ length ds + 1 → AreNumbered all → d.daemon.0 ≡ n
last_numbered all ds d n is number are = numbered_last ds d (subst AreNumbered is are) ∙ sym number

both_ready : (all ds : List DaemonValue) (d : DaemonValue) (mall ms : List (Option Machine)) (m : Option Machine) → all ≡ ds ++ d ∷ [] → mall ≡ ms ++ m ∷ [] → AreReady all mall → AreReady (ds ++ d ∷ []) (ms ++ m ∷ [])
both_ready all ds d mall ms m is mis r =
    subst (λ (xs : List DaemonValue). AreReady xs (ms ++ m ∷ [])) is (subst (λ (xs : List (Option Machine)). AreReady all xs) mis r)

pub first_ready : (all ds : List DaemonValue) (d : DaemonValue) (mall ms : List (Option Machine)) (m : Option Machine) → all ≡ ds ++ d ∷ [] → mall ≡ ms ++ m ∷ [] → AreReady all mall → AreReady ds ms
first_ready all ds d mall ms m is mis r = ready_first ds d ms m (both_ready all ds d mall ms m is mis r)

pub last_ready : (all ds : List DaemonValue) (d : DaemonValue) (mall ms : List (Option Machine)) (m : Option Machine) → all ≡ ds ++ d ∷ [] → mall ≡ ms ++ m ∷ [] → AreReady all mall → IfSome m IsIdle
last_ready all ds d mall ms m is mis r = ready_last ds d ms m (both_ready all ds d mall ms m is mis r)

pub first_suit : (ls : List ScriptLine) (mall ms : List (Option Machine)) (m : Option Machine) → mall ≡ ms ++ m ∷ [] → LinesSuit ls mall → LinesSuit ls ms
first_suit ls mall ms m mis s = suit_first ls ms m (subst (LinesSuit ls) mis s)

pub last_suit : (ls : List ScriptLine) (mall ms : List (Option Machine)) (m : Option Machine) (n : ℕ) → mall ≡ ms ++ m ∷ [] → n ≡ length ms + 1 → LinesSuit ls mall → IsPlainFor n m ls
last_suit ls mall ms m n mis number s =
    subst (λ (k : ℕ). IsPlainFor k m ls) (sym number) (suit_last ls ms m (subst (LinesSuit ls) mis s))

-- and behind the turns of all
pub all_turned : (limits : Limits) (ls : List ScriptLine) (stop last stop' : Stop) (all ds ds' all' : List DaemonValue) (mall ms ms' mall' : List (Option Machine)) (d d' : DaemonValue) (m m' : Option Machine) (n : ℕ)
    → all ≡ ds ++ d ∷ [] → mall ≡ ms ++ m ∷ [] → all' ≡ ds' ++ d' ∷ [] → mall' ≡ ms' ++ m' ∷ [] → stop' ≡ first_stop stop last → n ≡ length ds + 1
    → AreReady all mall → AllTurn limits ls stop ds ms ds' ms' → Turn limits ls n m m' last d d' → AllTurn limits ls stop' all mall all' mall'
all_turned limits ls stop last stop' all ds ds' all' mall ms ms' mall' d d' m m' n is mis is' mis' stops number r t turn =
    let same : length ms ≡ length ds = (first_ready all ds d mall ms m is mis r).many in
    let here : Turn limits ls (length ds + 1) m m' last d d' = subst (λ (k : ℕ). Turn limits ls k m m' last d d') number turn in
    rw (is, mis, is', mis', stops) (turns_push limits ls stop last ds ds' ms ms' d d' m m' same t here)

-- the first that stopped
pub first_goes_on : (a b : Stop) → is_ok a ≡ true → b ≡ first_stop a b
first_goes_on (Ok u) b ok = refl
first_goes_on (Err e) b ok = absurd (cc ok)

pub first_stops : (a b : Stop) → is_ok a ≡ false → a ≡ first_stop a b
first_stops (Ok u) b ok = absurd (cc ok)
first_stops (Err e) b ok = refl
