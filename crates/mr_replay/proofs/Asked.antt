-- What a daemon asks, one line after another.
use Rattle.std.proofs.Common.{◌≡◌, ◌∙◌, ℕ, zero, suc, ◌+◌, ◌≤◌, ◌<◌, ◌==◌, true, cond, Option, List, [], ◌∷◌, ◌++◌, length, take, take_all, get_or, refl, sym, ap, arith, append-nil, subst}
use Rattle.std.proofs.Math.Seq.{take-suc}
use Rattle.std.proofs.lemmas.Grind.{flat_map-append}
use Rattle.std.proofs.lemmas.List.{length-append}
use Rattle.std.specs.Prelude.{flat_map}
use Rattle.mr_base.specs.declared.numbers.DaemonNo.{DaemonNo}
use Rattle.mr_callers.specs.Deeds.{Asks}
use Rattle.mr_callers.proofs.Doing.{does_none, does_one, does_then}
use Rattle.mr_load.specs.Made.{asked_in, of_daemon}
use Rattle.mr_model.specs.declared.entry.Entry.{Entry}
use Rattle.mr_model.specs.declared.entry.Entry.TheVariants.{Call, Tick, Recv}
use Rattle.mr_model.specs.declared.entry.ReleasedId.{ReleasedId}
use Rattle.mr_model.specs.declared.limits.Limits.{Limits}
use Rattle.mr_model.specs.declared.message.MessageId.{MessageId}
use Rattle.mr_model.specs.declared.reply.Reply.{Reply}
use Rattle.mr_model.specs.declared.request.Request.{Request}
use Rattle.mr_model.specs.Past.{controls}
use Rattle.mr_replay.specs.Daemons.{FindsEnd, FindsFull, HasAsked, lines_by, made_by}
use Rattle.mr_authors.specs.Authors.{daemon_author, own}
use Rattle.mr_router.specs.Callers.{DaemonValue}
use Rattle.mr_router.specs.Histories.{GoesOn, Makes}
use Rattle.mr_scenario.specs.declared.scenario.Script.{Script}
use Rattle.mr_scenario.specs.declared.scenario.Script.TheVariants as script
use Rattle.mr_scenario.specs.declared.scenario.ScriptLine.{ScriptLine}

itself : (n : ℕ) → (n == n) ≡ true
itself n = grind arith

one_of : (n : ℕ) (x : Script) → cond (n == n) (x ∷ []) [] ≡ x ∷ []
one_of n x = rw (itself n) refl

pub call_asks : (d : DaemonNo) (r : Request) (reply : Reply) (released : List ReleasedId) (h g : List Entry) → g ≡ h ++ Call d r reply released ∷ [] → Asks d.0 (script.Ask r ∷ []) h g
call_asks d r reply released h g e =
    subst (λ (xs : List Script). Asks d.0 xs h g) (one_of d.0 (script.Ask r)) (does_one (16 + d.0) (asked_in d.0) h g (Call d r reply released) e refl)

pub tick_asks : (d : DaemonNo) (ms : ℕ) (h g : List Entry) → g ≡ h ++ Tick d ms ∷ [] → Asks d.0 (script.Tick ms ∷ []) h g
tick_asks d ms h g e =
    subst (λ (xs : List Script). Asks d.0 xs h g) (one_of d.0 (script.Tick ms)) (does_one (16 + d.0) (asked_in d.0) h g (Tick d ms) e refl)

pub recv_asks : (d : DaemonNo) (m : Option MessageId) (h g : List Entry) → g ≡ h ++ Recv d m ∷ [] → Asks d.0 (script.Recv ∷ []) h g
recv_asks d m h g e =
    subst (λ (xs : List Script). Asks d.0 xs h g) (one_of d.0 script.Recv) (does_one (16 + d.0) (asked_in d.0) h g (Recv d m) e refl)

pub asks_none : (d : ℕ) (h : List Entry) → Asks d [] h h
asks_none d h = does_none (16 + d) (asked_in d) h

pub asks_then : (d : ℕ) (a b : List Script) (h m g : List Entry) → Asks d a h m → Asks d b m g → Asks d (a ++ b) h g
asks_then d a b h m g x y = does_then (16 + d) (asked_in d) a b h m g x y

-- the first elements with one more
pub take_push : {X : Type 0} (xs : List X) (i : ℕ) (x : X) → i < length xs → x ≡ get_or xs i x → take (i + 1) xs ≡ take i xs ++ x ∷ []
take_push {X} xs i x less at =
    let next : i + 1 ≡ suc i = omega arith in
    ap (λ (n : ℕ). take n xs) next ∙ take-suc xs i x less ∙ ap (λ (y : X). take i xs ++ y ∷ []) (sym at)

pub lines_push : (d i : ℕ) (ls : List ScriptLine) (l : ScriptLine) → i < length ls → l ≡ get_or ls i l → flat_map (of_daemon d) (take (i + 1) ls) ≡ flat_map (of_daemon d) (take i ls) ++ of_daemon d l
lines_push d i ls l less at =
    ap (flat_map (of_daemon d)) (take_push ls i l less at) ∙ flat_map-append (of_daemon d) (take i ls) (l ∷ [])
    ∙ ap (λ (xs : List Script). flat_map (of_daemon d) (take i ls) ++ xs) (append-nil (of_daemon d l))

-- one line more
pub asks_next : (d i : ℕ) (ls : List ScriptLine) (l : ScriptLine) (h m g : List Entry) → i < length ls → l ≡ get_or ls i l
    → Asks d (flat_map (of_daemon d) (take i ls)) h m → Asks d (of_daemon d l) m g → Asks d (flat_map (of_daemon d) (take (i + 1) ls)) h g
asks_next d i ls l h m g less at x y =
    subst (λ (xs : List Script). Asks d xs h g) (sym (lines_push d i ls l less at))
    (asks_then d (flat_map (of_daemon d) (take i ls)) (of_daemon d l) h m g x y)

-- the lines up to one, and its own, are not more than all
pub lines_within : (d i : ℕ) (ls : List ScriptLine) (l : ScriptLine) → i < length ls → l ≡ get_or ls i l
    → length (flat_map (of_daemon d) (take i ls)) + length (of_daemon d l) ≤ length (flat_map (of_daemon d) ls)
lines_within d i [] l less at = absurd (omega (arith, less))
lines_within d zero (k ∷ ls) l less at = rw at (omega (arith, length-append (of_daemon d k) (flat_map (of_daemon d) ls)))
lines_within d (suc i) (k ∷ ls) l less at =
    let rest = lines_within d i ls l (omega (arith, less)) at in
    omega (arith, rest, length-append (of_daemon d k) (flat_map (of_daemon d) (take i ls)), length-append (of_daemon d k) (flat_map (of_daemon d) ls))

-- nothing is asked
pub has_none : (d : DaemonValue) → HasAsked [] d d
has_none d = record { daemon = refl; asks = asks_none d.daemon.0 (made_by d) }

-- first these, and then those
pub has_then : (a b : List Script) (old now new : DaemonValue) → HasAsked a old now → HasAsked b now new → HasAsked (a ++ b) old new
has_then a b old now new x y = record {
  daemon = y.daemon ∙ x.daemon;
  asks =
      asks_then old.daemon.0 a b (made_by old) (made_by now) (made_by new) x.asks
      (subst (λ (n : DaemonNo). Asks n.0 b (made_by now) (made_by new)) x.daemon y.asks);
}

-- one line more
pub has_next : (n i : ℕ) (ls : List ScriptLine) (l : ScriptLine) (old now new : DaemonValue) → i < length ls → l ≡ get_or ls i l
    → HasAsked (lines_by n (take i ls)) old now → HasAsked (of_daemon n l) now new → HasAsked (lines_by n (take (i + 1) ls)) old new
has_next n i ls l old now new less at x y =
    subst (λ (xs : List Script). HasAsked xs old new) (sym (lines_push n i ls l less at))
    (has_then (lines_by n (take i ls)) (of_daemon n l) old now new x y)

-- a line for which there is no room
pub ends_full : (limits : Limits) (n i : ℕ) (ls : List ScriptLine) (l : ScriptLine) (old now new : DaemonValue) → i < length ls → l ≡ get_or ls i l → length (of_daemon n l) ≡ 1
    → HasAsked (lines_by n (take i ls)) old now → FindsFull limits now new → FindsEnd limits (lines_by n ls) old new
ends_full limits n i ls l old now new less at one x full = record {
  done = lines_by n (take i ls);
  asked = record {
    daemon = full.daemon ∙ x.daemon;
    asks = subst (λ (h : List Entry). Asks old.daemon.0 (lines_by n (take i ls)) (made_by old) h) (sym full.same) x.asks;
  };
  fewer = omega (arith, lines_within n i ls l less at, one);
  full = full.full;
}

-- all lines
pub ends_whole : (n i : ℕ) (ls : List ScriptLine) (old now : DaemonValue) → length ls ≤ i → HasAsked (lines_by n (take i ls)) old now → HasAsked (lines_by n ls) old now
ends_whole n i ls old now le x = subst (λ (xs : List ScriptLine). HasAsked (lines_by n xs) old now) (take_all i ls le) x

-- the answers of the machine
pub call_made : (limits : Limits) (r : Request) (reply : Reply) (released : List ReleasedId) (old new : DaemonValue) → new.daemon ≡ old.daemon
    → Makes limits (daemon_author old.daemon.0) old.seen new.seen (Call old.daemon r reply released) → HasAsked (script.Ask r ∷ []) old new
call_made limits r reply released old new same m = record {
  daemon = same;
  asks = call_asks old.daemon r reply released (made_by old) (made_by new) (ap (λ (n : DaemonNo). own (daemon_author n.0) new.seen) same ∙ m.own);
}

pub tick_made : (limits : Limits) (ms : ℕ) (old new : DaemonValue) → new.daemon ≡ old.daemon
    → Makes limits (daemon_author old.daemon.0) old.seen new.seen (Tick old.daemon ms) → HasAsked (script.Tick ms ∷ []) old new
tick_made limits ms old new same m = record {
  daemon = same;
  asks = tick_asks old.daemon ms (made_by old) (made_by new) (ap (λ (n : DaemonNo). own (daemon_author n.0) new.seen) same ∙ m.own);
}

pub recv_made : (limits : Limits) (message : Option MessageId) (old new : DaemonValue) → new.daemon ≡ old.daemon
    → Makes limits (daemon_author old.daemon.0) old.seen new.seen (Recv old.daemon message) → HasAsked (script.Recv ∷ []) old new
recv_made limits message old new same m = record {
  daemon = same;
  asks = recv_asks old.daemon message (made_by old) (made_by new) (ap (λ (n : DaemonNo). own (daemon_author n.0) new.seen) same ∙ m.own);
}

pub finds_full : (limits : Limits) (old new : DaemonValue) → new.daemon ≡ old.daemon → GoesOn limits (daemon_author old.daemon.0) old.seen new.seen → controls new.seen ≡ limits.controls → FindsFull limits old new
finds_full limits old new same went full = record {
  daemon = same;
  same = ap (λ (n : DaemonNo). own (daemon_author n.0) new.seen) same ∙ went.own;
  full = full;
}
