-- The (S,G) entries that outcomes and attempts name are there, so their numbers are those of calls
-- so far.
use Rattle.std.proofs.Common.{◌≡◌, ℕ, ◌+◌, ◌<◌, ◌≤◌, ◌==◌, nat_le, is_none, Bool, true, false}
use Rattle.std.proofs.Common.{if◌then◌else◌, Option, Some, None, List, [], ◌∷◌, ◌++◌, length, map}
use Rattle.std.proofs.Common.{find, flat_map, reverse, refl, sym, ap, ◌∙◌, subst, arith}
use Rattle.std.proofs.Common.{length-append}
use Rattle.std.proofs.lemmas.Grind.{common_steps}
use Rattle.std.proofs.lemmas.List.{reverse-append}
use Rattle.std.specs.List.{AllByRecursion}
use Rattle.mr_base.specs.declared.numbers.Addr.{Addr}
use Rattle.mr_base.specs.declared.numbers.DaemonNo.{DaemonNo}
use Rattle.mr_base.specs.declared.numbers.Mask.{Mask}
use Rattle.mr_base.specs.declared.route.Route.{Route}
use Rattle.mr_base.specs.declared.vif_record.VifRecord.{VifRecord}
use Rattle.mr_model.specs.declared.entry.Entry.{Entry}
use Rattle.mr_model.specs.declared.entry.Entry.TheVariants.{Call, Slow}
use Rattle.mr_model.specs.declared.entry.ReleasedId.{ReleasedId}
use Rattle.mr_model.specs.declared.flow.Flow.{Flow}
use Rattle.mr_model.specs.declared.limits.Limits.{Limits}
use Rattle.mr_model.specs.declared.outcome.Cause.TheVariants as cause
use Rattle.mr_model.specs.declared.outcome.Outcome.{Outcome}
use Rattle.mr_model.specs.declared.outcome.Outcome.TheVariants as outcome
use Rattle.mr_model.specs.declared.outcome.Report.TheVariants.{Quiet, Told, Lost}
use Rattle.mr_model.specs.declared.verdict.Verdict.TheVariants as verdict
use Rattle.mr_model.specs.declared.reply.Reply.TheVariants.{Good}
use Rattle.mr_model.specs.declared.request.Request.{Request}
use Rattle.mr_model.specs.declared.request.Request.TheVariants.{AddMfc, AddProxy}
use Rattle.mr_model.specs.Found.{or_else, proxy_in, star_in, wildcard_in, found_in}
use Rattle.mr_model.specs.Messages.{Attempt, attempts_by, last_attempt}
use Rattle.mr_model.specs.Numbers.{NumbersFall}
use Rattle.mr_model.specs.Outcome.{decided, judged, unmet, joins, parks_new, outcome_met}
use Rattle.mr_model.specs.Outcome.{outcome_in}
use Rattle.mr_model.specs.RouteList.{is_entry}
use Rattle.mr_model.specs.State.{State, state, reported, granted}
use Rattle.mr_model.specs.Tables.{Tables}
use Rattle.mr_model.specs.Verdict.{passes, has_register, outs_of, input_of}
use Rattle.mr_model.specs.VifList.{vif_on}
use Rattle.mr_model.specs.WaitingList.{Waiter, Awaiting, awaiting_of}
use Rattle.mr_model.specs.Answer.{release, made_route, freed_by, released_in}
use Rattle.mr_model.specs.Attempt.{attempted_by}
use Rattle.mr_model.specs.Legal.{Agrees, IsLegal}
use Rattle.mr_model.proofs.Induction.{legal_induction, good_released}
use Rattle.mr_model.proofs.Pushing.{state_push, state_count}
use Rattle.mr_model.proofs.Stepping.{step_attempts}
use Rattle.mr_model.proofs.Changing.{routes_fall}
use Rattle.mr_model.proofs.Numbering.{found_below}
use Rattle.mr_history.specs.Journals.{NamesUpTo}

-- what an entry decides names it
named_decided : (n : ℕ) (s : State) (r : Route) (p q : Bool) (input vif : Option ℕ) (outs : Mask)
    → r.number ≤ n
    → NamesUpTo n (decided s r (if p
    then (if q then verdict.Register r.number input outs
    else verdict.Forward r.number input outs) else verdict.Wrong r.number vif))
named_decided n s r true true input vif outs le = le
named_decided n s r true false input vif outs le = le
named_decided n s r false q input vif outs le = le

pub named_judged : (n : ℕ) (s : State) (r : Route) (dev ttl : ℕ) → r.number ≤ n
    → NamesUpTo n (judged s r dev ttl)
named_judged n s r dev ttl le =
    let vifs = s.tables.vifs in
    named_decided n s r (passes vifs s.tables.routes r dev)
    (has_register vifs (outs_of vifs r dev ttl)) (input_of vifs r) (vif_on vifs dev)
    (outs_of vifs r dev ttl) le

named_unmet : (n : ℕ) (limits : Limits) (s : State) (flow : Flow) (v : Option ℕ)
    → NamesUpTo n (unmet limits s flow v)
named_unmet n limits s flow None = tt
named_unmet n limits s flow (Some v) = joined (awaiting_of s.waiting flow.src flow.dst)
  where
    by : (a b c : Bool) → NamesUpTo n
        (if a then outcome.Dropped cause.Entries
        else (if b then outcome.Dropped cause.NoDaemon
        else (if c then outcome.Dropped cause.Upcall else outcome.Parked)))
    by true b c = tt
    by false true c = tt
    by false false true = tt
    by false false false = tt

    either : (a : Bool) → NamesUpTo n (if a then outcome.Dropped cause.Packets else outcome.Parked)
    either true = tt
    either false = tt

    joined : (o : Option Awaiting) → NamesUpTo n (joins limits s o)
    joined None = by (nat_le limits.unresolved (length s.waiting)) (is_none s.owner)
        (nat_le 64 (length s.unread))
    joined (Some a) = either (nat_le 4 (length a.packets))

-- an entry that is met has a number below n where all are
met_below : (n : ℕ) (rs : List Route) (first second : Option Route)
    → ((r : Route) → first ≡ Some r → r.number < n)
    → ((r : Route) → second ≡ Some r → r.number < n)
    → (r : Route) → or_else first second ≡ Some r → r.number < n
met_below n rs None second p q r is = q r is
met_below n rs (Some x) second p q r is = p r is

wildcard_below : (n : ℕ) (rs : List Route) (v : Option ℕ) (dst : Addr) → NumbersFall n rs
    → (r : Route) → wildcard_in rs v dst ≡ Some r → r.number < n
wildcard_below n rs None dst fall r is = cc
wildcard_below n rs (Some i) dst fall r is =
    met_below n rs (star_in rs dst i) (proxy_in rs i) (λ r is. found_below _ n rs r fall is)
    (λ r is. found_below _ n rs r fall is) r is

pub found_number : (n : ℕ) (vifs : List VifRecord) (rs : List Route) (dev : ℕ) (src dst : Addr)
    → NumbersFall n rs → (r : Route) → found_in vifs rs dev src dst ≡ Some r → r.number < n
found_number n vifs rs dev src dst fall r is =
    met_below n rs (find (is_entry src dst) rs) (wildcard_in rs (vif_on vifs dev) dst)
    (λ r is. found_below (is_entry src dst) n rs r fall is)
    (wildcard_below n rs (vif_on vifs dev) dst fall) r is

named_met : (n : ℕ) (limits : Limits) (s : State) (flow : Flow) (o : Option Route)
    → ((r : Route) → o ≡ Some r → r.number < n + 1) → NamesUpTo n (outcome_met limits s flow o)
named_met n limits s flow None below = named_unmet n limits s flow (vif_on s.tables.vifs flow.dev)
named_met n limits s flow (Some r) below = let le = below r refl in
    named_judged n s r flow.dev flow.ttl (omega (arith, le))

-- an outcome names no entry above the last call
pub named_outcome : (limits : Limits) (h : List Entry) (flow : Flow)
    → NamesUpTo (length h) (outcome_in limits (state limits h) flow)
named_outcome limits h flow =
    let s = state limits h in
    named_met (length h) limits s flow
    (found_in s.tables.vifs s.tables.routes flow.dev flow.src flow.dst)
    (found_number (length h + 1) s.tables.vifs s.tables.routes flow.dev flow.src flow.dst
    (routes_fall limits h))

pub named_release : (n : ℕ) (s : State) (r : Route) (ws : List Waiter) → r.number ≤ n
    → AllByRecursion (λ x. NamesUpTo n x.outcome) (release s r ws)
named_release n s r [] le = tt
named_release n s r (w ∷ ws) le = (
  named_judged n s r w.flow.dev w.flow.ttl le,
  named_release n (reported s w.lane w.index (judged s r w.flow.dev w.flow.ttl)) r ws le,
)

pub named_more : (m n : ℕ) (o : Outcome) → m ≤ n → NamesUpTo m o → NamesUpTo n o
named_more m n (outcome.Forward entry input outs) le named = omega (arith, le, named)
named_more m n (outcome.Register entry input outs told) le named = omega (arith, le, named)
named_more m n (outcome.Wrong entry vif report) le named = omega (arith, le, named)
named_more m n outcome.Parked le named = tt
named_more m n (outcome.Dropped cause) le named = tt

-- the entry that a call makes has the call's number
pub named_released : (limits : Limits) (g : List Entry) (d : DaemonNo) (r : Request)
    → AllByRecursion (λ x. NamesUpTo (length g + 1) x.outcome)
    (released_in limits (state limits g) d r)
named_released limits g d (AddMfc c) =
    let s = state limits g in
    named_release (length g + 1) (granted limits s d (AddMfc c)) (made_route s d c)
    (freed_by s c None) (rw (state_count limits g) (omega arith))
named_released limits g d (AddProxy c) =
    let s = state limits g in
    named_release (length g + 1) (granted limits s d (AddProxy c)) (made_route s d c)
    (freed_by s c (Some c.parent)) (rw (state_count limits g) (omega arith))
named_released limits g d r = tt

-- attempts name entries up to n
abbrev pub Within : ℕ → List Attempt → Type 0
Within n xs = AllByRecursion (λ a. a.entry ≤ n) xs

within_more : (m n : ℕ) (xs : List Attempt) → m ≤ n → Within m xs → Within n xs
within_more m n [] le all = tt
within_more m n (a ∷ xs) le all = (omega (arith, le, all.0), within_more m n xs le all.1)

within_append : (n : ℕ) (xs ys : List Attempt) → Within n xs → Within n ys → Within n (xs ++ ys)
within_append n [] ys all more = more
within_append n (a ∷ xs) ys all more = (all.0, within_append n xs ys all.1 more)

within_reverse : (n : ℕ) (xs : List Attempt) → Within n xs → Within n (reverse xs)
within_reverse n [] all = tt
within_reverse n (a ∷ xs) all =
    rw (reverse-append (a ∷ []) xs)
    (within_append n (reverse xs) (a ∷ []) (within_reverse n xs all.1) (all.0, tt))

within_one : (n now : ℕ) (o : Outcome) → NamesUpTo n o → Within n (attempts_by now o)
within_one n now (outcome.Forward entry input outs) named = tt
within_one n now (outcome.Register entry input outs told) named = tt
within_one n now (outcome.Wrong entry vif Quiet) named = tt
within_one n now (outcome.Wrong entry vif Told) named = (named, tt)
within_one n now (outcome.Wrong entry vif Lost) named = (named, tt)
within_one n now outcome.Parked named = tt
within_one n now (outcome.Dropped cause) named = tt

within_each : (n now : ℕ) (rs : List ReleasedId) → AllByRecursion (λ x. NamesUpTo n x.outcome) rs
    → Within n (flat_map (λ x. attempts_by now x.outcome) rs)
within_each n now [] all = tt
within_each n now (x ∷ rs) all =
    within_append n (attempts_by now x.outcome) (flat_map (λ x. attempts_by now x.outcome) rs)
    (within_one n now x.outcome all.0) (within_each n now rs all.1)

within_by : (limits : Limits) (g : List Entry) (e : Entry) → IsLegal limits g → Agrees limits g e
    → Within (length g + 1) (attempted_by (state limits g).now e)
within_by limits g (Slow lane index look flow o) legal a =
    within_one (length g + 1) (state limits g).now o
    (named_more (length g) (length g + 1) o (omega arith)
    (subst (λ (x : Outcome). NamesUpTo (length g) x) (sym a.is_outcome)
    (named_outcome limits g flow)))
within_by limits g (Call d r Good released) legal a =
    within_each (length g + 1) (state limits g).now released
    (subst (λ (rs : List ReleasedId). AllByRecursion
    (λ x. NamesUpTo (length g + 1) x.outcome) rs) (sym (good_released limits g d r released a))
    (named_released limits g d r))
within_by limits g e legal a = tt

-- no attempt of a legal history is for an entry above its last call
pub attempts_within : (limits : Limits) (h : List Entry) → IsLegal limits h
    → Within (length h) (state limits h).attempts
attempts_within limits h legal =
    legal_induction limits (λ g. Within (length g) (state limits g).attempts) tt
    (λ g e legal a all.
    let s = state limits g in
    let longer : length (g ++ e ∷ []) ≡ length g + 1 = length-append g (e ∷ []) in
    rw (longer, state_push limits g e, step_attempts limits s e)
    (within_append (length g + 1) (reverse (attempted_by s.now e)) s.attempts
    (within_reverse (length g + 1) (attempted_by s.now e) (within_by limits g e legal a))
    (within_more (length g) (length g + 1) s.attempts (omega arith) all)))
    h legal

-- so none is for the next one
pub none_attempted : (n : ℕ) (xs : List Attempt) → Within n xs → last_attempt xs (n + 1) ≡ None
none_attempted n [] all = refl
none_attempted n (a ∷ xs) all =
    let other : (a.entry == n + 1) ≡ false = grind (arith, common_steps) in
    rw other (none_attempted n xs all.1)
