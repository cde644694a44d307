-- Which packets an entry gives a fate to.
use Rattle.std.proofs.Common.{◌≡◌, ℕ, suc, ◌+◌, ◌-◌, ◌<◌, ◌≤◌, ◌&&◌, nat_lt, Bool, true, false, not, if◌then◌else◌, Option, Some, None, List, [], ◌∷◌, ◌++◌, length, map, filter, refl, sym, ap, ◌∙◌, ◌⊎◌, inl, inr, arith}
use Rattle.std.proofs.lemmas.Bool.{cases_lt, lt-ltb, le-ltb, ltb-true}
use Rattle.mr_base.specs.declared.numbers.DaemonNo.{DaemonNo}
use Rattle.mr_base.specs.declared.numbers.LaneNo.{LaneNo}
use Rattle.mr_model.specs.declared.ending.Fate.{Fate}
use Rattle.mr_model.specs.declared.ending.Fate.TheVariants.{Released, Expired, Flushed, Waiting}
use Rattle.mr_model.specs.declared.ending.FateLine.{FateLine}
use Rattle.mr_model.specs.declared.entry.Entry.{Entry}
use Rattle.mr_model.specs.declared.entry.Entry.TheVariants.{Call, Slow, Tick}
use Rattle.mr_model.specs.declared.entry.ReleasedId.{ReleasedId}
use Rattle.mr_model.specs.declared.flow.Flow.{Flow}
use Rattle.mr_model.specs.declared.limits.Limits.{Limits}
use Rattle.mr_model.specs.declared.outcome.Outcome.TheVariants.{Parked}
use Rattle.mr_model.specs.declared.reply.Reply.{Reply}
use Rattle.mr_model.specs.declared.reply.Reply.TheVariants.{Good}
use Rattle.mr_model.specs.declared.request.Request.{Request}
use Rattle.mr_model.specs.declared.request.Request.TheVariants.{Finish, Flush}
use Rattle.mr_model.specs.Answer.{released_in}
use Rattle.mr_model.specs.Fate.{names, flushes, fate_in, fate, fates_of, fates}
use Rattle.mr_model.specs.Laws.{fate_after}
use Rattle.mr_model.specs.Legal.{Agrees, CallAgrees, IsLegal}
use Rattle.mr_model.specs.State.{State, state}
use Rattle.mr_model.specs.Waiting.{waiting}
use Rattle.mr_model.specs.WaitingList.{Awaiting, is_waiting, unexpired}
use Rattle.mr_model.proofs.Induction.{good_released}
use Rattle.mr_model.proofs.Pushing.{state_push}
use Rattle.mr_laws.proofs.Counting.{times, waiting_times, times_filter, times_split}
use Rattle.mr_laws.proofs.Moving.{count, Moves, not_named}
use Rattle.mr_laws.proofs.OneFate.{legal_known, legal_moves}
use Rattle.mr_fates.specs.Lines.{waiting_line}
use Rattle.mr_fates.specs.After.{line_after, ended_all, released_each, expired, drops_all, is_without_fates}
use Rattle.mr_fates.proofs.Ending.{fates_both, fates_push, after_none, lines_stay}
use Rattle.mr_fates.proofs.Folding.{mark, marked, each_is, all_is}

-- the entry gives this fate to the packets that pass a test, and to no other
abbrev Gives : Limits → List Entry → Entry → (LaneNo → ℕ → Bool) → Fate → Type 0
Gives limits h e test given = (lane : LaneNo) (index : ℕ) → fate_in limits h e lane index ≡ (if test lane index then Some given else None)

-- those that pass it waited
abbrev Waited : Limits → List Entry → (LaneNo → ℕ → Bool) → Type 0
Waited limits h test = (lane : LaneNo) (index : ℕ) → test lane index ≡ true → fate limits h lane index ≡ Waiting

line_given : (f : Fate) (next : Option Fate) (b : Bool) (given : Fate)
    → next ≡ (if b then Some given else None) → (b ≡ true → f ≡ Waiting)
    → fate_after f next ≡ (if b then given else f)
line_given f next true given gives waited = ap (λ (o : Option Fate). fate_after f o) gives ∙ ap (λ (x : Fate). fate_after x (Some given)) (waited refl)
line_given f next false given gives waited = ap (λ (o : Option Fate). fate_after f o) gives ∙ after_none f

abbrev line : LaneNo → ℕ → Fate → FateLine
line lane index f = record { lane = lane; index = index; fate = f }

mark_line : (lane : LaneNo) (index : ℕ) (f given : Fate) (b : Bool)
    → line lane index (if b then given else f) ≡ mark given b (line lane index f)
mark_line lane index f given true = refl
mark_line lane index f given false = refl

lines_given : (limits : Limits) (h es : List Entry) (e : Entry) (test : LaneNo → ℕ → Bool) (given : Fate)
    → Gives limits h e test given → Waited limits h test
    → map (line_after limits h e) (fates_of limits h es) ≡ map (marked test given) (fates_of limits h es)
lines_given limits h [] e test given gives waited = refl
lines_given limits h (Slow lane index look flow Parked ∷ es) e test given gives waited =
    let old : Fate = fate limits h lane index in
    ap (λ (x : Fate). line lane index x ∷ map (line_after limits h e) (fates_of limits h es))
    (line_given old (fate_in limits h e lane index) (test lane index) given (gives lane index) (waited lane index))
    ∙ ap (λ (f : FateLine). f ∷ map (line_after limits h e) (fates_of limits h es)) (mark_line lane index old given (test lane index))
    ∙ ap (λ (ls : List FateLine). marked test given (line lane index old) ∷ ls) (lines_given limits h es e test given gives waited)
lines_given limits h (x ∷ es) e test given gives waited = lines_given limits h es e test given gives waited

append_none : (ls : List FateLine) → ls ++ [] ≡ ls
append_none [] = refl
append_none (f ∷ ls) = ap (λ (gs : List FateLine). f ∷ gs) (append_none ls)

-- what waits, by how often it does
once_waits : (limits : Limits) (h : List Entry) (lane : LaneNo) (index : ℕ) → IsLegal limits h
    → 1 ≤ count limits h lane index → fate limits h lane index ≡ Waiting
once_waits limits h lane index l some = (legal_known limits lane index h l).waits some

waiting_waits : (limits : Limits) (h : List Entry) (lane : LaneNo) (index : ℕ) → IsLegal limits h
    → is_waiting (waiting limits h) lane index ≡ true → fate limits h lane index ≡ Waiting
waiting_waits limits h lane index l is =
    let some : 0 < count limits h lane index = ltb-true 0 (count limits h lane index) (sym (waiting_times lane index (waiting limits h)) ∙ is) in
    once_waits limits h lane index l (omega (arith, some))

given_waited : (limits : Limits) (h : List Entry) (e : Entry) (lane : LaneNo) (index : ℕ) (f : Fate)
    → fate_in limits h e lane index ≡ Some f → Moves limits h e lane index
    → 1 ≤ count limits h lane index
given_waited limits h e lane index f p (inl s) = let none = s.none in cc
given_waited limits h e lane index f p (inr (inl s)) = let once = s.waited in omega (arith, once)
given_waited limits h e lane index f p (inr (inr s)) = let none = s.none in cc

-- the packets that a good call flushes
flushes_is : (limits : Limits) (g : List Entry) (d : DaemonNo) (r : Request) (ids : List ReleasedId) (lane : LaneNo) (index : ℕ)
    → flushes limits g (Call d r Good ids) lane index ≡ (drops_all r && is_waiting (waiting limits g) lane index)
flushes_is limits g d Finish ids lane index = refl
flushes_is limits g d (Flush bits) ids lane index = refl
flushes_is limits g d r ids lane index = refl

pub fates_released : (limits : Limits) (h : List Entry) (d : DaemonNo) (r : Request) (ids : List ReleasedId)
    → IsLegal limits h → CallAgrees limits h d r Good ids → drops_all r ≡ false
    → fates limits (h ++ Call d r Good ids ∷ []) ≡ released_each (length h + 1) ids (fates limits h)
fates_released limits h d r ids l a keeps =
    fates_both limits h e
    ∙ append_none (map (line_after limits h e) (fates limits h))
    ∙ lines_given limits h h e (names ids) given gives waited
    ∙ sym (each_is (λ (x : ReleasedId). x.lane) (λ (x : ReleasedId). x.index) given ids (fates limits h))
  where
    e : Entry
    e = Call d r Good ids

    given : Fate
    given = Released (length h + 1)

    gives : Gives limits h e (names ids) given
    gives lane index =
        ap (λ (b : Bool). if names ids lane index then Some given else (if b then Some (Flushed (length h + 1)) else None))
        (flushes_is limits h d r ids lane index ∙ ap (λ (b : Bool). b && is_waiting (waiting limits h) lane index) keeps)

    waited : Waited limits h (names ids)
    waited lane index named =
        let is : fate_in limits h e lane index ≡ Some given = gives lane index ∙ ap (λ (b : Bool). if b then Some given else None) named in
        once_waits limits h lane index l (given_waited limits h e lane index given is (legal_moves limits h e lane index l a))

none_released : (limits : Limits) (s : State) (d : DaemonNo) (r : Request) → drops_all r ≡ true
    → released_in limits s d r ≡ []
none_released limits s d Finish p = refl
none_released limits s d (Flush bits) p = refl
none_released limits s d r p = cc

pub fates_flushed : (limits : Limits) (h : List Entry) (d : DaemonNo) (r : Request) (ids : List ReleasedId)
    → IsLegal limits h → CallAgrees limits h d r Good ids → drops_all r ≡ true
    → fates limits (h ++ Call d r Good ids ∷ []) ≡ ended_all (Flushed (length h + 1)) (waiting limits h) (fates limits h)
fates_flushed limits h d r ids l a drops =
    fates_both limits h e
    ∙ append_none (map (line_after limits h e) (fates limits h))
    ∙ lines_given limits h h e (is_waiting (waiting limits h)) given gives (λ lane index is. waiting_waits limits h lane index l is)
    ∙ sym (all_is given (waiting limits h) (fates limits h))
  where
    e : Entry
    e = Call d r Good ids

    given : Fate
    given = Flushed (length h + 1)

    gives : Gives limits h e (is_waiting (waiting limits h)) given
    gives lane index =
        ap (λ (b : Bool). if b then Some (Released (length h + 1)) else (if flushes limits h e lane index then Some given else None))
        (not_named ids lane index (good_released limits h d r ids a ∙ none_released limits (state limits h) d r drops))
        ∙ ap (λ (b : Bool). if b then Some given else None)
        (flushes_is limits h d r ids lane index ∙ ap (λ (b : Bool). b && is_waiting (waiting limits h) lane index) drops)

-- of what is there once at most, m are left and n go
goes_by : (k m n : ℕ) → m + n ≡ k → k ≤ 1 → (nat_lt 0 k && not (nat_lt 0 m)) ≡ nat_lt 0 n
goes_by k m n split once = by (cases_lt 0 m) (cases_lt 0 n)
  where
    by : (0 < m) ⊎ (m ≤ 0) → (0 < n) ⊎ (n ≤ 0) → (nat_lt 0 k && not (nat_lt 0 m)) ≡ nat_lt 0 n
    by (inl some) q = rw (lt-ltb 0 k (omega (arith, split, some)), lt-ltb 0 m some, le-ltb 0 n (omega (arith, split, some, once))) refl
    by (inr none) (inl some) = rw (lt-ltb 0 k (omega (arith, split, some)), le-ltb 0 m none, lt-ltb 0 n some) refl
    by (inr none) (inr zero_n) = rw (le-ltb 0 k (omega (arith, split, none, zero_n)), le-ltb 0 n zero_n) refl

pub fates_expired : (limits : Limits) (h : List Entry) (d : DaemonNo) (ms : ℕ) → IsLegal limits h
    → fates limits (h ++ Tick d ms ∷ []) ≡ ended_all (Expired (length h + 1)) (expired ((state limits h).now + ms) (waiting limits h)) (fates limits h)
fates_expired limits h d ms l =
    fates_both limits h e
    ∙ append_none (map (line_after limits h e) (fates limits h))
    ∙ lines_given limits h h e (is_waiting old) given gives waited
    ∙ sym (all_is given old (fates limits h))
  where
    e : Entry
    e = Tick d ms

    given : Fate
    given = Expired (length h + 1)

    young : Awaiting → Bool
    young a = nat_lt ((state limits h).now + ms - a.since) 10000

    old : List Awaiting
    old = expired ((state limits h).now + ms) (waiting limits h)

    olds : (lane : LaneNo) (index : ℕ) → is_waiting old lane index ≡ nat_lt 0 (times (λ a. not (young a)) lane index (waiting limits h))
    olds lane index =
        waiting_times lane index old ∙ ap (λ (n : ℕ). nat_lt 0 n) (times_filter (λ a. not (young a)) lane index (waiting limits h))

    left : (lane : LaneNo) (index : ℕ) → is_waiting (waiting limits (h ++ e ∷ [])) lane index ≡ nat_lt 0 (times young lane index (waiting limits h))
    left lane index =
        ap (λ (s : State). is_waiting s.waiting lane index) (state_push limits h e)
        ∙ waiting_times lane index (unexpired ((state limits h).now + ms) (waiting limits h))
        ∙ ap (λ (n : ℕ). nat_lt 0 n) (times_filter young lane index (waiting limits h))

    loses_is : (lane : LaneNo) (index : ℕ) → (is_waiting (waiting limits h) lane index && not (is_waiting (waiting limits (h ++ e ∷ [])) lane index)) ≡ is_waiting old lane index
    loses_is lane index =
        ap (λ (b : Bool). b && not (is_waiting (waiting limits (h ++ e ∷ [])) lane index)) (waiting_times lane index (waiting limits h))
        ∙ ap (λ (b : Bool). nat_lt 0 (count limits h lane index) && not b) (left lane index)
        ∙ goes_by (count limits h lane index) (times young lane index (waiting limits h)) (times (λ a. not (young a)) lane index (waiting limits h))
        (times_split young lane index (waiting limits h)) (legal_known limits lane index h l).once
        ∙ sym (olds lane index)

    gives : Gives limits h e (is_waiting old) given
    gives lane index = ap (λ (b : Bool). if b then Some given else None) (loses_is lane index)

    waited : Waited limits h (is_waiting old)
    waited lane index is =
        let some : 0 < times (λ a. not (young a)) lane index (waiting limits h) = ltb-true 0 _ (sym (olds lane index) ∙ is) in
        let split = times_split young lane index (waiting limits h) in
        once_waits limits h lane index l (omega (arith, some, split))

none_by_call : (limits : Limits) (h : List Entry) (d : DaemonNo) (reply : Reply) (r : Request) (ids : List ReleasedId) (lane : LaneNo) (index : ℕ)
    → is_without_fates (Call d r reply ids) ≡ true
    → fate_in limits h (Call d r reply ids) lane index ≡ None
none_by_call limits h d Good r ids lane index p = cc
none_by_call limits h d reply Finish ids lane index p = refl
none_by_call limits h d reply (Flush bits) ids lane index p = refl
none_by_call limits h d reply r ids lane index p = refl

none_given : (limits : Limits) (h : List Entry) (e : Entry) (lane : LaneNo) (index : ℕ)
    → is_without_fates e ≡ true → fate_in limits h e lane index ≡ None
none_given limits h (Call d r reply ids) lane index p = none_by_call limits h d reply r ids lane index p
none_given limits h (Tick d ms) lane index p = cc
none_given limits h e lane index p = refl

none_parked : (limits : Limits) (k : List Entry) (e : Entry) → is_without_fates e ≡ true
    → fates_of limits k (e ∷ []) ≡ []
none_parked limits k (Slow lane index look flow Parked) p = cc
none_parked limits k e p = refl

pub fates_same : (limits : Limits) (h : List Entry) (e : Entry) → is_without_fates e ≡ true
    → fates limits (h ++ e ∷ []) ≡ fates limits h
fates_same limits h e p =
    fates_both limits h e
    ∙ ap (λ (ls : List FateLine). map (line_after limits h e) (fates limits h) ++ ls) (none_parked limits (h ++ e ∷ []) e p)
    ∙ append_none (map (line_after limits h e) (fates limits h))
    ∙ lines_stay limits h e (fates limits h) (λ lane index. none_given limits h e lane index p)

pub fates_parked : (limits : Limits) (h : List Entry) (lane : LaneNo) (index look : ℕ) (flow : Flow)
    → IsLegal limits h → Agrees limits h (Slow lane index look flow Parked)
    → fates limits (h ++ Slow lane index look flow Parked ∷ []) ≡ fates limits h ++ waiting_line lane index ∷ []
fates_parked limits h lane index look flow l a =
    fates_push limits h (Slow lane index look flow Parked) l a
    ∙ ap (λ (ls : List FateLine). ls ++ waiting_line lane index ∷ []) (lines_stay limits h (Slow lane index look flow Parked) (fates limits h) (λ m i. refl))

pub expired_first : (now : ℕ) (a : Awaiting) (ws : List Awaiting)
    → nat_lt (now - a.since) 10000 ≡ false → expired now (a ∷ ws) ≡ a ∷ expired now ws
expired_first now a ws aged = rw aged refl

-- a filter that takes one out leaves fewer
filter_fewer : (test : Awaiting → Bool) (ws : List Awaiting) → length (filter test ws) ≤ length ws
filter_fewer test [] = omega arith
filter_fewer test (a ∷ ws) =
    let more = filter_fewer test ws in
    elim (test a) as (λ b. length (if b then a ∷ filter test ws else filter test ws) ≤ suc (length ws)) [
      | true ↦ omega (arith, more)
      | false ↦ omega (arith, more)
    ]

none_left : (test : Awaiting → Bool) (ws : List Awaiting) → length ws ≤ length (filter test ws)
    → filter (λ a. not (test a)) ws ≡ []
none_left test [] same = refl
none_left test (a ∷ ws) same = by (test a) same (λ more. none_left test ws more)
  where
    by : (b : Bool) → suc (length ws) ≤ length (if b then a ∷ filter test ws else filter test ws) → (length ws ≤ length (filter test ws) → filter (λ x. not (test x)) ws ≡ [])
        → (if not b then a ∷ filter (λ x. not (test x)) ws else filter (λ x. not (test x)) ws) ≡ []
    by true all more = more (omega (arith, all))
    by false all more = absurd (omega (arith, all, filter_fewer test ws))

pub expired_none : (now : ℕ) (ws : List Awaiting) → unexpired now ws ≡ ws → expired now ws ≡ []
expired_none now ws same =
    let long : length (unexpired now ws) ≡ length ws = ap length same in
    none_left (λ a. nat_lt (now - a.since) 10000) ws (omega (arith, long))
