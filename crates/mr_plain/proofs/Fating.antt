-- The lines of fates behind one more entry.
use Rattle.std.proofs.Common.{◌≡◌, ℕ, zero, suc, ◌+◌, ◌<◌, ◌≤◌, ◌==◌, ◌&&◌, ◌||◌, Bool, true, false, not, if◌then◌else◌, Option, Some, None, List, [], ◌∷◌, ◌++◌, length, map, get_or, set, take, drop, refl, ap, ◌∙◌, subst, arith}
use Rattle.std.proofs.lemmas.Bool.{eqb-true}
use Rattle.std.specs.List.{list_any}
use Rattle.mr_base.specs.declared.errno.Errno.{Errno}
use Rattle.mr_base.specs.declared.numbers.DaemonNo.{DaemonNo}
use Rattle.mr_base.specs.declared.numbers.LaneNo.{LaneNo}
use Rattle.mr_base.specs.declared.route.Route.{Route}
use Rattle.mr_model.specs.declared.ending.Fate.{Fate}
use Rattle.mr_model.specs.declared.ending.Fate.TheVariants.{Released, Expired, Flushed, Waiting}
use Rattle.mr_model.specs.declared.ending.FateLine.{FateLine}
use Rattle.mr_model.specs.declared.entry.Entry.{Entry}
use Rattle.mr_model.specs.declared.entry.Entry.TheVariants.{Call, Slow, Tick}
use Rattle.mr_model.specs.declared.entry.ReleasedId.{ReleasedId}
use Rattle.mr_model.specs.declared.limits.Limits.{Limits}
use Rattle.mr_model.specs.declared.outcome.Outcome.TheVariants as outcome
use Rattle.mr_model.specs.declared.reply.Reply.{Reply}
use Rattle.mr_model.specs.declared.reply.Reply.TheVariants.{Good, Value, Sg, Vif, Refused}
use Rattle.mr_model.specs.declared.request.Request.{Request}
use Rattle.mr_model.specs.declared.request.Request.TheVariants.{Finish, Flush, AddMfc, AddProxy}
use Rattle.mr_model.specs.Answer.{error_of, if_good, release}
use Rattle.mr_model.specs.Fate.{names, fate_in, fate, fates_of, fates}
use Rattle.mr_model.specs.Laws.{fate_after}
use Rattle.mr_model.specs.Outcome.{judged}
use Rattle.mr_model.specs.Past.{index_after, last_index}
use Rattle.mr_model.specs.State.{State, state, is_there, reported}
use Rattle.mr_model.specs.WaitingList.{Waiter, Awaiting, is_waiting, unexpired}
use Rattle.mr_model.proofs.Induction.{same_lane}
use Rattle.mr_model.proofs.Pushing.{state_push, state_count}
use Rattle.mr_model.proofs.PushingFates.{fate_push}
use Rattle.mr_model.proofs.PushingLists.{last_index_push}
use Rattle.mr_plain.specs.Fates.{drops_all, fate_by, gives_fates, line_by, parked_lines}
use Rattle.mr_plain.specs.Following.{Follows}
use Rattle.mr_plain.specs.Holding.{AreFresh}
use Rattle.mr_plain.specs.Sent.{has_slow, IsSent, AreSent, IsIndexed}
use Rattle.mr_plain.proofs.Meetings.{AllSent, found_sent}
use Rattle.mr_plain.proofs.Sending.{above_none, index_rises}

flushes_all : (limits : Limits) (h : List Entry) (d : DaemonNo) (r : Request) (released : List ReleasedId) (lane : LaneNo) (index : ℕ)
    → fate_in limits h (Call d r Good released) lane index
    ≡ (if names released lane index then Some (Released (length h + 1)) else (if drops_all r && is_waiting (state limits h).waiting lane index then Some (Flushed (length h + 1)) else None))
flushes_all limits h d Finish released lane index = refl
flushes_all limits h d (Flush bits) released lane index = refl
flushes_all limits h d r released lane index = refl

abbrev is_good : Reply → Bool
is_good Good = true
is_good reply = false

-- a call that is not good gives none
not_good : (limits : Limits) (h : List Entry) (d : DaemonNo) (r : Request) (reply : Reply) (released : List ReleasedId) (lane : LaneNo) (index : ℕ) → is_good reply ≡ false → fate_in limits h (Call d r reply released) lane index ≡ None
not_good limits h d r Good released lane index bad = absurd cc
not_good limits h d Finish reply released lane index bad = refl
not_good limits h d (Flush bits) reply released lane index bad = refl
not_good limits h d r reply released lane index bad = refl

-- the fate that an entry gives is known by the state
pub fate_known : (limits : Limits) (h : List Entry) (e : Entry) (lane : LaneNo) (index : ℕ) → fate_in limits h e lane index ≡ fate_by (state limits h) e lane index
fate_known limits h (Call d r Good released) lane index = rw (state_count limits h) (flushes_all limits h d r released lane index)
fate_known limits h (Tick d ms) lane index =
    let after : (state limits (h ++ Tick d ms ∷ [])).waiting ≡ unexpired ((state limits h).now + ms) (state limits h).waiting = ap (λ (s : State). s.waiting) (state_push limits h (Tick d ms)) in
    rw (state_count limits h) (ap (λ (ws : List Awaiting). if is_waiting (state limits h).waiting lane index && not (is_waiting ws lane index) then Some (Expired (length h + 1)) else None) after)
fate_known limits h (Call d r (Value v) released) lane index = not_good limits h d r (Value v) released lane index refl
fate_known limits h (Call d r (Sg totals) released) lane index = not_good limits h d r (Sg totals) released lane index refl
fate_known limits h (Call d r (Vif totals) released) lane index = not_good limits h d r (Vif totals) released lane index refl
fate_known limits h (Call d r (Refused errno) released) lane index = not_good limits h d r (Refused errno) released lane index refl
fate_known limits h e lane index = refl

-- a packet that waits has its slow entry
is_sent : (h : List Entry) (lane : LaneNo) (index : ℕ) (w : Waiter) → IsSent h w → (w.lane.0 == lane.0 && w.index == index) ≡ true → has_slow h lane index ≡ true
is_sent h lane index w sent same = by (w.lane.0 == lane.0) (w.index == index) refl refl same
  where
    by : (a b : Bool) → (w.lane.0 == lane.0) ≡ a → (w.index == index) ≡ b → (a && b) ≡ true → has_slow h lane index ≡ true
    by true true one two both =
        subst (λ (i : ℕ). has_slow h lane i ≡ true) (eqb-true w.index index two) (subst (λ (l : LaneNo). has_slow h l w.index ≡ true) (same_lane w.lane lane one) sent.there)
    by true false one two both = absurd cc
    by false b one two both = absurd cc

abbrev among : LaneNo → ℕ → List Waiter → Bool
among lane index ws = list_any (λ w. w.lane.0 == lane.0 && w.index == index) ws

either : (a b : Bool) (C : Type 0) → (a || b) ≡ true → (a ≡ true → C) → (b ≡ true → C) → C
either true b C both one two = one refl
either false b C both one two = two both

any_sent : (h : List Entry) (lane : LaneNo) (index : ℕ) (ws : List Waiter) → AllSent h ws → among lane index ws ≡ true → has_slow h lane index ≡ true
any_sent h lane index [] sent there = absurd cc
any_sent h lane index (w ∷ ws) sent there =
    either (w.lane.0 == lane.0 && w.index == index) (among lane index ws) (has_slow h lane index ≡ true) there (is_sent h lane index w sent.0) (any_sent h lane index ws sent.1)

waiting_sent : (h : List Entry) (lane : LaneNo) (index : ℕ) (waiting : List Awaiting) → AreSent h waiting → is_waiting waiting lane index ≡ true → has_slow h lane index ≡ true
waiting_sent h lane index [] sent there = absurd cc
waiting_sent h lane index (a ∷ waiting) sent there =
    either (among lane index a.packets) (is_waiting waiting lane index) (has_slow h lane index ≡ true) there (any_sent h lane index a.packets sent.0) (waiting_sent h lane index waiting sent.1)

-- what has no slow entry passes none of these tests
not_then : (a b : Bool) → (a ≡ true → b ≡ true) → b ≡ false → a ≡ false
not_then true b more none = absurd (clash b (more refl) none)
  where
    clash : (b : Bool) → b ≡ true → b ≡ false → ⊥
    clash true one two = cc
    clash false one two = cc
not_then false b more none = refl

named : (s : State) (r : Route) (ws : List Waiter) (lane : LaneNo) (index : ℕ) → names (release s r ws) lane index ≡ among lane index ws
named s r [] lane index = refl
named s r (w ∷ ws) lane index =
    ap (λ (b : Bool). (w.lane.0 == lane.0 && w.index == index) || b) (named (reported s w.lane w.index (judged s r w.flow.dev w.flow.ttl)) r ws lane index)

if_names : (errno : Option Errno) (rs released : List ReleasedId) (lane : LaneNo) (index : ℕ) → released ≡ if_good errno rs → names rs lane index ≡ false → names released lane index ≡ false
if_names None rs released lane index is none = ap (λ (xs : List ReleasedId). names xs lane index) is ∙ none
if_names (Some errno) rs released lane index is none = ap (λ (xs : List ReleasedId). names xs lane index) is

there_names : (h : List Entry) (there : Bool) (s : State) (r : Route) (ws : List Waiter) (lane : LaneNo) (index : ℕ) → AllSent h ws → has_slow h lane index ≡ false
    → names (release s r (if there then [] else ws)) lane index ≡ false
there_names h true s r ws lane index sent none = refl
there_names h false s r ws lane index sent none = named s r ws lane index ∙ not_then _ _ (any_sent h lane index ws sent) none

no_names : (limits : Limits) (h : List Entry) (d : DaemonNo) (r : Request) (reply : Reply) (released : List ReleasedId) (lane : LaneNo) (index : ℕ)
    → AreSent h (state limits h).waiting → Follows limits h (Call d r reply released) → has_slow h lane index ≡ false → names released lane index ≡ false
no_names limits h d (AddMfc c) reply released lane index sent follows none =
    if_names (error_of limits (state limits h) d (AddMfc c)) _ released lane index follows.releases
    (there_names h (is_there (state limits h) c None) _ _ _ lane index (found_sent h (state limits h).waiting c.src c.dst sent) none)
no_names limits h d (AddProxy c) reply released lane index sent follows none =
    if_names (error_of limits (state limits h) d (AddProxy c)) _ released lane index follows.releases
    (there_names h (is_there (state limits h) c (Some c.parent)) _ _ _ lane index (found_sent h (state limits h).waiting c.src c.dst sent) none)
no_names limits h d r reply released lane index sent follows none = if_names (error_of limits (state limits h) d r) [] released lane index follows.releases refl

-- a packet without a slow entry gets no fate
no_fate : (limits : Limits) (h : List Entry) (e : Entry) (lane : LaneNo) (index : ℕ) → AreSent h (state limits h).waiting → Follows limits h e → has_slow h lane index ≡ false → fate_by (state limits h) e lane index ≡ None
no_fate limits h (Call d r Good released) lane index sent follows none =
    let not_named : names released lane index ≡ false = no_names limits h d r Good released lane index sent follows none in
    let waits_not : is_waiting (state limits h).waiting lane index ≡ false = not_then _ _ (waiting_sent h lane index (state limits h).waiting sent) none in
    rw (not_named, waits_not) (by (drops_all r))
  where
    by : (b : Bool) → (if b && false then Some (Flushed ((state limits h).count + 1)) else None) ≡ None
    by true = refl
    by false = refl
no_fate limits h (Tick d ms) lane index sent follows none =
    let waits_not : is_waiting (state limits h).waiting lane index ≡ false = not_then _ _ (waiting_sent h lane index (state limits h).waiting sent) none in
    rw waits_not refl
no_fate limits h e lane index sent follows none = refl

fresh_after : (limits : Limits) (h : List Entry) (e : Entry) (lane : LaneNo) (index : ℕ) → AreFresh limits h → IsIndexed h → AreSent h (state limits h).waiting → Follows limits h e → last_index lane h < index
    → fate limits (h ++ e ∷ []) lane index ≡ Waiting
fresh_after limits h e lane index fresh indexed sent follows above =
    fate_push limits h e lane index
    ∙ ap (λ (f : Fate). fate_after f (fate_in limits h e lane index)) (fresh lane index above)
    ∙ ap (λ (o : Option Fate). fate_after Waiting o) (fate_known limits h e lane index ∙ no_fate limits h e lane index sent follows (above_none h lane index indexed above))

pub fresh_push : (limits : Limits) (h : List Entry) (e : Entry) → AreFresh limits h → IsIndexed h → AreSent h (state limits h).waiting → Follows limits h e → AreFresh limits (h ++ e ∷ [])
fresh_push limits h e fresh indexed sent follows = λ lane index above.
    let after : last_index lane (h ++ e ∷ []) ≡ index_after lane (last_index lane h) e = last_index_push lane h e in
    let rises : last_index lane h ≤ index_after lane (last_index lane h) e = index_rises limits h e lane follows in
    fresh_after limits h e lane index fresh indexed sent follows (omega (arith, above, after, rises))

-- each line gets what the entry makes of its packet
lines_more : (limits : Limits) (h es : List Entry) (e : Entry) → fates_of limits (h ++ e ∷ []) es ≡ map (line_by (state limits h) e) (fates_of limits h es)
lines_more limits h [] e = refl
lines_more limits h (Slow lane index look flow outcome.Parked ∷ es) e =
    let line : Fate → FateLine = λ f. record { lane = lane; index = index; fate = f } in
    ap (λ (f : Fate). line f ∷ fates_of limits (h ++ e ∷ []) es)
    (fate_push limits h e lane index ∙ ap (λ (o : Option Fate). fate_after (fate limits h lane index) o) (fate_known limits h e lane index))
    ∙ ap (λ (ls : List FateLine). line (fate_after (fate limits h lane index) (fate_by (state limits h) e lane index)) ∷ ls) (lines_more limits h es e)
lines_more limits h (x ∷ es) e = lines_more limits h es e

-- the line of the last entry stands last
lines_end : (limits : Limits) (k h : List Entry) (e : Entry) → fates_of limits k (h ++ e ∷ []) ≡ fates_of limits k h ++ fates_of limits k (e ∷ [])
lines_end limits k [] e = refl
lines_end limits k (Slow lane index look flow outcome.Parked ∷ h) e =
    ap (λ (ls : List FateLine). record { lane = lane; index = index; fate = fate limits k lane index } ∷ ls) (lines_end limits k h e)
lines_end limits k (x ∷ h) e = lines_end limits k h e

lines_last : (limits : Limits) (h : List Entry) (e : Entry) → AreFresh limits h → IsIndexed h → AreSent h (state limits h).waiting → Follows limits h e → fates_of limits (h ++ e ∷ []) (e ∷ []) ≡ parked_lines e
lines_last limits h (Slow lane index look flow outcome.Parked) fresh indexed sent follows =
    ap (λ (f : Fate). record { lane = lane; index = index; fate = f } ∷ [])
    (fresh_after limits h (Slow lane index look flow outcome.Parked) lane index fresh indexed sent follows follows.next)
lines_last limits h e fresh indexed sent follows = refl

pub lines_push : (limits : Limits) (h : List Entry) (e : Entry) → AreFresh limits h → IsIndexed h → AreSent h (state limits h).waiting → Follows limits h e
    → fates limits (h ++ e ∷ []) ≡ map (line_by (state limits h) e) (fates limits h) ++ parked_lines e
lines_push limits h e fresh indexed sent follows =
    lines_end limits (h ++ e ∷ []) h e
    ∙ ap (λ (ls : List FateLine). ls ++ fates_of limits (h ++ e ∷ []) (e ∷ [])) (lines_more limits h h e)
    ∙ ap (λ (ls : List FateLine). map (line_by (state limits h) e) (fates limits h) ++ ls) (lines_last limits h e fresh indexed sent follows)

-- one line more that got its fate
pub line_more : (f : FateLine → FateLine) (xs : List FateLine) (i : ℕ) (d : FateLine) → i < length xs
    → take (i + 1) (set xs i (f (get_or xs i d))) ++ map f (drop (i + 1) (set xs i (f (get_or xs i d)))) ≡ take i xs ++ map f (drop i xs)
line_more f [] i d within = absurd (omega (arith, within))
line_more f (x ∷ xs) zero d within = refl
line_more f (x ∷ xs) (suc i) d within =
    let next : suc i + 1 ≡ suc (i + 1) = omega arith in
    rw next (ap (λ (ls : List FateLine). x ∷ ls) (line_more f xs i d (omega (arith, within))))

after_none : (f : Fate) → fate_after f None ≡ f
after_none (Released n) = refl
after_none (Expired n) = refl
after_none (Flushed n) = refl
after_none Waiting = refl

kept_by : (s : State) (e : Entry) (lines : List FateLine) → ((lane : LaneNo) (index : ℕ) → fate_by s e lane index ≡ None) → map (line_by s e) lines ≡ lines
kept_by s e [] none = refl
kept_by s e (f ∷ lines) none =
    let line : Fate → FateLine = λ x. record { lane = f.lane; index = f.index; fate = x } in
    ap (λ (x : Fate). line x ∷ map (line_by s e) lines) (ap (λ (o : Option Fate). fate_after f.fate o) (none f.lane f.index) ∙ after_none f.fate)
    ∙ ap (λ (ls : List FateLine). f ∷ ls) (kept_by s e lines none)

-- an entry that gives no fates changes no line
pub kept : (s : State) (e : Entry) (lines : List FateLine) → gives_fates e ≡ false → map (line_by s e) lines ≡ lines
kept s (Call d r reply released) lines given = absurd cc
kept s (Tick d ms) lines given = absurd cc
kept s e lines given = kept_by s e lines (λ lane index. refl)
