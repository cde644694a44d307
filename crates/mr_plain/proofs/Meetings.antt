-- The packets that met entries in one more entry, by those that waited.
use Rattle.std.proofs.Common.{◌≡◌, ℕ, ◌+◌, ◌<◌, ◌≤◌, Bool, true, false, if◌then◌else◌, Option, Some, None, List, [], ◌∷◌, ◌++◌, length, map, flat_map, refl, ap, ◌∙◌, arith, length-append}
use Rattle.std.specs.List.{AllByRecursion}
use Rattle.mr_base.specs.declared.errno.Errno.{Errno}
use Rattle.mr_base.specs.declared.numbers.Addr.{Addr}
use Rattle.mr_base.specs.declared.route.Route.{Route}
use Rattle.mr_model.specs.declared.entry.Entry.{Entry}
use Rattle.mr_model.specs.declared.entry.Entry.TheVariants.{Call}
use Rattle.mr_model.specs.declared.entry.ReleasedId.{ReleasedId}
use Rattle.mr_model.specs.declared.limits.Limits.{Limits}
use Rattle.mr_model.specs.declared.outcome.Outcome.{Outcome}
use Rattle.mr_model.specs.declared.outcome.Outcome.TheVariants as outcome
use Rattle.mr_model.specs.declared.request.MfcCtl.{MfcCtl}
use Rattle.mr_model.specs.declared.request.Request.{Request}
use Rattle.mr_model.specs.declared.request.Request.TheVariants.{AddMfc, AddProxy}
use Rattle.mr_model.specs.Answer.{error_of, if_good, release, packets_of}
use Rattle.mr_model.specs.Counts.{Met, met_by, length_of, met_in}
use Rattle.mr_model.specs.Outcome.{judged}
use Rattle.mr_model.specs.State.{State, state, is_there, reported}
use Rattle.mr_model.specs.WaitingList.{Waiter, Awaiting, is_awaiting, awaiting_of}
use Rattle.mr_plain_lists.specs.declared.known.Held.{Held}
use Rattle.mr_plain_lists.specs.Knowing.{waiter}
use Rattle.mr_plain.specs.Following.{Follows}
use Rattle.mr_plain.specs.Meets.{released_mets, waiting_for, mets_in}
use Rattle.mr_plain.specs.Sent.{IsSent, AreSent}

abbrev pub AllSent : List Entry → List Waiter → Type 0
AllSent h ws = AllByRecursion (λ (w : Waiter). IsSent h w) ws

-- the packets of one source and group are sent
pub found_sent : (h : List Entry) (waiting : List Awaiting) (src dst : Addr) → AreSent h waiting → AllSent h (packets_of (awaiting_of waiting src dst))
found_sent h [] src dst sent = tt
found_sent h (a ∷ waiting) src dst sent =
    elim (is_awaiting src dst a) as (λ b. AllSent h (packets_of (if b then Some a else awaiting_of waiting src dst))) [
      | true ↦ sent.0
      | false ↦ found_sent h waiting src dst sent.1
    ]

-- the meeting of a released packet, by its length in the history
abbrev met_as : List Entry → ℕ → ReleasedId → List Met
met_as h place x = met_by place (length_of h x.lane x.index) x.outcome

release_mets : (h : List Entry) (place : ℕ) (s : State) (r : Route) (ws : List Waiter) → AllSent h ws
    → flat_map (met_as h place) (release s r ws) ≡ released_mets place (release s r ws) ws
release_mets h place s r [] sent = refl
release_mets h place s r (w ∷ ws) sent =
    let o : Outcome = judged s r w.flow.dev w.flow.ttl in
    let t : State = reported s w.lane w.index o in
    ap (λ (n : ℕ). met_by place n o ++ flat_map (met_as h place) (release t r ws)) sent.0.long
    ∙ ap (λ (ms : List Met). met_by place w.flow.length o ++ ms) (release_mets h place t r ws sent.1)

-- where nothing is released nothing is met
abbrev SameMets : List Entry → ℕ → List ReleasedId → List Waiter → Type 0
SameMets h place released ws = flat_map (met_as h place) released ≡ released_mets place released ws

if_mets : (h : List Entry) (place : ℕ) (errno : Option Errno) (rs released : List ReleasedId) (ws : List Waiter) → released ≡ if_good errno rs → SameMets h place rs ws → SameMets h place released ws
if_mets h place None rs released ws is same = rw is same
if_mets h place (Some errno) rs released ws is same = rw is refl

there_mets : (h : List Entry) (place : ℕ) (there : Bool) (s : State) (r : Route) (ws : List Waiter) → AllSent h ws → SameMets h place (release s r (if there then [] else ws)) ws
there_mets h place true s r ws sent = refl
there_mets h place false s r ws sent = release_mets h place s r ws sent

pub mets_are : (limits : Limits) (h : List Entry) (e : Entry) → AreSent h (state limits h).waiting → Follows limits h e → met_in h e ≡ mets_in (length h) (state limits h).waiting e
mets_are limits h (Call d (AddMfc c) reply released) sent follows =
    if_mets h (length h + 1) (error_of limits (state limits h) d (AddMfc c)) _ released _ follows.releases
    (there_mets h (length h + 1) (is_there (state limits h) c None) _ _ _ (found_sent h (state limits h).waiting c.src c.dst sent))
mets_are limits h (Call d (AddProxy c) reply released) sent follows =
    if_mets h (length h + 1) (error_of limits (state limits h) d (AddProxy c)) _ released _ follows.releases
    (there_mets h (length h + 1) (is_there (state limits h) c (Some c.parent)) _ _ _ (found_sent h (state limits h).waiting c.src c.dst sent))
mets_are limits h (Call d r reply released) sent follows =
    if_mets h (length h + 1) (error_of limits (state limits h) d r) [] released [] follows.releases refl
mets_are limits h e sent follows = refl

-- No more packets meet entries than wait, or are decided.
pub one_met : (place n : ℕ) (o : Outcome) → length (met_by place n o) ≤ 1
one_met place n (outcome.Forward entry input outs) = omega arith
one_met place n (outcome.Register entry input outs told) = omega arith
one_met place n (outcome.Wrong entry vif report) = omega arith
one_met place n outcome.Parked = omega arith
one_met place n (outcome.Dropped cause) = omega arith

pub few_mets : (place : ℕ) (released : List ReleasedId) (ws : List Waiter) → length (released_mets place released ws) ≤ length ws
few_mets place [] ws = omega arith
few_mets place (x ∷ xs) [] = omega arith
few_mets place (x ∷ xs) (w ∷ ws) =
    let one : length (met_by place w.flow.length x.outcome) ≤ 1 = one_met place w.flow.length x.outcome in
    let more : length (released_mets place xs ws) ≤ length ws = few_mets place xs ws in
    let both : length (met_by place w.flow.length x.outcome ++ released_mets place xs ws) ≡ length (met_by place w.flow.length x.outcome) + length (released_mets place xs ws) = length-append _ _ in
    omega (arith, one, more, both)

-- where nothing waits nothing is met
pub none_met : (place : ℕ) (released : List ReleasedId) → released_mets place released [] ≡ []
none_met place [] = refl
none_met place (x ∷ xs) = refl

pub no_more : (place : ℕ) (released : List ReleasedId) (ws : List Held) → length ws < 1 → released_mets place released (map waiter ws) ≡ []
no_more place released [] few = none_met place released
no_more place released (w ∷ ws) few = absurd (omega (arith, few))

-- packets wait for calls that set an entry alone
pub other_waits : (ws : List Awaiting) (r : Request) → ((c : MfcCtl) → r ≡ AddMfc c → ⊥) → ((c : MfcCtl) → r ≡ AddProxy c → ⊥) → waiting_for ws r ≡ []
other_waits ws (AddMfc c) one two = absurd (one c refl)
other_waits ws (AddProxy c) one two = absurd (two c refl)
other_waits ws r one two = refl
