-- What the plain machine keeps, behind one more entry.
use Rattle.std.proofs.Common.{◌≡◌, ℕ, ◌+◌, ◌*◌, ◌<◌, ◌≤◌, Bool, true, false, not, if◌then◌else◌, Some, None, List, [], ◌∷◌, ◌++◌, length, map, find, reverse, refl, sym, ap, ◌∙◌, subst, arith, length-append}
use Rattle.std.proofs.lemmas.List.{length-map}
use Rattle.std.specs.List.{AllByRecursion}
use Rattle.mr_base.specs.declared.numbers.DaemonNo.{DaemonNo}
use Rattle.mr_base.specs.declared.vif_record.VifRecord.{VifRecord}
use Rattle.mr_model.specs.declared.ending.FateLine.{FateLine}
use Rattle.mr_model.specs.declared.entry.Entry.{Entry}
use Rattle.mr_model.specs.declared.entry.Entry.TheVariants.{Call, Slow, Settle, Recv}
use Rattle.mr_model.specs.declared.entry.ReleasedId.{ReleasedId}
use Rattle.mr_model.specs.declared.limits.Limits.{Limits}
use Rattle.mr_model.specs.declared.outcome.Outcome.TheVariants as outcome
use Rattle.mr_model.specs.declared.reply.Reply.TheVariants.{Good}
use Rattle.mr_model.specs.declared.request.Request.{Request}
use Rattle.mr_model.specs.declared.request.Request.TheVariants.{Finish, AddVif, DelVif, AddMfc, AddProxy, Flush}
use Rattle.mr_model.specs.Answer.{packets_of}
use Rattle.mr_model.specs.Counts.{Met, met, met_fast, met_in}
use Rattle.mr_base.specs.declared.route.Route.{Route}
use Rattle.mr_model.specs.declared.ending.Ending.{Ending}
use Rattle.mr_model.specs.declared.reply.RouteTotals.{RouteTotals}
use Rattle.mr_model.specs.declared.reply.VifTotals.{VifTotals}
use Rattle.mr_model.specs.Ending.{by_index, ending}
use Rattle.mr_plain_lists.specs.Endings.{route_pair, vif_pair}
use Rattle.mr_plain.proofs.Pasting.{past_begin}
use Rattle.mr_model.specs.Fate.{fates}
use Rattle.mr_model.specs.Outcome.{outcome_in}
use Rattle.mr_model.specs.RouteList.{is_named}
use Rattle.mr_model.specs.State.{State, first_state, state, effect, step, granted, is_owner}
use Rattle.mr_model.specs.WaitingList.{Awaiting, is_awaiting}
use Rattle.mr_model.proofs.Induction.{good_granted}
use Rattle.mr_model.proofs.Pushing.{state_push, state_count}
use Rattle.mr_model.proofs.PushingLists.{met_push}
use Rattle.mr_model.proofs.Stepping.{released_does, route_change_vifs, step_count}
use Rattle.mr_plain_lists.specs.declared.known.Group.{Group}
use Rattle.mr_plain_lists.specs.declared.known.Known.{Known}
use Rattle.mr_plain_lists.specs.declared.known.Meeting.{Meeting}
use Rattle.mr_plain.specs.declared.past.Past.{Past}
use Rattle.mr_plain.specs.Fates.{line_by, parked_lines}
use Rattle.mr_plain.specs.Following.{Follows}
use Rattle.mr_plain.specs.Holding.{Holds}
use Rattle.mr_plain_lists.specs.Knowing.{AreGroups, awaiting, met_of, state_of}
use Rattle.mr_plain.specs.Meets.{waiting_for, mets_in}
use Rattle.mr_plain.specs.Pasts.{IsPast, AreSmall, fresh_lane}
use Rattle.mr_plain.specs.Room.{IsSmallEntry, JoinsOne, SameLists}
use Rattle.mr_plain.specs.Sent.{AreSent}
use Rattle.mr_plain.proofs.Fating.{lines_push, fresh_push}
use Rattle.mr_plain.proofs.Groups.{held_count, joins_one, parked_joins}
use Rattle.mr_plain.proofs.Meetings.{mets_are, few_mets, one_met}
use Rattle.mr_plain.proofs.Sending.{all_part, sent_step, indexed_push}
use Rattle.mr_plain.proofs.Small.{small}

-- a good call names a vif or a parent that there may be
pub small_entry : (limits : Limits) (h : List Entry) (e : Entry) → Follows limits h e → IsSmallEntry e
small_entry limits h (Call d r Good released) follows = small limits (state limits h) d r (good_granted limits h d r released follows)
small_entry limits h e follows = tt

abbrev pub AreLow : List VifRecord → Type 0
AreLow vifs = AllByRecursion (λ (v : VifRecord). v.vif < 32) vifs

low_push : (vifs : List VifRecord) (v : VifRecord) → AreLow vifs → v.vif < 32 → AreLow (vifs ++ v ∷ [])
low_push [] v low here = (here, tt)
low_push (x ∷ vifs) v low here = (low.0, low_push vifs v low.1 here)

low_granted : (limits : Limits) (s : State) (d : DaemonNo) (r : Request) (released : List ReleasedId) → AreLow s.tables.vifs → IsSmallEntry (Call d r Good released) → AreLow (granted limits s d r).tables.vifs
low_granted limits s d Finish released low fits = all_part (λ (v : VifRecord). v.vif < 32) _ s.tables.vifs low
low_granted limits s d (Flush bits) released low fits = all_part (λ (v : VifRecord). v.vif < 32) _ s.tables.vifs low
low_granted limits s d (DelVif i) released low fits = all_part (λ (v : VifRecord). v.vif < 32) _ s.tables.vifs low
low_granted limits s d (AddVif c) released low fits = low_push s.tables.vifs _ low fits
low_granted limits s d (AddMfc c) released low fits =
    subst AreLow (sym (route_change_vifs s.tables.vifs (s.count + 1) (not (is_owner s d)) c (find (is_named c.src c.dst None) s.tables.routes))) low
low_granted limits s d (AddProxy c) released low fits =
    subst AreLow (sym (route_change_vifs s.tables.vifs (s.count + 1) (not (is_owner s d)) c (find (is_named c.src c.dst (Some c.parent)) s.tables.routes))) low
low_granted limits s d r released low fits = low

low_step : (limits : Limits) (s : State) (e : Entry) → AreLow s.tables.vifs → IsSmallEntry e → AreLow (step limits s e).tables.vifs
low_step limits s (Call d r Good released) low fits =
    subst (λ t. AreLow t) (sym (ap (λ t. t.vifs) (released_does (granted limits s d r) released).tables)) (low_granted limits s d r released low fits)
low_step limits s (Slow lane index look flow outcome.Parked) low fits = low
low_step limits s (Recv d None) low fits = low
low_step limits s (Recv d (Some m)) low fits = low
low_step limits s e low fits = low

-- at most four packets of one source and group wait
held_few : (ws : List Group) (test : Awaiting → Bool) → AreGroups ws → length (packets_of (find test (map awaiting ws))) ≤ 4
held_few [] test few = omega arith
held_few (g ∷ ws) test few =
    elim (test (awaiting g)) as (λ b. length (packets_of (if b then Some (awaiting g) else find test (map awaiting ws))) ≤ 4) [
      | true ↦ omega (arith, held_count g few.0, few.0.few)
      | false ↦ held_few ws test few.1
    ]

few_for : (ws : List Group) (r : Request) → AreGroups ws → length (waiting_for (map awaiting ws) r) ≤ 4
few_for ws (AddMfc c) few = held_few ws (is_awaiting c.src c.dst) few
few_for ws (AddProxy c) few = held_few ws (is_awaiting c.src c.dst) few
few_for ws r few = omega arith

-- an entry decides at most 64 packets
few_in : (limits : Limits) (h : List Entry) (n : ℕ) (ws : List Group) (e : Entry) → Follows limits h e → AreGroups ws → length (mets_in n (map awaiting ws) e) ≤ 64
few_in limits h n ws (Call d r reply released) follows few =
    omega (arith, few_mets (n + 1) released (waiting_for (map awaiting ws) r), few_for ws r few)
few_in limits h n ws (Slow lane index look flow o) follows few = omega (arith, one_met n flow.length o)
few_in limits h n ws (Settle lane records) follows few = omega (arith, follows.most, length-map records met_fast)
few_in limits h n ws e follows few = omega arith

pub holds_push : (limits : Limits) (h : List Entry) (e : Entry) (known next : Known) (mets more : List Meeting) (past left : Past) (lines longer : List FateLine)
    → Holds limits h known mets past lines → Follows limits h e
    → state_of next ≡ step limits (state_of known) e → AreGroups next.waiting.items
    → next.moment ≤ known.moment + 4294967296
    → map met_of more ≡ map met_of mets ++ mets_in known.count (map awaiting known.waiting.items) e
    → IsPast limits (h ++ e ∷ []) left
    → longer ≡ map (line_by (state_of known) e) lines ++ parked_lines e
    → Holds limits (h ++ e ∷ []) next more left longer
holds_push limits h e known next mets more past left lines longer holds follows stepped few moment meets is_past is_lines =
    let whole : state limits (h ++ e ∷ []) ≡ step limits (state_of known) e = state_push limits h e ∙ ap (λ (s : State). step limits s e) holds.state in
    let count : length h ≡ known.count = sym (state_count limits h) ∙ ap (λ (s : State). s.count) holds.state in
    let waiting : (state limits h).waiting ≡ map awaiting known.waiting.items = ap (λ (s : State). s.waiting) holds.state in
    let sent : AreSent h (state limits h).waiting = subst (λ (ws : List Awaiting). AreSent h ws) (sym waiting) holds.sent in
    let are : met_in h e ≡ mets_in known.count (map awaiting known.waiting.items) e = rw (← count, ← waiting) (mets_are limits h e sent follows) in
    let all : met (h ++ e ∷ []) ≡ map met_of more =
    met_push h e ∙ ap (λ (ms : List Met). ms ++ met_in h e) holds.meets ∙ ap (λ (ms : List Met). map met_of mets ++ ms) are ∙ sym meets in
    let long : length (h ++ e ∷ []) ≡ length h + 1 = length-append h (e ∷ []) in
    let in_all : length more ≡ length mets + length (mets_in known.count (map awaiting known.waiting.items) e) =
    sym (length-map more met_of) ∙ ap (λ (ms : List Met). length ms) meets ∙ length-append (map met_of mets) _ ∙ ap (λ (n : ℕ). n + length (mets_in known.count (map awaiting known.waiting.items) e)) (length-map mets met_of) in
    let in_one : length (mets_in known.count (map awaiting known.waiting.items) e) ≤ 64 = few_in limits h known.count known.waiting.items e follows holds.groups in
    let bounded : length mets ≤ length h * 64 = holds.few in
    let timely : known.moment ≤ length h * 4294967296 = holds.early in
    record {
      small = holds.small;
      state = whole ∙ sym stepped;
      vifs = subst (λ (s : State). AreLow s.tables.vifs) (sym stepped) (low_step limits (state_of known) e holds.vifs (small_entry limits h e follows));
      groups = few;
      meets = all;
      few = omega (arith, long, in_all, in_one, bounded);
      early = omega (arith, long, moment, timely);
      left = is_past;
      sent = subst (λ (ws : List Awaiting). AreSent (h ++ e ∷ []) ws) (sym (ap (λ (s : State). s.waiting) stepped))
          (sent_step limits h (state_of known) e holds.indexed follows holds.sent);
      indexed = indexed_push limits h e holds.indexed follows;
      fates = is_lines
          ∙ ap (λ (ls : List FateLine). map (line_by (state_of known) e) ls ++ parked_lines e) holds.fates
          ∙ ap (λ (s : State). map (line_by s e) (fates limits h) ++ parked_lines e) (sym holds.state)
          ∙ sym (lines_push limits h e holds.fresh holds.indexed sent follows);
      fresh = fresh_push limits h e holds.fresh holds.indexed sent follows;
    }

-- the same lists stand for the same state
pub same_state : (old new : Known) → SameLists old new → state_of new ≡ state_of old
same_state old new same =
    rw (same.count, same.owner, same.vifs, same.routes, same.pim, same.asserts, same.moment, same.waiting, same.unread, same.attempts) refl

pub holds_same : (limits : Limits) (h : List Entry) (old new : Known) (mets more : List Meeting) (past : Past) (lines longer : List FateLine)
    → Holds limits h old mets past lines → SameLists old new → more ≡ mets → longer ≡ lines → Holds limits h new more past longer
holds_same limits h old new mets more past lines longer holds same is_mets is_lines = record {
  small = holds.small;
  state = holds.state ∙ sym (same_state old new same);
  vifs = rw same.vifs holds.vifs;
  groups = rw same.waiting holds.groups;
  meets = rw is_mets holds.meets;
  few = rw is_mets holds.few;
  early = rw same.moment holds.early;
  left = holds.left;
  sent = rw same.waiting holds.sent;
  indexed = holds.indexed;
  fates = is_lines ∙ holds.fates;
  fresh = holds.fresh;
}

-- a history that can go on is short
pub short : (limits : Limits) (h : List Entry) (known : Known) (mets : List Meeting) (past : Past) (lines : List FateLine) → Holds limits h known mets past lines → known.count ≤ 4194304
short limits h known mets past lines holds =
    let count : length h ≡ known.count = sym (state_count limits h) ∙ ap (λ (s : State). s.count) holds.state in
    omega (arith, count, holds.left.bound, holds.small.entries)

abbrev pub ending_with : List (Route × RouteTotals) → List (VifRecord × VifTotals) → List FateLine → Ending
ending_with rs vs fs = record { routes = rs; vifs = vs; fates = fs }

-- what the history ends with, by the lists
pub ends : (limits : Limits) (h : List Entry) (known : Known) (mets : List Meeting) (past : Past) (lines : List FateLine) (rs : List (Route × RouteTotals)) (vs : List (VifRecord × VifTotals)) (fs : List FateLine)
    → Holds limits h known mets past lines → rs ≡ map (route_pair (map met_of mets)) (reverse known.routes.items)
    → vs ≡ map (vif_pair (map met_of mets)) (by_index known.vifs.items) → fs ≡ lines → ending_with rs vs fs ≡ ending limits h
ends limits h known mets past lines rs vs fs holds is_rs is_vs is_fs =
    rw (is_rs, is_vs, is_fs, holds.fates, ← holds.meets)
    (ap (λ (s : State). ending_with (map (route_pair (met h)) (reverse s.tables.routes)) (map (vif_pair (met h)) (by_index s.tables.vifs)) (fates limits h)) (sym holds.state))

-- the lists before the first entry
pub begins : (limits : Limits) (known : Known) (past : Past) → AreSmall limits → state_of known ≡ first_state → past.controls_left ≡ limits.controls → past.phases_left ≡ limits.phases
    → past.lanes.items ≡ map fresh_lane limits.packets → Holds limits [] known [] past []
begins limits known past fits first controls phases lanes =
    let vifs : known.vifs.items ≡ [] = ap (λ (s : State). s.tables.vifs) first in
    let waiting : map awaiting known.waiting.items ≡ [] = ap (λ (s : State). s.waiting) first in
    let groups : known.waiting.items ≡ [] = none_mapped known.waiting.items waiting in
    let moment : known.moment ≡ 0 = ap (λ (s : State). s.now) first in
    record {
      small = fits;
      state = sym first;
      vifs = rw vifs tt;
      groups = rw groups tt;
      meets = refl;
      few = omega arith;
      early = omega (arith, moment);
      left = past_begin limits past controls phases lanes;
      sent = rw groups tt;
      indexed = λ lane index there. absurd cc;
      fates = refl;
      fresh = λ lane index above. refl;
    }
  where
    none_mapped : (ws : List Group) → map awaiting ws ≡ [] → ws ≡ []
    none_mapped [] none = refl
    none_mapped (g ∷ ws) none = absurd cc

-- what an entry does leaves the count of entries
pub effect_count : (limits : Limits) (s : State) (e : Entry) → (effect limits s e).count ≡ s.count
effect_count limits s e =
    let one : (effect limits s e).count + 1 ≡ s.count + 1 = step_count limits s e in
    omega (arith, one)

-- a packet that is parked finds room beside those of its source and group
pub joins_entry : (limits : Limits) (h : List Entry) (known : Known) (mets : List Meeting) (past : Past) (lines : List FateLine) (e : Entry)
    → Holds limits h known mets past lines → Follows limits h e → JoinsOne e known.waiting.items
joins_entry limits h known mets past lines (Slow lane index look flow outcome.Parked) holds follows =
    joins_one limits (state_of known) known.waiting.items flow holds.groups
    (parked_joins limits (state_of known) flow (follows.is_outcome ∙ ap (λ (s : State). outcome_in limits s flow) holds.state))
joins_entry limits h known mets past lines e holds follows = tt
