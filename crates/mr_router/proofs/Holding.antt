-- What lanes, daemons and the router keep of their seats, from call to call.
use Rattle.std.proofs.Common.{◌≡◌, ℕ, ◌+◌, ◌<◌, ◌≤◌, ◌==◌, Some, None, List, [], ◌∷◌, ◌++◌, length, map, All, true, refl, sym, ap, subst, ◌∙◌, arith, length-append, add-zero, if◌then◌else◌}
use mathlib.Core.List.{IsPrefix}
use Rattle.std.proofs.lemmas.List.Elements.{All-head}
use Rattle.mr_base.specs.declared.numbers.DaemonNo.{DaemonNo}
use Rattle.mr_base.specs.declared.numbers.LaneNo.{LaneNo}
use Rattle.mr_book.specs.declared.view.Known.{Known}
use Rattle.mr_book.specs.Rule.{OwnEntries}
use Rattle.mr_book.specs.Views.{with_entry, with_own, with_seen, longer, met, newcomer}
use Rattle.mr_book.proofs.Owns.{own_one}
use Rattle.mr_book.proofs.Prefixes.{prefix_more, prefix_length}
use Rattle.mr_model.specs.declared.entry.Entry.{Entry}
use Rattle.mr_model.specs.declared.entry.Entry.TheVariants.{Call, Slow, Settle, Tick, Recv, EndPhase}
use Rattle.mr_model.specs.declared.flow.Flow.{Flow}
use Rattle.mr_model.specs.declared.limits.Limits.{Limits}
use Rattle.mr_model.specs.declared.outcome.Outcome.{Outcome}
use Rattle.mr_model.specs.Legal.{IsLegal, packets_given}
use Rattle.mr_model.specs.Past.{is_of_lane, packets_in, controls, packets, last_index, last_look}
use Rattle.mr_model.proofs.PushingLists.{packets_push, last_look_push}
use Rattle.mr_authors.specs.Authors.{author, daemon_author, own}
use Rattle.mr_router.specs.Deeds.{IsHeard, AllHeard}
use Rattle.mr_router.specs.Histories.{GoesOn, Makes}
use Rattle.mr_router.specs.Seats.{IsSeatOf, HoldsLane, HoldsDaemon, HoldsRouter, IsRouterSeat, AddsEnd, first_own}
use Rattle.mr_authors.proofs.Owning.{same_number, own_made, packets_own, last_index_own, last_look_own}
use Rattle.mr_router.proofs.Hearing.{heard_stays, heard_push}

-- the lock is got
pub goes_on : (limits : Limits) (n : ℕ) (k : Known Entry) (h : List Entry) → IsSeatOf n k → IsPrefix k.seen h → OwnEntries author k.owns h → IsLegal limits h → GoesOn limits n k.seen h
goes_on limits n k h seat begins owns legal = record {
  begins = begins;
  own = own_one author k.owns n (own n k.seen) h seat.owns owns;
  legal = legal;
}

-- the seat knows no more entries of its own in a longer history
pub seat_sees : (n : ℕ) (k : Known Entry) (h : List Entry) → IsSeatOf n k → own n h ≡ own n k.seen → IsSeatOf n (with_seen h k)
seat_sees n k h seat same = record { number = seat.number; owns = seat.owns ∙ ap (λ es. (n, es) ∷ []) (sym same) }

-- the seat makes an entry
mine_more : (n : ℕ) (e : Entry) (es : List Entry) → author e ≡ n → with_own author e (n, es) ≡ (n, es ++ e ∷ [])
mine_more n e es is = rw (ap (λ k. k == n) is ∙ same_number n) refl

pub seat_makes : (n : ℕ) (k : Known Entry) (h : List Entry) (e : Entry) → IsSeatOf n k → own n h ≡ own n k.seen → author e ≡ n → IsSeatOf n (with_entry author e (with_seen h k))
seat_makes n k h e seat same is = record {
  number = seat.number;
  owns =
      ap (map (with_own author e)) seat.owns
      ∙ ap (λ own. own ∷ []) (mine_more n e (own n k.seen) is)
      ∙ ap (λ es. (n, es) ∷ []) (sym (own_made n h e is ∙ ap (λ es. es ++ e ∷ []) same));
}

pub makes : (limits : Limits) (n : ℕ) (old h new : List Entry) (e : Entry) → GoesOn limits n old h → author e ≡ n → new ≡ h ++ e ∷ [] → IsLegal limits new → Makes limits n old new e
makes limits n old h new e later is seen legal = record {
  before = h;
  later = later;
  seen = seen;
  own = ap (own n) seen ∙ own_made n h e is ∙ ap (λ es. es ++ e ∷ []) later.own;
  legal = legal;
}

-- what a lane's own entries tell
same_by_own : {X : Type 0} (f : List Entry → X) (n : ℕ) → ((h : List Entry) → f (own n h) ≡ f h) → (g h : List Entry) → own n h ≡ own n g → f h ≡ f g
same_by_own f n by_own g h same = sym (by_own h) ∙ ap f same ∙ by_own g

pub same_packets : (lane : LaneNo) (g h : List Entry) → own lane.0 h ≡ own lane.0 g → packets lane h ≡ packets lane g
same_packets lane g h same = same_by_own (packets lane) lane.0 (packets_own lane) g h same

pub same_last_index : (lane : LaneNo) (g h : List Entry) → own lane.0 h ≡ own lane.0 g → last_index lane h ≡ last_index lane g
same_last_index lane g h same = same_by_own (last_index lane) lane.0 (last_index_own lane) g h same

pub same_last_look : (lane : LaneNo) (g h : List Entry) → own lane.0 h ≡ own lane.0 g → last_look lane h ≡ last_look lane g
same_last_look lane g h same = same_by_own (last_look lane) lane.0 (last_look_own lane) g h same

pub looks_stay : (lane : LaneNo) (g h : List Entry) → IsPrefix g h → own lane.0 h ≡ own lane.0 g → last_look lane g ≤ length g → last_look lane h ≤ length h
looks_stay lane g h begins same low =
    let longer = prefix_length g h begins in
    let look = same_last_look lane g h same in
    omega (arith, longer, look, low)

-- a lane has seen a longer history, to which it has added nothing
pub lane_sees_more : (limits : Limits) (lane : LaneNo) (left : ℕ) (k : Known Entry) (h : List Entry) → HoldsLane limits lane left k → IsPrefix k.seen h → own lane.0 h ≡ own lane.0 k.seen → HoldsLane limits lane left (with_seen h k)
lane_sees_more limits lane left k h holds begins same = record {
  is_lane = holds.is_lane;
  seat = seat_sees lane.0 k h holds.seat same;
  counted = ap (λ n. n + left) (same_packets lane k.seen h same) ∙ holds.counted;
  looks = looks_stay lane k.seen h begins same holds.looks;
}

one_packet : (lane : LaneNo) (index look : ℕ) (flow : Flow) (o : Outcome) (h : List Entry) → packets lane (h ++ Slow lane index look flow o ∷ []) ≡ packets lane h + 1
one_packet lane index look flow o h = packets_push lane h (Slow lane index look flow o) ∙ rw (same_number lane.0) refl

one_look : (lane : LaneNo) (index look : ℕ) (flow : Flow) (o : Outcome) (h : List Entry) → last_look lane (h ++ Slow lane index look flow o ∷ []) ≡ look
one_look lane index look flow o h = last_look_push lane h (Slow lane index look flow o) ∙ rw (same_number lane.0) refl

-- a lane's packet is decided
pub lane_makes : (limits : Limits) (lane : LaneNo) (left after : ℕ) (k : Known Entry) (h : List Entry) (index : ℕ) (flow : Flow) (o : Outcome) → HoldsLane limits lane left k → own lane.0 h ≡ own lane.0 k.seen → after + 1 ≡ left → HoldsLane limits lane after (with_entry author (Slow lane index (length h) flow o) (with_seen h k))
lane_makes limits lane left after k h index flow o holds same one =
    let e = Slow lane index (length h) flow o in
    record {
      is_lane = holds.is_lane;
      seat = seat_makes lane.0 k h e holds.seat same refl;
      counted = omega (arith, one_packet lane index (length h) flow o h, same_packets lane k.seen h same, holds.counted, one);
      looks = omega (arith, one_look lane index (length h) flow o h, length-append h (e ∷ []));
    }

-- a daemon has seen a longer history, to which it has added nothing
pub daemon_sees_more : (limits : Limits) (d : DaemonNo) (left after : ℕ) (k : Known Entry) (h : List Entry) → HoldsDaemon limits d left k → IsPrefix k.seen h → own (daemon_author d.0) h ≡ own (daemon_author d.0) k.seen → controls h + after ≡ limits.controls → HoldsDaemon limits d after (with_seen h k)
daemon_sees_more limits d left after k h holds begins same room = record {
  is_daemon = holds.is_daemon;
  seat = seat_sees (daemon_author d.0) k h holds.seat same;
  counted = room;
  heard = subst (AllHeard h) (sym same) (heard_stays k.seen h (own (daemon_author d.0) k.seen) begins holds.heard);
}

-- a daemon makes an entry
pub daemon_makes : (limits : Limits) (d : DaemonNo) (left after : ℕ) (k : Known Entry) (h : List Entry) (e : Entry) → HoldsDaemon limits d left k → IsPrefix k.seen h → own (daemon_author d.0) h ≡ own (daemon_author d.0) k.seen → author e ≡ daemon_author d.0 → IsHeard (h ++ e ∷ []) e → controls (h ++ e ∷ []) + after ≡ limits.controls → HoldsDaemon limits d after (with_entry author e (with_seen h k))
daemon_makes limits d left after k h e holds begins same is heard room =
    let n = daemon_author d.0 in
    record {
      is_daemon = holds.is_daemon;
      seat = seat_makes n k h e holds.seat same is;
      counted = room;
      heard = subst (AllHeard (h ++ e ∷ [])) (sym (own_made n h e is ∙ ap (λ es. es ++ e ∷ []) same)) (heard_push (h ++ e ∷ []) (own n k.seen) e (heard_stays k.seen (h ++ e ∷ []) (own n k.seen) (prefix_more k.seen h (e ∷ []) begins) holds.heard) heard);
    }

-- the router takes in the seat of a caller that there is not
pub spare_unseen : (k : Known Entry) (n : ℕ) → k.seen ≡ [] → (met k (newcomer n)).seen ≡ []
spare_unseen k n none = ap (λ s. longer s []) none

pub spare_met : (k : Known Entry) (n : ℕ) → HoldsRouter k → k.seen ≡ [] → HoldsRouter (met k (newcomer n))
spare_met k n holds none = record {
  number = holds.number;
  spares = holds.spares ++ (n, []) ∷ [];
  owns =
      ap (λ o. o ++ (n, []) ∷ []) holds.owns
      ∙ ap (λ s. (0, own 0 s) ∷ (holds.spares ++ (n, []) ∷ [])) (none ∙ sym (spare_unseen k n none));
}

-- the router gets the lock
pub router_own : (mine : List Entry) (k : Known Entry) (h : List Entry) → IsRouterSeat mine k → OwnEntries author k.owns h → own 0 h ≡ mine
router_own mine k h seat owns =
    All-head (λ (x : ℕ × List Entry). own x.0 h ≡ x.1) (0, mine) seat.spares (subst (λ o. OwnEntries author o h) seat.owns owns)

-- the router makes its entry
pub router_makes : (mine : List Entry) (k : Known Entry) (h : List Entry) → IsRouterSeat mine k → own 0 h ≡ mine → HoldsRouter (with_entry author EndPhase (with_seen h k))
router_makes mine k h seat same = record {
  number = seat.number;
  spares = map (with_own author EndPhase) seat.spares;
  owns =
      ap (map (with_own author EndPhase)) seat.owns
      ∙ ap (λ (x : ℕ × List Entry). x ∷ map (with_own author EndPhase) seat.spares) (mine_more 0 EndPhase mine refl)
      ∙ ap (λ (es : List Entry). (0, es) ∷ map (with_own author EndPhase) seat.spares) (sym (own_made 0 h EndPhase refl ∙ ap (λ es. es ++ EndPhase ∷ []) same));
}

pub adds_end : (limits : Limits) (mine : List Entry) (k s : Known Entry) (h : List Entry) → IsRouterSeat mine k → mine ≡ first_own k.owns → IsPrefix k.seen h → OwnEntries author k.owns h → IsLegal limits h → IsLegal limits (h ++ EndPhase ∷ []) → s ≡ with_entry author EndPhase (with_seen h k) → AddsEnd limits k s
adds_end limits mine k s h seat first begins owns legal after is =
    let same = router_own mine k h seat owns in
    subst (AddsEnd limits k) (sym is) (record {
      before = h;
      begins = begins;
      own_before = same ∙ first;
      legal_before = legal;
      seen = refl;
      own_after = own_made 0 h EndPhase refl ∙ ap (λ es. es ++ EndPhase ∷ []) (same ∙ first);
      legal = after;
    })

-- What a daemon's call leaves: `s` is its seat when it has given the lock back.
pub daemon_refused : (limits : Limits) (d : DaemonNo) (left : ℕ) (k s : Known Entry) (h : List Entry) → HoldsDaemon limits d left k → IsPrefix k.seen h → OwnEntries author k.owns h → IsLegal limits h → controls h ≡ limits.controls → s ≡ with_seen h k → HoldsDaemon limits d 0 s
daemon_refused limits d left k s h holds begins owns legal full is =
    let later = goes_on limits (daemon_author d.0) k h holds.seat begins owns legal in
    subst (HoldsDaemon limits d 0) (sym is) (daemon_sees_more limits d left 0 k h holds begins later.own (add-zero (controls h) ∙ full))

pub daemon_went_on : (limits : Limits) (n : ℕ) (k s : Known Entry) (h : List Entry) → IsSeatOf n k → IsPrefix k.seen h → OwnEntries author k.owns h → IsLegal limits h → s ≡ with_seen h k → GoesOn limits n k.seen s.seen
daemon_went_on limits n k s h seat begins owns legal is =
    subst (λ (s : Known Entry). GoesOn limits n k.seen s.seen) (sym is) (goes_on limits n k h seat begins owns legal)

pub daemon_made : (limits : Limits) (d : DaemonNo) (left after : ℕ) (k s : Known Entry) (h : List Entry) (e : Entry) → HoldsDaemon limits d left k → IsPrefix k.seen h → OwnEntries author k.owns h → IsLegal limits h → author e ≡ daemon_author d.0 → IsHeard (h ++ e ∷ []) e → controls (h ++ e ∷ []) + after ≡ limits.controls → s ≡ with_entry author e (with_seen h k) → HoldsDaemon limits d after s
daemon_made limits d left after k s h e holds begins owns legal mine heard room is =
    let later = goes_on limits (daemon_author d.0) k h holds.seat begins owns legal in
    subst (HoldsDaemon limits d after) (sym is) (daemon_makes limits d left after k h e holds begins later.own mine heard room)

pub entry_made : (limits : Limits) (n : ℕ) (k s : Known Entry) (h : List Entry) (e : Entry) → IsSeatOf n k → IsPrefix k.seen h → OwnEntries author k.owns h → IsLegal limits h → author e ≡ n → IsLegal limits (h ++ e ∷ []) → s ≡ with_entry author e (with_seen h k) → Makes limits n k.seen s.seen e
entry_made limits n k s h e seat begins owns legal mine after is =
    subst (λ (s : Known Entry). Makes limits n k.seen s.seen e) (sym is)
    (makes limits n k.seen h (h ++ e ∷ []) e (goes_on limits n k h seat begins owns legal) mine refl after)

-- the router's seat has seen more, and answers for the same entries
pub still_router : (k s : Known Entry) → HoldsRouter k → s.number ≡ k.number → s.owns ≡ k.owns → IsRouterSeat (first_own s.owns) s
still_router k s holds number owns = record {
  number = number ∙ holds.number;
  spares = holds.spares;
  owns = (owns ∙ holds.owns) ∙ ap (λ (es : List Entry). (0, es) ∷ holds.spares) (sym (ap first_own (owns ∙ holds.owns)));
}

pub first_is : (k s : Known Entry) → HoldsRouter k → s.owns ≡ k.owns → first_own s.owns ≡ own 0 k.seen
first_is k s holds owns = ap first_own (owns ∙ holds.owns)
