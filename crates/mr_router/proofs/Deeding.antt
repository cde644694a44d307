-- What a daemon did, and what is left to it, as the history goes on.
use Rattle.std.proofs.Common.{◌≡◌, ◌≢◌, ℕ, ◌+◌, ◌-◌, ◌<◌, ◌≤◌, Bool, true, false, cond, List, [], ◌∷◌, ◌++◌, flat_map, refl, sym, ap, ap₂, subst, ◌∙◌, arith, append-nil, true≢false}
use Rattle.std.proofs.lemmas.List.Sums.{sum_by-append}
use Rattle.std.proofs.lemmas.List.Concat.{flat_map-append}
use mathlib.Core.List.{IsPrefix}
use Rattle.mr_base.specs.declared.numbers.DaemonNo.{DaemonNo}
use Rattle.mr_book.proofs.Prefixes.{prefix_more}
use Rattle.mr_model.specs.declared.entry.Entry.{Entry}
use Rattle.mr_model.specs.declared.entry.Entry.TheVariants.{Call, Slow, Settle, Tick, Recv, EndPhase}
use Rattle.mr_model.specs.declared.limits.Limits.{Limits}
use Rattle.mr_model.specs.Deeds.{Deed}
use Rattle.mr_model.specs.Legal.{Agrees, IsLegal}
use Rattle.mr_model.specs.Past.{is_control, controls}
use Rattle.mr_model.proofs.Pushing.{legal_at}
use Rattle.mr_authors.specs.Authors.{daemon_author, own}
use Rattle.mr_router.specs.Callers.{DaemonValue}
use Rattle.mr_router.specs.Deeds.{deeds, deeds_in, controls_left, AllHeard}
use Rattle.mr_router.specs.Histories.{GoesOn, Makes, WentOn}
use Rattle.mr_router.proofs.Hearing.{deeds_stay}
use Rattle.mr_router.proofs.Walking.{prefix_trans}

abbrev pub at : DaemonNo → List Entry → DaemonValue
at d h = record { daemon = d; seen = h }

pub made_prefix : (limits : Limits) (n : ℕ) (old new : List Entry) (e : Entry) → Makes limits n old new e → IsPrefix old new
made_prefix limits n old new e m = subst (IsPrefix old) (sym m.seen) (prefix_more old m.before (e ∷ []) m.later.begins)

pub deeds_more : (limits : Limits) (d : DaemonNo) (old new : List Entry) (e : Entry) → AllHeard old (own (daemon_author d.0) old) → Makes limits (daemon_author d.0) old new e → deeds (at d new) ≡ deeds (at d old) ++ deeds_in new e
deeds_more limits d old new e heard m =
    let n = daemon_author d.0 in
    let parts : deeds (at d new) ≡ flat_map (deeds_in new) (own n old) ++ flat_map (deeds_in new) (e ∷ []) = ap (flat_map (deeds_in new)) m.own ∙ flat_map-append (deeds_in new) (own n old) (e ∷ []) in
    parts ∙ ap₂ (λ (xs ys : List Deed). xs ++ ys) (deeds_stay old new (own n old) (made_prefix limits n old new e m) heard) (append-nil (deeds_in new e))

pub deeds_same : (limits : Limits) (d : DaemonNo) (old new : List Entry) → AllHeard old (own (daemon_author d.0) old) → GoesOn limits (daemon_author d.0) old new → deeds (at d new) ≡ deeds (at d old)
deeds_same limits d old new heard went =
    let n = daemon_author d.0 in
    ap (flat_map (deeds_in new)) went.own ∙ deeds_stay old new (own n old) went.begins heard

-- no control entry goes away
pub controls_more : (old new : List Entry) → IsPrefix old new → controls old ≤ controls new
controls_more old new begins =
    let parts : controls new ≡ controls old + controls begins.0 = ap controls (sym begins.1) ∙ sum_by-append (λ e. cond (is_control e) 1 0) old begins.0 in
    omega (arith, parts)

pub left_falls : (limits : Limits) (d : DaemonNo) (old new : List Entry) → IsPrefix old new → controls_left limits (at d new) ≤ controls_left limits (at d old)
left_falls limits d old new begins = let more = controls_more old new begins in omega (arith, more)

pub none_left : (limits : Limits) (d : DaemonNo) (h : List Entry) → controls h ≡ limits.controls → controls_left limits (at d h) ≡ 0
none_left limits d h full = omega (arith, full)

-- an entry of a daemon finds room
had_room : (limits : Limits) (g : List Entry) (e : Entry) → is_control e ≡ true → Agrees limits g e → controls g < limits.controls
had_room limits g (Call d r reply released) control a = a.control.room
had_room limits g (Slow l index look flow o) control a = absurd (true≢false (sym control))
had_room limits g (Settle l records) control a = absurd (true≢false (sym control))
had_room limits g (Tick d ms) control a = a.room
had_room limits g (Recv d message) control a = a.control.room
had_room limits g EndPhase control a = absurd (true≢false (sym control))

pub some_left : (limits : Limits) (d : DaemonNo) (n : ℕ) (old new : List Entry) (e : Entry) → is_control e ≡ true → Makes limits n old new e → controls_left limits (at d old) ≢ 0
some_left limits d n old new e control m none =
    let legal : IsLegal limits (m.before ++ e ∷ []) = subst (IsLegal limits) m.seen m.legal in
    let room = had_room limits m.before e control (legal_at limits m.before e [] legal) in
    let more = controls_more old m.before m.later.begins in
    absurd (omega (arith, none, room, more))

-- the same of daemons as contracts see them
pub daemon_deeds : (limits : Limits) (old new : DaemonValue) (e : Entry) → new.daemon ≡ old.daemon → AllHeard old.seen (own (daemon_author old.daemon.0) old.seen) → Makes limits (daemon_author old.daemon.0) old.seen new.seen e → deeds new ≡ deeds old ++ deeds_in new.seen e
daemon_deeds limits old new e is heard m =
    let same : new ≡ at old.daemon new.seen = ap (λ (d : DaemonNo). at d new.seen) is in
    ap deeds same ∙ deeds_more limits old.daemon old.seen new.seen e heard m

pub daemon_idle : (limits : Limits) (old new : DaemonValue) → new.daemon ≡ old.daemon → AllHeard old.seen (own (daemon_author old.daemon.0) old.seen) → GoesOn limits (daemon_author old.daemon.0) old.seen new.seen → deeds new ≡ deeds old
daemon_idle limits old new is heard went =
    let same : new ≡ at old.daemon new.seen = ap (λ (d : DaemonNo). at d new.seen) is in
    ap deeds same ∙ deeds_same limits old.daemon old.seen new.seen heard went

-- a daemon that makes an entry, or finds no room, goes on
pub went_made : (limits : Limits) (old new : DaemonValue) (e : Entry) → new.daemon ≡ old.daemon → Makes limits (daemon_author old.daemon.0) old.seen new.seen e → WentOn old new
went_made limits old new e same m = record { daemon = same; begins = made_prefix limits (daemon_author old.daemon.0) old.seen new.seen e m }

pub went_on : (limits : Limits) (old new : DaemonValue) → new.daemon ≡ old.daemon → GoesOn limits (daemon_author old.daemon.0) old.seen new.seen → WentOn old new
went_on limits old new same g = record { daemon = same; begins = g.begins }

pub went_then : (a b c : DaemonValue) → WentOn a b → WentOn b c → WentOn a c
went_then a b c x y = record { daemon = y.daemon ∙ x.daemon; begins = prefix_trans a.seen b.seen c.seen x.begins y.begins }
