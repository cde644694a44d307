-- What lanes and daemons did in a phase, each for itself, as the history has it behind its former entries.
use Rattle.std.proofs.Common.{◌≡◌, ◌∙◌, ℕ, zero, suc, ◌+◌, ◌-◌, ◌≤◌, ◌<◌, All, Option, Some, None, Ok, Err, List, [], ◌∷◌, ◌++◌, length, map, get_or, refl, sym, ap, arith, append-nil, subst}
use Rattle.std.proofs.lemmas.List.{append_cancel_left, length-map}
use Rattle.std.proofs.lemmas.List.Elements.{All-get_or}
use mathlib.Core.List.{IsPrefix}
use Rattle.mr_base.specs.declared.numbers.DaemonNo.{DaemonNo}
use Rattle.mr_base.specs.declared.numbers.LaneNo.{LaneNo}
use Rattle.mr_callers.proofs.Doing.{own_append}
use Rattle.mr_callers.proofs.Joined.{asked_own, sent_own}
use Rattle.mr_load.specs.Dues.{LaneValue, sent_of}
use Rattle.mr_load.specs.Made.{asked, sent, to_ask}
use Rattle.mr_model.specs.Deeds.{Deed}
use Rattle.mr_model.specs.declared.caller.CallError.TheVariants as call_error
use Rattle.mr_model.specs.declared.entry.Entry.{Entry}
use Rattle.mr_model.specs.declared.entry.Entry.TheVariants.{EndPhase}
use Rattle.mr_model.specs.declared.limits.Limits.{Limits}
use Rattle.mr_model.specs.Past.{controls}
use Rattle.mr_replay.specs.Daemons.{AreDaemons, HasAsked, at_daemon, lines_by, made_by}
use Rattle.mr_replay.specs.Turns.{AllTurn, IsIdle, Stop, Turn}
use Rattle.mr_replay.specs.Lanes.{AllSend, AreLanes, HadTurn, IsReady, at_lane, due_in, lane_at, own_of}
use Rattle.mr_replay.proofs.Phasing.{none_own}
use Rattle.mr_replay.proofs.Playing.{did_is}
use Rattle.mr_authors.specs.Authors.{daemon_author, own}
use Rattle.mr_router.specs.Callers.{DaemonValue, daemon_sees, lane_sees}
use Rattle.mr_router.specs.Callers as router
use Rattle.mr_router.proofs.Deeding.{controls_more}
use Rattle.mr_scenario.specs.declared.scenario.Phase.{Phase}
use Rattle.mr_scenario.specs.declared.scenario.Script.{Script}
use Rattle.mr_scenario.specs.declared.scenario.ScriptLine.{ScriptLine}
use Rattle.smc_core.specs.Machine.{Machine}
use Rattle.smc_daemon.specs.Courses.{Drives, IsBegun, IsCourse, machine_after, machine_behind}
use Rattle.smc_daemon.specs.Deeds.{did}
use Rattle.smc_daemon.specs.Lines.{lines_in}

-- a caller's entries behind a phase
own_behind : (n : ℕ) (h part new : List Entry) → 1 ≤ n → new ≡ (h ++ part) ++ EndPhase ∷ [] → own n new ≡ own n h ++ own n part
own_behind n h part new least is =
    ap (own n) is ∙ own_append n (h ++ part) (EndPhase ∷ []) ∙ ap (λ (es : List Entry). own n (h ++ part) ++ es) (none_own n least)
    ∙ append-nil (own n (h ++ part)) ∙ own_append n h part

-- those that it made in the phase
own_within : (n : ℕ) (h part new mine : List Entry) → 1 ≤ n → new ≡ (h ++ part) ++ EndPhase ∷ [] → own n new ≡ own n h ++ mine → own n part ≡ mine
own_within n h part new mine least is did = append_cancel_left (own n h) (own n part) mine (sym (own_behind n h part new least is) ∙ did)

-- Of lane n the history has in this phase what was due, and then just what is due before the next one.
pub record LaneDid (k : ℕ) (v : LaneValue) (n : ℕ) (part new : List Entry) : Type 0 where
  pub sent_is : sent n part ≡ map sent_of (due_in k v.packets)
  pub ready : IsReady (k + 1) v (own n new)

lane_did : (k n : ℕ) (v : LaneValue) (h part new : List Entry) (old mid : router.LaneValue) → 1 ≤ n → new ≡ (h ++ part) ++ EndPhase ∷ [] → old ≡ at_lane n h → HadTurn k v old mid
    → own mid.lane.0 new ≡ own mid.lane.0 mid.seen → LaneDid k v n part new
lane_did k n v h part new old mid least is was turn known =
    let number : old.lane.0 ≡ n = ap (λ (l : router.LaneValue). l.lane.0) was in
    let still : mid.lane.0 ≡ n = ap (λ (x : LaneNo). x.0) turn.sends.lane ∙ number in
    let same : own n new ≡ own_of mid = subst (λ (m : ℕ). own m new ≡ own_of mid) still known in
    let did : List Entry = turn.sends.sends.part in
    let mine : own n part ≡ did = own_within n h part new did least is (same ∙ turn.sends.sends.behind ∙ ap (λ (es : List Entry). es ++ did) (ap own_of was)) in
    record {
      sent_is = sym (sent_own n part) ∙ ap (sent n) mine ∙ ap (λ (m : ℕ). sent m did) (sym number) ∙ turn.sends.sends.does;
      ready = subst (IsReady (k + 1) v) (sym same) turn.ready;
    }

pub lanes_did : (k many : ℕ) (vs : List LaneValue) (h part new : List Entry) (old mid : List router.LaneValue) → AreLanes many h old → AllSend k vs old mid → new ≡ (h ++ part) ++ EndPhase ∷ []
    → All (λ (l : router.LaneValue). own l.lane.0 new ≡ own l.lane.0 l.seen) mid → (n : ℕ) → 1 ≤ n → n ≤ many → LaneDid k (lane_at vs n) n part new
lanes_did k many vs h part new old mid are sends is known n least most =
    let i = n - 1 in
    let next : i + 1 ≡ n = omega (arith, least) in
    let none = at_lane 0 [] in
    let first : 1 ≤ i + 1 = omega arith in
    let inside : i < many = omega (arith, least, most) in
    let there : i < length old = omega (arith, inside, are.many) in
    let here : i < length mid = omega (arith, there, sends.many) in
    subst (λ (m : ℕ). LaneDid k (lane_at vs m) m part new) next
    (lane_did k (i + 1) (lane_at vs (i + 1)) h part new (get_or old i none) (get_or mid i none) first is (are.each i none inside) (sends.each i none there)
    (All-get_or (λ (l : router.LaneValue). own l.lane.0 new ≡ own l.lane.0 l.seen) mid i none here known))

-- What daemon d did in a phase, with its machine before and behind it, by why it stopped.
abbrev pub Did : Limits → Phase → ℕ → List Entry → List Entry → Option Machine → Option Machine → Stop → Type 0
Did limits p d h part None None (Ok u) = asked d part ≡ to_ask d p
Did limits p d h part None None (Err e) = (length (asked d part) < length (lines_by d p.script)) × (limits.controls ≤ controls (h ++ part))
Did limits p d h part (Some m) (Some m') (Ok u) = Drives d m p h part × (m' ≡ machine_behind d m p h part) × IsIdle m'
Did limits p d h part (Some m) (Some m') (Err e) =
    (missing : List Deed) × IsBegun m (lines_in d p) (did d h part) missing
    × (e ≡ call_error.ControlFull → (0 < length missing) × (limits.controls ≤ controls (h ++ part)))
Did limits p d h part _ _ stop = ⊥

asked_is : (d : ℕ) (h part new : List Entry) (mid : DaemonValue) (what : List Script) → new ≡ (h ++ part) ++ EndPhase ∷ [] → HasAsked what (at_daemon d h) mid → own (daemon_author mid.daemon.0) new ≡ made_by mid → asked d part ≡ what
asked_is d h part new mid what is x known =
    let still : mid.daemon.0 ≡ d = ap (λ (n : DaemonNo). n.0) x.daemon in
    let same : own (daemon_author d) new ≡ made_by mid = subst (λ (n : ℕ). own (daemon_author n) new ≡ made_by mid) still known in
    let did : List Entry = x.asks.part in
    let mine : own (daemon_author d) part ≡ did = own_within (daemon_author d) h part new did (omega arith) is (same ∙ x.asks.behind) in
    sym (asked_own d part) ∙ ap (asked d) mine ∙ x.asks.does

pub turn_did : (limits : Limits) (p : Phase) (d : ℕ) (h part new : List Entry) (mid : DaemonValue) (m m' : Option Machine) (stop : Stop) → new ≡ (h ++ part) ++ EndPhase ∷ []
    → Turn limits p.script d m m' stop (at_daemon d h) mid → own (daemon_author mid.daemon.0) new ≡ made_by mid → IsPrefix mid.seen (h ++ part) → Did limits p d h part m m' stop
turn_did limits p d h part new mid None None (Ok u) is t known begins = asked_is d h part new mid (lines_by d p.script) is t known
turn_did limits p d h part new mid None None (Err e) is t known begins =
    let its : asked d part ≡ t.done = asked_is d h part new mid t.done is t.asked known in
    ((omega (arith, t.fewer, ap length its)), (omega (arith, t.full, controls_more mid.seen (h ++ part) begins)))
turn_did limits p d h part new mid (Some m) (Some m') (Ok u) is t known begins =
    let same : did d h part ≡ t.plays.deeds = did_is d h part new mid t.plays.deeds is t.seen known begins t.plays.grew in (
      subst (IsCourse m (lines_in d p)) (sym same) t.plays.course,
      t.plays.machine ∙ ap (machine_after m (lines_in d p)) (sym same),
      t.idle,
    )
turn_did limits p d h part new mid (Some m) (Some m') (Err e) is t known begins =
    let same : did d h part ≡ t.breaks.deeds = did_is d h part new mid t.breaks.deeds is t.seen known begins t.breaks.grew in (
      t.breaks.missing,
      subst (λ (ds : List Deed). IsBegun m (lines_in d p) ds t.breaks.missing) (sym same) t.breaks.begun,
      λ full. (t.breaks.full full, (omega (arith, t.full full, controls_more mid.seen (h ++ part) begins))),
    )
turn_did limits p d h part new mid None (Some m') stop is t known begins = absurd t
turn_did limits p d h part new mid (Some m) None stop is t known begins = absurd t

-- it is the same daemon
pub turn_daemon : (limits : Limits) (ls : List ScriptLine) (d : ℕ) (m m' : Option Machine) (stop : Stop) (old new : DaemonValue) → Turn limits ls d m m' stop old new → new.daemon ≡ old.daemon
turn_daemon limits ls d None None (Ok u) old new t = t.daemon
turn_daemon limits ls d None None (Err e) old new t = t.asked.daemon
turn_daemon limits ls d (Some m) (Some m') (Ok u) old new t = t.seen.went_on.daemon
turn_daemon limits ls d (Some m) (Some m') (Err e) old new t = t.seen.went_on.daemon
turn_daemon limits ls d None (Some m') stop old new t = absurd t
turn_daemon limits ls d (Some m) None stop old new t = absurd t

pub daemons_did : (limits : Limits) (p : Phase) (many : ℕ) (h part new : List Entry) (stop : Stop) (old mid : List DaemonValue) (ms ms' : List (Option Machine)) → AreDaemons many h old → (t : AllTurn limits p.script stop old ms mid ms')
    → new ≡ (h ++ part) ++ EndPhase ∷ [] → All (λ (d : DaemonValue). own (daemon_author d.daemon.0) new ≡ own (daemon_author d.daemon.0) d.seen) mid → All (λ (d : DaemonValue). IsPrefix d.seen (h ++ part)) mid
    → (i : ℕ) → i < many → Did limits p (i + 1) h part (get_or ms i None) (get_or ms' i None) (t.stops i)
daemons_did limits p many h part new stop old mid ms ms' are t is known begins i less =
    let none = at_daemon 0 [] in
    let there : i < length old = omega (arith, less, are.many) in
    let here : i < length mid = omega (arith, there, t.many) in
    turn_did limits p (i + 1) h part new (get_or mid i none) (get_or ms i None) (get_or ms' i None) (t.stops i) is
    (subst (λ (d : DaemonValue). Turn limits p.script (i + 1) (get_or ms i None) (get_or ms' i None) (t.stops i) d (get_or mid i none)) (are.each i none less) (t.each i none there))
    (All-get_or (λ (x : DaemonValue). own (daemon_author x.daemon.0) new ≡ own (daemon_author x.daemon.0) x.seen) mid i none here known)
    (All-get_or (λ (x : DaemonValue). IsPrefix x.seen (h ++ part)) mid i none here begins)

got_map : {X : Type 0} (f : X → X) (xs : List X) (i : ℕ) (x : X) → i < length xs → get_or (map f xs) i x ≡ f (get_or xs i x)
got_map f [] i x less = absurd (omega (arith, less))
got_map f (y ∷ xs) zero x less = refl
got_map f (y ∷ xs) (suc i) x less = got_map f xs i x (omega (arith, less))

-- all have seen the history then
pub lanes_see : (k many : ℕ) (vs : List LaneValue) (h new : List Entry) (old mid after : List router.LaneValue) → AreLanes many h old → AllSend k vs old mid → after ≡ map (lane_sees new) mid → AreLanes many new after
lanes_see k many vs h new old mid after are sends is = record {
  many = ap length is ∙ length-map mid (lane_sees new) ∙ sends.many ∙ are.many;
  each = λ i l inside.
      let there : i < length old = omega (arith, inside, are.many) in
      let lane : (get_or mid i l).lane ≡ (at_lane (i + 1) h).lane = (sends.each i l there).sends.lane ∙ ap (λ (x : router.LaneValue). x.lane) (are.each i l inside) in
      ap (λ (xs : List router.LaneValue). get_or xs i l) is ∙ got_map (lane_sees new) mid i l (omega (arith, there, sends.many))
      ∙ ap (λ (n : LaneNo). seeing n) lane;
}
  where
    seeing : LaneNo → router.LaneValue
    seeing n = record { lane = n; seen = new }

pub daemons_see : (limits : Limits) (many : ℕ) (ls : List ScriptLine) (h new : List Entry) (stop : Stop) (old mid after : List DaemonValue) (ms ms' : List (Option Machine)) → AreDaemons many h old → AllTurn limits ls stop old ms mid ms'
    → after ≡ map (daemon_sees new) mid → AreDaemons many new after
daemons_see limits many ls h new stop old mid after ms ms' are t is = record {
  many = ap length is ∙ length-map mid (daemon_sees new) ∙ t.many ∙ are.many;
  each = λ i d inside.
      let there : i < length old = omega (arith, inside, are.many) in
      let same = turn_daemon limits ls (i + 1) (get_or ms i None) (get_or ms' i None) (t.stops i) (get_or old i d) (get_or mid i d) (t.each i d there) in
      let daemon : (get_or mid i d).daemon ≡ (at_daemon (i + 1) h).daemon = same ∙ ap (λ (x : DaemonValue). x.daemon) (are.each i d inside) in
      ap (λ (xs : List DaemonValue). get_or xs i d) is ∙ got_map (daemon_sees new) mid i d (omega (arith, there, t.many))
      ∙ ap (λ (n : DaemonNo). seeing n) daemon;
}
  where
    seeing : DaemonNo → DaemonValue
    seeing n = record { daemon = n; seen = new }
