-- Who acts in which order and with which looks tells a legal history of a scenario.
use Rattle.std.proofs.Common.{◌≡◌, ℕ, ◌==◌, Bool, true, false, if◌then◌else◌, Option, Some, None, List, [], ◌∷◌, ◌++◌, map, take, refl, sym, ap, ◌∙◌, subst, append_assoc, eq-eqb}
use Rattle.std.specs.Option.{option_map_or}
use Rattle.mr_base.specs.Outside.{Files}
use Rattle.mr_base.specs.declared.numbers.DaemonNo.{DaemonNo}
use Rattle.mr_base.specs.declared.numbers.LaneNo.{LaneNo}
use Rattle.mr_load.specs.Callers.{IsCalled, has_machine, kind_of}
use Rattle.mr_load.specs.Loading.{run_limits}
use Rattle.mr_load.specs.Made.{Made}
use Rattle.mr_model.specs.Answer.{answer}
use Rattle.mr_model.specs.Legal.{Agrees, IsLegal, LegalFrom, RecordsAgree, message_for}
use Rattle.mr_model.specs.Deeds.{Deed, Asked, Ticked}
use Rattle.mr_model.specs.Outcome.{outcome}
use Rattle.mr_model.specs.Past.{is_end}
use Rattle.mr_model.specs.State.{state}
use Rattle.mr_model.specs.Verdict.{verdict}
use Rattle.mr_model.specs.declared.entry.Entry.{Entry}
use Rattle.mr_model.specs.declared.entry.Entry.TheVariants.{Call, Slow, Settle, Tick, Recv, EndPhase}
use Rattle.mr_model.specs.declared.entry.FastRecord.{FastRecord}
use Rattle.mr_model.specs.declared.entry.ReleasedId.{ReleasedId}
use Rattle.mr_model.specs.declared.limits.Limits.{Limits}
use Rattle.mr_model.specs.declared.reply.Reply.{Reply}
use Rattle.mr_model.specs.declared.request.Request.{Request}
use Rattle.mr_model.proofs.Pushing.{legal_push}
use Rattle.mr_model.specs.declared.verdict.Verdict.TheVariants.{Forward}
use Rattle.mr_one_text.specs.Laws.{TurnsTell}
use Rattle.mr_one_text.specs.Turns.{turn_of}
use Rattle.mr_one_text.proofs.Driving.{drives_next}
use Rattle.mr_one_text.proofs.Heard.{legal_hears}
use Rattle.mr_one_text.proofs.Playing.{AsksSame}
use Rattle.mr_one_text.proofs.Flows.{slow_sent, settled_sent, slow_same, settled_same}
use Rattle.mr_one_text.proofs.Sending.{SameIn, made_same, made_called, same_by, picked_same}
use Rattle.mr_scenario.specs.PhaseLines.{is_smc}
use Rattle.mr_scenario.specs.declared.scenario.DaemonKind.{DaemonKind}
use Rattle.mr_scenario.specs.declared.scenario.DaemonKind.TheVariants.{Plain, Admin, Smc}
use Rattle.mr_scenario.specs.declared.scenario.Scenario.{Scenario}
use Rattle.smc_daemon.specs.Courses.{DrivesFrom}
use Rattle.smc_daemon.specs.Deeds.{deeds_in}
use Rattle.smc_daemon.specs.Machines.{machine_of}
use Rattle.smc_words.specs.Words.{Word}

-- records of one lane with the same packets and looks, each the verdict at its look
forwards_same : (limits : Limits) (g : List Entry) (i least j most : ℕ) (rs qs : List FastRecord) → RecordsAgree limits g i least rs → RecordsAgree limits g j most qs
    → map (λ r. r.look) rs ≡ map (λ r. r.look) qs → settled_sent rs ≡ settled_sent qs → rs ≡ qs
forwards_same limits g i least j most [] [] a b e f = refl
forwards_same limits g i least j most [] (q ∷ qs) a b e f = absurd (cc e)
forwards_same limits g i least j most (r ∷ rs) [] a b e f = absurd (cc e)
forwards_same limits g i least j most (r ∷ rs) (q ∷ qs) a b e f =
    let look : r.look ≡ q.look = cc e in
    let looks : map (λ r. r.look) rs ≡ map (λ r. r.look) qs = cc e in
    let packet : slow_sent r.index r.flow ≡ slow_sent q.index q.flow = cc f in
    let packets : settled_sent rs ≡ settled_sent qs = cc f in
    let seen : verdict limits (take r.look g) r.flow.dev r.flow.src r.flow.dst r.flow.ttl ≡ verdict limits (take q.look g) q.flow.dev q.flow.src q.flow.dst q.flow.ttl =
    (λ t. verdict limits (take (look t) g) (packet t).flow.dev (packet t).flow.src (packet t).flow.dst (packet t).flow.ttl) in
    let plain : Forward r.entry r.input r.outs ≡ Forward q.entry q.input q.outs = sym a.3 ∙ seen ∙ b.3 in
    let entry : r.entry ≡ q.entry = cc plain in
    let input : r.input ≡ q.input = cc plain in
    let outs : r.outs ≡ q.outs = cc plain in
    let more : rs ≡ qs = forwards_same limits g r.index r.look q.index q.look rs qs a.4 b.4 looks packets in
    let one : r ≡ q = λ t. record { index = (packet t).index; look = look t; entry = entry t; input = input t; outs = outs t; flow = (packet t).flow } in
    (λ t. one t ∷ more t)

-- What a daemon with a routing machine asks at this place is the same.
record Asks (s : Scenario) (e f : Entry) : Type 0 where
  pub calls : (d : ℕ) → has_machine s d ≡ true → (x y : Deed) → is_end e ≡ false → is_end f ≡ false → ((all : List Entry) → deeds_in d all e ≡ x ∷ []) → ((all : List Entry) → deeds_in d all f ≡ y ∷ []) → AsksSame x y

own_deed : (b : Bool) (x : Deed) → b ≡ true → (if b then x ∷ [] else []) ≡ x ∷ []
own_deed true x p = refl
own_deed false x p = absurd (cc p)

request_same : (s : Scenario) (d c : DaemonNo) (r q : Request) (a b : Reply) (u v : List ReleasedId) → d ≡ c → IsCalled s (Call d r a u) → SameIn s (Call d r a u) (Call c q b v) → Asks s (Call d r a u) (Call c q b v) → (t : Bool) → has_machine s d.0 ≡ t → r ≡ q
request_same s d c r q a b u v daemon called same asks true has =
    let number : c.0 ≡ d.0 = ap (λ (x : DaemonNo). x.0) (sym daemon) in
    asks.calls d.0 has (Asked r a) (Asked q b) refl refl (λ all. own_deed (d.0 == d.0) (Asked r a) (eq-eqb d.0 d.0 refl)) (λ all. own_deed (c.0 == d.0) (Asked q b) (eq-eqb c.0 d.0 number))
request_same s d c r q a b u v daemon called same asks false none =
    let number : c.0 ≡ d.0 = ap (λ (x : DaemonNo). x.0) (sym daemon) in
    let whole = picked_same (d.0 == d.0) (c.0 == d.0) _ _ (eq-eqb d.0 d.0 refl) (eq-eqb c.0 d.0 number) (same.daemons d.0 called.first called.last none) in
    cc whole

time_same : (s : Scenario) (d c : DaemonNo) (ms ns : ℕ) → d ≡ c → IsCalled s (Tick d ms) → SameIn s (Tick d ms) (Tick c ns) → Asks s (Tick d ms) (Tick c ns) → (t : Bool) → has_machine s d.0 ≡ t → ms ≡ ns
time_same s d c ms ns daemon called same asks true has =
    let number : c.0 ≡ d.0 = ap (λ (x : DaemonNo). x.0) (sym daemon) in
    asks.calls d.0 has (Ticked ms) (Ticked ns) refl refl (λ all. own_deed (d.0 == d.0) (Ticked ms) (eq-eqb d.0 d.0 refl)) (λ all. own_deed (c.0 == d.0) (Ticked ns) (eq-eqb c.0 d.0 number))
time_same s d c ms ns daemon called same asks false none =
    let number : c.0 ≡ d.0 = ap (λ (x : DaemonNo). x.0) (sym daemon) in
    let whole = picked_same (d.0 == d.0) (c.0 == d.0) _ _ (eq-eqb d.0 d.0 refl) (eq-eqb c.0 d.0 number) (same.daemons d.0 called.first called.last none) in
    cc whole

-- entries of one turn with the same packets and calls that agree with the same history
one_same : (s : Scenario) (limits : Limits) (g : List Entry) (e f : Entry) → turn_of e ≡ turn_of f → IsCalled s e → SameIn s e f → Asks s e f → Agrees limits g e → Agrees limits g f → e ≡ f
one_same s limits g (Call d request reply released) (Call c request' reply' released') t called same asked a b =
    let daemon : d ≡ c = cc t in
    let asks : request ≡ request' = request_same s d c request request' reply reply' released released' daemon called same asked (has_machine s d.0) refl in
    let replies : reply ≡ reply' = a.replies ∙ (λ i. (answer limits g (daemon i) (asks i)).reply) ∙ sym b.replies in
    let releases : released ≡ released' = a.releases ∙ (λ i. (answer limits g (daemon i) (asks i)).released) ∙ sym b.releases in
    (λ i. Call (daemon i) (asks i) (replies i) (releases i))
one_same s limits g (Slow l i x flow o) (Slow m j y flow' p) t called same asked a b =
    let lane : l ≡ m = cc t in
    let look : x ≡ y = cc t in
    let packet = slow_same s l m i j x y flow flow' o p called (ap (λ (n : LaneNo). n.0) lane) same in
    let out : o ≡ p = a.is_outcome ∙ ap (outcome limits g) packet.1 ∙ sym b.is_outcome in
    (λ k. Slow (lane k) (packet.0 k) (look k) (packet.1 k) (out k))
one_same s limits g (Settle l rs) (Settle m qs) t called same asked a b =
    let lane : l ≡ m = cc t in
    let looks : map (λ r. r.look) rs ≡ map (λ r. r.look) qs = cc t in
    let all : rs ≡ qs = forwards_same limits g _ _ _ _ rs qs a.all b.all looks (settled_same s l m rs qs called (ap (λ (n : LaneNo). n.0) lane) same) in
    (λ i. Settle (lane i) (all i))
one_same s limits g (Tick d ms) (Tick c ns) t called same asked a b =
    let daemon : d ≡ c = cc t in
    let time : ms ≡ ns = time_same s d c ms ns daemon called same asked (has_machine s d.0) refl in
    (λ i. Tick (daemon i) (time i))
one_same s limits g (Recv d message) (Recv c message') t called same asked a b =
    let daemon : d ≡ c = cc t in
    let gives : message ≡ message' = a.gives ∙ ap (message_for (state limits g)) daemon ∙ sym b.gives in
    (λ i. Recv (daemon i) (gives i))
one_same s limits g EndPhase EndPhase t called same asked a b = refl
one_same s limits g e f t called same asked a b = absurd (cc t)

-- The entries behind g are those of the two histories, which are legal.
record Both (limits : Limits) (whole other g h k : List Entry) : Type 0 where
  pub first : whole ≡ g ++ h
  pub second : other ≡ g ++ k
  pub legal : LegalFrom limits g h
  pub legal' : LegalFrom limits g k
  pub so_far : IsLegal limits g

machine_there : (s : Scenario) (d : ℕ) → has_machine s d ≡ true → (names : List Word) × (kind_of s d ≡ Some (Smc names))
machine_there s d has = by (kind_of s d) has
  where
    by : (o : Option DaemonKind) → option_map_or is_smc o false ≡ true → (names : List Word) × (o ≡ Some (Smc names))
    by None e = absurd (cc e)
    by (Some (Smc names)) e = (names, refl)
    by (Some Plain) e = absurd (cc e)
    by (Some Admin) e = absurd (cc e)

asks_next : (files : Files) (s : Scenario) (limits : Limits) (whole other g h k : List Entry) (e f : Entry) → Made files s whole → Made files s other → Both limits whole other g (e ∷ h) (f ∷ k) → Asks s e f
asks_next files s limits whole other g h k e f m n p = record {
  calls = λ d has x y ee ff ex fy.
      let names = machine_there s d has in
      drives_next d (machine_of files s names.0) [] s.phases g h k e f x y ee ff ex fy
      (subst (λ (es : List Entry). DrivesFrom d (machine_of files s names.0) [] s.phases es) p.first (m.machines d names.0 names.1))
      (subst (λ (es : List Entry). DrivesFrom d (machine_of files s names.0) [] s.phases es) p.second (n.machines d names.0 names.1)) (legal_hears limits g p.so_far);
}

pub turns_tell : TurnsTell
turns_tell files s h k m n legal legal' turns_same =
    let limits : Limits = run_limits files s in
    same_by s (Both limits h k)
    (λ g e f r q p called same turn. one_same s limits g e f turn called same (asks_next files s limits h k g r q e f m n p) p.legal.0 p.legal'.0)
    (λ g e f r q p is. both_on limits g e f r q p is)
    h k [] (record { first = refl; second = refl; legal = legal; legal' = legal'; so_far = tt }) turns_same (made_called files s s.phases [] h m.phases) (made_same files s s.phases [] h k m.phases n.phases)
  where
    both_on : (limits : Limits) (g : List Entry) (e f : Entry) (r q : List Entry) → Both limits h k g (e ∷ r) (f ∷ q) → e ≡ f → Both limits h k (g ++ e ∷ []) r q
    both_on limits g e f r q p is = record {
      first = p.first ∙ sym (append_assoc g (e ∷ []) r);
      second = p.second ∙ ap (λ (x : Entry). g ++ x ∷ q) (sym is) ∙ sym (append_assoc g (e ∷ []) q);
      legal = p.legal.1;
      legal' = subst (λ (x : Entry). LegalFrom limits (g ++ x ∷ []) q) (sym is) p.legal'.1;
      so_far = legal_push limits g e p.so_far p.legal.0;
    }
