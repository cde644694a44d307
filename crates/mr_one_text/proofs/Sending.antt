-- The packets and the calls of a history are those of its scenario, and entries of the same turn have as many of each.
use Rattle.std.proofs.Common.{◌≡◌, ℕ, ◌==◌, ◌≤◌, Bool, true, false, List, [], ◌∷◌, ◌++◌, length, map, refl, sym, ap, ◌∙◌, subst, arith}
use Rattle.std.proofs.lemmas.List.{length-map}
use Rattle.std.proofs.lemmas.List.Concat.{flat_map-append}
use Rattle.std.specs.List.{AllByRecursion}
use Rattle.std.specs.Prelude.{if◌then◌else◌}
use Rattle.mr_base.specs.Outside.{Files}
use Rattle.mr_load.specs.Callers.{IsCalled, has_machine}
use Rattle.mr_load.specs.Made.{sent_in, sent, asked_in, asked, PartOf, MadeFrom}
use Rattle.mr_model.specs.declared.entry.Entry.{Entry}
use Rattle.mr_model.specs.declared.entry.Entry.TheVariants.{Call, Slow, Settle, Tick, Recv, EndPhase}
use Rattle.mr_one_text.specs.Turns.{Turn, Called, Slowed, Settled, Ticked, Received, Ended, turn_of, turns}
use Rattle.mr_scenario.specs.declared.scenario.Item.{Item}
use Rattle.mr_scenario.specs.declared.scenario.Phase.{Phase}
use Rattle.mr_scenario.specs.declared.scenario.Scenario.{Scenario}

-- two histories with the same packets of each lane and the same calls of each daemon that has no routing machine
pub record Same (s : Scenario) (h k : List Entry) : Type 0 where
  pub lanes : (lane : ℕ) → 1 ≤ lane → lane ≤ s.lanes → sent lane h ≡ sent lane k
  pub daemons : (d : ℕ) → 1 ≤ d → d ≤ length s.daemons → has_machine s d ≡ false → asked d h ≡ asked d k

-- two entries likewise
pub record SameIn (s : Scenario) (e f : Entry) : Type 0 where
  pub lanes : (lane : ℕ) → 1 ≤ lane → lane ≤ s.lanes → sent_in lane e ≡ sent_in lane f
  pub daemons : (d : ℕ) → 1 ≤ d → d ≤ length s.daemons → has_machine s d ≡ false → asked_in d e ≡ asked_in d f

sent_split : (lane : ℕ) (part rest : List Entry) → sent lane (part ++ EndPhase ∷ rest) ≡ sent lane part ++ sent lane rest
sent_split lane part rest = flat_map-append (sent_in lane) part (EndPhase ∷ rest)

asked_split : (d : ℕ) (part rest : List Entry) → asked d (part ++ EndPhase ∷ rest) ≡ asked d part ++ asked d rest
asked_split d part rest = flat_map-append (asked_in d) part (EndPhase ∷ rest)

pub made_same : (files : Files) (s : Scenario) (ps : List Phase) (before : List Item) (h k : List Entry)
    → MadeFrom files s before ps h → MadeFrom files s before ps k → Same s h k
made_same files s [] before h k m n = record {
  lanes = λ lane least most. ap (sent lane) (m ∙ sym n);
  daemons = λ d least most none. ap (asked d) (m ∙ sym n);
}
made_same files s (p ∷ ps) before h k m n =
    let more : Same s m.1 n.1 = made_same files s ps (before ++ p.items) m.1 n.1 m.4 n.4 in
    let mine : PartOf files s before p m.0 = m.3 in
    let other : PartOf files s before p n.0 = n.3 in
    record {
      lanes = λ lane least most.
          let front : sent lane m.0 ≡ sent lane n.0 = mine.lanes lane least most ∙ sym (other.lanes lane least most) in
          let behind : sent lane m.1 ≡ sent lane n.1 = more.lanes lane least most in
          ap (sent lane) m.2 ∙ sent_split lane m.0 m.1 ∙ (λ i. front i ++ behind i) ∙ sym (ap (sent lane) n.2 ∙ sent_split lane n.0 n.1);
      daemons = λ d least most none.
          let front : asked d m.0 ≡ asked d n.0 = mine.daemons d least most none ∙ sym (other.daemons d least most none) in
          let behind : asked d m.1 ≡ asked d n.1 = more.daemons d least most none in
          ap (asked d) m.2 ∙ asked_split d m.0 m.1 ∙ (λ i. front i ++ behind i) ∙ sym (ap (asked d) n.2 ∙ asked_split d n.0 n.1);
    }

all_append : {X : Type 0} (P : X → Type 0) (xs ys : List X) → AllByRecursion P xs → AllByRecursion P ys → AllByRecursion P (xs ++ ys)
all_append P [] ys a b = b
all_append P (x ∷ xs) ys a b = (a.0, all_append P xs ys a.1 b)

-- each entry is of a caller that the scenario has
pub made_called : (files : Files) (s : Scenario) (ps : List Phase) (before : List Item) (h : List Entry) → MadeFrom files s before ps h → AllByRecursion (IsCalled s) h
made_called files s [] before h m = subst (AllByRecursion (IsCalled s)) (sym m) tt
made_called files s (p ∷ ps) before h m =
    let mine : PartOf files s before p m.0 = m.3 in
    let more : AllByRecursion (IsCalled s) m.1 = made_called files s ps (before ++ p.items) m.1 m.4 in
    subst (AllByRecursion (IsCalled s)) (sym m.2) (all_append (IsCalled s) m.0 (EndPhase ∷ m.1) mine.callers (tt, more))

-- how many packets of a lane, and calls of a daemon, an entry of a turn has
abbrev turn_sends : ℕ → Turn → ℕ
turn_sends lane (Called d) = 0
turn_sends lane (Slowed l look) = if l.0 == lane then 1 else 0
turn_sends lane (Settled l looks) = if l.0 == lane then length looks else 0
turn_sends lane (Ticked d) = 0
turn_sends lane (Received d) = 0
turn_sends lane Ended = 0

abbrev turn_asks : ℕ → Turn → ℕ
turn_asks d (Called c) = if c.0 == d then 1 else 0
turn_asks d (Slowed l look) = 0
turn_asks d (Settled l looks) = 0
turn_asks d (Ticked c) = if c.0 == d then 1 else 0
turn_asks d (Received c) = if c.0 == d then 1 else 0
turn_asks d Ended = 0

picked_length : {A : Type 0} (b : Bool) (xs : List A) → length (if b then xs else []) ≡ (if b then length xs else 0)
picked_length true xs = refl
picked_length false xs = refl

sends_are : (lane : ℕ) (e : Entry) → length (sent_in lane e) ≡ turn_sends lane (turn_of e)
sends_are lane (Call d request reply released) = refl
sends_are lane (Slow l index look flow o) = picked_length (l.0 == lane) (record { index = index; flow = flow } ∷ [])
sends_are lane (Settle l records) =
    picked_length (l.0 == lane) (map (λ r. record { index = r.index; flow = r.flow }) records)
    ∙ ap (λ (n : ℕ). if l.0 == lane then n else 0) (length-map records (λ r. record { index = r.index; flow = r.flow }) ∙ sym (length-map records (λ r. r.look)))
sends_are lane (Tick d ms) = refl
sends_are lane (Recv d message) = refl
sends_are lane EndPhase = refl

asks_are : (d : ℕ) (e : Entry) → length (asked_in d e) ≡ turn_asks d (turn_of e)
asks_are d (Call c request reply released) = picked_length (c.0 == d) (_ ∷ [])
asks_are d (Slow l index look flow o) = refl
asks_are d (Settle l records) = refl
asks_are d (Tick c ms) = picked_length (c.0 == d) (_ ∷ [])
asks_are d (Recv c message) = picked_length (c.0 == d) (_ ∷ [])
asks_are d EndPhase = refl

append_both : {A : Type 0} (a b x y : List A) → length a ≡ length b → a ++ x ≡ b ++ y → (a ≡ b) × (x ≡ y)
append_both [] [] x y n e = (refl, e)
append_both [] (c ∷ b) x y n e = absurd (omega (arith, n))
append_both (c ∷ a) [] x y n e = absurd (omega (arith, n))
append_both (c ∷ a) (d ∷ b) x y n e =
    let first : c ≡ d = cc e in
    let rest : a ++ x ≡ b ++ y = cc e in
    let more = append_both a b x y (omega (arith, n)) rest in
    ((λ i. first i ∷ more.0 i), more.1)

-- entries of one turn at the head of histories with the same packets and calls have the same, and so do the rests
pub split_same : (s : Scenario) (e f : Entry) (h k : List Entry) → turn_of e ≡ turn_of f → Same s (e ∷ h) (f ∷ k) → SameIn s e f × Same s h k
split_same s e f h k t same =
    let lane_cut : (lane : ℕ) → 1 ≤ lane → lane ≤ s.lanes → (sent_in lane e ≡ sent_in lane f) × (sent lane h ≡ sent lane k) =
    λ lane least most. append_both (sent_in lane e) (sent_in lane f) (sent lane h) (sent lane k) (sends_are lane e ∙ ap (turn_sends lane) t ∙ sym (sends_are lane f)) (same.lanes lane least most) in
    let daemon_cut : (d : ℕ) → 1 ≤ d → d ≤ length s.daemons → has_machine s d ≡ false → (asked_in d e ≡ asked_in d f) × (asked d h ≡ asked d k) =
    λ d least most none. append_both (asked_in d e) (asked_in d f) (asked d h) (asked d k) (asks_are d e ∙ ap (turn_asks d) t ∙ sym (asks_are d f)) (same.daemons d least most none) in (
      record { lanes = λ lane least most. (lane_cut lane least most).0; daemons = λ d least most none. (daemon_cut d least most none).0 },
      record { lanes = λ lane least most. (lane_cut lane least most).1; daemons = λ d least most none. (daemon_cut d least most none).1 },
    )

-- Where each two entries of one turn are the same in what goes before them, the histories are.
pub same_by : (s : Scenario) (P : List Entry → List Entry → List Entry → Type 0)
    → ((g : List Entry) (e f : Entry) (h k : List Entry) → P g (e ∷ h) (f ∷ k) → IsCalled s e → SameIn s e f → turn_of e ≡ turn_of f → e ≡ f)
    → ((g : List Entry) (e f : Entry) (h k : List Entry) → P g (e ∷ h) (f ∷ k) → e ≡ f → P (g ++ e ∷ []) h k)
    → (h k g : List Entry) → P g h k → turns h ≡ turns k → AllByRecursion (IsCalled s) h → Same s h k → h ≡ k
same_by s P one on [] [] g p t called same = refl
same_by s P one on [] (f ∷ k) g p t called same = absurd (cc t)
same_by s P one on (e ∷ h) [] g p t called same = absurd (cc t)
same_by s P one on (e ∷ h) (f ∷ k) g p t called same =
    let first : turn_of e ≡ turn_of f = cc t in
    let rest : turns h ≡ turns k = cc t in
    let split = split_same s e f h k first same in
    let is : e ≡ f = one g e f h k p called.0 split.0 first in
    let more : h ≡ k = same_by s P one on h k (g ++ e ∷ []) (on g e f h k p is) rest called.1 split.1 in
    (λ i. is i ∷ more i)

-- what stands behind two tests that hold
pub picked_same : {A : Type 0} (b c : Bool) (xs ys : List A) → b ≡ true → c ≡ true → (if b then xs else []) ≡ (if c then ys else []) → xs ≡ ys
picked_same true true xs ys p q e = e
picked_same true false xs ys p q e = absurd (cc q)
picked_same false c xs ys p q e = absurd (cc p)
