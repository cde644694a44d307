-- The history that the text of a legal history tells, with the flows of the scenario's packets, is that history.
use Rattle.std.proofs.Common.{◌≡◌, ℕ, ◌+◌, ◌≤◌, ◌==◌, true, false, List, [], ◌∷◌, ◌++◌, map, refl, ap, arith, subst}
use Rattle.std.specs.List.{AllByRecursion}
use Rattle.mr_base.specs.declared.numbers.LaneNo.{LaneNo}
use Rattle.mr_load.specs.Callers.{IsCalled}
use Rattle.mr_load.specs.Dues.{Due, sent_of}
use Rattle.mr_load.specs.Made.{Sent, sent, sent_in}
use Rattle.mr_load.specs.declared.loading.Loaded.{Loaded}
use Rattle.mr_model.specs.declared.entry.Entry.{Entry}
use Rattle.mr_model.specs.declared.entry.Entry.TheVariants.{Call, Slow, Settle, Tick, Recv, EndPhase}
use Rattle.mr_model.specs.declared.entry.FastRecord.{FastRecord}
use Rattle.mr_check.specs.Callers.{bare, due_of_lane, flow_at, flow_in, flowing, record_bare, record_flowing}
use Rattle.mr_check.proofs.Packets.{SentRise}
use Rattle.mr_check.proofs.Sent.{settle_sends, slow_sends}

-- the number of a packet finds its flow
abbrev pub HasFlow : List Due → Sent → Type 0
HasFlow ds x = flow_in ds x.index ≡ x.flow

above : (from : ℕ) (xs : List Sent) → SentRise from xs → AllByRecursion (λ x. from ≤ x.index) xs
above from [] r = tt
above from (x ∷ xs) r = (r.0, weaker xs (above (x.index + 1) xs r.1))
  where
    weaker : (ys : List Sent) → AllByRecursion (λ y. x.index + 1 ≤ y.index) ys → AllByRecursion (λ y. from ≤ y.index) ys
    weaker [] a = tt
    weaker (y ∷ ys) a = (omega (arith, a.0, r.0), weaker ys a.1)

found_later : (d : Due) (ds : List Due) (xs : List Sent) → AllByRecursion (λ x. d.index + 1 ≤ x.index) xs → AllByRecursion (HasFlow ds) xs → AllByRecursion (HasFlow (d ∷ ds)) xs
found_later d ds [] a f = tt
found_later d ds (x ∷ xs) a f =
    let other : (d.index == x.index) ≡ false = grind (arith, a.0) in
    (rw other f.0, found_later d ds xs a.1 f.1)

pub all_found : (from : ℕ) (ds : List Due) → SentRise from (map sent_of ds) → AllByRecursion (HasFlow ds) (map sent_of ds)
all_found from [] r = tt
all_found from (d ∷ ds) r =
    let same : (d.index == d.index) ≡ true = grind arith in
    let first : HasFlow (d ∷ ds) (sent_of d) = rw same refl in
    (first, found_later d ds (map sent_of ds) (above (d.index + 1) (map sent_of ds) r.1) (all_found (d.index + 1) ds r.1))

all_parts : {A : Type 0} (P : A → Type 0) (xs ys : List A) → AllByRecursion P (xs ++ ys) → AllByRecursion P xs × AllByRecursion P ys
all_parts P [] ys a = (tt, a)
all_parts P (x ∷ xs) ys a =
    let more = all_parts P xs ys a.1 in
    ((a.0, more.0), more.1)

-- each entry of a history has packets with their flows
pub each_found : (lane : ℕ) (P : Sent → Type 0) (h : List Entry) → AllByRecursion P (sent lane h) → AllByRecursion (λ e. AllByRecursion P (sent_in lane e)) h
each_found lane P [] a = tt
each_found lane P (e ∷ h) a =
    let parts = all_parts P (sent_in lane e) (sent lane h) a in
    (parts.0, each_found lane P h parts.1)

abbrev as_sent : FastRecord → Sent
as_sent r = record { index = r.index; flow = r.flow }

records_again : (l : Loaded) (lane : LaneNo) (rs : List FastRecord) → AllByRecursion (HasFlow (due_of_lane l lane.0)) (map as_sent rs) → map (record_flowing l lane) (map record_bare rs) ≡ rs
records_again l lane [] a = refl
records_again l lane (r ∷ rs) a =
    let one : record_flowing l lane (record_bare r) ≡ r = (λ i. record r { flow = a.0 i }) in
    let more = records_again l lane rs a.1 in
    (λ i. one i ∷ more i)

-- what is known of each entry of a history
abbrev pub Found : Loaded → List Entry → Type 0
Found l h = (lane : ℕ) → 1 ≤ lane → lane ≤ l.scenario.lanes → AllByRecursion (λ e. AllByRecursion (HasFlow (due_of_lane l lane)) (sent_in lane e)) h

found_rest : (l : Loaded) (e : Entry) (h : List Entry) → Found l (e ∷ h) → Found l h
found_rest l e h f = λ lane least most. (f lane least most).1

entry_again : (l : Loaded) (e : Entry) (h : List Entry) → IsCalled l.scenario e → Found l (e ∷ h) → flowing l (bare e) ≡ e
entry_again l (Call d r reply released) h called f = refl
entry_again l (Tick d ms) h called f = refl
entry_again l (Recv d message) h called f = refl
entry_again l EndPhase h called f = refl
entry_again l (Slow lane index look flow o) h called f =
    let its = subst (AllByRecursion (HasFlow (due_of_lane l lane.0))) (slow_sends lane index look flow o) (f lane.0 called.first called.last).0 in
    let same : flow_at l lane index ≡ flow = its.0 in
    (λ i. Slow lane index look (same i) o)
entry_again l (Settle lane records) h called f =
    let its = subst (AllByRecursion (HasFlow (due_of_lane l lane.0))) (settle_sends lane records) (f lane.0 called.first called.last).0 in
    ap (λ (rs : List FastRecord). Settle lane rs) (records_again l lane records its)

pub told_again : (l : Loaded) (h : List Entry) → AllByRecursion (IsCalled l.scenario) h → Found l h → map (flowing l) (map bare h) ≡ h
told_again l [] called f = refl
told_again l (e ∷ h) called f =
    let one = entry_again l e h called.0 f in
    let more = told_again l h called.1 (found_rest l e h f) in
    (λ i. one i ∷ more i)
