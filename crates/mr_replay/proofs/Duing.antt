-- Which packets a lane is to send in a phase.
use Rattle.std.proofs.Common.{◌≡◌, ◌∙◌, ℕ, zero, suc, ◌+◌, ◌≤◌, ◌<◌, ◌==◌, Bool, true, false, is_none, Some, None, List, [], ◌∷◌, ◌++◌, map, take, refl, sym, ap, arith, append-nil, append_assoc, subst}
use Rattle.std.proofs.lemmas.List.Elements.{filter-append}
use Rattle.std.specs.List.{AllByRecursion}
use Rattle.std.specs.Prelude.{if◌then◌else◌, slice_get}
use Rattle.mr_base.specs.Heads.{cause_of}
use Rattle.mr_base.specs.Outside.{Files}
use Rattle.mr_load.specs.Dues.{Due, due_of, dues_among, dues_in, dues_from, sent_of}
use Rattle.mr_load.specs.Items.{Content, contents_of}
use Rattle.mr_load.specs.Loading.{items_in}
use Rattle.mr_load.specs.Made.{items_of, to_send}
use Rattle.mr_load.proofs.LawDues.{dues_later, dues_of_phase, dues_sent}
use Rattle.mr_load.proofs.Rows.{numbered_all}
use Rattle.mr_replay.specs.Lanes.{due_in}
use Rattle.mr_scenario.specs.declared.scenario.Item.{Item}
use Rattle.mr_scenario.specs.declared.scenario.Phase.{Phase}

all_append : {X : Type 0} (P : X → Type 0) (xs ys : List X) → AllByRecursion P xs → AllByRecursion P ys → AllByRecursion P (xs ++ ys)
all_append P [] ys a b = b
all_append P (x ∷ xs) ys a b = (a.0, all_append P xs ys a.1 b)

-- what holds of a packet of each item of a lane
content_all : (P : Due → Type 0) (k : ℕ) (i : Item) (n : ℕ) (c : Content) → ((bs : List ℕ) → P (record { phase = k; index = n; dev = i.dev; bytes = bs })) → AllByRecursion P (due_of k i n c)
content_all P k i n None its = tt
content_all P k i n (Some bs) its = either (is_none (cause_of bs))
  where
    either : (b : Bool) → AllByRecursion P (if b then record { phase = k; index = n; dev = i.dev; bytes = bs } ∷ [] else [])
    either true = (its bs, tt)
    either false = tt

pub among_all : (P : Due → Type 0) (Q : Item → Type 0) (files : Files) (lane k n : ℕ) (is : List Item) → ((i : Item) (m : ℕ) (bs : List ℕ) → Q i → P (record { phase = k; index = m; dev = i.dev; bytes = bs }))
    → AllByRecursion Q is → AllByRecursion P (dues_among files lane k n is)
among_all P Q files lane k n is its a = numbered_all P Q (due_of k) (λ i q m c. content_all P k i m c (λ bs. its i m bs q)) (contents_of files) lane n is a

all_due : (k : ℕ) (ds : List Due) → AllByRecursion (λ d. d.phase ≡ k) ds → due_in k ds ≡ ds
all_due k [] a = refl
all_due k (d ∷ ds) a =
    let here : (d.phase == k) ≡ true = grind (arith, a.0) in
    rw here (ap (λ (xs : List Due). d ∷ xs) (all_due k ds a.1))

none_due : (k m : ℕ) (ds : List Due) → m < k → AllByRecursion (λ d. d.phase ≡ m) ds → due_in k ds ≡ []
none_due k m [] less a = refl
none_due k m (d ∷ ds) less a =
    let other : (d.phase == k) ≡ false = grind (arith, a.0, less) in
    rw other (none_due k m ds less a.1)

none_later : (k : ℕ) (ds : List Due) → AllByRecursion (λ d. k + 1 ≤ d.phase) ds → due_in k ds ≡ []
none_later k [] a = refl
none_later k (d ∷ ds) a =
    let other : (d.phase == k) ≡ false = grind (arith, a.0) in
    rw other (none_later k ds a.1)

due_append : (k : ℕ) (a b : List Due) → due_in k (a ++ b) ≡ due_in k a ++ due_in k b
due_append k a b = filter-append (λ d. d.phase == k) a b

-- the packets of the phase at a place, where the first phase has number j
due_at : (files : Files) (lane j : ℕ) (before : List Item) (ps : List Phase) (k : ℕ) (p : Phase) → slice_get ps k ≡ Some p → due_in (j + k) (dues_from files lane j before ps) ≡ dues_in files lane (j + k) (before ++ items_in (take k ps)) p
due_at files lane j before [] k p at = absurd (cc)
due_at files lane j before (q ∷ ps) zero p at =
    let same : q ≡ p = cc in
    let place : j + 0 ≡ j = omega arith in
    rw (place, append-nil before, sym same)
    (due_append j (dues_in files lane j before q) (dues_from files lane (j + 1) (before ++ q.items) ps)
    ∙ rw (all_due j (dues_in files lane j before q) (dues_of_phase files lane j before q), none_later j (dues_from files lane (j + 1) (before ++ q.items) ps) (dues_later files lane (j + 1) (before ++ q.items) ps))
    (append-nil (dues_in files lane j before q)))
due_at files lane j before (q ∷ ps) (suc k) p at =
    let place : j + suc k ≡ j + 1 + k = omega arith in
    rw place
    (due_append (j + 1 + k) (dues_in files lane j before q) (dues_from files lane (j + 1) (before ++ q.items) ps)
    ∙ rw (none_due (j + 1 + k) j (dues_in files lane j before q) (omega arith) (dues_of_phase files lane j before q))
    (due_at files lane (j + 1) (before ++ q.items) ps k p at ∙ ap (λ (xs : List Item). dues_in files lane (j + 1 + k) xs p) (append_assoc before q.items (items_in (take k ps)))))

-- they are what the lane is to send in the phase
pub sent_at : (files : Files) (lane : ℕ) (ps : List Phase) (k : ℕ) (p : Phase) → slice_get ps k ≡ Some p → map sent_of (due_in k (dues_from files lane 0 [] ps)) ≡ to_send files lane (items_in (take k ps)) p
sent_at files lane ps k p at =
    let number : 0 + k ≡ k = omega arith in
    ap (map sent_of) (subst (λ (n : ℕ). due_in n (dues_from files lane 0 [] ps) ≡ dues_in files lane n (items_in (take k ps)) p) number (due_at files lane 0 [] ps k p at))
    ∙ dues_sent files lane k (items_in (take k ps)) p

-- what holds of each packet of a lane whose items are such
pub from_all : (P : Due → Type 0) (Q : Item → Type 0) (files : Files) (lane j : ℕ) (before : List Item) (ps : List Phase) → ((i : Item) (k m : ℕ) (bs : List ℕ) → Q i → P (record { phase = k; index = m; dev = i.dev; bytes = bs }))
    → AllByRecursion (λ p. AllByRecursion Q p.items) ps → AllByRecursion P (dues_from files lane j before ps)
from_all P Q files lane j before [] its a = tt
from_all P Q files lane j before (p ∷ ps) its a =
    all_append P (dues_in files lane j before p) (dues_from files lane (j + 1) (before ++ p.items) ps)
    (among_all P Q files lane j (items_of files lane before + 1) p.items (λ i m bs q. its i j m bs q) a.0)
    (from_all P Q files lane (j + 1) (before ++ p.items) ps its a.1)
