-- A lane's packets: as a history names them, and by their phases.
use Rattle.std.proofs.Common.{◌≡◌, ◌≢◌, refl, ap, sym, ◌∙◌, ℕ, ◌+◌, ◌==◌, ◌<◌, ◌≤◌, Bool, true, false, Some, None, List, [], ◌∷◌, ◌++◌, length, map, drop, arith}
use Rattle.std.proofs.lemmas.List.{length-append, length-map, map-append, append-nil, append_assoc}
use Rattle.std.specs.List.{AllByRecursion}
use Rattle.std.specs.Prelude.{if◌then◌else◌, is_none}
use Rattle.mr_base.specs.Heads.{cause_of}
use Rattle.mr_base.specs.Outside.{Files}
use Rattle.mr_load.specs.Dues.{Due, sent_of, due_of, dues_by, dues_among, dues_in, dues_from}
use Rattle.mr_load.specs.Items.{Content, contents_of, items_by, numbered}
use Rattle.mr_load.specs.Loading.{items_in}
use Rattle.mr_load.specs.Made.{Sent, packet_of, packets_from, items_of, to_send}
use Rattle.mr_load.proofs.Rows.{all_append, all_weaker, items_append, numbered_all, numbered_append, numbered_map}
use Rattle.mr_scenario.specs.declared.scenario.Given.{Given}
use Rattle.mr_scenario.specs.declared.scenario.Item.{Item}
use Rattle.mr_scenario.specs.declared.scenario.Phase.{Phase}

-- as a history names them

one_sent : (b : Bool) (d : Due) → map sent_of (if b then d ∷ [] else []) ≡ (if b then sent_of d ∷ [] else [])
one_sent true d = refl
one_sent false d = refl

content_sent : (k : ℕ) (i : Item) (n : ℕ) (c : Content) → map sent_of (due_of k i n c) ≡ packet_of i n c
content_sent k i n None = refl
content_sent k i n (Some bs) = one_sent (is_none (cause_of bs)) (record { phase = k; index = n; dev = i.dev; bytes = bs })

pub among_sent : (C : Given → List Content) (lane k n : ℕ) (is : List Item) → map sent_of (numbered (due_of k) C lane n is) ≡ numbered packet_of C lane n is
among_sent C lane k n is = numbered_map sent_of (due_of k) packet_of (content_sent k) C lane n is

-- what a lane brings in a phase is what it is to send in it
pub dues_sent : (files : Files) (lane k : ℕ) (before : List Item) (p : Phase) → map sent_of (dues_in files lane k before p) ≡ to_send files lane before p
dues_sent files lane k before p = among_sent (contents_of files) lane k (items_of files lane before + 1) p.items

pub all_sent : (C : Given → List Content) (lane k : ℕ) (before : List Item) (ps : List Phase)
    → map sent_of (dues_by C lane k before ps) ≡ numbered packet_of C lane (items_by C lane before + 1) (items_in ps)
all_sent C lane k before [] = refl
all_sent C lane k before (p ∷ ps) =
    let next : items_by C lane (before ++ p.items) + 1 ≡ items_by C lane before + 1 + items_by C lane p.items = omega (arith, items_append C lane before p.items) in
    let first : List Due = numbered (due_of k) C lane (items_by C lane before + 1) p.items in
    let rest : List Due = dues_by C lane (k + 1) (before ++ p.items) ps in
    let sent : List Sent = numbered packet_of C lane (items_by C lane before + 1) p.items in
    map-append sent_of first rest
    ∙ ap (λ (xs : List Sent). xs ++ map sent_of rest) (among_sent C lane k (items_by C lane before + 1) p.items)
    ∙ ap (λ (xs : List Sent). sent ++ xs) (all_sent C lane (k + 1) (before ++ p.items) ps ∙ ap (λ (n : ℕ). numbered packet_of C lane n (items_in ps)) next)
    ∙ sym (numbered_append packet_of C lane (items_by C lane before + 1) p.items (items_in ps))

-- how many packets a lane has
pub count_by : (C : Given → List Content) (lane : ℕ) (ps : List Phase) → length (dues_by C lane 0 [] ps) ≡ length (numbered packet_of C lane 1 (items_in ps))
count_by C lane ps =
    let sent : length (map sent_of (dues_by C lane 0 [] ps)) ≡ length (dues_by C lane 0 [] ps) = rw (length-map) refl in
    sym sent ∙ ap length (all_sent C lane 0 [] ps)

pub dues_count : (files : Files) (lane : ℕ) (ps : List Phase) → length (dues_from files lane 0 [] ps) ≡ length (packets_from files lane 1 (items_in ps))
dues_count files lane ps = count_by (contents_of files) lane ps

-- by their phases

abbrev pub IsOf : ℕ → Due → Type 0
IsOf k d = d.phase ≡ k

abbrev pub IsFrom : ℕ → Due → Type 0
IsFrom k d = k ≤ d.phase

one_of : (b : Bool) (k : ℕ) (d : Due) → d.phase ≡ k → AllByRecursion (IsOf k) (if b then d ∷ [] else [])
one_of true k d e = (e, tt)
one_of false k d e = tt

content_of : (k : ℕ) (i : Item) (n : ℕ) (c : Content) → AllByRecursion (IsOf k) (due_of k i n c)
content_of k i n None = tt
content_of k i n (Some bs) = one_of (is_none (cause_of bs)) k (record { phase = k; index = n; dev = i.dev; bytes = bs }) refl

abbrev AnyItem : Item → Type 0
AnyItem i = Unit {0}

any_items : (is : List Item) → AllByRecursion AnyItem is
any_items [] = tt
any_items (i ∷ is) = (tt, any_items is)

pub among_of : (C : Given → List Content) (lane k n : ℕ) (is : List Item) → AllByRecursion (IsOf k) (numbered (due_of k) C lane n is)
among_of C lane k n is = numbered_all (IsOf k) AnyItem (due_of k) (λ i any. content_of k i) C lane n is (any_items is)

-- each packet of phase k has this number
pub dues_of_phase : (files : Files) (lane k : ℕ) (before : List Item) (p : Phase) → AllByRecursion (IsOf k) (dues_in files lane k before p)
dues_of_phase files lane k before p = among_of (contents_of files) lane k (items_of files lane before + 1) p.items

-- from phase k on there is no packet of a former one
pub dues_later : (files : Files) (lane k : ℕ) (before : List Item) (ps : List Phase) → AllByRecursion (IsFrom k) (dues_from files lane k before ps)
dues_later files lane k before [] = tt
dues_later files lane k before (p ∷ ps) =
    all_append (IsFrom k) (dues_in files lane k before p) (dues_from files lane (k + 1) (before ++ p.items) ps)
    (all_weaker (IsOf k) (IsFrom k) (λ d e. omega (arith, e)) (dues_in files lane k before p) (dues_of_phase files lane k before p))
    (all_weaker (IsFrom (k + 1)) (IsFrom k) (λ d l. omega (arith, l)) (dues_from files lane (k + 1) (before ++ p.items) ps) (dues_later files lane (k + 1) (before ++ p.items) ps))

-- Where one stops in a list whose first part is of phase k, and whose rest is of later ones: with nothing left the part is
-- over, and so it is where the first that is left is of another phase; else that one is the part's first.
pub none_left : (part rest : List Due) → part ++ rest ≡ [] → part ≡ []
none_left [] rest e = refl
none_left (d ∷ part) rest e = absurd (cc)

pub other_left : (k : ℕ) (part rest left : List Due) (d : Due) → AllByRecursion (IsOf k) part → part ++ rest ≡ d ∷ left → d.phase ≢ k → part ≡ []
other_left k [] rest left d of e other = refl
other_left k (x ∷ part) rest left d of e other =
    let same : x ≡ d = cc in
    absurd (other (ap (λ (y : Due). y.phase) (sym same) ∙ of.0))

pub one_left : (k : ℕ) (part rest left : List Due) (d : Due) → AllByRecursion (IsFrom (k + 1)) rest → part ++ rest ≡ d ∷ left → d.phase ≡ k
    → (more : List Due) × (part ≡ d ∷ more) × (more ++ rest ≡ left)
one_left k [] [] left d later e is = absurd (cc)
one_left k [] (x ∷ rest) left d later e is =
    let same : x ≡ d = cc in
    let phase : x.phase ≡ k = ap (λ (y : Due). y.phase) same ∙ is in
    absurd (omega (arith, later.0, phase))
one_left k (x ∷ part) rest left d later e is =
    let same : x ≡ d = cc in
    let on : part ++ rest ≡ left = cc in
    (part, ap (λ (y : Due). y ∷ part) same, on)
