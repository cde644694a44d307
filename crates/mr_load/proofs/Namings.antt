-- The files that a scenario names: each once, each as what it is named as, and no other.
use Rattle.std.proofs.Common.{◌≡◌, ℕ, ◌+◌, ◌*◌, ◌&&◌, ◌||◌, Bool, true, false, Option, Some, List, [], ◌∷◌, ◌++◌, length, map, bytes_eq, refl, sym, ap, ◌∙◌, nat_lt, arith}
use Rattle.std.proofs.lemmas.Bool.{lt-ltb}
use Rattle.std.proofs.lemmas.List.Sums.{sum_by-cons}
use Rattle.std.proofs.lemmas.Slice.Eq.{bytes_eq-Decides}
use Rattle.std.specs.List.{AllByRecursion, list_any, fold, sum_by}
use Rattle.std.specs.Map.{lookup}
use Rattle.std.specs.Prelude.{if◌then◌else◌}
use Rattle.indexmap.specs.IndexMap.{insert_entry}
use Rattle.mr_base.specs.Outside.{Files}
use Rattle.mr_load.specs.Items.{contents_of, all_items}
use Rattle.mr_load.specs.Loading.{items_in}
use Rattle.mr_load.specs.Naming.{Naming, as_conf, as_trace, named_in, named_on, unused, use_of, with_given, with_kind, with_naming}
use Rattle.mr_load.specs.Reading.{names_in}
use Rattle.mr_load.specs.declared.naming.Use.{Use}
use Rattle.mr_load.proofs.Rows.{all_items_append, all_one}
use Rattle.mr_scenario.specs.Fits.{Fits, IsDriven, IsFileGiven, IsItem, packets_in, packets_of}
use Rattle.mr_scenario.specs.declared.scenario.DaemonKind.{DaemonKind}
use Rattle.mr_scenario.specs.declared.scenario.DaemonKind.TheVariants.{Plain, Admin, Smc}
use Rattle.mr_scenario.specs.declared.scenario.Given.{Given}
use Rattle.mr_scenario.specs.declared.scenario.Given.TheVariants.{Bytes, Trace}
use Rattle.mr_scenario.specs.declared.scenario.Item.{Item}
use Rattle.mr_scenario.specs.declared.scenario.Phase.{Phase}
use Rattle.mr_scenario.specs.declared.scenario.Scenario.{Scenario}
use Rattle.mr_words.specs.Names.{is_file}

-- tests of names

pub same_name : (a b : List ℕ) → bytes_eq a b ≡ true → a ≡ b
same_name a b e = (bytes_eq-Decides a b).0 e

pub eq_self : (a : List ℕ) → bytes_eq a a ≡ true
eq_self a = (bytes_eq-Decides a a).1 refl

no_true : (b : Bool) → (b ≡ true → ⊥) → b ≡ false
no_true true never = absurd (never refl)
no_true false never = refl

true_no : (b : Bool) → b ≡ false → b ≡ true → ⊥
true_no true e f = absurd (cc)
true_no false e f = absurd (cc)

pub eq_turned : (a b : List ℕ) → bytes_eq a b ≡ false → bytes_eq b a ≡ false
eq_turned a b e = no_true (bytes_eq b a) (λ t. true_no (bytes_eq a b) e ((bytes_eq-Decides a b).1 (sym (same_name b a t))))

pub either_true : (b c : Bool) → c ≡ true → (b || c) ≡ true
either_true true c e = refl
either_true false c e = e

pub neither : (b c : Bool) → (b || c) ≡ false → (b ≡ false) × (c ≡ false)
neither true c e = absurd (cc)
neither false c e = (refl, e)

pub is_in : List ℕ → List (List ℕ) → Bool
is_in name names = list_any (bytes_eq name) names

-- the names so far, and names behind them: none stands twice
abbrev pub Distinct : List (List ℕ) → List (List ℕ) → Type 0
Distinct seen [] = Unit {0}
Distinct seen (n ∷ ns) = (list_any (bytes_eq n) seen ≡ false) × Distinct (seen ++ n ∷ []) ns

-- what holds of each step of a fold
pub fold_keeps : {A B : Type 0} (P : B → Type 0) (Q : A → Type 0) (f : B → A → B) → ((b : B) (x : A) → Q x → P b → P (f b x)) → (b : B) (xs : List A) → AllByRecursion Q xs → P b → P (fold f b xs)
fold_keeps P Q f step b [] a p = p
fold_keeps P Q f step b (x ∷ xs) a p = fold_keeps P Q f step (f b x) xs a.1 (step b x a.0 p)

-- what holds of each step, whatever it takes
pub fold_stays : {A B : Type 0} (P : B → Type 0) (f : B → A → B) → ((b : B) (x : A) → P b → P (f b x)) → (b : B) (xs : List A) → P b → P (fold f b xs)
fold_stays P f step b [] p = p
fold_stays P f step b (x ∷ xs) p = fold_stays P f step (f b x) xs (step b x p)

-- What stays with each naming, whatever file is named, stays with all of them.
module _ (P : List Naming → Type 0) (confs : (ns : List Naming) (file : List ℕ) → P ns → P (with_naming as_conf ns file)) (traces : (ns : List Naming) (file : List ℕ) → P ns → P (with_naming as_trace ns file)) where
  kind_stays : (ns : List Naming) (k : DaemonKind) → P ns → P (with_kind ns k)
  kind_stays ns (Smc files) p = fold_stays P (with_naming as_conf) confs ns files p
  kind_stays ns Plain p = p
  kind_stays ns Admin p = p

  given_stays : (ns : List Naming) (g : Given) → P ns → P (with_given ns g)
  given_stays ns (Bytes bs) p = p
  given_stays ns (Trace file) p = traces ns file p

  items_stay : (ns : List Naming) (is : List Item) → P ns → P (named_on ns is)
  items_stay ns is p = fold_stays P (λ ms i. with_given ms i.given) (λ ms i q. given_stays ms i.given q) ns is p

  phases_stay : (ns : List Naming) (ps : List Phase) → P ns → P (fold (λ ms p. named_on ms p.items) ns ps)
  phases_stay ns ps p = fold_stays P (λ ms p. named_on ms p.items) (λ ms p q. items_stay ms p.items q) ns ps p

  daemons_stay : (ns : List Naming) (ks : List DaemonKind) → P ns → P (fold with_kind ns ks)
  daemons_stay ns ks p = fold_stays P with_kind kind_stays ns ks p

  stays_named : (s : Scenario) → P [] → P (named_in s)
  stays_named s p = phases_stay (fold with_kind [] s.daemons) s.phases (daemons_stay [] s.daemons p)

-- none stands twice

pub any_push : (x y : List ℕ) (ys : List (List ℕ)) → list_any (bytes_eq x) ys ≡ false → bytes_eq x y ≡ false → list_any (bytes_eq x) (ys ++ y ∷ []) ≡ false
any_push x y [] a e = rw e refl
any_push x y (z ∷ zs) a e =
    let both = neither (bytes_eq x z) (list_any (bytes_eq x) zs) a in
    rw (both.0) (any_push x y zs both.1 e)

distinct_by : (once : Use → Use) (b : Bool) (file : List ℕ) (n : Naming) (ns : List Naming) (seen : List (List ℕ)) → bytes_eq file n.0 ≡ b → Distinct seen (n.0 ∷ names_in ns)
    → (bytes_eq file n.0 ≡ false → Distinct (seen ++ n.0 ∷ []) (names_in (with_naming once ns file)))
    → Distinct seen (names_in (if b then (n.0, once n.1) ∷ ns else n ∷ with_naming once ns file))
distinct_by once true file n ns seen e d rest = d
distinct_by once false file n ns seen e d rest = (d.0, rest e)

naming_distinct : (once : Use → Use) (seen : List (List ℕ)) (ns : List Naming) (file : List ℕ) → Distinct seen (names_in ns) → list_any (bytes_eq file) seen ≡ false → Distinct seen (names_in (with_naming once ns file))
naming_distinct once seen [] file d new = (new, tt)
naming_distinct once seen (n ∷ ns) file d new =
    distinct_by once (bytes_eq file n.0) file n ns seen refl d (λ e. naming_distinct once (seen ++ n.0 ∷ []) ns file d.1 (any_push file n.0 seen new e))

pub named_distinct : (s : Scenario) → Distinct [] (names_in (named_in s))
named_distinct s =
    stays_named (λ ns. Distinct [] (names_in ns)) (λ ns file d. naming_distinct as_conf [] ns file d refl) (λ ns file d. naming_distinct as_trace [] ns file d refl) s tt

-- each is named by a word for files

abbrev AreFiles : List Naming → Type 0
AreFiles ns = AllByRecursion (λ m. is_file m.0 ≡ true) ns

files_by : (once : Use → Use) (b : Bool) (file : List ℕ) (n : Naming) (ns : List Naming) → is_file n.0 ≡ true → AreFiles ns → AreFiles (with_naming once ns file)
    → AreFiles (if b then (n.0, once n.1) ∷ ns else n ∷ with_naming once ns file)
files_by once true file n ns one old new = (one, old)
files_by once false file n ns one old new = (one, new)

naming_files : (once : Use → Use) (ns : List Naming) (file : List ℕ) → is_file file ≡ true → AreFiles ns → AreFiles (with_naming once ns file)
naming_files once [] file f a = (f, tt)
naming_files once (n ∷ ns) file f a = files_by once (bytes_eq file n.0) file n ns a.0 a.1 (naming_files once ns file f a.1)

kind_files : (ns : List Naming) (k : DaemonKind) → IsDriven k → AreFiles ns → AreFiles (with_kind ns k)
kind_files ns (Smc files) f a = fold_keeps AreFiles (λ file. is_file file ≡ true) (with_naming as_conf) (naming_files as_conf) ns files f a
kind_files ns Plain f a = a
kind_files ns Admin f a = a

given_files : (ns : List Naming) (g : Given) → IsFileGiven g → AreFiles ns → AreFiles (with_given ns g)
given_files ns (Bytes bs) f a = a
given_files ns (Trace file) f a = naming_files as_trace ns file f a

pub named_files : (s : Scenario) → Fits s → AllByRecursion (λ m. is_file m.0 ≡ true) (named_in s)
named_files s f =
    fold_keeps AreFiles (λ (p : Phase). AllByRecursion (IsItem s.lanes (length s.devices)) p.items) (λ ns p. named_on ns p.items)
    (λ ns p its b. fold_keeps AreFiles (IsItem s.lanes (length s.devices)) (λ ms i. with_given ms i.given) (λ ms i g c. given_files ms i.given g.file c) ns p.items its b)
    (fold with_kind [] s.daemons) s.phases f.items (fold_keeps AreFiles IsDriven with_kind kind_files [] s.daemons f.confs tt)

-- each is there as what it is named as

abbrev pub is_conf : Use → Bool
is_conf u = u.conf

abbrev pub is_trace : Use → Bool
is_trace u = nat_lt 0 u.lines

-- a file stands among these with such a use
abbrev pub has_use : (Use → Bool) → List ℕ → List Naming → Bool
has_use test x ns = list_any (λ n. bytes_eq x n.0 && test n.1) ns

-- a test that a further naming does not undo
abbrev Lasts : (Use → Bool) → (Use → Use) → Type 0
Lasts test once = (u : Use) → test u ≡ true → test (once u) ≡ true

conf_lasts : Lasts is_conf as_conf
conf_lasts u e = refl

conf_stays : Lasts is_conf as_trace
conf_stays u e = e

trace_stays : Lasts is_trace as_conf
trace_stays u e = e

more_lines : (k : ℕ) → nat_lt 0 (k + 1) ≡ true
more_lines k = lt-ltb 0 (k + 1) (omega arith)

trace_lasts : Lasts is_trace as_trace
trace_lasts u e = more_lines u.lines

use_by : (test : Use → Bool) (once : Use → Use) (b : Bool) (x file : List ℕ) (n : Naming) (ns : List Naming) → Lasts test once → has_use test x (n ∷ ns) ≡ true → (has_use test x ns ≡ true → has_use test x (with_naming once ns file) ≡ true)
    → has_use test x (if b then (n.0, once n.1) ∷ ns else n ∷ with_naming once ns file) ≡ true
use_by test once true x file n ns lasts e more = by (bytes_eq x n.0) (test n.1) refl e
  where
    by : (c d : Bool) → test n.1 ≡ d → (c && d || has_use test x ns) ≡ true → (c && test (once n.1) || has_use test x ns) ≡ true
    by true true f g = rw (lasts n.1 f) refl
    by true false f g = either_true (test (once n.1)) _ g
    by false d f g = g
use_by test once false x file n ns lasts e more = by (bytes_eq x n.0 && test n.1) e
  where
    by : (c : Bool) → (c || has_use test x ns) ≡ true → (c || has_use test x (with_naming once ns file)) ≡ true
    by true f = refl
    by false f = more f

naming_use : (test : Use → Bool) (once : Use → Use) → Lasts test once → (x : List ℕ) (ns : List Naming) (file : List ℕ) → has_use test x ns ≡ true → has_use test x (with_naming once ns file) ≡ true
naming_use test once lasts x [] file e = absurd (cc)
naming_use test once lasts x (n ∷ ns) file e = use_by test once (bytes_eq file n.0) x file n ns lasts e (λ f. naming_use test once lasts x ns file f)

own_by : (test : Use → Bool) (once : Use → Use) (b : Bool) (file : List ℕ) (n : Naming) (ns : List Naming) → ((u : Use) → test (once u) ≡ true) → bytes_eq file n.0 ≡ b → has_use test file (with_naming once ns file) ≡ true
    → has_use test file (if b then (n.0, once n.1) ∷ ns else n ∷ with_naming once ns file) ≡ true
own_by test once true file n ns makes e more = rw (e, makes n.1) refl
own_by test once false file n ns makes e more = either_true (bytes_eq file n.0 && test n.1) _ more

naming_own : (test : Use → Bool) (once : Use → Use) → ((u : Use) → test (once u) ≡ true) → (ns : List Naming) (file : List ℕ) → has_use test file (with_naming once ns file) ≡ true
naming_own test once makes [] file = rw (eq_self file, makes unused) refl
naming_own test once makes (n ∷ ns) file = own_by test once (bytes_eq file n.0) file n ns makes refl (naming_own test once makes ns file)

-- A use lasts over all further namings.
items_last : (test : Use → Bool) → Lasts test as_conf → Lasts test as_trace → (x : List ℕ) (ns : List Naming) (is : List Item) → has_use test x ns ≡ true → has_use test x (named_on ns is) ≡ true
items_last test a b x = items_stay (λ ns. has_use test x ns ≡ true) (naming_use test as_conf a x) (naming_use test as_trace b x)

phases_last : (test : Use → Bool) → Lasts test as_conf → Lasts test as_trace → (x : List ℕ) (ns : List Naming) (ps : List Phase) → has_use test x ns ≡ true → has_use test x (fold (λ ms p. named_on ms p.items) ns ps) ≡ true
phases_last test a b x = phases_stay (λ ns. has_use test x ns ≡ true) (naming_use test as_conf a x) (naming_use test as_trace b x)

daemons_last : (test : Use → Bool) → Lasts test as_conf → Lasts test as_trace → (x : List ℕ) (ns : List Naming) (ks : List DaemonKind) → has_use test x ns ≡ true → has_use test x (fold with_kind ns ks) ≡ true
daemons_last test a b x = daemons_stay (λ ns. has_use test x ns ≡ true) (naming_use test as_conf a x) (naming_use test as_trace b x)

-- a line's file is among these, as a trace
abbrev pub IsNamed : List Naming → Given → Type 0
IsNamed ns (Bytes bs) = Unit {0}
IsNamed ns (Trace file) = has_use is_trace file ns ≡ true

given_own : (ns : List Naming) (g : Given) (f : List Naming → List Naming) → ((x : List ℕ) → has_use is_trace x (with_given ns g) ≡ true → has_use is_trace x (f (with_given ns g)) ≡ true) → IsNamed (f (with_given ns g)) g
given_own ns (Bytes bs) f keep = tt
given_own ns (Trace file) f keep = keep file (naming_own is_trace as_trace (λ u. more_lines u.lines) ns file)

items_named : (ns : List Naming) (is : List Item) (f : List Naming → List Naming) → ((x : List ℕ) (ms : List Naming) → has_use is_trace x ms ≡ true → has_use is_trace x (f ms) ≡ true)
    → AllByRecursion (λ i. IsNamed (f (named_on ns is)) i.given) is
items_named ns [] f keep = tt
items_named ns (i ∷ is) f keep = (
  given_own ns i.given (λ ms. f (named_on ms is)) (λ x e. keep x (named_on (with_given ns i.given) is) (items_last is_trace trace_stays trace_lasts x (with_given ns i.given) is e)),
  items_named (with_given ns i.given) is f keep,
)

phases_named : (ns : List Naming) (ps : List Phase) → AllByRecursion (λ p. AllByRecursion (λ i. IsNamed (fold (λ ms p. named_on ms p.items) ns ps) i.given) p.items) ps
phases_named ns [] = tt
phases_named ns (p ∷ ps) = (
  items_named ns p.items (λ ms. fold (λ os q. named_on os q.items) ms ps) (λ x ms e. phases_last is_trace trace_stays trace_lasts x ms ps e),
  phases_named (named_on ns p.items) ps,
)

pub all_named : (s : Scenario) → AllByRecursion (λ p. AllByRecursion (λ i. IsNamed (named_in s) i.given) p.items) s.phases
all_named s = phases_named (fold with_kind [] s.daemons) s.phases

-- a daemon's files are among these, as configurations
abbrev pub IsServed : List Naming → DaemonKind → Type 0
IsServed ns (Smc files) = AllByRecursion (λ file. has_use is_conf file ns ≡ true) files
IsServed ns Plain = Unit {0}
IsServed ns Admin = Unit {0}

files_served : (ns : List Naming) (files : List (List ℕ)) (f : List Naming → List Naming) → ((x : List ℕ) (ms : List Naming) → has_use is_conf x ms ≡ true → has_use is_conf x (f ms) ≡ true)
    → AllByRecursion (λ file. has_use is_conf file (f (fold (with_naming as_conf) ns files)) ≡ true) files
files_served ns [] f keep = tt
files_served ns (file ∷ files) f keep = (
  keep file (fold (with_naming as_conf) (with_naming as_conf ns file) files)
      (fold_stays (λ ms. has_use is_conf file ms ≡ true) (with_naming as_conf) (naming_use is_conf as_conf conf_lasts file) (with_naming as_conf ns file) files (naming_own is_conf as_conf (λ u. refl) ns file)),
  files_served (with_naming as_conf ns file) files f keep,
)

kind_served : (ns : List Naming) (k : DaemonKind) (f : List Naming → List Naming) → ((x : List ℕ) (ms : List Naming) → has_use is_conf x ms ≡ true → has_use is_conf x (f ms) ≡ true) → IsServed (f (with_kind ns k)) k
kind_served ns (Smc files) f keep = files_served ns files f keep
kind_served ns Plain f keep = tt
kind_served ns Admin f keep = tt

daemons_served : (ns : List Naming) (ks : List DaemonKind) (f : List Naming → List Naming) → ((x : List ℕ) (ms : List Naming) → has_use is_conf x ms ≡ true → has_use is_conf x (f ms) ≡ true)
    → AllByRecursion (IsServed (f (fold with_kind ns ks))) ks
daemons_served ns [] f keep = tt
daemons_served ns (k ∷ ks) f keep = (
  kind_served ns k (λ ms. f (fold with_kind ms ks)) (λ x ms e. keep x (fold with_kind ms ks) (daemons_last is_conf conf_lasts conf_stays x ms ks e)),
  daemons_served (with_kind ns k) ks f keep,
)

pub all_served : (s : Scenario) → AllByRecursion (IsServed (named_in s)) s.daemons
all_served s =
    daemons_served [] s.daemons (λ ms. fold (λ os p. named_on os p.items) ms s.phases) (λ x ms e. phases_last is_conf conf_lasts conf_stays x ms s.phases e)

-- how many items the files give together

abbrev pub named_sum : (List ℕ → ℕ) → List Naming → ℕ
named_sum g ns = sum_by (λ n. n.1.lines * g n.0) ns

pub sum_one : (g : List ℕ → ℕ) (n : Naming) (ns : List Naming) → named_sum g (n ∷ ns) ≡ n.1.lines * g n.0 + named_sum g ns
sum_one g n ns = sum_by-cons (λ (m : Naming). m.1.lines * g m.0) n ns

one_more : (k m : ℕ) → (k + 1) * m ≡ k * m + m
one_more k m = search arith

-- a naming as a trace counts once more
trace_by : (b : Bool) (g : List ℕ → ℕ) (file : List ℕ) (n : Naming) (ns : List Naming) → bytes_eq file n.0 ≡ b → named_sum g (with_naming as_trace ns file) ≡ named_sum g ns + g file
    → named_sum g (if b then (n.0, as_trace n.1) ∷ ns else n ∷ with_naming as_trace ns file) ≡ named_sum g (n ∷ ns) + g file
trace_by true g file n ns e more =
    let same : g file ≡ g n.0 = ap g (same_name file n.0 e) in
    omega (arith, sum_one g (n.0, as_trace n.1) ns, sum_one g n ns, one_more n.1.lines (g n.0), same)
trace_by false g file n ns e more = omega (arith, sum_one g n (with_naming as_trace ns file), sum_one g n ns, more)

trace_sum : (g : List ℕ → ℕ) (ns : List Naming) (file : List ℕ) → named_sum g (with_naming as_trace ns file) ≡ named_sum g ns + g file
trace_sum g [] file =
    let one : 1 * g file ≡ g file = search arith in
    omega (arith, sum_one g (file, as_trace unused) [], one)
trace_sum g (n ∷ ns) file = trace_by (bytes_eq file n.0) g file n ns refl (trace_sum g ns file)

-- and one as a configuration does not
conf_by : (b : Bool) (g : List ℕ → ℕ) (file : List ℕ) (n : Naming) (ns : List Naming) → named_sum g (with_naming as_conf ns file) ≡ named_sum g ns
    → named_sum g (if b then (n.0, as_conf n.1) ∷ ns else n ∷ with_naming as_conf ns file) ≡ named_sum g (n ∷ ns)
conf_by true g file n ns more = omega (arith, sum_one g (n.0, as_conf n.1) ns, sum_one g n ns)
conf_by false g file n ns more = omega (arith, sum_one g n (with_naming as_conf ns file), sum_one g n ns, more)

conf_sum : (g : List ℕ → ℕ) (ns : List Naming) (file : List ℕ) → named_sum g (with_naming as_conf ns file) ≡ named_sum g ns
conf_sum g [] file =
    let none : 0 * g file ≡ 0 = search arith in
    omega (arith, sum_one g (file, as_conf unused) [], none)
conf_sum g (n ∷ ns) file = conf_by (bytes_eq file n.0) g file n ns (conf_sum g ns file)

kind_sum : (g : List ℕ → ℕ) (ns : List Naming) (k : DaemonKind) → named_sum g ns ≡ 0 → named_sum g (with_kind ns k) ≡ 0
kind_sum g ns (Smc files) e = fold_stays (λ ms. named_sum g ms ≡ 0) (with_naming as_conf) (λ ms file f. conf_sum g ms file ∙ f) ns files e
kind_sum g ns Plain e = e
kind_sum g ns Admin e = e

-- by the files, how many items each gives
abbrev pub items_there_in : Files → List ℕ → ℕ
items_there_in files name = length (contents_of files (Trace name))

given_sum : (files : Files) (ns : List Naming) (g : Given) → named_sum (items_there_in files) (with_given ns g) + packets_in g ≡ named_sum (items_there_in files) ns + length (contents_of files g)
given_sum files ns (Bytes bs) = refl
given_sum files ns (Trace file) = omega (arith, trace_sum (items_there_in files) ns file)

items_sum : (files : Files) (ns : List Naming) (is : List Item) → named_sum (items_there_in files) (named_on ns is) + sum_by (λ i. packets_in i.given) is ≡ named_sum (items_there_in files) ns + all_items (contents_of files) is
items_sum files ns [] = refl
items_sum files ns (i ∷ is) =
    omega (arith, items_sum files (with_given ns i.given) is, given_sum files ns i.given, sum_by-cons (λ (x : Item). packets_in x.given) i is, all_one (contents_of files) i is)

phases_sum : (files : Files) (ns : List Naming) (ps : List Phase) → named_sum (items_there_in files) (fold (λ ms p. named_on ms p.items) ns ps) + packets_of ps ≡ named_sum (items_there_in files) ns + all_items (contents_of files) (items_in ps)
phases_sum files ns [] = refl
phases_sum files ns (p ∷ ps) =
    omega (arith, phases_sum files (named_on ns p.items) ps, items_sum files ns p.items, sum_by-cons (λ (q : Phase). sum_by (λ (x : Item). packets_in x.given) q.items) p ps, all_items_append (contents_of files) p.items (items_in ps))

pub named_items : (files : Files) (s : Scenario) → named_sum (items_there_in files) (named_in s) + packets_of s.phases ≡ all_items (contents_of files) (items_in s.phases)
named_items files s =
    let none = fold_stays (λ ms. named_sum (items_there_in files) ms ≡ 0) with_kind (kind_sum (items_there_in files)) [] s.daemons refl in
    omega (arith, phases_sum files (fold with_kind [] s.daemons) s.phases, none)

-- one naming more, by a map

insert_by : (once : Use → Use) (b : Bool) (file : List ℕ) (n : Naming) (ns : List Naming) (v : Use) → (b ≡ true → v ≡ once n.1) → (b ≡ false → insert_entry bytes_eq ns file v ≡ with_naming once ns file)
    → (if b then (n.0, v) ∷ ns else n ∷ insert_entry bytes_eq ns file v) ≡ (if b then (n.0, once n.1) ∷ ns else n ∷ with_naming once ns file)
insert_by once true file n ns v e f = rw (e refl) refl
insert_by once false file n ns v e f = rw (f refl) refl

look_true : (file : List ℕ) (n : Naming) (ns : List Naming) → bytes_eq file n.0 ≡ true → lookup (bytes_eq file) (n ∷ ns) ≡ Some n.1
look_true file n ns e = rw e refl

look_false : (file : List ℕ) (n : Naming) (ns : List Naming) → bytes_eq file n.0 ≡ false → lookup (bytes_eq file) (n ∷ ns) ≡ lookup (bytes_eq file) ns
look_false file n ns e = rw e refl

pub insert_naming : (once : Use → Use) (ns : List Naming) (file : List ℕ) (v : Use) → v ≡ once (use_of (lookup (bytes_eq file) ns)) → insert_entry bytes_eq ns file v ≡ with_naming once ns file
insert_naming once [] file v e = rw e refl
insert_naming once (n ∷ ns) file v e =
    insert_by once (bytes_eq file n.0) file n ns v (λ t. e ∙ ap (λ (o : Option Use). once (use_of o)) (look_true file n ns t))
    (λ f. insert_naming once ns file v (e ∙ ap (λ (o : Option Use). once (use_of o)) (look_false file n ns f)))
