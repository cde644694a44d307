-- What the bytes of a file load to, with the files that they name, is what the file loads to over the files of a store.
use Rattle.std.proofs.Common.{◌≡◌, ◌≤◌, ℕ, ◌+◌, ◌*◌, ◌&&◌, ◌||◌, Bool, true, false, not, Option, Some, None, Result, Ok, Err, List, [], ◌∷◌, ◌++◌, length, map, take, drop, bytes_eq, is_some, nat_lt, nat_le, zero, suc, refl, sym, ap, ◌∙◌, subst, arith}
use Rattle.std.proofs.lemmas.Bool.{and_parts}
use Rattle.std.proofs.lemmas.Bool.Decides.{nat_tests}
use Rattle.std.proofs.lemmas.List.{append_assoc, append-nil, length-map, map-append}
use Rattle.std.proofs.lemmas.List.Elements.{Contains-append_left, Contains-append_right}
use Rattle.std.specs.List.{AllByRecursion, Contains, list_any}
use Rattle.std.specs.Map.{lookup}
use Rattle.std.specs.Prelude.{if◌then◌else◌, IfSome}
use Rattle.mr_base.specs.Outside.{Files, HasFile}
use Rattle.mr_base.specs.declared.store_call.StoreCall.{StoreCall}
use Rattle.mr_load.specs.Faults.{HasRead, cuts, fails, read_of, reads_of}
use Rattle.mr_load.specs.Items.{all_items, contents_in, contents_of, contents_read, contents_there}
use Rattle.mr_load.specs.Kept.{AreBytesOf, contents_found, contents_kept, files_kept}
use Rattle.mr_load.specs.Loading.{items_in}
use Rattle.mr_load.specs.Loads.{Gives, IsGiven, LoadsFrom, LoadsTo}
use Rattle.mr_load.specs.Naming.{Naming, named_in}
use Rattle.mr_load.specs.Reading.{AllThere, Facts, IsFound, IsKept, IsRefused, ReadsAll, Stops, names_in, read_if}
use Rattle.mr_load.specs.Refusals.{accepted, accepted_trace, after_bytes, after_file, after_files, after_lines, are_few, before_traces, but, files_read, further_read, if_few, if_ok, if_there, loaded, scenario_of, with_files, with_trace}
use Rattle.mr_load.specs.Told.{IsTold}
use Rattle.mr_load.specs.declared.loading.Loaded.{Loaded}
use Rattle.mr_load.specs.declared.naming.Use.{Use}
use Rattle.mr_load.specs.declared.reading.Reading.{Reading}
use Rattle.mr_load.specs.declared.status.Status.{Status}
use Rattle.mr_load.specs.declared.status.Status.TheVariants as status
use Rattle.mr_load.specs.declared.totals.Totals.{Totals}
use Rattle.mr_load.proofs.Namings.{Distinct, IsNamed, IsServed, all_named, all_served, eq_self, has_use, is_conf, is_trace, items_there_in, named_distinct, named_items, named_sum, neither, same_name, sum_one}
use Rattle.mr_load.proofs.ReadOn.{after_is, all_first, all_last, but_push, lines_after, reads_push, told_push}
use Rattle.mr_load.proofs.Rows.{all_weaker}
use Rattle.mr_load.proofs.Transport.{AreServed, given_loaded, in_all, same_all}
use Rattle.mr_pcap.specs.Traces.{Capture, capture_of}
use Rattle.mr_pcap.specs.declared.pcap_error.PcapError.{PcapError}
use Rattle.mr_pcap.specs.declared.pcap_error.PcapError.TheVariants as pcap
use Rattle.mr_scenario.specs.Fits.{Fits}
use Rattle.mr_scenario.specs.Spelled.{spelled}
use Rattle.mr_scenario.specs.declared.scenario.DaemonKind.{DaemonKind}
use Rattle.mr_scenario.specs.declared.scenario.DaemonKind.TheVariants.{Plain, Admin, Smc}
use Rattle.mr_scenario.specs.declared.scenario.Given.{Given}
use Rattle.mr_scenario.specs.declared.scenario.Given.TheVariants.{Bytes, Trace}
use Rattle.mr_scenario.specs.declared.scenario.Item.{Item}
use Rattle.mr_scenario.specs.declared.scenario.Phase.{Phase}
use Rattle.mr_scenario.specs.declared.scenario.Scenario.{Scenario}
use Rattle.mr_scenario.specs.declared.stop.ScenarioError.{ScenarioError}
use Rattle.mr_scenario.specs.declared.stop.ScenarioError.TheVariants as error
use Rattle.mr_words.specs.Binds.{◌>>=◌}
use Rattle.mr_words.specs.Names.{is_file}
use Rattle.mr_words.proofs.Binds.{bind_ok}

-- a name of a file has a byte
pub file_named : (w : List ℕ) → is_file w ≡ true → 1 ≤ length w
file_named w h =
    let lengths : (nat_lt 0 (length w) && nat_le (length w) 255) ≡ true = (and_parts _ _ (and_parts _ _ (and_parts _ _ (and_parts _ _ (and_parts _ _ h).0).0).0).0).0 in
    let first : nat_lt 0 (length w) ≡ true = (and_parts _ _ lengths).0 in
    grind (arith, nat_tests, first)

-- files of which all that was read is known

abbrev AllNames : List (List ℕ × List ℕ) → List (List ℕ)
AllNames has = map (λ h. h.0) has

here : (pre : List (List ℕ × List ℕ)) (h : List ℕ × List ℕ) (has : List (List ℕ × List ℕ)) → list_any (bytes_eq h.0) (AllNames pre) ≡ false → lookup (bytes_eq h.0) (pre ++ h ∷ has) ≡ Some h.1
here [] h has new = rw (eq_self h.0) refl
here (p ∷ pre) h has new =
    let both = neither (bytes_eq h.0 p.0) (list_any (bytes_eq h.0) (AllNames pre)) new in
    rw (both.0) (here pre h has both.1)

all_there : (pre has : List (List ℕ × List ℕ)) → Distinct (AllNames pre) (AllNames has) → AllThere (λ name. lookup (bytes_eq name) (pre ++ has)) has
all_there pre [] d = tt
all_there pre (h ∷ has) d = (
  here pre h has d.0,
  subst (λ (all : List (List ℕ × List ℕ)). AllThere (λ name. lookup (bytes_eq name) all) has) (append_assoc pre (h ∷ []) has)
      (all_there (pre ++ h ∷ []) has (subst (λ (seen : List (List ℕ)). Distinct seen (AllNames has)) (sym (map-append (λ (x : List ℕ × List ℕ). x.0) pre (h ∷ []))) d.1)),
)

record World (told : Option Files) (file own : List ℕ) (has : List (List ℕ × List ℕ)) : Type 0 where
  pub files : Files
  pub told_is : IsTold told files
  pub own_is : files file ≡ Some own
  pub has_is : AllThere files has

world : (told : Option Files) (file own : List ℕ) (has : List (List ℕ × List ℕ)) → HasFile told file own → IfSome told (λ files. AllThere files has) → Distinct (file ∷ []) (AllNames has) → World told file own has
world (Some files) file own has h a d = record { files = files; told_is = refl; own_is = h; has_is = a }
world None file own has h a d =
    let files : Files = λ name. lookup (bytes_eq name) ((file, own) ∷ has) in
    record { files = files; told_is = tt; own_is = rw (eq_self file) refl; has_is = all_there ((file, own) ∷ []) has d }

-- what is read is read once

any_but : (file x : List ℕ) (names : List (List ℕ)) → list_any (bytes_eq x) names ≡ false → list_any (bytes_eq x) (but file names) ≡ false
any_but file x [] e = refl
any_but file x (n ∷ ns) e =
    let both = neither (bytes_eq x n) (list_any (bytes_eq x) ns) e in
    by (bytes_eq n file) both.0 (any_but file x ns both.1)
  where
    by : (b : Bool) → bytes_eq x n ≡ false → list_any (bytes_eq x) (but file ns) ≡ false → list_any (bytes_eq x) (if not b then n ∷ but file ns else but file ns) ≡ false
    by true f g = g
    by false f g = rw f g

distinct_but : (file : List ℕ) (seen names : List (List ℕ)) → Distinct seen names → Distinct (file ∷ but file seen) (but file names)
distinct_but file seen [] d = tt
distinct_but file seen (n ∷ ns) d = by (bytes_eq n file) refl (distinct_but file (seen ++ n ∷ []) ns d.1)
  where
    by : (b : Bool) → bytes_eq n file ≡ b → Distinct (file ∷ but file (seen ++ n ∷ [])) (but file ns) → Distinct (file ∷ but file seen) (if not b then n ∷ but file ns else but file ns)
    by true e r = subst (λ (s : List (List ℕ)). Distinct (file ∷ s) (but file ns)) (but_push true file seen n e ∙ append-nil (but file seen)) r
    by false e r = (rw e (any_but file n seen d.0), subst (λ (s : List (List ℕ)). Distinct (file ∷ s) (but file ns)) (but_push false file seen n e) r)

distinct_take : (seen : List (List ℕ)) (i : ℕ) (ns : List Naming) → Distinct seen (names_in ns) → Distinct seen (names_in (take i ns))
distinct_take seen zero ns d = tt
distinct_take seen (suc i) [] d = tt
distinct_take seen (suc i) (n ∷ ns) d = (d.0, distinct_take (seen ++ n.0 ∷ []) i ns d.1)

distinct_read : (file : List ℕ) (s : Scenario) (ns : List Naming) (i : ℕ) → ns ≡ named_in s → Distinct (file ∷ []) (but file (names_in (take i ns)))
distinct_read file s ns i e =
    distinct_but file [] (names_in (take i ns)) (distinct_take [] i ns (subst (λ (ms : List Naming). Distinct [] (names_in ms)) (sym e) (named_distinct s)))

-- what is kept is what the files have

-- What is true of an entry by its name is true of the one that a name finds.
kept_by : {V : Type 0} (P : List ℕ → Option V → Type 0) (b : Bool) (name : List ℕ) (e : List ℕ × V) (es : List (List ℕ × V)) → bytes_eq name e.0 ≡ b → P e.0 (Some e.1)
    → (is_some (lookup (bytes_eq name) es) ≡ true → P name (lookup (bytes_eq name) es)) → is_some (if b then Some e.1 else lookup (bytes_eq name) es) ≡ true → P name (if b then Some e.1 else lookup (bytes_eq name) es)
kept_by P true name e es same one more f = subst (λ (n : List ℕ). P n (Some e.1)) (sym (same_name name e.0 same)) one
kept_by P false name e es same one more f = more f

kept_found : {V : Type 0} (P : List ℕ → Option V → Type 0) (name : List ℕ) (es : List (List ℕ × V)) → AllByRecursion (λ e. P e.0 (Some e.1)) es → is_some (lookup (bytes_eq name) es) ≡ true → P name (lookup (bytes_eq name) es)
kept_found P name [] a f = absurd (cc)
kept_found P name (e ∷ es) a f = kept_by P (bytes_eq name e.0) name e es refl a.0 (kept_found P name es a.1) f

-- What is true of each that has a use is true of a name that has it.
use_by : (P : List ℕ → Type 0) (test : Use → Bool) (b c : Bool) (x : List ℕ) (n : Naming) (ns : List Naming) → bytes_eq x n.0 ≡ b → test n.1 ≡ c → (test n.1 ≡ true → P n.0) → (has_use test x ns ≡ true → P x)
    → (b && c || has_use test x ns) ≡ true → P x
use_by P test true true x n ns same used one more f = subst P (sym (same_name x n.0 same)) (one used)
use_by P test true false x n ns same used one more f = more f
use_by P test false c x n ns same used one more f = more f

used : (P : List ℕ → Type 0) (test : Use → Bool) (x : List ℕ) (ns : List Naming) → AllByRecursion (λ n. test n.1 ≡ true → P n.0) ns → has_use test x ns ≡ true → P x
used P test x [] a f = absurd (cc)
used P test x (n ∷ ns) a f = use_by P test (bytes_eq x n.0) (test n.1) x n ns refl refl a.0 (used P test x ns a.1) f

given_same : (files : Files) (r : Reading) (ns : List Naming) (g : Given) → AllByRecursion (IsKept files) r.traces.entries → AllByRecursion (IsFound r) ns → IsNamed ns g → contents_kept r.traces.entries g ≡ contents_of files g
given_same files r ns (Bytes bs) a f named = refl
given_same files r ns (Trace file) a f named =
    kept_found (λ (name : List ℕ) (o : Option Capture). contents_found o ≡ contents_of files (Trace name)) file r.traces.entries
    (all_weaker (IsKept files) (λ (e : List ℕ × Capture). contents_in e.1 ≡ contents_of files (Trace e.0)) (λ e k. sym k) r.traces.entries a)
    (used (λ (name : List ℕ). is_some (lookup (bytes_eq name) r.traces.entries) ≡ true) is_trace file ns
    (all_weaker (IsFound r) (λ (n : Naming). is_trace n.1 ≡ true → is_some (lookup (bytes_eq n.0) r.traces.entries) ≡ true) (λ n k. k.trace) ns f) named)

file_same : (files : Files) (r : Reading) (ns : List Naming) (file : List ℕ) → AllThere files r.confs.entries → AllByRecursion (IsFound r) ns → has_use is_conf file ns ≡ true → files_kept r.confs.entries file ≡ files file
file_same files r ns file a f named =
    kept_found (λ (name : List ℕ) (o : Option (List ℕ)). o ≡ files name) file r.confs.entries
    (all_weaker (λ (e : List ℕ × List ℕ). files e.0 ≡ Some e.1) (λ (e : List ℕ × List ℕ). Some e.1 ≡ files e.0) (λ e k. sym k) r.confs.entries a)
    (used (λ (name : List ℕ). is_some (lookup (bytes_eq name) r.confs.entries) ≡ true) is_conf file ns
    (all_weaker (IsFound r) (λ (n : Naming). is_conf n.1 ≡ true → is_some (lookup (bytes_eq n.0) r.confs.entries) ≡ true) (λ n k. k.conf) ns f) named)

daemon_same : (files : Files) (r : Reading) (ns : List Naming) (k : DaemonKind) → AllThere files r.confs.entries → AllByRecursion (IsFound r) ns → IsServed ns k → AreServed (files_kept r.confs.entries) files k
daemon_same files r ns (Smc names) a f served =
    all_weaker (λ (file : List ℕ). has_use is_conf file ns ≡ true) (λ (file : List ℕ). files_kept r.confs.entries file ≡ files file) (λ file u. file_same files r ns file a f u) names served
daemon_same files r ns Plain a f served = tt
daemon_same files r ns Admin a f served = tt

all_taken : (i : ℕ) (ns : List Naming) → drop i ns ≡ [] → take i ns ≡ ns
all_taken zero [] e = refl
all_taken zero (n ∷ ns) e = absurd (cc)
all_taken (suc i) [] e = refl
all_taken (suc i) (n ∷ ns) e = ap (λ (ms : List Naming). n ∷ ms) (all_taken i ns e)

-- how many items there are together

few_after : (b : Bool) (file : List ℕ) (t v : Totals) → b ≡ are_few t → ◌≡◌ {A = Result Totals Status} (if b then Ok t else Err (status.Trace file Rattle.mr_load.specs.declared.status.TraceCause.TheVariants.TooMany)) (Ok v) → (t ≡ v) × (t.items ≤ 1048576)
few_after true file t v few e =
    let both = and_parts (nat_le t.items 1048576) (nat_le t.bytes 1073741824) (sym few) in
    (cc, grind (arith, nat_tests, both.0))
few_after false file t v few e = absurd (cc)

one_by : (t v : Totals) (file : List ℕ) (k size : ℕ) (r : Result Capture PcapError) → (accepted_trace file r >>= λ c. if_few file (with_trace t k (length c.records) size)) ≡ Ok v
    → (v.items ≡ t.items + k * length (contents_read r)) × (v.items ≤ 1048576)
one_by t v file k size (Ok c) e =
    let few = few_after (are_few (with_trace t k (length c.records) size)) file (with_trace t k (length c.records) size) v refl e in
    let all : length (contents_in c) ≡ length c.records = rw (length-map) refl in
    let items : t.items + k * length c.records ≡ v.items = ap (λ (u : Totals). u.items) few.0 in
    (rw all (sym items), omega (arith, items, few.1))
one_by t v file k size (Err pcap.CutHeader) e = absurd (cc)
one_by t v file k size (Err pcap.Magic) e = absurd (cc)
one_by t v file k size (Err pcap.LinkType) e = absurd (cc)
one_by t v file k size (Err (pcap.CutRecord m)) e = absurd (cc)
one_by t v file k size (Err pcap.Memory) e = absurd (cc)

lines_by : (t v : Totals) (file : List ℕ) (k : ℕ) (bytes : List ℕ) → after_lines t file k bytes ≡ Ok v → t.items ≤ 1048576 → (v.items ≡ t.items + k * length (contents_read (capture_of bytes))) × (v.items ≤ 1048576)
lines_by t v file zero bytes e few =
    let same : t ≡ v = cc in
    let items : t.items ≡ v.items = ap (λ (u : Totals). u.items) same in
    let none : 0 * length (contents_read (capture_of bytes)) ≡ 0 = search arith in
    (omega (arith, items, none), omega (arith, items, few))
lines_by t v file (suc k) bytes e few = one_by t v file (suc k) (length bytes) (capture_of bytes) e

one_after : (t v : Totals) (n : Naming) (o : Option (List ℕ)) → (if_there n.0 o >>= after_bytes t n) ≡ Ok v → t.items ≤ 1048576 → (v.items ≡ t.items + n.1.lines * length (contents_there o)) × (v.items ≤ 1048576)
one_after t v n None e few = absurd (cc)
one_after t v n (Some bytes) e few = lines_by t v n.0 n.1.lines bytes (lines_after t v n bytes e) few

after_sum : (files : Files) (t u : Totals) (ns : List Naming) → after_files files t ns ≡ Ok u → t.items ≤ 1048576 → (u.items ≡ t.items + named_sum (items_there_in files) ns) × (u.items ≤ 1048576)
after_sum files t u [] e few =
    let same : t ≡ u = cc in
    let items : t.items ≡ u.items = ap (λ (v : Totals). v.items) same in
    (omega (arith, items), omega (arith, items, few))
after_sum files t u (n ∷ ns) e few =
    let b = bind_ok (after_file files t n) (λ v. after_files files v ns) u e in
    let one = one_after t b.0 n (files n.0) b.1 few in
    let rest = after_sum files b.0 u ns b.2 one.1 in
    (omega (arith, one.0, rest.0, sum_one (items_there_in files) n ns), rest.1)

-- all that is true once all files are read
record IsReady (files : Files) (s : Scenario) (r : Reading) : Type 0 where
  pub outcome : with_files files s ≡ Ok s
  pub same : AllByRecursion (λ p. AllByRecursion (λ i. contents_kept r.traces.entries i.given ≡ contents_of files i.given) p.items) s.phases
  pub served : AllByRecursion (AreServed (files_kept r.confs.entries) files) s.daemons
  pub few : all_items (contents_of files) (items_in s.phases) ≤ 1048576

ready : (files : Files) (s : Scenario) (ns : List Naming) (i : ℕ) (r : Reading) → Fits s → ns ≡ named_in s → drop i ns ≡ [] → AllByRecursion (IsFound r) (take i ns) → Facts files (before_traces s) ns i r → IsReady files s r
ready files s ns i r fits named none found f =
    let all : after_files files (before_traces s) (named_in s) ≡ Ok r.totals =
    ap (after_files files (before_traces s)) (sym named) ∙ f.outcome ∙ ap (after_files files r.totals) none in
    let sum = after_sum files (before_traces s) r.totals (named_in s) all fits.most_packets in
    let each : AllByRecursion (IsFound r) (named_in s) = subst (AllByRecursion (IsFound r)) (all_taken i ns none ∙ named) found in
    record {
      outcome = ap (λ (x : Result Totals Status). x >>= λ u. Ok s) all;
      same = all_weaker (λ (p : Phase). AllByRecursion (λ i. IsNamed (named_in s) i.given) p.items) (λ (p : Phase). AllByRecursion (λ i. contents_kept r.traces.entries i.given ≡ contents_of files i.given) p.items)
          (λ p a. all_weaker (λ (x : Item). IsNamed (named_in s) x.given) (λ (x : Item). contents_kept r.traces.entries x.given ≡ contents_of files x.given)
          (λ x g. given_same files r (named_in s) x.given f.traces each g) p.items a)
          s.phases (all_named s);
      served = all_weaker (IsServed (named_in s)) (AreServed (files_kept r.confs.entries) files) (λ k u. daemon_same files r (named_in s) k f.confs each u) s.daemons (all_served s);
      few = omega (arith, sum.0, sum.1, named_items files s);
    }

-- what a file's scenario comes to

loaded_is : (files : Files) (file own : List ℕ) (s : Scenario) → files file ≡ Some own → scenario_of own ≡ Ok s → loaded files file ≡ with_files files s
loaded_is files file own s there spells =
    ap (λ (o : Option (List ℕ)). if_there file o >>= scenario_of >>= with_files files) there ∙ ap (λ (r : Result Scenario Status). r >>= with_files files) spells

read_is : (files : Files) (file own : List ℕ) (s : Scenario) → files file ≡ Some own → scenario_of own ≡ Ok s → files_read files file ≡ file ∷ but file (further_read files (before_traces s) (named_in s))
read_is files file own s there spells =
    ap (λ (o : Option (List ℕ)). file ∷ but file (if_ok (if_there file o >>= scenario_of) (λ u. further_read files (before_traces u) (named_in u)))) there
    ∙ ap (λ (r : Result Scenario Status). file ∷ but file (if_ok r (λ u. further_read files (before_traces u) (named_in u)))) spells

but_append : (file : List ℕ) (xs ys : List (List ℕ)) → but file (xs ++ ys) ≡ but file xs ++ but file ys
but_append file [] ys = refl
but_append file (x ∷ xs) ys = by (bytes_eq x file) (but_append file xs ys)
  where
    by : (b : Bool) → but file (xs ++ ys) ≡ but file xs ++ but file ys → (if not b then x ∷ but file (xs ++ ys) else but file (xs ++ ys)) ≡ (if not b then x ∷ but file xs else but file xs) ++ but file ys
    by true e = e
    by false e = ap (λ (l : List (List ℕ)). x ∷ l) e

module _ (told : Option Files) (file own : List ℕ) (s : Scenario) (q : Reading) (old new : List StoreCall) (there : HasFile told file own) (fits : Fits s)
    (r : ReadsAll told file own (before_traces s) (named_in s) q old new) where
  all_world : World told file own r.progress.has
  all_world = world told file own r.progress.has there r.progress.told_has (subst (Distinct (file ∷ [])) (sym r.progress.names) (distinct_read file s (named_in s) r.i refl))

  all_facts : Facts all_world.files (before_traces s) (named_in s) r.i q
  all_facts = r.progress.facts all_world.files all_world.own_is all_world.has_is

  all_ready : IsReady all_world.files s q
  all_ready = ready all_world.files s (named_in s) r.i q fits refl r.none_left r.progress.found all_facts

  pub few_kept : all_items (contents_kept q.traces.entries) (items_in s.phases) ≤ 1048576
  few_kept =
      let same = same_all (contents_kept q.traces.entries) (contents_of all_world.files) (items_in s.phases) (in_all (λ (i : Item). contents_kept q.traces.entries i.given ≡ contents_of all_world.files i.given) s.phases all_ready.same) in
      omega (arith, same, all_ready.few)

  all_read : (before : List StoreCall) (cut : Bool) → old ≡ before ++ read_of file false ∷ [] → scenario_of own ≡ Ok s → HasRead (files_read all_world.files file) cut false before new
  all_read before cut e spells =
      let names = names_in (take r.i (named_in s)) in
      let traces : further_read all_world.files (before_traces s) (named_in s) ≡ names =
      all_facts.read ∙ ap (λ (ms : List Naming). names ++ further_read all_world.files q.totals ms) r.none_left ∙ append-nil names in
      record {
        read = file ∷ but file names;
        left = [];
        order = read_is all_world.files file own s all_world.own_is spells ∙ ap (λ (l : List (List ℕ)). file ∷ but file l) traces ∙ sym (append-nil (file ∷ but file names));
        all = λ c. refl;
        calls = r.progress.calls before e;
      }

  pub all_loads : (l : Loaded) (before : List StoreCall) → scenario_of own ≡ Ok s → l.scenario ≡ s → IsGiven (contents_kept q.traces.entries) (files_kept q.confs.entries) l → old ≡ before ++ read_of file false ∷ [] → LoadsTo told file (Ok l) before new
  all_loads l before spells same given e = record {
    files = all_world.files;
    told_is = all_world.told_is;
    loads = (
      loaded_is all_world.files file own s all_world.own_is spells ∙ all_ready.outcome ∙ ap Ok (sym same),
      given_loaded all_world.files (files_kept q.confs.entries) (contents_kept q.traces.entries) l (subst Fits (sym same) fits) (subst (λ (u : Scenario). all_items (contents_of all_world.files) (items_in u.phases) ≤ 1048576) (sym same) all_ready.few)
          (subst (λ (u : Scenario). AllByRecursion (λ p. AllByRecursion (λ i. contents_kept q.traces.entries i.given ≡ contents_of all_world.files i.given) p.items) u.phases) (sym same) all_ready.same)
          (subst (λ (u : Scenario). AllByRecursion (AreServed (files_kept q.confs.entries) all_world.files) u.daemons) (sym same) all_ready.served) given,
    );
    reads = all_read before false e spells;
  }

  pub all_memory : (before : List StoreCall) → scenario_of own ≡ Ok s → old ≡ before ++ read_of file false ∷ [] → LoadsTo told file (Err status.Memory) before new
  all_memory before spells e = record { files = all_world.files; told_is = all_world.told_is; loads = tt; reads = all_read before true e spells }

-- where the reading stops

take_next : (i : ℕ) (ns : List Naming) (n : Naming) (left : List Naming) → drop i ns ≡ n ∷ left → take (i + 1) ns ≡ take i ns ++ n ∷ []
take_next zero [] n left e = absurd (cc)
take_next zero (m ∷ ns) n left e =
    let same : m ≡ n = cc in
    ap (λ (x : Naming). x ∷ []) same
take_next (suc i) [] n left e = absurd (cc)
take_next (suc i) (m ∷ ns) n left e =
    let number : suc i + 1 ≡ suc (i + 1) = omega arith in
    rw number (ap (λ (ms : List Naming). m ∷ ms) (take_next i ns n left e))

stop_calls : (b failed : Bool) (file : List ℕ) (names : List (List ℕ)) (name : List ℕ) (before now new : List StoreCall) → bytes_eq name file ≡ b → (b ≡ true → failed ≡ false)
    → now ≡ before ++ reads_of (file ∷ but file names) false → new ≡ now ++ read_if b name failed → new ≡ before ++ reads_of (file ∷ but file (names ++ name ∷ [])) failed
stop_calls true failed file names name before now new e good calls more =
    more ∙ append-nil now ∙ calls ∙ ap (λ (l : List (List ℕ)). before ++ reads_of (file ∷ l) false) (sym (but_push true file names name e ∙ append-nil (but file names)))
    ∙ ap (λ (f : Bool). before ++ reads_of (file ∷ but file (names ++ name ∷ [])) f) (sym (good refl))
stop_calls false failed file names name before now new e good calls more =
    more ∙ ap (λ (l : List StoreCall). l ++ read_of name failed ∷ []) calls
    ∙ append_assoc before (reads_of (file ∷ but file names) false) (read_of name failed ∷ [])
    ∙ ap (λ (l : List StoreCall). before ++ l) (reads_push file (but file names) name failed)
    ∙ ap (λ (l : List (List ℕ)). before ++ reads_of (file ∷ l) failed) (sym (but_push false file names name e))

-- the world in which a file that was refused has its bytes
record Refusing (told : Option Files) (file own : List ℕ) (has : List (List ℕ × List ℕ)) (name bytes : List ℕ) : Type 0 where
  pub files : Files
  pub told_is : IsTold told files
  pub own_is : files file ≡ Some own
  pub has_is : AllThere files has
  pub bytes_are : files name ≡ Some bytes

refusing : (b : Bool) (told : Option Files) (file own : List ℕ) (has : List (List ℕ × List ℕ)) (names : List (List ℕ)) (name bytes : List ℕ) → bytes_eq name file ≡ b → AreBytesOf b told own name bytes
    → HasFile told file own → IfSome told (λ files. AllThere files has) → AllNames has ≡ but file names → Distinct (file ∷ []) (but file names) → Distinct (file ∷ []) (but file (names ++ name ∷ []))
    → Refusing told file own has name bytes
refusing true told file own has names name bytes e bytes_of there a are d more =
    let w = world told file own has there a (subst (Distinct (file ∷ [])) (sym are) d) in
    record { files = w.files; told_is = w.told_is; own_is = w.own_is; has_is = w.has_is; bytes_are = ap w.files (same_name name file e) ∙ w.own_is ∙ ap Some (sym bytes_of) }
refusing false told file own has names name bytes e bytes_of there a are d more =
    let names_are : AllNames (has ++ (name, bytes) ∷ []) ≡ but file (names ++ name ∷ []) =
    map-append (λ (h : List ℕ × List ℕ). h.0) has ((name, bytes) ∷ []) ∙ ap (λ (l : List (List ℕ)). l ++ name ∷ []) are ∙ sym (but_push false file names name e) in
    let w = world told file own (has ++ (name, bytes) ∷ []) there (told_push told has name bytes a bytes_of) (subst (Distinct (file ∷ [])) (sym names_are) more) in
    record {
      files = w.files;
      told_is = w.told_is;
      own_is = w.own_is;
      has_is = all_first (λ (h : List ℕ × List ℕ). w.files h.0 ≡ Some h.1) has ((name, bytes) ∷ []) w.has_is;
      bytes_are = (all_last (λ (h : List ℕ × List ℕ). w.files h.0 ≡ Some h.1) has ((name, bytes) ∷ []) w.has_is).0;
    }

module _ (told : Option Files) (file own : List ℕ) (s : Scenario) (st : Status) (old new : List StoreCall) (there : HasFile told file own)
    (r : Stops told file own (before_traces s) (named_in s) st old new) where
  ns : List Naming
  ns = named_in s

  abbrev done : List (List ℕ)
  done = names_in (take r.i (named_in s))

  before_it : Distinct (file ∷ []) (but file done)
  before_it = distinct_read file s (named_in s) r.i refl

  with_it : Distinct (file ∷ []) (but file (done ++ r.n.0 ∷ []))
  with_it =
      subst (λ (names : List (List ℕ)). Distinct (file ∷ []) (but file names)) (ap names_in (take_next r.i (named_in s) r.n r.left r.at) ∙ map-append (λ (m : Naming). m.0) (take r.i (named_in s)) (r.n ∷ []))
      (distinct_read file s (named_in s) (r.i + 1) refl)

  stop_world : World told file own r.progress.has
  stop_world = world told file own r.progress.has there r.progress.told_has (subst (Distinct (file ∷ [])) (sym r.progress.names) before_it)

  stop_order : (files : Files) → files file ≡ Some own → scenario_of own ≡ Ok s → Facts files (before_traces s) (named_in s) r.i r.r
      → files_read files file ≡ (file ∷ but file (done ++ r.n.0 ∷ [])) ++ but file (if_ok (after_file files r.r.totals r.n) (λ v. further_read files v r.left))
  stop_order files its spells f =
      let rest = if_ok (after_file files r.r.totals r.n) (λ v. further_read files v r.left) in
      read_is files file own s its spells
      ∙ ap (λ (l : List (List ℕ)). file ∷ but file l) (f.read ∙ ap (λ (ms : List Naming). done ++ further_read files r.r.totals ms) r.at ∙ sym (append_assoc done (r.n.0 ∷ []) rest))
      ∙ ap (λ (l : List (List ℕ)). file ∷ l) (but_append file (done ++ r.n.0 ∷ []) rest)

  stop_read : (files : Files) (failed : Bool) (before : List StoreCall) → files file ≡ Some own → scenario_of own ≡ Ok s → Facts files (before_traces s) (named_in s) r.i r.r → old ≡ before ++ read_of file false ∷ []
      → (bytes_eq r.n.0 file ≡ true → failed ≡ false) → new ≡ r.now ++ read_if (bytes_eq r.n.0 file) r.n.0 failed → HasRead (files_read files file) true failed before new
  stop_read files failed before its spells f e good calls = record {
    read = file ∷ but file (done ++ r.n.0 ∷ []);
    left = but file (if_ok (after_file files r.r.totals r.n) (λ v. further_read files v r.left));
    order = stop_order files its spells f;
    all = λ c. absurd (cc);
    calls = stop_calls (bytes_eq r.n.0 file) failed file done r.n.0 before r.now new refl good (r.progress.calls before e) calls;
  }

  refused_loads : (t : Status) (before : List StoreCall) → scenario_of own ≡ Ok s → old ≡ before ++ read_of file false ∷ [] → IsRefused told file own r.r.totals r.n t → new ≡ r.now ++ read_if (bytes_eq r.n.0 file) r.n.0 false
      → ((files : Files) → loaded files file ≡ Err t → LoadsFrom files file (Err t)) → cuts t ≡ false → fails t ≡ false → LoadsTo told file (Err t) before new
  refused_loads t before spells e refusal calls loads whole good =
      let w = refusing (bytes_eq r.n.0 file) told file own r.progress.has done r.n.0 refusal.bytes refl refusal.there there r.progress.told_has r.progress.names before_it with_it in
      let f = r.progress.facts w.files w.own_is w.has_is in
      let after : after_file w.files r.r.totals r.n ≡ Err t = after_is w.files r.r.totals r.n refusal.bytes (Err t) w.bytes_are refusal.refused in
      let outcome : after_files w.files (before_traces s) (named_in s) ≡ Err t =
      f.outcome ∙ ap (after_files w.files r.r.totals) r.at ∙ ap (λ (x : Result Totals Status). x >>= λ u. after_files w.files u r.left) after in
      record {
        files = w.files;
        told_is = w.told_is;
        loads = loads w.files (loaded_is w.files file own s w.own_is spells ∙ ap (λ (x : Result Totals Status). x >>= λ u. Ok s) outcome);
        reads = record {
          read = file ∷ but file (done ++ r.n.0 ∷ []);
          left = [];
          order = stop_order w.files w.own_is spells f ∙ ap (λ (x : Result Totals Status). (file ∷ but file (done ++ r.n.0 ∷ [])) ++ but file (if_ok x (λ v. further_read w.files v r.left))) after;
          all = λ c. refl;
          calls = stop_calls (bytes_eq r.n.0 file) false file done r.n.0 before r.now new refl (λ e. refl) (r.progress.calls before e) calls
              ∙ ap (λ (b : Bool). before ++ reads_of (file ∷ but file (done ++ r.n.0 ∷ [])) b) (sym good);
        };
      }

  memory_loads : (before : List StoreCall) → scenario_of own ≡ Ok s → old ≡ before ++ read_of file false ∷ [] → new ≡ r.now ++ read_if (bytes_eq r.n.0 file) r.n.0 false → LoadsTo told file (Err status.Memory) before new
  memory_loads before spells e calls = record {
    files = stop_world.files;
    told_is = stop_world.told_is;
    loads = tt;
    reads = stop_read stop_world.files false before stop_world.own_is spells (r.progress.facts stop_world.files stop_world.own_is stop_world.has_is) e (λ t. refl) calls;
  }

  fault_loads : (name : List ℕ) (before : List StoreCall) → scenario_of own ≡ Ok s → old ≡ before ++ read_of file false ∷ [] → name ≡ r.n.0 → bytes_eq r.n.0 file ≡ false
      → new ≡ r.now ++ read_if (bytes_eq r.n.0 file) r.n.0 true → LoadsTo told file (Err (status.StoreFault name)) before new
  fault_loads name before spells e same other calls =
      let f = r.progress.facts stop_world.files stop_world.own_is stop_world.has_is in
      let order = stop_order stop_world.files stop_world.own_is spells f in
      let last : but file (done ++ r.n.0 ∷ []) ≡ but file done ++ r.n.0 ∷ [] = but_push false file done r.n.0 other in
      let among : Contains (but file (done ++ r.n.0 ∷ [])) r.n.0 = subst (λ (l : List (List ℕ)). Contains l r.n.0) (sym last) (Contains-append_right (but file done) (r.n.0 ∷ []) r.n.0 (0, omega arith, refl)) in
      record {
        files = stop_world.files;
        told_is = stop_world.told_is;
        loads = subst (λ (l : List (List ℕ)). Contains l name) (sym order)
            (Contains-append_left (file ∷ but file (done ++ r.n.0 ∷ [])) _ name (Contains-append_right (file ∷ []) (but file (done ++ r.n.0 ∷ [])) name (subst (λ (x : List ℕ). Contains (but file (done ++ r.n.0 ∷ [])) x) (sym same) among)));
        reads = stop_read stop_world.files true before stop_world.own_is spells f e (λ t. absurd (cc)) calls;
      }

pub stop_loads : (told : Option Files) (file own : List ℕ) (s : Scenario) (st : Status) (old new : List StoreCall) → HasFile told file own → Stops told file own (before_traces s) (named_in s) st old new
    → (before : List StoreCall) → scenario_of own ≡ Ok s → old ≡ before ++ read_of file false ∷ [] → LoadsTo told file (Err st) before new
stop_loads told file own s status.Memory old new there r before spells e = memory_loads told file own s status.Memory old new there r before spells e r.calls
stop_loads told file own s (status.StoreFault name) old new there r before spells e = fault_loads told file own s (status.StoreFault name) old new there r name before spells e r.stop.0 r.stop.1 r.calls
stop_loads told file own s (status.Trace name k) old new there r before spells e = refused_loads told file own s (status.Trace name k) old new there r (status.Trace name k) before spells e r.stop r.calls (λ files l. l) refl refl
stop_loads told file own s (status.Conf name line k text) old new there r before spells e = refused_loads told file own s (status.Conf name line k text) old new there r (status.Conf name line k text) before spells e r.stop r.calls (λ files l. l) refl refl
stop_loads told file own s status.Good old new there r before spells e = absurd r.stop
stop_loads told file own s status.Usage old new there r before spells e = absurd r.stop
stop_loads told file own s (status.Scenario line k text) old new there r before spells e = absurd r.stop
stop_loads told file own s status.SinkFault old new there r before spells e = absurd r.stop
stop_loads told file own s status.ControlFull old new there r before spells e = absurd r.stop

-- where the scenario itself is refused

abbrev IsRefusal : Status → Type 0
IsRefusal (status.Scenario line k text) = Unit {0}
IsRefusal status.Memory = Unit {0}
IsRefusal s = ⊥

same_err : (s t : Status) → ◌≡◌ {A = Result Scenario Status} (Err s) (Err t) → s ≡ t
same_err s t e = cc

accepted_refused : (r : Result Scenario ScenarioError) (s : Status) → accepted r ≡ Err s → IsRefusal s
accepted_refused (Ok t) s e = absurd (cc)
accepted_refused (Err (error.Bad line k text)) s e = subst IsRefusal (same_err (status.Scenario line k text) s e) tt
accepted_refused (Err error.Memory) s e = subst IsRefusal (same_err status.Memory s e) tt

refused : (bytes : List ℕ) (s : Status) → scenario_of bytes ≡ Err s → IsRefusal s
refused bytes s e = accepted_refused (spelled bytes) s e

refused_at : (told : Option Files) (file own : List ℕ) (s : Status) (before now : List StoreCall) → HasFile told file own → scenario_of own ≡ Err s → now ≡ before ++ read_of file false ∷ []
    → ((files : Files) → loaded files file ≡ Err s → LoadsFrom files file (Err s)) → cuts s ≡ false → fails s ≡ false → LoadsTo told file (Err s) before now
refused_at told file own s before now there e calls loads whole good =
    let w = world told file own [] there (no_others told) tt in
    record {
      files = w.files;
      told_is = w.told_is;
      loads = loads w.files (ap (λ (o : Option (List ℕ)). if_there file o >>= scenario_of >>= with_files w.files) w.own_is ∙ ap (λ (r : Result Scenario Status). r >>= with_files w.files) e);
      reads = record {
        read = file ∷ [];
        left = [];
        order = ap (λ (o : Option (List ℕ)). file ∷ but file (if_ok (if_there file o >>= scenario_of) (λ u. further_read w.files (before_traces u) (named_in u)))) w.own_is
            ∙ ap (λ (r : Result Scenario Status). file ∷ but file (if_ok r (λ u. further_read w.files (before_traces u) (named_in u)))) e;
        all = λ c. refl;
        calls = calls ∙ ap (λ (b : Bool). before ++ reads_of (file ∷ []) b) (sym good);
      };
    }
  where
    no_others : (o : Option Files) → IfSome o (λ files. AllThere files [])
    no_others (Some files) = tt
    no_others None = tt

-- nothing but the scenario was read, and memory ran out or the read failed
pub memory_at : (told : Option Files) (file : List ℕ) (before now : List StoreCall) → now ≡ before ++ read_of file false ∷ [] → LoadsTo told file (Err status.Memory) before now
memory_at (Some files) file before now calls = record { files = files; told_is = refl; loads = tt; reads = record { read = file ∷ []; left = _; order = refl; all = λ c. absurd (cc); calls = calls } }
memory_at None file before now calls =
    let files : Files = λ other. None in
    record { files = files; told_is = tt; loads = tt; reads = record { read = file ∷ []; left = []; order = refl; all = λ c. absurd (cc); calls = calls } }

pub fault_at : (told : Option Files) (file name : List ℕ) (before now : List StoreCall) → name ≡ file → now ≡ before ++ read_of file true ∷ [] → LoadsTo told file (Err (status.StoreFault name)) before now
fault_at (Some files) file name before now e calls = record { files = files; told_is = refl; loads = (0, omega arith, sym e); reads = record { read = file ∷ []; left = _; order = refl; all = λ c. absurd (cc); calls = calls } }
fault_at None file name before now e calls =
    let files : Files = λ other. None in
    record { files = files; told_is = tt; loads = (0, omega arith, sym e); reads = record { read = file ∷ []; left = []; order = refl; all = λ c. absurd (cc); calls = calls } }

-- by what is read of the scenario's bytes
pub scenario_loads : (told : Option Files) (file own : List ℕ) (s : Status) (before now : List StoreCall) → HasFile told file own → Gives (λ (t : Scenario). t) (Err s) (scenario_of own) → now ≡ before ++ read_of file false ∷ []
    → LoadsTo told file (Err s) before now
scenario_loads told file own status.Memory before now there e calls = memory_at told file before now calls
scenario_loads told file own (status.Scenario line k text) before now there e calls = refused_at told file own (status.Scenario line k text) before now there e calls (λ files l. l) refl refl
scenario_loads told file own (status.StoreFault name) before now there e calls = absurd (refused own (status.StoreFault name) e)
scenario_loads told file own (status.Conf name line k text) before now there e calls = absurd (refused own (status.Conf name line k text) e)
scenario_loads told file own (status.Trace name k) before now there e calls = absurd (refused own (status.Trace name k) e)
scenario_loads told file own status.Good before now there e calls = absurd (refused own status.Good e)
scenario_loads told file own status.Usage before now there e calls = absurd (refused own status.Usage e)
scenario_loads told file own status.SinkFault before now there e calls = absurd (refused own status.SinkFault e)
scenario_loads told file own status.ControlFull before now there e calls = absurd (refused own status.ControlFull e)
