-- The files are read one after the other.
use Rattle.std.proofs.Common.{◌≡◌, ◌≤◌, ℕ, ◌+◌, ◌<◌, Bool, true, false, not, Option, Some, None, Result, Ok, Err, List, [], ◌∷◌, ◌++◌, length, take, drop, get_or, slice_get, bytes_eq, is_some, nat_lt, refl, sym, ap, ◌∙◌, subst, zero, suc, arith}
use Rattle.std.proofs.lemmas.List.{append_assoc, append-nil, map-append, take_more, drop_more}
use Rattle.std.specs.List.{AllByRecursion}
use Rattle.std.specs.Map.{lookup}
use Rattle.std.specs.Prelude.{if◌then◌else◌, IfErr, IfSome}
use Rattle.indexmap.specs.IndexMap.{insert_entry}
use Rattle.mr_base.specs.Outside.{AllStay, Files, HasFile, LastCall, Rose}
use Rattle.mr_base.specs.declared.store_call.StoreCall.{StoreCall}
use Rattle.mr_load.specs.Faults.{fails, read_of, reads_of}
use Rattle.mr_load.specs.Items.{contents_there, contents_read}
use Rattle.mr_load.specs.Kept.{AreBytesOf, Kept, KeptBytes, confs_with, traces_with}
use Rattle.mr_load.specs.Loads.{Gives, IfFault}
use Rattle.mr_load.specs.Naming.{Naming}
use Rattle.mr_load.specs.Reading.{AllThere, Asks, Facts, HasPut, IsFound, IsKept, IsStop, Progress, ReadsAll, Stops, names_in, read_if}
use Rattle.mr_load.specs.Refusals.{accepted_conf, accepted_trace, after_bytes, after_file, after_files, after_lines, are_few, as_named, before_traces, but, further_read, if_few, if_ok, if_there, with_trace}
use Rattle.mr_load.specs.declared.reading.Reading.{Reading}
use Rattle.mr_load.specs.declared.status.Status.{Status}
use Rattle.mr_load.specs.declared.status.Status.TheVariants as status
use Rattle.mr_load.specs.declared.status.TraceCause.TheVariants as cause
use Rattle.mr_load.specs.declared.totals.Totals.{Totals}
use Rattle.mr_load.proofs.Namings.{eq_self, same_name}
use Rattle.mr_load.proofs.Rows.{all_append, all_weaker}
use Rattle.mr_pcap.specs.Traces.{Capture, capture_of}
use Rattle.mr_pcap.specs.declared.pcap_error.PcapError.{PcapError}
use Rattle.mr_pcap.specs.declared.pcap_error.PcapError.TheVariants as pcap
use Rattle.mr_scenario.specs.Fits.{packets_of}
use Rattle.mr_scenario.specs.declared.scenario.Scenario.{Scenario}
use Rattle.mr_words.specs.Binds.{◌>>=◌}
use Rattle.mr_words.proofs.Binds.{bind_ok}
use Rattle.smc_conf.specs.Spelled.{spelled as conf_spelled}
use Rattle.smc_conf.specs.declared.conf.Conf.{Conf}
use Rattle.smc_conf.specs.declared.stop.ConfError.{ConfError}
use Rattle.smc_conf.specs.declared.stop.ConfError.TheVariants as conf

-- stores that tell the same

pub stay_on : (a b c : Option Files) → AllStay a b → AllStay b c → AllStay a c
stay_on (Some f) (Some g) (Some h) s t = λ name. t name ∙ s name
stay_on (Some f) (Some g) None s t = absurd t
stay_on (Some f) None c s t = absurd s
stay_on None (Some g) c s t = absurd s
stay_on None None (Some h) s t = absurd t
stay_on None None None s t = tt

pub stays : (a : Option Files) → AllStay a a
stays (Some f) = λ name. refl
stays None = tt

pub has_back : (a b : Option Files) (name bytes : List ℕ) → AllStay a b → HasFile b name bytes → HasFile a name bytes
has_back (Some f) (Some g) name bytes s h = sym (s name) ∙ h
has_back (Some f) None name bytes s h = absurd s
has_back None b name bytes s h = tt

pub bytes_back : (own_name : Bool) (a b : Option Files) (own name bytes : List ℕ) → AllStay a b → AreBytesOf own_name b own name bytes → AreBytesOf own_name a own name bytes
bytes_back true a b own name bytes s h = h
bytes_back false a b own name bytes s h = has_back a b name bytes s h

pub asks_on : {A : Type 0} (r : Result A Status) (last : LastCall) (first before after : ℕ) (a b c : Option Files) → before ≡ first → AllStay a b → Asks r last before after b c → Asks r last first after a c
asks_on r last first before after a b c same s q = record {
  last_is = q.last_is;
  rose = subst (λ (n : ℕ). IfFault r (λ _. Rose n after)) same q.rose;
  good = λ e. q.good e ∙ same;
  files = stay_on a b c s q.files;
  count = omega (arith, q.count, same);
}

-- the reads in a row
pub reads_push : (x : List ℕ) (xs : List (List ℕ)) (y : List ℕ) (failed : Bool) → reads_of (x ∷ xs) false ++ read_of y failed ∷ [] ≡ reads_of (x ∷ (xs ++ y ∷ [])) failed
reads_push x [] y failed = refl
reads_push x (z ∷ zs) y failed = ap (λ (cs : List StoreCall). read_of x false ∷ cs) (reads_push z zs y failed)

pub but_push : (b : Bool) (file : List ℕ) (names : List (List ℕ)) (name : List ℕ) → bytes_eq name file ≡ b → but file (names ++ name ∷ []) ≡ but file names ++ (if b then [] else name ∷ [])
but_push true file [] name e = rw e refl
but_push false file [] name e = rw e refl
but_push b file (n ∷ ns) name e = by (bytes_eq n file) (but_push b file ns name e)
  where
    by : (c : Bool) → but file (ns ++ name ∷ []) ≡ but file ns ++ (if b then [] else name ∷ [])
        → (if not c then n ∷ but file (ns ++ name ∷ []) else but file (ns ++ name ∷ [])) ≡ (if not c then n ∷ but file ns else but file ns) ++ (if b then [] else name ∷ [])
    by true f = f
    by false f = ap (λ (l : List (List ℕ)). n ∷ l) f

pub names_push : (ns : List Naming) (n : Naming) → names_in (ns ++ n ∷ []) ≡ names_in ns ++ n.0 ∷ []
names_push ns n = map-append (λ (m : Naming). m.0) ns (n ∷ [])

-- what is kept by names

abbrev pub IsThere : {V : Type 0} → List (List ℕ × V) → List ℕ → Type 0
IsThere es x = is_some (lookup (bytes_eq x) es) ≡ true

insert_by : {V : Type 0} (P : List ℕ × V → Type 0) (b : Bool) (e : List ℕ × V) (es : List (List ℕ × V)) (k : List ℕ) (v : V) → bytes_eq k e.0 ≡ b → P e → AllByRecursion P es → P (k, v)
    → AllByRecursion P (insert_entry bytes_eq es k v) → AllByRecursion P (if b then (e.0, v) ∷ es else e ∷ insert_entry bytes_eq es k v)
insert_by P true e es k v same one all new more = (subst (λ (n : List ℕ). P (n, v)) (same_name k e.0 same) new, all)
insert_by P false e es k v same one all new more = (one, more)

insert_all : {V : Type 0} (P : List ℕ × V → Type 0) (es : List (List ℕ × V)) (k : List ℕ) (v : V) → AllByRecursion P es → P (k, v) → AllByRecursion P (insert_entry bytes_eq es k v)
insert_all P [] k v all new = (new, tt)
insert_all P (e ∷ es) k v all new = insert_by P (bytes_eq k e.0) e es k v refl all.0 all.1 new (insert_all P es k v all.1 new)

there_by : {V : Type 0} (b : Bool) (x : List ℕ) (e : List ℕ × V) (es : List (List ℕ × V)) (k : List ℕ) (v : V) → IsThere (e ∷ es) x → (IsThere es x → IsThere (insert_entry bytes_eq es k v) x)
    → IsThere (if b then (e.0, v) ∷ es else e ∷ insert_entry bytes_eq es k v) x
there_by true x e es k v f more = by (bytes_eq x e.0) f
  where
    by : (b : Bool) → is_some (if b then Some e.1 else lookup (bytes_eq x) es) ≡ true → is_some (if b then Some v else lookup (bytes_eq x) es) ≡ true
    by true g = refl
    by false g = g
there_by false x e es k v f more = by (bytes_eq x e.0) f
  where
    by : (b : Bool) → is_some (if b then Some e.1 else lookup (bytes_eq x) es) ≡ true → is_some (if b then Some e.1 else lookup (bytes_eq x) (insert_entry bytes_eq es k v)) ≡ true
    by true g = refl
    by false g = more g

there_insert : {V : Type 0} (x : List ℕ) (es : List (List ℕ × V)) (k : List ℕ) (v : V) → IsThere es x → IsThere (insert_entry bytes_eq es k v) x
there_insert x [] k v f = absurd (cc)
there_insert x (e ∷ es) k v f = there_by (bytes_eq k e.0) x e es k v f (λ g. there_insert x es k v g)

own_by : {V : Type 0} (b : Bool) (e : List ℕ × V) (es : List (List ℕ × V)) (k : List ℕ) (v : V) → bytes_eq k e.0 ≡ b → IsThere (insert_entry bytes_eq es k v) k → IsThere (if b then (e.0, v) ∷ es else e ∷ insert_entry bytes_eq es k v) k
own_by true e es k v same more = rw same refl
own_by false e es k v same more = rw same more

there_own : {V : Type 0} (es : List (List ℕ × V)) (k : List ℕ) (v : V) → IsThere (insert_entry bytes_eq es k v) k
there_own [] k v = rw (eq_self k) refl
there_own (e ∷ es) k v = own_by (bytes_eq k e.0) e es k v refl (there_own es k v)

-- what a file comes to

accepted_by : (file : List ℕ) (r : Result Capture PcapError) (c : Capture) → accepted_trace file r ≡ Ok c → r ≡ Ok c
accepted_by file (Ok d) c e = cc
accepted_by file (Err pcap.CutHeader) c e = absurd (cc)
accepted_by file (Err pcap.Magic) c e = absurd (cc)
accepted_by file (Err pcap.LinkType) c e = absurd (cc)
accepted_by file (Err (pcap.CutRecord n)) c e = absurd (cc)
accepted_by file (Err pcap.Memory) c e = absurd (cc)

pub after_is : (files : Files) (t : Totals) (n : Naming) (bytes : List ℕ) (r : Result Totals Status) → files n.0 ≡ Some bytes → after_bytes t n bytes ≡ r → after_file files t n ≡ r
after_is files t n bytes r there e = ap (λ (o : Option (List ℕ)). if_there n.0 o >>= after_bytes t n) there ∙ e

named_same : (b : Bool) (file bytes kept : List ℕ) → as_named b file bytes ≡ Ok kept → bytes ≡ kept
named_same true file bytes kept e = cc ((bind_ok (accepted_conf file (conf_spelled bytes)) (λ c. Ok bytes) kept e).2)
named_same false file bytes kept e = cc

-- with a file that was taken, its lines were counted
pub lines_after : (t u : Totals) (n : Naming) (bytes : List ℕ) → after_bytes t n bytes ≡ Ok u → after_lines t n.0 n.1.lines bytes ≡ Ok u
lines_after t u n bytes e =
    let b = bind_ok (as_named n.1.conf n.0 bytes) (after_lines t n.0 n.1.lines) u e in
    ap (after_lines t n.0 n.1.lines) (named_same n.1.conf n.0 bytes b.0 b.1) ∙ b.2

-- one file more is kept

confs_on : (b : Bool) (files : Files) (kept : KeptBytes) (name bytes : List ℕ) → files name ≡ Some bytes → AllThere files kept → AllThere files (confs_with b kept name bytes)
confs_on true files kept name bytes there a = insert_all (λ (h : List ℕ × List ℕ). files h.0 ≡ Some h.1) kept name bytes a there
confs_on false files kept name bytes there a = a

traces_on : (k : ℕ) (files : Files) (kept : Kept) (name bytes : List ℕ) (r : Result Capture PcapError) → files name ≡ Some bytes → capture_of bytes ≡ r → AllByRecursion (IsKept files) kept → AllByRecursion (IsKept files) (traces_with k kept name r)
traces_on zero files kept name bytes r there spells a = a
traces_on (suc k) files kept name bytes (Ok c) there spells a = insert_all (IsKept files) kept name c a (ap contents_there there ∙ ap contents_read spells)
traces_on (suc k) files kept name bytes (Err e) there spells a = a

conf_stays : (b : Bool) (kept : KeptBytes) (name bytes x : List ℕ) → IsThere kept x → IsThere (confs_with b kept name bytes) x
conf_stays true kept name bytes x f = there_insert x kept name bytes f
conf_stays false kept name bytes x f = f

trace_stays : (k : ℕ) (kept : Kept) (name : List ℕ) (r : Result Capture PcapError) (x : List ℕ) → IsThere kept x → IsThere (traces_with k kept name r) x
trace_stays zero kept name r x f = f
trace_stays (suc k) kept name (Ok c) x f = there_insert x kept name c f
trace_stays (suc k) kept name (Err e) x f = f

own_conf : (b : Bool) (kept : KeptBytes) (name bytes : List ℕ) → b ≡ true → IsThere (confs_with b kept name bytes) name
own_conf true kept name bytes e = there_own kept name bytes
own_conf false kept name bytes e = absurd (cc)

own_trace : (k : ℕ) (t u : Totals) (kept : Kept) (name bytes : List ℕ) → after_lines t name k bytes ≡ Ok u → nat_lt 0 k ≡ true → IsThere (traces_with k kept name (capture_of bytes)) name
own_trace zero t u kept name bytes e f = absurd (cc)
own_trace (suc k) t u kept name bytes e f =
    let b = bind_ok (accepted_trace name (capture_of bytes)) (λ c. if_few name (with_trace t (suc k) (length c.records) (length bytes))) u e in
    subst (λ (r : Result Capture PcapError). IsThere (traces_with (suc k) kept name r) name) (sym (accepted_by name (capture_of bytes) b.0 b.1)) (there_own kept name b.0)

pub trace_put : (k : ℕ) (kept : Kept) (name bytes : List ℕ) (c : Capture) → 1 ≤ k → accepted_trace name (capture_of bytes) ≡ Ok c → insert_entry bytes_eq kept name c ≡ traces_with k kept name (capture_of bytes)
trace_put zero kept name bytes c some e = absurd (omega (arith, some))
trace_put (suc k) kept name bytes c some e = sym (ap (traces_with (suc k) kept name) (accepted_by name (capture_of bytes) c e))

module _ (told : Option Files) (file own : List ℕ) (n : Naming) (r q : Reading) (put : HasPut told file own n r q) where
  found_still : (m : Naming) → IsFound r m → IsFound q m
  found_still m f = record {
    conf = λ e. subst (λ (es : KeptBytes). IsThere es m.0) (sym put.confs) (conf_stays n.1.conf r.confs.entries n.0 put.bytes m.0 (f.conf e));
    trace = λ e. subst (λ (es : Kept). IsThere es m.0) (sym put.traces) (trace_stays n.1.lines r.traces.entries n.0 (capture_of put.bytes) m.0 (f.trace e));
  }

  found_own : IsFound q n
  found_own = record {
    conf = λ e. subst (λ (es : KeptBytes). IsThere es n.0) (sym put.confs) (own_conf n.1.conf r.confs.entries n.0 put.bytes e);
    trace = λ e.
        subst (λ (es : Kept). IsThere es n.0) (sym put.traces)
        (own_trace n.1.lines r.totals q.totals r.traces.entries n.0 put.bytes (lines_after r.totals q.totals n put.bytes put.after) e);
  }

  found_on : (ns : List Naming) → AllByRecursion (IsFound r) ns → AllByRecursion (IsFound q) (ns ++ n ∷ [])
  found_on ns a = all_append (IsFound q) ns (n ∷ []) (all_weaker (IsFound r) (IsFound q) found_still ns a) (found_own, tt)

  facts_on : (files : Files) (first : Totals) (ns : List Naming) (i : ℕ) → files n.0 ≡ Some put.bytes → drop i ns ≡ n ∷ drop (i + 1) ns → take (i + 1) ns ≡ take i ns ++ n ∷ []
      → Facts files first ns i r → Facts files first ns (i + 1) q
  facts_on files first ns i there left more f =
      let rest = drop (i + 1) ns in
      let ok : after_file files r.totals n ≡ Ok q.totals = after_is files r.totals n put.bytes (Ok q.totals) there put.after in
      record {
        outcome = f.outcome ∙ ap (after_files files r.totals) left ∙ ap (λ (x : Result Totals Status). x >>= λ v. after_files files v rest) ok;
        read = f.read ∙ ap (λ (ms : List Naming). names_in (take i ns) ++ further_read files r.totals ms) left
            ∙ ap (λ (x : Result Totals Status). names_in (take i ns) ++ n.0 ∷ if_ok x (λ v. further_read files v rest)) ok
            ∙ sym (append_assoc (names_in (take i ns)) (n.0 ∷ []) (further_read files q.totals rest))
            ∙ ap (λ (l : List (List ℕ)). l ++ further_read files q.totals rest) (sym (names_push (take i ns) n) ∙ ap names_in (sym more));
        confs = subst (AllThere files) (sym put.confs) (confs_on n.1.conf files r.confs.entries n.0 put.bytes there f.confs);
        traces = subst (AllByRecursion (IsKept files)) (sym put.traces) (traces_on n.1.lines files r.traces.entries n.0 put.bytes (capture_of put.bytes) there refl f.traces);
      }

pub told_push : (told : Option Files) (has : List (List ℕ × List ℕ)) (name bytes : List ℕ) → IfSome told (λ files. AllThere files has) → HasFile told name bytes → IfSome told (λ files. AllThere files (has ++ (name, bytes) ∷ []))
told_push (Some files) has name bytes a h = all_append (λ (x : List ℕ × List ℕ). files x.0 ≡ Some x.1) has ((name, bytes) ∷ []) a (h, tt)
told_push None has name bytes a h = tt

pub all_first : {A : Type 0} (P : A → Type 0) (xs ys : List A) → AllByRecursion P (xs ++ ys) → AllByRecursion P xs
all_first P [] ys a = tt
all_first P (x ∷ xs) ys a = (a.0, all_first P xs ys a.1)

pub all_last : {A : Type 0} (P : A → Type 0) (xs ys : List A) → AllByRecursion P (xs ++ ys) → AllByRecursion P ys
all_last P [] ys a = a
all_last P (x ∷ xs) ys a = all_last P xs ys a.1

progress_by : (b : Bool) (told : Option Files) (file own : List ℕ) (first : Totals) (ns : List Naming) (i : ℕ) (n : Naming) (r q : Reading) (old now new : List StoreCall) (put : HasPut told file own n r q)
    → bytes_eq n.0 file ≡ b → AreBytesOf b told own n.0 put.bytes → drop i ns ≡ n ∷ drop (i + 1) ns → take (i + 1) ns ≡ take i ns ++ n ∷ [] → new ≡ now ++ read_if b n.0 false
    → Progress told file own first ns i r old now → Progress told file own first ns (i + 1) q old new
progress_by true told file own first ns i n r q old now new put same there left more calls p =
    let names : but file (names_in (take (i + 1) ns)) ≡ but file (names_in (take i ns)) =
    ap (λ (ms : List Naming). but file (names_in ms)) more ∙ ap (but file) (names_push (take i ns) n) ∙ but_push true file (names_in (take i ns)) n.0 same ∙ append-nil (but file (names_in (take i ns))) in
    record {
      has = p.has;
      told_has = p.told_has;
      names = p.names ∙ sym names;
      facts = λ files its has. facts_on told file own n r q put files first ns i (ap files (same_name n.0 file same) ∙ its ∙ ap Some (sym there)) left more (p.facts files its has);
      found = rw more (found_on told file own n r q put (take i ns) p.found);
      calls = λ before e. calls ∙ append-nil now ∙ p.calls before e ∙ ap (λ (l : List (List ℕ)). before ++ reads_of (file ∷ l) false) (sym names);
    }
progress_by false told file own first ns i n r q old now new put same there left more calls p =
    let bytes = put.bytes in
    let names : but file (names_in (take (i + 1) ns)) ≡ but file (names_in (take i ns)) ++ n.0 ∷ [] =
    ap (λ (ms : List Naming). but file (names_in ms)) more ∙ ap (but file) (names_push (take i ns) n) ∙ but_push false file (names_in (take i ns)) n.0 same in
    record {
      has = p.has ++ (n.0, bytes) ∷ [];
      told_has = told_push told p.has n.0 bytes p.told_has there;
      names = map-append (λ (h : List ℕ × List ℕ). h.0) p.has ((n.0, bytes) ∷ []) ∙ ap (λ (l : List (List ℕ)). l ++ n.0 ∷ []) p.names ∙ sym names;
      facts = λ files its has.
          facts_on told file own n r q put files first ns i (all_last (λ (h : List ℕ × List ℕ). files h.0 ≡ Some h.1) p.has ((n.0, bytes) ∷ []) has).0 left more
          (p.facts files its (all_first (λ (h : List ℕ × List ℕ). files h.0 ≡ Some h.1) p.has ((n.0, bytes) ∷ []) has));
      found = rw more (found_on told file own n r q put (take i ns) p.found);
      calls = λ before e.
          calls ∙ ap (λ (l : List StoreCall). l ++ read_of n.0 false ∷ []) (p.calls before e)
          ∙ append_assoc before (reads_of (file ∷ but file (names_in (take i ns))) false) (read_of n.0 false ∷ [])
          ∙ ap (λ (l : List StoreCall). before ++ l) (reads_push file (but file (names_in (take i ns))) n.0 false)
          ∙ ap (λ (l : List (List ℕ)). before ++ reads_of (file ∷ l) false) (sym names);
    }

-- an element that is found by its index
get_at : (xs : List Naming) (i : ℕ) (n : Naming) → slice_get xs i ≡ Some n → (i < length xs) × (n ≡ get_or xs i n)
get_at [] i n e = absurd (cc)
get_at (x ∷ xs) zero n e =
    let same : x ≡ n = cc in
    (omega arith, sym same)
get_at (x ∷ xs) (suc i) n e =
    let rest = get_at xs i n e in
    (omega (arith, rest.0), rest.1)

pub drop_at : (ns : List Naming) (i : ℕ) (n : Naming) → slice_get ns i ≡ Some n → drop i ns ≡ n ∷ drop (i + 1) ns
drop_at ns i n e =
    let at = get_at ns i n e in
    drop_more ns i n at.0 ∙ ap (λ (m : Naming). m ∷ drop (i + 1) ns) (sym at.1)

pub take_at : (ns : List Naming) (i : ℕ) (n : Naming) → slice_get ns i ≡ Some n → take (i + 1) ns ≡ take i ns ++ n ∷ []
take_at ns i n e =
    let at = get_at ns i n e in
    take_more ns i n at.0 ∙ ap (λ (m : Naming). take i ns ++ m ∷ []) (sym at.1)

-- the same of a store that tells the same as before
put_back : (told now_told : Option Files) (file own : List ℕ) (n : Naming) (r q : Reading) → AllStay told now_told → HasPut now_told file own n r q → HasPut told file own n r q
put_back told now_told file own n r q stay put = record {
  bytes = put.bytes;
  there = bytes_back (bytes_eq n.0 file) told now_told own n.0 put.bytes stay put.there;
  after = put.after;
  confs = put.confs;
  traces = put.traces;
}

pub progress_on : (told now_told : Option Files) (file own : List ℕ) (first : Totals) (ns : List Naming) (i : ℕ) (n : Naming) (r q : Reading) (old now new : List StoreCall)
    → slice_get ns i ≡ Some n → AllStay told now_told → HasPut now_told file own n r q → new ≡ now ++ read_if (bytes_eq n.0 file) n.0 false
    → Progress told file own first ns i r old now → Progress told file own first ns (i + 1) q old new
progress_on told now_told file own first ns i n r q old now new at stay put calls p =
    let back = put_back told now_told file own n r q stay put in
    progress_by (bytes_eq n.0 file) told file own first ns i n r q old now new back refl back.there (drop_at ns i n at) (take_at ns i n at) calls p

if_told : (told : Option Files) → IfSome told (λ files. AllThere files [])
if_told (Some files) = tt
if_told None = tt

pub progress_first : (told : Option Files) (file own : List ℕ) (ns : List Naming) (r : Reading) (calls : List StoreCall) → r.confs.entries ≡ [] → r.traces.entries ≡ [] → Progress told file own r.totals ns 0 r calls calls
progress_first told file own ns r calls confs traces = record {
  has = [];
  told_has = if_told told;
  names = refl;
  facts = λ files its has. record { outcome = refl; read = refl; confs = subst (AllThere files) (sym confs) tt; traces = subst (AllByRecursion (IsKept files)) (sym traces) tt };
  found = tt;
  calls = λ before e. e;
}

-- by which status a file is refused

abbrev IsFileRefusal : Status → Type 0
IsFileRefusal (status.Conf name line k text) = Unit {0}
IsFileRefusal (status.Trace name cause) = Unit {0}
IsFileRefusal status.Memory = Unit {0}
IsFileRefusal s = ⊥

same_err : {A : Type 0} (s t : Status) → ◌≡◌ {A = Result A Status} (Err s) (Err t) → s ≡ t
same_err s t e = cc

-- the first of two, or the second, refuses
refused_by : {A B : Type 0} (r : Result A Status) (f : A → Result B Status) (s : Status) → (r ≡ Err s → IsFileRefusal s) → ((x : A) → f x ≡ Err s → IsFileRefusal s) → (r >>= f) ≡ Err s → IsFileRefusal s
refused_by (Ok x) f s first second e = second x e
refused_by {A} {B} (Err u) f s first second e = first (ap Err (same_err {A = B} u s e))

trace_refusal : (file : List ℕ) (r : Result Capture PcapError) (s : Status) → accepted_trace file r ≡ Err s → IsFileRefusal s
trace_refusal file (Ok c) s e = absurd (cc)
trace_refusal file (Err pcap.CutHeader) s e = subst IsFileRefusal (same_err {A = Capture} (status.Trace file cause.CutHeader) s e) tt
trace_refusal file (Err pcap.Magic) s e = subst IsFileRefusal (same_err {A = Capture} (status.Trace file cause.Magic) s e) tt
trace_refusal file (Err pcap.LinkType) s e = subst IsFileRefusal (same_err {A = Capture} (status.Trace file cause.LinkType) s e) tt
trace_refusal file (Err (pcap.CutRecord n)) s e = subst IsFileRefusal (same_err {A = Capture} (status.Trace file (cause.CutRecord n)) s e) tt
trace_refusal file (Err pcap.Memory) s e = subst IsFileRefusal (same_err {A = Capture} status.Memory s e) tt

few_refusal : (b : Bool) (file : List ℕ) (t : Totals) (s : Status) → ◌≡◌ {A = Result Totals Status} (if b then Ok t else Err (status.Trace file cause.TooMany)) (Err s) → IsFileRefusal s
few_refusal true file t s e = absurd (cc)
few_refusal false file t s e = subst IsFileRefusal (same_err {A = Totals} (status.Trace file cause.TooMany) s e) tt

conf_refusal : (file : List ℕ) (r : Result Conf ConfError) (s : Status) → accepted_conf file r ≡ Err s → IsFileRefusal s
conf_refusal file (Ok c) s e = absurd (cc)
conf_refusal file (Err (conf.Bad line k text)) s e = subst IsFileRefusal (same_err {A = Conf} (status.Conf file line k text) s e) tt
conf_refusal file (Err conf.Memory) s e = subst IsFileRefusal (same_err {A = Conf} status.Memory s e) tt

lines_refusal : (k : ℕ) (t : Totals) (file bytes : List ℕ) (s : Status) → after_lines t file k bytes ≡ Err s → IsFileRefusal s
lines_refusal zero t file bytes s e = absurd (cc)
lines_refusal (suc k) t file bytes s e =
    refused_by (accepted_trace file (capture_of bytes)) (λ c. if_few file (with_trace t (suc k) (length c.records) (length bytes))) s (trace_refusal file (capture_of bytes) s)
    (λ c f. few_refusal (are_few (with_trace t (suc k) (length c.records) (length bytes))) file (with_trace t (suc k) (length c.records) (length bytes)) s f) e

named_refusal : (b : Bool) (file bytes : List ℕ) (s : Status) → as_named b file bytes ≡ Err s → IsFileRefusal s
named_refusal true file bytes s e = refused_by (accepted_conf file (conf_spelled bytes)) (λ c. Ok bytes) s (conf_refusal file (conf_spelled bytes) s) (λ c f. absurd (cc)) e
named_refusal false file bytes s e = absurd (cc)

file_refusal : (t : Totals) (n : Naming) (bytes : List ℕ) (s : Status) → after_bytes t n bytes ≡ Err s → IsFileRefusal s
file_refusal t n bytes s e = refused_by (as_named n.1.conf n.0 bytes) (after_lines t n.0 n.1.lines) s (named_refusal n.1.conf n.0 bytes s) (λ kept f. lines_refusal n.1.lines t n.0 kept s f) e

pub refused_file : (told : Option Files) (file own : List ℕ) (t : Totals) (n : Naming) (bytes : List ℕ) (s : Status) → AreBytesOf (bytes_eq n.0 file) told own n.0 bytes
    → Gives (λ (u : Totals). u) (Err s) (after_bytes t n bytes) → IsStop told file own t n s
refused_file told file own t n bytes status.Memory there e = tt
refused_file told file own t n bytes (status.Trace name k) there e = record { bytes = bytes; there = there; refused = e }
refused_file told file own t n bytes (status.Conf name line k text) there e = record { bytes = bytes; there = there; refused = e }
refused_file told file own t n bytes status.Good there e = absurd (file_refusal t n bytes status.Good e)
refused_file told file own t n bytes status.Usage there e = absurd (file_refusal t n bytes status.Usage e)
refused_file told file own t n bytes (status.Scenario line k text) there e = absurd (file_refusal t n bytes (status.Scenario line k text) e)
refused_file told file own t n bytes (status.StoreFault name) there e = absurd (file_refusal t n bytes (status.StoreFault name) e)
refused_file told file own t n bytes status.SinkFault there e = absurd (file_refusal t n bytes status.SinkFault e)
refused_file told file own t n bytes status.ControlFull there e = absurd (file_refusal t n bytes status.ControlFull e)

pub stop_by : (told : Option Files) (file own : List ℕ) (t u : Totals) (n : Naming) (bytes : List ℕ) (r : Result (Unit {0}) Status) → AreBytesOf (bytes_eq n.0 file) told own n.0 bytes
    → Gives (λ (x : Unit {0}). u) r (after_bytes t n bytes) → IfErr r (IsStop told file own t n)
stop_by told file own t u n bytes (Ok x) there e = tt
stop_by told file own t u n bytes (Err s) there e = refused_file told file own t n bytes s there (gives_on s e)
  where
    gives_on : (s : Status) → Gives (λ (x : Unit {0}). u) (Err s) (after_bytes t n bytes) → Gives (λ (v : Totals). v) (Err s) (after_bytes t n bytes)
    gives_on status.Memory e = tt
    gives_on (status.Trace name k) e = e
    gives_on (status.Conf name line k text) e = e
    gives_on status.Good e = e
    gives_on status.Usage e = e
    gives_on (status.Scenario line k text) e = e
    gives_on (status.StoreFault name) e = e
    gives_on status.SinkFault e = e
    gives_on status.ControlFull e = e

-- of an element that is found by its index
pub all_at : (P : Naming → Type 0) (xs : List Naming) (i : ℕ) (n : Naming) → slice_get xs i ≡ Some n → AllByRecursion P xs → P n
all_at P [] i n e a = absurd (cc)
all_at P (x ∷ xs) zero n e a =
    let same : x ≡ n = cc in
    subst P same a.0
all_at P (x ∷ xs) (suc i) n e a = all_at P xs i n e a.1

-- what is said of a store holds of one that tells the same

told_back : (told now_told : Option Files) (has : List (List ℕ × List ℕ)) → AllStay told now_told → IfSome now_told (λ files. AllThere files has) → IfSome told (λ files. AllThere files has)
told_back (Some f) (Some g) has s a = all_weaker (λ (h : List ℕ × List ℕ). g h.0 ≡ Some h.1) (λ (h : List ℕ × List ℕ). f h.0 ≡ Some h.1) (λ h e. sym (s h.0) ∙ e) has a
told_back (Some f) None has s a = absurd s
told_back None now_told has s a = tt

pub progress_back : (told now_told : Option Files) (file own : List ℕ) (first : Totals) (ns : List Naming) (i : ℕ) (r : Reading) (old now : List StoreCall) → AllStay told now_told
    → Progress now_told file own first ns i r old now → Progress told file own first ns i r old now
progress_back told now_told file own first ns i r old now s p = record {
  has = p.has;
  told_has = told_back told now_told p.has s p.told_has;
  names = p.names;
  facts = p.facts;
  found = p.found;
  calls = p.calls;
}

pub stop_back : (told now_told : Option Files) (file own : List ℕ) (t : Totals) (n : Naming) (st : Status) → AllStay told now_told → IsStop now_told file own t n st → IsStop told file own t n st
stop_back told now_told file own t n status.Memory s p = tt
stop_back told now_told file own t n (status.StoreFault name) s p = p
stop_back told now_told file own t n (status.Trace name k) s p = record { bytes = p.bytes; there = bytes_back (bytes_eq n.0 file) told now_told own n.0 p.bytes s p.there; refused = p.refused }
stop_back told now_told file own t n status.Good s p = absurd p
stop_back told now_told file own t n status.Usage s p = absurd p
stop_back told now_told file own t n (status.Scenario line k text) s p = absurd p
stop_back told now_told file own t n status.SinkFault s p = absurd p
stop_back told now_told file own t n status.ControlFull s p = absurd p
stop_back told now_told file own t n (status.Conf name line k text) s p = record { bytes = p.bytes; there = bytes_back (bytes_eq n.0 file) told now_told own n.0 p.bytes s p.there; refused = p.refused }

pub stops_at : (told now_told : Option Files) (file own : List ℕ) (first : Totals) (ns : List Naming) (i : ℕ) (n : Naming) (r : Reading) (st : Status) (old now new : List StoreCall)
    → slice_get ns i ≡ Some n → AllStay told now_told → Progress told file own first ns i r old now → IsStop now_told file own r.totals n st → new ≡ now ++ read_if (bytes_eq n.0 file) n.0 (fails st)
    → Stops told file own first ns st old new
stops_at told now_told file own first ns i n r st old now new at s p stop calls = record {
  i = i;
  r = r;
  now = now;
  n = n;
  left = drop (i + 1) ns;
  progress = p;
  at = drop_at ns i n at;
  stop = stop_back told now_told file own r.totals n st s stop;
  calls = calls;
}

pub all_back : (told now_told : Option Files) (file own : List ℕ) (packets : ℕ) (ns named : List Naming) (s : Scenario) (r : Reading) (old new : List StoreCall) → AllStay told now_told → ns ≡ named → packets ≡ packets_of s.phases
    → ReadsAll now_told file own (record { items = packets; bytes = 0 }) ns r old new → ReadsAll told file own (before_traces s) named r old new
all_back told now_told file own packets ns named s r old new stay e f all =
    subst (λ (ms : List Naming). ReadsAll told file own (before_traces s) ms r old new) e
    (subst (λ (k : ℕ). ReadsAll told file own (record { items = k; bytes = 0 }) ns r old new) f
    (record {
      i = all.i;
      progress = progress_back told now_told file own (record { items = packets; bytes = 0 }) ns all.i r old new stay all.progress;
      none_left = all.none_left;
    }))

pub stops_back : (told now_told : Option Files) (file own : List ℕ) (packets : ℕ) (ns named : List Naming) (s : Scenario) (st : Status) (old new : List StoreCall) → AllStay told now_told → ns ≡ named → packets ≡ packets_of s.phases
    → Stops now_told file own (record { items = packets; bytes = 0 }) ns st old new → Stops told file own (before_traces s) named st old new
stops_back told now_told file own packets ns named s st old new stay e f r =
    subst (λ (ms : List Naming). Stops told file own (before_traces s) ms st old new) e
    (subst (λ (k : ℕ). Stops told file own (record { items = k; bytes = 0 }) ns st old new) f
    (record {
      i = r.i;
      r = r.r;
      now = r.now;
      n = r.n;
      left = r.left;
      progress = progress_back told now_told file own (record { items = packets; bytes = 0 }) ns r.i r.r old r.now stay r.progress;
      at = r.at;
      stop = stop_back told now_told file own r.r.totals r.n st stay r.stop;
      calls = r.calls;
    }))
