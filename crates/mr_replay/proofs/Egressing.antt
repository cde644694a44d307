-- Files that are written one after another.
use Rattle.std.proofs.Common.{◌≡◌, ◌∙◌, ℕ, zero, suc, ◌+◌, ◌-◌, ◌<◌, Bool, true, false, Option, Some, None, List, [], ◌∷◌, ◌++◌, map, refl, sym, ap, arith, subst, append_assoc, append-nil}
use Rattle.std.proofs.lemmas.List.{map-append}
use Rattle.std.specs.Prelude.{bytes_eq, if◌then◌else◌}
use Rattle.mr_base.specs.Outside.{Files, HasFile, OthersStay, Rose}
use Rattle.mr_base.specs.declared.store_call.StoreCall.{StoreCall}
use Rattle.mr_load.proofs.Namings.{eq_self, same_name}
use Rattle.mr_load.specs.Callers.{from_on, one_to}
use Rattle.mr_load.specs.Faults.{cuts, fails}
use Rattle.mr_load.specs.declared.status.Status.{Status}
use Rattle.mr_load.specs.declared.status.Status.TheVariants as status
use Rattle.mr_replay.specs.Endings.{IfStoreFault}
use Rattle.mr_replay.specs.Egress.{EgressFile, HasWritten, StopsAt, Stores, StoresBut, StoresFirst, Writes, WritesTo, calls_by, names_of, with_file, with_files, write_of, writes_of}

files_same : (fs : List EgressFile) (a b : Files) → ((name : List ℕ) → a name ≡ b name) → (name : List ℕ) → with_files fs a name ≡ with_files fs b name
files_same [] a b same name = same name
files_same (f ∷ fs) a b same name =
    files_same fs (with_file f a) (with_file f b) (λ n. ap (λ (o : Option (List ℕ)). if bytes_eq n f.name then Some f.bytes else o) (same n)) name

files_append : (fs gs : List EgressFile) (a : Files) (name : List ℕ) → with_files (fs ++ gs) a name ≡ with_files gs (with_files fs a) name
files_append [] gs a name = refl
files_append (f ∷ fs) gs a name = files_append fs gs (with_file f a) name

both : (fs gs : List EgressFile) (a b : Files) → ((name : List ℕ) → b name ≡ with_files fs a name) → (name : List ℕ) → with_files gs b name ≡ with_files (fs ++ gs) a name
both fs gs a b first name = files_same gs b (with_files fs a) first name ∙ sym (files_append fs gs a name)

-- files behind files
pub stores_both : (fs gs : List EgressFile) (a b c : Option Files) → Stores fs a b → Stores gs b c → Stores (fs ++ gs) a c
stores_both fs gs (Some a) (Some b) (Some c) s t = λ name. t name ∙ both fs gs a b s name
stores_both fs gs None None None s t = tt
stores_both fs gs (Some a) None c s t = absurd s
stores_both fs gs None (Some b) c s t = absurd s
stores_both fs gs (Some a) (Some b) None s t = absurd t
stores_both fs gs None None (Some c) s t = absurd t

pub stores_but : (loose : List ℕ) (fs gs : List EgressFile) (a b c : Option Files) → Stores fs a b → StoresBut loose gs b c → StoresBut loose (fs ++ gs) a c
stores_but loose fs gs (Some a) (Some b) (Some c) s t = λ name other. t name other ∙ both fs gs a b s name
stores_but loose fs gs None None None s t = tt
stores_but loose fs gs (Some a) None c s t = absurd s
stores_but loose fs gs None (Some b) c s t = absurd s
stores_but loose fs gs (Some a) (Some b) None s t = absurd t
stores_but loose fs gs None None (Some c) s t = absurd t

behind : (fs gs : List EgressFile) (left hs : List EgressFile) → gs ≡ hs ++ left → (rest : List EgressFile) → fs ++ gs ++ rest ≡ (fs ++ hs) ++ (left ++ rest)
behind fs gs left hs order rest =
    ap (λ (xs : List EgressFile). fs ++ xs ++ rest) order ∙ ap (λ (xs : List EgressFile). xs ++ rest) (sym (append_assoc fs hs left)) ∙ append_assoc (fs ++ hs) left rest

-- Writing was stopped in files behind those that are written; those behind them are not touched.
stops : (fs gs rest : List EgressFile) (s : Status) (a b c : Option Files) → Stores fs a b → Writes gs s b c → (s ≡ status.Good → ⊥) → Writes (fs ++ gs ++ rest) s a c
stops fs gs rest status.Memory a b c s w bad = record {
  written = fs ++ w.written;
  left = w.left ++ rest;
  order = behind fs gs w.left w.written w.order rest;
  stored = stores_both fs w.written a b c s w.stored;
}
stops fs gs rest (status.StoreFault name) a b c s w bad = record {
  written = fs ++ w.written;
  bytes = w.bytes;
  left = w.left ++ rest;
  order = behind fs gs (record { name = name; bytes = w.bytes } ∷ w.left) w.written w.order rest;
  stored = stores_but name fs w.written a b c s w.stored;
}
stops fs gs rest status.Good a b c s w bad = absurd (bad refl)
stops fs gs rest status.Usage a b c s w bad = absurd w
stops fs gs rest (status.Scenario line k text) a b c s w bad = absurd w
stops fs gs rest (status.Trace file cause) a b c s w bad = absurd w
stops fs gs rest status.SinkFault a b c s w bad = absurd w
stops fs gs rest status.ControlFull a b c s w bad = absurd w
stops fs gs rest (status.Conf file line kind text) a b c s w bad = absurd w

pub writes_push : (names : List (List ℕ)) (name : List ℕ) (failed : Bool) → writes_of (names ++ name ∷ []) failed ≡ writes_of names false ++ write_of name failed ∷ []
writes_push [] name failed = refl
writes_push (x ∷ []) name failed = refl
writes_push (x ∷ y ∷ names) name failed = ap (λ (cs : List StoreCall). write_of x false ∷ cs) (writes_push (y ∷ names) name failed)

pub from_split : (n a b : ℕ) → from_on n (a + b) ≡ from_on n a ++ from_on (n + a) b
from_split n zero b =
    let first : 0 + b ≡ b = omega arith in
    let same : n + 0 ≡ n = omega arith in
    ap (from_on n) first ∙ sym (ap (λ (m : ℕ). from_on m b) same)
from_split n (suc a) b =
    let whole : suc a + b ≡ suc (a + b) = omega arith in
    let place : n + 1 + a ≡ n + suc a = omega arith in
    ap (from_on n) whole ∙ ap (λ (ns : List ℕ). n ∷ ns) (from_split (n + 1) a b ∙ ap (λ (m : ℕ). from_on (n + 1) a ++ from_on m b) place)

-- the files of numbers 1 up to n: the first k, the next, and the others
parts : (f : ℕ → EgressFile) (n k : ℕ) → k < n → map f (one_to n) ≡ map f (one_to k) ++ f (k + 1) ∷ map f (from_on (k + 2) (n - k - 1))
parts f n k less =
    let whole : n ≡ k + suc (n - k - 1) = omega (arith, less) in
    let next : 1 + k ≡ k + 1 = omega arith in
    let third : k + 1 + 1 ≡ k + 2 = omega arith in
    ap (λ (m : ℕ). map f (one_to m)) whole ∙ ap (map f) (from_split 1 k (suc (n - k - 1))) ∙ map-append f (one_to k) (from_on (1 + k) (suc (n - k - 1)))
    ∙ ap (λ (m : ℕ). map f (one_to k) ++ map f (from_on m (suc (n - k - 1)))) next
    ∙ ap (λ (m : ℕ). map f (one_to k) ++ f (k + 1) ∷ map f (from_on m (n - k - 1))) third

-- one more
pub one_more : (f : ℕ → EgressFile) (k : ℕ) → map f (one_to (k + 1)) ≡ map f (one_to k) ++ f (k + 1) ∷ []
one_more f k =
    let next : 1 + k ≡ k + 1 = omega arith in
    ap (map f) (from_split 1 k 1) ∙ map-append f (one_to k) (from_on (1 + k) 1) ∙ ap (λ (m : ℕ). map f (one_to k) ++ f m ∷ []) next

-- The first k files of a run are written, and the store's calls are their writes.
pub record AreWritten (f : ℕ → EgressFile) (k : ℕ) (told now : Option Files) (old new : List StoreCall) : Type 0 where
  pub files : Stores (map f (one_to k)) told now
  pub calls : new ≡ old ++ writes_of (names_of (map f (one_to k))) false

pub none_written : (f : ℕ → EgressFile) (told : Option Files) (old : List StoreCall) → AreWritten f 0 told told old old
none_written f told old = record { files = same told; calls = sym (append-nil old) }
  where
    same : (o : Option Files) → Stores [] o o
    same (Some files) = λ name. refl
    same None = tt

name_push : (fs : List EgressFile) (f : EgressFile) → names_of (fs ++ f ∷ []) ≡ names_of fs ++ f.name ∷ []
name_push fs f = map-append (λ (x : EgressFile). x.name) fs (f ∷ [])

pub one_written : (f : ℕ → EgressFile) (k : ℕ) (a b c : Option Files) (x y z : List StoreCall) (s : Status) → s ≡ status.Good → AreWritten f k a b x y → Writes (f (k + 1) ∷ []) s b c → z ≡ y ++ calls_by s (f (k + 1)).name
    → AreWritten f (k + 1) a c x z
one_written f k a b c x y z s good w done called =
    let one : Stores (f (k + 1) ∷ []) b c = subst (λ (t : Status). Writes (f (k + 1) ∷ []) t b c) good done in
    record {
      files = subst (λ (fs : List EgressFile). Stores fs a c) (sym (one_more f k)) (stores_both (map f (one_to k)) (f (k + 1) ∷ []) a b c w.files one);
      calls = called ∙ ap (λ (t : Status). y ++ calls_by t (f (k + 1)).name) good ∙ ap (λ (cs : List StoreCall). cs ++ write_of (f (k + 1)).name false ∷ []) w.calls
          ∙ append_assoc x (writes_of (names_of (map f (one_to k))) false) (write_of (f (k + 1)).name false ∷ [])
          ∙ ap (λ (cs : List StoreCall). x ++ cs) (sym (ap (λ (ns : List (List ℕ)). writes_of ns false) (ap names_of (one_more f k) ∙ name_push (map f (one_to k)) (f (k + 1))) ∙ writes_push (names_of (map f (one_to k))) (f (k + 1)).name false));
    }

-- all are written
pub all_written : (f : ℕ → EgressFile) (n : ℕ) (a b : Option Files) (x y : List StoreCall) → AreWritten f n a b x y → WritesTo (map f (one_to n)) status.Good a b x y
all_written f n a b x y w = record {
  files = w.files;
  calls = record { written = names_of (map f (one_to n)); left = []; order = sym (append-nil _); all = λ e. refl; calls = w.calls };
}

-- The writing was stopped at the next file.
pub stopped : (f : ℕ → EgressFile) (n k : ℕ) (a b c : Option Files) (x y z : List StoreCall) (s : Status) → k < n → (s ≡ status.Good → ⊥) → AreWritten f k a b x y → Writes (f (k + 1) ∷ []) s b c
    → z ≡ y ++ calls_by s (f (k + 1)).name → WritesTo (map f (one_to n)) s a c x z
stopped f n k a b c x y z s less bad w done called = record {
  files = subst (λ (fs : List EgressFile). Writes fs s a c) (append_assoc (map f (one_to k)) (f (k + 1) ∷ []) _ ∙ sym (parts f n k less)) (stops (map f (one_to k)) (f (k + 1) ∷ []) (map f (from_on (k + 2) (n - k - 1))) s a b c w.files done bad);
  calls = by_status s bad done (called ∙ ap (λ (cs : List StoreCall). cs ++ calls_by s (f (k + 1)).name) w.calls ∙ append_assoc x _ _);
}
  where
    first : List (List ℕ)
    first = names_of (map f (one_to k))

    others : List (List ℕ)
    others = names_of (map f (from_on (k + 2) (n - k - 1)))

    names : names_of (map f (one_to n)) ≡ first ++ (f (k + 1)).name ∷ others
    names = ap names_of (parts f n k less) ∙ map-append (λ (x : EgressFile). x.name) (map f (one_to k)) _

    by_status : (t : Status) → (t ≡ status.Good → ⊥) → Writes (f (k + 1) ∷ []) t b c → z ≡ x ++ (writes_of first false ++ calls_by t (f (k + 1)).name) → HasWritten (names_of (map f (one_to n))) (cuts t) (fails t) x z
    by_status status.Memory never v e = record { written = first; left = (f (k + 1)).name ∷ others; order = names; all = λ q. absurd (cc q); calls = e ∙ ap (λ (cs : List StoreCall). x ++ cs) (append-nil (writes_of first false)) }
    by_status (status.StoreFault file) never v e = record {
      written = first ++ (f (k + 1)).name ∷ [];
      left = others;
      order = names ∙ sym (append_assoc first ((f (k + 1)).name ∷ []) others);
      all = λ q. absurd (cc q);
      calls = e ∙ ap (λ (cs : List StoreCall). x ++ cs) (sym (writes_push first (f (k + 1)).name true));
    }
    by_status status.Good never v e = absurd (never refl)
    by_status status.Usage never v e = absurd v
    by_status (status.Scenario line k text) never v e = absurd v
    by_status (status.Trace file cause) never v e = absurd v
    by_status status.SinkFault never v e = absurd v
    by_status status.ControlFull never v e = absurd v
    by_status (status.Conf file line kind text) never v e = absurd v

-- one file's write, by what the store says of it
pub put_good : (name bytes : List ℕ) (a b : Option Files) → HasFile b name bytes → OthersStay name a b → Stores (record { name = name; bytes = bytes } ∷ []) a b
put_good name bytes (Some a) (Some b) has others = λ other. by_test other (bytes_eq other name) refl
  where
    apart : (t : Bool) → t ≡ false → t ≡ true → ⊥
    apart true e g = absurd (cc)
    apart false e g = absurd (cc)

    by_test : (other : List ℕ) (t : Bool) → bytes_eq other name ≡ t → b other ≡ (if t then Some bytes else a other)
    by_test other true e = ap b (same_name other name e) ∙ has
    by_test other false e = others other (λ q. apart (bytes_eq other name) e (ap (λ (w : List ℕ). bytes_eq w name) q ∙ eq_self name))
put_good name bytes None None has others = tt
put_good name bytes (Some a) None has others = absurd others
put_good name bytes None (Some b) has others = absurd others

pub put_bad : (name bytes : List ℕ) (a b : Option Files) → OthersStay name a b → StopsAt name (record { name = name; bytes = bytes } ∷ []) a b
put_bad name bytes a b others = record { written = []; bytes = bytes; left = []; order = refl; stored = but a b others }
  where
    but : (a b : Option Files) → OthersStay name a b → StoresBut name [] a b
    but (Some a) (Some b) o = λ other apart. o other apart
    but None None o = tt
    but (Some a) None o = absurd o
    but None (Some b) o = absurd o

-- nothing was written
pub put_none : (f : EgressFile) (a : Option Files) → StoresFirst (f ∷ []) a a
put_none f a = record { written = []; left = f ∷ []; order = refl; stored = same a }
  where
    same : (o : Option Files) → Stores [] o o
    same (Some files) = λ name. refl
    same None = tt

-- names that were made are those of the files
pub names_made : (f : ℕ → EgressFile) (ns : List ℕ) → names_of (map f ns) ≡ map (λ n. (f n).name) ns
names_made f [] = refl
names_made f (n ∷ ns) = ap (λ (names : List (List ℕ)). (f n).name ∷ names) (names_made f ns)

-- a count that had not risen before
pub rose_still : (s : Status) (a b c : ℕ) → b ≡ a → IfStoreFault s (λ _. Rose b c) → IfStoreFault s (λ _. Rose a c)
rose_still s a b c same r = subst (λ (n : ℕ). IfStoreFault s (λ _. Rose n c)) same r
