use Rattle.std.proofs.Common.{rules, arith, sym, ap, ◌≡◌, ◌≢◌, ◌<◌, ℕ, ◌+◌, zero, suc, List, [], ◌∷◌, length, Option, Some, get_or, remove, if◌then◌else◌}
use Rattle.std.specs.Global.{Vec}
use Rattle.mr_base.specs.MemStores.{bytes_eq, bytes_of}
use Rattle.mr_base.proofs.mem_store.MemStore.set.Goals as goal

-- a look-up passes over a file of another name
passed : (name other : List ℕ) (x y : Option (List ℕ)) → other ≢ name → (if bytes_eq name other then x else y) ≡ y
passed name other x y differ = search rules

-- without a file of this name every other file is found as before
gone : (name other : List ℕ) (files : List (List ℕ × Vec ℕ)) (i : ℕ) → other ≢ name → i < length files
    → ((d : List ℕ × Vec ℕ) → (get_or files i d).0 ≡ name) → bytes_of (remove files i) other ≡ bytes_of files other
gone name other [] i differ below is = absurd (omega (arith, below))
gone name other (file ∷ files) zero differ below is =
    sym (passed file.0 other (Some file.1.items) (bytes_of files other) (rw (is file) differ))
gone name other (file ∷ files) (suc i) differ below is =
    ap (λ found. if bytes_eq file.0 other then Some file.1.items else found)
    (gone name other files i differ (omega (arith, below)) is)

-- with a new file of the name in front and an older one taken out, every other file is found as before
replaced : (name other : List ℕ) (copy : Vec ℕ) (files : List (List ℕ × Vec ℕ)) (i : ℕ) → other ≢ name
    → i < length files → ((d : List ℕ × Vec ℕ) → (get_or files i d).0 ≡ name)
    → bytes_of (remove ((name, copy) ∷ files) (i + 1)) other ≡ bytes_of files other
replaced name other copy files i differ below is =
    let next : i + 1 ≡ suc i = omega arith in
    rw next (rw (passed name other (Some copy.items) (bytes_of (remove files i) other) differ)
    (gone name other files i differ below is))

pub returns-in-Some-clause-others : goal.returns-in-Some-clause-others
returns-in-Some-clause-others c = λ other differ.
    let found = c.in-Some.ensures.found in
    rw (c.remove.ensures.items, c.in_ok-insert.ensures.items, c.new.ensures)
    (replaced c.args.name.now other c.in_ok-copy.copy c.args.self.now.files.items c.in-Some.i
    differ found.0 found.1)
