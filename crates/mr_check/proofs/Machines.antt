-- What daemons with routing machines did in the phases of a history, and in the first of them.
use Rattle.std.proofs.Common.{◌≡◌, ◌∙◌, ℕ, zero, suc, Bool, true, false, Option, Some, None, List, [], ◌∷◌, ◌++◌, map, take, refl, sym, ap, append_assoc, subst}
use Rattle.std.specs.List.{list_any}
use Rattle.std.specs.Prelude.{◌||◌, get_or, slice_get}
use Rattle.mr_base.specs.Outside.{Files}
use Rattle.mr_load.specs.Callers.{kind_of}
use Rattle.mr_load.specs.Loads.{IsLoaded}
use Rattle.mr_load.specs.Machines.{machine_for}
use Rattle.mr_load.specs.declared.loading.Loaded.{Loaded}
use Rattle.mr_model.specs.Past.{is_end}
use Rattle.mr_model.specs.declared.entry.Entry.{Entry}
use Rattle.mr_model.specs.declared.entry.Entry.TheVariants.{EndPhase}
use Rattle.mr_scenario.specs.declared.scenario.DaemonKind.{DaemonKind}
use Rattle.mr_scenario.specs.declared.scenario.DaemonKind.TheVariants.{Plain, Admin, Smc}
use Rattle.mr_scenario.specs.declared.scenario.Phase.{Phase}
use Rattle.mr_scenario.specs.declared.scenario.Scenario.{Scenario}
use Rattle.smc_core.specs.Machine.{Machine}
use Rattle.smc_daemon.specs.Courses.{Drives, DrivesFrom, machine_behind}
use Rattle.smc_daemon.specs.Machines.{machine_of}
use Rattle.mr_check.specs.Callers.{machine_at}

-- a history of so many phases, each with its end
abbrev pub InParts : ℕ → List Entry → Type 0
InParts zero h = h ≡ []
InParts (suc n) h = (part : List Entry) × (rest : List Entry) × (h ≡ part ++ EndPhase ∷ rest) × (list_any is_end part ≡ false) × InParts n rest

pub parts_push : (n : ℕ) (g part : List Entry) → InParts n g → list_any is_end part ≡ false → InParts (suc n) (g ++ part ++ EndPhase ∷ [])
parts_push zero g part none clean = (part, [], ap (λ (x : List Entry). x ++ part ++ EndPhase ∷ []) none, clean, refl)
parts_push (suc n) g part (first, rest, splits, no_end, more) clean = (
  first,
  rest ++ part ++ EndPhase ∷ [],
  ap (λ (x : List Entry). x ++ part ++ EndPhase ∷ []) splits
      ∙ ap (λ (x : List Entry). x ++ EndPhase ∷ []) (append_assoc first (EndPhase ∷ rest) part)
      ∙ append_assoc first (EndPhase ∷ (rest ++ part)) (EndPhase ∷ []),
  no_end,
  parts_push n rest part more clean,
)

rest_false : (b c : Bool) → (b || c) ≡ false → c ≡ false
rest_false true c e = absurd (cc e)
rest_false false c e = e

not_end : (x : Entry) (xs : List Entry) → x ≡ EndPhase → list_any is_end (x ∷ xs) ≡ false → ⊥
not_end x xs e p =
    let now : list_any is_end (EndPhase ∷ xs) ≡ false = subst (λ (y : Entry). list_any is_end (y ∷ xs) ≡ false) e p in
    absurd (cc now)

behind_first : (x : Entry) (xs : List Entry) → list_any is_end (x ∷ xs) ≡ false → list_any is_end xs ≡ false
behind_first x xs p = rest_false (is_end x) (list_any is_end xs) p

-- A history is cut at its first end in one way.
cut_same : (a b c d : List Entry) → list_any is_end a ≡ false → list_any is_end c ≡ false → a ++ EndPhase ∷ b ≡ c ++ EndPhase ∷ d → (a ≡ c) × (b ≡ d)
cut_same [] b [] d p q e = (refl, cc e)
cut_same [] b (x ∷ c) d p q e = absurd (not_end x c (cc e) q)
cut_same (x ∷ a) b [] d p q e = absurd (not_end x a (cc e) p)
cut_same (x ∷ a) b (y ∷ c) d p q e =
    let first : x ≡ y = cc e in
    let rest = cut_same a b c d (behind_first x a p) (behind_first y c q) (cc e) in
    (λ i. first i ∷ rest.0 i, rest.1)

nothing_ends : (part rest h : List Entry) → (part ++ EndPhase ∷ rest) ++ h ≡ [] → ⊥
nothing_ends [] rest h e = absurd (cc e)
nothing_ends (x ∷ part) rest h e = absurd (cc e)

-- what was done in the first phases of a history
pub drives_front : (n : ℕ) (d : ℕ) (m : Machine) (before : List Entry) (ps : List Phase) (h front behind : List Entry) → h ≡ front ++ behind → InParts n front → DrivesFrom d m before ps h → DrivesFrom d m before (take n ps) front
drives_front zero d m before ps h front behind whole none drives = none
drives_front (suc n) d m before [] h front behind whole (part, rest, splits, no_end, more) drives =
    absurd (nothing_ends part rest behind (ap (λ (x : List Entry). x ++ behind) (sym splits) ∙ sym whole ∙ drives))
drives_front (suc n) d m before (p ∷ ps) h front behind whole (part, rest, splits, no_end, more) (part', rest', splits', no_end', drives, later) =
    let same = cut_same part' rest' part (rest ++ behind) no_end' no_end
    (sym splits' ∙ whole ∙ ap (λ (x : List Entry). x ++ behind) splits ∙ append_assoc part (EndPhase ∷ rest) behind) in (
      part,
      rest,
      splits,
      no_end,
      subst (λ (x : List Entry). Drives d m p before x) same.0 drives,
      drives_front n d (machine_behind d m p before part) (before ++ part ++ EndPhase ∷ []) ps (rest ++ behind) rest behind refl more
          (subst (λ (x : List Entry). DrivesFrom d (machine_behind d m p before part) (before ++ part ++ EndPhase ∷ []) ps x) same.1
          (subst (λ (x : List Entry). DrivesFrom d (machine_behind d m p before x) (before ++ x ++ EndPhase ∷ []) ps rest') same.0 later)),
    )

-- the machines of a loaded scenario are those of its daemons

of_map : (f : DaemonKind → Option Machine) (ks : List DaemonKind) (i : ℕ) (k : DaemonKind) → slice_get ks i ≡ Some k → get_or (map f ks) i None ≡ f k
of_map f [] i k e = absurd (cc e)
of_map f (x ∷ ks) zero k e =
    let same : x ≡ k = cc e in
    ap f same
of_map f (x ∷ ks) (suc i) k e = of_map f ks i k e

in_map : (f : DaemonKind → Option Machine) (ks : List DaemonKind) (i : ℕ) (m : Machine) → get_or (map f ks) i None ≡ Some m → (k : DaemonKind) × (slice_get ks i ≡ Some k) × (f k ≡ Some m)
in_map f [] i m e = absurd (cc e)
in_map f (x ∷ ks) zero m e = (x, refl, e)
in_map f (x ∷ ks) (suc i) m e = in_map f ks i m e

pub machine_is : (files : Files) (l : Loaded) → IsLoaded files l → (d : ℕ) (names : List (List ℕ)) → kind_of l.scenario d ≡ Some (Smc names) → machine_at l d ≡ Some (machine_of files l.scenario names)
machine_is files l is zero names e = absurd (cc e)
machine_is files l is (suc i) names e = ap (λ (ms : List (Option Machine)). get_or ms i None) is.machines ∙ of_map (machine_for files l.scenario) l.scenario.daemons i (Smc names) e

-- a daemon with this machine
pub record HasMachine (files : Files) (s : Scenario) (d : ℕ) (m : Machine) : Type 0 where
  pub names : List (List ℕ)
  pub kind : kind_of s d ≡ Some (Smc names)
  pub is : machine_of files s names ≡ m

pub has_names : (files : Files) (l : Loaded) → IsLoaded files l → (d : ℕ) (m : Machine) → machine_at l d ≡ Some m → HasMachine files l.scenario d m
has_names files l is zero m e = absurd (cc e)
has_names files l is (suc i) m e =
    let k = in_map (machine_for files l.scenario) l.scenario.daemons i m (sym (ap (λ (ms : List (Option Machine)). get_or ms i None) is.machines) ∙ e) in
    by k.0 k.1 k.2
  where
    by : (k : DaemonKind) → slice_get l.scenario.daemons i ≡ Some k → machine_for files l.scenario k ≡ Some m → HasMachine files l.scenario (suc i) m
    by (Smc names) at f = record { names = names; kind = at; is = cc f }
    by Plain at f = absurd (cc f)
    by Admin at f = absurd (cc f)
