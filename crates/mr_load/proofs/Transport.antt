-- What lines bring by the traces that are kept is what they bring by the files; and so are the machines.
use Rattle.std.proofs.Common.{◌≡◌, ◌≤◌, ℕ, ◌+◌, ◌==◌, Some, List, [], ◌∷◌, ◌++◌, length, map, flat_map, refl, sym, ap, ◌∙◌, arith}
use Rattle.std.specs.List.{AllByRecursion}
use Rattle.std.specs.Prelude.{if◌then◌else◌}
use Rattle.mr_base.specs.Outside.{Files}
use Rattle.mr_load.specs.Callers.{one_to}
use Rattle.mr_load.specs.Dues.{Due, due_of, dues_by, lane_by}
use Rattle.mr_load.specs.Items.{Content, in_row, numbered, items_by, all_items, contents_of}
use Rattle.mr_load.specs.Loading.{items_in, skip_of, skip_dev}
use Rattle.mr_load.specs.Loads.{IsGiven, IsLoaded}
use Rattle.mr_load.specs.Machines.{machine_for}
use Rattle.mr_load.specs.Made.{packet_of}
use Rattle.mr_load.specs.declared.loading.Loaded.{Loaded}
use Rattle.mr_load.proofs.Rows.{all_append, all_one, items_one}
use Rattle.mr_scenario.specs.Fits.{Fits}
use Rattle.mr_scenario.specs.declared.scenario.DaemonKind.{DaemonKind}
use Rattle.mr_scenario.specs.declared.scenario.DaemonKind.TheVariants.{Plain, Admin, Smc}
use Rattle.mr_scenario.specs.declared.scenario.Given.{Given}
use Rattle.mr_scenario.specs.declared.scenario.Item.{Item}
use Rattle.mr_scenario.specs.declared.scenario.Phase.{Phase}
use Rattle.mr_scenario.specs.declared.scenario.Scenario.{Scenario}
use Rattle.smc_conf.specs.declared.conf.Conf.{Conf}
use Rattle.smc_core.specs.Smc.{first_machine}
use Rattle.smc_daemon.specs.Machines.{confs_in}

abbrev AreSame : (Given → List Content) → (Given → List Content) → List Item → Type 0
AreSame C D is = AllByRecursion (λ i. C i.given ≡ D i.given) is

pub same_numbered : {A : Type 0} (f : Item → ℕ → Content → List A) (C D : Given → List Content) (lane n : ℕ) (is : List Item) → AreSame C D is → numbered f C lane n is ≡ numbered f D lane n is
same_numbered f C D lane n [] a = refl
same_numbered f C D lane n (i ∷ is) a =
    let long : in_row (f i) n (C i.given) ++ numbered f C lane (n + length (C i.given)) is ≡ in_row (f i) n (D i.given) ++ numbered f D lane (n + length (D i.given)) is =
    ap (λ cs. in_row (f i) n cs ++ numbered f C lane (n + length cs) is) a.0
    ∙ ap (λ l. in_row (f i) n (D i.given) ++ l) (same_numbered f C D lane (n + length (D i.given)) is a.1) in
    rw (long, same_numbered f C D lane n is a.1) refl

same_items : (C D : Given → List Content) (lane : ℕ) (is : List Item) → AreSame C D is → items_by C lane is ≡ items_by D lane is
same_items C D lane [] a = refl
same_items C D lane (i ∷ is) a =
    let one : (if i.lane.0 == lane then length (C i.given) else 0) + items_by C lane is ≡ (if i.lane.0 == lane then length (D i.given) else 0) + items_by D lane is =
    rw (a.0, same_items C D lane is a.1) refl in
    items_one C lane i is ∙ one ∙ sym (items_one D lane i is)

pub same_all : (C D : Given → List Content) (is : List Item) → AreSame C D is → all_items C is ≡ all_items D is
same_all C D [] a = refl
same_all C D (i ∷ is) a = omega (arith, all_one C i is, all_one D i is, ap length a.0, same_all C D is a.1)

same_dues : (C D : Given → List Content) (lane k : ℕ) (before : List Item) (ps : List Phase) → AreSame C D before → AllByRecursion (λ p. AreSame C D p.items) ps → dues_by C lane k before ps ≡ dues_by D lane k before ps
same_dues C D lane k before [] b a = refl
same_dues C D lane k before (p ∷ ps) b a =
    let first : numbered (due_of k) C lane (items_by C lane before + 1) p.items ≡ numbered (due_of k) D lane (items_by D lane before + 1) p.items =
    ap (λ (m : ℕ). numbered (due_of k) C lane (m + 1) p.items) (same_items C D lane before b) ∙ same_numbered (due_of k) C D lane (items_by D lane before + 1) p.items a.0 in
    rw (first, same_dues C D lane (k + 1) (before ++ p.items) ps (all_append (λ (i : Item). C i.given ≡ D i.given) before p.items b a.0) a.1) refl

pub in_all : (P : Item → Type 0) (ps : List Phase) → AllByRecursion (λ p. AllByRecursion P p.items) ps → AllByRecursion P (items_in ps)
in_all P [] a = tt
in_all P (p ∷ ps) a = all_append P p.items (items_in ps) a.0 (in_all P ps a.1)

map_same : {A B : Type 0} (f g : A → B) → ((x : A) → f x ≡ g x) → (xs : List A) → map f xs ≡ map g xs
map_same f g e [] = refl
map_same f g e (x ∷ xs) = rw (e x, map_same f g e xs) refl

flat_same : {A B : Type 0} (f g : A → List B) → ((x : A) → f x ≡ g x) → (xs : List A) → flat_map f xs ≡ flat_map g xs
flat_same f g e [] = refl
flat_same f g e (x ∷ xs) = rw (e x, flat_same f g e xs) refl

-- the machines of daemons are the same, where their configurations are

abbrev AreConfs : Files → Files → List (List ℕ) → Type 0
AreConfs has files names = AllByRecursion (λ name. has name ≡ files name) names

abbrev pub AreServed : Files → Files → DaemonKind → Type 0
AreServed has files (Smc names) = AreConfs has files names
AreServed has files Plain = Unit {0}
AreServed has files Admin = Unit {0}

same_confs : (has files : Files) (names : List (List ℕ)) → AreConfs has files names → confs_in has names ≡ confs_in files names
same_confs has files [] a = refl
same_confs has files (n ∷ ns) a = rw (a.0, same_confs has files ns a.1) refl

same_machine : (has files : Files) (s : Scenario) (k : DaemonKind) → AreServed has files k → machine_for has s k ≡ machine_for files s k
same_machine has files s (Smc names) a = ap (λ (confs : List Conf). Some (first_machine (map (λ device. device.name) s.devices) confs)) (same_confs has files names a)
same_machine has files s Plain a = refl
same_machine has files s Admin a = refl

same_machines : (has files : Files) (s : Scenario) (ks : List DaemonKind) → AllByRecursion (AreServed has files) ks → map (machine_for has s) ks ≡ map (machine_for files s) ks
same_machines has files s [] a = refl
same_machines has files s (k ∷ ks) a = rw (same_machine has files s k a.0, same_machines has files s ks a.1) refl

pub given_loaded : (files has : Files) (C : Given → List Content) (l : Loaded) → Fits l.scenario → all_items (contents_of files) (items_in l.scenario.phases) ≤ 1048576
    → AllByRecursion (λ p. AreSame C (contents_of files) p.items) l.scenario.phases → AllByRecursion (AreServed has files) l.scenario.daemons → IsGiven C has l → IsLoaded files l
given_loaded files has C l fits few same served g =
    let D = contents_of files in
    let is = items_in l.scenario.phases in
    let all : AreSame C D is = in_all (λ (i : Item). C i.given ≡ D i.given) l.scenario.phases same in
    record {
      fits = fits;
      items = few;
      limits = g.limits ∙ ap (λ (ps : List ℕ). record l.scenario.limits { packets = ps })
          (map_same (λ lane. length (numbered packet_of C lane 1 is)) (λ lane. length (numbered packet_of D lane 1 is)) (λ lane. ap length (same_numbered packet_of C D lane 1 is all)) (one_to l.scenario.lanes));
      lanes = g.lanes ∙ map_same (lane_by C l.scenario) (lane_by D l.scenario)
          (λ lane. ap (λ (ds : List Due). record { lane = record { 0 = lane }; packets = ds }) (same_dues C D lane 0 [] l.scenario.phases tt same)) (one_to l.scenario.lanes);
      skips = g.skips ∙ flat_same (λ lane. numbered skip_of C lane 1 is) (λ lane. numbered skip_of D lane 1 is) (λ lane. same_numbered skip_of C D lane 1 is all) (one_to l.scenario.lanes);
      skip_devs = g.skip_devs ∙ flat_same (λ lane. numbered skip_dev C lane 1 is) (λ lane. numbered skip_dev D lane 1 is) (λ lane. same_numbered skip_dev C D lane 1 is all) (one_to l.scenario.lanes);
      machines = g.machines ∙ same_machines has files l.scenario l.scenario.daemons served;
    }
