-- What a first match says of a list of entries, and that parents stay bytes.
use Rattle.std.proofs.Common.{◌≡◌, ℕ, ◌<◌, Bool, true, false, not, is_some, if◌then◌else◌, Option, Some, None, List, [], ◌∷◌, find, refl, ap, ◌∙◌, arith}
use Rattle.std.proofs.lemmas.Grind.{common_steps}
use Rattle.std.specs.List.{list_any, AllByRecursion}
use Rattle.mr_base.specs.declared.numbers.Addr.{Addr}
use Rattle.mr_base.specs.declared.route.Route.{Route}
use Rattle.mr_model.specs.RouteList.{is_entry, is_named, changed_to, change_first, remove_first, routes_left}

-- an entry passes a test where one is found
pub any_found : (test : Route → Bool) (rs : List Route) → list_any test rs ≡ is_some (find test rs)
any_found test [] = refl
any_found test (r ∷ rs) = grind (arith, common_steps, any_found test rs)

-- none passes where none is found
pub none_there : (test : Route → Bool) (rs : List Route) → find test rs ≡ None
    → list_any test rs ≡ false
none_there test rs none = any_found test rs ∙ ap (λ (o : Option Route). is_some o) none

-- no parent names what the origin and the group name
pub named_entry : (src dst : Addr) (rs : List Route) →
    find (is_named src dst None) rs ≡ find (is_entry src dst) rs
named_entry src dst [] = refl
named_entry src dst (r ∷ rs) = grind (arith, common_steps, named_entry src dst rs)

-- every parent is a byte
abbrev pub ParentsFit : List Route → Type 0
ParentsFit rs = AllByRecursion (λ r. r.parent < 256) rs

-- so a greater one names no entry
pub no_great_parent : (src dst : Addr) (parent : ℕ) (rs : List Route) → 255 < parent → ParentsFit rs
    → list_any (is_named src dst (Some parent)) rs ≡ false
no_great_parent src dst parent [] great fit = refl
no_great_parent src dst parent (r ∷ rs) great fit =
    grind (arith, common_steps, no_great_parent src dst parent rs great fit.1)

pub parents_changed : (test : Route → Bool) (parent : ℕ) (ttls : List ℕ) (fixed : Bool)
    (rs : List Route) → parent < 256 → ParentsFit rs
    → ParentsFit (change_first test (changed_to parent ttls fixed) rs)
parents_changed test parent ttls fixed [] small fit = tt
parents_changed test parent ttls fixed (r ∷ rs) small fit =
    by (test r) (parents_changed test parent ttls fixed rs small fit.1)
  where
    by : (b : Bool) → ParentsFit (change_first test (changed_to parent ttls fixed) rs)
        → ParentsFit (if b then changed_to parent ttls fixed r ∷ rs
        else r ∷ change_first test (changed_to parent ttls fixed) rs)
    by true more = (small, fit.1)
    by false more = (fit.0, more)

pub parents_removed : (test : Route → Bool) (rs : List Route) → ParentsFit rs
    → ParentsFit (remove_first test rs)
parents_removed test [] fit = tt
parents_removed test (r ∷ rs) fit = by (test r) (parents_removed test rs fit.1)
  where
    by : (b : Bool) → ParentsFit (remove_first test rs)
        → ParentsFit (if b then rs else r ∷ remove_first test rs)
    by true more = fit.1
    by false more = (fit.0, more)

pub parents_left : (loose fixed : Bool) (rs : List Route) → ParentsFit rs
    → ParentsFit (routes_left loose fixed rs)
parents_left loose fixed [] fit = tt
parents_left loose fixed (r ∷ rs) fit =
    by (if r.fixed then fixed else loose) (parents_left loose fixed rs fit.1)
  where
    by : (b : Bool) → ParentsFit (routes_left loose fixed rs)
        → ParentsFit (if not b then r ∷ routes_left loose fixed rs else routes_left loose fixed rs)
    by true more = more
    by false more = (fit.0, more)
