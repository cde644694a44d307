-- A flush walks the entries by their numbers, from the highest down.
use Rattle.std.proofs.Common.{◌≡◌, ◌∙◌, ap, refl, sym, ℕ, ◌<◌, ◌||◌, Bool, true, false, not}
use Rattle.std.proofs.Common.{nat_lt, if◌then◌else◌, Option, Some, None, List, [], ◌∷◌, find}
use Rattle.std.proofs.Common.{filter, arith}
use Rattle.std.proofs.lemmas.Grind.{common_steps}
use Rattle.std.specs.List.{list_any}
use Rattle.mr_base.specs.declared.route.Route.{Route}
use Rattle.mr_model.specs.Messages.{Attempt}
use Rattle.mr_model.specs.RouteList.{has_number, remove_first, routes_left}
use Rattle.mr_mfc.specs.Caches.{is_above, IsFalling}
use Rattle.mr_mfc.proofs.Falling.{above_more}
use Rattle.mr_history.specs.Journals.{JournalValue, remove_number}
use Rattle.mr_history.specs.Numbers.{numbers_of, without_value}
use Rattle.mr_kernel.specs.Holding.{flushes, numbers}
use Rattle.mr_kernel.specs.Standing.{moments}
use Rattle.mr_kernel.proofs.ChangesRoutes.{numbers_without, kept_without, moments_without}

-- the entry that the walk meets next
abbrev pub next_below : ℕ → List Route → Option Route
next_below below rs = find (λ r. nat_lt r.number below) rs

-- the entries that are left once the walk has come down to a number
abbrev pub kept_from : Bool → Bool → ℕ → List Route → List Route
kept_from loose fixed below rs =
    filter (λ r. nat_lt r.number below || not (flushes loose fixed r.fixed)) rs

-- at first all are left, at the end those that the flush leaves
pub walk_all : (loose fixed : Bool) (below : ℕ) (rs : List Route) → is_above below rs ≡ true
    → kept_from loose fixed below rs ≡ rs
walk_all loose fixed below [] above = refl
walk_all loose fixed below (r ∷ rs) above =
    grind (arith, common_steps, walk_all loose fixed below rs)

pub walk_end : (loose fixed : Bool) (below : ℕ) (rs : List Route)
    → next_below below rs ≡ None → kept_from loose fixed below rs ≡ routes_left loose fixed rs
walk_end loose fixed below [] none = refl
walk_end loose fixed below (r ∷ rs) none =
    grind (arith, common_steps, walk_end loose fixed below rs)

-- the next entry is below, and is still there
pub walk_less : (below : ℕ) (rs : List Route) (r : Route) → next_below below rs ≡ Some r
    → r.number < below
walk_less below [] r is = absurd cc
walk_less below (x ∷ rs) r is = grind (arith, common_steps, walk_less below rs r)

pub walk_there : (loose fixed : Bool) (below : ℕ) (rs : List Route) (r : Route)
    → next_below below rs ≡ Some r
    → list_any (has_number r.number) (kept_from loose fixed below rs) ≡ true
walk_there loose fixed below [] r is = absurd cc
walk_there loose fixed below (x ∷ rs) r is =
    grind (arith, common_steps, walk_there loose fixed below rs r)

-- behind it that entry alone has gone, where the flush removes it
pub walk_step : (loose fixed : Bool) (below : ℕ) (rs : List Route) (r : Route)
    → IsFalling rs → next_below below rs ≡ Some r
    → kept_from loose fixed r.number rs
    ≡ (if flushes loose fixed r.fixed
    then remove_first (has_number r.number) (kept_from loose fixed below rs)
    else kept_from loose fixed below rs)
walk_step loose fixed below [] r falls is = absurd cc
walk_step loose fixed below (x ∷ rs) r falls is =
    grind (
      arith,
      common_steps,
      walk_step loose fixed below rs r falls.1,
      walk_less below rs r,
      walk_all loose fixed x.number rs,
      walk_all loose fixed below rs,
      above_more x.number below rs,
      falls.0,
    )

numbers_by : (b : Bool) (n : ℕ) (rs : List Route)
    → numbers (if b then remove_first (has_number n) rs else rs)
    ≡ (if b then remove_number (numbers rs) n else numbers rs)
numbers_by true n rs = sym (numbers_without n rs)
numbers_by false n rs = refl

kept_by : (b : Bool) (n : ℕ) (ps : List (ℕ × Option ℕ))
    → numbers_of (if b then without_value ps n else ps)
    ≡ (if b then remove_number (numbers_of ps) n else numbers_of ps)
kept_by true n ps = kept_without n ps
kept_by false n ps = refl

moments_by : (made : List Attempt) (b : Bool) (n : ℕ) (rs : List Route)
    → (if b then without_value (moments made rs) n else moments made rs)
    ≡ moments made (if b then remove_first (has_number n) rs else rs)
moments_by made true n rs = moments_without made n rs
moments_by made false n rs = refl

-- the numbers that are left behind an entry
numbers_step : (loose fixed : Bool) (below : ℕ) (rs : List Route) (r : Route)
    → IsFalling rs → next_below below rs ≡ Some r
    → numbers (kept_from loose fixed r.number rs)
    ≡ (if flushes loose fixed r.fixed
    then remove_number (numbers (kept_from loose fixed below rs)) r.number
    else numbers (kept_from loose fixed below rs))
numbers_step loose fixed below rs r falls is =
    ap (λ (left : List Route). numbers left) (walk_step loose fixed below rs r falls is)
    ∙ numbers_by (flushes loose fixed r.fixed) r.number (kept_from loose fixed below rs)

-- what the journal keeps at the head of the walk, and behind an entry
pub journal_all : (loose fixed : Bool) (below : ℕ) (rs : List Route) (j : JournalValue)
    → is_above below rs ≡ true → j.routes ≡ numbers rs
    → j ≡ record j { routes = numbers (kept_from loose fixed below rs) }
journal_all loose fixed below rs j above same =
    ap (λ (ns : List ℕ). record j { routes = ns })
    (same ∙ ap (λ (left : List Route). numbers left) (sym (walk_all loose fixed below rs above)))

pub journal_step : (loose fixed : Bool) (below : ℕ) (rs : List Route) (r : Route)
    (old j new : JournalValue) → IsFalling rs → next_below below rs ≡ Some r
    → j ≡ record old { routes = numbers (kept_from loose fixed below rs) }
    → new ≡ record j {
      routes = if flushes loose fixed r.fixed
          then remove_number j.routes r.number else j.routes;
    }
    → new ≡ record old { routes = numbers (kept_from loose fixed r.number rs) }
journal_step loose fixed below rs r old j new falls is so step =
    let turn = numbers_step loose fixed below rs r falls is in
    step
    ∙ ap (λ (k : JournalValue). record k {
      routes = if flushes loose fixed r.fixed
          then remove_number k.routes r.number else k.routes;
    }) so
    ∙ ap (λ (ns : List ℕ). record old { routes = ns }) (sym turn)

-- which numbers have a moment behind an entry
pub kept_step : (loose fixed : Bool) (below : ℕ) (rs : List Route) (r : Route)
    (ps new : List (ℕ × Option ℕ)) → IsFalling rs → next_below below rs ≡ Some r
    → numbers_of ps ≡ numbers (kept_from loose fixed below rs)
    → new ≡ (if flushes loose fixed r.fixed then without_value ps r.number else ps)
    → numbers_of new ≡ numbers (kept_from loose fixed r.number rs)
kept_step loose fixed below rs r ps new falls is so step =
    let turn = numbers_step loose fixed below rs r falls is in
    let goes : Bool = flushes loose fixed r.fixed in
    ap (λ (qs : List (ℕ × Option ℕ)). numbers_of qs) step
    ∙ kept_by goes r.number ps
    ∙ ap (λ (ns : List ℕ). if goes then remove_number ns r.number else ns) so
    ∙ sym turn

-- and which moments
pub moments_step : (made : List Attempt) (loose fixed : Bool) (below : ℕ) (rs : List Route)
    (r : Route) (ps new : List (ℕ × Option ℕ)) → IsFalling rs → next_below below rs ≡ Some r
    → ps ≡ moments made (kept_from loose fixed below rs)
    → new ≡ (if flushes loose fixed r.fixed then without_value ps r.number else ps)
    → new ≡ moments made (kept_from loose fixed r.number rs)
moments_step made loose fixed below rs r ps new falls is so step =
    let goes : Bool = flushes loose fixed r.fixed in
    step
    ∙ ap (λ (qs : List (ℕ × Option ℕ)). if goes then without_value qs r.number else qs) so
    ∙ moments_by made goes r.number (kept_from loose fixed below rs)
    ∙ ap (λ (left : List Route). moments made left)
    (sym (walk_step loose fixed below rs r falls is))
