use Rattle.std.proofs.Common.{◌≡◌, ◌+◌, ◌<◌, ℕ, List, length, slice_index_or, sym, subst, arith}
use Rattle.mr_fates.specs.Keeping.{StandsAlone, HasNone}
use Rattle.mr_fates.specs.Lanes.{PlaceList, places_from}
use Rattle.mr_fates.specs.Lines.{FateList}
use Rattle.mr_fates.proofs.Kept.{lane_placed, located_none, located_alone}
use Rattle.mr_fates.proofs.fates.Fates.line_of.Goals as goal

pub returns-in_err-line_of-clause-none : goal.returns-in_err-line_of-clause-none
returns-in_err-line_of-clause-none c =
    let lanes : List PlaceList = c.self.inside.lanes.items in
    let i : ℕ = c.in_ok-checked_sub.field-0 in
    let d : PlaceList = c.in_ok-places.places.now in
    let number : c.args.lane.0 ≡ i + 1 = omega (arith, c.in_ok-checked_sub.ensures.0, c.in_ok-checked_sub.ensures.1) in
    let within : i < length lanes = rw (← c.deref.ensures.value) c.in_ok-places.ensures.lookup.3.0 in
    let is : d ≡ slice_index_or lanes i d = rw (← c.deref.ensures.value) c.in_ok-places.ensures.lookup.1 in
    let are : d.places ≡ places_from c.args.lane.0 0 c.self.inside.lines.items = lane_placed c.self.inside.lines.items lanes _ i c.args.lane d number within is c.self.invariant in
    let none : HasNone c.args.lane c.args.index c.self.inside.lines.items =
    located_none c.self.inside.lines.items c.args.lane c.args.index d.places are (sym c.in_err-line_of.ensures.line) in
    rw c.from_residual-in_err-line_of.ensures (subst (λ (v : FateList). HasNone c.args.lane c.args.index v.lines) c.self.view_is none)

pub returns-clause-stands : goal.returns-clause-stands
returns-clause-stands c =
    let lanes : List PlaceList = c.self.inside.lanes.items in
    let i : ℕ = c.in_ok-checked_sub.field-0 in
    let d : PlaceList = c.in_ok-places.places.now in
    let number : c.args.lane.0 ≡ i + 1 = omega (arith, c.in_ok-checked_sub.ensures.0, c.in_ok-checked_sub.ensures.1) in
    let within : i < length lanes = rw (← c.deref.ensures.value) c.in_ok-places.ensures.lookup.3.0 in
    let is : d ≡ slice_index_or lanes i d = rw (← c.deref.ensures.value) c.in_ok-places.ensures.lookup.1 in
    let are : d.places ≡ places_from c.args.lane.0 0 c.self.inside.lines.items = lane_placed c.self.inside.lines.items lanes _ i c.args.lane d number within is c.self.invariant in
    subst (λ (v : FateList). StandsAlone c.args.lane c.args.index v.lines c.in_ok-line_of.field-0) c.self.view_is
    (located_alone c.self.inside.lines.items c.args.lane c.args.index c.in_ok-line_of.field-0 d.places are
    c.in_ok-line_of.ensures.rising (sym c.in_ok-line_of.ensures.line))
