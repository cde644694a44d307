use Rattle.std.proofs.Common.{◌≡◌, Some, get_or, rules, sym, ap, ◌∙◌}
use Rattle.std.proofs.lemmas.List.{get_or_default}
use Rattle.std.proofs.lemmas.List.Sorted.{answers_always}
use Rattle.mr_fates.specs.declared.lane.Place.{Place}
use Rattle.mr_fates.specs.Lanes.{PlaceList, no_place, line_in}
use Rattle.mr_fates.proofs.Searching.{searched}
use Rattle.mr_fates.proofs.lane.LaneLines.line_of.Goals as goal

pub returns-in-Ok-clause-line : goal.returns-in-Ok-clause-line
returns-in-Ok-clause-line c =
    let items = c.self.inside.places.items in
    let facts = c.binary_search_by_key.ensures in
    let by_key = facts.position (λ place. place.index) (answers_always _ _ _ (λ f a r g called. search rules)) in
    let ends = rw (c.in-Ok.is, c.deref.ensures.value) at (searched c.deref.result.now (rw c.deref.ensures.value c.self.invariant.0) c.args.index c.binary_search_by_key.result facts.bound by_key) in
    let within = rw c.deref.ensures.value at c.in-Ok.ensures.bound in
    let read = get_or_default items c.in-Ok.at c.index.result.now no_place within in
    let is : c.index.result.now ≡ get_or items c.in-Ok.at no_place = c.index.ensures ∙ read in
    ap (λ (p : Place). Some p.line) is ∙ sym ends.found ∙ ap (λ (l : PlaceList). line_in l.places c.args.index) c.self.view_is

pub returns-in-Err-clause-line : goal.returns-in-Err-clause-line
returns-in-Err-clause-line c =
    let facts = c.binary_search_by_key.ensures in
    let by_key = facts.position (λ place. place.index) (answers_always _ _ _ (λ f a r g called. search rules)) in
    let ends = rw (c.in-Err.is, c.deref.ensures.value) at (searched c.deref.result.now (rw c.deref.ensures.value c.self.invariant.0) c.args.index c.binary_search_by_key.result facts.bound by_key) in
    sym ends.absent ∙ ap (λ (l : PlaceList). line_in l.places c.args.index) c.self.view_is
