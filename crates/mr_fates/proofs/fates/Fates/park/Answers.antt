use Rattle.std.proofs.Common.{◌≡◌, ◌-◌, ◌++◌, ◌∷◌, [], ℕ, List, length, map, slice_set, sym, ap, ◌∙◌, subst, arith}
use Rattle.std.specs.Vec.{vec_capacity}
use Rattle.mr_model.specs.declared.ending.FateLine.{FateLine}
use Rattle.mr_fates.specs.Keeping.{IsKept}
use Rattle.mr_fates.specs.Lanes.{PlaceList}
use Rattle.mr_fates.specs.Lines.{FateList, waiting_line}
use Rattle.mr_fates.proofs.Kept.{most_lines, parking, with_place, kept_push, kept_within, rooms_set}
use Rattle.mr_fates.proofs.fates.Fates.park.Goals as goal

pub overflow_cast-line : goal.overflow_cast-line
overflow_cast-line c =
    let most = most_lines c.self.inside.lines.items c.self.inside.lanes.items (vec_capacity c.self.inside.lines) c.self.invariant in
    rw c.as_slice.ensures.value (omega (arith, most))

pub push-requires-clause-room : goal.push-requires-clause-room
push-requires-clause-room c =
    (parking c.self.inside.lines.items c.self.inside.lanes.items (vec_capacity c.self.inside.lines) c.args.self.now c.args.lane c.args.index c.index_mut.result.now
    c.self.view_is c.self.invariant c.requires.first c.requires.last c.requires.next c.requires.room c.index_mut.ensures.value).below

pub push-requires-clause-above : goal.push-requires-clause-above
push-requires-clause-above c =
    (parking c.self.inside.lines.items c.self.inside.lanes.items (vec_capacity c.self.inside.lines) c.args.self.now c.args.lane c.args.index c.index_mut.result.now
    c.self.view_is c.self.invariant c.requires.first c.requires.last c.requires.next c.requires.room c.index_mut.ensures.value).above

pub unreachable-requires : goal.unreachable-requires
unreachable-requires c =
    let p = parking c.self.inside.lines.items c.self.inside.lanes.items (vec_capacity c.self.inside.lines) c.args.self.now c.args.lane c.args.index c.index_mut.result.now
    c.self.view_is c.self.invariant c.requires.first c.requires.last c.requires.next c.requires.room c.index_mut.ensures.value in
    let full = c.in-Err.ensures.succeeds (omega (arith, p.less, c.self.invariant.has_room, c.as_slice.ensures.len, ap length c.as_slice.ensures.value)) in
    cc

-- the lane, with one place more
placed : (c : goal.In-Ok)
    → c.push.new.self ≡ with_place c.index_mut.result.now c.args.index (length c.self.inside.lines.items)
placed c = c.push.ensures ∙ ap (λ (ls : List FateLine). with_place c.index_mut.result.now c.args.index (length ls)) c.as_slice.ensures.value

pub invariant_of-self : goal.invariant_of-self
invariant_of-self c =
    let lines : List FateLine = c.self.inside.lines.items in
    let lanes : List PlaceList = c.self.inside.lanes.items in
    let p = parking c.self.inside.lines.items c.self.inside.lanes.items (vec_capacity c.self.inside.lines) c.args.self.now c.args.lane c.args.index c.index_mut.result.now
    c.self.view_is c.self.invariant c.requires.first c.requires.last c.requires.next c.requires.room c.index_mut.ensures.value in
    let kept : IsKept (lines ++ waiting_line c.args.lane c.args.index ∷ []) (slice_set lanes (c.args.lane.0 - 1) (with_place c.index_mut.result.now c.args.index (length lines))) (vec_capacity c.self.inside.lines) =
    kept_push lines lanes (vec_capacity c.self.inside.lines) (c.args.lane.0 - 1) c.args.lane c.args.index c.index_mut.result.now p.number p.within p.there p.below c.self.invariant in
    subst (λ (ls : List FateLine). IsKept ls (slice_set lanes (c.args.lane.0 - 1) c.push.new.self) (vec_capacity c.push-2.new.self)) (sym c.in-Ok.ensures.items)
    (subst (λ (d : PlaceList). IsKept (lines ++ waiting_line c.args.lane c.args.index ∷ []) (slice_set lanes (c.args.lane.0 - 1) d) (vec_capacity c.push-2.new.self)) (sym (placed c))
    (kept_within _ _ (vec_capacity c.self.inside.lines) (vec_capacity c.push-2.new.self) c.in-Ok.ensures.capacity kept))

pub returns : goal.returns
returns c =
    let lanes : List PlaceList = c.self.inside.lanes.items in
    let p = parking c.self.inside.lines.items c.self.inside.lanes.items (vec_capacity c.self.inside.lines) c.args.self.now c.args.lane c.args.index c.index_mut.result.now
    c.self.view_is c.self.invariant c.requires.first c.requires.last c.requires.next c.requires.room c.index_mut.ensures.value in
    let value : List FateLine → List ℕ → FateList = λ ls ns. record { lines = ls; packets = ns } in
    let rooms : map (λ l. l.room) (slice_set lanes (c.args.lane.0 - 1) c.push.new.self) ≡ map (λ l. l.room) lanes =
    rooms_set lanes (c.args.lane.0 - 1) c.index_mut.result.now c.push.new.self p.there (ap (λ (d : PlaceList). d.room) (placed c)) in
    ap (λ (ls : List FateLine). value ls (map (λ l. l.room) (slice_set lanes (c.args.lane.0 - 1) c.push.new.self))) c.in-Ok.ensures.items
    ∙ ap (λ (ns : List ℕ). value (c.self.inside.lines.items ++ waiting_line c.args.lane c.args.index ∷ []) ns) rooms
    ∙ ap (λ (v : FateList). record v { lines = v.lines ++ waiting_line c.args.lane c.args.index ∷ [] }) c.self.view_is
