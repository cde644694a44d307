use Rattle.std.proofs.Common.{◌≡◌, ◌+◌, [], ℕ, List, map, take, sum, sum_by, slice_index_or, sym, ap, ◌∙◌, subst, arith, refl, take_all}
use Rattle.std.specs.List.{AllByRecursion}
use Rattle.std.proofs.lemmas.List.Sums.{sum_by_more, sum_by-take-le, sum-map}
use Rattle.std.specs.Vec.{vec_capacity}
use Rattle.mr_model.specs.declared.ending.FateLine.{FateLine}
use Rattle.mr_fates.specs.Keeping.{IsKept}
use Rattle.mr_fates.specs.Lanes.{PlaceList}
use Rattle.mr_fates.specs.Lines.{FateList}
use Rattle.mr_fates.proofs.Kept.{kept_fresh, all_push, rooms_push}
use Rattle.mr_fates.proofs.fates.Fates.make.Goals as goal

pub loop-room-init : goal.loop-room-init
loop-room-init c = (
  refl,
  ap (λ (ls : List PlaceList). map (λ l. l.room) ls) c.in_ok-lanes.ensures.items,
  subst (λ (ls : List PlaceList). AllByRecursion (λ l. l.places ≡ []) ls) (sym c.in_ok-lanes.ensures.items) tt,
)

more : (c : goal.In_ok-push)
    → c.loop-room.total + slice_index_or c.args.packets.now c.loop-room.room-index 0 ≡ sum (take (c.loop-room.room-index + 1) c.args.packets.now)
more c =
    let step = sum_by_more (λ n. n) c.args.packets.now c.loop-room.room-index 0 c.loop-room-test.true in
    omega (arith, step, c.loop-room.invariant.0)

pub overflow_add-total : goal.overflow_add-total
overflow_add-total c =
    let all = more c in
    let within = sum_by-take-le (λ n. n) c.args.packets.now (c.loop-room.room-index + 1) in
    omega (arith, all, within, c.requires.most)

pub loop-room-preserved : goal.loop-room-preserved
loop-room-preserved c = (
  more c,
  rooms_push c.args.packets.now c.loop-room.room-index c.loop-room.lanes.items c.push.new.self.items c.in_ok-with_room.field-0 c.loop-room-test.true
      c.in_ok-push.ensures.items c.in_ok-with_room.ensures c.loop-room.invariant.1,
  subst (λ (ls : List PlaceList). AllByRecursion (λ l. l.places ≡ []) ls) (sym c.in_ok-push.ensures.items)
      (all_push (λ l. l.places ≡ []) c.loop-room.lanes.items c.in_ok-with_room.field-0 c.loop-room.invariant.2
      (ap (λ (l : PlaceList). l.places) c.in_ok-with_room.ensures)),
)

pub invariant_of-result : goal.invariant_of-result
invariant_of-result c =
    let lanes = c.loop-room.lanes.items in
    let i = c.loop-room.room-index in
    let packets = c.args.packets.now in
    let rooms : sum_by (λ l. l.room) lanes ≡ sum (take i packets) =
    sym (sum-map (λ (l : PlaceList). l.room) lanes) ∙ ap sum c.loop-room.invariant.1 in
    let within = sum_by-take-le (λ n. n) packets i in
    subst (λ (ls : List FateLine). IsKept ls lanes (vec_capacity c.in_ok-with_capacity.field-0)) (sym c.in_ok-with_capacity.ensures.items)
    (kept_fresh lanes (vec_capacity c.in_ok-with_capacity.field-0) c.loop-room.invariant.2 (omega (arith, rooms, within, c.requires.most))
    (omega (arith, rooms, c.loop-room.invariant.0, c.in_ok-with_capacity.ensures.capacity)))

pub returns : goal.returns
returns c =
    let all : take c.loop-room.room-index c.args.packets.now ≡ c.args.packets.now = take_all c.loop-room.room-index c.args.packets.now (omega (arith, c.loop-room-test.false)) in
    let value : List FateLine → List ℕ → FateList = λ ls ns. record { lines = ls; packets = ns } in
    ap (λ (ls : List FateLine). value ls (map (λ l. l.room) c.loop-room.lanes.items)) c.in_ok-with_capacity.ensures.items
    ∙ ap (λ (ns : List ℕ). value [] ns) (c.loop-room.invariant.1 ∙ all)
