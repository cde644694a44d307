use Rattle.std.proofs.Common.{arith, ◌≡◌, ◌<◌, take, IsTrue, IsNone, false}
use Rattle.std.proofs.lemmas.List.{take_more_set}
use Rattle.mr_model.specs.VifList.{has_vif, register_vif}
use Rattle.mr_vif.proofs.KeepLemmas.{room, vifs_push}
use Rattle.mr_vif.proofs.vifs.Vifs.add.Goals as goal

pub bounds-self-inside-self-inside : goal.bounds-self-inside-self-inside
bounds-self-inside-self-inside c =
    let free : has_vif (take c.self.inside.count c.self.inside.records) c.args.vif.vif ≡ false = rw (← c.self.view_is) at c.requires.free in
    room c.self.inside.records c.self.inside.count c.self.inside.answers c.args.vif (omega arith) (omega arith) c.requires.small free c.self.invariant.2

pub invariant_of-self : goal.invariant_of-self
invariant_of-self c =
    let free : has_vif (take c.self.inside.count c.self.inside.records) c.args.vif.vif ≡ false = rw (← c.self.view_is) at c.requires.free in
    let one : IsTrue c.args.vif.register → IsNone (register_vif (take c.self.inside.count c.self.inside.records)) = rw (← c.self.view_is) at c.requires.register in
    let left : c.self.inside.count < 32
    = room c.self.inside.records c.self.inside.count c.self.inside.answers c.args.vif (omega arith) (omega arith) c.requires.small free c.self.invariant.2 in
    rw (take_more_set c.self.inside.records c.self.inside.count c.args.vif (omega arith)) (
      omega arith,
      vifs_push (take c.self.inside.count c.self.inside.records) c.args.vif c.self.invariant.1 c.requires.small free one,
      c.add.ensures (take c.self.inside.count c.self.inside.records) free one c.self.invariant.2,
    )

pub returns : goal.returns
returns c =
    let free : has_vif (take c.self.inside.count c.self.inside.records) c.args.vif.vif ≡ false = rw (← c.self.view_is) at c.requires.free in
    let left : c.self.inside.count < 32
    = room c.self.inside.records c.self.inside.count c.self.inside.answers c.args.vif (omega arith) (omega arith) c.requires.small free c.self.invariant.2 in
    rw (← c.self.view_is) (take_more_set c.self.inside.records c.self.inside.count c.args.vif (omega arith))
