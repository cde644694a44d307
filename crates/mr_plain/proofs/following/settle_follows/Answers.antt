use Rattle.std.proofs.Common.{ℕ, sym, subst, arith}
use Rattle.mr_plain.specs.Following.{IndexesRise}
use Rattle.mr_plain.proofs.following.settle_follows.Goals as goal

pub returns-in-Some : goal.returns-in-Some
returns-in-Some c = λ limits g past.
    let l = c.in-Some.ensures.some limits g past in (
      λ yes.
          let f = c.lane_settles.ensures.0 yes in
          record {
            lane_is = l.0;
            some = f.0;
            most = f.1;
            room = omega (arith, l.1.left, f.2);
            rise = subst (λ (n : ℕ). IndexesRise n c.args.records.now) l.1.last f.3;
          },
      λ follows. c.lane_settles.ensures.1 (
        follows.some,
        follows.most,
        omega (arith, l.1.left, follows.room),
        subst (λ (n : ℕ). IndexesRise n c.args.records.now) (sym l.1.last) follows.rise,
      ),
    )
