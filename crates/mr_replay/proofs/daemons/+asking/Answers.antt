use Rattle.std.proofs.Common.{◌≡◌, ◌+◌, ◌++◌, ◌∷◌, [], ap, arith, length}
use Rattle.std.proofs.lemmas.List.{length-append}
use denote.Exit.{no}
use denote.Param.{param}
use denote.Param.Send.{arg_send, param_send}
use Rattle.mr_replay.proofs.Forking.{turn_send}
use Rattle.mr_replay.proofs.Taking.{all_turned, first_numbered, first_ready, first_suit, last_numbered, last_ready, last_suit, none_turned}
use Rattle.mr_replay.proofs.daemons.+asking.Goals as goal

pub returns-in_default-clause-turns : goal.returns-in_default-clause-turns
returns-in_default-clause-turns g t c =
    none_turned _ _ c.args.daemons.items c.pop.new.self.items c.args.machines.items (omega (arith, c.args.daemons.ok, c.in_default.ensures.cases.0)) (omega (arith, c.pop.new.self.ok, c.in_default.ensures.cases.1))

pub join-last-requires-send-F : goal.join-last-requires-send-F
join-last-requires-send-F g t c κs within =
    param_send 1 _ (arg_send _ no _ (turn_send _ _ _ _ _ _ _ (param 0 g.row.B) (param 1 g.row.C) (param 2 g.row.R) g.B.BookName g.C.RunName
    c.requires.crosses.0 c.requires.crosses.1 c.requires.crosses.3 c.requires.crosses.2 c.requires.crosses.4))

pub join-last-requires-after_bounds : goal.join-last-requires-after_bounds
join-last-requires-after_bounds g t c κs within =
    let all = c.args.daemons.items in
    let ds = c.pop.new.self.items in
    let d = c.in-Some.daemon in
    let mall = c.args.machines.items in
    let ms = c.pop-2.new.self.items in
    let m = c.in-Some-pop.machine in
    let is : all ≡ ds ++ d ∷ [] = c.in-Some.ensures.items in
    let mis : mall ≡ ms ++ m ∷ [] = c.in-Some-pop.ensures.items in
    let r = first_ready all ds d mall ms m is mis c.requires.ready in
    let here : c.len.result ≡ length ds = omega (arith, c.len.ensures, c.pop.new.self.ok) in
    let number : c.len.result + 1 ≡ length ds + 1 = ap (λ n. n + 1) here in
    let place : c.len.result + 1 ≡ length ms + 1 = omega (arith, here, r.many) in
    let x = c.requires.crosses in (
      (last_numbered all ds d (c.len.result + 1) is number c.requires.numbers, last_ready all ds d mall ms m is mis c.requires.ready, last_suit c.args.script.now mall ms m (c.len.result + 1) mis place c.requires.suit),
      (
        omega (arith, c.decreases, ap length is, length-append ds (d ∷ [])),
        (
          (λ a i. i),
          (
            (λ a i. i),
            (
              (λ a i. i),
              (
                (x.0, x.1, x.2, x.3, x.4, (omega (arith, c.requires.few, c.in-Some.ensures.cases)), first_numbered all ds d is c.requires.numbers, r, first_suit c.args.script.now mall ms m mis c.requires.suit),
                (x.1, x.3, x.2, x.4, x.0),
              ),
            ),
          ),
        ),
      ),
    )

pub returns-clause-turns : goal.returns-clause-turns
returns-clause-turns g t c =
    let last = c.join-last.ensures.first in
    let others = c.join-last.ensures.second in
    let number : c.len.result + 1 ≡ length c.pop.new.self.items + 1 = omega (arith, c.len.ensures, c.pop.new.self.ok) in
    all_turned g.C.RunName.limits c.args.script.now _ _ c.with_last.result.ended
    c.args.daemons.items c.pop.new.self.items _ c.with_last.result.daemons.items
    c.args.machines.items c.pop-2.new.self.items _ c.with_last.result.machines.items
    c.in-Some.daemon _ c.in-Some-pop.machine _ (c.len.result + 1)
    c.in-Some.ensures.items c.in-Some-pop.ensures.items c.with_last.ensures.daemons c.with_last.ensures.machines c.with_last.ensures.ended
    number c.requires.ready others.0 last
