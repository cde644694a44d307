use Rattle.std.proofs.Common.{◌≡◌, ◌++◌, drop, map}
use Rattle.mr_kernel_rows.specs.Late.{good}
use Rattle.mr_kernel_rows.proofs.late.make_calls.Given as goal

abbrev pub invariant-loop-request : goal.invariant-loop-request
invariant-loop-request l =
    (l.kernel.limits ≡ l.fn.kernel.limits)
    × (l.kernel.history ++ map good (drop l.request-index l.requests)
    ≡ l.fn.kernel.history ++ map good l.fn.requests)
