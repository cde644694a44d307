use Rattle.std.proofs.Common.{◌≡◌, ◌∙◌, ◌-◌, ℕ, List, true, ap, sym, subst, rules, arith}
use Rattle.mr_ip.specs.Sums.{lowered}
use Rattle.mr_base.specs.declared.head.Head.{Head}
use Rattle.mr_base.specs.Heads.{is_head, ones_sum, sent}
use Rattle.mr_ip.proofs.SentHeads.{accepted, sent_is_head}
use Rattle.mr_ip.proofs.sending.sent_head.Goals as goal

pub sent_bytes-requires-clause-enough : goal.sent_bytes-requires-clause-enough
sent_bytes-requires-clause-enough c =
    let h = c.args.head.now in
    let same : c.as_slice.result.now ≡ h.bytes = search rules in
    let a = accepted h.bytes h.length h.ttl h.src.0 h.dst.0 h.accepted in
    rw same (omega (arith, a.enough))

pub sent_bytes-requires-clause-ttl : goal.sent_bytes-requires-clause-ttl
sent_bytes-requires-clause-ttl c =
    let h = c.args.head.now in
    let same : c.as_slice.result.now ≡ h.bytes = search rules in
    let a = accepted h.bytes h.length h.ttl h.src.0 h.dst.0 h.accepted in
    rw same (omega (arith, a.hops, c.requires))

pub sent_bytes-requires-clause-version : goal.sent_bytes-requires-clause-version
sent_bytes-requires-clause-version c =
    let h = c.args.head.now in
    let same : c.as_slice.result.now ≡ h.bytes = search rules in
    let a = accepted h.bytes h.length h.ttl h.src.0 h.dst.0 h.accepted in
    rw same a.version

pub sent_bytes-requires-clause-sum : goal.sent_bytes-requires-clause-sum
sent_bytes-requires-clause-sum c =
    let h = c.args.head.now in
    let same : c.as_slice.result.now ≡ h.bytes = search rules in
    let a = accepted h.bytes h.length h.ttl h.src.0 h.dst.0 h.accepted in
    rw same a.sum

pub invariant_of-result : goal.invariant_of-result
invariant_of-result c =
    let h = c.args.head.now in
    let same : c.as_slice.result.now ≡ h.bytes = search rules in
    let raised = c.sent_bytes.ensures.raised ∙ ap lowered same in
    let sum = ap (ones_sum 0) (sym raised) ∙ c.sent_bytes.ensures.sum in
    let is = subst (λ (bs : List ℕ). is_head bs h.length (h.ttl - 1) h.src.0 h.dst.0 ≡ true) (sym raised)
    (sent_is_head h.bytes h.length h.ttl h.src.0 h.dst.0 h.accepted sum) in
    record {
      accepted = subst (λ (x : Head). is_head c.sent_bytes.result x.length (x.ttl - 1) x.src.0 x.dst.0 ≡ true) (sym c.head.view_is) is;
    }

pub returns-clause-bytes : goal.returns-clause-bytes
returns-clause-bytes c =
    let same : c.as_slice.result.now ≡ c.args.head.now.bytes = search rules in
    c.sent_bytes.ensures.from_scratch ∙ ap sent same
