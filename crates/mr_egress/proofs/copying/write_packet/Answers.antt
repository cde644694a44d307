use Rattle.std.proofs.Common.{◌∙◌, ◌++◌, ap, sym, List, ℕ}
use Rattle.mr_base.specs.Heads.{sent}
use Rattle.mr_egress.specs.Files.{each_way}
use Rattle.mr_egress.proofs.CopiesWritten.{packet_at, record_is, not_sent, whole_parts}
use Rattle.mr_egress.proofs.copying.write_packet.Goals as goal

pub returns-then-packet-lt2 : goal.returns-then-packet-lt2
returns-then-packet-lt2 c =
    let p = packet_at _ _ _ c.args.place c.requires c.facts.ensures c.packet-packet.ensures in
    rw p.is (sym (not_sent p.due.bytes c.args.mask _ c.packet-packet.result.head.ttl p.packet.head.ttl c.if-packet-lt2.true))

pub write_all-requires : goal.write_all-requires
write_all-requires c =
    let p = packet_at _ _ _ c.args.place c.requires c.facts.ensures c.packet-packet.ensures in
    whole_parts p.due.bytes _ _ _ p.accepted
    (c.bytes_of.ensures ∙ c.sent_head-head.ensures.bytes ∙ ap (λ (bs : List ℕ). sent bs) p.packet.head.bytes)
    (rw p.is at c.body.ensures) (c.sent_head-head.ensures.length ∙ p.packet.head.total)

pub returns : goal.returns
returns c =
    let p = packet_at _ _ _ c.args.place c.requires c.facts.ensures c.packet-packet.ensures in
    rw p.is (c.in_ok-write_all.ensures ∙ ap (λ bs. c.args.out.now.items ++ each_way c.args.mask bs)
    (record_is p.due.bytes _ _ _ c.packet-packet.result.head.ttl p.packet.head.ttl c.if-packet-lt2.false p.accepted
    (c.bytes_of.ensures ∙ c.sent_head-head.ensures.bytes ∙ ap (λ (bs : List ℕ). sent bs) p.packet.head.bytes)
    (rw p.is at c.body.ensures) (c.sent_head-head.ensures.length ∙ p.packet.head.total)))
