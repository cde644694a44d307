use Rattle.std.proofs.Common.{◌≡◌, ◌∙◌, ap, sym, subst, ℕ, List, ◌++◌, OnOk}
use Rattle.std.proofs.lemmas.List.{length-append}
use Rattle.byteorder.specs.Endian.{little_bytes}
use Rattle.mr_pcap.proofs.writing.write_record.Goals as goal

pub returns-clause-written : goal.returns-clause-written
returns-clause-written c =
    let p = c.args.packet.now in
    let rest = c.args.rest.now in
    subst (λ (l : List ℕ). OnOk c.append_three.result (c.append_three.new.out.items ≡ c.args.out.now.items ++ l))
    (ap (λ (head : List ℕ). head ++ (p.bytes.now ++ rest)) c.record_head-head.ensures
    ∙ ap (λ (n : ℕ). (little_bytes 4 p.sec ++ little_bytes 4 p.frac ++ little_bytes 4 n ++ little_bytes 4 p.orig) ++ (p.bytes.now ++ rest))
    (sym (length-append p.bytes.now rest)))
    c.append_three.ensures.written
