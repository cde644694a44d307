-- Records written one behind another.
use Rattle.std.proofs.Common.{◌≡◌, ℕ, suc, ◌+◌, ◌<◌, ◌∙◌, ap, sym, arith, List, [], ◌++◌, length, drop, map, flat_map, get_or}
use Rattle.std.proofs.lemmas.List.{append-nil, append_assoc}
use Rattle.std.proofs.lemmas.List.Concat.{flat_map-cons}
use Rattle.std.proofs.Math.Seq.{drop-cons}
use Rattle.mr_pcap.specs.declared.order.Order.{Order}
use Rattle.mr_pcap.specs.Places.{captured_at, followed_by}
use Rattle.mr_pcap.specs.Traces.{Captured, record_bytes}

pub followed_by_none : (r : Captured) → followed_by r [] ≡ r
followed_by_none r = ap (λ (bs : List ℕ). record r { bytes = bs }) (append-nil r.bytes)

pub one_written : (order : Order) (out file starts : List ℕ) (i : ℕ) (r : Captured) → i < length starts
    → r ≡ captured_at order file (get_or starts i 0)
    → (out ++ record_bytes (followed_by r [])) ++ flat_map record_bytes (map (captured_at order file) (drop (i + 1) starts))
    ≡ out ++ flat_map record_bytes (map (captured_at order file) (drop i starts))
one_written order out file starts i r h e =
    let n : i + 1 ≡ suc i = omega arith in
    let others = map (captured_at order file) (drop (suc i) starts) in
    let first = captured_at order file (get_or starts i 0) in
    rw n
    (ap (λ r. (out ++ record_bytes r) ++ flat_map record_bytes others) (followed_by_none r ∙ e)
    ∙ append_assoc out (record_bytes first) (flat_map record_bytes others)
    ∙ ap (λ l. out ++ l) (sym (flat_map-cons record_bytes first others))
    ∙ ap (λ l. out ++ flat_map record_bytes (map (captured_at order file) l)) (sym (drop-cons starts i 0 h)))
