-- How much a daemon did, and what its reports bring, are sums over the parts of a history.
use Rattle.std.proofs.Common.{◌≡◌, ◌∙◌, ◌+◌, ℕ, Bool, true, false, if◌then◌else◌, Option, Some, None, List, [], ◌∷◌, ◌++◌, length, refl, sym, ap, ap₂, arith}
use Rattle.std.specs.Prelude.{◌==◌, flat_map}
use Rattle.std.proofs.lemmas.Grind.{flat_map-append}
use Rattle.std.proofs.lemmas.List.{length-append}
use Rattle.std.proofs.lemmas.List.Sums.{sum_by-append}
use Rattle.mr_model.specs.Deeds.{Deed, Received}
use Rattle.mr_model.specs.declared.entry.Entry.{Entry}
use Rattle.mr_model.specs.declared.entry.Entry.TheVariants.{Call, Slow, Settle, Tick, Recv, EndPhase}
use Rattle.mr_model.specs.declared.flow.Flow.{Flow}
use Rattle.mr_model.specs.declared.message.MessageId.{MessageId}
use Rattle.smc_daemon.specs.Deeds.{did, deeds_in, slow_flow, told_by}
use Rattle.smc_daemon.specs.Reporting.{brought, brought_in}

-- Two lists of deeds are of one length and bring the same.
pub record Alike (xs ys : List Deed) : Type 0 where
  pub many : length xs ≡ length ys
  pub brought : brought_in xs ≡ brought_in ys

alike_same : (xs : List Deed) → Alike xs xs
alike_same xs = record { many = refl; brought = refl }

pub alike_append : (xs ys us vs : List Deed) → Alike xs us → Alike ys vs → Alike (xs ++ ys) (us ++ vs)
alike_append xs ys us vs a b = record {
  many = omega (arith, a.many, b.many, length-append xs ys, length-append us vs);
  brought = sum_by-append brought xs ys ∙ ap₂ (λ x y. x + y) a.brought b.brought ∙ sym (sum_by-append brought us vs);
}

kind_told : (m : MessageId) (f g : Option Flow) → brought (Received (Some (told_by m f))) ≡ brought (Received (Some (told_by m g)))
kind_told m None None = refl
kind_told m None (Some g) = refl
kind_told m (Some f) None = refl
kind_told m (Some f) (Some g) = refl

alike_if : (b : Bool) (xs ys : List Deed) → Alike xs ys → Alike (if b then xs else []) (if b then ys else [])
alike_if true xs ys a = a
alike_if false xs ys a = alike_same []

entry_alike : (d : ℕ) (g h : List Entry) (e : Entry) → Alike (deeds_in d g e) (deeds_in d h e)
entry_alike d g h (Call c r reply released) = alike_same _
entry_alike d g h (Slow lane index look flow o) = alike_same _
entry_alike d g h (Settle lane records) = alike_same _
entry_alike d g h (Tick c ms) = alike_same _
entry_alike d g h (Recv c None) = alike_same _
entry_alike d g h (Recv c (Some m)) = alike_if (c.0 == d) _ _ (record {
  many = refl;
  brought = ap (λ n. 0 + n) (kind_told m (slow_flow g m.lane m.index) (slow_flow h m.lane m.index));
})
entry_alike d g h EndPhase = alike_same _

pub did_alike : (d : ℕ) (g h es : List Entry) → Alike (flat_map (deeds_in d g) es) (flat_map (deeds_in d h) es)
did_alike d g h [] = alike_same []
did_alike d g h (e ∷ es) = alike_append _ _ _ _ (entry_alike d g h e) (did_alike d g h es)

-- a part of a history, its end, and what stands behind that
pub did_parts : (d : ℕ) (before part rest : List Entry) → Alike (did d [] (part ++ EndPhase ∷ rest)) (did d before part ++ did d [] rest)
did_parts d before part rest =
    let h = part ++ EndPhase ∷ rest in
    let a = did_alike d h (before ++ part) part in
    let b = did_alike d h rest rest in
    let e : did d [] h ≡ flat_map (deeds_in d h) part ++ flat_map (deeds_in d h) rest = flat_map-append (deeds_in d h) part (EndPhase ∷ rest) in
    rw e (alike_append _ _ _ _ a b)
