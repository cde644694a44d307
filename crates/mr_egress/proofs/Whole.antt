-- A copy is as long as its packet says, and files of such copies are read back.
use Rattle.std.proofs.Common.{◌≡◌, ◌∙◌, ℕ, zero, suc, ◌+◌, ◌-◌, ◌<◌, ◌^◌, ◌&&◌, nat_lt, Bool, true, false, Option, Some, None, List, [], ◌∷◌, ◌++◌, length, map, flat_map, find, take, drop, get_or, set, slice_get, option_map, arith, lit<, if◌then◌else◌, length-append, length-drop, IfSome}
use Rattle.std.proofs.lemmas.List.{length-take-le, length-set}
use Rattle.std.proofs.lemmas.List.Elements.{All-from_recursion}
use Rattle.std.specs.List.{AllByRecursion}
use Rattle.mr_base.specs.Heads.{cause_of, head_length, two_at, sent}
use Rattle.mr_base.specs.declared.numbers.LaneNo.{LaneNo}
use Rattle.mr_base.specs.declared.numbers.Mask.{Mask}
use Rattle.mr_base.specs.declared.vif_record.VifRecord.{VifRecord}
use Rattle.mr_egress.proofs.Listing.{all_append}
use Rattle.mr_ip.specs.Bodies.{body_of}
use Rattle.mr_ip.proofs.Heads.{head_within, total_within}
use Rattle.mr_load.specs.Dues.{Due, LaneValue}
use Rattle.mr_model.specs.declared.entry.Entry.{Entry}
use Rattle.mr_model.specs.declared.entry.Entry.TheVariants.{Call, Slow}
use Rattle.mr_model.specs.declared.entry.ReleasedId.{ReleasedId}
use Rattle.mr_model.specs.declared.limits.Limits.{Limits}
use Rattle.mr_model.specs.declared.step.Step.{Step}
use Rattle.mr_model.specs.declared.step.Step.TheVariants.{Fast, Kept}
use Rattle.mr_model.specs.Ending.{indexes}
use Rattle.mr_model.specs.Unfolded.{unfolded}
use Rattle.mr_model.specs.Verdict.{is_in}
use Rattle.mr_model.specs.VifList.{vif_at}
use Rattle.mr_model.specs.Vifs.{vifs}
use Rattle.mr_pcap.specs.Places.{AreBytes, Fits}
use Rattle.mr_pcap.proofs.Again.{file_again}
use Rattle.mr_egress.specs.Copies.{loaded, packets_of, is_due, sent_packet, sent_on, leads_to, copies_of, outs_in, copies_freed, copies_in, copies_from, copies}
use Rattle.mr_egress.specs.Files.{record_of, trace}
use Rattle.mr_egress.specs.Laws.{CopyIsWhole, FileSpellsItsTrace, IsLoaded, AreLoaded}

sent_length : (bs : List ℕ) → length (sent bs) ≡ length bs
sent_length bs = long bs _ _ _ _ _
  where
    long : (bs : List ℕ) (v a b c d : ℕ) → length (set (set (set (set (set bs 8 v) 10 a) 11 b) 10 c) 11 d) ≡ length bs
    long bs v a b c d =
        length-set (set (set (set (set bs 8 v) 10 a) 11 b) 10 c) 11 d
        ∙ length-set (set (set (set bs 8 v) 10 a) 11 b) 10 c
        ∙ length-set (set (set bs 8 v) 10 a) 11 b
        ∙ length-set (set bs 8 v) 10 a
        ∙ length-set bs 8 v

pub body_length : (bs : List ℕ) → cause_of bs ≡ None → length (body_of bs) ≡ two_at bs 2 - head_length bs
body_length bs none =
    let head = head_within bs none in
    let total = total_within bs none in
    length-take-le (two_at bs 2 - head_length bs) (drop (head_length bs) bs)
    (omega (arith, length-drop (head_length bs) bs, head.1, total.0, total.1))

pub head_sent_length : (bs : List ℕ) → cause_of bs ≡ None → length (sent (take (head_length bs) bs)) ≡ head_length bs
head_sent_length bs none =
    sent_length (take (head_length bs) bs) ∙ length-take-le (head_length bs) bs (head_within bs none).1

pub copy_is_whole : CopyIsWhole
copy_is_whole bs none =
    let head = head_sent_length bs none in
    let body = body_length bs none in
    let total = (total_within bs none).0 in
    let both = length-append (sent (take (head_length bs) bs)) (body_of bs) in
    omega (arith, both, head, body, total)

abbrev IsShort : List ℕ → Type 0
IsShort c = length c < 2 ^ 32

two_small : (bs : List ℕ) (i : ℕ) → AreBytes bs → two_at bs i < 65536
two_small bs i are = omega (arith, are i, are (i + 1))

-- what is found among what all has a property has it
found_all : {A : Type 0} (P : A → Type 0) (test : A → Bool) (xs : List A) → AllByRecursion P xs → IfSome (find test xs) P
found_all P test [] all = tt
found_all P test (x ∷ xs) all = by (test x) (found_all P test xs all.1)
  where
    by : (b : Bool) → IfSome (find test xs) P → IfSome (if b then Some x else find test xs) P
    by true more = all.0
    by false more = more

pub at_all : {A : Type 0} (P : A → Type 0) (xs : List A) (i : ℕ) → AllByRecursion P xs → IfSome (slice_get xs i) P
at_all P [] i all = tt
at_all P (x ∷ xs) zero all = all.0
at_all P (x ∷ xs) (suc i) all = at_all P xs i all.1

abbrev IsPacket : List ℕ → Type 0
IsPacket bs = (cause_of bs ≡ None) × AreBytes bs

loaded_all : (lanes : List LaneValue) (lane : LaneNo) (index : ℕ) → AreLoaded lanes → IfSome (loaded lanes lane index) IsPacket
loaded_all lanes lane index all =
    of (slice_get lanes (lane.0 - 1)) (at_all (λ v. AllByRecursion IsLoaded v.packets) lanes (lane.0 - 1) all)
  where
    bytes : (o : Option Due) → IfSome o IsLoaded → IfSome (option_map (λ d. d.bytes) o) IsPacket
    bytes None is = tt
    bytes (Some d) is = is

    of : (o : Option LaneValue) → IfSome o (λ v. AllByRecursion IsLoaded v.packets)
        → IfSome (option_map (λ d. d.bytes) (find (is_due index) (packets_of o))) IsPacket
    of None is = tt
    of (Some v) is = bytes (find (is_due index) v.packets) (found_all IsLoaded (is_due index) v.packets is)

sent_short : (o : Option (List ℕ)) → IfSome o IsPacket → AllByRecursion IsShort (sent_on o)
sent_short None is = tt
sent_short (Some bs) is = by (nat_lt (get_or bs 8 0) 2)
  where
    by : (b : Bool) → AllByRecursion IsShort (if b then [] else sent_packet bs ∷ [])
    by true = tt
    by false = (omega (arith, copy_is_whole bs is.0, two_small bs 2 is.1), tt)

each_short : (test : ℕ → Bool) (cs : List (List ℕ)) (is : List ℕ) → AllByRecursion IsShort cs
    → AllByRecursion IsShort (flat_map (λ i. if test i then cs else []) is)
each_short test cs [] all = tt
each_short test cs (i ∷ is) all = by (test i) _ (each_short test cs is all)
  where
    by : (b : Bool) (ds : List (List ℕ)) → AllByRecursion IsShort ds → AllByRecursion IsShort ((if b then cs else []) ++ ds)
    by true ds more = all_append IsShort cs ds all more
    by false ds more = more

of_short : (lanes : List LaneValue) (dev : ℕ) (vs : List VifRecord) (lane : LaneNo) (index : ℕ) (outs : Mask)
    → AreLoaded lanes → AllByRecursion IsShort (copies_of lanes dev vs lane index outs)
of_short lanes dev vs lane index outs all =
    each_short (λ i. is_in outs i && leads_to dev (vif_at vs i)) (sent_on (loaded lanes lane index)) indexes
    (sent_short (loaded lanes lane index) (loaded_all lanes lane index all))

in_short : (lanes : List LaneValue) (dev : ℕ) (vs : List VifRecord) (e : Entry) → AreLoaded lanes
    → AllByRecursion IsShort (copies_in lanes dev vs e)
in_short lanes dev vs (Slow lane index look flow o) all = of_short lanes dev vs lane index (outs_in o) all
in_short lanes dev vs (Call d r reply released) all = each released
  where
    each : (rs : List ReleasedId) → AllByRecursion IsShort (flat_map (copies_freed lanes dev vs) rs)
    each [] = tt
    each (x ∷ rs) = all_append IsShort (copies_freed lanes dev vs x) _
        (of_short lanes dev vs x.lane x.index (outs_in x.outcome) all) (each rs)
in_short lanes dev vs e all = tt

from_short : (limits : Limits) (lanes : List LaneValue) (dev : ℕ) (g : List Entry) (steps : List Step) → AreLoaded lanes
    → AllByRecursion IsShort (copies_from limits lanes dev g steps)
from_short limits lanes dev g [] all = tt
from_short limits lanes dev g (Fast lane r ∷ steps) all =
    all_append IsShort (copies_of lanes dev (vifs limits g) lane r.index r.outs) _
    (of_short lanes dev (vifs limits g) lane r.index r.outs all) (from_short limits lanes dev g steps all)
from_short limits lanes dev g (Kept e ∷ steps) all =
    all_append IsShort (copies_in lanes dev (vifs limits g) e) _
    (in_short lanes dev (vifs limits g) e all) (from_short limits lanes dev (g ++ e ∷ []) steps all)

fit_all : (cs : List (List ℕ)) → AllByRecursion IsShort cs → AllByRecursion Fits (map record_of cs)
fit_all [] all = tt
fit_all (c ∷ cs) all = (
  record { sec = lit< tt; frac = lit< tt; orig = all.0; bytes = all.0 },
  fit_all cs all.1,
)

pub spells : FileSpellsItsTrace
spells limits lanes h dev all =
    file_again (trace limits lanes h dev)
    (All-from_recursion Fits _ (fit_all (copies limits lanes h dev) (from_short limits lanes dev [] (unfolded h) all)))
