-- What one more entry does to the definitions that go over a history.
use Rattle.std.proofs.Common.{◌≡◌, ℕ, ◌+◌, Bool, false, cond, if◌then◌else◌, List, [], ◌∷◌, ◌++◌, length, take, take_all, ◌-◌, refl, sym, ap, ◌∙◌, arith, append_assoc, append-nil, add-zero, length-append}
use Rattle.std.proofs.Math.Seq.{append_snoc}
use Rattle.std.proofs.lemmas.List.{take-append-le}
use Rattle.std.proofs.lemmas.List.Sums.{fold_push, sum_by-append, sum_by-cons}
use Rattle.mr_base.specs.declared.numbers.LaneNo.{LaneNo}
use Rattle.mr_base.specs.declared.vif_record.VifRecord.{VifRecord}
use Rattle.mr_model.specs.declared.entry.Entry.{Entry}
use Rattle.mr_model.specs.declared.limits.Limits.{Limits}
use Rattle.mr_model.specs.declared.reply.RouteTotals.{RouteTotals}
use Rattle.mr_model.specs.declared.reply.VifTotals.{VifTotals}
use Rattle.mr_model.specs.State.{state}
use Rattle.mr_model.specs.Now.{milliseconds, now}
use Rattle.mr_model.specs.Owner.{owner_after, owner}
use Rattle.mr_model.specs.Switches.{switches_after, switches}
use Rattle.mr_model.specs.Counts.{Met, met_in, met_from, met, route_sums, route_counts, vif_sums, vif_counts}
use Rattle.mr_model.specs.Attempt.{attempted_by, attempts_from}
use Rattle.mr_model.specs.Unread.{pushed_by, pushed}
use Rattle.mr_model.specs.Past.{is_control, is_end, is_of_lane, packets_in, controls, phases, packets, last_from, last_own, last_end, index_after, last_index, look_after, last_look, ends_short, own_before_slow}

pub owner_push : (h : List Entry) (e : Entry) → owner (h ++ e ∷ []) ≡ owner_after (owner h) e
owner_push h e = fold_push owner_after _ h e

pub switches_push : (h : List Entry) (e : Entry) → switches (h ++ e ∷ []) ≡ switches_after (switches h) e
switches_push h e = fold_push switches_after _ h e

pub now_push : (h : List Entry) (e : Entry) → now (h ++ e ∷ []) ≡ now h + milliseconds e
now_push h e = fold_push (λ a x. a + milliseconds x) 0 h e

pub met_from_push : (g h : List Entry) (e : Entry) → met_from g (h ++ e ∷ []) ≡ met_from g h ++ met_in (g ++ h) e
met_from_push g [] e = rw (append-nil (met_in g e), append-nil g) refl
met_from_push g (x ∷ h) e =
    rw (met_from_push (g ++ x ∷ []) h e, append_snoc g x h) (sym (append_assoc (met_in g x) (met_from (g ++ x ∷ []) h) (met_in (g ++ x ∷ h) e)))

pub met_push : (h : List Entry) (e : Entry) → met (h ++ e ∷ []) ≡ met h ++ met_in h e
met_push h e = met_from_push [] h e

pub route_counts_push : (h : List Entry) (e : Entry) (n : ℕ) → route_counts (h ++ e ∷ []) n ≡ route_sums (met h ++ met_in h e) n
route_counts_push h e n = ap (λ ms. route_sums ms n) (met_push h e)

pub vif_counts_push : (h : List Entry) (e : Entry) (v : VifRecord) → vif_counts (h ++ e ∷ []) v ≡ vif_sums (met h ++ met_in h e) v
vif_counts_push h e v = ap (λ ms. vif_sums ms v) (met_push h e)

pub attempts_from_push : (n : ℕ) (h : List Entry) (e : Entry) → attempts_from n (h ++ e ∷ []) ≡ attempts_from n h ++ attempted_by (n + now h) e
attempts_from_push n [] e = rw (append-nil (attempted_by n e), add-zero n) refl
attempts_from_push n (x ∷ h) e =
    let sum : now (x ∷ h) ≡ milliseconds x + now h = sum_by-cons milliseconds x h in
    let moment : n + milliseconds x + now h ≡ n + now (x ∷ h) = omega arith in
    rw (attempts_from_push (n + milliseconds x) h e, moment) (sym (append_assoc (attempted_by n x) (attempts_from (n + milliseconds x) h) (attempted_by (n + now (x ∷ h)) e)))

pub attempts_push : (h : List Entry) (e : Entry) → attempts_from 0 (h ++ e ∷ []) ≡ attempts_from 0 h ++ attempted_by (now h) e
attempts_push h e =
    let moment : 0 + now h ≡ now h = omega arith in
    rw (← moment) (attempts_from_push 0 h e)

pub pushed_push : (limits : Limits) (g h : List Entry) (e : Entry) → pushed limits g (h ++ e ∷ []) ≡ pushed limits g h ++ pushed_by limits (state limits (g ++ h)) e
pushed_push limits g [] e = rw (append-nil (pushed_by limits (state limits g) e), append-nil g) refl
pushed_push limits g (x ∷ h) e =
    rw (pushed_push limits (g ++ x ∷ []) h e, append_snoc g x h)
    (sym (append_assoc (pushed_by limits (state limits g) x) (pushed limits (g ++ x ∷ []) h) (pushed_by limits (state limits (g ++ x ∷ h)) e)))

pub controls_push : (h : List Entry) (e : Entry) → controls (h ++ e ∷ []) ≡ controls h + (if is_control e then 1 else 0)
controls_push h e = fold_push (λ a x. a + cond (is_control x) 1 0) 0 h e

pub phases_push : (h : List Entry) (e : Entry) → phases (h ++ e ∷ []) ≡ phases h + (if is_end e then 1 else 0)
phases_push h e = fold_push (λ a x. a + cond (is_end x) 1 0) 0 h e

pub packets_push : (lane : LaneNo) (h : List Entry) (e : Entry) → packets lane (h ++ e ∷ []) ≡ packets lane h + (if is_of_lane lane e then packets_in e else 0)
packets_push lane h e = fold_push (λ a x. a + (if is_of_lane lane x then packets_in x else 0)) 0 h e

pub last_index_push : (lane : LaneNo) (h : List Entry) (e : Entry) → last_index lane (h ++ e ∷ []) ≡ index_after lane (last_index lane h) e
last_index_push lane h e = fold_push (index_after lane) 0 h e

pub last_look_push : (lane : LaneNo) (h : List Entry) (e : Entry) → last_look lane (h ++ e ∷ []) ≡ look_after lane (last_look lane h) e
last_look_push lane h e = fold_push (look_after lane) 0 h e

pub last_from_push : (test : Entry → Bool) (before n : ℕ) (h : List Entry) (e : Entry) → last_from test before n (h ++ e ∷ []) ≡ (if test e then n + length h else last_from test before n h)
last_from_push test before n [] e = rw (add-zero n) refl
last_from_push test before n (x ∷ h) e =
    let place : n + 1 + length h ≡ n + length (x ∷ h) = omega arith in
    rw (← place) (last_from_push test (if test x then n else before) (n + 1) h e)

pub last_own_push : (lane : LaneNo) (h : List Entry) (e : Entry) → last_own lane (h ++ e ∷ []) ≡ (if is_of_lane lane e then length h + 1 else last_own lane h)
last_own_push lane h e =
    let place : 1 + length h ≡ length h + 1 = omega arith in
    rw (← place) (last_from_push (is_of_lane lane) 0 1 h e)

pub last_end_push : (h : List Entry) (e : Entry) → last_end (h ++ e ∷ []) ≡ (if is_end e then length h + 1 else last_end h)
last_end_push h e =
    let place : 1 + length h ≡ length h + 1 = omega arith in
    rw (← place) (last_from_push is_end 0 1 h e)

pub ends_short_push : (lane : LaneNo) (h : List Entry) (e : Entry) → ends_short lane (h ++ e ∷ []) ≡ ends_short lane (e ∷ [])
ends_short_push lane h e = fold_push _ false h e

without_last : (h : List Entry) (e : Entry) → take (length (h ++ e ∷ []) - 1) (h ++ e ∷ []) ≡ h
without_last h e =
    let counted : length (h ++ e ∷ []) ≡ length h + 1 = length-append h (e ∷ []) in
    let place : length (h ++ e ∷ []) - 1 ≡ length h = omega arith in
    rw (place, take-append-le (length h) h (e ∷ []) (omega arith)) (take_all (length h) h (omega arith))

pub own_before_slow_push : (lane : LaneNo) (h : List Entry) (e : Entry) → own_before_slow lane (h ++ e ∷ []) ≡ (if ends_short lane (e ∷ []) then last_own lane h else last_own lane (h ++ e ∷ []))
own_before_slow_push lane h e =
    ap (λ (b : Bool). if b then last_own lane (take (length (h ++ e ∷ []) - 1) (h ++ e ∷ [])) else last_own lane (h ++ e ∷ [])) (ends_short_push lane h e)
    ∙ ap (λ (g : List Entry). if ends_short lane (e ∷ []) then last_own lane g else last_own lane (h ++ e ∷ [])) (without_last h e)

-- the sums over the packets of two lists
pub route_packets_append : (a b : List Met) (n : ℕ) → (route_sums (a ++ b) n).packets ≡ (route_sums a n).packets + (route_sums b n).packets
route_packets_append a b n = sum_by-append _ a b

pub route_bytes_append : (a b : List Met) (n : ℕ) → (route_sums (a ++ b) n).bytes ≡ (route_sums a n).bytes + (route_sums b n).bytes
route_bytes_append a b n = sum_by-append _ a b

pub route_wrong_append : (a b : List Met) (n : ℕ) → (route_sums (a ++ b) n).wrong ≡ (route_sums a n).wrong + (route_sums b n).wrong
route_wrong_append a b n = sum_by-append _ a b

pub vif_packets_in_append : (a b : List Met) (v : VifRecord) → (vif_sums (a ++ b) v).packets_in ≡ (vif_sums a v).packets_in + (vif_sums b v).packets_in
vif_packets_in_append a b v = sum_by-append _ a b

pub vif_packets_out_append : (a b : List Met) (v : VifRecord) → (vif_sums (a ++ b) v).packets_out ≡ (vif_sums a v).packets_out + (vif_sums b v).packets_out
vif_packets_out_append a b v = sum_by-append _ a b

pub vif_bytes_in_append : (a b : List Met) (v : VifRecord) → (vif_sums (a ++ b) v).bytes_in ≡ (vif_sums a v).bytes_in + (vif_sums b v).bytes_in
vif_bytes_in_append a b v = sum_by-append _ a b

pub vif_bytes_out_append : (a b : List Met) (v : VifRecord) → (vif_sums (a ++ b) v).bytes_out ≡ (vif_sums a v).bytes_out + (vif_sums b v).bytes_out
vif_bytes_out_append a b v = sum_by-append _ a b

pub route_packets_push : (h : List Entry) (e : Entry) (n : ℕ) → (route_counts (h ++ e ∷ []) n).packets ≡ (route_counts h n).packets + (route_sums (met_in h e) n).packets
route_packets_push h e n = ap (λ (sums : RouteTotals). sums.packets) (route_counts_push h e n) ∙ route_packets_append (met h) (met_in h e) n

pub route_bytes_push : (h : List Entry) (e : Entry) (n : ℕ) → (route_counts (h ++ e ∷ []) n).bytes ≡ (route_counts h n).bytes + (route_sums (met_in h e) n).bytes
route_bytes_push h e n = ap (λ (sums : RouteTotals). sums.bytes) (route_counts_push h e n) ∙ route_bytes_append (met h) (met_in h e) n

pub route_wrong_push : (h : List Entry) (e : Entry) (n : ℕ) → (route_counts (h ++ e ∷ []) n).wrong ≡ (route_counts h n).wrong + (route_sums (met_in h e) n).wrong
route_wrong_push h e n = ap (λ (sums : RouteTotals). sums.wrong) (route_counts_push h e n) ∙ route_wrong_append (met h) (met_in h e) n

pub vif_packets_in_push : (h : List Entry) (e : Entry) (v : VifRecord) → (vif_counts (h ++ e ∷ []) v).packets_in ≡ (vif_counts h v).packets_in + (vif_sums (met_in h e) v).packets_in
vif_packets_in_push h e v = ap (λ (sums : VifTotals). sums.packets_in) (vif_counts_push h e v) ∙ vif_packets_in_append (met h) (met_in h e) v

pub vif_packets_out_push : (h : List Entry) (e : Entry) (v : VifRecord) → (vif_counts (h ++ e ∷ []) v).packets_out ≡ (vif_counts h v).packets_out + (vif_sums (met_in h e) v).packets_out
vif_packets_out_push h e v = ap (λ (sums : VifTotals). sums.packets_out) (vif_counts_push h e v) ∙ vif_packets_out_append (met h) (met_in h e) v

pub vif_bytes_in_push : (h : List Entry) (e : Entry) (v : VifRecord) → (vif_counts (h ++ e ∷ []) v).bytes_in ≡ (vif_counts h v).bytes_in + (vif_sums (met_in h e) v).bytes_in
vif_bytes_in_push h e v = ap (λ (sums : VifTotals). sums.bytes_in) (vif_counts_push h e v) ∙ vif_bytes_in_append (met h) (met_in h e) v

pub vif_bytes_out_push : (h : List Entry) (e : Entry) (v : VifRecord) → (vif_counts (h ++ e ∷ []) v).bytes_out ≡ (vif_counts h v).bytes_out + (vif_sums (met_in h e) v).bytes_out
vif_bytes_out_push h e v = ap (λ (sums : VifTotals). sums.bytes_out) (vif_counts_push h e v) ∙ vif_bytes_out_append (met h) (met_in h e) v
