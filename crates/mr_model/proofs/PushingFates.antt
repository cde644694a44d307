-- What one more entry does to a packet's fate, to the unfolded history and to a lively one.
use Rattle.std.proofs.Common.{◌≡◌, ℕ, ◌+◌, ◌≤◌, ◌<◌, Bool, true, false, not, ◌&&◌, ◌||◌, nat_lt, ◌==◌, cond, if◌then◌else◌, Option, Some, None, unwrap_or, List, [], ◌∷◌, ◌++◌, length, filter, map, refl, sym, ap, ap₂, ◌∙◌, arith, append_assoc, append-nil, length-append}
use Rattle.std.proofs.Math.Seq.{append_snoc}
use Rattle.std.proofs.lemmas.Bool.{ne_eqb}
use Rattle.std.proofs.lemmas.Grind.{flat_map-append}
use Rattle.mr_base.specs.declared.numbers.LaneNo.{LaneNo}
use Rattle.mr_model.specs.declared.ending.Fate.{Fate}
use Rattle.mr_model.specs.declared.ending.Fate.TheVariants.{Released, Expired, Flushed}
use Rattle.mr_model.specs.declared.entry.Entry.{Entry}
use Rattle.mr_model.specs.declared.entry.Entry.TheVariants.{Slow, Settle, EndPhase}
use Rattle.mr_model.specs.declared.entry.FastRecord.{FastRecord}
use Rattle.mr_model.specs.declared.limits.Limits.{Limits}
use Rattle.mr_model.specs.declared.step.Step.{Step}
use Rattle.mr_model.specs.declared.step.Step.TheVariants.{Fast, Kept}
use Rattle.mr_model.specs.Fate.{releases, expires, flushes, fate_in, fate_from, fate}
use Rattle.mr_model.specs.Laws.{fate_after, is_settle, is_of_no_lane}
use Rattle.mr_model.specs.Legal.{RecordsAgree, Agrees, LegalFrom, IsLegal}
use Rattle.mr_model.specs.Lively.{slow_follows, is_last_in_phase, is_lively_at, lively_from}
use Rattle.mr_model.specs.Past.{is_of_lane}
use Rattle.mr_model.specs.Unfolded.{fast_in, fast_at, unfolded_from, unfolded}

three_fates : (a b c : Bool) (n : ℕ) (rest : Fate) (next : Option Fate) → fate_after (unwrap_or (if a then Some (Released n) else (if b then Some (Expired n) else (if c then Some (Flushed n) else None))) rest) next ≡ unwrap_or (if a then Some (Released n) else (if b then Some (Expired n) else (if c then Some (Flushed n) else None))) (fate_after rest next)
three_fates true b c n rest next = refl
three_fates false true c n rest next = refl
three_fates false false true n rest next = refl
three_fates false false false n rest next = refl

-- what an entry makes of a packet is never that it waits
fate_stays : (limits : Limits) (g : List Entry) (e : Entry) (lane : LaneNo) (index : ℕ) (rest : Fate) (next : Option Fate) → fate_after (unwrap_or (fate_in limits g e lane index) rest) next ≡ unwrap_or (fate_in limits g e lane index) (fate_after rest next)
fate_stays limits g e lane index rest next =
    three_fates (releases e lane index) (expires limits g e lane index) (flushes limits g e lane index) (length g + 1) rest next

fate_from_push : (limits : Limits) (g h : List Entry) (e : Entry) (lane : LaneNo) (index : ℕ) → fate_from limits g (h ++ e ∷ []) lane index ≡ fate_after (fate_from limits g h lane index) (fate_in limits (g ++ h) e lane index)
fate_from_push limits g [] e lane index = rw append-nil refl
fate_from_push limits g (x ∷ h) e lane index =
    let before = fate_in limits g x lane index in
    let rest = fate_from limits (g ++ x ∷ []) h lane index in
    let more : fate_from limits (g ++ x ∷ []) (h ++ e ∷ []) lane index ≡ fate_after rest (fate_in limits (g ++ x ∷ h) e lane index) =
    fate_from_push limits (g ++ x ∷ []) h e lane index
    ∙ ap (λ (k : List Entry). fate_after rest (fate_in limits k e lane index)) (append_snoc g x h) in
    ap (λ (f : Fate). unwrap_or before f) more ∙ sym (fate_stays limits g x lane index rest (fate_in limits (g ++ x ∷ h) e lane index))

pub fate_push : (limits : Limits) (h : List Entry) (e : Entry) (lane : LaneNo) (index : ℕ) → fate limits (h ++ e ∷ []) lane index ≡ fate_after (fate limits h lane index) (fate_in limits h e lane index)
fate_push limits h e lane index = fate_from_push limits [] h e lane index

pub fast_at_push : (n : ℕ) (h : List Entry) (e : Entry) → fast_at n (h ++ e ∷ []) ≡ fast_at n h ++ fast_in n e
fast_at_push n h e =
    flat_map-append (fast_in n) h (e ∷ []) ∙ ap (λ (steps : List Step). fast_at n h ++ steps) (append-nil (fast_in n e))

-- an entry that is no Settle has no records
fast_in_none : (e : Entry) → is_settle e ≡ false → (n : ℕ) → fast_in n e ≡ []
fast_in_none (Settle lane records) p n = cc
fast_in_none e p n = refl

fast_at_same : (h : List Entry) (e : Entry) → is_settle e ≡ false → (n : ℕ) → fast_at n (h ++ e ∷ []) ≡ fast_at n h
fast_at_same h e p n =
    fast_at_push n h e ∙ ap (λ (steps : List Step). fast_at n h ++ steps) (fast_in_none e p n) ∙ append-nil (fast_at n h)

unfolded_from_push : (h : List Entry) (e : Entry) → is_settle e ≡ false → (n : ℕ) (es : List Entry) → unfolded_from (h ++ e ∷ []) n (es ++ e ∷ []) ≡ unfolded_from h n es ++ Kept e ∷ fast_at (n + length es + 1) h
unfolded_from_push h e p n [] =
    let place : n + 0 + 1 ≡ n + 1 = omega arith in
    rw place (ap₂ (λ (a b : List Step). a ++ Kept e ∷ b) (fast_at_same h e p n) (fast_at_same h e p (n + 1)))
unfolded_from_push h e p n (x ∷ es) =
    let place : n + 1 + length es + 1 ≡ n + length (x ∷ es) + 1 = omega arith in
    let last = fast_at (n + length (x ∷ es) + 1) h in
    let more : unfolded_from (h ++ e ∷ []) (n + 1) (es ++ e ∷ []) ≡ unfolded_from h (n + 1) es ++ Kept e ∷ last =
    rw (← place) (unfolded_from_push h e p (n + 1) es) in
    ap₂ (λ (a b : List Step). a ++ Kept x ∷ b) (fast_at_same h e p n) more
    ∙ sym (append_assoc (fast_at n h) (Kept x ∷ unfolded_from h (n + 1) es) (Kept e ∷ last))

pub unfolded_push : (h : List Entry) (e : Entry) → is_settle e ≡ false → unfolded (h ++ e ∷ []) ≡ unfolded h ++ Kept e ∷ fast_at (length h + 1) h
unfolded_push h e p =
    let place : 0 + length h + 1 ≡ length h + 1 = omega arith in
    rw (← place) (unfolded_from_push h e p 0 h)

-- an entry of no lane is none of this lane's
not_of_lane : (lane : LaneNo) (e : Entry) → is_of_no_lane e ≡ true → is_of_lane lane e ≡ false
not_of_lane lane (Slow l index look flow o) p = cc
not_of_lane lane (Settle l records) p = cc
not_of_lane lane e p = refl

no_slow_follows : (lane : LaneNo) (e : Entry) → is_of_no_lane e ≡ true → slow_follows lane (e ∷ []) ≡ false
no_slow_follows lane (Slow l index look flow o) p = cc
no_slow_follows lane e p = refl

slow_follows_push : (lane : LaneNo) (h : List Entry) (e : Entry) → is_of_no_lane e ≡ true → slow_follows lane (h ++ e ∷ []) ≡ slow_follows lane h
slow_follows_push lane [] e p = no_slow_follows lane e p
slow_follows_push lane (Slow l index look flow o ∷ h) e p = refl
slow_follows_push lane (x ∷ h) e p = refl

still_last : (lane : LaneNo) (e : Entry) → is_of_no_lane e ≡ true → is_last_in_phase lane (e ∷ []) ≡ true
still_last lane (Slow l index look flow o) p = cc
still_last lane (Settle l records) p = cc
still_last lane e p = refl

is_last_push : (lane : LaneNo) (h : List Entry) (e : Entry) → is_of_no_lane e ≡ true → is_last_in_phase lane (h ++ e ∷ []) ≡ is_last_in_phase lane h
is_last_push lane [] e p = still_last lane e p
is_last_push lane (EndPhase ∷ h) e p = refl
is_last_push lane (x ∷ h) e p = ap (λ (b : Bool). not (is_of_lane lane x) && b) (is_last_push lane h e p)

lively_at_push : (limits : Limits) (g : List Entry) (x : Entry) (h : List Entry) (e : Entry) → is_of_no_lane e ≡ true → is_lively_at limits g x (h ++ e ∷ []) ≡ is_lively_at limits g x h
lively_at_push limits g (Settle lane records) h e p =
    ap₂ (λ (a b : Bool). not (nat_lt (length records) 64) || a || b) (slow_follows_push lane h e p) (is_last_push lane h e p)
lively_at_push limits g x h e p = refl

lively_at_last : (limits : Limits) (g : List Entry) (e : Entry) → is_of_no_lane e ≡ true → lively_from limits g (e ∷ []) ≡ true
lively_at_last limits g (Slow l index look flow o) p = cc
lively_at_last limits g (Settle l records) p = cc
lively_at_last limits g e p = refl

lively_from_push : (limits : Limits) (g h : List Entry) (e : Entry) → is_of_no_lane e ≡ true → lively_from limits g (h ++ e ∷ []) ≡ lively_from limits g h
lively_from_push limits g [] e p = lively_at_last limits g e p
lively_from_push limits g (x ∷ h) e p =
    ap₂ (λ (a b : Bool). a && b) (lively_at_push limits g x h e p) (lively_from_push limits (g ++ x ∷ []) h e p)

pub lively_push : (limits : Limits) (h : List Entry) (e : Entry) → is_of_no_lane e ≡ true → lively_from limits [] (h ++ e ∷ []) ≡ lively_from limits [] h
lively_push limits h e p = lively_from_push limits [] h e p

-- no record of a legal history looks beyond it
pub fast_none : (limits : Limits) (g : List Entry) (n index least : ℕ) (rs : List FastRecord) → length g < n → RecordsAgree limits g index least rs → filter (λ r. r.look == n) rs ≡ []
fast_none limits g n index least [] long a = refl
fast_none limits g n index least (r ∷ rs) long a =
    let differs : (r.look == n) ≡ false = ne_eqb r.look n (λ same. omega (arith, a.1)) in
    ap (λ (b : Bool). cond b (r ∷ filter (λ x. x.look == n) rs) (filter (λ x. x.look == n) rs)) differs
    ∙ fast_none limits g n r.index r.look rs long a.4

pub fast_in_within : (limits : Limits) (g : List Entry) (n : ℕ) (e : Entry) → length g < n → Agrees limits g e → fast_in n e ≡ []
fast_in_within limits g n (Settle lane records) long a =
    ap (λ (rs : List FastRecord). map (λ r. Fast lane r) rs) (fast_none limits g n _ _ records long a.all)
fast_in_within limits g n e long a = refl

pub fast_at_within : (limits : Limits) (g h : List Entry) (n : ℕ) → length g + length h ≤ n → LegalFrom limits g h → fast_at n h ≡ []
fast_at_within limits g [] n long l = refl
fast_at_within limits g (e ∷ h) n long l =
    let more : length (g ++ e ∷ []) ≡ length g + 1 = length-append g (e ∷ []) in
    ap₂ (λ (a b : List Step). a ++ b) (fast_in_within limits g n e (omega arith) l.0) (fast_at_within limits (g ++ e ∷ []) h n (omega arith) l.1)

-- behind a legal history an entry that is no Settle stands last, one step more
pub unfolded_legal_push : (limits : Limits) (h : List Entry) (e : Entry) → IsLegal limits h → is_settle e ≡ false → unfolded (h ++ e ∷ []) ≡ unfolded h ++ Kept e ∷ []
unfolded_legal_push limits h e l p =
    unfolded_push h e p
    ∙ ap (λ (steps : List Step). unfolded h ++ Kept e ∷ steps) (fast_at_within limits [] h (length h + 1) (omega arith) l)
