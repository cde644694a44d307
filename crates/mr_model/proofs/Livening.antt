-- What an entry of a lane does to a lively history.
use Rattle.std.proofs.Common.{◌≡◌, ℕ, Bool, true, false, not, ◌&&◌, ◌||◌, nat_lt, ◌==◌, if◌then◌else◌, ◌⊎◌, inl, inr, List, [], ◌∷◌, ◌++◌, length, fold, refl, sym, ap, ap₂, ◌∙◌, append-nil}
use Rattle.std.proofs.Math.Seq.{append_snoc}
use Rattle.std.proofs.lemmas.Bool.{cases_Bool, eq-eqb}
use Rattle.std.proofs.lemmas.List.Sums.{fold_push}
use Rattle.mr_base.specs.declared.numbers.LaneNo.{LaneNo}
use Rattle.mr_model.specs.declared.entry.Entry.{Entry}
use Rattle.mr_model.specs.declared.entry.Entry.TheVariants.{Call, Slow, Settle, Tick, Recv, EndPhase}
use Rattle.mr_model.specs.declared.entry.FastRecord.{FastRecord}
use Rattle.mr_model.specs.declared.flow.Flow.{Flow}
use Rattle.mr_model.specs.declared.limits.Limits.{Limits}
use Rattle.mr_model.specs.declared.outcome.Outcome.{Outcome}
use Rattle.mr_model.specs.Laws.{short_after, is_left_short}
use Rattle.mr_model.specs.Lively.{slow_follows, is_last_in_phase, is_lively_at, lively_from}
use Rattle.mr_model.specs.Past.{is_of_lane}

pub left_short_push : (lane : LaneNo) (h : List Entry) (e : Entry) → is_left_short lane (h ++ e ∷ []) ≡ short_after lane (is_left_short lane h) e
left_short_push lane h e = fold_push (short_after lane) false h e

-- what was left short before h counts only where h says nothing of the lane
less_short : (lane : LaneNo) (b : Bool) (h : List Entry) → fold (short_after lane) b h ≡ false → fold (short_after lane) false h ≡ false
less_short lane b [] p = refl
less_short lane b (EndPhase ∷ h) p = p
less_short lane b (Settle l records ∷ h) p = by (l.0 == lane.0) (less_short lane b h) p
  where
    by : (own : Bool) → (fold (short_after lane) b h ≡ false → fold (short_after lane) false h ≡ false) → fold (short_after lane) (if own then nat_lt (length records) 64 else b) h ≡ false → fold (short_after lane) (if own then nat_lt (length records) 64 else false) h ≡ false
    by true rest q = q
    by false rest q = rest q
less_short lane b (Slow l index look flow o ∷ h) p = by (l.0 == lane.0) (less_short lane b h) p
  where
    by : (own : Bool) → (fold (short_after lane) b h ≡ false → fold (short_after lane) false h ≡ false) → fold (short_after lane) (if own then false else b) h ≡ false → fold (short_after lane) (if own then false else false) h ≡ false
    by true rest q = q
    by false rest q = rest q
less_short lane b (Call d r reply released ∷ h) p = less_short lane b h p
less_short lane b (Tick d ms ∷ h) p = less_short lane b h p
less_short lane b (Recv d message ∷ h) p = less_short lane b h p

-- once the lane is not left short, one more entry does not change whether it was the last in its phase
last_stays : (lane : LaneNo) (h : List Entry) (e : Entry) → fold (short_after lane) true h ≡ false → is_last_in_phase lane (h ++ e ∷ []) ≡ is_last_in_phase lane h
last_stays lane [] e p = cc
last_stays lane (EndPhase ∷ h) e p = refl
last_stays lane (Settle l records ∷ h) e p = by (l.0 == lane.0) (last_stays lane h e) p
  where
    by : (own : Bool) → (fold (short_after lane) true h ≡ false → is_last_in_phase lane (h ++ e ∷ []) ≡ is_last_in_phase lane h) → fold (short_after lane) (if own then nat_lt (length records) 64 else true) h ≡ false → (not own && is_last_in_phase lane (h ++ e ∷ [])) ≡ (not own && is_last_in_phase lane h)
    by true rest q = refl
    by false rest q = rest q
last_stays lane (Slow l index look flow o ∷ h) e p = by (l.0 == lane.0) (last_stays lane h e) p
  where
    by : (own : Bool) → (fold (short_after lane) true h ≡ false → is_last_in_phase lane (h ++ e ∷ []) ≡ is_last_in_phase lane h) → fold (short_after lane) (if own then false else true) h ≡ false → (not own && is_last_in_phase lane (h ++ e ∷ [])) ≡ (not own && is_last_in_phase lane h)
    by true rest q = refl
    by false rest q = rest q
last_stays lane (Call d r reply released ∷ h) e p = last_stays lane h e p
last_stays lane (Tick d ms ∷ h) e p = last_stays lane h e p
last_stays lane (Recv d message ∷ h) e p = last_stays lane h e p

follows_stays : (lane : LaneNo) (h : List Entry) (e : Entry) → fold (short_after lane) true h ≡ false → slow_follows lane (h ++ e ∷ []) ≡ slow_follows lane h
follows_stays lane [] e p = cc
follows_stays lane (Slow l index look flow o ∷ h) e p = refl
follows_stays lane (x ∷ h) e p = refl

-- an entry of another lane
last_other : (lane : LaneNo) (h : List Entry) (e : Entry) → is_of_lane lane e ≡ false → is_last_in_phase lane (h ++ e ∷ []) ≡ is_last_in_phase lane h
last_other lane [] (Slow l index look flow o) p = rw p refl
last_other lane [] (Settle l records) p = rw p refl
last_other lane [] e p = refl
last_other lane (EndPhase ∷ h) e p = refl
last_other lane (x ∷ h) e p = ap (λ (b : Bool). not (is_of_lane lane x) && b) (last_other lane h e p)

no_follower : (lane : LaneNo) (e : Entry) → is_of_lane lane e ≡ false → slow_follows lane (e ∷ []) ≡ false
no_follower lane (Slow l index look flow o) p = p
no_follower lane e p = refl

follows_other : (lane : LaneNo) (h : List Entry) (e : Entry) → is_of_lane lane e ≡ false → slow_follows lane (h ++ e ∷ []) ≡ slow_follows lane h
follows_other lane [] e p = no_follower lane e p
follows_other lane (Slow l index look flow o ∷ h) e p = refl
follows_other lane (x ∷ h) e p = refl

-- what x owes is not changed by an entry e behind, no lane of which is left short
at_stays : (limits : Limits) (g : List Entry) (x : Entry) (h : List Entry) (e : Entry) → ((lane : LaneNo) → is_of_lane lane e ≡ true → is_left_short lane (x ∷ h) ≡ false) → is_lively_at limits g x (h ++ e ∷ []) ≡ is_lively_at limits g x h
at_stays limits g (Settle l records) h e p = by (cases_Bool (is_of_lane l e))
  where
    settled : (own short : Bool) → own ≡ true → fold (short_after l) (if own then short else false) h ≡ false → (not short || slow_follows l (h ++ e ∷ []) || is_last_in_phase l (h ++ e ∷ [])) ≡ (not short || slow_follows l h || is_last_in_phase l h)
    settled true false o q = refl
    settled true true o q = ap₂ (λ (a b : Bool). a || b) (follows_stays l h e q) (last_stays l h e q)
    settled false short o q = cc

    by : (is_of_lane l e ≡ true) ⊎ (is_of_lane l e ≡ false) → is_lively_at limits g (Settle l records) (h ++ e ∷ []) ≡ is_lively_at limits g (Settle l records) h
    by (inl own) = settled (l.0 == l.0) (nat_lt (length records) 64) (eq-eqb l.0 l.0 refl) (p l own)
    by (inr other) = ap₂ (λ (a b : Bool). not (nat_lt (length records) 64) || a || b) (follows_other l h e other) (last_other l h e other)
at_stays limits g x h e p = refl

and_true : (a : Bool) → (a && true) ≡ a
and_true true = refl
and_true false = refl

and_assoc : (a b c : Bool) → (a && (b && c)) ≡ ((a && b) && c)
and_assoc true b c = refl
and_assoc false b c = refl

lively_from_lane : (limits : Limits) (g h : List Entry) (e : Entry) → ((lane : LaneNo) → is_of_lane lane e ≡ true → is_left_short lane h ≡ false) → lively_from limits g (h ++ e ∷ []) ≡ (lively_from limits g h && is_lively_at limits (g ++ h) e [])
lively_from_lane limits g [] e p = rw append-nil (and_true (is_lively_at limits g e []))
lively_from_lane limits g (x ∷ h) e p =
    let more : lively_from limits (g ++ x ∷ []) (h ++ e ∷ []) ≡ (lively_from limits (g ++ x ∷ []) h && is_lively_at limits (g ++ x ∷ h) e []) =
    lively_from_lane limits (g ++ x ∷ []) h e (λ lane own. less_short lane (short_after lane false x) h (p lane own))
    ∙ ap (λ (k : List Entry). lively_from limits (g ++ x ∷ []) h && is_lively_at limits k e []) (append_snoc g x h) in
    ap₂ (λ (a b : Bool). a && b) (at_stays limits g x h e p) more
    ∙ and_assoc (is_lively_at limits g x h) (lively_from limits (g ++ x ∷ []) h) (is_lively_at limits (g ++ x ∷ h) e [])

-- An entry adds what it owes itself, where no lane of its own was left short.
pub lively_lane : (limits : Limits) (h : List Entry) (e : Entry) → ((lane : LaneNo) → is_of_lane lane e ≡ true → is_left_short lane h ≡ false) → lively_from limits [] (h ++ e ∷ []) ≡ (lively_from limits [] h && is_lively_at limits h e [])
lively_lane limits h e p = lively_from_lane limits [] h e p

not_twice : (b c : Bool) → (not b && (not b && c)) ≡ (not b && c)
not_twice true c = refl
not_twice false c = refl

-- behind a Settle a Slow of the same lane changes nothing of what earlier entries owe
last_behind : (l lane : LaneNo) (k : List Entry) (records : List FastRecord) (index look : ℕ) (flow : Flow) (o : Outcome) → is_last_in_phase l (k ++ Settle lane records ∷ Slow lane index look flow o ∷ []) ≡ is_last_in_phase l (k ++ Settle lane records ∷ [])
last_behind l lane [] records index look flow o = not_twice (lane.0 == l.0) true
last_behind l lane (EndPhase ∷ k) records index look flow o = refl
last_behind l lane (x ∷ k) records index look flow o =
    ap (λ (b : Bool). not (is_of_lane l x) && b) (last_behind l lane k records index look flow o)

follows_behind : (l lane : LaneNo) (k : List Entry) (records : List FastRecord) (index look : ℕ) (flow : Flow) (o : Outcome) → slow_follows l (k ++ Settle lane records ∷ Slow lane index look flow o ∷ []) ≡ slow_follows l (k ++ Settle lane records ∷ [])
follows_behind l lane [] records index look flow o = refl
follows_behind l lane (Slow l' index' look' flow' o' ∷ k) records index look flow o = refl
follows_behind l lane (x ∷ k) records index look flow o = refl

at_behind : (limits : Limits) (g : List Entry) (x : Entry) (k : List Entry) (lane : LaneNo) (records : List FastRecord) (index look : ℕ) (flow : Flow) (o : Outcome) → is_lively_at limits g x (k ++ Settle lane records ∷ Slow lane index look flow o ∷ []) ≡ is_lively_at limits g x (k ++ Settle lane records ∷ [])
at_behind limits g (Settle l rs) k lane records index look flow o =
    ap₂ (λ (a b : Bool). not (nat_lt (length rs) 64) || a || b) (follows_behind l lane k records index look flow o) (last_behind l lane k records index look flow o)
at_behind limits g x k lane records index look flow o = refl

or_true : (a b c : Bool) → b ≡ true → (a || b || c) ≡ true
or_true true true true p = refl
or_true true true false p = refl
or_true true false c p = cc
or_true false true true p = refl
or_true false true false p = refl
or_true false false c p = cc

or_last : (a b : Bool) → (a || b || true) ≡ true
or_last true true = refl
or_last true false = refl
or_last false true = refl
or_last false false = refl

lively_from_behind : (limits : Limits) (g k : List Entry) (lane : LaneNo) (records : List FastRecord) (index look : ℕ) (flow : Flow) (o : Outcome) → lively_from limits g (k ++ Settle lane records ∷ Slow lane index look flow o ∷ []) ≡ (lively_from limits g (k ++ Settle lane records ∷ []) && is_lively_at limits (g ++ (k ++ Settle lane records ∷ [])) (Slow lane index look flow o) [])
lively_from_behind limits g [] lane records index look flow o =
    let full = not (nat_lt (length records) 64) in
    let slow = is_lively_at limits (g ++ Settle lane records ∷ []) (Slow lane index look flow o) [] in
    let with_slow : (full || (lane.0 == lane.0) || is_last_in_phase lane (Slow lane index look flow o ∷ [])) ≡ true =
    or_true full (lane.0 == lane.0) (is_last_in_phase lane (Slow lane index look flow o ∷ [])) (eq-eqb lane.0 lane.0 refl) in
    let alone : (full || false || true) ≡ true = or_last full false in
    ap₂ (λ (a b : Bool). a && b) with_slow (and_true slow)
    ∙ sym (ap (λ (a : Bool). (a && true) && slow) alone)
lively_from_behind limits g (x ∷ k) lane records index look flow o =
    let s = Settle lane records ∷ [] in
    let w = Slow lane index look flow o in
    let more : lively_from limits (g ++ x ∷ []) (k ++ Settle lane records ∷ w ∷ []) ≡ (lively_from limits (g ++ x ∷ []) (k ++ s) && is_lively_at limits (g ++ x ∷ (k ++ s)) w []) =
    lively_from_behind limits (g ++ x ∷ []) k lane records index look flow o
    ∙ ap (λ (h : List Entry). lively_from limits (g ++ x ∷ []) (k ++ s) && is_lively_at limits h w []) (append_snoc g x (k ++ s)) in
    ap₂ (λ (a b : Bool). a && b) (at_behind limits g x k lane records index look flow o) more
    ∙ and_assoc (is_lively_at limits g x (k ++ s)) (lively_from limits (g ++ x ∷ []) (k ++ s)) (is_lively_at limits (g ++ x ∷ (k ++ s)) w [])

-- A Slow directly behind a Settle of its lane adds what it owes itself.
pub lively_behind : (limits : Limits) (h : List Entry) (lane : LaneNo) (records : List FastRecord) (index look : ℕ) (flow : Flow) (o : Outcome) → lively_from limits [] (h ++ Settle lane records ∷ Slow lane index look flow o ∷ []) ≡ (lively_from limits [] (h ++ Settle lane records ∷ []) && is_lively_at limits (h ++ Settle lane records ∷ []) (Slow lane index look flow o) [])
lively_behind limits h lane records index look flow o = lively_from_behind limits [] h lane records index look flow o
