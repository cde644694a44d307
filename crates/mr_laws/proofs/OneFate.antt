-- Of each packet that was parked one fate holds, the one that the history gives it.
use Rattle.std.proofs.Common.{◌≡◌, ℕ, ◌<◌, ◌≤◌, ◌||◌, Bool, true, false, Option, Some, None, unwrap_or, List, [], ◌∷◌, ◌++◌, refl, sym, ap, subst, ◌∙◌, ◌⊎◌, inl, inr, arith, append_assoc, append-nil}
use Rattle.std.proofs.lemmas.Bool.{ltb-true, lt-ltb, or_right}
use Rattle.std.proofs.Math.Seq.{append_snoc}
use Rattle.std.specs.List.{list_any}
use Rattle.mr_base.specs.declared.numbers.LaneNo.{LaneNo}
use Rattle.mr_model.specs.declared.ending.Fate.{Fate}
use Rattle.mr_model.specs.declared.ending.Fate.TheVariants.{Released, Expired, Flushed, Waiting}
use Rattle.mr_model.specs.declared.entry.Entry.{Entry}
use Rattle.mr_model.specs.declared.entry.Entry.TheVariants.{Call, Tick}
use Rattle.mr_model.specs.declared.limits.Limits.{Limits}
use Rattle.mr_model.specs.declared.reply.Reply.TheVariants.{Good}
use Rattle.mr_model.specs.declared.request.Request.TheVariants.{Finish, Flush}
use Rattle.mr_model.specs.Fate.{releases, expires, flushes, FateBy, IsMet, IsFate, fate_in, fate, parks, was_parked}
use Rattle.mr_model.specs.Laws.{fate_after}
use Rattle.mr_model.specs.Legal.{Agrees, IsLegal}
use Rattle.mr_model.specs.Past.{last_index}
use Rattle.mr_model.specs.Waiting.{waiting}
use Rattle.mr_model.specs.WaitingList.{is_waiting}
use Rattle.mr_model.proofs.Induction.{legal_induction, good_released, index_rises}
use Rattle.mr_model.proofs.Pushing.{legal_front, legal_at}
use Rattle.mr_model.proofs.PushingFates.{fate_push}
use Rattle.mr_laws.proofs.Counting.{waiting_times}
use Rattle.mr_laws.proofs.Keys.{keys_differ}
use Rattle.mr_laws.proofs.Moving.{count, Stays, Leaves, Moves, moves, released_fate, expired_fate, flushed_fate, not_named}

-- what a legal history knows of a packet: it waits once at most, and not before its index has come
pub record Known (limits : Limits) (h : List Entry) (lane : LaneNo) (index : ℕ) : Type 0 where
  pub once : count limits h lane index ≤ 1
  pub past : last_index lane h < index → count limits h lane index ≡ 0
  pub fresh : last_index lane h < index → fate limits h lane index ≡ Waiting
  pub waits : 1 ≤ count limits h lane index → fate limits h lane index ≡ Waiting
  pub parked : 1 ≤ count limits h lane index → was_parked h lane index ≡ true

any_push : {X : Type 0} (test : X → Bool) (xs : List X) (x : X) → list_any test (xs ++ x ∷ []) ≡ (list_any test xs || test x)
any_push test [] x = by (test x)
  where
    by : (b : Bool) → (b || false) ≡ b
    by true = refl
    by false = refl
any_push test (y ∷ ys) x = ap (λ (b : Bool). test y || b) (any_push test ys x) ∙ by (test y) (list_any test ys) (test x)
  where
    by : (a b c : Bool) → (a || (b || c)) ≡ ((a || b) || c)
    by true b c = refl
    by false b c = refl

any_front : {X : Type 0} (test : X → Bool) (xs ys : List X) → list_any test xs ≡ true → list_any test (xs ++ ys) ≡ true
any_front test [] ys p = cc
any_front test (x ∷ xs) ys p = by (test x) p (any_front test xs ys)
  where
    by : (b : Bool) → (b || list_any test xs) ≡ true → (list_any test xs ≡ true → list_any test (xs ++ ys) ≡ true) → (b || list_any test (xs ++ ys)) ≡ true
    by true q more = refl
    by false q more = more q

still_waits : (f : Fate) (next : Option Fate) → f ≡ Waiting → next ≡ None → fate_after f next ≡ Waiting
still_waits f next p q = rw (p, q) refl

not_both : (n : ℕ) → 1 ≤ n → n ≡ 0 → ⊥
not_both n p q = omega (arith, p, q)

known_step : (limits : Limits) (g : List Entry) (e : Entry) (lane : LaneNo) (index : ℕ) → Agrees limits g e → Known limits g lane index → Moves limits g e lane index → Known limits (g ++ e ∷ []) lane index
known_step limits g e lane index a k (inl s) =
    let rises : last_index lane g ≤ last_index lane (g ++ e ∷ []) = index_rises limits g e lane a in
    let same : count limits (g ++ e ∷ []) lane index ≡ count limits g lane index = s.same in
    let once : count limits g lane index ≤ 1 = k.once in
    record {
      once = omega (arith, same, once);
      past = λ p. same ∙ k.past (omega (arith, p, rises));
      fresh = λ p. fate_push limits g e lane index ∙ still_waits _ _ (k.fresh (omega (arith, p, rises))) s.none;
      waits = λ p. fate_push limits g e lane index ∙ still_waits _ _ (k.waits (omega (arith, p, same))) s.none;
      parked = λ p. any_front _ g (e ∷ []) (k.parked (omega (arith, p, same)));
    }
known_step limits g e lane index a k (inr (inl s)) =
    let rises : last_index lane g ≤ last_index lane (g ++ e ∷ []) = index_rises limits g e lane a in
    let gone : count limits (g ++ e ∷ []) lane index ≡ 0 = s.gone in
    let waited : count limits g lane index ≡ 1 = s.waited in
    let late : last_index lane (g ++ e ∷ []) < index → ⊥ = λ p. let none = k.past (omega (arith, p, rises)) in omega (arith, none, waited) in
    record {
      once = omega (arith, gone);
      past = λ p. gone;
      fresh = λ p. absurd (late p);
      waits = λ p. absurd (not_both _ p gone);
      parked = λ p. absurd (not_both _ p gone);
    }
known_step limits g e lane index a k (inr (inr s)) =
    let last : last_index lane (g ++ e ∷ []) ≡ index = s.last in
    let waits : count limits (g ++ e ∷ []) lane index ≡ 1 = s.waits in
    let not_past : last_index lane (g ++ e ∷ []) < index → ⊥ = λ p. omega (arith, p, last) in
    record {
      once = omega (arith, waits);
      past = λ p. omega (arith, p, last);
      fresh = λ p. absurd (not_past p);
      waits = λ p. fate_push limits g e lane index ∙ still_waits _ _ (k.fresh s.rises) s.none;
      parked = λ p. any_push (λ x. parks x lane index) g e ∙ or_right (was_parked g lane index) (parks e lane index) s.parked;
    }

moves_by : (limits : Limits) (g : List Entry) (e : Entry) (lane : LaneNo) (index : ℕ) → IsLegal limits g → Agrees limits g e → Known limits g lane index → Moves limits g e lane index
moves_by limits g e lane index legal a k = moves limits g e lane index k.once k.past (keys_differ limits g legal) a

pub legal_known : (limits : Limits) (lane : LaneNo) (index : ℕ) (h : List Entry) → IsLegal limits h → Known limits h lane index
legal_known limits lane index h l =
    legal_induction limits (λ g. Known limits g lane index) (record { once = omega arith; past = λ p. refl; fresh = λ p. refl; waits = λ p. refl; parked = λ p. absurd (not_both 0 p refl) })
    (λ g e legal a k. known_step limits g e lane index a k (moves_by limits g e lane index legal a k)) h l

-- What an entry that agrees does to a packet in a legal history.
pub legal_moves : (limits : Limits) (g : List Entry) (e : Entry) (lane : LaneNo) (index : ℕ) → IsLegal limits g → Agrees limits g e → Moves limits g e lane index
legal_moves limits g e lane index legal a = moves_by limits g e lane index legal a (legal_known limits lane index g legal)

-- whether a packet waits, by how often it does
waits_once : (limits : Limits) (h : List Entry) (lane : LaneNo) (index : ℕ) → is_waiting (waiting limits h) lane index ≡ true → 1 ≤ count limits h lane index
waits_once limits h lane index p =
    let some : 0 < count limits h lane index = ltb-true 0 (count limits h lane index) (sym (waiting_times lane index (waiting limits h)) ∙ p) in
    omega (arith, some)

once_waits : (limits : Limits) (h : List Entry) (lane : LaneNo) (index : ℕ) → 1 ≤ count limits h lane index → is_waiting (waiting limits h) lane index ≡ true
once_waits limits h lane index p =
    waiting_times lane index (waiting limits h) ∙ lt-ltb 0 (count limits h lane index) (omega (arith, p))

-- An entry that is that of a fate gives it: it is that of no fate which comes before.
expires_alone : (limits : Limits) (g : List Entry) (e : Entry) (lane : LaneNo) (index : ℕ) → expires limits g e lane index ≡ true → releases e lane index ≡ false
expires_alone limits g (Tick d ms) lane index p = refl
expires_alone limits g e lane index p = cc

flushes_alone : (limits : Limits) (g : List Entry) (e : Entry) (lane : LaneNo) (index : ℕ) → Agrees limits g e → flushes limits g e lane index ≡ true → (releases e lane index ≡ false) × (expires limits g e lane index ≡ false)
flushes_alone limits g (Call d Finish Good ids) lane index a p = (not_named ids lane index (good_released limits g d Finish ids a), refl)
flushes_alone limits g (Call d (Flush bits) Good ids) lane index a p = (not_named ids lane index (good_released limits g d (Flush bits) ids a), refl)
flushes_alone limits g (Call d r Good ids) lane index a p = cc
flushes_alone limits g (Call d Finish reply ids) lane index a p = cc
flushes_alone limits g (Call d (Flush bits) reply ids) lane index a p = cc
flushes_alone limits g (Call d r reply ids) lane index a p = cc
flushes_alone limits g e lane index a p = cc

pub fate_is_given : (limits : Limits) (g : List Entry) (e : Entry) (lane : LaneNo) (index : ℕ) (f : Fate) → Agrees limits g e → FateBy limits g e lane index f → fate_in limits g e lane index ≡ Some f
fate_is_given limits g e lane index (Released n) a b =
    released_fate limits g e lane index b.1 ∙ ap (λ (m : ℕ). Some (Released m)) (sym b.0)
fate_is_given limits g e lane index (Expired n) a b =
    expired_fate limits g e lane index (expires_alone limits g e lane index b.1) b.1 ∙ ap (λ (m : ℕ). Some (Expired m)) (sym b.0)
fate_is_given limits g e lane index (Flushed n) a b =
    let alone = flushes_alone limits g e lane index a b.1 in
    flushed_fate limits g e lane index alone.0 alone.1 b.1 ∙ ap (λ (m : ℕ). Some (Flushed m)) (sym b.0)
fate_is_given limits g e lane index Waiting a b = absurd b

-- a fate that no further entry changes
abbrev pub IsLast : Fate → Type 0
IsLast f = (next : Option Fate) → fate_after f next ≡ f

met_last : (limits : Limits) (g : List Entry) (e : Entry) (lane : LaneNo) (index : ℕ) (f : Fate) → FateBy limits g e lane index f → IsLast f
met_last limits g e lane index (Released n) b = λ next. refl
met_last limits g e lane index (Expired n) b = λ next. refl
met_last limits g e lane index (Flushed n) b = λ next. refl
met_last limits g e lane index Waiting b = absurd b

pub fate_lasts : (limits : Limits) (g h : List Entry) (lane : LaneNo) (index : ℕ) (f : Fate) → IsLast f → fate limits g lane index ≡ f → fate limits (g ++ h) lane index ≡ f
fate_lasts limits g [] lane index f last p = rw append-nil p
fate_lasts limits g (e ∷ h) lane index f last p =
    let next : fate limits (g ++ e ∷ []) lane index ≡ f =
    fate_push limits g e lane index ∙ ap (λ (x : Fate). fate_after x (fate_in limits g e lane index)) p ∙ last (fate_in limits g e lane index) in
    rw append_snoc at (fate_lasts limits (g ++ e ∷ []) h lane index f last next)

-- where an entry gives a fate the packet waited
given_waited : (limits : Limits) (g : List Entry) (e : Entry) (lane : LaneNo) (index : ℕ) (f : Fate) → fate_in limits g e lane index ≡ Some f → Moves limits g e lane index → count limits g lane index ≡ 1
given_waited limits g e lane index f p (inl s) = let none = s.none in cc
given_waited limits g e lane index f p (inr (inl s)) = s.waited
given_waited limits g e lane index f p (inr (inr s)) = let none = s.none in cc

-- the fate of an entry within a legal history
met_is : (limits : Limits) (g : List Entry) (e : Entry) (k : List Entry) (lane : LaneNo) (index : ℕ) (f : Fate) → IsLegal limits (g ++ e ∷ k) → FateBy limits g e lane index f → (1 ≤ count limits g lane index) × (f ≡ fate limits (g ++ e ∷ k) lane index)
met_is limits g e k lane index f l b =
    let legal = legal_front limits g (e ∷ k) l in
    let a = legal_at limits g e k l in
    let given = fate_is_given limits g e lane index f a b in
    let waited : count limits g lane index ≡ 1 = given_waited limits g e lane index f given (legal_moves limits g e lane index legal a) in
    let some : 1 ≤ count limits g lane index = omega (arith, waited) in
    let here : fate limits (g ++ e ∷ []) lane index ≡ f =
    fate_push limits g e lane index ∙ gives (fate limits g lane index) (fate_in limits g e lane index) f ((legal_known limits lane index g legal).waits some) given in
    let all : fate limits (g ++ e ∷ k) lane index ≡ f = rw append_snoc at (fate_lasts limits (g ++ e ∷ []) k lane index f (met_last limits g e lane index f b) here) in
    (some, sym all)
  where
    gives : (x : Fate) (next : Option Fate) (y : Fate) → x ≡ Waiting → next ≡ Some y → fate_after x next ≡ y
    gives x next y p q = rw (p, q) refl

-- the packet was parked, and f is the fate that the history gives it
abbrev pub Only : Limits → LaneNo → ℕ → Fate → List Entry → Type 0
Only limits lane index f h = (was_parked h lane index ≡ true) × (f ≡ fate limits h lane index)

met_only : (limits : Limits) (h : List Entry) (lane : LaneNo) (index : ℕ) (f : Fate) → IsLegal limits h → IsMet limits h lane index f → Only limits lane index f h
met_only limits h lane index f l m =
    let legal : IsLegal limits (m.front ++ m.entry ∷ m.behind) = subst (λ (k : List Entry). IsLegal limits k) m.whole l in
    let is = met_is limits m.front m.entry m.behind lane index f legal m.by in
    let was = any_front (λ e. parks e lane index) m.front (m.entry ∷ m.behind) ((legal_known limits lane index m.front (legal_front limits m.front (m.entry ∷ m.behind) legal)).parked is.0) in
    let both : Only limits lane index f (m.front ++ m.entry ∷ m.behind) = (was, is.1) in
    subst (λ (k : List Entry). Only limits lane index f k) (sym m.whole) both

pub fate_only : (limits : Limits) (h : List Entry) (lane : LaneNo) (index : ℕ) (f : Fate) → IsLegal limits h → IsFate limits h lane index f → Only limits lane index f h
fate_only limits h lane index Waiting l is =
    let k = legal_known limits lane index h l in
    let some = waits_once limits h lane index is in
    (k.parked some, sym (k.waits some))
fate_only limits h lane index (Released n) l is = met_only limits h lane index (Released n) l is
fate_only limits h lane index (Expired n) l is = met_only limits h lane index (Expired n) l is
fate_only limits h lane index (Flushed n) l is = met_only limits h lane index (Flushed n) l is

-- a fate stays with one more entry
met_push : (limits : Limits) (g : List Entry) (e : Entry) (lane : LaneNo) (index : ℕ) (f : Fate) → IsMet limits g lane index f → IsMet limits (g ++ e ∷ []) lane index f
met_push limits g e lane index f m = record {
  front = m.front;
  entry = m.entry;
  behind = m.behind ++ e ∷ [];
  whole = ap (λ (k : List Entry). k ++ e ∷ []) m.whole ∙ append_assoc m.front (m.entry ∷ m.behind) (e ∷ []);
  by = m.by;
}

met_here : (limits : Limits) (g : List Entry) (e : Entry) (lane : LaneNo) (index : ℕ) (f : Fate) → FateBy limits g e lane index f → IsFate limits (g ++ e ∷ []) lane index f
met_here limits g e lane index (Released n) b = record { front = g; entry = e; behind = []; whole = refl; by = b }
met_here limits g e lane index (Expired n) b = record { front = g; entry = e; behind = []; whole = refl; by = b }
met_here limits g e lane index (Flushed n) b = record { front = g; entry = e; behind = []; whole = refl; by = b }
met_here limits g e lane index Waiting b = absurd b

abbrev Has : Limits → LaneNo → ℕ → List Entry → Type 0
Has limits lane index h = IsFate limits h lane index (fate limits h lane index)

-- one more entry that does not park the packet
has_step : (limits : Limits) (g : List Entry) (e : Entry) (lane : LaneNo) (index : ℕ) (f : Fate) → f ≡ fate limits g lane index → IsFate limits g lane index f → Stays limits g e lane index ⊎ Leaves limits g e lane index → Has limits lane index (g ++ e ∷ [])
has_step limits g e lane index Waiting p is (inl s) =
    let after : fate limits (g ++ e ∷ []) lane index ≡ Waiting = fate_push limits g e lane index ∙ still_waits _ _ (sym p) s.none in
    let some : 1 ≤ count limits g lane index = waits_once limits g lane index is in
    let same : count limits (g ++ e ∷ []) lane index ≡ count limits g lane index = s.same in
    let waits = once_waits limits (g ++ e ∷ []) lane index (omega (arith, some, same)) in
    subst (λ (x : Fate). IsFate limits (g ++ e ∷ []) lane index x) (sym after) waits
has_step limits g e lane index Waiting p is (inr s) =
    let after : fate limits (g ++ e ∷ []) lane index ≡ s.fate =
    fate_push limits g e lane index ∙ ap (λ (x : Fate). fate_after x (fate_in limits g e lane index)) (sym p) ∙ ap (λ (x : Option Fate). unwrap_or x Waiting) s.gives in
    subst (λ (x : Fate). IsFate limits (g ++ e ∷ []) lane index x) (sym after) (met_here limits g e lane index s.fate s.by)
has_step limits g e lane index (Released n) p is m =
    let after : fate limits (g ++ e ∷ []) lane index ≡ Released n =
    fate_push limits g e lane index ∙ ap (λ (x : Fate). fate_after x (fate_in limits g e lane index)) (sym p) in
    subst (λ (x : Fate). IsFate limits (g ++ e ∷ []) lane index x) (sym after) (met_push limits g e lane index (Released n) is)
has_step limits g e lane index (Expired n) p is m =
    let after : fate limits (g ++ e ∷ []) lane index ≡ Expired n =
    fate_push limits g e lane index ∙ ap (λ (x : Fate). fate_after x (fate_in limits g e lane index)) (sym p) in
    subst (λ (x : Fate). IsFate limits (g ++ e ∷ []) lane index x) (sym after) (met_push limits g e lane index (Expired n) is)
has_step limits g e lane index (Flushed n) p is m =
    let after : fate limits (g ++ e ∷ []) lane index ≡ Flushed n =
    fate_push limits g e lane index ∙ ap (λ (x : Fate). fate_after x (fate_in limits g e lane index)) (sym p) in
    subst (λ (x : Fate). IsFate limits (g ++ e ∷ []) lane index x) (sym after) (met_push limits g e lane index (Flushed n) is)

not_here : (a b : Bool) → (a || b) ≡ true → b ≡ false → a ≡ true
not_here true b p q = refl
not_here false b p q = cc

has_push : (limits : Limits) (g : List Entry) (e : Entry) (lane : LaneNo) (index : ℕ) → IsLegal limits g → Agrees limits g e → Moves limits g e lane index → (was_parked g lane index ≡ true → Has limits lane index g) → was_parked (g ++ e ∷ []) lane index ≡ true → Has limits lane index (g ++ e ∷ [])
has_push limits g e lane index legal a (inl s) more p =
    let before : was_parked g lane index ≡ true = not_here (was_parked g lane index) (parks e lane index) (sym (any_push (λ x. parks x lane index) g e) ∙ p) s.not_parked in
    has_step limits g e lane index (fate limits g lane index) refl (more before) (inl s)
has_push limits g e lane index legal a (inr (inl s)) more p =
    let before : was_parked g lane index ≡ true = not_here (was_parked g lane index) (parks e lane index) (sym (any_push (λ x. parks x lane index) g e) ∙ p) s.not_parked in
    has_step limits g e lane index (fate limits g lane index) refl (more before) (inr s)
has_push limits g e lane index legal a (inr (inr s)) more p =
    let waits : count limits (g ++ e ∷ []) lane index ≡ 1 = s.waits in
    let some : 1 ≤ count limits (g ++ e ∷ []) lane index = omega (arith, waits) in
    let after = known_step limits g e lane index a (legal_known limits lane index g legal) (inr (inr s)) in
    subst (λ (x : Fate). IsFate limits (g ++ e ∷ []) lane index x) (sym (after.waits some)) (once_waits limits (g ++ e ∷ []) lane index some)

pub fate_has : (limits : Limits) (lane : LaneNo) (index : ℕ) (h : List Entry) → IsLegal limits h → was_parked h lane index ≡ true → IsFate limits h lane index (fate limits h lane index)
fate_has limits lane index h l =
    legal_induction limits (λ g. was_parked g lane index ≡ true → Has limits lane index g) (λ p. cc)
    (λ g e legal a more. has_push limits g e lane index legal a (legal_moves limits g e lane index legal a) more) h l
