-- Induction over legal histories, and what an entry that agrees says of what it releases and of its index.
use Rattle.std.proofs.Common.{◌≡◌, ℕ, ◌≤◌, ◌==◌, Bool, true, false, if◌then◌else◌, Option, Some, None, List, [], ◌∷◌, ◌++◌, fold, refl, sym, ap, ◌∙◌, subst, ◌⊎◌, inl, inr, arith, append-nil}
use Rattle.std.proofs.lemmas.Bool.{eqb-true}
use Rattle.std.proofs.Math.Seq.{append_snoc}
use Rattle.mr_base.specs.declared.errno.Errno.{Errno}
use Rattle.mr_base.specs.declared.numbers.Addr.{Addr}
use Rattle.mr_base.specs.declared.numbers.DaemonNo.{DaemonNo}
use Rattle.mr_base.specs.declared.numbers.LaneNo.{LaneNo}
use Rattle.mr_model.specs.declared.entry.Entry.{Entry}
use Rattle.mr_model.specs.declared.entry.Entry.TheVariants.{Slow, Settle}
use Rattle.mr_model.specs.declared.entry.FastRecord.{FastRecord}
use Rattle.mr_model.specs.declared.entry.ReleasedId.{ReleasedId}
use Rattle.mr_model.specs.declared.limits.Limits.{Limits}
use Rattle.mr_model.specs.declared.reply.Reply.{Reply}
use Rattle.mr_model.specs.declared.reply.Reply.TheVariants.{Good}
use Rattle.mr_model.specs.declared.request.Request.{Request}
use Rattle.mr_model.specs.declared.request.Request.TheVariants.{AddMfc, AddProxy}
use Rattle.mr_model.specs.Answer.{error_of, value_of, or_refused, if_good, released_in}
use Rattle.mr_model.specs.Legal.{Agrees, CallAgrees, RecordsAgree, LegalFrom, IsLegal}
use Rattle.mr_model.specs.Past.{index_after, last_index}
use Rattle.mr_model.specs.State.{State, state, step}
use Rattle.mr_model.proofs.Pushing.{legal_push, state_push}
use Rattle.mr_model.proofs.PushingLists.{last_index_push}

-- what holds of g holds of g and the entries h behind it, where each entry that agrees keeps it
pub legal_from : (limits : Limits) (P : List Entry → Type 0) → ((g : List Entry) (e : Entry) → IsLegal limits g → Agrees limits g e → P g → P (g ++ e ∷ [])) → (g h : List Entry) → IsLegal limits g → P g → LegalFrom limits g h → P (g ++ h)
legal_from limits P more g [] legal p l = rw append-nil p
legal_from limits P more g (e ∷ h) legal p l =
    rw append_snoc at (legal_from limits P more (g ++ e ∷ []) h (legal_push limits g e legal l.0) (more g e legal l.0 p) l.1)

-- What holds of the empty history, and still after one more entry that agrees, holds of each legal history.
pub legal_induction : (limits : Limits) (P : List Entry → Type 0) → P [] → ((g : List Entry) (e : Entry) → IsLegal limits g → Agrees limits g e → P g → P (g ++ e ∷ [])) → (h : List Entry) → IsLegal limits h → P h
legal_induction limits P none more h l = legal_from limits P more [] h tt none l

-- the same of the state, by its steps
pub state_induction : (limits : Limits) (P : State → Type 0) → P (state limits []) → ((g : List Entry) (e : Entry) → IsLegal limits g → Agrees limits g e → P (state limits g) → P (step limits (state limits g) e)) → (h : List Entry) → IsLegal limits h → P (state limits h)
state_induction limits P none more h l =
    legal_induction limits (λ g. P (state limits g)) none
    (λ g e legal a p. subst (λ (s : State). P s) (sym (state_push limits g e)) (more g e legal a p)) h l

-- A good call was not refused, and releases what the state says; any other releases nothing.
good_by : (errno : Option Errno) (value : Reply) (released rs : List ReleasedId) → Good ≡ or_refused errno value → released ≡ if_good errno rs → released ≡ rs
good_by None value released rs p q = q
good_by (Some errno) value released rs p q = cc

pub good_released : (limits : Limits) (g : List Entry) (d : DaemonNo) (r : Request) (released : List ReleasedId) → CallAgrees limits g d r Good released → released ≡ released_in limits (state limits g) d r
good_released limits g d r released a =
    good_by (error_of limits (state limits g) d r) (value_of g (state limits g) r) released _ a.replies a.releases

not_refused : (errno : Option Errno) (value : Reply) → Good ≡ or_refused errno value → errno ≡ None
not_refused None value p = refl
not_refused (Some errno) value p = cc

pub good_granted : (limits : Limits) (g : List Entry) (d : DaemonNo) (r : Request) (released : List ReleasedId) → CallAgrees limits g d r Good released → error_of limits (state limits g) d r ≡ None
good_granted limits g d r released a =
    not_refused (error_of limits (state limits g) d r) (value_of g (state limits g) r) a.replies

-- a request either answers good or releases nothing
bad_by : (errno : Option Errno) (reply value : Reply) (released rs : List ReleasedId) → (reply ≡ Good → ⊥) → reply ≡ or_refused errno value → released ≡ if_good errno rs → (value ≡ Good) ⊎ (rs ≡ []) → released ≡ []
bad_by (Some errno) reply value released rs bad p q w = q
bad_by None reply value released rs bad p q (inl good) = absurd (bad (p ∙ good))
bad_by None reply value released rs bad p q (inr none) = q ∙ none

good_or_none : (limits : Limits) (g : List Entry) (s : State) (d : DaemonNo) (r : Request) → (value_of g s r ≡ Good) ⊎ (released_in limits s d r ≡ [])
good_or_none limits g s d (AddMfc c) = inl refl
good_or_none limits g s d (AddProxy c) = inl refl
good_or_none limits g s d r = inr refl

pub bad_released : (limits : Limits) (g : List Entry) (d : DaemonNo) (r : Request) (reply : Reply) (released : List ReleasedId) → (reply ≡ Good → ⊥) → CallAgrees limits g d r reply released → released ≡ []
bad_released limits g d r reply released bad a =
    bad_by (error_of limits (state limits g) d r) reply (value_of g (state limits g) r) released (released_in limits (state limits g) d r)
    bad a.replies a.releases (good_or_none limits g (state limits g) d r)

-- the index of the last of some records that agree is no less than that before them
records_rise : (limits : Limits) (g : List Entry) (index least : ℕ) (rs : List FastRecord) → RecordsAgree limits g index least rs → index ≤ fold (λ b r. r.index) index rs
records_rise limits g index least [] a = omega arith
records_rise limits g index least (r ∷ rs) a =
    let more : r.index ≤ fold (λ b r. r.index) r.index rs = records_rise limits g r.index r.look rs a.4 in
    omega (arith, a.0, more)

-- lanes of one number are one, and addresses too
pub same_lane : (l m : LaneNo) → (l.0 == m.0) ≡ true → l ≡ m
same_lane l m p =
    let named : ℕ → LaneNo = λ n. record { 0 = n } in
    ap named (eqb-true l.0 m.0 p)

pub same_addr : (a b : Addr) → (a.0 == b.0) ≡ true → a ≡ b
same_addr a b p =
    let named : ℕ → Addr = λ n. record { 0 = n } in
    ap named (eqb-true a.0 b.0 p)

-- A lane's last index never falls.
after_rises : (own : Bool) (before after : ℕ) → (own ≡ true → before ≤ after) → before ≤ (if own then after else before)
after_rises true before after p = p refl
after_rises false before after p = omega arith

index_after_rises : (limits : Limits) (g : List Entry) (e : Entry) (lane : LaneNo) → Agrees limits g e → last_index lane g ≤ index_after lane (last_index lane g) e
index_after_rises limits g (Slow l index look flow o) lane a =
    after_rises (l.0 == lane.0) (last_index lane g) index (λ own.
    subst (λ (m : LaneNo). last_index m g ≤ index) (same_lane l lane own) (omega (arith, a.next)))
index_after_rises limits g (Settle l records) lane a =
    after_rises (l.0 == lane.0) (last_index lane g) _ (λ own.
    subst (λ (m : LaneNo). last_index m g ≤ fold (λ b r. r.index) (last_index m g) records) (same_lane l lane own)
    (records_rise limits g (last_index l g) _ records a.all))
index_after_rises limits g e lane a = omega arith

pub index_rises : (limits : Limits) (g : List Entry) (e : Entry) (lane : LaneNo) → Agrees limits g e → last_index lane g ≤ last_index lane (g ++ e ∷ [])
index_rises limits g e lane a =
    let after : last_index lane (g ++ e ∷ []) ≡ index_after lane (last_index lane g) e = last_index_push lane g e in
    let rises : last_index lane g ≤ index_after lane (last_index lane g) e = index_after_rises limits g e lane a in
    omega (arith, after, rises)
