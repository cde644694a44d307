-- In a legal history the unread reports are those that were pushed and not taken.
use Rattle.std.proofs.Common.{◌≡◌, ℕ, ◌+◌, ◌-◌, ◌≤◌, Bool, true, false, if◌then◌else◌, cond, Option, Some, None, List, [], ◌∷◌, ◌++◌, length, take, drop, count_by, refl, sym, ap, ap₂, ◌∙◌, arith, append_assoc, append-nil, length-append, length-drop, take_all, add-zero, subst, subst₂, ◌⊎◌, inl, inr}
use Rattle.std.proofs.lemmas.Bool.{cases_Bool}
use Rattle.std.proofs.Math.Seq.{append_snoc}
use Rattle.std.proofs.lemmas.List.{take-append-le, drop-append-le, drop-drop}
use Rattle.std.proofs.lemmas.List.Sums.{fold_push}
use Rattle.mr_base.specs.declared.errno.Errno.{Errno}
use Rattle.mr_base.specs.declared.numbers.DaemonNo.{DaemonNo}
use Rattle.mr_model.specs.declared.entry.Entry.{Entry}
use Rattle.mr_model.specs.declared.entry.Entry.TheVariants.{Call, Slow, Recv}
use Rattle.mr_model.specs.declared.entry.ReleasedId.{ReleasedId}
use Rattle.mr_model.specs.declared.limits.Limits.{Limits}
use Rattle.mr_model.specs.declared.message.MessageId.{MessageId}
use Rattle.mr_model.specs.declared.outcome.Outcome.TheVariants as outcome
use Rattle.mr_model.specs.declared.reply.Reply.TheVariants.{Good}
use Rattle.mr_model.specs.declared.request.Request.{Request}
use Rattle.mr_model.specs.declared.request.Request.TheVariants.{Finish}
use Rattle.mr_model.specs.Answer.{if_good, error_of}
use Rattle.mr_model.specs.Legal.{Agrees, LegalFrom, IsLegal, front, message_for}
use Rattle.mr_model.specs.State.{State, is_owner, step, called, granted, state}
use Rattle.mr_model.specs.Unread.{pushed_by, pushed, is_finish, behind_finish, up_to_finish, is_taking, unread}
use Rattle.mr_model.proofs.Stepping.{released_does}
use Rattle.mr_model.proofs.Pushing.{state_push}
use Rattle.mr_model.proofs.PushingLists.{pushed_push}

-- a good call that is no MRT_DONE, and the reports of the packets that it releases
called_unread : (limits : Limits) (s : State) (d : DaemonNo) (r : Request) (released : List ReleasedId) → is_finish (Call d r Good released) ≡ false → (called limits s d r Good released).unread ≡ s.unread ++ pushed_by limits s (Call d r Good released)
called_unread limits s d Finish released p = cc
called_unread limits s d r released p = (released_does (granted limits s d r) released).unread

-- an entry that takes no report and is no MRT_DONE only pushes
pub step_pushes : (limits : Limits) (s : State) (e : Entry) → is_finish e ≡ false → is_taking e ≡ false → (step limits s e).unread ≡ s.unread ++ pushed_by limits s e
step_pushes limits s (Call d r Good released) p q = called_unread limits s d r released p
step_pushes limits s (Slow lane index look flow outcome.Parked) p q = refl
step_pushes limits s (Slow lane index look flow o) p q = refl
step_pushes limits s (Recv d None) p q = sym (append-nil s.unread)
step_pushes limits s (Recv d (Some message)) p q = cc
step_pushes limits s e p q = sym (append-nil s.unread)

-- a good MRT_DONE releases nothing
if_good_nothing : (errno : Option Errno) → if_good errno [] ≡ []
if_good_nothing None = refl
if_good_nothing (Some errno) = refl

pub finish_unread : (limits : Limits) (g : List Entry) (e : Entry) → is_finish e ≡ true → Agrees limits g e → (step limits (state limits g) e).unread ≡ []
finish_unread limits g (Call d Finish Good released) p a =
    let none : released ≡ [] = a.releases ∙ if_good_nothing (error_of limits (state limits g) d Finish) in
    rw none refl
finish_unread limits g e p a = cc

none_of_none : (b : Bool) (ms : List MessageId) → ms ≡ [] → elim b as (λ x. Option MessageId) [ false ↦ None | true ↦ front ms ] ≡ None
none_of_none false ms p = refl
none_of_none true ms p = rw p refl

-- nothing is given where nothing is unread
nothing_given : (s : State) (d : DaemonNo) → s.unread ≡ [] → message_for s d ≡ None
nothing_given s d p = none_of_none (is_owner s d) s.unread p

-- a receive that takes a report finds one
taking_unread : (limits : Limits) (g : List Entry) (d : DaemonNo) (m : MessageId) → Agrees limits g (Recv d (Some m)) → 1 ≤ length (state limits g).unread
taking_unread limits g d m a = at_least (state limits g).unread refl
  where
    at_least : (ms : List MessageId) → (state limits g).unread ≡ ms → 1 ≤ length ms
    at_least [] p = let none = nothing_given (state limits g) d p in let gives = a.gives in cc
    at_least (x ∷ ms) p = omega arith

behind_push : (h : List Entry) (e : Entry) → behind_finish (h ++ e ∷ []) ≡ (if is_finish e then [] else behind_finish h ++ e ∷ [])
behind_push h e = fold_push _ [] h e

pub behind_finished : (h : List Entry) (e : Entry) → is_finish e ≡ true → behind_finish (h ++ e ∷ []) ≡ []
behind_finished h e p = behind_push h e ∙ ap (λ (b : Bool). if b then [] else behind_finish h ++ e ∷ []) p

pub behind_more : (h : List Entry) (e : Entry) → is_finish e ≡ false → behind_finish (h ++ e ∷ []) ≡ behind_finish h ++ e ∷ []
behind_more h e p = behind_push h e ∙ ap (λ (b : Bool). if b then [] else behind_finish h ++ e ∷ []) p

up_to_finished : (h : List Entry) (e : Entry) → is_finish e ≡ true → up_to_finish (h ++ e ∷ []) ≡ h ++ e ∷ []
up_to_finished h e p =
    ap (λ (b : List Entry). take (length (h ++ e ∷ []) - length b) (h ++ e ∷ [])) (behind_finished h e p)
    ∙ take_all _ (h ++ e ∷ []) (omega arith)

up_to_more : (h : List Entry) (e : Entry) → is_finish e ≡ false → up_to_finish (h ++ e ∷ []) ≡ up_to_finish h
up_to_more h e p =
    let more : length (h ++ e ∷ []) ≡ length h + 1 = length-append h (e ∷ []) in
    let behind : length (behind_finish h ++ e ∷ []) ≡ length (behind_finish h) + 1 = length-append (behind_finish h) (e ∷ []) in
    let place : length (h ++ e ∷ []) - length (behind_finish h ++ e ∷ []) ≡ length h - length (behind_finish h) = omega arith in
    ap (λ (b : List Entry). take (length (h ++ e ∷ []) - length b) (h ++ e ∷ [])) (behind_more h e p)
    ∙ ap (λ (n : ℕ). take n (h ++ e ∷ [])) place
    ∙ take-append-le (length h - length (behind_finish h)) h (e ∷ []) (omega arith)

splits_push : (h : List Entry) (e : Entry) → up_to_finish h ++ behind_finish h ≡ h → up_to_finish (h ++ e ∷ []) ++ behind_finish (h ++ e ∷ []) ≡ h ++ e ∷ []
splits_push h e s = by (cases_Bool (is_finish e))
  where
    by : (is_finish e ≡ true) ⊎ (is_finish e ≡ false) → up_to_finish (h ++ e ∷ []) ++ behind_finish (h ++ e ∷ []) ≡ h ++ e ∷ []
    by (inl p) = ap₂ (λ (x y : List Entry). x ++ y) (up_to_finished h e p) (behind_finished h e p) ∙ append-nil (h ++ e ∷ [])
    by (inr p) =
        ap₂ (λ (x y : List Entry). x ++ y) (up_to_more h e p) (behind_more h e p)
        ∙ sym (append_assoc (up_to_finish h) (behind_finish h) (e ∷ [])) ∙ ap (λ (k : List Entry). k ++ e ∷ []) s

splits_from : (g h : List Entry) → up_to_finish g ++ behind_finish g ≡ g → up_to_finish (g ++ h) ++ behind_finish (g ++ h) ≡ g ++ h
splits_from g [] s = rw append-nil s
splits_from g (e ∷ h) s = rw append_snoc at (splits_from (g ++ e ∷ []) h (splits_push g e s))

-- The entries up to the last good MRT_DONE and those behind it are all.
pub finish_splits : (h : List Entry) → up_to_finish h ++ behind_finish h ≡ h
finish_splits h = splits_from [] h refl

-- the reports of the state after h, against what was pushed behind the last good MRT_DONE
pub record ReadsRight (limits : Limits) (h : List Entry) : Type 0 where
  pub within : count_by is_taking (behind_finish h) ≤ length (pushed limits (up_to_finish h) (behind_finish h))
  pub reads : (state limits h).unread ≡ unread limits h

-- the same, where the history up to the last good MRT_DONE is u, and b stands behind it
record Parts (limits : Limits) (h u b : List Entry) : Type 0 where
  pub up_to : up_to_finish h ≡ u
  pub behind : behind_finish h ≡ b
  pub within : count_by is_taking b ≤ length (pushed limits u b)
  pub reads : (state limits h).unread ≡ drop (count_by is_taking b) (pushed limits u b)

right_of_parts : (limits : Limits) (h u b : List Entry) → Parts limits h u b → ReadsRight limits h
right_of_parts limits h u b p = record {
  within = subst₂ (λ (x y : List Entry). count_by is_taking y ≤ length (pushed limits x y)) (sym p.up_to) (sym p.behind) p.within;
  reads = p.reads ∙ sym (ap₂ (λ (x y : List Entry). drop (count_by is_taking y) (pushed limits x y)) p.up_to p.behind);
}

finish_parts : (limits : Limits) (h : List Entry) (e : Entry) → is_finish e ≡ true → Agrees limits h e → Parts limits (h ++ e ∷ []) (h ++ e ∷ []) []
finish_parts limits h e p a = record {
  up_to = up_to_finished h e p;
  behind = behind_finished h e p;
  within = omega arith;
  reads = ap (λ (s : State). s.unread) (state_push limits h e) ∙ finish_unread limits h e p a;
}

-- what is pushed up to one more entry, which is no MRT_DONE
pushed_more : (limits : Limits) (h : List Entry) (e : Entry) → pushed limits (up_to_finish h) (behind_finish h ++ e ∷ []) ≡ pushed limits (up_to_finish h) (behind_finish h) ++ pushed_by limits (state limits h) e
pushed_more limits h e =
    let u = up_to_finish h in
    let b = behind_finish h in
    pushed_push limits u b e ∙ ap (λ (k : List Entry). pushed limits u b ++ pushed_by limits (state limits k) e) (finish_splits h)

taken_more : (b : List Entry) (e : Entry) → count_by is_taking (b ++ e ∷ []) ≡ count_by is_taking b + cond (is_taking e) 1 0
taken_more b e = fold_push (λ n x. n + cond (is_taking x) 1 0) 0 b e

pushing_parts : (limits : Limits) (h : List Entry) (e : Entry) → ReadsRight limits h → is_finish e ≡ false → is_taking e ≡ false → Parts limits (h ++ e ∷ []) (up_to_finish h) (behind_finish h ++ e ∷ [])
pushing_parts limits h e r p q =
    let u = up_to_finish h in
    let b = behind_finish h in
    let k = count_by is_taking b in
    let old = pushed limits u b in
    let new = pushed_by limits (state limits h) e in
    let more : pushed limits u (b ++ e ∷ []) ≡ old ++ new = pushed_more limits h e in
    let taken : count_by is_taking (b ++ e ∷ []) ≡ k =
    taken_more b e ∙ ap (λ (t : Bool). k + cond t 1 0) q ∙ add-zero k in
    let long : length (old ++ new) ≡ length old + length new = length-append old new in
    let within : k ≤ length old = r.within in
    let reads : (state limits (h ++ e ∷ [])).unread ≡ drop k (old ++ new) =
    ap (λ (s : State). s.unread) (state_push limits h e) ∙ step_pushes limits (state limits h) e p q
    ∙ ap (λ (ms : List MessageId). ms ++ new) r.reads ∙ sym (drop-append-le k old new within) in
    let within_all : k ≤ length (old ++ new) = omega arith in
    record {
      up_to = up_to_more h e p;
      behind = behind_more h e p;
      within = subst₂ (λ (n : ℕ) (ms : List MessageId). n ≤ length ms) (sym taken) (sym more) within_all;
      reads = reads ∙ sym (ap₂ (λ (n : ℕ) (ms : List MessageId). drop n ms) taken more);
    }

taking_parts : (limits : Limits) (h : List Entry) (d : DaemonNo) (m : MessageId) → ReadsRight limits h → Agrees limits h (Recv d (Some m)) → Parts limits (h ++ Recv d (Some m) ∷ []) (up_to_finish h) (behind_finish h ++ Recv d (Some m) ∷ [])
taking_parts limits h d m r a =
    let e = Recv d (Some m) in
    let u = up_to_finish h in
    let b = behind_finish h in
    let k = count_by is_taking b in
    let old = pushed limits u b in
    let more : pushed limits u (b ++ e ∷ []) ≡ old = pushed_more limits h e ∙ append-nil old in
    let taken : count_by is_taking (b ++ e ∷ []) ≡ k + 1 = taken_more b e in
    let some : 1 ≤ length (drop k old) = subst (λ (ms : List MessageId). 1 ≤ length ms) r.reads (taking_unread limits h d m a) in
    let left : length (drop k old) ≡ length old - k = length-drop k old in
    let within : k + 1 ≤ length old = omega arith in
    let reads : (state limits (h ++ e ∷ [])).unread ≡ drop (k + 1) old =
    ap (λ (s : State). s.unread) (state_push limits h e) ∙ ap (λ (ms : List MessageId). drop 1 ms) r.reads ∙ drop-drop 1 k old in
    record {
      up_to = up_to_more h e refl;
      behind = behind_more h e refl;
      within = subst₂ (λ (n : ℕ) (ms : List MessageId). n ≤ length ms) (sym taken) (sym more) within;
      reads = reads ∙ sym (ap₂ (λ (n : ℕ) (ms : List MessageId). drop n ms) taken more);
    }

more_parts : (limits : Limits) (h : List Entry) (e : Entry) → ReadsRight limits h → Agrees limits h e → is_finish e ≡ false → Parts limits (h ++ e ∷ []) (up_to_finish h) (behind_finish h ++ e ∷ [])
more_parts limits h (Recv d (Some m)) r a p = taking_parts limits h d m r a
more_parts limits h e r a p = pushing_parts limits h e r p refl

right_push : (limits : Limits) (h : List Entry) (e : Entry) → ReadsRight limits h → Agrees limits h e → ReadsRight limits (h ++ e ∷ [])
right_push limits h e r a = by (cases_Bool (is_finish e))
  where
    by : (is_finish e ≡ true) ⊎ (is_finish e ≡ false) → ReadsRight limits (h ++ e ∷ [])
    by (inl p) = right_of_parts limits _ _ _ (finish_parts limits h e p a)
    by (inr p) = right_of_parts limits _ _ _ (more_parts limits h e r a p)

right_from : (limits : Limits) (g h : List Entry) → ReadsRight limits g → LegalFrom limits g h → ReadsRight limits (g ++ h)
right_from limits g [] r l = rw append-nil r
right_from limits g (e ∷ h) r l =
    rw append_snoc at (right_from limits (g ++ e ∷ []) h (right_push limits g e r l.0) l.1)

reads_right : (limits : Limits) (h : List Entry) → IsLegal limits h → ReadsRight limits h
reads_right limits h l = right_from limits [] h (record { within = omega arith; reads = refl }) l

pub unread_agrees : (limits : Limits) (h : List Entry) → IsLegal limits h → (state limits h).unread ≡ unread limits h
unread_agrees limits h l = (reads_right limits h l).reads

-- A legal history takes no more than was pushed.
pub taken_within : (limits : Limits) (h : List Entry) → IsLegal limits h → count_by is_taking (behind_finish h) ≤ length (pushed limits (up_to_finish h) (behind_finish h))
taken_within limits h l = (reads_right limits h l).within
