-- What one more entry does to the state, and to whether a history is legal.
use Rattle.std.proofs.Common.{◌≡◌, ◌+◌, List, [], ◌∷◌, ◌++◌, length, arith, append-nil}
use Rattle.std.proofs.Math.Seq.{append_snoc}
use Rattle.std.proofs.lemmas.List.Sums.{fold_push}
use Rattle.std.specs.List.{fold}
use Rattle.mr_model.specs.declared.entry.Entry.{Entry}
use Rattle.mr_model.specs.declared.limits.Limits.{Limits}
use Rattle.mr_model.specs.State.{State, first_state, step, state}
use Rattle.mr_model.proofs.Stepping.{step_count}
use Rattle.mr_model.specs.Legal.{Agrees, LegalFrom, IsLegal}

pub state_push : (limits : Limits) (h : List Entry) (e : Entry) → state limits (h ++ e ∷ []) ≡ step limits (state limits h) e
state_push limits h e = fold_push (step limits) first_state h e

pub count_from : (limits : Limits) (s : State) (h : List Entry) → (fold (step limits) s h).count ≡ s.count + length h
count_from limits s [] = omega arith
count_from limits s (e ∷ h) =
    let more : (fold (step limits) (step limits s e) h).count ≡ (step limits s e).count + length h = count_from limits (step limits s e) h in
    let one : (step limits s e).count ≡ s.count + 1 = step_count limits s e in
    omega arith

pub state_count : (limits : Limits) (h : List Entry) → (state limits h).count ≡ length h
state_count limits h =
    let all : (state limits h).count ≡ 0 + length h = count_from limits first_state h in
    omega arith

-- the entries behind g, with one more
pub legal_from_push : (limits : Limits) (g h : List Entry) (e : Entry) → LegalFrom limits g h → Agrees limits (g ++ h) e → LegalFrom limits g (h ++ e ∷ [])
legal_from_push limits g [] e l a = (rw append-nil at a, tt)
legal_from_push limits g (x ∷ h) e l a = (l.0, legal_from_push limits (g ++ x ∷ []) h e l.1 (rw append_snoc a))

pub legal_push : (limits : Limits) (h : List Entry) (e : Entry) → IsLegal limits h → Agrees limits h e → IsLegal limits (h ++ e ∷ [])
legal_push limits h e l a = legal_from_push limits [] h e l a

pub legal_from_front : (limits : Limits) (g h k : List Entry) → LegalFrom limits g (h ++ k) → LegalFrom limits g h
legal_from_front limits g [] k l = tt
legal_from_front limits g (x ∷ h) k l = (l.0, legal_from_front limits (g ++ x ∷ []) h k l.1)

pub legal_front : (limits : Limits) (g h : List Entry) → IsLegal limits (g ++ h) → IsLegal limits g
legal_front limits g h l = legal_from_front limits [] g h l

pub legal_from_behind : (limits : Limits) (g h k : List Entry) → LegalFrom limits g (h ++ k) → LegalFrom limits (g ++ h) k
legal_from_behind limits g [] k l = rw append-nil l
legal_from_behind limits g (x ∷ h) k l = rw append_snoc at (legal_from_behind limits (g ++ x ∷ []) h k l.1)

pub legal_at : (limits : Limits) (g : List Entry) (e : Entry) (h : List Entry) → IsLegal limits (g ++ e ∷ h) → Agrees limits g e
legal_at limits g e h l = (legal_from_behind limits [] g (e ∷ h) l).0
