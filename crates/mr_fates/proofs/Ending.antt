-- The lines of a history with one more entry.
use Rattle.std.proofs.Common.{◌≡◌, ℕ, Option, None, List, [], ◌∷◌, ◌++◌, map, refl, ap, ◌∙◌}
use Rattle.mr_base.specs.declared.numbers.LaneNo.{LaneNo}
use Rattle.mr_model.specs.declared.ending.Fate.{Fate}
use Rattle.mr_model.specs.declared.ending.Fate.TheVariants.{Released, Expired, Flushed, Waiting}
use Rattle.mr_model.specs.declared.ending.FateLine.{FateLine}
use Rattle.mr_model.specs.declared.entry.Entry.{Entry}
use Rattle.mr_model.specs.declared.entry.Entry.TheVariants.{Slow}
use Rattle.mr_model.specs.declared.limits.Limits.{Limits}
use Rattle.mr_model.specs.declared.outcome.Outcome.TheVariants.{Parked}
use Rattle.mr_model.specs.Fate.{fate_in, fate, fates_of, fates}
use Rattle.mr_model.specs.Laws.{fate_after}
use Rattle.mr_model.specs.Legal.{Agrees, IsLegal}
use Rattle.mr_model.proofs.PushingFates.{fate_push}
use Rattle.mr_laws.proofs.OneFate.{legal_known}
use Rattle.mr_fates.specs.After.{line_after, lines_parked}

-- each line gets what the entry makes of its packet
pub fates_more : (limits : Limits) (h es : List Entry) (e : Entry)
    → fates_of limits (h ++ e ∷ []) es ≡ map (line_after limits h e) (fates_of limits h es)
fates_more limits h [] e = refl
fates_more limits h (Slow lane index look flow Parked ∷ es) e =
    let line : Fate → FateLine = λ f. record { lane = lane; index = index; fate = f } in
    ap (λ (f : Fate). line f ∷ fates_of limits (h ++ e ∷ []) es) (fate_push limits h e lane index)
    ∙ ap (λ (ls : List FateLine). line (fate_after (fate limits h lane index) (fate_in limits h e lane index)) ∷ ls) (fates_more limits h es e)
fates_more limits h (x ∷ es) e = fates_more limits h es e

-- the line of the last entry stands last
pub fates_end : (limits : Limits) (k h : List Entry) (e : Entry)
    → fates_of limits k (h ++ e ∷ []) ≡ fates_of limits k h ++ fates_of limits k (e ∷ [])
fates_end limits k [] e = refl
fates_end limits k (Slow lane index look flow Parked ∷ h) e =
    ap (λ (ls : List FateLine). record { lane = lane; index = index; fate = fate limits k lane index } ∷ ls) (fates_end limits k h e)
fates_end limits k (x ∷ h) e = fates_end limits k h e

pub fates_both : (limits : Limits) (h : List Entry) (e : Entry)
    → fates limits (h ++ e ∷ []) ≡ map (line_after limits h e) (fates limits h) ++ fates_of limits (h ++ e ∷ []) (e ∷ [])
fates_both limits h e =
    fates_end limits (h ++ e ∷ []) h e
    ∙ ap (λ (ls : List FateLine). ls ++ fates_of limits (h ++ e ∷ []) (e ∷ [])) (fates_more limits h h e)

-- a packet waits right after it was parked
pub fates_last : (limits : Limits) (h : List Entry) (e : Entry) → IsLegal limits h
    → Agrees limits h e → fates_of limits (h ++ e ∷ []) (e ∷ []) ≡ lines_parked e
fates_last limits h (Slow lane index look flow Parked) l a =
    let line : Fate → FateLine = λ f. record { lane = lane; index = index; fate = f } in
    ap (λ (f : Fate). line f ∷ [])
    (fate_push limits h (Slow lane index look flow Parked) lane index
    ∙ ap (λ (f : Fate). fate_after f None) ((legal_known limits lane index h l).fresh a.next))
fates_last limits h e l a = refl

pub fates_push : (limits : Limits) (h : List Entry) (e : Entry) → IsLegal limits h
    → Agrees limits h e
    → fates limits (h ++ e ∷ []) ≡ map (line_after limits h e) (fates limits h) ++ lines_parked e
fates_push limits h e l a =
    fates_both limits h e ∙ ap (λ (ls : List FateLine). map (line_after limits h e) (fates limits h) ++ ls) (fates_last limits h e l a)

pub after_none : (f : Fate) → fate_after f None ≡ f
after_none (Released n) = refl
after_none (Expired n) = refl
after_none (Flushed n) = refl
after_none Waiting = refl

-- an entry that gives no fate changes no line
pub lines_stay : (limits : Limits) (h : List Entry) (e : Entry) (lines : List FateLine)
    → ((lane : LaneNo) (index : ℕ) → fate_in limits h e lane index ≡ None)
    → map (line_after limits h e) lines ≡ lines
lines_stay limits h e [] none = refl
lines_stay limits h e (f ∷ lines) none =
    let line : Fate → FateLine = λ x. record { lane = f.lane; index = f.index; fate = x } in
    ap (λ (x : Fate). line x ∷ map (line_after limits h e) lines)
    (ap (λ (o : Option Fate). fate_after f.fate o) (none f.lane f.index) ∙ after_none f.fate)
    ∙ ap (λ (ls : List FateLine). f ∷ ls) (lines_stay limits h e lines none)
