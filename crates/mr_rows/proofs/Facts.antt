-- Where no entry of a history gives a packet a fate, none of them is that of one.
use Rattle.std.proofs.Common.{◌≡◌, ℕ, ◌||◌, Bool, true, false, if◌then◌else◌, Some, None, is_some, ◌⊎◌, inl, inr, List, [], ◌∷◌, ◌++◌, refl, ap, ◌∙◌, append-nil}
use Rattle.std.proofs.lemmas.Bool.{or_left, or_right}
use Rattle.std.proofs.Math.Seq.{append_snoc}
use Rattle.mr_base.specs.declared.numbers.LaneNo.{LaneNo}
use Rattle.mr_model.specs.declared.ending.Fate.{Fate}
use Rattle.mr_model.specs.declared.ending.Fate.TheVariants.{Released, Expired, Flushed, Waiting}
use Rattle.mr_model.specs.declared.entry.Entry.{Entry}
use Rattle.mr_model.specs.declared.limits.Limits.{Limits}
use Rattle.mr_model.specs.Fate.{releases, expires, flushes, FateBy, IsMet, fate_in}

-- whether one of the entries h behind g gives the packet a fate
abbrev pub any_gives : Limits → List Entry → List Entry → LaneNo → ℕ → Bool
any_gives limits g [] lane index = false
any_gives limits g (e ∷ h) lane index = is_some (fate_in limits g e lane index) || any_gives limits (g ++ e ∷ []) h lane index

gives_some : (a b c : Bool) (x y z : Fate) → (a ≡ true) ⊎ ((b ≡ true) ⊎ (c ≡ true)) → is_some (if a then Some x else (if b then Some y else (if c then Some z else None))) ≡ true
gives_some true b c x y z p = refl
gives_some false true c x y z p = refl
gives_some false false true x y z p = refl
gives_some false false false x y z (inl p) = cc
gives_some false false false x y z (inr (inl p)) = cc
gives_some false false false x y z (inr (inr p)) = cc

by_gives : (limits : Limits) (g : List Entry) (e : Entry) (lane : LaneNo) (index : ℕ) (f : Fate) → FateBy limits g e lane index f → is_some (fate_in limits g e lane index) ≡ true
by_gives limits g e lane index (Released n) b = gives_some (releases e lane index) (expires limits g e lane index) (flushes limits g e lane index) _ _ _ (inl b.1)
by_gives limits g e lane index (Expired n) b = gives_some (releases e lane index) (expires limits g e lane index) (flushes limits g e lane index) _ _ _ (inr (inl b.1))
by_gives limits g e lane index (Flushed n) b = gives_some (releases e lane index) (expires limits g e lane index) (flushes limits g e lane index) _ _ _ (inr (inr b.1))
by_gives limits g e lane index Waiting b = absurd b

met_gives : (limits : Limits) (g front : List Entry) (e : Entry) (behind : List Entry) (lane : LaneNo) (index : ℕ) (f : Fate) → FateBy limits (g ++ front) e lane index f → any_gives limits g (front ++ e ∷ behind) lane index ≡ true
met_gives limits g [] e behind lane index f b =
    or_left (is_some (fate_in limits g e lane index)) _ (by_gives limits g e lane index f (rw append-nil at b))
met_gives limits g (x ∷ front) e behind lane index f b =
    or_right (is_some (fate_in limits g x lane index)) _ (met_gives limits (g ++ x ∷ []) front e behind lane index f (rw append_snoc b))

pub none_met : (limits : Limits) (h : List Entry) (lane : LaneNo) (index : ℕ) (f : Fate) → any_gives limits [] h lane index ≡ false → IsMet limits h lane index f → ⊥
none_met limits h lane index f none m =
    let some : any_gives limits [] h lane index ≡ true =
    ap (λ (k : List Entry). any_gives limits [] k lane index) m.whole ∙ met_gives limits [] m.front m.entry m.behind lane index f m.by in
    cc
