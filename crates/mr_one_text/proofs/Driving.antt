-- What a daemon with a routing machine asks next is told by what stands before it.
use Rattle.std.proofs.Common.{◌≡◌, ◌∙◌, ℕ, ◌==◌, ◌||◌, ◌⊎◌, inl, inr, Bool, true, false, if◌then◌else◌, Option, Some, None, List, [], ◌∷◌, ◌++◌, flat_map, refl, sym, ap, subst, append_assoc}
use Rattle.std.proofs.lemmas.List.Concat.{flat_map-append}
use Rattle.std.specs.List.{AllByRecursion, list_any}
use Rattle.mr_model.specs.Deeds.{Deed, Received}
use Rattle.mr_model.specs.Past.{is_end}
use Rattle.mr_model.specs.declared.entry.Entry.{Entry}
use Rattle.mr_model.specs.declared.entry.Entry.TheVariants.{Call, Slow, Settle, Tick, Recv, EndPhase}
use Rattle.mr_model.specs.declared.flow.Flow.{Flow}
use Rattle.mr_one_text.proofs.Heard.{IsHeard, slow_same_behind}
use Rattle.mr_one_text.proofs.Playing.{AsksSame, next_same}
use Rattle.mr_scenario.specs.declared.scenario.Phase.{Phase}
use Rattle.smc_core.specs.Machine.{Machine}
use Rattle.smc_daemon.specs.Courses.{Drives, DrivesFrom, IsCourse, machine_behind}
use Rattle.smc_daemon.specs.Deeds.{deeds_in, did, told_by}
use Rattle.smc_daemon.specs.Lines.{lines_in}

-- cuts at ends of phases

first_false : (b c : Bool) → (b || c) ≡ false → b ≡ false
first_false true c e = absurd (cc e)
first_false false c e = refl

rest_false : (b c : Bool) → (b || c) ≡ false → c ≡ false
rest_false true c e = absurd (cc e)
rest_false false c e = e

not_end : (x : Entry) (xs : List Entry) → x ≡ EndPhase → list_any is_end (x ∷ xs) ≡ false → ⊥
not_end x xs e p =
    let now : list_any is_end (EndPhase ∷ xs) ≡ false = subst (λ (y : Entry). list_any is_end (y ∷ xs) ≡ false) e p in
    absurd (cc now)

other_end : (e : Entry) → e ≡ EndPhase → is_end e ≡ false → ⊥
other_end e same p =
    let now : is_end EndPhase ≡ false = subst (λ (y : Entry). is_end y ≡ false) same p in
    absurd (cc now)

behind_first : (x : Entry) (xs : List Entry) → list_any is_end (x ∷ xs) ≡ false → list_any is_end xs ≡ false
behind_first x xs p = rest_false (is_end x) (list_any is_end xs) p

cut_same : (a b c d : List Entry) → list_any is_end a ≡ false → list_any is_end c ≡ false → a ++ EndPhase ∷ b ≡ c ++ EndPhase ∷ d → (a ≡ c) × (b ≡ d)
cut_same [] b [] d p q e = (refl, cc e)
cut_same [] b (x ∷ c) d p q e = absurd (not_end x c (cc e) q)
cut_same (x ∷ a) b [] d p q e = absurd (not_end x a (cc e) p)
cut_same (x ∷ a) b (y ∷ c) d p q e =
    let first : x ≡ y = cc e in
    let rest = cut_same a b c d (behind_first x a p) (behind_first y c q) (cc e) in
    (λ i. first i ∷ rest.0 i, rest.1)

within : (g : List Entry) (e : Entry) (h part rest : List Entry) → list_any is_end g ≡ false → is_end e ≡ false → g ++ e ∷ h ≡ part ++ EndPhase ∷ rest → (x : List Entry) × (part ≡ g ++ e ∷ x)
within [] e h [] rest p q eq = absurd (other_end e (cc eq) q)
within [] e h (y ∷ part) rest p q eq =
    let same : y ≡ e = cc eq in
    (part, ap (λ (z : Entry). z ∷ part) same)
within (z ∷ g) e h [] rest p q eq = absurd (not_end z g (cc eq) p)
within (z ∷ g) e h (y ∷ part) rest p q eq =
    let same : y ≡ z = cc eq in
    let more = within g e h part rest (behind_first z g p) q (cc eq) in
    (more.0, λ i. same i ∷ more.1 i)

record Cut (g : List Entry) : Type 0 where
  pub front : List Entry
  pub behind : List Entry
  pub splits : g ≡ front ++ EndPhase ∷ behind
  pub clean : list_any is_end front ≡ false

end_is : (e : Entry) → is_end e ≡ true → e ≡ EndPhase
end_is EndPhase p = refl
end_is (Call d r reply released) p = absurd (cc p)
end_is (Slow l i look flow o) p = absurd (cc p)
end_is (Settle l rs) p = absurd (cc p)
end_is (Tick d ms) p = absurd (cc p)
end_is (Recv d m) p = absurd (cc p)

split_end : (g : List Entry) → (list_any is_end g ≡ false) ⊎ Cut g
split_end [] = inl refl
split_end (e ∷ g) = by (is_end e) refl (split_end g)
  where
    by : (b : Bool) → is_end e ≡ b → (list_any is_end g ≡ false) ⊎ Cut g → (list_any is_end (e ∷ g) ≡ false) ⊎ Cut (e ∷ g)
    by true p more = inr (record { front = []; behind = g; splits = ap (λ (x : Entry). x ∷ g) (end_is e p); clean = refl })
    by false p (inl clean) = inl (rw p clean)
    by false p (inr c) = inr (record { front = e ∷ c.front; behind = c.behind; splits = ap (λ (xs : List Entry). e ∷ xs) c.splits; clean = rw p c.clean })

-- what was done stays, where more stands behind

deed_same : (d : ℕ) (all more : List Entry) (e : Entry) → IsHeard all e → deeds_in d (all ++ more) e ≡ deeds_in d all e
deed_same d all more (Recv c (Some m)) a = ap (λ (o : Option Flow). if c.0 == d then Received (Some (told_by m o)) ∷ [] else []) (slow_same_behind all more m.lane m.index a)
deed_same d all more (Recv c None) a = refl
deed_same d all more (Call c r rep released) a = refl
deed_same d all more (Slow l i look flow o) a = refl
deed_same d all more (Settle l rs) a = refl
deed_same d all more (Tick c ms) a = refl
deed_same d all more EndPhase a = refl

deeds_same : (d : ℕ) (all more es : List Entry) → AllByRecursion (IsHeard all) es → flat_map (deeds_in d (all ++ more)) es ≡ flat_map (deeds_in d all) es
deeds_same d all more [] a = refl
deeds_same d all more (e ∷ es) a =
    let first = deed_same d all more e a.0 in
    let rest = deeds_same d all more es a.1 in
    (λ i. first i ++ rest i)

-- what was done in a part that goes on with this deed
did_is : (d : ℕ) (before g : List Entry) (e : Entry) (x : List Entry) (deed : Deed) → AllByRecursion (IsHeard (before ++ g)) g → ((all : List Entry) → deeds_in d all e ≡ deed ∷ [])
    → did d before (g ++ e ∷ x) ≡ flat_map (deeds_in d (before ++ g)) g ++ deed ∷ flat_map (deeds_in d (before ++ (g ++ e ∷ x))) x
did_is d before g e x deed heard makes =
    let all = before ++ (g ++ e ∷ x) in
    let front : flat_map (deeds_in d all) g ≡ flat_map (deeds_in d (before ++ g)) g =
    ap (λ (es : List Entry). flat_map (deeds_in d es) g) (sym (append_assoc before g (e ∷ x))) ∙ deeds_same d (before ++ g) (e ∷ x) g heard in
    flat_map-append (deeds_in d all) g (e ∷ x) ∙ (λ i. front i ++ (makes all i ++ flat_map (deeds_in d all) x))

none_there : (g : List Entry) (e : Entry) (h : List Entry) → g ++ e ∷ h ≡ [] → ⊥
none_there [] e h p = absurd (cc p)
none_there (x ∷ g) e h p = absurd (cc p)

heard_last : (P : Entry → Type 0) (xs : List Entry) (y : Entry) (ys : List Entry) → AllByRecursion P (xs ++ y ∷ ys) → AllByRecursion P ys
heard_last P [] y ys a = a.1
heard_last P (x ∷ xs) y ys a = heard_last P xs y ys a.1

-- the entry e stands in a phase that begins with the daemon's machine m
abbrev Later : ℕ → List Phase → List Entry → List Entry → Entry → Entry → Type 0 → Type 0
Later d ps h k e f Result = (n : Machine) (so_far g : List Entry) → DrivesFrom d n so_far ps (g ++ e ∷ h) → DrivesFrom d n so_far ps (g ++ f ∷ k) → AllByRecursion (IsHeard (so_far ++ g)) g → Result

next_in : (d : ℕ) (m : Machine) (before : List Entry) (p : Phase) (ps : List Phase) (g h k : List Entry) (e f : Entry) (x y : Deed) → (list_any is_end g ≡ false) ⊎ Cut g
    → DrivesFrom d m before (p ∷ ps) (g ++ e ∷ h) → DrivesFrom d m before (p ∷ ps) (g ++ f ∷ k) → AllByRecursion (IsHeard (before ++ g)) g → is_end e ≡ false → is_end f ≡ false
    → ((all : List Entry) → deeds_in d all e ≡ x ∷ []) → ((all : List Entry) → deeds_in d all f ≡ y ∷ []) → Later d ps h k e f (AsksSame x y) → AsksSame x y
next_in d m before p ps g h k e f x y (inl clean) (part, rest, splits, no_end, drives, later) (part', rest', splits', no_end', drives', later') heard ee ff ex fy more =
    let w = within g e h part rest clean ee splits in
    let w' = within g f k part' rest' clean ff splits' in
    let mine : Drives d m p before (g ++ e ∷ w.0) = subst (λ (es : List Entry). Drives d m p before es) w.1 drives in
    let other : Drives d m p before (g ++ f ∷ w'.0) = subst (λ (es : List Entry). Drives d m p before es) w'.1 drives' in
    next_same m (lines_in d p) (flat_map (deeds_in d (before ++ g)) g) _ _ x y
    (subst (IsCourse m (lines_in d p)) (did_is d before g e w.0 x heard ex) mine) (subst (IsCourse m (lines_in d p)) (did_is d before g f w'.0 y heard fy) other)
next_in d m before p ps g h k e f x y (inr c) (part, rest, splits, no_end, drives, later) (part', rest', splits', no_end', drives', later') heard ee ff ex fy more =
    let so_far = before ++ c.front ++ EndPhase ∷ [] in
    let n = machine_behind d m p before c.front in
    let here = cut_same part rest c.front (c.behind ++ e ∷ h) no_end c.clean (sym splits ∙ ap (λ (es : List Entry). es ++ e ∷ h) c.splits ∙ append_assoc c.front (EndPhase ∷ c.behind) (e ∷ h)) in
    let here' = cut_same part' rest' c.front (c.behind ++ f ∷ k) no_end' c.clean (sym splits' ∙ ap (λ (es : List Entry). es ++ f ∷ k) c.splits ∙ append_assoc c.front (EndPhase ∷ c.behind) (f ∷ k)) in
    let mine : DrivesFrom d n so_far ps (c.behind ++ e ∷ h) =
    subst (λ (es : List Entry). DrivesFrom d n so_far ps es) here.1 (subst (λ (es : List Entry). DrivesFrom d (machine_behind d m p before es) (before ++ es ++ EndPhase ∷ []) ps rest) here.0 later) in
    let other : DrivesFrom d n so_far ps (c.behind ++ f ∷ k) =
    subst (λ (es : List Entry). DrivesFrom d n so_far ps es) here'.1 (subst (λ (es : List Entry). DrivesFrom d (machine_behind d m p before es) (before ++ es ++ EndPhase ∷ []) ps rest') here'.0 later') in
    let all : before ++ g ≡ so_far ++ c.behind =
    ap (λ (es : List Entry). before ++ es) c.splits ∙ ap (λ (es : List Entry). before ++ es) (sym (append_assoc c.front (EndPhase ∷ []) c.behind)) ∙ sym (append_assoc before (c.front ++ EndPhase ∷ []) c.behind)
    ∙ ap (λ (es : List Entry). es ++ c.behind) (sym (append_assoc before c.front (EndPhase ∷ []))) in
    let cut : AllByRecursion (IsHeard (before ++ g)) (c.front ++ EndPhase ∷ c.behind) = subst (AllByRecursion (IsHeard (before ++ g))) c.splits heard in
    more n so_far c.behind mine other (subst (λ (es : List Entry). AllByRecursion (IsHeard es) c.behind) all (heard_last (IsHeard (before ++ g)) c.front EndPhase c.behind cut))

-- Two histories that a machine drove and that are the same up to an entry of its daemon: there the same is asked.
pub drives_next : (d : ℕ) (m : Machine) (before : List Entry) (ps : List Phase) (g h k : List Entry) (e f : Entry) (x y : Deed) → is_end e ≡ false → is_end f ≡ false
    → ((all : List Entry) → deeds_in d all e ≡ x ∷ []) → ((all : List Entry) → deeds_in d all f ≡ y ∷ []) → DrivesFrom d m before ps (g ++ e ∷ h) → DrivesFrom d m before ps (g ++ f ∷ k) → AllByRecursion (IsHeard (before ++ g)) g → AsksSame x y
drives_next d m before [] g h k e f x y ee ff ex fy a b heard = absurd (none_there g e h a)
drives_next d m before (p ∷ ps) g h k e f x y ee ff ex fy a b heard =
    next_in d m before p ps g h k e f x y (split_end g) a b heard ee ff ex fy (λ n so_far q. drives_next d n so_far ps q h k e f x y ee ff ex fy)
