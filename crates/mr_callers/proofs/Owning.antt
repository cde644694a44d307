-- What a caller's own entries have is what the whole history has of it.
use Rattle.std.proofs.Common.{◌≡◌, ◌≢◌, ◌∙◌, ℕ, ◌+◌, ◌==◌, Bool, true, false, cond, List, [], ◌∷◌, ◌++◌, refl, ap, arith}
use Rattle.std.specs.Prelude.{flat_map}
use Rattle.std.specs.List.{AllByRecursion, list_any}
use Rattle.mr_authors.specs.Authors.{author, own}
use Rattle.mr_load.specs.Made.{asked_in, sent_in}
use Rattle.mr_model.specs.declared.entry.Entry.{Entry}
use Rattle.mr_model.specs.declared.entry.Entry.TheVariants.{Call, Slow, Settle, Tick, Recv, EndPhase}
use Rattle.mr_model.specs.Past.{is_end}
use Rattle.smc_daemon.specs.Deeds.{deeds_in}

shifted : (a b : ℕ) → (16 + a == 16 + b) ≡ false → (a == b) ≡ false
shifted a b t = grind arith

-- an entry of another caller sends nothing of a lane
pub sent_none : (lane : ℕ) (e : Entry) → (author e == lane) ≡ false → sent_in lane e ≡ []
sent_none lane (Call d request reply released) t = refl
sent_none lane (Slow l index look flow o) t = rw t refl
sent_none lane (Settle l records) t = rw t refl
sent_none lane (Tick d ms) t = refl
sent_none lane (Recv d message) t = refl
sent_none lane EndPhase t = refl

-- an entry of another caller asks nothing of a daemon
pub asked_none : (d : ℕ) (e : Entry) → (author e == 16 + d) ≡ false → asked_in d e ≡ []
asked_none d (Call c request reply released) t = rw (shifted c.0 d t) refl
asked_none d (Slow l index look flow o) t = refl
asked_none d (Settle l records) t = refl
asked_none d (Tick c ms) t = rw (shifted c.0 d t) refl
asked_none d (Recv c message) t = rw (shifted c.0 d t) refl
asked_none d EndPhase t = refl

-- an entry of another caller is nothing that a daemon did
pub deeds_none : (d : ℕ) (h : List Entry) (e : Entry) → (author e == 16 + d) ≡ false → deeds_in d h e ≡ []
deeds_none d h (Call c request reply released) t = rw (shifted c.0 d t) refl
deeds_none d h (Slow l index look flow o) t = refl
deeds_none d h (Settle l records) t = refl
deeds_none d h (Tick c ms) t = rw (shifted c.0 d t) refl
deeds_none d h (Recv c message) t = rw (shifted c.0 d t) refl
deeds_none d h EndPhase t = refl

-- what entries have by f, which gives nothing of others' entries, is what the caller's own have
pub flat_own : {A : Type 0} (f : Entry → List A) (n : ℕ) → ((e : Entry) → (author e == n) ≡ false → f e ≡ []) → (h : List Entry) → flat_map f (own n h) ≡ flat_map f h
flat_own f n none [] = refl
flat_own {A} f n none (e ∷ h) = by_test (author e == n) refl (flat_own f n none h)
  where
    by_test : (b : Bool) → (author e == n) ≡ b → flat_map f (own n h) ≡ flat_map f h → flat_map f (cond b (e ∷ own n h) (own n h)) ≡ f e ++ flat_map f h
    by_test true t rest = ap (λ (xs : List A). f e ++ xs) rest
    by_test false t rest = rest ∙ rw (none e t) refl

end_author : (e : Entry) → (author e == 0) ≡ false → is_end e ≡ false
end_author (Call d request reply released) t = refl
end_author (Slow l index look flow o) t = refl
end_author (Settle l records) t = refl
end_author (Tick d ms) t = refl
end_author (Recv d message) t = refl
end_author EndPhase t = absurd (cc)

-- where 0 has no entry no phase ends
pub no_ends : (h : List Entry) → own 0 h ≡ [] → list_any is_end h ≡ false
no_ends [] t = refl
no_ends (e ∷ h) t = by_test (author e == 0) refl t (no_ends h)
  where
    by_test : (b : Bool) → (author e == 0) ≡ b → cond b (e ∷ own 0 h) (own 0 h) ≡ [] → (own 0 h ≡ [] → list_any is_end h ≡ false) → list_any is_end (e ∷ h) ≡ false
    by_test true u none rest = absurd (cc)
    by_test false u none rest = rw (end_author e u) (rest none)

other_number : (a m n : ℕ) → a ≡ n → m ≢ n → (a == m) ≡ false
other_number a m n e other = grind arith

-- of entries of one caller another has none
pub own_other : (n m : ℕ) → m ≢ n → (part : List Entry) → AllByRecursion (λ e. author e ≡ n) part → own m part ≡ []
own_other n m other [] a = refl
own_other n m other (e ∷ part) a = rw (other_number (author e) m n a.0 other) (own_other n m other part a.1)
