-- What one author's entries alone decide.
use Rattle.std.proofs.Common.{◌≡◌, ◌≢◌, ℕ, ◌+◌, ◌==◌, List, [], ◌∷◌, ◌++◌, length, Bool, true, false, cond, fold, sum_by, flat_map, refl, sym, ap, subst, ◌∙◌, arith, length-append, ne_eqb, add-zero, true≢false, if◌then◌else◌}
use Rattle.std.proofs.lemmas.List.Elements.{filter-append}
use Rattle.mr_base.specs.declared.numbers.DaemonNo.{DaemonNo}
use Rattle.mr_base.specs.declared.numbers.LaneNo.{LaneNo}
use Rattle.mr_model.specs.declared.entry.Entry.{Entry}
use Rattle.mr_model.specs.declared.entry.Entry.TheVariants.{Call, Slow, Settle, Tick, Recv, EndPhase}
use Rattle.mr_model.specs.declared.limits.Limits.{Limits}
use Rattle.mr_model.specs.Legal.{IsDaemon, IsLane, IsLegal, LegalFrom, Agrees}
use Rattle.mr_model.specs.Past.{is_end, is_of_lane, packets_in, phases, packets, index_after, last_index, look_after, last_look}
use Rattle.mr_authors.specs.Authors.{author, daemon_author, own}

pub own_append : (n : ℕ) (g h : List Entry) → own n (g ++ h) ≡ own n g ++ own n h
own_append n g h = filter-append (λ e. author e == n) g h

pub same_number : (n : ℕ) → (n == n) ≡ true
same_number n = grind arith

-- an entry of the author is one more
pub own_made : (n : ℕ) (h : List Entry) (e : Entry) → author e ≡ n → own n (h ++ e ∷ []) ≡ own n h ++ e ∷ []
own_made n h e is =
    let mine : own n (e ∷ []) ≡ e ∷ [] = subst (λ k. own k (e ∷ []) ≡ e ∷ []) is (rw (same_number (author e)) refl) in
    own_append n h (e ∷ []) ∙ ap (λ es. own n h ++ es) mine

-- What passes over the entries of others is the same over the entries of one author.
fold_step : {A : Type 0} (f : A → Entry → A) (n : ℕ) (e : Entry) (h : List Entry) (b : Bool) (a : A) → (b ≡ false → f a e ≡ a) → ((x : A) → fold f x (own n h) ≡ fold f x h) → fold f a (cond b (e ∷ own n h) (own n h)) ≡ fold f (f a e) h
fold_step f n e h true a skip rest = rest (f a e)
fold_step f n e h false a skip rest = rw (skip refl) (rest a)

pub fold_own : {A : Type 0} (f : A → Entry → A) (n : ℕ) → ((a : A) (e : Entry) → (author e == n) ≡ false → f a e ≡ a) → (a : A) (h : List Entry) → fold f a (own n h) ≡ fold f a h
fold_own f n skip a [] = refl
fold_own f n skip a (e ∷ h) = fold_step f n e h (author e == n) a (skip a e) (λ x. fold_own f n skip x h)

pub sum_own : (f : Entry → ℕ) (n : ℕ) → ((e : Entry) → (author e == n) ≡ false → f e ≡ 0) → (h : List Entry) → sum_by f (own n h) ≡ sum_by f h
sum_own f n skip h = fold_own (λ a e. a + f e) n (λ a e other. rw (skip e other) (add-zero a)) 0 h

flat_step : {X : Type 0} (f : Entry → List X) (n : ℕ) (e : Entry) (h : List Entry) (b : Bool) → (b ≡ false → f e ≡ []) → flat_map f (own n h) ≡ flat_map f h → flat_map f (cond b (e ∷ own n h) (own n h)) ≡ f e ++ flat_map f h
flat_step f n e h true skip rest = ap (λ s. f e ++ s) rest
flat_step f n e h false skip rest = rw (skip refl, rest) refl

pub flat_own : {X : Type 0} (f : Entry → List X) (n : ℕ) → ((e : Entry) → (author e == n) ≡ false → f e ≡ []) → (h : List Entry) → flat_map f (own n h) ≡ flat_map f h
flat_own f n skip [] = refl
flat_own f n skip (e ∷ h) = flat_step f n e h (author e == n) (skip e) (flat_own f n skip h)

-- a lane's packets
skips_packets : (lane : LaneNo) (e : Entry) → (author e == lane.0) ≡ false → (if is_of_lane lane e then packets_in e else 0) ≡ 0
skips_packets lane (Call d r reply released) other = refl
skips_packets lane (Slow l index look flow o) other = rw other refl
skips_packets lane (Settle l records) other = rw other refl
skips_packets lane (Tick d ms) other = refl
skips_packets lane (Recv d message) other = refl
skips_packets lane EndPhase other = refl

pub packets_own : (lane : LaneNo) (h : List Entry) → packets lane (own lane.0 h) ≡ packets lane h
packets_own lane h = sum_own (λ e. if is_of_lane lane e then packets_in e else 0) lane.0 (skips_packets lane) h

skips_index : (lane : LaneNo) (before : ℕ) (e : Entry) → (author e == lane.0) ≡ false → index_after lane before e ≡ before
skips_index lane before (Call d r reply released) other = refl
skips_index lane before (Slow l index look flow o) other = rw other refl
skips_index lane before (Settle l records) other = rw other refl
skips_index lane before (Tick d ms) other = refl
skips_index lane before (Recv d message) other = refl
skips_index lane before EndPhase other = refl

pub last_index_own : (lane : LaneNo) (h : List Entry) → last_index lane (own lane.0 h) ≡ last_index lane h
last_index_own lane h = fold_own (index_after lane) lane.0 (skips_index lane) 0 h

skips_look : (lane : LaneNo) (before : ℕ) (e : Entry) → (author e == lane.0) ≡ false → look_after lane before e ≡ before
skips_look lane before (Call d r reply released) other = refl
skips_look lane before (Slow l index look flow o) other = rw other refl
skips_look lane before (Settle l records) other = rw other refl
skips_look lane before (Tick d ms) other = refl
skips_look lane before (Recv d message) other = refl
skips_look lane before EndPhase other = refl

pub last_look_own : (lane : LaneNo) (h : List Entry) → last_look lane (own lane.0 h) ≡ last_look lane h
last_look_own lane h = fold_own (look_after lane) lane.0 (skips_look lane) 0 h

-- the ends of phases
skips_end : (e : Entry) → (author e == 0) ≡ false → ◌≡◌ {A = ℕ} (if is_end e then 1 else 0) 0
skips_end (Call d r reply released) other = refl
skips_end (Slow l index look flow o) other = refl
skips_end (Settle l records) other = refl
skips_end (Tick d ms) other = refl
skips_end (Recv d message) other = refl
skips_end EndPhase other = absurd (true≢false other)

pub phases_own : (h : List Entry) → phases (own 0 h) ≡ phases h
phases_own h = sum_own (λ e. if is_end e then 1 else 0) 0 skips_end h

-- nothing stands behind a history to which no author has added an entry
pub nothing_more : (h more : List Entry) → ((n : ℕ) → own n (h ++ more) ≡ own n h) → more ≡ []
nothing_more h [] same = refl
nothing_more h (e ∷ more) same =
    let n = author e in
    let mine : own n (e ∷ more) ≡ e ∷ own n more = rw (same_number n) refl in
    let lengths : length (own n h ++ e ∷ own n more) ≡ length (own n h) = ap length (ap (λ es. own n h ++ es) (sym mine) ∙ sym (own_append n h (e ∷ more)) ∙ same n) in
    absurd (omega (arith, lengths, length-append (own n h) (e ∷ own n more)))

-- In a legal history only the router and the limits' lanes and daemons have entries.
record IsNobody (limits : Limits) (n : ℕ) : Type 0 where
  not_router : n ≢ 0
  no_lane : (lane : LaneNo) → IsLane limits lane → lane.0 ≢ n
  no_daemon : (d : DaemonNo) → IsDaemon limits d → daemon_author d.0 ≢ n

not_by : (limits : Limits) (n : ℕ) → IsNobody limits n → (g : List Entry) (e : Entry) → Agrees limits g e → author e ≢ n
not_by limits n nobody g (Call d r reply released) a = nobody.no_daemon d a.control.daemon
not_by limits n nobody g (Slow l index look flow o) a = nobody.no_lane l a.lane_is
not_by limits n nobody g (Settle l records) a = nobody.no_lane l a.lane_is
not_by limits n nobody g (Tick d ms) a = nobody.no_daemon d a.daemon
not_by limits n nobody g (Recv d message) a = nobody.no_daemon d a.control.daemon
not_by limits n nobody g EndPhase a = λ is. nobody.not_router (sym is)

none_from : (limits : Limits) (n : ℕ) → IsNobody limits n → (g h : List Entry) → LegalFrom limits g h → own n h ≡ []
none_from limits n nobody g [] legal = refl
none_from limits n nobody g (e ∷ h) legal =
    let other : (author e == n) ≡ false = ne_eqb (author e) n (not_by limits n nobody g e legal.0) in
    rw other (none_from limits n nobody (g ++ e ∷ []) h legal.1)

pub none_of_nobody : (limits : Limits) (n : ℕ) (h : List Entry) → n ≢ 0 → ((lane : LaneNo) → IsLane limits lane → lane.0 ≢ n) → ((d : DaemonNo) → IsDaemon limits d → daemon_author d.0 ≢ n) → IsLegal limits h → own n h ≡ []
none_of_nobody limits n h not_router no_lane no_daemon legal =
    none_from limits n (record { not_router = not_router; no_lane = no_lane; no_daemon = no_daemon }) [] h legal
