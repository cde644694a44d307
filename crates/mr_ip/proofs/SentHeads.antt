-- The head with which a packet is sent on.
use Rattle.std.proofs.Common.{◌≡◌, ℕ, ◌+◌, ◌-◌, ◌*◌, ◌/◌, ◌%◌, ◌<◌, ◌≤◌, ◌≢◌, ◌==◌, ◌&&◌, ◌||◌, ◌∙◌, ap, sym, subst, refl, true, false, Bool, not, nat_lt, is_none, Option, Some, None, get_or-set_other, get_or-set_same, List, [], ◌∷◌, length, get_or, take, set, arith}
use Rattle.std.proofs.lemmas.Bool.Decides.{nat_tests}
use Rattle.std.proofs.lemmas.List.{length-set}
use Rattle.std.proofs.Math.Seq.{take-length}
use Rattle.mr_base.specs.Heads.{is_head, head_length, ones_sum, sent, two_at, four_at, with_two, is_multicast, is_link_local, is_bad_source}
use Rattle.mr_ip.specs.Sums.{carried, lowered, raised}
use Rattle.mr_ip.proofs.Checksums.{word_sum, ones_sum-word_sum, AreBytes-set, carried-whole}
use Rattle.mr_ip.proofs.Heads.{PassesEach, passes, is_head-passes, between}
use Rattle.mr_ip.proofs.Sums.{AreBytes}

-- the head with another TTL and checksum
abbrev pub changed : List ℕ → ℕ → ℕ → List ℕ
changed bs ttl checksum = with_two (set bs 8 ttl) 10 checksum

-- with zeros in the checksum's place
abbrev pub lower : List ℕ → List ℕ
lower bs = changed bs (get_or bs 8 0 - 1) 0

plain_sum : (bs : List ℕ) → AreBytes bs → ones_sum 0 bs ≡ carried (word_sum bs)
plain_sum bs all = let e : 0 + word_sum bs ≡ word_sum bs = omega arith in ones_sum-word_sum 0 bs all ∙ ap carried e

-- the sum of a whole head and the checksum, by the plain sum n of what is sent without its checksum
raised_is : (n c : ℕ) → 0 < n → c < 65536 → carried (n + (256 + c)) ≡ 65535 → 65535 - carried n ≡ raised c
raised_is n c some small e = grind (arith, nat_tests)

-- what a list of 12 numbers or more says of the plain sums
pub record Sums (bs : List ℕ) : Type 0 where
  pub whole : word_sum bs ≡ word_sum (lower bs) + (256 + two_at bs 10)
  pub filled : (n : ℕ) → word_sum (changed bs (get_or bs 8 0 - 1) n) ≡ word_sum (lower bs) + (n / 256 * 256 + n % 256)
  pub twice : (n : ℕ) → with_two (lower bs) 10 n ≡ changed bs (get_or bs 8 0 - 1) n
  pub some : 0 < word_sum (lower bs)

sums : (bs : List ℕ) → 12 ≤ length bs → 0 < get_or bs 8 0 → 0 < get_or bs 0 0 → Sums bs
sums [] long ttl first = absurd (omega arith)
sums (a ∷ []) long ttl first = absurd (omega arith)
sums (a ∷ b ∷ []) long ttl first = absurd (omega arith)
sums (a ∷ b ∷ c ∷ []) long ttl first = absurd (omega arith)
sums (a ∷ b ∷ c ∷ d ∷ []) long ttl first = absurd (omega arith)
sums (a ∷ b ∷ c ∷ d ∷ e ∷ []) long ttl first = absurd (omega arith)
sums (a ∷ b ∷ c ∷ d ∷ e ∷ f ∷ []) long ttl first = absurd (omega arith)
sums (a ∷ b ∷ c ∷ d ∷ e ∷ f ∷ g ∷ []) long ttl first = absurd (omega arith)
sums (a ∷ b ∷ c ∷ d ∷ e ∷ f ∷ g ∷ h ∷ []) long ttl first = absurd (omega arith)
sums (a ∷ b ∷ c ∷ d ∷ e ∷ f ∷ g ∷ h ∷ t ∷ []) long ttl first = absurd (omega arith)
sums (a ∷ b ∷ c ∷ d ∷ e ∷ f ∷ g ∷ h ∷ t ∷ p ∷ []) long ttl first = absurd (omega arith)
sums (a ∷ b ∷ c ∷ d ∷ e ∷ f ∷ g ∷ h ∷ t ∷ p ∷ x ∷ []) long ttl first = absurd (omega arith)
sums (a ∷ b ∷ c ∷ d ∷ e ∷ f ∷ g ∷ h ∷ t ∷ p ∷ x ∷ y ∷ bs) long ttl first = record {
  whole = omega arith;
  filled = λ n. omega arith;
  twice = λ n. refl;
  some = omega arith;
}

-- the tests of a head, and its fields
pub record Parts (bs : List ℕ) (total ttl src dst : ℕ) : Type 0 where
  pub each : PassesEach total bs
  pub long : length bs ≡ head_length bs
  pub two : two_at bs 2 ≡ total
  pub hops : get_or bs 8 0 ≡ ttl
  pub from : four_at bs 12 ≡ src
  pub to : four_at bs 16 ≡ dst

none : {A : Type 0} (o : Option A) → is_none o ≡ true → o ≡ None
none None e = refl
none (Some x) e = cc

both : (a b : Bool) → (a && b) ≡ true → (a ≡ true) × (b ≡ true)
both true true e = (refl, refl)
both true false e = cc
both false b e = cc

same : (m n : ℕ) → (m == n) ≡ true → m ≡ n
same m n e = grind (arith, nat_tests)

pub parts : (bs : List ℕ) (total ttl src dst : ℕ) → is_head bs total ttl src dst ≡ true → Parts bs total ttl src dst
unfolding is_head
parts bs total ttl src dst e =
    let a = both _ _ e in
    let b = both _ _ a.0 in
    let c = both _ _ b.0 in
    let d = both _ _ c.0 in
    let f = both _ _ d.0 in
    record {
      each = passes total bs (none _ f.0);
      long = same _ _ f.1;
      two = same _ _ d.1;
      hops = same _ _ c.1;
      from = same _ _ b.1;
      to = same _ _ a.1;
    }

other : (bs : List ℕ) (v n i : ℕ) → i ≢ 8 → i ≢ 10 → i ≢ 11 → get_or (changed bs v n) i 0 ≡ get_or bs i 0
other bs v n i e f g =
    get_or-set_other (set (set bs 8 v) 10 (n / 256)) 11 i (n % 256) 0 g
    ∙ get_or-set_other (set bs 8 v) 10 i (n / 256) 0 f
    ∙ get_or-set_other bs 8 i v 0 e

lowered_ttl : (bs : List ℕ) (v n : ℕ) → 8 < length bs → get_or (changed bs v n) 8 0 ≡ v
lowered_ttl bs v n h =
    get_or-set_other (set (set bs 8 v) 10 (n / 256)) 11 8 (n % 256) 0 (omega arith)
    ∙ get_or-set_other (set bs 8 v) 10 8 (n / 256) 0 (omega arith)
    ∙ get_or-set_same bs 8 v 0 h

version_is : (n : ℕ) → not (n / 16 == 4) ≡ false → n / 16 ≡ 4
version_is n e = grind (arith, nat_tests)

sum_is : (n : ℕ) → not (n == 65535) ≡ false → n ≡ 65535
sum_is n e = grind (arith, nat_tests)

long_changed : (bs : List ℕ) (v n : ℕ) → length (changed bs v n) ≡ length bs
long_changed bs v n =
    length-set (set (set bs 8 v) 10 (n / 256)) 11 (n % 256)
    ∙ length-set (set bs 8 v) 10 (n / 256) ∙ length-set bs 8 v

-- The checksum that is raised is the one from scratch, and the head sums to 65,535 again.
pub record IsSent (bs : List ℕ) : Type 0 where
  pub bytes : lowered bs ≡ sent bs
  pub sum : ones_sum 0 (lowered bs) ≡ 65535

pub is_sent : (bs : List ℕ) → 12 ≤ length bs → 0 < get_or bs 8 0 → 0 < get_or bs 0 0 → AreBytes bs → ones_sum 0 bs ≡ 65535 → IsSent bs
is_sent bs long ttl first all sum =
    let s = sums bs long ttl first in
    let low = lower bs in
    let v = get_or bs 8 0 - 1 in
    let c = two_at bs 10 in
    let t = all 8 in
    let hi = all 10 in
    let lo = all 11 in
    let all_low : AreBytes low =
    AreBytes-set (set (set bs 8 v) 10 0) 11 0 (AreBytes-set (set bs 8 v) 10 0 (AreBytes-set bs 8 v all (omega arith)) (omega arith)) (omega arith) in
    let below : ones_sum 0 low ≡ carried (word_sum low) = plain_sum low all_low in
    let whole : carried (word_sum low + (256 + c)) ≡ 65535 =
    ap carried (sym s.whole) ∙ sym (plain_sum bs all) ∙ sum in
    let is : 65535 - carried (word_sum low) ≡ raised c = raised_is (word_sum low) c s.some (omega arith) whole in
    let n = raised c in
    let small : n < 65536 = omega (arith, is) in
    let all_sent : AreBytes (changed bs v n) =
    AreBytes-set (set (set bs 8 v) 10 (n / 256)) 11 (n % 256)
    (AreBytes-set (set bs 8 v) 10 (n / 256) (AreBytes-set bs 8 v all (omega arith)) (omega arith)) (omega arith) in
    record {
      bytes = sym (s.twice n) ∙ ap (λ m. with_two low 10 m) (sym is ∙ ap (λ m. 65535 - m) (sym below));
      sum = plain_sum (changed bs v n) all_sent
          ∙ ap carried (s.filled n ∙ (let e : word_sum low + (n / 256 * 256 + n % 256) ≡ word_sum low + (65535 - carried (word_sum low)) = omega (arith, is) in e))
          ∙ carried-whole (word_sum low) s.some;
    }

-- what an accepted head's bytes are
pub record Accepted (bs : List ℕ) (ttl : ℕ) : Type 0 where
  pub enough : 20 ≤ length bs
  pub hops : get_or bs 8 0 ≡ ttl
  pub version : 1 ≤ get_or bs 0 0
  pub sum : ones_sum 0 bs ≡ 65535

pub accepted : (bs : List ℕ) (total ttl src dst : ℕ) → is_head bs total ttl src dst ≡ true → Accepted bs ttl
accepted bs total ttl src dst e =
    let p = parts bs total ttl src dst e in
    let q = p.each in
    let w = between 20 (head_length bs) total q.whole in
    let version = version_is (get_or bs 0 0) q.version in
    let begun : take (head_length bs) bs ≡ bs = rw (sym p.long) (take-length bs) in
    record {
      enough = omega (arith, p.long, w.0);
      hops = p.hops;
      version = omega (arith, version);
      sum = ap (ones_sum 0) (sym begun) ∙ sum_is _ q.sum;
    }

pub sent_is_head : (bs : List ℕ) (total ttl src dst : ℕ) → is_head bs total ttl src dst ≡ true
    → ones_sum 0 (lowered bs) ≡ 65535 → is_head (lowered bs) total (ttl - 1) src dst ≡ true
sent_is_head bs total ttl src dst e sum =
    let p = parts bs total ttl src dst e in
    let q = p.each in
    let ss = lowered bs in
    let v = get_or bs 8 0 - 1 in
    let n = raised (two_at bs 10) in
    let at : (i : ℕ) → i ≢ 8 → i ≢ 10 → i ≢ 11 → get_or ss i 0 ≡ get_or bs i 0 = λ i f g h. other bs v n i f g h in
    let first = at 0 (omega arith) (omega arith) (omega arith) in
    let enough = (accepted bs total ttl src dst e).enough in
    let head : head_length ss ≡ head_length bs = ap (λ b. 4 * (b % 16)) first in
    let long : length ss ≡ length bs = long_changed bs v n in
    let whole_sent : take (head_length ss) ss ≡ ss = rw (head, sym p.long, sym long) (take-length ss) in
    let two : two_at ss 2 ≡ two_at bs 2 =
    rw (at 2 (omega arith) (omega arith) (omega arith), at 3 (omega arith) (omega arith) (omega arith)) refl in
    let from : four_at ss 12 ≡ four_at bs 12 =
    rw (
      at 12 (omega arith) (omega arith) (omega arith),
      at 13 (omega arith) (omega arith) (omega arith),
      at 14 (omega arith) (omega arith) (omega arith),
      at 15 (omega arith) (omega arith) (omega arith),
    ) refl in
    let to : four_at ss 16 ≡ four_at bs 16 =
    rw (
      at 16 (omega arith) (omega arith) (omega arith),
      at 17 (omega arith) (omega arith) (omega arith),
      at 18 (omega arith) (omega arith) (omega arith),
      at 19 (omega arith) (omega arith) (omega arith),
    ) refl in
    let each : PassesEach total ss = record {
      long = q.long;
      version = subst (λ b. not (b / 16 == 4) ≡ false) (sym first) q.version;
      whole = subst (λ h. (nat_lt h 20 || nat_lt total h) ≡ false) (sym head) q.whole;
      sum = subst (λ (l : List ℕ). not (ones_sum 0 l == 65535) ≡ false) (sym whole_sent) (rw sum refl);
      total = rw (two, head) q.total;
      multicast = subst (λ a. not (is_multicast a) ≡ false) (sym to) q.multicast;
      forwarded = subst (λ a. is_link_local a ≡ false) (sym to) q.forwarded;
      source = subst (λ a. is_bad_source a ≡ false) (sym from) q.source;
    } in
    is_head-passes ss total (ttl - 1) src dst each (long ∙ p.long ∙ sym head) (two ∙ p.two)
    (lowered_ttl bs v n (omega arith) ∙ ap (λ m. m - 1) p.hops) (from ∙ p.from) (to ∙ p.to)
