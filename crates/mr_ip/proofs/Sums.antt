-- Sums of which the carries are added at the end.
use Rattle.std.proofs.Common.{◌≡◌, ℕ, ◌+◌, ◌-◌, ◌*◌, ◌<◌, ◌≤◌, ◌∙◌, ap, sym, subst, List, [], ◌∷◌, length, get_or, take, drop, suc, arith}
use Rattle.std.proofs.lemmas.Bool.Decides.{nat_tests}
use Rattle.std.proofs.Math.Seq.{take-length}
use Rattle.mr_base.specs.Heads.{ones_sum, plus}
use Rattle.mr_ip.specs.Sums.{carried}

pub plus-carried : (s w : ℕ) → w < 65536 → plus (carried s) w ≡ carried (s + w)
plus-carried s w h = grind (arith, nat_tests)

-- the high half of a number of 32 bits counts as the low half does
carried-high : (s w : ℕ) → carried (s + w * 65536) ≡ carried (s + w)
carried-high s w = grind (arith, nat_tests)

-- the numbers of a list are bytes
abbrev pub AreBytes : List ℕ → Type 0
AreBytes bs = (k : ℕ) → get_or bs k 0 < 256

-- two numbers of 16 bits at once
quad : (s v w : ℕ) → v < 65536 → w < 65536 → plus (plus (carried s) v) w ≡ carried (s + (v * 65536 + w))
quad s v w hv hw =
    ap (λ n. plus n w) (plus-carried s v hv) ∙ plus-carried (s + v) w hw
    ∙ (let e : s + v + w ≡ s + w + v = omega arith in ap carried e) ∙ sym (carried-high (s + w) v)
    ∙ (let e : s + w + v * 65536 ≡ s + (v * 65536 + w) = omega arith in ap carried e)

-- the list behind its first four elements
abbrev pub behind : List ℕ → List ℕ
behind bs = take (length bs - 4) (drop 4 bs)

behind-cons : (a b c d : ℕ) (bs : List ℕ) → behind (a ∷ b ∷ c ∷ d ∷ bs) ≡ bs
behind-cons a b c d bs =
    let e : length (a ∷ b ∷ c ∷ d ∷ bs) - 4 ≡ length bs = omega arith in
    rw e (take-length bs)

pub length-behind : (bs : List ℕ) → 4 ≤ length bs → length (behind bs) + 4 ≡ length bs
length-behind [] h = absurd (omega arith)
length-behind (a ∷ []) h = absurd (omega arith)
length-behind (a ∷ b ∷ []) h = absurd (omega arith)
length-behind (a ∷ b ∷ c ∷ []) h = absurd (omega arith)
length-behind (a ∷ b ∷ c ∷ d ∷ bs) h = omega (arith, ap length (behind-cons a b c d bs))

pub AreBytes-behind : (bs : List ℕ) → 4 ≤ length bs → AreBytes bs → AreBytes (behind bs)
AreBytes-behind [] h all = absurd (omega arith)
AreBytes-behind (a ∷ []) h all = absurd (omega arith)
AreBytes-behind (a ∷ b ∷ []) h all = absurd (omega arith)
AreBytes-behind (a ∷ b ∷ c ∷ []) h all = absurd (omega arith)
AreBytes-behind (a ∷ b ∷ c ∷ d ∷ bs) h all =
    subst AreBytes (sym (behind-cons a b c d bs)) (λ k. all (suc (suc (suc (suc k)))))

pub ones_sum-behind : (s n : ℕ) (bs : List ℕ) → 4 ≤ length bs → AreBytes bs
    → n ≡ (get_or bs 0 0 * 256 + get_or bs 1 0) * 65536 + (get_or bs 2 0 * 256 + get_or bs 3 0)
    → ones_sum (carried (s + n)) (behind bs) ≡ ones_sum (carried s) bs
ones_sum-behind s n [] h all e = absurd (omega arith)
ones_sum-behind s n (a ∷ []) h all e = absurd (omega arith)
ones_sum-behind s n (a ∷ b ∷ []) h all e = absurd (omega arith)
ones_sum-behind s n (a ∷ b ∷ c ∷ []) h all e = absurd (omega arith)
ones_sum-behind s n (a ∷ b ∷ c ∷ d ∷ bs) h all e =
    let f : a < 256 = all 0 in
    let g : b < 256 = all 1 in
    let i : c < 256 = all 2 in
    let j : d < 256 = all 3 in
    rw (behind-cons a b c d bs, e)
    (ap (λ m. ones_sum m bs) (sym (quad s (a * 256 + b) (c * 256 + d) (omega arith) (omega arith))))
