-- No mask of 32 bits has a vif of 32 or more.
use Rattle.std.proofs.Common.{◌≡◌, ℕ, ◌/◌, ◌%◌, ◌^◌, ◌<◌, ◌≤◌, ◌==◌, false, refl, arith}
use Rattle.std.proofs.Math.Pow.{pow_mono}
use Rattle.std.proofs.Math.Nat.{div-eq_of_lt}

pub high_bit : (m v : ℕ) → m < 2 ^ 32 → 32 ≤ v → (m / 2 ^ v % 2 == 1) ≡ false
high_bit m v small high =
    let large : 2 ^ 32 ≤ 2 ^ v = pow_mono high in
    let below : m < 2 ^ v = omega (arith, small, large) in
    let none : m / 2 ^ v ≡ 0 = div-eq_of_lt below in
    rw none refl
