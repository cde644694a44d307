-- Words of another number than two, three or four are no form.
use Rattle.std.proofs.Common.{◌≡◌, ℕ, suc, ◌<◌, ◌≤◌, None, List, [], ◌∷◌, length, map, arith, refl}
use Rattle.mr_command.specs.Commands.{command_of}

pub few : {A : Type 0} (f : A → List ℕ) (ws : List A) → length ws < 2 → command_of (map f ws) ≡ None
few f [] l = refl
few f (a ∷ []) l = refl
few f (a ∷ b ∷ ws) l = absurd (omega (arith, l))

pub many : {A : Type 0} (f : A → List ℕ) (ws : List A) → 5 ≤ length ws → command_of (map f ws) ≡ None
many f [] l = absurd (omega (arith, l))
many f (a ∷ []) l = absurd (omega (arith, l))
many f (a ∷ b ∷ []) l = absurd (omega (arith, l))
many f (a ∷ b ∷ c ∷ []) l = absurd (omega (arith, l))
many f (a ∷ b ∷ c ∷ d ∷ []) l = absurd (omega (arith, l))
many f (a ∷ b ∷ c ∷ d ∷ e ∷ ws) l = refl
