-- Plain bytes are text, and the names of devices have such bytes alone.
use Rattle.std.proofs.Common.{◌≡◌, ℕ, zero, suc, ◌<◌, true, List, [], ◌∷◌, arith, IsAscii, IsUtf8, lit<}
use Rattle.std.proofs.lemmas.Bool.{and_parts}
use Rattle.std.proofs.lemmas.Bool.Decides.{nat_tests}
use Rattle.std.proofs.lemmas.Str.{IsUtf8-from_ascii}
use Rattle.mr_words.specs.Names.{is_plain, is_clean}

byte_low : (b : ℕ) → is_plain b ≡ true → b < 128
byte_low b h = grind (arith, nat_tests)

bytes_low : (w : List ℕ) → is_clean w ≡ true → IsAscii w
bytes_low [] h i = lit< tt
bytes_low (b ∷ w) h zero = byte_low b (and_parts _ _ h).0
bytes_low (b ∷ w) h (suc i) = bytes_low w (and_parts _ _ h).1 i

pub clean_is_text : (w : List ℕ) → is_clean w ≡ true → IsUtf8 w
clean_is_text w h = IsUtf8-from_ascii w (bytes_low w h)
