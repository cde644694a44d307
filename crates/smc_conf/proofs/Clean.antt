-- Names of devices have plain bytes alone.
use Rattle.std.proofs.Common.{◌≡◌, ℕ, ◌&&◌, true, not, List, [], ◌∷◌, refl, arith, bytes_eq, codes}
use Rattle.std.proofs.lemmas.Bool.{and_parts}
use Rattle.std.proofs.lemmas.Bool.Decides.{nat_tests}
use Rattle.std.specs.List.{list_all}
use Rattle.mr_words.specs.Names.{is_plain, is_clean, is_name_byte, begins_name, is_device_name}

byte_plain : (b : ℕ) → is_name_byte b ≡ true → is_plain b ≡ true
byte_plain b h = grind (arith, nat_tests)

bytes_plain : (w : List ℕ) → list_all is_name_byte w ≡ true → is_clean w ≡ true
bytes_plain [] h = refl
bytes_plain (b ∷ w) h =
    let parts : (is_name_byte b ≡ true) × (list_all is_name_byte w ≡ true) = and_parts _ _ h in
    rw (byte_plain b parts.0, bytes_plain w parts.1) refl

pub device_clean : (w : List ℕ) → is_device_name w ≡ true → is_clean w ≡ true
device_clean w h = bytes_plain w (and_parts (begins_name w && not (bytes_eq w (codes "pimreg"))) (list_all is_name_byte w) h).1
