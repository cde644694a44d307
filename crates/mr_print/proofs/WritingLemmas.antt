-- Words one behind another.
use Rattle.std.proofs.Common.{◌≡◌, ℕ, List, [], ◌∷◌, ◌++◌, sym, ap, ◌∙◌}
use Rattle.std.proofs.lemmas.List.{append_assoc}
use Rattle.mr_lines.specs.Forms.{Word, line_bytes}
use Rattle.mr_print.specs.Written.{led}
use Rattle.mr_records.proofs.RowLemmas.{joined}

-- a word, words behind a space each, and a line feed are a line
pub line_put : (o x y z : List ℕ) (w : Word) (ws : List Word) → x ≡ o ++ w → y ≡ x ++ led ws → z ≡ y ++ 10 ∷ [] → z ≡ o ++ line_bytes (w ∷ ws)
line_put o x y z w ws e f g =
    rw (g, f, e) (append_assoc (o ++ w) (led ws) (10 ∷ []) ∙ append_assoc o w (led ws ++ 10 ∷ []) ∙ ap (λ v. o ++ v) (sym (ap (λ v. v ++ 10 ∷ []) (joined 32 w ws) ∙ append_assoc w (led ws) (10 ∷ []))))
