-- Legal histories in parts.
use Rattle.std.proofs.Common.{List, [], ◌∷◌, ◌++◌, append-nil}
use Rattle.std.proofs.Math.Seq.{append_snoc}
use Rattle.mr_model.specs.declared.entry.Entry.{Entry}
use Rattle.mr_model.specs.declared.limits.Limits.{Limits}
use Rattle.mr_model.specs.Legal.{LegalFrom}

-- the entries h behind g, and k behind both
pub legal_joined : (limits : Limits) (g h k : List Entry) → LegalFrom limits g h → LegalFrom limits (g ++ h) k → LegalFrom limits g (h ++ k)
legal_joined limits g [] k a b = rw append-nil at b
legal_joined limits g (e ∷ h) k a b = (a.0, legal_joined limits (g ++ e ∷ []) h k a.1 (rw append_snoc b))
