-- Changes that fit, one after another.
use Rattle.std.proofs.Common.{◌≡◌, true, List, [], ◌∷◌, ◌++◌, refl, ap, sym, ◌∙◌, append_assoc}
use Rattle.std.specs.List.{fold}
use Rattle.std.proofs.lemmas.List.Sums.{fold-append}
use Rattle.mr_model.specs.declared.change.Change.{Change}
use Rattle.mr_tables.specs.Values.{TablesValue, applied}
use Rattle.mr_tables.specs.Fitting.{fits, FitInTurn}
use Rattle.mr_publish.specs.Copies.{taken}

pub one_more_fits : (v : TablesValue) (cs : List Change) (c : Change) → FitInTurn v cs
    → fits (fold applied v cs) c ≡ true → FitInTurn v (cs ++ c ∷ [])
one_more_fits v [] c fit more = (more, tt)
one_more_fits v (d ∷ cs) c fit more = (fit.0, one_more_fits (applied v d) cs c fit.1 more)

-- none of them is passed over
pub all_taken : (v : TablesValue) (cs : List Change) → FitInTurn v cs
    → fold taken v cs ≡ fold applied v cs
all_taken v [] fit = refl
all_taken v (c ∷ cs) fit = rw (fit.0) (all_taken (applied v c) cs fit.1)

-- those behind others make of the tables after these what all make of the first
pub taken_behind : (v : TablesValue) (ds cs : List Change) → FitInTurn (fold applied v ds) cs
    → fold taken (fold applied v ds) cs ≡ fold applied v (ds ++ cs)
taken_behind v ds cs fit = all_taken (fold applied v ds) cs fit ∙ sym (fold-append applied v ds cs)

-- the last of them is applied to the tables after the others
pub last_applied : (v : TablesValue) (ds cs : List Change) (c : Change)
    → fold applied v (ds ++ (cs ++ c ∷ [])) ≡ applied (fold applied v (ds ++ cs)) c
last_applied v ds cs c =
    ap (fold applied v) (sym (append_assoc ds cs (c ∷ [])))
    ∙ fold-append applied v (ds ++ cs) (c ∷ [])
