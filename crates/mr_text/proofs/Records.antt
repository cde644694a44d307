-- Records in front of a text, behind a settle's line.
use Rattle.std.proofs.Common.{◌≡◌, ℕ, ◌-◌, ◌<◌, ◌≤◌, Option, Some, None, List, [], ◌∷◌, ◌++◌, length, sym, ap, subst, ◌∙◌, arith, lt-ltb}
use Rattle.std.specs.Prelude.{option_and_then}
use Rattle.std.proofs.lemmas.Option.{some_pair_parts}
use Rattle.mr_base.specs.declared.numbers.LaneNo.{LaneNo}
use Rattle.mr_lines.specs.Reading.{as_record, line_of}
use Rattle.mr_lines.specs.declared.line.Line.{Line}
use Rattle.mr_lines.specs.declared.line.Line.TheVariants as line
use Rattle.mr_model.specs.declared.entry.FastRecord.{FastRecord}
use Rattle.mr_records.specs.Taking.{TakesOnto, record_of_line, first_record}
use Rattle.mr_text.specs.declared.reading_state.State.{State}
use Rattle.mr_text.specs.Answers.{GoesOn, settling}
use Rattle.mr_text.specs.Walk.{when, step, line_step, next_line, line_gives, walk}
use Rattle.mr_words.specs.Binds.{◌>>=◌}
use Rattle.mr_words.specs.Parts.{parts_of}

-- only a record's line is a record
line_is : (l : Line) (r : FastRecord) → as_record l ≡ Some r → l ≡ line.Record r
line_is (line.Record q) r e = ap line.Record (cc e)
line_is l r e = absurd (cc e)

read_is : (o : Option Line) (r : FastRecord) → option_and_then as_record o ≡ Some r → o ≡ Some (line.Record r)
read_is None r e = absurd (cc e)
read_is (Some l) r e = ap Some (line_is l r e)

front_is : (o : Option FastRecord) (r : FastRecord) (ps qs : List (List ℕ)) → option_and_then {U = FastRecord × List (List ℕ)} (λ r. Some (r, ps)) o ≡ Some (r, qs) → (o ≡ Some r) × (ps ≡ qs)
front_is None r ps qs e = absurd (cc e)
front_is (Some q) r ps qs e = let parts = some_pair_parts q r ps qs e in (ap Some parts.0, parts.1)

-- one more record
record_walks : (n : ℕ) (s : State) (lane : LaneNo) (records : List FastRecord) (left : ℕ) (r : FastRecord) (ps qs : List (List ℕ)) → 0 < left → first_record ps ≡ Some (r, qs)
    → (walk (next_line n) (settling s lane (records ++ r ∷ []) (left - 1)) qs ≡ walk n (settling s lane records left) ps) × (length qs ≤ length ps)
record_walks n s lane records left r [] qs due e = absurd (cc e)
record_walks n s lane records left r (p ∷ []) qs due e = absurd (cc e)
record_walks n s lane records left r (p ∷ q ∷ ps) qs due e =
    let found = front_is (record_of_line p) r (q ∷ ps) qs e in
    let read : line_of (parts_of 32 p) ≡ Some (line.Record r) = read_is (line_of (parts_of 32 p)) r found.0 in
    let more : State = settling s lane (records ++ r ∷ []) (left - 1) in
    let steps : line_step n (settling s lane records left) p ≡ Some more =
    ap (option_and_then (step n (settling s lane records left))) read ∙ ap (λ b. when b (Some more)) (lt-ltb 0 left due) in
    (sym (ap (λ o. line_gives n o >>= λ t. walk (next_line n) t (q ∷ ps)) steps ∙ ap (walk (next_line n) more) found.1), omega (arith, ap length found.1))

-- the invariant of the loop over records
pub records_on : (n m next : ℕ) (bytes rest after : List ℕ) (old records more : List FastRecord) (all left : ℕ) (r : FastRecord) → 0 < left → next ≡ next_line m → more ≡ records ++ r ∷ []
    → ((s : State) (lane : LaneNo) → GoesOn n (settling s lane old all) bytes m (settling s lane records left) rest) → first_record (parts_of 10 rest) ≡ Some (r, parts_of 10 after)
    → (s : State) (lane : LaneNo) → GoesOn n (settling s lane old all) bytes next (settling s lane more (left - 1)) after
records_on n m next bytes rest after old records more all left r due on is so e s lane =
    let one = record_walks m s lane records left r (parts_of 10 rest) (parts_of 10 after) due e in
    ((λ i. walk (on i) (settling s lane (is i) (left - 1)) (parts_of 10 after)) ∙ one.0 ∙ (so s lane).0, omega (arith, one.1, (so s lane).1))

-- what an answer says of the list and the text
pub taken_none : {R : Type 0} (bytes : R → List ℕ) (old new : List FastRecord) (o : Option R) (read : Option (FastRecord × List (List ℕ))) → TakesOnto bytes old new o read → o ≡ None → new ≡ old
taken_none bytes old new None read so is = so.1
taken_none bytes old new (Some rest) read so is = absurd (cc is)

pub taken_some : {R : Type 0} (bytes : R → List ℕ) (old new : List FastRecord) (o : Option R) (rest : R) (read : Option (FastRecord × List (List ℕ))) → TakesOnto bytes old new o read → o ≡ Some rest
    → (r : FastRecord) × (read ≡ Some (r, parts_of 10 (bytes rest))) × (new ≡ old ++ r ∷ [])
taken_some bytes old new None rest read so is = absurd (cc is)
taken_some bytes old new (Some other) rest read so is =
    let same : other ≡ rest = cc is in
    subst (λ x. (r : FastRecord) × (read ≡ Some (r, parts_of 10 (bytes x))) × (new ≡ old ++ r ∷ [])) same so

-- where no record is put the invariant stands
pub records_kept : (n m : ℕ) (bytes rest : List ℕ) (old records more : List FastRecord) (all left : ℕ) → more ≡ records
    → ((s : State) (lane : LaneNo) → GoesOn n (settling s lane old all) bytes m (settling s lane records left) rest) → (s : State) (lane : LaneNo) → GoesOn n (settling s lane old all) bytes m (settling s lane more left) rest
records_kept n m bytes rest old records more all left same so s lane = subst (λ x. GoesOn n (settling s lane old all) bytes m (settling s lane x left) rest) (sym same) (so s lane)
