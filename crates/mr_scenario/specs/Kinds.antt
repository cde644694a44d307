-- What is wrong with a line: kinds of mistakes, each with its number, and the word at fault.
use Rattle.std.specs.Prelude.{ℕ, Bool, true, false, if◌then◌else◌, Option, Some, None, Result, Ok, Err, List, [], slice_index_or}
use Rattle.mr_scenario.specs.declared.stop.Kind.{Kind}
use Rattle.mr_scenario.specs.declared.stop.Kind.TheVariants as kind
use Rattle.mr_scenario.specs.declared.stop.Mistake.{Mistake}
use Rattle.mr_words.specs.Names.{is_clean}
use Rattle.mr_words.specs.Words.{words_of}

abbrev pub kind_number : Kind → ℕ
kind_number kind.Header = 1
kind_number kind.Word = 2
kind_number (kind.Number least most) = 3
kind_number kind.Address = 4
kind_number kind.Name = 5
kind_number kind.Device = 6
kind_number kind.Lane = 7
kind_number kind.Daemon = 8
kind_number kind.Hex = 9
kind_number kind.Threshold = 10
kind_number kind.Limit = 11
kind_number kind.File = 12

-- whether one word is at fault, and not the line as such
abbrev pub names_word : Kind → Bool
names_word kind.Header = false
names_word kind.Word = false
names_word kind.Limit = false
names_word _ = true

-- the line as such is at fault
abbrev pub in_line : Kind → Mistake
in_line k = record { kind = k; place = 0 }

-- the word behind so many others is at fault
abbrev pub in_word : ℕ → Kind → Mistake
in_word place k = record { kind = k; place = place }

-- what is at fault in a line: the line, or its word at the place
abbrev pub found : Mistake → List ℕ → List ℕ
found m l = if names_word m.kind then slice_index_or (words_of l) m.place [] else l

-- A refused word with a byte outside the allowed ones makes a bad line, before all else.
abbrev pub bad : ℕ → List ℕ → Kind → Mistake
bad place w k = if is_clean w then in_word place k else in_line kind.Word

abbrev pub or_bad : {A : Type 0} → Option A → Mistake → Result A Mistake
or_bad (Some x) m = Ok x
or_bad None m = Err m

-- what the word at a place is read as, or what is wrong with it
abbrev pub word_as : {A : Type 0} → Option A → ℕ → List ℕ → Kind → Result A Mistake
word_as o place w k = or_bad o (bad place w k)

-- a test, or what is wrong
abbrev pub wants : Bool → Mistake → Result (Unit {0}) Mistake
wants test m = if test then Ok tt else Err m
