-- What is wrong with a word or a line: kinds of mistakes, each with its number.
use Rattle.std.specs.Prelude.{ℕ, Bool, if◌then◌else◌, Option, Some, None, Result, Ok, Err, List}
use Rattle.mr_words.specs.Names.{is_clean}
use Rattle.smc_conf.specs.declared.stop.Kind.{Kind}
use Rattle.smc_conf.specs.declared.stop.Kind.TheVariants as kind

abbrev pub kind_number : Kind → ℕ
kind_number kind.Word = 1
kind_number kind.Address = 2
kind_number kind.Interface = 3
kind_number kind.Prefix = 4
kind_number kind.Threshold = 5

-- A refused word with a byte outside the allowed ones is a bad word, before all else.
abbrev pub bad : List ℕ → Kind → Kind
bad w k = if is_clean w then k else kind.Word

-- what a word is read as, or what is wrong with it
abbrev pub word_as : {A : Type 0} → Option A → List ℕ → Kind → Result A Kind
word_as (Some x) w k = Ok x
word_as None w k = Err (bad w k)

-- a test, or what is wrong
abbrev pub wants : Bool → Kind → Result (Unit {0}) Kind
wants test k = if test then Ok tt else Err k
