-- The forms of single words.
use Rattle.std.specs.Prelude.{ℕ, ◌-◌, ◌*◌, ◌/◌, ◌^◌, nat_le, if◌then◌else◌, Option, Some, None, option_and_then, Result, Ok, Err, List, [], ◌∷◌, bytes_eq}
use Rattle.mr_base.specs.Heads.{is_multicast}
use Rattle.mr_words.specs.Binds.{◌>>=◌}
use Rattle.mr_words.specs.Names.{is_device_name}
use Rattle.mr_words.specs.Numbers.{address_of, number_of}
use Rattle.mr_words.specs.Parts.{before, parts_behind}
use Rattle.smc_conf.specs.Kinds.{bad, wants, word_as}
use Rattle.smc_conf.specs.declared.conf.Prefix.{Prefix}
use Rattle.smc_conf.specs.declared.stop.Kind.{Kind}
use Rattle.smc_conf.specs.declared.stop.Kind.TheVariants as kind

abbrev pub Word : Type 0
Word = List ℕ

-- A word that has to be there, and those behind it.
abbrev pub first_of : List Word → Result (Word × List Word) Kind
first_of [] = Err kind.Word
first_of (w ∷ ws) = Ok (w, ws)

-- the words behind one that has to be this
abbrev pub keyword : Word → List Word → Result (List Word) Kind
keyword name ws = do
  w ← first_of ws
  _ ← wants (bytes_eq w.0 name) kind.Word
  Ok w.1

-- the name of an interface, and the words behind it
abbrev pub interface_word : List Word → Result (Word × List Word) Kind
interface_word ws = do
  w ← first_of ws
  _ ← wants (is_device_name w.0) (bad w.0 kind.Interface)
  Ok w

-- The prefix of an address: the bits behind the first `len` are zeros.
abbrev pub prefix_of : ℕ → ℕ → Prefix
prefix_of addr len = record {
  addr = record { 0 = addr / 2 ^ (32 - len) * 2 ^ (32 - len) };
  len = len;
}

-- The length of a prefix, by the parts behind the address: one of 0 to 32, or none for 32.
abbrev pub length_in : List Word → Option ℕ
length_in [] = Some 32
length_in (l ∷ []) = number_of 32 l
length_in _ = None

-- `A` or `A/LEN`
abbrev pub source_word : Word → Result Prefix Kind
source_word w = do
  addr ← word_as (address_of (before 47 w)) w kind.Address
  len ← word_as (length_in (parts_behind 47 w)) w kind.Prefix
  Ok (prefix_of addr len)

-- an address in 224.0.0.0/4
abbrev pub group_address : Word → Option ℕ
group_address w = option_and_then (λ a. if is_multicast a then Some a else None) (address_of w)

-- `G` or `G/LEN`
abbrev pub group_word : Word → Result Prefix Kind
group_word w = do
  addr ← word_as (group_address (before 47 w)) w kind.Address
  len ← word_as (length_in (parts_behind 47 w)) w kind.Prefix
  Ok (prefix_of addr len)

-- 1 to 255
abbrev pub threshold_word : Word → Result ℕ Kind
threshold_word w =
    word_as (option_and_then (λ n. if nat_le 1 n then Some n else None) (number_of 255 w)) w
    kind.Threshold
