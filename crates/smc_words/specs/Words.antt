-- The words of a command, and the lines of answers.
use Rattle.std.specs.Prelude.{ℕ, ◌/◌, ◌%◌, if◌then◌else◌, List, [], ◌∷◌, ◌++◌, codes, decimal}
use Rattle.mr_base.specs.declared.numbers.Addr.{Addr}
use Rattle.mr_words.specs.Words.{is_blank, front_word}

abbrev pub Word : Type 0
Word = List ℕ

-- a word in front of others; none where no word begins
abbrev pub onto_words : Word → List Word → List Word
onto_words [] ws = ws
onto_words (b ∷ w) ws = (b ∷ w) ∷ ws

-- the words behind the first blank
abbrev pub words_after : List ℕ → List Word
words_after [] = []
words_after (b ∷ bs) =
    if is_blank b then onto_words (front_word bs) (words_after bs) else words_after bs

-- the words of a command: blanks part them, and there are no comments
abbrev pub command_words : List ℕ → List Word
command_words bs = onto_words (front_word bs) (words_after bs)

-- a.b.c.d
unfoldable pub address : Addr → Word
address a =
    decimal (a.0 / 16777216) ++ 46 ∷ decimal (a.0 / 65536 % 256) ++ 46
    ∷ decimal (a.0 / 256 % 256) ++ 46 ∷ decimal (a.0 % 256)

-- words parted by spaces, and the line feed behind them
abbrev pub line : List Word → List ℕ
line [] = 10 ∷ []
line (w ∷ []) = w ++ 10 ∷ []
line (w ∷ ws) = w ++ 32 ∷ line ws

abbrev pub ok_line : List ℕ
ok_line = codes "ok\n"
