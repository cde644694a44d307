-- A text as lines, and a line as words.
use Rattle.std.specs.Prelude.{ℕ, ◌-◌, ◌==◌, ◌||◌, Bool, if◌then◌else◌, List, [], ◌∷◌, length, take, slice_index}

-- a byte stands in front of the first line
abbrev pub onto_first : ℕ → List (List ℕ) → List (List ℕ)
onto_first b [] = (b ∷ []) ∷ []
onto_first b (l ∷ ls) = (b ∷ l) ∷ ls

-- the lines of a text: a line feed ends a line, and the last one may lack it
abbrev pub lines_of : List ℕ → List (List ℕ)
lines_of [] = []
lines_of (b ∷ bs) = if b == 10 then [] ∷ lines_of bs else onto_first b (lines_of bs)

-- a line without the carriage return at its end
abbrev pub without_return : List ℕ → List ℕ
without_return l = if slice_index l (length l - 1) == 13 then take (length l - 1) l else l

-- space and tab part words
abbrev pub is_blank : ℕ → Bool
is_blank b = b == 32 || b == 9

-- the bytes before the first blank
abbrev pub front_word : List ℕ → List ℕ
front_word [] = []
front_word (b ∷ bs) = if is_blank b then [] else b ∷ front_word bs

-- a word and those behind it; none where no word begins, and a # begins a comment to the line's end
abbrev pub with_word : List ℕ → List (List ℕ) → List (List ℕ)
with_word [] ws = ws
with_word (b ∷ w) ws = if b == 35 then [] else (b ∷ w) ∷ ws

-- the words behind the first blank
abbrev pub words_behind : List ℕ → List (List ℕ)
words_behind [] = []
words_behind (b ∷ bs) = if is_blank b then with_word (front_word bs) (words_behind bs) else words_behind bs

-- the words of a line
abbrev pub words_of : List ℕ → List (List ℕ)
words_of bs = with_word (front_word bs) (words_behind bs)
