-- Fields: each takes the words that it needs from the front and leaves those behind them.
use Rattle.std.specs.Prelude.{if◌then◌else◌, Option, Some, None, option_and_then, List, [], ◌∷◌, bytes_eq}
use Rattle.mr_lines.specs.Forms.{Word}

abbrev pub Read : Type 0 → Type 0
Read A = List Word → Option (A × List Word)

-- a value, and the words behind it
abbrev pub leaving : {A : Type 0} → List Word → Option A → Option (A × List Word)
leaving ws None = None
leaving ws (Some x) = Some (x, ws)

-- one word, which `of` reads
abbrev pub one : {A : Type 0} → (Word → Option A) → Read A
one of [] = None
one of (w ∷ ws) = leaving ws (of w)

-- nothing more
abbrev pub done : {A : Type 0} → A → Read A
done x ws = Some (x, ws)

abbrev pub joined_with : {A B : Type 0} → A → (B × List Word) → Option ((A × B) × List Word)
joined_with x y = Some ((x, y.0), y.1)

abbrev pub further : {A B : Type 0} → Read B → (A × List Word) → Option ((A × B) × List Word)
further g x = option_and_then (joined_with x.0) (g x.1)

-- f, and behind it g
abbrev pub both : {A B : Type 0} → Read A → Read B → Read (A × B)
both f g ws = option_and_then (further g) (f ws)

abbrev pub renamed : {A B : Type 0} → (A → B) → (A × List Word) → Option (B × List Word)
renamed to x = Some (to x.0, x.1)

-- what f reads, as a value of another type
abbrev pub mapped : {A B : Type 0} → (A → B) → Read A → Read B
mapped to f ws = option_and_then (renamed to) (f ws)

-- the value x, where the next word is k
abbrev pub keyword : {A : Type 0} → Word → A → Read A
keyword k x [] = None
keyword k x (w ∷ ws) = if bytes_eq w k then Some (x, ws) else None

abbrev pub closing : {A : Type 0} → Word → (A × List Word) → Option (A × List Word)
closing k x = keyword k x.0 x.1

-- f, and behind it the word k
abbrev pub closed_by : {A : Type 0} → Word → Read A → Read A
closed_by k f ws = option_and_then (closing k) (f ws)

-- f on the first word and those behind it
abbrev pub by_word : {A : Type 0} → (Word → Read A) → Read A
by_word f [] = None
by_word f (w ∷ ws) = f w ws

abbrev pub nothing_left : {A : Type 0} → (A × List Word) → Option A
nothing_left (x, []) = Some x
nothing_left (x, w ∷ ws) = None

-- what f reads of all words
abbrev pub whole : {A : Type 0} → Read A → List Word → Option A
whole f ws = option_and_then nothing_left (f ws)
