-- What the lines of a configuration spell.
use Rattle.std.specs.Prelude.{ℕ, ◌+◌, min, if◌then◌else◌, Result, Ok, Err, List, [], ◌∷◌, bytes_eq, codes, take}
use Rattle.mr_words.specs.Binds.{◌>>=◌}
use Rattle.mr_words.specs.Words.{lines_of, without_return, words_of}
use Rattle.smc_conf.specs.Forms.{Word}
use Rattle.smc_conf.specs.Lines.{phyint_line, group_line, rule_line}
use Rattle.smc_conf.specs.declared.conf.Conf.{Conf}
use Rattle.smc_conf.specs.declared.draft.Draft.{Draft}
use Rattle.smc_conf.specs.declared.stop.ConfError.{ConfError}
use Rattle.smc_conf.specs.declared.stop.ConfError.TheVariants as error
use Rattle.smc_conf.specs.declared.stop.Kind.{Kind}
use Rattle.smc_conf.specs.declared.stop.Kind.TheVariants as kind
use Rattle.smc_conf.specs.declared.stop.TheConstants.{MOST_TEXT}

abbrev pub line_by_word : Draft → Word → List Word → Result Draft Kind
line_by_word d w ws =
    if bytes_eq w (codes "phyint") then phyint_line d ws
    else (if bytes_eq w (codes "mgroup") then group_line d ws
    else (if bytes_eq w (codes "mroute") then rule_line d ws
    else Err kind.Word))

-- what a line of these words makes of the draft, or what is wrong with it; one without words is
-- passed over
abbrev pub line_of : Draft → List Word → Result Draft Kind
line_of d [] = Ok d
line_of d (w ∷ ws) = line_by_word d w ws

-- the number of the next line; it stops at the greatest of 32 bits
abbrev pub next_line : ℕ → ℕ
next_line n = min (n + 1) 4294967295

-- what a line gives; a bad one is told by its number and how it begins
abbrev pub at_line : {A : Type 0} → ℕ → List ℕ → Result A Kind → Result A ConfError
at_line n line (Ok x) = Ok x
at_line n line (Err k) = Err (error.Bad n k (take MOST_TEXT line))

-- the draft after lines of which the first has number n, or the first bad line
abbrev pub draft_from : ℕ → Draft → List (List ℕ) → Result Draft ConfError
draft_from n d [] = Ok d
draft_from n d (l ∷ ls) = do
  t ← at_line n (without_return l) (line_of d (words_of (without_return l)))
  draft_from (next_line n) t ls

abbrev pub empty_draft : Draft
empty_draft = record { phyints = []; enabled = 0; groups = []; rules = [] }

abbrev pub conf_of : Draft → Conf
conf_of d = record { phyints = d.phyints; groups = d.groups; rules = d.rules }

-- The configuration that bytes spell, or the first bad line, what is wrong with it, and how it begins.
abbrev pub spelled : List ℕ → Result Conf ConfError
spelled bytes = draft_from 1 empty_draft (lines_of bytes) >>= λ d. Ok (conf_of d)
