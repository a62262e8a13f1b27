-- What is known of how far texts reach: into the names, the numbers, the integers and a fixed word, and into what is read part by
-- part.
use Rattle.std.specs.Prelude.{◌≡◌, ℕ, Bool, List, IsFalse}
use Rattle.std.specs.Str.{bytes_eq}
use Rattle.sf_grammar.specs.Reaches.{Free, Reaches, IsColumn}
use Rattle.sf_grammar.specs.Parts.{Machine, IsRight, PartsReach}
use Rattle.sf_grammar.specs.Words.{is_name, is_number, is_integer}
use Rattle.sf_grammar.specs.WordReaches.{name_reach, number_reach, integer_reach, word_reach}

-- where a letter may stand, which is `a`
abbrev pub NamesReach : Type 0
NamesReach = (apart : ℕ → Bool) → IsFalse (apart 97) → (text : List ℕ) → Reaches apart is_name text (name_reach text)

-- where a digit may stand, which is `0`
abbrev pub NumbersReach : Type 0
NumbersReach = (apart : ℕ → Bool) → IsFalse (apart 48) → (text : List ℕ) → Reaches apart is_number text (number_reach text)

abbrev pub IntegersReach : Type 0
IntegersReach = (apart : ℕ → Bool) → IsFalse (apart 48) → (text : List ℕ) → Reaches apart is_integer text (integer_reach text)

abbrev pub WordsReach : Type 0
WordsReach =
    (apart : ℕ → Bool) (word : List ℕ) → Free apart word → (text : List ℕ)
    → Reaches apart (λ t. bytes_eq t word) text (word_reach word text)

-- where it is known how far single parts reach
abbrev pub MachinesReach : Type 0 → Type 0
MachinesReach S =
    (apart separates : ℕ → Bool) (machine : Machine S) (stands : S → Bool) (reach : S → List ℕ → ℕ)
    → IsRight apart separates machine stands reach → PartsReach apart separates machine stands reach

-- a text leaves a language at one column at most
abbrev pub HasOneColumn : Type 0
HasOneColumn =
    (language : List ℕ → Bool) (text : List ℕ) (c d : ℕ) → IsColumn language text c → IsColumn language text d → c ≡ d
