-- How far a text is a beginning of some text of a language. A language is given by the test that its texts pass. (This project's
-- own.)
use Rattle.std.specs.Prelude.{◌≡◌, ℕ, ◌+◌, ◌≤◌, Bool, false, List, ◌++◌, length, IsTrue, IsFalse}
use Rattle.std.specs.List.{AllByRecursion}

-- no byte of the text is one of these
abbrev pub Free : (ℕ → Bool) → List ℕ → Type 0
Free apart text = AllByRecursion (λ (b : ℕ). IsFalse (apart b)) text

-- some text of the language begins so, and goes on without these bytes
pub record Begins (apart : ℕ → Bool) (language : List ℕ → Bool) (front : List ℕ) : Type 0 where
  pub rest : List ℕ
  pub free : Free apart rest
  pub accepted : IsTrue (language (front ++ rest))

-- n is the length of the text's longest beginning with which some text of the language begins
pub record Reaches (apart : ℕ → Bool) (language : List ℕ → Bool) (text : List ℕ) (n : ℕ) : Type 0 where
  pub front : List ℕ
  pub back : List ℕ
  pub split : text ≡ front ++ back
  pub size : length front ≡ n
  pub begins : Begins apart language front
  pub longest : (more less : List ℕ) → text ≡ more ++ less → Begins apart language more → length more ≤ n

-- no byte at all
abbrev pub nothing : ℕ → Bool
nothing b = false

-- the column at which a text leaves a language: 1 plus the length of its longest beginning that is a beginning of some text of the
-- language
abbrev pub IsColumn : (List ℕ → Bool) → List ℕ → ℕ → Type 0
IsColumn language text column = (n : ℕ) × Reaches nothing language text n × (column ≡ 1 + n)
