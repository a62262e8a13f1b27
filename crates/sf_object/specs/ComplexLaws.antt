-- What the plan of a complex's failure answers. (Textbook; that the first is told is this project's own.)
use Rattle.std.specs.Prelude.{◌≡◌, ◌↔◌, ℕ, List, Option, None, Ok}
use Rattle.std.specs.List.{AllByRecursion}
use Rattle.sf_algebra.specs.Matrices.{Matrix, IsMatrix}
use Rattle.sf_algebra.specs.Rings.{IsOverField}
use Rattle.sf_matrix.specs.Runs.{Run}
use Rattle.sf_object.specs.declared.complex.Complex.{Complex}
use Rattle.sf_object.specs.declared.map.Map.{Map}
use Rattle.sf_object.specs.Complexes.{IsChain, IsComplex, IsFirstFailure, complex_plan}

-- the first junction at which one map with the next isn't 0, or none; nothing else is it
abbrev pub AnswersFirstFailure : Type 0
AnswersFirstFailure =
    (limit : ℕ) (c : Complex) (looked : List Matrix) (found : Option ℕ) → Run limit (complex_plan c) looked (Ok found)
    → IsFirstFailure c found × ((other : Option ℕ) → IsFirstFailure c other → other ≡ found)

-- the relations and the matrix of a map are matrices over a field
pub record IsOfMatrices (f : Map) : Type 0 where
  pub field : IsOverField f.matrix.ring
  pub matrix : IsMatrix f.matrix
  pub target : IsMatrix f.target

-- there is none exactly where the maps are a complex
abbrev pub HasNoFailureAsComplex : Type 0
HasNoFailureAsComplex =
    (c : Complex) → AllByRecursion IsOfMatrices c.maps → IsChain c → IsFirstFailure c None ↔ IsComplex c
