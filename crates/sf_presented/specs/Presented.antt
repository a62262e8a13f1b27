-- What a presentation is for: its generators generate, and its relations are all relations. (homalg's convention: rows
-- are relations, and maps act on row vectors from the right.)
use Rattle.std.specs.Prelude.{◌↔◌, List, [], ◌∷◌}
use Rattle.std.specs.List.{AllByRecursion}
use Rattle.sf_algebra.specs.Matrices.{Matrix}
use Rattle.sf_algebra.specs.Vectors.{Vector}
use Rattle.sf_groebner.specs.MinimalGenerators.{IsInSum}
use Rattle.sf_groebner.specs.Presentations.{IsRelation}
use Rattle.sf_groebner.specs.Spans.{InSpan, IsSyzygy}

-- N modulo B has these generators, and between them these relations
pub record IsPresentedBy (N B : Vector → Type 0) (generators relations : Matrix) : Type 0 where
  -- each generator is in N
  pub inside : AllByRecursion N generators.rows
  -- each vector of N is the sum of one of B and a combination of the generators
  pub generate : (v : Vector) → N v → IsInSum generators.ring generators.rows B v
  -- a combination of the generators is in B exactly where its coefficients are in the span of the relations
  pub relate : (c : Vector) → IsRelation generators B c ↔ InSpan relations c

-- each matrix of a list spans the syzygies of the one before
abbrev pub AreExactFrom : Matrix → List Matrix → Type 0
AreExactFrom before [] = Unit {0}
AreExactFrom before (step ∷ steps) = ((c : Vector) → InSpan step c ↔ IsSyzygy before c) × AreExactFrom step steps

-- the first matrix spans the span of the relations, each other the syzygies of the one before
abbrev pub AreExactOver : Matrix → List Matrix → Type 0
AreExactOver relations [] = Unit {0}
AreExactOver relations (step ∷ steps) = ((v : Vector) → InSpan step v ↔ InSpan relations v) × AreExactFrom step steps
