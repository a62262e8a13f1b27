-- Presented modules, their maps, and the presentation of a quotient. (homalg's convention: the rows of a matrix are
-- relations, and maps act on row vectors from the right.)
use Rattle.std.specs.Prelude.{◌≡◌, List, [], ℤ}
use Rattle.sf_algebra.specs.Matrices.{Matrix, row_degrees, IsMatrix}
use Rattle.sf_algebra.specs.Rings.{Ring}
use Rattle.sf_algebra.specs.Vectors.{Vector}
use Rattle.sf_groebner.specs.MinimalGenerators.{AreMinimal}
use Rattle.sf_groebner.specs.ReducedBases.{IsReducedBy, IsSpanBasis}
use Rattle.sf_groebner.specs.Spans.{InSpan, IsCoefficients, combined}

-- the zero vectors
abbrev pub IsZero : Vector → Type 0
IsZero v = v.terms ≡ []

-- the coefficients c of the generators with c G in B: the relations of the generators modulo B
pub record IsRelation (generators : Matrix) (B : Vector → Type 0) (c : Vector) : Type 0 where
  pub coefficients : IsCoefficients generators c
  pub inside : B (combined generators c)

-- generators and relations of N modulo B, a module and a part of it in a free module
pub record IsPresentation (ring : Ring) (target : List ℤ) (N B : Vector → Type 0)
    (generators relations : Matrix) : Type 0 where
  pub generators_ring : generators.ring ≡ ring
  pub generators_target : generators.target ≡ target
  pub generators_minimal : AreMinimal ring N B generators.rows
  pub relations_ring : relations.ring ≡ ring
  pub relations_target : relations.target ≡ row_degrees generators
  pub relations_minimal : AreMinimal ring (IsRelation generators B) IsZero relations.rows

-- the minimal relations of generators modulo the span of a base
pub record AreRelationsModulo (generators base relations : Matrix) : Type 0 where
  pub base_matrix : IsMatrix base
  pub base_ring : generators.ring ≡ base.ring
  pub ring : relations.ring ≡ generators.ring
  pub target : relations.target ≡ row_degrees generators
  pub minimal : AreMinimal generators.ring (IsRelation generators (InSpan base)) IsZero relations.rows

-- a matrix is a map from the module with the relations `source` to that with the relations `target`: the free modules
-- meet, and it sends relations into relations
pub record IsModuleMap (source target map : Matrix) : Type 0 where
  pub matrix : IsMatrix map
  pub source_ring : map.ring ≡ source.ring
  pub target_ring : map.ring ≡ target.ring
  pub source_degrees : row_degrees map ≡ source.target
  pub target_degrees : map.target ≡ target.target
  pub sends : (v : Vector) → InSpan source v → InSpan target (combined map v)

-- a vector is reduced by the relations: no term is divided by a lead of the reduced basis of their span
pub record IsReducedByRelations (relations : Matrix) (v : Vector) : Type 0 where
  pub basis : List Vector
  pub reduced_basis : IsSpanBasis relations basis
  pub reduced : IsReducedBy basis v.terms
