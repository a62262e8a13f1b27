-- Equality modulo a module, squares of maps that commute modulo relations, maps of complexes, and actions on classes.
-- (Weibel, "An Introduction to Homological Algebra", section 1.1: chain maps and their homology; in homalg's
-- convention.)
use Rattle.std.specs.Prelude.{◌≡◌}
use Rattle.sf_algebra.specs.Matrices.{Matrix, row_degrees, IsMatrix}
use Rattle.sf_algebra.specs.Rings.{Ring, IsRing}
use Rattle.sf_algebra.specs.VectorOperations.{vector_difference}
use Rattle.sf_algebra.specs.Vectors.{Vector}
use Rattle.sf_groebner.specs.Homology.{ComplexPlace}
use Rattle.sf_groebner.specs.Presentations.{IsModuleMap}
use Rattle.sf_groebner.specs.Spans.{IsCoefficients, combined, InSpan}

-- two vectors of one degree that differ by one of N
pub record AreEqualModulo (ring : Ring) (N : Vector → Type 0) (u v : Vector) : Type 0 where
  pub degrees : u.degree ≡ v.degree
  pub difference : N (vector_difference ring u v)

-- a map goes from a free module into the module with these relations
pub record IsMapInto (relations map : Matrix) : Type 0 where
  pub map_matrix : IsMatrix map
  pub relations_matrix : IsMatrix relations
  pub ring : map.ring ≡ relations.ring
  pub target : map.target ≡ relations.target

-- a square that commutes modulo relations: `upper` and `lower` go from free modules into modules with relations; `left`
-- is a map of the free modules, `right` one of the modules with relations
pub record IsSquare (upper upper_relations lower lower_relations left right : Matrix) : Type 0 where
  pub positive : IsRing right.ring
  pub upper_map : IsMapInto upper_relations upper
  pub lower_map : IsMapInto lower_relations lower
  pub right_map : IsModuleMap upper_relations lower_relations right
  pub left_matrix : IsMatrix left
  pub left_ring : left.ring ≡ right.ring
  pub left_source : row_degrees left ≡ row_degrees upper
  pub left_target : left.target ≡ row_degrees lower
  pub commutes : (c : Vector) → IsCoefficients upper c
      → AreEqualModulo right.ring (InSpan lower_relations) (combined right (combined upper c)) (combined lower (combined left c))

-- maps of one complex into another about a place: both squares commute modulo relations. That two maps of a complex,
-- one after the other, give zero isn't asked.
pub record AreChainMaps (a b : ComplexPlace) (first second third : Matrix) : Type 0 where
  pub before : IsSquare a.arriving a.here b.arriving b.here first second
  pub after : IsSquare a.out a.beyond b.out b.beyond second third

-- a matrix acts from N modulo B to M modulo A: elements go to elements, and what is zero to what is zero
pub record ActsOnClasses (N B M A : Vector → Type 0) (map : Matrix) : Type 0 where
  pub elements : (v : Vector) → N v → M (combined map v)
  pub zeros : (v : Vector) → B v → A (combined map v)
