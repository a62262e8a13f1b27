-- What decides a map of presented modules, and what composes. (homalg's convention: maps act on row vectors from the
-- right. Weibel, "An Introduction to Homological Algebra", section 1.1: the category of complexes.)
use Rattle.std.specs.Prelude.{◌≡◌, ◌↔◌, ◌<◌}
use Rattle.std.specs.List.{AllByRecursion}
use Rattle.sf_algebra.specs.Matrices.{Matrix, IsMatrix}
use Rattle.sf_algebra.specs.MatrixOperations.{matrix_product}
use Rattle.sf_algebra.specs.Rings.{IsRing}
use Rattle.sf_algebra.specs.Vectors.{Vector}
use Rattle.sf_groebner.specs.Homology.{ComplexPlace}
use Rattle.sf_groebner.specs.Maps.{IsSquare, AreChainMaps}
use Rattle.sf_groebner.specs.Presentations.{IsModuleMap}
use Rattle.sf_groebner.specs.Spans.{combined, InSpan}

-- a matrix sends the span of relations into a span exactly where it sends each row there
abbrev pub SendsSpanByRows : Type 0
SendsSpanByRows =
    (source target map : Matrix) → IsRing map.ring → 1 < map.ring.modulus → map.ring ≡ source.ring
    → map.ring ≡ target.ring → IsMatrix source → IsMatrix target
    → ((v : Vector) → InSpan source v → InSpan target (combined map v))
    ↔ AllByRecursion (λ v. InSpan target (combined map v)) source.rows

-- the product of two maps of presented modules is one
abbrev pub HasComposedModuleMaps : Type 0
HasComposedModuleMaps =
    (a b c first second : Matrix) → IsRing first.ring → IsModuleMap a b first → IsModuleMap b c second
    → IsModuleMap a c (matrix_product first second)

-- of two squares, one below the other, the products on both sides are a square
abbrev pub HasComposedSquares : Type 0
HasComposedSquares =
    (upper upper_relations middle middle_relations lower lower_relations left right other_left other_right : Matrix)
    → IsSquare upper upper_relations middle middle_relations left right
    → IsSquare middle middle_relations lower lower_relations other_left other_right
    → IsSquare upper upper_relations lower lower_relations (matrix_product left other_left) (matrix_product right other_right)

-- the products of maps of complexes are maps of complexes
abbrev pub HasComposedChainMaps : Type 0
HasComposedChainMaps =
    (a b c : ComplexPlace) (first second third other_first other_second other_third : Matrix)
    → AreChainMaps a b first second third → AreChainMaps b c other_first other_second other_third
    → AreChainMaps a c (matrix_product first other_first) (matrix_product second other_second) (matrix_product third other_third)
