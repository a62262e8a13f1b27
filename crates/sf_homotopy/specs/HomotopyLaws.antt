-- What holds of contracting homotopies of complexes of free modules. (Weibel, "An Introduction to Homological Algebra",
-- section 1.4.)
use Rattle.std.specs.Prelude.{◌<◌, List, [], ◌∷◌, map, reverse, ℤ}
use Rattle.sf_algebra.specs.Matrices.{Matrix}
use Rattle.sf_algebra.specs.MatrixOperations.{identity, matrix_product, transposed}
use Rattle.sf_algebra.specs.Rings.{Ring}
use Rattle.sf_blocks.specs.MatrixSums.{IsZeroMatrix}
use Rattle.sf_homotopy.specs.Exactness.{IsExactPair, IsExactComplex, IsExactOnto, to_nothing, from_nothing}
use Rattle.sf_homotopy.specs.Homotopies.{IsHomotopy, AreContracted}

-- an exact complex of free modules that ends in a free module has a contracting homotopy
abbrev pub HasContractions : Type 0
HasContractions =
    (ring : Ring) (degrees : List ℤ) (maps : List Matrix) → 1 < ring.modulus → IsExactOnto ring degrees maps
    → AreContracted (to_nothing ring degrees) (from_nothing ring degrees) maps

-- the transpose of a homotopy is one of the transposed maps, where those out and in are exchanged
abbrev pub TransposesHomotopies : Type 0
TransposesHomotopies =
    (out back forth into : Matrix) → IsHomotopy out back forth into
    → IsHomotopy (transposed into) (transposed forth) (transposed back) (transposed out)

-- where there is a homotopy, and `into` and `out` after it give 0, they are exact
abbrev pub IsExactByHomotopy : Type 0
IsExactByHomotopy =
    (out back forth into : Matrix) → IsHomotopy out back forth into → IsZeroMatrix (matrix_product into out)
    → IsExactPair out into

-- maps that are exact give 0, one after the other
abbrev pub HasZeroProducts : Type 0
HasZeroProducts =
    (out into : Matrix) → 1 < out.ring.modulus → IsExactPair out into → IsZeroMatrix (matrix_product into out)

-- the transposes of an exact complex of free modules that ends in a free module, in the other order, are exact
abbrev pub HasExactTransposes : Type 0
HasExactTransposes =
    (ring : Ring) (degrees : List ℤ) (maps : List Matrix) → 1 < ring.modulus → IsExactOnto ring degrees maps
    → IsExactComplex (reverse (map transposed (to_nothing ring degrees ∷ maps)))

-- the identity of a free module is such a complex
abbrev pub HasExactIdentities : Type 0
HasExactIdentities =
    (ring : Ring) (degrees : List ℤ) → 1 < ring.modulus
    → IsExactOnto ring degrees (identity ring degrees ∷ from_nothing ring degrees ∷ [])
