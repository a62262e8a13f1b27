-- The tensor bicomplex of the residue field with itself, over the residues modulo 101 and in x and y: the Koszul complex
--
--     R(0) <- (x; y) - R(1) + R(1) <- (y, -x) - R(2)
--
-- with itself. In column p and row q stand the generators of place p with those of place q:
--
--     row 2    R(2)     R(3)^2    R(4)
--     row 1    R(1)^2   R(2)^4    R(3)^2
--     row 0    R(0)     R(1)^2    R(2)
--
--     column    0        1         2
--
-- (Weibel, "An Introduction to Homological Algebra", sections 2.7 and 4.5; the example is this project's own.)
use Rattle.std.specs.Prelude.{[], ◌∷◌, pos}
use Rattle.sf_algebra.specs.Matrices.{Matrix}
use Rattle.sf_algebra.specs.MatrixOperations.{identity}
use Rattle.sf_algebra.specs.Rings.{plain}
use Rattle.sf_algebra.specs.Vectors.{Vector}
use Rattle.sf_groebner.specs.Examples.{term, vector}
use Rattle.sf_groebner.specs.MinimalGenerators.{matrix_of}
use Rattle.sf_groebner.specs.ResolutionExamples.{koszul, two_variables}
use Rattle.sf_bicomplex.specs.Bicomplexes.{Bicomplex, IsBicomplex}
use Rattle.sf_bicomplex.specs.Descriptions.{Describes}
use Rattle.sf_bicomplex.specs.GivenHomology.{IsGivenHomology}
use Rattle.sf_bicomplex.specs.InducedFiltrations.{HasLeadingColumn, IsPartOfHomology}
use Rattle.sf_bicomplex.specs.NextPages.{HasPageCoordinates, IsPageHomology}
use Rattle.sf_bicomplex.specs.Pages.{HasDifferential, IsPage}
use Rattle.sf_bicomplex.specs.TensorBicomplexes.{FreeComplex, IsFreeComplex, complex_of, tensor_of_complexes}

abbrev pub koszul_complex : FreeComplex
koszul_complex = complex_of (plain 101) (pos 0 ∷ []) (two_variables ∷ koszul ∷ [])

abbrev pub residue_bicomplex : Bicomplex
residue_bicomplex = tensor_of_complexes koszul_complex koszul_complex

abbrev pub IsKoszulComplex : Type 0
IsKoszulComplex = IsFreeComplex koszul_complex

abbrev pub IsResidueBicomplex : Type 0
IsResidueBicomplex = IsBicomplex residue_bicomplex

-- two generators of degree 1, and x and y times each
abbrev pub pair_generators : Matrix
pair_generators = identity (plain 101) (pos 1 ∷ pos 1 ∷ [])

abbrev pub pair_relations : Matrix
pair_relations = record {
  ring = plain 101;
  target = pos 1 ∷ pos 1 ∷ [];
  rows = vector 2 (term 1 0 (1 ∷ []) ∷ [])
      ∷ vector 2 (term 1 0 (0 ∷ 1 ∷ []) ∷ [])
      ∷ vector 2 (term 1 1 (1 ∷ []) ∷ [])
      ∷ vector 2 (term 1 1 (0 ∷ 1 ∷ []) ∷ [])
      ∷ [];
}

-- page 2 in column 1 and row 0
abbrev pub HasResiduePage : Type 0
HasResiduePage = IsPage residue_bicomplex 2 (pos 1) 1 pair_generators pair_relations

-- the generator in column 2 and row 0
abbrev pub highest_generator : Vector
highest_generator = vector 2 (term 1 0 [] ∷ [])

-- the differential of page 2 sends it to 0, in column 0 and row 1
abbrev pub HasNoResidueDifferential : Type 0
HasNoResidueDifferential =
    HasDifferential residue_bicomplex 2 (pos 2) (pos 1) 0 highest_generator (vector 2 [])

-- page 3 is the same there
abbrev pub HasLastResiduePage : Type 0
HasLastResiduePage = IsPage residue_bicomplex 3 (pos 1) 1 pair_generators pair_relations

-- so is the homology of page 2, in its own coordinates
abbrev pub HasResiduePageHomology : Type 0
HasResiduePageHomology = IsPageHomology residue_bicomplex 2 (pos 1) 1 pair_generators pair_generators pair_relations

-- the two matrices between them are the identity
abbrev pub HasIdentityToHomology : Type 0
HasIdentityToHomology =
    Describes (HasPageCoordinates residue_bicomplex 2 (pos 1) 1 pair_generators) pair_generators pair_relations
    pair_generators pair_generators

abbrev pub HasIdentityFromHomology : Type 0
HasIdentityFromHomology =
    Describes (λ c v. HasPageCoordinates residue_bicomplex 2 (pos 1) 1 pair_generators v c) pair_generators pair_relations
    pair_generators pair_generators

-- in total degree 1: the generators of column 1, less those of column 0
abbrev pub paired_cycles : Matrix
paired_cycles = record {
  ring = plain 101;
  target = pos 1 ∷ pos 1 ∷ pos 1 ∷ pos 1 ∷ [];
  rows = vector 1 (term 1 0 [] ∷ term 100 2 [] ∷ []) ∷ vector 1 (term 1 1 [] ∷ term 100 3 [] ∷ []) ∷ [];
}

-- the leading columns in column 1 of the classes of these are the generators of the page
abbrev pub HasResidueLeadingColumns : Type 0
HasResidueLeadingColumns =
    Describes (HasLeadingColumn residue_bicomplex (pos 2) (pos 1) (pos 0) paired_cycles 1) pair_generators pair_relations
    pair_generators pair_generators

-- and these are the generators of the homology of the total complex in that degree, with the relations x and y each
abbrev pub HasResidueHomology : Type 0
HasResidueHomology = IsGivenHomology residue_bicomplex (pos 1) paired_cycles pair_relations

-- the parts of that homology: all of it is in column 1, and nothing in the two others
abbrev pub no_pair_generators : Matrix
no_pair_generators = matrix_of (plain 101) (pos 1 ∷ pos 1 ∷ []) []

abbrev pub HasResidueParts : Type 0
HasResidueParts =
    IsPartOfHomology residue_bicomplex (pos 1) paired_cycles 0 no_pair_generators (matrix_of (plain 101) [] [])
    × IsPartOfHomology residue_bicomplex (pos 1) paired_cycles 1 pair_generators pair_relations
    × IsPartOfHomology residue_bicomplex (pos 1) paired_cycles 2 no_pair_generators (matrix_of (plain 101) [] [])
