-- What is no complex, bicomplex, part of homology or homotopy, each for one reason; the examples beside them are. (The
-- examples are this project's own.)
use Rattle.std.specs.Prelude.{[], ◌∷◌, pos}
use Rattle.sf_algebra.specs.Matrices.{Matrix}
use Rattle.sf_algebra.specs.MatrixOperations.{identity, kronecker}
use Rattle.sf_algebra.specs.Rings.{plain}
use Rattle.sf_groebner.specs.Examples.{term, vector}
use Rattle.sf_groebner.specs.MinimalGenerators.{matrix_of}
use Rattle.sf_groebner.specs.ResolutionExamples.{two_variables}
use Rattle.sf_homotopy.specs.Exactness.{from_nothing, to_nothing}
use Rattle.sf_homotopy.specs.Homotopies.{IsHomotopy}
use Rattle.sf_bicomplex.specs.Bicomplexes.{Bicomplex, IsBicomplex}
use Rattle.sf_bicomplex.specs.GivenHomology.{IsGivenHomology}
use Rattle.sf_bicomplex.specs.InducedFiltrations.{IsPartOfHomology}
use Rattle.sf_bicomplex.specs.TensorBicomplexes.{IsFreeComplex, complex_of, free_map}
use Rattle.sf_bicomplex.specs.TensorExample.{koszul_complex, pair_generators, pair_relations, paired_cycles, residue_bicomplex}

-- (x; y) after (y, x) is 2 x y: the sign of (y, -x) is wanting
abbrev pub unsigned_row : Matrix
unsigned_row =
    matrix_of (plain 101) (pos 1 ∷ pos 1 ∷ []) (vector 2 (term 1 0 (0 ∷ 1 ∷ []) ∷ term 1 1 (1 ∷ []) ∷ []) ∷ [])

abbrev pub RefusesUnsignedComplex : Type 0
RefusesUnsignedComplex = IsFreeComplex (complex_of (plain 101) (pos 0 ∷ []) (two_variables ∷ unsigned_row ∷ [])) → ⊥

-- the tensor bicomplex without the signs of dv: its squares commute
abbrev pub commuting_bicomplex : Bicomplex
commuting_bicomplex = record {
  ring = plain 101;
  columns = 3;
  relations = residue_bicomplex.relations;
  vertical = λ p q. kronecker (identity (plain 101) (koszul_complex.degrees p)) (free_map koszul_complex q);
  horizontal = residue_bicomplex.horizontal;
}

abbrev pub RefusesCommutingSquares : Type 0
RefusesCommutingSquares = IsBicomplex commuting_bicomplex → ⊥

-- the generators of column 1 alone, which are no cycles of the total complex
abbrev pub RefusesUnpairedCycles : Type 0
RefusesUnpairedCycles =
    IsGivenHomology residue_bicomplex (pos 1)
    (matrix_of (plain 101) (pos 1 ∷ pos 1 ∷ pos 1 ∷ pos 1 ∷ [])
    (vector 1 (term 1 0 [] ∷ []) ∷ vector 1 (term 1 1 [] ∷ []) ∷ []))
    pair_relations → ⊥

-- the generators of the part of column 1 in the other order
abbrev pub exchanged_generators : Matrix
exchanged_generators =
    matrix_of (plain 101) (pos 1 ∷ pos 1 ∷ []) (vector 1 (term 1 1 [] ∷ []) ∷ vector 1 (term 1 0 [] ∷ []) ∷ [])

abbrev pub RefusesExchangedGenerators : Type 0
RefusesExchangedGenerators =
    IsPartOfHomology residue_bicomplex (pos 1) paired_cycles 1 exchanged_generators pair_relations → ⊥

-- the part of column 1 as that of column 0
abbrev pub RefusesPartOfOtherColumn : Type 0
RefusesPartOfOtherColumn =
    IsPartOfHomology residue_bicomplex (pos 1) paired_cycles 0 pair_generators pair_relations → ⊥

-- twice the identity of R(0) as a homotopy of the identity, whose homotopy is itself
abbrev pub doubled_identity : Matrix
doubled_identity = matrix_of (plain 101) (pos 0 ∷ []) (vector 0 (term 2 0 [] ∷ []) ∷ [])

abbrev pub RefusesDoubledHomotopy : Type 0
RefusesDoubledHomotopy =
    (IsHomotopy (identity (plain 101) (pos 0 ∷ [])) doubled_identity (to_nothing (plain 101) (pos 0 ∷ []))
    (from_nothing (plain 101) (pos 0 ∷ [])) → ⊥)
    × IsHomotopy (identity (plain 101) (pos 0 ∷ [])) (identity (plain 101) (pos 0 ∷ []))
    (to_nothing (plain 101) (pos 0 ∷ [])) (from_nothing (plain 101) (pos 0 ∷ []))
