-- Examples that are refused: a value that should be 0 has a term, or what is the one presentation differs from another list.
use Rattle.std.proofs.Common.{ℕ, List, [], ◌∷◌, length, refl, ap, arith, pos}
use Rattle.std.proofs.lemmas.Int.{ints}
use Rattle.sf_algebra.specs.Matrices.{Matrix}
use Rattle.sf_algebra.specs.MatrixOperations.{row_at}
use Rattle.sf_algebra.specs.Multiples.{combination, combination_terms}
use Rattle.sf_algebra.specs.Residues.{negative_mod, product_mod, sum_mod}
use Rattle.sf_algebra.specs.Rings.{plain}
use Rattle.sf_algebra.specs.Sums.{add, insert, normal}
use Rattle.sf_algebra.specs.Terms.{Term}
use Rattle.sf_algebra.specs.Vectors.{Place}
use Rattle.sf_groebner.proofs.WorkedExamples.FreeRelations.{span-no_rows}
use Rattle.sf_bicomplex.specs.RefusedExamples.{RefusesCommutingSquares, RefusesDoubledHomotopy, RefusesExchangedGenerators, RefusesPartOfOtherColumn, RefusesUnpairedCycles, RefusesUnsignedComplex, exchanged_generators}
use Rattle.sf_bicomplex.specs.TensorExample.{no_pair_generators, pair_generators}
use Rattle.sf_bicomplex.proofs.Examples.FreeSpots.{plain_ring}
use Rattle.sf_bicomplex.proofs.Examples.TailPages.{field}
use Rattle.sf_bicomplex.proofs.Examples.TensorParts.{residue-parts, spanned, Part}
use Rattle.sf_bicomplex.proofs.Spans.SpannedModules.{spanned-one_presentation}

-- the value there is 2 x y
pub refuses-unsigned_complex : RefusesUnsignedComplex
unfolding add combination combination_terms normal insert sum_mod product_mod negative_mod
refuses-unsigned_complex h = absurd (omega (arith, ap (λ (m : Matrix). length (row_at m.rows 0)) (h.squares 0)))

-- the row of the generator in column 1 and row 1 has 2 x y too
pub refuses-commuting_squares : RefusesCommutingSquares
unfolding add combination combination_terms normal insert sum_mod product_mod negative_mod
refuses-commuting_squares h =
    let none = span-no_rows (plain 101) plain_ring (pos 0 ∷ []) _ (h.across 0 (pos 1)).0 in
    absurd (omega (arith, ap length none))

-- what leaves the first generator is x
pub refuses-unpaired_cycles : RefusesUnpairedCycles
unfolding add combination combination_terms normal insert sum_mod product_mod negative_mod
refuses-unpaired_cycles h =
    let none = span-no_rows (plain 101) plain_ring (pos 0 ∷ []) _ h.presented.inside.0.inside in
    absurd (omega (arith, ap length none))

-- a number of the first term
abbrev number_of : (Term Place → ℕ) → List (Term Place) → ℕ
number_of f [] = 0
number_of f (t ∷ ts) = f t

pub refuses-exchanged_generators : RefusesExchangedGenerators
refuses-exchanged_generators h =
    let same =
    (spanned-one_presentation (plain 101) field (pos 1 ∷ pos 1 ∷ []) (Part 2) (Part 1) (spanned 2) (spanned 1)
    exchanged_generators _ pair_generators _ h residue-parts.1).0 in
    absurd (omega (arith, ap (λ (m : Matrix). number_of (λ t. t.at.position) (row_at m.rows 0)) same))

pub refuses-part_of_other_column : RefusesPartOfOtherColumn
refuses-part_of_other_column h =
    let same =
    (spanned-one_presentation (plain 101) field (pos 1 ∷ pos 1 ∷ []) (Part 1) (Part 0) (spanned 1) (spanned 0)
    pair_generators _ no_pair_generators _ h residue-parts.0).0 in
    absurd (omega (arith, ap (λ (m : Matrix). length m.rows) same))

pub refuses-doubled_homotopy : RefusesDoubledHomotopy
unfolding add combination combination_terms normal insert sum_mod product_mod negative_mod
refuses-doubled_homotopy = (
  λ h. absurd (omega (arith, ap (λ (m : Matrix). number_of (λ t. t.coefficient) (row_at m.rows 0)) h.sum)),
  record {
    above_one = omega arith;
    out_matrix = search (arith, ints);
    back_matrix = search (arith, ints);
    forth_matrix = search (arith, ints);
    into_matrix = tt;
    out_back = record { positive = omega arith; rings = refl; degrees = refl };
    forth_into = record { positive = omega arith; rings = refl; degrees = refl };
    parallel = record { rings = refl; targets = refl; degrees = refl };
    sum = refl;
  },
)
