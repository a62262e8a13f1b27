-- The Koszul complex is a complex, so its tensor product with itself is a bicomplex; a cycle of its total complex.
use Rattle.std.proofs.Common.{◌≡◌, ℕ, zero, suc, ◌≤◌, [], ◌∷◌, refl, arith, pos}
use Rattle.std.proofs.lemmas.Int.{ints}
use Rattle.sf_algebra.specs.MatrixOperations.{matrix_product}
use Rattle.sf_algebra.specs.Multiples.{combination, combination_terms}
use Rattle.sf_algebra.specs.Residues.{negative_mod, product_mod, sum_mod}
use Rattle.sf_algebra.specs.Rings.{plain}
use Rattle.sf_algebra.specs.Sums.{add, normal, insert}
use Rattle.sf_algebra.specs.Vectors.{Vector}
use Rattle.sf_groebner.specs.Examples.{term, vector}
use Rattle.sf_groebner.specs.Spans.{combined}
use Rattle.sf_groebner.proofs.Spanning.SpanCombinations.{zero-inside}
use Rattle.sf_groebner.proofs.WorkedExamples.KoszulSteps.{variables-matrix}
use Rattle.sf_blocks.specs.BlockLists.{IsFrom}
use Rattle.sf_blocks.specs.MatrixSums.{IsZeroMatrix}
use Rattle.sf_bicomplex.specs.Pages.{FallsBelow, IsBoundaryOfPage}
use Rattle.sf_bicomplex.specs.TensorExample.{HasNoResidueDifferential, IsKoszulComplex, IsResidueBicomplex, koszul_complex, residue_bicomplex}
use Rattle.sf_bicomplex.specs.TotalColumns.{total_map}
use Rattle.sf_bicomplex.proofs.Examples.FreeSpots.{plain_ring}
use Rattle.sf_bicomplex.proofs.Examples.TailPages.{field}
use Rattle.sf_bicomplex.proofs.Spans.PageSpans.{IsSpanned-boundaries}
use Rattle.sf_bicomplex.proofs.Spans.SpannedModules.{IsSubmodule-spanned}
use Rattle.sf_bicomplex.proofs.Tensors.Factors.{tensors_of_complexes}

outside : (p : ℕ) → 3 ≤ p → koszul_complex.degrees p ≡ []
outside zero h = absurd (omega arith)
outside (suc zero) h = absurd (omega arith)
outside (suc (suc zero)) h = absurd (omega arith)
outside (suc (suc (suc p))) h = refl

sources : (p : ℕ) → IsFrom (plain 101) (koszul_complex.degrees p) (koszul_complex.map p)
sources zero = record { ring_of = refl; source_of = refl; matrix = search (arith, ints) }
sources (suc zero) = record { ring_of = refl; source_of = refl; matrix = variables-matrix }
sources (suc (suc zero)) = record { ring_of = refl; source_of = refl; matrix = search (arith, ints) }
sources (suc (suc (suc p))) = record { ring_of = refl; source_of = refl; matrix = tt }

targets : (p : ℕ) → (koszul_complex.map (suc p)).target ≡ koszul_complex.degrees p
targets zero = refl
targets (suc zero) = refl
targets (suc (suc p)) = refl

squares : (p : ℕ) → IsZeroMatrix (matrix_product (koszul_complex.map (suc (suc p))) (koszul_complex.map (suc p)))
unfolding add combination combination_terms normal insert sum_mod product_mod
squares zero = refl
squares (suc p) = refl

pub koszul-complex : IsKoszulComplex
koszul-complex = record {
  is_ring = plain_ring;
  outside = outside;
  sources = sources;
  leaving = refl;
  targets = targets;
  squares = squares;
}

pub residue-bicomplex : IsResidueBicomplex
residue-bicomplex =
    tensors_of_complexes koszul_complex koszul_complex koszul-complex koszul-complex refl (omega arith)

-- the generator in column 2 with its tails in columns 1 and 0
abbrev with_tails : Vector
with_tails = vector 2 (term 1 0 [] ∷ term 1 2 [] ∷ term 100 3 [] ∷ term 1 5 [] ∷ [])

tails-value : combined (total_map residue_bicomplex (pos 2) (pos 1)) with_tails ≡ vector 2 []
unfolding add combination combination_terms normal insert sum_mod product_mod negative_mod
tails-value = refl

falls : FallsBelow residue_bicomplex (pos 2) (pos 1) 3 1 with_tails
unfolding add combination combination_terms normal insert sum_mod product_mod negative_mod
falls = record {
  stands = record { vector = search (arith, ints); below = search (arith, ints) };
  falls = record {
    vector = search (arith, ints);
    source = vector 2 [];
    inside = record { vector = search (arith, ints); below = tt };
    equal = record {
      degrees = refl;
      difference = record { coefficients = vector 2 []; homogeneous = search (arith, ints); value = refl };
    };
  };
}

-- 0 is a boundary
no_boundary : IsBoundaryOfPage residue_bicomplex 2 (pos 2) (pos 1) 0 (vector 2 [])
no_boundary =
    zero-inside (plain 101) plain_ring (pos 1 ∷ pos 1 ∷ [])
    (IsBoundaryOfPage residue_bicomplex 2 (pos 2) (pos 1) 0)
    (IsSubmodule-spanned (plain 101) (pos 1 ∷ pos 1 ∷ []) plain_ring
    (IsBoundaryOfPage residue_bicomplex 2 (pos 2) (pos 1) 0)
    (IsSpanned-boundaries residue_bicomplex residue-bicomplex field (pos 2) (pos 1) refl 2 0 (omega arith))) (pos 2)

-- so the differential is 0 there
pub no-residue_differential : HasNoResidueDifferential
unfolding add combination combination_terms normal insert sum_mod product_mod negative_mod
no-residue_differential = record {
  from_vector = search (arith, ints);
  to_vector = search (arith, ints);
  through = with_tails;
  falls = falls;
  start = record {
    degrees = refl;
    difference = record { coefficients = vector 2 []; homogeneous = search (arith, ints); value = refl };
  };
  end = record { degrees = refl; difference = no_boundary };
}
