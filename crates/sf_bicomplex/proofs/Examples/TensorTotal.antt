-- The homology of the total complex in degree 1: a vector is the sum of a combination of the paired cycles, by its part in
-- column 1, and of the sum of its parts, set in column 0; for a cycle this sum is a syzygy of x and y.
use Rattle.std.proofs.Common.{◌≡◌, [], ◌∷◌, refl, sym, ap, ◌∙◌, subst, arith, pos}
use Rattle.std.proofs.lemmas.Int.{ints}
use Rattle.std.specs.List.{AllByRecursion}
use Rattle.sf_algebra.specs.Matrices.{IsMatrix, Matrix}
use Rattle.sf_algebra.specs.MatrixOperations.{identity, matrix_product, row_at, row_combination, stacked, unit_vector}
use Rattle.sf_algebra.specs.Multiples.{combination, combination_terms}
use Rattle.sf_algebra.specs.Residues.{negative_mod, product_mod, sum_mod}
use Rattle.sf_algebra.specs.Rings.{plain}
use Rattle.sf_algebra.specs.Sums.{add, insert, normal}
use Rattle.sf_algebra.specs.VectorOperations.{row_sum}
use Rattle.sf_algebra.specs.Vectors.{IsVector, Vector}
use Rattle.sf_algebra.proofs.Vectors.HomogeneousVectors.{IsVector-row_combination, row_combination-identity}
use Rattle.sf_groebner.specs.Examples.{term, vector}
use Rattle.sf_groebner.specs.Homology.{IsCycle}
use Rattle.sf_groebner.specs.MinimalGenerators.{IsInSum}
use Rattle.sf_groebner.specs.Presentations.{IsRelation}
use Rattle.sf_groebner.specs.ResolutionExamples.{koszul, koszul_end, two_variables}
use Rattle.sf_groebner.specs.Spans.{InSpan, IsSyzygy, combined}
use Rattle.sf_groebner.proofs.Spanning.SpanCombinations.{relation_submodule}
use Rattle.sf_groebner.proofs.Spanning.Submodules.{IsSubmodule}
use Rattle.sf_groebner.proofs.WorkedExamples.FreeRelations.{span-no_rows}
use Rattle.sf_groebner.proofs.WorkedExamples.KoszulSteps.{koszul-resolution, variables-matrix}
use Rattle.sf_presented.proofs.Composites.{combined-matrix_product}
use Rattle.sf_presented.proofs.RowMaps.{sends-span}
use Rattle.sf_presented.proofs.Steps.{exact-resolution}
use Rattle.sf_blocks.specs.MatrixSums.{matrix_sum}
use Rattle.sf_blocks.proofs.MatrixSums.SumProducts.{matrix_product-sum_second}
use Rattle.sf_bicomplex.specs.InducedFiltrations.{IsTotalBoundary}
use Rattle.sf_bicomplex.specs.TensorExample.{HasResidueHomology, pair_relations, paired_cycles, residue_bicomplex}
use Rattle.sf_bicomplex.specs.TotalColumns.{total_map, total_module}
use Rattle.sf_bicomplex.proofs.Examples.FreeSpots.{plain_ring}
use Rattle.sf_bicomplex.proofs.Examples.PairRelations.{pair-matrix}
use Rattle.sf_bicomplex.proofs.Examples.TailPages.{field}
use Rattle.sf_bicomplex.proofs.Examples.TensorPages.{generators_combined, inside-span}
use Rattle.sf_bicomplex.proofs.Examples.TensorSpots.{residue-bicomplex}
use Rattle.sf_bicomplex.proofs.Filtrations.TotalBoundaries.{boundaries-submodule}

abbrev Cycle : Vector → Type 0
Cycle = IsCycle (total_map residue_bicomplex (pos 1) (pos 0)) (total_module residue_bicomplex (pos 0))

abbrev Boundary : Vector → Type 0
Boundary = IsTotalBoundary residue_bicomplex (pos 2) (pos 1)

-- the part in column 1
abbrev pub first_two : Matrix
first_two = record {
  ring = plain 101;
  target = pos 1 ∷ pos 1 ∷ [];
  rows = unit_vector (pos 1) 0 ∷ unit_vector (pos 1) 1 ∷ vector 1 [] ∷ vector 1 [] ∷ [];
}

boundary_module : IsSubmodule (plain 101) (pos 1 ∷ pos 1 ∷ pos 1 ∷ pos 1 ∷ []) Boundary
boundary_module = boundaries-submodule residue_bicomplex residue-bicomplex (pos 2) (pos 1) refl

-- combinations of the cycles by relations are boundaries
relation_rows : AllByRecursion (IsRelation paired_cycles Boundary) pair_relations.rows
unfolding add combination combination_terms normal insert sum_mod product_mod negative_mod
relation_rows = (
  record {
    coefficients = search (arith, ints);
    inside = record { coefficients = vector 2 (term 100 1 [] ∷ []); homogeneous = search (arith, ints); value = refl };
  },
  (
    record {
      coefficients = search (arith, ints);
      inside = record { coefficients = vector 2 (term 100 2 [] ∷ term 100 5 [] ∷ []); homogeneous = search (arith, ints); value = refl };
    },
    (
      record {
        coefficients = search (arith, ints);
        inside = record { coefficients = vector 2 (term 100 3 [] ∷ term 1 5 [] ∷ []); homogeneous = search (arith, ints); value = refl };
      },
      (
        record {
          coefficients = search (arith, ints);
          inside = record { coefficients = vector 2 (term 100 4 [] ∷ []); homogeneous = search (arith, ints); value = refl };
        },
        tt,
      ),
    ),
  ),
)

pub from_relations : (c : Vector) → InSpan pair_relations c → IsRelation paired_cycles Boundary c
from_relations =
    inside-span pair_relations.rows (IsRelation paired_cycles Boundary)
    (relation_submodule paired_cycles plain_ring (pos 1 ∷ pos 1 ∷ pos 1 ∷ pos 1 ∷ []) Boundary boundary_module) relation_rows

-- the part in column 1 of a boundary is in the span of the relations
abbrev pub arriving : Matrix
arriving = stacked (total_map residue_bicomplex (pos 2) (pos 1)) (total_module residue_bicomplex (pos 1))

pub boundary_rows : AllByRecursion (λ v. InSpan pair_relations (combined first_two v)) arriving.rows
unfolding add combination combination_terms normal insert sum_mod product_mod negative_mod
boundary_rows = (
  record { coefficients = vector 2 (term 1 1 [] ∷ term 100 2 [] ∷ []); homogeneous = search (arith, ints); value = refl },
  (
    record { coefficients = vector 2 (term 100 0 [] ∷ []); homogeneous = search (arith, ints); value = refl },
    (
      record { coefficients = vector 2 (term 100 1 [] ∷ []); homogeneous = search (arith, ints); value = refl },
      (
        record { coefficients = vector 2 (term 100 2 [] ∷ []); homogeneous = search (arith, ints); value = refl },
        (
          record { coefficients = vector 2 (term 100 3 [] ∷ []); homogeneous = search (arith, ints); value = refl },
          (record { coefficients = vector 2 []; homogeneous = search (arith, ints); value = refl }, tt),
        ),
      ),
    ),
  ),
)

parts : matrix_product paired_cycles first_two ≡ identity (plain 101) (pos 1 ∷ pos 1 ∷ [])
unfolding add combination combination_terms normal insert sum_mod product_mod negative_mod
parts = refl

-- the part in column 1 of the cycles with coefficients c is c
pub cycle-part : (c : Vector) → IsVector (plain 101) (pos 1 ∷ pos 1 ∷ []) c
    → combined first_two (combined paired_cycles c) ≡ c
cycle-part c h =
    sym (combined-matrix_product paired_cycles first_two plain_ring refl c)
    ∙ ap (λ (m : Matrix). combined m c) parts
    ∙ generators_combined c h

pub to_relations : (c : Vector) → IsRelation paired_cycles Boundary c → InSpan pair_relations c
to_relations c h =
    subst (InSpan pair_relations) (cycle-part c h.coefficients)
    (sends-span arriving pair_relations first_two plain_ring refl refl pair-matrix boundary_rows (combined paired_cycles c) h.inside)

-- the sum of the parts in both columns, and what is set in column 0
abbrev added : Matrix
added = record {
  ring = plain 101;
  target = pos 1 ∷ pos 1 ∷ [];
  rows = unit_vector (pos 1) 0 ∷ unit_vector (pos 1) 1 ∷ unit_vector (pos 1) 0 ∷ unit_vector (pos 1) 1 ∷ [];
}

abbrev behind : Matrix
behind = record {
  ring = plain 101;
  target = pos 1 ∷ pos 1 ∷ pos 1 ∷ pos 1 ∷ [];
  rows = unit_vector (pos 1) 2 ∷ unit_vector (pos 1) 3 ∷ [];
}

whole : matrix_sum (matrix_product added behind) (matrix_product first_two paired_cycles)
    ≡ identity (plain 101) (pos 1 ∷ pos 1 ∷ pos 1 ∷ pos 1 ∷ [])
unfolding add combination combination_terms normal insert sum_mod product_mod negative_mod
whole = refl

out : matrix_product added two_variables ≡ total_map residue_bicomplex (pos 1) (pos 0)
unfolding add combination combination_terms normal insert sum_mod product_mod negative_mod
out = refl

added_matrix : IsMatrix added
added_matrix = search (arith, ints)

pub first_matrix : IsMatrix first_two
first_matrix = search (arith, ints)

arriving_matrix : IsMatrix arriving
unfolding add combination combination_terms normal insert sum_mod product_mod negative_mod
arriving_matrix = search (arith, ints)

koszul_bound : AllByRecursion (λ v. InSpan arriving (combined behind v)) koszul.rows
unfolding add combination combination_terms normal insert sum_mod product_mod negative_mod
koszul_bound = (record { coefficients = vector 2 (term 1 5 [] ∷ []); homogeneous = search (arith, ints); value = refl }, tt)

module _ (v : Vector) (h : Cycle v) where
  over_all : IsVector (plain 101) (pos 1 ∷ pos 1 ∷ pos 1 ∷ pos 1 ∷ []) v
  over_all = h.coefficients

  added_syzygy : IsSyzygy two_variables (combined added v)
  added_syzygy = record {
    coefficients = IsVector-row_combination added plain_ring.modulus added_matrix v over_all;
    zero =
        ap (λ (w : Vector). w.terms)
        (sym (combined-matrix_product added two_variables plain_ring refl v) ∙ ap (λ (m : Matrix). combined m v) out)
        ∙ span-no_rows (plain 101) plain_ring (pos 0 ∷ []) (combined (total_map residue_bicomplex (pos 1) (pos 0)) v) h.inside;
  }

  behind_bound : Boundary (combined behind (combined added v))
  behind_bound =
      sends-span koszul arriving behind plain_ring refl refl arriving_matrix koszul_bound (combined added v)
      (((exact-resolution two_variables field variables-matrix (two_variables ∷ koszul ∷ koszul_end ∷ []) koszul-resolution).1.0
      (combined added v)).1 added_syzygy)

  abbrev own_row : Matrix
  own_row = record { ring = plain 101; target = pos 1 ∷ pos 1 ∷ pos 1 ∷ pos 1 ∷ []; rows = v ∷ [] }

  both : row_sum (plain 101) (combined behind (combined added v)).terms (combined paired_cycles (combined first_two v)).terms
      ≡ v.terms
  both =
      (λ i. row_sum (plain 101) (sym (combined-matrix_product added behind plain_ring refl v) i).terms
      (sym (combined-matrix_product first_two paired_cycles plain_ring refl v) i).terms)
      ∙ sym (ap (λ (m : Matrix). row_at m.rows 0)
      (matrix_product-sum_second own_row (matrix_product added behind) (matrix_product first_two paired_cycles)
      plain_ring.modulus refl (record { rings = refl; targets = refl; degrees = refl })))
      ∙ ap (λ (m : Matrix). row_combination (plain 101) m.rows v.terms) whole
      ∙ row_combination-identity (plain 101) plain_ring.modulus (pos 1 ∷ pos 1 ∷ pos 1 ∷ pos 1 ∷ []) v over_all

  generate : IsInSum (plain 101) paired_cycles.rows Boundary v
  generate = record {
    first = combined behind (combined added v);
    second = combined paired_cycles (combined first_two v);
    in_module = behind_bound;
    in_span = record {
      coefficients = combined first_two v;
      homogeneous = IsVector-row_combination first_two plain_ring.modulus first_matrix v over_all;
      value = refl;
    };
    first_degree = refl;
    second_degree = refl;
    sum = both;
  }

cycle_rows : AllByRecursion Cycle paired_cycles.rows
unfolding add combination combination_terms normal insert sum_mod product_mod negative_mod
cycle_rows = (
  record {
    coefficients = search (arith, ints);
    inside = record { coefficients = vector 1 []; homogeneous = search (arith, ints); value = refl };
  },
  (
    record {
      coefficients = search (arith, ints);
      inside = record { coefficients = vector 1 []; homogeneous = search (arith, ints); value = refl };
    },
    tt,
  ),
)

pub residue-homology : HasResidueHomology
residue-homology = record {
  ring = refl;
  target = refl;
  presented = record { inside = cycle_rows; generate = generate; relate = λ c. (to_relations c, from_relations c) };
}
