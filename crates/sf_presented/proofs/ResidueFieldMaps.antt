-- The map 1 onto the residue field: cycles are the vectors of the ideal of x and y, and the image and the cokernel start
-- from all vectors, as the cokernel of the Koszul complex does.
use Rattle.std.proofs.Common.{◌≡◌, [], ◌∷◌, inl, inr, refl, sym, ◌∙◌, ap, arith, pos}
use Rattle.sf_algebra.specs.Matrices.{Matrix, IsMatrix}
use Rattle.sf_algebra.specs.MatrixOperations.{stacked, unit_vector}
use Rattle.sf_algebra.specs.Rings.{plain, IsRing}
use Rattle.sf_algebra.specs.Sums.{add, normal, insert}
use Rattle.sf_algebra.specs.Vectors.{Vector, IsVector}
use Rattle.sf_algebra.proofs.GradedMatrices.Identities.{IsMatrix-identity}
use Rattle.sf_algebra.proofs.GradedMatrices.Stacks.{IsMatrix-stacked}
use Rattle.sf_algebra.proofs.Vectors.HomogeneousVectors.{row_combination-identity}
use Rattle.sf_algebra.proofs.Vectors.RowSums.{row_sum-nil_first}
use Rattle.sf_groebner.specs.Examples.{vector}
use Rattle.sf_groebner.specs.Homology.{IsAny, IsCycle}
use Rattle.sf_groebner.specs.MinimalGenerators.{IsInSum}
use Rattle.sf_groebner.specs.Presentations.{IsZero}
use Rattle.sf_groebner.specs.ResolutionExamples.{koszul, koszul_row, two_variables, x_row, y_row}
use Rattle.sf_groebner.specs.Spans.{combined, InSpan}
use Rattle.sf_groebner.proofs.PartsOfBases.StackedSpans.{InSpan-stacked_sum}
use Rattle.sf_groebner.proofs.Spanning.SpanCombinations.{span_submodule, zero-inside}
use Rattle.sf_groebner.proofs.Spanning.Spans.{span_module}
use Rattle.sf_groebner.proofs.Uniqueness.Homology.{unique_kernel}
use Rattle.sf_groebner.proofs.Uniqueness.MinimalGenerators.{AreMinimal-same}
use Rattle.sf_groebner.proofs.Uniqueness.PresentedModules.{minimal-inside}
use Rattle.sf_groebner.proofs.WorkedExamples.FreeRelations.{reduced-free_relations, reduced-no_rows, row_combination-no_rows, span-no_rows}
use Rattle.sf_groebner.proofs.WorkedExamples.KoszulCokernel.{koszul-cokernel}
use Rattle.sf_groebner.proofs.WorkedExamples.KoszulSteps.{variables-matrix, variables-syzygies, koszul-needed}
use Rattle.sf_presented.specs.ResidueField.{whole_ring, residue_field, one_map, IsMapOntoResidueField, RefusesMapIntoRing, HasIdealAsKernel, RefusesFreeKernel, RefusesKernelInRing, HasResidueFieldAsImage, HasNoCokernel, HasResidueRelations}
use Rattle.sf_presented.proofs.FreeBases.{InSpan-identity, reduced-any}
use Rattle.sf_presented.proofs.RowMaps.{rows-InSpan, sends-span}

positive : IsRing (plain 101)
positive = omega arith

one-matrix : IsMatrix one_map
one-matrix = IsMatrix-identity (plain 101) (omega arith) (pos 0 ∷ [])

-- no row of relations has to be sent
pub onto-residue_field : IsMapOntoResidueField
onto-residue_field = record {
  matrix = one-matrix;
  source_ring = refl;
  target_ring = refl;
  source_degrees = refl;
  target_degrees = refl;
  sends = sends-span whole_ring residue_field one_map positive refl refl variables-matrix tt;
}

-- x isn't 0
x-not_zero : InSpan whole_ring (combined one_map x_row) → ⊥
x-not_zero h =
    let vector : IsVector (plain 101) (pos 0 ∷ []) x_row = variables-matrix.0 in
    let same : x_row.terms ≡ [] =
    sym (row_combination-identity (plain 101) (omega arith) (pos 0 ∷ []) x_row vector)
    ∙ span-no_rows (plain 101) positive (pos 0 ∷ []) (combined one_map x_row) h in
    cc

variables-rows : InSpan two_variables x_row × InSpan two_variables y_row
variables-rows =
    let rows = rows-InSpan two_variables positive (omega arith) variables-matrix in (rows.0, rows.1.0)

pub refuses_map_into_ring : RefusesMapIntoRing
refuses_map_into_ring h = x-not_zero (h.sends x_row variables-rows.0)

-- modulo no rows is modulo 0
free_from_zero : (v : Vector) → IsZero v → InSpan whole_ring v
free_from_zero v none = record {
  coefficients = record { degree = v.degree; terms = [] };
  homogeneous = record { canonical = record { descending = tt; residues = tt }; homogeneous = tt };
  value = λ i. record { degree = v.degree; terms = (row_combination-no_rows (plain 101) positive [] ∙ sym none) i };
}

pub ideal-kernel : HasIdealAsKernel
ideal-kernel = record {
  generators_ring = refl;
  generators_target = refl;
  generators_minimal =
      AreMinimal-same (plain 101) (pos 0 ∷ []) (IsCycle one_map residue_field) (IsCycle one_map residue_field) IsZero
      (InSpan whole_ring)
      (λ v k. k) (λ v k. k) free_from_zero
      (span-no_rows (plain 101) positive (pos 0 ∷ [])) two_variables.rows koszul-cokernel.relations_minimal;
  relations_ring = refl;
  relations_target = refl;
  relations_minimal = record {
    basis = koszul_row ∷ [];
    reduced = reduced-free_relations two_variables positive (pos 0 ∷ []) (koszul_row ∷ []) variables-syzygies;
    kept = inr (koszul-needed, ([], refl, refl));
  };
}

pub refuses_free_kernel : RefusesFreeKernel
refuses_free_kernel h =
    let same =
    (unique_kernel whole_ring residue_field one_map positive refl refl tt variables-matrix two_variables _ two_variables koszul h ideal-kernel).1 in
    let rows : [] ≡ koszul_row ∷ [] = ap (λ (m : Matrix). m.rows) same in
    cc

pub refuses_kernel_in_ring : RefusesKernelInRing
refuses_kernel_in_ring relations h =
    x-not_zero (minimal-inside (plain 101) (pos 0 ∷ []) (IsCycle one_map whole_ring)
    (InSpan whole_ring) two_variables.rows h.generators_minimal).0.inside

-- 1 with x and y spans all vectors
both-matrix : IsMatrix (stacked one_map two_variables)
both-matrix = IsMatrix-stacked one_map two_variables refl refl one-matrix variables-matrix

all_from_span : (v : Vector) → InSpan (stacked one_map two_variables) v → IsAny (plain 101) (pos 0 ∷ []) v
all_from_span = (span_module (stacked one_map two_variables) positive both-matrix).vectors

span_from_all : (v : Vector) → IsAny (plain 101) (pos 0 ∷ []) v → InSpan (stacked one_map two_variables) v
span_from_all v h =
    InSpan-stacked_sum one_map two_variables positive refl v (record {
      first = record { degree = v.degree; terms = [] };
      second = v;
      in_module =
          zero-inside (plain 101) positive (pos 0 ∷ []) (InSpan two_variables)
          (span_submodule two_variables positive variables-matrix) v.degree;
      in_span = InSpan-identity (plain 101) positive (omega arith) (pos 0 ∷ []) v h;
      first_degree = refl;
      second_degree = refl;
      sum = row_sum-nil_first (plain 101) (omega arith) v.terms h.canonical;
    })

pub residue_field-image : HasResidueFieldAsImage
residue_field-image = record {
  generators_ring = refl;
  generators_target = refl;
  generators_minimal =
      AreMinimal-same (plain 101) (pos 0 ∷ []) (IsAny (plain 101) (pos 0 ∷ []))
      (InSpan (stacked one_map two_variables)) (InSpan two_variables) (InSpan two_variables)
      span_from_all all_from_span (λ v k. k) (λ v k. k) one_map.rows koszul-cokernel.generators_minimal;
  relations_ring = refl;
  relations_target = refl;
  relations_minimal = koszul-cokernel.relations_minimal;
}

-- 1 is in the span, so no generator is needed
one_left_out : IsInSum (plain 101) [] (InSpan (stacked one_map two_variables)) (unit_vector (pos 0) 0)
unfolding add normal insert
one_left_out = record {
  first = unit_vector (pos 0) 0;
  second = vector 0 [];
  in_module = span_from_all (unit_vector (pos 0) 0) one-matrix.0;
  in_span = free_from_zero (vector 0 []) refl;
  first_degree = refl;
  second_degree = refl;
  sum = refl;
}

pub no-cokernel : HasNoCokernel
no-cokernel = record {
  generators_ring = refl;
  generators_target = refl;
  generators_minimal = record {
    basis = unit_vector (pos 0) 0 ∷ [];
    reduced = reduced-any (plain 101) positive (omega arith) (pos 0 ∷ []);
    kept = inl (one_left_out, refl);
  };
  relations_ring = refl;
  relations_target = refl;
  relations_minimal = record {
    basis = [];
    reduced = reduced-no_rows (plain 101) (pos 0 ∷ []) (InSpan (stacked one_map two_variables));
    kept = refl;
  };
}

pub residue-relations : HasResidueRelations
residue-relations = record {
  base_matrix = variables-matrix;
  base_ring = refl;
  ring = refl;
  target = refl;
  minimal = koszul-cokernel.relations_minimal;
}
