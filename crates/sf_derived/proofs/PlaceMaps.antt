-- Two maps of free modules whose product is 0 give a complex of presented modules.
use Rattle.std.proofs.Common.{◌≡◌, sym, ◌∙◌, ap, subst}
use Rattle.std.specs.List.{AllByRecursion}
use Rattle.sf_algebra.specs.Matrices.{Matrix}
use Rattle.sf_algebra.specs.MatrixOperations.{degree_sums, stacked}
use Rattle.sf_algebra.specs.Rings.{IsRing}
use Rattle.sf_algebra.proofs.Monomials.Weights.{field_ring}
use Rattle.sf_groebner.specs.Spans.{InSpan, combined_rows}
use Rattle.sf_presented.proofs.RowMaps.{sends-span}
use Rattle.sf_functor.specs.FunctorLaws.{IsComplexBeside, IsMapBeside}
use Rattle.sf_functor.specs.Functors.{tensor_matrix, tensor_relations}
use Rattle.sf_functor.specs.TensorPlans.{relations_between}
use Rattle.sf_functor.proofs.FunctorComplexes.{tensors_complexes}
use Rattle.sf_functor.proofs.FunctorMaps.{IsMatrix-tensor_relations, rows_of_product, tensors_maps}
use Rattle.sf_module.specs.HomologyPlans.{IsComplexAt, boundaries_of}
use Rattle.sf_derived.specs.Places.{tensor_place}

module _ (a b n : Matrix) (h : IsComplexBeside a b n) where
  pub second_beside : IsMapBeside b n
  second_beside = record {
    field = h.first.field;
    ring = sym h.composable.rings ∙ h.first.ring;
    map = h.second;
    module_relations = h.first.module_relations;
  }

  pub complex_at : IsComplexAt (tensor_place a b n)
  complex_at =
      let A = tensor_matrix a n in
      let B = tensor_matrix b n in
      let beyond = tensor_relations b.target n in
      let ring : b.ring ≡ n.ring = second_beside.ring in
      let images : AllByRecursion (λ v. InSpan beyond (combined_rows b.ring B.rows v)) A.rows =
      subst (λ q. AllByRecursion (λ v. InSpan beyond (combined_rows q B.rows v)) A.rows) h.composable.rings
      (rows_of_product A B (InSpan beyond) (tensors_complexes a b n h).1) in
      record {
        arriving_ring = h.first.ring;
        arriving_target = ap (λ ds. degree_sums ds n.target) (sym h.composable.degrees);
        out_map = tensors_maps b n second_beside;
        square = sends-span A beyond B (subst IsRing (sym ring) (field_ring h.first.field)) (sym h.composable.rings) ring
            (IsMatrix-tensor_relations b.target n h.first.field h.first.module_relations) images;
      }

  -- the rows that arrive, and the relations behind them
  pub boundaries_are : relations_between a n ≡ boundaries_of (tensor_place a b n)
  boundaries_are = ap (λ ds. stacked (tensor_matrix a n) (tensor_relations ds n)) (sym h.composable.degrees)
