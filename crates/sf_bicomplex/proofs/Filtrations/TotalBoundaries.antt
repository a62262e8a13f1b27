-- Boundaries of the total complex, as a span and in the group of the vectors of their degree.
use Rattle.std.proofs.Common.{◌≡◌, sym, ap, ◌∙◌, subst, refl, ℤ, pos, ◌-ℤ◌}
use Rattle.sf_algebra.specs.Multiples.{negative}
use Rattle.sf_algebra.specs.VectorOperations.{row_sum}
use Rattle.sf_algebra.specs.Vectors.{IsVector, Vector}
use Rattle.sf_algebra.proofs.Vectors.VectorGroups.{vectors_of_degree}
use Rattle.sf_algebra.proofs.GradedMatrices.Stacks.{IsMatrix-stacked}
use Rattle.sf_groebner.specs.Spans.{InSpan}
use Rattle.sf_groebner.proofs.MapsOnHomology.EqualModulo.{add-negative_again}
use Rattle.sf_groebner.proofs.PartsOfBases.StackedSpans.{InSpan-stacked, InSpan-stacked_sum}
use Rattle.sf_groebner.proofs.Spanning.SpanCombinations.{span_submodule}
use Rattle.sf_groebner.proofs.Spanning.Submodules.{IsSubmodule}
use Rattle.sf_chase.specs.ColumnPages.{ImagesModulo}
use Rattle.sf_bicomplex.specs.Bicomplexes.{Bicomplex, IsBicomplex}
use Rattle.sf_bicomplex.specs.InducedFiltrations.{IsTotalBoundary}
use Rattle.sf_bicomplex.specs.TotalColumns.{total_degrees, total_map, total_module}
use Rattle.sf_bicomplex.proofs.Columns.Splits.{first_of_sum}
use Rattle.sf_bicomplex.proofs.Pages.NearVectors.{AreSame}
use Rattle.sf_bicomplex.proofs.TotalComplexes.Diagonals.{IsMatrix-total_map, total_map-rows}
use Rattle.sf_bicomplex.proofs.TotalComplexes.TotalGroups.{IsMatrix-total_module, total_group, total_image, total_ring}
use Rattle.sf_bicomplex.proofs.TotalComplexes.TotalModules.{lowest-submodule}

module _ (b : Bicomplex) (h : IsBicomplex b) (n m : ℤ) (lower : m ≡ n -ℤ pos 1) where
  rings : b.ring ≡ (total_module b m).ring
  rings = sym (total_ring b h m (pos 0))

  pub boundaries-submodule : IsSubmodule b.ring (total_degrees b m) (IsTotalBoundary b n m)
  boundaries-submodule =
      span_submodule _ h.is_ring
      (IsMatrix-stacked (total_map b n m) (total_module b m) rings refl (IsMatrix-total_map b h n m lower)
      (IsMatrix-total_module b h m (pos 0)))

  pub total_boundaries-same : (d : ℤ) → AreSame b.ring h.is_ring (total_degrees b m) d (IsTotalBoundary b n m)
      (ImagesModulo (total_group b h n d) (total_group b h m d) (total_image b h n m lower d))
  total_boundaries-same d = record {
    there = λ v e.
        let s = InSpan-stacked (total_map b n m) (total_module b m) h.is_ring rings (record { degree = d; terms = v.0 }) e in
        let c : Vector = s.in_span.coefficients in
        let degree : c.degree ≡ d = ap (λ (x : Vector). x.degree) s.in_span.value ∙ s.second_degree in
        let element : (vectors_of_degree b.ring h.is_ring.modulus (total_degrees b n) d).V = (
          c.terms,
          subst (λ g. IsVector b.ring (total_degrees b n) (record { degree = g; terms = c.terms })) degree
              (subst (λ ds. IsVector b.ring ds c) (total_map-rows b h n m lower) s.in_span.homogeneous),
        ) in
        let first = (lowest-submodule b h m b.columns).module_like.vectors s.first s.in_module in
        let image = total_image b h n m lower d element in
        let second : image.0 ≡ s.second.terms = ap (λ (x : Vector). x.terms) s.in_span.value in
        let whole : row_sum b.ring s.first.terms image.0 ≡ v.0 = ap (row_sum b.ring s.first.terms) second ∙ s.sum in
        let rest : s.first.terms ≡ row_sum b.ring v.0 (negative b.ring.modulus image.0) =
        first_of_sum b.ring h.is_ring s.first.terms image.0 v.0 first.canonical image.1.canonical whole in (
          element,
          tt,
          subst (InSpan (total_module b m)) (λ i. record { degree = s.first_degree i; terms = rest i }) s.in_module,
        );
    back = λ v e.
        let image = total_image b h n m lower d e.0 in
        InSpan-stacked_sum (total_map b n m) (total_module b m) h.is_ring rings (record { degree = d; terms = v.0 })
        (record {
          first = record { degree = d; terms = row_sum b.ring v.0 (negative b.ring.modulus image.0) };
          second = record { degree = d; terms = image.0 };
          in_module = e.2;
          in_span = record {
            coefficients = record { degree = d; terms = e.0.0 };
            homogeneous = subst (λ ds. IsVector b.ring ds (record { degree = d; terms = e.0.0 }))
                (sym (total_map-rows b h n m lower)) e.0.1;
            value = refl;
          };
          first_degree = refl;
          second_degree = refl;
          sum = add-negative_again b.ring h.is_ring v.0 image.0 v.1.canonical image.1.canonical;
        });
  }
