-- Generators of the homology of the total complex: their combinations are cycles, and each cycle is one plus a boundary.
use Rattle.std.proofs.Common.{◌≡◌, sym, ap, ◌∙◌, subst, List, ℤ, pos, ◌-ℤ◌}
use Rattle.sf_algebra.specs.Groups.{Mod}
use Rattle.sf_algebra.specs.Matrices.{IsMatrix, Matrix, degrees_of}
use Rattle.sf_algebra.specs.Multiples.{negative}
use Rattle.sf_algebra.specs.VectorOperations.{row_sum}
use Rattle.sf_algebra.specs.Vectors.{IsVector, Vector}
use Rattle.sf_algebra.proofs.Operators.Congruences.{Mod-sym}
use Rattle.sf_algebra.proofs.Vectors.VectorGroups.{vectors_of_degree}
use Rattle.sf_groebner.specs.Homology.{IsCycle}
use Rattle.sf_groebner.specs.MinimalGenerators.{matrix_of}
use Rattle.sf_groebner.specs.Spans.{InSpan}
use Rattle.sf_groebner.proofs.Spanning.SpanCombinations.{relation_submodule}
use Rattle.sf_presented.specs.Presented.{IsPresentedBy}
use Rattle.sf_chase.specs.ColumnPages.{ImagesModulo}
use Rattle.sf_chase.proofs.Filtrations.ColumnParts.{ImagesModulo-sub}
use Rattle.sf_bicomplex.specs.Bicomplexes.{Bicomplex, IsBicomplex}
use Rattle.sf_bicomplex.specs.InducedFiltrations.{IsTotalBoundary}
use Rattle.sf_bicomplex.specs.TotalColumns.{total_degrees, total_map, total_module}
use Rattle.sf_bicomplex.proofs.Columns.Splits.{first_of_sum}
use Rattle.sf_bicomplex.proofs.Filtrations.PartVectors.{combination}
use Rattle.sf_bicomplex.proofs.Filtrations.TotalBoundaries.{boundaries-submodule, total_boundaries-same}
use Rattle.sf_bicomplex.proofs.TotalComplexes.Diagonals.{total_map-rows}
use Rattle.sf_bicomplex.proofs.TotalComplexes.TotalGroups.{total-differential, total_group, total_image}
use Rattle.sf_bicomplex.proofs.TotalComplexes.TotalModules.{lowest-submodule}

module _ (b : Bicomplex) (h : IsBicomplex b) (above n below : ℤ) (first : n ≡ above -ℤ pos 1) (last : below ≡ n -ℤ pos 1)
    (rows : List Vector) (matrix : IsMatrix (matrix_of b.ring (total_degrees b n) rows)) (relations : Matrix)
    (presented : IsPresentedBy (IsCycle (total_map b n below) (total_module b below)) (IsTotalBoundary b above n)
    (matrix_of b.ring (total_degrees b n) rows) relations) where
  -- a combination of the generators is a cycle
  pub combination-cycle : (d : ℤ) (c : (vectors_of_degree b.ring h.is_ring.modulus (degrees_of rows) d).V)
      → (total_group b h below d).relations (total_image b h n below last d (combination b h above n below first last rows matrix d c))
  combination-cycle d c =
      ((relation_submodule (total_map b n below) h.is_ring (total_degrees b below) (InSpan (total_module b below))
      (lowest-submodule b h below b.columns)).combinations rows presented.inside d c.0 c.1.homogeneous).inside

  -- each cycle is a combination, modulo boundaries
  pub cycle-combination : (d : ℤ) (v : (vectors_of_degree b.ring h.is_ring.modulus (total_degrees b n) d).V)
      → (total_group b h below d).relations (total_image b h n below last d v)
      → (c : (vectors_of_degree b.ring h.is_ring.modulus (degrees_of rows) d).V)
      × Mod (vectors_of_degree b.ring h.is_ring.modulus (total_degrees b n) d)
      (ImagesModulo (total_group b h above d) (total_group b h n d) (total_image b h above n first d))
      (combination b h above n below first last rows matrix d c) v
  cycle-combination d v e =
      let G = vectors_of_degree b.ring h.is_ring.modulus (total_degrees b n) d in
      let N = ImagesModulo (total_group b h above d) (total_group b h n d) (total_image b h above n first d) in
      let s = presented.generate (record { degree = d; terms = v.0 }) (record {
        coefficients = subst (λ ds. IsVector b.ring ds (record { degree = d; terms = v.0 }))
            (sym (total_map-rows b h n below last)) v.1;
        inside = e;
      }) in
      let c : Vector = s.in_span.coefficients in
      let degree : c.degree ≡ d = ap (λ (x : Vector). x.degree) s.in_span.value ∙ s.second_degree in
      let element : (vectors_of_degree b.ring h.is_ring.modulus (degrees_of rows) d).V = (
        c.terms,
        subst (λ g. IsVector b.ring (degrees_of rows) (record { degree = g; terms = c.terms })) degree
            s.in_span.homogeneous,
      ) in
      let image = combination b h above n below first last rows matrix d element in
      let bound = (boundaries-submodule b h above n first).module_like.vectors s.first s.in_module in
      let second : image.0 ≡ s.second.terms = ap (λ (x : Vector). x.terms) s.in_span.value in
      let whole : row_sum b.ring s.first.terms image.0 ≡ v.0 = ap (row_sum b.ring s.first.terms) second ∙ s.sum in
      let rest : s.first.terms ≡ row_sum b.ring v.0 (negative b.ring.modulus image.0) =
      first_of_sum b.ring h.is_ring s.first.terms image.0 v.0 bound.canonical image.1.canonical whole in
      let sub =
      ImagesModulo-sub (total_group b h above d) (total_group b h n d) (total_group b h below d)
      (total_image b h above n first d) (total_image b h n below last d) (total-differential b h above n first d)
      (total-differential b h n below last d) in (
        element,
        Mod-sym G N sub v image
            ((total_boundaries-same b h above n first d).there (G.plus v (G.minus image))
            (subst (IsTotalBoundary b above n) (λ i. record { degree = s.first_degree i; terms = rest i }) s.in_module)),
      )
