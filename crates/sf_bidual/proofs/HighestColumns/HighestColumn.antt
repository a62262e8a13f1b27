-- A module without maps to the ring: dv is onto in the highest column and row 0, so the last page has nothing there, and
-- neither has the filtration.
use Rattle.std.proofs.Common.{◌≡◌, ◌-◌, ℕ, suc, [], ◌++◌, refl, sym, ◌∙◌, subst, arith, ℤ, pos, ◌+ℤ◌, ◌-ℤ◌}
use Rattle.std.proofs.lemmas.Int.{ints}
use Rattle.sf_algebra.specs.Matrices.{IsMatrix, Matrix, degrees_of, row_degrees}
use Rattle.sf_algebra.specs.Rings.{IsOverField, IsRing}
use Rattle.sf_algebra.specs.VectorOperations.{vector_difference}
use Rattle.sf_algebra.specs.Vectors.{IsVector, Vector}
use Rattle.sf_algebra.proofs.Monomials.Weights.{field_ring}
use Rattle.sf_algebra.proofs.Vectors.RowSums.{row_sum-nil}
use Rattle.sf_groebner.specs.MinimalGenerators.{matrix_of}
use Rattle.sf_groebner.specs.Presentations.{IsZero}
use Rattle.sf_groebner.specs.Spans.{InSpan, combined_rows}
use Rattle.sf_groebner.proofs.Spanning.SpanCombinations.{span_submodule, span_submodule_of, zero-inside}
use Rattle.sf_groebner.proofs.Spanning.Spans.{IsVector-difference}
use Rattle.sf_presented.proofs.EqualModulo.{AreEqualModulo-equal}
use Rattle.sf_hilbert.proofs.WithoutRows.{minimal_none}
use Rattle.sf_bicomplex.specs.Bicomplexes.{Bicomplex, IsBicomplex}
use Rattle.sf_bicomplex.specs.Pages.{IsBoundaryOfPage}
use Rattle.sf_bicomplex.specs.TotalColumns.{place}
use Rattle.sf_bicomplex.proofs.Filtrations.PartLaws.{column-degree, leading_columns, parts_as_last_page}
use Rattle.sf_bicomplex.proofs.Pages.FirstPages.{first_boundaries}
use Rattle.sf_bicomplex.proofs.Pages.PageLaws.{nested_pages}
use Rattle.sf_bicomplex.proofs.Spans.NoClasses.{presentation-none}
use Rattle.sf_bidual.specs.Bidual.{IsBidualOf, bidual, bidual_augmentation, dual_degrees, dual_down, dual_maps}
use Rattle.sf_bidual.specs.CartanEilenberg.{CartanEilenberg, arriving, cycle_degrees}
use Rattle.sf_bidual.specs.Purity.{IsOfPurity, IsPurityPart}
use Rattle.sf_bidual.proofs.BidualSpots.Bicomplex.{bidual_bicomplex}
use Rattle.sf_bidual.proofs.BidualSpots.FreeMaps.{no_rows-zero}
use Rattle.sf_bidual.proofs.PurityParts.Parts.{known_parts, rising}
use Rattle.sf_bidual.proofs.PurityParts.Presented.{augmentation-matrix, presented}
use Rattle.sf_bidual.proofs.HighestColumns.Onto.{horizontal-onto}

module _ (relations : Matrix) (n : ℕ) (steps : ℕ → Matrix) (x : CartanEilenberg) (prime : IsOverField relations.ring)
    (matrix : IsMatrix relations) (d : IsBidualOf relations n steps x) (none : (x.homology 0 0).rows ≡ []) where
  positive : IsRing relations.ring
  positive = field_ring prime

  abbrev b : Bicomplex
  b = bidual relations.ring n x

  h : IsBicomplex (bidual relations.ring n x)
  h = bidual_bicomplex relations n steps x prime matrix d

  abbrev e : Matrix
  e = bidual_augmentation relations.ring n x

  -- B(0) is the module 0
  pub no_boundaries : (x.boundaries 0 0).rows ≡ []
  no_boundaries =
      minimal_none relations.ring (InSpan (arriving relations.ring (dual_maps steps) 0)) IsZero
      (no_rows-zero relations.ring positive.modulus (row_degrees (dual_maps steps 0))) (x.boundaries 0 0).rows
      (d.cartan.boundaries 0).presentation.generators_minimal

  no_cycles : cycle_degrees x 0 0 ≡ []
  no_cycles = λ i. degrees_of (no_boundaries i) ++ degrees_of (none i)

  -- dv into column n and row 0
  onto_place : (s : ℕ) → s ≡ 1 → (w : Vector) → IsVector relations.ring (dual_degrees x 0 s) w
      → (u : Vector) × IsVector relations.ring (dual_degrees x 1 s) u
      × (w ≡ combined_rows relations.ring (dual_down relations.ring x 0 s).rows u)
  onto_place s same =
      subst (λ (t : ℕ). (w : Vector) → IsVector relations.ring (dual_degrees x 0 t) w
      → (u : Vector) × IsVector relations.ring (dual_degrees x 1 t) u
      × (w ≡ combined_rows relations.ring (dual_down relations.ring x 0 t).rows u)) (sym same)
      (horizontal-onto relations.ring prime x no_cycles)

  onto_row : (q0 q1 : ℤ) → q0 ≡ pos 0 → q1 ≡ pos 1 → (w : Vector) → IsVector relations.ring (b.relations n q0).target w
      → (u : Vector) × IsVector relations.ring (b.relations n q1).target u
      × (w ≡ combined_rows relations.ring (b.vertical n q1).rows u)
  onto_row q0 q1 e0 e1 =
      subst (λ (y : ℤ × ℤ). (w : Vector) → IsVector relations.ring (b.relations n y.0).target w
      → (u : Vector) × IsVector relations.ring (b.relations n y.1).target u
      × (w ≡ combined_rows relations.ring (b.vertical n y.1).rows u)) (λ i. (sym e0 i, sym e1 i))
      (onto_place (suc n - n) (omega arith))

  abbrev above : ℤ
  above = pos n +ℤ pos 1

  abbrev below : ℤ
  below = pos n -ℤ pos 1

  first : pos n ≡ pos n +ℤ pos 1 -ℤ pos 1
  first = omega (arith, ints)

  -- so all vectors there are boundaries of the last page
  all_boundaries : (w : Vector) → IsVector relations.ring (place b (pos n) n).target w
      → IsBoundaryOfPage b (suc n) above (pos n) n w
  all_boundaries w v =
      let u = onto_row (pos n -ℤ pos n) (above -ℤ pos n) (omega (arith, ints)) (omega (arith, ints)) w v in
      let known = h.modules n (pos n -ℤ pos n) in
      (nested_pages b h above (pos n) first 1 (suc n) n (omega arith) (omega arith) w).1
      ((first_boundaries b h above (pos n) first n (omega arith) w).1
      (record {
        vector = v;
        source = u.0;
        inside = u.1;
        equal =
            AreEqualModulo-equal relations.ring positive (place b (pos n) n).target (InSpan (place b (pos n) n))
            (span_submodule_of relations.ring positive (place b (pos n) n).target (place b (pos n) n) known.ring_of refl
            known.matrix) w (combined_rows relations.ring (b.vertical n (above -ℤ pos n)).rows u.0) v.canonical u.2;
      }))

  falls : (m : Vector) → IsOfPurity relations.ring n x (suc n) m → IsOfPurity relations.ring n x n m
  falls m part =
      let zero : Vector = record { degree = m.degree; terms = [] } in
      let E = augmentation-matrix relations n steps x prime matrix d in
      let facts = presented relations n steps x prime matrix d in
      let low = (rising relations n steps x prime matrix d 0 0 (omega arith) zero).1.1
      (zero-inside relations.ring positive relations.target (InSpan relations)
      (span_submodule relations positive matrix) m.degree) in
      let up = (rising relations n steps x prime matrix d 0 (suc n) (omega arith) zero).0 low in
      let leads = (leading_columns b h above (pos n) below first refl e.rows E relations facts (suc n) n (omega arith)
      (omega arith)).0 in
      let z = (leads m).0 part in
      let y = (leads zero).0 up in
      let degree : z.0.degree ≡ y.0.degree =
      column-degree b h above (pos n) below first refl e.rows E relations facts n m z.0 z.1
      ∙ sym (column-degree b h above (pos n) below first refl e.rows E relations facts n zero y.0 y.1) in
      let same =
      (parts_as_last_page b h above (pos n) below first refl e.rows E relations facts (suc n) n (omega arith)
      (omega arith) m zero z.0 y.0 z.1 y.1).1
      (record {
        degrees = degree;
        difference =
            all_boundaries (vector_difference relations.ring z.0 y.0)
            (IsVector-difference relations.ring positive (place b (pos n) n).target z.0 y.0 z.1.vector y.1.vector degree);
      }) in
      subst (λ ts. IsOfPurity relations.ring n x n (record { degree = m.degree; terms = ts }))
      (row_sum-nil relations.ring positive.modulus m.terms part.coefficients.canonical) same.difference

  pub torsion_in_lower_columns : (m : Vector) → IsVector relations.ring relations.target m
      → IsOfPurity relations.ring n x n m
  torsion_in_lower_columns m v =
      falls m ((rising relations n steps x prime matrix d 0 0 (omega arith) m).2 v)

  pub no_highest_part : IsPurityPart relations n x n (matrix_of relations.ring relations.target [])
      (matrix_of relations.ring [] [])
  no_highest_part =
      presentation-none relations.ring prime relations.target (IsOfPurity relations.ring n x (suc n))
      (IsOfPurity relations.ring n x n) (known_parts relations n steps x prime matrix d (suc n)) falls
