-- Cycles that are a free module: with a basis g of Z(1), the resolution of Z(1) in column 1 goes on to the free module of
-- the degrees of g, so its transposes are exact.
use Rattle.std.proofs.Common.{◌≡◌, ◌↔◌, ◌<◌, ℕ, zero, suc, List, map, refl, sym, ◌∙◌, ap, subst}
use Rattle.std.specs.List.{AllByRecursion}
use Rattle.sf_algebra.specs.Matrices.{IsMatrix, Matrix, degrees_of, row_degrees}
use Rattle.sf_algebra.specs.MatrixOperations.{matrix_product, row_combination, transposed}
use Rattle.sf_algebra.specs.Rings.{IsOverField, IsRing, Ring}
use Rattle.sf_algebra.specs.Vectors.{IsVector, Vector}
use Rattle.sf_algebra.proofs.Basics.Lists.{AllByRecursion-weaken}
use Rattle.sf_algebra.proofs.GradedMatrices.MatrixProducts.{row_degrees-matrix_product}
use Rattle.sf_algebra.proofs.Monomials.Weights.{field_ring}
use Rattle.sf_algebra.proofs.Vectors.HomogeneousVectors.{IsVector-row_combination}
use Rattle.sf_algebra.proofs.Vectors.Rows.{row_combination-nil}
use Rattle.sf_groebner.specs.MinimalGenerators.{matrix_of}
use Rattle.sf_groebner.specs.Spans.{InSpan, IsSyzygy, combined}
use Rattle.sf_groebner.proofs.Spanning.Spans.{span_module}
use Rattle.sf_presented.proofs.Composites.{combined-matrix_product}
use Rattle.sf_homotopy.specs.Exactness.{IsExactPair}
use Rattle.sf_homotopy.proofs.Exactness.Spans.{coefficients_of, span_rows}
use Rattle.sf_bidual.specs.CartanEilenberg.{CartanEilenberg, IsCartanEilenberg, IsCochainComplex, cycle_steps}
use Rattle.sf_bidual.specs.FactorLaws.{IsBasisOfCycles}
use Rattle.sf_bidual.proofs.Columns.Laws.{cycle-rings, resolves_cycles}
use Rattle.sf_bidual.proofs.LowerColumns.Cancelling.{equal_coefficients}
use Rattle.sf_bidual.proofs.Rows.TransposedColumns.{transposed_exact_at}

module _ (ring : Ring) (maps : ℕ → Matrix) (x : CartanEilenberg) (prime : IsOverField ring)
    (complex : IsCochainComplex ring maps) (h : IsCartanEilenberg ring maps x) (g : List Vector)
    (basis : IsBasisOfCycles ring maps g) where
  positive : IsRing ring
  positive = field_ring prime

  abbrev G : Matrix
  G = matrix_of ring (row_degrees (maps 1)) g

  -- the first map of the resolution of the cycles, and the others
  abbrev C : Matrix
  C = cycle_steps x 1 0

  exact : (j : ℕ) → IsExactPair (cycle_steps x 1 j) (cycle_steps x 1 (suc j))
  exact = (resolves_cycles ring maps x prime complex h 1).exact

  C-ring : C.ring ≡ ring
  C-ring = cycle-rings ring maps x prime complex h 1 0

  rows_inside : AllByRecursion (InSpan G) C.rows
  rows_inside =
      AllByRecursion-weaken (InSpan C) (InSpan G)
      (λ v s. (basis.spans v).0 (((resolves_cycles ring maps x prime complex h 1).onto v).0 s)) C.rows
      (span_rows C (subst (λ (q : Ring). 1 < q.modulus) (sym C-ring) prime.prime.above_one) (exact 0).out_matrix)

  -- the rows of C in the basis
  pub found : (cs : List Vector) × AllByRecursion (IsVector ring (degrees_of g)) cs × (map (combined G) cs ≡ C.rows)
  found = coefficients_of G C.rows rows_inside

  abbrev pub Q : Matrix
  Q = matrix_of ring (degrees_of g) found.0

  pub Q-matrix : IsMatrix (matrix_of ring (degrees_of g) found.0)
  Q-matrix = found.1

  pub Q-product : matrix_product Q G ≡ cycle_steps x 1 0
  Q-product = λ i. record {
    ring = sym C-ring i;
    target = sym (h.boundaries 1).presentation.generators_target i;
    rows = found.2 i;
  }

  pub Q-degrees : row_degrees Q ≡ row_degrees (cycle_steps x 1 0)
  Q-degrees = sym (row_degrees-matrix_product Q G) ∙ ap row_degrees Q-product

  product-value : (v : Vector) → combined C v ≡ combined G (combined Q v)
  product-value v = ap (λ (m : Matrix). combined m v) (sym Q-product) ∙ combined-matrix_product Q G positive refl v

  -- so the syzygies of Q are those of C, and Q is onto
  same_syzygies : (v : Vector) → IsSyzygy Q v ↔ IsSyzygy C v
  same_syzygies v = (
    λ s. record {
      coefficients = subst (λ (q : Ring). IsVector q (row_degrees C) v) (sym C-ring)
          (subst (λ ds. IsVector ring ds v) Q-degrees s.coefficients);
      zero = ap (λ (w : Vector). w.terms) (product-value v)
          ∙ ap (row_combination ring g) s.zero
          ∙ row_combination-nil ring positive.modulus g;
    },
    λ s.
        let vector : IsVector ring (row_degrees Q) v =
        subst (λ ds. IsVector ring ds v) (sym Q-degrees)
        (subst (λ (q : Ring). IsVector q (row_degrees C) v) C-ring s.coefficients) in
        record {
          coefficients = vector;
          zero = basis.free (combined Q v) (record {
            coefficients = IsVector-row_combination Q positive.modulus Q-matrix v vector;
            zero = sym (ap (λ (w : Vector). w.terms) (product-value v)) ∙ s.zero;
          });
        },
  )

  onto : (v : Vector) → InSpan Q v ↔ IsVector ring (degrees_of g) v
  onto v = (
    λ s. (span_module Q positive Q-matrix).vectors v s,
    λ hv.
        let value : IsSyzygy (maps 1) (combined G v) =
        (basis.spans (combined G v)).1 (record { coefficients = v; homogeneous = hv; value = refl }) in
        let s = ((resolves_cycles ring maps x prime complex h 1).onto (combined G v)).1 value in
        let c : Vector = s.coefficients in
        let vector : IsVector ring (row_degrees Q) c =
        subst (λ ds. IsVector ring ds c) (sym Q-degrees)
        (subst (λ (q : Ring). IsVector q (row_degrees C) c) C-ring s.homogeneous) in
        let same : combined G (combined Q c) ≡ combined G v = sym (product-value c) ∙ s.value in
        record {
          coefficients = c;
          homogeneous = vector;
          value = equal_coefficients G positive basis.free (combined Q c) v
              (IsVector-row_combination Q positive.modulus Q-matrix c vector) hv same;
        },
  )

  abbrev resolution : ℕ → Matrix
  resolution zero = Q
  resolution (suc j) = cycle_steps x 1 (suc j)

  resolution-exact : (j : ℕ) → IsExactPair (resolution j) (resolution (suc j))
  resolution-exact zero = record {
    out_matrix = Q-matrix;
    into_matrix = (exact 0).into_matrix;
    meet = record {
      positive = (exact 0).meet.positive;
      rings = (exact 0).meet.rings ∙ C-ring;
      degrees = Q-degrees ∙ (exact 0).meet.degrees;
    };
    exact = λ v. (
      λ s. ((exact 0).exact v).0 ((same_syzygies v).0 s),
      λ s. (same_syzygies v).1 (((exact 0).exact v).1 s),
    );
  }
  resolution-exact (suc j) = exact (suc j)

  pub Q-exact : IsExactPair Q (cycle_steps x 1 1)
  Q-exact = resolution-exact 0

  pub transposed-cycles : IsExactPair (transposed (cycle_steps x 1 1)) (transposed Q)
  transposed-cycles =
      transposed_exact_at ring prime.prime.above_one (degrees_of g) resolution refl refl onto resolution-exact 0
