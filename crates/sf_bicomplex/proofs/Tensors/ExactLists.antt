-- The complex of the steps of a resolution is exact but at place 0, where the last step has no rows: behind it there is nothing.
use Rattle.std.proofs.Common.{◌≡◌, ◌<◌, ℕ, zero, suc, List, [], ◌∷◌, refl, sym, ap, ◌∙◌, subst, ℤ}
use Rattle.std.specs.List.{AllByRecursion}
use Rattle.sf_algebra.specs.Matrices.{IsMatrix, Matrix, degrees_of, row_degrees}
use Rattle.sf_algebra.specs.MatrixOperations.{row_combination}
use Rattle.sf_algebra.specs.Rings.{IsOverField, IsRing, Ring}
use Rattle.sf_algebra.specs.Vectors.{IsVector}
use Rattle.sf_algebra.proofs.Monomials.Weights.{field_ring}
use Rattle.sf_algebra.proofs.Vectors.HomogeneousVectors.{IsVector-nil}
use Rattle.sf_algebra.proofs.Vectors.Rows.{row_combination-nil}
use Rattle.sf_groebner.specs.Resolutions.{AreNextSteps}
use Rattle.sf_groebner.proofs.Uniqueness.PresentedModules.{IsMatrix-first_step, IsMatrix-next_step}
use Rattle.sf_groebner.proofs.WorkedExamples.FreeRelations.{row_combination-no_rows, span-no_rows}
use Rattle.sf_presented.proofs.Steps.{spans-next_step}
use Rattle.sf_blocks.specs.MatrixSums.{zero_matrix}
use Rattle.sf_homotopy.specs.Exactness.{IsExactPair}
use Rattle.sf_bicomplex.specs.TensorBicomplexes.{degrees_at, map_to}
use Rattle.sf_bicomplex.specs.TensorPages.{EndsWithoutRows, HasExactResolutions}
use Rattle.sf_bicomplex.proofs.TotalComplexes.TotalMaps.{no_generators}

module _ (ring : Ring) (prime : IsOverField ring) where
  positive : IsRing ring
  positive = field_ring prime

  -- nothing arrives where no rows leave
  no_rows-exact : (m : Matrix) → m.ring ≡ ring → m.rows ≡ [] → IsExactPair m (zero_matrix ring [] (row_degrees m))
  no_rows-exact m same none = record {
    out_matrix = subst (λ vs. AllByRecursion (IsVector m.ring m.target) vs) (sym none) tt;
    into_matrix = tt;
    meet = record { positive = positive.modulus; rings = sym same; degrees = refl };
    exact = λ v. (
      λ h.
          let nothing : v.terms ≡ [] =
          no_generators m.ring v (subst (λ ds. IsVector m.ring ds v) (ap degrees_of none) h.coefficients) in
          record {
            coefficients = record { degree = v.degree; terms = [] };
            homogeneous = IsVector-nil ring [] v.degree;
            value = λ i. record { degree = v.degree; terms = (row_combination-no_rows ring positive [] ∙ sym nothing) i };
          },
      λ s.
          let nothing : v.terms ≡ [] = span-no_rows ring positive (row_degrees m) v s in
          record {
            coefficients =
                subst (λ ts. IsVector m.ring (row_degrees m) (record { degree = v.degree; terms = ts })) (sym nothing)
                (IsVector-nil m.ring (row_degrees m) v.degree);
            zero =
                ap (row_combination m.ring m.rows) nothing
                ∙ row_combination-nil m.ring (subst (λ (q : Ring). 0 < q.modulus) (sym same) positive.modulus) m.rows;
          },
    );
  }

  exact_chain : (first : List ℤ) (before : Matrix) → before.ring ≡ ring → IsMatrix before → (steps : List Matrix)
      → AreNextSteps before steps → EndsWithoutRows (before ∷ steps) → (q : ℕ)
      → IsExactPair (map_to ring first (before ∷ steps) q) (map_to ring first (before ∷ steps) (suc q))
  exact_chain first before same matrix [] h ends zero = no_rows-exact before same ends
  exact_chain first before same matrix [] h ends (suc q) =
      no_rows-exact (zero_matrix ring [] (degrees_at (row_degrees before) [] q)) refl refl
  exact_chain first before same matrix (step ∷ steps) h ends zero = record {
    out_matrix = matrix;
    into_matrix = IsMatrix-next_step before step h.0;
    meet = record {
      positive = subst (λ (q : Ring). 0 < q.modulus) (sym (h.0.ring ∙ same)) positive.modulus;
      rings = h.0.ring;
      degrees = sym h.0.target;
    };
    exact = λ v.
        let both = spans-next_step before step (subst IsOverField (sym same) prime) h.0 v in
        (both.1, both.0);
  }
  exact_chain first before same matrix (step ∷ steps) h ends (suc q) =
      exact_chain (row_degrees before) step (h.0.ring ∙ same) (IsMatrix-next_step before step h.0) steps h.1 ends q

pub exact_resolutions : HasExactResolutions
exact_resolutions relations prime matrix [] h ends q = absurd ends
exact_resolutions relations prime matrix (step ∷ steps) h ends q =
    exact_chain relations.ring prime relations.target step h.0.ring
    (IsMatrix-first_step relations (field_ring prime) matrix step h.0) steps h.1 ends q
