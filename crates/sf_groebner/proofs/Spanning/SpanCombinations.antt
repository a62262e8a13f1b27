-- Spans, relations and syzygies are closed under combinations.
use Rattle.std.proofs.Common.{◌≡◌, List, [], ◌∷◌, refl, sym, ◌∙◌, ap, subst, ℤ}
use Rattle.std.specs.List.{AllByRecursion}
use Rattle.sf_algebra.specs.Matrices.{Matrix, row_degrees, IsMatrix, degrees_of}
use Rattle.sf_algebra.specs.MatrixOperations.{row_at, row_combination}
use Rattle.sf_algebra.specs.Multiples.{negative}
use Rattle.sf_algebra.specs.Rings.{Ring, IsRing}
use Rattle.sf_algebra.specs.Sums.{normal}
use Rattle.sf_algebra.specs.Terms.{Term}
use Rattle.sf_algebra.specs.VectorOperations.{row_sum}
use Rattle.sf_algebra.specs.Vectors.{Place, Vector, place_cmp, IsHomogeneous}
use Rattle.sf_algebra.proofs.Basics.Lists.{AllByRecursion-weaken}
use Rattle.sf_algebra.proofs.GradedMatrices.MatrixRows.{with_terms}
use Rattle.sf_algebra.proofs.GradedMatrices.Stacks.{AllByRecursion-map, degrees-with_terms}
use Rattle.sf_algebra.proofs.Monomials.Orders.{place_cmp_linear}
use Rattle.sf_algebra.proofs.Multiplying.Keys.{place_keys}
use Rattle.sf_algebra.proofs.Terms.Negatives.{negative-negative, IsCanonical-negative}
use Rattle.sf_algebra.proofs.Terms.Normal.{IsCanonical-normal}
use Rattle.sf_algebra.proofs.Terms.SameTotals.{SameTotals-normal, combination-SameTotals}
use Rattle.sf_algebra.proofs.Vectors.Degrees.{IsHomogeneous-normal, IsHomogeneous-row_combination}
use Rattle.sf_algebra.proofs.Vectors.RowSums.{row_sum-nil_first}
use Rattle.sf_algebra.proofs.Vectors.Rows.{IsCanonical-row_combination, row_combination-matrix_product, row_combination-nil}
use Rattle.sf_groebner.specs.MinimalGenerators.{matrix_of}
use Rattle.sf_groebner.specs.Presentations.{IsRelation}
use Rattle.sf_groebner.specs.Spans.{combined, InSpan}
use Rattle.sf_groebner.proofs.Spanning.Generators.{IsCombination, IsCombination-trans}
use Rattle.sf_groebner.proofs.Spanning.Spans.{span_module, relation_module}
use Rattle.sf_groebner.proofs.Spanning.Submodules.{IsSubmodule}
use Rattle.sf_groebner.proofs.Spanning.SumsAndMultiples.{HasSumsAndMultiples}

-- the coefficients may be any list that means them
pub row_combination-normal : (ring : Ring) → IsRing ring → (rows : List Vector) (c : List (Term Place))
    → row_combination ring rows (normal (place_cmp ring.weights) ring.modulus c) ≡ row_combination ring rows c
row_combination-normal ring positive rows c =
    combination-SameTotals (place_keys ring.weights) ring.modulus positive.modulus (λ k. k.monomial)
    (λ k. row_at rows k.position)
    (SameTotals-normal (place_cmp ring.weights) (place_cmp_linear ring.weights) ring.modulus c)

module _ (m : Matrix) (positive : IsRing m.ring) where
  pub IsCombination-InSpan : (v : Vector) → InSpan m v → IsCombination m.ring m.rows v
  IsCombination-InSpan v h = record {
    coefficients = (h.coefficients).terms;
    homogeneous =
        subst (λ d. IsHomogeneous m.ring.weights (row_degrees m) d (h.coefficients).terms) (ap (λ x. x.degree) h.value)
        (h.homogeneous).homogeneous;
    value = ap (λ x. x.terms) h.value;
  }

  pub InSpan-IsCombination : (v : Vector) → IsCombination m.ring m.rows v → InSpan m v
  InSpan-IsCombination v h = record {
    coefficients = record { degree = v.degree; terms = normal (place_cmp m.ring.weights) m.ring.modulus h.coefficients };
    homogeneous = record {
      canonical =
          IsCanonical-normal (place_cmp m.ring.weights)
          (place_cmp_linear m.ring.weights) m.ring.modulus positive.modulus h.coefficients;
      homogeneous = IsHomogeneous-normal (row_degrees m) m.ring v.degree h.coefficients h.homogeneous;
    };
    value =
        (λ i. record { degree = v.degree; terms = (row_combination-normal m.ring positive m.rows h.coefficients ∙ h.value) i });
  }

  pub span_submodule : IsMatrix m → IsSubmodule m.ring m.target (InSpan m)
  span_submodule matrix = record {
    module_like = span_module m positive matrix;
    combinations = λ rows inside d c h.
        InSpan-IsCombination _
        (IsCombination-trans m.ring m.rows positive rows (AllByRecursion-weaken (InSpan m) (IsCombination m.ring m.rows) IsCombination-InSpan rows inside)
        (record { degree = d; terms = row_combination m.ring rows c })
        (record { coefficients = c; homogeneous = h; value = refl }));
  }

  pub relation_submodule : (target : List ℤ) (B : Vector → Type 0) → IsSubmodule m.ring target B
      → IsSubmodule m.ring (row_degrees m) (IsRelation m B)
  relation_submodule target B submodule = record {
    module_like = relation_module m positive target B submodule.module_like;
    combinations = λ rows inside d c h.
        let images = with_terms (row_combination m.ring m.rows) rows in
        let degrees : degrees_of images ≡ degrees_of rows = degrees-with_terms (row_combination m.ring m.rows) rows in
        let images_inside : AllByRecursion B images =
        AllByRecursion-map B (combined m) rows
        (AllByRecursion-weaken (IsRelation m B) (λ v. B (combined m v)) (λ v k. k.inside) rows inside) in
        let same : row_combination m.ring images c ≡ row_combination m.ring m.rows (row_combination m.ring rows c) =
        row_combination-matrix_product m.ring positive.modulus (matrix_of m.ring (row_degrees m) rows) m c refl in
        record {
          coefficients = record {
            canonical = IsCanonical-row_combination m.ring positive.modulus rows c;
            homogeneous =
                IsHomogeneous-row_combination (row_degrees m) m.ring rows
                (AllByRecursion-weaken _ _ (λ v k. k.coefficients.homogeneous) rows inside) d c h;
          };
          inside =
              subst (λ ts. B (record { degree = d; terms = ts })) same
              (submodule.combinations images images_inside d c (subst (λ ds. IsHomogeneous m.ring.weights ds d c) (sym degrees) h));
        };
  }

module _ (ring : Ring) (positive : IsRing ring) (target : List ℤ) (N : Vector → Type 0)
    (submodule : IsSubmodule ring target N) where
  -- 0 of each degree
  pub zero-inside : (d : ℤ) → N (record { degree = d; terms = [] })
  zero-inside d =
      subst (λ ts. N (record { degree = d; terms = ts })) (row_combination-nil ring positive.modulus [])
      (submodule.combinations [] tt d [] tt)

  sum-inside : (d : ℤ) (us vs : List (Term Place)) → N (record { degree = d; terms = us })
      → N (record { degree = d; terms = vs }) → N (record { degree = d; terms = row_sum ring us vs })
  sum-inside d us vs h k =
      let canonical = (submodule.module_like.vectors (record { degree = d; terms = vs }) k).canonical in
      let opposite =
      submodule.module_like.differences (record { degree = d; terms = [] }) (record { degree = d; terms = vs })
      (zero-inside d) k refl in
      let back : negative ring.modulus (row_sum ring [] (negative ring.modulus vs)) ≡ vs =
      ap (negative ring.modulus)
      (row_sum-nil_first ring positive.modulus (negative ring.modulus vs) (IsCanonical-negative (place_cmp ring.weights) ring.modulus vs canonical))
      ∙ negative-negative (place_cmp ring.weights) ring.modulus vs canonical.residues in
      subst (λ ts. N (record { degree = d; terms = row_sum ring us ts })) back
      (submodule.module_like.differences (record { degree = d; terms = us }) (record { degree = d; terms = row_sum ring [] (negative ring.modulus vs) }) h opposite refl)

  pub submodule_closed : HasSumsAndMultiples ring N
  submodule_closed = record {
    sums = sum-inside;
    multiples = λ v c h k. submodule.combinations (v ∷ []) (h, tt) c.degree c.terms k.homogeneous;
  }

-- a span, with the ring and the degrees as they are known
pub span_submodule_of : (ring : Ring) → IsRing ring → (target : List ℤ) (m : Matrix) → m.ring ≡ ring → m.target ≡ target
    → IsMatrix m → IsSubmodule ring target (InSpan m)
span_submodule_of ring positive target m same_ring same matrix =
    subst (λ ds. IsSubmodule ring ds (InSpan m)) same
    (subst (λ q. IsSubmodule q m.target (InSpan m)) same_ring (span_submodule m (subst (λ q. IsRing q) (sym same_ring) positive) matrix))
