-- Modules closed under sums and multiples: spans and 0.
use Rattle.std.proofs.Common.{◌≡◌, ℕ, zero, suc, List, [], ◌∷◌, refl, sym, ◌∙◌, ap, subst, ℤ}
use Rattle.sf_algebra.specs.Matrices.{Matrix, row_degrees}
use Rattle.sf_algebra.specs.MatrixOperations.{row_at, row_combination}
use Rattle.sf_algebra.specs.Multiples.{place_product, combination}
use Rattle.sf_algebra.specs.Rings.{Ring, IsRing}
use Rattle.sf_algebra.specs.Terms.{Term}
use Rattle.sf_algebra.specs.VectorOperations.{row_sum}
use Rattle.sf_algebra.specs.Vectors.{Place, Vector, place_cmp, IsVector}
use Rattle.sf_algebra.proofs.GradedMatrices.ProductParts.{combination-no_rows}
use Rattle.sf_algebra.proofs.Multiplying.Keys.{place_keys}
use Rattle.sf_algebra.proofs.Vectors.HomogeneousVectors.{IsVector-add, IsVector-row_combination}
use Rattle.sf_algebra.proofs.Vectors.RowSums.{row_sum-nil}
use Rattle.sf_algebra.proofs.Vectors.Rows.{row_combination-add, row_combination-matrix_product}
use Rattle.sf_groebner.specs.Presentations.{IsZero}
use Rattle.sf_groebner.specs.Spans.{InSpan}

-- the multiples of a vector by a homogeneous polynomial, which is given as coefficients of the one row
abbrev pub scaled : Ring → Vector → Vector → Vector
scaled ring v c = record { degree = c.degree; terms = row_combination ring (v ∷ []) c.terms }

-- sums of two vectors of one degree and multiples are in B
pub record HasSumsAndMultiples (ring : Ring) (B : Vector → Type 0) : Type 0 where
  pub sums : (d : ℤ) (us vs : List (Term Place)) → B (record { degree = d; terms = us })
      → B (record { degree = d; terms = vs }) → B (record { degree = d; terms = row_sum ring us vs })
  pub multiples : (v c : Vector) → B v → IsVector ring (v.degree ∷ []) c → B (scaled ring v c)

-- the matrix of one row
abbrev pub row_matrix : Ring → List ℤ → Vector → Matrix
row_matrix ring target v = record { ring = ring; target = target; rows = v ∷ [] }

module _ (m : Matrix) (positive : IsRing m.ring) where
  -- a multiple of a combination is the combination with the multiple of the coefficients
  pub row_combination-scaled : (e c : Vector)
      → row_combination m.ring
      (record { degree = e.degree; terms = row_combination m.ring m.rows e.terms } ∷ []) c.terms
      ≡ row_combination m.ring m.rows (row_combination m.ring (e ∷ []) c.terms)
  row_combination-scaled e c =
      row_combination-matrix_product m.ring positive.modulus (row_matrix m.ring (row_degrees m) e) m c.terms refl

  pub span_closed : HasSumsAndMultiples m.ring (InSpan m)
  span_closed = record {
    sums = λ d us vs h k.
        let first : (h.coefficients).degree ≡ d = ap (λ x. x.degree) h.value in
        let second : (k.coefficients).degree ≡ d = ap (λ x. x.degree) k.value in
        let first_vector =
        subst (λ e. IsVector m.ring (row_degrees m) (record { degree = e; terms = (h.coefficients).terms })) first h.homogeneous in
        let second_vector = subst (λ e. IsVector m.ring (row_degrees m) (record { degree = e; terms = (k.coefficients).terms })) second k.homogeneous in record {
          coefficients = record { degree = d; terms = row_sum m.ring (h.coefficients).terms (k.coefficients).terms };
          homogeneous =
              IsVector-add m.ring (row_degrees m) positive.modulus d (h.coefficients).terms
              (k.coefficients).terms first_vector second_vector;
          value =
              (λ i. record { degree = d; terms = (row_combination-add m.ring positive.modulus m.rows (h.coefficients).terms (k.coefficients).terms ∙ (λ j. row_sum m.ring ((h.value j).terms) ((k.value j).terms))) i });
        };
    multiples = λ v c h k.
        let coefficients = subst (λ e. IsVector m.ring (e ∷ []) c) (sym (ap (λ x. x.degree) h.value)) k in record {
          coefficients = scaled m.ring h.coefficients c;
          homogeneous =
              IsVector-row_combination (row_matrix m.ring (row_degrees m) h.coefficients) positive.modulus
              (h.homogeneous, tt) c coefficients;
          value =
              (λ i. record { degree = c.degree; terms = (sym (row_combination-scaled h.coefficients c) ∙ (λ j. row_combination m.ring (h.value j ∷ []) c.terms)) i });
        };
  }

pub zero_closed : (ring : Ring) → IsRing ring → HasSumsAndMultiples ring IsZero
zero_closed ring positive = record {
  sums = λ d us vs h k. (λ i. row_sum ring (h i) (k i)) ∙ row_sum-nil ring positive.modulus [] (record { descending = tt; residues = tt });
  multiples = λ v c h k.
      (λ i. combination (place_cmp ring.weights) place_product ring.modulus (λ k. k.monomial) (λ k. no_row v h k.position i) c.terms) ∙ combination-no_rows (place_keys ring.weights) ring.modulus positive.modulus (λ k. k.monomial) c.terms;
}
  where
    no_row : (v : Vector) → v.terms ≡ [] → (i : ℕ) → row_at (v ∷ []) i ≡ []
    no_row v h zero = h
    no_row v h (suc i) = refl
