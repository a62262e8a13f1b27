-- A matrix of lifts is a matrix, and times what it is lifted over it gives what is lifted.
use Rattle.std.proofs.Common.{◌≡◌, List, [], ◌∷◌, map, refl, sym, ◌∙◌, ap, subst, ℤ}
use Rattle.std.specs.List.{AllByRecursion}
use Rattle.sf_algebra.specs.Matrices.{Matrix, row_degrees, degrees_of, IsMatrix}
use Rattle.sf_algebra.specs.MatrixOperations.{negated, row_combination, matrix_product}
use Rattle.sf_algebra.specs.Rings.{Ring}
use Rattle.sf_algebra.specs.Vectors.{Vector, IsVector}
use Rattle.sf_groebner.specs.Spans.{combined}
use Rattle.sf_blocks.specs.MatrixSums.{zero_matrix, IsZeroMatrix}
use Rattle.sf_bidual.specs.Horseshoes.{AreLifts, HaveLifts}

-- the negative of zero is zero
pub negated-zero : (m : Matrix) → IsZeroMatrix m → IsZeroMatrix (negated m)
negated-zero m h =
    subst (λ n. IsZeroMatrix (negated n)) (sym h)
    (go (row_degrees m))
  where
    go : (ds : List ℤ) → IsZeroMatrix (negated (zero_matrix m.ring ds m.target))
    go [] = refl
    go (d ∷ ds) = λ i. record {
      ring = m.ring;
      target = m.target;
      rows = record { degree = d; terms = [] } ∷ (go ds i).rows;
    }

module _ (m : Matrix) where
  lift-vectors : (vs cs : List Vector) → HaveLifts m vs cs → AllByRecursion (IsVector m.ring (row_degrees m)) cs
  lift-vectors [] [] h = tt
  lift-vectors (v ∷ vs) (c ∷ cs) h = (h.0.coefficients, lift-vectors vs cs h.1)
  lift-vectors [] (c ∷ cs) h = absurd h
  lift-vectors (v ∷ vs) [] h = absurd h

  lift-values : (vs cs : List Vector) → HaveLifts m vs cs → map (combined m) cs ≡ vs
  lift-values [] [] h = refl
  lift-values (v ∷ vs) (c ∷ cs) h = λ i. h.0.value i ∷ lift-values vs cs h.1 i
  lift-values [] (c ∷ cs) h = absurd h
  lift-values (v ∷ vs) [] h = absurd h

  lift-degrees : (vs cs : List Vector) → HaveLifts m vs cs → degrees_of cs ≡ degrees_of vs
  lift-degrees [] [] h = refl
  lift-degrees (v ∷ vs) (c ∷ cs) h = λ i. (h.0.value i).degree ∷ lift-degrees vs cs h.1 i
  lift-degrees [] (c ∷ cs) h = absurd h
  lift-degrees (v ∷ vs) [] h = absurd h

module _ (m v l : Matrix) (h : AreLifts m v l) where
  pub IsMatrix-lifts : IsMatrix l
  IsMatrix-lifts =
      subst (λ q. AllByRecursion (IsVector q l.target) l.rows) (sym h.ring)
      (subst (λ ds. AllByRecursion (IsVector m.ring ds) l.rows) (sym h.target) (lift-vectors m v.rows l.rows h.rows))

  pub row_degrees-lifts : row_degrees l ≡ row_degrees v
  row_degrees-lifts = lift-degrees m v.rows l.rows h.rows

  pub matrix_product-lifts : m.ring ≡ v.ring → m.target ≡ v.target → matrix_product l m ≡ v
  matrix_product-lifts rings targets = λ i. record {
    ring = (h.ring ∙ rings) i;
    target = targets i;
    rows = (ap (λ (q : Ring). map (λ (c : Vector). record { degree = c.degree; terms = row_combination q m.rows c.terms }) l.rows) h.ring
        ∙ lift-values m v.rows l.rows h.rows) i;
  }
