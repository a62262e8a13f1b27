-- Combinations of rows, and lists of vectors that generate a module.
use Rattle.std.proofs.Common.{◌≡◌, List, [], ◌∷◌, map, refl, sym, ◌∙◌, ap, subst}
use Rattle.std.specs.List.{AllByRecursion}
use Rattle.sf_algebra.specs.Matrices.{Matrix, degrees_of}
use Rattle.sf_algebra.specs.MatrixOperations.{row_combination}
use Rattle.sf_algebra.specs.Rings.{Ring, IsRing}
use Rattle.sf_algebra.specs.Terms.{Term}
use Rattle.sf_algebra.specs.Vectors.{Place, Vector, IsHomogeneous}
use Rattle.sf_algebra.proofs.Vectors.Degrees.{HasHomogeneousRows, IsHomogeneous-row_combination}
use Rattle.sf_algebra.proofs.Vectors.Rows.{row_combination-matrix_product}
use Rattle.sf_groebner.specs.MinimalGenerators.{matrix_of}

-- v is a combination of the rows, with coefficients of its degree
pub record IsCombination (ring : Ring) (rows : List Vector) (v : Vector) : Type 0 where
  pub coefficients : List (Term Place)
  pub homogeneous : IsHomogeneous ring.weights (degrees_of rows) v.degree coefficients
  pub value : row_combination ring rows coefficients ≡ v.terms

-- the vectors generate the module N
pub record AreGenerators (ring : Ring) (N : Vector → Type 0) (generators : List Vector) : Type 0 where
  pub inside : AllByRecursion N generators
  pub spans : (v : Vector) → N v → IsCombination ring generators v

module _ (ring : Ring) (rows : List Vector) where
  -- the coefficients of combinations, as rows
  coefficient_rows : (vs : List Vector) → AllByRecursion (IsCombination ring rows) vs → List Vector
  coefficient_rows [] h = []
  coefficient_rows (v ∷ vs) h = record { degree = v.degree; terms = h.0.coefficients } ∷ coefficient_rows vs h.1

  degrees-coefficient_rows : (vs : List Vector) (h : AllByRecursion (IsCombination ring rows) vs)
      → degrees_of (coefficient_rows vs h) ≡ degrees_of vs
  unfolding coefficient_rows
  degrees-coefficient_rows [] h = refl
  degrees-coefficient_rows (v ∷ vs) h = ap (λ ds. v.degree ∷ ds) (degrees-coefficient_rows vs h.1)

  homogeneous-coefficient_rows : (vs : List Vector) (h : AllByRecursion (IsCombination ring rows) vs)
      → HasHomogeneousRows ring.weights (degrees_of rows) (coefficient_rows vs h)
  unfolding coefficient_rows
  homogeneous-coefficient_rows [] h = tt
  homogeneous-coefficient_rows (v ∷ vs) h = (h.0.homogeneous, homogeneous-coefficient_rows vs h.1)

  product-coefficient_rows : (vs : List Vector) (h : AllByRecursion (IsCombination ring rows) vs)
      → map (λ (v : Vector). record { degree = v.degree; terms = row_combination ring rows v.terms })
      (coefficient_rows vs h) ≡ vs
  unfolding coefficient_rows
  product-coefficient_rows [] h = refl
  product-coefficient_rows (v ∷ vs) h = λ i. record { degree = v.degree; terms = h.0.value i } ∷ product-coefficient_rows vs h.1 i

  -- combinations of combinations of the rows
  pub IsCombination-trans : IsRing ring → (vs : List Vector) → AllByRecursion (IsCombination ring rows) vs
      → (w : Vector) → IsCombination ring vs w → IsCombination ring rows w
  IsCombination-trans positive vs h w k =
      let first : Matrix = matrix_of ring (degrees_of rows) (coefficient_rows vs h) in
      let second : Matrix = matrix_of ring [] rows in
      record {
        coefficients = row_combination ring first.rows k.coefficients;
        homogeneous =
            IsHomogeneous-row_combination (degrees_of rows) ring first.rows
            (homogeneous-coefficient_rows vs h) w.degree k.coefficients
            (subst (λ ds. IsHomogeneous ring.weights ds w.degree k.coefficients) (sym (degrees-coefficient_rows vs h)) k.homogeneous);
        value =
            sym (row_combination-matrix_product ring positive.modulus first second k.coefficients refl)
            ∙ ap (λ us. row_combination ring us k.coefficients) (product-coefficient_rows vs h)
            ∙ k.value;
      }
