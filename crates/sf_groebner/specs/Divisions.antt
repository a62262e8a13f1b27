-- Divisions of a vector by rows, with the bound of all that takes part. (Cox, Little, O'Shea, "Using Algebraic
-- Geometry", chapter 5, section 2.)
use Rattle.std.specs.Prelude.{◌≡◌, ℕ, List, [], ◌∷◌, ◌++◌, map, ℤ}
use Rattle.std.specs.declared.cmp.Ordering.TheVariants.{Less}
use Rattle.std.specs.List.{AllByRecursion}
use Rattle.sf_algebra.specs.Divisibility.{quotient}
use Rattle.sf_algebra.specs.Matrices.{degrees_of}
use Rattle.sf_algebra.specs.MatrixOperations.{row_at, row_combination}
use Rattle.sf_algebra.specs.Monomials.{Monomial}
use Rattle.sf_algebra.specs.Multiples.{place_product, term_product, negative}
use Rattle.sf_algebra.specs.Rings.{Ring, Weights}
use Rattle.sf_algebra.specs.Terms.{Term}
use Rattle.sf_algebra.specs.VectorOperations.{row_sum}
use Rattle.sf_algebra.specs.Vectors.{Place, Vector, place_cmp, IsHomogeneous, IsVector}
use Rattle.sf_groebner.specs.Criterion.{lead_at, HasMultipleBelow}
use Rattle.sf_groebner.specs.MinimalGenerators.{matrix_of}
use Rattle.sf_groebner.specs.ReducedBases.{IsReducedBy}
use Rattle.sf_groebner.specs.Spans.{IsCoefficients}

-- each place of the terms is less than b
abbrev pub AreBelow : Weights → Place → List (Term Place) → Type 0
AreBelow weights b ts = AllByRecursion (λ (t : Term Place). place_cmp weights t.at b ≡ Less) ts

-- terms of degree d are a rest, no term of which a lead of the rows divides, and the combination of the rows with the
-- quotients
pub record IsDivided (ring : Ring) (target : List ℤ) (rows : List Vector) (d : ℤ) (terms rest quotients : List (Term Place)) : Type 0 where
  pub vector : IsVector ring target (record { degree = d; terms = rest })
  pub homogeneous : IsHomogeneous ring.weights (degrees_of rows) d quotients
  pub reduced : IsReducedBy rows rest
  -- what is greater than all places of the terms is greater than those of the rest, and than the multiples of leads
  pub below : (b : Place) → AreBelow ring.weights b terms
      → AreBelow ring.weights b rest × AllByRecursion (HasMultipleBelow ring.weights rows b) quotients
  pub sum : row_sum ring rest (row_combination ring rows quotients) ≡ terms

-- so a vector is divided, and the quotients are a vector of coefficients
pub record IsDivision (ring : Ring) (target : List ℤ) (rows : List Vector) (v rest quotients : Vector) : Type 0 where
  pub rest_degree : rest.degree ≡ v.degree
  pub quotients_degree : quotients.degree ≡ v.degree
  pub coefficients : IsCoefficients (matrix_of ring target rows) quotients
  pub divided : IsDivided ring target rows v.degree v.terms rest.terms quotients.terms

-- what a division keeps: a division of what is left makes, with the rest and the steps so far, one of the terms
pub record IsDividing (ring : Ring) (target : List ℤ) (rows : List Vector) (d : ℤ) (terms left rest steps : List (Term Place)) : Type 0 where
  pub vector : IsVector ring target (record { degree = d; terms = left })
  pub further : (others quotients : List (Term Place)) → IsDivided ring target rows d left others quotients
      → IsDivided ring target rows d terms (rest ++ others) (steps ++ quotients)

-- the terms behind the first
abbrev pub tail_of : List (Term Place) → List (Term Place)
tail_of [] = []
tail_of (t ∷ ts) = ts

-- the monomial and the coefficient by which row i is taken to a multiple that begins with t, where its lead is monic and
-- divides the place of t
abbrev pub step_factor : List Vector → ℕ → Term Place → Term Monomial
step_factor rows i t = record {
  at = quotient t.at.monomial (lead_at rows i).monomial;
  coefficient = t.coefficient;
}

-- the same as a coefficient for row i
abbrev pub step : List Vector → ℕ → Term Place → Term Place
step rows i t = record { at = record { position = i; monomial = (step_factor rows i t).at }; coefficient = t.coefficient }

-- what stands behind t in that multiple
abbrev pub step_tail : Ring → List Vector → ℕ → Term Place → List (Term Place)
step_tail ring rows i t = map (term_product place_product ring.modulus (step_factor rows i t)) (tail_of (row_at rows i))

-- what is left of t and the terms ts behind it when that multiple is taken away
abbrev pub left_over : Ring → List Vector → ℕ → Term Place → List (Term Place) → List (Term Place)
left_over ring rows i t ts = row_sum ring ts (negative ring.modulus (step_tail ring rows i t))
