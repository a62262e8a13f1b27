-- Rows made of the rows of two lists at the same positions.
use Rattle.std.proofs.Common.{◌≡◌, refl, ℕ, zero, suc, List, [], ◌∷◌, ◌++◌, ap, sym, subst, ℤ, length}
use Rattle.std.specs.List.{AllByRecursion}
use Rattle.sf_algebra.specs.Matrices.{Matrix, row_degrees, degrees_of}
use Rattle.sf_algebra.specs.MatrixOperations.{row_at}
use Rattle.sf_algebra.specs.Terms.{Term}
use Rattle.sf_algebra.specs.Vectors.{Place, Vector}
use Rattle.sf_algebra.proofs.GradedMatrices.MatrixRows.{same_rows}
use Rattle.sf_blocks.specs.MatrixSums.{row_by_row}

-- matrices with equal rows
pub same_by_rows : (a b : Matrix) → a.ring ≡ b.ring → a.target ≡ b.target → row_degrees a ≡ row_degrees b
    → ((i : ℕ) → row_at a.rows i ≡ row_at b.rows i) → a ≡ b
same_by_rows a b rings targets degrees same =
    let rows = same_rows a.rows b.rows degrees same in
    λ i. record { ring = rings i; target = targets i; rows = rows i }

-- as many rows as degrees
pub length-degrees : (us vs : List Vector) → degrees_of us ≡ degrees_of vs → length us ≡ length vs
length-degrees [] [] e = refl
length-degrees [] (v ∷ vs) e = cc
length-degrees (u ∷ us) [] e = cc
length-degrees (u ∷ us) (v ∷ vs) e = let others : degrees_of us
    ≡ degrees_of vs = cc in ap suc (length-degrees us vs others)

module _ (f : List (Term Place) → List (Term Place) → List (Term Place)) where
  pub degrees-row_by_row : (us vs : List Vector) → degrees_of us ≡ degrees_of vs
      → degrees_of (row_by_row f us vs) ≡ degrees_of us
  degrees-row_by_row [] vs e = refl
  degrees-row_by_row (u ∷ us) [] e = cc
  degrees-row_by_row (u ∷ us) (v ∷ vs) e =
      let others : degrees_of us ≡ degrees_of vs = cc in ap (λ ds. u.degree ∷ ds) (degrees-row_by_row us vs others)

  -- where there are no rows, none are made
  pub row_at-row_by_row : f [] [] ≡ [] → (us vs : List Vector) → degrees_of us ≡ degrees_of vs → (i : ℕ)
      → row_at (row_by_row f us vs) i ≡ f (row_at us i) (row_at vs i)
  row_at-row_by_row none [] [] e i = sym none
  row_at-row_by_row none [] (v ∷ vs) e i = cc
  row_at-row_by_row none (u ∷ us) [] e i = cc
  row_at-row_by_row none (u ∷ us) (v ∷ vs) e zero = refl
  row_at-row_by_row none (u ∷ us) (v ∷ vs) e (suc i) =
      let others : degrees_of us ≡ degrees_of vs = cc in row_at-row_by_row none us vs others i

  pub row_by_row-append : (us vs us' vs' : List Vector) → degrees_of us ≡ degrees_of vs
      → row_by_row f (us ++ us') (vs ++ vs') ≡ row_by_row f us vs ++ row_by_row f us' vs'
  row_by_row-append [] [] us' vs' e = refl
  row_by_row-append [] (v ∷ vs) us' vs' e = cc
  row_by_row-append (u ∷ us) [] us' vs' e = cc
  row_by_row-append (u ∷ us) (v ∷ vs) us' vs' e =
      let others : degrees_of us ≡ degrees_of vs = cc in
      ap (λ ws. record { degree = u.degree; terms = f u.terms v.terms } ∷ ws) (row_by_row-append us vs us' vs' others)

  -- what follows for each row from what is known of the two that it is made of, which have one degree
  pub AllByRecursion-row_by_row : (P Q R : Vector → Type 0)
      → ((d : ℤ) (us vs : List (Term Place)) → P (record { degree = d; terms = us })
      → Q (record { degree = d; terms = vs }) → R (record { degree = d; terms = f us vs }))
      → (us vs : List Vector) → degrees_of us ≡ degrees_of vs → AllByRecursion P us → AllByRecursion Q vs
      → AllByRecursion R (row_by_row f us vs)
  AllByRecursion-row_by_row P Q R made [] vs e h k = tt
  AllByRecursion-row_by_row P Q R made (u ∷ us) [] e h k = tt
  AllByRecursion-row_by_row P Q R made (u ∷ us) (v ∷ vs) e h k =
      let same : u.degree ≡ v.degree = cc in
      let others : degrees_of us ≡ degrees_of vs = cc in (
        made u.degree u.terms v.terms h.0 (subst (λ d. Q (record { degree = d; terms = v.terms })) (sym same) k.0),
        AllByRecursion-row_by_row P Q R made us vs others h.1 k.1,
      )
