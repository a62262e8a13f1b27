-- What is known of the row at a position from what is known of all rows.
use Rattle.std.proofs.Common.{◌≡◌, ℕ, zero, suc, ◌<◌, List, [], ◌∷◌, refl, ◌∙◌}
use Rattle.std.specs.List.{AllByRecursion}
use Rattle.sf_algebra.specs.Matrices.{Matrix}
use Rattle.sf_algebra.specs.MatrixOperations.{row_at, row_combination, negated}
use Rattle.sf_algebra.specs.Multiples.{place_product, combination, negative}
use Rattle.sf_algebra.specs.Rings.{Ring}
use Rattle.sf_algebra.specs.Terms.{Term}
use Rattle.sf_algebra.specs.Vectors.{Place, Vector, place_cmp, IsCanonicalRow}
use Rattle.sf_algebra.proofs.Multiplying.Associativity.{combination-negative_rows}
use Rattle.sf_algebra.proofs.Multiplying.Keys.{place_keys}
use Rattle.sf_algebra.proofs.Vectors.Rows.{row_at-map}

-- the rows are canonical
abbrev pub HasCanonicalRows : Ring → List Vector → Type 0
HasCanonicalRows ring = AllByRecursion (λ (v : Vector). IsCanonicalRow ring v.terms)

pub IsCanonical-row_at : (ring : Ring) (rows : List Vector) → HasCanonicalRows ring rows → (i : ℕ)
    → IsCanonicalRow ring (row_at rows i)
IsCanonical-row_at ring [] h i = record { descending = tt; residues = tt }
IsCanonical-row_at ring (v ∷ vs) h zero = h.0
IsCanonical-row_at ring (v ∷ vs) h (suc i) = IsCanonical-row_at ring vs h.1 i

pub row_at-negated : (m : Matrix) (i : ℕ) → row_at (negated m).rows i ≡ negative m.ring.modulus (row_at m.rows i)
row_at-negated m i = row_at-map (negative m.ring.modulus) refl m.rows i

-- the combination of the rows of the negative of a matrix
pub row_combination-negated : (m : Matrix) → 0 < m.ring.modulus → HasCanonicalRows m.ring m.rows
    → (c : List (Term Place))
    → row_combination m.ring (negated m).rows c ≡ negative m.ring.modulus (row_combination m.ring m.rows c)
row_combination-negated m positive canonical c =
    (λ i. combination (place_cmp m.ring.weights) place_product m.ring.modulus (λ k. k.monomial) (λ k. row_at-negated m k.position i) c)
    ∙ combination-negative_rows (place_keys m.ring.weights) m.ring.modulus positive (λ k. k.monomial)
    (λ k. row_at m.rows k.position) c (λ k. IsCanonical-row_at m.ring m.rows canonical k.position)
