-- The negative of a matrix.
use Rattle.std.proofs.Common.{◌≡◌, refl, ℕ, List, [], ◌∷◌, map, neg_ℤ, sym, ap, ◌∙◌, inl, inr}
use Rattle.std.proofs.lemmas.Bool.{cases_eq}
use Rattle.sf_algebra.specs.Matrices.{Matrix, row_degrees, IsMatrix}
use Rattle.sf_algebra.specs.MatrixOperations.{row_at, negated, transposed}
use Rattle.sf_algebra.specs.Multiples.{negative_term, negative}
use Rattle.sf_algebra.specs.Terms.{Term}
use Rattle.sf_algebra.specs.Vectors.{Place, Vector, place_cmp, entry, IsVector}
use Rattle.sf_algebra.proofs.Basics.Lists.{AllByRecursion-weaken}
use Rattle.sf_algebra.proofs.GradedMatrices.MatrixRows.{same_matrices}
use Rattle.sf_algebra.proofs.GradedMatrices.Stacks.{AllByRecursion-map, degrees-with_terms, with_terms-with_terms, with_terms-same}
use Rattle.sf_algebra.proofs.GradedMatrices.Transposes.{IsMatrix-transposed, entry-transposed, row_degrees-transposed}
use Rattle.sf_algebra.proofs.Terms.Negatives.{negative-negative}
use Rattle.sf_algebra.proofs.Vectors.Entries.{without_position, entry-here, entry-elsewhere}
use Rattle.sf_algebra.proofs.Vectors.HomogeneousVectors.{IsVector-negative}
use Rattle.sf_algebra.proofs.Vectors.RowParts.{row_at-negated}

pub entry-negative : (p j : ℕ) (ts : List (Term Place)) → entry j (negative p ts) ≡ negative p (entry j ts)
entry-negative p j [] = refl
entry-negative p j (t ∷ ts) =
    elim (cases_eq t.at.position j) [
      | inl here ↦
          entry-here j (negative_term p t) (negative p ts) here
          ∙ ap (λ es. negative_term p (without_position t) ∷ es) (entry-negative p j ts)
          ∙ ap (negative p) (sym (entry-here j t ts here))
      | inr elsewhere ↦
          entry-elsewhere j (negative_term p t) (negative p ts) elsewhere
          ∙ entry-negative p j ts
          ∙ ap (negative p) (sym (entry-elsewhere j t ts elsewhere))
    ]

pub IsMatrix-negated : (m : Matrix) → IsMatrix m → IsMatrix (negated m)
IsMatrix-negated m h =
    AllByRecursion-map (IsVector m.ring m.target)
    (λ (v : Vector). record { degree = v.degree; terms = negative m.ring.modulus v.terms }) m.rows
    (AllByRecursion-weaken _ _ (λ v k. IsVector-negative m.ring m.target v.degree v.terms k) m.rows h)

pub row_degrees-negated : (m : Matrix) → row_degrees (negated m) ≡ row_degrees m
row_degrees-negated m = degrees-with_terms (negative m.ring.modulus) m.rows

pub entry-negated : (m : Matrix) (i j : ℕ)
    → entry j (row_at (negated m).rows i) ≡ negative m.ring.modulus (entry j (row_at m.rows i))
entry-negated m i j = ap (entry j) (row_at-negated m i) ∙ entry-negative m.ring.modulus j (row_at m.rows i)

pub negated-negated : (m : Matrix) → IsMatrix m → negated (negated m) ≡ m
negated-negated m h =
    let rows = with_terms-with_terms (negative m.ring.modulus) (negative m.ring.modulus) m.rows
    ∙ with_terms-same (λ ts. negative m.ring.modulus (negative m.ring.modulus ts)) m.rows
    (AllByRecursion-weaken _ _ (λ v k. negative-negative (place_cmp m.ring.weights) m.ring.modulus v.terms k.canonical.residues) m.rows h) in
    λ i. record { ring = m.ring; target = m.target; rows = rows i }

pub transposed-negated : (m : Matrix) → IsMatrix m → transposed (negated m) ≡ negated (transposed m)
transposed-negated m h =
    let k = IsMatrix-negated m h in
    let t = IsMatrix-transposed m h in
    same_matrices (transposed (negated m)) (negated (transposed m)) (IsMatrix-transposed (negated m) k)
    (IsMatrix-negated (transposed m) t) refl
    (ap (map neg_ℤ) (row_degrees-negated m))
    (row_degrees-transposed (negated m) ∙ sym (row_degrees-negated (transposed m) ∙ row_degrees-transposed m))
    (λ i j.
    entry-transposed (negated m) k j i
    ∙ entry-negated m j i
    ∙ ap (negative m.ring.modulus) (sym (entry-transposed m h j i))
    ∙ sym (entry-negated (transposed m) i j))
