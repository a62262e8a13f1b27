-- Schreyer's theorem for matrices: homogeneous syzygies of monic rows, one for each pair, span the homogeneous syzygies.
use Rattle.std.proofs.Common.{◌≡◌, ℕ, ◌<◌, List, length, ◌∙◌}
use Rattle.std.proofs.lemmas.List.{length-map}
use Rattle.std.specs.List.{AllByRecursion}
use Rattle.sf_algebra.specs.DegreeParts.{degree_part}
use Rattle.sf_algebra.specs.Matrices.{Matrix, IsMatrix, row_degrees}
use Rattle.sf_algebra.specs.MatrixOperations.{row_at, row_combination}
use Rattle.sf_algebra.specs.Rings.{IsRing}
use Rattle.sf_algebra.specs.Sums.{normal}
use Rattle.sf_algebra.specs.Terms.{Term}
use Rattle.sf_algebra.specs.Vectors.{Place, Vector, place_cmp, IsVector}
use Rattle.sf_algebra.proofs.Basics.Filters.{IsCanonical-filter}
use Rattle.sf_algebra.proofs.Basics.Lists.{AllByRecursion-weaken}
use Rattle.sf_algebra.proofs.Monomials.Orders.{place_cmp_linear}
use Rattle.sf_algebra.proofs.Terms.Normal.{IsCanonical-normal}
use Rattle.sf_algebra.proofs.Terms.SameTotals.{SameTotals-normal}
use Rattle.sf_algebra.proofs.Terms.Sums.{normal-canonical}
use Rattle.sf_algebra.proofs.Vectors.DegreeParts.{IsHomogeneous-degree_part}
use Rattle.sf_algebra.proofs.Vectors.HomogeneousVectors.{row_combination-IsVector}
use Rattle.sf_groebner.specs.Criterion.{HaveLeadsAtOnePosition, IsMonicRow, IsPairSyzygy}
use Rattle.sf_groebner.specs.Spans.{InSpan, IsSyzygy}
use Rattle.sf_groebner.proofs.PairTheorems.Kernels.{row_combination-SameTotals}
use Rattle.sf_groebner.proofs.PairTheorems.Schreyer.{IsSpanned, schreyer}

-- a homogeneous vector that is a combination of homogeneous rows is one with homogeneous coefficients
pub InSpan-IsSpanned : (m : Matrix) → IsRing m.ring → IsMatrix m → (v : Vector) → IsVector m.ring m.target v
    → IsSpanned m.ring m.rows v.terms → InSpan m v
InSpan-IsSpanned m positive is_matrix v vector h = record {
  coefficients = record { degree = v.degree; terms = degree_part m.ring.weights (row_degrees m) v.degree coefficients };
  homogeneous = record {
    canonical =
        IsCanonical-filter _ (place_cmp m.ring.weights) m.ring.modulus coefficients
        (IsCanonical-normal (place_cmp m.ring.weights) (place_cmp_linear m.ring.weights) m.ring.modulus positive.modulus h.coefficients);
    homogeneous = IsHomogeneous-degree_part m.ring.weights (row_degrees m) v.degree coefficients;
  };
  value = λ i. record { degree = v.degree; terms = row_combination-IsVector m positive.modulus is_matrix v vector coefficients value i };
}
  where
    coefficients : List (Term Place)
    coefficients = normal (place_cmp m.ring.weights) m.ring.modulus h.coefficients

    value : row_combination m.ring m.rows coefficients ≡ v.terms
    value =
        row_combination-SameTotals m.ring positive m.rows
        (SameTotals-normal (place_cmp m.ring.weights) (place_cmp_linear m.ring.weights) m.ring.modulus h.coefficients)
        ∙ h.value
        ∙ normal-canonical (place_cmp m.ring.weights)
        (place_cmp_linear m.ring.weights) m.ring.modulus positive.modulus v.terms vector.canonical

pub schreyer_homogeneous : (m : Matrix) → IsRing m.ring → AllByRecursion (IsMonicRow m.ring) m.rows → (zs : List Vector)
    → AllByRecursion (IsSyzygy m) zs
    → ((i j : ℕ) → i < j → j < length m.rows → HaveLeadsAtOnePosition m.rows i j
    → (k : ℕ) × (k < length zs) × IsPairSyzygy m.ring m.rows i j (row_at zs k))
    → (c : Vector) → IsSyzygy m c → InSpan (record { ring = m.ring; target = row_degrees m; rows = zs }) c
schreyer_homogeneous m positive monic zs syzygies pairs c h =
    InSpan-IsSpanned (record { ring = m.ring; target = row_degrees m; rows = zs }) positive
    (AllByRecursion-weaken _ _ (λ z s. s.coefficients) zs syzygies) c h.coefficients
    (schreyer m.ring positive m.rows zs (AllByRecursion-weaken _ _ (λ z s. s.zero) zs syzygies) monic pairs c.terms
    (AllByRecursion-weaken _ _ (λ t k. within t.at.position k.0) c.terms h.coefficients.homogeneous) h.zero)
  where
    within : (i : ℕ) → i < length (row_degrees m) → i < length m.rows
    within i e = simp length-map at e
