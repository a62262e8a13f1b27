-- Buchberger's criterion for homogeneous rows up to a degree: only the pairs count whose least common multiple is of
-- that degree or less. (Cox, Little, O'Shea, "Using Algebraic Geometry", chapter 5, section 2.)
use Rattle.std.proofs.Common.{◌≡◌, ℕ, ◌<◌, length, refl, sym, ◌∙◌, ap, subst, arith, ℤ, pos, ◌+ℤ◌, ◌≤ℤ◌}
use Rattle.std.specs.List.{AllByRecursion}
use Rattle.std.proofs.lemmas.Int.{ints}
use Rattle.std.proofs.lemmas.List.{length-map}
use Rattle.sf_algebra.specs.Matrices.{Matrix, IsMatrix, row_degrees}
use Rattle.sf_algebra.specs.MatrixOperations.{row_combination}
use Rattle.sf_algebra.specs.Monomials.{monomial_degree}
use Rattle.sf_algebra.specs.Multiples.{place_product}
use Rattle.sf_algebra.specs.Rings.{IsRing}
use Rattle.sf_algebra.specs.Vectors.{Vector, place_degree}
use Rattle.sf_groebner.specs.Criterion.{HaveLeadsAtOnePosition, IsMonicRow, ReducesToZero, lcm_place, lead_at, pair_place}
use Rattle.sf_groebner.specs.ReducedBases.{HasDividedLead}
use Rattle.sf_groebner.specs.Spans.{IsCoefficients}
use Rattle.sf_groebner.proofs.PairTheorems.Buchberger.{buchberger_at}
use Rattle.sf_groebner.proofs.PairTheorems.Kernels.{IsZero}
use Rattle.sf_groebner.proofs.PairTheorems.LeadMultiples.{IsSettled}
use Rattle.sf_groebner.proofs.PairTheorems.PairDegrees.{HasPlaceOfDegree, place_degree-pair_place, place_degree-product, settled_in_degree}
use Rattle.sf_groebner.proofs.PairTheorems.Pairs.{cofactor, place_product-pair_place_first, same_lead_position}

-- the criterion up to degree d
pub buchberger_up_to : (m : Matrix) → IsMatrix m → AllByRecursion (IsMonicRow m.ring) m.rows → IsRing m.ring → (d : ℤ)
    → ((i j : ℕ) → i < j → j < length m.rows → HaveLeadsAtOnePosition m.rows i j
    → place_degree m.ring.weights m.target (lcm_place (lead_at m.rows) i j) ≤ℤ d → ReducesToZero m.ring m.rows i j)
    → (c : Vector) → IsCoefficients m c → c.degree ≤ℤ d → HasDividedLead m.rows (row_combination m.ring m.rows c.terms)
buchberger_up_to m is_matrix monic positive d pairs c coefficients bound =
    buchberger_at m.ring positive m.rows monic (HasPlaceOfDegree m.ring.weights (row_degrees m) c.degree)
    (λ k h. within k.position h.0)
    (λ j k j_in k_in same earlier.
    let f = place_degree m.ring.weights (row_degrees m) (pair_place (lead_at m.rows) j.position k.position) in
    let a = cofactor (lead_at m.rows) j k in
    let positions = same_lead_position (lead_at m.rows) j k same in
    let total : f +ℤ pos (monomial_degree m.ring.weights a) ≡ c.degree =
    sym (place_degree-product m.ring.weights (row_degrees m) a (pair_place (lead_at m.rows) j.position k.position))
    ∙ ap (place_degree m.ring.weights (row_degrees m)) (place_product-pair_place_first (lead_at m.rows) j k same)
    ∙ sym j_in.1 in
    let below : place_degree m.ring.weights m.target (lcm_place (lead_at m.rows) j.position k.position) ≤ℤ d =
    subst (λ g. g ≤ℤ d) (place_degree-pair_place m is_matrix monic j.position k.position (within j.position j_in.0))
    (lower f (monomial_degree m.ring.weights a) c.degree total bound) in
    subst
    (λ e. IsSettled m.ring (λ u. HasPlaceOfDegree m.ring.weights (row_degrees m) e (place_product a u)) (lead_at m.rows) (IsZero m.ring positive m.rows)
    (pair_place (lead_at m.rows) j.position k.position) (pair_place (lead_at m.rows) k.position j.position))
    total
    (settled_in_degree m is_matrix monic positive j.position k.position (within j.position j_in.0) (within k.position k_in.0) positions f refl
    (pairs j.position k.position earlier (within k.position k_in.0) positions below) a))
    c.terms coefficients.homogeneous
  where
    within : (i : ℕ) → i < length (row_degrees m) → i < length m.rows
    within i h = simp length-map at h

    lower : (f : ℤ) (n : ℕ) (e : ℤ) → f +ℤ pos n ≡ e → e ≤ℤ d → f ≤ℤ d
    lower f n e sum h = omega (arith, ints)
