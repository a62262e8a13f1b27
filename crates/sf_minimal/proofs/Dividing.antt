-- Divisions of vectors of a span by its reduced basis, and what they enter.
use Rattle.std.proofs.Common.{◌≡◌, Bool, true, false, int_eq, ⊎_elim, ℕ, suc, ◌-◌, ◌<◌, ◌≤◌, List, [], length, sym, ◌∙◌, ap, subst, arith, ℤ, pos}
use Rattle.std.proofs.lemmas.Bool.{cases_lt}
use Rattle.std.proofs.lemmas.Int.{ints}
use Rattle.std.proofs.lemmas.List.{length-map}
use Rattle.std.proofs.lemmas.Option.{slice_get-get_or}
use Rattle.std.specs.List.{AllByRecursion}
use Rattle.sf_algebra.specs.Matrices.{Matrix, IsMatrix, degrees_of}
use Rattle.sf_algebra.specs.Monomials.{Monomial, exponent_sum, monomial_degree}
use Rattle.sf_algebra.specs.Primes.{IsPrime}
use Rattle.sf_algebra.specs.Rings.{IsOverField, IsRing, Ring, Weights, plain}
use Rattle.sf_algebra.specs.Sums.{normal}
use Rattle.sf_algebra.specs.Terms.{Term}
use Rattle.sf_algebra.specs.Vectors.{IsHomogeneous, IsTermOfDegree, IsVector, Place, Vector, generator_degree, place_cmp, place_degree}
use Rattle.sf_algebra.proofs.Basics.Lists.{AllByRecursion-get, AllByRecursion-weaken}
use Rattle.sf_algebra.proofs.Monomials.Orders.{place_cmp_linear}
use Rattle.sf_algebra.proofs.Monomials.Weights.{field_ring, ones_positive}
use Rattle.sf_algebra.proofs.Terms.Normal.{IsCanonical-normal}
use Rattle.sf_algebra.proofs.Terms.Sums.{normal-canonical}
use Rattle.sf_algebra.proofs.Vectors.Degrees.{IsHomogeneous-normal, IsHomogeneous-row_combination}
use Rattle.sf_algebra.proofs.Vectors.HomogeneousVectors.{HasHomogeneousRows-from_IsMatrix}
use Rattle.sf_algebra.proofs.Vectors.Rows.{IsCanonical-row_combination}
use Rattle.sf_groebner.specs.Criterion.{HaveLeadsAtOnePosition, IsMonicRow, lcm_place, lead_at, s_coefficients, s_vector}
use Rattle.sf_groebner.specs.Divisions.{IsDivided}
use Rattle.sf_groebner.specs.ReducedBases.{IsMonic}
use Rattle.sf_groebner.specs.Spans.{InSpan}
use Rattle.sf_groebner.proofs.Basics.Items.{AllByRecursion-both}
use Rattle.sf_groebner.proofs.Constructions.MonicVectors.{AllByRecursion-row_at}
use Rattle.sf_groebner.proofs.Constructions.Rests.{basis_division, rest_none}
use Rattle.sf_groebner.proofs.PairTheorems.PairDegrees.{IsHomogeneous-s_coefficients, place_degree-pair_place}
use Rattle.sf_groebner.proofs.PairTheorems.SyzygySpans.{InSpan-IsSpanned}
use Rattle.sf_groebner.proofs.Spanning.Spans.{span_module}
use Rattle.sf_matrix.specs.Bounds.{DegreeFits}
use Rattle.sf_reduce.proofs.DivisionLoops.{IsDivision-steps}
use Rattle.sf_minimal.specs.Constants.{StandWithin, constants}
use Rattle.sf_minimal.specs.Steps.{HasRowOfDegree, IsLowBasis}
use Rattle.sf_minimal.proofs.ChosenRows.{chosen, constants-chosen_all, constants-chosen_none}
use Rattle.sf_minimal.proofs.Complete.{IsDone}
use Rattle.sf_minimal.proofs.ConstantTerms.{constants-each}

-- a plain ring modulo a prime
pub over_plain : (ring : Ring) → ring ≡ plain ring.modulus → IsPrime ring.modulus → IsOverField ring
over_plain ring same prime = subst IsOverField (sym same) (record { prime = prime; weights = ones_positive })

-- whether a row has degree d
abbrev pub of_degree : Matrix → ℤ → ℕ → Bool
of_degree m d k = int_eq d (generator_degree (degrees_of m.rows) k)

-- the monomial 1 has the degree 0
degree_one : (weights : Weights) (a : Monomial) → exponent_sum a ≡ 0 → monomial_degree weights a ≡ 0
degree_one weights a e =
    let e1 : a.e1 ≡ 0 = omega arith in
    let e2 : a.e2 ≡ 0 = omega arith in
    let e3 : a.e3 ≡ 0 = omega arith in
    let e4 : a.e4 ≡ 0 = omega arith in
    let e5 : a.e5 ≡ 0 = omega arith in
    let e6 : a.e6 ≡ 0 = omega arith in
    rw (e1, e2, e3, e4, e5, e6) (omega arith)

-- constant terms are a vector of degree 0 over as many generators of degree 0
pub constants-vector : (ring : Ring) → IsRing ring → (target : List ℤ) (n : ℕ) → length target ≡ n
    → AllByRecursion (λ (e : ℤ). e ≡ pos 0) target → (c : List (Term Place)) → StandWithin n c
    → IsVector ring target (record { degree = pos 0; terms = normal (place_cmp ring.weights) ring.modulus (constants n c) })
constants-vector ring positive target n size zeros c h = record {
  canonical = IsCanonical-normal (place_cmp ring.weights) (place_cmp_linear ring.weights) ring.modulus positive.modulus (constants n c);
  homogeneous = IsHomogeneous-normal target ring (pos 0) (constants n c)
      (constants-each (IsTermOfDegree ring.weights target (pos 0)) n c
      (AllByRecursion-weaken _ _
      (λ t within constant.
      let inside : n - suc t.at.position < length target = omega (arith, within, size) in
      let zero = AllByRecursion-get (λ (e : ℤ). e ≡ pos 0) target (n - suc t.at.position) _ zeros (slice_get-get_or target (n - suc t.at.position) (pos 0) inside) in
      let one = degree_one ring.weights t.at.monomial constant in
      (inside, omega (arith, ints, zero, one)))
      c h));
}

module _ (m : Matrix) (prime : IsOverField m.ring) (matrix : IsMatrix m) (basis : IsLowBasis m) where
  pub row_room : (d : ℤ) → HasRowOfDegree m d → DegreeFits m.target d
  row_room d h =
      subst (DegreeFits m.target) (sym h.2) (AllByRecursion-row_at (λ e ts. DegreeFits m.target e) m.rows basis.room h.0 h.1)

  pub span-vector : (v : Vector) → InSpan m v → IsVector m.ring m.target v
  span-vector v h = (span_module m (field_ring prime) matrix).vectors v h

  -- a division leaves no rest
  pub no_rest_left : (v rest : Vector) (steps : List (Term Place)) → InSpan m v → rest.degree ≡ v.degree
      → IsDivided m.ring m.target m.rows v.degree v.terms rest.terms steps
      → IsDivided m.ring m.target m.rows v.degree v.terms [] steps
  no_rest_left v rest steps inside degree divided =
      let division = IsDivision-steps m.ring (field_ring prime) m.target m.rows v rest steps degree divided in
      let none = (rest_none m (field_ring prime) matrix m.rows basis.reduced v (span-vector v inside) rest _ division).1 inside in
      subst (λ ts. IsDivided m.ring m.target m.rows v.degree v.terms ts steps) none divided

  pub quotients-within : (d : ℤ) (terms rest steps : List (Term Place)) → IsDivided m.ring m.target m.rows d terms rest steps
      → StandWithin (length m.rows) steps
  quotients-within d terms rest steps h = AllByRecursion-weaken _ _ (λ t k. within t.at.position k.0) steps h.homogeneous
    where
      within : (i : ℕ) → i < length (degrees_of m.rows) → i < length m.rows
      within i k = simp length-map at k

  -- a constant quotient stands at a row of the vector's degree
  constant-degree : (d : ℤ) (steps : List (Term Place)) → IsHomogeneous m.ring.weights (degrees_of m.rows) d steps
      → AllByRecursion (λ (t : Term Place). exponent_sum t.at.monomial ≡ 0 → d ≡ generator_degree (degrees_of m.rows) t.at.position) steps
  constant-degree d steps h =
      AllByRecursion-weaken _ _
      (λ t k constant. let own = k.1 in let one = degree_one m.ring.weights t.at.monomial constant in omega (arith, ints, own, one))
      steps h

  module _ (d e : ℤ) (steps : List (Term Place)) (h : IsHomogeneous m.ring.weights (degrees_of m.rows) e steps) where
    -- constant quotients of a vector of this degree stand at these rows
    pub constants-of_degree : int_eq d e ≡ true → constants (length m.rows) (chosen (of_degree m d) steps) ≡ constants (length m.rows) steps
    constants-of_degree same =
        constants-chosen_all (of_degree m d) (length m.rows) steps
        (AllByRecursion-weaken _ _ (λ t k constant. ap (int_eq d) (sym (k constant)) ∙ same) steps (constant-degree e steps h))

    -- those of another degree at others
    pub constants-other_degree : int_eq d e ≡ false → constants (length m.rows) (chosen (of_degree m d) steps) ≡ []
    constants-other_degree other =
        constants-chosen_none (of_degree m d) (length m.rows) steps
        (AllByRecursion-weaken _ _ (λ t k constant. ap (int_eq d) (sym (k constant)) ∙ other) steps (constant-degree e steps h))

  -- a vector of another degree is divided without constant quotients at these rows
  pub IsDone-other : (S : List (Term Place) → Type 0) → S [] → (d : ℤ) (v : Vector) → InSpan m v → int_eq d v.degree ≡ false
      → IsDone m (λ c. S (constants (length m.rows) (chosen (of_degree m d) c))) v.degree v.terms
  IsDone-other S none d v inside other =
      let division = basis_division m prime matrix m.rows basis.reduced v (span-vector v inside) in
      let quotients : Vector = division.1 in
      let divided = division.2.divided in
      record {
        steps = quotients.terms;
        divided = no_rest_left v division.0 quotients.terms inside division.2.rest_degree divided;
        inside = subst S (sym (constants-other_degree d v.degree quotients.terms divided.homogeneous other)) none;
      }

  pub monic_rows : AllByRecursion (IsMonicRow m.ring) m.rows
  monic_rows =
      AllByRecursion-both (IsVector m.ring m.target) (λ (v : Vector). IsMonic v.terms) (IsMonicRow m.ring)
      (λ v a b. record { canonical = a.canonical; monic = b }) m.rows matrix basis.reduced.monic

  -- S-vectors are in the span
  pub pair-inside : (i j : ℕ) → i < length m.rows → j < length m.rows → HaveLeadsAtOnePosition m.rows i j
      → InSpan m (record { degree = place_degree m.ring.weights m.target (lcm_place (lead_at m.rows) i j); terms = s_vector m.ring m.rows i j })
  pair-inside i j first second positions =
      let positive = field_ring prime in
      let d = place_degree m.ring.weights m.target (lcm_place (lead_at m.rows) i j) in
      let terms = s_coefficients m.ring.modulus (lead_at m.rows) i j in
      let canonical = IsCanonical-row_combination m.ring positive.modulus m.rows terms in
      let degrees = IsHomogeneous-s_coefficients m matrix monic_rows positive i j first second positions d
      (sym (place_degree-pair_place m matrix monic_rows i j first)) in
      InSpan-IsSpanned m positive matrix (record { degree = d; terms = s_vector m.ring m.rows i j })
      (record {
        canonical = canonical;
        homogeneous = IsHomogeneous-row_combination m.target m.ring m.rows (HasHomogeneousRows-from_IsMatrix m matrix) d terms degrees;
      })
      (record {
        coefficients = terms;
        for_rows = (first, (second, tt));
        value = sym (normal-canonical (place_cmp m.ring.weights) (place_cmp_linear m.ring.weights) m.ring.modulus positive.modulus _ canonical);
      })

-- a number that isn't unequal to another is equal to it
pub not_unequal : (a b : ℕ) → ((a ≡ b → ⊥) → true ≡ false) → a ≡ b
not_unequal a b h =
    ⊎_elim (λ (less : a < b). absurd (let clash = h (λ e. omega (arith, less, e)) in cc))
    (λ (not_less : b ≤ a).
    ⊎_elim (λ (greater : b < a). absurd (let clash = h (λ e. omega (arith, greater, e)) in cc))
    (λ (not_greater : a ≤ b). omega (arith, not_less, not_greater)) (cases_lt b a))
    (cases_lt a b)
