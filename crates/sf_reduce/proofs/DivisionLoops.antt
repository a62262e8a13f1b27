-- Division of a sum by the rows of a matrix, as a program goes on: one step, and the number that falls with it.
use Rattle.std.proofs.Common.{◌≡◌, HoldsAt, false, ℕ, zero, suc, slice_index_or, ◌+◌, ◌-◌, ◌*◌, ◌^◌, ◌<◌, List, [], ◌∷◌, ◌++◌, length, refl, sym, ◌∙◌, ap, subst, arith, ℤ, pos, ◌+ℤ◌, ◌≤ℤ◌}
use Rattle.std.proofs.lemmas.Bool.Decides.{nat_tests}
use Rattle.std.proofs.lemmas.Int.{ints}
use Rattle.std.proofs.lemmas.List.{length-map}
use Rattle.std.proofs.lemmas.Option.{slice_get-get_or}
use Rattle.std.specs.declared.cmp.Ordering.TheVariants.{Less}
use Rattle.std.specs.List.{AllByRecursion, list_any}
use Rattle.std.specs.Ordering.{nat_cmp, ordering_then}
use Rattle.sf_algebra.specs.Bounds.{GREATEST_SUM}
use Rattle.sf_algebra.specs.Matrices.{Matrix, IsMatrix, degrees_of}
use Rattle.sf_algebra.specs.MatrixOperations.{row_at}
use Rattle.sf_algebra.specs.Monomials.{Monomial, product}
use Rattle.sf_algebra.specs.Multiples.{multiple, negative, term_product}
use Rattle.sf_algebra.specs.Numbers.{HasDigits, monomial_number}
use Rattle.sf_algebra.specs.Primes.{IsPrime}
use Rattle.sf_algebra.specs.Residues.{negative_mod}
use Rattle.sf_algebra.specs.Rings.{IsOverField, IsPositive, IsRing, Ring, ones, plain}
use Rattle.sf_algebra.specs.Sums.{normal}
use Rattle.sf_algebra.specs.Terms.{IsCanonical, IsNonzeroResidue, Term}
use Rattle.sf_algebra.specs.VectorOperations.{row_multiple, row_sum}
use Rattle.sf_algebra.specs.Vectors.{IsHomogeneous, IsTermOfDegree, IsVector, Place, Vector, place_cmp}
use Rattle.sf_algebra.proofs.Basics.Lists.{AllByRecursion-get}
use Rattle.sf_algebra.proofs.Monomials.Comparisons.{nat_cmp-Less}
use Rattle.sf_algebra.proofs.Monomials.Numbers.{monomial_number-fits, nat_cmp-digits, nat_cmp-monomial_number}
use Rattle.sf_algebra.proofs.Monomials.Products.{product-one_first}
use Rattle.sf_algebra.proofs.Monomials.Weights.{exponent_sum-at_most, field_ring, ones_positive}
use Rattle.sf_algebra.proofs.Multiplying.Keys.{Keys, place_keys}
use Rattle.sf_algebra.proofs.Multiplying.MultipleLaws.{multiple-multiple}
use Rattle.sf_algebra.proofs.Multiplying.Multiples.{IsCanonical-multiple}
use Rattle.sf_algebra.proofs.Multiplying.PrimeMultiples.{multiple-map}
use Rattle.sf_algebra.proofs.Terms.Coefficients.{IsCanonical-tail}
use Rattle.sf_algebra.proofs.Terms.Normal.{IsCanonical-normal}
use Rattle.sf_algebra.proofs.Monomials.Orders.{place_cmp_linear}
use Rattle.sf_algebra.proofs.Terms.Negatives.{multiple-negative_one, negative_one_term, product_mod-negative_one}
use Rattle.sf_groebner.specs.Criterion.{lead_at}
use Rattle.sf_groebner.specs.Divisions.{AreBelow, IsDivided, IsDividing, IsDivision, left_over, step, step_factor, tail_of}
use Rattle.sf_groebner.specs.Leads.{PlaceDivides, place_divides}
use Rattle.sf_groebner.specs.ReducedBases.{IsMonic}
use Rattle.sf_groebner.proofs.Basics.Items.{AllByRecursion-both}
use Rattle.sf_groebner.proofs.Constructions.DivisionSteps.{IsDividing-end, IsDividing-hit, IsDividing-miss}
use Rattle.sf_groebner.proofs.Constructions.Divisions.{left_over-below}
use Rattle.sf_groebner.proofs.Constructions.LeadDivisors.{is_divided-lead_places, lead_places}
use Rattle.sf_groebner.proofs.Constructions.Rests.{IsDivided-normal}
use Rattle.sf_groebner.proofs.Constructions.MonicVectors.{IsMonicVector, IsTermOfDegree-step, monic_row}
use Rattle.sf_matrix.specs.Bounds.{DegreeFits, HasRoom}
use Rattle.sf_matrix.proofs.Room.{CombinationFits-homogeneous}
use Rattle.sf_reduce.specs.TermSums.{TermSum, sum_vector}

-- a negative factor makes the negative of the multiple
pub multiple-negative_factor : {K : Type 0} (keys : Keys K) (p : ℕ) → 0 < p → (a : Monomial) (c : ℕ) → c < p
    → (us : List (Term K))
    → multiple keys.cmp keys.act p (record { at = a; coefficient = negative_mod p c }) us
    ≡ negative p (multiple keys.cmp keys.act p (record { at = a; coefficient = c }) us)
multiple-negative_factor keys p positive a c below us =
    let s : Term Monomial = record { at = a; coefficient = c } in
    let factor : term_product product p (negative_one_term p) s ≡ record { at = a; coefficient = negative_mod p c } =
    λ i. record { at = product-one_first a i; coefficient = product_mod-negative_one p c positive below i } in
    ap (λ t. multiple keys.cmp keys.act p t us) (sym factor)
    ∙ sym (multiple-multiple keys p positive (negative_one_term p) s us)
    ∙ multiple-negative_one keys p positive (multiple keys.cmp keys.act p s us) (IsCanonical-multiple keys p positive s us)

-- a number for a place before position n, in the order of places
abbrev pub number_before : ℕ → Place → ℕ
number_before n k = (n - k.position) * 2 ^ 112 + monomial_number k.monomial

-- more than the number of the first place of a list
abbrev pub head_number : ℕ → List (Term Place) → ℕ
head_number n [] = 0
head_number n (t ∷ ts) = number_before n t.at + 1

nat_cmp-missing : (m a b : ℕ) → a < m → b < m → nat_cmp (m - a) (m - b) ≡ nat_cmp b a
nat_cmp-missing m a b h k = grind (arith, nat_tests)

number_before-less : (n : ℕ) (j k : Place) → j.position < n → k.position < n → HasDigits j.monomial
    → HasDigits k.monomial → place_cmp ones j k ≡ Less → number_before n j < number_before n k
number_before-less n j k within inside h l less =
    nat_cmp-Less _ _
    (nat_cmp-digits (2 ^ 112) (n - j.position) (n - k.position) (monomial_number j.monomial) (monomial_number k.monomial) (monomial_number-fits j.monomial h) (monomial_number-fits k.monomial l)
    ∙ (λ i. ordering_then (nat_cmp-missing n j.position k.position within inside i) (nat_cmp-monomial_number j.monomial k.monomial h l i))
    ∙ less)

-- a term of a degree that fits has a monomial with digits
pub HasDigits-degree : (ring : Ring) → IsPositive ring.weights → (target : List ℤ) (d : ℤ) (t : Term Place)
    → IsTermOfDegree ring.weights target d t → DegreeFits target d → HasDigits t.at.monomial
HasDigits-degree ring positive target d t h fits =
    let bound = AllByRecursion-get (λ (e : ℤ). d ≤ℤ (e +ℤ pos GREATEST_SUM)) target t.at.position _ fits (slice_get-get_or target t.at.position (pos 0) h.0) in
    let most = exponent_sum-at_most ring.weights positive t.at.monomial in
    let degree = h.1 in
    omega (arith, ints, bound, most, degree)

-- the number falls where what is left is below the first term
head_number-falls : (target : List ℤ) (p : ℕ) (d : ℤ) (t : Term Place) (ts us : List (Term Place)) → DegreeFits target d
    → IsTermOfDegree ones target d t → IsHomogeneous ones target d us → AreBelow ones t.at us
    → head_number (length target) us < head_number (length target) (t ∷ ts)
head_number-falls target p d t ts [] fits first h below = omega arith
head_number-falls target p d t ts (u ∷ us) fits first h below =
    let digits = λ (v : Term Place) (k : IsTermOfDegree ones target d v). HasDigits-degree (plain p) ones_positive target d v k fits in
    let less = number_before-less (length target) u.at t.at h.0.0 first.0 (digits u h.0) (digits t first) below.0 in
    omega (arith, less)

module _ (m : Matrix) (is_matrix : IsMatrix m) (monic : AllByRecursion (λ (v : Vector). IsMonic v.terms) m.rows)
    (p : ℕ) (prime : IsPrime p) (rings : m.ring ≡ plain p) where
  pub over_field : IsOverField m.ring
  over_field = subst IsOverField (sym rings) (record { prime = prime; weights = ones_positive })

  pub monic_vectors : AllByRecursion (IsMonicVector m.ring m.target) m.rows
  monic_vectors = AllByRecursion-both _ _ _ (λ v h k. record { vector = h; monic = k }) m.rows is_matrix monic

  -- the products of a coefficient of degree d with its row have room
  pub HasRoom-coefficient : (d : ℤ) (t : Term Place) → IsNonzeroResidue p t
      → IsTermOfDegree m.ring.weights (degrees_of m.rows) d t → DegreeFits m.target d
      → HasRoom t.at.monomial (row_at m.rows t.at.position)
  HasRoom-coefficient d t residue h fits =
      (CombinationFits-homogeneous m.ring (field_ring over_field).weights m.target m.rows
      (record { degree = d; terms = t ∷ [] })
      is_matrix
      (record { canonical = record { descending = (tt, tt); residues = (subst (λ (r : Ring). IsNonzeroResidue r.modulus t) (sym rings) residue, tt) }; homogeneous = (h, tt) })
      fits).0

  module _ (i : ℕ) (within : i < length m.rows) (t : Term Place) (residue : IsNonzeroResidue p t)
      (divides : PlaceDivides (lead_at m.rows i) t.at) where
    -- the tail of row i has room
    pub HasRoom-step : (d : ℤ) → IsTermOfDegree ones m.target d t → DegreeFits m.target d
        → HasRoom (step_factor m.rows i t).at (tail_of (row_at m.rows i))
    HasRoom-step d h fits =
        tail_room (row_at m.rows i)
        (HasRoom-coefficient d (step m.rows i t) residue
        (IsTermOfDegree-step m.ring m.target m.rows monic_vectors i within d t divides (subst (λ (r : Ring). IsTermOfDegree r.weights m.target d t) (sym rings) h))
        fits)
      where
        tail_room : (ts : List (Term Place)) → HasRoom (step_factor m.rows i t).at ts
            → HasRoom (step_factor m.rows i t).at (tail_of ts)
        tail_room [] h = tt
        tail_room (u ∷ ts) h = h.1

    pub tail-canonical : IsCanonical (place_cmp ones) p (tail_of (row_at m.rows i))
    tail-canonical =
        tail (row_at m.rows i)
        (subst (λ (r : Ring). IsCanonical (place_cmp r.weights) r.modulus (row_at m.rows i)) rings (monic_row m.ring m.target m.rows monic_vectors i within).vector.canonical)
      where
        tail : (ts : List (Term Place)) → IsCanonical (place_cmp ones) p ts → IsCanonical (place_cmp ones) p (tail_of ts)
        tail [] h = h
        tail (u ∷ ts) h = IsCanonical-tail (place_cmp ones) p u ts h

    -- the multiple by the negative takes it away
    pub left_over-negative : (ts : List (Term Place))
        → row_sum (plain p) ts (row_multiple (plain p) (record { at = (step_factor m.rows i t).at; coefficient = negative_mod p t.coefficient }) (tail_of (row_at m.rows i)))
        ≡ left_over m.ring m.rows i t ts
    left_over-negative ts =
        let s : Term Monomial = step_factor m.rows i t in
        let us : List (Term Place) = tail_of (row_at m.rows i) in
        ap (row_sum (plain p) ts)
        (multiple-negative_factor (place_keys ones) p (field_ring over_plain).modulus s.at t.coefficient residue.1 us
        ∙ ap (negative p) (multiple-map (place_keys ones) p s prime residue us tail-canonical))
        ∙ ap (λ (r : Ring). left_over r m.rows i t ts) (sym rings)
      where
        over_plain : IsOverField (plain p)
        over_plain = record { prime = prime; weights = ones_positive }

lead_places-at : (rows : List Vector) (i : ℕ) (d : Place) → i < length rows
    → slice_index_or (lead_places rows) i d ≡ lead_at rows i
lead_places-at [] i d within = absurd (omega arith)
lead_places-at (v ∷ vs) zero d within = refl
lead_places-at (v ∷ vs) (suc i) d within = lead_places-at vs i d (omega arith)

-- a divisor among the leads is the lead of a row
pub divisor_among_rows : (rows : List Vector) (ks : List Place) (k : Place) (i : ℕ) → ks ≡ lead_places rows
    → i < length ks → HoldsAt (λ (j : Place). PlaceDivides j k) ks i → (i < length rows) × PlaceDivides (lead_at rows i) k
divisor_among_rows rows ks k i leads within divides =
    let inside : i < length rows = let size : length ks ≡ length rows = ap length leads ∙ simp length-map in subst (λ n. i < n) size within in (
      inside,
      subst (λ j. PlaceDivides j k) (lead_places-at rows i (lead_at rows i) inside)
          (subst (λ l. PlaceDivides (slice_index_or l i (lead_at rows i)) k) leads (divides (lead_at rows i))),
    )

-- a division as far as it has come, where the sum that is left is over the ring of the matrix
pub record IsLoop (m : Matrix) (whole left : TermSum) (rest steps : List (Term Place)) : Type 0 where
  pub rings : m.ring ≡ plain left.modulus
  pub degree : left.degree ≡ whole.degree
  pub dividing : IsDividing m.ring m.target m.rows whole.degree whole.terms left.terms rest steps

pub IsLoop-start : (m : Matrix) (whole : TermSum) → m.ring ≡ plain whole.modulus
    → IsVector m.ring m.target (sum_vector whole) → IsLoop m whole whole [] []
IsLoop-start m whole rings h = record {
  rings = rings;
  degree = refl;
  dividing = record { vector = h; further = λ others quotients e. e };
}

module _ (m : Matrix) (is_matrix : IsMatrix m) (monic : AllByRecursion (λ (v : Vector). IsMonic v.terms) m.rows)
    (whole left : TermSum) (prime : IsPrime m.ring.modulus) (rest steps : List (Term Place))
    (h : IsLoop m whole left rest steps) where
  left_prime : IsPrime left.modulus
  left_prime = subst IsPrime (ap (λ (r : Ring). r.modulus) h.rings) prime

  field : IsOverField m.ring
  field = over_field m is_matrix monic left.modulus left_prime h.rings

  vectors : AllByRecursion (IsMonicVector m.ring m.target) m.rows
  vectors = monic_vectors m is_matrix monic left.modulus left_prime h.rings

  pub IsLoop-end : left.terms ≡ [] → IsDivided m.ring m.target m.rows whole.degree whole.terms rest steps
  IsLoop-end none =
      IsDividing-end m.ring field m.target m.rows vectors whole.degree whole.terms rest steps
      (subst (λ ts. IsDividing m.ring m.target m.rows whole.degree whole.terms ts rest steps) none h.dividing)

  module _ (t : Term Place) (after : TermSum) (modulus : after.modulus ≡ left.modulus)
      (degree : after.degree ≡ left.degree) (first : left.terms ≡ t ∷ after.terms) where
    dividing : IsDividing m.ring m.target m.rows whole.degree whole.terms (t ∷ after.terms) rest steps
    dividing = subst (λ ts. IsDividing m.ring m.target m.rows whole.degree whole.terms ts rest steps) first h.dividing

    pub first_rings : m.ring ≡ plain after.modulus
    first_rings = h.rings ∙ ap plain (sym modulus)

    pub first_residue : IsNonzeroResidue after.modulus t
    first_residue = subst (λ (r : Ring). IsNonzeroResidue r.modulus t) first_rings dividing.vector.canonical.residues.0

    pub first_degree : IsTermOfDegree ones m.target after.degree t
    first_degree =
        subst (λ d. IsTermOfDegree ones m.target d t) (sym (degree ∙ h.degree))
        (subst (λ (r : Ring). IsTermOfDegree r.weights m.target whole.degree t) first_rings dividing.vector.homogeneous.0)

    homogeneous : (us : List (Term Place)) → IsVector m.ring m.target (record { degree = whole.degree; terms = us })
        → IsHomogeneous ones m.target whole.degree us
    homogeneous us k =
        subst (λ (r : Ring). IsHomogeneous r.weights m.target whole.degree us) first_rings k.homogeneous

    falls : DegreeFits m.target whole.degree → (us : List (Term Place))
        → IsVector m.ring m.target (record { degree = whole.degree; terms = us }) → AreBelow m.ring.weights t.at us
        → head_number (length m.target) us < head_number (length m.target) left.terms
    falls fits us vector below =
        subst (λ ts. head_number (length m.target) us < head_number (length m.target) ts) (sym first)
        (head_number-falls m.target after.modulus whole.degree t after.terms us fits
        (homogeneous (t ∷ after.terms) dividing.vector).0 (homogeneous us vector)
        (subst (λ (r : Ring). AreBelow r.weights t.at us) first_rings below))

    -- where no lead divides the first term, it goes to the rest
    module _ (none : list_any (λ k. place_divides k t.at) (lead_places m.rows) ≡ false) where
      missed : IsDividing m.ring m.target m.rows whole.degree whole.terms after.terms (rest ++ t ∷ []) steps
      missed =
          IsDividing-miss m.ring field m.target m.rows vectors whole.degree whole.terms t after.terms rest steps
          (is_divided-lead_places m.rows t.at monic ∙ none) dividing

      pub IsLoop-miss : IsLoop m whole after (rest ++ t ∷ []) steps
      IsLoop-miss = record { rings = first_rings; degree = degree ∙ h.degree; dividing = missed }

      pub IsLoop-miss_falls : DegreeFits m.target whole.degree
          → head_number (length m.target) after.terms < head_number (length m.target) left.terms
      IsLoop-miss_falls fits = falls fits after.terms missed.vector dividing.vector.canonical.descending.0

    -- where the lead of row i does, its multiple is taken away
    module _ (i : ℕ) (within : i < length m.rows) (divides : PlaceDivides (lead_at m.rows i) t.at) (next : TermSum)
        (next_modulus : next.modulus ≡ after.modulus) (next_degree : next.degree ≡ after.degree)
        (taken : next.terms ≡ left_over m.ring m.rows i t after.terms) where
      hit : IsDividing m.ring m.target m.rows whole.degree whole.terms next.terms rest (steps ++ step m.rows i t ∷ [])
      hit =
          subst (λ ts. IsDividing m.ring m.target m.rows whole.degree whole.terms ts rest (steps ++ step m.rows i t ∷ [])) (sym taken)
          (IsDividing-hit m.ring field m.target m.rows vectors whole.degree whole.terms t after.terms rest steps i within divides dividing)

      pub IsLoop-hit : IsLoop m whole next rest (steps ++ step m.rows i t ∷ [])
      IsLoop-hit = record {
        rings = first_rings ∙ ap plain (sym next_modulus);
        degree = next_degree ∙ degree ∙ h.degree;
        dividing = hit;
      }

      pub IsLoop-hit_falls : DegreeFits m.target whole.degree
          → head_number (length m.target) next.terms < head_number (length m.target) left.terms
      IsLoop-hit_falls fits =
          falls fits next.terms hit.vector
          (subst (AreBelow m.ring.weights t.at) (sym taken)
          (left_over-below m.ring field m.target m.rows vectors whole.degree t after.terms dividing.vector i within divides))

-- a division with the quotients made canonical, as vectors
pub IsDivision-steps : (ring : Ring) → IsRing ring → (target : List ℤ) (rows : List Vector) (v rest : Vector)
    (steps : List (Term Place)) → rest.degree ≡ v.degree → IsDivided ring target rows v.degree v.terms rest.terms steps
    → IsDivision ring target rows v rest
    (record { degree = v.degree; terms = normal (place_cmp ring.weights) ring.modulus steps })
IsDivision-steps ring positive target rows v rest steps degree divided =
    let canonical = IsDivided-normal ring positive target rows v.degree v.terms rest.terms steps divided in
    record {
      rest_degree = degree;
      quotients_degree = refl;
      coefficients = record {
        canonical = IsCanonical-normal (place_cmp ring.weights) (place_cmp_linear ring.weights) ring.modulus positive.modulus steps;
        homogeneous = canonical.homogeneous;
      };
      divided = canonical;
    }
