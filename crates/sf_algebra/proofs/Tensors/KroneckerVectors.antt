-- The tensor product of homogeneous vectors is a homogeneous vector over the sums of the degrees.
use Rattle.std.proofs.Common.{◌≡◌, refl, ℕ, zero, suc, ◌+◌, ◌*◌, ◌<◌, ◌≤◌, List, [], ◌∷◌, map, length, ℤ, pos, ◌+ℤ◌, sym, ap, ◌∙◌, arith, length-append, suc-mul, zero-mul, mul-le-mul_right}
use Rattle.std.specs.declared.cmp.Ordering.{Ordering}
use Rattle.std.specs.List.{AllByRecursion}
use Rattle.std.proofs.lemmas.Int.{ints}
use Rattle.std.proofs.lemmas.List.{length-map, get_or-map, get_or_append_left, get_or-append-add}
use Rattle.sf_algebra.specs.MatrixOperations.{moved, kronecker_terms, degree_sums}
use Rattle.sf_algebra.specs.Monomials.{Monomial, product, monomial_degree}
use Rattle.sf_algebra.specs.Multiples.{place_product, term_product, combination_terms, combination}
use Rattle.sf_algebra.specs.Rings.{Ring}
use Rattle.sf_algebra.specs.Terms.{Term}
use Rattle.sf_algebra.specs.Vectors.{Place, Vector, place_cmp, generator_degree, IsTermOfDegree, IsVector}
use Rattle.sf_algebra.proofs.Basics.Lists.{AllByRecursion-append, AllByRecursion-weaken}
use Rattle.sf_algebra.proofs.GradedMatrices.Stacks.{AllByRecursion-map}
use Rattle.sf_algebra.proofs.Monomials.Products.{monomial_degree-product}
use Rattle.sf_algebra.proofs.Multiplying.Combinations.{factor}
use Rattle.sf_algebra.proofs.Tensors.KroneckerTerms.{kronecker_term, moved_term, IsCanonical-kronecker_terms}
use Rattle.sf_algebra.proofs.Terms.Normal.{EachPlace, EachPlace-normal}

-- what holds of the place of each product of a coefficient and a term of its list holds of each place of the combination
pub EachPlace-combination : {C K : Type 0} (P : K → Type 0) (cmp : K → K → Ordering) (act : Monomial → K → K) (p : ℕ)
    (monomial : C → Monomial) (row : C → List (Term K)) (c : List (Term C))
    → AllByRecursion (λ t. EachPlace (λ k. P (act (monomial t.at) k)) (row t.at)) c
    → EachPlace P (combination cmp act p monomial row c)
unfolding combination combination_terms
EachPlace-combination {C} {K} P cmp act p monomial row c h =
    EachPlace-normal P cmp p (combination_terms act p monomial row c) (terms c h)
  where
    terms : (c : List (Term C)) → AllByRecursion (λ t. EachPlace (λ k. P (act (monomial t.at) k)) (row t.at)) c
        → EachPlace P (combination_terms act p monomial row c)
    terms [] h = tt
    terms (t ∷ c) h =
        AllByRecursion-append _ (map (term_product act p (factor monomial t)) (row t.at)) _
        (AllByRecursion-map _ (term_product act p (factor monomial t)) (row t.at) h.0) (terms c h.1)

pub length-degree_sums : (ds es : List ℤ) → length (degree_sums ds es) ≡ length ds * length es
length-degree_sums [] es = sym (zero-mul (length es))
length-degree_sums (d ∷ ds) es =
    length-append (map (λ e. d +ℤ e) es) (degree_sums ds es)
    ∙ (λ i. length-map es (λ e. d +ℤ e) i + length-degree_sums ds es i)
    ∙ omega (arith, suc-mul (length ds) (length es))

-- the sum of the degrees at i and j stands at the pair's number
pub generator_degree-degree_sums : (ds es : List ℤ) (i j m : ℕ) → i < length ds → j < length es → m ≡ i * length es + j
    → generator_degree (degree_sums ds es) m ≡ generator_degree ds i +ℤ generator_degree es j
generator_degree-degree_sums [] es i j m first second e = absurd (omega arith)
generator_degree-degree_sums (d ∷ ds) es zero j m first second e =
    let size = length-map es (λ e. d +ℤ e) in
    let same : m ≡ j = omega (arith, zero-mul (length es)) in
    ap (generator_degree (degree_sums (d ∷ ds) es)) same
    ∙ get_or_append_left (map (λ e. d +ℤ e) es) (degree_sums ds es) (pos 0) j (omega arith)
    ∙ get_or-map (λ e. d +ℤ e) es j (pos 0) (pos 0) second
generator_degree-degree_sums (d ∷ ds) es (suc i) j m first second e =
    let next : m ≡ length (map (λ e. d +ℤ e) es) + (i * length es + j) =
    rw (length-map es (λ e. d +ℤ e)) (omega (arith, suc-mul i (length es))) in
    ap (generator_degree (degree_sums (d ∷ ds) es)) next
    ∙ get_or-append-add (map (λ e. d +ℤ e) es) (degree_sums ds es) (i * length es + j) (pos 0)
    ∙ generator_degree-degree_sums ds es i j (i * length es + j) (omega arith) second refl

-- the number of a pair is below the number of pairs
pub pair_below : (i j m n : ℕ) → i < m → j < n → i * n + j < m * n
pair_below i j m n first second =
    let rows : suc i * n ≤ m * n = mul-le-mul_right n (let h : suc i ≤ m = omega arith in h) in
    omega (arith, suc-mul i n)

module _ (ring : Ring) (positive : 0 < ring.modulus) (ds es : List ℤ) where
  pair : (v w : ℤ) (t u : Term Place) → IsTermOfDegree ring.weights ds v t → IsTermOfDegree ring.weights es w u
      → IsTermOfDegree ring.weights (degree_sums ds es) (v +ℤ w) (kronecker_term ring.modulus (length es) t u)
  pair v w t u h k =
      let inside : t.at.position * length es + u.at.position < length ds * length es = pair_below t.at.position u.at.position (length ds) (length es) h.0 k.0 in (
        rw (length-degree_sums ds es) inside,
        degrees v w _ _ t.at.monomial u.at.monomial h.1 k.1
            ∙ ap (λ d. d +ℤ pos (monomial_degree ring.weights (product t.at.monomial u.at.monomial)))
            (sym (generator_degree-degree_sums ds es t.at.position u.at.position (t.at.position * length es + u.at.position) h.0 k.0 refl)),
      )
    where
      degrees : (v w d e : ℤ) (a b : Monomial) → v ≡ d +ℤ pos (monomial_degree ring.weights a)
          → w ≡ e +ℤ pos (monomial_degree ring.weights b)
          → v +ℤ w ≡ (d +ℤ e) +ℤ pos (monomial_degree ring.weights (product a b))
      degrees v w d e a b h k = omega (arith, ints, monomial_degree-product ring.weights a b)

  pub IsVector-kronecker_terms : (v w : Vector) → IsVector ring ds v → IsVector ring es w
      → IsVector ring (degree_sums ds es)
      (record { degree = v.degree +ℤ w.degree; terms = kronecker_terms ring (length es) v.terms w.terms })
  IsVector-kronecker_terms v w h k = record {
    canonical = IsCanonical-kronecker_terms ring (length es) positive v.terms w.terms;
    homogeneous =
        EachPlace-combination
        (λ k. IsTermOfDegree ring.weights (degree_sums ds es) (v.degree +ℤ w.degree) (record { at = k; coefficient = 0 })) (place_cmp ring.weights) place_product ring.modulus (λ k. k.monomial) (λ k. moved (k.position * length es) w.terms) v.terms
        (AllByRecursion-weaken _ _
        (λ t f. AllByRecursion-map _ (moved_term (t.at.position * length es)) w.terms
        (AllByRecursion-weaken _ _ (λ u g. pair v.degree w.degree t u f g) w.terms k.homogeneous))
        v.terms h.homogeneous);
  }
