-- Kronecker products of stacks and of negatives, and with the identity of the ring.
use Rattle.std.proofs.Common.{◌≡◌, refl, ℕ, ◌+◌, ◌*◌, ◌<◌, List, [], ◌∷◌, ◌++◌, map, length, ℤ, pos, ◌+ℤ◌, sym, ap, ◌∙◌, subst, arith, append-nil, zero-mul}
use Rattle.std.proofs.lemmas.Grind.{flat_map-append}
use Rattle.std.proofs.lemmas.Int.{ints}
use Rattle.sf_algebra.specs.Matrices.{Matrix, IsMatrix}
use Rattle.sf_algebra.specs.MatrixOperations.{identity, negated, stacked, moved, kronecker_terms, degree_sums, kronecker}
use Rattle.sf_algebra.specs.Multiples.{place_product, negative_term, negative, combination}
use Rattle.sf_algebra.specs.Rings.{Ring}
use Rattle.sf_algebra.specs.Terms.{Term}
use Rattle.sf_algebra.specs.Vectors.{Place, Vector, place_cmp, IsCanonicalRow}
use Rattle.sf_algebra.proofs.Basics.Lists.{AllByRecursion-weaken}
use Rattle.sf_algebra.proofs.GradedMatrices.Columns.{AllByRecursion-always}
use Rattle.sf_algebra.proofs.GradedMatrices.MatrixRows.{with_terms}
use Rattle.sf_algebra.proofs.GradedMatrices.Stacks.{with_terms-same}
use Rattle.sf_algebra.proofs.Multiplying.Associativity.{combination-negative, combination-negative_rows}
use Rattle.sf_algebra.proofs.Multiplying.Keys.{place_keys}
use Rattle.sf_algebra.proofs.Tensors.Kronecker.{kronecker_row}
use Rattle.sf_algebra.proofs.Tensors.KroneckerFactors.{moved_rows, rows-kronecker_identity_first}
use Rattle.sf_algebra.proofs.Tensors.KroneckerProducts.{kronecker_rows, kronecker_rows-with_terms}
use Rattle.sf_algebra.proofs.Tensors.KroneckerTerms.{moved_term}
use Rattle.sf_algebra.proofs.Tensors.KroneckerUnits.{IsCanonical-moved}
use Rattle.sf_algebra.proofs.Vectors.Rows.{position_rows}

-- the first matrix a stack
pub kronecker-stacked : (a b c : Matrix) → a.ring ≡ b.ring
    → kronecker (stacked a b) c ≡ stacked (kronecker a c) (kronecker b c)
kronecker-stacked a b c rings =
    let n = length c.target in
    let rows = flat_map-append (λ (v : Vector). kronecker_row a.ring n v c.rows) a.rows b.rows
    ∙ ap (λ ring. kronecker_rows a.ring n a.rows c.rows ++ kronecker_rows ring n b.rows c.rows) rings in
    λ i. record { ring = a.ring; target = degree_sums a.target c.target; rows = rows i }

moved-negative : (p by : ℕ) (ts : List (Term Place)) → moved by (negative p ts) ≡ negative p (moved by ts)
moved-negative p by [] = refl
moved-negative p by (t ∷ ts) = ap (λ us. negative_term p (moved_term by t) ∷ us) (moved-negative p by ts)

module _ (ring : Ring) (n : ℕ) (positive : 0 < ring.modulus) where
  pub kronecker_terms-negative_first : (v w : List (Term Place)) → IsCanonicalRow ring v
      → kronecker_terms ring n (negative ring.modulus v) w ≡ negative ring.modulus (kronecker_terms ring n v w)
  kronecker_terms-negative_first v w h =
      combination-negative (place_keys ring.weights) (place_keys ring.weights) ring.modulus positive (λ k. k.monomial)
      (λ k. moved (k.position * n) w) (position_rows ring.weights (λ i. moved (i * n) w)) v h

  pub kronecker_terms-negative : (v w : List (Term Place)) → IsCanonicalRow ring w
      → kronecker_terms ring n v (negative ring.modulus w) ≡ negative ring.modulus (kronecker_terms ring n v w)
  kronecker_terms-negative v w h =
      (λ i. combination (place_cmp ring.weights) place_product ring.modulus (λ (k : Place). k.monomial) (λ (k : Place). moved-negative ring.modulus (k.position * n) w i) v)
      ∙ combination-negative_rows (place_keys ring.weights) ring.modulus positive (λ k. k.monomial)
      (λ k. moved (k.position * n) w) v (λ k. IsCanonical-moved ring (k.position * n) w h)

kept : (vs : List Vector) → with_terms (λ ts. ts) vs ≡ vs
kept vs = with_terms-same (λ ts. ts) vs (AllByRecursion-always _ (λ v. refl) vs)

-- the negative of the first matrix
pub kronecker-negated_first : (a b : Matrix) → 0 < a.ring.modulus → IsMatrix a
    → kronecker (negated a) b ≡ negated (kronecker a b)
kronecker-negated_first a b positive h =
    let ring = a.ring in
    let n = length b.target in
    let rows = ap (kronecker_rows ring n (with_terms (negative ring.modulus) a.rows)) (sym (kept b.rows))
    ∙ kronecker_rows-with_terms ring n n (negative ring.modulus) (λ ts. ts) (negative ring.modulus) a.rows b.rows
    (AllByRecursion-weaken _ _ (λ u k. AllByRecursion-always _ (λ v. kronecker_terms-negative_first ring n positive u.terms v.terms k.canonical) b.rows) a.rows h) in
    λ i. record { ring = ring; target = degree_sums a.target b.target; rows = rows i }

-- and of the second
pub kronecker-negated : (a b : Matrix) → 0 < a.ring.modulus → a.ring ≡ b.ring → IsMatrix b
    → kronecker a (negated b) ≡ negated (kronecker a b)
kronecker-negated a b positive rings h =
    let ring = a.ring in
    let n = length b.target in
    let rows = ap (λ vs. kronecker_rows ring n vs (with_terms (negative b.ring.modulus) b.rows)) (sym (kept a.rows))
    ∙ ap (λ q. kronecker_rows ring n (with_terms (λ ts. ts) a.rows) (with_terms (negative q.modulus) b.rows))
    (sym rings)
    ∙ kronecker_rows-with_terms ring n n (λ ts. ts) (negative ring.modulus) (negative ring.modulus) a.rows b.rows
    (AllByRecursion-always _ (λ u. AllByRecursion-weaken _ _ (λ v k. kronecker_terms-negative ring n positive u.terms v.terms (subst (λ q. IsCanonicalRow q v.terms) (sym rings) k.canonical)) b.rows h) a.rows) in
    λ i. record { ring = ring; target = degree_sums a.target b.target; rows = rows i }

zero-plus : (d : ℤ) → pos 0 +ℤ d ≡ d
zero-plus d = omega (arith, ints)

moved-none : (by : ℕ) → by ≡ 0 → (ts : List (Term Place)) → moved by ts ≡ ts
moved-none by none [] = refl
moved-none by none (t ∷ ts) = let place : by + t.at.position ≡ t.at.position = omega arith in λ i. record { at = record { position = place i; monomial = t.at.monomial }; coefficient = t.coefficient } ∷ moved-none by none ts i

moved_rows-none : (by : ℕ) → by ≡ 0 → (vs : List Vector) → moved_rows (pos 0) by vs ≡ vs
moved_rows-none by none [] = refl
moved_rows-none by none (v ∷ vs) = λ i. record { degree = zero-plus v.degree i; terms = moved-none by none v.terms i } ∷ moved_rows-none by none vs i

plus-none : (es : List ℤ) → map (λ e. pos 0 +ℤ e) es ≡ es
plus-none [] = refl
plus-none (e ∷ es) = λ i. zero-plus e i ∷ plus-none es i

-- with the identity of the ring, the free module with one generator of degree 0
pub kronecker-one : (b : Matrix) → 0 < b.ring.modulus → IsMatrix b → kronecker (identity b.ring (pos 0 ∷ [])) b ≡ b
kronecker-one b positive h =
    let rows = rows-kronecker_identity_first (pos 0 ∷ []) b positive h ∙ append-nil (moved_rows (pos 0) (0 * length b.target) b.rows) ∙ moved_rows-none (0 * length b.target) (zero-mul (length b.target)) b.rows in
    λ i. record {
      ring =
          b.ring;
      target = (append-nil (map (λ e. pos 0 +ℤ e) b.target) ∙ plus-none b.target) i;
      rows = rows i;
    }
