-- Kronecker products of small matrices have room.
use Rattle.std.proofs.Common.{◌≡◌, ℕ, zero, suc, ◌+◌, ◌<◌, ◌≤◌, List, [], ◌∷◌, length, map, ℤ, pos, ◌+ℤ◌, arith, sym, subst}
use Rattle.std.proofs.lemmas.Int.{ints}
use Rattle.std.specs.List.{AllByRecursion}
use Rattle.sf_algebra.specs.Bounds.{GREATEST_SUM}
use Rattle.sf_algebra.specs.Matrices.{Matrix, row_degrees}
use Rattle.sf_algebra.specs.MatrixOperations.{identity}
use Rattle.sf_algebra.specs.Monomials.{exponent_sum}
use Rattle.sf_algebra.specs.Rings.{Ring, Weights, IsPositive, plain, ones}
use Rattle.sf_algebra.specs.Sums.{normal}
use Rattle.sf_algebra.specs.Terms.{Term, IsCanonical}
use Rattle.sf_algebra.specs.Vectors.{Place, Vector, IsVector, place_cmp, generator_degree, IsTermOfDegree, IsHomogeneous}
use Rattle.sf_algebra.proofs.Basics.Lists.{AllByRecursion-weaken}
use Rattle.sf_algebra.proofs.GradedMatrices.Identities.{IsMatrix-identity, row_degrees-identity}
use Rattle.sf_algebra.proofs.Monomials.Weights.{exponent_sum-at_most, ones_positive}
use Rattle.sf_algebra.proofs.Vectors.Degrees.{IsHomogeneous-normal}
use Rattle.sf_matrix.specs.Bounds.{IsDegree, SumsFit, KroneckerFits}
use Rattle.algebra_bench.specs.Operands.{AreFlat, IsLow, IsOperand}

-- the degree of a generator that is there
generator_degree-flat : (ds : List ℤ) (i : ℕ) → AllByRecursion (λ (d : ℤ). d ≡ pos 0) ds → i < length ds
    → generator_degree ds i ≡ pos 0
generator_degree-flat [] i h below = absurd (omega arith)
generator_degree-flat (d ∷ ds) zero h below = h.0
generator_degree-flat (d ∷ ds) (suc i) h below = generator_degree-flat ds i h.1 (omega arith)

-- degree 0 is low
lows-flat : (ds : List ℤ) → AllByRecursion (λ (d : ℤ). d ≡ pos 0) ds → AllByRecursion IsLow ds
lows-flat ds h = AllByRecursion-weaken _ IsLow (λ d e. (omega (arith, ints, e), omega (arith, ints, e))) ds h

pub IsOperand-identity : (p : ℕ) (ds : List ℤ) → 1 < p → AreFlat ds → IsOperand (identity (plain p) ds)
IsOperand-identity p ds above h = record {
  weights = ones_positive;
  matrix = IsMatrix-identity (plain p) above ds;
  target = h;
  rows = subst (AllByRecursion IsLow) (sym (row_degrees-identity (plain p) ds)) (lows-flat ds h.flat);
}

-- sums of low degrees are degrees
low_fits : (d e : ℤ) → IsLow d → IsLow e → IsDegree (d +ℤ e)
low_fits d e h k = (omega (arith, ints, h.0, k.0), omega (arith, ints, h.1, k.1))

lows_fit : (ds es : List ℤ) → AllByRecursion IsLow ds → AllByRecursion IsLow es → SumsFit ds es
lows_fit ds es h k = AllByRecursion-weaken _ _ (λ d e. AllByRecursion-weaken _ _ (λ c f. low_fits d c e f) es k) ds h

pub degrees_fit : (a b : Matrix) → IsOperand a → IsOperand b → SumsFit (row_degrees a) (row_degrees b)
degrees_fit a b h k = lows_fit _ _ h.rows k.rows

-- a term of a row of low degree
low_sum : (weights : Weights) → IsPositive weights → (ds : List ℤ) (d : ℤ) (t : Term Place)
    → AllByRecursion (λ (e : ℤ). e ≡ pos 0) ds → IsLow d → IsTermOfDegree weights ds d t
    → exponent_sum t.at.monomial ≤ 1
low_sum weights positive ds d t flat low h =
    let bound = exponent_sum-at_most weights positive t.at.monomial in
    let degree = generator_degree-flat ds t.at.position flat h.0 in
    omega (arith, ints, degree, low.1, h.1)

-- the terms of the rows of a small matrix
low_sums : (ring : Ring) → IsPositive ring.weights → (ds : List ℤ) (vs : List Vector)
    → AllByRecursion (λ (e : ℤ). e ≡ pos 0) ds → AllByRecursion (IsVector ring ds) vs
    → AllByRecursion IsLow (map (λ (v : Vector). v.degree) vs)
    → AllByRecursion (λ (v : Vector). AllByRecursion (λ (t : Term Place). exponent_sum t.at.monomial ≤ 1) v.terms) vs
low_sums ring positive ds [] flat h k = tt
low_sums ring positive ds (v ∷ vs) flat h k =
    (AllByRecursion-weaken _ _ (λ t e. low_sum ring.weights positive ds v.degree t flat k.0 e) v.terms h.0.homogeneous, low_sums ring positive ds vs flat h.1 k.1)

fits : (t u : Term Place) → exponent_sum t.at.monomial ≤ 1 → exponent_sum u.at.monomial ≤ 1
    → exponent_sum t.at.monomial + exponent_sum u.at.monomial ≤ GREATEST_SUM
fits t u h k = omega arith

pub products_fit : (a b : Matrix) → IsOperand a → IsOperand b → KroneckerFits a.rows b.rows
products_fit a b h k =
    AllByRecursion-weaken _ _
    (λ v e. AllByRecursion-weaken _ _
    (λ w f. AllByRecursion-weaken _ _ (λ t low. AllByRecursion-weaken _ _ (λ u last. fits t u low last) w.terms f) v.terms e)
    b.rows (low_sums b.ring k.weights b.target b.rows k.target.flat k.matrix k.rows))
    a.rows (low_sums a.ring h.weights a.target a.rows h.target.flat h.matrix h.rows)

-- the vector of degree 1 that terms of degree 1 mean
pub IsVector-meant : (p : ℕ) (ds : List ℤ) (ts : List (Term Place)) (v : Vector)
    → AllByRecursion (IsTermOfDegree ones ds (pos 1)) ts
    → v ≡ record { degree = pos 1; terms = normal (place_cmp ones) p ts } → IsCanonical (place_cmp ones) p v.terms
    → IsVector (plain p) ds v
IsVector-meant p ds ts v h meant canonical = record {
  canonical = canonical;
  homogeneous =
      subst (λ (w : Vector). IsHomogeneous ones ds w.degree w.terms) (sym meant)
      (IsHomogeneous-normal ds (plain p) (pos 1) ts h);
}

-- the identity over the target of a small matrix
pub IsOperand-identity_over : (p : ℕ) (a b : Matrix) (ds : List ℤ) → 1 < p → IsOperand a → ds ≡ a.target
    → b ≡ identity (plain p) ds → IsOperand b
IsOperand-identity_over p a b ds above h same meant =
    subst IsOperand (sym meant) (IsOperand-identity p ds above (subst AreFlat (sym same) h.target))
