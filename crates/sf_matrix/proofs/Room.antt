-- Products of terms of homogeneous vectors have room where degrees are within bounds.
use Rattle.std.proofs.Common.{◌≡◌, ℕ, ◌+◌, ◌≤◌, List, map, ℤ, pos, ◌+ℤ◌, ◌≤ℤ◌, arith, subst, sym}
use Rattle.std.proofs.lemmas.Int.{ints}
use Rattle.std.specs.List.{AllByRecursion}
use Rattle.std.proofs.lemmas.Option.{slice_get-get_or}
use Rattle.sf_algebra.specs.Bounds.{GREATEST_SUM}
use Rattle.sf_algebra.specs.Matrices.{Matrix, IsMatrix, row_degrees}
use Rattle.sf_algebra.specs.MatrixOperations.{row_at}
use Rattle.sf_algebra.specs.Monomials.{Monomial, exponent_sum, monomial_degree}
use Rattle.sf_algebra.specs.Rings.{Ring, Weights, IsPositive}
use Rattle.sf_algebra.specs.Terms.{IsNonzeroResidue}
use Rattle.sf_algebra.specs.Vectors.{Vector, IsVector, generator_degree}
use Rattle.sf_algebra.proofs.Basics.Lists.{AllByRecursion-get, AllByRecursion-weaken}
use Rattle.sf_algebra.proofs.Monomials.Weights.{exponent_sum-at_most}
use Rattle.sf_algebra.proofs.Vectors.Degrees.{IsHomogeneous-row_at}
use Rattle.sf_matrix.specs.Bounds.{CombinationFits, DegreeFits}

sums_fit : (weights : Weights) → IsPositive weights → (d c e : ℤ) (a b : Monomial)
    → d ≡ c +ℤ pos (monomial_degree weights a) → c ≡ e +ℤ pos (monomial_degree weights b) → d ≤ℤ (e +ℤ pos GREATEST_SUM)
    → exponent_sum a + exponent_sum b ≤ GREATEST_SUM
sums_fit weights positive d c e a b first second bound =
    let left = exponent_sum-at_most weights positive a in
    let right = exponent_sum-at_most weights positive b in
    omega (arith, ints, first, second, bound)

-- a combination of homogeneous rows with homogeneous coefficients, by its degree
pub CombinationFits-homogeneous : (ring : Ring) → IsPositive ring.weights
    → (degrees : List ℤ) (rows : List Vector) (v : Vector) → AllByRecursion (IsVector ring degrees) rows
    → IsVector ring (map (λ (w : Vector). w.degree) rows) v
    → DegreeFits degrees v.degree → CombinationFits (row_at rows) v.terms
CombinationFits-homogeneous ring positive degrees rows v h k bound =
    AllByRecursion-weaken _ _
    (λ t e. AllByRecursion-weaken _ _
    (λ u f. sums_fit ring.weights positive v.degree _ (generator_degree degrees u.at.position) t.at.monomial u.at.monomial e.1 f.1 (AllByRecursion-get _ degrees u.at.position _ bound (slice_get-get_or degrees u.at.position (pos 0) f.0)))
    (row_at rows t.at.position)
    (IsHomogeneous-row_at ring.weights degrees rows (AllByRecursion-weaken _ _ (λ w f. f.homogeneous) rows h) t.at.position))
    v.terms k.homogeneous

-- a row of a matrix times a matrix that goes on from its target
pub CombinationFits-matrices : (a b : Matrix) → IsPositive a.ring.weights → b.ring ≡ a.ring → row_degrees b ≡ a.target
    → IsMatrix b → (v : Vector) → IsVector a.ring a.target v → DegreeFits b.target v.degree
    → CombinationFits (row_at b.rows) v.terms
CombinationFits-matrices a b positive rings meet h v k bound =
    CombinationFits-homogeneous a.ring positive b.target b.rows v
    (subst (λ q. AllByRecursion (IsVector q b.target) b.rows) rings h)
    (subst (λ ds. IsVector a.ring ds v) (sym meet) k) bound

-- the coefficients of the rows of a matrix
pub residues-rows : (p : ℕ) (m : Matrix) → IsMatrix m → m.ring.modulus ≡ p
    → AllByRecursion (λ (v : Vector). AllByRecursion (IsNonzeroResidue p) v.terms) m.rows
residues-rows p m h same =
    subst (λ q. AllByRecursion (λ (v : Vector). AllByRecursion (IsNonzeroResidue q) v.terms) m.rows) same
    (AllByRecursion-weaken _ _ (λ v k. k.canonical.residues) m.rows h)
