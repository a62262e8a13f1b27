-- Kronecker products of sums, of zeros and of matrices side by side, row by row.
use Rattle.std.proofs.Common.{◌≡◌, refl, ℕ, zero, suc, ◌*◌, ◌<◌, List, [], ◌∷◌, ◌++◌, length, ℤ, ap, sym, ◌∙◌, subst, map, ◌+ℤ◌}
use Rattle.std.specs.List.{AllByRecursion}
use Rattle.std.proofs.lemmas.Grind.{flat_map-append}
use Rattle.sf_algebra.specs.Matrices.{Matrix, row_degrees, IsMatrix}
use Rattle.sf_algebra.specs.MatrixOperations.{row_at, moved, kronecker, kronecker_terms, degree_sums}
use Rattle.sf_algebra.specs.Rings.{Ring}
use Rattle.sf_algebra.specs.VectorOperations.{row_sum}
use Rattle.sf_algebra.specs.Vectors.{Vector, IsVector}
use Rattle.sf_algebra.proofs.Basics.Lists.{AllByRecursion-weaken}
use Rattle.sf_algebra.proofs.GradedMatrices.Columns.{AllByRecursion-always}
use Rattle.sf_algebra.proofs.GradedMatrices.MatrixRows.{StandsWithin}
use Rattle.sf_algebra.proofs.GradedMatrices.Stacks.{AllByRecursion-map}
use Rattle.sf_algebra.proofs.Tensors.Kronecker.{kronecker_row, row_degrees-kronecker, AllByRecursion-flat_map}
use Rattle.sf_algebra.proofs.Tensors.KroneckerProducts.{kronecker_rows}
use Rattle.sf_algebra.proofs.Tensors.KroneckerTerms.{kronecker_terms-nil, kronecker_terms-nil_first}
use Rattle.sf_algebra.proofs.Tensors.KroneckerVectors.{length-degree_sums, IsVector-kronecker_terms}
use Rattle.sf_blocks.specs.MatrixSums.{row_by_row, AreParallel, matrix_sum, zero_matrix}
use Rattle.sf_blocks.specs.SideBySide.{AreBeside, beside}
use Rattle.sf_blocks.proofs.Kroneckers.PairedFactors.{kronecker_rows-pairs, kronecker_rows-pairs_second, kronecker_terms-sum_first, kronecker_terms-sum_second, kronecker_terms-pair}
use Rattle.sf_blocks.proofs.MatrixSums.SumGroups.{row_degrees-zero_matrix, same_zero}

pub kronecker-sum_first : (a b c : Matrix) → 0 < a.ring.modulus → AreParallel a b
    → kronecker (matrix_sum a b) c ≡ matrix_sum (kronecker a c) (kronecker b c)
kronecker-sum_first a b c positive h =
    let ring = a.ring in
    let n = length c.target in
    let rows = kronecker_rows-pairs ring n (row_sum ring) (row_sum ring) (λ _. Unit {0}) (λ _. Unit {0})
    (λ u v w _ _. kronecker_terms-sum_first ring positive n u.terms v.terms w.terms) a.rows b.rows c.rows h.degrees
    (AllByRecursion-always _ (λ _. tt) a.rows) (AllByRecursion-always _ (λ _. tt) c.rows)
    ∙ ap (λ q. row_by_row (row_sum ring) (kronecker_rows ring n a.rows c.rows) (kronecker_rows q n b.rows c.rows))
    h.rings in
    λ i. record { ring = ring; target = degree_sums a.target c.target; rows = rows i }

pub kronecker-sum_second : (a b c : Matrix) → 0 < a.ring.modulus → a.ring ≡ b.ring → AreParallel b c
    → kronecker a (matrix_sum b c) ≡ matrix_sum (kronecker a b) (kronecker a c)
kronecker-sum_second a b c positive rings h =
    let ring = a.ring in
    let n = length b.target in
    let size : length b.target ≡ length c.target = ap length h.targets in
    let rows = ap (λ q. kronecker_rows ring n a.rows (row_by_row (row_sum q) b.rows c.rows)) (sym rings)
    ∙ kronecker_rows-pairs_second ring n (row_sum ring) (row_sum ring) n
    (λ u v w. kronecker_terms-sum_second ring positive n w.terms u.terms v.terms) a.rows b.rows c.rows h.degrees
    ∙ ap (λ m. row_by_row (row_sum ring) (kronecker_rows ring n a.rows b.rows) (kronecker_rows ring m a.rows c.rows))
    size in
    λ i. record { ring = ring; target = degree_sums a.target b.target; rows = rows i }

-- rows without terms
row_at-empty : (vs : List Vector) → AllByRecursion (λ v. v.terms ≡ []) vs → (i : ℕ) → row_at vs i ≡ []
row_at-empty [] h i = refl
row_at-empty (v ∷ vs) h zero = h.0
row_at-empty (v ∷ vs) h (suc i) = row_at-empty vs h.1 i

zero_rows-empty : (ds : List ℤ)
    → AllByRecursion (λ (v : Vector). v.terms ≡ []) (map (λ (d : ℤ). record { degree = d; terms = [] }) ds)
zero_rows-empty [] = tt
zero_rows-empty (d ∷ ds) = (refl, zero_rows-empty ds)

kronecker_rows-empty : (ring : Ring) (n : ℕ) (us vs : List Vector)
    → AllByRecursion (λ u. AllByRecursion (λ v. kronecker_terms ring n u.terms v.terms ≡ []) vs) us → (i : ℕ)
    → row_at (kronecker_rows ring n us vs) i ≡ []
kronecker_rows-empty ring n us vs h =
    row_at-empty (kronecker_rows ring n us vs)
    (AllByRecursion-flat_map _ (λ (u : Vector). kronecker_row ring n u vs) us
    (AllByRecursion-weaken _ _
    (λ u k. AllByRecursion-map _ (λ (v : Vector). record
    { degree = u.degree +ℤ v.degree; terms = kronecker_terms ring n u.terms v.terms }) vs k)
    us h))

pub kronecker-zero_first : (ring : Ring) (source target : List ℤ) (b : Matrix) → 0 < ring.modulus
    → kronecker (zero_matrix ring source target) b
    ≡ zero_matrix ring (degree_sums source (row_degrees b)) (degree_sums target b.target)
kronecker-zero_first ring source target b positive =
    let z = zero_matrix ring source target in
    let n = length b.target in
    same_zero (kronecker z b)
    (kronecker_rows-empty ring n z.rows b.rows
    (AllByRecursion-weaken _ _ (λ u e. AllByRecursion-always _
    (λ v. ap (λ ts. kronecker_terms ring n ts v.terms) e ∙ kronecker_terms-nil_first ring n positive v.terms) b.rows)
    z.rows (zero_rows-empty source)))
    ∙ ap (λ ds. zero_matrix ring ds (degree_sums target b.target))
    (row_degrees-kronecker z b
    ∙ ap (λ ds. degree_sums ds (row_degrees b)) (row_degrees-zero_matrix ring source target))

pub kronecker-zero_second : (ring : Ring) (source target : List ℤ) (a : Matrix) → 0 < a.ring.modulus
    → kronecker a (zero_matrix ring source target)
    ≡ zero_matrix a.ring (degree_sums (row_degrees a) source) (degree_sums a.target target)
kronecker-zero_second ring source target a positive =
    let z = zero_matrix ring source target in
    let n = length target in
    same_zero (kronecker a z)
    (kronecker_rows-empty a.ring n a.rows z.rows
    (AllByRecursion-always _ (λ u. AllByRecursion-weaken _ _
    (λ v e. ap (kronecker_terms a.ring n u.terms) e ∙ kronecker_terms-nil a.ring n positive u.terms) z.rows
    (zero_rows-empty source)) a.rows))
    ∙ ap (λ ds. zero_matrix a.ring ds (degree_sums a.target target))
    (row_degrees-kronecker a z ∙ ap (degree_sums (row_degrees a)) (row_degrees-zero_matrix ring source target))

degree_sums-append : (ds es fs : List ℤ) → degree_sums (ds ++ es) fs ≡ degree_sums ds fs ++ degree_sums es fs
degree_sums-append ds es fs = flat_map-append (λ d. map (λ e. d +ℤ e) fs) ds es

pub kronecker-beside : (a b c : Matrix) → 0 < a.ring.modulus → AreBeside a b → a.ring ≡ c.ring → IsMatrix a → IsMatrix c
    → kronecker (beside a b) c ≡ beside (kronecker a c) (kronecker b c)
kronecker-beside a b c positive h rings k l =
    let ring = a.ring in
    let n = length c.target in
    let m = length a.target in
    let block : length (degree_sums a.target c.target) ≡ m * n = length-degree_sums a.target c.target in
    let rows_c : AllByRecursion (IsVector ring c.target) c.rows =
    subst (λ q. AllByRecursion (IsVector q c.target) c.rows) (sym rings) l in
    let rows = kronecker_rows-pairs ring n (λ us vs. us ++ moved m vs) (λ us vs. us ++ moved (m * n) vs)
    (IsVector ring a.target) (IsVector ring c.target)
    (λ u v w p q. kronecker_terms-pair ring positive n m u.terms v.terms w.terms
    (subst (λ size. StandsWithin size (kronecker_terms ring n u.terms w.terms)) block
    (AllByRecursion-weaken _ _ (λ t e. e.0) (kronecker_terms ring n u.terms w.terms)
    (IsVector-kronecker_terms ring positive a.target c.target u w p q).homogeneous)))
    a.rows b.rows c.rows h.degrees k rows_c
    ∙ ap (λ size. row_by_row (λ us vs. us ++ moved size vs) (kronecker_rows ring n a.rows c.rows)
    (kronecker_rows ring n b.rows c.rows)) (sym block)
    ∙ ap (λ q. row_by_row (λ us vs. us ++ moved (length (degree_sums a.target c.target)) vs)
    (kronecker_rows ring n a.rows c.rows) (kronecker_rows q n b.rows c.rows)) h.rings in
    λ i. record { ring = ring; target = degree_sums-append a.target b.target c.target i; rows = rows i }
