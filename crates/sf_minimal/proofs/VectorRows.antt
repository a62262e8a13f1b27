-- Rows of a matrix by their numbers, as vectors with their degrees.
use Rattle.std.proofs.Common.{◌≡◌, Some, slice_get, ℕ, zero, suc, ◌<◌, ◌≤◌, List, [], ◌∷◌, ◌++◌, length, take, refl, sym, ap, subst, arith, ◌≤ℤ◌, ◌<ℤ◌}
use Rattle.std.proofs.lemmas.Int.{ints}
use Rattle.std.specs.declared.cmp.Ordering.{Ordering}
use Rattle.std.specs.declared.cmp.Ordering.TheVariants.{Equal, Greater, Less}
use Rattle.std.specs.Cmp.{int_ranks}
use Rattle.std.specs.Ordering.{MatchOrdering, int_cmp, ordering_then}
use Rattle.std.specs.List.{AllByRecursion}
use Rattle.sf_algebra.specs.Matrices.{degrees_of}
use Rattle.sf_algebra.specs.MatrixOperations.{row_at, row_combination}
use Rattle.sf_algebra.specs.Rings.{Ring, IsRing, Weights}
use Rattle.sf_algebra.specs.Terms.{Term}
use Rattle.sf_algebra.specs.Vectors.{Place, Vector, generator_degree}
use Rattle.sf_algebra.proofs.Basics.Lists.{AllByRecursion-weaken}
use Rattle.sf_algebra.proofs.GradedMatrices.MatrixRows.{row_at-take}
use Rattle.sf_algebra.proofs.Multiplying.CombinationLaws.{combination-rows}
use Rattle.sf_algebra.proofs.Multiplying.Keys.{place_keys}
use Rattle.sf_groebner.specs.ReducedBases.{IsSorted, lead_cmp, row_cmp}
use Rattle.sf_matrix.specs.KeptNumbers.{vector_at}

pub row_at-vector_at : (rows : List Vector) (i : ℕ) → row_at rows i ≡ (vector_at rows i).terms
row_at-vector_at [] i = refl
row_at-vector_at (v ∷ vs) zero = refl
row_at-vector_at (v ∷ vs) (suc i) = row_at-vector_at vs i

pub degree-vector_at : (rows : List Vector) (i : ℕ) → i < length rows
    → generator_degree (degrees_of rows) i ≡ (vector_at rows i).degree
degree-vector_at [] i h = absurd (omega arith)
degree-vector_at (v ∷ vs) zero h = refl
degree-vector_at (v ∷ vs) (suc i) h = degree-vector_at vs i (omega arith)

pub AllByRecursion-vector_at : (P : Vector → Type 0) (rows : List Vector) → AllByRecursion P rows → (i : ℕ)
    → i < length rows → P (vector_at rows i)
AllByRecursion-vector_at P [] h i within = absurd (omega arith)
AllByRecursion-vector_at P (v ∷ vs) h zero within = h.0
AllByRecursion-vector_at P (v ∷ vs) h (suc i) within = AllByRecursion-vector_at P vs h.1 i (omega arith)

pub generator_degree-append : (rows more : List Vector) (i : ℕ) → i < length rows
    → generator_degree (degrees_of (rows ++ more)) i ≡ generator_degree (degrees_of rows) i
generator_degree-append [] more i h = absurd (omega arith)
generator_degree-append (v ∷ vs) more zero h = refl
generator_degree-append (v ∷ vs) more (suc i) h = generator_degree-append vs more i (omega arith)

-- the first rows give what all do, where coefficients stand for these
pub row_combination-take : (ring : Ring) → IsRing ring → (i : ℕ) (rows : List Vector) (c : List (Term Place))
    → AllByRecursion (λ (t : Term Place). t.at.position < i) c
    → row_combination ring (take i rows) c ≡ row_combination ring rows c
row_combination-take ring positive i rows c h =
    combination-rows (place_keys ring.weights) ring.modulus positive.modulus (λ k. k.monomial)
    (λ k. row_at (take i rows) k.position) (λ k. row_at rows k.position) c
    (AllByRecursion-weaken _ _ (λ t within. row_at-take i rows t.at.position within) c h)

-- the degrees of sorted rows rise
degree-row_cmp : (weights : Weights) (v w : Vector) → row_cmp weights v w ≡ Less → v.degree ≤ℤ w.degree
degree-row_cmp weights v w less = by_order (int_cmp v.degree w.degree) (int_ranks v.degree w.degree) less
  where
    by_order : (o : Ordering) → MatchOrdering o (v.degree <ℤ w.degree) (v.degree ≡ w.degree) (w.degree <ℤ v.degree)
        → ordering_then o (lead_cmp weights w.terms v.terms) ≡ Less → v.degree ≤ℤ w.degree
    by_order Less rank e = omega (arith, ints, rank)
    by_order Equal rank e = omega (arith, ints, rank)
    by_order Greater rank e = cc

pub degrees-rise : (weights : Weights) (rows : List Vector) → IsSorted weights rows → (i j : ℕ) → i ≤ j
    → j < length rows → generator_degree (degrees_of rows) i ≤ℤ generator_degree (degrees_of rows) j
degrees-rise weights [] h i j below within = absurd (omega arith)
degrees-rise weights (v ∷ vs) h zero zero below within = omega (arith, ints)
degrees-rise weights (v ∷ vs) h zero (suc j) below within =
    let less = AllByRecursion-vector_at (λ w. row_cmp weights v w ≡ Less) vs h.0 j (omega arith) in
    subst (λ d. v.degree ≤ℤ d) (sym (degree-vector_at vs j (omega arith))) (degree-row_cmp weights v (vector_at vs j) less)
degrees-rise weights (v ∷ vs) h (suc i) zero below within = absurd (omega arith)
degrees-rise weights (v ∷ vs) h (suc i) (suc j) below within =
    degrees-rise weights vs h.1 i j (omega arith) (omega arith)

pub vector_at-slice_get : (rows : List Vector) (i : ℕ) (v : Vector) → slice_get rows i ≡ Some v → vector_at rows i ≡ v
vector_at-slice_get [] i v read = cc
vector_at-slice_get (w ∷ ws) zero v read = cc
vector_at-slice_get (w ∷ ws) (suc i) v read = vector_at-slice_get ws i v read

pub generator_degree-slice_get : (rows : List Vector) (i : ℕ) (v : Vector) → slice_get rows i ≡ Some v
    → generator_degree (degrees_of rows) i ≡ v.degree
generator_degree-slice_get [] i v read = cc
generator_degree-slice_get (w ∷ ws) zero v read = let same : w ≡ v = cc in ap (λ (u : Vector). u.degree) same
generator_degree-slice_get (w ∷ ws) (suc i) v read = generator_degree-slice_get ws i v read
