-- Divisions by a Gröbner basis leave no rest of a combination of its rows, since the rest is one too.
use Rattle.std.proofs.Common.{◌≡◌, ◌<◌, List, [], ◌++◌, length, sym, ◌∙◌, subst, ℤ}
use Rattle.std.proofs.lemmas.List.{length-map}
use Rattle.std.specs.List.{AllByRecursion}
use Rattle.sf_algebra.specs.Matrices.{Matrix, degrees_of}
use Rattle.sf_algebra.specs.MatrixOperations.{row_combination}
use Rattle.sf_algebra.specs.Multiples.{negative}
use Rattle.sf_algebra.specs.Rings.{Ring, IsRing}
use Rattle.sf_algebra.specs.Sums.{normal}
use Rattle.sf_algebra.specs.Terms.{Term}
use Rattle.sf_algebra.specs.VectorOperations.{row_sum}
use Rattle.sf_algebra.specs.Vectors.{Place, Vector, place_cmp, IsCanonicalRow}
use Rattle.sf_algebra.proofs.Basics.Lists.{AllByRecursion-append, AllByRecursion-weaken}
use Rattle.sf_algebra.proofs.Monomials.Orders.{place_cmp_linear}
use Rattle.sf_algebra.proofs.Multiplying.Keys.{place_keys}
use Rattle.sf_algebra.proofs.Terms.Negatives.{EachPlace-negative}
use Rattle.sf_algebra.proofs.Terms.Normal.{IsCanonical-normal}
use Rattle.sf_algebra.proofs.Vectors.Rows.{IsCanonical-row_combination, row_combination-append, row_combination-negative}
use Rattle.sf_groebner.specs.Criterion.{IsForRows, IsGroebnerBasis}
use Rattle.sf_groebner.specs.Divisions.{IsDivided}
use Rattle.sf_groebner.specs.ReducedBases.{HasDividedLead}
use Rattle.sf_groebner.proofs.Constructions.Rests.{IsDivided-normal}
use Rattle.sf_groebner.proofs.Uniqueness.Remainders.{IsReducedBy-none}
use Rattle.sf_groebner.proofs.Uniqueness.Subtractions.{add-negative_front}

pub no_rest : (m : Matrix) → IsRing m.ring → IsGroebnerBasis m.ring m.rows → (c : List (Term Place))
    → AllByRecursion (IsForRows m.rows) c
    → (d : ℤ) (rest quotients : List (Term Place)) → IsDivided m.ring m.target m.rows d (row_combination m.ring m.rows c) rest quotients
    → rest ≡ []
no_rest m positive complete c within d rest quotients e =
    let ring : Ring = m.ring in
    let rows : List Vector = m.rows in
    let q : List (Term Place) = normal (place_cmp ring.weights) ring.modulus quotients in
    let canonical : IsCanonicalRow ring q =
    IsCanonical-normal (place_cmp ring.weights)
    (place_cmp_linear ring.weights) ring.modulus positive.modulus quotients in
    let f = IsDivided-normal ring positive m.target rows d (row_combination ring rows c) rest quotients e in
    let opposite : List (Term Place) = negative ring.modulus q in
    let back : row_combination ring rows (c ++ opposite) ≡ rest =
    row_combination-append ring positive.modulus rows c opposite
    ∙ (λ i. row_sum ring (sym f.sum i) (row_combination-negative ring positive.modulus rows q canonical i))
    ∙ add-negative_front (place_keys ring.weights) ring.modulus positive.modulus rest
    (row_combination ring rows q) f.vector.canonical (IsCanonical-row_combination ring positive.modulus rows q) in
    let all : AllByRecursion (IsForRows rows) (c ++ opposite) =
    AllByRecursion-append (IsForRows rows) c opposite within
    (EachPlace-negative (λ k. k.position < length rows) ring.modulus q (AllByRecursion-weaken _ _ (λ t h. inside t h.0) q f.homogeneous)) in
    IsReducedBy-none rows rest f.reduced (subst (HasDividedLead rows) back (complete (c ++ opposite) all))
  where
    inside : (t : Term Place) → t.at.position < length (degrees_of m.rows) → t.at.position < length m.rows
    inside t h = simp length-map at h
