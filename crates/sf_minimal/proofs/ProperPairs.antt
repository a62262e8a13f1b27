-- No lead of a reduced basis divides another, so the coefficients of S-vectors aren't constant.
use Rattle.std.proofs.Common.{◌≡◌, true, false, ◌||◌, max, ℕ, zero, suc, ◌-◌, ◌<◌, ◌≤◌, List, [], ◌∷◌, length, refl, sym, ◌∙◌, ap, subst, arith}
use Rattle.std.specs.List.{AllByRecursion}
use Rattle.sf_algebra.specs.Divisibility.{Divides, lcm, quotient}
use Rattle.sf_algebra.specs.Monomials.{Monomial, exponent_sum}
use Rattle.sf_algebra.specs.Terms.{Term}
use Rattle.sf_algebra.specs.Vectors.{Place, Vector}
use Rattle.sf_groebner.specs.Criterion.{lead_at, lead_place}
use Rattle.sf_groebner.specs.Leads.{PlaceDivides, place_divides}
use Rattle.sf_groebner.specs.ReducedBases.{AreApart, IsApart, IsMonic, lead_divides}
use Rattle.sf_groebner.proofs.Basics.PlaceDivisors.{Decides-place_divides}
use Rattle.sf_matrix.specs.KeptNumbers.{vector_at}
use Rattle.sf_minimal.proofs.Complete.{HasProperPairs}
use Rattle.sf_minimal.proofs.VectorRows.{AllByRecursion-vector_at, row_at-vector_at}

-- where the quotient of a least common multiple is 1, the other monomial divides
quotient-lcm : (a b : Monomial) → exponent_sum (quotient (lcm a b) a) ≡ 0 → Divides b a
quotient-lcm a b e = (
  below a.e1 b.e1 (omega arith),
  below a.e2 b.e2 (omega arith),
  below a.e3 b.e3 (omega arith),
  below a.e4 b.e4 (omega arith),
  below a.e5 b.e5 (omega arith),
  below a.e6 b.e6 (omega arith),
)
  where
    below : (m n : ℕ) → max m n - m ≡ 0 → n ≤ m
    below m n h = omega arith

-- of two vectors that are apart, no lead divides the other
apart-leads : (us ts : List (Term Place)) → IsMonic us → IsMonic ts
    → AllByRecursion (λ (t : Term Place). (lead_divides us t.at || false) ≡ false) ts
    → PlaceDivides (lead_place us) (lead_place ts) → ⊥
apart-leads [] ts h k free divides = absurd h
apart-leads (u ∷ us) [] h k free divides = absurd k
apart-leads (u ∷ us) (t ∷ ts) h k free divides =
    let divided : place_divides u.at t.at ≡ true = (Decides-place_divides u.at t.at).1 divides in
    let clash : true ≡ false = sym (ap (λ b. b || false) divided) ∙ free.0 in
    cc

IsApart-at : (rows : List Vector) → IsApart rows → (i j : ℕ) → i < j → j < length rows
    → AreApart (vector_at rows i) (vector_at rows j)
IsApart-at [] h i j earlier later = absurd (omega arith)
IsApart-at (v ∷ vs) h i zero earlier later = absurd (omega arith)
IsApart-at (v ∷ vs) h zero (suc j) earlier later = AllByRecursion-vector_at (AreApart v) vs h.0 j (omega arith)
IsApart-at (v ∷ vs) h (suc i) (suc j) earlier later = IsApart-at vs h.1 i j (omega arith) (omega arith)

pub positive_number : (m : ℕ) → (m ≡ 0 → ⊥) → 0 < m
positive_number zero h = absurd (h refl)
positive_number (suc m) h = omega arith

pub proper_pairs : (rows : List Vector) → AllByRecursion (λ (v : Vector). IsMonic v.terms) rows → IsApart rows
    → HasProperPairs rows
proper_pairs rows monic apart i j pair =
    let first : i < length rows = omega (arith, pair.earlier, pair.later) in
    let v = AllByRecursion-vector_at (λ (x : Vector). IsMonic x.terms) rows monic i first in
    let w = AllByRecursion-vector_at (λ (x : Vector). IsMonic x.terms) rows monic j pair.later in
    let both = IsApart-at rows apart i j pair.earlier pair.later in (
      positive_number _ (λ e. apart-leads _ _ w v both.0
          (divide j i (sym pair.positions) (quotient-lcm (lead_at rows i).monomial (lead_at rows j).monomial e))),
      (
        positive_number _ (λ e. apart-leads _ _ v w both.1
            (divide i j pair.positions (quotient-lcm (lead_at rows j).monomial (lead_at rows i).monomial e))),
        tt,
      ),
    )
  where
    divide : (k l : ℕ) → (lead_at rows k).position ≡ (lead_at rows l).position
        → Divides (lead_at rows k).monomial (lead_at rows l).monomial
        → PlaceDivides (lead_place (vector_at rows k).terms) (lead_place (vector_at rows l).terms)
    divide k l positions divides =
        subst (λ ts. PlaceDivides (lead_place (vector_at rows k).terms) (lead_place ts)) (row_at-vector_at rows l)
        (subst (λ ts. PlaceDivides (lead_place ts) (lead_at rows l)) (row_at-vector_at rows k) (positions, divides))
