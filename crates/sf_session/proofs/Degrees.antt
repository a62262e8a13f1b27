-- Degrees that generators may be given, and those of written vectors over them: all have room.
use Rattle.std.proofs.Common.{refl, ◌≡◌, ℕ, zero, suc, ◌≤◌, true, List, [], ◌∷◌, arith, ℤ, pos, neg_ℤ, ◌+ℤ◌, ◌≤ℤ◌, int_le}
use Rattle.std.proofs.lemmas.Bool.{and_from, and_parts}
use Rattle.std.proofs.lemmas.Int.{ints}
use Rattle.std.specs.List.{AllByRecursion, list_all}
use Rattle.sf_algebra.specs.Monomials.{Monomial, exponent_sum, monomial_degree}
use Rattle.sf_algebra.specs.Rings.{ones}
use Rattle.sf_algebra.specs.Terms.{Term}
use Rattle.sf_algebra.specs.Vectors.{Place, generator_degree, row_degree}
use Rattle.sf_text.specs.Placed.{GREATEST_WRITTEN_SUM, IsWrittenTerm, is_written_degree}
use Rattle.sf_script.specs.Refusals.{is_degree}
use Rattle.sf_session.specs.Sound.{IsGeneratorDegree}

-- a degree that may be given, by its bounds
degree_bounds : (d : ℤ) → is_degree d ≡ true → (neg_ℤ (pos 2000) ≤ℤ d) × (d ≤ℤ pos 2000)
degree_bounds d e =
    let both = and_parts (int_le (neg_ℤ (pos 2000)) d) (int_le d (pos 2000)) e in
    let low = both.0 in
    let high = both.1 in
    (grind (arith, ints), grind (arith, ints))

-- degrees that may be given are degrees of generators
pub are_generator_degrees : (degrees : List ℤ) → list_all is_degree degrees ≡ true → AllByRecursion IsGeneratorDegree degrees
are_generator_degrees [] e = tt
are_generator_degrees (d ∷ ds) e =
    let both = and_parts (is_degree d) (list_all is_degree ds) e in
    let bounds = degree_bounds d both.0 in
    let low = bounds.0 in
    let high = bounds.1 in
    ((omega (arith, ints, low), omega (arith, ints, high)), are_generator_degrees ds both.1)

-- which have at most six digits
pub generators_written : (degrees : List ℤ) → AllByRecursion IsGeneratorDegree degrees → list_all is_written_degree degrees ≡ true
generators_written [] h = refl
generators_written (d ∷ ds) h =
    let low = h.0.0 in
    let high = h.0.1 in
    and_from (is_written_degree d) (list_all is_written_degree ds)
    (and_from (int_le (neg_ℤ (pos 999999)) d) (int_le d (pos 999999)) (grind (arith, ints)) (grind (arith, ints)))
    (generators_written ds h.1)

generator_degree-high : (degrees : List ℤ) (i : ℕ) → AllByRecursion IsGeneratorDegree degrees
    → generator_degree degrees i ≤ℤ pos 8060
generator_degree-high [] i h = omega (arith, ints)
generator_degree-high (d ∷ ds) zero h = h.0.1
generator_degree-high (d ∷ ds) (suc i) h = generator_degree-high ds i h.1

-- a row of written terms has no greater degree than that
pub row_degree-high : (degrees : List ℤ) (ts : List (Term Place)) → AllByRecursion IsGeneratorDegree degrees
    → AllByRecursion IsWrittenTerm ts → row_degree ones degrees ts ≤ℤ pos 44024
row_degree-high degrees [] e h = omega (arith, ints)
row_degree-high degrees (t ∷ ts) e h =
    high (generator_degree degrees t.at.position) (monomial_degree ones t.at.monomial)
    (generator_degree-high degrees t.at.position e) (sum_of t.at.monomial h.0)
  where
    sum_of : (a : Monomial) → exponent_sum a ≤ GREATEST_WRITTEN_SUM → monomial_degree ones a ≤ GREATEST_WRITTEN_SUM
    sum_of a le = omega (arith, le)

    high : (g : ℤ) (n : ℕ) → g ≤ℤ pos 8060 → n ≤ GREATEST_WRITTEN_SUM → (g +ℤ pos n) ≤ℤ pos 44024
    high g n hg hn = omega (arith, ints)
