-- Where Buchberger's algorithm meets a lead above the limit, or one lead more than a small basis has, the matrix is large.
use Rattle.std.proofs.Common.{◌≡◌, false, ℕ, ◌+◌, ◌<◌, ◌≤◌, List, [], ◌∷◌, ◌++◌, length, arith, ℤ}
use Rattle.std.proofs.lemmas.List.{length-append, length-map}
use Rattle.sf_algebra.specs.Bounds.{GREATEST_SIZE}
use Rattle.sf_algebra.specs.Matrices.{Matrix}
use Rattle.sf_algebra.specs.Monomials.{monomial_degree}
use Rattle.sf_algebra.specs.Rings.{IsRing}
use Rattle.sf_algebra.specs.Terms.{Term}
use Rattle.sf_algebra.specs.Vectors.{Place, Vector}
use Rattle.sf_algebra.proofs.Basics.Lists.{AllByRecursion-append}
use Rattle.sf_groebner.specs.Criterion.{lead_place}
use Rattle.sf_groebner.specs.NeededLeads.{IsNeededForGraph}
use Rattle.sf_groebner.specs.ReducedBases.{is_divided}
use Rattle.sf_groebner.specs.Small.{IsLarge}
use Rattle.sf_groebner.specs.Spans.{IsGraphVector, graph_degrees}
use Rattle.sf_groebner.proofs.Constructions.LargeMatrices.{large_above, large_beyond}
use Rattle.sf_groebner.proofs.Constructions.LeadDivisors.{lead_places}
use Rattle.sf_groebner.proofs.PairLoops.GrowingBases.{AreDistinct-append, IsGrowing, IsLowest, complete_below, distinct_from}
use Rattle.sf_groebner.proofs.PairLoops.NeededLeads.{lead_needed}
use Rattle.sf_groebner.proofs.Spanning.Generators.{AreGenerators}
use Rattle.sf_groebner.proofs.Spanning.Submodules.{IsSubmodule}

module _ (limit : ℕ) (m : Matrix) (positive : IsRing m.ring)
    (submodule : IsSubmodule m.ring (graph_degrees m) (IsGraphVector m))
    (generators : List Vector) (generate : AreGenerators m.ring (IsGraphVector m) generators)
    (rows : List Vector) (pending : List (ℕ × ℕ)) (waiting : List ℕ)
    (g : IsGrowing m.ring (IsGraphVector m) generators rows pending waiting) (d : ℤ)
    (low : IsLowest m.ring.weights (graph_degrees m) generators rows pending waiting d)
    (t : Term Place) (ts : List (Term Place)) (inside : IsGraphVector m (record { degree = d; terms = t ∷ ts }))
    (free : is_divided rows t.at ≡ false) where
  next_needed : IsNeededForGraph m t.at
  next_needed =
      lead_needed m.ring positive (graph_degrees m) (IsGraphVector m) submodule.module_like rows d
      (complete_below m.ring positive (graph_degrees m) (IsGraphVector m) submodule generators generate rows pending waiting g d low)
      t ts inside free

  pub grown_above : limit < monomial_degree m.ring.weights t.at.monomial → IsLarge limit m
  grown_above above = large_above limit m t.at next_needed above

  pub grown_beyond : GREATEST_SIZE ≤ length rows → IsLarge limit m
  grown_beyond many =
      let size : length (lead_places rows ++ t.at ∷ []) ≡ length (lead_places rows) + 1 = length-append (lead_places rows) (t.at ∷ []) in
      let same : length (lead_places rows) ≡ length rows = length-map rows (λ (v : Vector). lead_place v.terms) in
      large_beyond limit m (lead_places rows ++ t.at ∷ [])
      (AreDistinct-append (lead_places rows) t.at g.distinct (distinct_from (IsGraphVector m) rows g.monic t.at free))
      (AllByRecursion-append (IsNeededForGraph m) (lead_places rows) (t.at ∷ []) g.needed (next_needed, tt))
      (beyond (length rows) _ _ same size many)
    where
      beyond : (r l k : ℕ) → l ≡ r → k ≡ l + 1 → GREATEST_SIZE ≤ r → GREATEST_SIZE < k
      beyond r l k e f h = omega arith
