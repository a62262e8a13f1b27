-- Pivots are a Gröbner basis of what they span, since no two of their leads stand at one position.
use Rattle.std.proofs.Common.{List, subst}
use Rattle.std.specs.List.{AllByRecursion}
use Rattle.sf_algebra.specs.Matrices.{Matrix, IsMatrix}
use Rattle.sf_algebra.specs.Rings.{IsRing}
use Rattle.sf_algebra.specs.Sums.{normal}
use Rattle.sf_algebra.specs.Terms.{Term}
use Rattle.sf_algebra.specs.Vectors.{Place, Vector, IsVector, place_cmp}
use Rattle.sf_groebner.specs.Criterion.{IsGroebnerBasis, IsMonicRow}
use Rattle.sf_groebner.specs.ReducedBases.{HasDividedLead, IsMonic}
use Rattle.sf_groebner.proofs.Basics.Items.{AllByRecursion-both}
use Rattle.sf_groebner.proofs.PairTheorems.Buchberger.{buchberger}
use Rattle.sf_groebner.proofs.PairTheorems.Schreyer.{IsSpanned}
use Rattle.sf_minimal.specs.Pivots.{ArePivots}

module _ (m : Matrix) (positive : IsRing m.ring) (matrix : IsMatrix m) (h : ArePivots m) where
  pub pivots-monic : AllByRecursion (IsMonicRow m.ring) m.rows
  pivots-monic =
      AllByRecursion-both (IsVector m.ring m.target) (λ (v : Vector). IsMonic v.terms) (IsMonicRow m.ring)
      (λ v a b. record { canonical = a.canonical; monic = b }) m.rows matrix h.monic

  pub pivots-complete : IsGroebnerBasis m.ring m.rows
  pivots-complete =
      buchberger m.ring positive m.rows pivots-monic
      (λ i j earlier later positions. absurd (h.apart i j (record { earlier = earlier; later = later; positions = positions })))

  -- the lead of what they span is that of a pivot
  pub spanned-divided : (c : List (Term Place)) → IsSpanned m.ring m.rows c
      → HasDividedLead m.rows (normal (place_cmp m.ring.weights) m.ring.modulus c)
  spanned-divided c k = subst (HasDividedLead m.rows) k.value (pivots-complete k.coefficients k.for_rows)
