-- Rows with their tails divided, one after another.
use Rattle.std.proofs.Common.{◌≡◌, ℕ, suc, ◌-◌, ◌<◌, List, [], ◌∷◌, ◌++◌, length, refl, ◌∙◌, ap, subst, sym, arith, ℤ, slice_range}
use Rattle.std.proofs.lemmas.List.{take_all}
use Rattle.sf_algebra.specs.Matrices.{Matrix}
use Rattle.sf_algebra.specs.Rings.{Ring, plain}
use Rattle.sf_algebra.specs.Terms.{Term, IsDescending}
use Rattle.sf_algebra.specs.VectorOperations.{row_sum}
use Rattle.sf_algebra.specs.Vectors.{Place, Vector, IsVector, IsCanonicalRow, place_cmp}
use Rattle.sf_algebra.proofs.Vectors.RowSums.{row_sum-nil_first}
use Rattle.sf_groebner.specs.Criterion.{lead_place}
use Rattle.sf_groebner.specs.Divisions.{tail_of}
use Rattle.sf_groebner.specs.ReducedBases.{IsMonic}
use Rattle.sf_groebner.proofs.Constructions.Divisions.{IsVector-tail}
use Rattle.sf_groebner.proofs.Constructions.Tails.{HasReducedTail, HaveReducedTails}
use Rattle.sf_groebner.proofs.PairTheorems.MonicRows.{IsMonic-shape, tail_of-low}
use Rattle.sf_buchberger.specs.Tails.{IsRestOfTail}

-- one row more
pub HaveReducedTails-push : (ring : Ring) (target : List ℤ) (rows vs ws : List Vector) (v w : Vector)
    → HaveReducedTails ring target rows vs ws → HasReducedTail ring target rows v w
    → HaveReducedTails ring target rows (vs ++ v ∷ []) (ws ++ w ∷ [])
HaveReducedTails-push ring target rows [] [] v w h k = (k, tt)
HaveReducedTails-push ring target rows [] (y ∷ ys) v w h k = absurd h
HaveReducedTails-push ring target rows (x ∷ xs) [] v w h k = absurd h
HaveReducedTails-push ring target rows (x ∷ xs) (y ∷ ys) v w h k =
    (h.0, HaveReducedTails-push ring target rows xs ys v w h.1 k)

-- the terms behind the first
pub tail_of-slice_range : (ts : List (Term Place)) → slice_range ts 1 (length ts) ≡ tail_of ts
tail_of-slice_range [] = refl
tail_of-slice_range (t ∷ ts) = take_all (suc (length ts) - 1) ts (omega arith)

-- the tail of a vector is one
pub IsVector-tail_of : (ring : Ring) (target : List ℤ) (v : Vector) → IsVector ring target v → IsMonic v.terms
    → IsVector ring target (record { degree = v.degree; terms = tail_of v.terms })
IsVector-tail_of ring target v h monic =
    IsVector-tail ring target v.degree _ (tail_of v.terms)
    (subst (λ ts. IsVector ring target (record { degree = v.degree; terms = ts })) (IsMonic-shape v.terms monic) h)

-- and it is what it gives when it is added to 0
pub tail_added : (ring : Ring) (target : List ℤ) (v : Vector) (p : ℕ) → ring ≡ plain p → 0 < p → IsVector ring target v
    → IsMonic v.terms → (us : List (Term Place)) → us ≡ v.terms
    → row_sum (plain p) [] (slice_range us 1 (length us)) ≡ tail_of v.terms
tail_added ring target v p same positive vector monic us whole =
    ap (row_sum (plain p) []) (ap (λ ts. slice_range ts 1 (length ts)) whole ∙ tail_of-slice_range v.terms)
    ∙ row_sum-nil_first (plain p) positive (tail_of v.terms)
    (subst (λ r. IsCanonicalRow r (tail_of v.terms)) same (IsVector-tail_of ring target v vector monic).canonical)

module _ (m : Matrix) (v : Vector) (vector : IsVector m.ring m.target v) (monic : IsMonic v.terms)
    (rest : List (Term Place)) (h : IsRestOfTail m v rest) where
  -- the first term of a monic list
  pub lead_front : slice_range v.terms 0 1 ≡ record { at = lead_place v.terms; coefficient = 1 } ∷ []
  lead_front = ap (λ ts. slice_range ts 0 1) (IsMonic-shape v.terms monic)

  -- the rest is below the lead
  pub IsDescending-rest : IsDescending (place_cmp m.ring.weights) (slice_range v.terms 0 1 ++ rest)
  IsDescending-rest =
      subst (λ us. IsDescending (place_cmp m.ring.weights) (us ++ rest)) (sym lead_front) (
        (h.divided.below (lead_place v.terms) (tail_of-low m.ring v.terms vector.canonical)).0,
        h.divided.vector.canonical.descending,
      )

  pub HasReducedTail-rest : HasReducedTail m.ring m.target m.rows v
      (record { degree = v.degree; terms = slice_range v.terms 0 1 ++ rest })
  HasReducedTail-rest = record {
    rest = rest;
    quotients = h.quotients;
    divided = h.divided;
    row = λ i. record { degree = v.degree; terms = lead_front i ++ rest };
  }
