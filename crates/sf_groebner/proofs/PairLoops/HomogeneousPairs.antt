-- S-vectors of monic homogeneous rows are homogeneous; a division of one without a rest reduces the pair to zero.
use Rattle.std.proofs.Common.{◌≡◌, ℕ, ◌<◌, List, [], length, refl, sym, subst, ℤ}
use Rattle.std.specs.List.{AllByRecursion}
use Rattle.sf_algebra.specs.Matrices.{degrees_of}
use Rattle.sf_algebra.specs.Rings.{Ring, IsRing}
use Rattle.sf_algebra.specs.Terms.{Term}
use Rattle.sf_algebra.specs.Vectors.{Place, Vector, place_degree, IsTermOfDegree, IsHomogeneous}
use Rattle.sf_algebra.proofs.Basics.Lists.{AllByRecursion-weaken}
use Rattle.sf_algebra.proofs.Monomials.Divisors.{lcm-multiple}
use Rattle.sf_groebner.specs.Criterion.{IsMonicRow, HaveLeadsAtOnePosition, ReducesToZero, lcm_place, lead_at, s_coefficients, s_vector}
use Rattle.sf_groebner.specs.Divisions.{IsDivided}
use Rattle.sf_groebner.specs.Leads.{PlaceDivides}
use Rattle.sf_groebner.proofs.Constructions.MonicVectors.{IsMonicVector, IsTermOfDegree-step, monic_row}
use Rattle.sf_groebner.proofs.PairLoops.GrowingRows.{ReducesToZero-divided}
use Rattle.sf_groebner.proofs.PairTheorems.MonicRows.{IsMonic-shape}
use Rattle.sf_groebner.proofs.PairTheorems.Pairs.{lcm_place-comm}
use Rattle.sf_groebner.proofs.PairTheorems.SVectors.{s_vector-below}

module _ (ring : Ring) (positive : IsRing ring) (target : List ℤ) (rows : List Vector)
    (monic : AllByRecursion (IsMonicVector ring target) rows)
    (i j : ℕ) (i_in : i < length rows) (j_in : j < length rows) (positions : HaveLeadsAtOnePosition rows i j) where
  -- the least common multiple of the leads, with the coefficient 1
  abbrev pub pair_lcm : Term Place
  pair_lcm = record { at = lcm_place (lead_at rows) i j; coefficient = 1 }

  -- the degree of the S-vector
  abbrev pub pair_degree : ℤ
  pair_degree = place_degree ring.weights target pair_lcm.at

  divides_first : PlaceDivides (lead_at rows i) pair_lcm.at
  divides_first = (refl, (lcm-multiple (lead_at rows i).monomial (lead_at rows j).monomial).0)

  divides_second : PlaceDivides (lead_at rows j) (lcm_place (lead_at rows) j i)
  divides_second = (refl, (lcm-multiple (lead_at rows j).monomial (lead_at rows i).monomial).0)

  same_lcm : lcm_place (lead_at rows) j i ≡ pair_lcm.at
  same_lcm = sym (lcm_place-comm (lead_at rows) i j positions)

  monic_rows : AllByRecursion (IsMonicRow ring) rows
  monic_rows = AllByRecursion-weaken _ _ (λ v h. record { canonical = h.vector.canonical; monic = h.monic }) rows monic

  -- the lead of a row stands in one of the columns
  lead_inside : (lead_at rows i).position < length target
  lead_inside =
      let row = monic_row ring target rows monic i i_in in
      (subst (IsHomogeneous ring.weights target _) (IsMonic-shape _ row.monic) row.vector.homogeneous).0.0

  pub s_coefficients-homogeneous : IsHomogeneous ring.weights (degrees_of rows) pair_degree
      (s_coefficients ring.modulus (lead_at rows) i j)
  s_coefficients-homogeneous = (
    IsTermOfDegree-step ring target rows monic i i_in pair_degree pair_lcm divides_first (lead_inside, refl),
    (
      IsTermOfDegree-step ring target rows monic j j_in pair_degree
          (record { at = lcm_place (lead_at rows) j i; coefficient = 1 }) divides_second
          (subst (λ (k : Place). IsTermOfDegree ring.weights target pair_degree (record { at = k; coefficient = 1 })) (sym same_lcm) (lead_inside, refl)),
      tt,
    ),
  )

  -- a division without a rest reduces the pair to zero
  pub ReducesToZero-division : (d : ℤ) (quotients : List (Term Place))
      → IsDivided ring target rows d (s_vector ring rows i j) [] quotients → ReducesToZero ring rows i j
  ReducesToZero-division d quotients e =
      ReducesToZero-divided ring positive rows i j []
      (record { steps = quotients; below = (e.below pair_lcm.at (s_vector-below ring positive rows monic_rows i j i_in j_in positions)).1; sum = e.sum })
      refl
