-- The leads of monic rows, as a program reads them.
use Rattle.std.proofs.Common.{◌≡◌, ℕ, ◌<◌, List, [], ◌∷◌, length, Some, slice_get, get_or, sym, ◌∙◌, ap, subst, arith}
use Rattle.std.specs.List.{AllByRecursion}
use Rattle.sf_algebra.specs.Terms.{Term}
use Rattle.sf_algebra.specs.Vectors.{Place, Vector}
use Rattle.sf_algebra.proofs.Basics.Lists.{AllByRecursion-get}
use Rattle.sf_algebra.proofs.Multiplying.Gathering.{row_at-slice_get}
use Rattle.sf_groebner.specs.Criterion.{lead_at, lead_place}
use Rattle.sf_groebner.specs.ReducedBases.{IsMonic}

-- a monic list has a term
pub length-IsMonic : (ts : List (Term Place)) → IsMonic ts → 0 < length ts
length-IsMonic [] h = absurd h
length-IsMonic (t ∷ ts) h = omega arith

-- the first term of a list that isn't empty
lead_place-first : (ts : List (Term Place)) (t : Term Place) → 0 < length ts → t ≡ get_or ts 0 t → t.at ≡ lead_place ts
lead_place-first [] t h e = absurd (omega arith)
lead_place-first (u ∷ us) t h e = ap (λ (s : Term Place). s.at) e

module _ (rows : List Vector) (i : ℕ) (v : Vector) (read : slice_get rows i ≡ Some v)
    (monic : AllByRecursion (λ (w : Vector). IsMonic w.terms) rows) where
  pub monic_read : IsMonic v.terms
  monic_read = AllByRecursion-get (λ (w : Vector). IsMonic w.terms) rows i v monic read

  pub lead_at-read : (ts : List (Term Place)) (t : Term Place) → ts ≡ v.terms → t ≡ get_or ts 0 t → t.at ≡ lead_at rows i
  lead_at-read ts t same e =
      lead_place-first ts t (length-IsMonic ts (subst IsMonic (sym same) monic_read)) e
      ∙ ap lead_place (same ∙ sym (row_at-slice_get rows i v read))
