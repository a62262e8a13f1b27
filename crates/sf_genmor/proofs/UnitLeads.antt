-- Rows that begin with generators: no row is in the span of those before, so all are kept.
use Rattle.std.proofs.Common.{◌≡◌, ◌||◌, inl, inr, Bool, true, false, ℕ, suc, List, [], ◌∷◌, ◌++◌, refl, sym, ◌∙◌, ap, subst, ℤ, arith}
use Rattle.std.proofs.lemmas.Bool.{cases_eq}
use Rattle.std.specs.Prelude.{IsFalse}
use Rattle.std.specs.List.{AllByRecursion}
use Rattle.sf_algebra.specs.Matrices.{Matrix}
use Rattle.sf_algebra.specs.MatrixOperations.{row_at, row_combination, unit_rows}
use Rattle.sf_algebra.specs.Monomials.{exponent_sum, monomial_cmp, product}
use Rattle.sf_algebra.specs.Multiples.{combination}
use Rattle.sf_algebra.specs.Rings.{Ring, IsRing, IsOverField}
use Rattle.sf_algebra.specs.Terms.{Term}
use Rattle.sf_algebra.specs.Vectors.{Place, Vector, entry}
use Rattle.sf_algebra.proofs.Basics.Lists.{AllByRecursion-append, AllByRecursion-weaken}
use Rattle.sf_algebra.proofs.GradedMatrices.MatrixRows.{row_at-each}
use Rattle.sf_algebra.proofs.GradedMatrices.ProductParts.{combination-no_rows}
use Rattle.sf_algebra.proofs.Monomials.Weights.{field_ring}
use Rattle.sf_algebra.proofs.Multiplying.Keys.{monomial_keys}
use Rattle.sf_algebra.proofs.Vectors.Entries.{entry-elsewhere, entry-here, without_position}
use Rattle.sf_algebra.proofs.Vectors.EntryTotals.{entry-combination}
use Rattle.sf_groebner.specs.Leads.{place_divides}
use Rattle.sf_groebner.specs.MinimalGenerators.{AreKept, IsInSum, matrix_of}
use Rattle.sf_groebner.specs.Presentations.{IsZero}
use Rattle.sf_groebner.specs.ReducedBases.{AreApart, IsApart, IsReducedBy}
use Rattle.sf_groebner.specs.Small.{IsSmallReducedBasis}
use Rattle.sf_groebner.specs.Spans.{InSpan, IsSpannedBy}
use Rattle.sf_groebner.proofs.Basics.PlaceDivisors.{Decides-place_divides}
use Rattle.sf_groebner.proofs.Uniqueness.MinimalGenerators.{IsInSum-weaken}
use Rattle.sf_groebner.proofs.Uniqueness.ReducedCoordinates.{InSpan-sum}
use Rattle.sf_groebner.proofs.WorkedExamples.FreeRelations.{span-no_rows}
use Rattle.sf_matrix.specs.KeptNumbers.{IsModerate}
use Rattle.sf_presented.specs.FreeBases.{unit_basis}
use Rattle.sf_presented.proofs.FreeBases.{AllByRecursion-by_degree, reduced-any}
use Rattle.sf_genmor.specs.PresentationPlans.{HasCandidates, IsPresentable, no_rows, small_rows, all_units}
use Rattle.sf_genmor.specs.UnitLeads.{HasFreeRows, HasUnitLead, HaveUnitLeads}

-- unit vectors begin with generators
unit_rows-leads : (i : ℕ) (ds : List ℤ) → HaveUnitLeads (unit_rows i ds)
unit_rows-leads i [] = tt
unit_rows-leads i (d ∷ ds) = (refl, unit_rows-leads (suc i) ds)

pub unit_basis-leads : (ds : List ℤ) → HaveUnitLeads (unit_basis ds)
unit_basis-leads ds =
    AllByRecursion-by_degree (λ (v : Vector). HasUnitLead v.terms) (unit_rows 0 ds)
    (unit_rows-leads 0 ds)

-- what a lead without a variable doesn't divide has no term at its position
module _ (d : ℤ) (t : Term Place) (ts : List (Term Place)) (unit : exponent_sum t.at.monomial ≡ 0) where
  divides_position : (k : Place) → k.position ≡ t.at.position → place_divides t.at k ≡ true
  divides_position k e =
      (Decides-place_divides t.at k).1
      (sym e, (omega (arith, unit), omega (arith, unit), omega (arith, unit), omega (arith, unit), omega (arith, unit), omega (arith, unit)))

  entry-undivided : (us : List (Term Place)) → IsReducedBy (record { degree = d; terms = t ∷ ts } ∷ []) us
      → entry t.at.position us ≡ []
  entry-undivided [] h = refl
  entry-undivided (u ∷ us) h =
      elim (cases_eq u.at.position t.at.position) [
        | inl here ↦ absurd (clash (place_divides t.at u.at) (divides_position u.at here) h.0)
        | inr elsewhere ↦ entry-elsewhere t.at.position u us elsewhere ∙ entry-undivided us h.1
      ]
    where
      clash : (b : Bool) → b ≡ true → IsFalse (b || false) → ⊥
      clash true e k = cc
      clash false e k = cc

module _ (ring : Ring) (positive : IsRing ring) where
  -- combinations of rows without a term at a position have none
  entry-row_combination : (i : ℕ) (rows : List Vector) → AllByRecursion (λ (w : Vector). entry i w.terms ≡ []) rows
      → (c : List (Term Place)) → entry i (row_combination ring rows c) ≡ []
  entry-row_combination i rows h c =
      entry-combination ring positive.modulus i (λ (k : Place). k.monomial) (λ (k : Place). row_at rows k.position) c
      ∙ (λ j. combination (monomial_cmp ring.weights) product ring.modulus (λ (k : Place). k.monomial) (λ (k : Place). row_at-each (λ ts. entry i ts ≡ []) refl rows h k.position j) c)
      ∙ combination-no_rows (monomial_keys ring.weights) ring.modulus positive.modulus (λ (k : Place). k.monomial) c

  module _ (base : Matrix) (rings : base.ring ≡ ring) (rowless : base.rows ≡ []) where
    base_zero : (v : Vector) → InSpan base v → IsZero v
    base_zero v h =
        span-no_rows ring positive base.target v
        (subst (λ q. IsSpannedBy q [] v) rings (subst (λ rows. IsSpannedBy base.ring rows v) rowless h))

    -- a row that begins with a generator, which divides no term of the earlier rows, isn't in their span
    outside_earlier : (target : List ℤ) (earlier : List Vector) (v : Vector) → HasUnitLead v.terms
        → AllByRecursion (λ (u : Vector). IsReducedBy (v ∷ []) u.terms) earlier
        → IsInSum ring earlier (InSpan base) v → ⊥
    outside_earlier target earlier v unit apart h = by v.terms refl unit
      where
        inside : InSpan (matrix_of ring target earlier) v
        inside =
            InSpan-sum (matrix_of ring target earlier) positive v
            (IsInSum-weaken ring target (InSpan base) IsZero base_zero (matrix_of ring target earlier) v h)

        some : {X : Type 0} (x : X) (xs : List X) → x ∷ xs ≡ [] → ⊥
        some x xs e = cc

        by : (ts : List (Term Place)) → v.terms ≡ ts → HasUnitLead ts → ⊥
        by [] e k = k
        by (t ∷ ts) e k =
            let reduced : AllByRecursion (λ (u : Vector). IsReducedBy (record { degree = v.degree; terms = t ∷ ts } ∷ []) u.terms) earlier =
            subst (λ us. AllByRecursion (λ (u : Vector). IsReducedBy (record { degree = v.degree; terms = us } ∷ []) u.terms) earlier) e apart in
            let none : AllByRecursion (λ (u : Vector). entry t.at.position u.terms ≡ []) earlier =
            AllByRecursion-weaken _ _ (λ u r. entry-undivided v.degree t ts k u.terms r) earlier reduced in
            let value : t ∷ ts ≡ row_combination ring earlier inside.coefficients.terms = sym e ∙ (λ i. (sym inside.value i).terms) in
            some (without_position t) (entry t.at.position ts)
            (sym (entry-here t.at.position t ts refl) ∙ ap (entry t.at.position) value
            ∙ entry-row_combination t.at.position earlier none inside.coefficients.terms)

    kept_all : (target : List ℤ) (earlier vs : List Vector)
        → AllByRecursion (λ (u : Vector). AllByRecursion (λ (v : Vector). IsReducedBy (v ∷ []) u.terms) vs) earlier
        → HaveUnitLeads vs → IsApart vs → AreKept ring (InSpan base) earlier vs vs
    kept_all target earlier [] h units apart = refl
    kept_all target earlier (v ∷ vs) h units apart =
        let before : AllByRecursion (λ (u : Vector). AllByRecursion (λ (w : Vector). IsReducedBy (w ∷ []) u.terms) vs) earlier =
        AllByRecursion-weaken _ _ (λ u k. k.1) earlier h in
        let here : AllByRecursion (λ (w : Vector). IsReducedBy (w ∷ []) v.terms) vs =
        AllByRecursion-weaken (AreApart v) _ (λ w k. k.0) vs apart.0 in
        inr (
          outside_earlier target earlier v units.0 (AllByRecursion-weaken _ _ (λ u k. k.0) earlier h),
          (vs, refl, kept_all target (earlier ++ v ∷ []) vs (AllByRecursion-append _ earlier (v ∷ []) before (here, tt)) units.1 apart.1),
        )

module _ (limit : ℕ) (n base : Matrix) (h : IsPresentable limit n base) (field : IsOverField n.ring) where
  apart_rows : HasCandidates limit n base → IsApart n.rows
  apart_rows (small_rows small moderate) = small.reduced.apart
  apart_rows (no_rows none) = subst IsApart (sym none) tt
  apart_rows (all_units units rowless) =
      subst IsApart (sym units) (reduced-any n.ring (field_ring field) field.prime.above_one n.target).apart

  -- all are kept
  pub kept_free : HasFreeRows n base → AreKept base.ring (InSpan base) [] n.rows n.rows
  kept_free (inl none) = subst (λ rows. AreKept base.ring (InSpan base) [] rows rows) (sym none) refl
  kept_free (inr (rowless, units)) =
      kept_all base.ring (subst (λ ring. IsRing ring) (sym h.ring) (field_ring field)) base refl rowless
      n.target [] n.rows tt units (apart_rows h.candidates)

  -- else they are the rows of a small reduced basis
  pub small_candidates : (HasFreeRows n base → ⊥) → IsSmallReducedBasis limit n × AllByRecursion IsModerate n.target
  small_candidates bound = by h.candidates
    where
      by : HasCandidates limit n base → IsSmallReducedBasis limit n × AllByRecursion IsModerate n.target
      by (small_rows small moderate) = (small, moderate)
      by (no_rows none) = absurd (bound (inl none))
      by (all_units units rowless) = absurd (bound (inr (rowless, subst HaveUnitLeads (sym units) (unit_basis-leads n.target))))
