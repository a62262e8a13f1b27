-- Rows of lower degrees that are apart, and new ones of one degree, whose leads are new and whose tails are reduced by all:
-- together they are apart.
use Rattle.std.proofs.Common.{◌≡◌, ◌⊎◌, inl, inr, Bool, true, false, ◌||◌, List, [], ◌∷◌, ◌++◌, append-nil, append_assoc, sym, ◌∙◌, ap, subst, arith, ℤ, ◌<ℤ◌}
use Rattle.std.proofs.lemmas.Bool.{cases_Bool}
use Rattle.std.proofs.lemmas.Int.{ints}
use Rattle.std.specs.List.{AllByRecursion}
use Rattle.sf_algebra.specs.Rings.{Weights, IsPositive}
use Rattle.sf_algebra.specs.Terms.{Term}
use Rattle.sf_algebra.specs.Vectors.{Place, Vector, IsHomogeneous, IsTermOfDegree, place_degree}
use Rattle.sf_algebra.proofs.Basics.Lists.{AllByRecursion-append, AllByRecursion-weaken}
use Rattle.sf_groebner.specs.Criterion.{lead_place}
use Rattle.sf_groebner.specs.Divisions.{tail_of}
use Rattle.sf_groebner.specs.Leads.{place_divides}
use Rattle.sf_groebner.specs.ReducedBases.{AreApart, IsApart, IsMonic, IsReducedBy, lead_divides}
use Rattle.sf_groebner.proofs.Basics.Items.{AllByRecursion-both, IsItem}
use Rattle.sf_groebner.proofs.Basics.PlaceDivisors.{Decides-place_divides}
use Rattle.sf_groebner.proofs.Constructions.LeadDivisors.{is_divided-none, lead_divides-own}
use Rattle.sf_groebner.proofs.PairLoops.NeededLeads.{PlaceDivides-degree}
use Rattle.sf_groebner.proofs.Uniqueness.Apart.{IsReducedBy-item}
use Rattle.sf_buchberger.specs.CountedRows.{AreNew, HasReducedTailBy}

-- one vector more behind vectors that it is apart from
IsApart-last : (rows : List Vector) (v : Vector) → IsApart rows → AllByRecursion (λ w. AreApart w v) rows
    → IsApart (rows ++ v ∷ [])
IsApart-last [] v apart each = (tt, tt)
IsApart-last (w ∷ ws) v apart each =
    (AllByRecursion-append (AreApart w) ws (v ∷ []) apart.0 (each.0, tt), IsApart-last ws v apart.1 each.1)

-- by the one vector
by_one : (w : Vector) (ts : List (Term Place)) → AllByRecursion (λ t. lead_divides w.terms t.at ≡ false) ts
    → IsReducedBy (w ∷ []) ts
by_one w ts h = AllByRecursion-weaken _ _ (λ t free. ap (λ b. b || false) free) ts h

module _ (weights : Weights) (positive : IsPositive weights) (degrees : List ℤ) where
  -- what has a lesser degree, or is another place of the same degree, isn't divided
  place_free : (j k : Place) → ((j ≡ k) → ⊥) → (place_degree weights degrees j <ℤ place_degree weights degrees k → ⊥)
      → place_divides j k ≡ false
  place_free j k other lower =
      elim (cases_Bool (place_divides j k)) [
        | inr free ↦ free
        | inl divided ↦ elim (PlaceDivides-degree weights positive degrees j k ((Decides-place_divides j k).0 divided)) [
          | inl same ↦ absurd (other same)
          | inr less ↦ absurd (lower less)
        ]
      ]

  -- a monic vector of these degrees
  pub record IsGraded (v : Vector) : Type 0 where
    pub monic : IsMonic v.terms
    pub homogeneous : IsHomogeneous weights degrees v.degree v.terms

  -- a lead of a higher degree divides nothing
  free_below : (v w : Vector) → IsGraded v → IsHomogeneous weights degrees w.degree w.terms → w.degree <ℤ v.degree
      → AllByRecursion (λ t. lead_divides v.terms t.at ≡ false) w.terms
  free_below v w g homogeneous below = AllByRecursion-weaken _ _ (λ t term. lead v.terms g.monic g.homogeneous t term) w.terms homogeneous
    where
      lower : (a b j k : ℤ) → a ≡ j → b ≡ k → b <ℤ a → j <ℤ k → ⊥
      lower a b j k e f less more = omega (arith, ints)

      same_degree : (a b : ℤ) → a ≡ b → b <ℤ a → ⊥
      same_degree a b e less = omega (arith, ints)

      lead : (ts : List (Term Place)) → IsMonic ts → IsHomogeneous weights degrees v.degree ts → (t : Term Place)
          → IsTermOfDegree weights degrees w.degree t → lead_divides ts t.at ≡ false
      lead [] monic same t term = absurd monic
      lead (s ∷ ss) monic same t term =
          place_free s.at t.at
          (λ e. same_degree v.degree w.degree (same.0.1 ∙ ap (place_degree weights degrees) e ∙ sym term.1) below)
          (λ less. lower v.degree w.degree _ _ same.0.1 term.1 below less)

  -- of two leads of one degree, one divides the other only where it is the other
  same_or_free : (d : ℤ) (ts us : List (Term Place)) → IsMonic ts → IsMonic us → IsHomogeneous weights degrees d ts
      → IsHomogeneous weights degrees d us → lead_divides us (lead_place ts) ≡ false → lead_divides ts (lead_place us) ≡ false
  same_or_free d [] us one two h k free = absurd one
  same_or_free d (t ∷ ts) [] one two h k free = absurd two
  same_or_free d (t ∷ ts) (u ∷ us) one two h k free =
      place_free t.at u.at
      (λ same. clash (place_divides u.at t.at) free (ap (place_divides u.at) same ∙ lead_divides-own (u ∷ us) two))
      (λ less. equal d _ _ h.0.1 k.0.1 less)
    where
      clash : (b : Bool) → b ≡ false → b ≡ true → ⊥
      clash b e f = cc

      equal : (a j k : ℤ) → a ≡ j → a ≡ k → j <ℤ k → ⊥
      equal a j k e f less = omega (arith, ints)

  module _ (all : List Vector) (d : ℤ) where
    -- a vector of the list of a lesser degree, or of degree d with a tail that all leave reduced
    pub record IsSettled (w : Vector) : Type 0 where
      pub graded : IsGraded w
      pub item : IsItem w all
      pub degree : (w.degree <ℤ d) ⊎ ((w.degree ≡ d) × HasReducedTailBy all w)

    -- one of degree d
    pub record IsAdded (v : Vector) : Type 0 where
      pub graded : IsGraded v
      pub item : IsItem v all
      pub degree : v.degree ≡ d
      pub tail : HasReducedTailBy all v

    -- where a lead of the list divides neither the first term nor those behind it
    whole : (w : Vector) (ts : List (Term Place)) → IsMonic ts → lead_divides w.terms (lead_place ts) ≡ false
        → IsItem w all → IsReducedBy all (tail_of ts) → IsReducedBy (w ∷ []) ts
    whole w [] monic free item tail = absurd monic
    whole w (t ∷ ts) monic free item tail =
        by_one w (t ∷ ts) (free, IsReducedBy-item all w ts tail item)

    -- a new vector is apart from those that are settled
    apart_from : (v : Vector) → IsAdded v → (w : Vector) → IsSettled w → lead_divides w.terms (lead_place v.terms) ≡ false
        → AreApart w v
    apart_from v added w settled free = (
      elim settled.degree [
        | inl below ↦
            by_one v w.terms
            (free_below v w added.graded settled.graded.homogeneous (subst (λ e. w.degree <ℤ e) (sym added.degree) below))
        | inr same ↦
            whole v w.terms settled.graded.monic
            (same_or_free d v.terms w.terms added.graded.monic settled.graded.monic
            (subst (λ e. IsHomogeneous weights degrees e v.terms) added.degree added.graded.homogeneous)
            (subst (λ e. IsHomogeneous weights degrees e w.terms) same.0 settled.graded.homogeneous) free)
            added.item same.1
      ],
      whole w v.terms added.graded.monic free settled.item added.tail,
    )

    -- rows that are settled and apart stay apart with new vectors of degree d
    pub IsApart-more : (rows vs : List Vector) → IsApart rows → AllByRecursion IsSettled rows → AllByRecursion IsAdded vs
        → AreNew rows vs → IsApart (rows ++ vs)
    IsApart-more rows [] apart settled added new = subst IsApart (sym (append-nil rows)) apart
    IsApart-more rows (v ∷ vs) apart settled added new =
        let each : AllByRecursion (λ w. AreApart w v) rows =
        AllByRecursion-both IsSettled (λ w. lead_divides w.terms (lead_place v.terms) ≡ false) (λ w. AreApart w v)
        (apart_from v added.0) rows settled (is_divided-none rows (lead_place v.terms) new.0) in
        subst IsApart (append_assoc rows (v ∷ []) vs)
        (IsApart-more (rows ++ v ∷ []) vs (IsApart-last rows v apart each)
        (AllByRecursion-append IsSettled rows (v ∷ []) settled
        (record { graded = added.0.graded; item = added.0.item; degree = inr (added.0.degree, added.0.tail) }, tt))
        added.1 new.1)
