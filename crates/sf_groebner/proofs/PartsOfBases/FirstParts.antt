-- The first and the last parts of a module's vectors, by a position that parts them.
use Rattle.std.proofs.Common.{◌≡◌, Bool, true, false, not, ℕ, List, [], ◌∷◌, length, slice_range, refl, sym, ◌∙◌, ap, subst, ℤ, arith}
use Rattle.std.specs.List.{AllByRecursion}
use Rattle.sf_algebra.specs.MatrixOperations.{part_terms, vector_part}
use Rattle.sf_algebra.specs.Rings.{Ring, IsRing}
use Rattle.sf_algebra.specs.Terms.{Term, IsDescending}
use Rattle.sf_algebra.specs.VectorOperations.{vector_difference}
use Rattle.sf_algebra.specs.Vectors.{Place, Vector, place_cmp, IsVector}
use Rattle.sf_algebra.proofs.GradedMatrices.PartTerms.{IsVector-part_terms}
use Rattle.sf_groebner.specs.Cuts.{has_terms, has_first_part, first_parts, last_parts, IsFirstPart}
use Rattle.sf_groebner.specs.ReducedBases.{IsReducedBasis}
use Rattle.sf_groebner.proofs.PartsOfBases.PartLeads.{has_terms-first, has_terms-later, has_terms-position, has_no_terms-position, has_terms-none}
use Rattle.sf_groebner.proofs.PartsOfBases.PartSums.{part_terms-difference}
use Rattle.sf_groebner.proofs.PartsOfBases.ReducedParts.{IsPart, reduced_part}
use Rattle.sf_groebner.proofs.Spanning.Modules.{IsModuleLike}

module _ (ring : Ring) (degrees : List ℤ) (N : Vector → Type 0) (vectors : (v : Vector) → N v → IsVector ring degrees v)
    (n : ℕ) where
  descending : (w : Vector) → N w → (t : Term Place) (ts : List (Term Place)) → w.terms ≡ t ∷ ts
      → IsDescending (place_cmp ring.weights) (t ∷ ts)
  descending w h t ts e = subst (IsDescending (place_cmp ring.weights)) e (vectors w h).canonical.descending

  pub first_part : IsPart 0 n (has_first_part n) N (IsFirstPart n N)
  first_part = record {
    kept = λ w h k t ts e. (omega arith, has_terms-position n t ts ring.weights (descending w h t ts e) (sym (ap (λ us. has_terms (part_terms 0 n us)) e) ∙ k));
    keeps = λ w h t ts e between. ap (λ us. has_terms (part_terms 0 n us)) e ∙ has_terms-first n t ts between.1;
    inside = λ w h k. record { whole = w; inside = h; part = refl };
    lifted = λ v h t ts e. (h.whole, h.inside, ap (λ (x : Vector). has_terms x.terms) h.part ∙ ap has_terms e, h.part);
  }

  -- the nonzero first parts of the elements are the reduced basis of the first parts of all vectors
  pub reduced-first_parts : (basis : List Vector) → IsReducedBasis ring.weights N basis
      → IsReducedBasis ring.weights (IsFirstPart n N) (first_parts n basis)
  reduced-first_parts basis h = reduced_part 0 n (has_first_part n) N (IsFirstPart n N) first_part ring.weights basis h

  -- differences of first parts are first parts
  pub first_part_module : IsRing ring
      → ((u v : Vector) → N u → N v → u.degree ≡ v.degree → N (vector_difference ring u v))
      → IsModuleLike ring (slice_range degrees 0 n) (IsFirstPart n N)
  first_part_module positive differences = record {
    vectors = λ v h. subst (IsVector ring (slice_range degrees 0 n)) h.part (IsVector-part_terms ring degrees 0 n h.whole (vectors h.whole h.inside));
    differences = λ u v h k e. record {
      whole = vector_difference ring h.whole k.whole;
      inside =
          differences h.whole k.whole h.inside k.inside
          (ap (λ x. x.degree) h.part ∙ e ∙ sym (ap (λ x. x.degree) k.part));
      part =
          (λ i. record { degree = h.whole.degree; terms = part_terms-difference ring 0 n positive h.whole.terms k.whole.terms i }) ∙ (λ i. vector_difference ring (h.part i) (k.part i));
    };
  }

  -- v is the part behind, of a vector of the module that has no term at the first n positions
  abbrev pub IsLastPart : Vector → Type 0
  IsLastPart v = (w : Vector) × N w × (part_terms 0 n w.terms ≡ []) × (vector_part n (length degrees) w ≡ v)

  not_true : (b : Bool) → not b ≡ true → b ≡ false
  not_true true e = cc
  not_true false e = refl

  pub last_part : IsPart n (length degrees) (λ (w : Vector). not (has_first_part n w)) N IsLastPart
  last_part = record {
    kept = λ w h k t ts e. (
      has_no_terms-position n t ts (sym (ap (λ us. has_terms (part_terms 0 n us)) e) ∙ not_true (has_first_part n w) k),
      (subst (AllByRecursion _) e (vectors w h).homogeneous).0.0,
    );
    keeps = λ w h t ts e between. ap not (ap (λ us. has_terms (part_terms 0 n us)) e ∙ has_terms-later n t ts ring.weights (descending w h t ts e) between.0);
    inside = λ w h k. (w, h, has_terms-none (part_terms 0 n w.terms) (not_true (has_first_part n w) k), refl);
    lifted = λ v h t ts e. (h.0, h.1, ap (λ us. not (has_terms us)) h.2, h.3);
  }

  pub reduced-last_parts : (basis : List Vector) → IsReducedBasis ring.weights N basis
      → IsReducedBasis ring.weights IsLastPart (last_parts n (length degrees) basis)
  reduced-last_parts basis h =
      reduced_part n (length degrees)
      (λ (w : Vector). not (has_first_part n w)) N IsLastPart last_part ring.weights basis h
