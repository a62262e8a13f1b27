-- A vector over one free module and one over another as a vector over both, one behind the other.
use Rattle.std.proofs.Common.{◌≡◌, inl, inr, ℕ, ◌+◌, ◌-◌, ◌<◌, ◌≤◌, List, [], ◌∷◌, ◌++◌, length, refl, sym, ◌∙◌, ap, ℤ, pos, ◌+ℤ◌, arith, append-nil}
use Rattle.std.proofs.Math.ListN.{get_or-append}
use Rattle.std.proofs.lemmas.List.{get_or-append-add, length-append}
use Rattle.std.specs.declared.cmp.Ordering.TheVariants.{Less}
use Rattle.std.specs.List.{AllByRecursion}
use Rattle.std.proofs.lemmas.Bool.{cases_lt}
use Rattle.sf_algebra.specs.MatrixOperations.{part_terms, moved}
use Rattle.sf_algebra.specs.Monomials.{monomial_degree}
use Rattle.sf_algebra.specs.Rings.{Ring, Weights}
use Rattle.sf_algebra.specs.Terms.{Term, IsDescending}
use Rattle.sf_algebra.specs.Vectors.{Place, place_cmp, IsTermOfDegree, IsHomogeneous, IsVector, IsCanonicalRow}
use Rattle.sf_algebra.proofs.Basics.Lists.{AllByRecursion-append, AllByRecursion-weaken}
use Rattle.sf_algebra.proofs.GradedMatrices.MatrixRows.{StandsWithin}
use Rattle.sf_algebra.proofs.GradedMatrices.PartTerms.{part_terms-append, part_terms-inside, part_terms-outside, part_terms-whole}
use Rattle.sf_algebra.proofs.Tensors.KroneckerUnits.{IsCanonical-moved}
use Rattle.sf_algebra.proofs.Vectors.Positions.{place_cmp-later}
use Rattle.sf_groebner.proofs.PartsOfBases.PartLeads.{later_positions, part_terms-past, part_terms-before}

-- the terms of us, and behind them those of vs, n positions further on
abbrev pub paired_terms : ℕ → List (Term Place) → List (Term Place) → List (Term Place)
paired_terms n us vs = us ++ moved n vs

moved_past : (n : ℕ) (vs : List (Term Place)) → AllByRecursion (λ t. n ≤ t.at.position) (moved n vs)
moved_past n [] = tt
moved_past n (v ∷ vs) = (omega arith, moved_past n vs)

part_terms-moved : (n k : ℕ) (vs : List (Term Place)) → StandsWithin k vs → part_terms n (n + k) (moved n vs) ≡ vs
part_terms-moved n k [] h = refl
part_terms-moved n k (v ∷ vs) h =
    let within : v.at.position < k = h.0 in
    let back : (n + v.at.position) - n ≡ v.at.position = omega arith in
    part_terms-inside n (n + k)
    (record { at = record { position = n + v.at.position; monomial = v.at.monomial }; coefficient = v.coefficient })
    (moved n vs) (omega arith) (omega arith)
    ∙ (λ i. record { at = record { position = back i; monomial = v.at.monomial }; coefficient = v.coefficient } ∷ part_terms-moved n k vs h.1 i)

-- the first part of a pair, and the last
pub part_terms-pair_first : (n : ℕ) (us vs : List (Term Place)) → StandsWithin n us
    → part_terms 0 n (paired_terms n us vs) ≡ us
part_terms-pair_first n us vs h =
    part_terms-append 0 n us (moved n vs)
    ∙ (λ i. part_terms-whole n us h i ++ part_terms-past n (moved n vs) (moved_past n vs) i)
    ∙ append-nil us

pub part_terms-pair_last : (n k : ℕ) (us vs : List (Term Place)) → StandsWithin n us → StandsWithin k vs
    → part_terms n (n + k) (paired_terms n us vs) ≡ vs
part_terms-pair_last n k us vs h l =
    part_terms-append n (n + k) us (moved n vs)
    ∙ (λ i. part_terms-before n (n + k) us h i ++ part_terms-moved n k vs l i)

IsDescending-append : (weights : Weights) (us vs : List (Term Place)) → IsDescending (place_cmp weights) us
    → IsDescending (place_cmp weights) vs
    → AllByRecursion (λ u. AllByRecursion (λ v. place_cmp weights v.at u.at ≡ Less) vs) us
    → IsDescending (place_cmp weights) (us ++ vs)
IsDescending-append weights [] vs h k below = k
IsDescending-append weights (u ∷ us) vs h k below =
    (AllByRecursion-append _ us vs h.0 below.0, IsDescending-append weights us vs h.1 k below.1)

pub IsCanonical-pair : (ring : Ring) (n : ℕ) (us vs : List (Term Place)) → StandsWithin n us → IsCanonicalRow ring us
    → IsCanonicalRow ring vs → IsCanonicalRow ring (paired_terms n us vs)
IsCanonical-pair ring n us vs within h k =
    let shifted = IsCanonical-moved ring n vs k in
    record {
      descending = IsDescending-append ring.weights us (moved n vs) h.descending shifted.descending
          (AllByRecursion-weaken _ _
          (λ u near. AllByRecursion-weaken _ _ (λ v far. place_cmp-later ring.weights v.at u.at (let a : u.at.position < n = near in let b : n ≤ v.at.position = far in omega arith)) (moved n vs) (moved_past n vs))
          us within);
      residues = AllByRecursion-append _ us (moved n vs) h.residues shifted.residues;
    }

module _ (target source : List ℤ) (d : ℤ) where
  pub first_degrees : (weights : Weights) (us : List (Term Place)) → IsHomogeneous weights target d us
      → IsHomogeneous weights (target ++ source) d us
  first_degrees weights us h =
      AllByRecursion-weaken (IsTermOfDegree weights target d) (IsTermOfDegree weights (target ++ source) d)
      (λ t k. let within : t.at.position < length target = k.0 in (
        rw length-append (omega arith),
        k.1 ∙ ap (λ e. e +ℤ pos (monomial_degree weights t.at.monomial))
            (sym (get_or-append target source (pos 0) t.at.position within)),
      ))
      us h

  last_degrees : (weights : Weights) (vs : List (Term Place)) → IsHomogeneous weights source d vs
      → IsHomogeneous weights (target ++ source) d (moved (length target) vs)
  last_degrees weights [] h = tt
  last_degrees weights (v ∷ vs) h = (
    (
      let within : v.at.position < length source = h.0.0 in rw length-append (omega arith),
      h.0.1 ∙ ap (λ e. e +ℤ pos (monomial_degree weights v.at.monomial))
          (sym (get_or-append-add target source v.at.position (pos 0))),
    ),
    last_degrees weights vs h.1,
  )

  pub IsVector-pair : (ring : Ring) (us vs : List (Term Place))
      → IsVector ring target (record { degree = d; terms = us })
      → IsVector ring source (record { degree = d; terms = vs })
      → IsVector ring (target ++ source) (record { degree = d; terms = paired_terms (length target) us vs })
  IsVector-pair ring us vs h k = record {
    canonical =
        IsCanonical-pair ring (length target) us vs
        (AllByRecursion-weaken _ _ (λ t e. e.0) us h.homogeneous) h.canonical k.canonical;
    homogeneous =
        AllByRecursion-append _ us (moved (length target) vs) (first_degrees ring.weights us h.homogeneous)
        (last_degrees ring.weights vs k.homogeneous);
  }

-- each vector over both is a pair of its parts
pub paired_terms-parts : (weights : Weights) (n k : ℕ) (ts : List (Term Place)) → IsDescending (place_cmp weights) ts
    → StandsWithin (n + k) ts → paired_terms n (part_terms 0 n ts) (part_terms n (n + k) ts) ≡ ts
paired_terms-parts weights n k [] h within = refl
paired_terms-parts weights n k (t ∷ ts) h within =
    let inside : t.at.position < n + k = within.0 in
    let rest = paired_terms-parts weights n k ts h.1 within.1 in
    elim (cases_lt t.at.position n) [
      | inl before ↦
          let same : t.at.position - 0 ≡ t.at.position = omega arith in
          (λ i. paired_terms n (part_terms-inside 0 n t ts (omega arith) before i) (part_terms-outside n (n + k) t ts (inl before) i))
          ∙ (λ i. record { at = record { position = same i; monomial = t.at.monomial }; coefficient = t.coefficient } ∷ rest i)
      | inr reached ↦
          let same : n + (t.at.position - n) ≡ t.at.position = omega arith in
          let none : part_terms 0 n ts ≡ [] = part_terms-past n ts (later_positions weights n t ts h reached).1 in
          (λ i. paired_terms n (part_terms-outside 0 n t ts (inr reached) i) (part_terms-inside n (n + k) t ts reached inside i))
          ∙ ap (λ us. us ++ (record { at = record { position = n + (t.at.position - n); monomial = t.at.monomial }; coefficient = t.coefficient } ∷ moved n (part_terms n (n + k) ts))) none
          ∙ (λ i. record { at = record { position = same i; monomial = t.at.monomial }; coefficient = t.coefficient } ∷ (sym (ap (λ us. us ++ moved n (part_terms n (n + k) ts)) none) ∙ rest) i)
    ]
