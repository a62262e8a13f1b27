-- A vector is the sum of its terms before a position and of those from there on.
use Rattle.std.proofs.Common.{ap, ◌∙◌, ◌≡◌, ℕ, ◌-◌, ◌+◌, ◌<◌, ◌≤◌, List, [], ◌∷◌, ◌++◌, length, sym, subst, arith, ℤ}
use Rattle.std.proofs.Math.Nat.{sub-zero}
use Rattle.std.specs.List.{AllByRecursion}
use Rattle.sf_algebra.specs.MatrixOperations.{moved, part_terms}
use Rattle.sf_algebra.specs.Multiples.{negative}
use Rattle.sf_algebra.specs.Rings.{Ring, IsRing}
use Rattle.sf_algebra.specs.Terms.{Term}
use Rattle.sf_algebra.specs.VectorOperations.{row_sum}
use Rattle.sf_algebra.specs.Vectors.{IsCanonicalRow, IsVector, Place, Vector}
use Rattle.sf_algebra.proofs.Basics.Lists.{AllByRecursion-back, AllByRecursion-front, AllByRecursion-weaken}
use Rattle.sf_algebra.proofs.GradedMatrices.MatrixRows.{StandsWithin}
use Rattle.sf_algebra.proofs.GradedMatrices.PartTerms.{IsCanonical-part_terms, IsWithin-part_terms}
use Rattle.sf_algebra.proofs.Multiplying.Keys.{place_keys}
use Rattle.sf_algebra.proofs.Tensors.KroneckerUnits.{IsCanonical-moved}
use Rattle.sf_groebner.proofs.PartsOfBases.PairedVectors.{paired_terms-parts}
use Rattle.sf_groebner.proofs.Uniqueness.Subtractions.{add-negative_front}
use Rattle.sf_blocks.proofs.DirectSums.SummandSpans.{row_sum-pair}

-- terms moved on stand from there on
pub moved_past : (n : ℕ) (ts : List (Term Place)) → AllByRecursion (λ t. n ≤ t.at.position) (moved n ts)
moved_past n [] = tt
moved_past n (t ∷ ts) = (omega arith, moved_past n ts)

pub StandsWithin-vector : (ring : Ring) (degrees : List ℤ) (v : Vector) → IsVector ring degrees v
    → StandsWithin (length degrees) v.terms
StandsWithin-vector ring degrees v h = AllByRecursion-weaken _ _ (λ t e. e.0) v.terms h.homogeneous

-- the terms before position n, and the others
pub record IsSplit (ring : Ring) (degrees : List ℤ) (d : ℤ) (n : ℕ) (ts : List (Term Place)) : Type 0 where
  pub before : List (Term Place)
  pub after : List (Term Place)
  pub before_vector : IsVector ring degrees (record { degree = d; terms = before })
  pub after_vector : IsVector ring degrees (record { degree = d; terms = after })
  pub stand_before : StandsWithin n before
  pub stand_after : AllByRecursion (λ t. n ≤ t.at.position) after
  pub together : before ++ after ≡ ts
  pub sum : row_sum ring before after ≡ ts

module _ (ring : Ring) (positive : IsRing ring) (degrees : List ℤ) (d : ℤ) (n : ℕ) (ts : List (Term Place))
    (h : IsVector ring degrees (record { degree = d; terms = ts })) where
  pub split_at : IsSplit ring degrees d n ts
  split_at =
      let k = length degrees - n in
      let before = part_terms 0 n ts in
      let rest = part_terms n (n + k) ts in
      let within : StandsWithin (length degrees) ts = StandsWithin-vector ring degrees _ h in
      let together : before ++ moved n rest ≡ ts =
      paired_terms-parts ring.weights n k ts h.canonical.descending
      (AllByRecursion-weaken (λ (t : Term Place). t.at.position < length degrees) (λ t. t.at.position < n + k)
      (λ t e. omega arith) ts within) in
      let homogeneous = subst (AllByRecursion _) (sym together) h.homogeneous in
      let inside : StandsWithin n before =
      subst (λ m. StandsWithin m before) (sub-zero n) (IsWithin-part_terms 0 n ts) in
      let before_canonical = IsCanonical-part_terms ring 0 n ts h.canonical in
      let rest_canonical = IsCanonical-part_terms ring n (n + k) ts h.canonical in
      record {
        before = before;
        after = moved n rest;
        before_vector = record {
          canonical = before_canonical;
          homogeneous = AllByRecursion-front _ before (moved n rest) homogeneous;
        };
        after_vector = record {
          canonical = IsCanonical-moved ring n rest rest_canonical;
          homogeneous = AllByRecursion-back _ before (moved n rest) homogeneous;
        };
        stand_before = inside;
        stand_after = moved_past n rest;
        together = together;
        sum = subst (λ us. us ≡ ts) (sym (row_sum-pair ring positive.modulus n before rest inside before_canonical rest_canonical)) together;
      }

-- the first part of a sum is the sum less the second
pub first_of_sum : (ring : Ring) → IsRing ring → (us vs ts : List (Term Place)) → IsCanonicalRow ring us
    → IsCanonicalRow ring vs → row_sum ring us vs ≡ ts → us ≡ row_sum ring ts (negative ring.modulus vs)
first_of_sum ring positive us vs ts h k sum =
    sym (add-negative_front (place_keys ring.weights) ring.modulus positive.modulus us vs h k)
    ∙ ap (λ ws. row_sum ring ws (negative ring.modulus vs)) sum
