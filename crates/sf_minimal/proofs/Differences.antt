-- Lists of terms with the negatives of others behind them.
use Rattle.std.specs.declared.cmp.Ordering.TheVariants.{Less}
use Rattle.std.proofs.Common.{◌≡◌, ◌<◌, List, [], ◌∷◌, ◌++◌, append-nil, append_assoc, ◌∙◌}
use Rattle.sf_algebra.specs.MatrixOperations.{row_combination}
use Rattle.sf_algebra.specs.Multiples.{multiple}
use Rattle.sf_algebra.specs.Rings.{Ring, IsRing}
use Rattle.sf_algebra.specs.Sums.{normal}
use Rattle.sf_algebra.specs.Terms.{Term, IsCanonical}
use Rattle.sf_algebra.specs.VectorOperations.{row_sum}
use Rattle.sf_algebra.specs.Vectors.{Place, Vector, place_cmp, IsCanonicalRow}
use Rattle.sf_algebra.proofs.Monomials.Orders.{place_cmp_linear}
use Rattle.sf_algebra.proofs.Multiplying.Keys.{place_keys}
use Rattle.sf_algebra.proofs.Terms.Negatives.{multiple-negative_one, negative_one_term}
use Rattle.sf_algebra.proofs.Terms.Normal.{EachPlace-normal, IsAboveEach, IsCanonical-normal}
use Rattle.sf_algebra.proofs.Terms.SameTotals.{SameTotals, SameTotals-append, SameTotals-equal, SameTotals-negative, SameTotals-normal, SameTotals-refl, SameTotals-swap, SameTotals-sym, SameTotals-trans, normal-SameTotals}
use Rattle.sf_algebra.proofs.Terms.Sums.{normal-canonical}
use Rattle.sf_algebra.proofs.Vectors.Rows.{IsCanonical-row_combination, row_combination-append}
use Rattle.sf_groebner.proofs.PairTheorems.Kernels.{row_combination-products}
use Rattle.sf_groebner.proofs.Uniqueness.Subtractions.{add-negative_front}
use Rattle.sf_minimal.proofs.ConstantTerms.{products}

module _ (ring : Ring) (positive : IsRing ring) where
  -- the negatives of the terms
  abbrev pub minus : List (Term Place) → List (Term Place)
  minus us = products ring.modulus (negative_one_term ring.modulus) us

  -- what is taken away and added again
  pub SameTotals-minus : (us vs : List (Term Place)) → SameTotals ring.modulus ((us ++ minus vs) ++ vs) us
  SameTotals-minus us vs =
      SameTotals-trans ring.modulus (SameTotals-equal ring.modulus _ _ (append_assoc us (minus vs) vs))
      (SameTotals-trans ring.modulus
      (SameTotals-append ring.modulus (SameTotals-refl ring.modulus us) (SameTotals-trans ring.modulus (SameTotals-swap ring.modulus (minus vs) vs) (SameTotals-negative (place_keys ring.weights) ring.modulus positive.modulus vs)))
      (SameTotals-equal ring.modulus _ _ (append-nil us)))

  -- what is added and taken away
  pub SameTotals-plus : (us vs : List (Term Place)) → SameTotals ring.modulus ((us ++ vs) ++ minus vs) us
  SameTotals-plus us vs =
      SameTotals-trans ring.modulus (SameTotals-equal ring.modulus _ _ (append_assoc us vs (minus vs)))
      (SameTotals-trans ring.modulus
      (SameTotals-append ring.modulus (SameTotals-refl ring.modulus us) (SameTotals-negative (place_keys ring.weights) ring.modulus positive.modulus vs))
      (SameTotals-equal ring.modulus _ _ (append-nil us)))

  -- a combination from which another is taken away
  pub row_combination-minus : (rows : List Vector) (c d us : List (Term Place)) → IsCanonicalRow ring us
      → row_combination ring rows c ≡ row_sum ring us (row_combination ring rows d)
      → row_combination ring rows (c ++ minus d) ≡ us
  unfolding multiple
  row_combination-minus rows c d us canonical e =
      let taken = row_combination ring rows d in
      let taken_canonical : IsCanonicalRow ring taken = IsCanonical-row_combination ring positive.modulus rows d in
      row_combination-append ring positive.modulus rows c (minus d)
      ∙ (λ i. row_sum ring (e i) ((row_combination-products ring positive rows (negative_one_term ring.modulus) d ∙ multiple-negative_one (place_keys ring.weights) ring.modulus positive.modulus taken taken_canonical) i))
      ∙ add-negative_front (place_keys ring.weights) ring.modulus positive.modulus us taken canonical taken_canonical

  -- a first term above all others stays the first
  pub normal-first : (t : Term Place) (us : List (Term Place)) → 0 < t.coefficient → t.coefficient < ring.modulus
      → IsAboveEach (place_cmp ring.weights) t.at us
      → normal (place_cmp ring.weights) ring.modulus (t ∷ us) ≡ t ∷ normal (place_cmp ring.weights) ring.modulus us
  normal-first t us nonzero below above =
      let cmp = place_cmp ring.weights in
      let p = ring.modulus in
      let rest : IsCanonical cmp p (normal cmp p us) = IsCanonical-normal cmp (place_cmp_linear ring.weights) p positive.modulus us in
      normal-SameTotals cmp (place_cmp_linear ring.weights) p positive.modulus
      (SameTotals-append p (SameTotals-refl p (t ∷ [])) (SameTotals-sym p (SameTotals-normal cmp (place_cmp_linear ring.weights) p us)))
      ∙ normal-canonical cmp (place_cmp_linear ring.weights) p positive.modulus (t ∷ normal cmp p us)
      (record {
        descending = (EachPlace-normal (λ k. cmp k t.at ≡ Less) cmp p us above, rest.descending);
        residues = ((nonzero, below), rest.residues);
      })
