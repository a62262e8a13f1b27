-- Matrices that raise no column and reach no further than the next lower one are differentials of vectors in columns.
use Rattle.std.proofs.Common.{◌≡◌, ℕ, suc, ◌<◌, ◌≤◌, List, length, sym, subst, ℤ}
use Rattle.std.specs.List.{AllByRecursion}
use Rattle.sf_algebra.specs.Groups.{IsMap, SumOf}
use Rattle.sf_algebra.specs.Matrices.{Matrix, IsMatrix, degrees_of}
use Rattle.sf_algebra.specs.MatrixOperations.{row_at, row_combination}
use Rattle.sf_algebra.specs.Rings.{Ring, IsRing}
use Rattle.sf_algebra.specs.Terms.{Term}
use Rattle.sf_algebra.specs.Vectors.{Place, Vector, IsVector}
use Rattle.sf_algebra.proofs.Basics.Lists.{AllByRecursion-back, AllByRecursion-front, AllByRecursion-weaken}
use Rattle.sf_algebra.proofs.Terms.Normal.{EachPlace}
use Rattle.sf_algebra.proofs.Vectors.HomogeneousVectors.{IsVector-row_combination}
use Rattle.sf_algebra.proofs.Vectors.Rows.{row_combination-add}
use Rattle.sf_algebra.proofs.Vectors.VectorGroups.{vectors_of_degree}
use Rattle.sf_algebra.proofs.Vectors.VectorProps.{vector_unique}
use Rattle.sf_groebner.specs.MinimalGenerators.{matrix_of}
use Rattle.sf_groebner.specs.Spans.{InSpan}
use Rattle.sf_groebner.proofs.Basics.Items.{AllByRecursion-both}
use Rattle.sf_groebner.proofs.PairTheorems.TopCoefficients.{EachPlace-row_combination}
use Rattle.sf_groebner.proofs.Spanning.SpanGroups.{of_degree}
use Rattle.sf_chase.specs.Columns.{IsDifferential}
use Rattle.sf_bicomplex.proofs.Columns.ColumnVectors.{below_column, column_vectors, in_column}
use Rattle.sf_bicomplex.proofs.Columns.Splits.{split_at}

-- where the terms of the rows may stand: no column higher, and no further than the next lower column
pub record StepsDown (low lower : ℕ → ℕ) (rows : List Vector) : Type 0 where
  pub keeps : (i j : ℕ) → low j ≤ i → EachPlace (λ k. lower j ≤ k.position) (row_at rows i)
  pub reaches : (i j : ℕ) → i < low (suc j) → EachPlace (λ k. k.position < lower j) (row_at rows i)

module _ (ring : Ring) (positive : IsRing ring) (source target : List ℤ) (rows : List Vector)
    (matrix : IsMatrix (matrix_of ring target rows)) (sources : degrees_of rows ≡ source) (d : ℤ) where
  pub IsVector-image : (ts : List (Term Place)) → IsVector ring source (record { degree = d; terms = ts })
      → IsVector ring target (record { degree = d; terms = row_combination ring rows ts })
  IsVector-image ts h =
      IsVector-row_combination (matrix_of ring target rows) positive.modulus matrix (record { degree = d; terms = ts })
      (subst (λ ds. IsVector ring ds (record { degree = d; terms = ts })) (sym sources) h)

  -- the combination of the rows
  abbrev pub image_of : (vectors_of_degree ring positive.modulus source d).V
      → (vectors_of_degree ring positive.modulus target d).V
  image_of c = (row_combination ring rows c.0, IsVector-image c.0 c.1)

  pub image_of-map : IsMap (vectors_of_degree ring positive.modulus source d)
      (vectors_of_degree ring positive.modulus target d)
      image_of
  image_of-map = record {
    to_plus = λ u v. vector_unique ring target d _ _ (row_combination-add ring positive.modulus rows u.0 v.0);
    to_act = λ r. absurd r;
  }

  module _ (low lower : ℕ → ℕ) (down : StepsDown low lower rows) where
    pub image-below : (j : ℕ) (v : (vectors_of_degree ring positive.modulus source d).V)
        → below_column ring positive source d low j v → below_column ring positive target d lower j (image_of v)
    image-below j v h =
        EachPlace-row_combination (λ k. lower j ≤ k.position) ring rows v.0
        (AllByRecursion-weaken _ _ (λ t e. down.keeps t.at.position j e) v.0 h)

    image-reaches : (j : ℕ) (v : (vectors_of_degree ring positive.modulus source d).V)
        → in_column ring positive source d low (suc j) v → EachPlace (λ k. k.position < lower j) (image_of v).0
    image-reaches j v h =
        EachPlace-row_combination (λ k. k.position < lower j) ring rows v.0
        (AllByRecursion-weaken _ _ (λ t e. down.reaches t.at.position j e.1) v.0 h)

    pub image-steps : (j : ℕ) (v : (vectors_of_degree ring positive.modulus source d).V)
        → in_column ring positive source d low (suc j) v
        → SumOf (vectors_of_degree ring positive.modulus target d) (in_column ring positive target d lower (suc j))
        (in_column ring positive target d lower j) (image_of v)
    image-steps j v h =
        let image = image_of v in
        let split = split_at ring positive target d (lower (suc j)) image.0 image.1 in
        let above : EachPlace (λ k. lower (suc (suc j)) ≤ k.position) image.0 =
        image-below (suc (suc j)) v (AllByRecursion-weaken _ _ (λ t e. e.0) v.0 h) in
        let all = subst (AllByRecursion (λ t. lower (suc (suc j)) ≤ t.at.position)) (sym split.together) above in
        let near = subst (AllByRecursion (λ t. t.at.position < lower j)) (sym split.together) (image-reaches j v h) in (
          (split.before, split.before_vector),
          (split.after, split.after_vector),
          AllByRecursion-both _ _ _ (λ t e f. (e, f)) split.before
              (AllByRecursion-front _ split.before split.after all) split.stand_before,
          AllByRecursion-both _ _ _ (λ t e f. (e, f)) split.after split.stand_after
              (AllByRecursion-back _ split.before split.after near),
          vector_unique ring target d _ image split.sum,
        )

    module _ (falls : (k : ℕ) → low (suc k) ≤ low k) (relations : Matrix) (rings : relations.ring ≡ ring)
        (sources' : relations.target ≡ source) (is_matrix : IsMatrix relations) (all : length source ≤ low 0)
        (lower_falls : (k : ℕ) → lower (suc k) ≤ lower k) (others : Matrix) (other_rings : others.ring ≡ ring)
        (targets : others.target ≡ target) (other_matrix : IsMatrix others) (lower_all : length target ≤ lower 0) where
      pub differential-columns : ((v : (vectors_of_degree ring positive.modulus source d).V)
          → of_degree (InSpan relations) ring positive source d v
          → InSpan others (record { degree = d; terms = row_combination ring rows v.0 }))
          → IsDifferential (column_vectors ring positive source d low falls relations rings sources' is_matrix all)
          (column_vectors ring positive target d lower lower_falls others other_rings targets other_matrix lower_all)
          image_of
      differential-columns sends = record {
        map = image_of-map;
        relates = sends;
        keeps = image-below;
        steps = image-steps;
      }
