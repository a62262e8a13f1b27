-- One column of vectors as a group of its own: its vectors are moved to the column's first position, and the terms at
-- the column's positions are read off.
use Rattle.std.proofs.Common.{◌≡◌, ℕ, suc, ◌+◌, ◌-◌, ◌<◌, ◌≤◌, List, [], ◌∷◌, ◌++◌, length, sym, ap, ◌∙◌, subst, inr, refl, arith, ℤ, pos, ◌+ℤ◌, slice_range}
use Rattle.std.specs.List.{AllByRecursion}
use Rattle.sf_algebra.specs.Groups.{Group, IsMap}
use Rattle.sf_algebra.specs.Matrices.{Matrix, IsMatrix}
use Rattle.sf_algebra.specs.MatrixOperations.{moved, part_terms}
use Rattle.sf_algebra.specs.Monomials.{monomial_degree}
use Rattle.sf_algebra.specs.Rings.{Ring, IsRing}
use Rattle.sf_algebra.specs.Terms.{Term}
use Rattle.sf_algebra.specs.Vectors.{Place, IsHomogeneous, IsVector, generator_degree}
use Rattle.sf_algebra.proofs.Basics.Lists.{AllByRecursion-weaken}
use Rattle.sf_algebra.proofs.GradedMatrices.MatrixRows.{StandsWithin}
use Rattle.sf_algebra.proofs.GradedMatrices.PartTerms.{IsVector-part_terms, generator_degree-slice_range, part_terms-outside}
use Rattle.sf_algebra.proofs.Tensors.KroneckerUnits.{IsCanonical-moved}
use Rattle.sf_algebra.proofs.Terms.Normal.{EachPlace}
use Rattle.sf_algebra.proofs.Vectors.VectorGroups.{vectors_of_degree}
use Rattle.sf_algebra.proofs.Vectors.VectorProps.{vector_unique}
use Rattle.sf_groebner.specs.Spans.{InSpan}
use Rattle.sf_groebner.proofs.PartsOfBases.PairedVectors.{paired_terms-parts, part_terms-pair_last}
use Rattle.sf_groebner.proofs.PartsOfBases.PartLeads.{part_terms-past}
use Rattle.sf_groebner.proofs.PartsOfBases.PartSums.{part_terms-add}
use Rattle.sf_groebner.proofs.Spanning.SpanCombinations.{span_submodule_of}
use Rattle.sf_groebner.proofs.Spanning.SpanGroups.{of_degree}
use Rattle.sf_blocks.proofs.Kroneckers.PairedFactors.{moved-row_sum}
use Rattle.sf_chase.specs.Columns.{ColumnOf}
use Rattle.sf_bicomplex.proofs.Columns.ColumnVectors.{column_vectors, submodule-sub}
use Rattle.sf_bicomplex.proofs.Columns.Splits.{StandsWithin-vector}

-- nothing is read off where all terms stand behind the range
pub part_terms-behind : (from to : ℕ) (ts : List (Term Place)) → AllByRecursion (λ t. to ≤ t.at.position) ts
    → part_terms from to ts ≡ []
part_terms-behind from to [] h = refl
part_terms-behind from to (t ∷ ts) h = part_terms-outside from to t ts (inr h.0) ∙ part_terms-behind from to ts h.1

-- a column of the free module: its generators have the degrees `es`, and stand from position `from` to before `to`
pub record IsRange (degrees es : List ℤ) (from to : ℕ) : Type 0 where
  pub slice : slice_range degrees from to ≡ es
  pub size : from + length es ≡ to
  pub inside : to ≤ length degrees

module _ (ring : Ring) (positive : IsRing ring) (degrees es : List ℤ) (from to : ℕ)
    (range : IsRange degrees es from to) (d : ℤ) where
  abbrev pub column_group : Group ⊥
  column_group = vectors_of_degree ring positive.modulus es d

  abbrev pub whole_group : Group ⊥
  whole_group = vectors_of_degree ring positive.modulus degrees d

  moved-homogeneous : (ts : List (Term Place)) → IsHomogeneous ring.weights es d ts
      → IsHomogeneous ring.weights degrees d (moved from ts)
  moved-homogeneous [] h = tt
  moved-homogeneous (t ∷ ts) h =
      let i = t.at.position in
      let size = range.size in
      let inside = range.inside in
      let within : i < length es = h.0.0 in
      let back : (from + i) - from ≡ i = omega arith in
      let same : generator_degree es i ≡ generator_degree degrees (from + i) =
      (λ k. generator_degree (sym range.slice k) (sym back k))
      ∙ generator_degree-slice_range degrees from to (from + i) (omega arith) (omega arith) in
      ((omega arith, h.0.1 ∙ ap (λ e. e +ℤ pos (monomial_degree ring.weights t.at.monomial)) same), moved-homogeneous ts h.1)

  pub IsVector-put : (ts : List (Term Place)) → IsVector ring es (record { degree = d; terms = ts })
      → IsVector ring degrees (record { degree = d; terms = moved from ts })
  IsVector-put ts h = record {
    canonical = IsCanonical-moved ring from ts h.canonical;
    homogeneous = moved-homogeneous ts h.homogeneous;
  }

  pub IsVector-taken : (ts : List (Term Place)) → IsVector ring degrees (record { degree = d; terms = ts })
      → IsVector ring es (record { degree = d; terms = part_terms from to ts })
  IsVector-taken ts h =
      subst (λ fs. IsVector ring fs (record { degree = d; terms = part_terms from to ts })) range.slice
      (IsVector-part_terms ring degrees from to (record { degree = d; terms = ts }) h)

  abbrev pub put_column : (vectors_of_degree ring positive.modulus es d).V
      → (vectors_of_degree ring positive.modulus degrees d).V
  put_column c = (moved from c.0, IsVector-put c.0 c.1)

  abbrev pub take_column : (vectors_of_degree ring positive.modulus degrees d).V
      → (vectors_of_degree ring positive.modulus es d).V
  take_column v = (part_terms from to v.0, IsVector-taken v.0 v.1)

  pub put_column-map : IsMap column_group whole_group put_column
  put_column-map = record {
    to_plus = λ c e. vector_unique ring degrees d _ _ (moved-row_sum ring positive.modulus from c.0 e.0);
    to_act = λ r. absurd r;
  }

  pub take_column-map : IsMap whole_group column_group take_column
  take_column-map = record {
    to_plus = λ v w. vector_unique ring es d _ _ (part_terms-add ring from to positive v.0 w.0);
    to_act = λ r. absurd r;
  }

  pub put-stands : (c : column_group.V) → EachPlace (λ k. (from ≤ k.position) × (k.position < to)) (put_column c).0
  put-stands c =
      each c.0 (StandsWithin-vector ring es _ c.1)
    where
      each : (ts : List (Term Place)) → StandsWithin (length es) ts
          → EachPlace (λ k. (from ≤ k.position) × (k.position < to)) (moved from ts)
      each [] h = tt
      each (t ∷ ts) h =
          let size = range.size in
          let within : t.at.position < length es = h.0 in
          ((omega arith, omega arith), each ts h.1)

  pub take-put : (c : column_group.V) → take_column (put_column c) ≡ c
  take-put c =
      vector_unique ring es d _ c
      (subst (λ n. part_terms from n (moved from c.0) ≡ c.0) range.size
      (part_terms-pair_last from (length es) [] c.0 tt (StandsWithin-vector ring es _ c.1)))

  pub put-take : (v : whole_group.V) → EachPlace (λ k. (from ≤ k.position) × (k.position < to)) v.0
      → put_column (take_column v) ≡ v
  put-take v h =
      let size = range.size in
      let within : StandsWithin (from + length es) v.0 =
      AllByRecursion-weaken (λ (t : Term Place). (from ≤ t.at.position) × (t.at.position < to)) _
      (λ t e. let before : t.at.position < to = e.1 in omega arith) v.0 h in
      let none : part_terms 0 from v.0 ≡ [] = part_terms-past from v.0 (AllByRecursion-weaken _ _ (λ t e. e.0) v.0 h) in
      vector_unique ring degrees d _ v
      (ap (λ n. moved from (part_terms from n v.0)) (sym size)
      ∙ subst (λ us. us ++ moved from (part_terms from (from + length es) v.0) ≡ v.0) none
      (paired_terms-parts ring.weights from (length es) v.0 v.1.canonical.descending within))

module _ (ring : Ring) (positive : IsRing ring) (degrees : List ℤ) (d : ℤ) (low : ℕ → ℕ)
    (falls : (k : ℕ) → low (suc k) ≤ low k) (relations : Matrix) (rings : relations.ring ≡ ring)
    (targets : relations.target ≡ degrees) (matrix : IsMatrix relations) (all : length degrees ≤ low 0) (j : ℕ)
    (column : Matrix) (column_rings : column.ring ≡ ring) (column_matrix : IsMatrix column)
    (range : IsRange degrees column.target (low (suc j)) (low j)) where
  -- the column j with the relations of its module
  abbrev pub column_of : ((c : (vectors_of_degree ring positive.modulus column.target d).V)
      → of_degree (InSpan column) ring positive column.target d c
      → InSpan relations (record { degree = d; terms = moved (low (suc j)) c.0 }))
      → ((v : (vectors_of_degree ring positive.modulus degrees d).V)
      → of_degree (InSpan relations) ring positive degrees d v
      → InSpan column (record { degree = d; terms = part_terms (low (suc j)) (low j) v.0 }))
      → ColumnOf (column_vectors ring positive degrees d low falls relations rings targets matrix all) j
  column_of puts takes = record {
    group = vectors_of_degree ring positive.modulus column.target d;
    relations = of_degree (InSpan column) ring positive column.target d;
    relations_sub =
        submodule-sub ring positive column.target (InSpan column)
        (span_submodule_of ring positive column.target column column_rings refl column_matrix) d;
    put = put_column ring positive degrees column.target (low (suc j)) (low j) range d;
    taken = take_column ring positive degrees column.target (low (suc j)) (low j) range d;
    put_map = put_column-map ring positive degrees column.target (low (suc j)) (low j) range d;
    taken_map = take_column-map ring positive degrees column.target (low (suc j)) (low j) range d;
    taken_put = take-put ring positive degrees column.target (low (suc j)) (low j) range d;
    put_column = put-stands ring positive degrees column.target (low (suc j)) (low j) range d;
    put_taken = put-take ring positive degrees column.target (low (suc j)) (low j) range d;
    taken_below = λ v h. vector_unique ring column.target d _ _ (part_terms-behind (low (suc j)) (low j) v.0 h);
    put_relations = puts;
    taken_relations = takes;
  }
