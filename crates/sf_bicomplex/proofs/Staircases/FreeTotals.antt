-- Total complexes without relations: two maps, one after the other, give 0, and an element of one column that goes nowhere
-- along its row goes down alone.
use Rattle.std.proofs.Common.{◌≡◌, ℕ, zero, suc, ◌<◌, List, [], sym, ap, ◌∙◌, subst, refl, arith, ℤ, pos, ◌-ℤ◌}
use Rattle.sf_algebra.specs.Matrices.{Matrix}
use Rattle.sf_algebra.specs.MatrixOperations.{part_terms, row_combination}
use Rattle.sf_algebra.specs.Rings.{IsRing, Ring}
use Rattle.sf_algebra.specs.Terms.{Term}
use Rattle.sf_algebra.specs.VectorOperations.{row_sum}
use Rattle.sf_algebra.specs.Vectors.{IsCanonicalRow, Place, Vector}
use Rattle.sf_algebra.proofs.Basics.Lists.{AllByRecursion-weaken}
use Rattle.sf_algebra.proofs.Operators.Groups.{map-zero, unit_first}
use Rattle.sf_algebra.proofs.Vectors.RowSums.{row_sum-nil, row_sum-nil_first}
use Rattle.sf_algebra.proofs.Vectors.Rows.{IsCanonical-row_combination, row_combination-nil}
use Rattle.sf_algebra.proofs.Vectors.VectorGroups.{vectors_of_degree}
use Rattle.sf_algebra.proofs.Vectors.VectorProps.{vector_unique}
use Rattle.sf_groebner.specs.MinimalGenerators.{matrix_of}
use Rattle.sf_groebner.specs.Spans.{InSpan}
use Rattle.sf_groebner.proofs.PartsOfBases.PartLeads.{part_terms-before}
use Rattle.sf_groebner.proofs.WorkedExamples.FreeRelations.{span-no_rows}
use Rattle.sf_blocks.specs.DirectSums.{direct_sum}
use Rattle.sf_chase.specs.Columns.{ColumnOf, Columned}
use Rattle.sf_chase.specs.Staircases.{IsZeroAfter}
use Rattle.sf_bicomplex.specs.Bicomplexes.{Bicomplex, IsBicomplex}
use Rattle.sf_bicomplex.specs.TotalColumns.{column_start, place, total_degrees, total_module}
use Rattle.sf_bicomplex.proofs.Columns.ColumnParts.{part_terms-behind}
use Rattle.sf_bicomplex.proofs.TotalComplexes.ImageColumns.{image-columns}
use Rattle.sf_bicomplex.proofs.TotalComplexes.TotalGroups.{total-complex, total-differential, total_column, total_group, total_image, total_ring}
use Rattle.sf_bicomplex.proofs.TotalComplexes.TotalMaps.{dh-nothing}
use Rattle.sf_bicomplex.proofs.TotalComplexes.TotalModules.{lowest_module}

direct_sum-no_rows : (a b : Matrix) → a.rows ≡ [] → b.rows ≡ [] → (direct_sum a b).rows ≡ []
direct_sum-no_rows a b e f =
    λ i. (direct_sum (record { ring = a.ring; target = a.target; rows = e i })
    (record { ring = b.ring; target = b.target; rows = f i })).rows

-- the span of no rows is 0
pub nothing-spanned : (ring : Ring) → IsRing ring → (m : Matrix) → m.ring ≡ ring → m.rows ≡ [] → (v : Vector) → InSpan m v
    → v.terms ≡ []
nothing-spanned ring positive m rings none v e =
    let same : m ≡ matrix_of ring m.target [] = λ i. record { ring = rings i; target = m.target; rows = none i } in
    span-no_rows ring positive m.target v (subst (λ x. InSpan x v) same e)

module _ (b : Bicomplex) (h : IsBicomplex b) (free : (p : ℕ) (q : ℤ) → (b.relations p q).rows ≡ []) where
  pub lowest-no_rows : (n : ℤ) (k : ℕ) → (lowest_module b n k).rows ≡ []
  lowest-no_rows n zero = refl
  lowest-no_rows n (suc k) = direct_sum-no_rows (place b n k) (lowest_module b n k) (free k (n -ℤ pos k)) (lowest-no_rows n k)

  pub zero-after : (n m l : ℤ) (lower : m ≡ n -ℤ pos 1) (last : l ≡ m -ℤ pos 1) (d : ℤ)
      → IsZeroAfter (total_group b h n d) (total_group b h m d) (total_group b h l d) (total_image b h n m lower d)
      (total_image b h m l last d)
  zero-after n m l lower last d v =
      vector_unique b.ring (total_degrees b l) d _ _
      (nothing-spanned b.ring h.is_ring (total_module b l) (total_ring b h l d) (lowest-no_rows l b.columns) _
      (total-complex b h n m l lower last d v))

-- an element of a column whose coordinates are 0 is 0
column-zero : {R : Type 0} (X : Columned R) (j : ℕ) (C : ColumnOf X j) (v : X.group.V) → X.column j v
    → C.taken v ≡ C.group.zero → v ≡ X.group.zero
column-zero X j C v column none =
    sym (C.put_taken v column) ∙ ap C.put none ∙ map-zero C.group X.group C.put C.put_map

module _ (b : Bicomplex) (h : IsBicomplex b) (n m : ℤ) (lower : m ≡ n -ℤ pos 1) (d : ℤ) where
  abbrev V : Type 0
  V = (vectors_of_degree b.ring h.is_ring.modulus (total_degrees b n) d).V

  abbrev image : V → (vectors_of_degree b.ring h.is_ring.modulus (total_degrees b m) d).V
  image = total_image b h n m lower d

  -- the coordinates of an element of a column in the next lower one, and in the next higher one
  pub no_lower : (p : ℕ) (v : (total_group b h n d).group.V) → (total_group b h n d).column (suc p) v
      → part_terms (column_start b n (suc p)) (column_start b n p) v.0 ≡ []
  no_lower p v column =
      part_terms-before (column_start b n (suc p)) (column_start b n p) v.0
      (AllByRecursion-weaken _ _ (λ t e. e.1) v.0 column)

  pub no_higher : (p : ℕ) (v : (total_group b h n d).group.V) → (total_group b h n d).column p v
      → part_terms (column_start b n (suc (suc p))) (column_start b n (suc p)) v.0 ≡ []
  no_higher p v column =
      part_terms-behind (column_start b n (suc (suc p))) (column_start b n (suc p)) v.0
      (AllByRecursion-weaken _ _ (λ t e. e.0) v.0 column)

  abbrev dv : ℕ → List (Term Place) → List (Term Place)
  dv p us = row_combination b.ring (b.vertical p (n -ℤ pos p)).rows us

  abbrev dh : ℕ → List (Term Place) → List (Term Place)
  dh p us = row_combination b.ring (b.horizontal p (n -ℤ pos p)).rows us

  none_down : (p : ℕ) → dv p [] ≡ []
  none_down p = row_combination-nil b.ring h.is_ring.modulus (b.vertical p (n -ℤ pos p)).rows

  none_across : (p : ℕ) → dh p [] ≡ []
  none_across p = row_combination-nil b.ring h.is_ring.modulus (b.horizontal p (n -ℤ pos p)).rows

  canonical : (rows : List Vector) (us : List (Term Place)) → IsCanonicalRow b.ring (row_combination b.ring rows us)
  canonical rows us = IsCanonical-row_combination b.ring h.is_ring.modulus rows us

  -- of an element of column t + 1, its image has dh of it in column t
  pub image-lower : (t : ℕ) → suc t < b.columns → (v : (total_group b h n d).group.V)
      → (total_group b h n d).column (suc t) v
      → part_terms (column_start b m (suc t)) (column_start b m t) (total_image b h n m lower d v).0
      ≡ dh (suc t) (part_terms (column_start b n (suc (suc t))) (column_start b n (suc t)) v.0)
  image-lower t inside v column =
      let across = dh (suc t) (part_terms (column_start b n (suc (suc t))) (column_start b n (suc t)) v.0) in
      image-columns b h n m lower d b.columns t (omega arith) v.0 v.1
      ∙ (λ i. row_sum b.ring ((ap (dv t) (no_lower t v column) ∙ none_down t) i) across)
      ∙ row_sum-nil_first b.ring h.is_ring.modulus across (canonical _ _)

  -- and dv of it in its own column
  pub image-same : (p : ℕ) → p < b.columns → (v : (total_group b h n d).group.V)
      → (total_group b h n d).column p v
      → part_terms (column_start b m (suc p)) (column_start b m p) (total_image b h n m lower d v).0
      ≡ dv p (part_terms (column_start b n (suc p)) (column_start b n p) v.0)
  image-same p inside v column =
      let down = dv p (part_terms (column_start b n (suc p)) (column_start b n p) v.0) in
      image-columns b h n m lower d b.columns p inside v.0 v.1
      ∙ (λ i. row_sum b.ring down ((ap (dh (suc p)) (no_higher p v column) ∙ none_across (suc p)) i))
      ∙ row_sum-nil b.ring h.is_ring.modulus down (canonical _ _)

  -- what stands in a column and goes nowhere along the row has its image there
  pub flat-image : (p : ℕ) → p < b.columns → (v : (total_group b h n d).group.V) → (total_group b h n d).column p v
      → dh p (part_terms (column_start b n (suc p)) (column_start b n p) v.0) ≡ []
      → (total_group b h m d).column p (total_image b h n m lower d v)
  flat-image zero inside v column none =
      let W = total_group b h m d in
      let parts =
      W.highest 0 (image v) ((total-differential b h n m lower d).keeps 1 v ((total_group b h n d).column_below 0 v column)) in
      let same : parts.0 ≡ image v =
      sym (W.group.unit parts.0) ∙ ap (W.group.plus parts.0) (sym (W.nothing_lower parts.1 parts.3)) ∙ parts.4 in
      subst (W.column 0) same parts.2
  flat-image (suc t) inside v column none =
      let W = total_group b h m d in
      let D = total_column b h m d t (omega arith) in
      let parts = (total-differential b h n m lower d).steps t v column in
      let zero_part : D.taken parts.0 ≡ D.group.zero =
      vector_unique b.ring (place b m t).target d _ _
      (part_terms-before (column_start b m (suc t)) (column_start b m t) (parts.0).0
      (AllByRecursion-weaken _ _ (λ x e. e.1) (parts.0).0 parts.2)) in
      let zero_image : D.taken (image v) ≡ D.group.zero =
      vector_unique b.ring (place b m t).target d _ _ (image-lower t inside v column ∙ none) in
      let zero_rest : D.taken parts.1 ≡ D.group.zero =
      sym (unit_first D.group (D.taken parts.1))
      ∙ ap (λ x. D.group.plus x (D.taken parts.1)) (sym zero_part)
      ∙ sym (D.taken_map.to_plus parts.0 parts.1) ∙ ap D.taken parts.4 ∙ zero_image in
      let rest : parts.1 ≡ W.group.zero = column-zero W t D parts.1 parts.3 zero_rest in
      let same : parts.0 ≡ image v =
      sym (W.group.unit parts.0) ∙ ap (W.group.plus parts.0) (sym rest) ∙ parts.4 in
      subst (W.column (suc t)) same parts.2

  -- and what stands in a column with its image goes nowhere along the row
  pub image-flat : (p : ℕ) → p < b.columns → (v : (total_group b h n d).group.V) → (total_group b h n d).column p v
      → (total_group b h m d).column p (total_image b h n m lower d v)
      → dh p (part_terms (column_start b n (suc p)) (column_start b n p) v.0) ≡ []
  image-flat zero inside v column there =
      dh-nothing b h n m lower d _ ((total_column b h n d 0 inside).taken v).1
  image-flat (suc t) inside v column there =
      sym (image-lower t inside v column)
      ∙ part_terms-before (column_start b m (suc t)) (column_start b m t) (image v).0
      (AllByRecursion-weaken _ _ (λ x e. e.1) (image v).0 there)
