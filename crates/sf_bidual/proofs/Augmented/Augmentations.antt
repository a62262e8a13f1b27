-- Rows that are exact but for the highest column, and what is set there, as groups in columns.
use Rattle.std.proofs.Common.{◌≡◌, ◌<◌, ℕ, suc, List, [], sym, ◌∙◌, ap, subst, arith, ℤ, pos, ◌-ℤ◌}
use Rattle.std.proofs.lemmas.Int.{ints}
use Rattle.sf_algebra.specs.Groups.{Group, IsMap}
use Rattle.sf_algebra.specs.Matrices.{Matrix, IsMatrix}
use Rattle.sf_algebra.specs.MatrixOperations.{row_combination}
use Rattle.sf_algebra.specs.Vectors.{Vector, IsVector}
use Rattle.sf_algebra.proofs.GradedMatrices.Columns.{AllByRecursion-always}
use Rattle.sf_algebra.proofs.Operators.Groups.{map-zero, minus_only, unit_first}
use Rattle.sf_algebra.proofs.Vectors.VectorGroups.{vectors_of_degree}
use Rattle.sf_algebra.proofs.Vectors.VectorProps.{vector_unique}
use Rattle.sf_groebner.specs.MinimalGenerators.{matrix_of}
use Rattle.sf_groebner.specs.Spans.{combined_rows}
use Rattle.sf_blocks.specs.BlockLists.{IsFrom}
use Rattle.sf_chase.specs.Columns.{ColumnOf}
use Rattle.sf_chase.specs.Staircases.{IsAugmentation, IsExactRow, IsZeroAfter, ResolvesRow}
use Rattle.sf_bicomplex.specs.Bicomplexes.{Bicomplex, IsBicomplex}
use Rattle.sf_bicomplex.specs.TotalColumns.{column_start, place, total_degrees}
use Rattle.sf_bicomplex.proofs.Columns.ColumnMaps.{image_of, image_of-map}
use Rattle.sf_bicomplex.proofs.TotalComplexes.Diagonals.{row-left}
use Rattle.sf_bicomplex.proofs.TotalComplexes.TotalGroups.{total-complex, total-differential, total_column, total_group, total_image}
use Rattle.sf_bidual.proofs.Augmented.Flats.{column_terms, dh_terms, dv_terms, flat_back, flat_there, higher_none, image_here, image_left}
use Rattle.sf_bidual.proofs.Augmented.FreeTotals.{relation-zero}

-- a bicomplex of free modules with columns up to n, whose rows are exact below column n, and where the free modules with
-- generators of these degrees, with maps from each to the next lower one, are set into column n, one to one
pub record IsAugmentedBy (b : Bicomplex) (n : ℕ) (degrees : ℤ → List ℤ) (augmentation map : ℤ → Matrix) : Type 0 where
  pub columns : b.columns ≡ suc n
  pub free : (p : ℕ) (q : ℤ) → (b.relations p q).rows ≡ []
  pub exact : (p : ℕ) (q : ℤ) → p < n → (z : Vector) → IsVector b.ring (b.relations p q).target z
      → row_combination b.ring (b.horizontal p q).rows z.terms ≡ []
      → (y : Vector) × IsVector b.ring (b.relations (suc p) q).target y
      × (combined_rows b.ring (b.horizontal (suc p) q).rows y ≡ z)
  pub augmentation_from : (q : ℤ) → IsFrom b.ring (degrees q) (augmentation q)
  pub augmentation_target : (q : ℤ) → (augmentation q).target ≡ (b.relations n q).target
  pub map_from : (q : ℤ) → IsFrom b.ring (degrees q) (map q)
  pub map_target : (q r : ℤ) → r ≡ q -ℤ pos 1 → (map q).target ≡ degrees r
  pub one_to_one : (q : ℤ) (v : Vector) → IsVector b.ring (degrees q) v
      → row_combination b.ring (augmentation q).rows v.terms ≡ [] → v.terms ≡ []
  pub onto : (q : ℤ) (z : Vector) → IsVector b.ring (b.relations n q).target z
      → row_combination b.ring (b.horizontal n q).rows z.terms ≡ []
      → (m : Vector) × IsVector b.ring (degrees q) m × (combined_rows b.ring (augmentation q).rows m ≡ z)
  pub cycles : (q : ℤ) (m : Vector) → IsVector b.ring (degrees q) m
      → row_combination b.ring (b.horizontal n q).rows (row_combination b.ring (augmentation q).rows m.terms) ≡ []
  pub passes : (q r : ℤ) → r ≡ q -ℤ pos 1 → (m : Vector) → IsVector b.ring (degrees q) m
      → row_combination b.ring (b.vertical n q).rows (row_combination b.ring (augmentation q).rows m.terms)
      ≡ row_combination b.ring (augmentation r).rows (row_combination b.ring (map q).rows m.terms)

module _ (b : Bicomplex) (h : IsBicomplex b) (n : ℕ) (degrees : ℤ → List ℤ) (augmentation map : ℤ → Matrix)
    (k : IsAugmentedBy b n degrees augmentation map) (d : ℤ) where
  pub inside : n < b.columns
  inside = let columns = k.columns in omega arith

  -- a map, with the target as it is known
  known : (m : Matrix) (source target : List ℤ) → IsFrom b.ring source m → m.target ≡ target
      → IsMatrix (matrix_of b.ring target m.rows)
  known m source target from same =
      subst IsMatrix (λ i. record { ring = from.ring_of i; target = same i; rows = m.rows }) from.matrix

  row-below : (t m : ℤ) → m ≡ t -ℤ pos 1 → m -ℤ pos n ≡ t -ℤ pos n -ℤ pos 1
  row-below t m e = omega (arith, ints)

  module _ (t : ℤ) where
    abbrev q : ℤ
    q = t -ℤ pos n

    abbrev pub set_group : Group ⊥
    set_group = vectors_of_degree b.ring h.is_ring.modulus (degrees (t -ℤ pos n)) d

    pub augmentation-matrix : IsMatrix (matrix_of b.ring (place b t n).target (augmentation (t -ℤ pos n)).rows)
    augmentation-matrix =
        known (augmentation q) (degrees q) (place b t n).target (k.augmentation_from q) (k.augmentation_target q)

    -- coefficients, in the module of column n
    abbrev pub in_place : (vectors_of_degree b.ring h.is_ring.modulus (degrees (t -ℤ pos n)) d).V
        → (vectors_of_degree b.ring h.is_ring.modulus (place b t n).target d).V
    in_place =
        image_of b.ring h.is_ring (degrees (t -ℤ pos n)) (place b t n).target (augmentation (t -ℤ pos n)).rows
        augmentation-matrix (k.augmentation_from (t -ℤ pos n)).source_of d

    abbrev pub top : ColumnOf (total_group b h t d) n
    top = total_column b h t d n inside

    -- and set into the total complex
    abbrev pub set : (vectors_of_degree b.ring h.is_ring.modulus (degrees (t -ℤ pos n)) d).V
        → (vectors_of_degree b.ring h.is_ring.modulus (total_degrees b t) d).V
    set m = (total_column b h t d n inside).put (in_place m)

    in_place-map : IsMap (vectors_of_degree b.ring h.is_ring.modulus (degrees (t -ℤ pos n)) d)
        (vectors_of_degree b.ring h.is_ring.modulus (place b t n).target d)
        in_place
    in_place-map =
        image_of-map b.ring h.is_ring (degrees (t -ℤ pos n)) (place b t n).target (augmentation (t -ℤ pos n)).rows
        augmentation-matrix (k.augmentation_from (t -ℤ pos n)).source_of d

    pub set-augmentation : IsAugmentation (vectors_of_degree b.ring h.is_ring.modulus (degrees (t -ℤ pos n)) d)
        (total_group b h t d) n set
    set-augmentation = record {
      map = record {
        to_plus = λ u v. ap top.put (in_place-map.to_plus u v) ∙ top.put_map.to_plus (in_place u) (in_place v);
        to_act = λ r. absurd r;
      };
      inside = λ m. top.put_column (in_place m);
      one_to_one = λ m e.
          let Y = total_group b h t d in
          let none : in_place m ≡ top.group.zero =
          sym (top.taken_put (in_place m)) ∙ ap top.taken e ∙ map-zero Y.group top.group top.taken top.taken_map in
          vector_unique b.ring (degrees q) d m _
          (k.one_to_one q (record { degree = d; terms = m.0 }) m.1 (ap (λ w. w.0) none));
    }

    pub all_below : (v : (vectors_of_degree b.ring h.is_ring.modulus (total_degrees b t) d).V)
        → (total_group b h t d).below (suc n) v
    all_below v =
        let none : column_start b t (suc n) ≡ 0 = subst (λ c. column_start b t c ≡ 0) k.columns (omega arith) in
        AllByRecursion-always _ (λ s. omega (arith, none)) v.0

  -- from one degree of the total complex to the next lower one
  module _ (t m : ℤ) (lower : m ≡ t -ℤ pos 1) where
    pub map-matrix : IsMatrix (matrix_of b.ring (degrees (m -ℤ pos n)) (map (t -ℤ pos n)).rows)
    map-matrix =
        known (map (t -ℤ pos n)) (degrees (t -ℤ pos n)) (degrees (m -ℤ pos n)) (k.map_from (t -ℤ pos n))
        (k.map_target (t -ℤ pos n) (m -ℤ pos n) (row-below t m lower))

    abbrev pub set_map : (vectors_of_degree b.ring h.is_ring.modulus (degrees (t -ℤ pos n)) d).V
        → (vectors_of_degree b.ring h.is_ring.modulus (degrees (m -ℤ pos n)) d).V
    set_map =
        image_of b.ring h.is_ring (degrees (t -ℤ pos n)) (degrees (m -ℤ pos n)) (map (t -ℤ pos n)).rows map-matrix
        (k.map_from (t -ℤ pos n)).source_of d

    abbrev image : (vectors_of_degree b.ring h.is_ring.modulus (total_degrees b t) d).V
        → (vectors_of_degree b.ring h.is_ring.modulus (total_degrees b m) d).V
    image = total_image b h t m lower d

    pub set-passes : (v : (vectors_of_degree b.ring h.is_ring.modulus (degrees (t -ℤ pos n)) d).V)
        → total_image b h t m lower d (set t v) ≡ set m (set_map v)
    set-passes v =
        let there = top t in
        let here = top m in
        let s = set t v in
        let column = there.put_column (in_place t v) in
        let taken : column_terms b h d t n s.0 ≡ (in_place t v).0 = ap (λ w. w.0) (there.taken_put (in_place t v)) in
        let vector : Vector = record { degree = d; terms = v.0 } in
        let flat : (total_group b h m d).column n (image s) =
        flat_back b h d t m lower n inside s column
        (ap (dh_terms b h d t m lower n) taken ∙ k.cycles (t -ℤ pos n) vector v.1) in
        let value : here.taken (image s) ≡ in_place m (set_map v) =
        vector_unique b.ring (place b m n).target d _ _
        (image_here b h d t m lower n inside s column ∙ ap (dv_terms b h d t m lower n) taken
        ∙ k.passes (t -ℤ pos n) (m -ℤ pos n) (row-below t m lower) vector v.1) in
        sym (here.put_taken (image s) flat) ∙ ap here.put value

    -- what goes nowhere along the row of column n is set
    pub set-resolves : ResolvesRow (total_group b h t d) (total_group b h m d) (total_image b h t m lower d) n (set t)
    set-resolves v flat =
        let there = top t in
        let z : Vector = record { degree = d; terms = column_terms b h d t n v.0 } in
        let found = k.onto (t -ℤ pos n) z (there.taken v).1 (flat_there b h d t m lower n inside v flat.0 flat.1) in
        let degree : found.0.degree ≡ d = ap (λ (w : Vector). w.degree) found.2 in
        let element : (vectors_of_degree b.ring h.is_ring.modulus (degrees (t -ℤ pos n)) d).V = (
          found.0.terms,
          subst (λ e. IsVector b.ring (degrees (t -ℤ pos n)) (record { degree = e; terms = found.0.terms })) degree found.1,
        ) in
        let value : there.taken v ≡ in_place t element =
        vector_unique b.ring (place b t n).target d _ _ (sym (ap (λ (w : Vector). w.terms) found.2)) in
        (element, sym (there.put_taken v flat.0) ∙ ap there.put value)

  pub zero_after : (above t m : ℤ) (up : t ≡ above -ℤ pos 1) (lower : m ≡ t -ℤ pos 1)
      → IsZeroAfter (total_group b h above d) (total_group b h t d) (total_group b h m d)
      (total_image b h above t up d) (total_image b h t m lower d)
  zero_after above t m up lower v =
      vector_unique b.ring (total_degrees b m) d _ _
      (relation-zero b h k.free m _ (total-complex b h above t m up lower d v))

  -- rows are exact below column n
  pub rows_exact : (above t m : ℤ) (up : t ≡ above -ℤ pos 1) (lower : m ≡ t -ℤ pos 1) (j : ℕ) → j < n
      → IsExactRow (total_group b h above d) (total_group b h t d) (total_group b h m d)
      (total_image b h above t up d) (total_image b h t m lower d) j
  rows_exact above t m up lower j before v flat =
      let Y = total_group b h t d in
      let columns = k.columns in
      let within : j < b.columns = omega arith in
      let next : suc j < b.columns = omega arith in
      let C = total_column b h t d j within in
      let D = total_column b h above d (suc j) next in
      let z : Vector = record { degree = d; terms = column_terms b h d t j v.0 } in
      let found = k.exact j (t -ℤ pos j) before z (C.taken v).1
      (flat_there b h d t m lower j within v flat.0 flat.1) in
      let row : t -ℤ pos j ≡ above -ℤ pos (suc j) = sym (row-left above t j up) in
      let degree : found.0.degree ≡ d = ap (λ (w : Vector). w.degree) found.2 in
      let y : (vectors_of_degree b.ring h.is_ring.modulus (place b above (suc j)).target d).V = (
        found.0.terms,
        subst (λ r. IsVector b.ring (b.relations (suc j) r).target (record { degree = d; terms = found.0.terms })) row
            (subst (λ e. IsVector b.ring (b.relations (suc j) (t -ℤ pos j)).target
            (record { degree = e; terms = found.0.terms })) degree found.1),
      ) in
      let u = D.put y in
      let column = D.put_column y in
      let image = total_image b h above t up d u in
      let parts = (total-differential b h above t up d).steps j u column in
      let a = parts.0 in
      let c = parts.1 in
      -- dh of u is the column j of v
      let value : C.taken image ≡ C.taken v =
      vector_unique b.ring (place b t j).target d _ _
      (image_left b h d above t up j next u column
      ∙ ap (dh_terms b h d above t up (suc j)) (ap (λ w. w.0) (D.taken_put y))
      ∙ (λ i. row_combination b.ring (b.horizontal (suc j) (sym row i)).rows found.0.terms)
      ∙ ap (λ (w : Vector). w.terms) found.2) in
      let none : C.taken a ≡ C.group.zero =
      vector_unique b.ring (place b t j).target d _ _ (higher_none b h d t j a parts.2) in
      let second : C.taken c ≡ C.taken v =
      sym (unit_first C.group (C.taken c))
      ∙ ap (λ w. C.group.plus w (C.taken c)) (sym none)
      ∙ sym (C.taken_map.to_plus a c)
      ∙ ap C.taken parts.4
      ∙ value in
      let same : c ≡ v =
      sym (C.put_taken c parts.3) ∙ ap C.put second ∙ C.put_taken v flat.0 in
      let whole : image ≡ Y.group.plus a v = sym parts.4 ∙ ap (Y.group.plus a) same in
      let rest : Y.group.plus v (Y.group.minus image) ≡ Y.group.minus a =
      minus_only Y.group a (Y.group.plus v (Y.group.minus image))
      (sym (Y.group.assoc a v (Y.group.minus image))
      ∙ ap (λ w. Y.group.plus w (Y.group.minus image)) (sym whole)
      ∙ Y.group.inverse image) in (
        u,
        column,
        subst (Y.column (suc j)) (sym rest) ((Y.column_sub (suc j)).has_minus a parts.2),
      )
