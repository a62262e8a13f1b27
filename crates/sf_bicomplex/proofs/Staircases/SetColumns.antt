-- A complex that is set into the highest column: it is an augmentation of the total complex, in each degree of vectors.
use Rattle.std.proofs.Common.{◌≡◌, ℕ, ◌<◌, List, [], sym, ap, ◌∙◌, subst, arith, ℤ, pos, ◌-ℤ◌}
use Rattle.sf_algebra.specs.Groups.{Group, IsMap}
use Rattle.sf_algebra.specs.Matrices.{IsMatrix, Matrix, degrees_of, row_degrees}
use Rattle.sf_algebra.specs.MatrixOperations.{row_combination}
use Rattle.sf_algebra.specs.Terms.{Term}
use Rattle.sf_algebra.specs.Vectors.{IsVector, Place, Vector}
use Rattle.sf_algebra.proofs.Operators.GroupMaps.{IsMap-after}
use Rattle.sf_algebra.proofs.Operators.Groups.{map-zero}
use Rattle.sf_algebra.proofs.Vectors.Rows.{row_combination-matrix_product}
use Rattle.sf_algebra.proofs.Vectors.VectorGroups.{vectors_of_degree}
use Rattle.sf_algebra.proofs.Vectors.VectorProps.{vector_unique}
use Rattle.sf_groebner.specs.MinimalGenerators.{matrix_of}
use Rattle.sf_chase.specs.Columns.{ColumnOf}
use Rattle.sf_chase.specs.Staircases.{IsAugmentation, ResolvesRow}
use Rattle.sf_bicomplex.specs.Bicomplexes.{Bicomplex, IsBicomplex}
use Rattle.sf_bicomplex.specs.ResolvedRows.{Augmentation, ResolvesRows}
use Rattle.sf_bicomplex.specs.TotalColumns.{place, total_degrees}
use Rattle.sf_bicomplex.proofs.Columns.ColumnMaps.{image_of, image_of-map}
use Rattle.sf_bicomplex.proofs.Staircases.ExactRows.{across-syzygy, syzygy-across}
use Rattle.sf_bicomplex.proofs.Staircases.FreeTotals.{flat-image, image-flat, image-same}
use Rattle.sf_bicomplex.proofs.TotalComplexes.Diagonals.{row-lower}
use Rattle.sf_bicomplex.proofs.TotalComplexes.TotalGroups.{total_column, total_group, total_image}

module _ (b : Bicomplex) (h : IsBicomplex b) (top : ℕ) (a : Augmentation) (resolved : ResolvesRows b top a) (d : ℤ) where
  pub top-inside : top < b.columns
  top-inside = let size = resolved.highest in omega arith

  module _ (n : ℤ) where
    abbrev q : ℤ
    q = n -ℤ pos top

    -- the vectors of degree d at the place of the complex that is set in total degree n
    abbrev pub set_group : Group ⊥
    set_group = vectors_of_degree b.ring h.is_ring.modulus (a.degrees (n -ℤ pos top)) d

    abbrev pub top_column : ColumnOf (total_group b h n d) top
    top_column = total_column b h n d top top-inside

    pub set-matrix : IsMatrix (matrix_of b.ring (place b n top).target (a.set (n -ℤ pos top)).rows)
    set-matrix =
        let known = resolved.set_from q in
        let same : a.set q ≡ matrix_of b.ring (place b n top).target (a.set q).rows =
        λ i. record { ring = known.ring_of i; target = resolved.set_target q i; rows = (a.set q).rows } in
        subst IsMatrix same known.matrix

    pub set-degrees : degrees_of (a.set (n -ℤ pos top)).rows ≡ a.degrees (n -ℤ pos top)
    set-degrees = (resolved.set_from q).source_of

    -- what is set, in the highest column
    abbrev pub set_value : (vectors_of_degree b.ring h.is_ring.modulus (a.degrees (n -ℤ pos top)) d).V
        → (vectors_of_degree b.ring h.is_ring.modulus (place b n top).target d).V
    set_value =
        image_of b.ring h.is_ring (a.degrees (n -ℤ pos top)) (place b n top).target (a.set (n -ℤ pos top)).rows set-matrix
        set-degrees d

    -- and in the total complex
    abbrev pub set : (vectors_of_degree b.ring h.is_ring.modulus (a.degrees (n -ℤ pos top)) d).V
        → (vectors_of_degree b.ring h.is_ring.modulus (total_degrees b n) d).V
    set c = (total_column b h n d top top-inside).put (set_value c)

    pub set-map : IsMap set_group (total_group b h n d).group set
    set-map =
        IsMap-after set_group top_column.group (total_group b h n d).group set_value top_column.put
        (image_of-map b.ring h.is_ring (a.degrees q) (place b n top).target (a.set q).rows set-matrix set-degrees d)
        top_column.put_map

    -- coefficients of the matrix that sets
    over_set : (ts : List (Term Place)) → IsVector b.ring (a.degrees (n -ℤ pos top)) (record { degree = d; terms = ts })
        → IsVector (a.set (n -ℤ pos top)).ring (row_degrees (a.set (n -ℤ pos top))) (record { degree = d; terms = ts })
    over_set ts x =
        subst (λ r. IsVector r (row_degrees (a.set q)) (record { degree = d; terms = ts })) (sym (resolved.set_from q).ring_of)
        (subst (λ ds. IsVector b.ring ds (record { degree = d; terms = ts })) (sym set-degrees) x)

    pub augmentation : IsAugmentation set_group (total_group b h n d) top set
    augmentation = record {
      map = set-map;
      inside = λ c. top_column.put_column (set_value c);
      one_to_one = λ c none.
          let zero_value : set_value c ≡ top_column.group.zero =
          sym (top_column.taken_put (set_value c)) ∙ ap top_column.taken none
          ∙ map-zero (total_group b h n d).group top_column.group top_column.taken top_column.taken_map in
          let terms : row_combination b.ring (a.set q).rows c.0 ≡ [] = ap (λ (x : top_column.group.V). x.0) zero_value in
          vector_unique b.ring (a.degrees q) d c set_group.zero
          (resolved.one_to_one q (record { degree = d; terms = c.0 }) (record {
            coefficients = over_set c.0 c.1;
            zero = subst (λ r. row_combination r (a.set q).rows c.0 ≡ []) (sym (resolved.set_from q).ring_of) terms;
          }));
    }

    -- what is set goes nowhere along the row
    pub set-flat : (c : set_group.V) → row_combination b.ring (b.horizontal top (n -ℤ pos top)).rows (set_value c).0 ≡ []
    set-flat c =
        across-syzygy b h n d top (set_value c).0
        ((resolved.resolves q (record { degree = d; terms = (set_value c).0 })).1 (record {
          coefficients = record { degree = d; terms = c.0 };
          homogeneous = over_set c.0 c.1;
          value = λ i. record {
            degree = d;
            terms = row_combination ((resolved.set_from q).ring_of i) (a.set q).rows c.0;
          };
        }))

    -- and what goes nowhere along it is set
    pub resolves : (m : ℤ) (lower : m ≡ n -ℤ pos 1)
        → ResolvesRow (total_group b h n d) (total_group b h m d) (total_image b h n m lower d) top set
    resolves m lower v flat =
        let C = top_column in
        let taken = C.taken v in
        let none = image-flat b h n m lower d top top-inside v flat.0 flat.1 in
        let spans =
        (resolved.resolves q (record { degree = d; terms = taken.0 })).0 (syzygy-across b h n d top taken.0 taken.1 none) in
        let u : Vector = spans.coefficients in
        let degree : u.degree ≡ d = ap (λ (x : Vector). x.degree) spans.value in
        let over : IsVector b.ring (a.degrees q) u =
        subst (λ ds. IsVector b.ring ds u) set-degrees
        (subst (λ r. IsVector r (row_degrees (a.set q)) u) (resolved.set_from q).ring_of spans.homogeneous) in
        let c : set_group.V =
        (u.terms, subst (λ g. IsVector b.ring (a.degrees q) (record { degree = g; terms = u.terms })) degree over) in
        let same : set_value c ≡ taken =
        vector_unique b.ring (place b n top).target d (set_value c) taken
        (subst (λ r. row_combination r (a.set q).rows u.terms ≡ taken.0) (resolved.set_from q).ring_of
        (ap (λ (x : Vector). x.terms) spans.value)) in
        (c, sym (C.put_taken v flat.0) ∙ ap C.put (sym same))

  -- the map of the complex that is set
  module _ (n m : ℤ) (lower : m ≡ n -ℤ pos 1) where
    abbrev r : ℤ
    r = n -ℤ pos top

    pub map-matrix : IsMatrix (matrix_of b.ring (a.degrees (m -ℤ pos top)) (a.map (n -ℤ pos top)).rows)
    map-matrix =
        let known = resolved.map_from r in
        let same : a.map r ≡ matrix_of b.ring (a.degrees (m -ℤ pos top)) (a.map r).rows =
        λ i. record {
          ring = known.ring_of i;
          target = (resolved.map_target r ∙ ap a.degrees (row-lower n m top lower)) i;
          rows = (a.map r).rows;
        } in
        subst IsMatrix same known.matrix

    pub map-degrees : degrees_of (a.map (n -ℤ pos top)).rows ≡ a.degrees (n -ℤ pos top)
    map-degrees = (resolved.map_from r).source_of

    abbrev pub map_value : (vectors_of_degree b.ring h.is_ring.modulus (a.degrees (n -ℤ pos top)) d).V
        → (vectors_of_degree b.ring h.is_ring.modulus (a.degrees (m -ℤ pos top)) d).V
    map_value =
        image_of b.ring h.is_ring (a.degrees (n -ℤ pos top)) (a.degrees (m -ℤ pos top)) (a.map (n -ℤ pos top)).rows
        map-matrix map-degrees d

    -- to set and dv, or the map and to set
    passes-terms : (ts : List (Term Place))
        → row_combination b.ring (b.vertical top (n -ℤ pos top)).rows
        (row_combination b.ring (a.set (n -ℤ pos top)).rows ts)
        ≡ row_combination b.ring (a.set (m -ℤ pos top)).rows (row_combination b.ring (a.map (n -ℤ pos top)).rows ts)
    passes-terms ts =
        sym (row_combination-matrix_product b.ring h.is_ring.modulus (a.set r) (b.vertical top r) ts
        (resolved.set_from r).ring_of)
        ∙ ap (λ (x : Matrix). row_combination b.ring x.rows ts) (sym (resolved.passes r))
        ∙ row_combination-matrix_product b.ring h.is_ring.modulus (a.map r) (a.set (r -ℤ pos 1)) ts
        (resolved.map_from r).ring_of
        ∙ ap (λ s. row_combination b.ring (a.set s).rows (row_combination b.ring (a.map r).rows ts)) (row-lower n m top lower)

    pub passes : (c : (vectors_of_degree b.ring h.is_ring.modulus (a.degrees (n -ℤ pos top)) d).V)
        → total_image b h n m lower d (set n c) ≡ set m (map_value c)
    passes c =
        let C = total_column b h n d top top-inside in
        let D = total_column b h m d top top-inside in
        let v = set n c in
        let image = total_image b h n m lower d v in
        let column = C.put_column (set_value n c) in
        let back : (C.taken v).0 ≡ (set_value n c).0 = ap (λ (x : C.group.V). x.0) (C.taken_put (set_value n c)) in
        let there =
        flat-image b h n m lower d top top-inside v column
        (ap (row_combination b.ring (b.horizontal top r).rows) back ∙ set-flat n c) in
        let same : D.taken image ≡ set_value m (map_value c) =
        vector_unique b.ring (place b m top).target d (D.taken image) (set_value m (map_value c))
        (image-same b h n m lower d top top-inside v column
        ∙ ap (row_combination b.ring (b.vertical top r).rows) back ∙ passes-terms c.0) in
        sym (D.put_taken image there) ∙ ap D.put same
