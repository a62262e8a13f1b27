-- The laws of the filtration of homology, from those of groups in columns.
use Rattle.std.proofs.Common.{◌≡◌, ◌↔◌, ℕ, suc, ◌+◌, ◌<◌, ◌≤◌, sym, ◌∙◌, subst, refl, arith, List, ℤ, pos, ◌-ℤ◌}
use Rattle.sf_algebra.specs.Groups.{Group}
use Rattle.sf_algebra.specs.Matrices.{IsMatrix, Matrix, degrees_of}
use Rattle.sf_algebra.specs.Vectors.{IsVector, Vector}
use Rattle.sf_algebra.proofs.Operators.Congruences.{Mod-sym}
use Rattle.sf_algebra.proofs.Operators.Correspondences.{IsCorrespondence, IsMapOfClasses, converse, converse-correspondence, related-Mod}
use Rattle.sf_algebra.proofs.Operators.GroupMaps.{IsMap-id}
use Rattle.sf_algebra.proofs.Operators.Subgroups.{PreimageOf-sub}
use Rattle.sf_algebra.proofs.Vectors.VectorGroups.{vectors_of_degree}
use Rattle.sf_groebner.specs.Homology.{IsCycle}
use Rattle.sf_groebner.specs.Maps.{AreEqualModulo}
use Rattle.sf_groebner.specs.MinimalGenerators.{matrix_of}
use Rattle.sf_groebner.specs.Spans.{InSpan, IsCoefficients}
use Rattle.sf_presented.specs.Presented.{IsPresentedBy}
use Rattle.sf_chase.specs.ColumnPages.{BoundariesOfPage, CyclesBelow, CyclesOfPage, ImagesModulo, IsInPart}
use Rattle.sf_chase.specs.Columns.{ColumnOf}
use Rattle.sf_chase.proofs.Filtrations.ColumnParts.{CyclesBelow-sub, ImagesModulo-sub}
use Rattle.sf_chase.proofs.Filtrations.LastPages.{highest_part, last_page-back, last_page-correspondence, last_page-there, lowest_part}
use Rattle.sf_chase.proofs.Images.{NearImageOf-sub, NearImageOf-zero}
use Rattle.sf_chase.proofs.Columns.Pages.{ColumnBoundaries-sub}
use Rattle.sf_bicomplex.specs.Bicomplexes.{Bicomplex, IsBicomplex}
use Rattle.sf_bicomplex.specs.InducedFiltrations.{HasLeadingColumn, IsOfPart, IsTotalBoundary}
use Rattle.sf_bicomplex.specs.Pages.{IsBoundaryOfPage, IsCycleOfPage}
use Rattle.sf_bicomplex.specs.TotalColumns.{place, total_degrees, total_map, total_module}
use Rattle.sf_bicomplex.proofs.Columns.ColumnMaps.{image_of-map}
use Rattle.sf_bicomplex.proofs.Filtrations.ColumnChanges.{class-changed, column-changed}
use Rattle.sf_bicomplex.proofs.Filtrations.Combinations.{combination-cycle, cycle-combination}
use Rattle.sf_bicomplex.proofs.Filtrations.PartVectors.{column-back, column-there, combination, group_column, part-same}
use Rattle.sf_bicomplex.proofs.Filtrations.TotalBoundaries.{total_boundaries-same}
use Rattle.sf_bicomplex.proofs.Pages.PageLaws.{all_below}
use Rattle.sf_bicomplex.proofs.Pages.PageVectors.{boundaries-same, cycles-same}
use Rattle.sf_bicomplex.proofs.TotalComplexes.TotalGroups.{total-complex, total-differential, total_column, total_group, total_image}

module _ (b : Bicomplex) (h : IsBicomplex b) (above n below : ℤ) (first : n ≡ above -ℤ pos 1) (last : below ≡ n -ℤ pos 1)
    (rows : List Vector) (matrix : IsMatrix (matrix_of b.ring (total_degrees b n) rows)) (relations : Matrix)
    (presented : IsPresentedBy (IsCycle (total_map b n below) (total_module b below)) (IsTotalBoundary b above n)
    (matrix_of b.ring (total_degrees b n) rows) relations) where
  abbrev generators : Matrix
  generators = matrix_of b.ring (total_degrees b n) rows

  pub rising_parts : (k l : ℕ) → k ≤ l → (c : Vector)
      → (IsOfPart b above n below (matrix_of b.ring (total_degrees b n) rows) k c
      → IsOfPart b above n below (matrix_of b.ring (total_degrees b n) rows) l c)
      × (IsOfPart b above n below (matrix_of b.ring (total_degrees b n) rows) 0 c ↔ InSpan relations c)
      × (IsCoefficients (matrix_of b.ring (total_degrees b n) rows) c
      → IsOfPart b above n below (matrix_of b.ring (total_degrees b n) rows) b.columns c)
  rising_parts k l rises c =
      let d = c.degree in
      let X = total_group b h above d in
      let Y = total_group b h n d in
      let W = total_group b h below d in
      let f = total_image b h above n first d in
      let g = total_image b h n below last d in
      let x = total-differential b h above n first d in
      let y = total-differential b h n below last d in
      let value = combination b h above n below first last rows matrix d in
      let boundaries = total_boundaries-same b h above n first d in (
        λ e. (part-same b h above n below first last rows matrix d l).back (c.terms, e.coefficients) (
            let part = (part-same b h above n below first last rows matrix d k).there (c.terms, e.coefficients) e in
            (part.0, (Y.rises k l rises part.0 part.1.0, part.1.1), part.2)),
        (
          λ e. (presented.relate c).0 (record {
            coefficients = e.coefficients;
            inside = boundaries.back (value (c.terms, e.coefficients))
                (lowest_part X Y W f g x y value (c.terms, e.coefficients)
                ((part-same b h above n below first last rows matrix d 0).there (c.terms, e.coefficients) e));
          }),
          λ e.
              let relation = (presented.relate c).1 e in
              (part-same b h above n below first last rows matrix d 0).back (c.terms, relation.coefficients)
              (NearImageOf-zero Y.group Y.group (λ v. v) (IsMap-id Y.group) (CyclesBelow Y W g 0) (ImagesModulo X Y f)
              (CyclesBelow-sub X Y W f g x y 0) (ImagesModulo-sub X Y W f g x y) (value (c.terms, relation.coefficients))
              (boundaries.there (value (c.terms, relation.coefficients)) relation.inside)),
        ),
        λ e. (part-same b h above n below first last rows matrix d b.columns).back (c.terms, e)
            (highest_part X Y W f g x y value b.columns (all_below b h n d) (c.terms, e)
            (combination-cycle b h above n below first last rows matrix relations presented d (c.terms, e))),
      )

  -- coordinates and a leading column have one degree
  pub column-degree : (p : ℕ) (c z : Vector)
      → HasLeadingColumn b above n below (matrix_of b.ring (total_degrees b n) rows) p c z → z.degree ≡ c.degree
  column-degree p c z e = e.column.degrees ∙ sym e.same.degrees

  module _ (r p : ℕ) (enough : b.columns ≤ r) (inside : p < b.columns) where
    past : suc p ≤ r
    past = omega arith

    beyond : b.columns ≤ p + r
    beyond = omega arith

    -- both with a degree that they have
    of_degree_column : (d : ℤ) (c z : Vector)
        → HasLeadingColumn b above n below (matrix_of b.ring (total_degrees b n) rows) p c z → c.degree ≡ d
        → HasLeadingColumn b above n below (matrix_of b.ring (total_degrees b n) rows) p
        (record { degree = d; terms = c.terms })
        (record { degree = d; terms = z.terms })
    of_degree_column d c z e degree =
        let c_same : c ≡ record { degree = d; terms = c.terms } = λ i. record { degree = degree i; terms = c.terms } in
        let z_same : z ≡ record { degree = d; terms = z.terms } =
        λ i. record { degree = (column-degree p c z e ∙ degree) i; terms = z.terms } in
        subst (λ (x : Vector × Vector). HasLeadingColumn b above n below generators p x.0 x.1) (λ i. (c_same i, z_same i)) e

    module _ (d : ℤ) where
      abbrev coordinates : Group ⊥
      coordinates = vectors_of_degree b.ring h.is_ring.modulus (degrees_of rows) d

      abbrev column : ColumnOf (total_group b h n d) p
      column = total_column b h n d p inside

      abbrev columns : coordinates.V → column.group.V → Type 0
      columns = group_column b h above n below first last rows matrix d p inside

      abbrev parts : ℕ → coordinates.V → Type 0
      parts =
          IsInPart (total_group b h above d) (total_group b h n d) (total_group b h below d)
          (total_image b h above n first d) (total_image b h n below last d)
          (combination b h above n below first last rows matrix d)

      abbrev cycles : column.group.V → Type 0
      cycles =
          CyclesOfPage (total_group b h n d) (total_group b h below d) (total_image b h n below last d) r p column

      abbrev boundaries : column.group.V → Type 0
      boundaries =
          BoundariesOfPage (total_group b h above d) (total_group b h n d) (total_image b h above n first d) r p column

      correspondence : IsCorrespondence coordinates column.group (parts (suc p)) cycles columns
      correspondence =
          last_page-correspondence (total_group b h above d) (total_group b h n d) (total_group b h below d)
          (total_image b h above n first d) (total_image b h n below last d) (total-differential b h above n first d)
          (total-differential b h n below last d) (total-complex b h above n below first last d) coordinates
          (combination b h above n below first last rows matrix d)
          (image_of-map b.ring h.is_ring (degrees_of rows) (total_degrees b n) rows matrix refl d) p r past column

      there : IsMapOfClasses (parts (suc p)) (parts p) boundaries columns
      there =
          last_page-there (total_group b h above d) (total_group b h n d) (total_group b h below d)
          (total_image b h above n first d) (total_image b h n below last d) (total-differential b h above n first d)
          (total-differential b h n below last d) (total-complex b h above n below first last d) coordinates
          (combination b h above n below first last rows matrix d)
          (image_of-map b.ring h.is_ring (degrees_of rows) (total_degrees b n) rows matrix refl d) p r past column
          b.columns (all_below b h above d) beyond

      back : IsMapOfClasses cycles boundaries (parts p) (converse columns)
      back =
          last_page-back (total_group b h above d) (total_group b h n d) (total_group b h below d)
          (total_image b h above n first d) (total_image b h n below last d) (total-differential b h above n first d)
          (total-differential b h n below last d) (total-complex b h above n below first last d) coordinates
          (combination b h above n below first last rows matrix d)
          (image_of-map b.ring h.is_ring (degrees_of rows) (total_degrees b n) rows matrix refl d) p r past column
          b.columns (all_below b h above d)
          (cycle-combination b h above n below first last rows matrix relations presented d)

      part-columns : (c : coordinates.V) → parts (suc p) c → (z : column.group.V) × columns c z
      part-columns c e = (there.image c e, there.related c e)

    pub leading_columns : ((c : Vector) → IsOfPart b above n below (matrix_of b.ring (total_degrees b n) rows) (suc p) c
        ↔ ((z : Vector) × HasLeadingColumn b above n below (matrix_of b.ring (total_degrees b n) rows) p c z))
        × ((z : Vector) → IsCycleOfPage b r n below p z
        ↔ ((c : Vector) × HasLeadingColumn b above n below (matrix_of b.ring (total_degrees b n) rows) p c z))
    leading_columns = (
      λ c. (
        λ e.
            let d = c.degree in
            let value =
            part-columns d (c.terms, e.coefficients)
            ((part-same b h above n below first last rows matrix d (suc p)).there (c.terms, e.coefficients) e) in (
              record { degree = d; terms = value.0.0 },
              column-back b h above n below first last rows matrix d p inside (c.terms, e.coefficients) value.0 value.1,
            ),
        λ e.
            let d = c.degree in
            let k = of_degree_column d c e.0 e.1 refl in
            (part-same b h above n below first last rows matrix d (suc p)).back (c.terms, k.coefficients)
            ((correspondence d).first (c.terms, k.coefficients) (e.0.terms, k.vector)
            (column-there b h above n below first last rows matrix d p inside (c.terms, k.coefficients)
            (e.0.terms, k.vector) k)),
      ),
      λ z. (
        λ e.
            let d = z.degree in
            let cycle = (cycles-same b h d n below last r p inside).there (z.terms, e.vector) e in
            let c = (back d).image (z.terms, e.vector) cycle in (
              record { degree = d; terms = c.0 },
              column-back b h above n below first last rows matrix d p inside c (z.terms, e.vector)
                  ((back d).related (z.terms, e.vector) cycle),
            ),
        λ e.
            let d = z.degree in
            let k = of_degree_column d e.0 z e.1 (sym (column-degree p e.0 z e.1)) in
            (cycles-same b h d n below last r p inside).back (z.terms, k.vector)
            ((correspondence d).second (e.0.terms, k.coefficients) (z.terms, k.vector)
            (column-there b h above n below first last rows matrix d p inside (e.0.terms, k.coefficients)
            (z.terms, k.vector) k)),
      ),
    )

    pub parts_as_last_page : (c e y z : Vector)
        → HasLeadingColumn b above n below (matrix_of b.ring (total_degrees b n) rows) p c y
        → HasLeadingColumn b above n below (matrix_of b.ring (total_degrees b n) rows) p e z
        → AreEqualModulo b.ring (IsOfPart b above n below (matrix_of b.ring (total_degrees b n) rows) p) c e
        ↔ AreEqualModulo b.ring (IsBoundaryOfPage b r above n p) y z
    parts_as_last_page c e y z k l =
        let d = c.degree in
        let part = part-same b h above n below first last rows matrix d p in
        let bound = boundaries-same b h d above n first r p inside in
        let y_degree : y.degree ≡ d = column-degree p c y k in
        let u = of_degree_column d c y k refl in (
          λ same.
              let v = of_degree_column d e z l (sym same.degrees) in
              let C : (coordinates d).V = (c.terms, u.coefficients) in
              let E : (coordinates d).V = (e.terms, v.coefficients) in
              let Y : (column d).group.V = (y.terms, u.vector) in
              let Z : (column d).group.V = (z.terms, v.vector) in
              let related =
              related-Mod (coordinates d) (column d).group _ _ _ _ _ (correspondence d) (there d) C E Y Z
              (column-there b h above n below first last rows matrix d p inside C Y u)
              (column-there b h above n below first last rows matrix d p inside E Z v)
              (part.there ((coordinates d).plus C ((coordinates d).minus E)) same.difference) in
              record {
                degrees = y_degree ∙ same.degrees ∙ sym (column-degree p e z l);
                difference =
                    subst
                    (λ g. IsBoundaryOfPage b r above n p
                    (record { degree = g; terms = ((column d).group.plus Y ((column d).group.minus Z)).0 })) (sym y_degree)
                    (bound.back ((column d).group.plus Y ((column d).group.minus Z)) related);
              },
          λ same.
              let degree : e.degree ≡ d = sym (column-degree p e z l) ∙ sym same.degrees ∙ y_degree in
              let v = of_degree_column d e z l degree in
              let C : (coordinates d).V = (c.terms, u.coefficients) in
              let E : (coordinates d).V = (e.terms, v.coefficients) in
              let Y : (column d).group.V = (y.terms, u.vector) in
              let Z : (column d).group.V = (z.terms, v.vector) in
              let related =
              related-Mod (column d).group (coordinates d) _ _ _ _ _
              (converse-correspondence (coordinates d) (column d).group _ (parts d p) _ (boundaries d) _ (correspondence d))
              (back d) Y Z C E
              (column-there b h above n below first last rows matrix d p inside C Y u)
              (column-there b h above n below first last rows matrix d p inside E Z v)
              (bound.there ((column d).group.plus Y ((column d).group.minus Z))
              (subst
              (λ g. IsBoundaryOfPage b r above n p
              (record { degree = g; terms = ((column d).group.plus Y ((column d).group.minus Z)).0 })) y_degree
              same.difference)) in
              record {
                degrees = sym degree;
                difference = part.back ((coordinates d).plus C ((coordinates d).minus E)) related;
              },
        )

    -- a leading column may be changed by boundaries of the last page
    pub column_changed : (c y z : Vector) → HasLeadingColumn b above n below (matrix_of b.ring (total_degrees b n) rows) p c y
        → IsVector b.ring (place b n p).target z
        → AreEqualModulo b.ring (IsBoundaryOfPage b r above n p) y z
        → HasLeadingColumn b above n below (matrix_of b.ring (total_degrees b n) rows) p c z
    column_changed c y z k vector same =
        let d = c.degree in
        let bound = boundaries-same b h d above n first r p inside in
        let y_degree : y.degree ≡ d = column-degree p c y k in
        let z_degree : d ≡ z.degree = sym y_degree ∙ same.degrees in
        let u = of_degree_column d c y k refl in
        let C : (coordinates d).V = (c.terms, u.coefficients) in
        let Y : (column d).group.V = (y.terms, u.vector) in
        let Z : (column d).group.V = (
          z.terms,
          subst (λ g. IsVector b.ring (place b n p).target (record { degree = g; terms = z.terms })) (sym z_degree)
              vector,
        ) in
        let sub =
        ColumnBoundaries-sub (total_group b h above d) (total_group b h n d) (total_image b h above n first d)
        (total-differential b h above n first d) (p + r) p (column d) in
        let near =
        bound.there ((column d).group.plus Y ((column d).group.minus Z))
        (subst
        (λ g. IsBoundaryOfPage b r above n p
        (record { degree = g; terms = ((column d).group.plus Y ((column d).group.minus Z)).0 })) y_degree same.difference) in
        let changed =
        column-changed (total_group b h above d) (total_group b h n d) (total_group b h below d)
        (total_image b h above n first d) (total_image b h n below last d) (total-differential b h above n first d)
        (total-differential b h n below last d) (total-complex b h above n below first last d) (coordinates d)
        (combination b h above n below first last rows matrix d)
        (image_of-map b.ring h.is_ring (degrees_of rows) (total_degrees b n) rows matrix refl d) p (column d) (p + r) C Y Z
        (column-there b h above n below first last rows matrix d p inside C Y u)
        (Mod-sym (column d).group (boundaries d) sub Y Z near) in
        subst (λ g. HasLeadingColumn b above n below generators p c (record { degree = g; terms = z.terms })) z_degree
        (column-back b h above n below first last rows matrix d p inside C Z changed)

    -- and a class by those of the next lower part
    pub class_changed : (c e z : Vector) → HasLeadingColumn b above n below (matrix_of b.ring (total_degrees b n) rows) p c z
        → IsVector b.ring (degrees_of rows) e
        → AreEqualModulo b.ring (IsOfPart b above n below (matrix_of b.ring (total_degrees b n) rows) p) c e
        → HasLeadingColumn b above n below (matrix_of b.ring (total_degrees b n) rows) p e z
    class_changed c e z k vector same =
        let d = c.degree in
        let X = total_group b h above d in
        let Y = total_group b h n d in
        let W = total_group b h below d in
        let f = total_image b h above n first d in
        let g = total_image b h n below last d in
        let x = total-differential b h above n first d in
        let y = total-differential b h n below last d in
        let map = image_of-map b.ring h.is_ring (degrees_of rows) (total_degrees b n) rows matrix refl d in
        let value = combination b h above n below first last rows matrix d in
        let z_degree : z.degree ≡ d = column-degree p c z k in
        let u = of_degree_column d c z k refl in
        let C : (coordinates d).V = (c.terms, u.coefficients) in
        let Z : (column d).group.V = (z.terms, u.vector) in
        let E : (coordinates d).V = (
          e.terms,
          subst (λ q. IsVector b.ring (degrees_of rows) (record { degree = q; terms = e.terms })) (sym same.degrees)
              vector,
        ) in
        let sub =
        PreimageOf-sub (coordinates d) Y.group value map _
        (NearImageOf-sub Y.group Y.group (λ v. v) (IsMap-id Y.group) (CyclesBelow Y W g p) (ImagesModulo X Y f)
        (CyclesBelow-sub X Y W f g x y p) (ImagesModulo-sub X Y W f g x y)) in
        let near =
        (part-same b h above n below first last rows matrix d p).there ((coordinates d).plus C ((coordinates d).minus E))
        same.difference in
        let changed =
        class-changed X Y W f g x y (total-complex b h above n below first last d) (coordinates d) value map p (column d) C E
        Z (column-there b h above n below first last rows matrix d p inside C Z u)
        (Mod-sym (coordinates d) (parts d p) sub C E near) in
        subst
        (λ (w : Vector × Vector). HasLeadingColumn b above n below generators p w.0 w.1)
        (λ i. (record { degree = same.degrees i; terms = e.terms }, record { degree = sym z_degree i; terms = z.terms }))
        (column-back b h above n below first last rows matrix d p inside E Z changed)
