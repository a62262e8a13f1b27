-- The homology of the total complex of an augmented bicomplex, said of vectors: cycles are what is set of cycles plus
-- boundaries, and what is set is a boundary exactly where it is set of an image.
use Rattle.std.proofs.Common.{◌≡◌, ◌+◌, ℕ, suc, List, [], ◌∷◌, refl, sym, ◌∙◌, ap, subst, arith, ℤ, pos, ◌-ℤ◌, ◌+ℤ◌}
use Rattle.std.proofs.lemmas.Int.{ints}
use Rattle.sf_algebra.specs.Matrices.{Matrix, IsMatrix}
use Rattle.sf_algebra.specs.MatrixOperations.{moved, row_combination}
use Rattle.sf_algebra.specs.Terms.{Term}
use Rattle.sf_algebra.specs.Vectors.{Place, Vector, IsVector}
use Rattle.sf_algebra.proofs.Basics.Lists.{AllByRecursion-weaken}
use Rattle.sf_algebra.proofs.Operators.Groups.{difference-equal, difference-plus, map-zero}
use Rattle.sf_algebra.proofs.Vectors.VectorGroups.{vectors_of_degree}
use Rattle.sf_algebra.proofs.Vectors.VectorProps.{vector_unique}
use Rattle.sf_groebner.specs.Homology.{IsCycle}
use Rattle.sf_groebner.specs.MinimalGenerators.{IsInSum, matrix_of}
use Rattle.sf_groebner.specs.Spans.{combined, combined_rows}
use Rattle.sf_chase.proofs.Staircases.{boundary_image, cycle_boundary, cycle_image}
use Rattle.sf_bicomplex.specs.Bicomplexes.{Bicomplex, IsBicomplex}
use Rattle.sf_bicomplex.specs.InducedFiltrations.{IsTotalBoundary}
use Rattle.sf_bicomplex.specs.TotalColumns.{column_start, place, total_degrees, total_map, total_module}
use Rattle.sf_bicomplex.proofs.Columns.ColumnParts.{IsVector-put}
use Rattle.sf_bicomplex.proofs.Filtrations.TotalBoundaries.{total_boundaries-same}
use Rattle.sf_bicomplex.proofs.TotalComplexes.Diagonals.{total_map-rows}
use Rattle.sf_bicomplex.proofs.TotalComplexes.TotalGroups.{total-differential, total_group, total_image}
use Rattle.sf_bicomplex.proofs.TotalComplexes.TotalModules.{IsRange-column}
use Rattle.sf_bidual.proofs.Augmented.Augmentations.{IsAugmentedBy, all_below, augmentation-matrix, inside, rows_exact, set, set-augmentation, set-passes, set-resolves, set_map, zero_after}
use Rattle.sf_bidual.proofs.Augmented.FreeTotals.{relation-zero, zero-relation}

moved-none : (ts : List (Term Place)) → moved 0 ts ≡ ts
moved-none [] = refl
moved-none (t ∷ ts) =
    let same : 0 + t.at.position ≡ t.at.position = omega arith in
    λ i. record { at = record { position = same i; monomial = t.at.monomial }; coefficient = t.coefficient }
    ∷ moved-none ts i

module _ (b : Bicomplex) (h : IsBicomplex b) (n : ℕ) (degrees : ℤ → List ℤ) (augmentation map : ℤ → Matrix)
    (k : IsAugmentedBy b n degrees augmentation map) where
  -- column n stands first
  no_start : (t : ℤ) → column_start b t (suc n) ≡ 0
  no_start t = subst (λ c. column_start b t c ≡ 0) k.columns (omega arith)

  pub set-terms : (t d : ℤ) (m : (vectors_of_degree b.ring h.is_ring.modulus (degrees (t -ℤ pos n)) d).V)
      → (set b h n degrees augmentation map k d t m).0 ≡ row_combination b.ring (augmentation (t -ℤ pos n)).rows m.0
  set-terms t d m =
      ap (λ s. moved s (row_combination b.ring (augmentation (t -ℤ pos n)).rows m.0)) (no_start t)
      ∙ moved-none (row_combination b.ring (augmentation (t -ℤ pos n)).rows m.0)

  -- the map into the total complex, as a matrix
  abbrev pub set_matrix : ℤ → Matrix
  set_matrix t = matrix_of b.ring (total_degrees b t) (augmentation (t -ℤ pos n)).rows

  pub IsMatrix-set : (t : ℤ) → IsMatrix (set_matrix t)
  IsMatrix-set t =
      AllByRecursion-weaken (IsVector b.ring (place b t n).target) (IsVector b.ring (total_degrees b t))
      (λ v e. subst (λ ts. IsVector b.ring (total_degrees b t) (record { degree = v.degree; terms = ts }))
      (ap (λ s. moved s v.terms) (no_start t) ∙ moved-none v.terms)
      (IsVector-put b.ring h.is_ring (total_degrees b t) (place b t n).target (column_start b t (suc n))
      (column_start b t n) (IsRange-column b t n (inside b h n degrees augmentation map k v.degree)) v.degree v.terms e))
      (augmentation (t -ℤ pos n)).rows (augmentation-matrix b h n degrees augmentation map k (pos 0) t)

  module _ (above t : ℤ) (up : t ≡ above -ℤ pos 1) where
    -- a boundary is an image
    pub boundary-image : (d : ℤ) (v : (vectors_of_degree b.ring h.is_ring.modulus (total_degrees b t) d).V)
        → IsTotalBoundary b above t (record { degree = d; terms = v.0 })
        → (u : (vectors_of_degree b.ring h.is_ring.modulus (total_degrees b above) d).V)
        × (total_image b h above t up d u ≡ v)
    boundary-image d v e =
        let G = vectors_of_degree b.ring h.is_ring.modulus (total_degrees b t) d in
        let found = (total_boundaries-same b h above t up d).there v e in
        let image = total_image b h above t up d found.0 in
        let none : G.plus v (G.minus image) ≡ G.zero =
        vector_unique b.ring (total_degrees b t) d _ _ (relation-zero b h k.free t _ found.2) in
        (found.0, sym (difference-equal G v image none))

    pub image-boundary : (d : ℤ) (u : (vectors_of_degree b.ring h.is_ring.modulus (total_degrees b above) d).V)
        → IsTotalBoundary b above t (record { degree = d; terms = (total_image b h above t up d u).0 })
    image-boundary d u =
        let G = vectors_of_degree b.ring h.is_ring.modulus (total_degrees b t) d in
        let image = total_image b h above t up d u in
        (total_boundaries-same b h above t up d).back image
        (u, tt, zero-relation b h k.free t _ (ap (λ w. w.0) (G.inverse image)))

    -- what is set of an image is a boundary
    pub set-image : (c : Vector) → IsVector b.ring (degrees (above -ℤ pos n)) c
        → IsTotalBoundary b above t
        (combined (set_matrix t) (combined_rows b.ring (map (above -ℤ pos n)).rows c))
    set-image c x =
        let d = c.degree in
        let element : (vectors_of_degree b.ring h.is_ring.modulus (degrees (above -ℤ pos n)) d).V = (c.terms, x) in
        let v = set_map b h n degrees augmentation map k d above t up element in
        let same : (total_image b h above t up d (set b h n degrees augmentation map k d above element)).0
        ≡ row_combination b.ring (augmentation (t -ℤ pos n)).rows v.0 =
        ap (λ w. w.0) (set-passes b h n degrees augmentation map k d above t up element) ∙ set-terms t d v in
        subst (λ ts. IsTotalBoundary b above t (record { degree = d; terms = ts })) same
        (image-boundary d (set b h n degrees augmentation map k d above element))

    -- what is set and a boundary is set of an image
    pub set-boundary : (m : Vector) → IsVector b.ring (degrees (t -ℤ pos n)) m
        → IsTotalBoundary b above t (combined (set_matrix t) m)
        → (c : Vector) × IsVector b.ring (degrees (above -ℤ pos n)) c
        × (combined_rows b.ring (map (above -ℤ pos n)).rows c ≡ m)
    set-boundary m x e =
        let d = m.degree in
        let more = above +ℤ pos 1 in
        let further : above ≡ more -ℤ pos 1 = omega (arith, ints) in
        let element : (vectors_of_degree b.ring h.is_ring.modulus (degrees (t -ℤ pos n)) d).V = (m.terms, x) in
        let value = set b h n degrees augmentation map k d t element in
        let found = boundary-image d value
        (subst (λ ts. IsTotalBoundary b above t (record { degree = d; terms = ts })) (sym (set-terms t d element)) e) in
        let source =
        boundary_image (total_group b h more d) (total_group b h above d) (total_group b h t d)
        (total_image b h more above further d) (total_image b h above t up d)
        (total-differential b h more above further d) (total-differential b h above t up d)
        (zero_after b h n degrees augmentation map k d more above t further up) n
        (all_below b h n degrees augmentation map k d above)
        (rows_exact b h n degrees augmentation map k d more above t further up)
        (vectors_of_degree b.ring h.is_ring.modulus (degrees (above -ℤ pos n)) d)
        (vectors_of_degree b.ring h.is_ring.modulus (degrees (t -ℤ pos n)) d)
        (set_map b h n degrees augmentation map k d above t up) (set b h n degrees augmentation map k d above)
        (set b h n degrees augmentation map k d t) (set-augmentation b h n degrees augmentation map k d t)
        (set-passes b h n degrees augmentation map k d above t up)
        (set-resolves b h n degrees augmentation map k d above t up) found.0 element found.1 in (
          record { degree = d; terms = source.0.0 },
          source.0.1,
          λ i. record { degree = d; terms = (source.1 i).0 },
        )

    module _ (below : ℤ) (lower : below ≡ t -ℤ pos 1) where
      -- the image of a cycle is zero
      cycle-zero : (v : Vector) → IsCycle (total_map b t below) (total_module b below) v
          → (x : IsVector b.ring (total_degrees b t) v)
          → total_image b h t below lower v.degree (v.terms, x)
          ≡ (vectors_of_degree b.ring h.is_ring.modulus (total_degrees b below) v.degree).zero
      cycle-zero v e x =
          vector_unique b.ring (total_degrees b below) v.degree _ _
          (relation-zero b h k.free below (combined (total_map b t below) v) e.inside)

      cycle-vector : (v : Vector) → IsCycle (total_map b t below) (total_module b below) v
          → IsVector b.ring (total_degrees b t) v
      cycle-vector v e = subst (λ ds. IsVector b.ring ds v) (total_map-rows b h t below lower) e.coefficients

      -- what is set of a cycle is a cycle
      pub set-cycle : (m : Vector) → IsVector b.ring (degrees (t -ℤ pos n)) m
          → row_combination b.ring (map (t -ℤ pos n)).rows m.terms ≡ []
          → IsCycle (total_map b t below) (total_module b below) (combined (set_matrix t) m)
      set-cycle m x none =
          let d = m.degree in
          let element : (vectors_of_degree b.ring h.is_ring.modulus (degrees (t -ℤ pos n)) d).V = (m.terms, x) in
          let value = set b h n degrees augmentation map k d t element in
          let next = set_map b h n degrees augmentation map k d t below lower element in
          let C = vectors_of_degree b.ring h.is_ring.modulus (degrees (below -ℤ pos n)) d in
          let W = vectors_of_degree b.ring h.is_ring.modulus (total_degrees b below) d in
          let gone : next ≡ C.zero = vector_unique b.ring (degrees (below -ℤ pos n)) d _ _ none in
          let image : total_image b h t below lower d value ≡ W.zero =
          set-passes b h n degrees augmentation map k d t below lower element
          ∙ ap (set b h n degrees augmentation map k d below) gone
          ∙ map-zero C W (set b h n degrees augmentation map k d below)
          (set-augmentation b h n degrees augmentation map k d below).map in
          subst (λ ts. IsCycle (total_map b t below) (total_module b below) (record { degree = d; terms = ts }))
          (set-terms t d element)
          (record {
            coefficients = subst (λ ds. IsVector b.ring ds (record { degree = d; terms = value.0 }))
                (sym (total_map-rows b h t below lower)) value.1;
            inside = zero-relation b h k.free below _ (ap (λ w. w.0) image);
          })

      -- a cycle is what is set plus a boundary
      pub cycle-set : (v : Vector) → IsCycle (total_map b t below) (total_module b below) v
          → IsInSum b.ring (augmentation (t -ℤ pos n)).rows (IsTotalBoundary b above t) v
      cycle-set v e =
          let d = v.degree in
          let x = cycle-vector v e in
          let G = vectors_of_degree b.ring h.is_ring.modulus (total_degrees b t) d in
          let element : (vectors_of_degree b.ring h.is_ring.modulus (total_degrees b t) d).V = (v.terms, x) in
          let found =
          cycle_image (total_group b h above d) (total_group b h t d) (total_group b h below d)
          (total_image b h above t up d) (total_image b h t below lower d) (total-differential b h above t up d)
          (total-differential b h t below lower d)
          (zero_after b h n degrees augmentation map k d above t below up lower) n
          (all_below b h n degrees augmentation map k d t)
          (rows_exact b h n degrees augmentation map k d above t below up lower)
          (vectors_of_degree b.ring h.is_ring.modulus (degrees (t -ℤ pos n)) d)
          (vectors_of_degree b.ring h.is_ring.modulus (degrees (below -ℤ pos n)) d)
          (set_map b h n degrees augmentation map k d t below lower) (set b h n degrees augmentation map k d t)
          (set b h n degrees augmentation map k d below) (set-augmentation b h n degrees augmentation map k d below)
          (set-passes b h n degrees augmentation map k d t below lower)
          (set-resolves b h n degrees augmentation map k d t below lower) element (cycle-zero v e x) in
          let image = total_image b h above t up d found.1 in
          let part = set b h n degrees augmentation map k d t found.0 in
          let sum : G.plus image part ≡ element =
          ap (G.plus image) (sym found.2) ∙ G.comm image (G.plus element (G.minus image))
          ∙ difference-plus G element image in
          record {
            first = record { degree = d; terms = image.0 };
            second = record { degree = d; terms = part.0 };
            in_module = image-boundary d found.1;
            in_span = record {
              coefficients = record { degree = d; terms = found.0.0 };
              homogeneous = subst (λ ds. IsVector b.ring ds (record { degree = d; terms = found.0.0 }))
                  (sym (k.augmentation_from (t -ℤ pos n)).source_of) found.0.1;
              value = λ i. record { degree = d; terms = sym (set-terms t d found.0) i };
            };
            first_degree = refl;
            second_degree = refl;
            sum = ap (λ w. w.0) sum;
          }

      -- where what is set is exact, a cycle is a boundary
      pub cycle-boundary : ((m : Vector) → IsVector b.ring (degrees (t -ℤ pos n)) m
          → row_combination b.ring (map (t -ℤ pos n)).rows m.terms ≡ []
          → (c : Vector) × IsVector b.ring (degrees (above -ℤ pos n)) c
          × (combined_rows b.ring (map (above -ℤ pos n)).rows c ≡ m))
          → (v : Vector) → IsCycle (total_map b t below) (total_module b below) v → IsTotalBoundary b above t v
      cycle-boundary exact v e =
          let d = v.degree in
          let x = cycle-vector v e in
          let A = vectors_of_degree b.ring h.is_ring.modulus (degrees (above -ℤ pos n)) d in
          let B = vectors_of_degree b.ring h.is_ring.modulus (degrees (t -ℤ pos n)) d in
          let C = vectors_of_degree b.ring h.is_ring.modulus (degrees (below -ℤ pos n)) d in
          let found =
          cycle_boundary (total_group b h above d) (total_group b h t d) (total_group b h below d)
          (total_image b h above t up d) (total_image b h t below lower d) (total-differential b h above t up d)
          (total-differential b h t below lower d)
          (zero_after b h n degrees augmentation map k d above t below up lower) n
          (all_below b h n degrees augmentation map k d t)
          (rows_exact b h n degrees augmentation map k d above t below up lower) B C
          (set_map b h n degrees augmentation map k d t below lower) (set b h n degrees augmentation map k d t)
          (set b h n degrees augmentation map k d below) (set-augmentation b h n degrees augmentation map k d below)
          (set-passes b h n degrees augmentation map k d t below lower)
          (set-resolves b h n degrees augmentation map k d t below lower) A
          (set_map b h n degrees augmentation map k d above t up) (set b h n degrees augmentation map k d above)
          (set-passes b h n degrees augmentation map k d above t up)
          (λ m gone.
          let s = exact (record { degree = d; terms = m.0 }) m.1 (ap (λ w. w.0) gone) in
          let degree : s.0.degree ≡ d = ap (λ (w : Vector). w.degree) s.2 in
          let source : A.V = (
            s.0.terms,
            subst (λ g. IsVector b.ring (degrees (above -ℤ pos n)) (record { degree = g; terms = s.0.terms })) degree s.1,
          ) in
          (source, vector_unique b.ring (degrees (t -ℤ pos n)) d _ _ (ap (λ (w : Vector). w.terms) s.2)))
          (v.terms, x) (cycle-zero v e x) in
          subst (λ ts. IsTotalBoundary b above t (record { degree = d; terms = ts })) (ap (λ w. w.0) found.1)
          (image-boundary d found.0)
