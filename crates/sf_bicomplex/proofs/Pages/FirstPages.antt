-- The first page: in one column what an image has there is dv of what the vector has.
use Rattle.std.proofs.Common.{◌≡◌, ◌↔◌, ℕ, suc, ◌<◌, ◌≤◌, ◌+◌, ◌-◌, [], sym, ap, ◌∙◌, subst, refl, arith, ℤ, pos, ◌-ℤ◌}
use Rattle.sf_algebra.specs.MatrixOperations.{moved, row_combination}
use Rattle.sf_algebra.specs.VectorOperations.{row_sum, vector_difference}
use Rattle.sf_algebra.specs.Vectors.{IsCanonicalRow, IsVector, Vector}
use Rattle.sf_algebra.proofs.Basics.Lists.{AllByRecursion-weaken}
use Rattle.sf_algebra.proofs.Operators.Groups.{difference-zero, map-difference, minus-difference, plus-minus_plus}
use Rattle.sf_algebra.proofs.Vectors.RowSums.{row_sum-nil}
use Rattle.sf_algebra.proofs.Vectors.Rows.{IsCanonical-row_combination, row_combination-nil}
use Rattle.sf_groebner.specs.Maps.{AreEqualModulo}
use Rattle.sf_groebner.specs.MinimalGenerators.{matrix_of}
use Rattle.sf_groebner.specs.Spans.{InSpan, combined}
use Rattle.sf_groebner.proofs.MapsOnHomology.EqualModulo.{AreEqualModulo-inside}
use Rattle.sf_groebner.proofs.Spanning.SpanCombinations.{span_submodule_of}
use Rattle.sf_groebner.proofs.Spanning.Spans.{combined-difference}
use Rattle.sf_groebner.proofs.Spanning.Submodules.{IsSubmodule}
use Rattle.sf_presented.proofs.EqualModulo.{AreEqualModulo-equal, AreEqualModulo-refl, AreEqualModulo-sym}
use Rattle.sf_bicomplex.specs.Bicomplexes.{Bicomplex, IsBicomplex}
use Rattle.sf_bicomplex.specs.FirstPages.{down}
use Rattle.sf_bicomplex.specs.Pages.{IsBoundaryOfPage, IsCycleOfPage, IsNear}
use Rattle.sf_bicomplex.specs.TotalColumns.{StandsBelow, column_part, column_start, place, total_degrees, total_map, total_module}
use Rattle.sf_bicomplex.proofs.Columns.ColumnParts.{part_terms-behind}
use Rattle.sf_bicomplex.proofs.TotalComplexes.TotalGroups.{total_column, total_group, total_image}
use Rattle.sf_bicomplex.proofs.TotalComplexes.TotalLaws.{columns_in_places, columns_of_images, highest_columns, keeps_columns}
use Rattle.sf_bicomplex.proofs.TotalComplexes.TotalMaps.{vertical-sends}
use Rattle.sf_bicomplex.proofs.TotalComplexes.TotalModules.{lowest-submodule}

module _ (b : Bicomplex) (h : IsBicomplex b) (n m : ℤ) (lower : m ≡ n -ℤ pos 1) (p : ℕ) (inside : p < b.columns) where
  place_module : (l : ℤ) → IsSubmodule b.ring (place b l p).target (InSpan (place b l p))
  place_module l =
      let known = h.modules p (l -ℤ pos p) in
      span_submodule_of b.ring h.is_ring (place b l p).target (place b l p) known.ring_of refl known.matrix

  canonical : (v : Vector) → IsCanonicalRow b.ring (down b n p v).terms
  canonical v = IsCanonical-row_combination b.ring h.is_ring.modulus (b.vertical p (n -ℤ pos p)).rows v.terms

  abbrev image : Vector → Vector
  image v = combined (total_map b n m) v

  -- what stands somewhere stands in some column
  anywhere : (k : ℕ) (v : Vector) → StandsBelow b n k v → StandsBelow b n b.columns v
  anywhere k v e = record {
    vector = e.vector;
    below =
        AllByRecursion-weaken (λ t. column_start b n k ≤ t.at.position)
        (λ t. column_start b n b.columns ≤ t.at.position) (λ t x. omega arith) v.terms e.below;
  }

  -- the column p of the image of what stands up to there
  image-column : (v : Vector) → StandsBelow b n (suc p) v
      → column_part b m p (combined (total_map b n m) v) ≡ down b n p (column_part b n p v)
  image-column v e =
      let own = down b n p (column_part b n p v) in
      let across = row_combination b.ring (b.horizontal (suc p) (n -ℤ pos (suc p))).rows in
      let none : across (column_part b n (suc p) v).terms ≡ [] =
      ap across (part_terms-behind (column_start b n (suc (suc p))) (column_start b n (suc p)) v.terms e.below)
      ∙ row_combination-nil b.ring h.is_ring.modulus (b.horizontal (suc p) (n -ℤ pos (suc p))).rows in
      columns_of_images b h n m lower p inside v (anywhere (suc p) v e)
      ∙ (λ i. record {
        degree = v.degree;
        terms =
            (ap (row_sum b.ring own.terms) none
            ∙ row_sum-nil b.ring h.is_ring.modulus own.terms (canonical (column_part b n p v))) i;
      })

  -- what stands in the column alone
  abbrev put : Vector → Vector
  put c = record { degree = c.degree; terms = moved (column_start b n (suc p)) c.terms }

  put-stands : (c : Vector) → IsVector b.ring (place b n p).target c → StandsBelow b n (suc p) (put c)
  put-stands c x =
      let X = total_group b h n c.degree in
      let C = total_column b h n c.degree p inside in
      let u = C.put (c.terms, x) in
      record { vector = u.1; below = X.column_below p u (C.put_column (c.terms, x)) }

  put-column : (c : Vector) → IsVector b.ring (place b n p).target c → column_part b n p (put c) ≡ c
  put-column c x =
      let C = total_column b h n c.degree p inside in
      λ i. record { degree = c.degree; terms = (C.taken_put (c.terms, x) i).0 }

  put-image : (c : Vector) → IsVector b.ring (place b n p).target c
      → column_part b m p (combined (total_map b n m) (put c)) ≡ down b n p c
  put-image c x = image-column (put c) (put-stands c x) ∙ ap (down b n p) (put-column c x)

  pub first_boundaries : (w : Vector) → IsBoundaryOfPage b 1 n m p w
      ↔ IsNear b.ring (place b m p).target (down b n p) (IsVector b.ring (place b n p).target) (InSpan (place b m p)) w
  first_boundaries w =
      let next : p + 1 ≡ suc p = omega arith in
      let B : Vector → Type 0 = InSpan (place b m p) in (
        λ e.
            let v : Vector = e.source in
            let stands : StandsBelow b n (suc p) v = subst (λ k. StandsBelow b n k v) next e.inside.stands in
            record {
              vector = e.vector;
              source = column_part b n p v;
              inside = (columns_in_places b h n p inside v).0 (anywhere (suc p) v stands);
              equal = subst (AreEqualModulo b.ring B w) (image-column v stands) e.equal;
            },
        λ e.
            let c : Vector = e.source in
            let stands = put-stands c e.inside in
            let kept = keeps_columns b h n m lower (suc p) (put c) stands in
            record {
              vector = e.vector;
              source = put c;
              inside = record {
                stands = subst (λ k. StandsBelow b n k (put c)) (sym next) stands;
                falls = record {
                  vector = kept.vector;
                  source = image (put c);
                  inside = kept;
                  equal =
                      AreEqualModulo-refl b.ring h.is_ring (total_degrees b m) (InSpan (total_module b m))
                      (lowest-submodule b h m b.columns) (image (put c)) kept.vector.canonical;
                };
              };
              equal = subst (AreEqualModulo b.ring B w) (sym (put-image c e.inside)) e.equal;
            },
      )

  -- from a cycle of the page
  cycle-down : (z : Vector) → IsCycleOfPage b 1 n m p z → InSpan (place b m p) (down b n p z)
  cycle-down z e =
      let one_lower : suc p - 1 ≡ p = omega arith in
      let v : Vector = e.source in
      let d = v.degree in
      let f = e.inside.falls in
      let w : Vector = f.source in
      let B : Vector → Type 0 = InSpan (place b m p) in
      let Y = total_group b h m d in
      let D = total_column b h m d p inside in
      let x : Y.group.V = total_image b h n m lower d (v.terms, e.inside.stands.vector) in
      let y : Y.group.V = (
        w.terms,
        subst (λ g. IsVector b.ring (total_degrees b m) (record { degree = g; terms = w.terms })) (sym f.equal.degrees)
            f.inside.vector,
      ) in
      let under : Y.below p y = subst (λ k. Y.below k y) one_lower f.inside.below in
      let same : D.taken (Y.group.plus x (Y.group.minus y)) ≡ D.taken x =
      map-difference Y.group D.group D.taken D.taken_map x y
      ∙ ap (λ q. D.group.plus (D.taken x) (D.group.minus q)) (D.taken_below y under)
      ∙ difference-zero D.group (D.taken x) in
      let column : B (column_part b m p (vector_difference b.ring (image v) w)) =
      (columns_in_places b h m p inside (vector_difference b.ring (image v) w)).1 f.equal.difference in
      let own : B (down b n p (column_part b n p v)) =
      subst B (image-column v e.inside.stands)
      (subst (λ ts. B (record { degree = d; terms = ts })) (ap (λ (q : D.group.V). q.0) same) column) in
      let c : Vector = column_part b n p v in
      let c_vector = (columns_in_places b h n p inside v).0 (anywhere (suc p) v e.inside.stands) in
      let rows = (b.vertical p (n -ℤ pos p)).rows in
      let difference : AreEqualModulo b.ring B (down b n p z) (down b n p c) = record {
        degrees = e.equal.degrees;
        difference =
            subst B (combined-difference (matrix_of b.ring (place b m p).target rows) h.is_ring z c c_vector.canonical)
            (vertical-sends b h n m lower z.degree p (vector_difference b.ring z c).terms e.equal.difference);
      } in
      AreEqualModulo-inside b.ring h.is_ring (place b m p).target B (place_module m).module_like (down b n p c)
      (down b n p z) (canonical z)
      (AreEqualModulo-sym b.ring h.is_ring (place b m p).target B (place_module m) (down b n p z) (down b n p c)
      (canonical z) (canonical c) difference)
      own

  -- and to one
  down-cycle : (z : Vector) → IsVector b.ring (place b n p).target z → InSpan (place b m p) (down b n p z)
      → IsCycleOfPage b 1 n m p z
  down-cycle z x k =
      let one_lower : suc p - 1 ≡ p = omega arith in
      let d = z.degree in
      let Y = total_group b h m d in
      let D = total_column b h m d p inside in
      let stands = put-stands z x in
      let kept = keeps_columns b h n m lower (suc p) (put z) stands in
      let im : Y.group.V = total_image b h n m lower d ((put z).terms, stands.vector) in
      let r = D.taken im in
      let y : Y.group.V = D.put r in
      let w : Y.group.V = Y.group.plus im (Y.group.minus y) in
      let relation : InSpan (total_module b m) (record { degree = d; terms = y.0 }) =
      D.put_relations r (subst (InSpan (place b m p)) (sym (put-image z x)) k) in
      let s = Y.below_sub (suc p) in
      let under : Y.below (suc p) w =
      s.has_plus im (Y.group.minus y) kept.below (s.has_minus y (Y.column_below p y (D.put_column r))) in
      let none : D.taken w ≡ D.group.zero =
      map-difference Y.group D.group D.taken D.taken_map im y
      ∙ ap (λ q. D.group.plus r (D.group.minus q)) (D.taken_put r)
      ∙ D.group.inverse r in
      let low =
      (highest_columns b h m p (record { degree = d; terms = w.0 }) (record { vector = w.1; below = under })).0
      (ap (λ (q : D.group.V). q.0) none) in
      let rest : Y.group.plus im (Y.group.minus w) ≡ y =
      ap (Y.group.plus im) (minus-difference Y.group im y ∙ Y.group.comm y (Y.group.minus im))
      ∙ plus-minus_plus Y.group im y in
      record {
        vector = x;
        source = put z;
        inside = record {
          stands = stands;
          falls = record {
            vector = kept.vector;
            source = record { degree = d; terms = w.0 };
            inside = subst (λ j. StandsBelow b m j (record { degree = d; terms = w.0 })) (sym one_lower) low;
            equal = record {
              degrees = refl;
              difference =
                  subst (λ ts. InSpan (total_module b m) (record { degree = d; terms = ts }))
                  (ap (λ (q : Y.group.V). q.0) (sym rest)) relation;
            };
          };
        };
        equal = AreEqualModulo-equal b.ring h.is_ring (place b n p).target (InSpan (place b n p)) (place_module n) z
            (column_part b n p (put z)) x.canonical (sym (put-column z x));
      }

  pub first_cycles : (z : Vector) → IsCycleOfPage b 1 n m p z
      ↔ (IsVector b.ring (place b n p).target z × InSpan (place b m p) (down b n p z))
  first_cycles z = (λ e. (e.vector, cycle-down z e), λ k. down-cycle z k.0 k.1)
