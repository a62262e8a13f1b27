-- The laws of pages, from those of groups in columns.
use Rattle.std.proofs.Common.{◌≡◌, ◌↔◌, ℕ, suc, ◌+◌, ◌-◌, ◌<◌, ◌≤◌, [], sym, ◌∙◌, subst, refl, arith, ℤ, pos, ◌-ℤ◌}
use Rattle.sf_algebra.specs.Vectors.{Vector}
use Rattle.sf_algebra.proofs.GradedMatrices.Columns.{AllByRecursion-always}
use Rattle.sf_algebra.proofs.Operators.Congruences.{Mod-refl}
use Rattle.sf_algebra.proofs.Operators.Correspondences.{related-Mod}
use Rattle.sf_groebner.specs.Maps.{AreEqualModulo}
use Rattle.sf_groebner.specs.Spans.{InSpan}
use Rattle.sf_chase.proofs.Columns.Pages.{ColumnBoundaries-sub}
use Rattle.sf_chase.proofs.Columns.Numbers.{BoundariesOfPage-at_last, BoundariesOfPage-cycles, BoundariesOfPage-grow, BoundariesOfPage-last, CyclesOfPage-fall, boundaries-values, cycles-kernel, differential-classes, differential-correspondence, kernel-cycles, values-boundaries}
use Rattle.sf_bicomplex.specs.Bicomplexes.{Bicomplex, IsBicomplex}
use Rattle.sf_bicomplex.specs.Pages.{FallsBelow, HasDifferential, IsNear, IsBoundaryOfPage, IsCycleOfPage}
use Rattle.sf_bicomplex.specs.TotalColumns.{column_part, place}
use Rattle.sf_bicomplex.proofs.Pages.PageVectors.{boundaries-same, cycles-same, differential-back, differential-there}
use Rattle.sf_bicomplex.proofs.TotalComplexes.TotalGroups.{total-complex, total-differential, total_column, total_group, total_image}

-- no vector stands above the columns
pub all_below : (b : Bicomplex) (h : IsBicomplex b) (n d : ℤ) (v : (total_group b h n d).group.V)
    → (total_group b h n d).below b.columns v
all_below b h n d v = AllByRecursion-always _ (λ t. omega arith) v.0

module _ (b : Bicomplex) (h : IsBicomplex b) where
  module _ (n m : ℤ) (lower : m ≡ n -ℤ pos 1) where
    pub nested_pages : (q r p : ℕ) → q ≤ r → p < b.columns → (v : Vector)
        → (IsCycleOfPage b r n m p v → IsCycleOfPage b q n m p v)
        × (IsBoundaryOfPage b q n m p v → IsBoundaryOfPage b r n m p v)
    nested_pages q r p rises inside v =
        let d = v.degree in
        let X = total_group b h n d in
        let Y = total_group b h m d in
        let image = total_image b h n m lower d in
        let differential = total-differential b h n m lower d in
        let cycles = λ (k : ℕ). cycles-same b h d n m lower k p inside in
        let boundaries = λ (k : ℕ). boundaries-same b h d n m lower k p inside in (
          λ e. (cycles q).back (v.terms, e.vector)
              (CyclesOfPage-fall X Y image differential q r p rises (total_column b h n d p inside) (v.terms, e.vector)
              ((cycles r).there (v.terms, e.vector) e)),
          λ e. (boundaries r).back (v.terms, e.vector)
              (BoundariesOfPage-grow X Y image differential q r p rises (total_column b h m d p inside) (v.terms, e.vector)
              ((boundaries q).there (v.terms, e.vector) e)),
        )

    pub last_pages : (q r p : ℕ) → q ≤ r → p < b.columns → (v : Vector)
        → (suc p ≤ q → IsCycleOfPage b q n m p v ↔ IsCycleOfPage b r n m p v)
        × (b.columns ≤ p + q → IsBoundaryOfPage b q n m p v ↔ IsBoundaryOfPage b r n m p v)
    last_pages q r p rises inside v =
        let d = v.degree in
        let X = total_group b h n d in
        let Y = total_group b h m d in
        let image = total_image b h n m lower d in
        let differential = total-differential b h n m lower d in
        let boundaries = λ (k : ℕ). boundaries-same b h d n m lower k p inside in
        let nested = nested_pages q r p rises inside v in
        let falls : ℕ → Type 0 = λ s. IsNear b.ring (place b n p).target (column_part b n p)
        (FallsBelow b n m (suc p) s) (InSpan (place b n p)) v in (
          λ past.
              let same : suc p - q ≡ suc p - r = omega arith in
              (subst falls same, subst falls (sym same)),
          λ past. (
            nested.1,
            λ e. (boundaries q).back (v.terms, e.vector)
                (BoundariesOfPage-at_last X Y image differential b.columns q p past (total_column b h m d p inside)
                (v.terms, e.vector)
                (BoundariesOfPage-last X Y image differential b.columns r p (all_below b h n d)
                (total_column b h m d p inside) (v.terms, e.vector) ((boundaries r).there (v.terms, e.vector) e))),
          ),
        )

    -- a vector and its differential have one degree
    pub differential-degree : (r p : ℕ) (u w : Vector) → HasDifferential b r n m p u w → w.degree ≡ u.degree
    differential-degree r p u w e = e.end.degrees ∙ sym e.start.degrees

    -- so the differential may be written with that degree
    pub of_one_degree : (r p : ℕ) (u w : Vector) → HasDifferential b r n m p u w
        → w ≡ record { degree = u.degree; terms = w.terms }
    of_one_degree r p u w e = λ i. record { degree = differential-degree r p u w e i; terms = w.terms }

    module _ (r p : ℕ) (inside : p + r < b.columns) where
      also_inside : p < b.columns
      also_inside = omega arith

      -- the image of the vector by which u is a cycle
      pub cycle_differential : (u : Vector) → IsCycleOfPage b r n m (p + r) u → (w : Vector) × HasDifferential b r n m p u w
      cycle_differential u e =
          let a = e.source in
          let d = a.degree in
          let there : suc (p + r) - r ≡ suc p = omega arith in
          let falls : FallsBelow b n m (suc (p + r)) (suc p) a = subst (λ s. FallsBelow b n m (suc (p + r)) s a) there
          e.inside in
          let D = total_column b h m d p also_inside in
          let value = D.taken (total_image b h n m lower d (a.terms, falls.stands.vector)) in
          let sub =
          ColumnBoundaries-sub (total_group b h n d) (total_group b h m d) (total_image b h n m lower d)
          (total-differential b h n m lower d) (p + r) p D in (
            record { degree = d; terms = value.0 },
            record {
              from_vector = e.vector;
              to_vector = value.1;
              through = a;
              falls = falls;
              start = e.equal;
              end = record {
                degrees = refl;
                difference =
                    (boundaries-same b h d n m lower r p also_inside).back (D.group.plus value (D.group.minus value))
                    (Mod-refl D.group _ sub value);
              };
            },
          )

      pub kernel_as_next_cycles : (u : Vector) → IsCycleOfPage b (suc r) n m (p + r) u
          ↔ HasDifferential b r n m p u (record { degree = u.degree; terms = [] })
      kernel_as_next_cycles u =
          let d = u.degree in
          let X = total_group b h n d in
          let Y = total_group b h m d in
          let image = total_image b h n m lower d in
          let differential = total-differential b h n m lower d in
          let C = total_column b h n d (p + r) inside in
          let D = total_column b h m d p also_inside in
          let cycles = cycles-same b h d n m lower (suc r) (p + r) inside in (
            λ e. differential-back b h d n m lower r p inside also_inside (u.terms, e.vector) D.group.zero
                (cycles-kernel X Y image differential r p C D (u.terms, e.vector) (cycles.there (u.terms, e.vector) e)),
            λ e. cycles.back (u.terms, e.from_vector)
                (kernel-cycles X Y image differential r p C D (u.terms, e.from_vector)
                (differential-there b h d n m lower r p inside also_inside (u.terms, e.from_vector) D.group.zero e)),
          )

      pub values_as_next_boundaries : (w : Vector) → IsBoundaryOfPage b (suc r) n m p w
          ↔ ((u : Vector) × HasDifferential b r n m p u w)
      values_as_next_boundaries w =
          let d = w.degree in
          let X = total_group b h n d in
          let Y = total_group b h m d in
          let image = total_image b h n m lower d in
          let differential = total-differential b h n m lower d in
          let C = total_column b h n d (p + r) inside in
          let D = total_column b h m d p also_inside in
          let boundaries = boundaries-same b h d n m lower (suc r) p also_inside in (
            λ e.
                let value =
                boundaries-values X Y image differential r p C D (w.terms, e.vector)
                (boundaries.there (w.terms, e.vector) e) in (
                  record { degree = d; terms = value.0.0 },
                  differential-back b h d n m lower r p inside also_inside value.0 (w.terms, e.vector) value.1,
                ),
            λ e.
                let same : e.0 ≡ record { degree = d; terms = e.0.terms } =
                λ i. record { degree = sym (differential-degree r p e.0 w e.1) i; terms = e.0.terms } in
                let at = subst (λ u. HasDifferential b r n m p u w) same e.1 in
                boundaries.back (w.terms, at.to_vector)
                (values-boundaries X Y image differential r p C D (e.0.terms, at.from_vector) (w.terms, at.to_vector)
                (differential-there b h d n m lower r p inside also_inside (e.0.terms, at.from_vector)
                (w.terms, at.to_vector) at)),
          )

  module _ (n m l : ℤ) (lower : m ≡ n -ℤ pos 1) (last : l ≡ m -ℤ pos 1) where
    pub boundaries_among_cycles : (q r p : ℕ) → p < b.columns → (v : Vector) → IsBoundaryOfPage b q n m p v
        → IsCycleOfPage b r m l p v
    boundaries_among_cycles q r p inside v e =
        let d = v.degree in
        (cycles-same b h d m l last r p inside).back (v.terms, e.vector)
        (BoundariesOfPage-cycles (total_group b h n d) (total_group b h m d) (total_image b h n m lower d)
        (total-differential b h n m lower d) (total_group b h l d) (total_image b h m l last d)
        (total-differential b h m l last d) (total-complex b h n m l lower last d) q r p (total_column b h m d p inside)
        (v.terms, e.vector) ((boundaries-same b h d n m lower q p inside).there (v.terms, e.vector) e))

    module _ (r p : ℕ) (inside : p + r < b.columns) where
      inside_too : p < b.columns
      inside_too = omega arith

      pub differentials_of_cycles : (u : Vector)
          → (IsCycleOfPage b r n m (p + r) u → (w : Vector) × HasDifferential b r n m p u w)
          × ((w : Vector) → HasDifferential b r n m p u w → IsCycleOfPage b r n m (p + r) u × IsCycleOfPage b r m l p w)
      differentials_of_cycles u =
          let d = u.degree in
          let X = total_group b h n d in
          let Y = total_group b h m d in
          let image = total_image b h n m lower d in
          let differential = total-differential b h n m lower d in
          let C = total_column b h n d (p + r) inside in
          let D = total_column b h m d p inside_too in
          let cycles = cycles-same b h d n m lower r (p + r) inside in
          let values = cycles-same b h d m l last r p inside_too in
          let f =
          differential-correspondence X Y image differential r p C D (total_group b h l d) (total_image b h m l last d)
          (total-differential b h m l last d) (total-complex b h n m l lower last d) in (
            cycle_differential n m lower r p inside u,
            λ w e.
                let at = subst (HasDifferential b r n m p u) (of_one_degree n m lower r p u w e) e in
                let both =
                differential-there b h d n m lower r p inside inside_too (u.terms, e.from_vector) (w.terms, at.to_vector) at in (
                  cycles.back (u.terms, e.from_vector) (f.first (u.terms, e.from_vector) (w.terms, at.to_vector) both),
                  subst (IsCycleOfPage b r m l p) (sym (of_one_degree n m lower r p u w e))
                      (values.back (w.terms, at.to_vector)
                      (f.second (u.terms, e.from_vector) (w.terms, at.to_vector) both)),
                ),
          )

  module _ (k n m : ℤ) (first : n ≡ k -ℤ pos 1) (lower : m ≡ n -ℤ pos 1) (r p : ℕ) (inside : p + r < b.columns) where
    under : p < b.columns
    under = omega arith

    pub differentials_of_classes : (u v w x : Vector) → HasDifferential b r n m p u w → HasDifferential b r n m p v x
        → AreEqualModulo b.ring (IsBoundaryOfPage b r k n (p + r)) u v
        → AreEqualModulo b.ring (IsBoundaryOfPage b r n m p) w x
    differentials_of_classes u v w x e f same =
        let d = u.degree in
        let X = total_group b h n d in
        let Y = total_group b h m d in
        let image = total_image b h n m lower d in
        let differential = total-differential b h n m lower d in
        let C = total_column b h n d (p + r) inside in
        let D = total_column b h m d p under in
        let l = m -ℤ pos 1 in
        let correspondence =
        differential-correspondence X Y image differential r p C D (total_group b h l d) (total_image b h m l refl d)
        (total-differential b h m l refl d) (total-complex b h n m l lower refl d) in
        let classes =
        differential-classes X Y image differential r p C D (total_group b h k d) (total_image b h k n first d)
        (total-differential b h k n first d) (total-complex b h k n m first lower d) in
        let e' = subst (HasDifferential b r n m p u) (of_one_degree n m lower r p u w e) e in
        let v' : Vector = record { degree = d; terms = v.terms } in
        let x' : Vector = record { degree = d; terms = x.terms } in
        let v_same : v ≡ v' = λ i. record { degree = sym same.degrees i; terms = v.terms } in
        let x_same : x ≡ x' =
        λ i. record { degree = (differential-degree n m lower r p v x f ∙ sym same.degrees) i; terms = x.terms } in
        let f' : HasDifferential b r n m p v' x' =
        subst (λ (y : Vector × Vector). HasDifferential b r n m p y.0 y.1) (λ i. (v_same i, x_same i)) f in
        let first_element : C.group.V = (u.terms, e'.from_vector) in
        let second_element : C.group.V = (v.terms, f'.from_vector) in
        let first_value : D.group.V = (w.terms, e'.to_vector) in
        let second_value : D.group.V = (x.terms, f'.to_vector) in
        let related =
        related-Mod C.group D.group _ _ _ _ _ correspondence classes first_element second_element first_value second_value
        (differential-there b h d n m lower r p inside under first_element first_value e')
        (differential-there b h d n m lower r p inside under second_element second_value f')
        ((boundaries-same b h d k n first r (p + r) inside).there
        (C.group.plus first_element (C.group.minus second_element)) same.difference) in
        let difference =
        (boundaries-same b h d n m lower r p under).back (D.group.plus first_value (D.group.minus second_value)) related in
        record {
          degrees =
              differential-degree n m lower r p u w e ∙ same.degrees ∙ sym (differential-degree n m lower r p v x f);
          difference =
              subst
              (λ g. IsBoundaryOfPage b r n m p
              (record { degree = g; terms = (D.group.plus first_value (D.group.minus second_value)).0 }))
              (sym (differential-degree n m lower r p u w e)) difference;
        }
