-- Cycles, boundaries and differentials of pages, said of vectors, are those of groups in columns.
use Rattle.std.proofs.Common.{◌≡◌, ℕ, suc, ◌+◌, ◌-◌, ◌<◌, sym, subst, refl, ℤ, pos, ◌-ℤ◌}
use Rattle.sf_algebra.specs.MatrixOperations.{part_terms, row_combination}
use Rattle.sf_algebra.specs.Vectors.{Vector}
use Rattle.sf_algebra.proofs.Vectors.VectorGroups.{vectors_of_degree}
use Rattle.sf_groebner.specs.Spans.{InSpan}
use Rattle.sf_chase.specs.ColumnPages as Groups
use Rattle.sf_bicomplex.specs.Bicomplexes.{Bicomplex, IsBicomplex}
use Rattle.sf_bicomplex.specs.Pages.{FallsBelow, HasDifferential, IsBoundaryOfPage, IsCycleOfPage}
use Rattle.sf_bicomplex.specs.TotalColumns.{StandsBelow, column_start, place, total_degrees, total_map, total_module}
use Rattle.sf_bicomplex.proofs.Pages.NearVectors.{AreSame, IsNear-same}
use Rattle.sf_bicomplex.proofs.TotalComplexes.TotalGroups.{total_column, total_group, total_image}

module _ (b : Bicomplex) (h : IsBicomplex b) (d : ℤ) where
  stands-same : (n : ℤ) (k : ℕ) → AreSame b.ring h.is_ring (total_degrees b n) d (StandsBelow b n k)
      ((total_group b h n d).below k)
  stands-same n k = record { there = λ v e. e.below; back = λ v e. record { vector = v.1; below = e } }

  module _ (n m : ℤ) (lower : m ≡ n -ℤ pos 1) where
    pub falls-same : (t s : ℕ) → AreSame b.ring h.is_ring (total_degrees b n) d (FallsBelow b n m t s)
        (Groups.FallsBelow (total_group b h n d) (total_group b h m d) (total_image b h n m lower d) t s)
    falls-same t s =
        let near =
        IsNear-same b.ring h.is_ring (total_degrees b m) (total_degrees b m) d (λ ts. ts) (λ v. v.1) (StandsBelow b m s)
        (InSpan (total_module b m)) ((total_group b h m d).below s) ((total_group b h m d).relations) (λ a e. e.vector)
        (stands-same m s) (record { there = λ v e. e; back = λ v e. e }) in
        record {
          there = λ v e. (e.stands.below, near.there (total_image b h n m lower d v) e.falls);
          back = λ v e. record {
            stands = record { vector = v.1; below = e.0 };
            falls = near.back (total_image b h n m lower d v) e.1;
          };
        }

    pub cycles-same : (r p : ℕ) (inside : p < b.columns)
        → AreSame b.ring h.is_ring (place b n p).target d (IsCycleOfPage b r n m p)
        (Groups.CyclesOfPage (total_group b h n d) (total_group b h m d) (total_image b h n m lower d) r p
        (total_column b h n d p inside))
    cycles-same r p inside =
        IsNear-same b.ring h.is_ring (total_degrees b n) (place b n p).target d
        (part_terms (column_start b n (suc p)) (column_start b n p)) (λ v. ((total_column b h n d p inside).taken v).1)
        (FallsBelow b n m (suc p) (suc p - r)) (InSpan (place b n p))
        (Groups.FallsBelow (total_group b h n d) (total_group b h m d) (total_image b h n m lower d) (suc p) (suc p - r))
        ((total_column b h n d p inside).relations) (λ a e. e.stands.vector) (falls-same (suc p) (suc p - r))
        (record { there = λ v e. e; back = λ v e. e })

    pub boundaries-same : (r p : ℕ) (inside : p < b.columns)
        → AreSame b.ring h.is_ring (place b m p).target d (IsBoundaryOfPage b r n m p)
        (Groups.BoundariesOfPage (total_group b h n d) (total_group b h m d) (total_image b h n m lower d) r p
        (total_column b h m d p inside))
    boundaries-same r p inside =
        IsNear-same b.ring h.is_ring (total_degrees b n) (place b m p).target d
        (λ ts. part_terms (column_start b m (suc p)) (column_start b m p)
        (row_combination b.ring (total_map b n m).rows ts))
        (λ v. ((total_column b h m d p inside).taken (total_image b h n m lower d v)).1)
        (FallsBelow b n m (p + r) (suc p)) (InSpan (place b m p))
        (Groups.FallsBelow (total_group b h n d) (total_group b h m d) (total_image b h n m lower d) (p + r) (suc p))
        ((total_column b h m d p inside).relations) (λ a e. e.stands.vector) (falls-same (p + r) (suc p))
        (record { there = λ v e. e; back = λ v e. e })

    -- the differential
    module _ (r p : ℕ) (inside : p + r < b.columns) (also_inside : p < b.columns) where
      abbrev group_differential : (vectors_of_degree b.ring h.is_ring.modulus (place b n (p + r)).target d).V
          → (vectors_of_degree b.ring h.is_ring.modulus (place b m p).target d).V → Type 0
      group_differential =
          Groups.HasDifferentialOfPage (total_group b h n d) (total_group b h m d) (total_image b h n m lower d) r p
          (total_column b h n d (p + r) inside) (total_column b h m d p also_inside)

      -- w less the column of the image of v
      abbrev less_image : (vectors_of_degree b.ring h.is_ring.modulus (place b m p).target d).V
          → (vectors_of_degree b.ring h.is_ring.modulus (total_degrees b n) d).V
          → (vectors_of_degree b.ring h.is_ring.modulus (place b m p).target d).V
      less_image w v =
          let D = total_column b h m d p also_inside in
          D.group.plus w (D.group.minus (D.taken (total_image b h n m lower d v)))

      pub differential-there : (u : (vectors_of_degree b.ring h.is_ring.modulus (place b n (p + r)).target d).V)
          (w : (vectors_of_degree b.ring h.is_ring.modulus (place b m p).target d).V)
          → HasDifferential b r n m p (record { degree = d; terms = u.0 }) (record { degree = d; terms = w.0 })
          → group_differential u w
      differential-there u w e =
          let a : Vector = record { degree = d; terms = e.through.terms } in
          let same : e.through ≡ a = λ i. record { degree = sym e.start.degrees i; terms = e.through.terms } in
          let falls : FallsBelow b n m (suc (p + r)) (suc p) a = subst (FallsBelow b n m (suc (p + r)) (suc p)) same e.falls in
          let element : (vectors_of_degree b.ring h.is_ring.modulus (total_degrees b n) d).V =
          (e.through.terms, falls.stands.vector) in (
            element,
            (falls-same (suc (p + r)) (suc p)).there element falls,
            e.start.difference,
            (boundaries-same r p also_inside).there (less_image w element) e.end.difference,
          )

      pub differential-back : (u : (vectors_of_degree b.ring h.is_ring.modulus (place b n (p + r)).target d).V)
          (w : (vectors_of_degree b.ring h.is_ring.modulus (place b m p).target d).V) → group_differential u w
          → HasDifferential b r n m p (record { degree = d; terms = u.0 }) (record { degree = d; terms = w.0 })
      differential-back u w e = record {
        from_vector = u.1;
        to_vector = w.1;
        through = record { degree = d; terms = e.0.0 };
        falls = (falls-same (suc (p + r)) (suc p)).back e.0 e.1;
        start = record { degrees = refl; difference = e.2 };
        end = record { degrees = refl; difference = (boundaries-same r p also_inside).back (less_image w e.0) e.3 };
      }
