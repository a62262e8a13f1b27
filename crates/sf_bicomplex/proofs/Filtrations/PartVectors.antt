-- Parts of homology and leading columns, said of vectors, are those of groups in columns.
use Rattle.std.proofs.Common.{◌≡◌, ℕ, suc, ◌<◌, List, sym, subst, refl, ℤ, pos, ◌-ℤ◌}
use Rattle.sf_algebra.specs.Matrices.{IsMatrix, degrees_of}
use Rattle.sf_algebra.specs.Vectors.{Vector}
use Rattle.sf_algebra.proofs.Vectors.VectorGroups.{vectors_of_degree}
use Rattle.sf_groebner.specs.MinimalGenerators.{matrix_of}
use Rattle.sf_chase.specs.ColumnPages.{CyclesBelow, HasColumn, ImagesModulo, IsInPart}
use Rattle.sf_chase.specs.Filtrations.{NearImageOf}
use Rattle.sf_bicomplex.specs.Bicomplexes.{Bicomplex, IsBicomplex}
use Rattle.sf_bicomplex.specs.InducedFiltrations.{HasLeadingColumn, IsCycleBelow, IsOfPart, IsTotalBoundary}
use Rattle.sf_bicomplex.specs.Pages.{IsNear}
use Rattle.sf_bicomplex.specs.TotalColumns.{place, total_degrees}
use Rattle.sf_bicomplex.proofs.Columns.ColumnMaps.{image_of}
use Rattle.sf_bicomplex.proofs.Filtrations.TotalBoundaries.{total_boundaries-same}
use Rattle.sf_bicomplex.proofs.Pages.NearVectors.{AreSame, IsNear-same}
use Rattle.sf_bicomplex.proofs.TotalComplexes.TotalGroups.{total_column, total_group, total_image}

module _ (b : Bicomplex) (h : IsBicomplex b) (above n below : ℤ) (first : n ≡ above -ℤ pos 1) (last : below ≡ n -ℤ pos 1)
    (rows : List Vector) (matrix : IsMatrix (matrix_of b.ring (total_degrees b n) rows)) (d : ℤ) where
  cycles-same : (k : ℕ) → AreSame b.ring h.is_ring (total_degrees b n) d (IsCycleBelow b n below k)
      (CyclesBelow (total_group b h n d) (total_group b h below d) (total_image b h n below last d) k)
  cycles-same k = record {
    there = λ v e. (e.stands.below, e.cycle);
    back = λ v e. record { stands = record { vector = v.1; below = e.0 }; cycle = e.1 };
  }

  -- combinations of the generators
  abbrev pub combination : (vectors_of_degree b.ring h.is_ring.modulus (degrees_of rows) d).V
      → (vectors_of_degree b.ring h.is_ring.modulus (total_degrees b n) d).V
  combination = image_of b.ring h.is_ring (degrees_of rows) (total_degrees b n) rows matrix refl d

  near-same : (k : ℕ) → AreSame b.ring h.is_ring (total_degrees b n) d
      (IsNear b.ring (total_degrees b n) (λ v. v) (IsCycleBelow b n below k) (IsTotalBoundary b above n))
      (NearImageOf (vectors_of_degree b.ring h.is_ring.modulus (total_degrees b n) d) (λ v. v)
      (CyclesBelow (total_group b h n d) (total_group b h below d) (total_image b h n below last d) k)
      (ImagesModulo (total_group b h above d) (total_group b h n d) (total_image b h above n first d)))
  near-same k =
      IsNear-same b.ring h.is_ring (total_degrees b n) (total_degrees b n) d (λ ts. ts) (λ v. v.1)
      (IsCycleBelow b n below k) (IsTotalBoundary b above n)
      (CyclesBelow (total_group b h n d) (total_group b h below d) (total_image b h n below last d) k)
      (ImagesModulo (total_group b h above d) (total_group b h n d) (total_image b h above n first d))
      (λ a e. e.stands.vector) (cycles-same k) (total_boundaries-same b h above n first d)

  pub part-same : (k : ℕ) → AreSame b.ring h.is_ring (degrees_of rows) d
      (IsOfPart b above n below (matrix_of b.ring (total_degrees b n) rows) k)
      (IsInPart (total_group b h above d) (total_group b h n d) (total_group b h below d) (total_image b h above n first d)
      (total_image b h n below last d) combination k)
  part-same k = record {
    there = λ c e. (near-same k).there (combination c) e.near;
    back = λ c e. record { coefficients = c.1; near = (near-same k).back (combination c) e };
  }

  module _ (p : ℕ) (inside : p < b.columns) where
    abbrev pub group_column : (vectors_of_degree b.ring h.is_ring.modulus (degrees_of rows) d).V
        → (vectors_of_degree b.ring h.is_ring.modulus (place b n p).target d).V → Type 0
    group_column =
        HasColumn (total_group b h above d) (total_group b h n d) (total_group b h below d)
        (total_image b h above n first d) (total_image b h n below last d) combination p (total_column b h n d p inside)

    abbrev less : (vectors_of_degree b.ring h.is_ring.modulus (degrees_of rows) d).V
        → (vectors_of_degree b.ring h.is_ring.modulus (total_degrees b n) d).V
        → (vectors_of_degree b.ring h.is_ring.modulus (total_degrees b n) d).V
    less c v =
        let G = vectors_of_degree b.ring h.is_ring.modulus (total_degrees b n) d in G.plus (combination c) (G.minus v)

    pub column-there : (c : (vectors_of_degree b.ring h.is_ring.modulus (degrees_of rows) d).V)
        (z : (vectors_of_degree b.ring h.is_ring.modulus (place b n p).target d).V)
        → HasLeadingColumn b above n below (matrix_of b.ring (total_degrees b n) rows) p
        (record { degree = d; terms = c.0 })
        (record { degree = d; terms = z.0 }) → group_column c z
    column-there c z e =
        let a : Vector = record { degree = d; terms = e.cycle.terms } in
        let same : e.cycle ≡ a = λ i. record { degree = sym e.same.degrees i; terms = e.cycle.terms } in
        let inside' : IsCycleBelow b n below (suc p) a = subst (IsCycleBelow b n below (suc p)) same e.inside in
        let element : (vectors_of_degree b.ring h.is_ring.modulus (total_degrees b n) d).V =
        (e.cycle.terms, inside'.stands.vector) in (
          element,
          (cycles-same (suc p)).there element inside',
          (total_boundaries-same b h above n first d).there (less c element) e.same.difference,
          e.column.difference,
        )

    pub column-back : (c : (vectors_of_degree b.ring h.is_ring.modulus (degrees_of rows) d).V)
        (z : (vectors_of_degree b.ring h.is_ring.modulus (place b n p).target d).V) → group_column c z
        → HasLeadingColumn b above n below (matrix_of b.ring (total_degrees b n) rows) p
        (record { degree = d; terms = c.0 })
        (record { degree = d; terms = z.0 })
    column-back c z e = record {
      coefficients = c.1;
      vector = z.1;
      cycle = record { degree = d; terms = e.0.0 };
      inside = (cycles-same (suc p)).back e.0 e.1;
      same = record {
        degrees = refl;
        difference = (total_boundaries-same b h above n first d).back (less c e.0) e.2;
      };
      column = record { degrees = refl; difference = e.3 };
    }
