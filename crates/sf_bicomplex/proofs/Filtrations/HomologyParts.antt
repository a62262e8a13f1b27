-- The laws of the filtration for the generators of the homology of the total complex.
use Rattle.std.proofs.Common.{◌≡◌, ◌↔◌, ℕ, suc, ◌<◌, ◌≤◌, sym, ◌∙◌, subst, refl, arith, ℤ, pos, ◌-ℤ◌, ◌+ℤ◌}
use Rattle.std.proofs.lemmas.Int.{ints}
use Rattle.sf_algebra.specs.Matrices.{IsMatrix, Matrix}
use Rattle.sf_algebra.specs.Rings.{IsOverField}
use Rattle.sf_algebra.specs.Vectors.{IsVector, Vector}
use Rattle.sf_algebra.proofs.Basics.Lists.{AllByRecursion-weaken}
use Rattle.sf_groebner.specs.Homology.{IsComplexPlace, IsCycle, IsHomology}
use Rattle.sf_groebner.specs.Maps.{AreEqualModulo}
use Rattle.sf_groebner.specs.MinimalGenerators.{matrix_of}
use Rattle.sf_groebner.specs.Spans.{InSpan, IsCoefficients}
use Rattle.sf_presented.specs.Presented.{IsPresentedBy}
use Rattle.sf_presented.proofs.Generating.{presented-homology}
use Rattle.sf_bicomplex.specs.Bicomplexes.{Bicomplex, IsBicomplex}
use Rattle.sf_bicomplex.specs.InducedFiltrations.{HasLeadingColumn, IsOfPart, IsTotalBoundary, IsTotalHomology, total_place}
use Rattle.sf_bicomplex.specs.Pages.{IsBoundaryOfPage, IsCycleOfPage}
use Rattle.sf_bicomplex.specs.TotalColumns.{total_degrees, total_map, total_module}
use Rattle.sf_bicomplex.proofs.Filtrations.PartLaws as Parts
use Rattle.sf_bicomplex.proofs.TotalComplexes.Diagonals.{IsMatrix-total_map, total_map-rows}
use Rattle.sf_bicomplex.proofs.TotalComplexes.TotalGroups.{IsMatrix-total_module, total_ring}

-- one degree lower than the next higher one
pub next-lower : (n above : ℤ) → above ≡ n +ℤ pos 1 → n ≡ above -ℤ pos 1
next-lower n above e = omega (arith, ints)

module _ (b : Bicomplex) (h : IsBicomplex b) (prime : IsOverField b.ring) (n above below : ℤ)
    (up : above ≡ n +ℤ pos 1) (down : below ≡ n -ℤ pos 1) (g relations : Matrix)
    (homology : IsTotalHomology b n g relations) where
  here_ring : (m : ℤ) → (total_module b m).ring ≡ b.ring
  here_ring m = total_ring b h m (pos 0)

  first : n ≡ above -ℤ pos 1
  first = next-lower n above up

  pub total_place-meets : IsComplexPlace (total_place b above n below)
  total_place-meets = record {
    arriving_matrix = IsMatrix-total_map b h above n first;
    here_matrix = IsMatrix-total_module b h n (pos 0);
    out_matrix = IsMatrix-total_map b h n below down;
    beyond_matrix = IsMatrix-total_module b h below (pos 0);
    arriving_ring = sym (here_ring n);
    out_ring = sym (here_ring n);
    beyond_ring = here_ring below ∙ sym (here_ring n);
    arriving_target = refl;
    out_degrees = total_map-rows b h n below down;
    out_target = refl;
  }

  at_place : IsHomology (total_place b above n below) g relations
  at_place = subst (λ (x : ℤ × ℤ). IsHomology (total_place b x.0 n x.1) g relations) (λ i. (sym up i, sym down i)) homology

  abbrev generators : Matrix
  generators = matrix_of b.ring (total_degrees b n) g.rows

  pub same : g ≡ matrix_of b.ring (total_degrees b n) g.rows
  same = λ i. record {
    ring = (at_place.generators_ring ∙ here_ring n) i;
    target = at_place.generators_target i;
    rows = g.rows;
  }

  pub presented : IsPresentedBy (IsCycle (total_map b n below) (total_module b below)) (IsTotalBoundary b above n)
      (matrix_of b.ring (total_degrees b n) g.rows) relations
  presented =
      subst (λ (x : Matrix). IsPresentedBy (IsCycle (total_map b n below) (total_module b below))
      (IsTotalBoundary b above n) x relations) same
      (presented-homology (total_place b above n below) (subst IsOverField (sym (here_ring n)) prime) total_place-meets g
      relations at_place)

  pub matrix : IsMatrix (matrix_of b.ring (total_degrees b n) g.rows)
  matrix =
      AllByRecursion-weaken _ (IsVector b.ring (total_degrees b n))
      (λ v e. subst (λ ds. IsVector b.ring ds v) (total_map-rows b h n below down) e.coefficients) g.rows presented.inside

  pub rising_parts : (k l : ℕ) → k ≤ l → (c : Vector)
      → (IsOfPart b above n below g k c → IsOfPart b above n below g l c)
      × (IsOfPart b above n below g 0 c ↔ InSpan relations c)
      × (IsCoefficients g c → IsOfPart b above n below g b.columns c)
  rising_parts k l rises c =
      subst (λ (x : Matrix). (IsOfPart b above n below x k c → IsOfPart b above n below x l c)
      × (IsOfPart b above n below x 0 c ↔ InSpan relations c)
      × (IsCoefficients x c → IsOfPart b above n below x b.columns c)) (sym same)
      (Parts.rising_parts b h above n below first down g.rows matrix relations presented k l rises c)

  module _ (r p : ℕ) (enough : b.columns ≤ r) (inside : p < b.columns) where
    pub leading_columns : ((c : Vector) → IsOfPart b above n below g (suc p) c
        ↔ ((z : Vector) × HasLeadingColumn b above n below g p c z))
        × ((z : Vector) → IsCycleOfPage b r n below p z ↔ ((c : Vector) × HasLeadingColumn b above n below g p c z))
    leading_columns =
        subst (λ (x : Matrix). ((c : Vector) → IsOfPart b above n below x (suc p) c
        ↔ ((z : Vector) × HasLeadingColumn b above n below x p c z))
        × ((z : Vector) → IsCycleOfPage b r n below p z ↔ ((c : Vector) × HasLeadingColumn b above n below x p c z)))
        (sym same)
        (Parts.leading_columns b h above n below first down g.rows matrix relations presented r p enough inside)

    pub parts_as_last_page : (c e y z : Vector) → HasLeadingColumn b above n below g p c y
        → HasLeadingColumn b above n below g p e z
        → AreEqualModulo g.ring (IsOfPart b above n below g p) c e
        ↔ AreEqualModulo b.ring (IsBoundaryOfPage b r above n p) y z
    parts_as_last_page =
        subst (λ (x : Matrix). (c e y z : Vector) → HasLeadingColumn b above n below x p c y
        → HasLeadingColumn b above n below x p e z
        → AreEqualModulo x.ring (IsOfPart b above n below x p) c e
        ↔ AreEqualModulo b.ring (IsBoundaryOfPage b r above n p) y z) (sym same)
        (Parts.parts_as_last_page b h above n below first down g.rows matrix relations presented r p enough inside)
