-- Coordinates on a page are a map of classes from the next page to the homology of the page, and so are they the other way
-- round.
use Rattle.std.proofs.Common.{◌≡◌, ℕ, suc, ◌<◌, List, [], ◌∷◌, sym, subst, refl, arith, ℤ, pos, ◌-ℤ◌, ◌+ℤ◌}
use Rattle.std.specs.List.{AllByRecursion}
use Rattle.sf_algebra.specs.Matrices.{Matrix, degrees_of}
use Rattle.sf_algebra.specs.MatrixOperations.{row_combination}
use Rattle.sf_algebra.specs.Rings.{IsOverField}
use Rattle.sf_algebra.specs.VectorOperations.{vector_difference}
use Rattle.sf_algebra.specs.Vectors.{IsCanonicalRow, IsVector, Vector}
use Rattle.sf_algebra.proofs.GradedMatrices.MatrixRows.{with_terms}
use Rattle.sf_algebra.proofs.Operators.Correspondences.{converse}
use Rattle.sf_algebra.proofs.Vectors.Rows.{IsCanonical-row_combination, row_combination-matrix_product}
use Rattle.sf_groebner.specs.Maps.{AreEqualModulo}
use Rattle.sf_groebner.specs.MinimalGenerators.{matrix_of}
use Rattle.sf_groebner.specs.Spans.{combined}
use Rattle.sf_groebner.proofs.MapsOnHomology.EqualModulo.{AreEqualModulo-inside}
use Rattle.sf_groebner.proofs.Spanning.Spans.{IsVector-difference, combined-difference}
use Rattle.sf_groebner.proofs.Spanning.Submodules.{IsSubmodule}
use Rattle.sf_presented.proofs.EqualModulo.{AreEqualModulo-refl, AreEqualModulo-sym, AreEqualModulo-trans}
use Rattle.sf_presented.proofs.EqualRows.{AreEqualRows, EqualRows-combined, canonical-with_terms}
use Rattle.sf_bicomplex.specs.Bicomplexes.{Bicomplex, IsBicomplex}
use Rattle.sf_bicomplex.specs.NextPages.{HasPageCoordinates, IsNextBoundary, IsNextCycle}
use Rattle.sf_bicomplex.specs.Pages.{IsBoundaryOfPage, IsCycleOfPage, IsPage}
use Rattle.sf_bicomplex.specs.TotalColumns.{place}
use Rattle.sf_bicomplex.proofs.Filtrations.HomologyParts.{next-lower}
use Rattle.sf_bicomplex.proofs.Pages.PageLaws.{boundaries_among_cycles, nested_pages}
use Rattle.sf_bicomplex.proofs.Spans.ClassMaps.{Correspond, IsClassMap}
use Rattle.sf_bicomplex.proofs.Spans.DifferentialMaps.{IsVector-combined}
use Rattle.sf_bicomplex.proofs.Spans.PageSpans.{IsSpanned-boundaries, IsSpanned-cycles}
use Rattle.sf_bicomplex.proofs.Spans.ReducedCoordinates.{reduced_coordinates}
use Rattle.sf_bicomplex.proofs.Spans.SpannedModules.{IsSpanned, IsSubmodule-spanned}

module _ (b : Bicomplex) (h : IsBicomplex b) (prime : IsOverField b.ring) (r : ℕ) (n : ℤ) (p : ℕ) (inside : p < b.columns)
    (gs rs : List Vector)
    (given : IsPage b r n p (matrix_of b.ring (place b n p).target gs) (matrix_of b.ring (degrees_of gs) rs)) where
  abbrev above : ℤ
  above = n +ℤ pos 1

  abbrev below : ℤ
  below = n -ℤ pos 1

  first-lower : n ≡ n +ℤ pos 1 -ℤ pos 1
  first-lower = next-lower n above refl

  abbrev g : Matrix
  g = matrix_of b.ring (place b n p).target gs

  abbrev N : Vector → Type 0
  N = IsCycleOfPage b (suc r) n (n -ℤ pos 1) p

  abbrev B : Vector → Type 0
  B = IsBoundaryOfPage b (suc r) (n +ℤ pos 1) n p

  abbrev F : Vector → Vector → Type 0
  F = HasPageCoordinates b r n p (matrix_of b.ring (place b n p).target gs)

  cycles : IsSpanned b.ring (place b n p).target (IsCycleOfPage b (suc r) n (n -ℤ pos 1) p)
  cycles = IsSpanned-cycles b h prime n below refl (suc r) p inside

  boundaries : IsSpanned b.ring (place b n p).target (IsBoundaryOfPage b (suc r) (n +ℤ pos 1) n p)
  boundaries = IsSpanned-boundaries b h prime above n first-lower (suc r) p inside

  cycles_module : IsSubmodule b.ring (place b n p).target (IsCycleOfPage b (suc r) n (n -ℤ pos 1) p)
  cycles_module = IsSubmodule-spanned b.ring (place b n p).target h.is_ring N cycles

  bounds_module : IsSubmodule b.ring (place b n p).target (IsBoundaryOfPage b (suc r) (n +ℤ pos 1) n p)
  bounds_module = IsSubmodule-spanned b.ring (place b n p).target h.is_ring B boundaries

  canonical : (c : Vector) → IsCanonicalRow b.ring (combined g c).terms
  canonical c = IsCanonical-row_combination b.ring h.is_ring.modulus gs c.terms

  -- combinations of the generators that are equal
  difference-inside : (c e : Vector) → IsVector b.ring (degrees_of gs) e → c.degree ≡ e.degree
      → IsBoundaryOfPage b (suc r) (n +ℤ pos 1) n p (combined g (vector_difference b.ring c e))
      → AreEqualModulo b.ring (IsBoundaryOfPage b (suc r) (n +ℤ pos 1) n p) (combined g c) (combined g e)
  difference-inside c e x degree k =
      record { degrees = degree; difference = subst B (combined-difference g h.is_ring c e x.canonical) k }

  inside-difference : (c e : Vector) → IsVector b.ring (degrees_of gs) c → IsVector b.ring (degrees_of gs) e
      → AreEqualModulo b.ring (IsBoundaryOfPage b (suc r) (n +ℤ pos 1) n p) (combined g c) (combined g e)
      → AreEqualModulo b.ring (IsNextBoundary b r (n +ℤ pos 1) n p (matrix_of b.ring (place b n p).target gs)) c e
  inside-difference c e x y same = record {
    degrees = same.degrees;
    difference = record {
      coefficients = IsVector-difference b.ring h.is_ring (degrees_of gs) c e x y same.degrees;
      inside = subst B (sym (combined-difference g h.is_ring c e y.canonical)) same.difference;
    };
  }

  -- equality modulo boundaries, for vectors of the column
  sym-boundaries : (v w : Vector) → IsCanonicalRow b.ring v.terms → IsCanonicalRow b.ring w.terms
      → AreEqualModulo b.ring (IsBoundaryOfPage b (suc r) (n +ℤ pos 1) n p) v w
      → AreEqualModulo b.ring (IsBoundaryOfPage b (suc r) (n +ℤ pos 1) n p) w v
  sym-boundaries = AreEqualModulo-sym b.ring h.is_ring (place b n p).target B bounds_module

  trans-boundaries : (u v w : Vector) → IsCanonicalRow b.ring u.terms → IsCanonicalRow b.ring v.terms
      → IsCanonicalRow b.ring w.terms → AreEqualModulo b.ring (IsBoundaryOfPage b (suc r) (n +ℤ pos 1) n p) u v
      → AreEqualModulo b.ring (IsBoundaryOfPage b (suc r) (n +ℤ pos 1) n p) v w
      → AreEqualModulo b.ring (IsBoundaryOfPage b (suc r) (n +ℤ pos 1) n p) u w
  trans-boundaries = AreEqualModulo-trans b.ring h.is_ring (place b n p).target B bounds_module

  -- the combination with coordinates of a cycle is one
  combined-cycle : (v c : Vector) → HasPageCoordinates b r n p (matrix_of b.ring (place b n p).target gs) v c
      → IsCycleOfPage b (suc r) n (n -ℤ pos 1) p (combined g c)
  combined-cycle v c e =
      AreEqualModulo-inside b.ring h.is_ring (place b n p).target N cycles_module.module_like v (combined g c) (canonical c)
      (record {
        degrees = e.same.degrees;
        difference =
            boundaries_among_cycles b h above n below first-lower refl (suc r) (suc r) p inside
            (vector_difference b.ring v (combined g c)) e.same.difference;
      })
      e.cycle

  record Gathered (vs cs : List Vector) : Type 0 where
    all_cycles : AllByRecursion (IsCycleOfPage b (suc r) n (n -ℤ pos 1) p) vs
    all_coefficients : AllByRecursion (IsVector b.ring (degrees_of gs)) cs
    degrees : degrees_of cs ≡ degrees_of vs
    sames : AreEqualRows b.ring (IsBoundaryOfPage b (suc r) (n +ℤ pos 1) n p) vs (with_terms (row_combination b.ring gs) cs)

  gathered : (vs cs : List Vector) → Correspond (HasPageCoordinates b r n p (matrix_of b.ring (place b n p).target gs)) vs cs
      → Gathered vs cs
  gathered [] [] e = record { all_cycles = tt; all_coefficients = tt; degrees = refl; sames = tt }
  gathered [] (c ∷ cs) e = absurd e
  gathered (v ∷ vs) [] e = absurd e
  gathered (v ∷ vs) (c ∷ cs) e =
      let rest = gathered vs cs e.1 in
      let degree : c.degree ≡ v.degree = sym e.0.same.degrees in
      record {
        all_cycles = (e.0.cycle, rest.all_cycles);
        all_coefficients = (e.0.coefficients, rest.all_coefficients);
        degrees = λ i. degree i ∷ rest.degrees i;
        sames = (e.0.same, rest.sames);
      }

  combinations : (vs cs : List Vector) → Correspond (HasPageCoordinates b r n p (matrix_of b.ring (place b n p).target gs)) vs cs
      → (c : Vector) → IsVector b.ring (degrees_of vs) c
      → HasPageCoordinates b r n p (matrix_of b.ring (place b n p).target gs)
      (record { degree = c.degree; terms = row_combination b.ring vs c.terms })
      (record { degree = c.degree; terms = row_combination b.ring cs c.terms })
  combinations vs cs e c x =
      let k = gathered vs cs e in
      record {
        cycle = cycles_module.combinations vs k.all_cycles c.degree c.terms x.homogeneous;
        coefficients = IsVector-combined b.ring h.is_ring (degrees_of gs) cs k.all_coefficients c
            (subst (λ ds. IsVector b.ring ds c) (sym k.degrees) x);
        same =
            subst (λ ts. AreEqualModulo b.ring B (record { degree = c.degree; terms = row_combination b.ring vs c.terms })
            (record { degree = c.degree; terms = ts }))
            (row_combination-matrix_product b.ring h.is_ring.modulus (matrix_of b.ring (degrees_of gs) cs) g c.terms refl)
            (EqualRows-combined b.ring h.is_ring B (place b n p).target bounds_module vs
            (with_terms (row_combination b.ring gs) cs) (canonical-with_terms b.ring h.is_ring gs cs) k.sames c
            x.homogeneous);
      }

  pub next-class_map : IsClassMap b.ring (IsCycleOfPage b (suc r) n (n -ℤ pos 1) p)
      (IsBoundaryOfPage b (suc r) (n +ℤ pos 1) n p)
      (IsNextCycle b r n (n -ℤ pos 1) p (matrix_of b.ring (place b n p).target gs))
      (IsNextBoundary b r (n +ℤ pos 1) n p (matrix_of b.ring (place b n p).target gs))
      (HasPageCoordinates b r n p (matrix_of b.ring (place b n p).target gs))
  next-class_map = record {
    first = λ v c e. e.cycle;
    inside = λ v c e. record { coefficients = e.coefficients; inside = combined-cycle v c e };
    degrees = λ v c e. sym e.same.degrees;
    image = λ v cycle.
        let low = (nested_pages b h n below refl r (suc r) p (omega arith) inside v).0 cycle in
        let c =
        reduced_coordinates b.ring prime (place b n p).target (IsCycleOfPage b r n below p)
        (IsBoundaryOfPage b r above n p) (IsSpanned-cycles b h prime n below refl r p inside)
        (IsSpanned-boundaries b h prime above n first-lower r p inside) gs rs given v low in (
          c.0,
          record {
            cycle = cycle;
            coefficients = c.1;
            same = record {
              degrees = c.3.degrees;
              difference =
                  (nested_pages b h above n first-lower r (suc r) p (omega arith) inside _).1 c.3.difference;
            };
          },
        );
    equal = λ v c x e member same. record {
      cycle = e.cycle;
      coefficients = member.coefficients;
      same = trans-boundaries v (combined g c) (combined g x) e.cycle.vector.canonical (canonical c) (canonical x) e.same
          (difference-inside c x member.coefficients same.degrees same.difference.inside);
    };
    classes = λ v w c x e k same.
        inside-difference c x e.coefficients k.coefficients
        (trans-boundaries (combined g c) v (combined g x) (canonical c) e.cycle.vector.canonical (canonical x)
        (sym-boundaries v (combined g c) e.cycle.vector.canonical (canonical c) e.same)
        (trans-boundaries v w (combined g x) e.cycle.vector.canonical k.cycle.vector.canonical (canonical x) same k.same));
    combinations = combinations;
  }

  turned : (cs vs : List Vector)
      → Correspond (converse (HasPageCoordinates b r n p (matrix_of b.ring (place b n p).target gs))) cs vs
      → Correspond (HasPageCoordinates b r n p (matrix_of b.ring (place b n p).target gs)) vs cs
  turned [] [] e = tt
  turned [] (v ∷ vs) e = absurd e
  turned (c ∷ cs) [] e = absurd e
  turned (c ∷ cs) (v ∷ vs) e = (e.0, turned cs vs e.1)

  pub next-class_map_back : IsClassMap b.ring
      (IsNextCycle b r n (n -ℤ pos 1) p (matrix_of b.ring (place b n p).target gs))
      (IsNextBoundary b r (n +ℤ pos 1) n p (matrix_of b.ring (place b n p).target gs))
      (IsCycleOfPage b (suc r) n (n -ℤ pos 1) p) (IsBoundaryOfPage b (suc r) (n +ℤ pos 1) n p)
      (converse (HasPageCoordinates b r n p (matrix_of b.ring (place b n p).target gs)))
  next-class_map_back = record {
    first = λ c v e. record { coefficients = e.coefficients; inside = combined-cycle v c e };
    inside = λ c v e. e.cycle;
    degrees = λ c v e. e.same.degrees;
    image = λ c e. (
      combined g c,
      record {
        cycle = e.inside;
        coefficients = e.coefficients;
        same = AreEqualModulo-refl b.ring h.is_ring (place b n p).target B bounds_module (combined g c) (canonical c);
      },
    );
    equal = λ c v w e cycle same. record {
      cycle = cycle;
      coefficients = e.coefficients;
      same = trans-boundaries w v (combined g c) cycle.vector.canonical e.cycle.vector.canonical (canonical c)
          (sym-boundaries v w e.cycle.vector.canonical cycle.vector.canonical same) e.same;
    };
    classes = λ c x v w e k same.
        trans-boundaries v (combined g c) w e.cycle.vector.canonical (canonical c) k.cycle.vector.canonical e.same
        (trans-boundaries (combined g c) (combined g x) w (canonical c) (canonical x) k.cycle.vector.canonical
        (difference-inside c x k.coefficients same.degrees same.difference.inside)
        (sym-boundaries w (combined g x) k.cycle.vector.canonical (canonical x) k.same));
    combinations = λ cs vs e c x. combinations vs cs (turned cs vs e) c
        (subst (λ ds. IsVector b.ring ds c) (gathered vs cs (turned cs vs e)).degrees x);
  }
