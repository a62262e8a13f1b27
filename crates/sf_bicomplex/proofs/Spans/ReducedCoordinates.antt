-- Vectors of a module have one list of reduced coordinates in the generators of its presentation.
use Rattle.std.proofs.Common.{◌≡◌, ◌↔◌, List, refl, ℤ}
use Rattle.sf_algebra.specs.Matrices.{Matrix, degrees_of}
use Rattle.sf_algebra.specs.Rings.{IsOverField, IsRing, Ring}
use Rattle.sf_algebra.specs.Vectors.{IsVector, Vector}
use Rattle.sf_algebra.proofs.Monomials.Weights.{field_ring}
use Rattle.sf_algebra.proofs.Vectors.Rows.{IsCanonical-row_combination}
use Rattle.sf_groebner.specs.Maps.{AreEqualModulo}
use Rattle.sf_groebner.specs.MinimalGenerators.{matrix_of}
use Rattle.sf_groebner.specs.Presentations.{AreRelationsModulo, IsPresentation, IsReducedByRelations, IsRelation}
use Rattle.sf_groebner.specs.Spans.{InSpan, combined}
use Rattle.sf_groebner.proofs.Uniqueness.PresentedModules.{IsPresentation-same}
use Rattle.sf_presented.specs.Coordinates.{AreCoordinates}
use Rattle.sf_presented.proofs.Coordinates.{unique_coordinates}
use Rattle.sf_presented.proofs.EqualModulo.{AreEqualModulo-refl}
use Rattle.sf_presented.proofs.PresentedCoordinates.{coordinates-presentation}
use Rattle.sf_bicomplex.proofs.Spans.SpannedModules.{IsSpanned, IsSpanned-span, IsSubmodule-spanned, spanned-presented}

module _ (ring : Ring) (prime : IsOverField ring) (target : List ℤ) (N B : Vector → Type 0)
    (n : IsSpanned ring target N) (b : IsSpanned ring target B) (gs rs : List Vector)
    (given : IsPresentation ring target N B (matrix_of ring target gs) (matrix_of ring (degrees_of gs) rs)) where
  abbrev g : Matrix
  g = matrix_of ring target gs

  abbrev r : Matrix
  r = matrix_of ring (degrees_of gs) rs

  abbrev base : Matrix
  base = matrix_of ring target b.rows

  over_base : IsPresentation ring target N (InSpan base) g r
  over_base =
      IsPresentation-same ring target N B g r given N (InSpan base) (λ v k. k) (λ v k. k) (λ v. (b.spans v).0)
      (λ v. (b.spans v).1)

  positive : IsRing ring
  positive = field_ring prime

  over_base_coordinates : AreRelationsModulo g base r
      × ((v : Vector) → N v → (c : Vector) × AreCoordinates g base r v c)
  over_base_coordinates =
      coordinates-presentation ring prime target N base refl b.matrix g r over_base
      (spanned-presented ring prime target N (InSpan base) n (IsSpanned-span ring target base refl refl b.matrix) g r
      over_base)

  -- the relations of the generators
  pub relations-of : (c : Vector) → IsRelation (matrix_of ring target gs) B c
      ↔ InSpan (matrix_of ring (degrees_of gs) rs) c
  relations-of = (spanned-presented ring prime target N B n b g r given).relate

  -- each vector of the module has reduced coordinates
  pub reduced_coordinates : (v : Vector) → N v
      → (c : Vector) × IsVector ring (degrees_of gs) c
      × IsReducedByRelations (matrix_of ring (degrees_of gs) rs) c
      × AreEqualModulo ring B v (combined (matrix_of ring target gs) c)
  reduced_coordinates v e =
      let c = over_base_coordinates.1 v e in (
        c.0,
        c.1.coefficients,
        c.1.reduced,
        record { degrees = c.1.value.degrees; difference = (b.spans _).1 c.1.value.difference },
      )

  -- and no others
  pub one_reduced : (c e : Vector) → IsVector ring (degrees_of gs) c → IsVector ring (degrees_of gs) e
      → IsReducedByRelations (matrix_of ring (degrees_of gs) rs) c
      → IsReducedByRelations (matrix_of ring (degrees_of gs) rs) e
      → AreEqualModulo ring B (combined (matrix_of ring target gs) c) (combined (matrix_of ring target gs) e) → c ≡ e
  one_reduced c e x y first second same =
      let v : Vector = combined g c in
      let canonical = IsCanonical-row_combination ring positive.modulus gs c.terms in
      let base_module = IsSubmodule-spanned ring target positive (InSpan base)
      (IsSpanned-span ring target base refl refl b.matrix) in
      unique_coordinates g base r prime over_base_coordinates.0 v canonical c e
      (record {
        coefficients = x;
        reduced = first;
        value = AreEqualModulo-refl ring positive target (InSpan base) base_module v canonical;
      })
      (record {
        coefficients = y;
        reduced = second;
        value = record { degrees = same.degrees; difference = (b.spans _).0 same.difference };
      })
