-- The differential of a page is a map of classes, whose combinations are its values.
use Rattle.std.proofs.Common.{◌≡◌, ℕ, suc, ◌+◌, ◌<◌, List, [], ◌∷◌, sym, subst, refl, arith, ℤ, pos, ◌-ℤ◌}
use Rattle.std.specs.List.{AllByRecursion}
use Rattle.sf_algebra.specs.Matrices.{degrees_of}
use Rattle.sf_algebra.specs.MatrixOperations.{part_terms, row_combination}
use Rattle.sf_algebra.specs.Rings.{IsOverField, IsRing, Ring}
use Rattle.sf_algebra.specs.Terms.{Term}
use Rattle.sf_algebra.specs.Vectors.{IsCanonicalRow, IsHomogeneous, IsVector, Place, Vector}
use Rattle.sf_algebra.proofs.GradedMatrices.MatrixRows.{with_terms}
use Rattle.sf_algebra.proofs.GradedMatrices.PartTerms.{IsCanonical-part_terms}
use Rattle.sf_algebra.proofs.GradedMatrices.ProductParts.{part_terms-row_combination}
use Rattle.sf_algebra.proofs.Vectors.HomogeneousVectors.{IsVector-row_combination}
use Rattle.sf_algebra.proofs.Vectors.RowParts.{HasCanonicalRows}
use Rattle.sf_algebra.proofs.Vectors.Rows.{IsCanonical-row_combination}
use Rattle.sf_groebner.specs.Maps.{AreEqualModulo}
use Rattle.sf_groebner.specs.MinimalGenerators.{matrix_of}
use Rattle.sf_groebner.specs.Spans.{InSpan, combined}
use Rattle.sf_groebner.proofs.Spanning.Submodules.{IsSubmodule}
use Rattle.sf_presented.proofs.EqualModulo.{AreEqualModulo-sym, AreEqualModulo-trans}
use Rattle.sf_presented.proofs.EqualRows.{AreEqualRows, EqualRows-combined}
use Rattle.sf_bicomplex.specs.Bicomplexes.{Bicomplex, IsBicomplex}
use Rattle.sf_bicomplex.specs.Pages.{FallsBelow, HasDifferential, IsBoundaryOfPage, IsCycleOfPage}
use Rattle.sf_bicomplex.specs.TotalColumns.{column_part, column_start, place, total_degrees, total_map}
use Rattle.sf_bicomplex.proofs.Pages.PageLaws.{differential-degree, differentials_of_classes, differentials_of_cycles}
use Rattle.sf_bicomplex.proofs.Spans.ClassMaps.{Correspond, IsClassMap}
use Rattle.sf_bicomplex.proofs.Spans.PageSpans.{IsSpanned-boundaries, IsSpanned-falls, IsSpanned-place, image_column-linear}
use Rattle.sf_bicomplex.proofs.Spans.SpannedModules.{IsSubmodule-spanned}

-- combinations of vectors are vectors
pub IsVector-combined : (ring : Ring) → IsRing ring → (degrees : List ℤ) (us : List Vector)
    → AllByRecursion (IsVector ring degrees) us → (c : Vector) → IsVector ring (degrees_of us) c
    → IsVector ring degrees (record { degree = c.degree; terms = row_combination ring us c.terms })
IsVector-combined ring positive degrees us matrix c e =
    IsVector-row_combination (matrix_of ring degrees us) positive.modulus matrix c e

module _ (b : Bicomplex) (h : IsBicomplex b) (prime : IsOverField b.ring) (k n m l : ℤ) (above : n ≡ k -ℤ pos 1)
    (lower : m ≡ n -ℤ pos 1) (last : l ≡ m -ℤ pos 1) (r p : ℕ) (inside : p + r < b.columns) where
  also_inside : p < b.columns
  also_inside = omega arith

  bounds : IsSubmodule b.ring (place b m p).target (IsBoundaryOfPage b r n m p)
  bounds =
      IsSubmodule-spanned b.ring (place b m p).target h.is_ring (IsBoundaryOfPage b r n m p)
      (IsSpanned-boundaries b h prime n m lower r p also_inside)

  place_module : IsSubmodule b.ring (place b n (p + r)).target (InSpan (place b n (p + r)))
  place_module =
      IsSubmodule-spanned b.ring (place b n (p + r)).target h.is_ring (InSpan (place b n (p + r)))
      (IsSpanned-place b h prime n (p + r))

  falling : IsSubmodule b.ring (total_degrees b n) (FallsBelow b n m (suc (p + r)) (suc p))
  falling =
      IsSubmodule-spanned b.ring (total_degrees b n) h.is_ring (FallsBelow b n m (suc (p + r)) (suc p))
      (IsSpanned-falls b h prime n m lower (suc (p + r)) (suc p))

  -- the column of a vector, and that of its image
  abbrev start_terms : List (Term Place) → List (Term Place)
  start_terms = part_terms (column_start b n (suc (p + r))) (column_start b n (p + r))

  abbrev end_terms : List (Term Place) → List (Term Place)
  end_terms ts =
      part_terms (column_start b m (suc p)) (column_start b m p) (row_combination b.ring (total_map b n m).rows ts)

  canonical-end : (v : Vector) → IsCanonicalRow b.ring (end_terms v.terms)
  canonical-end v =
      IsCanonical-part_terms b.ring (column_start b m (suc p)) (column_start b m p) _
      (IsCanonical-row_combination b.ring h.is_ring.modulus (total_map b n m).rows v.terms)

  -- vectors through which others correspond
  record Gathered (us ws : List Vector) : Type 0 where
    through : List Vector
    falls : AllByRecursion (FallsBelow b n m (suc (p + r)) (suc p)) through
    degrees : degrees_of through ≡ degrees_of us
    also_degrees : degrees_of ws ≡ degrees_of us
    starts : AreEqualRows b.ring (InSpan (place b n (p + r))) us (with_terms start_terms through)
    ends : AreEqualRows b.ring (IsBoundaryOfPage b r n m p) ws (with_terms end_terms through)
    sources : AllByRecursion (IsVector b.ring (place b n (p + r)).target) us
    targets : AllByRecursion (IsVector b.ring (place b m p).target) ws

  gathered : (us ws : List Vector) → Correspond (HasDifferential b r n m p) us ws → Gathered us ws
  gathered [] [] e =
      record { through = []; falls = tt; degrees = refl; also_degrees = refl; starts = tt; ends = tt; sources = tt; targets = tt }
  gathered [] (w ∷ ws) e = absurd e
  gathered (u ∷ us) [] e = absurd e
  gathered (u ∷ us) (w ∷ ws) e =
      let rest = gathered us ws e.1 in
      let degree : e.0.through.degree ≡ u.degree = sym e.0.start.degrees in
      let also_degree : w.degree ≡ u.degree = differential-degree b h n m lower r p u w e.0 in
      record {
        through = e.0.through ∷ rest.through;
        falls = (e.0.falls, rest.falls);
        degrees = λ i. degree i ∷ rest.degrees i;
        also_degrees = λ i. also_degree i ∷ rest.also_degrees i;
        starts = (e.0.start, rest.starts);
        ends = (e.0.end, rest.ends);
        sources = (e.0.from_vector, rest.sources);
        targets = (e.0.to_vector, rest.targets);
      }

  -- columns of canonical vectors are canonical
  canonical-starts : (vs : List Vector) → AllByRecursion (FallsBelow b n m (suc (p + r)) (suc p)) vs
      → HasCanonicalRows b.ring (with_terms start_terms vs)
  canonical-starts [] e = tt
  canonical-starts (v ∷ vs) e = (
    IsCanonical-part_terms b.ring (column_start b n (suc (p + r))) (column_start b n (p + r)) v.terms
        e.0.stands.vector.canonical,
    canonical-starts vs e.1,
  )

  canonical-ends : (vs : List Vector) → HasCanonicalRows b.ring (with_terms end_terms vs)
  canonical-ends [] = tt
  canonical-ends (v ∷ vs) = (canonical-end v, canonical-ends vs)

  pub combinations : (us ws : List Vector) → Correspond (HasDifferential b r n m p) us ws → (c : Vector)
      → IsVector b.ring (degrees_of us) c
      → HasDifferential b r n m p (record { degree = c.degree; terms = row_combination b.ring us c.terms })
      (record { degree = c.degree; terms = row_combination b.ring ws c.terms })
  combinations us ws e c x =
      let g = gathered us ws e in
      let homogeneous = subst (λ ds. IsVector b.ring ds c) (sym g.also_degrees) x in
      record {
        from_vector = IsVector-combined b.ring h.is_ring (place b n (p + r)).target us g.sources c x;
        to_vector = IsVector-combined b.ring h.is_ring (place b m p).target ws g.targets c homogeneous;
        through = record { degree = c.degree; terms = row_combination b.ring g.through c.terms };
        falls = falling.combinations g.through g.falls c.degree c.terms
            (subst (λ ds. IsHomogeneous b.ring.weights ds c.degree c.terms) (sym g.degrees) x.homogeneous);
        start =
            subst (λ ts. AreEqualModulo b.ring (InSpan (place b n (p + r)))
            (record { degree = c.degree; terms = row_combination b.ring us c.terms })
            (record { degree = c.degree; terms = ts }))
            (sym (part_terms-row_combination b.ring h.is_ring.modulus (column_start b n (suc (p + r)))
            (column_start b n (p + r)) g.through c.terms))
            (EqualRows-combined b.ring h.is_ring (InSpan (place b n (p + r))) (place b n (p + r)).target place_module us
            (with_terms start_terms g.through) (canonical-starts g.through g.falls) g.starts c x.homogeneous);
        end =
            subst (λ ts. AreEqualModulo b.ring (IsBoundaryOfPage b r n m p)
            (record { degree = c.degree; terms = row_combination b.ring ws c.terms })
            (record { degree = c.degree; terms = ts }))
            (sym (image_column-linear b h prime n m lower r p also_inside g.through c.terms))
            (EqualRows-combined b.ring h.is_ring (IsBoundaryOfPage b r n m p) (place b m p).target bounds ws
            (with_terms end_terms g.through) (canonical-ends g.through) g.ends c homogeneous.homogeneous);
      }

  pub differential-class_map : IsClassMap b.ring (IsCycleOfPage b r n m (p + r)) (IsBoundaryOfPage b r k n (p + r))
      (IsCycleOfPage b r m l p) (IsBoundaryOfPage b r n m p) (HasDifferential b r n m p)
  differential-class_map = record {
    first = λ u w e. ((differentials_of_cycles b h n m l lower last r p inside u).1 w e).0;
    inside = λ u w e. ((differentials_of_cycles b h n m l lower last r p inside u).1 w e).1;
    degrees = differential-degree b h n m lower r p;
    image = λ u e. (differentials_of_cycles b h n m l lower last r p inside u).0 e;
    equal = λ u w x e cycle same. record {
      from_vector = e.from_vector;
      to_vector = cycle.vector;
      through = e.through;
      falls = e.falls;
      start = e.start;
      end =
          let image : Vector = column_part b m p (combined (total_map b n m) e.through) in
          let canonical = canonical-end e.through in
          AreEqualModulo-trans b.ring h.is_ring (place b m p).target (IsBoundaryOfPage b r n m p) bounds x w image
          cycle.vector.canonical e.to_vector.canonical canonical
          (AreEqualModulo-sym b.ring h.is_ring (place b m p).target (IsBoundaryOfPage b r n m p) bounds w x
          e.to_vector.canonical cycle.vector.canonical same) e.end;
    };
    classes = differentials_of_classes b h k n m above lower r p inside;
    combinations = combinations;
  }
