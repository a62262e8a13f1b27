-- Lists of vectors have one list of coordinates. Vectors of a presented module have coordinates: its relations are those
-- of its generators modulo the base, and its generators generate.
use Rattle.std.proofs.Common.{◌≡◌, refl, sym, ◌∙◌, subst, List, [], ◌∷◌, ℤ}
use Rattle.std.specs.List.{AllByRecursion}
use Rattle.sf_algebra.specs.Matrices.{Matrix, row_degrees, IsMatrix}
use Rattle.sf_algebra.specs.MatrixOperations.{stacked}
use Rattle.sf_algebra.specs.Rings.{Ring, IsOverField}
use Rattle.sf_algebra.specs.Vectors.{Vector, IsCanonicalRow}
use Rattle.sf_algebra.proofs.GradedMatrices.Stacks.{IsMatrix-stacked}
use Rattle.sf_algebra.proofs.Monomials.Weights.{field_ring}
use Rattle.sf_groebner.specs.Homology.{ComplexPlace, IsComplexPlace, IsAny, IsCycle, IsHomology, IsKernel, IsImage, IsCokernel}
use Rattle.sf_groebner.specs.MinimalGenerators.{AreMinimal, matrix_of}
use Rattle.sf_groebner.specs.Presentations.{AreRelationsModulo, IsModuleMap, IsPresentation, IsRelation, IsZero}
use Rattle.sf_groebner.specs.Spans.{InSpan}
use Rattle.sf_groebner.proofs.PartsOfBases.StackedSpans.{InSpan-stacked_sum}
use Rattle.sf_presented.specs.Coordinates.{AreCoordinates, HaveCoordinates, IsDescription}
use Rattle.sf_presented.specs.Presented.{IsPresentedBy}
use Rattle.sf_presented.proofs.Coordinates.{coordinates_exist, unique_coordinates}
use Rattle.sf_presented.proofs.Generating.{presented-kernel, presented-image, presented-cokernel, presented-homology}

-- vectors one after another
module _ (generators base relations : Matrix) (prime : IsOverField generators.ring)
    (given : AreRelationsModulo generators base relations) where
  coordinates_rows : (vs : List Vector) → AllByRecursion (InSpan (stacked generators base)) vs
      → (cs : List Vector) × HaveCoordinates generators base relations vs cs
  coordinates_rows [] h = ([], tt)
  coordinates_rows (v ∷ vs) h =
      let c = coordinates_exist generators base relations prime given v h.0 in
      let rest = coordinates_rows vs h.1 in
      (c.0 ∷ rest.0, (c.1, rest.1))

  pub description_exists : (described : Matrix) → AllByRecursion (InSpan (stacked generators base)) described.rows
      → (m : Matrix) × IsDescription generators base relations described m
  description_exists described h =
      let rows = coordinates_rows described.rows h in
      (matrix_of generators.ring (row_degrees generators) rows.0, record { ring = refl; target = refl; rows = rows.1 })

  same_coordinates_rows : (vs cs ds : List Vector)
      → AllByRecursion (λ (v : Vector). IsCanonicalRow generators.ring v.terms) vs
      → HaveCoordinates generators base relations vs cs → HaveCoordinates generators base relations vs ds → cs ≡ ds
  same_coordinates_rows [] [] [] canonical h k = refl
  same_coordinates_rows [] [] (d ∷ ds) canonical h k = absurd k
  same_coordinates_rows [] (c ∷ cs) ds canonical h k = absurd h
  same_coordinates_rows (v ∷ vs) [] ds canonical h k = absurd h
  same_coordinates_rows (v ∷ vs) (c ∷ cs) [] canonical h k = absurd k
  same_coordinates_rows (v ∷ vs) (c ∷ cs) (d ∷ ds) canonical h k =
      let first : c ≡ d = unique_coordinates generators base relations prime given v canonical.0 c d h.0 k.0 in
      let rest = same_coordinates_rows vs cs ds canonical.1 h.1 k.1 in
      λ i. first i ∷ rest i

  pub unique_description : (described : Matrix)
      → AllByRecursion (λ (v : Vector). IsCanonicalRow generators.ring v.terms) described.rows → (m n : Matrix)
      → IsDescription generators base relations described m → IsDescription generators base relations described n
      → m ≡ n
  unique_description described canonical m n h k =
      let rows = same_coordinates_rows described.rows m.rows n.rows canonical h.rows k.rows in
      λ i. record { ring = (h.ring ∙ sym k.ring) i; target = (h.target ∙ sym k.target) i; rows = rows i }

module _ (ring : Ring) (prime : IsOverField ring) (target : List ℤ) (N : Vector → Type 0) (base : Matrix)
    (base_ring : base.ring ≡ ring) (matrix : IsMatrix base) (g r : Matrix)
    (h : IsPresentation ring target N (InSpan base) g r) where
  pub relations-presentation : AreRelationsModulo g base r
  relations-presentation = record {
    base_matrix = matrix;
    base_ring = h.generators_ring ∙ sym base_ring;
    ring = h.relations_ring ∙ sym h.generators_ring;
    target = h.relations_target;
    minimal =
        subst (λ q. AreMinimal q (IsRelation g (InSpan base)) IsZero r.rows) (sym h.generators_ring) h.relations_minimal;
  }

  pub coordinates-presentation : IsPresentedBy N (InSpan base) g r
      → AreRelationsModulo g base r × ((v : Vector) → N v → (c : Vector) × AreCoordinates g base r v c)
  coordinates-presentation k =
      let g_prime : IsOverField g.ring = subst IsOverField (sym h.generators_ring) prime in (
        relations-presentation,
        λ v inside. coordinates_exist g base r g_prime relations-presentation v
            (InSpan-stacked_sum g base (field_ring g_prime) (h.generators_ring ∙ sym base_ring) v (k.generate v inside)),
      )

pub coordinates-kernel : (source target map : Matrix) → IsOverField source.ring → IsMatrix source → IsMatrix target
    → IsModuleMap source target map → (g r : Matrix) → IsKernel source target map g r
    → AreRelationsModulo g source r
    × ((v : Vector) → IsCycle map target v → (c : Vector) × AreCoordinates g source r v c)
coordinates-kernel source target map prime first second h g r k =
    coordinates-presentation source.ring prime source.target (IsCycle map target) source refl first g r k
    (presented-kernel source target map prime first second h g r k)

module _ (source target map : Matrix) (prime : IsOverField target.ring) (matrix : IsMatrix target)
    (h : IsModuleMap source target map) (g r : Matrix) where
  pub coordinates-image : IsImage target map g r
      → AreRelationsModulo g target r
      × ((v : Vector) → InSpan (stacked map target) v → (c : Vector) × AreCoordinates g target r v c)
  coordinates-image k =
      coordinates-presentation target.ring prime target.target (InSpan (stacked map target)) target refl matrix g r k
      (presented-image source target map prime matrix h g r k)

  pub coordinates-cokernel : IsCokernel target map g r
      → AreRelationsModulo g (stacked map target) r
      × ((v : Vector) → IsAny target.ring target.target v → (c : Vector) × AreCoordinates g (stacked map target) r v c)
  coordinates-cokernel k =
      coordinates-presentation target.ring prime target.target (IsAny target.ring target.target)
      (stacked map target) h.target_ring
      (IsMatrix-stacked map target h.target_ring h.target_degrees h.matrix matrix) g r k
      (presented-cokernel source target map prime matrix h g r k)

pub coordinates-homology : (place : ComplexPlace) → IsOverField place.here.ring → IsComplexPlace place → (g r : Matrix)
    → IsHomology place g r
    → AreRelationsModulo g (stacked place.arriving place.here) r
    × ((v : Vector) → IsCycle place.out place.beyond v
    → (c : Vector) × AreCoordinates g (stacked place.arriving place.here) r v c)
coordinates-homology place prime h g r k =
    coordinates-presentation place.here.ring prime place.here.target (IsCycle place.out place.beyond)
    (stacked place.arriving place.here) h.arriving_ring
    (IsMatrix-stacked place.arriving place.here h.arriving_ring h.arriving_target h.arriving_matrix h.here_matrix) g r k
    (presented-homology place prime h g r k)
