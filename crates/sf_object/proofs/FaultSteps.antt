-- What `map_fault` has met of its plan, at each of its exits.
use Rattle.std.proofs.Common.{◌≡◌, ℕ, List, [], map, Option, Result, Ok, Err, ◌≤ℤ◌, sym, ◌∙◌, ap, subst}
use Rattle.std.specs.List.{AllByRecursion}
use Rattle.sf_algebra.specs.Matrices.{Matrix, IsMatrix}
use Rattle.sf_algebra.specs.MatrixOperations.{matrix_product, row_combination}
use Rattle.sf_algebra.specs.Rings.{Ring}
use Rattle.sf_algebra.specs.Vectors.{Vector, IsVector}
use Rattle.sf_algebra.proofs.GradedMatrices.Stacks.{AllByRecursion-map}
use Rattle.sf_matrix.specs.declared.basis.BaseFault.TheVariants.{Memory}
use Rattle.sf_matrix.specs.declared.basis.BaseFault.{BaseFault}
use Rattle.sf_matrix.specs.Meets.{Meets, Looked}
use Rattle.sf_matrix.specs.Runs.{Run, IsLookedAt}
use Rattle.sf_matrix.specs.Tables.{Table, GREATEST_REDUCED_DEGREE}
use Rattle.sf_matrix.proofs.Plans.Growth.{grown_none}
use Rattle.sf_matrix.proofs.Plans.Rules.{look_cut, look_fails, look_then, looked_at}
use Rattle.sf_object.specs.declared.map.Map.{Map}
use Rattle.sf_object.specs.Faults.{HasImageRoom, IsBetween, IsFirstOrNone, images_of, map_plan, outside_plan}
use Rattle.sf_object.proofs.MapFaults.{from_zero}
use Rattle.sf_object.proofs.Outside.{outside_run}

-- the rows of the product of the relations and the matrix are the images
images-product : (f : Map) → IsBetween f → (matrix_product f.source f.matrix).rows ≡ images_of f
images-product f between =
    ap (λ (ring : Ring). map (λ (v : Vector). record { degree = v.degree; terms = row_combination ring f.matrix.rows v.terms }) f.source.rows)
    (sym between.source_ring)

-- and they have room
pub images_room : (f : Map) → HasImageRoom f → (images : Matrix) → images ≡ matrix_product f.source f.matrix
    → AllByRecursion (λ (v : Vector). v.degree ≤ℤ GREATEST_REDUCED_DEGREE) images.rows
images_room f room images same =
    subst (λ (m : Matrix). AllByRecursion (λ (v : Vector). v.degree ≤ℤ GREATEST_REDUCED_DEGREE) m.rows) (sym same)
    (AllByRecursion-map (λ (v : Vector). v.degree ≤ℤ GREATEST_REDUCED_DEGREE)
    (λ (v : Vector). record { degree = v.degree; terms = row_combination f.source.ring f.matrix.rows v.terms }) f.source.rows
    room.reduced)

module _ {t u : Table} (f : Map) {m : Matrix} (relations : m ≡ f.target) where
  at_target : {r : Result (Option ℕ) BaseFault} → Looked t m r u → Looked t f.target r u
  at_target {r} h = subst (λ n. Looked t n r u) relations h

  pub map_failed : {fault : BaseFault} → Looked t m (Err fault) u → Meets t (map_plan f) (Err fault) u
  unfolding map_plan
  map_failed h = look_fails (at_target h)

  pub map_cut : {o : Option ℕ} → Looked t m (Ok o) u → Meets t (map_plan f) (Err Memory) u
  unfolding map_plan
  map_cut h = look_cut (at_target h)

  pub map_found : {o : Option ℕ} {images : Matrix} (found : Option ℕ) → IsBetween f → Looked t m (Ok o) u
      → images ≡ matrix_product f.source f.matrix → IsMatrix images → IsFirstOrNone m images.rows found
      → Meets t (map_plan f) (Ok found) u
  unfolding map_plan
  map_found {o} {images} found between h same matrix first =
      let at : IsLookedAt f.target _ = (looked_at (at_target h)).1 in
      let rows : images.rows ≡ images_of f = ap (λ (n : Matrix). n.rows) same ∙ images-product f between in
      let ring : images.ring ≡ f.target.ring =
      ap (λ (n : Matrix). n.ring) same ∙ sym between.source_ring ∙ between.target_ring in
      let target : images.target ≡ f.target.target = ap (λ (n : Matrix). n.target) same ∙ between.target_degrees in
      let vectors : AllByRecursion (IsVector f.target.ring f.target.target) (images_of f) =
      subst IsMatrix {x = images} {y = record { ring = f.target.ring; target = f.target.target; rows = images_of f }}
      (λ i. record { ring = ring i; target = target i; rows = rows i }) matrix in
      let first_image : IsFirstOrNone f.target (images_of f) found =
      subst (λ (x : Matrix × List Vector). IsFirstOrNone x.0 x.1 found) (λ i. (relations i, rows i)) first in
      let run = outside_run f.target at.field at.matrix u.limit 0 (images_of f) vectors found first_image in
      look_then (at_target h) (λ elements.
      record {
        looked = [];
        run = subst (λ o. Run u.limit (outside_plan f.target 0 (images_of f)) [] (Ok o)) (from_zero found) run;
        grown = grown_none u;
      })
