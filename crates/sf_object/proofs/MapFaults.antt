-- The plan of a map's fault answers the first fault, and there is none exactly where the matrix is a map.
use Rattle.std.proofs.Common.{◌≡◌, ◌↔◌, ℕ, ◌+◌, List, [], ◌∷◌, map, Option, Some, None, Ok, refl, sym, ◌∙◌, ap, subst, arith}
use Rattle.std.specs.List.{AllByRecursion}
use Rattle.std.specs.Option.{option_map}
use Rattle.sf_algebra.specs.Matrices.{Matrix, IsMatrix}
use Rattle.sf_algebra.specs.Rings.{IsOverField}
use Rattle.sf_algebra.proofs.GradedMatrices.Stacks.{AllByRecursion-map}
use Rattle.sf_algebra.proofs.Monomials.Weights.{field_ring}
use Rattle.sf_groebner.specs.Presentations.{IsModuleMap}
use Rattle.sf_groebner.specs.Spans.{InSpan, combined}
use Rattle.sf_matrix.specs.Runs.{Run}
use Rattle.sf_matrix.proofs.Plans.Readings.{look_is}
use Rattle.sf_presented.proofs.RowMaps.{sends-rows, sends-span}
use Rattle.sf_object.specs.declared.map.Map.{Map}
use Rattle.sf_object.specs.Faults.{IsBetween, IsFirstFault, IsFirstOrNone, images_of, map_plan, outside_plan}
use Rattle.sf_object.proofs.Outside.{first-unique, outside_is}

pub from_zero : (found : Option ℕ) → option_map (λ j. 0 + j) found ≡ found
from_zero None = refl
from_zero (Some j) = ap Some (omega arith)

pub answers_first_fault : (limit : ℕ) (f : Map) (looked : List Matrix) (found : Option ℕ)
    → Run limit (map_plan f) looked (Ok found)
    → IsFirstFault f found × ((other : Option ℕ) → IsFirstFault f other → other ≡ found)
unfolding map_plan
answers_first_fault limit f looked found run =
    let at = look_is limit f.target (λ elements. outside_plan f.target 0 (images_of f)) looked found run in
    let is = outside_is f.target at.2.field at.2.matrix limit 0 (images_of f) at.1 found at.3 in
    let same = is.1 ∙ from_zero is.0 in
    let first = subst (IsFirstOrNone f.target (images_of f)) (sym same) is.2 in
    (first, λ other h. first-unique f.target (images_of f) other found h first)

-- what holds of the images holds of what the vectors go to
all_images : {X Y : Type 0} (P : Y → Type 0) (f : X → Y) (xs : List X) → AllByRecursion P (map f xs)
    → AllByRecursion (λ x. P (f x)) xs
all_images P f [] h = tt
all_images P f (x ∷ xs) h = (h.0, all_images P f xs h.1)

pub no_fault_map : (f : Map) → IsOverField f.matrix.ring → IsMatrix f.source → IsMatrix f.target → IsMatrix f.matrix → IsBetween f
    → IsFirstFault f None ↔ IsModuleMap f.source f.target f.matrix
no_fault_map f field source target matrix between =
    let positive = field_ring field in (
      λ h. record {
        matrix = matrix;
        source_ring = between.source_ring;
        target_ring = between.target_ring;
        source_degrees = between.source_degrees;
        target_degrees = between.target_degrees;
        sends =
            sends-span f.source f.target f.matrix positive between.source_ring between.target_ring target
            (all_images (InSpan f.target) (combined f.matrix) f.source.rows h);
      },
      λ h.
          AllByRecursion-map (InSpan f.target) (combined f.matrix) f.source.rows
          (sends-rows f.source f.target f.matrix positive between.source_ring between.target_ring field.prime.above_one source
          h.sends),
    )
