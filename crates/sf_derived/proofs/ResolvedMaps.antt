-- The maps of a resolution give complexes with N, usual where the module is.
use Rattle.std.proofs.Common.{◌≡◌, ◌<◌, ◌≤◌, ℕ, zero, suc, List, [], ◌∷◌, length, Ok, refl, sym, ap, ◌∙◌, subst, arith, ℤ}
use Rattle.std.proofs.lemmas.Int.{ints}
use Rattle.std.proofs.lemmas.List.{length-map}
use Rattle.std.specs.List.{AllByRecursion}
use Rattle.sf_algebra.specs.Matrices.{IsMatrix, Matrix, row_degrees}
use Rattle.sf_algebra.specs.MatrixOperations.{IsComposable, degree_sums, matrix_product, transposed}
use Rattle.sf_algebra.specs.Rings.{IsOverField, Ring}
use Rattle.sf_algebra.specs.Vectors.{Vector}
use Rattle.sf_algebra.proofs.Basics.Lists.{AllByRecursion-weaken}
use Rattle.sf_algebra.proofs.GradedMatrices.TransposedProducts.{IsComposable-transposed}
use Rattle.sf_algebra.proofs.GradedMatrices.Transposes.{row_degrees-transposed}
use Rattle.sf_algebra.proofs.Monomials.Weights.{field_ring}
use Rattle.sf_blocks.specs.MatrixSums.{IsZeroMatrix, zero_matrix}
use Rattle.sf_blocks.proofs.MatrixSums.SumProducts.{matrix_product-zero_second}
use Rattle.sf_blocks.proofs.TwoByTwo.ZeroParts.{IsZeroMatrix-zero_matrix}
use Rattle.sf_bicomplex.specs.TensorBicomplexes.{FreeComplex, IsFreeComplex, degrees_at}
use Rattle.sf_bicomplex.proofs.Tensors.Lists.{complexes_of_resolutions}
use Rattle.sf_matrix.specs.Runs.{Run}
use Rattle.sf_genmor.specs.PresentationDegrees.{IsDegreeUpTo}
use Rattle.sf_object.specs.ResolutionPlans.{resolution_plan}
use Rattle.sf_resolve.specs.ResolutionLaws.{IsSoundStep}
use Rattle.sf_resolve.proofs.StepAnswers.{resolution_is, resolved_matrix}
use Rattle.sf_resolve.proofs.StepDegrees.{steps_sound}
use Rattle.sf_functor.specs.FunctorLaws.{IsComplexBeside}
use Rattle.sf_functor.specs.Functors.{dual_degrees, hom_matrix, tensor_matrix, tensor_relations}
use Rattle.sf_functor.proofs.FunctorComplexes.{transposed_complex}
use Rattle.sf_functor.proofs.FunctorMaps.{row_degrees-tensor_matrix}
use Rattle.sf_module.specs.HomologyPlans.{HasMeetingMaps, place_between}
use Rattle.sf_derived.specs.DerivedPlans.{resolved}
use Rattle.sf_derived.specs.Places.{hom_place, product_place, tensor_place}
use Rattle.sf_derived.specs.Room.{AreUsual, IsUsual, IsUsualDegree}
use Rattle.sf_derived.proofs.StepSizes.{HasFewRows, few_steps}

-- the places as those of two maps
module _ (c : FreeComplex) (h : IsFreeComplex c) (n : Matrix) (i : ℕ) where
  pub product_same : tensor_place (c.map (suc i)) (c.map i) n ≡ product_place c n i
  product_same =
      ap (λ ds. place_between (tensor_matrix (c.map (suc i)) n) (tensor_relations ds n) (tensor_matrix (c.map i) n)
      (tensor_relations (c.map i).target n)) (h.sources i).source_of

  pub hom_same : tensor_place (transposed (c.map i)) (transposed (c.map (suc i))) n ≡ hom_place c n i
  hom_same =
      let here : row_degrees (transposed (c.map (suc i))) ≡ dual_degrees (c.degrees i) =
      row_degrees-transposed (c.map (suc i)) ∙ ap dual_degrees (h.targets i) in
      let beyond : dual_degrees (row_degrees (c.map (suc i))) ≡ dual_degrees (c.degrees (suc i)) =
      ap dual_degrees (h.sources (suc i)).source_of in
      λ j. place_between (hom_matrix (c.map i) n) (tensor_relations (here j) n) (hom_matrix (c.map (suc i)) n)
      (tensor_relations (beyond j) n)

-- two maps that meet
meets_between : (a b n : Matrix) → IsComposable a b → a.ring ≡ n.ring → HasMeetingMaps (tensor_place a b n)
meets_between a b n composable ring = record {
  arriving_ring = ring;
  out_ring = sym composable.rings ∙ ring;
  beyond_ring = sym composable.rings ∙ ring;
  arriving_target = ap (λ ds. degree_sums ds n.target) (sym composable.degrees);
  out_degrees = row_degrees-tensor_matrix b n;
  out_target = refl;
}

-- the maps of a complex of free modules over a field
module _ (c : FreeComplex) (h : IsFreeComplex c) (field : IsOverField c.ring) where
  composable : (i : ℕ) → IsComposable (c.map (suc i)) (c.map i)
  composable i = record {
    positive = subst (λ (q : Ring). 0 < q.modulus) (sym (h.sources (suc i)).ring_of) (field_ring field).modulus;
    rings = (h.sources (suc i)).ring_of ∙ sym (h.sources i).ring_of;
    degrees = (h.sources i).source_of ∙ sym (h.targets i);
  }

  -- where the first goes to nothing by 0
  square : c.map 0 ≡ zero_matrix c.ring (c.degrees 0) [] → (i : ℕ) → IsZeroMatrix (matrix_product (c.map (suc i)) (c.map i))
  square nothing zero =
      let first = c.map 1 in
      let zero_product : matrix_product first (c.map 0) ≡ zero_matrix first.ring (row_degrees first) [] =
      ap (matrix_product first) nothing ∙ matrix_product-zero_second c.ring (c.degrees 0) [] first (composable 0).positive in
      subst IsZeroMatrix (sym zero_product) (IsZeroMatrix-zero_matrix first.ring (row_degrees first) [])
  square nothing (suc i) = h.squares i

  complex_beside : c.map 0 ≡ zero_matrix c.ring (c.degrees 0) [] → (n : Matrix) → c.ring ≡ n.ring → IsMatrix n → (i : ℕ)
      → IsComplexBeside (c.map (suc i)) (c.map i) n
  complex_beside nothing n rings matrix i = record {
    first = record {
      field = subst IsOverField rings field;
      ring = (h.sources (suc i)).ring_of ∙ rings;
      map = (h.sources (suc i)).matrix;
      module_relations = matrix;
    };
    second = (h.sources i).matrix;
    composable = composable i;
    square = square nothing i;
  }

-- usual degrees in each place, where those of the module and of the steps are
degrees_usual : (first : List ℤ) (ms : List Matrix) → AreUsual first → AllByRecursion (λ m. AreUsual (row_degrees m)) ms → (i : ℕ)
    → AreUsual (degrees_at first ms i)
degrees_usual first ms h k zero = h
degrees_usual first [] h k (suc i) = record { number = omega arith; within = tt }
degrees_usual first (m ∷ ms) h k (suc i) = degrees_usual (row_degrees m) ms k.0 k.1 i

usual_map : (c : FreeComplex) → IsFreeComplex c → ((i : ℕ) → AreUsual (c.degrees i)) → (i : ℕ) → IsUsual (c.map i)
usual_map c h usual zero = record {
  generators = subst AreUsual (sym h.leaving) (record { number = omega arith; within = tt });
  relations = subst AreUsual (sym (h.sources 0).source_of) (usual 0);
}
usual_map c h usual (suc i) = record {
  generators = subst AreUsual (sym (h.targets i)) (usual i);
  relations = subst AreUsual (sym (h.sources (suc i)).source_of) (usual (suc i));
}

usual_degree : (limit : ℕ) → limit ≤ 60 → (d : ℤ) → IsDegreeUpTo limit d → IsUsualDegree d
usual_degree limit few d h = (omega (arith, ints, few, h.0, h.1), omega (arith, ints, few, h.0, h.1))

usual_steps : (limit : ℕ) → limit ≤ 60 → (relations : Matrix) (steps : List Matrix)
    → AllByRecursion (IsSoundStep limit relations) steps → AllByRecursion HasFewRows steps
    → AllByRecursion (λ m. AreUsual (row_degrees m)) steps
usual_steps limit small relations [] sound few = tt
usual_steps limit small relations (s ∷ steps) sound few = (
  record {
    number =
        let size : length (row_degrees s) ≡ length s.rows = length-map s.rows (λ (v : Vector). v.degree) in
        let rows = few.0 in omega arith;
    within =
        AllByRecursion-weaken (IsDegreeUpTo limit) IsUsualDegree (usual_degree limit small) (row_degrees s) sound.0.degrees;
  },
  usual_steps limit small relations steps sound.1 few.1,
)

-- the steps that a run of the plan of a resolution made
module _ (limit : ℕ) (m n : Matrix) (i : ℕ) (looked steps : List Matrix)
    (run : Run limit (resolution_plan m (suc i)) looked (Ok steps)) (rings : m.ring ≡ n.ring) where
  field : IsOverField m.ring
  field = (resolved_matrix limit m i looked steps run).field

  free : IsFreeComplex (resolved m steps)
  free =
      complexes_of_resolutions m field (resolved_matrix limit m i looked steps run).matrix steps
      (resolution_is limit m (suc i) looked steps run)

  pub tor_same : tensor_place ((resolved m steps).map (suc i)) ((resolved m steps).map i) n ≡ product_place (resolved m steps) n i
  tor_same = product_same (resolved m steps) free n i

  pub ext_same : tensor_place (transposed ((resolved m steps).map i)) (transposed ((resolved m steps).map (suc i))) n
      ≡ hom_place (resolved m steps) n i
  ext_same = hom_same (resolved m steps) free n i

  pub tor_meets : HasMeetingMaps (product_place (resolved m steps) n i)
  tor_meets =
      let c = resolved m steps in
      subst HasMeetingMaps tor_same
      (meets_between (c.map (suc i)) (c.map i) n (composable c free field i) ((free.sources (suc i)).ring_of ∙ rings))

  pub ext_meets : HasMeetingMaps (hom_place (resolved m steps) n i)
  ext_meets =
      let c = resolved m steps in
      subst HasMeetingMaps ext_same
      (meets_between (transposed (c.map i)) (transposed (c.map (suc i))) n
      (IsComposable-transposed (c.map (suc i)) (c.map i) (composable c free field i)) ((free.sources i).ring_of ∙ rings))

  pub tor_complex : IsMatrix n → IsComplexBeside ((resolved m steps).map (suc i)) ((resolved m steps).map i) n
  tor_complex matrix = complex_beside (resolved m steps) free field refl n rings matrix i

  pub ext_complex : IsMatrix n
      → IsComplexBeside (transposed ((resolved m steps).map i)) (transposed ((resolved m steps).map (suc i))) n
  ext_complex matrix =
      transposed_complex ((resolved m steps).map (suc i)) ((resolved m steps).map i) n (tor_complex matrix)

  pub maps_usual : limit ≤ 60 → IsUsual m → (j : ℕ) → IsUsual ((resolved m steps).map j)
  maps_usual small usual =
      usual_map (resolved m steps) free
      (degrees_usual m.target steps usual.generators
      (usual_steps limit small m steps (steps_sound limit m (suc i) looked steps run) (few_steps limit m (suc i) looked steps run)))
