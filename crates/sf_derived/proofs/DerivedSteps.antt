-- What the calls of Ext and Tor have met of their plans at each of their exits.
use Rattle.std.proofs.Common.{◌≡◌, ◌≤◌, ℕ, suc, List, Some, IfSome, IsErrAnd, slice_get, Result, Ok, Err, sym, ◌∙◌, ap, subst, arith}
use Rattle.std.specs.List.{AllByRecursion}
use Rattle.sf_algebra.specs.Matrices.{IsMatrix, Matrix, row_degrees}
use Rattle.sf_algebra.specs.MatrixOperations.{transposed}
use Rattle.sf_algebra.specs.Vectors.{Vector}
use Rattle.sf_matrix.specs.declared.basis.BaseFault.TheVariants.{Memory}
use Rattle.sf_matrix.specs.declared.basis.BaseFault.{BaseFault}
use Rattle.sf_matrix.specs.Bounds.{HasNegative}
use Rattle.sf_matrix.specs.Meets.{Meets}
use Rattle.sf_matrix.specs.Tables.{Table}
use Rattle.sf_matrix.proofs.Pieces.{AllByRecursion-unmap}
use Rattle.sf_matrix.proofs.Plans.Rules.{meets_exit, meets_fails, meets_stops, meets_then}
use Rattle.sf_genmor.specs.declared.presentation.Presentation.{Presentation}
use Rattle.sf_object.specs.ResolutionPlans.{resolution_plan}
use Rattle.sf_object.specs.Shelves.{HasGrownUpTo, MeetsSteps, Shelved, modules_of, step_at, steps_up_to}
use Rattle.sf_object.proofs.Shelves.{module_is, same_modules}
use Rattle.sf_functor.specs.FunctorLaws.{IsComplexBeside}
use Rattle.sf_module.specs.HomologyPlans.{homology_plan}
use Rattle.sf_derived.specs.DerivedPlans.{ext_plan, resolved, tor_plan}
use Rattle.sf_derived.specs.Places.{hom_place, product_place, tensor_place}
use Rattle.sf_derived.specs.Room.{AreUsualTogether, HasRoomBeside, IsUsual}
use Rattle.sf_derived.specs.ShelvedMaps.{IsMapOut}
use Rattle.sf_derived.proofs.ResolvedMaps.{ext_complex, ext_same, maps_usual, tor_complex, tor_same}
use Rattle.sf_derived.proofs.Rooms.{have_negatives, room_beside, transposed_usual}
use Rattle.sf_derived.proofs.ShelvedMaps.{map_out_is, step_is}

-- the entry that grew has the module of its number
module _ {before after : List Shelved} {id k : ℕ} (h : HasGrownUpTo before id k after) where
  number : slice_get (modules_of before) id ≡ Some h.entry.relations
  number = module_is before id h.entry h.here

  of_module : (P : Matrix → Type 0) → IfSome (slice_get (modules_of before) id) P → P h.entry.relations
  of_module P p = subst (λ o. IfSome o P) number p

  for_module : (P : Matrix → Type 0) → P h.entry.relations → IfSome (slice_get (modules_of before) id) P
  for_module P p = subst (λ o. IfSome o P) (sym number) p

  module _ {n : Matrix} (usual : IfSome (slice_get (modules_of before) id) (λ m. AreUsualTogether m n)) where
    together : AreUsualTogether h.entry.relations n
    together = of_module (λ m. AreUsualTogether m n) usual

    pub beside : {a : Matrix} → IsUsual a → HasRoomBeside a n
    beside {a} own = room_beside a n own together.second

    pub beside_transposed : {a b : Matrix} → b ≡ transposed a → IsUsual a → HasRoomBeside b n
    beside_transposed {a} {b} is own =
        subst (λ c. HasRoomBeside c n) (sym is) (room_beside (transposed a) n (transposed_usual a own) together.second)

-- a fault among the steps
module _ {before after : List Shelved} {t u : Table} {id i k : ℕ} {fault : BaseFault} (same : k ≡ suc i) (n : Matrix)
    (h : MeetsSteps before t id k (Err fault) after u) where
  unmade : Meets t (resolution_plan h.grown.entry.relations (suc i)) (Err fault) u
  unmade = subst (λ j. Meets t (resolution_plan h.grown.entry.relations j) (Err fault) u) same h.meets

  pub ext_fails : (r : Result Presentation BaseFault) → IsErrAnd r (λ e. e ≡ fault)
      → IfSome (slice_get (modules_of before) id) (λ m. Meets t (ext_plan m n i) r u)
  unfolding ext_plan
  ext_fails r exit =
      for_module h.grown (λ m. Meets t (ext_plan m n i) r u)
      (meets_exit exit (meets_fails (λ steps. homology_plan (hom_place (resolved h.grown.entry.relations steps) n i)) unmade))

  pub tor_fails : (r : Result Presentation BaseFault) → IsErrAnd r (λ e. e ≡ fault)
      → IfSome (slice_get (modules_of before) id) (λ m. Meets t (tor_plan m n i) r u)
  unfolding tor_plan
  tor_fails r exit =
      for_module h.grown (λ m. Meets t (tor_plan m n i) r u)
      (meets_exit exit (meets_fails (λ steps. homology_plan (product_place (resolved h.grown.entry.relations steps) n i)) unmade))

-- the steps are there
module _ {before after : List Shelved} {t u : Table} {id i k : ℕ} {done : Unit {0}} (same : k ≡ suc i) (n : Matrix)
    (h : MeetsSteps before t id k (Ok done) after u) where
  abbrev m : Matrix
  m = h.grown.entry.relations

  abbrev steps : List Matrix
  steps = steps_up_to k (slice_get after id)

  made : Meets t (resolution_plan m (suc i)) (Ok steps) u
  made = subst (λ j. Meets t (resolution_plan m j) (Ok steps) u) same h.meets

  -- memory is wanting behind them
  pub ext_stops : (r : Result Presentation BaseFault) → IsErrAnd r (λ e. e ≡ Memory)
      → IfSome (slice_get (modules_of before) id) (λ m. Meets t (ext_plan m n i) r u)
  unfolding ext_plan
  ext_stops r exit =
      for_module h.grown (λ m. Meets t (ext_plan m n i) r u)
      (meets_exit exit (meets_stops (λ ds. homology_plan (hom_place (resolved m ds) n i)) made))

  pub tor_stops : (r : Result Presentation BaseFault) → IsErrAnd r (λ e. e ≡ Memory)
      → IfSome (slice_get (modules_of before) id) (λ m. Meets t (tor_plan m n i) r u)
  unfolding tor_plan
  tor_stops r exit =
      for_module h.grown (λ m. Meets t (tor_plan m n i) r u)
      (meets_exit exit (meets_stops (λ ds. homology_plan (product_place (resolved m ds) n i)) made))

  -- two maps that are read of the shelf
  out_is : (b : Matrix) → IsMapOut after id i b → b ≡ (resolved m steps).map i
  out_is b out =
      map_out_is after id k m (ap (λ ms. slice_get ms id) (same_modules before id k after h.grown) ∙ number h.grown) i
      (omega (arith, same)) b out

  in_is : (a : Matrix) → step_at after id k ≡ Some a → a ≡ (resolved m steps).map (suc i)
  in_is a read =
      step_is after id k m k (omega arith) (omega (arith, same)) a read ∙ ap (resolved m steps).map same

  module _ (few : t.limit ≤ 60) (usual : IfSome (slice_get (modules_of before) id) (λ m. AreUsualTogether m n)) where
    both : AreUsualTogether m n
    both = together h.grown usual

    map_usual : (j : ℕ) → IsUsual ((resolved m steps).map j)
    map_usual = maps_usual t.limit m n i made.looked steps made.run both.ring few both.first

    pub out_usual : {b : Matrix} → IsMapOut after id i b → IsUsual b
    out_usual {b} out = subst IsUsual (sym (out_is b out)) (map_usual i)

    pub in_usual : {a : Matrix} → step_at after id k ≡ Some a → IsUsual a
    in_usual {a} read = subst IsUsual (sym (in_is a read)) (map_usual (suc i))

    pub tor_maps : {a b : Matrix} → step_at after id k ≡ Some a → IsMapOut after id i b → IsMatrix n → IsComplexBeside a b n
    tor_maps {a} {b} read out matrix =
        let whole = tor_complex t.limit m n i made.looked steps made.run both.ring matrix in
        subst (λ c. IsComplexBeside c b n) (sym (in_is a read))
        (subst (λ c. IsComplexBeside ((resolved m steps).map (suc i)) c n) (sym (out_is b out)) whole)

    pub tor_found : {a b : Matrix} {end : Result Presentation BaseFault} {v : Table} → step_at after id k ≡ Some a
        → IsMapOut after id i b → Meets u (homology_plan (tensor_place a b n)) end v
        → IfSome (slice_get (modules_of before) id) (λ m. Meets t (tor_plan m n i) end v)
    unfolding tor_plan
    tor_found {a} {b} {end} {v} read out found =
        let maps : tensor_place a b n ≡ tensor_place ((resolved m steps).map (suc i)) ((resolved m steps).map i) n =
        λ j. tensor_place (in_is a read j) (out_is b out j) n in
        let place = maps ∙ tor_same t.limit m n i made.looked steps made.run both.ring in
        for_module h.grown (λ m. Meets t (tor_plan m n i) end v)
        (meets_then (λ ds. homology_plan (product_place (resolved m ds) n i)) made
        (subst (λ q. Meets u (homology_plan q) end v) place found))

    module _ {a b c d : Matrix} (read : step_at after id k ≡ Some a) (out : IsMapOut after id i b) (first : c ≡ transposed b)
        (second : d ≡ transposed a) where
      first_is : c ≡ transposed ((resolved m steps).map i)
      first_is = first ∙ ap transposed (out_is b out)

      second_is : d ≡ transposed ((resolved m steps).map (suc i))
      second_is = second ∙ ap transposed (in_is a read)

      pub ext_maps : IsMatrix n → IsComplexBeside c d n
      ext_maps matrix =
          let whole = ext_complex t.limit m n i made.looked steps made.run both.ring matrix in
          subst (λ q. IsComplexBeside q d n) (sym first_is)
          (subst (λ q. IsComplexBeside (transposed ((resolved m steps).map i)) q n) (sym second_is) whole)

      pub ext_found : {end : Result Presentation BaseFault} {v : Table} → Meets u (homology_plan (tensor_place c d n)) end v
          → IfSome (slice_get (modules_of before) id) (λ m. Meets t (ext_plan m n i) end v)
      unfolding ext_plan
      ext_found {end} {v} found =
          let maps : tensor_place c d n
          ≡ tensor_place (transposed ((resolved m steps).map i)) (transposed ((resolved m steps).map (suc i))) n =
          λ j. tensor_place (first_is j) (second_is j) n in
          let place = maps ∙ ext_same t.limit m n i made.looked steps made.run both.ring in
          for_module h.grown (λ m. Meets t (ext_plan m n i) end v)
          (meets_then (λ ds. homology_plan (hom_place (resolved m ds) n i)) made
          (subst (λ q. Meets u (homology_plan q) end v) place found))

-- usual degrees have negatives
pub columns_negative : {a : Matrix} → IsUsual a → AllByRecursion HasNegative a.target
columns_negative {a} usual = have_negatives a.target usual.generators

pub rows_negative : {a : Matrix} → IsUsual a → AllByRecursion (λ (v : Vector). HasNegative v.degree) a.rows
rows_negative {a} usual =
    AllByRecursion-unmap HasNegative (λ (v : Vector). v.degree) a.rows (have_negatives (row_degrees a) usual.relations)
