-- What the calls at a place have met of their plans at each of their exits: numbers alone tell where a look is a fault, and where there
-- is none.
use Rattle.std.proofs.Common.{◌≡◌, ℕ, ◌<◌, ◌≤◌, List, [], ◌++◌, ◌∷◌, None, length, Ok, Err, refl, sym, ◌∙◌, subst}
use Rattle.sf_algebra.specs.Bounds.{GREATEST_SIZE}
use Rattle.sf_algebra.specs.Matrices.{Matrix, degrees_of}
use Rattle.sf_algebra.specs.Rings.{IsOverField, Ring}
use Rattle.sf_algebra.proofs.Tensors.KroneckerVectors.{length-degree_sums}
use Rattle.sf_groebner.specs.MinimalGenerators.{matrix_of}
use Rattle.sf_matrix.specs.declared.basis.BaseFault.TheVariants.{Large}
use Rattle.sf_matrix.specs.declared.basis.BaseFault.{BaseFault}
use Rattle.sf_matrix.specs.Meets.{Looked, Meets}
use Rattle.sf_matrix.specs.Tables.{Table}
use Rattle.sf_matrix.proofs.Plans.LookRules.{looked_beyond, looked_none}
use Rattle.sf_genmor.specs.LookPlans.{basis_plan, blocks_plan, syzygies_plan}
use Rattle.sf_genmor.proofs.BlockSteps.{blocks_failed, blocks_found}
use Rattle.sf_genmor.proofs.LookSteps.{basis_failed, rowless, syzygies_failed, syzygies_none}
use Rattle.sf_functor.specs.Functors.{tensor_matrix, tensor_relations}
use Rattle.sf_functor.specs.TensorPlans.{relations_between}
use Rattle.sf_functor.proofs.TensorSteps.{length-relations_between}
use Rattle.sf_derived.specs.Room.{IsBeyondBounds, columns_beside, rows_beside}

no_front : {X : Type 0} (xs ys : List X) → xs ++ ys ≡ [] → xs ≡ []
no_front [] ys h = refl
no_front (x ∷ xs) ys h = cc

module _ (t : Table) (a n : Matrix) (field : IsOverField a.ring) where
  -- numbers, as code has them
  look_beyond : (rows columns : ℕ) → rows ≡ rows_beside a n → columns ≡ columns_beside a n → IsBeyondBounds rows columns
      → Looked t (relations_between a n) (Err (Large rows columns)) t
  look_beyond rows columns same_rows same_columns h =
      let whole = relations_between a n in
      let r : rows ≡ length whole.rows = same_rows ∙ sym (length-relations_between a n) in
      let c : columns ≡ length whole.target = same_columns ∙ sym (length-degree_sums a.target n.target) in
      looked_beyond t whole field rows columns r c (subst (λ k. 0 < k) r h.row)
      (λ size. h.beyond (
        subst (λ k. k ≤ GREATEST_SIZE) (sym r) size.rows,
        subst (λ k. k ≤ GREATEST_SIZE) (sym c) size.columns,
      )
      )

  module _ {rows columns : ℕ} {fault : BaseFault} (same_rows : rows ≡ rows_beside a n) (same_columns : columns ≡ columns_beside a n)
      (h : (fault ≡ Large rows columns) × IsBeyondBounds rows columns) where
    pub cycles_beyond : Meets t (blocks_plan (tensor_matrix a n) (tensor_relations a.target n)) (Err fault) t
    cycles_beyond =
        subst (λ f. Meets t (blocks_plan (tensor_matrix a n) (tensor_relations a.target n)) (Err f) t) (sym h.0)
        (blocks_failed (tensor_matrix a n) (tensor_relations a.target n) (relations_between a n) refl
        (syzygies_failed (look_beyond rows columns same_rows same_columns h.1)))

    pub boundaries_beyond : Meets t (basis_plan (relations_between a n)) (Err fault) t
    boundaries_beyond =
        subst (λ f. Meets t (basis_plan (relations_between a n)) (Err f) t) (sym h.0)
        (basis_failed (look_beyond rows columns same_rows same_columns h.1))

  -- without a row there is no cycle but 0, over no generator
  pub cycles_none : (rows : ℕ) → rows ≡ rows_beside a n → rows ≡ 0 → (found : Matrix) (ring : Ring) → a.ring ≡ ring
      → found ≡ matrix_of ring [] []
      → Meets t (blocks_plan (tensor_matrix a n) (tensor_relations a.target n)) (Ok found) t
  cycles_none rows same none found ring same_ring same_found =
      let map = tensor_matrix a n in
      let relations = tensor_relations a.target n in
      let whole = relations_between a n in
      let zero : length whole.rows ≡ 0 = length-relations_between a n ∙ sym same ∙ none in
      let look : Looked t whole (Ok None) t = looked_none t whole field zero in
      let empty : map.rows ≡ [] = no_front map.rows relations.rows (rowless refl look) in
      let syzygies : Meets t (syzygies_plan whole) (Ok (matrix_of a.ring [] [])) t =
      syzygies_none refl (rowless refl look) look refl in
      blocks_found map relations whole refl syzygies
      (same_found ∙ (λ i. matrix_of (sym same_ring i) (degrees_of (sym empty i)) []))
