-- Lists of matrices side by side, and one above another, are matrices; their transposes.
use Rattle.std.proofs.Common.{◌≡◌, refl, List, [], ◌∷◌, ◌++◌, map, ℤ, neg_ℤ, ap, sym, ◌∙◌}
use Rattle.sf_algebra.specs.Matrices.{Matrix, row_degrees}
use Rattle.sf_algebra.specs.MatrixOperations.{stacked, transposed}
use Rattle.sf_algebra.specs.Rings.{Ring}
use Rattle.sf_algebra.proofs.GradedMatrices.Stacks.{IsMatrix-stacked, row_degrees-stacked}
use Rattle.sf_blocks.specs.BlockLists.{side_by_side, all_stacked, IsFrom, IsTo, AreFromOne, AreToOne, all_targets, all_sources}
use Rattle.sf_blocks.specs.SideBySide.{AreBeside, beside}
use Rattle.sf_blocks.proofs.MatrixSums.SumGroups.{row_degrees-zero_matrix, IsMatrix-zero_matrix}
use Rattle.sf_blocks.proofs.MatrixSums.SumTransposes.{transposed-zero}
use Rattle.sf_blocks.proofs.SideBySide.Beside.{row_degrees-beside, IsMatrix-beside}
use Rattle.sf_blocks.proofs.SideBySide.BesideTransposes.{transposed-beside, transposed-stacked}

AreBeside-from : (ring : Ring) (source : List ℤ) (a b : Matrix) → IsFrom ring source a → IsFrom ring source b
    → AreBeside a b
AreBeside-from ring source a b h k = record {
  rings = h.ring_of ∙ sym k.ring_of;
  degrees = h.source_of ∙ sym k.source_of;
}

module _ (ring : Ring) (source : List ℤ) where
  pub IsFrom-side_by_side : (ms : List Matrix) → AreFromOne ring source ms
      → IsFrom ring source (side_by_side ring source ms)
  IsFrom-side_by_side [] h = record {
    ring_of = refl;
    source_of = row_degrees-zero_matrix ring source [];
    matrix = IsMatrix-zero_matrix ring source [];
  }
  IsFrom-side_by_side (m ∷ ms) h =
      let k = IsFrom-side_by_side ms h.1 in
      let pair = AreBeside-from ring source m (side_by_side ring source ms) h.0 k in
      record {
        ring_of = h.0.ring_of;
        source_of = row_degrees-beside m (side_by_side ring source ms) pair ∙ h.0.source_of;
        matrix = IsMatrix-beside m (side_by_side ring source ms) pair h.0.matrix k.matrix;
      }

  -- each stands beside those behind it
  pub AreBeside-side_by_side : (m : Matrix) (ms : List Matrix) → AreFromOne ring source (m ∷ ms)
      → AreBeside m (side_by_side ring source ms)
  AreBeside-side_by_side m ms h =
      AreBeside-from ring source m (side_by_side ring source ms) h.0 (IsFrom-side_by_side ms h.1)

  pub target-side_by_side : (ms : List Matrix) → (side_by_side ring source ms).target ≡ all_targets ms
  target-side_by_side [] = refl
  target-side_by_side (m ∷ ms) = ap (λ ds. m.target ++ ds) (target-side_by_side ms)

module _ (ring : Ring) (target : List ℤ) where
  pub IsTo-all_stacked : (ms : List Matrix) → AreToOne ring target ms → IsTo ring target (all_stacked ring target ms)
  IsTo-all_stacked [] h = record { ring_of = refl; target_of = refl; matrix = tt }
  IsTo-all_stacked (m ∷ ms) h =
      let k = IsTo-all_stacked ms h.1 in
      record {
        ring_of = h.0.ring_of;
        target_of = h.0.target_of;
        matrix =
            IsMatrix-stacked m (all_stacked ring target ms) (h.0.ring_of ∙ sym k.ring_of)
            (h.0.target_of ∙ sym k.target_of) h.0.matrix k.matrix;
      }

  pub row_degrees-all_stacked : (ms : List Matrix) → row_degrees (all_stacked ring target ms) ≡ all_sources ms
  row_degrees-all_stacked [] = refl
  row_degrees-all_stacked (m ∷ ms) =
      row_degrees-stacked m (all_stacked ring target ms)
      ∙ ap (λ ds. row_degrees m ++ ds) (row_degrees-all_stacked ms)

pub transposed-side_by_side : (ring : Ring) (source : List ℤ) (ms : List Matrix) → AreFromOne ring source ms
    → transposed (side_by_side ring source ms) ≡ all_stacked ring (map neg_ℤ source) (map transposed ms)
transposed-side_by_side ring source [] h = transposed-zero ring source []
transposed-side_by_side ring source (m ∷ ms) h =
    transposed-beside m (side_by_side ring source ms) (AreBeside-side_by_side ring source m ms h) h.0.matrix
    (IsFrom-side_by_side ring source ms h.1).matrix
    ∙ ap (stacked (transposed m)) (transposed-side_by_side ring source ms h.1)

pub transposed-all_stacked : (ring : Ring) (target : List ℤ) (ms : List Matrix) → AreToOne ring target ms
    → transposed (all_stacked ring target ms) ≡ side_by_side ring (map neg_ℤ target) (map transposed ms)
transposed-all_stacked ring target [] h = transposed-zero ring [] target
transposed-all_stacked ring target (m ∷ ms) h =
    let k = IsTo-all_stacked ring target ms h.1 in
    transposed-stacked m (all_stacked ring target ms) (h.0.ring_of ∙ sym k.ring_of) (h.0.target_of ∙ sym k.target_of)
    h.0.matrix k.matrix
    ∙ ap (beside (transposed m)) (transposed-all_stacked ring target ms h.1)
