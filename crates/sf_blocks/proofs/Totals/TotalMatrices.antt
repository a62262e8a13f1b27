-- A total differential is a matrix, by induction on its spots.
use Rattle.std.proofs.Common.{◌≡◌, refl, List, [], ◌∷◌, ◌++◌, length, drop, ℤ, ap, sym, ◌∙◌}
use Rattle.std.proofs.lemmas.List.{drop_at}
use Rattle.sf_algebra.specs.Matrices.{Matrix, row_degrees, IsMatrix}
use Rattle.sf_algebra.specs.Rings.{Ring}
use Rattle.sf_blocks.specs.MatrixSums.{zero_matrix}
use Rattle.sf_blocks.specs.SideBySide.{AreBeside, AreBlocks}
use Rattle.sf_blocks.specs.TotalDifferentials.{Spot, IsSpot, AreDiagonal, AreSpotsBelow, first_target, total_source, total_target, total_differential, widened}
use Rattle.sf_blocks.proofs.MatrixSums.SumGroups.{row_degrees-zero_matrix, IsMatrix-zero_matrix}
use Rattle.sf_blocks.proofs.SideBySide.Beside.{row_degrees-beside, IsMatrix-beside}
use Rattle.sf_blocks.proofs.TwoByTwo.Blocks.{row_degrees-blocks, IsMatrix-blocks}

-- what is behind the first free module
pub drop-first_target : (ss : List Spot) (ds : List ℤ) → ds ≡ first_target ss
    → ds ++ drop (length ds) (total_target ss) ≡ total_target ss
drop-first_target [] ds e = (λ i. e i ++ drop (length (e i)) [])
drop-first_target (s ∷ ss) ds e =
    (λ i. e i ++ drop (length (e i)) (s.vertical.target ++ total_target ss))
    ∙ ap (λ es. s.vertical.target ++ es) (drop_at s.vertical.target (total_target ss) (length s.vertical.target) refl)

pub drop-second_target : (s : Spot) (ss : List Spot) (ds : List ℤ) → ds ≡ s.vertical.target
    → drop (length ds) (total_target (s ∷ ss)) ≡ total_target ss
drop-second_target s ss ds e =
    ap (λ es. drop (length es) (s.vertical.target ++ total_target ss)) e
    ∙ drop_at s.vertical.target (total_target ss) (length s.vertical.target) refl

module _ (m : Matrix) (target : List ℤ) where
  -- the zeros that widen it
  abbrev pub zeros_behind : Matrix
  zeros_behind = zero_matrix m.ring (row_degrees m) (drop (length m.target) target)

  pub AreBeside-zeros_behind : AreBeside m zeros_behind
  AreBeside-zeros_behind = record {
    rings = refl;
    degrees = sym (row_degrees-zero_matrix m.ring (row_degrees m) (drop (length m.target) target));
  }

  pub row_degrees-widened : row_degrees (widened target m) ≡ row_degrees m
  row_degrees-widened =
      row_degrees-beside m zeros_behind AreBeside-zeros_behind

  pub IsMatrix-widened : IsMatrix m → IsMatrix (widened target m)
  IsMatrix-widened h =
      IsMatrix-beside m zeros_behind AreBeside-zeros_behind h
      (IsMatrix-zero_matrix m.ring (row_degrees m) (drop (length m.target) target))

-- what is known of a total differential
pub record IsTotal (ring : Ring) (ss : List Spot) : Type 0 where
  pub ring_of : (total_differential ring ss).ring ≡ ring
  pub source : row_degrees (total_differential ring ss) ≡ total_source ss
  pub target : (total_differential ring ss).target ≡ total_target ss
  pub matrix : IsMatrix (total_differential ring ss)

-- with one more spot in front
module _ (ring : Ring) (s : Spot) (ss : List Spot) (h : IsSpot ring (first_target ss) s) (k : IsTotal ring ss) where
  pub AreBlocks-total : AreBlocks s.vertical (widened (total_target ss) s.horizontal)
      (zero_matrix ring (total_source ss) s.vertical.target) (total_differential ring ss)
  AreBlocks-total = record {
    upper = record {
      rings = h.together.rings;
      degrees = h.together.degrees ∙ sym (row_degrees-widened s.horizontal (total_target ss));
    };
    lower = record {
      rings = sym k.ring_of;
      degrees = row_degrees-zero_matrix ring (total_source ss) s.vertical.target ∙ sym k.source;
    };
    rings = h.ring_of;
    left = refl;
    right = drop-first_target ss s.horizontal.target h.left_of ∙ sym k.target;
  }

  IsTotal-cons : IsTotal ring (s ∷ ss)
  IsTotal-cons =
      let z = zero_matrix ring (total_source ss) s.vertical.target in
      let w = widened (total_target ss) s.horizontal in
      let r = total_differential ring ss in
      record {
        ring_of = h.ring_of;
        source =
            row_degrees-blocks s.vertical w z r AreBlocks-total
            ∙ ap (λ ds. row_degrees s.vertical ++ ds) (row_degrees-zero_matrix ring (total_source ss) s.vertical.target);
        target = ap (λ ds. s.vertical.target ++ ds) (drop-first_target ss s.horizontal.target h.left_of);
        matrix =
            IsMatrix-blocks s.vertical w z r AreBlocks-total h.vertical
            (IsMatrix-widened s.horizontal (total_target ss) h.horizontal)
            (IsMatrix-zero_matrix ring (total_source ss) s.vertical.target) k.matrix;
      }

pub total : (ring : Ring) (ss : List Spot) → AreDiagonal ring ss → IsTotal ring ss
total ring [] h = record { ring_of = refl; source = refl; target = refl; matrix = tt }
total ring (s ∷ ss) h = IsTotal-cons ring s ss h.0 (total ring ss h.1)

-- where a diagonal goes
pub total_source-below : (ss ts : List Spot) → AreSpotsBelow ss ts → total_source ts ≡ total_target ss
total_source-below [] [] h = refl
total_source-below [] (t ∷ ts) h = absurd h
total_source-below (s ∷ ss) [] h = absurd h
total_source-below (s ∷ ss) (t ∷ ts) h = λ i. h.0 i ++ total_source-below ss ts h.1 i
