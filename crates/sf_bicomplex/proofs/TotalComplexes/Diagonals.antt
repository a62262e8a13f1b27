-- The maps from the modules of one total degree: they are a diagonal of spots, and go to the modules one degree lower.
use Rattle.std.proofs.Common.{◌≡◌, ℕ, zero, suc, ◌+◌, ◌<◌, ◌≤◌, ◌++◌, length, sym, ap, ◌∙◌, subst, refl, arith, ℤ, pos, ◌-ℤ◌}
use Rattle.std.proofs.lemmas.Int.{ints}
use Rattle.sf_algebra.specs.Matrices.{IsMatrix, degrees_of, row_degrees}
use Rattle.sf_blocks.specs.TotalDifferentials.{AreDiagonal, first_target, total_differential, total_source, total_target}
use Rattle.sf_blocks.proofs.Totals.TotalMatrices.{IsTotal, total}
use Rattle.sf_bicomplex.specs.Bicomplexes.{Bicomplex, IsBicomplex}
use Rattle.sf_bicomplex.specs.TotalColumns.{lowest_degrees, place, spots, total_degrees, total_map}
use Rattle.sf_bicomplex.proofs.TotalComplexes.TotalModules.{length-lowest, length-lowest_rises}

-- one row lower
pub row-lower : (n m : ℤ) (p : ℕ) → m ≡ n -ℤ pos 1 → n -ℤ pos p -ℤ pos 1 ≡ m -ℤ pos p
row-lower n m p e = omega (arith, ints)

-- one column further left
pub row-left : (n m : ℤ) (p : ℕ) → m ≡ n -ℤ pos 1 → n -ℤ pos (suc p) ≡ m -ℤ pos p
row-left n m p e = omega (arith, ints)

module _ (b : Bicomplex) (h : IsBicomplex b) (n : ℤ) where
  module _ (p : ℕ) where
    abbrev row : ℤ
    row = n -ℤ pos p

    pub vertical_ring : (b.vertical p (n -ℤ pos p)).ring ≡ b.ring
    vertical_ring = (h.downward p row).source_ring ∙ (h.modules p row).ring_of

    pub vertical_source : row_degrees (b.vertical p (n -ℤ pos p)) ≡ (place b n p).target
    vertical_source = (h.downward p row).source_degrees

  pub horizontal_ring : (p : ℕ) → (b.horizontal p (n -ℤ pos p)).ring ≡ b.ring
  horizontal_ring zero = (h.leaving (n -ℤ pos 0)).ring_of
  horizontal_ring (suc p) = (h.leftward p (n -ℤ pos (suc p))).source_ring ∙ (h.modules (suc p) _).ring_of

  pub horizontal_source : (p : ℕ) → row_degrees (b.horizontal p (n -ℤ pos p)) ≡ (place b n p).target
  horizontal_source zero = (h.leaving (n -ℤ pos 0)).source_of
  horizontal_source (suc p) = (h.leftward p (n -ℤ pos (suc p))).source_degrees

  pub horizontal_matrix : (p : ℕ) → IsMatrix (b.horizontal p (n -ℤ pos p))
  horizontal_matrix zero = (h.leaving (n -ℤ pos 0)).matrix
  horizontal_matrix (suc p) = (h.leftward p (n -ℤ pos (suc p))).matrix

  module _ (m : ℤ) (lower : m ≡ n -ℤ pos 1) where
    pub vertical_target : (p : ℕ) → (b.vertical p (n -ℤ pos p)).target ≡ (place b m p).target
    vertical_target p =
        (h.downward p (n -ℤ pos p)).target_degrees ∙ ap (λ q. (b.relations p q).target) (row-lower n m p lower)

    pub horizontal_target : (p : ℕ) → (b.horizontal (suc p) (n -ℤ pos (suc p))).target ≡ (place b m p).target
    horizontal_target p =
        (h.leftward p (n -ℤ pos (suc p))).target_degrees ∙ ap (λ q. (b.relations p q).target) (row-left n m p lower)

    -- where dh of a spot goes
    pub left_of : (p : ℕ) → (b.horizontal p (n -ℤ pos p)).target ≡ first_target (spots b n p)
    left_of zero = h.leaving_target (n -ℤ pos 0)
    left_of (suc p) = horizontal_target p ∙ sym (vertical_target p)

    pub spots-diagonal : (k : ℕ) → AreDiagonal b.ring (spots b n k)
    spots-diagonal zero = tt
    spots-diagonal (suc k) = (
      record {
        ring_of = vertical_ring k;
        together = record {
          rings = vertical_ring k ∙ sym (horizontal_ring k);
          degrees = vertical_source k ∙ sym (horizontal_source k);
        };
        left_of = left_of k;
        vertical = (h.downward k (n -ℤ pos k)).matrix;
        horizontal = horizontal_matrix k;
      },
      spots-diagonal k,
    )

    pub source-spots : (k : ℕ) → total_source (spots b n k) ≡ lowest_degrees b n k
    source-spots zero = refl
    source-spots (suc k) = λ i. vertical_source k i ++ source-spots k i

    pub target-spots : (k : ℕ) → total_target (spots b n k) ≡ lowest_degrees b m k
    target-spots zero = refl
    target-spots (suc k) = λ i. vertical_target k i ++ target-spots k i

    pub total-spots : (k : ℕ) → IsTotal b.ring (spots b n k)
    total-spots k = total b.ring (spots b n k) (spots-diagonal k)

    -- the map of the total complex
    pub total_map-rows : degrees_of (total_map b n m).rows ≡ total_degrees b n
    total_map-rows = (total-spots b.columns).source ∙ source-spots b.columns

    pub total_map-same : total_differential b.ring (spots b n b.columns) ≡ total_map b n m
    total_map-same =
        let t = total-spots b.columns in
        λ i. record {
          ring = t.ring_of i;
          target = (t.target ∙ target-spots b.columns) i;
          rows = (total_differential b.ring (spots b n b.columns)).rows;
        }

    pub IsMatrix-total_map : IsMatrix (total_map b n m)
    IsMatrix-total_map = subst IsMatrix total_map-same (total-spots b.columns).matrix

    -- there is room for dh of column k between the columns below k and column k
    pub left_room : (k j : ℕ) → j < k
        → length (b.horizontal k (n -ℤ pos k)).target + length (lowest_degrees b m j) ≤ length (lowest_degrees b m k)
    left_room zero j before = absurd (omega arith)
    left_room (suc k) j before =
        let size = ap length (horizontal_target k) in
        let more = length-lowest b m k in
        let below = length-lowest_rises b m j k (omega arith) in
        omega arith
