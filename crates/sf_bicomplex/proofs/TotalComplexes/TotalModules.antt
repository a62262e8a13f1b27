-- The modules of the total complex: the columns one behind another, the highest first.
use Rattle.std.proofs.Common.{◌≡◌, ℕ, zero, suc, ◌+◌, ◌-◌, ◌<◌, ◌≤◌, List, [], ◌++◌, length, sym, ap, ◌∙◌, refl, arith, ℤ, pos, slice_range, take, ◌-ℤ◌, append_assoc}
use Rattle.std.proofs.lemmas.List.{drop_at, take_at, length-append}
use Rattle.sf_algebra.specs.Matrices.{Matrix}
use Rattle.sf_algebra.specs.Vectors.{Vector}
use Rattle.sf_groebner.specs.Spans.{InSpan}
use Rattle.sf_groebner.proofs.Spanning.SpanCombinations.{span_submodule_of}
use Rattle.sf_groebner.proofs.Spanning.Submodules.{IsSubmodule}
use Rattle.sf_blocks.specs.BlockLists.{IsTo}
use Rattle.sf_blocks.specs.TotalDifferentials.{total_differential}
use Rattle.sf_blocks.specs.TotalRelations.{total_relations}
use Rattle.sf_blocks.proofs.DirectSums.SummandSpans.{AreTriangle-direct_sum}
use Rattle.sf_blocks.proofs.MatrixSums.SumGroups.{IsMatrix-zero_matrix}
use Rattle.sf_blocks.proofs.TwoByTwo.Triangles.{IsMatrix-triangle}
use Rattle.sf_bicomplex.specs.Bicomplexes.{Bicomplex, IsBicomplex}
use Rattle.sf_bicomplex.specs.TotalColumns.{column_start, lowest_degrees, place, places, spots, total_degrees}
use Rattle.sf_bicomplex.proofs.Columns.ColumnParts.{IsRange}

module _ (b : Bicomplex) (n : ℤ) where
  -- the relations of the k lowest columns
  abbrev pub lowest_module : ℕ → Matrix
  lowest_module k = total_relations b.ring (places b n k)

  -- where the k lowest of the m lowest columns start
  abbrev pub start : ℕ → ℕ → ℕ
  start m k = length (lowest_degrees b n m) - length (lowest_degrees b n k)

  -- the rows of the map from the k lowest columns
  abbrev pub total_rows : ℕ → List Vector
  total_rows k = (total_differential b.ring (spots b n k)).rows

  pub length-lowest : (k : ℕ) → length (lowest_degrees b n (suc k))
      ≡ length (place b n k).target + length (lowest_degrees b n k)
  length-lowest k = length-append (place b n k).target (lowest_degrees b n k)

  -- the columns of the k + m lowest that are above the k lowest
  abbrev pub higher_degrees : ℕ → ℕ → List ℤ
  higher_degrees zero k = []
  higher_degrees (suc m) k = (place b n (k + m)).target ++ higher_degrees m k

  pub lowest_degrees-higher : (m k : ℕ) → lowest_degrees b n (k + m) ≡ higher_degrees m k ++ lowest_degrees b n k
  lowest_degrees-higher zero k = ap (lowest_degrees b n) (omega arith)
  lowest_degrees-higher (suc m) k =
      ap (lowest_degrees b n) (let next : k + suc m ≡ suc (k + m) = omega arith in next)
      ∙ ap (λ ds. (place b n (k + m)).target ++ ds) (lowest_degrees-higher m k)
      ∙ sym (append_assoc (place b n (k + m)).target (higher_degrees m k) (lowest_degrees b n k))

  pub length-lowest_rises : (k m : ℕ) → k ≤ m → length (lowest_degrees b n k) ≤ length (lowest_degrees b n m)
  length-lowest_rises k m h =
      let rest = m - k in
      let whole : m ≡ k + rest = omega arith in
      let both = ap length (lowest_degrees-higher rest k) ∙ length-append (higher_degrees rest k) (lowest_degrees b n k) in
      rw whole (omega arith)

  pub column_start-falls : (k : ℕ) → column_start b n (suc k) ≤ column_start b n k
  column_start-falls k = let more = length-lowest k in omega arith

  pub column_start-all : length (total_degrees b n) ≤ column_start b n 0
  column_start-all = omega arith

  pub IsRange-column : (p : ℕ) → p < b.columns
      → IsRange (total_degrees b n) (place b n p).target (column_start b n (suc p)) (column_start b n p)
  IsRange-column p inside =
      let rest = b.columns - suc p in
      let here : List ℤ = (place b n p).target in
      let lower = lowest_degrees b n p in
      let higher = higher_degrees rest (suc p) in
      let whole : b.columns ≡ suc p + rest = omega arith in
      let same : total_degrees b n ≡ higher ++ (here ++ lower) =
      ap (lowest_degrees b n) whole ∙ lowest_degrees-higher rest (suc p) in
      let sizes : length (total_degrees b n) ≡ length higher + (length here + length lower) =
      ap length same ∙ length-append higher (here ++ lower) ∙ ap (λ k. length higher + k) (length-append here lower) in
      let more : length (lowest_degrees b n (suc p)) ≡ length here + length lower = length-lowest p in
      let from = column_start b n (suc p) in
      let to = column_start b n p in
      record {
        slice =
            ap (λ ds. slice_range ds from to) same
            ∙ ap (take (to - from)) (drop_at higher (here ++ lower) from (omega arith))
            ∙ take_at here lower (to - from) (omega arith);
        size = omega arith;
        inside = omega arith;
      }

module _ (b : Bicomplex) (h : IsBicomplex b) (n : ℤ) where
  -- relations of the modules of some columns together
  pub IsTo-lowest : (k : ℕ) → IsTo b.ring (lowest_degrees b n k) (total_relations b.ring (places b n k))
  IsTo-lowest zero = record { ring_of = refl; target_of = refl; matrix = tt }
  IsTo-lowest (suc k) =
      let here : IsTo b.ring (place b n k).target (place b n k) = h.modules k (n -ℤ pos k) in
      let others = IsTo-lowest k in
      let rings = here.ring_of ∙ sym others.ring_of in
      let rest = total_relations b.ring (places b n k) in
      record {
        ring_of = here.ring_of;
        target_of = refl;
        matrix =
            IsMatrix-triangle (place b n k) _ rest (AreTriangle-direct_sum (place b n k) rest rings) here.matrix
            (IsMatrix-zero_matrix (place b n k).ring _ (place b n k).target) others.matrix;
      }

  -- they span a module
  pub lowest-submodule : (k : ℕ) → IsSubmodule b.ring (lowest_degrees b n k) (InSpan (lowest_module b n k))
  lowest-submodule k =
      let known = IsTo-lowest k in
      span_submodule_of b.ring h.is_ring (lowest_degrees b n k) (lowest_module b n k) known.ring_of refl known.matrix
