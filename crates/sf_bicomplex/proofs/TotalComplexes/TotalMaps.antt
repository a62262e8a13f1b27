-- The map of the total complex sends relations into relations.
use Rattle.std.proofs.Common.{◌≡◌, ℕ, zero, suc, ◌+◌, ◌<◌, List, [], ◌∷◌, ◌++◌, length, sym, ap, ◌∙◌, subst, refl, arith, ℤ, pos, ◌-ℤ◌, append-nil}
use Rattle.sf_algebra.specs.Matrices.{Matrix, IsMatrix, row_degrees}
use Rattle.sf_algebra.specs.MatrixOperations.{moved, part_terms, row_combination}
use Rattle.sf_algebra.specs.Multiples.{combination, place_product}
use Rattle.sf_algebra.specs.Rings.{Ring}
use Rattle.sf_algebra.specs.Terms.{Term}
use Rattle.sf_algebra.specs.VectorOperations.{row_sum}
use Rattle.sf_algebra.specs.Vectors.{Place, Vector, IsVector, place_cmp}
use Rattle.sf_algebra.proofs.GradedMatrices.MatrixRows.{StandsWithin}
use Rattle.sf_algebra.proofs.Vectors.HomogeneousVectors.{IsVector-nil, IsVector-row_combination}
use Rattle.sf_algebra.proofs.Vectors.StackedRows.{row_combination-stacked}
use Rattle.sf_groebner.specs.Spans.{InSpan}
use Rattle.sf_groebner.proofs.Spanning.SpanCombinations.{span_submodule, submodule_closed, zero-inside}
use Rattle.sf_blocks.proofs.MatrixSums.SumGroups.{IsMatrix-zero_matrix, row_at-zero_matrix}
use Rattle.sf_blocks.proofs.MatrixSums.SumProducts.{row_combination-zeros}
use Rattle.sf_blocks.proofs.SideBySide.BesideProducts.{row_combination-beside}
use Rattle.sf_blocks.proofs.Totals.TotalMatrices.{IsMatrix-widened}
use Rattle.sf_blocks.specs.SideBySide.{beside}
use Rattle.sf_blocks.specs.TotalDifferentials.{total_source, total_target}
use Rattle.sf_bicomplex.specs.Bicomplexes.{Bicomplex, IsBicomplex}
use Rattle.sf_bicomplex.specs.TotalColumns.{lowest_degrees, place, spots}
use Rattle.sf_bicomplex.proofs.Columns.Splits.{StandsWithin-vector}
use Rattle.sf_bicomplex.proofs.TotalComplexes.Diagonals.{horizontal_matrix, horizontal_ring, horizontal_source, row-left, row-lower, source-spots, total-spots, vertical_ring, vertical_source}
use Rattle.sf_bicomplex.proofs.TotalComplexes.TotalModules.{IsTo-lowest, lowest-submodule, lowest_module, total_rows}
use Rattle.sf_bicomplex.proofs.TotalComplexes.TotalSpans.{InSpan-parts, here_ring, here_zero, place_ring, put-summands, vector-parts}
use Rattle.sf_bicomplex.proofs.TotalComplexes.TotalSteps.{behind, blocks-beside, horizontal, length-first, rest, row_at-behind, target-size, vertical, vertical-size, zeros}

-- over no generators there is 0 alone
pub no_generators : (ring : Ring) (v : Vector) → IsVector ring [] v → v.terms ≡ []
no_generators ring v h = none v.terms (StandsWithin-vector ring [] v h)
  where
    none : (ts : List (Term Place)) → StandsWithin 0 ts → ts ≡ []
    none [] k = refl
    none (t ∷ ts) k = let within : t.at.position < 0 = k.0 in absurd (omega arith)

module _ (b : Bicomplex) (h : IsBicomplex b) (n m : ℤ) (lower : m ≡ n -ℤ pos 1) (d : ℤ) where
  module _ (k : ℕ) where
    abbrev v : Matrix
    v = vertical b h n m lower k

    abbrev u : Matrix
    u = horizontal b h n m lower k

    abbrev w : Matrix
    w = behind b h n m lower k

    -- what dv and dh give of a vector of the column
    first-value : (us : List (Term Place)) → IsVector b.ring (place b n k).target (record { degree = d; terms = us })
        → row_combination b.ring (beside v w).rows us
        ≡ row_combination b.ring v.rows us ++ moved (length v.target) (row_combination b.ring u.rows us)
    first-value us e =
        let rings = vertical_ring b h n k in
        let both = blocks-beside b h n m lower k in
        let x = subst (λ es. IsVector b.ring es (record { degree = d; terms = us })) (sym (vertical_source b h n k)) e in
        let y = subst (λ q. IsVector q (row_degrees v) (record { degree = d; terms = us })) (sym rings) x in
        let value =
        row_combination-beside v w (subst (λ (q : Ring). 0 < q.modulus) (sym rings) h.is_ring.modulus) both.0
        (h.downward k (n -ℤ pos k)).matrix
        (IsMatrix-widened u (total_target (spots b n k)) (horizontal_matrix b h n k)) (record { degree = d; terms = us }) y in
        subst (λ (q : Ring). row_combination q (beside v w).rows us
        ≡ row_combination q v.rows us ++ moved (length v.target) (row_combination q w.rows us)) rings value
        ∙ ap (λ ts. row_combination b.ring v.rows us ++ moved (length v.target) ts)
        (λ i. combination (place_cmp b.ring.weights) place_product b.ring.modulus (λ l. l.monomial)
        (λ l. row_at-behind b h n m lower k l.position i) us)

    second-value : (vs : List (Term Place)) → IsVector b.ring (lowest_degrees b n k) (record { degree = d; terms = vs })
        → row_combination b.ring (beside (zeros b h n m lower k) (rest b h n m lower k)).rows vs
        ≡ moved (length v.target) (row_combination b.ring (total_rows b n k) vs)
    second-value vs e =
        let both = blocks-beside b h n m lower k in
        let z = zeros b h n m lower k in
        let r = rest b h n m lower k in
        let x =
        subst (λ es. IsVector b.ring es (record { degree = d; terms = vs }))
        (sym (both.1.degrees ∙ (total-spots b h n m lower k).source ∙ source-spots b h n m lower k)) e in
        row_combination-beside z r h.is_ring.modulus both.1
        (IsMatrix-zero_matrix b.ring (total_source (spots b n k)) v.target) (total-spots b h n m lower k).matrix
        (record { degree = d; terms = vs }) x
        ∙ ap (λ ts. ts ++ moved (length v.target) (row_combination b.ring (total_rows b n k) vs))
        (row_combination-zeros b.ring h.is_ring.modulus z.rows
        (row_at-zero_matrix b.ring (total_source (spots b n k)) v.target) vs)

    pub vertical-sends : (us : List (Term Place)) → InSpan (place b n k) (record { degree = d; terms = us })
        → InSpan (place b m k) (record { degree = d; terms = row_combination b.ring v.rows us })
    vertical-sends us e =
        let sent = (h.downward k (n -ℤ pos k)).sends (record { degree = d; terms = us }) e in
        subst (λ (x : Matrix). InSpan x (record { degree = d; terms = row_combination b.ring v.rows us }))
        (ap (b.relations k) (row-lower n m k lower))
        (subst (λ (q : Ring). InSpan (b.relations k (n -ℤ pos k -ℤ pos 1))
        (record { degree = d; terms = row_combination q v.rows us })) (vertical_ring b h n k) sent)

  -- what is in the span of a place is a vector there
  in_place : (k : ℕ) (ts : List (Term Place)) → InSpan (place b m k) (record { degree = d; terms = ts })
      → IsVector b.ring (place b m k).target (record { degree = d; terms = ts })
  in_place k ts e =
      subst (λ r. IsVector r (place b m k).target (record { degree = d; terms = ts })) (place_ring b h m d k)
      ((span_submodule (place b m k) (here_ring b h m d k) (h.modules k (m -ℤ pos k)).matrix).module_like.vectors
      (record { degree = d; terms = ts }) e)

  -- out of column 0 dh gives 0
  pub dh-nothing : (us : List (Term Place)) → IsVector b.ring (place b n 0).target (record { degree = d; terms = us })
      → row_combination b.ring (horizontal b h n m lower 0).rows us ≡ []
  dh-nothing us x =
      let matrix : Matrix = record { ring = b.ring; target = []; rows = (u 0).rows } in
      let same : u 0 ≡ matrix = λ i. record {
        ring = horizontal_ring b h n 0 i;
        target = h.leaving_target (n -ℤ pos 0) i;
        rows = (u 0).rows;
      } in
      no_generators b.ring _
      (IsVector-row_combination matrix h.is_ring.modulus (subst IsMatrix same (horizontal_matrix b h n 0))
      (record { degree = d; terms = us })
      (subst (λ es. IsVector b.ring es (record { degree = d; terms = us })) (sym (horizontal_source b h n 0)) x))

  horizontal-sends : (k : ℕ) (us : List (Term Place))
      → IsVector b.ring (place b n k).target (record { degree = d; terms = us })
      → InSpan (place b n k) (record { degree = d; terms = us })
      → InSpan (lowest_module b m k) (record { degree = d; terms = row_combination b.ring (u k).rows us })
  horizontal-sends zero us x e =
      subst (λ ts. InSpan (lowest_module b m 0) (record { degree = d; terms = ts })) (sym (dh-nothing us x))
      (zero-inside b.ring h.is_ring [] (InSpan (lowest_module b m 0)) (lowest-submodule b h m 0) d)
  horizontal-sends (suc k) us x e =
      let q = n -ℤ pos (suc k) in
      let ts = row_combination b.ring (u (suc k)).rows us in
      let sent = (h.leftward k q).sends (record { degree = d; terms = us }) e in
      let there : InSpan (place b m k) (record { degree = d; terms = ts }) =
      subst (λ (y : Matrix). InSpan y (record { degree = d; terms = ts })) (ap (b.relations k) (row-left n m k lower))
      (subst (λ (r : Ring). InSpan (b.relations k q)
      (record { degree = d; terms = row_combination r (u (suc k)).rows us })) (horizontal_ring b h n (suc k)) sent) in
      subst (λ us. InSpan (lowest_module b m (suc k)) (record { degree = d; terms = us })) (append-nil ts)
      (put-summands b h m d k ts [] (in_place k ts there) there
      (zero-inside b.ring h.is_ring (lowest_degrees b m k) (InSpan (lowest_module b m k)) (lowest-submodule b h m k) d))

  -- what the map gives of a vector of one more column
  pub next-value : (k : ℕ) (ts : List (Term Place))
      → IsVector b.ring (lowest_degrees b n (suc k)) (record { degree = d; terms = ts })
      → row_combination b.ring (total_rows b n (suc k)) ts
      ≡ row_sum b.ring
      (row_combination b.ring (vertical b h n m lower k).rows (part_terms 0 (length (place b n k).target) ts)
      ++ moved (length (place b m k).target)
      (row_combination b.ring (horizontal b h n m lower k).rows (part_terms 0 (length (place b n k).target) ts)))
      (moved (length (place b m k).target) (row_combination b.ring (total_rows b n k)
      (part_terms (length (place b n k).target) (length (place b n k).target + length (lowest_degrees b n k)) ts)))
  next-value k ts x =
      let size = length (place b n k).target in
      let us = part_terms 0 size ts in
      let vs = part_terms size (size + length (lowest_degrees b n k)) ts in
      let pair = vector-parts b.ring (place b n k).target (lowest_degrees b n k) d ts x in
      let first = row_combination b.ring (v k).rows us in
      let left = row_combination b.ring (u k).rows us in
      let below = row_combination b.ring (total_rows b n k) vs in
      let rows = (beside (v k) (w k)).rows in
      let others_rows = (beside (zeros b h n m lower k) (rest b h n m lower k)).rows in
      let long : length rows ≡ size = length-first b h n m lower k ∙ vertical-size b h n m lower k in
      let sizes = target-size b h n m lower k in
      ap (row_combination b.ring (total_rows b n (suc k))) (sym pair.2 ∙ ap (λ s. us ++ moved s vs) (sym long))
      ∙ row_combination-stacked b.ring h.is_ring.modulus rows others_rows us vs
      (subst (λ s. StandsWithin s us) (sym long) (StandsWithin-vector b.ring (place b n k).target _ pair.0))
      ∙ (λ i. row_sum b.ring (first-value k us pair.0 i) (second-value k vs pair.1 i))
      ∙ (λ i. row_sum b.ring (first ++ moved (sizes i) left) (moved (sizes i) below))

  next-sends : (k : ℕ) → ((ts : List (Term Place))
      → IsVector b.ring (lowest_degrees b n k) (record { degree = d; terms = ts })
      → InSpan (lowest_module b n k) (record { degree = d; terms = ts })
      → InSpan (lowest_module b m k) (record { degree = d; terms = row_combination b.ring (total_rows b n k) ts }))
      → (ts : List (Term Place))
      → IsVector b.ring (lowest_degrees b n (suc k)) (record { degree = d; terms = ts })
      → InSpan (lowest_module b n (suc k)) (record { degree = d; terms = ts })
      → InSpan (lowest_module b m (suc k))
      (record { degree = d; terms = row_combination b.ring (total_rows b n (suc k)) ts })
  next-sends k others ts x e =
      let size = length (place b n k).target in
      let us = part_terms 0 size ts in
      let vs = part_terms size (size + length (lowest_degrees b n k)) ts in
      let parts =
      InSpan-parts (place b n k) (lowest_module b n k) (here_ring b h n d k)
      (place_ring b h n d k ∙ sym (IsTo-lowest b h n k).ring_of) (h.modules k (n -ℤ pos k)).matrix
      (IsTo-lowest b h n k).matrix d ts
      (subst (λ q. IsVector q (lowest_degrees b n (suc k)) (record { degree = d; terms = ts })) (sym (place_ring b h n d k)) x)
      e in
      let pair = vector-parts b.ring (place b n k).target (lowest_degrees b n k) d ts x in
      let first = row_combination b.ring (v k).rows us in
      let left = row_combination b.ring (u k).rows us in
      let below = row_combination b.ring (total_rows b n k) vs in
      let dv = vertical-sends k us parts.0 in
      let upper = put-summands b h m d k first left (in_place k first dv) dv (horizontal-sends k us pair.0 parts.0) in
      let under = put-summands b h m d k [] below (IsVector-nil b.ring (place b m k).target d) (here_zero b h m d k)
      (others vs pair.1 parts.1) in
      subst (λ ws. InSpan (lowest_module b m (suc k)) (record { degree = d; terms = ws })) (sym (next-value k ts x))
      ((submodule_closed b.ring h.is_ring (lowest_degrees b m (suc k)) (InSpan (lowest_module b m (suc k)))
      (lowest-submodule b h m (suc k))).sums d _ _ upper under)

  pub total-sends : (k : ℕ) (ts : List (Term Place))
      → IsVector b.ring (lowest_degrees b n k) (record { degree = d; terms = ts })
      → InSpan (lowest_module b n k) (record { degree = d; terms = ts })
      → InSpan (lowest_module b m k) (record { degree = d; terms = row_combination b.ring (total_rows b n k) ts })
  total-sends zero ts x e = record { coefficients = record { degree = d; terms = ts }; homogeneous = x; value = refl }
  total-sends (suc k) ts x e = next-sends k (total-sends k) ts x e
