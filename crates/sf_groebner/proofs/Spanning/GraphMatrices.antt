-- The graph as the span of a matrix, whose rows are those of the matrix with unit vectors behind them.
use Rattle.std.proofs.Common.{◌≡◌, ◌↔◌, inl, inr, ℕ, zero, suc, ◌+◌, ◌<◌, List, [], ◌∷◌, ◌++◌, length, refl, sym, ◌∙◌, ap, subst, arith}
use Rattle.std.proofs.lemmas.Bool.{cases_lt}
use Rattle.std.proofs.lemmas.List.{length-map}
use Rattle.sf_algebra.specs.Matrices.{Matrix, IsMatrix, row_degrees, degrees_of}
use Rattle.sf_algebra.specs.MatrixOperations.{row_at, unit_rows}
use Rattle.sf_algebra.specs.Rings.{IsRing}
use Rattle.sf_algebra.specs.VectorOperations.{row_sum}
use Rattle.sf_algebra.specs.Vectors.{Vector, IsVector, IsCanonicalRow}
use Rattle.sf_algebra.proofs.Basics.Lists.{AllByRecursion-weaken}
use Rattle.sf_algebra.proofs.GradedMatrices.Identities.{length-unit_rows}
use Rattle.sf_algebra.proofs.GradedMatrices.MatrixRows.{same_rows}
use Rattle.sf_algebra.proofs.Vectors.RowSums.{row_sum-nil}
use Rattle.sf_algebra.proofs.Vectors.Rows.{row_at-past}
use Rattle.sf_algebra.proofs.Vectors.UnitRows.{row_at-unit_rows, unit_term}
use Rattle.sf_groebner.specs.GraphRows.{graph_matrix, with_units}
use Rattle.sf_groebner.specs.Spans.{InSpan, IsGraphVector}
use Rattle.sf_groebner.proofs.Constructions.MonicVectors.{AllByRecursion-row_at}
use Rattle.sf_groebner.proofs.PartsOfBases.PairedVectors.{IsCanonical-pair}
use Rattle.sf_groebner.proofs.Spanning.AddedParts.{add-canonical_append}
use Rattle.sf_groebner.proofs.Spanning.Generators.{AreGenerators}
use Rattle.sf_groebner.proofs.Spanning.GraphGenerators.{degrees-graph_rows, graph_generators, graph_rows, graph_submodule, row_at-graph_rows}
use Rattle.sf_groebner.proofs.Spanning.SpanCombinations.{IsCombination-InSpan, InSpan-IsCombination}

pub degrees-with_units : (n : ℕ) (vs : List Vector) → degrees_of (with_units n vs) ≡ degrees_of vs
unfolding with_units
degrees-with_units n [] = refl
degrees-with_units n (v ∷ vs) = ap (λ ds. v.degree ∷ ds) (degrees-with_units (suc n) vs)

pub row_at-with_units : (n : ℕ) (vs : List Vector) (i : ℕ) → i < length vs
    → row_at (with_units n vs) i ≡ row_at vs i ++ unit_term (n + i) ∷ []
unfolding with_units
row_at-with_units n [] i h = absurd (omega arith)
row_at-with_units n (v ∷ vs) zero h = ap (λ k. v.terms ++ unit_term k ∷ []) (omega arith)
row_at-with_units n (v ∷ vs) (suc i) h =
    row_at-with_units (suc n) vs i (omega arith) ∙ ap (λ k. row_at vs i ++ unit_term k ∷ []) (omega arith)

pub length-with_units : (n : ℕ) (vs : List Vector) → length (with_units n vs) ≡ length vs
unfolding with_units
length-with_units n [] = refl
length-with_units n (v ∷ vs) = ap suc (length-with_units (suc n) vs)

module _ (m : Matrix) (positive : IsRing m.ring) (above : 1 < m.ring.modulus) (matrix : IsMatrix m) where
  row_at-graph_matrix : (i : ℕ)
      → row_at (with_units (length m.target) m.rows) i
      ≡ row_sum m.ring (row_at m.rows i) (row_at (unit_rows (length m.target) (row_degrees m)) i)
  row_at-graph_matrix i =
      let ring = m.ring in
      let n = length m.target in
      elim (cases_lt i (length m.rows)) [
        | inl within ↦
            let row =
            AllByRecursion-row_at
            (λ d ts. IsVector ring m.target (record { degree = d; terms = ts })) m.rows matrix i within in
            let unit_canonical : IsCanonicalRow ring (unit_term i ∷ []) =
            record { descending = (tt, tt); residues = ((omega arith, above), tt) } in
            let pair = IsCanonical-pair ring n (row_at m.rows i) (unit_term i ∷ []) (AllByRecursion-weaken _ _ (λ t h. h.0) (row_at m.rows i) row.homogeneous) row.canonical unit_canonical in
            row_at-with_units n m.rows i within
            ∙ sym (add-canonical_append ring positive (row_at m.rows i) (unit_term (n + i) ∷ []) pair)
            ∙ ap (row_sum ring (row_at m.rows i)) (sym (row_at-unit_rows (row_degrees m) n i (rw length-map within)))
        | inr past ↦
            row_at-past (with_units n m.rows) i (rw length-with_units past)
            ∙ sym (row_sum-nil ring positive.modulus [] (record { descending = tt; residues = tt }))
            ∙ (λ j. row_sum ring (sym (row_at-past m.rows i past) j) (sym (row_at-past (unit_rows n (row_degrees m)) i (rw (length-unit_rows, length-map) past)) j))
      ]

  pub same-graph_rows : graph_rows m positive above matrix ≡ with_units (length m.target) m.rows
  same-graph_rows =
      same_rows (graph_rows m positive above matrix) (with_units (length m.target) m.rows)
      (degrees-graph_rows m positive above matrix ∙ sym (degrees-with_units (length m.target) m.rows))
      (λ i. row_at-graph_rows m positive above matrix i ∙ sym (row_at-graph_matrix i))

  -- they generate the graph
  pub graph_matrix-generators : AreGenerators m.ring (IsGraphVector m) (graph_matrix m).rows
  graph_matrix-generators =
      subst (AreGenerators m.ring (IsGraphVector m)) same-graph_rows (graph_generators m positive above matrix)

  pub graph_matrix-span : (w : Vector) → IsGraphVector m w ↔ InSpan (graph_matrix m) w
  graph_matrix-span w = (
    λ h. InSpan-IsCombination (graph_matrix m) positive w (graph_matrix-generators.spans w h),
    λ h.
        let c = IsCombination-InSpan (graph_matrix m) positive w h in
        subst (λ ts. IsGraphVector m (record { degree = w.degree; terms = ts })) c.value
        ((graph_submodule m positive above matrix).combinations (graph_matrix m).rows graph_matrix-generators.inside w.degree c.coefficients c.homogeneous),
  )
