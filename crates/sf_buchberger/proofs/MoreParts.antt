-- The parts of the vectors of a graph, one after another.
use Rattle.std.proofs.Common.{◌≡◌, ◌+◌, not, List, [], ◌∷◌, ◌++◌, filter, length, map, refl, sym, ◌∙◌, ap, subst, arith, Bool}
use Rattle.std.proofs.lemmas.List.{length-map, map-append}
use Rattle.std.proofs.lemmas.List.Elements.{filter-append}
use Rattle.sf_algebra.specs.Matrices.{Matrix, row_degrees}
use Rattle.sf_algebra.specs.Vectors.{Vector, IsVector}
use Rattle.sf_algebra.proofs.GradedMatrices.PartTerms.{IsVector-part_terms}
use Rattle.sf_algebra.proofs.GradedMatrices.Ranges.{slice_range-first, slice_range-second}
use Rattle.sf_groebner.specs.BasisParts.{value_part, coefficient_part, values_of, coefficients_of, syzygies_of}
use Rattle.sf_groebner.specs.Cuts.{has_first_part}
use Rattle.sf_groebner.specs.MinimalGenerators.{matrix_of}
use Rattle.sf_groebner.specs.Spans.{graph_degrees}
use Rattle.sf_buchberger.specs.GraphBases.{AreParts, with_rows}

module _ (m : Matrix) where
  module _ (w : Vector) (h : IsVector m.ring (graph_degrees m) w) where
    pub IsVector-value_part : IsVector m.ring m.target (value_part m w)
    IsVector-value_part =
        subst (λ ds. IsVector m.ring ds (value_part m w))
        (slice_range-first m.target (row_degrees m) (length m.target) refl)
        (IsVector-part_terms m.ring (graph_degrees m) 0 (length m.target) w h)

    pub IsVector-coefficient_part : IsVector m.ring (row_degrees m) (coefficient_part m w)
    IsVector-coefficient_part =
        subst (λ ds. IsVector m.ring ds (coefficient_part m w))
        (slice_range-second m.target (row_degrees m) (length m.target) (length m.target + length m.rows) refl (rw length-map (omega arith)))
        (IsVector-part_terms m.ring (graph_degrees m) (length m.target) (length m.target + length m.rows) w h)

  mapped-append : (test : Vector → Bool) (f : Vector → Vector) (vs ws : List Vector)
      → map f (filter test (vs ++ ws)) ≡ map f (filter test vs) ++ map f (filter test ws)
  mapped-append test f vs ws =
      ap (map f) (filter-append test vs ws) ∙ map-append f (filter test vs) (filter test ws)

  pub values_of-append : (vs ws : List Vector) → values_of m (vs ++ ws) ≡ values_of m vs ++ values_of m ws
  values_of-append = mapped-append (has_first_part (length m.target)) (value_part m)

  pub coefficients_of-append : (vs ws : List Vector)
      → coefficients_of m (vs ++ ws) ≡ coefficients_of m vs ++ coefficients_of m ws
  coefficients_of-append = mapped-append (has_first_part (length m.target)) (coefficient_part m)

  pub syzygies_of-append : (vs ws : List Vector) → syzygies_of m (vs ++ ws) ≡ syzygies_of m vs ++ syzygies_of m ws
  syzygies_of-append =
      mapped-append (λ (v : Vector). not (has_first_part (length m.target) v)) (coefficient_part m)

  -- the parts of one more vector
  pub AreParts-push : (vs : List Vector) (v : Vector) (basis coefficients syzygies : Matrix)
      → AreParts m vs basis coefficients syzygies → (b c z : Matrix)
      → b ≡ with_rows basis (values_of m (v ∷ [])) → c ≡ with_rows coefficients (coefficients_of m (v ∷ []))
      → z ≡ with_rows syzygies (syzygies_of m (v ∷ [])) → AreParts m (vs ++ v ∷ []) b c z
  AreParts-push vs v basis coefficients syzygies h b c z e f g = record {
    basis_rows =
        e ∙ ap (λ x. with_rows x (values_of m (v ∷ []))) h.basis_rows
        ∙ ap (matrix_of m.ring m.target) (sym (values_of-append vs (v ∷ [])));
    coefficient_rows =
        f ∙ ap (λ x. with_rows x (coefficients_of m (v ∷ []))) h.coefficient_rows
        ∙ ap (matrix_of m.ring (row_degrees m)) (sym (coefficients_of-append vs (v ∷ [])));
    syzygy_rows =
        g ∙ ap (λ x. with_rows x (syzygies_of m (v ∷ []))) h.syzygy_rows
        ∙ ap (matrix_of m.ring (row_degrees m)) (sym (syzygies_of-append vs (v ∷ [])));
  }
