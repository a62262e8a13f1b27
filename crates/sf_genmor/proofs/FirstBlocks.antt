-- First blocks, one after another.
use Rattle.std.proofs.Common.{◌≡◌, Bool, true, false, if◌then◌else◌, ℕ, ◌+◌, List, [], ◌∷◌, ◌++◌, length, filter, map, take, Some, slice_get, refl, sym, ◌∙◌, ap, subst}
use Rattle.std.proofs.lemmas.List.{length-map, map-append}
use Rattle.std.proofs.lemmas.List.Elements.{filter-append}
use Rattle.sf_algebra.specs.Matrices.{Matrix, row_degrees}
use Rattle.sf_algebra.specs.MatrixOperations.{vector_part}
use Rattle.sf_algebra.specs.Vectors.{Vector, IsVector}
use Rattle.sf_algebra.proofs.Basics.Lists.{take-slice_get}
use Rattle.sf_algebra.proofs.GradedMatrices.PartTerms.{IsVector-part_terms}
use Rattle.sf_algebra.proofs.GradedMatrices.Ranges.{slice_range-first}
use Rattle.sf_groebner.specs.Cuts.{first_parts, has_first_part}
use Rattle.sf_genmor.specs.LookPlans.{BeginWith, first_blocks, nonzero}

-- one more vector
first_parts-last : (n : ℕ) (w : Vector) → first_parts n (w ∷ []) ≡ nonzero (vector_part 0 n w)
first_parts-last n w = by (has_first_part n w)
  where
    by : (b : Bool) → map (vector_part 0 n) (if b then w ∷ [] else []) ≡ (if b then vector_part 0 n w ∷ [] else [])
    by true = refl
    by false = refl

first_parts-append : (n : ℕ) (vs : List Vector) (w : Vector)
    → first_parts n (vs ++ w ∷ []) ≡ first_parts n vs ++ nonzero (vector_part 0 n w)
first_parts-append n vs w =
    ap (map (vector_part 0 n)) (filter-append (has_first_part n) vs (w ∷ []))
    ∙ map-append (vector_part 0 n) (filter (has_first_part n) vs) (filter (has_first_part n) (w ∷ []))
    ∙ ap (λ us. first_parts n vs ++ us) (first_parts-last n w)

module _ (a syzygies : Matrix) (i : ℕ) (blocks : Matrix) (row : Vector) (read : slice_get syzygies.rows i ≡ Some row)
    (blocks_are : blocks ≡ first_blocks a (take i syzygies.rows)) where
  pub first_blocks-next : (more : Matrix) → more ≡ record blocks { rows = blocks.rows ++ nonzero (vector_part 0 (length a.rows) row) }
      → more ≡ first_blocks a (take (i + 1) syzygies.rows)
  first_blocks-next more pushed =
      let n = length a.rows in
      pushed
      ∙ ap (λ (m : Matrix). record m { rows = m.rows ++ nonzero (vector_part 0 n row) }) blocks_are
      ∙ (λ j. record {
        ring = a.ring;
        target = row_degrees a;
        rows = (sym (first_parts-append n (take i syzygies.rows) row) ∙ ap (first_parts n) (sym (take-slice_get syzygies.rows i row read))) j;
      })

  pub first_blocks-vector : syzygies.ring ≡ a.ring → BeginWith (row_degrees a) syzygies.target
      → IsVector syzygies.ring syzygies.target row → IsVector blocks.ring blocks.target (vector_part 0 (length a.rows) row)
  first_blocks-vector rings target vector =
      let n = length a.rows in
      subst (λ (m : Matrix). IsVector m.ring m.target (vector_part 0 n row)) (sym blocks_are)
      (subst (λ ds. IsVector a.ring ds (vector_part 0 n row))
      (slice_range-first (row_degrees a) target.0 n (length-map a.rows (λ (v : Vector). v.degree)))
      (IsVector-part_terms a.ring (row_degrees a ++ target.0) 0 n row
      (subst (λ ds. IsVector a.ring ds row) target.1 (subst (λ q. IsVector q syzygies.target row) rings vector))))
