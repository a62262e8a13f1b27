-- Rows that are picked by their numbers, one after another.
use Rattle.std.proofs.Common.{◌≡◌, ℕ, ◌+◌, ◌<◌, List, [], ◌∷◌, ◌++◌, length, map, take, Some, slice_get, slice_index_or, sym, ◌∙◌, ap, subst, pos}
use Rattle.std.proofs.lemmas.List.{map-append, take_more}
use Rattle.std.proofs.lemmas.Option.{get_or_from_slice_get}
use Rattle.sf_algebra.specs.Matrices.{Matrix, IsMatrix}
use Rattle.sf_algebra.specs.Vectors.{Vector, IsVector}
use Rattle.sf_algebra.proofs.Basics.Lists.{AllByRecursion-get}
use Rattle.sf_groebner.specs.MinimalGenerators.{matrix_of}
use Rattle.sf_matrix.specs.KeptNumbers.{vector_at}

module _ (m : Matrix) (numbers : List ℕ) (i : ℕ) (rows : Matrix) (v : Vector)
    (picked : rows ≡ matrix_of m.ring m.target (map (vector_at m.rows) (take i numbers)))
    (read : slice_get m.rows (slice_index_or numbers i 0) ≡ Some v) where
  pub picked-vector : IsMatrix m → IsVector rows.ring rows.target v
  picked-vector matrix =
      subst (λ (n : Matrix). IsVector n.ring n.target v) (sym picked)
      (AllByRecursion-get (IsVector m.ring m.target) m.rows (slice_index_or numbers i 0) v matrix read)

  pub picked-next : (more : Matrix) → i < length numbers → more ≡ record rows { rows = rows.rows ++ v ∷ [] }
      → more ≡ matrix_of m.ring m.target (map (vector_at m.rows) (take (i + 1) numbers))
  picked-next more within pushed =
      let row : vector_at m.rows (slice_index_or numbers i 0) ≡ v =
      get_or_from_slice_get m.rows (slice_index_or numbers i 0) v (record { degree = pos 0; terms = [] }) read in
      let next : map (vector_at m.rows) (take (i + 1) numbers) ≡ map (vector_at m.rows) (take i numbers) ++ v ∷ [] =
      ap (map (vector_at m.rows)) (take_more numbers i 0 within)
      ∙ map-append (vector_at m.rows) (take i numbers) (slice_index_or numbers i 0 ∷ [])
      ∙ ap (λ w. map (vector_at m.rows) (take i numbers) ++ w ∷ []) row in
      pushed
      ∙ ap (λ (n : Matrix). record n { rows = n.rows ++ v ∷ [] }) picked
      ∙ ap (matrix_of m.ring m.target) (sym next)
