-- Rows of given degrees, up to one of them and from it on.
use Rattle.std.proofs.Common.{◌≡◌, ℕ, ◌+◌, ◌<◌, List, [], ◌∷◌, ◌++◌, length, take, drop, get_or, rules, ap, ◌∙◌, arith, refl, ℤ, zero, suc, true}
use Rattle.std.proofs.lemmas.List.{take_more}
use Rattle.sf_algebra.specs.Vectors.{Vector}
use Rattle.sf_text.specs.Placed.{rows_of_degrees, row_of_degree, row_at, first_fault, is_homogeneous}
use Rattle.sf_text.specs.Raw.{RawTerm}
use Rattle.sf_text.specs.declared.ring.Ring.{Ring}

module _ (ring : Ring) (rows : List (List (List RawTerm))) where
  abbrev row : ℤ → ℕ → Vector
  row degree i = row_of_degree ring degree (row_at rows i)

  append : (i : ℕ) (degrees : List ℤ) (degree : ℤ) (n : ℕ) → length degrees ≡ n
      → rows_of_degrees ring rows i (degrees ++ degree ∷ []) ≡ rows_of_degrees ring rows i degrees ++ row degree (i + n) ∷ []
  append i [] degree n e = let same : i ≡ i + n = omega arith in ap (λ k. row degree k ∷ []) same
  append i (d ∷ ds) degree zero e = cc
  append i (d ∷ ds) degree (suc n) e =
      let same : (i + 1) + n ≡ i + suc n = omega arith in
      let fewer : length ds ≡ n = omega arith in
      ap (λ vs. row d i ∷ vs)
      (append (i + 1) ds degree n fewer ∙ ap (λ k. rows_of_degrees ring rows (i + 1) ds ++ row degree k ∷ []) same)

  pub rows_of_degrees-take : (degrees : List ℤ) (i : ℕ) (d : ℤ) → i < length degrees
      → rows_of_degrees ring rows 0 (take (i + 1) degrees)
      ≡ rows_of_degrees ring rows 0 (take i degrees) ++ row (get_or degrees i d) i ∷ []
  rows_of_degrees-take degrees i d less =
      let size : length (take i degrees) ≡ i = search (arith, rules) in
      let same : 0 + i ≡ i = omega arith in
      ap (rows_of_degrees ring rows 0) (take_more degrees i d less) ∙ append 0 (take i degrees) (get_or degrees i d) i size
      ∙ ap (λ k. rows_of_degrees ring rows 0 (take i degrees) ++ row (get_or degrees i d) k ∷ []) same

  from : (k : ℕ) (degrees : List ℤ) (i : ℕ) (d : ℤ) → i < length degrees
      → rows_of_degrees ring rows k (drop i degrees)
      ≡ row (get_or degrees i d) k ∷ rows_of_degrees ring rows (k + 1) (drop (suc i) degrees)
  from k [] i d less = absurd (omega arith)
  from k (e ∷ es) zero d less = refl
  from k (e ∷ es) (suc i) d less = from k es i d (omega arith)

  -- past a row that is homogeneous, the first fault is that of the others
  pub first_fault-past : (target degrees : List ℤ) (i : ℕ) (d : ℤ) → i < length degrees
      → is_homogeneous target (row (get_or degrees i d) i) ≡ true
      → first_fault (i + 1) target (rows_of_degrees ring rows i (drop i degrees))
      ≡ first_fault (i + 1 + 1) target (rows_of_degrees ring rows (i + 1) (drop (i + 1) degrees))
  first_fault-past target degrees i d less good =
      let next : suc i ≡ i + 1 = omega arith in
      ap (first_fault (i + 1) target) (from i degrees i d less) ∙ rw good refl
      ∙ ap (λ k. first_fault (i + 1 + 1) target (rows_of_degrees ring rows (i + 1) (drop k degrees))) next
