-- Turning columns into vectors, one after another.
use Rattle.std.proofs.Common.{◌≡◌, ℕ, suc, ◌+◌, ◌<◌, List, [], ◌∷◌, ◌++◌, length, map, drop, get_or, slice_set, length-set, neg_ℤ, ℤ, refl, sym, ◌∙◌, ap, arith, append_assoc, append-nil, ◌≤◌}
use Rattle.std.proofs.lemmas.List.{drop_more, drop-set-lt, drop_all}
use Rattle.std.specs.List.{AllByRecursion}
use Rattle.std.specs.List.{AllByRecursion}
use Rattle.sf_algebra.specs.Matrices.{Matrix, row_degrees}
use Rattle.sf_algebra.specs.MatrixOperations.{column_terms, column_rows, transposed}
use Rattle.sf_algebra.specs.Rings.{Ring}
use Rattle.sf_algebra.specs.Terms.{Term, IsDescending}
use Rattle.sf_algebra.specs.Vectors.{Place, Vector, IsVector, place_cmp}
use Rattle.sf_algebra.proofs.Basics.Lists.{AllByRecursion-weaken}
use Rattle.sf_algebra.proofs.GradedMatrices.Columns.{IsDescending-column_terms, residues-column_terms}
use Rattle.sf_matrix.specs.Columns.{column_lists, vectors_of}

-- the columns of rows as vectors are the rows of the transpose
pub vectors_of-column_lists : (rows : List Vector) (j : ℕ) (ds : List ℤ)
    → vectors_of ds (column_lists rows j ds) ≡ column_rows rows j ds
vectors_of-column_lists rows j [] = refl
vectors_of-column_lists rows j (d ∷ ds) =
    ap (λ vs. record { degree = neg_ℤ d; terms = column_terms j 0 rows } ∷ vs) (vectors_of-column_lists rows (suc j) ds)

-- how far a loop has come: what is done, and what the columns from j on give, make the whole
pub record IsTurning (ds : List ℤ) (cs : List (List (Term Place))) (done : List Vector)
    (left : List (List (Term Place))) (j : ℕ) : Type 0 where
  pub rows : done ++ vectors_of (drop j ds) (drop j cs) ≡ vectors_of ds cs
  pub same : drop j left ≡ drop j cs
  pub size : length left ≡ length ds

module _ (ds : List ℤ) (cs : List (List (Term Place))) (done : List Vector) (left : List (List (Term Place))) (j : ℕ)
    (h : IsTurning ds cs done left j) (sizes : length cs ≡ length ds) (below : j < length ds) where
  -- one more column, whose place may then hold anything
  pub IsTurning-next : (d : ℤ) (c x : List (Term Place)) → d ≡ get_or ds j d → c ≡ get_or left j c
      → IsTurning ds cs (done ++ record { degree = neg_ℤ d; terms = c } ∷ []) (slice_set left j x) (j + 1)
  IsTurning-next d c x degree column = record { rows = rows; same = same; size = length-set _ _ _ ∙ h.size }
    where
      first : drop j ds ≡ d ∷ drop (j + 1) ds
      first = drop_more ds j d below ∙ ap (λ e. e ∷ drop (j + 1) ds) (sym degree)

      second : drop j cs ≡ c ∷ drop (j + 1) cs
      second =
          sym h.same
          ∙ drop_more left j c (omega (arith, h.size))
          ∙ (λ l. sym column l ∷ rest l)
        where
          rest : drop (j + 1) left ≡ drop (j + 1) cs
          rest =
              ap (drop 1) (sym (drop_more left j c (omega (arith, h.size)))) ∙ ap (drop 1) h.same
              ∙ ap (drop 1) (drop_more cs j c (omega (arith, sizes)))

      rows : (done ++ record { degree = neg_ℤ d; terms = c } ∷ []) ++ vectors_of (drop (j + 1) ds) (drop (j + 1) cs)
          ≡ vectors_of ds cs
      rows =
          append_assoc done (record { degree = neg_ℤ d; terms = c } ∷ []) _
          ∙ ap (λ vs. done ++ vs) (sym (λ l. vectors_of (first l) (second l)))
          ∙ h.rows

      same : drop (j + 1) (slice_set left j x) ≡ drop (j + 1) cs
      same =
          drop-set-lt (j + 1) left j x (omega arith)
          ∙ ap (drop 1) (sym (drop_more left j c (omega (arith, h.size))))
          ∙ ap (drop 1) h.same
          ∙ ap (drop 1) (drop_more cs j c (omega (arith, sizes)))

-- once all columns are turned
pub IsTurning-end : (ds : List ℤ) (cs : List (List (Term Place))) (done : List Vector) (left : List (List (Term Place)))
    (j : ℕ) → IsTurning ds cs done left j → length ds ≤ j → done ≡ vectors_of ds cs
IsTurning-end ds cs done left j h all =
    sym (append-nil done) ∙ ap (λ es. done ++ vectors_of es (drop j cs)) (sym (drop_all j ds all)) ∙ h.rows

-- the parts of the transpose, as a program makes them
pub transposed-parts : (m : Matrix) (ring : Ring) (target : List ℤ) (cs : List (List (Term Place))) (rows : List Vector)
    → ring ≡ m.ring → target ≡ map neg_ℤ (row_degrees m) → cs ≡ column_lists m.rows 0 m.target
    → rows ≡ vectors_of m.target cs
    → record { ring = ring; target = target; rows = rows } ≡ transposed m
transposed-parts m ring target cs rows same_ring same_target columns vectors =
    let same_rows = vectors ∙ ap (vectors_of m.target) columns ∙ vectors_of-column_lists m.rows 0 m.target in
    λ l. record { ring = same_ring l; target = same_target l; rows = same_rows l }

-- the columns of homogeneous rows descend and have no coefficient 0
module _ (ring : Ring) (degrees : List ℤ) (rows : List Vector) (h : AllByRecursion (IsVector ring degrees) rows) where
  pub IsDescending-column_lists : (j : ℕ) (ds : List ℤ)
      → AllByRecursion (IsDescending (place_cmp ring.weights)) (column_lists rows j ds)
  IsDescending-column_lists j [] = tt
  IsDescending-column_lists j (d ∷ ds) =
      (IsDescending-column_terms j ring.weights 0 rows (AllByRecursion-weaken _ _ (λ v k. k.canonical.descending) rows h), IsDescending-column_lists (suc j) ds)

  pub nonzero-column_lists : (j : ℕ) (ds : List ℤ)
      → AllByRecursion (AllByRecursion (λ (t : Term Place). 0 < t.coefficient)) (column_lists rows j ds)
  nonzero-column_lists j [] = tt
  nonzero-column_lists j (d ∷ ds) =
      (AllByRecursion-weaken _ _ (λ t r. r.0) (column_terms j 0 rows) (residues-column_terms j ring.modulus 0 rows (AllByRecursion-weaken _ _ (λ v k. k.canonical.residues) rows h)), nonzero-column_lists (suc j) ds)
