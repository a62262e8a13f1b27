-- The columns of an image: dv of the same column, and dh of the next higher one.
use Rattle.std.proofs.Common.{◌≡◌, ℕ, zero, suc, ◌+◌, ◌<◌, ◌≤◌, List, [], ◌++◌, length, sym, ap, ◌∙◌, subst, inl, inr, arith, ℤ, pos, ◌-ℤ◌}
use Rattle.std.proofs.lemmas.Bool.{cases_eq}
use Rattle.sf_algebra.specs.Matrices.{IsMatrix, Matrix}
use Rattle.sf_algebra.specs.MatrixOperations.{moved, part_terms, row_combination}
use Rattle.sf_algebra.specs.Rings.{IsRing, Ring}
use Rattle.sf_algebra.specs.Terms.{Term}
use Rattle.sf_algebra.specs.VectorOperations.{row_sum}
use Rattle.sf_algebra.specs.Vectors.{IsCanonicalRow, IsVector, Place, Vector}
use Rattle.sf_algebra.proofs.Basics.Lists.{AllByRecursion-weaken}
use Rattle.sf_algebra.proofs.GradedMatrices.Columns.{AllByRecursion-always}
use Rattle.sf_algebra.proofs.GradedMatrices.MatrixRows.{StandsWithin}
use Rattle.sf_algebra.proofs.GradedMatrices.PartTerms.{part_terms-whole}
use Rattle.sf_algebra.proofs.GradedMatrices.Parts.{part_terms-part_terms}
use Rattle.sf_algebra.proofs.Vectors.HomogeneousVectors.{IsVector-row_combination}
use Rattle.sf_algebra.proofs.Vectors.RowSums.{IsCanonical-row_sum, row_sum-comm, row_sum-nil, row_sum-nil_first}
use Rattle.sf_algebra.proofs.Vectors.Rows.{IsCanonical-row_combination, row_combination-nil}
use Rattle.sf_groebner.specs.MinimalGenerators.{matrix_of}
use Rattle.sf_groebner.proofs.PartsOfBases.PairedVectors.{IsCanonical-pair, part_terms-pair_first, part_terms-pair_last}
use Rattle.sf_groebner.proofs.PartsOfBases.PartLeads.{part_terms-before, part_terms-past}
use Rattle.sf_groebner.proofs.PartsOfBases.PartSums.{part_terms-add}
use Rattle.sf_blocks.specs.TotalDifferentials.{total_differential}
use Rattle.sf_bicomplex.specs.Bicomplexes.{Bicomplex, IsBicomplex}
use Rattle.sf_bicomplex.specs.TotalColumns.{lowest_degrees, place, spots}
use Rattle.sf_bicomplex.proofs.Columns.ColumnParts.{part_terms-behind}
use Rattle.sf_bicomplex.proofs.Columns.Splits.{StandsWithin-vector, moved_past}
use Rattle.sf_bicomplex.proofs.TotalComplexes.Diagonals.{horizontal_matrix, horizontal_ring, horizontal_source, horizontal_target, source-spots, target-spots, total-spots, vertical_ring, vertical_source, vertical_target}
use Rattle.sf_bicomplex.proofs.TotalComplexes.TotalMaps.{dh-nothing, next-value}
use Rattle.sf_bicomplex.proofs.TotalComplexes.TotalModules.{length-lowest, length-lowest_rises, start, total_rows}
use Rattle.sf_bicomplex.proofs.TotalComplexes.TotalSpans.{vector-parts}
use Rattle.sf_bicomplex.proofs.TotalComplexes.TotalSteps.{horizontal, vertical}

-- no terms stand in an empty range
pub part_terms-empty : (ts : List (Term Place)) → part_terms 0 0 ts ≡ []
part_terms-empty ts = part_terms-behind 0 0 ts (AllByRecursion-always _ (λ t. omega arith) ts)

-- a sum of a pair and of terms moved on, before the position where the second parts start and from there on
module _ (ring : Ring) (positive : IsRing ring) (size more : ℕ) (first left below : List (Term Place))
    (within : StandsWithin size first) (within_left : StandsWithin more left) (within_below : StandsWithin more below)
    (first_canonical : IsCanonicalRow ring first) (left_canonical : IsCanonicalRow ring left)
    (below_canonical : IsCanonicalRow ring below) where
  value-before : part_terms 0 size (row_sum ring (first ++ moved size left) (moved size below)) ≡ first
  value-before =
      part_terms-add ring 0 size positive (first ++ moved size left) (moved size below)
      ∙ (λ i. row_sum ring (part_terms-pair_first size first left within i)
      (part_terms-past size (moved size below) (moved_past size below) i))
      ∙ row_sum-nil ring positive.modulus first first_canonical

  behind : (s e : ℕ) → e ≤ more → (us vs : List (Term Place)) → StandsWithin size us → StandsWithin more vs
      → IsCanonicalRow ring us → IsCanonicalRow ring vs
      → part_terms (size + s) (size + e) (us ++ moved size vs) ≡ part_terms s e vs
  behind s e small us vs x y k l =
      sym (part_terms-part_terms ring size (size + more) s e (us ++ moved size vs) (omega arith)
      (IsCanonical-pair ring size us vs x k l))
      ∙ ap (part_terms s e) (part_terms-pair_last size more us vs x y)

  value-behind : (s e : ℕ) → e ≤ more
      → part_terms (size + s) (size + e) (row_sum ring (first ++ moved size left) (moved size below))
      ≡ row_sum ring (part_terms s e left) (part_terms s e below)
  value-behind s e small =
      part_terms-add ring (size + s) (size + e) positive (first ++ moved size left) (moved size below)
      ∙ (λ i. row_sum ring (behind s e small first left within within_left first_canonical left_canonical i)
      (behind s e small [] below tt within_below (record { descending = tt; residues = tt }) below_canonical i))

module _ (b : Bicomplex) (h : IsBicomplex b) (n m : ℤ) (lower : m ≡ n -ℤ pos 1) (d : ℤ) where
  -- column p of a vector of the k lowest columns
  abbrev column : ℕ → ℕ → List (Term Place) → List (Term Place)
  column k p ts = part_terms (start b n k (suc p)) (start b n k p) ts

  abbrev dv : ℕ → List (Term Place) → List (Term Place)
  dv p us = row_combination b.ring (vertical b h n m lower p).rows us

  abbrev dh : ℕ → List (Term Place) → List (Term Place)
  dh p us = row_combination b.ring (horizontal b h n m lower p).rows us

  abbrev IsColumnOfImage : ℕ → ℕ → List (Term Place) → Type 0
  IsColumnOfImage k p ts =
      part_terms (start b m k (suc p)) (start b m k p) (row_combination b.ring (total_rows b n k) ts)
      ≡ row_sum b.ring (dv p (column k p ts)) (dh (suc p) (column k (suc p) ts))

  abbrev IsLowest : ℕ → List (Term Place) → Type 0
  IsLowest k ts = IsVector b.ring (lowest_degrees b n k) (record { degree = d; terms = ts })

  no_dh : (p : ℕ) → dh p [] ≡ []
  no_dh p = row_combination-nil b.ring h.is_ring.modulus (horizontal b h n m lower p).rows

  -- where dv and dh of vectors of a column stand
  dv-within : (p : ℕ) (us : List (Term Place)) → IsVector b.ring (place b n p).target (record { degree = d; terms = us })
      → StandsWithin (length (place b m p).target) (dv p us)
  dv-within p us x =
      let a : Matrix = vertical b h n m lower p in
      let known : Matrix = record { ring = b.ring; target = (place b m p).target; rows = a.rows } in
      let same : a ≡ known =
      λ i. record { ring = vertical_ring b h n p i; target = vertical_target b h n m lower p i; rows = a.rows } in
      StandsWithin-vector b.ring (place b m p).target _
      (IsVector-row_combination known h.is_ring.modulus (subst IsMatrix same (h.downward p (n -ℤ pos p)).matrix)
      (record { degree = d; terms = us })
      (subst (λ ds. IsVector b.ring ds (record { degree = d; terms = us })) (sym (vertical_source b h n p)) x))

  dh-within : (p : ℕ) (us : List (Term Place))
      → IsVector b.ring (place b n (suc p)).target (record { degree = d; terms = us })
      → StandsWithin (length (place b m p).target) (dh (suc p) us)
  dh-within p us x =
      let a : Matrix = horizontal b h n m lower (suc p) in
      let known : Matrix = record { ring = b.ring; target = (place b m p).target; rows = a.rows } in
      let same : a ≡ known =
      λ i. record {
        ring = horizontal_ring b h n (suc p) i;
        target = horizontal_target b h n m lower p i;
        rows = a.rows;
      } in
      StandsWithin-vector b.ring (place b m p).target _
      (IsVector-row_combination known h.is_ring.modulus (subst IsMatrix same (horizontal_matrix b h n (suc p)))
      (record { degree = d; terms = us })
      (subst (λ ds. IsVector b.ring ds (record { degree = d; terms = us })) (sym (horizontal_source b h n (suc p))) x))

  canonical : (rows : List Vector) (us : List (Term Place)) → IsCanonicalRow b.ring (row_combination b.ring rows us)
  canonical rows us = IsCanonical-row_combination b.ring h.is_ring.modulus rows us

  -- a vector of one more column: its highest column, and the others
  module _ (k : ℕ) (ts : List (Term Place)) (x : IsVector b.ring (lowest_degrees b n (suc k)) (record { degree = d; terms = ts })) where
    abbrev size : ℕ
    size = length (place b m k).target

    abbrev more : ℕ
    more = length (lowest_degrees b m k)

    abbrev us : List (Term Place)
    us = part_terms 0 (length (place b n k).target) ts

    abbrev vs : List (Term Place)
    vs = part_terms (length (place b n k).target) (length (place b n k).target + length (lowest_degrees b n k)) ts

    parts : IsVector b.ring (place b n k).target (record { degree = d; terms = us })
        × IsVector b.ring (lowest_degrees b n k) (record { degree = d; terms = vs })
    parts = let pair = vector-parts b.ring (place b n k).target (lowest_degrees b n k) d ts x in (pair.0, pair.1)

    below-within : StandsWithin more (row_combination b.ring (total_rows b n k) vs)
    below-within =
        let known : Matrix = matrix_of b.ring (lowest_degrees b m k) (total_rows b n k) in
        let t = total-spots b h n m lower k in
        let same : total_differential b.ring (spots b n k) ≡ known = λ i. record {
          ring = t.ring_of i;
          target = (t.target ∙ target-spots b h n m lower k) i;
          rows = total_rows b n k;
        } in
        StandsWithin-vector b.ring (lowest_degrees b m k) _
        (IsVector-row_combination known h.is_ring.modulus (subst IsMatrix same t.matrix)
        (record { degree = d; terms = vs })
        (subst (λ ds. IsVector b.ring ds (record { degree = d; terms = vs }))
        (sym (t.source ∙ source-spots b h n m lower k)) parts.1))

    -- the highest column of the image, and those below it, where dh of the highest column stands among the others
    highest-column : StandsWithin more (dh k us)
        → part_terms 0 size (row_combination b.ring (total_rows b n (suc k)) ts) ≡ dv k us
    highest-column left =
        ap (part_terms 0 size) (next-value b h n m lower d k ts x)
        ∙ value-before b.ring h.is_ring size more (dv k us) (dh k us) (row_combination b.ring (total_rows b n k) vs)
        (dv-within k us parts.0) left below-within (canonical _ us) (canonical _ us) (canonical (total_rows b n k) vs)

    other-columns : StandsWithin more (dh k us) → (s e : ℕ) → e ≤ more
        → part_terms (size + s) (size + e) (row_combination b.ring (total_rows b n (suc k)) ts)
        ≡ row_sum b.ring (part_terms s e (dh k us)) (part_terms s e (row_combination b.ring (total_rows b n k) vs))
    other-columns left s e small =
        ap (part_terms (size + s) (size + e)) (next-value b h n m lower d k ts x)
        ∙ value-behind b.ring h.is_ring size more (dv k us) (dh k us) (row_combination b.ring (total_rows b n k) vs)
        (dv-within k us parts.0) left below-within (canonical _ us) (canonical _ us) (canonical (total_rows b n k) vs) s e
        small

    -- the other columns of the vector
    column-rest : (p : ℕ) → p < k → column (suc k) p ts ≡ column k p vs
    column-rest p inside =
        let c = length (place b n k).target in
        let total = length-lowest b n k in
        let low = length-lowest_rises b n (suc p) k inside in
        let also_low = length-lowest_rises b n p k (omega arith) in
        let from : c + start b n k (suc p) ≡ start b n (suc k) (suc p) = omega arith in
        let to : c + start b n k p ≡ start b n (suc k) p = omega arith in
        (λ i. part_terms (sym from i) (sym to i) ts)
        ∙ sym (part_terms-part_terms b.ring c (c + length (lowest_degrees b n k)) (start b n k (suc p)) (start b n k p) ts
        (omega arith) x.canonical)

    column-highest : column (suc k) k ts ≡ us
    column-highest =
        let total = length-lowest b n k in
        let from : start b n (suc k) (suc k) ≡ 0 = omega arith in
        let to : start b n (suc k) k ≡ length (place b n k).target = omega arith in
        λ i. part_terms (from i) (to i) ts

    column-none : column (suc k) (suc k) ts ≡ []
    column-none =
        let total = length-lowest b n (suc k) in
        let from : start b n (suc k) (suc (suc k)) ≡ 0 = omega arith in
        let to : start b n (suc k) (suc k) ≡ 0 = omega arith in
        (λ i. part_terms (from i) (to i) ts) ∙ part_terms-empty ts

  -- dh of the highest column stands among the others
  left-within : (k : ℕ) (us : List (Term Place))
      → IsVector b.ring (place b n k).target (record { degree = d; terms = us })
      → StandsWithin (length (lowest_degrees b m k)) (dh k us)
  left-within zero us x =
      subst (StandsWithin 0) (sym (dh-nothing b h n m lower d us x)) tt
  left-within (suc k) us x =
      let total = length-lowest b m k in
      AllByRecursion-weaken (λ (t : Term Place). t.at.position < length (place b m k).target) _ (λ t e. omega arith)
      (dh (suc k) us) (dh-within k us x)

  -- the highest column has dv alone
  top : (k : ℕ) (ts : List (Term Place)) → IsLowest (suc k) ts → IsColumnOfImage (suc k) k ts
  top k ts x =
      let total = length-lowest b m k in
      let from : start b m (suc k) (suc k) ≡ 0 = omega arith in
      let to : start b m (suc k) k ≡ length (place b m k).target = omega arith in
      let highest = us k ts x in
      (λ i. part_terms (from i) (to i) (row_combination b.ring (total_rows b n (suc k)) ts))
      ∙ highest-column k ts x (left-within k highest (parts k ts x).0)
      ∙ sym (row_sum-nil b.ring h.is_ring.modulus (dv k highest) (canonical _ highest))
      ∙ (λ i. row_sum b.ring (dv k (sym (column-highest k ts x) i))
      (sym (ap (dh (suc k)) (column-none k ts x) ∙ no_dh (suc k)) i))

  -- what the columns of the image below the highest are
  lower-columns : (k p : ℕ) → p < suc k → (ts : List (Term Place)) (x : IsLowest (suc (suc k)) ts)
      → IsColumnOfImage (suc k) p (vs (suc k) ts x)
      → part_terms (start b m (suc (suc k)) (suc p)) (start b m (suc (suc k)) p)
      (row_combination b.ring (total_rows b n (suc (suc k))) ts)
      ≡ row_sum b.ring (part_terms (start b m (suc k) (suc p)) (start b m (suc k) p) (dh (suc k) (us (suc k) ts x)))
      (row_sum b.ring (dv p (column (suc k) p (vs (suc k) ts x))) (dh (suc p) (column (suc k) (suc p) (vs (suc k) ts x))))
  lower-columns k p inside ts x other =
      let c = length (place b m (suc k)).target in
      let total = length-lowest b m (suc k) in
      let low = length-lowest_rises b m (suc p) (suc k) inside in
      let also_low = length-lowest_rises b m p (suc k) (omega arith) in
      let from : c + start b m (suc k) (suc p) ≡ start b m (suc (suc k)) (suc p) = omega arith in
      let to : c + start b m (suc k) p ≡ start b m (suc (suc k)) p = omega arith in
      let left = dh (suc k) (us (suc k) ts x) in
      (λ i. part_terms (sym from i) (sym to i) (row_combination b.ring (total_rows b n (suc (suc k))) ts))
      ∙ other-columns (suc k) ts x (left-within (suc k) (us (suc k) ts x) (parts (suc k) ts x).0)
      (start b m (suc k) (suc p)) (start b m (suc k) p) (omega arith)
      ∙ ap (row_sum b.ring (part_terms (start b m (suc k) (suc p)) (start b m (suc k) p) left)) other

  -- the next one dh of it too
  near : (k : ℕ) (ts : List (Term Place)) → IsLowest (suc (suc k)) ts
      → ((us : List (Term Place)) → IsLowest (suc k) us → IsColumnOfImage (suc k) k us)
      → IsColumnOfImage (suc (suc k)) k ts
  near k ts x others =
      let highest = us (suc k) ts x in
      let rest = vs (suc k) ts x in
      let left = dh (suc k) highest in
      let own = dv k (column (suc k) k rest) in
      let total = length-lowest b m k in
      let from : start b m (suc k) (suc k) ≡ 0 = omega arith in
      let to : start b m (suc k) k ≡ length (place b m k).target = omega arith in
      let whole : part_terms (start b m (suc k) (suc k)) (start b m (suc k) k) left ≡ left =
      (λ i. part_terms (from i) (to i) left)
      ∙ part_terms-whole (length (place b m k).target) left (dh-within k highest (parts (suc k) ts x).0) in
      let none : dh (suc k) (column (suc k) (suc k) rest) ≡ [] =
      ap (dh (suc k)) (column-none k rest (parts (suc k) ts x).1) ∙ no_dh (suc k) in
      lower-columns k k (omega arith) ts x (others rest (parts (suc k) ts x).1)
      ∙ (λ i. row_sum b.ring (whole i) (row_sum b.ring own (none i)))
      ∙ ap (row_sum b.ring left) (row_sum-nil b.ring h.is_ring.modulus own (canonical _ (column (suc k) k rest)))
      ∙ row_sum-comm b.ring h.is_ring.modulus left own
      ∙ (λ i. row_sum b.ring (dv k (sym (column-rest (suc k) ts x k (omega arith)) i))
      (dh (suc k) (sym (column-highest (suc k) ts x) i)))

  -- and those below nothing of it
  far : (k p : ℕ) → p < k → (ts : List (Term Place)) → IsLowest (suc (suc k)) ts
      → ((us : List (Term Place)) → IsLowest (suc k) us → IsColumnOfImage (suc k) p us)
      → IsColumnOfImage (suc (suc k)) p ts
  far k p before ts x others =
      let highest = us (suc k) ts x in
      let rest = vs (suc k) ts x in
      let left = dh (suc k) highest in
      let total = length-lowest b m k in
      let low = length-lowest_rises b m (suc p) k before in
      let none : part_terms (start b m (suc k) (suc p)) (start b m (suc k) p) left ≡ [] =
      part_terms-before (start b m (suc k) (suc p)) (start b m (suc k) p) left
      (AllByRecursion-weaken (λ (t : Term Place). t.at.position < length (place b m k).target) _ (λ t e. omega arith) left
      (dh-within k highest (parts (suc k) ts x).0)) in
      let sum = row_sum b.ring (dv p (column (suc k) p rest)) (dh (suc p) (column (suc k) (suc p) rest)) in
      lower-columns k p (omega arith) ts x (others rest (parts (suc k) ts x).1)
      ∙ ap (λ us. row_sum b.ring us sum) none
      ∙ row_sum-nil_first b.ring h.is_ring.modulus sum (IsCanonical-row_sum b.ring h.is_ring.modulus _ _)
      ∙ (λ i. row_sum b.ring (dv p (sym (column-rest (suc k) ts x p (omega arith)) i))
      (dh (suc p) (sym (column-rest (suc k) ts x (suc p) (omega arith)) i)))

  pub image-columns : (k p : ℕ) → p < k → (ts : List (Term Place)) → IsLowest k ts → IsColumnOfImage k p ts
  image-columns zero p inside ts x = absurd (omega arith)
  image-columns (suc zero) p inside ts x =
      let lowest : p ≡ 0 = omega arith in
      subst (λ q. IsColumnOfImage 1 q ts) (sym lowest) (top 0 ts x)
  image-columns (suc (suc k)) p inside ts x = elim (cases_eq p (suc k)) [
    | inl highest ↦ subst (λ q. IsColumnOfImage (suc (suc k)) q ts) (sym highest) (top (suc k) ts x)
    | inr under ↦ elim (cases_eq p k) [
      | inl next ↦ subst (λ q. IsColumnOfImage (suc (suc k)) q ts) (sym next)
          (near k ts x (λ us y. image-columns (suc k) k (omega arith) us y))
      | inr below ↦ far k p (omega arith) ts x (λ us y. image-columns (suc k) p (omega arith) us y)
    ]
  ]
