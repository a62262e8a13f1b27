-- Rows that were placed are vectors over the generators.
use Rattle.std.proofs.Common.{◌≡◌, ℕ, ◌+◌, ◌<◌, ◌==◌, zero, suc, ◌||◌, nat_eq, ap, Bool, true, false, List, [], ◌∷◌, Some, None, length, map, refl, sym, ◌∙◌, inl, inr, arith, eqb-true, zero-add, ℤ}
use Rattle.std.specs.List.{AllByRecursion}
use Rattle.std.specs.Prelude.{IsTrue}
use Rattle.std.proofs.lemmas.Bool.{and_parts, cases_Bool}
use Rattle.sf_algebra.specs.Matrices.{degrees_of}
use Rattle.sf_algebra.specs.Rings.{plain, ones, IsOverField}
use Rattle.sf_algebra.specs.Sums.{normal}
use Rattle.sf_algebra.specs.Vectors.{place_cmp, IsVector}
use Rattle.sf_algebra.proofs.Monomials.Weights.{field_ring}
use Rattle.sf_algebra.proofs.Multiplying.Keys.{place_keys}
use Rattle.sf_algebra.proofs.Terms.Normal.{IsCanonical-normal}
use Rattle.sf_field.specs.Moduli.{is_modulus}
use Rattle.sf_field.proofs.Moduli.{modulus_prime}
use Rattle.sf_text.specs.Placed.{first_fault, first_row, has_shape, has_size, is_homogeneous, is_single_row, placed_terms, row_vector, row_of_degree, rows_of_degrees, row_at}
use Rattle.sf_text.specs.Raw.{RawTerm}
use Rattle.sf_text.specs.declared.ring.Ring.{Ring}
use Rattle.sf_text.proofs.PlacedRows.{IsVector-tested, placed_terms-columns}

module _ (ring : Ring) (listed : IsTrue (is_modulus ring.modulus)) where
  pub over_field : IsOverField (plain ring.modulus)
  over_field = record {
    prime = modulus_prime ring.modulus listed;
    weights = record { first = omega arith; second = omega arith; third = omega arith; fourth = omega arith; fifth = omega arith; sixth = omega arith };
  }

  -- a homogeneous row with an entry for each column
  placed_row : (degrees : List ℤ) (entries : List (List RawTerm)) → length entries ≡ length degrees
      → is_homogeneous degrees (row_vector ring degrees entries) ≡ true
      → IsVector (plain ring.modulus) degrees (row_vector ring degrees entries)
  placed_row degrees entries shape tested =
      let ts = placed_terms ring 0 entries in
      IsVector-tested ring.modulus degrees (row_vector ring degrees entries).degree ts (normal (place_cmp ones) ring.modulus ts)
      refl
      (IsCanonical-normal (place_cmp ones) (place_keys ones).order ring.modulus (field_ring over_field).modulus ts)
      (placed_terms-columns ring 0 (length degrees) entries (zero-add _ ∙ shape)) tested

  -- rows among which none is the first that isn't homogeneous
  pub placed_rows : (i : ℕ) (degrees : List ℤ) (rows : List (List (List RawTerm))) → has_shape (length degrees) rows ≡ true
      → first_fault i degrees (map (row_vector ring degrees) rows) ≡ None
      → AllByRecursion (IsVector (plain ring.modulus) degrees) (map (row_vector ring degrees) rows)
  placed_rows i degrees [] shape none = tt
  placed_rows i degrees (row ∷ rows) shape none =
      let both = and_parts (length row == length degrees) (has_shape (length degrees) rows) shape in
      elim (cases_Bool (is_homogeneous degrees (row_vector ring degrees row))) [
        | inl tested ↦ (
          placed_row degrees row (eqb-true (length row) (length degrees) both.0) tested,
          placed_rows (i + 1) degrees rows both.1 (rw tested at none),
        )
        | inr fault ↦ absurd (some_fault i (rw fault at none))
      ]
    where
      some_fault : (n : ℕ) → Some n ≡ None → ⊥
      some_fault n e = cc

  single_row-length : (columns : ℕ) (rows : List (List (List RawTerm))) → is_single_row columns rows ≡ true
      → length (first_row rows) ≡ columns
  single_row-length columns [] e = sym (eqb-true columns 0 e)
  single_row-length columns (row ∷ []) e = eqb-true (length row) columns e
  single_row-length columns (row ∷ other ∷ rows) e = cc

  -- a vector that a matrix of one row writes
  pub placed_single : (degrees : List ℤ) (rows : List (List (List RawTerm))) → is_single_row (length degrees) rows ≡ true
      → is_homogeneous degrees (row_vector ring degrees (first_row rows)) ≡ true
      → IsVector (plain ring.modulus) degrees (row_vector ring degrees (first_row rows))
  placed_single degrees rows shape tested =
      placed_row degrees (first_row rows) (single_row-length (length degrees) rows shape) tested

  -- a row of a given degree
  row_of : (target : List ℤ) (degree : ℤ) (entries : List (List RawTerm)) → length entries ≡ length target
      → is_homogeneous target (row_of_degree ring degree entries) ≡ true
      → IsVector (plain ring.modulus) target (row_of_degree ring degree entries)
  row_of target degree entries shape tested =
      let ts = placed_terms ring 0 entries in
      IsVector-tested ring.modulus target degree ts (normal (place_cmp ones) ring.modulus ts) refl
      (IsCanonical-normal (place_cmp ones) (place_keys ones).order ring.modulus (field_ring over_field).modulus ts)
      (placed_terms-columns ring 0 (length target) entries (zero-add _ ∙ shape)) tested

  -- rows of given degrees, each with an entry for each column
  pub placed_between : (rows : List (List (List RawTerm))) (target : List ℤ) (k i : ℕ) (degrees : List ℤ)
      → ((j : ℕ) → j < i + length degrees → length (row_at rows j) ≡ length target)
      → first_fault k target (rows_of_degrees ring rows i degrees) ≡ None
      → AllByRecursion (IsVector (plain ring.modulus) target) (rows_of_degrees ring rows i degrees)
  placed_between rows target k i [] shape none = tt
  placed_between rows target k i (d ∷ ds) shape none =
      elim (cases_Bool (is_homogeneous target (row_of_degree ring d (row_at rows i)))) [
        | inl tested ↦ (
          row_of target d (row_at rows i) (shape i (omega arith)) tested,
          placed_between rows target (k + 1) (i + 1) ds (λ j less. shape j (omega (arith, less))) (rw tested at none),
        )
        | inr fault ↦ absurd (some_fault k (rw fault at none))
      ]
    where
      some_fault : (n : ℕ) → Some n ≡ None → ⊥
      some_fault n e = cc

-- a matrix of this size has an entry for each column in each row, also in one that isn't written
pub size-entries : (count columns : ℕ) (rows : List (List (List RawTerm))) → has_size count columns rows ≡ true
    → (j : ℕ) → j < count → length (row_at rows j) ≡ columns
size-entries count columns [] e j less = empty (nat_eq count 0) (nat_eq columns 0) refl refl e
  where
    empty : (a b : Bool) → nat_eq count 0 ≡ a → nat_eq columns 0 ≡ b → (a || b) ≡ true → 0 ≡ columns
    empty a true f g h = sym (eqb-true columns 0 g)
    empty true false f g h = let none = eqb-true count 0 f in absurd (omega (arith, none, less))
    empty false false f g h = cc
size-entries count columns (row ∷ rows) e j less =
    let both = and_parts (length (row ∷ rows) == count) (has_shape columns (row ∷ rows)) e in
    let size = eqb-true (length (row ∷ rows)) count both.0 in
    shaped (row ∷ rows) j (omega (arith, size, less)) both.1
  where
    shaped : (rs : List (List (List RawTerm))) (k : ℕ) → k < length rs → has_shape columns rs ≡ true
        → length (row_at rs k) ≡ columns
    shaped [] k below f = absurd (omega (arith, below))
    shaped (r ∷ rs) zero below f = eqb-true (length r) columns (and_parts (length r == columns) (has_shape columns rs) f).0
    shaped (r ∷ rs) (suc k) below f =
        shaped rs k (omega (arith, below)) (and_parts (length r == columns) (has_shape columns rs) f).1

-- the rows have the degrees that they were given
pub degrees_given : (ring : Ring) (rows : List (List (List RawTerm))) (i : ℕ) (degrees : List ℤ)
    → degrees_of (rows_of_degrees ring rows i degrees) ≡ degrees
degrees_given ring rows i [] = refl
degrees_given ring rows i (d ∷ ds) = ap (λ es. d ∷ es) (degrees_given ring rows (i + 1) ds)
