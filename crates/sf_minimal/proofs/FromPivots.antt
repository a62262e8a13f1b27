-- A row for which there is a pivot is in the span of the other matrix and the earlier rows.
use Rattle.std.proofs.Common.{◌≡◌, ⊎_elim, ℕ, ◌+◌, ◌-◌, ◌<◌, ◌≤◌, List, [], ◌∷◌, ◌++◌, length, take, refl, sym, ◌∙◌, ap, subst, arith, ℤ}
use Rattle.std.proofs.lemmas.Bool.{cases_lt}
use Rattle.std.proofs.lemmas.Int.{ints}
use Rattle.std.proofs.lemmas.List.{length-take-le}
use Rattle.std.proofs.lemmas.List.Elements.{filter-append}
use Rattle.std.specs.List.{AllByRecursion}
use Rattle.sf_algebra.specs.DegreeParts.{degree_part, has_degree}
use Rattle.sf_algebra.specs.Matrices.{Matrix, IsMatrix, degrees_of}
use Rattle.sf_algebra.specs.MatrixOperations.{moved, row_at, row_combination}
use Rattle.sf_algebra.specs.Residues.{negative_mod}
use Rattle.sf_algebra.specs.Rings.{IsRing, Ring}
use Rattle.sf_algebra.specs.Terms.{Term}
use Rattle.sf_algebra.specs.VectorOperations.{row_sum}
use Rattle.sf_algebra.specs.Vectors.{IsHomogeneous, IsTermOfDegree, IsVector, IsCanonicalRow, Place, Vector, place_cmp}
use Rattle.sf_algebra.proofs.Basics.Filters.{AllByRecursion-filter_keeps}
use Rattle.sf_algebra.proofs.Basics.Lists.{AllByRecursion-append, AllByRecursion-weaken}
use Rattle.sf_algebra.proofs.GradedMatrices.MatrixRows.{row_at-take}
use Rattle.sf_algebra.proofs.GradedMatrices.Ranges.{AllByRecursion-take}
use Rattle.sf_algebra.proofs.Monomials.Orders.{place_cmp_linear}
use Rattle.sf_algebra.proofs.Monomials.Weights.{exponent_sum-at_most}
use Rattle.sf_algebra.proofs.Terms.Sums.{normal-canonical}
use Rattle.sf_algebra.proofs.Vectors.DegreeParts.{IsHomogeneous-degree_part, row_combination-degree_part}
use Rattle.sf_algebra.proofs.Vectors.Degrees.{HasHomogeneousRows, IsHomogeneous-row_combination}
use Rattle.sf_algebra.proofs.Vectors.HomogeneousVectors.{HasHomogeneousRows-from_IsMatrix}
use Rattle.sf_algebra.proofs.Vectors.RowSums.{row_sum-comm}
use Rattle.sf_algebra.proofs.Vectors.Rows.{IsCanonical-row_combination, row_at-append_first, row_at-append_second, row_at-past, row_combination-append}
use Rattle.sf_algebra.proofs.Vectors.StackedRows.{row_combination-stacked}
use Rattle.sf_algebra.proofs.Vectors.UnitRows.{row_combination-unit, unit_term}
use Rattle.sf_groebner.specs.MinimalGenerators.{IsInSum, matrix_of}
use Rattle.sf_groebner.specs.ReducedBases.{IsSorted}
use Rattle.sf_groebner.specs.Spans.{InSpan}
use Rattle.sf_groebner.proofs.Basics.Items.{AllByRecursion-both}
use Rattle.sf_groebner.proofs.PairTheorems.Kernels.{row_combination-SameTotals}
use Rattle.sf_groebner.proofs.PairTheorems.Multiplied.{EachPlace-constant}
use Rattle.sf_groebner.proofs.PairTheorems.PairDegrees.{HasPlaceOfDegree}
use Rattle.sf_groebner.proofs.PairTheorems.Schreyer.{IsSpanned, IsSpanned-module, IsSpanned-row}
use Rattle.sf_groebner.proofs.PairTheorems.SyzygySpans.{InSpan-IsSpanned}
use Rattle.sf_matrix.specs.KeptNumbers.{vector_at}
use Rattle.sf_minimal.specs.Constants.{StandWithin}
use Rattle.sf_minimal.proofs.ConstantParts.{IsRelation}
use Rattle.sf_minimal.proofs.ConstantTerms.{IsNotConstant}
use Rattle.sf_minimal.proofs.Differences.{SameTotals-plus, minus}
use Rattle.sf_minimal.proofs.Modules.{has_chosen_combination}
use Rattle.sf_minimal.proofs.VectorRows.{AllByRecursion-vector_at, degree-vector_at, degrees-rise, generator_degree-append, row_at-vector_at}

module _ (m base : Matrix) (positive : IsRing m.ring) (matrix : IsMatrix m) (base_matrix : IsMatrix base)
    (rings : base.ring ≡ m.ring) (targets : base.target ≡ m.target) (sorted : IsSorted m.ring.weights m.rows)
    (i : ℕ) (within : i < length m.rows) where
  abbrev n : ℕ
  n = length m.rows

  abbrev v : Vector
  v = vector_at m.rows i

  -- the rows of both matrices
  abbrev full : List Vector
  full = m.rows ++ base.rows

  base_rows : AllByRecursion (IsVector m.ring m.target) base.rows
  base_rows =
      subst (λ (r : Ring). AllByRecursion (IsVector r m.target) base.rows) rings
      (subst (λ (t : List ℤ). AllByRecursion (IsVector base.ring t) base.rows) targets base_matrix)

  homogeneous : HasHomogeneousRows m.ring.weights m.target full
  homogeneous =
      HasHomogeneousRows-from_IsMatrix (matrix_of m.ring m.target full)
      (AllByRecursion-append (IsVector m.ring m.target) m.rows base.rows matrix base_rows)

  vector : IsVector m.ring m.target v
  vector = AllByRecursion-vector_at (IsVector m.ring m.target) m.rows matrix i within

  -- at a place of its degree a coefficient stands for an earlier row
  abbrev pub IsBefore : Place → Type 0
  IsBefore k = HasPlaceOfDegree m.ring.weights (degrees_of full) v.degree k → k.position < i

  pub not_constant-before : (t : Term Place) → IsNotConstant t → t.at.position < n → IsBefore t.at
  not_constant-before t h inside k =
      ⊎_elim (λ (earlier : t.at.position < i). earlier)
      (λ (later : i ≤ t.at.position).
      let own = degree-vector_at m.rows i within in
      let rises = degrees-rise m.ring.weights m.rows sorted i t.at.position later inside in
      let there = generator_degree-append m.rows base.rows t.at.position inside in
      let least = exponent_sum-at_most m.ring.weights positive.weights t.at.monomial in
      let degree = k.1 in
      absurd (omega (arith, ints, own, rises, there, least, degree, h)))
      (cases_lt t.at.position i)

  -- a relation that begins with the row, and whose other terms of its degree stand for earlier rows
  module _ (c : List (Term Place)) (stands : StandWithin n c) (before : AllByRecursion (λ (t : Term Place). IsBefore t.at) c)
      (relation : IsRelation m positive base.rows (unit_term i ∷ c)) where
    abbrev a : List (Term Place)
    a = relation.coefficients

    abbrev away : List (Term Place)
    away = minus m.ring positive c

    away_stands : StandWithin n away
    away_stands = EachPlace-constant (λ k. k.position < n) m.ring.modulus (negative_mod m.ring.modulus 1) c stands

    away_before : AllByRecursion (λ (t : Term Place). IsBefore t.at) away
    away_before = EachPlace-constant IsBefore m.ring.modulus (negative_mod m.ring.modulus 1) c before

    abbrev all : List (Term Place)
    all = away ++ moved n a

    value : row_combination m.ring full all ≡ v.terms
    value =
        row_combination-stacked m.ring positive.modulus m.rows base.rows away a away_stands
        ∙ row_sum-comm m.ring positive.modulus (row_combination m.ring m.rows away) (row_combination m.ring base.rows a)
        ∙ ap (λ us. row_sum m.ring us (row_combination m.ring m.rows away))
        (relation.value ∙ normal-canonical (place_cmp m.ring.weights) (place_cmp_linear m.ring.weights) m.ring.modulus positive.modulus _ (IsCanonical-row_combination m.ring positive.modulus m.rows (unit_term i ∷ c)))
        ∙ sym (row_combination-append m.ring positive.modulus m.rows (unit_term i ∷ c) away)
        ∙ row_combination-SameTotals m.ring positive m.rows (SameTotals-plus m.ring positive (unit_term i ∷ []) c)
        ∙ row_combination-unit m.ring positive.modulus m.rows i (subst (IsCanonicalRow m.ring) (sym (row_at-vector_at m.rows i)) vector.canonical)
        ∙ row_at-vector_at m.rows i

    abbrev x : List (Term Place)
    x = degree_part m.ring.weights (degrees_of full) v.degree away

    abbrev z : List (Term Place)
    z = degree_part m.ring.weights (degrees_of full) v.degree (moved n a)

    sum : row_sum m.ring (row_combination m.ring full z) (row_combination m.ring full x) ≡ v.terms
    sum =
        row_sum-comm m.ring positive.modulus (row_combination m.ring full z) (row_combination m.ring full x)
        ∙ sym (row_combination-append m.ring positive.modulus full x z)
        ∙ ap (row_combination m.ring full) (sym (filter-append (has_degree m.ring.weights (degrees_of full) v.degree) away (moved n a)))
        ∙ row_combination-degree_part m.target v.degree m.ring full homogeneous positive.modulus all
        (subst (IsHomogeneous m.ring.weights m.target v.degree) (sym value) vector.homogeneous)
        ∙ value

    -- a combination of degree v.degree, as a vector
    combined_vector : (y : List (Term Place)) → IsHomogeneous m.ring.weights (degrees_of full) v.degree y
        → IsVector m.ring m.target (record { degree = v.degree; terms = row_combination m.ring full y })
    combined_vector y h = record {
      canonical = IsCanonical-row_combination m.ring positive.modulus full y;
      homogeneous = IsHomogeneous-row_combination m.target m.ring full homogeneous v.degree y h;
    }

    x_vector : IsVector m.ring m.target (record { degree = v.degree; terms = row_combination m.ring full x })
    x_vector = combined_vector x (IsHomogeneous-degree_part m.ring.weights (degrees_of full) v.degree away)

    z_vector : IsVector m.ring m.target (record { degree = v.degree; terms = row_combination m.ring full z })
    z_vector = combined_vector z (IsHomogeneous-degree_part m.ring.weights (degrees_of full) v.degree (moved n a))

    x_before : AllByRecursion (λ (t : Term Place). t.at.position < i) x
    x_before =
        AllByRecursion-both (λ (t : Term Place). IsBefore t.at) (IsTermOfDegree m.ring.weights (degrees_of full) v.degree)
        (λ (t : Term Place). t.at.position < i) (λ t f k. f k) x
        (AllByRecursion-filter_keeps (λ (t : Term Place). IsBefore t.at) (has_degree m.ring.weights (degrees_of full) v.degree) away away_before)
        (IsHomogeneous-degree_part m.ring.weights (degrees_of full) v.degree away)

    earlier_row : (j : ℕ) → j < i → IsSpanned m.ring (take i m.rows) (row_at full j)
    earlier_row j h =
        let size : length (take i m.rows) ≡ i = length-take-le i m.rows (omega arith) in
        subst (IsSpanned m.ring (take i m.rows))
        (row_at-take i m.rows j h ∙ sym (row_at-append_first m.rows base.rows j (omega arith)))
        (IsSpanned-row m.ring positive (take i m.rows) j (omega (arith, size, h)))

    base_row : (j : ℕ) → IsSpanned m.ring base.rows (row_at base.rows j)
    base_row j =
        ⊎_elim (λ (inside : j < length base.rows). IsSpanned-row m.ring positive base.rows j inside)
        (λ (past : length base.rows ≤ j).
        subst (IsSpanned m.ring base.rows) (sym (row_at-past base.rows j past)) (IsSpanned-module m.ring positive base.rows).has_none)
        (cases_lt j (length base.rows))

    later_row : (j : ℕ) → n ≤ j → IsSpanned m.ring base.rows (row_at full j)
    later_row j h =
        let whole : length m.rows + (j - n) ≡ j = omega (arith, h) in
        subst (IsSpanned m.ring base.rows)
        (sym (row_at-append_second m.rows base.rows (j - n)) ∙ ap (row_at full) whole) (base_row (j - n))

    z_later : AllByRecursion (λ (t : Term Place). n ≤ t.at.position) z
    z_later =
        AllByRecursion-filter_keeps (λ (t : Term Place). n ≤ t.at.position)
        (has_degree m.ring.weights (degrees_of full) v.degree) (moved n a) (past a)
      where
        past : (us : List (Term Place)) → AllByRecursion (λ (t : Term Place). n ≤ t.at.position) (moved n us)
        past [] = tt
        past (u ∷ us) = (omega arith, past us)

    pub relation-in_sum : IsInSum m.ring (take i m.rows) (InSpan base) v
    relation-in_sum =
        let first : Vector = record { degree = v.degree; terms = row_combination m.ring full z } in
        let second : Vector = record { degree = v.degree; terms = row_combination m.ring full x } in
        record {
          first = first;
          second = second;
          in_module =
              InSpan-IsSpanned base (subst IsRing (sym rings) positive) base_matrix first
              (subst (λ (r : Ring). IsVector r base.target first) (sym rings) (subst (λ t. IsVector m.ring t first) (sym targets) z_vector))
              (subst (λ (r : Ring). IsSpanned r base.rows first.terms) (sym rings)
              (has_chosen_combination m.ring positive (IsSpanned m.ring base.rows) (IsSpanned-module m.ring positive base.rows) full z
              (AllByRecursion-weaken _ _ (λ t k. later_row t.at.position k) z z_later)));
          in_span =
              InSpan-IsSpanned (matrix_of m.ring m.target (take i m.rows)) positive
              (AllByRecursion-take (IsVector m.ring m.target) i m.rows matrix) second x_vector
              (has_chosen_combination m.ring positive (IsSpanned m.ring (take i m.rows)) (IsSpanned-module m.ring positive (take i m.rows)) full x
              (AllByRecursion-weaken _ _ (λ t k. earlier_row t.at.position k) x x_before));
          first_degree = refl;
          second_degree = refl;
          sum = sum;
        }
