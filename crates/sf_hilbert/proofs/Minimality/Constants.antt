-- Syzygies of rows whose degrees ascend, and none of which is a combination of those before it, have no constants: if a
-- term were constant, so would be the last, since no degree behind it is less. All others stand at rows before it, and
-- so its row would be a combination of these.
use Rattle.std.proofs.Common.{◌≡◌, ◌≢◌, ℕ, ◌+◌, ◌<◌, ◌≤◌, List, [], ◌∷◌, ◌++◌, length, inl, inr, append_assoc, refl, sym, ◌∙◌, ap, ap₂, subst, arith, ℤ, pos, ◌+ℤ◌}
use Rattle.std.specs.declared.cmp.Ordering.TheVariants.{Less}
use Rattle.std.specs.List.{AllByRecursion}
use Rattle.std.proofs.lemmas.Bool.{cases_lt}
use Rattle.std.proofs.lemmas.Cmp.{tied_itself}
use Rattle.std.proofs.lemmas.Int.{ints}
use Rattle.std.proofs.lemmas.List.{length-map}
use Rattle.sf_algebra.specs.Matrices.{degrees_of}
use Rattle.sf_algebra.specs.MatrixOperations.{row_at, row_combination}
use Rattle.sf_algebra.specs.Monomials.{Monomial, monomial_degree, one, product}
use Rattle.sf_algebra.specs.Multiples.{negative, term_product}
use Rattle.sf_algebra.specs.Residues.{product_mod}
use Rattle.sf_algebra.specs.Rings.{Ring, Weights, IsPositive, IsOverField}
use Rattle.sf_algebra.specs.Terms.{Term, IsDescending}
use Rattle.sf_algebra.specs.VectorOperations.{row_sum, row_multiple}
use Rattle.sf_algebra.specs.Vectors.{Place, Vector, generator_degree, place_cmp, IsCanonicalRow, IsHomogeneous, IsTermOfDegree, IsVector}
use Rattle.sf_algebra.proofs.Arithmetic.Inverses.{inverse_exists}
use Rattle.sf_algebra.proofs.Arithmetic.Residues.{product_mod-comm}
use Rattle.sf_algebra.proofs.Basics.Descending.{IsDescending-back, IsDescending-front}
use Rattle.sf_algebra.proofs.Basics.Lists.{AllByRecursion-back, AllByRecursion-front, AllByRecursion-weaken}
use Rattle.sf_algebra.proofs.Monomials.Divisors.{same_monomial}
use Rattle.sf_algebra.proofs.Monomials.Orders.{place_cmp_total}
use Rattle.sf_algebra.proofs.Monomials.Products.{product-one_first}
use Rattle.sf_algebra.proofs.Monomials.Weights.{exponent_sum-at_most, field_ring}
use Rattle.sf_algebra.proofs.Multiplying.CombinationLaws.{combination-rows}
use Rattle.sf_algebra.proofs.Multiplying.Keys.{place_keys}
use Rattle.sf_algebra.proofs.Multiplying.MultipleLaws.{one_term, multiple-add, multiple-multiple, multiple-one, multiple-same}
use Rattle.sf_algebra.proofs.Multiplying.Multiples.{IsCanonical-multiple}
use Rattle.sf_algebra.proofs.Terms.Negatives.{negative-negative}
use Rattle.sf_algebra.proofs.Terms.Totals.{total-nil}
use Rattle.sf_algebra.proofs.Vectors.Entries.{position_from_place_cmp}
use Rattle.sf_algebra.proofs.Vectors.HomogeneousVectors.{IsVector-multiple, IsVector-negative}
use Rattle.sf_algebra.proofs.Vectors.RowSums.{row_sum-comm, row_sum-nil_first}
use Rattle.sf_algebra.proofs.Vectors.Rows.{IsCanonical-row_combination, row_at-append_first, row_at-append_second, row_combination-multiple, row_combination-negative, row_combination-push}
use Rattle.sf_groebner.specs.MinimalGenerators.{IsInSum}
use Rattle.sf_groebner.specs.Presentations.{IsZero}
use Rattle.sf_groebner.proofs.Uniqueness.Differences.{add-negative_same}
use Rattle.sf_hilbert.proofs.Minimality.Generators.{IsAscending, IsIndependent, IsIndependent-split, IsSplit, generator_degree-ascending, generator_degree-front, generator_degree-row, split}

-- a monomial of degree 0 is 1
one-degree : (weights : Weights) → IsPositive weights → (a : Monomial) → monomial_degree weights a ≤ 0 → a ≡ one
one-degree weights positive a h =
    let small = exponent_sum-at_most weights positive a in
    same_monomial a one (omega (arith, small)) (omega (arith, small)) (omega (arith, small)) (omega (arith, small))
    (omega (arith, small)) (omega (arith, small))

degree-one : (weights : Weights) (a : Monomial) → a ≡ one → monomial_degree weights a ≡ 0
degree-one weights a e = ap (monomial_degree weights) e ∙ nothing
  where
    nothing : monomial_degree weights one ≡ 0
    nothing = omega arith

-- each term of a descending list is greater than one behind all
below_each : (weights : Weights) (front : List (Term Place)) (t : Term Place)
    → IsDescending (place_cmp weights) (front ++ t ∷ [])
    → AllByRecursion (λ (u : Term Place). place_cmp weights t.at u.at ≡ Less) front
below_each weights [] t h = tt
below_each weights (u ∷ us) t h = (
  (AllByRecursion-back (λ (w : Term Place). place_cmp weights w.at u.at ≡ Less) us (t ∷ []) h.0).0,
  below_each weights us t h.1,
)

module _ (ring : Ring) (field : IsOverField ring) (rows : List Vector)
    (canonical : AllByRecursion (λ (v : Vector). IsCanonicalRow ring v.terms) rows) (ascending : IsAscending rows)
    (independent : IsIndependent ring [] rows) where
  positive : 0 < ring.modulus
  positive = (field_ring field).modulus

  -- behind a constant the terms are constant
  next_constant : (d : ℤ) (t u : Term Place) → IsTermOfDegree ring.weights (degrees_of rows) d t
      → IsTermOfDegree ring.weights (degrees_of rows) d u → place_cmp ring.weights u.at t.at ≡ Less
      → t.at.monomial ≡ one → u.at.monomial ≡ one
  next_constant d t u h k less constant =
      let within : u.at.position < length rows = subst (λ n. u.at.position < n) (length-map rows (λ (v : Vector). v.degree)) k.0 in
      one-degree ring.weights field.weights u.at.monomial (omega (
        arith,
        ints,
        h.1,
        k.1,
        degree-one ring.weights t.at.monomial constant,
        generator_degree-ascending rows ascending t.at.position u.at.position
            (position_from_place_cmp ring.weights u.at t.at less) within,
      ))

  -- a constant behind all terms stands at a later row than they do
  before_constant : (d : ℤ) (t u : Term Place) → IsTermOfDegree ring.weights (degrees_of rows) d t
      → IsTermOfDegree ring.weights (degrees_of rows) d u → place_cmp ring.weights t.at u.at ≡ Less
      → t.at.monomial ≡ one → u.at.position < t.at.position
  before_constant d t u h k less constant = elim (cases_lt u.at.position t.at.position) [
    | inl before ↦ before
    | inr after ↦
        let same : u.at.position ≡ t.at.position = omega (arith, position_from_place_cmp ring.weights t.at u.at less) in
        let degrees = ap (generator_degree (degrees_of rows)) same in
        let monomial : u.at.monomial ≡ one =
        one-degree ring.weights field.weights u.at.monomial (omega (
          arith,
          ints,
          h.1,
          k.1,
          degrees,
          degree-one ring.weights t.at.monomial constant,
        )) in
        let places : u.at ≡ t.at = λ i. record { position = same i; monomial = (monomial ∙ sym constant) i } in
        absurd (irreflexive t.at (ap (place_cmp ring.weights t.at) (sym places) ∙ less))
  ]
    where
      irreflexive : (k : Place) → place_cmp ring.weights k k ≡ Less → ⊥
      irreflexive k e = let tied = tied_itself (place_cmp_total ring.weights) k in cc

  module _ (d : ℤ) (front : List (Term Place)) (t : Term Place)
      (vector : IsVector ring (degrees_of rows) (record { degree = d; terms = front ++ t ∷ [] }))
      (nil : row_combination ring rows (front ++ t ∷ []) ≡ []) (constant : t.at.monomial ≡ one) where
    each : AllByRecursion (IsTermOfDegree ring.weights (degrees_of rows) d) front
    each = AllByRecursion-front (IsTermOfDegree ring.weights (degrees_of rows) d) front (t ∷ []) vector.homogeneous

    last : IsTermOfDegree ring.weights (degrees_of rows) d t
    last = (AllByRecursion-back (IsTermOfDegree ring.weights (degrees_of rows) d) front (t ∷ []) vector.homogeneous).0

    within : t.at.position < length rows
    within = subst (λ n. t.at.position < n) (length-map rows (λ (v : Vector). v.degree)) last.0

    parts : IsSplit rows t.at.position
    parts = split rows t.at.position within

    before : AllByRecursion (λ (u : Term Place). u.at.position < length parts.front) front
    before =
        earlier front (below_each ring.weights front t vector.canonical.descending) each
      where
        earlier : (us : List (Term Place)) → AllByRecursion (λ (u : Term Place). place_cmp ring.weights t.at u.at ≡ Less) us
            → AllByRecursion (IsTermOfDegree ring.weights (degrees_of rows) d) us
            → AllByRecursion (λ (u : Term Place). u.at.position < length parts.front) us
        earlier [] h k = tt
        earlier (u ∷ us) h k = (
          subst (λ n. u.at.position < n) (sym parts.size) (before_constant d t u last k.0 h.0 constant),
          earlier us h.1 k.1,
        )

    -- the others are coefficients for the rows before
    vector_before : IsVector ring (degrees_of parts.front) (record { degree = d; terms = front })
    vector_before = record {
      canonical = record {
        descending = IsDescending-front (place_cmp ring.weights) front (t ∷ []) vector.canonical.descending;
        residues = AllByRecursion-front _ front (t ∷ []) vector.canonical.residues;
      };
      homogeneous = moved front before each;
    }
      where
        moved : (us : List (Term Place)) → AllByRecursion (λ (u : Term Place). u.at.position < length parts.front) us
            → AllByRecursion (IsTermOfDegree ring.weights (degrees_of rows) d) us
            → IsHomogeneous ring.weights (degrees_of parts.front) d us
        moved [] h k = tt
        moved (u ∷ us) h k = (
          (
            subst (λ n. u.at.position < n) (sym (length-map parts.front (λ (v : Vector). v.degree))) h.0,
            k.0.1 ∙ ap (λ e. e +ℤ pos (monomial_degree ring.weights u.at.monomial))
                (ap (λ vs. generator_degree (degrees_of vs) u.at.position) parts.whole
                ∙ generator_degree-front parts.front (parts.row ∷ parts.more) u.at.position h.0),
          ),
          moved us h.1 k.1,
        )

    combination_before : row_combination ring rows front ≡ row_combination ring parts.front front
    combination_before =
        combination-rows (place_keys ring.weights) ring.modulus positive (λ k. k.monomial)
        (λ k. row_at rows k.position) (λ k. row_at parts.front k.position) front
        (AllByRecursion-weaken _ _ (λ u h.
        ap (λ vs. row_at vs u.at.position) parts.whole
        ∙ row_at-append_first parts.front (parts.row ∷ parts.more) u.at.position h) front before)

    -- the row of the constant
    row_there : row_at rows t.at.position ≡ parts.row.terms
    row_there =
        ap (row_at rows) (sym (omega (arith, parts.size)))
        ∙ ap (λ vs. row_at vs (length parts.front + 0)) parts.whole
        ∙ row_at-append_second parts.front (parts.row ∷ parts.more) 0

    row_canonical : IsCanonicalRow ring parts.row.terms
    row_canonical =
        (AllByRecursion-back (λ (v : Vector). IsCanonicalRow ring v.terms) parts.front (parts.row ∷ parts.more)
        (subst (AllByRecursion (λ (v : Vector). IsCanonicalRow ring v.terms)) parts.whole canonical)).0

    residue : (0 < t.coefficient) × (t.coefficient < ring.modulus)
    residue = (AllByRecursion-back _ front (t ∷ []) vector.canonical.residues).0

    inverse : (b : ℕ) × (b < ring.modulus) × (product_mod ring.modulus t.coefficient b ≡ 1)
    inverse = inverse_exists ring.modulus field.prime t.coefficient residue.0 residue.1

    -- the inverse of the constant
    abbrev factor : Term Monomial
    factor = record { at = one; coefficient = inverse.0 }

    abbrev others : List (Term Place)
    others = row_multiple ring factor front

    others_canonical : IsCanonicalRow ring others
    others_canonical = IsCanonical-multiple (place_keys ring.weights) ring.modulus positive factor front

    -- with the others times it the row is 0
    sum_zero : row_sum ring (row_combination ring parts.front others) parts.row.terms ≡ []
    sum_zero =
        ap₂ (row_sum ring)
        (row_combination-multiple ring positive parts.front factor front
        ∙ ap (row_multiple ring factor) (sym combination_before))
        (sym (multiple-one (place_keys ring.weights) ring.modulus positive parts.row.terms row_canonical)
        ∙ ap (λ s. row_multiple ring s parts.row.terms) (sym unit)
        ∙ sym (multiple-multiple (place_keys ring.weights) ring.modulus positive factor
        (record { at = t.at.monomial; coefficient = t.coefficient }) parts.row.terms)
        ∙ ap (λ us. row_multiple ring factor (row_multiple ring
        (record { at = t.at.monomial; coefficient = t.coefficient }) us)) (sym row_there))
        ∙ sym (multiple-add (place_keys ring.weights) ring.modulus positive factor (row_combination ring rows front)
        (row_multiple ring (record { at = t.at.monomial; coefficient = t.coefficient })
        (row_at rows t.at.position)))
        ∙ ap (row_multiple ring factor) (sym (row_combination-push ring positive rows front t) ∙ nil)
        ∙ multiple-nil
      where
        unit : term_product product ring.modulus factor (record { at = t.at.monomial; coefficient = t.coefficient })
            ≡ one_term
        unit = λ i. record {
          at = (product-one_first t.at.monomial ∙ constant) i;
          coefficient = (product_mod-comm ring.modulus inverse.0 t.coefficient ∙ inverse.2) i;
        }

        multiple-nil : row_multiple ring factor [] ≡ []
        multiple-nil = multiple-same (place_keys ring.weights) ring.modulus positive factor [] []
            (record { descending = tt; residues = tt }) (λ g additive. total-nil ring.modulus _ ∙ sym (total-nil ring.modulus g))

    -- so the row is a combination of those before it
    row_combined : parts.row.terms ≡ row_combination ring parts.front (negative ring.modulus others)
    row_combined =
        add-negative_same (place_keys ring.weights) ring.modulus positive parts.row.terms
        (row_combination ring parts.front (negative ring.modulus others)) row_canonical
        (IsCanonical-row_combination ring positive parts.front (negative ring.modulus others))
        (ap (λ us. row_sum ring parts.row.terms (negative ring.modulus us))
        (row_combination-negative ring positive parts.front others others_canonical)
        ∙ ap (row_sum ring parts.row.terms)
        (negative-negative (place_cmp ring.weights) ring.modulus (row_combination ring parts.front others)
        (IsCanonical-row_combination ring positive parts.front others).residues)
        ∙ row_sum-comm ring positive parts.row.terms (row_combination ring parts.front others)
        ∙ sum_zero)

    -- its degree is d
    row_degree : d ≡ parts.row.degree
    row_degree =
        let there = ap (λ vs. generator_degree (degrees_of vs) t.at.position) parts.whole
        ∙ ap (generator_degree (degrees_of (parts.front ++ parts.row ∷ parts.more))) (sym parts.size)
        ∙ generator_degree-row parts.front parts.row parts.more in
        omega (arith, ints, last.1, degree-one ring.weights t.at.monomial constant, there)

    others_vector : IsVector ring (degrees_of parts.front)
        (record { degree = parts.row.degree; terms = negative ring.modulus others })
    others_vector =
        IsVector-negative ring (degrees_of parts.front) parts.row.degree others
        (subst (λ e. IsVector ring (degrees_of parts.front) (record { degree = e; terms = others }))
        (omega (arith, ints, row_degree, degree-one ring.weights one refl))
        (IsVector-multiple ring (degrees_of parts.front) positive d factor front vector_before))

    in_sum : IsInSum ring parts.front IsZero parts.row
    in_sum = record {
      first = record { degree = parts.row.degree; terms = [] };
      second = record {
        degree = parts.row.degree;
        terms = row_combination ring parts.front (negative ring.modulus others);
      };
      in_module = refl;
      in_span = record {
        coefficients = record { degree = parts.row.degree; terms = negative ring.modulus others };
        homogeneous = others_vector;
        value = refl;
      };
      first_degree = refl;
      second_degree = refl;
      sum = row_sum-nil_first ring positive _
          (IsCanonical-row_combination ring positive parts.front (negative ring.modulus others))
          ∙ sym row_combined;
    }

    not_constant : ⊥
    not_constant =
        IsIndependent-split ring [] parts.front parts.row parts.more
        (subst (IsIndependent ring []) parts.whole independent) in_sum

  no_constants : (d : ℤ) (front c : List (Term Place))
      → IsVector ring (degrees_of rows) (record { degree = d; terms = front ++ c })
      → row_combination ring rows (front ++ c) ≡ []
      → AllByRecursion (λ (t : Term Place). t.at.monomial ≢ one) c
  no_constants d front [] vector nil = tt
  no_constants d front (t ∷ []) vector nil = (not_constant d front t vector nil, tt)
  no_constants d front (t ∷ u ∷ us) vector nil =
      let each = AllByRecursion-back (IsTermOfDegree ring.weights (degrees_of rows) d) front (t ∷ u ∷ us)
      vector.homogeneous in
      let descending = IsDescending-back (place_cmp ring.weights) front (t ∷ u ∷ us) vector.canonical.descending in
      let rest = no_constants d (front ++ t ∷ []) (u ∷ us)
      (subst (λ ts. IsVector ring (degrees_of rows) (record { degree = d; terms = ts }))
      (sym (append_assoc front (t ∷ []) (u ∷ us))) vector)
      (ap (row_combination ring rows) (append_assoc front (t ∷ []) (u ∷ us)) ∙ nil) in
      ((λ constant. rest.0 (next_constant d t u each.0 each.1.0 descending.0.0 constant)), rest)

  -- a syzygy of the rows has no constant term
  pub syzygies_without_constants : (d : ℤ) (c : List (Term Place))
      → IsVector ring (degrees_of rows) (record { degree = d; terms = c }) → row_combination ring rows c ≡ []
      → AllByRecursion (λ (t : Term Place). t.at.monomial ≢ one) c
  syzygies_without_constants d c vector nil = no_constants d [] c vector nil
