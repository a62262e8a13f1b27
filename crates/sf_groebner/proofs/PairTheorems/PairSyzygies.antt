-- A pair of rows reduces to zero exactly where it has a syzygy; over homogeneous rows it has a homogeneous one.
use Rattle.std.proofs.Common.{◌≡◌, ℕ, ◌<◌, List, ◌++◌, length, map, refl, sym, ◌∙◌, append_assoc, append-nil}
use Rattle.std.specs.List.{AllByRecursion}
use Rattle.sf_algebra.specs.Matrices.{Matrix, IsMatrix, row_degrees}
use Rattle.sf_algebra.specs.Multiples.{place_product, term_product}
use Rattle.sf_algebra.specs.Rings.{Ring, IsRing}
use Rattle.sf_algebra.specs.Sums.{normal, add}
use Rattle.sf_algebra.specs.Terms.{Term}
use Rattle.sf_algebra.specs.VectorOperations.{row_sum}
use Rattle.sf_algebra.specs.Vectors.{Place, Vector, place_cmp, IsTermOfDegree, place_degree}
use Rattle.sf_algebra.proofs.Basics.Lists.{AllByRecursion-append}
use Rattle.sf_algebra.proofs.Monomials.Orders.{place_cmp_linear}
use Rattle.sf_algebra.proofs.Multiplying.Keys.{place_keys}
use Rattle.sf_algebra.proofs.Terms.Negatives.{negative_one_term}
use Rattle.sf_algebra.proofs.Terms.Normal.{IsCanonical-normal}
use Rattle.sf_algebra.proofs.Terms.SameTotals.{SameTotals-append, SameTotals-equal, SameTotals-negative, SameTotals-normal, SameTotals-refl, SameTotals-swap, SameTotals-trans, normal-SameTotals}
use Rattle.sf_algebra.proofs.Vectors.Degrees.{IsHomogeneous-normal}
use Rattle.sf_groebner.specs.Criterion.{HaveLeadsAtOnePosition, IsMonicRow, IsPairSyzygy, ReducesToZero, lead_at, pair_place, s_coefficients}
use Rattle.sf_groebner.specs.Spans.{IsSyzygy}
use Rattle.sf_groebner.proofs.PairTheorems.Kernels.{row_combination-SameTotals, row_combination-append_zero_first, row_combination-difference}
use Rattle.sf_groebner.proofs.PairTheorems.Multiplied.{EachPlace-constant}
use Rattle.sf_groebner.proofs.PairTheorems.PairDegrees.{HasPlaceOfDegree, IsHomogeneous-s_coefficients, ReducesToZero-degree}
use Rattle.sf_groebner.proofs.PairTheorems.Schreyer.{SameTotals-from_sum}

module _ (ring : Ring) (positive : IsRing ring) (rows : List Vector) (i j : ℕ) where
  -- the coefficients of a pair without the steps
  abbrev pub pair_difference : List (Term Place) → List (Term Place)
  pair_difference steps =
      s_coefficients ring.modulus (lead_at rows) i j ++ map
      (term_product place_product ring.modulus (negative_one_term ring.modulus)) steps

  add-pair_difference : (steps : List (Term Place))
      → row_sum ring (normal (place_cmp ring.weights) ring.modulus (pair_difference steps)) steps
      ≡ normal (place_cmp ring.weights) ring.modulus (s_coefficients ring.modulus (lead_at rows) i j)
  unfolding add
  add-pair_difference steps =
      let minus : List (Term Place) =
      map (term_product place_product ring.modulus (negative_one_term ring.modulus)) steps in
      let terms = s_coefficients ring.modulus (lead_at rows) i j in
      normal-SameTotals (place_cmp ring.weights) (place_cmp_linear ring.weights) ring.modulus positive.modulus
      (SameTotals-trans ring.modulus (SameTotals-append ring.modulus (SameTotals-normal (place_cmp ring.weights) (place_cmp_linear ring.weights) ring.modulus (terms ++ minus)) (SameTotals-refl ring.modulus steps))
      (SameTotals-trans ring.modulus (SameTotals-equal ring.modulus _ _ (append_assoc terms minus steps))
      (SameTotals-trans ring.modulus
      (SameTotals-append ring.modulus (SameTotals-refl ring.modulus terms) (SameTotals-trans ring.modulus (SameTotals-swap ring.modulus minus steps) (SameTotals-negative (place_keys ring.weights) ring.modulus positive.modulus steps)))
      (SameTotals-equal ring.modulus _ _ (append-nil terms)))))

  pub IsPairSyzygy-ReducesToZero : (h : ReducesToZero ring rows i j)
      → IsPairSyzygy ring rows i j (normal (place_cmp ring.weights) ring.modulus (pair_difference h.steps))
  IsPairSyzygy-ReducesToZero h = record {
    steps = h.steps;
    below = h.below;
    sum = add-pair_difference h.steps;
    zero =
        row_combination-SameTotals ring positive rows
        (SameTotals-normal (place_cmp ring.weights) (place_cmp_linear ring.weights) ring.modulus (pair_difference h.steps))
        ∙ row_combination-difference ring positive rows (s_coefficients ring.modulus (lead_at rows) i j) h.steps
        (sym h.value);
  }

  pub ReducesToZero-IsPairSyzygy : (z : List (Term Place)) → IsPairSyzygy ring rows i j z → ReducesToZero ring rows i j
  ReducesToZero-IsPairSyzygy z h = record {
    steps = h.steps;
    below = h.below;
    value = sym (row_combination-append_zero_first ring positive rows z h.steps h.zero)
        ∙ row_combination-SameTotals ring positive rows
        (SameTotals-from_sum ring z h.steps (s_coefficients ring.modulus (lead_at rows) i j) h.sum);
  }

-- a homogeneous syzygy
pub homogeneous_syzygy : (m : Matrix) → IsMatrix m → AllByRecursion (IsMonicRow m.ring) m.rows → IsRing m.ring
    → (i j : ℕ) → i < length m.rows → j < length m.rows → HaveLeadsAtOnePosition m.rows i j
    → ReducesToZero m.ring m.rows i j → (z : Vector) × IsSyzygy m z × IsPairSyzygy m.ring m.rows i j z.terms
homogeneous_syzygy m is_matrix monic positive i j i_in j_in positions h =
    let d = place_degree m.ring.weights (row_degrees m) (pair_place (lead_at m.rows) i j) in
    let r = ReducesToZero-degree m is_matrix monic positive i j i_in j_in positions d refl h in
    let z = normal (place_cmp m.ring.weights) m.ring.modulus (pair_difference m.ring positive m.rows i j r.0.steps) in
    let syzygy = IsPairSyzygy-ReducesToZero m.ring positive m.rows i j r.0 in (
      record { degree = d; terms = z },
      record {
        coefficients = record {
          canonical =
              IsCanonical-normal (place_cmp m.ring.weights)
              (place_cmp_linear m.ring.weights) m.ring.modulus positive.modulus
              (pair_difference m.ring positive m.rows i j r.0.steps);
          homogeneous =
              IsHomogeneous-normal (row_degrees m) m.ring d (pair_difference m.ring positive m.rows i j r.0.steps)
              (AllByRecursion-append (IsTermOfDegree m.ring.weights (row_degrees m) d) (s_coefficients m.ring.modulus (lead_at m.rows) i j) _
              (IsHomogeneous-s_coefficients m is_matrix monic positive i j i_in j_in positions d refl)
              (EachPlace-constant (HasPlaceOfDegree m.ring.weights (row_degrees m) d) m.ring.modulus _ r.0.steps r.1));
        };
        zero = syzygy.zero;
      },
      syzygy,
    )
