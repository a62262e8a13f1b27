-- The ideal of x and y over a generator of any degree: its reduced basis, which rows are needed, and its syzygies.
use Rattle.std.proofs.Common.{◌≡◌, ℕ, zero, suc, ◌<◌, List, [], ◌∷◌, ◌++◌, length, inr, refl, sym, ap, arith, ℤ, pos, ◌+ℤ◌}
use Rattle.std.proofs.lemmas.Int.{ints}
use Rattle.std.specs.Cmp.{int_cmp_is}
use Rattle.std.specs.List.{AllByRecursion}
use Rattle.std.specs.Ordering.{int_cmp, ordering_then}
use Rattle.std.specs.declared.cmp.Ordering.TheVariants.{Less, Equal}
use Rattle.sf_algebra.specs.Matrices.{IsMatrix, Matrix}
use Rattle.sf_algebra.specs.Multiples.{combination, combination_terms}
use Rattle.sf_algebra.specs.Residues.{negative_mod, product_mod, sum_mod}
use Rattle.sf_algebra.specs.Rings.{ones, plain}
use Rattle.sf_algebra.specs.Sums.{insert, normal}
use Rattle.sf_algebra.specs.Vectors.{IsVector, Vector}
use Rattle.sf_groebner.specs.Criterion.{HaveLeadsAtOnePosition, ReducesToZero}
use Rattle.sf_groebner.specs.Examples.{term}
use Rattle.sf_groebner.specs.MinimalGenerators.{AreKept, IsInSum, matrix_of}
use Rattle.sf_groebner.specs.Presentations.{IsZero}
use Rattle.sf_groebner.specs.ReducedBases.{IsReducedBasis}
use Rattle.sf_groebner.specs.Resolutions.{IsNextStep}
use Rattle.sf_groebner.specs.Spans.{InSpan, IsGraphVector, IsSyzygy, graph_degrees}
use Rattle.sf_groebner.proofs.PairTheorems.MonicSums.{not_in_sum}
use Rattle.sf_groebner.proofs.PartsOfBases.GraphParts.{reduced-span, reduced-syzygies}
use Rattle.sf_groebner.proofs.WorkedExamples.GraphBases.{IsGraphCandidate, reduced_graph}
use Rattle.sf_bicomplex.proofs.Examples.FreeSpots.{plain_ring}

module _ (d : ℤ) where
  abbrev pub x_at : Vector
  x_at = record { degree = d +ℤ pos 1; terms = term 1 0 (1 ∷ []) ∷ [] }

  abbrev pub y_at : Vector
  y_at = record { degree = d +ℤ pos 1; terms = term 1 0 (0 ∷ 1 ∷ []) ∷ [] }

  abbrev pub both_at : Matrix
  both_at = matrix_of (plain 101) (d ∷ []) (x_at ∷ y_at ∷ [])

  -- y times x less x times y
  abbrev pub syzygy_at : Vector
  syzygy_at = record { degree = d +ℤ pos 2; terms = term 1 0 (0 ∷ 1 ∷ []) ∷ term 100 1 (1 ∷ []) ∷ [] }

  pub both-matrix : IsMatrix both_at
  both-matrix = search (arith, ints)

  abbrev graph_rows : List Vector
  graph_rows = record { degree = d +ℤ pos 1; terms = term 1 0 (1 ∷ []) ∷ term 1 1 [] ∷ [] }
      ∷ record { degree = d +ℤ pos 1; terms = term 1 0 (0 ∷ 1 ∷ []) ∷ term 1 2 [] ∷ [] }
      ∷ []

  abbrev others : List Vector
  others = record { degree = d +ℤ pos 2; terms = term 1 1 (0 ∷ 1 ∷ []) ∷ term 100 2 (1 ∷ []) ∷ [] } ∷ []

  abbrev rows : List Vector
  rows = graph_rows ++ others

  vectors : AllByRecursion (IsVector (plain 101) (graph_degrees both_at)) rows
  vectors = search (arith, ints)

  inside : AllByRecursion (IsGraphVector both_at) rows
  unfolding combination combination_terms normal insert sum_mod product_mod
  inside =
      let h = vectors in
      (record { vector = h.0; value = refl }, (record { vector = h.1.0; value = refl }, (record { vector = h.1.1.0; value = refl }, tt)))

  first_second : ReducesToZero (plain 101) rows 0 1
  unfolding combination combination_terms normal insert sum_mod product_mod negative_mod
  first_second = record { steps = term 1 2 [] ∷ []; below = ((omega arith, refl), tt); value = refl }

  pairs : (i j : ℕ) → i < j → j < length rows → HaveLeadsAtOnePosition rows i j → ReducesToZero (plain 101) rows i j
  pairs zero (suc zero) h k e = first_second
  pairs zero (suc (suc zero)) h k e = absurd (omega (arith, e))
  pairs (suc zero) (suc (suc zero)) h k e = absurd (omega (arith, e))
  pairs i j h k e = absurd (omega arith)

  equal_degrees : int_cmp (d +ℤ pos 1) (d +ℤ pos 1) ≡ Equal
  equal_degrees = sym (int_cmp_is (d +ℤ pos 1) (d +ℤ pos 1) Equal refl)

  smaller_degree : int_cmp (d +ℤ pos 1) (d +ℤ pos 2) ≡ Less
  smaller_degree = sym (int_cmp_is (d +ℤ pos 1) (d +ℤ pos 2) Less (omega (arith, ints)))

  candidate : IsGraphCandidate both_at graph_rows others
  candidate = record {
    values = refl;
    units = refl;
    inside = inside;
    monic = search arith;
    pairs = pairs;
    apart = search arith;
    sorted = (
      (ap (λ o. ordering_then o Less) equal_degrees, (ap (λ o. ordering_then o Less) smaller_degree, tt)),
      ((ap (λ o. ordering_then o Less) smaller_degree, tt), (tt, tt)),
    );
  }

  reduced : IsReducedBasis ones (IsGraphVector both_at) rows
  reduced = reduced_graph both_at plain_ring graph_rows others candidate

  pub both-span : IsReducedBasis ones (InSpan both_at) (x_at ∷ y_at ∷ [])
  both-span = reduced-span both_at plain_ring both-matrix rows reduced

  pub both-syzygies : IsReducedBasis ones (IsSyzygy both_at) (syzygy_at ∷ [])
  both-syzygies = reduced-syzygies both_at plain_ring rows reduced

  x_needed : IsInSum (plain 101) [] IsZero x_at → ⊥
  x_needed =
      not_in_sum (plain 101) plain_ring (d ∷ []) [] tt (λ i j h k e. absurd (omega (arith, k))) x_at (λ e. cc)

  y_needed : IsInSum (plain 101) (x_at ∷ []) IsZero y_at → ⊥
  y_needed =
      not_in_sum (plain 101) plain_ring (d ∷ []) (x_at ∷ []) (search arith)
      (λ i j h k e. absurd (omega (arith, h, k))) y_at (λ e. cc)

  pub both-kept : AreKept (plain 101) IsZero [] (x_at ∷ y_at ∷ []) (x_at ∷ y_at ∷ [])
  both-kept = inr (x_needed, (y_at ∷ [], refl, inr (y_needed, ([], refl, refl))))

  syzygy_needed : IsInSum (plain 101) [] IsZero syzygy_at → ⊥
  syzygy_needed =
      not_in_sum (plain 101) plain_ring ((d +ℤ pos 1) ∷ (d +ℤ pos 1) ∷ []) [] tt
      (λ i j h k e. absurd (omega (arith, k))) syzygy_at (λ e. cc)

  pub both-next : IsNextStep both_at (matrix_of (plain 101) ((d +ℤ pos 1) ∷ (d +ℤ pos 1) ∷ []) (syzygy_at ∷ []))
  both-next = record {
    ring = refl;
    target = refl;
    minimal = record {
      basis = syzygy_at ∷ [];
      reduced = both-syzygies;
      kept = inr (syzygy_needed, ([], refl, refl));
    };
  }
