-- The module of two generators with the relations x and y each: its reduced basis, which rows are needed, and that no
-- relation has the generators' degree.
use Rattle.std.proofs.Common.{◌≡◌, ℕ, zero, suc, ◌<◌, List, [], ◌∷◌, ◌++◌, length, inr, refl, sym, ap, ◌∙◌, arith, ℤ, pos, ◌+ℤ◌}
use Rattle.std.proofs.lemmas.Int.{ints}
use Rattle.std.specs.List.{AllByRecursion}
use Rattle.sf_algebra.specs.Matrices.{IsMatrix}
use Rattle.sf_algebra.specs.MatrixOperations.{row_combination}
use Rattle.sf_algebra.specs.Monomials.{Monomial, monomial_degree}
use Rattle.sf_algebra.specs.Multiples.{combination, combination_terms}
use Rattle.sf_algebra.specs.Residues.{negative_mod, product_mod, sum_mod}
use Rattle.sf_algebra.specs.Rings.{ones, plain}
use Rattle.sf_algebra.specs.Sums.{insert, normal}
use Rattle.sf_algebra.specs.Terms.{Term}
use Rattle.sf_algebra.specs.Vectors.{IsHomogeneous, IsVector, Place, Vector, generator_degree}
use Rattle.sf_algebra.proofs.Vectors.Rows.{row_combination-nil}
use Rattle.sf_groebner.specs.Criterion.{HaveLeadsAtOnePosition, ReducesToZero}
use Rattle.sf_groebner.specs.Examples.{term, vector}
use Rattle.sf_groebner.specs.MinimalGenerators.{AreKept, IsInSum}
use Rattle.sf_groebner.specs.Presentations.{IsZero}
use Rattle.sf_groebner.specs.ReducedBases.{IsReducedBasis}
use Rattle.sf_groebner.specs.Spans.{InSpan, IsGraphVector, graph_degrees}
use Rattle.sf_groebner.proofs.PairTheorems.MonicSums.{not_in_sum}
use Rattle.sf_groebner.proofs.PartsOfBases.GraphParts.{reduced-span}
use Rattle.sf_groebner.proofs.WorkedExamples.GraphBases.{IsGraphCandidate, reduced_graph}
use Rattle.sf_bicomplex.specs.TensorExample.{pair_relations}
use Rattle.sf_bicomplex.proofs.Examples.FreeSpots.{plain_ring}

pub pair-matrix : IsMatrix pair_relations
pair-matrix = search (arith, ints)

-- the rows with their coefficients, and the two syzygies
abbrev graph_rows : List Vector
graph_rows = vector 2 (term 1 0 (1 ∷ []) ∷ term 1 2 [] ∷ [])
    ∷ vector 2 (term 1 0 (0 ∷ 1 ∷ []) ∷ term 1 3 [] ∷ [])
    ∷ vector 2 (term 1 1 (1 ∷ []) ∷ term 1 4 [] ∷ [])
    ∷ vector 2 (term 1 1 (0 ∷ 1 ∷ []) ∷ term 1 5 [] ∷ [])
    ∷ []

abbrev others : List Vector
others = vector 3 (term 1 2 (0 ∷ 1 ∷ []) ∷ term 100 3 (1 ∷ []) ∷ [])
    ∷ vector 3 (term 1 4 (0 ∷ 1 ∷ []) ∷ term 100 5 (1 ∷ []) ∷ [])
    ∷ []

abbrev rows : List Vector
rows = graph_rows ++ others

vectors : AllByRecursion (IsVector (plain 101) (graph_degrees pair_relations)) rows
vectors = search (arith, ints)

inside : AllByRecursion (IsGraphVector pair_relations) rows
unfolding combination combination_terms normal insert sum_mod product_mod
inside =
    let h = vectors in (
      record { vector = h.0; value = refl },
      (
        record { vector = h.1.0; value = refl },
        (
          record { vector = h.1.1.0; value = refl },
          (
            record { vector = h.1.1.1.0; value = refl },
            (record { vector = h.1.1.1.1.0; value = refl }, (record { vector = h.1.1.1.1.1.0; value = refl }, tt)),
          ),
        ),
      ),
    )

first_pair : ReducesToZero (plain 101) rows 0 1
unfolding combination combination_terms normal insert sum_mod product_mod negative_mod
first_pair = record { steps = term 1 4 [] ∷ []; below = ((omega arith, refl), tt); value = refl }

second_pair : ReducesToZero (plain 101) rows 2 3
unfolding combination combination_terms normal insert sum_mod product_mod negative_mod
second_pair = record { steps = term 1 5 [] ∷ []; below = ((omega arith, refl), tt); value = refl }

pairs : (i j : ℕ) → i < j → j < length rows → HaveLeadsAtOnePosition rows i j → ReducesToZero (plain 101) rows i j
pairs zero (suc zero) h k e = first_pair
pairs (suc (suc zero)) (suc (suc (suc zero))) h k e = second_pair
pairs zero (suc (suc zero)) h k e = absurd (omega (arith, e))
pairs zero (suc (suc (suc zero))) h k e = absurd (omega (arith, e))
pairs zero (suc (suc (suc (suc zero)))) h k e = absurd (omega (arith, e))
pairs zero (suc (suc (suc (suc (suc zero))))) h k e = absurd (omega (arith, e))
pairs (suc zero) (suc (suc zero)) h k e = absurd (omega (arith, e))
pairs (suc zero) (suc (suc (suc zero))) h k e = absurd (omega (arith, e))
pairs (suc zero) (suc (suc (suc (suc zero)))) h k e = absurd (omega (arith, e))
pairs (suc zero) (suc (suc (suc (suc (suc zero))))) h k e = absurd (omega (arith, e))
pairs (suc (suc zero)) (suc (suc (suc (suc zero)))) h k e = absurd (omega (arith, e))
pairs (suc (suc zero)) (suc (suc (suc (suc (suc zero))))) h k e = absurd (omega (arith, e))
pairs (suc (suc (suc zero))) (suc (suc (suc (suc zero)))) h k e = absurd (omega (arith, e))
pairs (suc (suc (suc zero))) (suc (suc (suc (suc (suc zero))))) h k e = absurd (omega (arith, e))
pairs (suc (suc (suc (suc zero)))) (suc (suc (suc (suc (suc zero))))) h k e = absurd (omega (arith, e))
pairs i j h k e = absurd (omega arith)

candidate : IsGraphCandidate pair_relations graph_rows others
candidate = record {
  values = refl;
  units = refl;
  inside = inside;
  monic = search arith;
  pairs = pairs;
  apart = search arith;
  sorted = search arith;
}

pub pair-span : IsReducedBasis ones (InSpan pair_relations) pair_relations.rows
pair-span =
    reduced-span pair_relations plain_ring pair-matrix rows
    (reduced_graph pair_relations plain_ring graph_rows others candidate)

-- no row is a sum of the earlier ones
abbrev x_first : Vector
x_first = vector 2 (term 1 0 (1 ∷ []) ∷ [])

abbrev y_first : Vector
y_first = vector 2 (term 1 0 (0 ∷ 1 ∷ []) ∷ [])

abbrev x_second : Vector
x_second = vector 2 (term 1 1 (1 ∷ []) ∷ [])

abbrev y_second : Vector
y_second = vector 2 (term 1 1 (0 ∷ 1 ∷ []) ∷ [])

two_pairs : (i j : ℕ) → i < j → j < 2 → HaveLeadsAtOnePosition (x_first ∷ y_first ∷ []) i j
    → ReducesToZero (plain 101) (x_first ∷ y_first ∷ []) i j
unfolding combination combination_terms normal insert sum_mod product_mod negative_mod
two_pairs zero (suc zero) h k e = record { steps = []; below = tt; value = refl }
two_pairs i j h k e = absurd (omega arith)

three_pairs : (i j : ℕ) → i < j → j < 3 → HaveLeadsAtOnePosition (x_first ∷ y_first ∷ x_second ∷ []) i j
    → ReducesToZero (plain 101) (x_first ∷ y_first ∷ x_second ∷ []) i j
unfolding combination combination_terms normal insert sum_mod product_mod negative_mod
three_pairs zero (suc zero) h k e = record { steps = []; below = tt; value = refl }
three_pairs zero (suc (suc zero)) h k e = absurd (omega (arith, e))
three_pairs (suc zero) (suc (suc zero)) h k e = absurd (omega (arith, e))
three_pairs i j h k e = absurd (omega arith)

first_needed : IsInSum (plain 101) [] IsZero x_first → ⊥
first_needed =
    not_in_sum (plain 101) plain_ring pair_relations.target [] tt (λ i j h k e. absurd (omega (arith, k))) x_first
    (λ e. cc)

second_needed : IsInSum (plain 101) (x_first ∷ []) IsZero y_first → ⊥
second_needed =
    not_in_sum (plain 101) plain_ring pair_relations.target (x_first ∷ []) (search arith)
    (λ i j h k e. absurd (omega (arith, h, k))) y_first (λ e. cc)

third_needed : IsInSum (plain 101) (x_first ∷ y_first ∷ []) IsZero x_second → ⊥
third_needed =
    not_in_sum (plain 101) plain_ring pair_relations.target (x_first ∷ y_first ∷ []) (search arith) two_pairs x_second
    (λ e. cc)

fourth_needed : IsInSum (plain 101) (x_first ∷ y_first ∷ x_second ∷ []) IsZero y_second → ⊥
fourth_needed =
    not_in_sum (plain 101) plain_ring pair_relations.target (x_first ∷ y_first ∷ x_second ∷ []) (search arith)
    three_pairs y_second (λ e. cc)

pub pair-kept : AreKept (plain 101) IsZero [] pair_relations.rows pair_relations.rows
pair-kept = inr (
  first_needed,
  (y_first ∷ x_second ∷ y_second ∷ [], refl, inr (second_needed, (x_second ∷ y_second ∷ [], refl, inr (third_needed, (y_second ∷ [], refl, inr (fourth_needed, ([], refl, refl))))))),
)

-- a relation of degree 1 is 0: there are no coefficients of that degree
pub pair-no_terms : (v : Vector) → v.degree ≡ pos 1 → InSpan pair_relations v → v.terms ≡ []
pair-no_terms v e h =
    let c : Vector = h.coefficients in
    let degree : c.degree ≡ pos 1 = ap (λ (w : Vector). w.degree) h.value ∙ e in
    let none : c.terms ≡ [] = no_terms c.degree degree c.terms h.homogeneous.homogeneous in
    sym (ap (λ (w : Vector). w.terms) h.value)
    ∙ ap (row_combination (plain 101) pair_relations.rows) none
    ∙ row_combination-nil (plain 101) plain_ring.modulus pair_relations.rows
  where
    no_terms : (d : ℤ) → d ≡ pos 1 → (ts : List (Term Place))
        → IsHomogeneous ones (pos 2 ∷ pos 2 ∷ pos 2 ∷ pos 2 ∷ []) d ts → ts ≡ []
    no_terms d e [] h = refl
    no_terms d e (t ∷ ts) h = absurd (first d e t.at.position t.at.monomial (h.0).0 (h.0).1)
      where
        first : (d : ℤ) → d ≡ pos 1 → (i : ℕ) (m : Monomial) → i < 4
            → d ≡ generator_degree (pos 2 ∷ pos 2 ∷ pos 2 ∷ pos 2 ∷ []) i +ℤ pos (monomial_degree ones m) → ⊥
        first d e zero m within same = absurd (omega (arith, ints))
        first d e (suc zero) m within same = absurd (omega (arith, ints))
        first d e (suc (suc zero)) m within same = absurd (omega (arith, ints))
        first d e (suc (suc (suc zero))) m within same = absurd (omega (arith, ints))
        first d e (suc (suc (suc (suc i)))) m within same = absurd (omega arith)
