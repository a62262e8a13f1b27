-- The differential of the worked example: through the generator of column 2 less that of column 1.
use Rattle.std.proofs.Common.{◌≡◌, ◌≤◌, [], ◌∷◌, refl, sym, ap, ◌∙◌, subst, arith, pos}
use Rattle.std.proofs.lemmas.Int.{ints}
use Rattle.std.specs.List.{AllByRecursion}
use Rattle.sf_algebra.specs.Multiples.{combination, combination_terms}
use Rattle.sf_algebra.specs.Residues.{negative_mod, product_mod, sum_mod}
use Rattle.sf_algebra.specs.Rings.{plain, IsOverField, ones}
use Rattle.sf_algebra.specs.Sums.{add, normal, insert}
use Rattle.sf_algebra.specs.VectorOperations.{vector_difference}
use Rattle.sf_algebra.specs.Vectors.{Vector, place_cmp}
use Rattle.sf_algebra.proofs.Operators.Groups.{difference-equal}
use Rattle.sf_algebra.proofs.Vectors.VectorGroups.{vectors}
use Rattle.sf_algebra.proofs.Vectors.VectorProps.{same_canonical}
use Rattle.sf_algebra.proofs.Arithmetic.Primes.{no_factor, prime_from}
use Rattle.sf_groebner.specs.Examples.{term, vector}
use Rattle.sf_groebner.specs.Spans.{combined}
use Rattle.sf_groebner.proofs.Spanning.SpanCombinations.{zero-inside}
use Rattle.sf_groebner.proofs.WorkedExamples.FreeRelations.{span-no_rows}
use Rattle.sf_bicomplex.specs.Pages.{FallsBelow, IsBoundaryOfPage}
use Rattle.sf_bicomplex.specs.TailExample.{HasTailBoundary, HasTailCycle, HasTailDifferential, RefusesNoTail, generator, minus_x, tail_bicomplex}
use Rattle.sf_bicomplex.specs.TotalColumns.{total_map}
use Rattle.sf_bicomplex.proofs.Examples.FreeSpots.{plain_ring}
use Rattle.sf_bicomplex.proofs.Examples.TailLaws.{tail-bicomplex}
use Rattle.sf_bicomplex.proofs.Pages.PageLaws.{differentials_of_cycles, values_as_next_boundaries}
use Rattle.sf_bicomplex.proofs.Spans.PageSpans.{IsSpanned-boundaries}
use Rattle.sf_bicomplex.proofs.Spans.SpannedModules.{IsSubmodule-spanned}

pub field : IsOverField (plain 101)
unfolding no_factor
field = record { prime = prime_from 101 9 (omega arith) refl (omega arith); weights = omega arith }

-- the generator with its tail, and what the map gives of it
abbrev with_tail : Vector
with_tail = vector 1 (term 1 0 [] ∷ term 100 1 [] ∷ [])

abbrev value : Vector
value = vector 1 (term 100 1 (1 ∷ []) ∷ [])

tail-value : combined (total_map tail_bicomplex (pos 2) (pos 1)) with_tail ≡ value
unfolding add combination combination_terms normal insert sum_mod product_mod
tail-value = refl

falls : FallsBelow tail_bicomplex (pos 2) (pos 1) 3 1 with_tail
unfolding add combination combination_terms normal insert sum_mod product_mod negative_mod
falls = record {
  stands = record { vector = search (arith, ints); below = search (arith, ints) };
  falls = record {
    vector = search (arith, ints);
    source = value;
    inside = record { vector = search (arith, ints); below = search (arith, ints) };
    equal = record {
      degrees = refl;
      difference = record { coefficients = vector 1 []; homogeneous = search (arith, ints); value = refl };
    };
  };
}

-- 0 is a boundary
no_boundary : IsBoundaryOfPage tail_bicomplex 2 (pos 2) (pos 1) 0 (vector 1 [])
no_boundary =
    zero-inside (plain 101) plain_ring (pos 0 ∷ []) (IsBoundaryOfPage tail_bicomplex 2 (pos 2) (pos 1) 0)
    (IsSubmodule-spanned (plain 101) (pos 0 ∷ []) plain_ring (IsBoundaryOfPage tail_bicomplex 2 (pos 2) (pos 1) 0)
    (IsSpanned-boundaries tail_bicomplex tail-bicomplex field (pos 2) (pos 1) refl 2 0 (omega arith))) (pos 1)

pub tail-differential : HasTailDifferential
unfolding add combination combination_terms normal insert sum_mod product_mod negative_mod
tail-differential = record {
  from_vector = search (arith, ints);
  to_vector = search (arith, ints);
  through = with_tail;
  falls = falls;
  start = record {
    degrees = refl;
    difference = record { coefficients = vector 1 []; homogeneous = search (arith, ints); value = refl };
  };
  end = record { degrees = refl; difference = no_boundary };
}

-- the image of the generator alone stands in column 1
alone : combined (total_map tail_bicomplex (pos 2) (pos 1)) generator ≡ vector 1 (term 1 0 [] ∷ [])
unfolding add combination combination_terms normal insert sum_mod product_mod
alone = refl

pub refuses_no_tail : RefusesNoTail
refuses_no_tail h =
    let w : Vector = h.falls.source in
    let image : Vector = combined (total_map tail_bicomplex (pos 2) (pos 1)) generator in
    let G = vectors (plain 101) plain_ring.modulus in
    let none : (vector_difference (plain 101) image w).terms ≡ [] =
    span-no_rows (plain 101) plain_ring (pos 1 ∷ pos 0 ∷ []) (vector_difference (plain 101) image w)
    h.falls.equal.difference in
    let u : G.V = (image.terms, h.falls.vector.canonical) in
    let v : G.V = (w.terms, h.falls.inside.vector.canonical) in
    let same : image.terms ≡ w.terms =
    ap (λ (x : G.V). x.0)
    (difference-equal G u v (same_canonical (place_cmp ones) 101 (G.plus u (G.minus v)) G.zero none)) in
    let below : AllByRecursion (λ t. 1 ≤ t.at.position) (term 1 0 [] ∷ []) =
    subst (AllByRecursion (λ t. 1 ≤ t.at.position)) (sym same ∙ ap (λ (x : Vector). x.terms) alone) h.falls.inside.below in
    absurd (omega arith)

pub tail-boundary : HasTailBoundary
tail-boundary =
    (values_as_next_boundaries tail_bicomplex tail-bicomplex (pos 2) (pos 1) refl 2 0 (omega arith) minus_x).1
    (generator, tail-differential)

pub tail-cycle : HasTailCycle
tail-cycle =
    ((differentials_of_cycles tail_bicomplex tail-bicomplex (pos 2) (pos 1) (pos 0) refl refl 2 0 (omega arith)
    generator).1 minus_x tail-differential).0
