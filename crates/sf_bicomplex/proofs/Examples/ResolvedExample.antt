-- Its rows are exact by contracting homotopies; so a class of the complex that is set isn't a boundary.
use Rattle.std.proofs.Common.{◌≡◌, ℕ, zero, suc, ◌<◌, List, [], ◌∷◌, ap, ◌∙◌, refl, arith, ℤ, pos, ◌-ℤ◌, ◌+ℤ◌}
use Rattle.std.proofs.lemmas.Int.{ints}
use Rattle.sf_algebra.specs.Matrices.{Matrix}
use Rattle.sf_algebra.specs.MatrixOperations.{matrix_product, row_combination}
use Rattle.sf_algebra.specs.Monomials.{Monomial, monomial_degree}
use Rattle.sf_algebra.specs.Multiples.{combination, combination_terms}
use Rattle.sf_algebra.specs.Residues.{product_mod, sum_mod}
use Rattle.sf_algebra.specs.Rings.{ones, plain}
use Rattle.sf_algebra.specs.Sums.{add, normal, insert}
use Rattle.sf_algebra.specs.Terms.{Term}
use Rattle.sf_algebra.specs.Vectors.{IsHomogeneous, Place, Vector, generator_degree}
use Rattle.sf_algebra.proofs.Vectors.Rows.{row_combination-nil}
use Rattle.sf_groebner.specs.Examples.{term, vector}
use Rattle.sf_groebner.specs.MinimalGenerators.{matrix_of}
use Rattle.sf_groebner.specs.Spans.{InSpan, IsSyzygy, combined}
use Rattle.sf_groebner.proofs.WorkedExamples.FreeRelations.{span-no_rows}
use Rattle.sf_blocks.specs.BlockLists.{IsFrom}
use Rattle.sf_blocks.specs.MatrixSums.{zero_matrix}
use Rattle.sf_homotopy.specs.Exactness.{IsExactPair}
use Rattle.sf_homotopy.specs.Homotopies.{IsHomotopy}
use Rattle.sf_homotopy.proofs.Contracting.Splitting.{exact_by_homotopy}
use Rattle.sf_bicomplex.specs.ResolvedExample.{GivesQuotient, HasClassThatIsSet, HasMultipleThatBounds, ResolvesExample, kernel_row, resolved_complex, resolved_degrees, resolved_map, resolved_set, resolving_across, resolving_bicomplex, resolving_degrees, resolving_down}
use Rattle.sf_bicomplex.proofs.Examples.FreeSpots.{plain_ring}
use Rattle.sf_bicomplex.proofs.Examples.ResolvedSpots.{resolving-bicomplex}
use Rattle.sf_bicomplex.proofs.Examples.TailPages.{field}
use Rattle.sf_bicomplex.proofs.Staircases.ResolvedLaws.{boundaries_that_are_set}
use Rattle.sf_bicomplex.proofs.Staircases.SetHomology.{gives_cokernel}

-- R(0) as the first part of R(0) + R(1), and this to its second part
abbrev into_first : Matrix
into_first = matrix_of (plain 101) (pos 0 ∷ pos 1 ∷ []) (vector 0 (term 1 0 [] ∷ []) ∷ [])

abbrev to_second : Matrix
to_second = matrix_of (plain 101) (pos 1 ∷ []) (vector 0 [] ∷ vector 1 (term 1 0 [] ∷ []) ∷ [])

abbrev none : List ℤ → List ℤ → Matrix
none = zero_matrix (plain 101)

empty_homotopy : IsHomotopy (none [] []) (none [] []) (none [] []) (none [] [])
empty_homotopy = record {
  above_one = omega arith;
  out_matrix = tt;
  back_matrix = tt;
  forth_matrix = tt;
  into_matrix = tt;
  out_back = record { positive = omega arith; rings = refl; degrees = refl };
  forth_into = record { positive = omega arith; rings = refl; degrees = refl };
  parallel = record { rings = refl; targets = refl; degrees = refl };
  sum = refl;
}

empty_exact : IsExactPair (none [] []) (none [] [])
empty_exact = exact_by_homotopy (none [] []) (none [] []) (none [] []) (none [] []) empty_homotopy refl

lowest_homotopy : IsHomotopy (resolving_across 0 (pos 0)) (none [] (pos 0 ∷ [])) into_first (resolving_across 1 (pos 0))
unfolding add combination combination_terms normal insert sum_mod product_mod
lowest_homotopy = record {
  above_one = omega arith;
  out_matrix = search (arith, ints);
  back_matrix = tt;
  forth_matrix = search (arith, ints);
  into_matrix = search (arith, ints);
  out_back = record { positive = omega arith; rings = refl; degrees = refl };
  forth_into = record { positive = omega arith; rings = refl; degrees = refl };
  parallel = record { rings = refl; targets = refl; degrees = refl };
  sum = refl;
}

-- each row below its highest column
lowest_exact : (q : ℤ) → IsExactPair (resolving_across 0 q) (resolving_across 1 q)
unfolding add combination combination_terms normal insert sum_mod product_mod
lowest_exact (pos zero) =
    exact_by_homotopy (resolving_across 0 (pos 0)) (none [] (pos 0 ∷ [])) into_first (resolving_across 1 (pos 0))
    lowest_homotopy refl
lowest_exact (pos (suc zero)) =
    exact_by_homotopy (none [] []) (none [] []) (none [] (pos 2 ∷ [])) (none (pos 2 ∷ []) [])
    (record {
      above_one = omega arith;
      out_matrix = tt;
      back_matrix = tt;
      forth_matrix = tt;
      into_matrix = search (arith, ints);
      out_back = record { positive = omega arith; rings = refl; degrees = refl };
      forth_into = record { positive = omega arith; rings = refl; degrees = refl };
      parallel = record { rings = refl; targets = refl; degrees = refl };
      sum = refl;
    })
    refl
lowest_exact q = empty_exact

-- and in the highest
highest_exact : (q : ℤ) → IsExactPair (resolving_across 1 q) (resolved_set q)
unfolding add combination combination_terms normal insert sum_mod product_mod
highest_exact (pos zero) =
    exact_by_homotopy (resolving_across 1 (pos 0)) into_first to_second (resolved_set (pos 0))
    (record {
      above_one = omega arith;
      out_matrix = search (arith, ints);
      back_matrix = search (arith, ints);
      forth_matrix = search (arith, ints);
      into_matrix = search (arith, ints);
      out_back = record { positive = omega arith; rings = refl; degrees = refl };
      forth_into = record { positive = omega arith; rings = refl; degrees = refl };
      parallel = record { rings = refl; targets = refl; degrees = refl };
      sum = refl;
    })
    refl
highest_exact (pos (suc zero)) =
    exact_by_homotopy (resolving_across 1 (pos 1)) (none [] (pos 2 ∷ [])) (resolved_set (pos 1)) (resolved_set (pos 1))
    (record {
      above_one = omega arith;
      out_matrix = search (arith, ints);
      back_matrix = tt;
      forth_matrix = search (arith, ints);
      into_matrix = search (arith, ints);
      out_back = record { positive = omega arith; rings = refl; degrees = refl };
      forth_into = record { positive = omega arith; rings = refl; degrees = refl };
      parallel = record { rings = refl; targets = refl; degrees = refl };
      sum = refl;
    })
    refl
highest_exact q = empty_exact

-- nothing that is set is 0 but 0
set_exact : (q : ℤ) → IsExactPair (resolved_set q) (none [] (resolved_degrees q))
unfolding add combination combination_terms normal insert sum_mod product_mod
set_exact (pos zero) =
    exact_by_homotopy (resolved_set (pos 0)) to_second (none (pos 1 ∷ []) []) (none [] (pos 1 ∷ []))
    (record {
      above_one = omega arith;
      out_matrix = search (arith, ints);
      back_matrix = search (arith, ints);
      forth_matrix = search (arith, ints);
      into_matrix = tt;
      out_back = record { positive = omega arith; rings = refl; degrees = refl };
      forth_into = record { positive = omega arith; rings = refl; degrees = refl };
      parallel = record { rings = refl; targets = refl; degrees = refl };
      sum = refl;
    })
    refl
set_exact (pos (suc zero)) =
    exact_by_homotopy (resolved_set (pos 1)) (resolved_set (pos 1)) (none (pos 2 ∷ []) []) (none [] (pos 2 ∷ []))
    (record {
      above_one = omega arith;
      out_matrix = search (arith, ints);
      back_matrix = search (arith, ints);
      forth_matrix = search (arith, ints);
      into_matrix = tt;
      out_back = record { positive = omega arith; rings = refl; degrees = refl };
      forth_into = record { positive = omega arith; rings = refl; degrees = refl };
      parallel = record { rings = refl; targets = refl; degrees = refl };
      sum = refl;
    })
    refl
set_exact q = empty_exact

map_from : (q : ℤ) → IsFrom (plain 101) (resolved_degrees q) (resolved_map q)
map_from (pos zero) = record { ring_of = refl; source_of = refl; matrix = search (arith, ints) }
map_from (pos (suc zero)) = record { ring_of = refl; source_of = refl; matrix = search (arith, ints) }
map_from q = record { ring_of = refl; source_of = refl; matrix = tt }

map_target : (q : ℤ) → (resolved_map q).target ≡ resolved_degrees (q -ℤ pos 1)
map_target (pos (suc zero)) = refl
map_target q = refl

set_from : (q : ℤ) → IsFrom (plain 101) (resolved_degrees q) (resolved_set q)
set_from (pos zero) = record { ring_of = refl; source_of = refl; matrix = search (arith, ints) }
set_from (pos (suc zero)) = record { ring_of = refl; source_of = refl; matrix = search (arith, ints) }
set_from q = record { ring_of = refl; source_of = refl; matrix = tt }

set_target : (q : ℤ) → (resolved_set q).target ≡ resolving_degrees 1 q
set_target (pos zero) = refl
set_target (pos (suc zero)) = refl
set_target q = refl

passes : (q : ℤ) → matrix_product (resolved_map q) (resolved_set (q -ℤ pos 1)) ≡ matrix_product (resolved_set q) (resolving_down 1 q)
unfolding add combination combination_terms normal insert sum_mod product_mod
passes (pos zero) = refl
passes (pos (suc zero)) = refl
passes q = ap (λ (ds : List ℤ). matrix_of (plain 101) ds []) (set_target (q -ℤ pos 1))

exact : (p : ℕ) (q : ℤ) → p < 1 → (v : Vector) → IsSyzygy (resolving_across p q) v → InSpan (resolving_across (suc p) q) v
exact zero q h v flat = ((lowest_exact q).exact v).0 flat
exact (suc p) q h v flat = absurd (omega arith)

pub resolves-example : ResolvesExample
resolves-example = record {
  highest = refl;
  free = λ p q. refl;
  map_from = map_from;
  map_target = map_target;
  set_from = set_from;
  set_target = set_target;
  exact = exact;
  resolves = λ q v. (highest_exact q).exact v;
  one_to_one = λ q c flat.
      span-no_rows (plain 101) plain_ring (resolved_degrees q) c (((set_exact q).exact c).0 flat);
  passes = passes;
}

-- the generator, and what is set for it
abbrev one : Vector
one = vector 1 (term 1 0 [] ∷ [])

set-one : kernel_row ≡ combined (resolved_set (pos 0)) one
unfolding add combination combination_terms normal insert sum_mod product_mod
set-one = refl

not-multiple : InSpan (resolved_map (pos 1)) one → ⊥
not-multiple h =
    let c : Vector = h.coefficients in
    let degree : c.degree ≡ pos 1 = ap (λ (v : Vector). v.degree) h.value in
    let same : row_combination (plain 101) (resolved_map (pos 1)).rows c.terms ≡ one.terms =
    ap (λ (v : Vector). v.terms) h.value in
    let none-there : c.terms ≡ [] = no-terms c.degree degree c.terms h.homogeneous.homogeneous in
    absurd (cc (
      same,
      ap (row_combination (plain 101) (resolved_map (pos 1)).rows) none-there,
      row_combination-nil (plain 101) plain_ring.modulus (resolved_map (pos 1)).rows,
    ))
  where
    no-terms : (d : ℤ) → d ≡ pos 1 → (ts : List (Term Place)) → IsHomogeneous ones (pos 2 ∷ []) d ts → ts ≡ []
    no-terms d e [] h = refl
    no-terms d e (t ∷ ts) h = absurd (first d e t.at.position t.at.monomial (h.0).0 (h.0).1)
      where
        first : (d : ℤ) → d ≡ pos 1 → (i : ℕ) (m : Monomial) → i < 1
            → d ≡ generator_degree (pos 2 ∷ []) i +ℤ pos (monomial_degree ones m) → ⊥
        first d e zero m within same = absurd (omega (arith, ints))
        first d e (suc i) m within same = absurd (omega arith)

pub class-that-is-set : HasClassThatIsSet
class-that-is-set h =
    not-multiple
    (boundaries_that_are_set resolving_bicomplex resolving-bicomplex 1 resolved_complex resolves-example (pos 2) (pos 1)
    refl h.coefficients one h.homogeneous (search (arith, ints)) (h.value ∙ set-one))

pub multiple-that-bounds : HasMultipleThatBounds
unfolding add combination combination_terms normal insert sum_mod product_mod
multiple-that-bounds = record {
  coefficients = vector 2 (term 1 0 [] ∷ []);
  homogeneous = search (arith, ints);
  value = refl;
}

pub gives-quotient : GivesQuotient
gives-quotient =
    gives_cokernel resolving_bicomplex resolving-bicomplex field 1 resolved_complex resolves-example (pos 1) refl
