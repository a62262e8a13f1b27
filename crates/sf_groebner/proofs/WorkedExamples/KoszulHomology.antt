-- The example of two variables: the homology in the middle of its Koszul complex, and the kernel.
use Rattle.std.proofs.Common.{[], ◌∷◌, inl, inr, refl, arith, pos}
use Rattle.std.proofs.lemmas.Int.{ints}
use Rattle.sf_algebra.specs.Multiples.{combination, combination_terms}
use Rattle.sf_algebra.specs.Residues.{sum_mod, product_mod}
use Rattle.sf_algebra.specs.Rings.{plain, ones}
use Rattle.sf_algebra.specs.Sums.{add, normal, insert}
use Rattle.sf_algebra.specs.Vectors.{Vector}
use Rattle.sf_groebner.specs.Examples.{term, vector}
use Rattle.sf_groebner.specs.Homology.{IsCycle}
use Rattle.sf_groebner.specs.HomologyExamples.{no_rows_below, no_rows_between, HasNoKoszulHomology, HasKoszulKernel}
use Rattle.sf_groebner.specs.MinimalGenerators.{AreMinimal, IsInSum}
use Rattle.sf_groebner.specs.Presentations.{IsRelation, IsZero}
use Rattle.sf_groebner.specs.ReducedBases.{IsReducedBasis}
use Rattle.sf_groebner.specs.ResolutionExamples.{two_variables, koszul_row, koszul}
use Rattle.sf_groebner.specs.Spans.{InSpan}
use Rattle.sf_groebner.proofs.WorkedExamples.FreeRelations.{reduced-free_relations, reduced-no_rows, span-no_rows}
use Rattle.sf_groebner.proofs.WorkedExamples.KoszulSteps.{variables-syzygies, koszul-needed, koszul-end}

-- the cycles are the syzygies of x and y
cycles : IsReducedBasis ones (IsCycle two_variables no_rows_below) (koszul_row ∷ [])
cycles = reduced-free_relations two_variables (omega arith) (pos 0 ∷ []) (koszul_row ∷ []) variables-syzygies

-- the row is in its own span
koszul_left_out : IsInSum (plain 101) [] (InSpan koszul) koszul_row
unfolding add combination combination_terms normal insert sum_mod product_mod
koszul_left_out = record {
  first = koszul_row;
  second = vector 2 [];
  in_module = record { coefficients = vector 2 (term 1 0 [] ∷ []); homogeneous = search (arith, ints); value = refl };
  in_span = record { coefficients = vector 2 []; homogeneous = search (arith, ints); value = refl };
  first_degree = refl;
  second_degree = refl;
  sum = refl;
}

no_relations : (B : Vector → Type 0) → AreMinimal (plain 101) (IsRelation no_rows_between B) IsZero []
no_relations B = record { basis = []; reduced = reduced-no_rows (plain 101) (pos 1 ∷ pos 1 ∷ []) B; kept = refl }

pub koszul-homology : HasNoKoszulHomology
koszul-homology = record {
  generators_ring = refl;
  generators_target = refl;
  generators_minimal = record { basis = koszul_row ∷ []; reduced = cycles; kept = inl (koszul_left_out, refl) };
  relations_ring = refl;
  relations_target = refl;
  relations_minimal = no_relations (InSpan koszul);
}

-- modulo no rows a sum is one modulo 0
sum_from_free : (v : Vector) → IsInSum (plain 101) [] (InSpan no_rows_between) v → IsInSum (plain 101) [] IsZero v
sum_from_free v h = record {
  first = h.first;
  second = h.second;
  in_module = span-no_rows (plain 101) (omega arith) (pos 1 ∷ pos 1 ∷ []) h.first h.in_module;
  in_span = h.in_span;
  first_degree = h.first_degree;
  second_degree = h.second_degree;
  sum = h.sum;
}

pub koszul-kernel : HasKoszulKernel
koszul-kernel = record {
  generators_ring = refl;
  generators_target = refl;
  generators_minimal = record { basis = koszul_row ∷ []; reduced = cycles; kept = inr (λ h. koszul-needed (sum_from_free koszul_row h), ([], refl, refl)) };
  relations_ring = refl;
  relations_target = refl;
  relations_minimal = record { basis = []; reduced = reduced-free_relations koszul (omega arith) (pos 1 ∷ pos 1 ∷ []) [] koszul-end; kept = refl };
}
