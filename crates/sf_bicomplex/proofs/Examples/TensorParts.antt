-- The parts of the homology of the total complex in degree 1: what is below column 1 is a relation, since the part in column 1
-- of the paired cycles with coefficients c is c, and that of a boundary is in the span of the relations.
use Rattle.std.proofs.Common.{◌≡◌, ℕ, zero, suc, ◌≤◌, List, [], ◌∷◌, ◌++◌, map, refl, sym, ap, subst, arith, pos}
use Rattle.std.proofs.lemmas.Int.{ints}
use Rattle.std.specs.List.{AllByRecursion}
use Rattle.sf_algebra.specs.Matrices.{IsMatrix}
use Rattle.sf_algebra.specs.MatrixOperations.{row_at, row_combination}
use Rattle.sf_algebra.specs.Multiples.{combination, combination_terms, term_product}
use Rattle.sf_algebra.specs.Rings.{ones, plain}
use Rattle.sf_algebra.specs.Sums.{normal}
use Rattle.sf_algebra.specs.Terms.{Term}
use Rattle.sf_algebra.specs.VectorOperations.{vector_difference}
use Rattle.sf_algebra.specs.Multiples.{place_product}
use Rattle.sf_algebra.specs.Vectors.{IsVector, Place, Vector, place_cmp}
use Rattle.sf_algebra.proofs.Vectors.HomogeneousVectors.{IsVector-row_combination}
use Rattle.sf_groebner.specs.Maps.{AreEqualModulo}
use Rattle.sf_groebner.specs.Spans.{InSpan, combined}
use Rattle.sf_groebner.proofs.MapsOnHomology.EqualModulo.{AreEqualModulo-inside}
use Rattle.sf_groebner.proofs.Spanning.SpanCombinations.{zero-inside}
use Rattle.sf_groebner.proofs.Spanning.Spans.{combined-difference}
use Rattle.sf_groebner.proofs.Uniqueness.PresentedModules.{IsPresentation-same}
use Rattle.sf_presented.proofs.EqualModulo.{AreEqualModulo-sym}
use Rattle.sf_presented.proofs.RowMaps.{sends-span}
use Rattle.sf_bicomplex.specs.InducedFiltrations.{IsOfPart}
use Rattle.sf_bicomplex.specs.TensorExample.{HasResidueParts, pair_generators, pair_relations, paired_cycles, residue_bicomplex}
use Rattle.sf_bicomplex.proofs.Examples.FreeSpots.{plain_ring}
use Rattle.sf_bicomplex.proofs.Examples.PairRelations.{pair-matrix}
use Rattle.sf_bicomplex.proofs.Examples.TailPages.{field}
use Rattle.sf_bicomplex.proofs.Examples.TensorPages.{B, Z, all_cycles, boundary-from_span, cycles, relations_module, residue-page, span-from_boundary}
use Rattle.sf_bicomplex.proofs.Examples.TensorSpots.{residue-bicomplex}
use Rattle.sf_bicomplex.proofs.Examples.TensorTotal.{arriving, boundary_rows, cycle-part, first_matrix, first_two, residue-homology}
use Rattle.sf_bicomplex.proofs.Filtrations.PartLaws.{rising_parts}
use Rattle.sf_bicomplex.proofs.Spans.NoClasses.{presentation-none}
use Rattle.sf_bicomplex.proofs.Spans.PageSpans.{IsSpanned-parts}
use Rattle.sf_bicomplex.proofs.Spans.SpannedModules.{IsSpanned}

abbrev pub Part : ℕ → Vector → Type 0
Part k = IsOfPart residue_bicomplex (pos 2) (pos 1) (pos 0) paired_cycles k

-- what stands in column 0 has no part in column 1
past_two : (i : ℕ) → 2 ≤ i → row_at first_two.rows i ≡ []
past_two zero h = absurd (omega (arith, h))
past_two (suc zero) h = absurd (omega (arith, h))
past_two (suc (suc zero)) h = refl
past_two (suc (suc (suc zero))) h = refl
past_two (suc (suc (suc (suc i)))) h = refl

no_part_terms : (ts : List (Term Place)) → AllByRecursion (λ t. 2 ≤ t.at.position) ts
    → combination_terms place_product 101 (λ (k : Place). k.monomial) (λ (k : Place). row_at first_two.rows k.position) ts ≡ []
unfolding combination_terms
no_part_terms [] h = refl
no_part_terms (t ∷ ts) h =
    (λ i. map (term_product place_product 101 (record { at = t.at.monomial; coefficient = t.coefficient }))
    (past_two t.at.position h.0 i) ++ no_part_terms ts h.1 i)

no_part : (ts : List (Term Place)) → AllByRecursion (λ t. 2 ≤ t.at.position) ts
    → row_combination (plain 101) first_two.rows ts ≡ []
unfolding combination normal
no_part ts h = ap (normal (place_cmp ones) 101) (no_part_terms ts h)

paired_matrix : IsMatrix paired_cycles
paired_matrix = search (arith, ints)

below_is_relation : (c : Vector) → Part 1 c → InSpan pair_relations c
below_is_relation c h =
    let a : Vector = combined paired_cycles c in
    let v : Vector = h.near.source in
    let stands = h.near.inside.stands in
    let image : Vector = combined first_two v in
    let image_inside : InSpan pair_relations image =
    subst (λ ts. InSpan pair_relations (record { degree = v.degree; terms = ts })) (sym (no_part v.terms stands.below))
    (zero-inside (plain 101) plain_ring (pos 1 ∷ pos 1 ∷ []) (InSpan pair_relations) relations_module v.degree) in
    let same : AreEqualModulo (plain 101) (InSpan pair_relations) (combined first_two a) image = record {
      degrees = h.near.equal.degrees;
      difference =
          subst (InSpan pair_relations) (combined-difference first_two plain_ring a v stands.vector.canonical)
          (sends-span arriving pair_relations first_two plain_ring refl refl pair-matrix boundary_rows
          (vector_difference (plain 101) a v) h.near.equal.difference);
    } in
    let canonical = (IsVector-row_combination first_two plain_ring.modulus first_matrix a
    (IsVector-row_combination paired_cycles plain_ring.modulus paired_matrix c h.coefficients)).canonical in
    subst (InSpan pair_relations) (cycle-part c h.coefficients)
    (AreEqualModulo-inside (plain 101) plain_ring (pos 1 ∷ pos 1 ∷ []) (InSpan pair_relations)
    relations_module.module_like image (combined first_two a) canonical
    (AreEqualModulo-sym (plain 101) plain_ring (pos 1 ∷ pos 1 ∷ []) (InSpan pair_relations) relations_module
    (combined first_two a) image canonical (relations_module.module_like.vectors image image_inside).canonical same)
    image_inside)

rising : (k l : ℕ) → k ≤ l → (c : Vector) → (Part k c → Part l c)
    × ((Part 0 c → InSpan pair_relations c) × (InSpan pair_relations c → Part 0 c))
    × (IsVector (plain 101) (pos 1 ∷ pos 1 ∷ []) c → Part 3 c)
rising =
    rising_parts residue_bicomplex residue-bicomplex (pos 2) (pos 1) (pos 0) refl refl paired_cycles.rows paired_matrix
    pair_relations residue-homology.presented

-- no generator stands in column 2, so all is in the two lowest columns
two_columns : (c : Vector) → Part 3 c → Part 2 c
two_columns c h = record {
  coefficients = h.coefficients;
  near = record {
    vector = h.near.vector;
    source = h.near.source;
    inside = record {
      stands = record { vector = h.near.inside.stands.vector; below = h.near.inside.stands.below };
      cycle = h.near.inside.cycle;
    };
    equal = h.near.equal;
  };
}

all_in_two : (c : Vector) → IsVector (plain 101) (pos 1 ∷ pos 1 ∷ []) c → Part 2 c
all_in_two c v = two_columns c ((rising 0 0 (omega arith) c).2 v)

pub spanned : (k : ℕ) → IsSpanned (plain 101) (pos 1 ∷ pos 1 ∷ []) (Part k)
spanned k =
    IsSpanned-parts residue_bicomplex residue-bicomplex field (pos 2) (pos 1) (pos 0) refl refl paired_cycles refl refl
    paired_matrix k

pub residue-parts : HasResidueParts
residue-parts = (
  presentation-none (plain 101) field (pos 1 ∷ pos 1 ∷ []) (Part 1) (Part 0) (spanned 1)
      (λ c h. (rising 0 0 (omega arith) c).1.1 (below_is_relation c h)),
  IsPresentation-same (plain 101) (pos 1 ∷ pos 1 ∷ []) Z B pair_generators pair_relations residue-page (Part 2) (Part 1)
      (λ c h. all_in_two c (cycles.module_like.vectors c h)) (λ c h. all_cycles c h.coefficients)
      (λ c h. (rising 0 1 (omega arith) c).0 ((rising 0 0 (omega arith) c).1.1 (span-from_boundary c h)))
      (λ c h. boundary-from_span c (below_is_relation c h)),
  presentation-none (plain 101) field (pos 1 ∷ pos 1 ∷ []) (Part 3) (Part 2) (spanned 3) two_columns,
)
