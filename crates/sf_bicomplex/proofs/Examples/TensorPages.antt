-- Page 2 of the tensor bicomplex of the residue field with itself, in column 1 and row 0: all vectors are cycles, by a tail
-- in column 0, and boundaries are the span of the relations.
use Rattle.std.proofs.Common.{◌≡◌, List, [], ◌∷◌, inr, refl, sym, ◌∙◌, subst, arith, pos}
use Rattle.std.proofs.lemmas.Int.{ints}
use Rattle.std.specs.List.{AllByRecursion}
use Rattle.sf_algebra.specs.MatrixOperations.{unit_vector}
use Rattle.sf_algebra.specs.Multiples.{combination, combination_terms}
use Rattle.sf_algebra.specs.Residues.{negative_mod, product_mod, sum_mod}
use Rattle.sf_algebra.specs.Rings.{ones, plain}
use Rattle.sf_algebra.specs.Sums.{add, insert, normal}
use Rattle.sf_algebra.specs.VectorOperations.{vector_difference}
use Rattle.sf_algebra.specs.Vectors.{IsVector, Vector}
use Rattle.sf_algebra.proofs.Vectors.HomogeneousVectors.{row_combination-identity}
use Rattle.sf_groebner.specs.Examples.{term, vector}
use Rattle.sf_groebner.specs.Homology.{IsAny}
use Rattle.sf_groebner.specs.Maps.{AreEqualModulo}
use Rattle.sf_groebner.specs.MinimalGenerators.{IsInSum}
use Rattle.sf_groebner.specs.Presentations.{IsRelation, IsZero}
use Rattle.sf_groebner.specs.Spans.{InSpan, combined}
use Rattle.sf_groebner.proofs.MapsOnHomology.EqualModulo.{AreEqualModulo-inside}
use Rattle.sf_groebner.proofs.PairTheorems.MonicSums.{not_in_sum}
use Rattle.sf_groebner.proofs.Spanning.SameModules.{IsReducedBasis-same}
use Rattle.sf_groebner.proofs.Spanning.SpanCombinations.{span_submodule, zero-inside}
use Rattle.sf_groebner.proofs.Spanning.Submodules.{IsSubmodule}
use Rattle.sf_groebner.proofs.Spanning.SumsAndMultiples.{span_closed}
use Rattle.sf_groebner.proofs.WorkedExamples.FreeRelations.{span-no_rows}
use Rattle.sf_presented.proofs.EqualModulo.{AreEqualModulo-sym}
use Rattle.sf_presented.proofs.FreeBases.{InSpan-identity, reduced-any}
use Rattle.sf_bicomplex.specs.FirstPages.{down}
use Rattle.sf_bicomplex.specs.Pages.{IsBoundaryOfPage, IsCycleOfPage}
use Rattle.sf_bicomplex.specs.TensorExample.{HasResiduePage, pair_generators, pair_relations, residue_bicomplex}
use Rattle.sf_bicomplex.specs.TotalColumns.{column_part, place, total_map}
use Rattle.sf_bicomplex.proofs.Examples.FreeSpots.{plain_ring}
use Rattle.sf_bicomplex.proofs.Examples.PairRelations.{pair-kept, pair-matrix, pair-no_terms, pair-span}
use Rattle.sf_bicomplex.proofs.Examples.TailPages.{field}
use Rattle.sf_bicomplex.proofs.Examples.TensorSpots.{residue-bicomplex}
use Rattle.sf_bicomplex.proofs.Pages.FirstPages.{first_boundaries}
use Rattle.sf_bicomplex.proofs.Pages.PageLaws.{nested_pages}
use Rattle.sf_bicomplex.proofs.Spans.PageSpans.{IsSpanned-boundaries, IsSpanned-cycles}
use Rattle.sf_bicomplex.proofs.Spans.SpannedModules.{IsSubmodule-spanned}
use Rattle.sf_bicomplex.proofs.TotalComplexes.TotalLaws.{columns_in_places, columns_of_images}

abbrev pub Z : Vector → Type 0
Z = IsCycleOfPage residue_bicomplex 2 (pos 1) (pos 0) 1

abbrev pub B : Vector → Type 0
B = IsBoundaryOfPage residue_bicomplex 2 (pos 2) (pos 1) 1

pub cycles : IsSubmodule (plain 101) (pos 1 ∷ pos 1 ∷ []) Z
cycles =
    IsSubmodule-spanned (plain 101) (pos 1 ∷ pos 1 ∷ []) plain_ring Z
    (IsSpanned-cycles residue_bicomplex residue-bicomplex field (pos 1) (pos 0) refl 2 1 (omega arith))

pub boundaries : IsSubmodule (plain 101) (pos 1 ∷ pos 1 ∷ []) B
boundaries =
    IsSubmodule-spanned (plain 101) (pos 1 ∷ pos 1 ∷ []) plain_ring B
    (IsSpanned-boundaries residue_bicomplex residue-bicomplex field (pos 2) (pos 1) refl 2 1 (omega arith))

-- a submodule has the span of its vectors
pub inside-span : (rows : List Vector) (N : Vector → Type 0) → IsSubmodule (plain 101) (pos 1 ∷ pos 1 ∷ []) N
    → AllByRecursion N rows
    → (v : Vector) → InSpan (record { ring = plain 101; target = pos 1 ∷ pos 1 ∷ []; rows = rows }) v → N v
inside-span rows N sub all v h =
    subst N h.value
    (sub.combinations rows all h.coefficients.degree h.coefficients.terms h.homogeneous.homogeneous)

-- the generators, less those of column 0 in row 1
first_cycle : Z (unit_vector (pos 1) 0)
unfolding add combination combination_terms normal insert sum_mod product_mod negative_mod
first_cycle = record {
  vector = search (arith, ints);
  source = vector 1 (term 1 0 [] ∷ term 100 2 [] ∷ []);
  inside = record {
    stands = record { vector = search (arith, ints); below = search (arith, ints) };
    falls = record {
      vector = search (arith, ints);
      source = vector 1 [];
      inside = record { vector = search (arith, ints); below = tt };
      equal = record {
        degrees = refl;
        difference = record { coefficients = vector 1 []; homogeneous = search (arith, ints); value = refl };
      };
    };
  };
  equal = record {
    degrees = refl;
    difference = record { coefficients = vector 1 []; homogeneous = search (arith, ints); value = refl };
  };
}

second_cycle : Z (unit_vector (pos 1) 1)
unfolding add combination combination_terms normal insert sum_mod product_mod negative_mod
second_cycle = record {
  vector = search (arith, ints);
  source = vector 1 (term 1 1 [] ∷ term 100 3 [] ∷ []);
  inside = record {
    stands = record { vector = search (arith, ints); below = search (arith, ints) };
    falls = record {
      vector = search (arith, ints);
      source = vector 1 [];
      inside = record { vector = search (arith, ints); below = tt };
      equal = record {
        degrees = refl;
        difference = record { coefficients = vector 1 []; homogeneous = search (arith, ints); value = refl };
      };
    };
  };
  equal = record {
    degrees = refl;
    difference = record { coefficients = vector 1 []; homogeneous = search (arith, ints); value = refl };
  };
}

pub all_cycles : (v : Vector) → IsVector (plain 101) (pos 1 ∷ pos 1 ∷ []) v → Z v
all_cycles v h =
    inside-span pair_generators.rows Z cycles (first_cycle, (second_cycle, tt)) v
    (InSpan-identity (plain 101) plain_ring (omega arith) (pos 1 ∷ pos 1 ∷ []) v h)

-- what dv gives is a boundary
bound : (w a : Vector) → IsVector (plain 101) (pos 1 ∷ pos 1 ∷ []) w
    → IsVector (plain 101) (pos 2 ∷ pos 2 ∷ pos 2 ∷ pos 2 ∷ []) a
    → AreEqualModulo (plain 101) (InSpan (place residue_bicomplex (pos 1) 1)) w (down residue_bicomplex (pos 2) 1 a)
    → B w
bound w a hw ha same =
    (nested_pages residue_bicomplex residue-bicomplex (pos 2) (pos 1) refl 1 2 1 (omega arith) (omega arith) w).1
    ((first_boundaries residue_bicomplex residue-bicomplex (pos 2) (pos 1) refl 1 (omega arith) w).1
    (record { vector = hw; source = a; inside = ha; equal = same }))

-- each relation is dv of a generator of row 1, with its sign
bounds : AllByRecursion B pair_relations.rows
unfolding add combination combination_terms normal insert sum_mod product_mod negative_mod
bounds =
    let none : InSpan (place residue_bicomplex (pos 1) 1) (vector 2 []) =
    record { coefficients = vector 2 []; homogeneous = search (arith, ints); value = refl } in (
      bound (vector 2 (term 1 0 (1 ∷ []) ∷ [])) (vector 2 (term 100 0 [] ∷ [])) (search (arith, ints))
          (search (arith, ints)) (record { degrees = refl; difference = none }),
      (
        bound (vector 2 (term 1 0 (0 ∷ 1 ∷ []) ∷ [])) (vector 2 (term 100 1 [] ∷ [])) (search (arith, ints))
            (search (arith, ints)) (record { degrees = refl; difference = none }),
        (
          bound (vector 2 (term 1 1 (1 ∷ []) ∷ [])) (vector 2 (term 100 2 [] ∷ [])) (search (arith, ints))
              (search (arith, ints)) (record { degrees = refl; difference = none }),
          (
            bound (vector 2 (term 1 1 (0 ∷ 1 ∷ []) ∷ [])) (vector 2 (term 100 3 [] ∷ [])) (search (arith, ints))
                (search (arith, ints)) (record { degrees = refl; difference = none }),
            tt,
          ),
        ),
      ),
    )

pub boundary-from_span : (v : Vector) → InSpan pair_relations v → B v
boundary-from_span =
    inside-span pair_relations.rows B boundaries bounds

-- the rows of the maps to this spot
down_rows : AllByRecursion (InSpan pair_relations) (residue_bicomplex.vertical 1 (pos 1)).rows
unfolding add combination combination_terms normal insert sum_mod product_mod negative_mod
down_rows = (
  record { coefficients = vector 2 (term 100 0 [] ∷ []); homogeneous = search (arith, ints); value = refl },
  (
    record { coefficients = vector 2 (term 100 1 [] ∷ []); homogeneous = search (arith, ints); value = refl },
    (
      record { coefficients = vector 2 (term 100 2 [] ∷ []); homogeneous = search (arith, ints); value = refl },
      (record { coefficients = vector 2 (term 100 3 [] ∷ []); homogeneous = search (arith, ints); value = refl }, tt),
    ),
  ),
)

across_rows : AllByRecursion (InSpan pair_relations) (residue_bicomplex.horizontal 2 (pos 0)).rows
unfolding add combination combination_terms normal insert sum_mod product_mod negative_mod
across_rows = (
  record {
    coefficients = vector 2 (term 1 1 [] ∷ term 100 2 [] ∷ []);
    homogeneous = search (arith, ints);
    value = refl;
  },
  tt,
)

pub relations_module : IsSubmodule (plain 101) (pos 1 ∷ pos 1 ∷ []) (InSpan pair_relations)
relations_module = span_submodule pair_relations plain_ring pair-matrix

pub span-from_boundary : (v : Vector) → B v → InSpan pair_relations v
span-from_boundary v h =
    let a : Vector = h.source in
    let stands = h.inside.stands in
    let u : Vector = column_part residue_bicomplex (pos 2) 1 a in
    let w : Vector = column_part residue_bicomplex (pos 2) 2 a in
    let hu : IsVector (plain 101) (pos 2 ∷ pos 2 ∷ pos 2 ∷ pos 2 ∷ []) u =
    (columns_in_places residue_bicomplex residue-bicomplex (pos 2) 1 (omega arith) a).0 stands in
    let hw : IsVector (plain 101) (pos 2 ∷ []) w =
    (columns_in_places residue_bicomplex residue-bicomplex (pos 2) 2 (omega arith) a).0 stands in
    let image : Vector = column_part residue_bicomplex (pos 1) 1 (combined (total_map residue_bicomplex (pos 2) (pos 1)) a) in
    let image_inside : InSpan pair_relations image =
    subst (InSpan pair_relations)
    (sym (columns_of_images residue_bicomplex residue-bicomplex (pos 2) (pos 1) refl 1 (omega arith) a stands))
    ((span_closed pair_relations plain_ring).sums a.degree _ _
    (relations_module.combinations (residue_bicomplex.vertical 1 (pos 1)).rows down_rows u.degree u.terms hu.homogeneous)
    (relations_module.combinations (residue_bicomplex.horizontal 2 (pos 0)).rows across_rows w.degree w.terms hw.homogeneous)) in
    let none : (vector_difference (plain 101) v image).terms ≡ [] =
    span-no_rows (plain 101) plain_ring (pos 1 ∷ pos 1 ∷ []) (vector_difference (plain 101) v image) h.equal.difference in
    let same : AreEqualModulo (plain 101) (InSpan pair_relations) v image = record {
      degrees = h.equal.degrees;
      difference =
          subst (λ ts. InSpan pair_relations (record { degree = v.degree; terms = ts })) (sym none)
          (zero-inside (plain 101) plain_ring (pos 1 ∷ pos 1 ∷ []) (InSpan pair_relations) relations_module v.degree);
    } in
    let canonical = (relations_module.module_like.vectors image image_inside).canonical in
    AreEqualModulo-inside (plain 101) plain_ring (pos 1 ∷ pos 1 ∷ []) (InSpan pair_relations)
    relations_module.module_like image v h.vector.canonical
    (AreEqualModulo-sym (plain 101) plain_ring (pos 1 ∷ pos 1 ∷ []) (InSpan pair_relations) relations_module v image
    h.vector.canonical canonical same)
    image_inside

-- no generator is a sum of boundaries and the earlier ones, since no boundary has the degree 1
zero-sum : (earlier : List Vector) (v : Vector) → v.degree ≡ pos 1 → IsInSum (plain 101) earlier B v
    → IsInSum (plain 101) earlier IsZero v
zero-sum earlier v e h = record {
  first = h.first;
  second = h.second;
  in_module = pair-no_terms h.first (h.first_degree ∙ e) (span-from_boundary h.first h.in_module);
  in_span = h.in_span;
  first_degree = h.first_degree;
  second_degree = h.second_degree;
  sum = h.sum;
}

first_needed : IsInSum (plain 101) [] B (unit_vector (pos 1) 0) → ⊥
first_needed h =
    not_in_sum (plain 101) plain_ring (pos 1 ∷ pos 1 ∷ []) [] tt (λ i j h k e. absurd (omega (arith, k)))
    (unit_vector (pos 1) 0)
    (λ e. cc)
    (zero-sum [] (unit_vector (pos 1) 0) refl h)

second_needed : IsInSum (plain 101) (unit_vector (pos 1) 0 ∷ []) B (unit_vector (pos 1) 1) → ⊥
second_needed h =
    not_in_sum (plain 101) plain_ring (pos 1 ∷ pos 1 ∷ []) (unit_vector (pos 1) 0 ∷ []) (search arith)
    (λ i j h k e. absurd (omega (arith, h, k))) (unit_vector (pos 1) 1)
    (λ e. cc)
    (zero-sum (unit_vector (pos 1) 0 ∷ []) (unit_vector (pos 1) 1) refl h)

-- a relation of the generators is a vector of the span
pub generators_combined : (c : Vector) → IsVector (plain 101) (pos 1 ∷ pos 1 ∷ []) c → combined pair_generators c ≡ c
generators_combined c h =
    λ i. record {
      degree = c.degree;
      terms = row_combination-identity (plain 101) (omega arith) (pos 1 ∷ pos 1 ∷ []) c h i;
    }

pub residue-page : HasResiduePage
residue-page = record {
  generators_ring = refl;
  generators_target = refl;
  generators_minimal = record {
    basis = pair_generators.rows;
    reduced =
        IsReducedBasis-same ones (IsAny (plain 101) (pos 1 ∷ pos 1 ∷ [])) Z all_cycles cycles.module_like.vectors
        pair_generators.rows
        (reduced-any (plain 101) plain_ring (omega arith) (pos 1 ∷ pos 1 ∷ []));
    kept = inr (first_needed, (unit_vector (pos 1) 1 ∷ [], refl, inr (second_needed, ([], refl, refl))));
  };
  relations_ring = refl;
  relations_target = refl;
  relations_minimal = record {
    basis = pair_relations.rows;
    reduced =
        IsReducedBasis-same ones (InSpan pair_relations) (IsRelation pair_generators B)
        (λ v h. let vector = relations_module.module_like.vectors v h in record {
          coefficients = vector;
          inside = subst B (sym (generators_combined v vector)) (boundary-from_span v h);
        })
        (λ v h. subst (InSpan pair_relations) (generators_combined v h.coefficients)
        (span-from_boundary (combined pair_generators v) h.inside)) pair_relations.rows pair-span;
    kept = pair-kept;
  };
}
