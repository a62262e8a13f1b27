-- The line with an embedded point: its first two steps, a basis of the cycles of its dual complex, and a factor before it,
-- so what stands in the lowest column; then the presentations of the parts.
use Rattle.std.proofs.Common.{◌≡◌, ◌↔◌, ◌<◌, ℕ, zero, suc, List, [], ◌∷◌, ◌++◌, length, inr, refl, sym, ap, ◌∙◌, subst, arith, ℤ, pos, negsuc, ◌+ℤ◌}
use Rattle.std.proofs.lemmas.Int.{ints}
use Rattle.std.specs.List.{AllByRecursion}
use Rattle.sf_algebra.specs.Matrices.{IsMatrix, Matrix, degrees_of, row_degrees}
use Rattle.sf_algebra.specs.MatrixOperations.{identity, matrix_product, row_combination, transposed}
use Rattle.sf_algebra.specs.Monomials.{Monomial, monomial_degree}
use Rattle.sf_algebra.specs.Multiples.{combination, combination_terms}
use Rattle.sf_algebra.specs.Residues.{negative_mod, product_mod, sum_mod}
use Rattle.sf_algebra.specs.Rings.{IsRing, Ring, ones, plain}
use Rattle.sf_algebra.specs.Sums.{insert, normal}
use Rattle.sf_algebra.specs.Terms.{Term}
use Rattle.sf_algebra.specs.Vectors.{IsHomogeneous, IsVector, Place, Vector, generator_degree}
use Rattle.sf_algebra.proofs.GradedMatrices.MatrixProducts.{row_degrees-matrix_product}
use Rattle.sf_algebra.proofs.Vectors.HomogeneousVectors.{IsVector-row_combination, row_combination-identity}
use Rattle.sf_algebra.proofs.Vectors.Rows.{row_combination-matrix_product, row_combination-nil}
use Rattle.sf_groebner.specs.Criterion.{HaveLeadsAtOnePosition, ReducesToZero}
use Rattle.sf_groebner.specs.Examples.{term, vector}
use Rattle.sf_groebner.specs.Homology.{IsAny}
use Rattle.sf_groebner.specs.MinimalGenerators.{IsInSum, matrix_of}
use Rattle.sf_groebner.specs.Presentations.{IsPresentation, IsRelation, IsZero}
use Rattle.sf_groebner.specs.ReducedBases.{IsReducedBasis}
use Rattle.sf_groebner.specs.ResolutionExamples.{x_row}
use Rattle.sf_groebner.specs.Resolutions.{IsFirstStep, IsNextStep}
use Rattle.sf_groebner.specs.Spans.{InSpan, IsGraphVector, IsSyzygy, combined, graph_degrees}
use Rattle.sf_groebner.proofs.PairTheorems.MonicSums.{not_in_sum}
use Rattle.sf_groebner.proofs.PartsOfBases.GraphParts.{reduced-span, reduced-syzygies}
use Rattle.sf_groebner.proofs.Spanning.SameModules.{IsReducedBasis-same}
use Rattle.sf_groebner.proofs.Spanning.SpanCombinations.{span_submodule}
use Rattle.sf_groebner.proofs.Uniqueness.Presentations.{unique_first_step, unique_next_step}
use Rattle.sf_groebner.proofs.Uniqueness.PresentedModules.{IsPresentation-same}
use Rattle.sf_groebner.proofs.WorkedExamples.GraphBases.{IsGraphCandidate, reduced_graph}
use Rattle.sf_presented.proofs.Composites.{combined-matrix_product}
use Rattle.sf_presented.proofs.Steps.{spans-next_step}
use Rattle.sf_blocks.specs.MatrixSums.{IsZeroMatrix}
use Rattle.sf_homotopy.proofs.Exactness.ZeroProducts.{syzygies_of_span}
use Rattle.sf_hilbert.proofs.WithoutRows.{minimal_none}
use Rattle.sf_bicomplex.proofs.Examples.FreeSpots.{plain_ring}
use Rattle.sf_bicomplex.proofs.Examples.TailPages.{field}
use Rattle.sf_bidual.specs.Bidual.{IsBidualOf, dual_maps}
use Rattle.sf_bidual.specs.CartanEilenberg.{CartanEilenberg, arriving}
use Rattle.sf_bidual.specs.EmbeddedExample.{HasEmbeddedBidual, HasEmbeddedParts, HasEmbeddedSubmodule, HasNoEmbeddedMaps, RefusesWithoutPoint, embedded_relations, point_generator, point_relations, product_row, square_row}
use Rattle.sf_bidual.specs.FactorLaws.{IsFactorOfFirst}
use Rattle.sf_bidual.specs.Purity.{IsOfPurity, IsPurityPart, IsPuritySubmodule}
use Rattle.sf_bidual.specs.PurityExample.{variable_relation}
use Rattle.sf_bidual.specs.TorsionLaws.{HasNoMapsToRing}
use Rattle.sf_bidual.proofs.Bounded.Modules.{bidual_of_variables}
use Rattle.sf_bidual.proofs.Examples.OneVariable.{monic_free, own_presentation, variable-span}
use Rattle.sf_bidual.proofs.Examples.TwoVariables.{both-kept, both-matrix, both-next, both-span, both_at, syzygy_at}
use Rattle.sf_bidual.proofs.HighestColumns.HighestColumn.{no_highest_part, torsion_in_lower_columns}
use Rattle.sf_bidual.proofs.LowerColumns.Cancelling.{equal_coefficients}
use Rattle.sf_bidual.proofs.LowerColumns.Factored.{factored_part}
use Rattle.sf_bidual.proofs.PurityParts.Parts.{purity_parts, rising}
use Rattle.sf_bidual.proofs.PurityParts.Presented.{augmentation-degrees}

pub embedded-matrix : IsMatrix embedded_relations
embedded-matrix = search (arith, ints)

-- the relations with their coefficients, and the syzygy
abbrev graph_rows : List Vector
graph_rows = vector 2 (term 1 0 (2 ∷ []) ∷ term 1 1 [] ∷ []) ∷ vector 2 (term 1 0 (1 ∷ 1 ∷ []) ∷ term 1 2 [] ∷ []) ∷ []

abbrev others : List Vector
others = vector 3 (term 1 1 (0 ∷ 1 ∷ []) ∷ term 100 2 (1 ∷ []) ∷ []) ∷ []

abbrev rows : List Vector
rows = graph_rows ++ others

vectors : AllByRecursion (IsVector (plain 101) (graph_degrees embedded_relations)) rows
vectors = search (arith, ints)

inside : AllByRecursion (IsGraphVector embedded_relations) rows
unfolding combination combination_terms normal insert sum_mod product_mod
inside =
    let h = vectors in
    (record { vector = h.0; value = refl }, (record { vector = h.1.0; value = refl }, (record { vector = h.1.1.0; value = refl }, tt)))

first_second : ReducesToZero (plain 101) rows 0 1
unfolding combination combination_terms normal insert sum_mod product_mod negative_mod
first_second = record { steps = term 1 2 [] ∷ []; below = ((omega arith, refl), tt); value = refl }

pairs : (i j : ℕ) → i < j → j < length rows → HaveLeadsAtOnePosition rows i j → ReducesToZero (plain 101) rows i j
pairs zero (suc zero) h k e = first_second
pairs zero (suc (suc zero)) h k e = absurd (omega (arith, e))
pairs (suc zero) (suc (suc zero)) h k e = absurd (omega (arith, e))
pairs i j h k e = absurd (omega arith)

candidate : IsGraphCandidate embedded_relations graph_rows others
candidate = record {
  values = refl;
  units = refl;
  inside = inside;
  monic = search arith;
  pairs = pairs;
  apart = search arith;
  sorted = search arith;
}

reduced : IsReducedBasis ones (IsGraphVector embedded_relations) rows
reduced = reduced_graph embedded_relations plain_ring graph_rows others candidate

abbrev syzygy_row : Vector
syzygy_row = vector 3 (term 1 0 (0 ∷ 1 ∷ []) ∷ term 100 1 (1 ∷ []) ∷ [])

abbrev syzygies : Matrix
syzygies = matrix_of (plain 101) (pos 2 ∷ pos 2 ∷ []) (syzygy_row ∷ [])

square_needed : IsInSum (plain 101) [] IsZero square_row → ⊥
square_needed =
    not_in_sum (plain 101) plain_ring (pos 0 ∷ []) [] tt (λ i j h k e. absurd (omega (arith, k))) square_row (λ e. cc)

product_needed : IsInSum (plain 101) (square_row ∷ []) IsZero product_row → ⊥
product_needed =
    not_in_sum (plain 101) plain_ring (pos 0 ∷ []) (square_row ∷ []) (search arith)
    (λ i j h k e. absurd (omega (arith, h, k))) product_row (λ e. cc)

syzygy_needed : IsInSum (plain 101) [] IsZero syzygy_row → ⊥
syzygy_needed =
    not_in_sum (plain 101) plain_ring (pos 2 ∷ pos 2 ∷ []) [] tt (λ i j h k e. absurd (omega (arith, k))) syzygy_row
    (λ e. cc)

own_step : IsFirstStep embedded_relations embedded_relations
own_step = record {
  ring = refl;
  target = refl;
  minimal = record {
    basis = square_row ∷ product_row ∷ [];
    reduced = reduced-span embedded_relations plain_ring embedded-matrix rows reduced;
    kept = inr (square_needed, (product_row ∷ [], refl, inr (product_needed, ([], refl, refl))));
  };
}

syzygy_step : IsNextStep embedded_relations syzygies
syzygy_step = record {
  ring = refl;
  target = refl;
  minimal = record {
    basis = syzygy_row ∷ [];
    reduced = reduced-syzygies embedded_relations plain_ring rows reduced;
    kept = inr (syzygy_needed, ([], refl, refl));
  };
}

-- the dual complex, and (x, y), which spans its cycles at place 1
abbrev dual_first : Matrix
dual_first = transposed embedded_relations

abbrev dual_next : Matrix
dual_next = transposed syzygies

abbrev basis_row : Vector
basis_row = record { degree = negsuc 0; terms = term 1 0 (1 ∷ []) ∷ term 1 1 (0 ∷ 1 ∷ []) ∷ [] }

abbrev basis : Matrix
basis = matrix_of (plain 101) (negsuc 1 ∷ negsuc 1 ∷ []) (basis_row ∷ [])

basis-matrix : IsMatrix basis
basis-matrix = search (arith, ints)

basis-free : (v : Vector) → IsSyzygy basis v → v.terms ≡ []
basis-free = monic_free (negsuc 1 ∷ negsuc 1 ∷ []) basis_row (search arith)

basis-cycles : IsZeroMatrix (matrix_product basis dual_next)
unfolding combination combination_terms normal insert sum_mod product_mod
basis-cycles = refl

-- y and -x are x and y in the other order, with a sign
abbrev exchange : Matrix
exchange =
    matrix_of (plain 101) (negsuc 1 ∷ negsuc 1 ∷ [])
    (record { degree = negsuc 1; terms = term 1 1 [] ∷ [] } ∷ record { degree = negsuc 1; terms = term 100 0 [] ∷ [] } ∷ [])

abbrev exchange_back : Matrix
exchange_back =
    matrix_of (plain 101) (negsuc 1 ∷ negsuc 1 ∷ [])
    (record { degree = negsuc 1; terms = term 100 1 [] ∷ [] } ∷ record { degree = negsuc 1; terms = term 1 0 [] ∷ [] } ∷ [])

exchange-matrix : IsMatrix exchange
exchange-matrix = search (arith, ints)

abbrev both : Matrix
both = both_at (negsuc 2)

abbrev koszul : Matrix
koszul = matrix_of (plain 101) (negsuc 1 ∷ negsuc 1 ∷ []) (syzygy_at (negsuc 2) ∷ [])

abbrev minus_one : Matrix
minus_one = matrix_of (plain 101) (negsuc 0 ∷ []) (record { degree = negsuc 0; terms = term 100 0 [] ∷ [] } ∷ [])

minus_one-matrix : IsMatrix minus_one
minus_one-matrix = search (arith, ints)

exchanged : matrix_product exchange both ≡ dual_next
unfolding combination combination_terms normal insert sum_mod product_mod
exchanged = refl

exchanged_back : matrix_product exchange exchange_back ≡ identity (plain 101) (negsuc 1 ∷ negsuc 1 ∷ [])
unfolding combination combination_terms normal insert sum_mod product_mod
exchanged_back = refl

exchanged_syzygy : matrix_product koszul exchange_back ≡ matrix_product minus_one basis
unfolding combination combination_terms normal insert sum_mod product_mod
exchanged_syzygy = refl

-- a combination of a product's rows is one of its second factor's
through : (a b : Matrix) → IsRing a.ring → a.ring ≡ b.ring → IsMatrix a → a.target ≡ degrees_of b.rows → (v : Vector)
    → InSpan (matrix_product a b) v → InSpan b v
through a b positive rings matrix meet v s =
    let c : Vector = s.coefficients in
    let over : IsVector a.ring (degrees_of a.rows) c =
    subst (λ ds. IsVector a.ring ds c) (row_degrees-matrix_product a b) s.homogeneous in
    record {
      coefficients = combined a c;
      homogeneous = subst (λ (y : Ring × List ℤ). IsVector y.0 y.1 (combined a c)) (λ i. (rings i, meet i))
          (IsVector-row_combination a positive.modulus matrix c over);
      value = sym (combined-matrix_product a b positive rings c) ∙ s.value;
    }

cycles-there : (v : Vector) → IsSyzygy dual_next v → InSpan basis v
cycles-there v s =
    let w : Vector = combined exchange v in
    let syzygy : IsSyzygy both w = record {
      coefficients = IsVector-row_combination exchange plain_ring.modulus exchange-matrix v s.coefficients;
      zero = sym (row_combination-matrix_product (plain 101) plain_ring.modulus exchange both v.terms refl)
          ∙ ap (λ (m : Matrix). row_combination (plain 101) m.rows v.terms) exchanged
          ∙ s.zero;
    } in
    let found = (spans-next_step both koszul field (both-next (negsuc 2)) w).1 syzygy in
    let a : Vector = found.coefficients in
    let value : combined (matrix_product minus_one basis) a ≡ v =
    ap (λ (m : Matrix). combined m a) (sym exchanged_syzygy)
    ∙ combined-matrix_product koszul exchange_back plain_ring refl a
    ∙ ap (combined exchange_back) found.value
    ∙ sym (combined-matrix_product exchange exchange_back plain_ring refl v)
    ∙ ap (λ (m : Matrix). combined m v) exchanged_back
    ∙ (λ i. record {
      degree = v.degree;
      terms = row_combination-identity (plain 101) plain_ring.modulus (negsuc 1 ∷ negsuc 1 ∷ []) v s.coefficients i;
    }) in
    through minus_one basis plain_ring refl minus_one-matrix refl v
    (record { coefficients = a; homogeneous = found.homogeneous; value = value })

cycles-back : (v : Vector) → InSpan basis v → IsSyzygy dual_next v
cycles-back =
    syzygies_of_span dual_next basis (record { positive = plain_ring.modulus; rings = refl; degrees = refl }) basis-matrix
    basis-cycles

-- the first dual map is x times it
abbrev factor_row : Vector
factor_row = vector 0 (term 1 0 (1 ∷ []) ∷ [])

abbrev factor : Matrix
factor = matrix_of (plain 101) (negsuc 0 ∷ []) (factor_row ∷ [])

factor-matrix : IsMatrix factor
factor-matrix = search (arith, ints)

factor-product : matrix_product factor basis ≡ dual_first
unfolding combination combination_terms normal insert sum_mod product_mod
factor-product = refl

is_factor : (maps : ℕ → Matrix) → maps 0 ≡ dual_first → maps 1 ≡ dual_next
    → IsFactorOfFirst (plain 101) maps (basis_row ∷ []) (factor_row ∷ [])
is_factor maps first next = record {
  basis = record {
    matrix = subst (λ (m : Matrix). IsMatrix (matrix_of (plain 101) (row_degrees m) (basis_row ∷ []))) (sym next) basis-matrix;
    spans = subst (λ (m : Matrix). (v : Vector) → IsSyzygy m v
        ↔ InSpan (matrix_of (plain 101) (row_degrees m) (basis_row ∷ [])) v) (sym next)
        (λ v. (cycles-there v, cycles-back v));
    free = subst (λ (m : Matrix). (v : Vector)
        → IsSyzygy (matrix_of (plain 101) (row_degrees m) (basis_row ∷ [])) v → v.terms ≡ []) (sym next) basis-free;
  };
  matrix = factor-matrix;
  product = (λ i. matrix_product factor (matrix_of (plain 101) (row_degrees (next i)) (basis_row ∷ [])))
      ∙ factor-product ∙ sym first;
}

dual-free : (v : Vector) → IsSyzygy dual_first v → v.terms ≡ []
dual-free =
    monic_free (negsuc 1 ∷ negsuc 1 ∷ [])
    (record { degree = pos 0; terms = term 1 0 (2 ∷ []) ∷ term 1 1 (1 ∷ 1 ∷ []) ∷ [] }) (search arith)

-- x modulo the relations: what times x is a relation is a combination of x and y
generator-free : (v : Vector) → IsSyzygy point_generator v → v.terms ≡ []
generator-free = monic_free (pos 0 ∷ []) x_row (search arith)

point-product : matrix_product point_relations point_generator ≡ embedded_relations
unfolding combination combination_terms normal insert sum_mod product_mod
point-product = refl

relation-there : (c : Vector) → IsRelation point_generator (InSpan embedded_relations) c → InSpan point_relations c
relation-there c h =
    let a : Vector = h.inside.coefficients in
    let value : combined point_generator (combined point_relations a) ≡ combined point_generator c =
    sym (combined-matrix_product point_relations point_generator plain_ring refl a)
    ∙ ap (λ (m : Matrix). combined m a) point-product
    ∙ h.inside.value in
    record {
      coefficients = a;
      homogeneous = h.inside.homogeneous;
      value = equal_coefficients point_generator plain_ring generator-free (combined point_relations a) c
          (IsVector-row_combination point_relations plain_ring.modulus (both-matrix (pos 1)) a h.inside.homogeneous)
          h.coefficients value;
    }

relation-back : (c : Vector) → InSpan point_relations c → IsRelation point_generator (InSpan embedded_relations) c
relation-back c s =
    let a : Vector = s.coefficients in
    record {
      coefficients = (span_submodule point_relations plain_ring (both-matrix (pos 1))).module_like.vectors c s;
      inside = record {
        coefficients = a;
        homogeneous = s.homogeneous;
        value = ap (λ (m : Matrix). combined m a) (sym point-product)
            ∙ combined-matrix_product point_relations point_generator plain_ring refl a
            ∙ ap (combined point_generator) s.value;
      };
    }

-- no relation has the degree of x
no_low_relations : (v : Vector) → v.degree ≡ pos 1 → InSpan embedded_relations v → v.terms ≡ []
no_low_relations v e h =
    let c : Vector = h.coefficients in
    let none : c.terms ≡ [] =
    no_terms c.degree (ap (λ (w : Vector). w.degree) h.value ∙ e) c.terms h.homogeneous.homogeneous in
    sym (ap (λ (w : Vector). w.terms) h.value)
    ∙ ap (row_combination (plain 101) embedded_relations.rows) none
    ∙ row_combination-nil (plain 101) plain_ring.modulus embedded_relations.rows
  where
    no_terms : (d : ℤ) → d ≡ pos 1 → (ts : List (Term Place)) → IsHomogeneous ones (pos 2 ∷ pos 2 ∷ []) d ts → ts ≡ []
    no_terms d e [] h = refl
    no_terms d e (t ∷ ts) h = absurd (first d e t.at.position t.at.monomial (h.0).0 (h.0).1)
      where
        first : (d : ℤ) → d ≡ pos 1 → (i : ℕ) (m : Monomial) → i < 2
            → d ≡ generator_degree (pos 2 ∷ pos 2 ∷ []) i +ℤ pos (monomial_degree ones m) → ⊥
        first d e zero m within same = absurd (omega (arith, ints))
        first d e (suc zero) m within same = absurd (omega (arith, ints))
        first d e (suc (suc i)) m within same = absurd (omega arith)

generator-needed : IsInSum (plain 101) [] (InSpan embedded_relations) x_row → ⊥
generator-needed h =
    not_in_sum (plain 101) plain_ring (pos 0 ∷ []) [] tt (λ i j h k e. absurd (omega (arith, k))) x_row (λ e. cc)
    (record {
      first = h.first;
      second = h.second;
      in_module = no_low_relations h.first h.first_degree h.in_module;
      in_span = h.in_span;
      first_degree = h.first_degree;
      second_degree = h.second_degree;
      sum = h.sum;
    })

point : IsPresentation (plain 101) (pos 0 ∷ []) (InSpan variable_relation) (InSpan embedded_relations) point_generator
    point_relations
point = record {
  generators_ring = refl;
  generators_target = refl;
  generators_minimal = record {
    basis = x_row ∷ [];
    reduced = variable-span;
    kept = inr (generator-needed, ([], refl, refl));
  };
  relations_ring = refl;
  relations_target = refl;
  relations_minimal = record {
    basis = point_relations.rows;
    reduced =
        IsReducedBasis-same ones (InSpan point_relations) (IsRelation point_generator (InSpan embedded_relations))
        relation-back relation-there point_relations.rows (both-span (pos 1));
    kept = both-kept (pos 1);
  };
}

-- the two first steps of its resolution
module _ (steps : ℕ → Matrix) (x : CartanEilenberg) (d : IsBidualOf embedded_relations 2 steps x) where
  step_first : steps 0 ≡ embedded_relations
  step_first = unique_first_step embedded_relations plain_ring embedded-matrix (steps 0) embedded_relations d.first own_step

  step_next : steps 1 ≡ syzygies
  step_next =
      unique_next_step embedded_relations plain_ring (steps 1) syzygies
      (subst (λ (m : Matrix). IsNextStep m (steps 1)) step_first (d.next 0)) syzygy_step

  no_maps : HasNoMapsToRing x
  no_maps =
      minimal_none (plain 101) (IsSyzygy (dual_maps steps 0)) (InSpan (arriving (plain 101) (dual_maps steps) 0))
      (λ v h. dual-free v (subst (λ (m : Matrix). IsSyzygy (transposed m) v) step_first h))
      (x.homology 0 0).rows (d.cartan.homology 0).presentation.generators_minimal

  -- the lowest column has the multiples of x
  lowest : (m : Vector) → IsOfPurity (plain 101) 2 x 1 m ↔ InSpan variable_relation m
  lowest =
      factored_part embedded_relations 1 steps x field embedded-matrix d no_maps (basis_row ∷ []) (factor_row ∷ [])
      (is_factor (dual_maps steps) (ap transposed step_first) (ap transposed step_next))

  none : (m : Vector) → IsOfPurity (plain 101) 2 x 0 m ↔ InSpan embedded_relations m
  none m = (rising embedded_relations 2 steps x field embedded-matrix d 0 0 (omega arith) m).1

  parts : IsPurityPart embedded_relations 2 x 0 point_generator point_relations
      × IsPurityPart embedded_relations 2 x 1 (identity (plain 101) (pos 0 ∷ [])) variable_relation
      × IsPurityPart embedded_relations 2 x 2 (matrix_of (plain 101) (pos 0 ∷ []) []) (matrix_of (plain 101) [] [])
  parts = (
    IsPresentation-same (plain 101) (pos 0 ∷ []) (InSpan variable_relation) (InSpan embedded_relations) point_generator
        point_relations point (IsOfPurity (plain 101) 2 x 1) (IsOfPurity (plain 101) 2 x 0)
        (λ m. (lowest m).1) (λ m. (lowest m).0) (λ m. (none m).1) (λ m. (none m).0),
    IsPresentation-same (plain 101) (pos 0 ∷ []) (IsAny (plain 101) (pos 0 ∷ [])) (InSpan variable_relation)
        (identity (plain 101) (pos 0 ∷ [])) variable_relation own_presentation (IsOfPurity (plain 101) 2 x 2)
        (IsOfPurity (plain 101) 2 x 1) (torsion_in_lower_columns embedded_relations 2 steps x field embedded-matrix d no_maps)
        (λ m h. subst (λ ds. IsVector (plain 101) ds m)
        (augmentation-degrees embedded_relations 2 steps x field embedded-matrix d) h.coefficients)
        (λ m. (lowest m).1) (λ m. (lowest m).0),
    no_highest_part embedded_relations 2 steps x field embedded-matrix d no_maps,
  )

  submodule : IsPuritySubmodule embedded_relations 2 x 1 point_generator point_relations
  submodule =
      IsPresentation-same (plain 101) (pos 0 ∷ []) (InSpan variable_relation) (InSpan embedded_relations) point_generator
      point_relations point (IsOfPurity (plain 101) 2 x 1) (InSpan embedded_relations)
      (λ m. (lowest m).1) (λ m. (lowest m).0) (λ m h. h) (λ m h. h)

  refuses : IsPurityPart embedded_relations 2 x 1 (identity (plain 101) (pos 0 ∷ [])) embedded_relations → ⊥
  refuses h =
      let same =
      ((purity_parts embedded_relations 2 steps x field embedded-matrix d 1).1 (identity (plain 101) (pos 0 ∷ []))
      embedded_relations (identity (plain 101) (pos 0 ∷ [])) variable_relation h parts.1).1 in
      absurd (omega (arith, ap (λ (m : Matrix). length m.rows) same))

pub embedded-bidual : HasEmbeddedBidual
embedded-bidual =
    bidual_of_variables 2 (omega arith) (omega arith) embedded_relations field embedded-matrix (search arith)

pub no-embedded_maps : HasNoEmbeddedMaps
no-embedded_maps = no_maps

pub embedded-parts : HasEmbeddedParts
embedded-parts = parts

pub embedded-submodule : HasEmbeddedSubmodule
embedded-submodule = submodule

pub refuses-without_point : RefusesWithoutPoint
refuses-without_point = refuses
