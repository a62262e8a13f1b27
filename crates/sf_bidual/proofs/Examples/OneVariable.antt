-- The residue field of one variable: its presentation, that x has no syzygies, so no vector is sent to 0 by its transpose, and
-- what follows for the filtration.
use Rattle.std.proofs.Common.{◌≡◌, ◌<◌, ℕ, zero, suc, false, true, List, [], ◌∷◌, length, inr, refl, sym, ap, ◌∙◌, subst, arith, ℤ, pos, negsuc, ◌+ℤ◌}
use Rattle.std.proofs.lemmas.Int.{ints}
use Rattle.std.specs.List.{AllByRecursion}
use Rattle.sf_algebra.specs.Matrices.{IsMatrix, Matrix}
use Rattle.sf_algebra.specs.MatrixOperations.{identity, row_combination, transposed, unit_vector}
use Rattle.sf_algebra.specs.Monomials.{Monomial, monomial_degree}
use Rattle.sf_algebra.specs.Multiples.{combination, combination_terms}
use Rattle.sf_algebra.specs.Residues.{product_mod, sum_mod}
use Rattle.sf_algebra.specs.Rings.{ones, plain}
use Rattle.sf_algebra.specs.Sums.{insert, normal}
use Rattle.sf_algebra.specs.Terms.{Term}
use Rattle.sf_algebra.specs.Vectors.{IsHomogeneous, IsVector, Place, Vector, generator_degree}
use Rattle.sf_algebra.proofs.Vectors.HomogeneousVectors.{row_combination-identity}
use Rattle.sf_algebra.proofs.Vectors.Rows.{row_combination-nil}
use Rattle.sf_groebner.specs.Criterion.{IsMonicRow}
use Rattle.sf_groebner.specs.Examples.{term, vector}
use Rattle.sf_groebner.specs.Homology.{IsAny}
use Rattle.sf_groebner.specs.MinimalGenerators.{AreKept, IsInSum, matrix_of}
use Rattle.sf_groebner.specs.Presentations.{IsPresentation, IsRelation, IsZero}
use Rattle.sf_groebner.specs.ReducedBases.{HasDividedLead, IsReducedBasis}
use Rattle.sf_groebner.specs.ResolutionExamples.{x_row}
use Rattle.sf_groebner.specs.Resolutions.{IsFirstStep}
use Rattle.sf_groebner.specs.Spans.{InSpan, IsGraphVector, IsSyzygy, combined}
use Rattle.sf_groebner.proofs.PairTheorems.MonicSums.{no_syzygies, not_in_sum}
use Rattle.sf_groebner.proofs.PartsOfBases.GraphParts.{reduced-span}
use Rattle.sf_groebner.proofs.Spanning.SameModules.{IsReducedBasis-same}
use Rattle.sf_groebner.proofs.Spanning.SpanCombinations.{span_submodule}
use Rattle.sf_groebner.proofs.Uniqueness.PresentedModules.{IsPresentation-same}
use Rattle.sf_groebner.proofs.Uniqueness.Presentations.{unique_first_step}
use Rattle.sf_groebner.proofs.WorkedExamples.GraphBases.{IsGraphCandidate, reduced_graph}
use Rattle.sf_presented.proofs.FreeBases.{reduced-any}
use Rattle.sf_hilbert.proofs.WithoutRows.{minimal_none}
use Rattle.sf_bicomplex.proofs.Examples.FreeSpots.{plain_ring}
use Rattle.sf_bicomplex.proofs.Examples.TailPages.{field}
use Rattle.sf_bidual.specs.Bidual.{dual_maps}
use Rattle.sf_bidual.specs.CartanEilenberg.{arriving}
use Rattle.sf_bidual.specs.Purity.{IsOfPurity}
use Rattle.sf_bidual.specs.PurityExample.{HasNoVariableMaps, HasVariableBidual, HasVariableParts, RefusesVariableAsFree, variable_relation}
use Rattle.sf_bidual.proofs.Bounded.Modules.{bidual_of_variables}
use Rattle.sf_bidual.proofs.HighestColumns.HighestColumn.{no_highest_part, torsion_in_lower_columns}
use Rattle.sf_bidual.proofs.PurityParts.Parts.{purity_parts, rising}
use Rattle.sf_bidual.proofs.PurityParts.Presented.{augmentation-degrees}

-- one monic row has no syzygies but 0
pub monic_free : (target : List ℤ) (v : Vector) → IsMonicRow (plain 101) v → (c : Vector)
    → IsSyzygy (matrix_of (plain 101) target (v ∷ [])) c → c.terms ≡ []
monic_free target v monic c h = nothing c.terms ((no_syzygies (plain 101) plain_ring target v monic).complete c h)
  where
    nothing : (ts : List (Term Place)) → HasDividedLead [] ts → ts ≡ []
    nothing [] e = refl
    nothing (t ∷ ts) e = let same : false ≡ true = e in absurd (cc)

pub relation-matrix : IsMatrix variable_relation
relation-matrix = search (arith, ints)

-- the reduced basis of the span of x
abbrev graph_row : List Vector
graph_row = vector 1 (term 1 0 (1 ∷ []) ∷ term 1 1 [] ∷ []) ∷ []

inside : AllByRecursion (IsGraphVector variable_relation) graph_row
unfolding combination combination_terms normal insert sum_mod product_mod
inside = (record { vector = search (arith, ints); value = refl }, tt)

candidate : IsGraphCandidate variable_relation graph_row []
candidate = record {
  values = refl;
  units = refl;
  inside = inside;
  monic = search arith;
  pairs = λ i j h k e. absurd (omega (arith, h, k));
  apart = search arith;
  sorted = search arith;
}

pub variable-span : IsReducedBasis ones (InSpan variable_relation) (x_row ∷ [])
variable-span =
    reduced-span variable_relation plain_ring relation-matrix graph_row
    (reduced_graph variable_relation plain_ring graph_row [] candidate)

variable-kept : AreKept (plain 101) IsZero [] (x_row ∷ []) (x_row ∷ [])
variable-kept = inr (
  not_in_sum (plain 101) plain_ring (pos 0 ∷ []) [] tt (λ i j h k e. absurd (omega (arith, k))) x_row (λ e. cc),
  ([], refl, refl),
)

-- x is its own first step
own_step : IsFirstStep variable_relation variable_relation
own_step = record {
  ring = refl;
  target = refl;
  minimal = record { basis = x_row ∷ []; reduced = variable-span; kept = variable-kept };
}

-- no vector of degree 0 is in the span of x
no_constants : (v : Vector) → v.degree ≡ pos 0 → InSpan variable_relation v → v.terms ≡ []
no_constants v e h =
    let c : Vector = h.coefficients in
    let none : c.terms ≡ [] =
    no_terms c.degree (ap (λ (w : Vector). w.degree) h.value ∙ e) c.terms h.homogeneous.homogeneous in
    sym (ap (λ (w : Vector). w.terms) h.value)
    ∙ ap (row_combination (plain 101) variable_relation.rows) none
    ∙ row_combination-nil (plain 101) plain_ring.modulus variable_relation.rows
  where
    no_terms : (d : ℤ) → d ≡ pos 0 → (ts : List (Term Place)) → IsHomogeneous ones (pos 1 ∷ []) d ts → ts ≡ []
    no_terms d e [] h = refl
    no_terms d e (t ∷ ts) h = absurd (first d e t.at.position t.at.monomial (h.0).0 (h.0).1)
      where
        first : (d : ℤ) → d ≡ pos 0 → (i : ℕ) (m : Monomial) → i < 1
            → d ≡ generator_degree (pos 1 ∷ []) i +ℤ pos (monomial_degree ones m) → ⊥
        first d e zero m within same = absurd (omega (arith, ints))
        first d e (suc i) m within same = absurd (omega arith)

generator-needed : IsInSum (plain 101) [] (InSpan variable_relation) (unit_vector (pos 0) 0) → ⊥
generator-needed h =
    not_in_sum (plain 101) plain_ring (pos 0 ∷ []) [] tt (λ i j h k e. absurd (omega (arith, k))) (unit_vector (pos 0) 0)
    (λ e. cc)
    (record {
      first = h.first;
      second = h.second;
      in_module = no_constants h.first h.first_degree h.in_module;
      in_span = h.in_span;
      first_degree = h.first_degree;
      second_degree = h.second_degree;
      sum = h.sum;
    })

abbrev generators : Matrix
generators = identity (plain 101) (pos 0 ∷ [])

generators_combined : (c : Vector) → IsVector (plain 101) (pos 0 ∷ []) c → combined generators c ≡ c
generators_combined c h =
    λ i. record { degree = c.degree; terms = row_combination-identity (plain 101) plain_ring.modulus (pos 0 ∷ []) c h i }

-- the module is presented by its generator and relation
pub own_presentation : IsPresentation (plain 101) (pos 0 ∷ []) (IsAny (plain 101) (pos 0 ∷ [])) (InSpan variable_relation)
    (identity (plain 101) (pos 0 ∷ [])) variable_relation
own_presentation = record {
  generators_ring = refl;
  generators_target = refl;
  generators_minimal = record {
    basis = generators.rows;
    reduced = reduced-any (plain 101) plain_ring (omega arith) (pos 0 ∷ []);
    kept = inr (generator-needed, ([], refl, refl));
  };
  relations_ring = refl;
  relations_target = refl;
  relations_minimal = record {
    basis = x_row ∷ [];
    reduced =
        IsReducedBasis-same ones (InSpan variable_relation) (IsRelation generators (InSpan variable_relation))
        (λ v h. let vector = (span_submodule variable_relation plain_ring relation-matrix).module_like.vectors v h in record {
          coefficients = vector;
          inside = subst (InSpan variable_relation) (sym (generators_combined v vector)) h;
        })
        (λ v h. subst (InSpan variable_relation) (generators_combined v h.coefficients) h.inside) (x_row ∷ []) variable-span;
    kept = variable-kept;
  };
}

-- the transpose of x has no syzygies
abbrev dual_row : Vector
dual_row = vector 0 (term 1 0 (1 ∷ []) ∷ [])

dual_zeros : (v : Vector) → IsSyzygy (transposed variable_relation) v → v.terms ≡ []
dual_zeros = monic_free (negsuc 0 ∷ []) dual_row (search arith)

pub no-variable_maps : HasNoVariableMaps
no-variable_maps steps x d =
    let same : steps 0 ≡ variable_relation =
    unique_first_step variable_relation plain_ring relation-matrix (steps 0) variable_relation d.first own_step in
    minimal_none (plain 101) (IsSyzygy (dual_maps steps 0)) (InSpan (arriving (plain 101) (dual_maps steps) 0))
    (λ v h. dual_zeros v (subst (λ (m : Matrix). IsSyzygy (transposed m) v) same h)) (x.homology 0 0).rows
    (d.cartan.homology 0).presentation.generators_minimal

pub variable-bidual : HasVariableBidual
variable-bidual =
    bidual_of_variables 1 (omega arith) (omega arith) variable_relation field relation-matrix (search arith)

pub variable-parts : HasVariableParts
variable-parts steps x d =
    let none = no-variable_maps steps x d in
    let parts = rising variable_relation 1 steps x field relation-matrix d in (
      IsPresentation-same (plain 101) (pos 0 ∷ []) (IsAny (plain 101) (pos 0 ∷ [])) (InSpan variable_relation) generators
          variable_relation own_presentation (IsOfPurity (plain 101) 1 x 1) (IsOfPurity (plain 101) 1 x 0)
          (torsion_in_lower_columns variable_relation 1 steps x field relation-matrix d none)
          (λ m h. subst (λ ds. IsVector (plain 101) ds m)
          (augmentation-degrees variable_relation 1 steps x field relation-matrix d) h.coefficients)
          (λ m. (parts 0 0 (omega arith) m).1.1) (λ m. (parts 0 0 (omega arith) m).1.0),
      no_highest_part variable_relation 1 steps x field relation-matrix d none,
    )

pub refuses-variable_as_free : RefusesVariableAsFree
refuses-variable_as_free steps x d h =
    let same =
    ((purity_parts variable_relation 1 steps x field relation-matrix d 1).1 generators variable_relation
    (matrix_of (plain 101) (pos 0 ∷ []) []) (matrix_of (plain 101) [] []) h (variable-parts steps x d).1).0 in
    absurd (omega (arith, ap (λ (m : Matrix). length m.rows) same))
