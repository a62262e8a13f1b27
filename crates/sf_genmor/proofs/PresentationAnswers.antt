-- What the plan of a presentation answers: the one presentation of the module of a reduced basis modulo a span.
use Rattle.std.proofs.Common.{◌≡◌, ℕ, List, [], ◌∷◌, Ok, refl, sym, ◌∙◌, subst, ℤ}
use Rattle.std.specs.List.{AllByRecursion}
use Rattle.sf_algebra.specs.Matrices.{Matrix, row_degrees, IsMatrix}
use Rattle.sf_algebra.specs.Rings.{Ring, IsRing, IsOverField}
use Rattle.sf_algebra.specs.Vectors.{Vector, IsVector}
use Rattle.sf_algebra.proofs.Monomials.Weights.{field_ring}
use Rattle.sf_groebner.specs.MinimalGenerators.{AreKept, AreMinimal, matrix_of}
use Rattle.sf_groebner.specs.Presentations.{AreRelationsModulo, IsPresentation, IsRelation, IsZero}
use Rattle.sf_groebner.specs.ReducedBases.{IsReducedBasis}
use Rattle.sf_groebner.specs.Spans.{InSpan}
use Rattle.sf_groebner.proofs.Spanning.Modules.{IsModuleLike}
use Rattle.sf_groebner.proofs.Spanning.SameModules.{IsReducedBasis-same}
use Rattle.sf_groebner.proofs.Spanning.Spans.{span_module}
use Rattle.sf_groebner.proofs.Uniqueness.MinimalGenerators.{AreMinimal-same, HasOneBasis}
use Rattle.sf_groebner.proofs.Uniqueness.PresentedModules.{IsMatrix-relations}
use Rattle.sf_groebner.proofs.Uniqueness.Presentations.{unique_presentation}
use Rattle.sf_groebner.proofs.Uniqueness.ReducedCoordinates.{InSpan-relations, IsRelation-span}
use Rattle.sf_groebner.proofs.Uniqueness.UniqueBases.{unique_reduced}
use Rattle.sf_groebner.proofs.WorkedExamples.FreeRelations.{reduced-no_rows, row_combination-no_rows, span-no_rows}
use Rattle.sf_matrix.specs.Plans.{answer, bind}
use Rattle.sf_matrix.specs.Questions.{IsSensible, kept}
use Rattle.sf_matrix.specs.Runs.{Run}
use Rattle.sf_matrix.proofs.Plans.Readings.{answer_is, ask_is, bind_is}
use Rattle.sf_genmor.specs.declared.presentation.Presentation.{Presentation}
use Rattle.sf_genmor.specs.LookPlans.{IsBasisMatrix, IsRelationMatrix}
use Rattle.sf_genmor.specs.PresentationPlans.{generators_plan, present_plan, relations_plan, relations_plan_of, without_rows}
use Rattle.sf_genmor.specs.PresentedSpans.{PresentsSpan}
use Rattle.sf_genmor.proofs.LookAnswers.{blocks_is, unique_basis}

-- the rows that are kept
pub record KeepsGenerators (n base g : Matrix) : Type 0 where
  pub rows : List Vector
  pub sensible : IsSensible (kept base n.rows)
  pub kept_rows : AreKept base.ring (InSpan base) [] n.rows rows
  pub same : g ≡ matrix_of n.ring n.target rows

pub generators_are : (limit : ℕ) (n base : Matrix) (looked : List Matrix) (g : Matrix)
    → Run limit (generators_plan n base) looked (Ok g) → KeepsGenerators n base g
unfolding generators_plan
generators_are limit n base looked g run =
    let found = ask_is limit (kept base n.rows) (λ rows. answer (matrix_of n.ring n.target rows)) looked g run in
    record {
      rows = found.0;
      sensible = found.1;
      kept_rows = found.2;
      same = answer_is limit (matrix_of n.ring n.target found.0) looked g found.3;
    }

-- the reduced relations, whether or not there are generators
pub relations_are : (limit : ℕ) (g base : Matrix) (looked : List Matrix) (r : Matrix) → g.ring ≡ base.ring
    → Run limit (relations_plan g base) looked (Ok r) → IsRelationMatrix g base r
unfolding relations_plan
relations_are limit g base looked r rings run = by g.rows refl run
  where
    by : (rows : List Vector) → g.rows ≡ rows → Run limit (relations_plan_of g base rows) looked (Ok r)
        → IsRelationMatrix g base r
    by [] none h =
        let empty : matrix_of g.ring g.target [] ≡ g = λ i. record { ring = g.ring; target = g.target; rows = sym none i } in
        subst (IsRelationMatrix g base) (sym (answer_is limit (matrix_of g.ring (row_degrees g) []) looked r h))
        (record {
          ring = refl;
          target = refl;
          reduced =
              subst (λ (m : Matrix). IsReducedBasis g.ring.weights (IsRelation m (InSpan base)) []) empty
              (reduced-no_rows g.ring g.target (InSpan base));
        })
    by (v ∷ vs) e h = blocks_is limit g base looked r rings h

-- what is kept modulo no rows is minimal modulo 0
pub minimal_modulo_none : (ring : Ring) → IsRing ring → (target : List ℤ) (N : Vector → Type 0) (rows kept_rows : List Vector)
    → IsReducedBasis ring.weights N rows → AreKept ring (InSpan (matrix_of ring target [])) [] rows kept_rows
    → AreMinimal ring N IsZero kept_rows
minimal_modulo_none ring positive target N rows kept_rows reduced h =
    AreMinimal-same ring target N N (InSpan (matrix_of ring target [])) IsZero (λ v k. k) (λ v k. k)
    (span-no_rows ring positive target) zero_inside kept_rows
    (record { basis = rows; reduced = reduced; kept = h })
  where
    zero_inside : (v : Vector) → IsZero v → InSpan (matrix_of ring target []) v
    zero_inside v none = record {
      coefficients = record { degree = v.degree; terms = [] };
      homogeneous = record { canonical = record { descending = tt; residues = tt }; homogeneous = tt };
      value = λ i. record { degree = v.degree; terms = (row_combination-no_rows ring positive [] ∙ sym none) i };
    }

-- generators, relations and reduced relations of a module N modulo the span of a base
pub record PresentsModule (n base : Matrix) (N : Vector → Type 0) (p : Presentation) : Type 0 where
  pub field : IsOverField n.ring
  pub base_matrix : IsMatrix base
  pub presentation : IsPresentation n.ring n.target N (InSpan base) p.gens p.rels
  pub relations : IsRelationMatrix p.gens base p.reduced_rels

module _ (limit : ℕ) (n base : Matrix) (rings : base.ring ≡ n.ring) (N : Vector → Type 0)
    (reduced : IsReducedBasis n.ring.weights N n.rows) where
  module _ (g r s : Matrix) (first : KeepsGenerators n base g) (relations : IsRelationMatrix g base r)
      (last : KeepsGenerators r (without_rows r) s) where
    field_here : IsOverField n.ring
    field_here = subst IsOverField rings first.sensible.0

    generators_ring : g.ring ≡ n.ring
    generators_ring = λ i. (first.same i).ring

    relations_ring : r.ring ≡ n.ring
    relations_ring = relations.ring ∙ generators_ring

    presents_parts : PresentsModule n base N (record { gens = g; rels = s; reduced_rels = r })
    presents_parts = record {
      field = field_here;
      base_matrix = first.sensible.1;
      presentation = record {
        generators_ring = generators_ring;
        generators_target = λ i. (first.same i).target;
        generators_minimal =
            subst (λ rows. AreMinimal n.ring N (InSpan base) rows) (λ i. (sym first.same i).rows)
            (record {
              basis = n.rows;
              reduced = reduced;
              kept = subst (λ ring. AreKept ring (InSpan base) [] n.rows first.rows) rings first.kept_rows;
            });
        relations_ring = (λ i. (last.same i).ring) ∙ relations_ring;
        relations_target = (λ i. (last.same i).target) ∙ relations.target;
        relations_minimal =
            subst (λ rows. AreMinimal n.ring (IsRelation g (InSpan base)) IsZero rows) (λ i. (sym last.same i).rows)
            (minimal_modulo_none n.ring (field_ring field_here) r.target (IsRelation g (InSpan base)) r.rows last.rows
            (subst (λ (ring : Ring). IsReducedBasis ring.weights (IsRelation g (InSpan base)) r.rows) generators_ring relations.reduced)
            (subst (λ ring. AreKept ring (InSpan (matrix_of ring r.target [])) [] r.rows last.rows) relations_ring last.kept_rows));
      };
      relations = relations;
    }

  pub presents_module : (looked : List Matrix) (p : Presentation) → Run limit (present_plan n base) looked (Ok p)
      → PresentsModule n base N p
  unfolding present_plan
  presents_module looked p run =
      let answered = λ (g r s : Matrix). answer (record { gens = g; rels = s; reduced_rels = r }) in
      let minimal = λ (g r : Matrix). bind (generators_plan r (without_rows r)) (answered g r) in
      let related = λ (g : Matrix). bind (relations_plan g base) (minimal g) in
      let first = bind_is limit (generators_plan n base) related looked p run in
      let g = first.0 in
      let keeps = generators_are limit n base first.1 g first.3 in
      let second = bind_is limit (relations_plan g base) (minimal g) first.2 p first.4 in
      let r = second.0 in
      let g_ring : g.ring ≡ base.ring = (λ i. (keeps.same i).ring) ∙ sym rings in
      let relations = relations_are limit g base second.1 r g_ring second.3 in
      let third = bind_is limit (generators_plan r (without_rows r)) (answered g r) second.2 p second.4 in
      let s = third.0 in
      let last = generators_are limit r (without_rows r) third.1 s third.3 in
      subst (PresentsModule n base N)
      (sym (answer_is limit (record { gens = g; rels = s; reduced_rels = r }) third.2 p third.4))
      (presents_parts g r s keeps relations last)

module _ (n base : Matrix) (rings : base.ring ≡ n.ring) (N : Vector → Type 0) (p : Presentation)
    (h : PresentsModule n base N p) where
  -- the relations are all relations, and the reduced ones are their reduced basis
  pub relations_modulo : AreRelationsModulo p.gens base p.rels
  relations_modulo = record {
    base_matrix = h.base_matrix;
    base_ring = h.presentation.generators_ring ∙ sym rings;
    ring = h.presentation.relations_ring ∙ sym h.presentation.generators_ring;
    target = h.presentation.relations_target;
    minimal =
        subst (λ ring. AreMinimal ring (IsRelation p.gens (InSpan base)) IsZero p.rels.rows)
        (sym h.presentation.generators_ring) h.presentation.relations_minimal;
  }

  pub reduced-relations : IsBasisMatrix p.rels p.reduced_rels
  reduced-relations =
      let given = relations_modulo in
      let prime : IsOverField p.gens.ring = subst IsOverField (sym h.presentation.generators_ring) h.field in
      record {
        ring = h.relations.ring ∙ sym given.ring;
        target = h.relations.target ∙ sym given.target;
        reduced =
            IsReducedBasis-same p.rels.ring.weights (IsRelation p.gens (InSpan base)) (InSpan p.rels)
            (InSpan-relations p.gens base p.rels prime given) (IsRelation-span p.gens base p.rels prime given)
            p.reduced_rels.rows
            (subst (λ (ring : Ring). IsReducedBasis ring.weights (IsRelation p.gens (InSpan base)) p.reduced_rels.rows) (sym given.ring) h.relations.reduced);
      }

-- what was given is a matrix
pub generators_matrix : (limit : ℕ) (n base : Matrix) → base.ring ≡ n.ring → base.target ≡ n.target → (looked : List Matrix)
    (p : Presentation) → Run limit (present_plan n base) looked (Ok p) → IsMatrix n
unfolding present_plan
generators_matrix limit n base rings targets looked p run =
    let first = bind_is limit (generators_plan n base) _ looked p run in
    let keeps = generators_are limit n base first.1 first.0 first.3 in
    subst (λ ring. AllByRecursion (IsVector ring n.target) n.rows) rings
    (subst (λ ds. AllByRecursion (IsVector base.ring ds) n.rows) targets keeps.sensible.2)

-- presentations from equal parts
same_presentation : (p q : Presentation) → p.gens ≡ q.gens → p.rels ≡ q.rels → p.reduced_rels ≡ q.reduced_rels → p ≡ q
same_presentation p q gens rels reduced = λ i. record { gens = gens i; rels = rels i; reduced_rels = reduced i }

module _ (n base : Matrix) (prime : IsOverField n.ring) (matrix : IsMatrix n) (base_matrix : IsMatrix base)
    (rings : base.ring ≡ n.ring) where
  -- no other presentation presents the same span
  pub unique_presented_span : (p q : Presentation) → PresentsSpan n base p → PresentsSpan n base q → q ≡ p
  unique_presented_span p q h k =
      let positive : IsRing n.ring = field_ring prime in
      let over_base = span_module base (subst (λ ring. IsRing ring) (sym rings) positive) base_matrix in
      let inside = subst (λ ring. IsModuleLike ring base.target (InSpan base)) rings over_base in
      let one : HasOneBasis n.ring.weights (InSpan n) =
      unique_reduced n.ring positive n.target (InSpan n) (span_module n positive matrix) in
      let same =
      unique_presentation n.ring positive n.target base.target (InSpan n) (InSpan base) one inside q.gens q.rels p.gens p.rels
      k.presentation h.presentation in
      let relations = IsMatrix-relations n.ring n.target (InSpan n) (InSpan base) p.gens p.rels h.presentation in
      let relations_positive = subst (λ ring. IsRing ring) (sym h.presentation.relations_ring) positive in
      let other = subst (λ m. IsBasisMatrix m q.reduced_rels) same.1 k.reduced in
      same_presentation q p same.0 same.1
      (unique_basis p.rels relations_positive relations p.reduced_rels q.reduced_rels h.reduced other)
