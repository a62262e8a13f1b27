-- What a call over a table has met of the plan of a presentation, at each of its exits.
use Rattle.std.proofs.Common.{◌≡◌, inr, ℕ, Result, List, [], ◌∷◌, length, Err, Ok, refl, sym, ◌∙◌, ap, subst, arith}
use Rattle.sf_algebra.specs.Matrices.{Matrix, row_degrees, degrees_of}
use Rattle.sf_algebra.specs.Rings.{IsRing, IsOverField}
use Rattle.sf_algebra.specs.Vectors.{Vector}
use Rattle.sf_algebra.proofs.Monomials.Weights.{field_ring}
use Rattle.sf_algebra.proofs.Vectors.Rows.{row_combination-nil}
use Rattle.sf_groebner.specs.MinimalGenerators.{matrix_of}
use Rattle.sf_groebner.proofs.WorkedExamples.FreeRelations.{span-no_rows}
use Rattle.sf_matrix.specs.declared.basis.BaseFault.TheVariants.{Memory}
use Rattle.sf_matrix.specs.declared.basis.BaseFault.{BaseFault}
use Rattle.sf_matrix.specs.KeptNumbers.{SpansInto}
use Rattle.sf_matrix.specs.Meets.{Meets}
use Rattle.sf_matrix.specs.Plans.{Plan, answer, bind}
use Rattle.sf_matrix.specs.Runs.{Run}
use Rattle.sf_matrix.specs.Tables.{Table}
use Rattle.sf_matrix.proofs.Plans.Readings.{answer_is}
use Rattle.sf_matrix.proofs.Plans.Rules.{meets_answer, meets_fails, meets_stops, meets_then}
use Rattle.sf_genmor.specs.declared.presentation.Presentation.{Presentation}
use Rattle.sf_genmor.specs.LookPlans.{blocks_plan}
use Rattle.sf_genmor.specs.PresentationPlans.{IsPresentable, generators_plan, present_plan, relations_plan, relations_plan_of, without_rows}
use Rattle.sf_genmor.proofs.PresentationAnswers.{generators_are}
use Rattle.sf_genmor.proofs.SmallLooks.{HasSmallRows, small_blocks, small_candidates_of}

-- the relations of generators, by whether there are any
pub relations_none : {t : Table} (g base : Matrix) {r : Matrix} → length g.rows ≡ 0 → r ≡ matrix_of g.ring [] []
    → Meets t (relations_plan g base) (Ok r) t
unfolding relations_plan
relations_none {t} g base {r} none same = by g.rows refl none
  where
    by : (rows : List Vector) → g.rows ≡ rows → length rows ≡ 0 → Meets t (relations_plan_of g base rows) (Ok r) t
    by [] e k = meets_answer (same ∙ ap (λ rows. matrix_of g.ring (degrees_of rows) []) (sym e))
    by (v ∷ vs) e k = absurd (omega arith)

pub relations_some : {t u : Table} (g base : Matrix) {end : Result Matrix BaseFault} → (length g.rows ≡ 0 → ⊥)
    → Meets t (blocks_plan g base) end u → Meets t (relations_plan g base) end u
unfolding relations_plan
relations_some {t} {u} g base {end} some h = by g.rows some
  where
    by : (rows : List Vector) → (length rows ≡ 0 → ⊥) → Meets t (relations_plan_of g base rows) end u
    by [] fails = absurd (fails refl)
    by (v ∷ vs) fails = h

small_relations : (limit : ℕ) (g base : Matrix) (looked : List Matrix) (r : Matrix) → g.ring ≡ base.ring
    → g.target ≡ base.target → Run limit (relations_plan g base) looked (Ok r) → HasSmallRows limit r
unfolding relations_plan
small_relations limit g base looked r rings targets run = by g.rows run
  where
    by : (rows : List Vector) → Run limit (relations_plan_of g base rows) looked (Ok r) → HasSmallRows limit r
    by [] h = inr (λ i. (answer_is limit (matrix_of g.ring (row_degrees g) []) looked r h i).rows)
    by (v ∷ vs) h = small_blocks limit g base rings targets looked r h

-- the zero module lies in each span
pub none-inside : (m : Matrix) → IsRing m.ring → SpansInto (without_rows m) m
none-inside m positive v h = record {
  coefficients = record { degree = v.degree; terms = [] };
  homogeneous = record { canonical = record { descending = tt; residues = tt }; homogeneous = tt };
  value = λ i. record {
    degree = v.degree;
    terms = (row_combination-nil m.ring positive.modulus m.rows ∙ sym (span-no_rows m.ring positive m.target v h)) i;
  };
}

-- relations that a look found may be presented modulo 0
pub presentable_relations : {t u : Table} (g base r none : Matrix) → none ≡ without_rows r → IsOverField r.ring
    → base.ring ≡ g.ring → base.target ≡ g.target → Meets t (relations_plan g base) (Ok r) u → IsPresentable u.limit r none
presentable_relations {t} {u} g base r none same field rings targets h =
    subst (λ m. IsPresentable u.limit r m) (sym same)
    (record {
      ring = refl;
      target = refl;
      inside = none-inside r (field_ring field);
      candidates = small_candidates_of u.limit r (without_rows r)
          (small_relations u.limit g base h.looked r (sym rings) (sym targets) (subst (λ l. Run l (relations_plan g base) h.looked (Ok r)) (sym h.grown.limit) h.run));
    })

-- the three parts, one after another
abbrev told : Matrix → Matrix → Matrix → Plan Presentation
told g r s = answer (record { gens = g; rels = s; reduced_rels = r })

abbrev after_relations : Matrix → Matrix → Plan Presentation
after_relations g r = bind (generators_plan r (without_rows r)) (told g r)

abbrev after_generators : Matrix → Matrix → Plan Presentation
after_generators base g = bind (relations_plan g base) (after_relations g)

present_plan-bind : (n base : Matrix) → bind (generators_plan n base) (after_generators base) ≡ present_plan n base
unfolding present_plan
present_plan-bind n base = refl

module _ {t u : Table} (n base : Matrix) where
  pub first_failed : {fault : BaseFault} → Meets t (generators_plan n base) (Err fault) u → Meets t (present_plan n base) (Err fault) u
  first_failed {fault} h =
      subst (λ plan. Meets t plan (Err fault) u) (present_plan-bind n base) (meets_fails (after_generators base) h)

  module _ {g : Matrix} (first : Meets t (generators_plan n base) (Ok g) u) where
    -- generators stand where the candidates do
    pub generators-ring : g.ring ≡ n.ring
    generators-ring = λ i. ((generators_are t.limit n base first.looked g first.run).same i).ring

    pub generators-target : g.target ≡ n.target
    generators-target = λ i. ((generators_are t.limit n base first.looked g first.run).same i).target

    module _ {v : Table} where
      pub second_failed : {fault : BaseFault} → Meets u (relations_plan g base) (Err fault) v
          → Meets t (present_plan n base) (Err fault) v
      second_failed {fault} h =
          subst (λ plan. Meets t plan (Err fault) v) (present_plan-bind n base)
          (meets_then (after_generators base) first (meets_fails (after_relations g) h))

      module _ {r : Matrix} (second : Meets u (relations_plan g base) (Ok r) v) where
        pub second_cut : Meets t (present_plan n base) (Err Memory) v
        second_cut =
            subst (λ plan. Meets t plan (Err Memory) v) (present_plan-bind n base)
            (meets_then (after_generators base) first (meets_stops (after_relations g) second))

        module _ {w : Table} (none : Matrix) (same : none ≡ without_rows r) where
          pub third_failed : {fault : BaseFault} → Meets v (generators_plan r none) (Err fault) w
              → Meets t (present_plan n base) (Err fault) w
          third_failed {fault} h =
              subst (λ plan. Meets t plan (Err fault) w) (present_plan-bind n base)
              (meets_then (after_generators base) first
              (meets_then (after_relations g) second
              (meets_fails (told g r) (subst (λ m. Meets v (generators_plan r m) (Err fault) w) same h))))

          pub third_found : {s : Matrix} → Meets v (generators_plan r none) (Ok s) w
              → Meets t (present_plan n base) (Ok (record { gens = g; rels = s; reduced_rels = r })) w
          third_found {s} h =
              subst (λ plan. Meets t plan (Ok (record { gens = g; rels = s; reduced_rels = r })) w) (present_plan-bind n base)
              (meets_then (after_generators base) first
              (meets_then (after_relations g) second
              (meets_then (told g r) (subst (λ m. Meets v (generators_plan r m) (Ok s) w) same h) (meets_answer refl))))
