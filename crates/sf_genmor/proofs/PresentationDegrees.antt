-- The degrees of presentations: the generators were looked at in a small stack, and the leads of relations are within the limit.
use Rattle.std.proofs.Common.{◌≡◌, inl, inr, ℕ, zero, suc, ◌≤◌, ◌<◌, List, [], ◌∷◌, ◌++◌, length, map, Ok, refl, sym, ◌∙◌, ap, subst, ℤ, pos, neg_ℤ, ◌+ℤ◌, ◌≤ℤ◌, arith}
use Rattle.std.proofs.lemmas.Int.{ints}
use Rattle.std.specs.Prelude.{◌⊎◌}
use Rattle.std.specs.List.{AllByRecursion}
use Rattle.sf_algebra.specs.Bounds.{GREATEST_DEGREE, IsSmallDegree}
use Rattle.sf_algebra.specs.Matrices.{Matrix, row_degrees, IsMatrix}
use Rattle.sf_algebra.specs.MatrixOperations.{stacked}
use Rattle.sf_algebra.specs.Monomials.{monomial_degree}
use Rattle.sf_algebra.specs.Rings.{Weights}
use Rattle.sf_algebra.specs.Terms.{Term}
use Rattle.sf_algebra.specs.Vectors.{Place, Vector, IsHomogeneous, IsVector, generator_degree}
use Rattle.sf_algebra.proofs.Basics.Lists.{AllByRecursion-weaken}
use Rattle.sf_algebra.proofs.GradedMatrices.Stacks.{AllByRecursion-map}
use Rattle.sf_groebner.specs.BasisParts.{syzygies_of}
use Rattle.sf_groebner.specs.ReducedBases.{IsMonic}
use Rattle.sf_groebner.specs.Small.{HasLeadUpTo, IsSmall, IsSmallReducedBasis}
use Rattle.sf_groebner.specs.Spans.{InSpan}
use Rattle.sf_groebner.proofs.Basics.Items.{AllByRecursion-both}
use Rattle.sf_groebner.proofs.Uniqueness.PresentedModules.{AllByRecursion-kept}
use Rattle.sf_matrix.specs.Plans.{answer, bind}
use Rattle.sf_matrix.specs.Runs.{IsLookedAt, Run}
use Rattle.sf_matrix.proofs.Pieces.{AllByRecursion-unmap}
use Rattle.sf_matrix.proofs.Plans.Readings.{answer_is, bind_is}
use Rattle.sf_genmor.specs.declared.presentation.Presentation.{Presentation}
use Rattle.sf_genmor.specs.LookPlans.{IsRelationMatrix, first_blocks}
use Rattle.sf_genmor.specs.PresentationDegrees.{HasSmallDegrees, IsDegreeUpTo}
use Rattle.sf_genmor.specs.PresentationPlans.{generators_plan, present_plan, relations_plan, relations_plan_of, without_rows}
use Rattle.sf_genmor.proofs.LookAnswers.{blocks_is}
use Rattle.sf_genmor.proofs.PresentationAnswers.{KeepsGenerators, generators_are}
use Rattle.sf_genmor.proofs.SmallLooks.{blocks_small_look, front_degrees, small_first_blocks}

-- a generator's degree, where all are small
generator_degree-small : (degrees : List ℤ) (i : ℕ) → i < length degrees → AllByRecursion IsSmallDegree degrees
    → IsSmallDegree (generator_degree degrees i)
generator_degree-small [] i within h = absurd (omega arith)
generator_degree-small (d ∷ ds) zero within h = h.0
generator_degree-small (d ∷ ds) (suc i) within h = generator_degree-small ds i (omega arith) h.1

-- a row that begins with a lead within the limit
lead_degree : (weights : Weights) (limit : ℕ) (degrees : List ℤ) (d : ℤ) (ts : List (Term Place))
    → AllByRecursion IsSmallDegree degrees → IsMonic ts → HasLeadUpTo weights limit ts → IsHomogeneous weights degrees d ts
    → IsDegreeUpTo limit d
lead_degree weights limit degrees d [] small monic low homogeneous = absurd monic
lead_degree weights limit degrees d (t ∷ ts) small monic low homogeneous =
    let bounds = generator_degree-small degrees t.at.position homogeneous.0.0 small in
    subst (IsDegreeUpTo limit) (sym homogeneous.0.1)
    (sum (generator_degree degrees t.at.position) (monomial_degree weights t.at.monomial) bounds.0 bounds.1 low)
  where
    sum : (g : ℤ) (k : ℕ) → neg_ℤ GREATEST_DEGREE ≤ℤ g → g ≤ℤ GREATEST_DEGREE → k ≤ limit → IsDegreeUpTo limit (g +ℤ pos k)
    sum g k least greatest within = (omega (arith, ints), omega (arith, ints))

module _ (limit : ℕ) (b : Matrix) (small : IsSmallReducedBasis limit b) (degrees : AllByRecursion IsSmallDegree b.target) where
  -- the rows of a small reduced basis over small degrees
  pub basis_degrees : IsMatrix b → AllByRecursion (IsDegreeUpTo limit) (row_degrees b)
  basis_degrees matrix =
      AllByRecursion-map (IsDegreeUpTo limit) (λ (v : Vector). v.degree) b.rows
      (AllByRecursion-both (λ (v : Vector). IsMonic v.terms × HasLeadUpTo b.ring.weights limit v.terms) (IsVector b.ring b.target)
      (λ (v : Vector). IsDegreeUpTo limit v.degree)
      (λ v leads vector. lead_degree b.ring.weights limit b.target v.degree v.terms degrees leads.0 leads.1 vector.homogeneous)
      b.rows
      (AllByRecursion-both (λ (v : Vector). IsMonic v.terms) (λ (v : Vector). HasLeadUpTo b.ring.weights limit v.terms) _
      (λ v monic low. (monic, low)) b.rows small.reduced.monic small.within.low)
      matrix)

-- a matrix of relations is one
IsMatrix-relation : (g base r : Matrix) → IsRelationMatrix g base r → IsMatrix r
IsMatrix-relation g base r h =
    AllByRecursion-weaken _ (IsVector r.ring r.target)
    (λ v k. subst (λ ring. IsVector ring r.target v) (sym h.ring) (subst (λ ds. IsVector g.ring ds v) (sym h.target) k.coefficients))
    r.rows h.reduced.inside

module _ (limit : ℕ) (g base : Matrix) (rings : g.ring ≡ base.ring) (targets : g.target ≡ base.target) where
  -- generators and the reduced relations between them
  abbrev HasRelationDegrees : Matrix → Type 0
  HasRelationDegrees r = AllByRecursion IsSmallDegree (row_degrees g) × AllByRecursion (IsDegreeUpTo limit) (row_degrees r)

  relation_degrees : (looked : List Matrix) (r : Matrix) → Run limit (relations_plan g base) looked (Ok r) → HasRelationDegrees r
  unfolding relations_plan
  relation_degrees looked r run = by g.rows refl run
    where
      at_look : (v : Vector) (vs : List Vector) → g.rows ≡ v ∷ vs → (elements : List Vector) → IsLookedAt (stacked g base) elements
          → IsSmall limit (stacked g base) elements ⊎ (((stacked g base).rows ≡ []) × (elements ≡ []))
          → IsRelationMatrix g base (first_blocks g (syzygies_of (stacked g base) elements))
          → HasRelationDegrees (first_blocks g (syzygies_of (stacked g base) elements))
      at_look v vs e elements h (inl small) relations =
          let degrees = front_degrees limit g base elements small in
          let blocks = first_blocks g (syzygies_of (stacked g base) elements) in
          (degrees, basis_degrees limit blocks (small_first_blocks limit g base rings targets elements h small) degrees (IsMatrix-relation g base blocks relations))
      at_look v vs e elements h (inr none) relations = absurd (some v (vs ++ base.rows) (ap (λ rows. rows ++ base.rows) (sym e) ∙ none.0))
        where
          some : (w : Vector) (ws : List Vector) → w ∷ ws ≡ [] → ⊥
          some w ws k = cc

      by : (rows : List Vector) → g.rows ≡ rows → Run limit (relations_plan_of g base rows) looked (Ok r) → HasRelationDegrees r
      by [] e h = (
        subst (λ rows. AllByRecursion IsSmallDegree (map (λ (v : Vector). v.degree) rows)) (sym e) tt,
        subst (λ (m : Matrix). AllByRecursion (IsDegreeUpTo limit) (row_degrees m)) (sym (answer_is limit (record { ring = g.ring; target = row_degrees g; rows = [] }) looked r h)) tt,
      )
      by (v ∷ vs) e h =
          let found = blocks_small_look limit g base looked r h in
          let relations = subst (IsRelationMatrix g base) found.2 (blocks_is limit g base looked r rings h) in
          subst HasRelationDegrees (sym found.2) (at_look v vs e found.0 found.1.looked_at found.1.small relations)

-- rows that are kept are among the candidates
pub kept_degrees : (P : ℤ → Type 0) (n base g : Matrix) → KeepsGenerators n base g → AllByRecursion P (row_degrees n)
    → AllByRecursion P (row_degrees g)
kept_degrees P n base g h degrees =
    subst (λ (m : Matrix). AllByRecursion P (row_degrees m)) (sym h.same)
    (AllByRecursion-map P (λ (v : Vector). v.degree) h.rows
    (AllByRecursion-kept base.ring base.target (λ (v : Vector). P v.degree) (InSpan base) [] n.rows h.rows
    (AllByRecursion-unmap P (λ (v : Vector). v.degree) n.rows degrees) h.kept_rows))

pub presentation_degrees : (limit : ℕ) (n base : Matrix) (looked : List Matrix) (p : Presentation) → base.ring ≡ n.ring
    → base.target ≡ n.target → Run limit (present_plan n base) looked (Ok p) → HasSmallDegrees limit p
unfolding present_plan
presentation_degrees limit n base looked p rings targets run =
    let told = λ (g r s : Matrix). answer (record { gens = g; rels = s; reduced_rels = r }) in
    let minimal = λ (g r : Matrix). bind (generators_plan r (without_rows r)) (told g r) in
    let related = λ (g : Matrix). bind (relations_plan g base) (minimal g) in
    let first = bind_is limit (generators_plan n base) related looked p run in
    let g = first.0 in
    let keeps = generators_are limit n base first.1 g first.3 in
    let g_ring : g.ring ≡ base.ring = (λ i. (keeps.same i).ring) ∙ sym rings in
    let g_target : g.target ≡ base.target = (λ i. (keeps.same i).target) ∙ sym targets in
    let second = bind_is limit (relations_plan g base) (minimal g) first.2 p first.4 in
    let r = second.0 in
    let degrees = relation_degrees limit g base g_ring g_target second.1 r second.3 in
    let third = bind_is limit (generators_plan r (without_rows r)) (told g r) second.2 p second.4 in
    let s = third.0 in
    let last = generators_are limit r (without_rows r) third.1 s third.3 in
    subst (HasSmallDegrees limit)
    (sym (answer_is limit (record { gens = g; rels = s; reduced_rels = r }) third.2 p third.4))
    (record {
      generators = degrees.0;
      relations = kept_degrees (IsDegreeUpTo limit) r (without_rows r) s last degrees.1;
      reduced = degrees.1;
    })
