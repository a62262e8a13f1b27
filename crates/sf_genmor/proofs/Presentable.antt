-- What may be presented: the reduced bases that looks found, and the unit vectors.
use Rattle.std.proofs.Common.{◌≡◌, ◌≤◌, inl, inr, ℕ, suc, List, [], ◌∷◌, length, Ok, refl, sym, ◌∙◌, subst, ℤ, arith}
use Rattle.std.specs.List.{AllByRecursion}
use Rattle.std.specs.Ordering.{int_cmp}
use Rattle.sf_algebra.specs.Bounds.{GREATEST_SIZE}
use Rattle.sf_algebra.specs.Matrices.{Matrix, row_degrees, IsMatrix}
use Rattle.sf_algebra.specs.MatrixOperations.{identity, unit_rows}
use Rattle.sf_algebra.specs.Rings.{Ring, Weights, IsRing, IsOverField}
use Rattle.sf_algebra.specs.Vectors.{Vector, IsVector}
use Rattle.sf_algebra.proofs.GradedMatrices.Identities.{IsMatrix-identity, length-unit_rows}
use Rattle.sf_algebra.proofs.Monomials.Orders.{match_ordering_cases}
use Rattle.sf_algebra.proofs.Monomials.Weights.{field_ring}
use Rattle.sf_groebner.specs.Presentations.{IsRelation}
use Rattle.sf_groebner.specs.Small.{HasLeadUpTo, IsSmallReducedBasis}
use Rattle.sf_groebner.specs.Spans.{InSpan}
use Rattle.sf_groebner.proofs.Constructions.OwnSpans.{own_span, reduced-own_span}
use Rattle.sf_groebner.proofs.Spanning.SpanCombinations.{relation_submodule, span_submodule, span_submodule_of}
use Rattle.sf_groebner.proofs.Spanning.Spans.{span_module}
use Rattle.sf_matrix.specs.KeptNumbers.{IsModerate, SpansInto}
use Rattle.sf_matrix.specs.Runs.{Run}
use Rattle.sf_presented.specs.FreeBases.{by_degree, insert_by_degree, unit_basis}
use Rattle.sf_presented.proofs.FreeBases.{AllByRecursion-by_degree, InSpan-identity, reduced-identity}
use Rattle.sf_genmor.specs.LookPlans.{IsRelationMatrix, basis_plan, blocks_plan}
use Rattle.sf_genmor.specs.PresentationPlans.{HasCandidates, IsPresentable, small_rows, all_units}
use Rattle.sf_genmor.proofs.LookAnswers.{IsMatrix-base, basis_is, basis_look, blocks_is, blocks_look}
use Rattle.sf_genmor.proofs.SmallLooks.{HasSmallRows, small_basis, small_blocks, small_candidates_of}
use Rattle.sf_genmor.specs.QuotientPlans.{units_over}
use Rattle.sf_genmor.proofs.SamePresentations.{basis_span}

-- a reduced basis of relations spans them
relations_span : (a b blocks : Matrix) → a.ring ≡ b.ring → IsOverField a.ring → IsMatrix b → IsRelationMatrix a b blocks
    → (v : Vector) → IsRelation a (InSpan b) v → InSpan blocks v
relations_span a b blocks rings field matrix h v relation =
    let span = span_submodule_of a.ring (field_ring field) b.target b (sym rings) refl matrix in
    let same =
    own_span a.ring (row_degrees a) (IsRelation a (InSpan b)) (relation_submodule a (field_ring field) b.target (InSpan b) span)
    blocks.rows h.reduced field v in
    subst (λ (ring : Ring). InSpan (record { ring = ring; target = blocks.target; rows = blocks.rows }) v) (sym h.ring) (same.0 relation)

-- the unit vectors are few, and their monomials are 1
length-insert_by_degree : (v : Vector) (ws : List Vector) → length (insert_by_degree v ws) ≡ length (v ∷ ws)
length-insert_by_degree v [] = refl
length-insert_by_degree v (w ∷ ws) =
    let behind = length-insert_by_degree v ws in
    match_ordering_cases (int_cmp v.degree w.degree) _ _ _ (λ l. length l ≡ length (v ∷ w ∷ ws)) (λ less. refl) (λ equal. refl)
    (λ greater. omega arith)

length-by_degree : (vs : List Vector) → length (by_degree vs) ≡ length vs
length-by_degree [] = refl
length-by_degree (v ∷ vs) =
    let sorted = length-insert_by_degree v (by_degree vs) in
    let behind = length-by_degree vs in
    omega arith

low_units : (weights : Weights) (limit i : ℕ) (ds : List ℤ)
    → AllByRecursion (λ (v : Vector). HasLeadUpTo weights limit v.terms) (unit_rows i ds)
low_units weights limit i [] = tt
low_units weights limit i (d ∷ ds) = (omega arith, low_units weights limit (suc i) ds)

module _ (ring : Ring) (field : IsOverField ring) (degrees : List ℤ) where
  positive : IsRing ring
  positive = field_ring field

  pub length-units : length (units_over ring degrees).rows ≡ length degrees
  length-units = length-by_degree (unit_rows 0 degrees) ∙ length-unit_rows 0 degrees

  small-units : (limit : ℕ) → length degrees ≤ GREATEST_SIZE → IsSmallReducedBasis limit (units_over ring degrees)
  small-units limit few = record {
    reduced =
        reduced-own_span ring degrees (InSpan (identity ring degrees))
        (span_submodule (identity ring degrees) positive (IsMatrix-identity ring field.prime.above_one degrees))
        (unit_basis degrees) (reduced-identity ring positive field.prime.above_one degrees) positive;
    columns = few;
    within = record {
      few = let units = length-units in omega arith;
      low = AllByRecursion-by_degree _ (unit_rows 0 degrees) (low_units ring.weights limit 0 degrees);
    };
  }

  pub IsMatrix-units : IsMatrix (units_over ring degrees)
  IsMatrix-units =
      AllByRecursion-by_degree (IsVector ring degrees) (unit_rows 0 degrees)
      (IsMatrix-identity ring field.prime.above_one degrees)

  -- each vector is in their span
  units-span : (v : Vector) → IsVector ring degrees v → InSpan (units_over ring degrees) v
  units-span v vector =
      (own_span ring degrees (InSpan (identity ring degrees))
      (span_submodule (identity ring degrees) positive (IsMatrix-identity ring field.prime.above_one degrees))
      (unit_basis degrees) (reduced-identity ring positive field.prime.above_one degrees) field v).0
      (InSpan-identity ring positive field.prime.above_one degrees v vector)

  -- so the unit vectors may be presented modulo what a look found: few where it found any row
  pub units_presentable : (limit : ℕ) (m : Matrix) → m.ring ≡ ring → m.target ≡ degrees → (looked : List Matrix) (base : Matrix)
      → Run limit (basis_plan m) looked (Ok base) → IsPresentable limit (units_over ring degrees) base
  units_presentable limit m same_ring same_target looked base run =
      let is = basis_look limit m looked base run in
      let basis = basis_is limit m looked base run in
      let target : base.target ≡ degrees = basis.target ∙ same_target in
      record {
        ring = basis.ring ∙ same_ring;
        target = target;
        inside = λ v h.
            units-span v
            (subst (λ (x : Ring × List ℤ). IsVector x.0 x.1 v) (λ i. (same_ring i, same_target i))
            ((span_module m (field_ring is.1.field) is.1.matrix).vectors v ((basis_span m base is.1.field is.1.matrix basis v).1 h)));
        candidates = by target (small_basis limit m looked base run);
      }
    where
      by : base.target ≡ degrees → HasSmallRows limit base → HasCandidates limit (units_over ring degrees) base
      by target (inl small) =
          small_rows (small-units limit (subst (λ ds. length ds ≤ GREATEST_SIZE) target small.0.columns))
          (subst (AllByRecursion IsModerate) target small.1)
      by target (inr none) = all_units refl none

-- the basis of a span may be presented modulo that of a span within it
pub bases_presentable : (limit : ℕ) (m n : Matrix) → n.ring ≡ m.ring → n.target ≡ m.target → SpansInto n m
    → (looked others : List Matrix) (whole base : Matrix) → Run limit (basis_plan m) looked (Ok whole)
    → Run limit (basis_plan n) others (Ok base) → IsPresentable limit whole base
bases_presentable limit m n same_ring same_target within looked others whole base first second =
    let large = basis_look limit m looked whole first in
    let small = basis_look limit n others base second in
    let basis = basis_is limit m looked whole first in
    let part = basis_is limit n others base second in
    record {
      ring = part.ring ∙ same_ring ∙ sym basis.ring;
      target = part.target ∙ same_target ∙ sym basis.target;
      inside = λ v h.
          (basis_span m whole large.1.field large.1.matrix basis v).0
          (within v ((basis_span n base small.1.field small.1.matrix part v).1 h));
      candidates = small_candidates_of limit whole base (small_basis limit m looked whole first);
    }

-- and so may first blocks
pub blocks_presentable : (limit : ℕ) (a b n : Matrix) → a.ring ≡ b.ring → a.target ≡ b.target → n.ring ≡ a.ring
    → n.target ≡ row_degrees a → ((v : Vector) → InSpan n v → IsRelation a (InSpan b) v)
    → (looked others : List Matrix) (blocks base : Matrix) → Run limit (blocks_plan a b) looked (Ok blocks)
    → Run limit (basis_plan n) others (Ok base) → IsPresentable limit blocks base
blocks_presentable limit a b n rings targets same_ring same_target within looked others blocks base first second =
    let stack = blocks_look limit a b looked blocks first in
    let matrix = IsMatrix-base a b rings targets stack.1.matrix in
    let relations = blocks_is limit a b looked blocks rings first in
    let small = basis_look limit n others base second in
    let part = basis_is limit n others base second in
    record {
      ring = part.ring ∙ same_ring ∙ sym relations.ring;
      target = part.target ∙ same_target ∙ sym relations.target;
      inside = λ v h.
          relations_span a b blocks rings stack.1.field matrix relations v
          (within v ((basis_span n base small.1.field small.1.matrix part v).1 h));
      candidates = small_candidates_of limit blocks base (small_blocks limit a b rings targets looked blocks first);
    }
