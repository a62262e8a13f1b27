-- Cartan-Eilenberg resolutions are one: resolutions and lifts are.
use Rattle.std.proofs.Common.{◌≡◌, ℕ, zero, suc, List, [], ◌∷◌, refl, sym, ◌∙◌, subst, ℤ}
use Rattle.sf_algebra.specs.Matrices.{Matrix, row_degrees}
use Rattle.sf_algebra.specs.MatrixOperations.{matrix_product, negated, stacked}
use Rattle.sf_algebra.specs.Rings.{Ring, IsRing, IsOverField}
use Rattle.sf_algebra.specs.Vectors.{Vector}
use Rattle.sf_algebra.proofs.Monomials.Weights.{field_ring}
use Rattle.sf_blocks.specs.SideBySide.{triangle}
use Rattle.sf_groebner.specs.Presentations.{IsZero}
use Rattle.sf_groebner.specs.Resolutions.{IsFirstStep, IsNextStep}
use Rattle.sf_groebner.specs.Spans.{InSpan, IsSyzygy}
use Rattle.sf_groebner.proofs.Spanning.SpanCombinations.{span_submodule_of}
use Rattle.sf_groebner.proofs.Spanning.Submodules.{IsSubmodule}
use Rattle.sf_groebner.proofs.Spanning.SyzygyCombinations.{syzygy_submodule}
use Rattle.sf_groebner.proofs.Uniqueness.Lifts.{unique_lift}
use Rattle.sf_groebner.proofs.Uniqueness.PresentedModules.{IsMatrix-relations}
use Rattle.sf_groebner.proofs.Uniqueness.Presentations.{unique_first_step, unique_next_step, unique_presentation}
use Rattle.sf_groebner.proofs.Uniqueness.ReducedCoordinates.{zero_submodule}
use Rattle.sf_groebner.proofs.Uniqueness.UniqueBases.{unique_reduced}
use Rattle.sf_bidual.specs.CartanEilenberg.{CartanEilenberg, IsCartanEilenberg, IsCochainComplex, IsResolutionOf, arriving, cycle_steps}
use Rattle.sf_bidual.specs.Horseshoes.{AreLifts, AreSides, HaveLifts, horseshoe}
use Rattle.sf_bidual.proofs.Columns.Arriving.{IsTo-arriving}
use Rattle.sf_bidual.proofs.Columns.Laws.{boundary-rings, cycle-rings}
use Rattle.sf_bidual.proofs.Columns.Resolutions.{steps-ring}

unique_rows : (m : Matrix) → IsRing m.ring → (vs cs ds : List Vector) → HaveLifts m vs cs → HaveLifts m vs ds → cs ≡ ds
unique_rows m positive [] [] [] h k = refl
unique_rows m positive (v ∷ vs) (c ∷ cs) (d ∷ ds) h k =
    λ i. unique_lift m positive v c d h.0 k.0 i ∷ unique_rows m positive vs cs ds h.1 k.1 i
unique_rows m positive [] (c ∷ cs) ds h k = absurd h
unique_rows m positive [] [] (d ∷ ds) h k = absurd k
unique_rows m positive (v ∷ vs) [] ds h k = absurd h
unique_rows m positive (v ∷ vs) (c ∷ cs) [] h k = absurd k

unique_lifts : (m v l k : Matrix) → IsRing m.ring → AreLifts m v l → AreLifts m v k → l ≡ k
unique_lifts m v l k positive h g = λ i. record {
  ring = (h.ring ∙ sym g.ring) i;
  target = (h.target ∙ sym g.target) i;
  rows = unique_rows m positive v.rows l.rows k.rows h.rows g.rows i;
}

module _ (ring : Ring) (prime : IsOverField ring) (target : List ℤ) (N B : Vector → Type 0)
    (n : IsSubmodule ring target N) (b : IsSubmodule ring target B) (s t : ℕ → Matrix)
    (h : IsResolutionOf ring target N B s) (k : IsResolutionOf ring target N B t) where
  starts : (s 0 ≡ t 0) × (h.relations ≡ k.relations)
  starts =
      unique_presentation ring (field_ring prime) target target N B
      (unique_reduced ring (field_ring prime) target N n.module_like) b.module_like (s 0) h.relations (t 0) k.relations
      h.presentation k.presentation

  good : (m : Matrix) → m.ring ≡ ring → IsRing m.ring
  good m e = subst (λ q. IsRing q) (sym e) (field_ring prime)

  unique_steps : (j : ℕ) → s j ≡ t j
  unique_steps zero = starts.0
  unique_steps (suc zero) =
      unique_first_step h.relations (good h.relations h.presentation.relations_ring)
      (IsMatrix-relations ring target N B (s 0) h.relations h.presentation) (s 1) (t 1) h.first
      (subst (λ r. IsFirstStep r (t 1)) (sym starts.1) k.first)
  unique_steps (suc (suc j)) =
      unique_next_step (s (suc j)) (good (s (suc j)) (steps-ring ring prime target N B n b s h (suc j)))
      (s (suc (suc j))) (t (suc (suc j))) (h.next j)
      (subst (λ m. IsNextStep m (t (suc (suc j)))) (sym (unique_steps (suc j))) (k.next j))

module _ (first last sides others ends more : ℕ → Matrix) (firsts : (j : ℕ) → first j ≡ others j)
    (lasts : (j : ℕ) → last j ≡ ends j) (good : (j : ℕ) → IsRing (first j).ring) (start : sides 0 ≡ more 0)
    (h : AreSides first last sides) (k : AreSides others ends more) where
  unique_sides : (j : ℕ) → sides j ≡ more j
  unique_sides zero = start
  unique_sides (suc j) =
      unique_lifts (first j) (negated (matrix_product (last (suc j)) (sides j))) (sides (suc j)) (more (suc j)) (good j)
      (h j)
      (subst (λ (p : Matrix × Matrix). AreLifts p.0 p.1 (more (suc j)))
      (λ i. (
        sym (firsts j) i,
        negated (matrix_product (sym (lasts (suc j)) i) (sym (unique_sides j) i)),
      ))
      (k j))

  unique_horseshoe : (j : ℕ) → horseshoe first last sides j ≡ horseshoe others ends more j
  unique_horseshoe zero = λ i. stacked (firsts zero i) (unique_sides zero i)
  unique_horseshoe (suc j) = λ i. triangle (firsts (suc j) i) (unique_sides (suc j) i) (lasts (suc j) i)

module _ (ring : Ring) (maps : ℕ → Matrix) (x y : CartanEilenberg) (prime : IsOverField ring)
    (complex : IsCochainComplex ring maps) (h : IsCartanEilenberg ring maps x) (k : IsCartanEilenberg ring maps y) where
  positive : IsRing ring
  positive = field_ring prime

  module _ (i : ℕ) where
    spanned : IsSubmodule ring (row_degrees (maps i)) (InSpan (arriving ring maps i))
    spanned =
        let to = IsTo-arriving ring maps prime complex i in
        span_submodule_of ring positive (row_degrees (maps i)) (arriving ring maps i) to.ring_of to.target_of to.matrix

    cycles : IsSubmodule ring (row_degrees (maps i)) (IsSyzygy (maps i))
    cycles =
        subst (λ q. IsSubmodule q (row_degrees (maps i)) (IsSyzygy (maps i))) (complex.rings i)
        (syzygy_submodule (maps i) (subst (λ q. IsRing q) (sym (complex.rings i)) positive))

    one_boundaries : (j : ℕ) → x.boundaries i j ≡ y.boundaries i j
    one_boundaries =
        unique_steps ring prime (row_degrees (maps i)) (InSpan (arriving ring maps i)) IsZero spanned
        (zero_submodule ring positive (row_degrees (maps i))) (x.boundaries i) (y.boundaries i) (h.boundaries i)
        (k.boundaries i)

    one_homology : (j : ℕ) → x.homology i j ≡ y.homology i j
    one_homology =
        unique_steps ring prime (row_degrees (maps i)) (IsSyzygy (maps i)) (InSpan (arriving ring maps i)) cycles spanned
        (x.homology i) (y.homology i) (h.homology i) (k.homology i)

    good_boundaries : (j : ℕ) → IsRing (x.boundaries i j).ring
    good_boundaries j = subst (λ q. IsRing q) (sym (boundary-rings ring maps x prime complex h i j)) positive

    good_cycles : (j : ℕ) → IsRing (cycle_steps x i j).ring
    good_cycles j = subst (λ q. IsRing q) (sym (cycle-rings ring maps x prime complex h i j)) positive

    inner_start : x.inner i 0 ≡ y.inner i 0
    inner_start = h.inner_start i ∙ one_homology 0 ∙ sym (k.inner_start i)

    one_inner : (j : ℕ) → x.inner i j ≡ y.inner i j
    one_inner =
        unique_sides (x.boundaries i) (x.homology i) (x.inner i) (y.boundaries i) (y.homology i) (y.inner i)
        one_boundaries one_homology good_boundaries inner_start (h.inner_sides i) (k.inner_sides i)

    one_cycles : (j : ℕ) → cycle_steps x i j ≡ cycle_steps y i j
    one_cycles =
        unique_horseshoe (x.boundaries i) (x.homology i) (x.inner i) (y.boundaries i) (y.homology i) (y.inner i)
        one_boundaries one_homology good_boundaries inner_start (h.inner_sides i) (k.inner_sides i)

  outer_start : (i : ℕ) → x.outer i 0 ≡ y.outer i 0
  outer_start i =
      unique_lifts (maps i) (x.boundaries (suc i) 0) (x.outer i 0) (y.outer i 0)
      (subst (λ q. IsRing q) (sym (complex.rings i)) positive) (h.outer_start i)
      (subst (λ v. AreLifts (maps i) v (y.outer i 0)) (sym (one_boundaries (suc i) 0)) (k.outer_start i))

  pub one_resolution : (i j : ℕ) → (x.boundaries i j ≡ y.boundaries i j) × (x.homology i j ≡ y.homology i j)
      × (x.inner i j ≡ y.inner i j) × (x.outer i j ≡ y.outer i j)
  one_resolution i j = (
    one_boundaries i j,
    one_homology i j,
    one_inner i j,
    unique_sides (cycle_steps x i) (x.boundaries (suc i)) (x.outer i) (cycle_steps y i) (y.boundaries (suc i))
        (y.outer i) (one_cycles i) (one_boundaries (suc i)) (good_cycles i) (outer_start i) (h.outer_sides i)
        (k.outer_sides i) j,
  )
