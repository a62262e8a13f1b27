-- Reduced bases of graphs, spans and syzygies, and the one answer for a limit.
use Rattle.std.proofs.Common.{◌≡◌, ◌⊎◌, inl, inr, ℕ, List, Option, Some, None, refl, ap, subst, ℤ}
use Rattle.std.specs.List.{AllByRecursion}
use Rattle.sf_algebra.specs.Bounds.{HasSmallSize}
use Rattle.sf_algebra.specs.Matrices.{Matrix, IsMatrix}
use Rattle.sf_algebra.specs.Rings.{Ring, IsRing, IsOverField}
use Rattle.sf_algebra.specs.Vectors.{Vector, IsVector}
use Rattle.sf_algebra.proofs.Monomials.Weights.{field_ring}
use Rattle.sf_groebner.specs.ReducedBases.{IsMonic, IsReducedBasis, IsSpanBasis, IsSyzygyBasis, IsGraphBasis}
use Rattle.sf_groebner.specs.Small.{IsLarge, IsSmall, IsWithinLimit, IsAnswer}
use Rattle.sf_groebner.specs.Spans.{IsGraphVector, graph_degrees}
use Rattle.sf_groebner.proofs.Basics.Decisions.{IsDecided, decide_small_size, decide_within_limit}
use Rattle.sf_groebner.proofs.Basics.Items.{AllByRecursion-both}
use Rattle.sf_groebner.proofs.Constructions.MonicVectors.{IsMonicVector}
use Rattle.sf_groebner.proofs.Constructions.ReducedExistence.{reduced_exists}
use Rattle.sf_groebner.proofs.PartsOfBases.GraphParts.{reduced-span, reduced-syzygies}
use Rattle.sf_groebner.proofs.Spanning.GraphGenerators.{graph_generators, graph_rows, graph_submodule}
use Rattle.sf_groebner.proofs.Spanning.Spans.{graph_module}
use Rattle.sf_groebner.proofs.Uniqueness.UniqueBases.{unique_reduced}

-- the elements of a reduced basis are monic vectors
pub basis-monic : (ring : Ring) (target : List ℤ) (N : Vector → Type 0) → ((v : Vector) → N v → IsVector ring target v)
    → (basis : List Vector) → IsReducedBasis ring.weights N basis → AllByRecursion (IsMonicVector ring target) basis
basis-monic ring target N vectors basis h =
    AllByRecursion-both N (λ (v : Vector). IsMonic v.terms) (IsMonicVector ring target)
    (λ v inside monic. record { vector = vectors v inside; monic = monic }) basis h.inside h.monic

module _ (m : Matrix) (prime : IsOverField m.ring) (matrix : IsMatrix m) where
  positive : IsRing m.ring
  positive = field_ring prime

  pub graph_basis : (basis : List Vector) × IsGraphBasis m basis
  graph_basis =
      reduced_exists m.ring prime (graph_degrees m) (IsGraphVector m)
      (graph_submodule m (field_ring prime) prime.prime.above_one matrix)
      (graph_rows m (field_ring prime) prime.prime.above_one matrix)
      (graph_generators m (field_ring prime) prime.prime.above_one matrix)

  pub span_basis : (basis : List Vector) × IsSpanBasis m basis
  span_basis = (_, reduced-span m positive matrix graph_basis.0 graph_basis.1)

  pub syzygy_basis : (basis : List Vector) × IsSyzygyBasis m basis
  syzygy_basis = (_, reduced-syzygies m positive graph_basis.0 graph_basis.1)

  -- m is small for a limit, or large
  pub small_or_large : (limit : ℕ) → ((basis : List Vector) × IsSmall limit m basis) ⊎ IsLarge limit m
  small_or_large limit =
      let basis : List Vector = graph_basis.0 in
      let reduced = graph_basis.1 in
      by_size (decide_small_size m) basis reduced (decide_within_limit m.ring.weights limit basis)
    where
      by_size : IsDecided (HasSmallSize m) → (basis : List Vector) → IsGraphBasis m basis
          → IsDecided (IsWithinLimit m.ring.weights limit basis)
          → ((basis : List Vector) × IsSmall limit m basis) ⊎ IsLarge limit m
      by_size (inr large) basis reduced within = inr (λ other small. large small.size)
      by_size (inl size) basis reduced (inl within) =
          inl (basis, record { size = size; reduced = reduced; within = within })
      by_size (inl size) basis reduced (inr beyond) =
          inr (λ other small. beyond (subst (IsWithinLimit m.ring.weights limit) (unique_reduced m.ring (field_ring prime) (graph_degrees m) (IsGraphVector m) (graph_module m (field_ring prime)) other basis small.reduced reduced) small.within))

  pub answer_exists : (limit : ℕ) → (answer : Option (List Vector)) × IsAnswer limit m answer
  answer_exists limit = elim (small_or_large limit) [
    | inl small ↦ (Some small.0, small.1)
    | inr large ↦ (None, large)
  ]

-- there is at most one answer
pub answer_unique : (limit : ℕ) (m : Matrix) → IsRing m.ring → (a b : Option (List Vector)) → IsAnswer limit m a
    → IsAnswer limit m b → a ≡ b
answer_unique limit m _ None None h k = refl
answer_unique limit m _ None (Some basis) h k = absurd (h basis k)
answer_unique limit m _ (Some basis) None h k = absurd (k basis h)
answer_unique limit m nonzero (Some basis) (Some other) h k =
    ap Some (unique_reduced m.ring nonzero (graph_degrees m) (IsGraphVector m) (graph_module m nonzero) basis other h.reduced k.reduced)
