-- What a look that ended well tells of the size of what it found: small reduced bases, whose rows may be candidates for
-- generators.
use Rattle.std.proofs.Common.{◌≡◌, inl, inr, ℕ, List, [], Ok, refl, sym, ap, subst, ℤ, arith}
use Rattle.std.proofs.lemmas.Int.{ints}
use Rattle.std.specs.Prelude.{◌⊎◌}
use Rattle.std.specs.List.{AllByRecursion}
use Rattle.sf_algebra.specs.Bounds.{IsSmallDegree}
use Rattle.sf_algebra.specs.Matrices.{Matrix, row_degrees}
use Rattle.sf_algebra.specs.MatrixOperations.{stacked}
use Rattle.sf_algebra.specs.Vectors.{Vector}
use Rattle.sf_algebra.proofs.Basics.Lists.{AllByRecursion-front, AllByRecursion-weaken}
use Rattle.sf_algebra.proofs.GradedMatrices.Stacks.{row_degrees-stacked}
use Rattle.sf_algebra.proofs.Monomials.Weights.{field_ring}
use Rattle.sf_groebner.specs.BasisParts.{syzygies_of}
use Rattle.sf_groebner.specs.Small.{IsSmall, IsSmallReducedBasis}
use Rattle.sf_groebner.proofs.Constructions.SmallParts.{small-first_blocks, small-values}
use Rattle.sf_matrix.specs.KeptNumbers.{IsModerate}
use Rattle.sf_matrix.specs.Plans.{Plan, answer, look}
use Rattle.sf_matrix.specs.Runs.{IsLookedAt, Run, looks, skips}
use Rattle.sf_matrix.specs.Tables.{graph_of}
use Rattle.sf_matrix.proofs.Plans.Readings.{answer_is}
use Rattle.sf_matrix.proofs.Plans.WithoutRows.{graph_basis-no_rows}
use Rattle.sf_genmor.specs.LookPlans.{basis_plan, blocks_plan, first_blocks}
use Rattle.sf_genmor.specs.PresentationPlans.{HasCandidates, no_rows, small_rows}
use Rattle.sf_genmor.proofs.LookAnswers.{IsMatrix-base}

-- a matrix was looked at, and is small, or has no rows
pub record IsSmallLook (limit : ℕ) (m : Matrix) (elements : List Vector) : Type 0 where
  pub looked_at : IsLookedAt m elements
  pub small : IsSmall limit m elements ⊎ ((m.rows ≡ []) × (elements ≡ []))

pub small_look : {A : Type 0} (limit : ℕ) (m : Matrix) (next : List Vector → Plan A) (looked : List Matrix) (a : A)
    → Run limit (look m next) looked (Ok a)
    → (elements : List Vector) × (others : List Matrix) × IsSmallLook limit m elements × Run limit (next elements) others (Ok a)
small_look limit m next looked a (skips h run) = (
  [],
  looked,
  record {
    looked_at = record {
      field = h.field;
      matrix = subst (AllByRecursion _) (sym h.none) tt;
      reduced = graph_basis-no_rows m (field_ring h.field) h.none;
    };
    small = inr (h.none, refl);
  },
  run,
)
small_look limit m next looked a (looks {looked = others} elements fit small run) = (
  elements,
  others,
  record {
    looked_at = record { field = fit.field; matrix = fit.matrix; reduced = small.reduced };
    small = inl small;
  },
  run,
)

-- rows of a small reduced basis over moderate degrees, or none
abbrev pub HasSmallRows : ℕ → Matrix → Type 0
HasSmallRows limit n = (IsSmallReducedBasis limit n × AllByRecursion IsModerate n.target) ⊎ (n.rows ≡ [])

pub small_candidates_of : (limit : ℕ) (n base : Matrix) → HasSmallRows limit n → HasCandidates limit n base
small_candidates_of limit n base (inl h) = small_rows h.0 h.1
small_candidates_of limit n base (inr h) = no_rows h

pub moderate_degrees : (ds : List ℤ) → AllByRecursion IsSmallDegree ds → AllByRecursion IsModerate ds
moderate_degrees ds h = AllByRecursion-weaken IsSmallDegree IsModerate wider ds h
  where
    wider : (d : ℤ) → IsSmallDegree d → IsModerate d
    wider d h = let low = h.0 in let high = h.1 in (omega (arith, ints), omega (arith, ints))

-- the reduced basis of a span
pub small_basis : (limit : ℕ) (m : Matrix) (looked : List Matrix) (b : Matrix) → Run limit (basis_plan m) looked (Ok b)
    → HasSmallRows limit b
unfolding basis_plan
small_basis limit m looked b run =
    let found = small_look limit m (λ elements. answer (graph_of m elements).basis) looked b run in
    subst (HasSmallRows limit) (sym (answer_is limit (graph_of m found.0).basis found.1 b found.3)) (by found.0 found.2 found.2.small)
  where
    by : (elements : List Vector) → IsSmallLook limit m elements → IsSmall limit m elements ⊎ ((m.rows ≡ []) × (elements ≡ []))
        → HasSmallRows limit (graph_of m elements).basis
    by elements h (inl small) = inl (
      small-values limit m (field_ring h.looked_at.field) elements small h.looked_at.matrix,
      moderate_degrees m.target small.size.column_degrees,
    )
    by elements h (inr none) = inr (ap (λ es. (graph_of m es).basis.rows) none.1)

-- that of the relations of rows modulo the span of others
pub blocks_small_look : (limit : ℕ) (a base : Matrix) (looked : List Matrix) (b : Matrix)
    → Run limit (blocks_plan a base) looked (Ok b)
    → (elements : List Vector) × IsSmallLook limit (stacked a base) elements
    × (b ≡ first_blocks a (syzygies_of (stacked a base) elements))
unfolding blocks_plan
blocks_small_look limit a base looked b run =
    let next = λ (elements : List Vector). answer (first_blocks a (syzygies_of (stacked a base) elements)) in
    let found = small_look limit (stacked a base) next looked b run in
    (found.0, found.2, answer_is limit (first_blocks a (syzygies_of (stacked a base) found.0)) found.1 b found.3)

-- the degrees of the rows of a small stack
pub front_degrees : (limit : ℕ) (a base : Matrix) (elements : List Vector) → IsSmall limit (stacked a base) elements
    → AllByRecursion IsSmallDegree (row_degrees a)
front_degrees limit a base elements small =
    AllByRecursion-front IsSmallDegree (row_degrees a) (row_degrees base)
    (subst (AllByRecursion IsSmallDegree) (row_degrees-stacked a base) small.size.row_degrees)

module _ (limit : ℕ) (a base : Matrix) (rings : a.ring ≡ base.ring) (targets : a.target ≡ base.target) where
  pub small_first_blocks : (elements : List Vector) → IsLookedAt (stacked a base) elements → IsSmall limit (stacked a base) elements
      → IsSmallReducedBasis limit (first_blocks a (syzygies_of (stacked a base) elements))
  small_first_blocks elements h small =
      small-first_blocks limit a base (field_ring h.field) rings (IsMatrix-base a base rings targets h.matrix) elements small

  pub small_blocks : (looked : List Matrix) (b : Matrix) → Run limit (blocks_plan a base) looked (Ok b) → HasSmallRows limit b
  small_blocks looked b run =
      let found = blocks_small_look limit a base looked b run in
      subst (HasSmallRows limit) (sym found.2) (by found.0 found.1.looked_at found.1.small)
    where
      by : (elements : List Vector) → IsLookedAt (stacked a base) elements
          → IsSmall limit (stacked a base) elements ⊎ (((stacked a base).rows ≡ []) × (elements ≡ []))
          → HasSmallRows limit (first_blocks a (syzygies_of (stacked a base) elements))
      by elements h (inl small) = inl (
        small_first_blocks elements h small,
        moderate_degrees (row_degrees a) (front_degrees limit a base elements small),
      )
      by elements h (inr none) = inr (ap (λ es. (first_blocks a (syzygies_of (stacked a base) es)).rows) none.1)
