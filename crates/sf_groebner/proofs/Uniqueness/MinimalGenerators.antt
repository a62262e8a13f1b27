-- Minimal generators are determined by the module and the part modulo which they are taken.
use Rattle.std.proofs.Common.{◌≡◌, inl, inr, List, [], ◌∷◌, ◌++◌, sym, ◌∙◌, ap, subst, ℤ}
use Rattle.sf_algebra.specs.Matrices.{Matrix}
use Rattle.sf_algebra.specs.Rings.{Ring, Weights}
use Rattle.sf_algebra.specs.Vectors.{Vector}
use Rattle.sf_groebner.specs.MinimalGenerators.{IsInSum, matrix_of, AreKept, AreMinimal}
use Rattle.sf_groebner.specs.ReducedBases.{IsReducedBasis}
use Rattle.sf_groebner.proofs.Spanning.SameModules.{IsReducedBasis-same}

-- N has at most one reduced basis
abbrev pub HasOneBasis : Weights → (Vector → Type 0) → Type 0
HasOneBasis weights N = (a b : List Vector) → IsReducedBasis weights N a → IsReducedBasis weights N b → a ≡ b

module _ (ring : Ring) (target : List ℤ) where
  pub unique_kept : (B : Vector → Type 0) (earlier vs a b : List Vector) → AreKept ring B earlier vs a
      → AreKept ring B earlier vs b → a ≡ b
  unique_kept B earlier [] a b h k = h ∙ sym k
  unique_kept B earlier (v ∷ vs) a b (inl h) (inl k) = unique_kept B (earlier ++ v ∷ []) vs a b h.1 k.1
  unique_kept B earlier (v ∷ vs) a b (inl h) (inr k) = absurd (k.0 h.0)
  unique_kept B earlier (v ∷ vs) a b (inr h) (inl k) = absurd (h.0 k.0)
  unique_kept B earlier (v ∷ vs) a b (inr h) (inr k) =
      h.1.1 ∙ ap (λ ws. v ∷ ws) (unique_kept B (earlier ++ v ∷ []) vs h.1.0 k.1.0 h.1.2 k.1.2) ∙ sym k.1.1

  pub unique_minimal : (N B : Vector → Type 0) → HasOneBasis ring.weights N → (a b : List Vector)
      → AreMinimal ring N B a → AreMinimal ring N B b → a ≡ b
  unique_minimal N B one a b h k =
      let same : k.basis ≡ h.basis = one k.basis h.basis k.reduced h.reduced in
      unique_kept B [] h.basis a b h.kept (subst (λ vs. AreKept ring B [] vs b) same k.kept)

  -- only what is in the modules counts, and not how they are given
  pub IsInSum-weaken : (B C : Vector → Type 0) → ((v : Vector) → B v → C v) → (m : Matrix) (v : Vector)
      → IsInSum m.ring m.rows B v → IsInSum m.ring m.rows C v
  IsInSum-weaken B C f m v h = record {
    first = h.first;
    second = h.second;
    in_module = f h.first h.in_module;
    in_span = h.in_span;
    first_degree = h.first_degree;
    second_degree = h.second_degree;
    sum = h.sum;
  }

  AreKept-same : (B C : Vector → Type 0) → ((v : Vector) → B v → C v) → ((v : Vector) → C v → B v)
      → (earlier vs kept : List Vector) → AreKept ring B earlier vs kept → AreKept ring C earlier vs kept
  AreKept-same B C to from earlier [] kept h = h
  AreKept-same B C to from earlier (v ∷ vs) kept (inl h) =
      inl (IsInSum-weaken B C to (matrix_of ring target earlier) v h.0, AreKept-same B C to from (earlier ++ v ∷ []) vs kept h.1)
  AreKept-same B C to from earlier (v ∷ vs) kept (inr h) =
      inr (
        λ k. h.0 (IsInSum-weaken C B from (matrix_of ring target earlier) v k),
        (h.1.0, h.1.1, AreKept-same B C to from (earlier ++ v ∷ []) vs h.1.0 h.1.2),
      )

  pub AreMinimal-same : (N P B C : Vector → Type 0) → ((v : Vector) → N v → P v) → ((v : Vector) → P v → N v)
      → ((v : Vector) → B v → C v) → ((v : Vector) → C v → B v)
      → (generators : List Vector) → AreMinimal ring N B generators → AreMinimal ring P C generators
  AreMinimal-same N P B C to from more less generators h = record {
    basis = h.basis;
    reduced = IsReducedBasis-same ring.weights N P to from h.basis h.reduced;
    kept = AreKept-same B C more less [] h.basis generators h.kept;
  }
