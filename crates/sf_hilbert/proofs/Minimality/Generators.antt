-- Minimal generators modulo 0: their degrees ascend, and none is a combination of those before it.
use Rattle.std.proofs.Common.{◌≡◌, ◌⊎◌, ℕ, zero, suc, ◌<◌, ◌≤◌, List, [], ◌∷◌, ◌++◌, length, inl, inr, append-nil, append_assoc, refl, sym, ap, subst, arith, ℤ, ◌≤ℤ◌, ◌<ℤ◌}
use Rattle.std.specs.Cmp.{int_cmp_is}
use Rattle.std.specs.declared.cmp.Ordering.TheVariants.{Less, Greater}
use Rattle.std.specs.FinMap.{int_cmp-IsAntisymmetric}
use Rattle.std.specs.List.{AllByRecursion}
use Rattle.std.specs.Ordering.{int_cmp}
use Rattle.std.proofs.lemmas.Int.{ints}
use Rattle.sf_algebra.specs.Matrices.{degrees_of}
use Rattle.sf_algebra.specs.Rings.{Ring, Weights, IsRing}
use Rattle.sf_algebra.specs.Vectors.{Vector, generator_degree}
use Rattle.sf_algebra.proofs.Basics.Lists.{AllByRecursion-weaken}
use Rattle.sf_algebra.proofs.Monomials.Comparisons.{ordering_then-Less}
use Rattle.sf_groebner.specs.MinimalGenerators.{AreChosen, AreKept, AreMinimal, IsInSum}
use Rattle.sf_groebner.specs.Presentations.{IsZero}
use Rattle.sf_groebner.specs.ReducedBases.{IsSorted, row_cmp}
use Rattle.sf_groebner.proofs.Spanning.SumsAndMultiples.{zero_closed}
use Rattle.sf_groebner.proofs.Uniqueness.KeptGenerators.{AreKept-chosen}
use Rattle.sf_groebner.proofs.Uniqueness.PresentedModules.{AllByRecursion-kept}

-- no degree is greater than one after it
abbrev pub IsAscending : List Vector → Type 0
IsAscending [] = Unit {0}
IsAscending (v ∷ vs) = AllByRecursion (λ (w : Vector). v.degree ≤ℤ w.degree) vs × IsAscending vs

-- none is a combination of those before it, `before` among them
abbrev pub IsIndependent : Ring → List Vector → List Vector → Type 0
IsIndependent ring before [] = Unit {0}
IsIndependent ring before (v ∷ vs) =
    (IsInSum ring before IsZero v → ⊥) × IsIndependent ring (before ++ v ∷ []) vs

int_cmp-at_most : (d e : ℤ) → int_cmp d e ≡ Less → d ≤ℤ e
int_cmp-at_most d e less = elim (either d e) [
  | inl at_most ↦ at_most
  | inr greater ↦ let other : Greater ≡ int_cmp d e = int_cmp_is d e Greater greater in absurd (cc (less, other))
]
  where
    either : (x y : ℤ) → (x ≤ℤ y) ⊎ (y <ℤ x)
    either x y = grind (arith, ints)

row_cmp-degree : (weights : Weights) (v w : Vector) → row_cmp weights v w ≡ Less → v.degree ≤ℤ w.degree
row_cmp-degree weights v w h = elim (ordering_then-Less _ _ h) [
  | inl less ↦ int_cmp-at_most v.degree w.degree less
  | inr both ↦ let same : v.degree ≡ w.degree = int_cmp-IsAntisymmetric v.degree w.degree both.0 in omega (arith, ints)
]

IsAscending-sorted : (weights : Weights) (vs : List Vector) → IsSorted weights vs → IsAscending vs
IsAscending-sorted weights [] h = tt
IsAscending-sorted weights (v ∷ vs) h =
    (AllByRecursion-weaken _ _ (λ w less. row_cmp-degree weights v w less) vs h.0, IsAscending-sorted weights vs h.1)

module _ (ring : Ring) (B : Vector → Type 0) where
  IsAscending-kept : (earlier vs kept : List Vector) → IsAscending vs → AreKept ring B earlier vs kept
      → IsAscending kept
  IsAscending-kept earlier [] kept h k = subst IsAscending (sym k) tt
  IsAscending-kept earlier (v ∷ vs) kept h (inl k) = IsAscending-kept (earlier ++ v ∷ []) vs kept h.1 k.1
  IsAscending-kept earlier (v ∷ vs) kept h (inr k) =
      subst IsAscending (sym k.1.1) (
        AllByRecursion-kept ring [] (λ (w : Vector). v.degree ≤ℤ w.degree) B (earlier ++ v ∷ []) vs k.1.0 h.0 k.1.2,
        IsAscending-kept (earlier ++ v ∷ []) vs k.1.0 h.1 k.1.2,
      )

IsIndependent-chosen : (ring : Ring) (before vs kept : List Vector) → AreChosen ring IsZero before vs kept
    → IsIndependent ring before kept
IsIndependent-chosen ring before [] kept k = subst (IsIndependent ring before) (sym k) tt
IsIndependent-chosen ring before (v ∷ vs) kept (inl k) = IsIndependent-chosen ring before vs kept k.1
IsIndependent-chosen ring before (v ∷ vs) kept (inr k) =
    subst (IsIndependent ring before) (sym k.1.1)
    (k.0, IsIndependent-chosen ring (before ++ v ∷ []) vs k.1.0 k.1.2)

module _ (ring : Ring) (positive : IsRing ring) (N : Vector → Type 0) (generators : List Vector)
    (minimal : AreMinimal ring N IsZero generators) where
  pub IsAscending-minimal : IsAscending generators
  IsAscending-minimal =
      IsAscending-kept ring IsZero [] minimal.basis generators
      (IsAscending-sorted ring.weights minimal.basis minimal.reduced.sorted) minimal.kept

  pub IsIndependent-minimal : IsIndependent ring [] generators
  IsIndependent-minimal =
      IsIndependent-chosen ring [] minimal.basis generators
      ((AreKept-chosen ring [] IsZero positive (zero_closed ring positive) minimal.basis generators).0 minimal.kept)

-- a list taken apart at a row
pub record IsSplit (rows : List Vector) (j : ℕ) : Type 0 where
  pub front : List Vector
  pub row : Vector
  pub more : List Vector
  pub whole : rows ≡ front ++ row ∷ more
  pub size : length front ≡ j

pub split : (rows : List Vector) (j : ℕ) → j < length rows → IsSplit rows j
split [] j h = absurd (omega arith)
split (v ∷ vs) zero h = record { front = []; row = v; more = vs; whole = refl; size = refl }
split (v ∷ vs) (suc j) h =
    let parts = split vs j (omega arith) in
    record {
      front = v ∷ parts.front;
      row = parts.row;
      more = parts.more;
      whole = ap (λ ws. v ∷ ws) parts.whole;
      size = ap suc parts.size;
    }

-- a row isn't a combination of those before it
pub IsIndependent-split : (ring : Ring) (before front : List Vector) (row : Vector) (more : List Vector)
    → IsIndependent ring before (front ++ row ∷ more) → IsInSum ring (before ++ front) IsZero row → ⊥
IsIndependent-split ring before [] row more h k =
    h.0 (subst (λ rows. IsInSum ring rows IsZero row) (append-nil before) k)
IsIndependent-split ring before (v ∷ front) row more h k =
    IsIndependent-split ring (before ++ v ∷ []) front row more h.1
    (subst (λ rows. IsInSum ring rows IsZero row) (sym (append_assoc before (v ∷ []) front)) k)

-- degrees of rows at their positions
at_least : (d : ℤ) (vs : List Vector) → AllByRecursion (λ (w : Vector). d ≤ℤ w.degree) vs → (j : ℕ) → j < length vs
    → d ≤ℤ generator_degree (degrees_of vs) j
at_least d [] h j within = absurd (omega arith)
at_least d (v ∷ vs) h zero within = h.0
at_least d (v ∷ vs) h (suc j) within = at_least d vs h.1 j (omega arith)

pub generator_degree-ascending : (rows : List Vector) → IsAscending rows → (i j : ℕ) → i ≤ j → j < length rows
    → generator_degree (degrees_of rows) i ≤ℤ generator_degree (degrees_of rows) j
generator_degree-ascending [] h i j before within = absurd (omega arith)
generator_degree-ascending (v ∷ vs) h zero zero before within = omega (arith, ints)
generator_degree-ascending (v ∷ vs) h zero (suc j) before within = at_least v.degree vs h.0 j (omega arith)
generator_degree-ascending (v ∷ vs) h (suc i) zero before within = absurd (omega arith)
generator_degree-ascending (v ∷ vs) h (suc i) (suc j) before within =
    generator_degree-ascending vs h.1 i j (omega arith) (omega arith)

pub generator_degree-front : (front more : List Vector) (i : ℕ) → i < length front
    → generator_degree (degrees_of (front ++ more)) i ≡ generator_degree (degrees_of front) i
generator_degree-front [] more i h = absurd (omega arith)
generator_degree-front (v ∷ front) more zero h = refl
generator_degree-front (v ∷ front) more (suc i) h = generator_degree-front front more i (omega arith)

pub generator_degree-row : (front : List Vector) (row : Vector) (more : List Vector)
    → generator_degree (degrees_of (front ++ row ∷ more)) (length front) ≡ row.degree
generator_degree-row [] row more = refl
generator_degree-row (v ∷ front) row more = generator_degree-row front row more
