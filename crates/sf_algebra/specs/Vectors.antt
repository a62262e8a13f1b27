-- Homogeneous vectors of a free module. A free module is the list of its generators' degrees. (Textbook; position over
-- term is the order of Cox, Little, O'Shea, "Using Algebraic Geometry", chapter 5, section 2.)
use Rattle.std.specs.Prelude.{◌≡◌, ◌==◌, if◌then◌else◌, ℕ, ◌<◌, List, [], ◌∷◌, length, slice_index_or, filter_map, Some, None, ℤ, pos, ◌+ℤ◌}
use Rattle.std.specs.declared.cmp.Ordering.{Ordering}
use Rattle.std.specs.Ordering.{nat_cmp, on, flip_args, then_cmp}
use Rattle.std.specs.List.{AllByRecursion}
use Rattle.sf_algebra.specs.Monomials.{Monomial, monomial_cmp, monomial_degree}
use Rattle.sf_algebra.specs.Rings.{Ring, Weights}
use Rattle.sf_algebra.specs.Terms.{Term, IsCanonical}

-- where a term of a vector stands: a generator, counted from 0, and a monomial
pub record Place : Type 0 where
  pub position : ℕ
  pub monomial : Monomial

-- an earlier position is greater; at one position the monomials decide
abbrev pub place_cmp : Weights → Place → Place → Ordering
place_cmp weights =
    then_cmp (flip_args (on (λ (a : Place). a.position) nat_cmp))
    (on (λ (a : Place). a.monomial) (monomial_cmp weights))

-- a vector with its degree, which a zero vector keeps
pub record Vector : Type 0 where
  pub degree : ℤ
  pub terms : List (Term Place)

-- the degree of the generator at a position
abbrev pub generator_degree : List ℤ → ℕ → ℤ
generator_degree degrees i = slice_index_or degrees i (pos 0)

-- the degree of a place: that of its generator and that of its monomial
abbrev pub place_degree : Weights → List ℤ → Place → ℤ
place_degree weights degrees k = generator_degree degrees k.position +ℤ pos (monomial_degree weights k.monomial)

-- a term of degree d at one of the generators
abbrev pub IsTermOfDegree : Weights → List ℤ → ℤ → Term Place → Type 0
IsTermOfDegree weights degrees d t = (t.at.position < length degrees) × (d ≡ place_degree weights degrees t.at)

-- all terms have degree d
abbrev pub IsHomogeneous : Weights → List ℤ → ℤ → List (Term Place) → Type 0
IsHomogeneous weights degrees d = AllByRecursion (IsTermOfDegree weights degrees d)

-- a vector's polynomial at a position
abbrev pub entry : ℕ → List (Term Place) → List (Term Monomial)
entry i =
    filter_map (λ t. if t.at.position == i then Some (record { at = t.at.monomial; coefficient = t.coefficient }) else None)

-- the degree of a row that is written without one: that of its first term, and 0 where there is none
abbrev pub row_degree : Weights → List ℤ → List (Term Place) → ℤ
row_degree weights degrees [] = pos 0
row_degree weights degrees (t ∷ ts) = place_degree weights degrees t.at

-- the one list for the terms of a vector of a free module of this ring
abbrev pub IsCanonicalRow : Ring → List (Term Place) → Type 0
IsCanonicalRow ring ts = IsCanonical (place_cmp ring.weights) ring.modulus ts

-- v is a homogeneous vector over this free module of the ring
pub record IsVector (ring : Ring) (degrees : List ℤ) (v : Vector) : Type 0 where
  pub canonical : IsCanonicalRow ring v.terms
  pub homogeneous : IsHomogeneous ring.weights degrees v.degree v.terms
