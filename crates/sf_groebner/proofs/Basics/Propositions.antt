-- What is asked of vectors and of bases is met in at most one way.
use Rattle.std.proofs.Common.{ℕ, List, [], ◌∷◌}
use Rattle.std.proofs.Props.{props}
use Rattle.std.specs.List.{AllByRecursion-prop}
use Rattle.sf_algebra.specs.Bounds.{HasSmallSize}
use Rattle.sf_algebra.specs.Matrices.{Matrix, IsMatrix}
use Rattle.sf_algebra.specs.Rings.{Weights}
use Rattle.sf_algebra.specs.Terms.{Term}
use Rattle.sf_algebra.specs.Vectors.{Place, Vector}
use Rattle.sf_groebner.specs.ReducedBases.{IsMonic, HasDividedLead, IsReducedBy, IsApart, IsSorted, IsReducedBasis, IsSyzygyBasis, IsGraphBasis}
use Rattle.sf_groebner.specs.Small.{HasLeadUpTo, IsWithinLimit, IsSmall, IsLarge}
use Rattle.sf_groebner.specs.Spans.{IsSyzygy, IsGraphVector}
use Rattle.sf_algebra.proofs.Vectors.VectorProps.{IsVector-prop}

pub IsMatrix-prop : (m : Matrix) → IsProp (IsMatrix m)
IsMatrix-prop m = AllByRecursion-prop _ (IsVector-prop m.ring m.target) m.rows

pub IsSyzygy-prop : (m : Matrix) (c : Vector) → IsProp (IsSyzygy m c)
IsSyzygy-prop m c = hlevel (props, IsVector-prop)

pub IsGraphVector-prop : (m : Matrix) (w : Vector) → IsProp (IsGraphVector m w)
IsGraphVector-prop m w = hlevel (props, IsVector-prop)

pub IsMonic-prop : (ts : List (Term Place)) → IsProp (IsMonic ts)
IsMonic-prop [] = hlevel props
IsMonic-prop (t ∷ ts) = hlevel props

HasDividedLead-prop : (vs : List Vector) (ts : List (Term Place)) → IsProp (HasDividedLead vs ts)
HasDividedLead-prop vs [] = hlevel props
HasDividedLead-prop vs (t ∷ ts) = hlevel props

pub IsReducedBy-prop : (vs : List Vector) (ts : List (Term Place)) → IsProp (IsReducedBy vs ts)
IsReducedBy-prop vs ts = hlevel props

pub IsApart-prop : (vs : List Vector) → IsProp (IsApart vs)
IsApart-prop [] = hlevel props
IsApart-prop (v ∷ vs) = let rest = IsApart-prop vs in hlevel (props, rest)

pub IsSorted-prop : (weights : Weights) (vs : List Vector) → IsProp (IsSorted weights vs)
IsSorted-prop weights [] = hlevel props
IsSorted-prop weights (v ∷ vs) = let rest = IsSorted-prop weights vs in hlevel (props, rest)

-- the reduced basis of a module that is given by a proposition
pub IsReducedBasis-prop : (weights : Weights) (N : Vector → Type 0) → ((v : Vector) → IsProp (N v))
    → (basis : List Vector) → IsProp (IsReducedBasis weights N basis)
IsReducedBasis-prop weights N each basis =
    hlevel (props, each, IsMonic-prop, HasDividedLead-prop, IsApart-prop, IsSorted-prop weights)

HasLeadUpTo-prop : (weights : Weights) (limit : ℕ) (ts : List (Term Place)) → IsProp (HasLeadUpTo weights limit ts)
HasLeadUpTo-prop weights limit [] = hlevel props
HasLeadUpTo-prop weights limit (t ∷ ts) = hlevel props

pub IsWithinLimit-prop : (weights : Weights) (limit : ℕ) (basis : List Vector)
    → IsProp (IsWithinLimit weights limit basis)
IsWithinLimit-prop weights limit basis = hlevel (props, HasLeadUpTo-prop weights)

pub HasSmallSize-prop : (m : Matrix) → IsProp (HasSmallSize m)
HasSmallSize-prop m = hlevel props

pub syzygy_basis-prop : (m : Matrix) (basis : List Vector) → IsProp (IsSyzygyBasis m basis)
syzygy_basis-prop m = IsReducedBasis-prop m.ring.weights (IsSyzygy m) (IsSyzygy-prop m)

pub graph_basis-prop : (m : Matrix) (basis : List Vector) → IsProp (IsGraphBasis m basis)
graph_basis-prop m = IsReducedBasis-prop m.ring.weights (IsGraphVector m) (IsGraphVector-prop m)

pub IsSmall-prop : (limit : ℕ) (m : Matrix) (basis : List Vector) → IsProp (IsSmall limit m basis)
IsSmall-prop limit m basis = hlevel (HasSmallSize-prop, graph_basis-prop, IsWithinLimit-prop m.ring.weights)

pub IsLarge-prop : (limit : ℕ) (m : Matrix) → IsProp (IsLarge limit m)
IsLarge-prop limit m = hlevel props
