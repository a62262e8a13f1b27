-- Modules of homogeneous vectors, as far as their bases, lifts and generators being unique asks.
use Rattle.std.proofs.Common.{◌≡◌, List, ℤ}
use Rattle.sf_algebra.specs.Rings.{Ring}
use Rattle.sf_algebra.specs.VectorOperations.{vector_difference}
use Rattle.sf_algebra.specs.Vectors.{Vector, IsVector}

-- the vectors of N are homogeneous vectors over one free module, and differences of two of one degree are in N
pub record IsModuleLike (ring : Ring) (degrees : List ℤ) (N : Vector → Type 0) : Type 0 where
  pub vectors : (v : Vector) → N v → IsVector ring degrees v
  pub differences : (u v : Vector) → N u → N v → u.degree ≡ v.degree → N (vector_difference ring u v)
