-- A reduced basis of a module is one of each description of that module.
use Rattle.std.proofs.Common.{List}
use Rattle.sf_algebra.specs.Rings.{Weights}
use Rattle.sf_algebra.specs.Vectors.{Vector}
use Rattle.sf_algebra.proofs.Basics.Lists.{AllByRecursion-weaken}
use Rattle.sf_groebner.specs.ReducedBases.{IsReducedBasis}

pub IsReducedBasis-same : (weights : Weights) (N P : Vector → Type 0) → ((v : Vector) → N v → P v)
    → ((v : Vector) → P v → N v) → (basis : List Vector) → IsReducedBasis weights N basis
    → IsReducedBasis weights P basis
IsReducedBasis-same weights N P to from basis h = record {
  inside = AllByRecursion-weaken N P to basis h.inside;
  monic = h.monic;
  complete = λ v k. h.complete v (from v k);
  apart = h.apart;
  sorted = h.sorted;
}
