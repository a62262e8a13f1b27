-- What the plan of a tensor product answers, and what its relations are. (Atiyah, Macdonald, "Introduction to Commutative Algebra",
-- chapter 2.)
use Rattle.std.specs.Prelude.{◌≡◌, ℕ, List, [], ◌∷◌, length, Ok, pos}
use Rattle.std.specs.List.{AllByRecursion}
use Rattle.sf_algebra.specs.Matrices.{Matrix, IsMatrix}
use Rattle.sf_algebra.specs.Rings.{IsOverField, Ring}
use Rattle.sf_algebra.specs.Vectors.{IsVector, Vector}
use Rattle.sf_groebner.specs.Homology.{IsCokernel}
use Rattle.sf_groebner.specs.MinimalGenerators.{matrix_of}
use Rattle.sf_groebner.specs.Spans.{InSpan}
use Rattle.sf_matrix.specs.Places.{kronecker_vector}
use Rattle.sf_matrix.specs.Runs.{Run}
use Rattle.sf_genmor.specs.declared.presentation.Presentation.{Presentation}
use Rattle.sf_genmor.specs.QuotientPlans.{IsQuotientOf}
use Rattle.sf_genmor.specs.SoundPresentations.{IsSoundOver}
use Rattle.sf_functor.specs.Functors.{tensor_matrix, tensor_relations}
use Rattle.sf_functor.specs.TensorPlans.{IsTensorOf, relations_between, tensor_plan}

-- the presentation of the tensor product, and nothing else
abbrev pub AnswersTensor : Type 0
AnswersTensor =
    (limit : ℕ) (m n : Matrix) (looked : List Matrix) (p : Presentation) → Run limit (tensor_plan m n) looked (Ok p)
    → IsTensorOf m n p × ((q : Presentation) → IsTensorOf m n q → q ≡ p)

-- matrices over the ring, of small degrees
abbrev pub AnswersSoundTensor : Type 0
AnswersSoundTensor =
    (limit : ℕ) (m n : Matrix) (looked : List Matrix) (p : Presentation) → Run limit (tensor_plan m n) looked (Ok p)
    → IsSoundOver m.ring limit p

-- it is the cokernel of the map that the relations of the first module give between copies of the second
abbrev pub AnswersCokernelOfRelations : Type 0
AnswersCokernelOfRelations =
    (limit : ℕ) (m n : Matrix) (looked : List Matrix) (p : Presentation) → m.ring ≡ n.ring
    → Run limit (tensor_plan m n) looked (Ok p)
    → IsCokernel (tensor_relations m.target n) (tensor_matrix m n) p.gens p.rels

-- the tensor product of a vector over the generators of the first module and one over those of the second
abbrev pub tensor_of : Matrix → Matrix → Vector → Vector → Vector
tensor_of m n v w = kronecker_vector m.ring (length n.target) v w

-- such a product, one factor of which is in the span of the relations of its module
pub data IsTensorRelation (m n : Matrix) : Vector → Type 0 where
  of_first : (v w : Vector) → InSpan m v → IsVector n.ring n.target w → IsTensorRelation m n (tensor_of m n v w)
  of_second : (v w : Vector) → IsVector m.ring m.target v → InSpan n w → IsTensorRelation m n (tensor_of m n v w)

-- two modules over one ring
pub record AreModulesBeside (m n : Matrix) : Type 0 where
  pub field : IsOverField m.ring
  pub ring : m.ring ≡ n.ring
  pub first : IsMatrix m
  pub second : IsMatrix n

-- the relations of the tensor product span all these products
abbrev pub SpansTensorRelations : Type 0
SpansTensorRelations =
    (m n : Matrix) → AreModulesBeside m n → (u : Vector) → IsTensorRelation m n u → InSpan (relations_between m n) u

-- and each of them is one
abbrev pub HasTensorRelations : Type 0
HasTensorRelations =
    (m n : Matrix) → AreModulesBeside m n → AllByRecursion (IsTensorRelation m n) (relations_between m n).rows

-- the ring as a module over itself
abbrev pub ring_alone : Ring → Matrix
ring_alone ring = matrix_of ring (pos 0 ∷ []) []

-- the tensor product of the ring and N is presented as N itself is
abbrev pub AnswersTensorOfRing : Type 0
AnswersTensorOfRing =
    (limit : ℕ) (n : Matrix) (looked : List Matrix) (p : Presentation) → IsOverField n.ring → IsMatrix n
    → Run limit (tensor_plan (ring_alone n.ring) n) looked (Ok p) → IsQuotientOf n p
