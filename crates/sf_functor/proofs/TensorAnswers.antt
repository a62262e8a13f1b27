-- The plan of a tensor product answers the presentation of the tensor product, and nothing else.
use Rattle.std.proofs.Common.{ℕ, List, Ok, ℤ, subst}
use Rattle.sf_algebra.specs.Matrices.{Matrix}
use Rattle.sf_algebra.specs.MatrixOperations.{degree_sums}
use Rattle.sf_algebra.specs.Rings.{Ring}
use Rattle.sf_algebra.proofs.Monomials.Weights.{field_ring}
use Rattle.sf_algebra.proofs.Tensors.KroneckerSums.{kronecker-one}
use Rattle.sf_groebner.specs.Homology.{IsAny}
use Rattle.sf_groebner.specs.Presentations.{IsPresentation}
use Rattle.sf_groebner.specs.Spans.{InSpan}
use Rattle.sf_matrix.specs.Runs.{Run}
use Rattle.sf_genmor.specs.declared.presentation.Presentation.{Presentation}
use Rattle.sf_genmor.specs.QuotientPlans.{IsQuotientOf, quotient_plan}
use Rattle.sf_genmor.proofs.QuotientAnswers.{quotient_answered, quotient_sound}
use Rattle.sf_functor.specs.TensorLaws.{AnswersCokernelOfRelations, AnswersSoundTensor, AnswersTensor, AnswersTensorOfRing, ring_alone}
use Rattle.sf_functor.specs.TensorPlans.{relations_between, tensor_plan}

as_quotient : (limit : ℕ) (m n : Matrix) (looked : List Matrix) (p : Presentation) → Run limit (tensor_plan m n) looked (Ok p)
    → Run limit (quotient_plan (relations_between m n)) looked (Ok p)
unfolding tensor_plan
as_quotient limit m n looked p run = run

pub answers_tensor : AnswersTensor
answers_tensor limit m n looked p run =
    let h = quotient_answered limit (relations_between m n) looked p (as_quotient limit m n looked p run) in (
      record { presents = h.0.presents; reduced = h.0.reduced },
      λ q k. h.1 q (record { presents = k.presents; reduced = k.reduced }),
    )

pub answers_sound_tensor : AnswersSoundTensor
answers_sound_tensor limit m n looked p run =
    quotient_sound limit (relations_between m n) looked p (as_quotient limit m n looked p run)

pub answers_cokernel : AnswersCokernelOfRelations
answers_cokernel limit m n looked p rings run =
    let degrees : List ℤ = degree_sums m.target n.target in
    subst (λ (q : Ring). IsPresentation q degrees (IsAny q degrees) (InSpan (relations_between m n)) p.gens p.rels) rings
    (answers_tensor limit m n looked p run).0.presents

pub answers_tensor_of_ring : AnswersTensorOfRing
answers_tensor_of_ring limit n looked p field matrix run =
    let ring = ring_alone n.ring in
    let h = quotient_answered limit (relations_between ring n) looked p (as_quotient limit ring n looked p run) in
    subst (λ m. IsQuotientOf m p) (kronecker-one n (field_ring field).modulus matrix) h.0
