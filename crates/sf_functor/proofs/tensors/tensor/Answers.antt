use Rattle.std.proofs.Common.{◌∙◌, ap, subst}
use Rattle.sf_algebra.specs.Matrices.{Matrix}
use Rattle.sf_algebra.specs.Rings.{IsOverField}
use Rattle.sf_matrix.proofs.Plans.Rules.{meets_exit, meets_memory}
use Rattle.sf_functor.specs.Functors.{tensor_matrix, tensor_relations}
use Rattle.sf_functor.proofs.TensorSteps.{tensor_ends, tensor_found}
use Rattle.sf_functor.proofs.tensors.tensor.Goals as goal

pub returns-in-Some : goal.returns-in-Some
returns-in-Some g c =
    tensor_ends (g.B.Bases.table c.args.bases.now) c.args.m.now c.args.n.now c.in-Some.fault
    (subst (λ (m : Matrix). IsOverField m.ring) c.relations.ensures.relations c.matrix_facts.ensures.field)
    c.relations-2.ensures.relations c.relations-3.ensures.relations c.in-Some.ensures

pub returns-in_err-first : goal.returns-in_err-first
returns-in_err-first g c = meets_exit c.from_residual.ensures.1 meets_memory

pub returns-in_err-second : goal.returns-in_err-second
returns-in_err-second g c = meets_exit c.from_residual-in_err-second.ensures.1 meets_memory

pub returns-in_err-relations : goal.returns-in_err-relations
returns-in_err-relations g c = meets_exit c.from_residual-in_err-relations.ensures.1 meets_memory

pub returns : goal.returns
returns g c =
    tensor_found c.args.m.now c.args.n.now
    (c.in_ok-first.ensures.tensor ∙ ap (λ m. tensor_matrix m c.args.n.now) c.relations-4.ensures.relations)
    (c.relations-5.ensures.relations ∙ c.in_ok-second.ensures.tensor
    ∙ ap (λ ds. tensor_relations ds c.args.n.now) c.free.ensures.degrees)
    c.in_ok-relations.ensures.stacked c.present_quotient.ensures
