use Rattle.std.proofs.Common.{rules, sym, ◌∙◌}
use Rattle.sf_matrix.proofs.Plans.LookRules.{field_of}
use Rattle.sf_matrix.proofs.Plans.Rules.{meets_exit}
use Rattle.sf_genmor.proofs.PresentationSteps.{first_failed, generators-ring, generators-target, presentable_relations, second_cut, second_failed, third_failed, third_found}
use Rattle.sf_genmor.proofs.presentation.present.Goals as goal

pub returns-in_err-gens : goal.returns-in_err-gens
returns-in_err-gens g c =
    meets_exit c.from_residual.ensures.1 (first_failed c.args.n.now c.args.base.now c.in_err-gens.ensures)

pub reduced_relations-requires-clause-ring : goal.reduced_relations-requires-clause-ring
reduced_relations-requires-clause-ring g c =
    c.requires.presentable.ring ∙ sym (generators-ring c.args.n.now c.args.base.now c.in_ok-gens.ensures)

pub reduced_relations-requires-clause-target : goal.reduced_relations-requires-clause-target
reduced_relations-requires-clause-target g c =
    c.requires.presentable.target ∙ sym (generators-target c.args.n.now c.args.base.now c.in_ok-gens.ensures)

pub returns-in_err-reduced_rels : goal.returns-in_err-reduced_rels
returns-in_err-reduced_rels g c =
    meets_exit c.from_residual-in_err-reduced_rels.ensures.1
    (second_failed c.args.n.now c.args.base.now c.in_ok-gens.ensures c.in_err-reduced_rels.ensures)

pub returns-in_err-target : goal.returns-in_err-target
returns-in_err-target g c =
    meets_exit c.from_residual-in_err-target.ensures.1
    (second_cut c.args.n.now c.args.base.now c.in_ok-gens.ensures c.in_ok-reduced_rels.ensures)

pub minimal_generators-requires-2 : goal.minimal_generators-requires-2
minimal_generators-requires-2 g c =
    let field = field_of c.in_ok-reduced_rels.reduced_rels.ring c.modulus.result c.modulus.ensures.ring c.facts.ensures.prime in
    let rings = c.requires.presentable.ring ∙ sym (generators-ring c.args.n.now c.args.base.now c.in_ok-gens.ensures) in
    let targets = c.requires.presentable.target ∙ sym (generators-target c.args.n.now c.args.base.now c.in_ok-gens.ensures) in
    record {
      presentable = presentable_relations c.in_ok-gens.gens c.args.base.now c.in_ok-reduced_rels.reduced_rels _ (search rules) field rings targets
          c.in_ok-reduced_rels.ensures;
    }

pub returns-in_err-rels : goal.returns-in_err-rels
returns-in_err-rels g c =
    meets_exit c.from_residual-in_err-rels.ensures.1
    (third_failed c.args.n.now c.args.base.now c.in_ok-gens.ensures c.in_ok-reduced_rels.ensures _ (search rules) c.in_err-rels.ensures)

pub returns : goal.returns
returns g c =
    third_found c.args.n.now c.args.base.now c.in_ok-gens.ensures c.in_ok-reduced_rels.ensures _ (search rules) c.in_ok-rels.ensures
