use Rattle.std.proofs.Common.{false, rules, refl}
use Rattle.std.specs.Prelude.{IsTrue}
use Rattle.sf_matrix.proofs.Plans.LookRules.{field_of}
use Rattle.sf_matrix.proofs.Plans.Rules.{meets_exit, meets_memory}
use Rattle.sf_genmor.proofs.GeneratorSteps.{generators_free, generators_picked, meets_memory_at}
use Rattle.sf_genmor.proofs.UnitLeads.{small_candidates}
use Rattle.sf_genmor.proofs.generators.minimal_generators.Goals as goal

clash : IsTrue false → ⊥
clash e = cc

pub returns-in_err-copy : goal.returns-in_err-copy
returns-in_err-copy g c = meets_exit c.from_residual.ensures.1 meets_memory

pub returns-then-are_free : goal.returns-then-are_free
returns-then-are_free g c =
    let field = field_of c.args.candidates.now.ring c.modulus.result c.modulus.ensures.ring c.facts.ensures.prime in
    generators_free field c.are_free.ensures.candidates c.are_free.ensures.base c.requires.presentable
    (c.if-are_free.ensures.free.0 refl) c.in_ok-copy.ensures.equal

pub minimal-requires-clause-small : goal.minimal-requires-clause-small
minimal-requires-clause-small g c =
    let field = field_of c.args.candidates.now.ring c.modulus.result c.modulus.ensures.ring c.facts.ensures.prime in
    (small_candidates _ _ _ c.requires.presentable field (λ free. clash (c.if-are_free.ensures.free.1 free))).0

pub minimal-requires-clause-degrees : goal.minimal-requires-clause-degrees
minimal-requires-clause-degrees g c =
    let field = field_of c.args.candidates.now.ring c.modulus.result c.modulus.ensures.ring c.facts.ensures.prime in
    (small_candidates _ _ _ c.requires.presentable field (λ free. clash (c.if-are_free.ensures.free.1 free))).1

pub returns-in_err-numbers : goal.returns-in_err-numbers
returns-in_err-numbers g c = meets_exit c.from_residual-in_err-numbers.ensures.1 (meets_memory_at c.minimal.ensures.same)

pub returns-in_err-picked : goal.returns-in_err-picked
returns-in_err-picked g c = meets_exit c.from_residual-in_err-picked.ensures.1 (meets_memory_at c.minimal.ensures.same)

pub returns : goal.returns
returns g c =
    let field = field_of c.args.candidates.now.ring c.modulus.result c.modulus.ensures.ring c.facts.ensures.prime in
    generators_picked field c.are_free.ensures.candidates c.are_free.ensures.base c.requires.presentable
    _ c.minimal.ensures.same c.in_ok-numbers.ensures.kept (search rules)
