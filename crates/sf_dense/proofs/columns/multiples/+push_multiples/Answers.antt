use Rattle.std.proofs.Common.{◌≡◌, ◌-◌, ◌++◌, arith, sym, ◌∙◌, ap, append-nil}
use Rattle.std.proofs.lemmas.Bool.{OnTrue_at}
use Rattle.sf_algebra.specs.Monomials.{Monomial, product, variable, exponent_sum}
use Rattle.sf_algebra.specs.Multiples.{place_product}
use Rattle.sf_algebra.specs.Vectors.{Place}
use Rattle.sf_dense.specs.PlaceLists.{multiples_of}
use Rattle.sf_dense.proofs.PlacesOfDegree.Multiples.{multiples_of-none, multiples_of-power, multiples_of-itself, added-split, exponent_sum-variable}
use Rattle.sf_dense.proofs.columns.multiples.+push_multiples.Goals as goal

pub returns-then-degree-gt0-clause-all : goal.returns-then-degree-gt0-clause-all
returns-then-degree-gt0-clause-all t c =
    let none = multiples_of-none c.args.from c.args.degree c.args.variables (omega arith) (omega arith) in
    sym (ap (λ l. c.args.places.now.items ++ l) none ∙ append-nil c.args.places.now.items)

pub returns-then-variables-lt2-clause-all : goal.returns-then-variables-lt2-clause-all
returns-then-variables-lt2-clause-all t c =
    let none : c.args.variables ≡ 0 → c.args.degree ≡ 0 = λ e. omega (arith, c.else-variables-eq0.either) in
    let all = multiples_of-power c.args.from c.args.degree c.args.variables (omega arith) none in
    rw all c.push_power.ensures.all

pub loop-rest-preserved : goal.loop-rest-preserved
loop-rest-preserved t c =
    let n = c.args.variables in
    let kept = c.loop-rest.invariant in
    let multiplied : product (variable (n - 1)) c.at.inside.monomial ≡ c.mul.result =
    ap (λ a. product a c.at.inside.monomial) (sym kept.last) ∙ sym c.mul.ensures.product in
    let place : Monomial → Place = λ a. record { position = c.at.inside.position; monomial = a } in
    let times : place_product (variable (n - 1)) c.loop-rest.at ≡ place c.mul.result =
    ap (place_product (variable (n - 1))) (sym c.at.view_is) ∙ ap place multiplied in
    let more = exponent_sum-variable (n - 1) (omega arith) c.loop-rest.at.monomial in
    let sums = ap (λ k. exponent_sum k.monomial) times in
    record {
      last = kept.last;
      variables = kept.variables;
      fits = omega arith;
      few = OnTrue_at c.if-not-branch.false c.in_ok-push_multiples.ensures.few;
      added =
          ap (λ k. c.push_multiples.new.places.items ++ multiples_of k (c.loop-rest.rest - 1) n) (sym times)
          ∙ added-split c.loop-rest.places.items c.push_multiples.new.places.items c.loop-rest.at c.loop-rest.rest n
          (omega arith) (omega arith) (OnTrue_at c.if-not-branch.false c.in_ok-push_multiples.ensures.all)
          ∙ kept.added;
    }

pub returns-clause-all : goal.returns-clause-all
returns-clause-all t c =
    let kept = c.loop-rest.invariant.added in
    let all = multiples_of-itself c.loop-rest.at c.loop-rest.rest c.args.variables (omega arith) in
    rw (← kept, all) c.push_power-2.ensures.all
