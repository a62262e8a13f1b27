use Rattle.std.proofs.Common.{◌≤◌, length, refl, sym, subst}
use Rattle.sf_algebra.specs.Bounds.{GREATEST_SIZE}
use Rattle.sf_algebra.specs.Matrices.{Matrix}
use Rattle.sf_algebra.specs.Monomials.{VARIABLES}
use Rattle.sf_groebner.proofs.Spanning.GraphMatrices.{length-with_units}
use Rattle.sf_variables.specs.Variables.{IsMatrixInVariables}
use Rattle.sf_counting.proofs.Counting.CountedBases.{counted_basis}
use Rattle.sf_buchberger.proofs.counted.counted_rows.Goals as goal

pub start-requires-clause-few : goal.start-requires-clause-few
start-requires-clause-few g c =
    let m = c.args.m.now in
    subst (λ (x : Matrix). length x.rows ≤ GREATEST_SIZE) (sym c.requires.generators)
    (subst (λ n. n ≤ GREATEST_SIZE) (sym (length-with_units (length m.target) m.rows)) c.requires.size.rows)

pub loop-init : goal.loop-init
loop-init g c =
    let same = sym c.in_ok-counting.ensures.variables in
    record {
      counting = c.in_ok-counting.ensures.counting c.args.limit;
      few = subst (λ n. n ≤ VARIABLES) same c.variables_of.ensures.few;
      variables = subst (λ n. IsMatrixInVariables n c.args.m.now) same c.variables_of.ensures.variables;
    }

pub returns-then-covers : goal.returns-then-covers
returns-then-covers g c =
    let m = c.args.m.now in
    let counting = c.loop.invariant.counting in
    let finding = counting.finding in
    record {
      basis = record {
        ring = finding.ring;
        target = finding.target;
        small = record {
          size = c.requires.size;
          reduced = counted_basis c.loop.counting.variables m c.facts.ensures.field c.facts.ensures.matrix c.loop.invariant.variables
              c.loop.counting.rows.rows finding.rows counting.apart finding.sorted (c.if-covers.ensures.full refl);
          within = record { few = finding.few; low = finding.low };
        };
      };
    }
