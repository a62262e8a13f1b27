use Rattle.std.proofs.Common.{sym, ap, subst, ◌∙◌}
use Rattle.std.specs.List.{AllByRecursion}
use Rattle.sf_algebra.specs.Rings.{Ring, Weights}
use Rattle.sf_algebra.specs.Vectors.{IsHomogeneous, IsVector, Vector}
use Rattle.sf_algebra.proofs.Basics.Lists.{AllByRecursion-weaken}
use Rattle.sf_groebner.specs.Small.{HasLeadUpTo}
use Rattle.sf_groebner.specs.Spans.{InSpan}
use Rattle.sf_matrix.specs.KeptNumbers.{AreKeptNumbers}
use Rattle.sf_minimal.specs.Numbers.{free_numbers}
use Rattle.sf_minimal.proofs.KeptRows.{free_numbers-AreKeptNumbers}
use Rattle.sf_minimal.proofs.LowLeads.{low_room}
use Rattle.sf_minimal.proofs.minimal.minimal_of.Goals as goal

pub pivots_of-requires-clause-basis : goal.pivots_of-requires-clause-basis
pivots_of-requires-clause-basis c =
    let m = c.args.cands.now in
    let facts = c.matrix_facts.ensures in
    let weights = ap (λ (r : Ring). r.weights) facts.weights in
    let low = subst (λ (w : Weights). AllByRecursion (λ (v : Vector). HasLeadUpTo w 60 v.terms) m.rows) weights c.requires.low.low in
    let homogeneous = AllByRecursion-weaken (IsVector m.ring m.target) (λ (v : Vector). IsHomogeneous m.ring.weights m.target v.degree v.terms) (λ v h. h.homogeneous) m.rows facts.matrix in
    record {
      reduced = c.requires.reduced;
      low = low;
      room = low_room m.target c.requires.degrees m.rows
          (subst (λ (w : Weights). AllByRecursion (λ (v : Vector). IsHomogeneous w m.target v.degree v.terms) m.rows) weights homogeneous)
          c.requires.reduced.monic low;
    }

pub returns : goal.returns
returns c =
    let m = c.args.cands.now in
    let pivots = c.in_ok-pivots.pivots.rows in
    record {
      kept = subst (AreKeptNumbers (InSpan c.args.base.now) m)
          (sym (c.in_ok-numbers.ensures.numbers ∙ ap (λ n. free_numbers pivots n n) c.rows.ensures.len))
          (free_numbers-AreKeptNumbers m (InSpan c.args.base.now) pivots c.in_ok-pivots.ensures.decide);
    }
