use Rattle.std.proofs.Common.{◌<◌, ◌++◌, ◌∷◌, [], sym, ap, subst, ◌∙◌, refl}
use Rattle.std.specs.List.{list_any}
use Rattle.sf_groebner.specs.Leads.{place_divides}
use Rattle.sf_algebra.specs.Rings.{Ring}
use Rattle.sf_algebra.specs.Terms.{IsDescending, IsNonzeroResidue, Term}
use Rattle.sf_algebra.specs.Vectors.{Place, place_cmp}
use Rattle.sf_algebra.proofs.Basics.Lists.{AllByRecursion-weaken}
use Rattle.sf_groebner.specs.Divisions.{IsDivided}
use Rattle.sf_matrix.specs.Bounds.{DegreeFits}
use Rattle.sf_reduce.proofs.DivisionLoops.{IsLoop-end, IsLoop-hit, IsLoop-hit_falls, IsLoop-miss, IsLoop-miss_falls, divisor_among_rows, first_degree, first_residue, first_rings}
use Rattle.sf_reduce.proofs.division.rest_of.Goals as goal

pub loop-first-smaller-in-Continue-1 : goal.loop-first-smaller-in-Continue-1
loop-first-smaller-in-Continue-1 c =
    let m = c.args.basis.now in
    let popped = c.in-Some.ensures in
    let none = ap (λ ks. list_any (λ (k : Place). place_divides k c.in-Some.first.at) ks) (sym c.requires.leads) ∙ c.in-None.ensures.none refl in
    IsLoop-miss_falls m c.basis_facts.ensures.matrix c.requires.monic c.args.sum c.loop-first.left c.basis_facts.ensures.prime c.loop-first.rest.items c.loop-first.steps.items c.loop-first.invariant c.in-Some.first c.pop.new.self popped.modulus popped.degree popped.first none c.requires.room

pub loop-first-preserved-in-Continue-1 : goal.loop-first-preserved-in-Continue-1
loop-first-preserved-in-Continue-1 c =
    let m = c.args.basis.now in
    let popped = c.in-Some.ensures in
    let none = ap (λ ks. list_any (λ (k : Place). place_divides k c.in-Some.first.at) ks) (sym c.requires.leads) ∙ c.in-None.ensures.none refl in
    rw c.in_ok-push-in-None.ensures.items
    (IsLoop-miss m c.basis_facts.ensures.matrix c.requires.monic c.args.sum c.loop-first.left c.basis_facts.ensures.prime c.loop-first.rest.items c.loop-first.steps.items c.loop-first.invariant c.in-Some.first c.pop.new.self popped.modulus popped.degree popped.first none)

pub take_away-requires : goal.take_away-requires
take_away-requires c =
    let m = c.args.basis.now in
    let popped = c.in-Some.ensures in
    let t = c.in-Some.first in
    let i = c.in-Some-divisor.i in
    let matrix = c.basis_facts.ensures.matrix in
    let prime = c.basis_facts.ensures.prime in
    let found = divisor_among_rows m.rows c.args.leads.now t.at i c.requires.leads c.in-Some-divisor.ensures.within c.in-Some-divisor.ensures.divisor in
    let degree = popped.degree ∙ c.loop-first.invariant.degree in
    record {
      ring = first_rings m matrix c.requires.monic c.args.sum c.loop-first.left prime c.loop-first.rest.items c.loop-first.steps.items c.loop-first.invariant t c.pop.new.self popped.modulus popped.degree popped.first;
      row = found.0;
      monic = c.requires.monic;
      divides = found.1;
      residue = first_residue m matrix c.requires.monic c.args.sum c.loop-first.left prime c.loop-first.rest.items c.loop-first.steps.items c.loop-first.invariant t c.pop.new.self popped.modulus popped.degree popped.first;
      degree = first_degree m matrix c.requires.monic c.args.sum c.loop-first.left prime c.loop-first.rest.items c.loop-first.steps.items c.loop-first.invariant t c.pop.new.self popped.modulus popped.degree popped.first;
      room = subst (DegreeFits m.target) (sym degree) c.requires.room;
    }

pub loop-first-smaller : goal.loop-first-smaller
loop-first-smaller c =
    let m = c.args.basis.now in
    let popped = c.in-Some.ensures in
    let i = c.in-Some-divisor.i in
    let found = divisor_among_rows m.rows c.args.leads.now c.in-Some.first.at i c.requires.leads c.in-Some-divisor.ensures.within c.in-Some-divisor.ensures.divisor in
    let taken = c.in_ok-step-in-Some-divisor.ensures in
    IsLoop-hit_falls m c.basis_facts.ensures.matrix c.requires.monic c.args.sum c.loop-first.left c.basis_facts.ensures.prime c.loop-first.rest.items c.loop-first.steps.items c.loop-first.invariant c.in-Some.first c.pop.new.self popped.modulus popped.degree popped.first i found.0 found.1 c.take_away.new.left taken.modulus taken.degree taken.left c.requires.room

pub loop-first-preserved : goal.loop-first-preserved
loop-first-preserved c =
    let m = c.args.basis.now in
    let popped = c.in-Some.ensures in
    let i = c.in-Some-divisor.i in
    let found = divisor_among_rows m.rows c.args.leads.now c.in-Some.first.at i c.requires.leads c.in-Some-divisor.ensures.within c.in-Some-divisor.ensures.divisor in
    let taken = c.in_ok-step-in-Some-divisor.ensures in
    let pushed = c.in_ok-push-in-Some-divisor.ensures.items ∙ ap (λ s. c.loop-first.steps.items ++ s ∷ []) taken.step in
    rw pushed
    (IsLoop-hit m c.basis_facts.ensures.matrix c.requires.monic c.args.sum c.loop-first.left c.basis_facts.ensures.prime c.loop-first.rest.items c.loop-first.steps.items c.loop-first.invariant c.in-Some.first c.pop.new.self popped.modulus popped.degree popped.first i found.0 found.1 c.take_away.new.left taken.modulus taken.degree taken.left)

pub from_canonical-requires : goal.from_canonical-requires
from_canonical-requires c =
    let m = c.args.basis.now in
    let divided = IsLoop-end m c.basis_facts.ensures.matrix c.requires.monic c.args.sum c.loop-first.left c.basis_facts.ensures.prime c.loop-first.rest.items c.loop-first.steps.items c.loop-first.invariant c.in_default.ensures.first.0 in
    record {
      descending = subst (λ (r : Ring). IsDescending (place_cmp r.weights) c.loop-first.rest.items) c.requires.ring divided.vector.canonical.descending;
      nonzero = AllByRecursion-weaken (IsNonzeroResidue m.ring.modulus) (λ (t : Term Place). 0 < t.coefficient) (λ t h. h.0) c.loop-first.rest.items divided.vector.canonical.residues;
    }

pub returns-clause-divided : goal.returns-clause-divided
returns-clause-divided c =
    let m = c.args.basis.now in
    let divided = IsLoop-end m c.basis_facts.ensures.matrix c.requires.monic c.args.sum c.loop-first.left c.basis_facts.ensures.prime c.loop-first.rest.items c.loop-first.steps.items c.loop-first.invariant c.in_default.ensures.first.0 in
    subst (λ ts. IsDivided m.ring m.target m.rows c.args.sum.degree c.args.sum.terms ts c.loop-first.steps.items)
    (sym (ap (λ v. v.terms) c.from_canonical.ensures.vector)) divided
