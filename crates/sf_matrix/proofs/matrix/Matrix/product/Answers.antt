use Rattle.std.proofs.Common.{rules, ◌≡◌, ◌++◌, [], ◌∷◌, ◌<◌, ◌≤◌, Some, refl, sym, ap, subst, length, ◌∙◌}
use Rattle.std.specs.List.{AllByRecursion, slice_get}
use Rattle.std.proofs.lemmas.Option.{slice_get_read}
use Rattle.sf_algebra.specs.Matrices.{IsMatrix}
use Rattle.sf_algebra.specs.MatrixOperations.{row_at, row_combination, matrix_product}
use Rattle.sf_algebra.specs.Rings.{Ring, IsPositive}
use Rattle.sf_algebra.specs.Terms.{IsNonzeroResidue}
use Rattle.sf_algebra.specs.Vectors.{Vector, IsVector}
use Rattle.sf_algebra.proofs.Basics.Lists.{AllByRecursion-get}
use Rattle.sf_algebra.proofs.GradedMatrices.MatrixProducts.{IsMatrix-matrix_product}
use Rattle.sf_algebra.proofs.Monomials.Weights.{ones_positive}
use Rattle.sf_matrix.specs.Bounds.{CombinationFits, DegreeFits}
use Rattle.sf_matrix.proofs.Assembled.{IsMatrix-assembled, mapped_all}
use Rattle.sf_matrix.proofs.Pieces.{map-take}
use Rattle.sf_matrix.proofs.Room.{CombinationFits-matrices, residues-rows}
use Rattle.sf_matrix.proofs.matrix.Matrix.product.Goals as goal

pub combination-requires-clause-room : goal.combination-requires-clause-room
combination-requires-clause-room c =
    let m = c.args.self.now in
    let n = c.args.next.now in
    let rows = c.deref-row-items.ensures.value ∙ ap (λ k. k.rows) c.self.view_is in
    let next = c.deref-in-loop-row.ensures.value ∙ ap (λ k. k.rows) c.next.view_is in
    let terms = c.deref.ensures.value ∙ ap (λ v. v.terms) c.row.view_is in
    let read =
    subst (λ vs. slice_get vs c.loop-row.row-index ≡ Some c.row-item.result) rows
    (slice_get_read _ _ _ _ refl c.loop-row-test.true c.row-item.is) in
    let row = AllByRecursion-get (IsVector m.ring m.target) m.rows c.loop-row.row-index c.row-item.result (subst IsMatrix c.self.view_is c.self.invariant) read in
    let bound =
    AllByRecursion-get (λ (v : Vector). DegreeFits n.target v.degree) m.rows c.loop-row.row-index c.row-item.result c.requires.room read in
    let fits = CombinationFits-matrices m n (subst (λ k. IsPositive k.ring.weights) c.self.view_is ones_positive) c.requires.ring c.requires.meet (subst IsMatrix c.next.view_is c.next.invariant) c.row-item.result row bound in
    subst (λ vs. CombinationFits (row_at vs) c.deref.result.now) (sym next)
    (subst (CombinationFits (row_at n.rows)) (sym terms) fits)

pub combination-requires-clause-residues : goal.combination-requires-clause-residues
combination-requires-clause-residues c =
    let n = c.args.next.now in
    let next = c.deref-in-loop-row.ensures.value ∙ ap (λ k. k.rows) c.next.view_is in
    let modulus = ap (λ (r : Ring). r.modulus) c.requires.ring ∙ sym (ap (λ k. k.ring.modulus) c.self.view_is) in
    subst (AllByRecursion (λ (v : Vector). AllByRecursion (IsNonzeroResidue c.self.inside.modulus) v.terms)) (sym next)
    (residues-rows c.self.inside.modulus n (subst IsMatrix c.next.view_is c.next.invariant) modulus)

pub invariant_of-result : goal.invariant_of-result
invariant_of-result c =
    let m = c.args.self.now in
    let n = c.args.next.now in
    let whole =
    subst (λ vs. length vs ≤ c.loop-row.row-index)
    (c.deref-row-items.ensures.value ∙ ap (λ k. k.rows) c.self.view_is) c.loop-row-test.false in
    let matrix = IsMatrix-matrix_product m n (record { positive = subst (λ p. 0 < p) (ap (λ k. k.ring.modulus) c.self.view_is) c.facts.ensures.positive; rings = sym c.requires.ring; degrees = c.requires.meet }) (subst IsMatrix c.self.view_is c.self.invariant) (subst IsMatrix c.next.view_is c.next.invariant) in
    IsMatrix-assembled (matrix_product m n) matrix _ _ _
    (ap (λ k. k.ring) c.self.view_is)
    (ap (λ f. f.degrees) c.in_ok-copy.ensures.equal ∙ ap (λ k. k.target) c.next.view_is)
    (mapped_all (λ (v : Vector). record { degree = v.degree; terms = row_combination m.ring n.rows v.terms }) m.rows c.loop-row.row-index c.loop-row.rows.items whole c.loop-row.invariant)

pub loop-row-preserved : goal.loop-row-preserved
loop-row-preserved c =
    let m = c.args.self.now in
    let n = c.args.next.now in
    let next = c.deref-in-loop-row.ensures.value ∙ ap (λ k. k.rows) c.next.view_is in
    let coefficients = c.deref.ensures.value ∙ ap (λ v. v.terms) c.row.view_is in
    let terms : c.in_ok-terms.terms.items ≡ row_combination m.ring n.rows c.row-item.result.terms =
    c.in_ok-terms.ensures.combination ∙ (λ l. row_combination (c.self.view_is l).ring (next l) (coefficients l)) in
    let rows = c.deref-row-items.ensures.value ∙ ap (λ k. k.rows) c.self.view_is in
    let read =
    subst (λ vs. slice_get vs c.loop-row.row-index ≡ Some c.row-item.result) rows
    (slice_get_read _ _ _ _ refl c.loop-row-test.true c.row-item.is) in
    let pushed : c.push.new.self.items ≡ c.loop-row.rows.items ++ record {
      degree =
          c.row.inside.degree;
      terms = c.in_ok-terms.terms.items;
    } ∷ [] = search rules in
    pushed
    ∙ (λ l. c.loop-row.invariant l ++ record { degree = (c.row.view_is l).degree; terms = terms l } ∷ [])
    ∙ sym (map-take (λ (v : Vector). record { degree = v.degree; terms = row_combination m.ring n.rows v.terms }) m.rows c.loop-row.row-index c.row-item.result read)
