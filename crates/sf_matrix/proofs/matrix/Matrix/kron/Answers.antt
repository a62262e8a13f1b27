use Rattle.std.proofs.Common.{◌≡◌, ◌<◌, ◌≤◌, ◌+ℤ◌, Some, refl, sym, ap, subst, length, map, ◌∙◌}
use Rattle.std.specs.List.{AllByRecursion, slice_get, flat_map}
use Rattle.std.proofs.lemmas.List.{take_all}
use Rattle.std.proofs.lemmas.Option.{slice_get_read}
use Rattle.sf_algebra.specs.Matrices.{IsMatrix}
use Rattle.sf_algebra.specs.MatrixOperations.{kronecker, degree_sums}
use Rattle.sf_algebra.specs.Vectors.{Vector, IsVector}
use Rattle.sf_algebra.proofs.Basics.Lists.{AllByRecursion-get, AllByRecursion-weaken}
use Rattle.sf_algebra.proofs.Tensors.Kronecker.{IsMatrix-kronecker}
use Rattle.sf_matrix.specs.Bounds.{IsDegree, TermsFit, PositionsFit}
use Rattle.sf_matrix.specs.Places.{kronecker_vector}
use Rattle.sf_matrix.proofs.Assembled.{IsMatrix-assembled}
use Rattle.sf_matrix.proofs.KroneckerBounds.{PositionsFit-vectors, SumsFit-rows}
use Rattle.sf_matrix.proofs.matrix.Matrix.kron.Goals as goal

-- the row that the loop has read
read_left : (c : goal.After-deref) → slice_get c.args.self.now.rows c.loop-left.left-index ≡ Some c.left-item.result
read_left c =
    let rows = c.deref-left-items.ensures.value ∙ ap (λ k. k.rows) c.self.view_is in
    subst (λ vs. slice_get vs c.loop-left.left-index ≡ Some c.left-item.result) rows
    (slice_get_read _ _ _ _ refl c.loop-left-test.true c.left-item.is)

pub push_rows-requires-clause-degrees : goal.push_rows-requires-clause-degrees
push_rows-requires-clause-degrees c =
    let others = c.deref.ensures.value ∙ ap (λ k. k.rows) c.other.view_is in
    let fits =
    AllByRecursion-get _ _ _ c.left-item.result
    (SumsFit-rows c.args.self.now.rows c.args.other.now.rows c.requires.degrees) (read_left c) in
    subst (AllByRecursion (λ (w : Vector). IsDegree (c.left-item.result.degree +ℤ w.degree))) (sym others) fits

pub push_rows-requires-clause-room : goal.push_rows-requires-clause-room
push_rows-requires-clause-room c =
    let others = c.deref.ensures.value ∙ ap (λ k. k.rows) c.other.view_is in
    let fits = AllByRecursion-get _ _ _ c.left-item.result c.requires.room (read_left c) in
    subst (AllByRecursion (λ (w : Vector). TermsFit c.left-item.result.terms w.terms)) (sym others) fits

pub push_rows-requires-clause-positions : goal.push_rows-requires-clause-positions
push_rows-requires-clause-positions c =
    let a = c.args.self.now in
    let b = c.args.other.now in
    let others = c.deref.ensures.value ∙ ap (λ k. k.rows) c.other.view_is in
    let left = AllByRecursion-get (IsVector a.ring a.target) a.rows c.loop-left.left-index c.left-item.result (subst IsMatrix c.self.view_is c.self.invariant) (read_left c) in
    let rights =
    subst (λ q. AllByRecursion (IsVector q b.target) b.rows) c.requires.ring
    (subst IsMatrix c.other.view_is c.other.invariant) in
    let fits = AllByRecursion-weaken _ (λ (w : Vector). PositionsFit (length b.target) c.left-item.result.terms w.terms) (λ w k. PositionsFit-vectors a.ring a.target b.target c.left-item.result w c.requires.columns left k) b.rows rights in
    subst (AllByRecursion (λ (w : Vector). PositionsFit c.cols-columns.result c.left-item.result.terms w.terms))
    (sym others)
    (subst (λ n. AllByRecursion (λ (w : Vector). PositionsFit n c.left-item.result.terms w.terms) b.rows) (sym c.cols-columns.ensures.len) fits)

pub invariant_of-result : goal.invariant_of-result
invariant_of-result c =
    let a = c.args.self.now in
    let b = c.args.other.now in
    let positive = subst (λ p. 0 < p) (ap (λ k. k.ring.modulus) c.self.view_is) c.facts.ensures.positive in
    let matrix = IsMatrix-kronecker a b positive (sym c.requires.ring) (subst IsMatrix c.self.view_is c.self.invariant) (subst IsMatrix c.other.view_is c.other.invariant) in
    let whole =
    subst (λ vs. length vs ≤ c.loop-left.left-index)
    (c.deref-left-items.ensures.value ∙ ap (λ k. k.rows) c.self.view_is) c.loop-left-test.false in
    let rows = c.loop-left.invariant ∙ ap (flat_map (λ (v : Vector). map (kronecker_vector a.ring (length b.target) v) b.rows)) (take_all c.loop-left.left-index a.rows whole) in
    let first = c.as_slice-target.ensures.items ∙ ap (λ k. k.target) c.self.view_is in
    let second = c.as_slice.ensures.items ∙ ap (λ k. k.target) c.other.view_is in
    IsMatrix-assembled (kronecker a b) matrix _ _ _
    (ap (λ k. k.ring) c.self.view_is)
    (c.in_ok-degrees.ensures ∙ (λ l. degree_sums (first l) (second l)))
    rows
