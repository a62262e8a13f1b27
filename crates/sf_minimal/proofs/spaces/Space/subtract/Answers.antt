use Rattle.std.specs.Prelude.{IfSome}
use Rattle.sf_algebra.specs.MatrixOperations.{row_at}
use Rattle.sf_algebra.specs.Residues.{negative_mod}
use Rattle.sf_algebra.specs.Rings.{Ring}
use Rattle.sf_algebra.proofs.Multiplying.Gathering.{row_at-slice_get}
use Rattle.sf_dense.specs.Entries.{added, dense, placed}
use Rattle.sf_dense.specs.MonicEntries.{AreWithin}
use Rattle.sf_dense.specs.Walks.{times_monomial}
use Rattle.sf_minimal.specs.Spaces.{IsAdded}
use Rattle.std.proofs.Common.{◌≡◌, ◌<◌, length, map, sym, ap, subst, ◌∙◌, arith}
use Rattle.sf_minimal.proofs.SpaceSteps.{GoesOn-cells, dense-subtracted, if_true, length-maybe_added}
use Rattle.sf_minimal.proofs.spaces.Space.subtract.Goals as goal

pub returns-in-Some-clause-goes_on : goal.returns-in-Some-clause-goes_on
returns-in-Some-clause-goes_on c =
    GoesOn-cells c.args.m.now c.args.self.now c.requires.space c.add.new.self
    (length-maybe_added _ c.deref-in-Some.result.now c.args.self.now.cells c.add.new.self c.add.result c.add.ensures.added)

pub returns-in-Some-clause-sum : goal.returns-in-Some-clause-sum
returns-in-Some-clause-sum c =
    let m = c.args.m.now in
    let s = c.args.self.now in
    let p = m.ring.modulus in
    let ks = s.places.items in
    let i = c.args.i in
    let es = c.in-Some.entries in
    let facts = c.matrix_facts.ensures in
    let positive : 0 < p = let above = facts.above_one in omega (arith, above) in
    let read = c.in_ok-multiple_entries.ensures in
    let terms : c.terms.result.now ≡ row_at m.rows i =
    c.terms.ensures.terms ∙ sym (row_at-slice_get m.rows i c.row.result.now c.row.ensures.row) in
    let same : placed ks es.items ≡ map (times_monomial c.args.factor) (row_at m.rows i) =
    (λ j. placed (sym c.deref.ensures.value j) es.items)
    ∙ subst (λ found. IfSome found (λ us. placed c.deref.result.now us.items ≡ map (times_monomial c.args.factor) c.terms.result.now)) c.in-Some.is read.entries
    ∙ ap (map (times_monomial c.args.factor)) terms in
    let within : AreWithin (length ks) es.items =
    subst (λ l. AreWithin (length l) es.items) c.deref.ensures.value
    (subst (λ found. IfSome found (λ us. AreWithin (length c.deref.result.now) us.items)) c.in-Some.is read.within) in
    let modulus : c.modulus-modulus.result ≡ p = sym (ap (λ (r : Ring). r.modulus) c.modulus-modulus.ensures.ring) in
    let negative : c.neg-coefficient.result ≡ negative_mod p c.args.residue =
    c.neg-coefficient.ensures.negative ∙ ap (λ q. negative_mod q c.args.residue) modulus in
    λ e.
    subst (IsAdded m i c.args.factor c.args.residue (dense p ks s.cells))
    (sym (ap (dense p ks)
    (if_true _ _ c.add.result e c.add.ensures.added
    ∙ (λ j. added (negative j) s.cells (c.deref-in-Some.ensures.value j)))))
    (dense-subtracted m facts.weights positive ks s.cells es.items i c.args.residue c.args.factor c.requires.space.size within same)
