use Rattle.std.proofs.Common.{[], ◌∙◌}
use Rattle.sf_algebra.specs.Rings.{plain}
use Rattle.sf_groebner.specs.MinimalGenerators.{matrix_of}
use Rattle.sf_genmor.proofs.UnitRows.{basis_more, basis_whole, row_vector, row_within}
use Rattle.sf_genmor.proofs.units.unit_basis.Goals as goal

pub loop-place-init : goal.loop-place-init
loop-place-init c =
    c.new-basis.ensures.empty ∙ (λ i. matrix_of (plain c.args.modulus) (c.in_ok-copy.ensures.equal i).degrees [])

pub row-requires : goal.row-requires
row-requires c =
    row_within c.args.free.now.degrees c.deref-place-items.result.now
    (c.deref-place-items.ensures.value ∙ c.in_ok-places.ensures.places) c.loop-place.place-index c.loop-place-test.true
    (plain c.args.modulus) c.in_ok-units.units c.in_ok-units.ensures.identity

pub push_row-requires : goal.push_row-requires
push_row-requires c =
    row_vector c.args.free.now.degrees c.deref-place-items.result.now
    (c.deref-place-items.ensures.value ∙ c.in_ok-places.ensures.places) c.loop-place.place-index c.loop-place-test.true
    (plain c.args.modulus) c.in_ok-units.units c.in_ok-units.ensures.identity c.in_ok-copy-2.field-0 c.row.result.now
    c.row.ensures.row c.in_ok-copy-2.ensures.equal c.row.ensures.matrix c.loop-place.basis _ c.loop-place.invariant

pub loop-place-preserved : goal.loop-place-preserved
loop-place-preserved c =
    basis_more c.args.free.now.degrees c.deref-place-items.result.now
    (c.deref-place-items.ensures.value ∙ c.in_ok-places.ensures.places) c.loop-place.place-index c.loop-place-test.true
    (plain c.args.modulus) c.in_ok-units.units c.in_ok-units.ensures.identity c.in_ok-copy-2.field-0 c.row.result.now
    c.row.ensures.row c.in_ok-copy-2.ensures.equal c.loop-place.basis _ c.loop-place.invariant c.in_ok-push_row.ensures.ok

pub returns : goal.returns
returns c = record {
  units =
      basis_whole (plain c.args.modulus) c.args.free.now.degrees c.deref-place-items.result.now
      (c.deref-place-items.ensures.value ∙ c.in_ok-places.ensures.places) c.loop-place.place-index c.loop-place-test.false
      c.loop-place.basis c.loop-place.invariant;
}
