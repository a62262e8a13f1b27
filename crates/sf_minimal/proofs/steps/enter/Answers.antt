use Rattle.std.proofs.Common.{◌≡◌, [], length, pos, sym, ap, subst, ◌∙◌}
use Rattle.sf_algebra.specs.Rings.{Ring}
use Rattle.sf_algebra.specs.Sums.{normal}
use Rattle.sf_algebra.specs.Vectors.{IsVector, Vector, place_cmp}
use Rattle.sf_algebra.proofs.Monomials.Weights.{field_ring}
use Rattle.sf_minimal.specs.Constants.{StandWithin, constants}
use Rattle.sf_minimal.specs.Pivots.{IsEntered}
use Rattle.sf_minimal.specs.Steps.{constant_terms}
use Rattle.sf_minimal.proofs.Dividing.{constants-vector, over_plain, quotients-within}
use Rattle.sf_minimal.proofs.steps.enter.Goals as goal

pub constants_of-requires : goal.constants_of-requires
constants_of-requires c =
    let m = c.args.cands.now in
    let facts = c.matrix_facts.ensures in
    record {
      within = subst (λ n. StandWithin n c.deref.result.now) (sym c.rows.ensures.len)
          (subst (StandWithin (length m.rows)) (sym c.deref.ensures.value)
          (quotients-within m (over_plain m.ring facts.weights facts.prime) facts.matrix c.requires.basis c.args.v.now.degree c.args.v.now.terms [] c.in_ok-quotients.quotients.items c.in_ok-quotients.ensures.divided));
    }

pub enter_constants-requires-clause-vector : goal.enter_constants-requires-clause-vector
enter_constants-requires-clause-vector c =
    let m = c.args.cands.now in
    let e = c.args.pivots.now in
    let facts = c.matrix_facts.ensures in
    let over = over_plain m.ring facts.weights facts.prime in
    let rings = c.modulus.ensures.ring in
    let quotients = c.in_ok-quotients.quotients.items in
    let whole : c.in_ok-constants.constants ≡ record { degree = pos 0; terms = constant_terms m quotients } =
    c.in_ok-constants.ensures.constants
    ∙ (λ k. record { degree = pos 0; terms = normal (place_cmp (sym rings k).weights) (sym rings k).modulus (constants (c.rows.ensures.len k) (c.deref.ensures.value k)) }) in
    let within = quotients-within m over facts.matrix c.requires.basis c.args.v.now.degree c.args.v.now.terms [] quotients c.in_ok-quotients.ensures.divided in
    subst (λ (r : Ring). IsVector r e.target c.in_ok-constants.constants) (sym c.requires.pivots_ring)
    (subst (IsVector m.ring e.target) (sym whole)
    (constants-vector m.ring (field_ring over) e.target (length m.rows) c.requires.columns c.requires.pivots.target quotients within))

pub returns : goal.returns
returns c =
    let m = c.args.cands.now in
    let facts = c.matrix_facts.ensures in
    let rings = c.modulus.ensures.ring in
    let quotients = c.in_ok-quotients.quotients.items in
    let terms : c.in_ok-constants.constants.terms ≡ constant_terms m quotients =
    ap (λ (v : Vector). v.terms) c.in_ok-constants.ensures.constants
    ∙ (λ k. normal (place_cmp (sym rings k).weights) (sym rings k).modulus (constants (c.rows.ensures.len k) (c.deref.ensures.value k))) in
    record {
      step = record {
        steps = quotients;
        divided = c.in_ok-quotients.ensures.divided;
        entered = subst (IsEntered c.args.pivots.now c.enter_constants.new.pivots) terms c.in_ok-enter_constants.ensures.entered;
      };
      taken = c.in_ok-enter_constants.ensures.taken;
      spaces = c.in_ok-quotients.ensures.spaces;
    }
