use Rattle.std.proofs.Common.{◌≡◌, length, sym, ◌∙◌, ap, subst, ◌+◌}
use Rattle.sf_algebra.specs.MatrixOperations.{part_terms}
use Rattle.sf_algebra.specs.Multiples.{negative}
use Rattle.sf_algebra.specs.Rings.{Ring, IsOverField}
use Rattle.sf_algebra.specs.Vectors.{Vector, IsCanonicalRow}
use Rattle.sf_algebra.proofs.GradedMatrices.PartTerms.{IsCanonical-part_terms}
use Rattle.sf_groebner.specs.BasisParts.{value_part}
use Rattle.sf_groebner.specs.Divisions.{IsDivided}
use Rattle.sf_groebner.specs.Reductions.{IsReduction}
use Rattle.sf_groebner.specs.Spans.{coefficient_terms}
use Rattle.sf_matrix.specs.Bounds.{DegreeFits}
use Rattle.sf_reduce.specs.TermSums.{TermSum}
use Rattle.sf_buchberger.proofs.FinishedRows.{field_ones}
use Rattle.sf_store.proofs.RestsOfBases.{DegreeFits-small, basis_reduction, rest_canonical}
use Rattle.sf_store.proofs.reduction.reduction.Goals as goal

pub rest_of-requires-clause-room : goal.rest_of-requires-clause-room
rest_of-requires-clause-room c =
    let whole = c.requires.basis.1 in
    let fits = DegreeFits-small c.args.m.now whole.small.size c.args.v.now.degree c.requires.room in
    subst (λ (s : TermSum). DegreeFits c.args.basis.now.elements.target s.degree) (sym c.in_ok-sum.ensures.sum)
    (subst (λ ds. DegreeFits ds c.args.v.now.degree) (sym whole.target) fits)

pub negative-requires : goal.negative-requires
negative-requires c =
    let m = c.args.m.now in
    let b = c.args.basis.now in
    let v : Vector = c.args.v.now in
    let rest : Vector = c.in_ok-rest.rest in
    let steps = c.in_ok-rest._steps.items in
    let divided : IsDivided b.elements.ring b.elements.target b.elements.rows v.degree v.terms rest.terms steps =
    subst (λ (s : TermSum). IsDivided b.elements.ring b.elements.target b.elements.rows s.degree s.terms rest.terms steps)
    c.in_ok-sum.ensures.sum c.in_ok-rest.ensures.divided in
    let canonical = rest_canonical c.requires.basis.0 m b c.requires.basis.1 v rest.terms steps divided in
    record {
      canonical =
          subst (λ (r : Ring). IsCanonicalRow r c.in_ok-taken.taken.terms) c.modulus-modulus.ensures.ring
          (subst (λ (x : Vector). IsCanonicalRow m.ring x.terms) (sym c.in_ok-taken.ensures.part)
          (IsCanonical-part_terms m.ring _ _ rest.terms canonical));
    }

pub returns : goal.returns
returns c =
    let m = c.args.m.now in
    let b = c.args.basis.now in
    let v : Vector = c.args.v.now in
    let rest : Vector = c.in_ok-rest.rest in
    let steps = c.in_ok-rest._steps.items in
    let h = c.requires.basis.1 in
    let ring = c.modulus-modulus.ensures.ring in
    let divided : IsDivided b.elements.ring b.elements.target b.elements.rows v.degree v.terms rest.terms steps =
    subst (λ (s : TermSum). IsDivided b.elements.ring b.elements.target b.elements.rows s.degree s.terms rest.terms steps)
    c.in_ok-sum.ensures.sum c.in_ok-rest.ensures.divided in
    let prime : IsOverField m.ring = rw ring (field_ones c.modulus-modulus.result c.facts.ensures.prime) in
    let matrix = c.cols-columns.ensures.matrix in
    let reduction = basis_reduction c.requires.basis.0 m b h v rest.terms steps divided prime matrix c.requires.vector in
    let degree : rest.degree ≡ v.degree =
    c.in_ok-rest.ensures.degree ∙ ap (λ (s : TermSum). s.degree) c.in_ok-sum.ensures.sum in
    let columns : c.cols-columns.result ≡ length m.target = c.cols-columns.ensures.len in
    let end : c.cols-columns.result + c.rows.result ≡ length m.target + length m.rows =
    λ i. columns i + c.rows.ensures.len i in
    let left : c.in_ok-left.left ≡ value_part m (record { degree = v.degree; terms = rest.terms }) =
    c.in_ok-left.ensures.part ∙ (λ i. record { degree = degree i; terms = part_terms 0 (columns i) rest.terms }) in
    let behind : Vector = record { degree = v.degree; terms = coefficient_terms m rest.terms } in
    let taken : c.in_ok-taken.taken ≡ behind =
    c.in_ok-taken.ensures.part
    ∙ (λ i. record { degree = degree i; terms = part_terms (columns i) (end i) rest.terms }) in
    let modulus : c.modulus-modulus.result ≡ m.ring.modulus = sym (ap (λ (r : Ring). r.modulus) ring) in
    let coefficients : c.in_ok-coefficients.coefficients ≡ record behind { terms = negative m.ring.modulus behind.terms } =
    c.in_ok-coefficients.ensures.negative
    ∙ (λ i. record { degree = (taken i).degree; terms = negative (modulus i) (taken i).terms }) in
    record {
      reduction = subst (λ (x : Vector × Vector). IsReduction m v x.0 x.1)
          (λ i. (sym left i, sym coefficients i)) reduction;
    }
