-- Each vector of a span has a lift: coefficients of it, reduced by the syzygies.
use Rattle.std.proofs.Common.{◌≡◌, List, [], sym, ◌∙◌, ap}
use Rattle.sf_algebra.specs.Matrices.{Matrix, IsMatrix, row_degrees}
use Rattle.sf_algebra.specs.MatrixOperations.{row_combination}
use Rattle.sf_algebra.specs.Rings.{IsRing, IsOverField, Ring}
use Rattle.sf_algebra.specs.VectorOperations.{row_sum}
use Rattle.sf_algebra.specs.Vectors.{Vector}
use Rattle.sf_algebra.proofs.Monomials.Weights.{field_ring}
use Rattle.sf_algebra.proofs.Vectors.RowSums.{row_sum-nil}
use Rattle.sf_algebra.proofs.Vectors.Rows.{IsCanonical-row_combination, row_combination-add}
use Rattle.sf_groebner.specs.Lifts.{IsLift}
use Rattle.sf_groebner.specs.Spans.{InSpan, IsSyzygy}
use Rattle.sf_groebner.proofs.Constructions.Divisions.{divide}
use Rattle.sf_groebner.proofs.Constructions.MatrixBases.{basis-monic, syzygy_basis}
use Rattle.sf_groebner.proofs.Spanning.SyzygyCombinations.{syzygy_submodule}

pub lift_exists : (m : Matrix) → IsOverField m.ring → IsMatrix m → (v : Vector) → InSpan m v
    → (c : Vector) × IsLift m v c
lift_exists m prime matrix v h =
    let ring : Ring = m.ring in
    let positive : IsRing ring = field_ring prime in
    let b = syzygy_basis m prime matrix in
    let syzygies : List Vector = b.0 in
    let given : Vector = h.coefficients in
    let e = divide ring prime (row_degrees m) syzygies (basis-monic ring (row_degrees m) (IsSyzygy m) (λ w k. k.coefficients) syzygies b.1) given h.homogeneous in
    let zero : row_combination ring m.rows (row_combination ring syzygies e.quotients) ≡ [] =
    ((syzygy_submodule m positive).combinations syzygies b.1.inside given.degree e.quotients e.divided.homogeneous).zero in
    let terms : row_combination ring m.rows e.rest ≡ row_combination ring m.rows given.terms =
    sym (row_sum-nil ring positive.modulus (row_combination ring m.rows e.rest) (IsCanonical-row_combination ring positive.modulus m.rows e.rest))
    ∙ ap (row_sum ring (row_combination ring m.rows e.rest)) (sym zero)
    ∙ sym (row_combination-add ring positive.modulus m.rows e.rest (row_combination ring syzygies e.quotients))
    ∙ ap (row_combination ring m.rows) e.divided.sum in (
      record { degree = given.degree; terms = e.rest },
      record {
        syzygies = syzygies;
        basis = b.1;
        coefficients = e.divided.vector;
        value = (λ i. record { degree = given.degree; terms = terms i }) ∙ h.value;
        reduced = e.divided.reduced;
      },
    )
