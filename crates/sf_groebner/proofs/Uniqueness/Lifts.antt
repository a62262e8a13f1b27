-- A vector has at most one lift; the first block of a lift over a stack is reduced by the first blocks of syzygies.
use Rattle.std.proofs.Common.{◌≡◌, ◌||◌, false, ℕ, List, length, slice_range, sym, ◌∙◌, ap, subst}
use Rattle.sf_algebra.specs.Matrices.{Matrix, row_degrees}
use Rattle.sf_algebra.specs.MatrixOperations.{part_terms, row_combination, stacked}
use Rattle.sf_algebra.specs.Multiples.{negative}
use Rattle.sf_algebra.specs.Rings.{IsRing}
use Rattle.sf_algebra.specs.VectorOperations.{row_sum, vector_difference}
use Rattle.sf_algebra.specs.Vectors.{Vector}
use Rattle.sf_algebra.proofs.Basics.Lists.{AllByRecursion-weaken}
use Rattle.sf_algebra.proofs.Multiplying.Keys.{place_keys}
use Rattle.sf_algebra.proofs.Terms.Negatives.{add-negative}
use Rattle.sf_algebra.proofs.Vectors.Rows.{IsCanonical-row_combination}
use Rattle.sf_groebner.specs.Cuts.{has_first_part, first_parts, IsFirstBlock, IsFirstPart}
use Rattle.sf_groebner.specs.Lifts.{IsLift}
use Rattle.sf_groebner.specs.ReducedBases.{IsReducedBy, IsReducedBasis, IsSyzygyBasis}
use Rattle.sf_groebner.specs.Spans.{IsCoefficients, combined, IsSyzygy}
use Rattle.sf_groebner.proofs.Basics.Items.{AllByRecursion-from_items}
use Rattle.sf_groebner.proofs.PartsOfBases.FirstParts.{first_part, first_part_module, reduced-first_parts}
use Rattle.sf_groebner.proofs.PartsOfBases.ReducedParts.{elements, reduced_by-parts}
use Rattle.sf_groebner.proofs.Spanning.Spans.{IsVector-difference, combined-difference, syzygy_module}
use Rattle.sf_groebner.proofs.Uniqueness.Apart.{IsReducedBy-item}
use Rattle.sf_groebner.proofs.Uniqueness.Remainders.{same_reduced}
use Rattle.sf_groebner.proofs.Uniqueness.UniqueBases.{unique_reduced}

module _ (m : Matrix) (positive : IsRing m.ring) where
  -- coefficients of one vector differ by a syzygy
  pub IsSyzygy-difference : (c d : Vector) → IsCoefficients m c → IsCoefficients m d → combined m c ≡ combined m d
      → IsSyzygy m (vector_difference m.ring c d)
  IsSyzygy-difference c d h k same = record {
    coefficients = IsVector-difference m.ring positive (row_degrees m) c d h k (ap (λ v. v.degree) same);
    zero = ap (λ v. v.terms) (combined-difference m positive c d k.canonical)
        ∙ ap (λ v. row_sum m.ring v.terms (negative m.ring.modulus (row_combination m.ring m.rows d.terms))) same
        ∙ add-negative (place_keys m.ring.weights) m.ring.modulus positive.modulus
        (row_combination m.ring m.rows d.terms) (IsCanonical-row_combination m.ring positive.modulus m.rows d.terms);
  }

  pub unique_lift : (v c d : Vector) → IsLift m v c → IsLift m v d → c ≡ d
  unique_lift v c d h k =
      let value : combined m c ≡ combined m d = h.value ∙ sym k.value in
      let bases : k.syzygies ≡ h.syzygies =
      unique_reduced m.ring positive (row_degrees m) (IsSyzygy m)
      (syzygy_module m positive) k.syzygies h.syzygies k.basis h.basis in
      let terms : c.terms ≡ d.terms =
      same_reduced m.ring positive h.syzygies c d h.coefficients.canonical k.coefficients.canonical
      (h.basis.complete (vector_difference m.ring c d) (IsSyzygy-difference c d h.coefficients k.coefficients value))
      h.reduced (subst (λ basis. IsReducedBy basis d.terms) bases k.reduced) in
      λ i. record { degree = (value i).degree; terms = terms i }

-- what is reduced by all syzygies has first coefficients that are reduced by the first blocks of syzygies
pub reduced-first_block : (m : Matrix) (n : ℕ) (syzygies : List Vector) (c : Vector) → IsSyzygyBasis m syzygies
    → IsReducedBy syzygies c.terms
    → IsReducedBy (first_parts n syzygies) (part_terms 0 n c.terms)
reduced-first_block m n syzygies c h free =
    let cut = first_part m.ring (row_degrees m) (IsSyzygy m) (λ w k. k.coefficients) n in
    reduced_by-parts 0 n (has_first_part n) (IsSyzygy m) (IsFirstPart n (IsSyzygy m)) cut syzygies
    (elements 0 n (has_first_part n) (IsSyzygy m) (IsFirstPart n (IsSyzygy m)) cut m.ring.weights syzygies h) c
    (AllByRecursion-from_items _ syzygies (λ w item e. AllByRecursion-weaken _ _ (λ t no. ap (λ b. b || false) no) c.terms (IsReducedBy-item syzygies w c.terms free item)))

-- so by every reduced basis of these
pub reduced-coordinates : (a b : Matrix) → IsRing a.ring → (v c : Vector) → IsLift (stacked a b) v c
    → (basis : List Vector) → IsReducedBasis a.ring.weights (IsFirstBlock a b) basis
    → IsReducedBy basis (part_terms 0 (length a.rows) c.terms)
reduced-coordinates a b positive v c h basis k =
    let m = stacked a b in
    let n = length a.rows in
    let module_like = syzygy_module m positive in
    let blocks =
    first_part_module m.ring (row_degrees m) (IsSyzygy m) (λ w l. l.coefficients) n positive module_like.differences in
    let first = reduced-first_parts m.ring (row_degrees m) (IsSyzygy m) (λ w l. l.coefficients) n h.syzygies h.basis in
    let same : first_parts n h.syzygies ≡ basis =
    unique_reduced m.ring positive (slice_range (row_degrees m) 0 n) (IsFirstBlock a b) blocks
    (first_parts n h.syzygies) basis first k in
    subst (λ l. IsReducedBy l (part_terms 0 n c.terms)) same (reduced-first_block m n h.syzygies c h.basis h.reduced)
