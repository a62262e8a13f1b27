-- Matrices as maps of free modules, which have no relations.
use Rattle.std.proofs.Common.{◌≡◌, ◌<◌, List, [], refl, sym, ◌∙◌, ap, subst, ℤ}
use Rattle.sf_algebra.specs.Matrices.{Matrix, row_degrees, IsMatrix}
use Rattle.sf_algebra.specs.MatrixOperations.{row_combination}
use Rattle.sf_algebra.specs.Rings.{Ring}
use Rattle.sf_algebra.specs.Vectors.{Vector}
use Rattle.sf_algebra.proofs.Vectors.Rows.{row_combination-nil}
use Rattle.sf_groebner.specs.Presentations.{IsModuleMap}
use Rattle.sf_groebner.specs.Spans.{InSpan, combined}
use Rattle.sf_blocks.proofs.MatrixSums.SumProducts.{row_combination-zeros}
use Rattle.sf_homotopy.specs.Exactness.{from_nothing}

-- nothing but 0 is a combination of no rows
pub no_rows-zero : (ring : Ring) → 0 < ring.modulus → (degrees : List ℤ) (v : Vector)
    → InSpan (from_nothing ring degrees) v → v.terms ≡ []
no_rows-zero ring positive degrees v s =
    sym (ap (λ (w : Vector). w.terms) s.value)
    ∙ row_combination-zeros ring positive [] (λ i. refl) s.coefficients.terms

pub no_rows-span : (ring : Ring) → 0 < ring.modulus → (degrees : List ℤ) (v : Vector) → v.terms ≡ []
    → InSpan (from_nothing ring degrees) v
no_rows-span ring positive degrees v none = record {
  coefficients = record { degree = v.degree; terms = [] };
  homogeneous = record { canonical = record { descending = tt; residues = tt }; homogeneous = tt };
  value = λ i. record { degree = v.degree; terms = (row_combination-nil ring positive [] ∙ sym none) i };
}

pub free_map : (ring : Ring) → 0 < ring.modulus → (source target : List ℤ) (m : Matrix) → IsMatrix m → m.ring ≡ ring
    → row_degrees m ≡ source → m.target ≡ target
    → IsModuleMap (from_nothing ring source) (from_nothing ring target) m
free_map ring positive source target m matrix rings sources targets = record {
  matrix = matrix;
  source_ring = rings;
  target_ring = rings;
  source_degrees = sources;
  target_degrees = targets;
  sends = λ v e. no_rows-span ring positive target (combined m v)
      (ap (row_combination m.ring m.rows) (no_rows-zero ring positive source v e)
      ∙ row_combination-nil m.ring (subst (λ (q : Ring). 0 < q.modulus) (sym rings) positive) m.rows);
}
