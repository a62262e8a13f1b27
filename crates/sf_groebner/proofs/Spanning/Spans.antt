-- Spans, syzygies, graphs and relations are modules.
use Rattle.std.proofs.Common.{◌≡◌, List, [], ◌+◌, length, sym, ◌∙◌, ap, subst, ℤ}
use Rattle.sf_algebra.specs.Matrices.{Matrix, row_degrees, IsMatrix}
use Rattle.sf_algebra.specs.MatrixOperations.{row_combination}
use Rattle.sf_algebra.specs.Multiples.{negative}
use Rattle.sf_algebra.specs.Rings.{Ring, IsRing}
use Rattle.sf_algebra.specs.Terms.{Term}
use Rattle.sf_algebra.specs.VectorOperations.{row_sum, vector_difference}
use Rattle.sf_algebra.specs.Vectors.{Place, Vector, IsVector, IsCanonicalRow}
use Rattle.sf_algebra.proofs.GradedMatrices.PartTerms.{IsCanonical-part_terms}
use Rattle.sf_algebra.proofs.Multiplying.Keys.{place_keys}
use Rattle.sf_algebra.proofs.Terms.Negatives.{add-negative}
use Rattle.sf_algebra.proofs.Vectors.HomogeneousVectors.{IsVector-add, IsVector-negative, IsVector-row_combination}
use Rattle.sf_algebra.proofs.Vectors.Rows.{row_combination-add, row_combination-negative}
use Rattle.sf_groebner.specs.Presentations.{IsRelation}
use Rattle.sf_groebner.specs.Spans.{combined, InSpan, IsSyzygy, graph_degrees, coefficient_terms, IsGraphVector}
use Rattle.sf_groebner.proofs.PartsOfBases.PartSums.{part_terms-difference}
use Rattle.sf_groebner.proofs.Spanning.Modules.{IsModuleLike}

pub IsVector-difference : (ring : Ring) → IsRing ring → (degrees : List ℤ) (u v : Vector) → IsVector ring degrees u
    → IsVector ring degrees v → u.degree ≡ v.degree → IsVector ring degrees (vector_difference ring u v)
IsVector-difference ring positive degrees u v h k e =
    IsVector-add ring degrees positive.modulus u.degree u.terms (negative ring.modulus v.terms) h
    (IsVector-negative ring degrees u.degree v.terms (subst (λ d. IsVector ring degrees (record { degree = d; terms = v.terms })) (sym e) k))

module _ (m : Matrix) (positive : IsRing m.ring) where
  row_combination-difference : (c d : List (Term Place)) → IsCanonicalRow m.ring d
      → row_combination m.ring m.rows (row_sum m.ring c (negative m.ring.modulus d))
      ≡ row_sum m.ring (row_combination m.ring m.rows c) (negative m.ring.modulus (row_combination m.ring m.rows d))
  row_combination-difference c d h =
      row_combination-add m.ring positive.modulus m.rows c (negative m.ring.modulus d)
      ∙ ap (row_sum m.ring (row_combination m.ring m.rows c))
      (row_combination-negative m.ring positive.modulus m.rows d h)

  pub combined-difference : (c d : Vector) → IsCanonicalRow m.ring d.terms
      → combined m (vector_difference m.ring c d) ≡ vector_difference m.ring (combined m c) (combined m d)
  combined-difference c d h = λ i. record { degree = c.degree; terms = row_combination-difference c.terms d.terms h i }

  pub span_module : IsMatrix m → IsModuleLike m.ring m.target (InSpan m)
  span_module matrix = record {
    vectors = λ v h. subst (IsVector m.ring m.target) h.value (IsVector-row_combination m positive.modulus matrix h.coefficients h.homogeneous);
    differences = λ u v h k e. record {
      coefficients = vector_difference m.ring h.coefficients k.coefficients;
      homogeneous =
          IsVector-difference m.ring positive (row_degrees m) h.coefficients k.coefficients h.homogeneous k.homogeneous
          (ap (λ x. x.degree) h.value ∙ e ∙ sym (ap (λ x. x.degree) k.value));
      value =
          combined-difference h.coefficients k.coefficients k.homogeneous.canonical
          ∙ (λ i. vector_difference m.ring (h.value i) (k.value i));
    };
  }

  -- the relations of generators modulo a module
  pub relation_module : (target : List ℤ) (B : Vector → Type 0) → IsModuleLike m.ring target B
      → IsModuleLike m.ring (row_degrees m) (IsRelation m B)
  relation_module target B h = record {
    vectors = λ c k. k.coefficients;
    differences = λ c d k l e. record {
      coefficients = IsVector-difference m.ring positive (row_degrees m) c d k.coefficients l.coefficients e;
      inside =
          subst B (sym (combined-difference c d l.coefficients.canonical))
          (h.differences (combined m c) (combined m d) k.inside l.inside e);
    };
  }

  pub syzygy_module : IsModuleLike m.ring (row_degrees m) (IsSyzygy m)
  syzygy_module = record {
    vectors = λ c k. k.coefficients;
    differences = λ c d k l e. record {
      coefficients = IsVector-difference m.ring positive (row_degrees m) c d k.coefficients l.coefficients e;
      zero = row_combination-difference c.terms d.terms l.coefficients.canonical
          ∙ (λ i. row_sum m.ring (k.zero i) (negative m.ring.modulus (l.zero i)))
          ∙ add-negative (place_keys m.ring.weights) m.ring.modulus positive.modulus []
          (record { descending = tt; residues = tt });
    };
  }

  pub graph_module : IsModuleLike m.ring (graph_degrees m) (IsGraphVector m)
  graph_module = record {
    vectors = λ w k. k.vector;
    differences = λ u v k l e. record {
      vector = IsVector-difference m.ring positive (graph_degrees m) u v k.vector l.vector e;
      value = part_terms-difference m.ring 0 (length m.target) positive u.terms v.terms
          ∙ (λ i. row_sum m.ring (k.value i) (negative m.ring.modulus (l.value i)))
          ∙ sym (row_combination-difference (coefficient_terms m u.terms) (coefficient_terms m v.terms)
          (IsCanonical-part_terms m.ring (length m.target) (length m.target + length m.rows) v.terms l.vector.canonical))
          ∙ ap (row_combination m.ring m.rows)
          (sym (part_terms-difference m.ring (length m.target) (length m.target + length m.rows) positive u.terms v.terms));
    };
  }
