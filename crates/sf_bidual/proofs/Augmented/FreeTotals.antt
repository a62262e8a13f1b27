-- Where the modules of a bicomplex are free, its total complex has no relations.
use Rattle.std.proofs.Common.{◌≡◌, ◌<◌, ℕ, zero, suc, List, [], ◌++◌, length, map, refl, sym, ◌∙◌, ap, subst, ℤ, pos, ◌-ℤ◌}
use Rattle.sf_algebra.specs.Matrices.{degrees_of}
use Rattle.sf_algebra.specs.MatrixOperations.{moved}
use Rattle.sf_algebra.specs.Rings.{Ring}
use Rattle.sf_algebra.specs.Terms.{Term}
use Rattle.sf_algebra.specs.Vectors.{Place, Vector}
use Rattle.sf_algebra.proofs.Vectors.Rows.{row_combination-nil}
use Rattle.sf_groebner.specs.Spans.{InSpan, IsSpannedBy}
use Rattle.sf_blocks.specs.MatrixSums.{row_by_row}
use Rattle.sf_blocks.specs.TotalRelations.{total_relations}
use Rattle.sf_blocks.proofs.MatrixSums.SumProducts.{row_combination-zeros}
use Rattle.sf_bicomplex.specs.Bicomplexes.{Bicomplex, IsBicomplex}
use Rattle.sf_bicomplex.specs.TotalColumns.{place, places, total_module}
use Rattle.sf_bicomplex.proofs.TotalComplexes.TotalGroups.{total_ring}

-- the rows of a direct sum
both_rows : ℕ → List Vector → List Vector → List Vector
both_rows n us vs =
    row_by_row (λ (ts : List (Term Place)) ss. ts ++ moved n ss) us
    (map (λ (d : ℤ). record { degree = d; terms = [] }) (degrees_of us))
    ++ row_by_row (λ (ts : List (Term Place)) ss. ts ++ moved n ss)
    (map (λ (d : ℤ). record { degree = d; terms = [] }) (degrees_of vs)) vs

no_relations : (ring : Ring) (b : Bicomplex) (n : ℤ) → ((p : ℕ) (q : ℤ) → (b.relations p q).rows ≡ []) → (k : ℕ)
    → (total_relations ring (places b n k)).rows ≡ []
unfolding both_rows
no_relations ring b n free zero = refl
no_relations ring b n free (suc k) =
    λ i. both_rows (length (place b n k).target) (free k (n -ℤ pos k) i) (no_relations ring b n free k i)

module _ (b : Bicomplex) (h : IsBicomplex b) (free : (p : ℕ) (q : ℤ) → (b.relations p q).rows ≡ []) (n : ℤ) where
  rows : (total_module b n).rows ≡ []
  rows = no_relations b.ring b n free b.columns

  positive : 0 < (total_module b n).ring.modulus
  positive = subst (λ (q : Ring). 0 < q.modulus) (sym (total_ring b h n (pos 0))) h.is_ring.modulus

  pub relation-zero : (v : Vector) → InSpan (total_module b n) v → v.terms ≡ []
  relation-zero v e =
      let s : IsSpannedBy (total_module b n).ring [] v =
      subst (λ vs. IsSpannedBy (total_module b n).ring vs v) rows e in
      sym (ap (λ (w : Vector). w.terms) s.value)
      ∙ row_combination-zeros (total_module b n).ring positive [] (λ i. refl) s.coefficients.terms

  pub zero-relation : (v : Vector) → v.terms ≡ [] → InSpan (total_module b n) v
  zero-relation v none =
      subst (λ vs. IsSpannedBy (total_module b n).ring vs v) (sym rows) (record {
        coefficients = record { degree = v.degree; terms = [] };
        homogeneous = record { canonical = record { descending = tt; residues = tt }; homogeneous = tt };
        value = λ i. record {
          degree = v.degree;
          terms = (row_combination-nil (total_module b n).ring positive [] ∙ sym none) i;
        };
      })
