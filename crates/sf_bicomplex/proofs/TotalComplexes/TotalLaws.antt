-- The laws of total complexes, said of vectors.
use Rattle.std.proofs.Common.{◌≡◌, ◌↔◌, ℕ, suc, ◌<◌, ◌≤◌, List, [], ◌∷◌, sym, ◌∙◌, refl, inl, inr, ℤ, pos, ◌-ℤ◌}
use Rattle.std.proofs.lemmas.Bool.{cases_lt}
use Rattle.std.specs.List.{AllByRecursion}
use Rattle.sf_algebra.specs.MatrixOperations.{part_terms}
use Rattle.sf_algebra.specs.Terms.{Term}
use Rattle.sf_algebra.specs.VectorOperations.{vector_sum}
use Rattle.sf_algebra.specs.Vectors.{IsVector, Place, Vector}
use Rattle.sf_algebra.proofs.GradedMatrices.PartTerms.{part_terms-inside, part_terms-outside}
use Rattle.sf_groebner.specs.Presentations.{IsModuleMap}
use Rattle.sf_groebner.specs.Spans.{InSpan, combined, combined_rows}
use Rattle.sf_blocks.specs.TotalDifferentials.{total_differential}
use Rattle.sf_bicomplex.specs.Bicomplexes.{Bicomplex, IsBicomplex}
use Rattle.sf_bicomplex.specs.TotalColumns.{StandsBelow, column_part, column_start, place, spots, total_degrees, total_map, total_module}
use Rattle.sf_bicomplex.proofs.Columns.ColumnParts.{IsVector-taken, part_terms-behind}
use Rattle.sf_bicomplex.proofs.TotalComplexes.Diagonals.{IsMatrix-total_map, total_map-rows, total_map-same}
use Rattle.sf_bicomplex.proofs.TotalComplexes.ImageColumns.{image-columns}
use Rattle.sf_bicomplex.proofs.TotalComplexes.TotalGroups.{total-differential, total_image, total_ring}
use Rattle.sf_bicomplex.proofs.TotalComplexes.TotalMaps.{total-sends}
use Rattle.sf_bicomplex.proofs.TotalComplexes.TotalModules.{IsRange-column, lowest-submodule}
use Rattle.sf_bicomplex.proofs.TotalComplexes.TotalSpans.{relations-taken}

module _ (b : Bicomplex) (h : IsBicomplex b) where
  pub IsModuleMap-total : (n m : ℤ) → m ≡ n -ℤ pos 1 → IsModuleMap (total_module b n) (total_module b m) (total_map b n m)
  IsModuleMap-total n m lower = record {
    matrix = IsMatrix-total_map b h n m lower;
    source_ring = sym (total_ring b h n (pos 0));
    target_ring = sym (total_ring b h m (pos 0));
    source_degrees = total_map-rows b h n m lower;
    target_degrees = refl;
    sends = λ v e. total-sends b h n m lower v.degree b.columns v.terms
        ((lowest-submodule b h n b.columns).module_like.vectors v e) e;
  }

  pub total_maps : (n m : ℤ) → m ≡ n -ℤ pos 1
      → (total_map b n m ≡ total_differential b.ring (spots b n b.columns))
      × IsModuleMap (total_module b n) (total_module b m) (total_map b n m)
  total_maps n m lower = (sym (total_map-same b h n m lower), IsModuleMap-total n m lower)

  pub keeps_columns : (n m : ℤ) → m ≡ n -ℤ pos 1 → (k : ℕ) (v : Vector) → StandsBelow b n k v
      → StandsBelow b m k (combined (total_map b n m) v)
  keeps_columns n m lower k v e =
      let d = total-differential b h n m lower v.degree in
      record {
        vector = (total_image b h n m lower v.degree (v.terms, e.vector)).1;
        below = d.keeps k (v.terms, e.vector) e.below;
      }

  pub columns_in_places : (n : ℤ) (p : ℕ) → p < b.columns → (v : Vector)
      → (StandsBelow b n b.columns v → IsVector b.ring (place b n p).target (column_part b n p v))
      × (InSpan (total_module b n) v → InSpan (place b n p) (column_part b n p v))
  columns_in_places n p inside v = (
    λ e. IsVector-taken b.ring h.is_ring (total_degrees b n) (place b n p).target (column_start b n (suc p))
        (column_start b n p) (IsRange-column b n p inside) v.degree v.terms e.vector,
    λ e. relations-taken b h n v.degree b.columns p inside v.terms
        ((lowest-submodule b h n b.columns).module_like.vectors v e) e,
  )

pub columns_of_images : (b : Bicomplex) → IsBicomplex b → (n m : ℤ) → m ≡ n -ℤ pos 1 → (p : ℕ) → p < b.columns
    → (v : Vector) → StandsBelow b n b.columns v
    → column_part b m p (combined (total_map b n m) v)
    ≡ vector_sum b.ring (combined_rows b.ring (b.vertical p (n -ℤ pos p)).rows (column_part b n p v))
    (combined_rows b.ring (b.horizontal (suc p) (n -ℤ pos (suc p))).rows (column_part b n (suc p) v))
columns_of_images b h n m lower p inside v e =
    λ i. record {
      degree = v.degree;
      terms =
          image-columns b h n m lower v.degree b.columns p inside v.terms e.vector i;
    }

-- terms from a position on stand further on where none is read off
pub behind-part_terms : (from to : ℕ) (ts : List (Term Place)) → AllByRecursion (λ t. from ≤ t.at.position) ts
    → part_terms from to ts ≡ [] → AllByRecursion (λ t. to ≤ t.at.position) ts
behind-part_terms from to [] h none = tt
behind-part_terms from to (t ∷ ts) h none = elim (cases_lt t.at.position to) [
  | inl before ↦ let some = sym (part_terms-inside from to t ts h.0 before) ∙ none in absurd (cc)
  | inr reached ↦
      (reached, behind-part_terms from to ts h.1 (sym (part_terms-outside from to t ts (inr reached)) ∙ none))
]

pub highest_columns : (b : Bicomplex) → IsBicomplex b → (n : ℤ) (p : ℕ) (v : Vector) → StandsBelow b n (suc p) v
    → ((column_part b n p v).terms ≡ []) ↔ StandsBelow b n p v
highest_columns b h n p v e = (
  λ none. record {
    vector = e.vector;
    below = behind-part_terms (column_start b n (suc p)) (column_start b n p) v.terms e.below none;
  },
  λ k. part_terms-behind (column_start b n (suc p)) (column_start b n p) v.terms k.below,
)
