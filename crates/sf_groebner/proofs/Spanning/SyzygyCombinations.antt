-- Combinations of syzygies are syzygies.
use Rattle.std.proofs.Common.{◌≡◌, List, [], refl, sym, ◌∙◌, ap}
use Rattle.std.specs.List.{AllByRecursion}
use Rattle.sf_algebra.specs.Matrices.{Matrix, row_degrees}
use Rattle.sf_algebra.specs.MatrixOperations.{row_combination}
use Rattle.sf_algebra.specs.Multiples.{combination, place_product}
use Rattle.sf_algebra.specs.Rings.{IsRing}
use Rattle.sf_algebra.specs.Terms.{Term}
use Rattle.sf_algebra.specs.Vectors.{Place, Vector, place_cmp}
use Rattle.sf_algebra.proofs.Basics.Lists.{AllByRecursion-weaken}
use Rattle.sf_algebra.proofs.GradedMatrices.ProductParts.{combination-no_rows}
use Rattle.sf_algebra.proofs.GradedMatrices.Stacks.{with_terms-each}
use Rattle.sf_algebra.proofs.Multiplying.Keys.{place_keys}
use Rattle.sf_algebra.proofs.Vectors.Degrees.{IsHomogeneous-row_combination}
use Rattle.sf_algebra.proofs.Vectors.Rows.{IsCanonical-row_combination, row_at-map, row_combination-matrix_product}
use Rattle.sf_groebner.specs.MinimalGenerators.{matrix_of}
use Rattle.sf_groebner.specs.Spans.{IsSyzygy}
use Rattle.sf_groebner.proofs.Spanning.Spans.{syzygy_module}
use Rattle.sf_groebner.proofs.Spanning.Submodules.{IsSubmodule}

module _ (m : Matrix) (positive : IsRing m.ring) where
  -- combinations of syzygies give 0
  pub syzygies-zero : (rows : List Vector) → AllByRecursion (IsSyzygy m) rows → (c : List (Term Place))
      → row_combination m.ring m.rows (row_combination m.ring rows c) ≡ []
  syzygies-zero rows inside c =
      let ring = m.ring in
      sym (row_combination-matrix_product ring positive.modulus (matrix_of ring (row_degrees m) rows) m c refl)
      ∙ ap (λ us. row_combination ring us c)
      (with_terms-each (row_combination ring m.rows) (λ _. []) rows (AllByRecursion-weaken _ _ (λ v k. k.zero) rows inside))
      ∙ (λ i. combination (place_cmp ring.weights) place_product ring.modulus (λ k. k.monomial) (λ (k : Place). row_at-map (λ _. []) refl rows k.position i) c)
      ∙ combination-no_rows (place_keys ring.weights) ring.modulus positive.modulus (λ k. k.monomial) c

  pub syzygy_submodule : IsSubmodule m.ring (row_degrees m) (IsSyzygy m)
  syzygy_submodule = record {
    module_like = syzygy_module m positive;
    combinations = λ rows inside d c h. record {
      coefficients = record {
        canonical = IsCanonical-row_combination m.ring positive.modulus rows c;
        homogeneous =
            IsHomogeneous-row_combination (row_degrees m) m.ring rows
            (AllByRecursion-weaken _ _ (λ v k. k.coefficients.homogeneous) rows inside) d c h;
      };
      zero = syzygies-zero rows inside c;
    };
  }
