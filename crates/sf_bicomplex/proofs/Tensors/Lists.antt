-- Lists of matrices as complexes of free modules; the rows of a step of a resolution are syzygies of the one before.
use Rattle.std.proofs.Common.{◌≡◌, ◌≤◌, ℕ, zero, suc, List, [], ◌∷◌, length, map, refl, sym, ap, ◌∙◌, subst, arith, ℤ}
use Rattle.std.specs.List.{AllByRecursion}
use Rattle.sf_algebra.specs.Matrices.{IsMatrix, Matrix, degrees_of, row_degrees}
use Rattle.sf_algebra.specs.MatrixOperations.{matrix_product, row_combination}
use Rattle.sf_algebra.specs.Rings.{IsRing, Ring}
use Rattle.sf_algebra.specs.Vectors.{IsVector, Vector}
use Rattle.sf_algebra.proofs.Basics.Lists.{AllByRecursion-weaken}
use Rattle.sf_algebra.proofs.Monomials.Weights.{field_ring}
use Rattle.sf_algebra.proofs.Vectors.HomogeneousVectors.{IsVector-nil}
use Rattle.sf_groebner.specs.Presentations.{IsZero}
use Rattle.sf_groebner.specs.Resolutions.{AreNextSteps, IsNextStep, IsResolution}
use Rattle.sf_groebner.specs.Spans.{InSpan, IsSyzygy, combined_rows}
use Rattle.sf_groebner.proofs.Spanning.Spans.{span_module}
use Rattle.sf_groebner.proofs.Uniqueness.PresentedModules.{minimal-inside}
use Rattle.sf_blocks.specs.BlockLists.{IsFrom}
use Rattle.sf_blocks.specs.MatrixSums.{IsZeroMatrix, zero_matrix}
use Rattle.sf_bicomplex.specs.TensorBicomplexes.{AreComplex, IsZeroAfter, degrees_at, map_from, map_to}
use Rattle.sf_bicomplex.specs.TensorLaws.{HasComplexesOfLists, HasComplexesOfResolutions}

outside : (first : List ℤ) (ms : List Matrix) (p : ℕ) → suc (length ms) ≤ p → degrees_at first ms p ≡ []
outside first ms zero h = absurd (omega arith)
outside first [] (suc p) h = refl
outside first (m ∷ ms) (suc p) h = outside (row_degrees m) ms p (omega arith)

module _ (ring : Ring) where
  zero-from : (source target : List ℤ) → IsFrom ring source (zero_matrix ring source target)
  zero-from source target = record { ring_of = refl; source_of = degrees source; matrix = rows source }
    where
      degrees : (ds : List ℤ) → degrees_of (map (λ (d : ℤ). record { degree = d; terms = [] }) ds) ≡ ds
      degrees [] = refl
      degrees (d ∷ ds) = ap (λ es. d ∷ es) (degrees ds)

      rows : (ds : List ℤ) → AllByRecursion (IsVector ring target) (map (λ (d : ℤ). record { degree = d; terms = [] }) ds)
      rows [] = tt
      rows (d ∷ ds) = (IsVector-nil ring target d, rows ds)

  sources-to : (first : List ℤ) (ms : List Matrix) → AreComplex ring first ms → (p : ℕ)
      → IsFrom ring (degrees_at first ms (suc p)) (map_to ring first ms p)
  sources-to first [] h p = record { ring_of = refl; source_of = refl; matrix = tt }
  sources-to first (m ∷ ms) h zero = record { ring_of = h.0.ring_of; source_of = refl; matrix = h.0.matrix }
  sources-to first (m ∷ ms) h (suc p) = sources-to (row_degrees m) ms h.2 p

  sources : (first : List ℤ) (ms : List Matrix) → AreComplex ring first ms → (p : ℕ)
      → IsFrom ring (degrees_at first ms p) (map_from ring first ms p)
  sources first ms h zero = zero-from first []
  sources first ms h (suc p) = sources-to first ms h p

  targets : (first : List ℤ) (ms : List Matrix) → AreComplex ring first ms → (p : ℕ)
      → (map_to ring first ms p).target ≡ degrees_at first ms p
  targets first [] h p = refl
  targets first (m ∷ ms) h zero = h.0.target_of
  targets first (m ∷ ms) h (suc p) = targets (row_degrees m) ms h.2 p

  squares : (first : List ℤ) (ms : List Matrix) → AreComplex ring first ms → (p : ℕ)
      → IsZeroMatrix (matrix_product (map_to ring first ms (suc p)) (map_to ring first ms p))
  squares first [] h p = refl
  squares first (m ∷ []) h zero = refl
  squares first (m ∷ n ∷ ns) h zero = h.1
  squares first (m ∷ ms) h (suc p) = squares (row_degrees m) ms h.2 p

pub complexes_of_lists : HasComplexesOfLists
complexes_of_lists ring is_ring first ms h = record {
  is_ring = is_ring;
  outside = outside first ms;
  sources = sources ring first ms h;
  leaving = refl;
  targets = targets ring first ms h;
  squares = squares ring first ms h;
}

-- what is made of syzygies is zero
syzygies-zero : (m n : Matrix) → n.ring ≡ m.ring → AllByRecursion (IsSyzygy m) n.rows → IsZeroMatrix (matrix_product n m)
syzygies-zero m n rings h =
    λ i. record { ring = n.ring; target = m.target; rows = go n.rows h i }
  where
    go : (vs : List Vector) → AllByRecursion (IsSyzygy m) vs
        → map (combined_rows n.ring m.rows) vs
        ≡ map (λ (d : ℤ). record { degree = d; terms = [] }) (degrees_of (map (combined_rows n.ring m.rows) vs))
    go [] k = refl
    go (v ∷ vs) k =
        let none : row_combination n.ring m.rows v.terms ≡ [] =
        ap (λ q. row_combination q m.rows v.terms) rings ∙ k.0.zero in
        λ i. record { degree = v.degree; terms = none i } ∷ go vs k.1 i

as_step : (ring other : Ring) (target others : List ℤ) → other ≡ ring → others ≡ target → (rows : List Vector)
    → AllByRecursion (IsVector ring target) rows → AllByRecursion (IsVector other others) rows
as_step ring other target others rings targets rows h =
    subst (λ q. AllByRecursion (IsVector q others) rows) (sym rings)
    (subst (λ ds. AllByRecursion (IsVector ring ds) rows) (sym targets) h)

syzygy_rows : (before step : Matrix) → IsNextStep before step → AllByRecursion (IsSyzygy before) step.rows
syzygy_rows before step h =
    minimal-inside before.ring (row_degrees before) (IsSyzygy before) IsZero step.rows h.minimal

next_steps : (ring : Ring) (before : Matrix) → before.ring ≡ ring → (steps : List Matrix) → AreNextSteps before steps
    → IsZeroAfter before steps × AreComplex ring (row_degrees before) steps
next_steps ring before rings [] h = (tt, tt)
next_steps ring before rings (step ∷ steps) h =
    let rows = syzygy_rows before step h.0 in
    let after = next_steps ring step (h.0.ring ∙ rings) steps h.1 in (
      syzygies-zero before step h.0.ring rows,
      (
        record {
          ring_of = h.0.ring ∙ rings;
          target_of = h.0.target;
          matrix =
              as_step before.ring step.ring (row_degrees before) step.target h.0.ring h.0.target step.rows
              (AllByRecursion-weaken (IsSyzygy before) _ (λ v k. k.coefficients) step.rows rows);
        },
        after.0,
        after.1,
      ),
    )

resolution-complex : (relations : Matrix) → IsRing relations.ring → IsMatrix relations → (steps : List Matrix)
    → IsResolution relations steps → AreComplex relations.ring relations.target steps
resolution-complex relations is_ring matrix [] h = tt
resolution-complex relations is_ring matrix (step ∷ steps) h =
    let rows = minimal-inside relations.ring relations.target (InSpan relations) IsZero step.rows h.0.minimal in
    let after = next_steps relations.ring step h.0.ring steps h.1 in (
      record {
        ring_of = h.0.ring;
        target_of = h.0.target;
        matrix =
            as_step relations.ring step.ring relations.target step.target h.0.ring h.0.target step.rows
            (AllByRecursion-weaken (InSpan relations) _ (span_module relations is_ring matrix).vectors step.rows rows);
      },
      after.0,
      after.1,
    )

pub complexes_of_resolutions : HasComplexesOfResolutions
complexes_of_resolutions relations prime matrix steps h =
    complexes_of_lists relations.ring (field_ring prime) relations.target steps
    (resolution-complex relations (field_ring prime) matrix steps h)
