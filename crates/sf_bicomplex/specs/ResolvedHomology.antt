-- The homology of a complex that resolved rows set, and what its classes correspond to in that of the total complex.
-- (Weibel, "An Introduction to Homological Algebra", section 2.7.)
use Rattle.std.specs.Prelude.{◌≡◌, ℕ, ℤ, pos, ◌+ℤ◌, ◌-ℤ◌}
use Rattle.sf_algebra.specs.Matrices.{Matrix}
use Rattle.sf_algebra.specs.Rings.{IsOverField}
use Rattle.sf_algebra.specs.Vectors.{Vector}
use Rattle.sf_groebner.specs.Homology.{IsCycle}
use Rattle.sf_groebner.specs.Maps.{AreEqualModulo}
use Rattle.sf_groebner.specs.Presentations.{IsPresentation}
use Rattle.sf_groebner.specs.Spans.{InSpan, IsSyzygy, combined}
use Rattle.sf_presented.specs.Inverses.{AreInverseModulo}
use Rattle.sf_bicomplex.specs.Bicomplexes.{Bicomplex, IsBicomplex}
use Rattle.sf_bicomplex.specs.Descriptions.{Describes}
use Rattle.sf_bicomplex.specs.InducedFiltrations.{IsTotalBoundary, IsTotalHomology}
use Rattle.sf_bicomplex.specs.ResolvedRows.{Augmentation, ResolvesRows}
use Rattle.sf_bicomplex.specs.TotalColumns.{total_map, total_module}

-- the homology of the complex at the place that is set in degree n of the total complex
abbrev pub IsSetHomology : Bicomplex → (top : ℕ) → Augmentation → (n : ℤ) → Matrix → Matrix → Type 0
IsSetHomology b top a n generators relations =
    IsPresentation b.ring (a.degrees (n -ℤ pos top)) (IsSyzygy (a.map (n -ℤ pos top)))
    (InSpan (a.map (n +ℤ pos 1 -ℤ pos top))) generators relations

-- the cycle c, set, is equal to the cycle z of the total complex modulo boundaries
pub record SetsClass (b : Bicomplex) (top : ℕ) (a : Augmentation) (n : ℤ) (c z : Vector) : Type 0 where
  pub cycle : IsSyzygy (a.map (n -ℤ pos top)) c
  pub total : IsCycle (total_map b n (n -ℤ pos 1)) (total_module b (n -ℤ pos 1)) z
  pub same : AreEqualModulo b.ring (IsTotalBoundary b (n +ℤ pos 1) n) (combined (a.set (n -ℤ pos top)) c) z

-- the complex has one homology at each place
abbrev pub HasOneSetHomology : Type 0
HasOneSetHomology =
    (b : Bicomplex) → IsBicomplex b → IsOverField b.ring → (top : ℕ) (a : Augmentation) → ResolvesRows b top a → (n : ℤ)
    → ((g : Matrix) × (relations : Matrix) × IsSetHomology b top a n g relations)
    × ((g relations h others : Matrix) → IsSetHomology b top a n g relations → IsSetHomology b top a n h others
    → (g ≡ h) × (relations ≡ others))

-- and two matrices from its generators to those of the homology of the total complex and back, inverse modulo relations
abbrev pub HasInverseSetMaps : Type 0
HasInverseSetMaps =
    (b : Bicomplex) → IsBicomplex b → IsOverField b.ring → (top : ℕ) (a : Augmentation) → ResolvesRows b top a → (n : ℤ)
    → (g relations h others : Matrix) → IsSetHomology b top a n g relations → IsTotalHomology b n h others
    → ((to : Matrix) × Describes (SetsClass b top a n) h others g to)
    × ((from : Matrix) × Describes (λ z c. SetsClass b top a n c z) g relations h from)
    × ((to from : Matrix) → Describes (SetsClass b top a n) h others g to
    → Describes (λ z c. SetsClass b top a n c z) g relations h from → AreInverseModulo relations others to from)
