-- Pages and matrices of their differentials exist, modulo a prime, and are unique.
use Rattle.std.proofs.Common.{◌↔◌, ◌≡◌, ℕ, ◌+◌, ◌<◌, sym, subst, refl, arith, ℤ, pos, ◌-ℤ◌, ◌+ℤ◌}
use Rattle.std.proofs.lemmas.Int.{ints}
use Rattle.sf_algebra.specs.Matrices.{Matrix}
use Rattle.sf_algebra.specs.MatrixOperations.{stacked}
use Rattle.sf_algebra.specs.Rings.{IsOverField}
use Rattle.sf_algebra.specs.Vectors.{Vector}
use Rattle.sf_groebner.specs.Homology.{IsCycle}
use Rattle.sf_groebner.specs.Presentations.{IsModuleMap, IsPresentation}
use Rattle.sf_groebner.specs.Spans.{InSpan, combined}
use Rattle.sf_bicomplex.specs.Bicomplexes.{Bicomplex, IsBicomplex}
use Rattle.sf_bicomplex.specs.Descriptions.{Describes}
use Rattle.sf_bicomplex.specs.NextPages.{IsNextBoundary, IsNextCycle}
use Rattle.sf_bicomplex.specs.Pages.{HasDifferential, IsBoundaryOfPage, IsCycleOfPage, IsPage}
use Rattle.sf_bicomplex.specs.TotalColumns.{place}
use Rattle.sf_bicomplex.proofs.Filtrations.HomologyParts.{next-lower}
use Rattle.sf_bicomplex.proofs.Pages.PageLaws.{kernel_as_next_cycles, values_as_next_boundaries}
use Rattle.sf_bicomplex.proofs.Spans.Described.{described, described-image, described-kernel, described-map, one_described}
use Rattle.sf_bicomplex.proofs.Spans.DifferentialMaps.{differential-class_map}
use Rattle.sf_bicomplex.proofs.Spans.PageSpans.{IsSpanned-boundaries, IsSpanned-cycles}
use Rattle.sf_bicomplex.proofs.Spans.SpannedModules.{spanned-one_presentation, spanned-presentation}

module _ (b : Bicomplex) (h : IsBicomplex b) (prime : IsOverField b.ring) where
  pub one_page : (r : ℕ) (n : ℤ) (p : ℕ) → p < b.columns
      → ((g : Matrix) × (relations : Matrix) × IsPage b r n p g relations)
      × ((g relations other more : Matrix) → IsPage b r n p g relations → IsPage b r n p other more
      → (g ≡ other) × (relations ≡ more))
  one_page r n p inside =
      let N : Vector → Type 0 = IsCycleOfPage b r n (n -ℤ pos 1) p in
      let B : Vector → Type 0 = IsBoundaryOfPage b r (n +ℤ pos 1) n p in
      let cycles = IsSpanned-cycles b h prime n (n -ℤ pos 1) refl r p inside in
      let boundaries = IsSpanned-boundaries b h prime (n +ℤ pos 1) n (next-lower n (n +ℤ pos 1) refl) r p inside in (
        spanned-presentation b.ring prime (place b n p).target N B cycles boundaries,
        spanned-one_presentation b.ring prime (place b n p).target N B cycles boundaries,
      )

  module _ (n m : ℤ) (lower : m ≡ n -ℤ pos 1) (r p : ℕ) (inside : p + r < b.columns) (g relations other more : Matrix)
      (first : IsPage b r n (p + r) g relations) (second : IsPage b r m p other more) where
    also_inside : p < b.columns
    also_inside = omega arith

    higher : n ≡ m +ℤ pos 1
    higher = omega (arith, ints)

    -- the pages, with the degrees of the differential
    source : IsPresentation b.ring (place b n (p + r)).target (IsCycleOfPage b r n m (p + r))
        (IsBoundaryOfPage b r (n +ℤ pos 1) n (p + r)) g relations
    source =
        subst (λ l. IsPresentation b.ring (place b n (p + r)).target (IsCycleOfPage b r n l (p + r))
        (IsBoundaryOfPage b r (n +ℤ pos 1) n (p + r)) g relations) (sym lower) first

    target : IsPresentation b.ring (place b m p).target (IsCycleOfPage b r m (m -ℤ pos 1) p) (IsBoundaryOfPage b r n m p)
        other more
    target =
        subst (λ k. IsPresentation b.ring (place b m p).target (IsCycleOfPage b r m (m -ℤ pos 1) p)
        (IsBoundaryOfPage b r k m p) other more) (sym higher) second

    pub one_differential : ((d : Matrix) × Describes (HasDifferential b r n m p) other more g d)
        × ((d : Matrix) → Describes (HasDifferential b r n m p) other more g d → IsModuleMap relations more d)
        × ((d e : Matrix) → Describes (HasDifferential b r n m p) other more g d
        → Describes (HasDifferential b r n m p) other more g e → d ≡ e)
    one_differential =
        let k = n +ℤ pos 1 in
        let l = m -ℤ pos 1 in
        let N : Vector → Type 0 = IsCycleOfPage b r n m (p + r) in
        let B : Vector → Type 0 = IsBoundaryOfPage b r k n (p + r) in
        let M : Vector → Type 0 = IsCycleOfPage b r m l p in
        let A : Vector → Type 0 = IsBoundaryOfPage b r n m p in
        let above = next-lower n k refl in
        let spanned_n = IsSpanned-cycles b h prime n m lower r (p + r) inside in
        let spanned_b = IsSpanned-boundaries b h prime k n above r (p + r) inside in
        let spanned_m = IsSpanned-cycles b h prime m l refl r p also_inside in
        let spanned_a = IsSpanned-boundaries b h prime n m lower r p also_inside in
        let f = differential-class_map b h prime k n m l above lower refl r p inside in
        let from = (place b n (p + r)).target in
        let to = (place b m p).target in (
          described b.ring prime from to N B M A spanned_n spanned_b spanned_m spanned_a (HasDifferential b r n m p) f g
              relations other more source target,
          described-map b.ring prime from to N B M A spanned_n spanned_b spanned_m spanned_a (HasDifferential b r n m p) f
              g relations other more source target,
          one_described b.ring prime from to N B M A spanned_n spanned_b spanned_m spanned_a (HasDifferential b r n m p) f
              g relations other more source target,
        )

    -- coordinates of cycles and boundaries of the next page, by the matrix of the differential
    pub next_page_by_matrix : (d : Matrix) → Describes (HasDifferential b r n m p) other more g d → (c : Vector)
        → (IsNextCycle b r n m (p + r) g c ↔ IsCycle d more c)
        × (IsNextBoundary b r n m p other c ↔ InSpan (stacked d more) c)
    next_page_by_matrix d describes c =
        let k = n +ℤ pos 1 in
        let l = m -ℤ pos 1 in
        let N : Vector → Type 0 = IsCycleOfPage b r n m (p + r) in
        let B : Vector → Type 0 = IsBoundaryOfPage b r k n (p + r) in
        let M : Vector → Type 0 = IsCycleOfPage b r m l p in
        let A : Vector → Type 0 = IsBoundaryOfPage b r n m p in
        let above = next-lower n k refl in
        let spanned_n = IsSpanned-cycles b h prime n m lower r (p + r) inside in
        let spanned_b = IsSpanned-boundaries b h prime k n above r (p + r) inside in
        let spanned_m = IsSpanned-cycles b h prime m l refl r p also_inside in
        let spanned_a = IsSpanned-boundaries b h prime n m lower r p also_inside in
        let f = differential-class_map b h prime k n m l above lower refl r p inside in
        let from = (place b n (p + r)).target in
        let to = (place b m p).target in
        let kernel =
        described-kernel b.ring prime from to N B M A spanned_n spanned_b spanned_m spanned_a (HasDifferential b r n m p) f
        g relations other more source target d describes c in
        let image =
        described-image b.ring prime from to N B M A spanned_n spanned_b spanned_m spanned_a (HasDifferential b r n m p) f
        g relations other more source target d describes c in
        let cycles = kernel_as_next_cycles b h n m lower r p inside (combined g c) in
        let values = values_as_next_boundaries b h n m lower r p inside (combined other c) in (
          (
            λ e. kernel.1 (e.coefficients, cycles.0 e.inside),
            λ e. let k = kernel.0 e in record { coefficients = k.0; inside = cycles.1 k.1 },
          ),
          (
            λ e. let v = values.0 e.inside in image.1 (e.coefficients, v.0, v.1),
            λ e. let k = image.0 e in record { coefficients = k.0; inside = values.1 (k.1, k.2) },
          ),
        )
