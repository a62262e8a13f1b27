-- The homology of a page has one presentation, and matrices to and from the next page, which are inverse.
use Rattle.std.proofs.Common.{◌≡◌, ◌↔◌, ℕ, suc, ◌+◌, ◌<◌, ◌≤◌, sym, subst, refl, arith, ℤ, pos, ◌-ℤ◌, ◌+ℤ◌}
use Rattle.sf_algebra.specs.Matrices.{IsMatrix, Matrix, degrees_of, row_degrees}
use Rattle.sf_algebra.specs.MatrixOperations.{row_combination}
use Rattle.sf_algebra.specs.Rings.{IsOverField, Ring}
use Rattle.sf_algebra.specs.Vectors.{IsVector, Vector}
use Rattle.sf_algebra.proofs.Operators.Correspondences.{converse}
use Rattle.sf_groebner.specs.MinimalGenerators.{matrix_of}
use Rattle.sf_groebner.specs.Presentations.{IsRelation}
use Rattle.sf_groebner.specs.Spans.{InSpan, IsCoefficients, combined}
use Rattle.sf_groebner.proofs.Uniqueness.PresentedModules.{IsMatrix-generators}
use Rattle.sf_presented.specs.Inverses.{AreInverseModulo}
use Rattle.sf_presented.specs.Presented.{IsPresentedBy}
use Rattle.sf_bicomplex.specs.Bicomplexes.{Bicomplex, IsBicomplex}
use Rattle.sf_bicomplex.specs.Descriptions.{Describes}
use Rattle.sf_bicomplex.specs.NextPages.{HasPageCoordinates, IsNextBoundary, IsNextCycle, IsPageHomology}
use Rattle.sf_bicomplex.specs.Pages.{IsBoundaryOfPage, IsCycleOfPage, IsPage}
use Rattle.sf_bicomplex.specs.TotalColumns.{place}
use Rattle.sf_bicomplex.proofs.Filtrations.HomologyParts.{next-lower}
use Rattle.sf_bicomplex.proofs.Pages.PageLaws.{last_pages}
use Rattle.sf_bicomplex.proofs.Spans.Described.{described, described-inverse}
use Rattle.sf_bicomplex.proofs.Spans.NextMaps.{next-class_map, next-class_map_back}
use Rattle.sf_bicomplex.proofs.Spans.PageSpans.{IsSpanned-boundaries, IsSpanned-cycles}
use Rattle.sf_bicomplex.proofs.Spans.SpannedModules.{IsSpanned, IsSpanned-relation, IsSubmodule-spanned, spanned-one_presentation, spanned-presentation, spanned-presented}

module _ (b : Bicomplex) (h : IsBicomplex b) (prime : IsOverField b.ring) (r : ℕ) (n : ℤ) (p : ℕ) (inside : p < b.columns)
    (g relations : Matrix) (page : IsPage b r n p g relations) where
  abbrev above : ℤ
  above = n +ℤ pos 1

  abbrev below : ℤ
  below = n -ℤ pos 1

  first-lower : n ≡ n +ℤ pos 1 -ℤ pos 1
  first-lower = next-lower n above refl

  cycles : (q : ℕ) → IsSpanned b.ring (place b n p).target (IsCycleOfPage b q n (n -ℤ pos 1) p)
  cycles q = IsSpanned-cycles b h prime n below refl q p inside

  boundaries : (q : ℕ) → IsSpanned b.ring (place b n p).target (IsBoundaryOfPage b q (n +ℤ pos 1) n p)
  boundaries q = IsSpanned-boundaries b h prime above n first-lower q p inside

  generators-matrix : IsMatrix g
  generators-matrix =
      IsMatrix-generators b.ring (place b n p).target (IsCycleOfPage b r n below p) (IsBoundaryOfPage b r above n p) g
      relations page (λ v e. e.vector)

  -- coordinates that give vectors of a span are a span
  next : (B : Vector → Type 0) → IsSpanned b.ring (place b n p).target B → IsSpanned b.ring (row_degrees g) (IsRelation g B)
  next = IsSpanned-relation b.ring prime (place b n p).target g page.generators_ring page.generators_target generators-matrix

  next_cycles : IsSpanned b.ring (row_degrees g) (IsNextCycle b r n (n -ℤ pos 1) p g)
  next_cycles = next (IsCycleOfPage b (suc r) n below p) (cycles (suc r))

  next_boundaries : IsSpanned b.ring (row_degrees g) (IsNextBoundary b r (n +ℤ pos 1) n p g)
  next_boundaries = next (IsBoundaryOfPage b (suc r) above n p) (boundaries (suc r))

  pub one_page_homology : ((other : Matrix) × (more : Matrix) × IsPageHomology b r n p g other more)
      × ((other more k others : Matrix) → IsPageHomology b r n p g other more → IsPageHomology b r n p g k others
      → (other ≡ k) × (more ≡ others))
  one_page_homology = (
    spanned-presentation b.ring prime (row_degrees g) (IsNextCycle b r n below p g) (IsNextBoundary b r above n p g)
        next_cycles next_boundaries,
    spanned-one_presentation b.ring prime (row_degrees g) (IsNextCycle b r n below p g) (IsNextBoundary b r above n p g)
        next_cycles next_boundaries,
  )

  presented : IsPresentedBy (IsCycleOfPage b r n (n -ℤ pos 1) p) (IsBoundaryOfPage b r (n +ℤ pos 1) n p) g relations
  presented =
      spanned-presented b.ring prime (place b n p).target (IsCycleOfPage b r n below p) (IsBoundaryOfPage b r above n p)
      (cycles r) (boundaries r) g relations page

  -- combinations of the generators are cycles of the page
  combination-cycle : (c : Vector) → IsCoefficients g c → IsCycleOfPage b r n (n -ℤ pos 1) p (combined g c)
  combination-cycle c x =
      let module_n = IsSubmodule-spanned b.ring (place b n p).target h.is_ring (IsCycleOfPage b r n below p) (cycles r) in
      let y = subst (λ q. IsVector q (row_degrees g) c) page.generators_ring x in
      subst
      (λ (q : Ring). IsCycleOfPage b r n below p (record { degree = c.degree; terms = row_combination q g.rows c.terms }))
      (sym page.generators_ring)
      (module_n.combinations g.rows presented.inside c.degree c.terms y.homogeneous)

  pub next_page_at_borders : (c : Vector)
      → (suc p ≤ r → IsCoefficients g c → IsNextCycle b r n (n -ℤ pos 1) p g c)
      × (b.columns ≤ p + r → IsNextBoundary b r (n +ℤ pos 1) n p g c ↔ InSpan relations c)
  next_page_at_borders c =
      let v = combined g c in
      let at_left = last_pages b h n below refl r (suc r) p (omega arith) inside v in
      let at_right = last_pages b h above n first-lower r (suc r) p (omega arith) inside v in (
        λ past x. record { coefficients = x; inside = (at_left.0 past).0 (combination-cycle c x) },
        λ past. (
          λ e. (presented.relate c).0
              (record { coefficients = e.coefficients; inside = (at_right.1 past).1 e.inside }),
          λ e. let k = (presented.relate c).1 e in
              record { coefficients = k.coefficients; inside = (at_right.1 past).0 k.inside },
        ),
      )

  -- the generators, with the ring and the degrees as they are known
  g_same : g ≡ matrix_of b.ring (place b n p).target g.rows
  g_same = λ i. record { ring = page.generators_ring i; target = page.generators_target i; rows = g.rows }

  known_page : IsPage b r n p (matrix_of b.ring (place b n p).target g.rows)
      (matrix_of b.ring (degrees_of g.rows) relations.rows)
  known_page =
      subst (λ (x : Matrix × Matrix). IsPage b r n p x.0 x.1)
      (λ i. (
        g_same i,
        record { ring = page.relations_ring i; target = page.relations_target i; rows = relations.rows },
      ))
      page

  known_cycles : IsSpanned b.ring (degrees_of g.rows)
      (IsNextCycle b r n (n -ℤ pos 1) p (matrix_of b.ring (place b n p).target g.rows))
  known_cycles =
      subst (λ (x : Matrix). IsSpanned b.ring (row_degrees x) (IsNextCycle b r n below p x)) g_same next_cycles

  known_boundaries : IsSpanned b.ring (degrees_of g.rows)
      (IsNextBoundary b r (n +ℤ pos 1) n p (matrix_of b.ring (place b n p).target g.rows))
  known_boundaries =
      subst (λ (x : Matrix). IsSpanned b.ring (row_degrees x) (IsNextBoundary b r above n p x)) g_same next_boundaries

  module _ (other others next' more : Matrix) where
    abbrev IsInverse : Matrix → Type 0
    IsInverse x =
        IsPageHomology b r n p x other others → IsPage b (suc r) n p next' more
        → ((to : Matrix) × Describes (HasPageCoordinates b r n p x) other others next' to)
        × ((from : Matrix) × Describes (converse (HasPageCoordinates b r n p x)) next' more other from)
        × ((to from : Matrix) → Describes (HasPageCoordinates b r n p x) other others next' to
        → Describes (converse (HasPageCoordinates b r n p x)) next' more other from
        → AreInverseModulo more others to from)

    known_maps : IsInverse (matrix_of b.ring (place b n p).target g.rows)
    known_maps homology page' =
        let x : Matrix = matrix_of b.ring (place b n p).target g.rows in
        let N : Vector → Type 0 = IsCycleOfPage b (suc r) n below p in
        let B : Vector → Type 0 = IsBoundaryOfPage b (suc r) above n p in
        let M : Vector → Type 0 = IsNextCycle b r n below p x in
        let A : Vector → Type 0 = IsNextBoundary b r above n p x in
        let F : Vector → Vector → Type 0 = HasPageCoordinates b r n p x in
        let f = next-class_map b h prime r n p inside g.rows relations.rows known_page in
        let back = next-class_map_back b h prime r n p inside g.rows relations.rows known_page in
        let source = (place b n p).target in
        let target = degrees_of g.rows in (
          described b.ring prime source target N B M A (cycles (suc r)) (boundaries (suc r)) known_cycles
              known_boundaries F f next' more other others page' homology,
          described b.ring prime target source M A N B known_cycles known_boundaries (cycles (suc r))
              (boundaries (suc r)) (converse F) back other others next' more homology page',
          λ to from. described-inverse b.ring prime source target N B M A (cycles (suc r)) (boundaries (suc r))
              known_cycles known_boundaries F f next' more other others page' homology back to from,
        )

    pub inverse_next_maps : IsPageHomology b r n p g other others → IsPage b (suc r) n p next' more
        → ((to : Matrix) × Describes (HasPageCoordinates b r n p g) other others next' to)
        × ((from : Matrix) × Describes (converse (HasPageCoordinates b r n p g)) next' more other from)
        × ((to from : Matrix) → Describes (HasPageCoordinates b r n p g) other others next' to
        → Describes (converse (HasPageCoordinates b r n p g)) next' more other from
        → AreInverseModulo more others to from)
    inverse_next_maps = subst IsInverse (sym g_same) known_maps
