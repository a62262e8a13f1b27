-- Parts of homology and their matrices to and from the last page exist, modulo a prime, are unique, and are inverse.
use Rattle.std.proofs.Common.{◌≡◌, ◌↔◌, ℕ, suc, ◌<◌, ◌≤◌, List, sym, ap, subst, refl, arith, ℤ, pos, ◌-ℤ◌, ◌+ℤ◌}
use Rattle.sf_algebra.specs.Matrices.{IsMatrix, Matrix, degrees_of}
use Rattle.sf_algebra.specs.Rings.{IsOverField}
use Rattle.sf_algebra.specs.Vectors.{IsVector, Vector}
use Rattle.sf_algebra.proofs.Basics.Lists.{AllByRecursion-weaken}
use Rattle.sf_algebra.proofs.Operators.Correspondences.{converse}
use Rattle.sf_groebner.specs.Homology.{IsCycle}
use Rattle.sf_groebner.specs.MinimalGenerators.{matrix_of}
use Rattle.sf_groebner.specs.Presentations.{IsPresentation}
use Rattle.sf_groebner.specs.Spans.{InSpan, IsCoefficients}
use Rattle.sf_presented.specs.Inverses.{AreInverseModulo}
use Rattle.sf_presented.specs.Presented.{IsPresentedBy}
use Rattle.sf_bicomplex.specs.Bicomplexes.{Bicomplex, IsBicomplex}
use Rattle.sf_bicomplex.specs.Descriptions.{Describes}
use Rattle.sf_bicomplex.specs.GivenHomology.{IsGivenHomology}
use Rattle.sf_bicomplex.specs.InducedFiltrations.{HasLeadingColumn, IsOfPart, IsPartOfHomology, IsTotalBoundary, IsTotalHomology}
use Rattle.sf_bicomplex.specs.Pages.{IsBoundaryOfPage, IsCycleOfPage, IsPage}
use Rattle.sf_bicomplex.specs.TotalColumns.{place, total_degrees, total_map, total_module}
use Rattle.sf_bicomplex.proofs.TotalComplexes.TotalGroups.{total_ring}
use Rattle.sf_bicomplex.proofs.Filtrations.HomologyParts.{next-lower, presented, same}
use Rattle.sf_bicomplex.proofs.Filtrations.PartLaws as Parts
use Rattle.sf_bicomplex.proofs.TotalComplexes.Diagonals.{total_map-rows}
use Rattle.sf_bicomplex.proofs.Spans.Described.{described, described-inverse}
use Rattle.sf_bicomplex.proofs.Spans.PageSpans.{IsSpanned-all_boundaries, IsSpanned-boundaries, IsSpanned-cycles, IsSpanned-parts, IsSpanned-total_cycles}
use Rattle.sf_bicomplex.proofs.Spans.PartMaps.{parts-class_map, parts-class_map_back}
use Rattle.sf_bicomplex.proofs.Spans.SpannedModules.{IsSpanned, spanned-one_presentation, spanned-presentation}

-- the homology of the total complex in one degree
pub one_total_homology : (b : Bicomplex) → IsBicomplex b → IsOverField b.ring → (n : ℤ)
    → ((g : Matrix) × (relations : Matrix) × IsTotalHomology b n g relations)
    × ((g relations other others : Matrix) → IsTotalHomology b n g relations → IsTotalHomology b n other others
    → (g ≡ other) × (relations ≡ others))
one_total_homology b h prime n =
    let above = n +ℤ pos 1 in
    let below = n -ℤ pos 1 in
    let N : Vector → Type 0 = IsCycle (total_map b n below) (total_module b below) in
    let B : Vector → Type 0 = IsTotalBoundary b above n in
    let cycles = IsSpanned-total_cycles b h prime n below refl in
    let boundaries = IsSpanned-all_boundaries b h prime above n (next-lower n above refl) in
    subst (λ q. ((g : Matrix) × (relations : Matrix) × IsPresentation q (total_degrees b n) N B g relations)
    × ((g relations other others : Matrix) → IsPresentation q (total_degrees b n) N B g relations
    → IsPresentation q (total_degrees b n) N B other others → (g ≡ other) × (relations ≡ others)))
    (sym (total_ring b h n (pos 0))) (
      spanned-presentation b.ring prime (total_degrees b n) N B cycles boundaries,
      spanned-one_presentation b.ring prime (total_degrees b n) N B cycles boundaries,
    )

-- generators whose rows, ring and degrees are known
module _ (b : Bicomplex) (h : IsBicomplex b) (n : ℤ) (generators relations : Matrix)
    (given : IsGivenHomology b n generators relations) where
  pub given-same : generators ≡ matrix_of b.ring (total_degrees b n) generators.rows
  given-same = λ i. record { ring = given.ring i; target = given.target i; rows = generators.rows }

  pub given-presented : IsPresentedBy (IsCycle (total_map b n (n -ℤ pos 1)) (total_module b (n -ℤ pos 1)))
      (IsTotalBoundary b (n +ℤ pos 1) n) (matrix_of b.ring (total_degrees b n) generators.rows) relations
  given-presented =
      subst (λ (x : Matrix). IsPresentedBy (IsCycle (total_map b n (n -ℤ pos 1)) (total_module b (n -ℤ pos 1)))
      (IsTotalBoundary b (n +ℤ pos 1) n) x relations) given-same given.presented

  pub given-matrix : IsMatrix (matrix_of b.ring (total_degrees b n) generators.rows)
  given-matrix =
      AllByRecursion-weaken _ (IsVector b.ring (total_degrees b n))
      (λ v e. subst (λ ds. IsVector b.ring ds v) (total_map-rows b h n (n -ℤ pos 1) refl) e.coefficients) generators.rows
      given.presented.inside

-- the generators of the homology of the total complex are such
pub homology-given : (b : Bicomplex) → IsBicomplex b → IsOverField b.ring → (n : ℤ) (generators relations : Matrix)
    → IsTotalHomology b n generators relations → IsGivenHomology b n generators relations
homology-given b h prime n generators relations homology =
    let above = n +ℤ pos 1 in
    let below = n -ℤ pos 1 in
    let known = same b h prime n above below refl refl generators relations homology in
    record {
      ring = ap (λ (m : Matrix). m.ring) known;
      target = ap (λ (m : Matrix). m.target) known;
      presented =
          subst (λ (x : Matrix). IsPresentedBy (IsCycle (total_map b n below) (total_module b below))
          (IsTotalBoundary b above n) x relations) (sym known)
          (presented b h prime n above below refl refl generators relations homology);
    }

module _ (b : Bicomplex) (h : IsBicomplex b) (prime : IsOverField b.ring) (n : ℤ) (generators relations : Matrix)
    (given : IsGivenHomology b n generators relations) where
  pub rising_given_parts : (k l : ℕ) → k ≤ l → (c : Vector)
      → (IsOfPart b (n +ℤ pos 1) n (n -ℤ pos 1) generators k c → IsOfPart b (n +ℤ pos 1) n (n -ℤ pos 1) generators l c)
      × (IsOfPart b (n +ℤ pos 1) n (n -ℤ pos 1) generators 0 c ↔ InSpan relations c)
      × (IsCoefficients generators c → IsOfPart b (n +ℤ pos 1) n (n -ℤ pos 1) generators b.columns c)
  rising_given_parts k l rises c =
      let above = n +ℤ pos 1 in
      let below = n -ℤ pos 1 in
      subst (λ (x : Matrix). (IsOfPart b above n below x k c → IsOfPart b above n below x l c)
      × (IsOfPart b above n below x 0 c ↔ InSpan relations c)
      × (IsCoefficients x c → IsOfPart b above n below x b.columns c)) (sym (given-same b h n generators relations given))
      (Parts.rising_parts b h above n below (next-lower n above refl) refl generators.rows
      (given-matrix b h n generators relations given) relations (given-presented b h n generators relations given) k l rises
      c)

module _ (b : Bicomplex) (h : IsBicomplex b) (prime : IsOverField b.ring) (n : ℤ) (generators relations : Matrix)
    (given : IsGivenHomology b n generators relations) (p : ℕ) (inside : p < b.columns) where
  abbrev above : ℤ
  above = n +ℤ pos 1

  abbrev below : ℤ
  below = n -ℤ pos 1

  first : n ≡ n +ℤ pos 1 -ℤ pos 1
  first = next-lower n above refl

  rows : List Vector
  rows = generators.rows

  -- the generators, with the ring and the degrees as they are known
  abbrev known : Matrix
  known = matrix_of b.ring (total_degrees b n) generators.rows

  known_same : generators ≡ matrix_of b.ring (total_degrees b n) generators.rows
  known_same = given-same b h n generators relations given

  known_matrix : IsMatrix (matrix_of b.ring (total_degrees b n) generators.rows)
  known_matrix = given-matrix b h n generators relations given

  parts : (k : ℕ) → IsSpanned b.ring (degrees_of generators.rows)
      (IsOfPart b (n +ℤ pos 1) n (n -ℤ pos 1) (matrix_of b.ring (total_degrees b n) generators.rows) k)
  parts k = IsSpanned-parts b h prime above n below first refl known refl refl known_matrix k

  pub one_given_part : ((g : Matrix) × (others : Matrix) × IsPartOfHomology b n generators p g others)
      × ((g others other more : Matrix) → IsPartOfHomology b n generators p g others
      → IsPartOfHomology b n generators p other more → (g ≡ other) × (others ≡ more))
  one_given_part =
      subst (λ (x : Matrix). ((g : Matrix) × (others : Matrix) × IsPartOfHomology b n x p g others)
      × ((g others other more : Matrix) → IsPartOfHomology b n x p g others → IsPartOfHomology b n x p other more
      → (g ≡ other) × (others ≡ more))) (sym known_same) (
        spanned-presentation b.ring prime (degrees_of generators.rows) (IsOfPart b above n below known (suc p))
            (IsOfPart b above n below known p) (parts (suc p)) (parts p),
        spanned-one_presentation b.ring prime (degrees_of generators.rows) (IsOfPart b above n below known (suc p))
            (IsOfPart b above n below known p) (parts (suc p)) (parts p),
      )

  module _ (g others other more : Matrix) where
    -- with the generators as they are known
    known_maps : IsPartOfHomology b n (matrix_of b.ring (total_degrees b n) generators.rows) p g others
        → IsPage b b.columns n p other more
        → ((to : Matrix) × Describes (HasLeadingColumn b (n +ℤ pos 1) n (n -ℤ pos 1)
        (matrix_of b.ring (total_degrees b n) generators.rows) p) other more g to)
        × ((from : Matrix) × Describes (converse (HasLeadingColumn b (n +ℤ pos 1) n (n -ℤ pos 1)
        (matrix_of b.ring (total_degrees b n) generators.rows) p)) g others other from)
        × ((to from : Matrix) → Describes (HasLeadingColumn b (n +ℤ pos 1) n (n -ℤ pos 1)
        (matrix_of b.ring (total_degrees b n) generators.rows) p) other more g to
        → Describes (converse (HasLeadingColumn b (n +ℤ pos 1) n (n -ℤ pos 1)
        (matrix_of b.ring (total_degrees b n) generators.rows) p)) g others other from
        → AreInverseModulo others more to from)
    known_maps part page =
        let r = b.columns in
        let F : Vector → Vector → Type 0 = HasLeadingColumn b above n below known p in
        let N : Vector → Type 0 = IsOfPart b above n below known (suc p) in
        let B : Vector → Type 0 = IsOfPart b above n below known p in
        let M : Vector → Type 0 = IsCycleOfPage b r n below p in
        let A : Vector → Type 0 = IsBoundaryOfPage b r above n p in
        let source = degrees_of generators.rows in
        let target = (place b n p).target in
        let spanned_m = IsSpanned-cycles b h prime n below refl r p inside in
        let spanned_a = IsSpanned-boundaries b h prime above n first r p inside in
        let facts = given-presented b h n generators relations given in
        let f =
        parts-class_map b h prime above n below first refl generators.rows known_matrix relations facts r p (omega arith)
        inside in
        let back =
        parts-class_map_back b h prime above n below first refl generators.rows known_matrix relations facts r p
        (omega arith) inside in (
          described b.ring prime source target N B M A (parts (suc p)) (parts p) spanned_m spanned_a F f g others other
              more part page,
          described b.ring prime target source M A N B spanned_m spanned_a (parts (suc p)) (parts p) (converse F) back
              other more g others page part,
          λ to from. described-inverse b.ring prime source target N B M A (parts (suc p)) (parts p) spanned_m spanned_a F f
              g others other more part page back to from,
        )

    pub inverse_given_maps : IsPartOfHomology b n generators p g others → IsPage b b.columns n p other more
        → ((to : Matrix) × Describes (HasLeadingColumn b (n +ℤ pos 1) n (n -ℤ pos 1) generators p) other more g to)
        × ((from : Matrix) × Describes (converse (HasLeadingColumn b (n +ℤ pos 1) n (n -ℤ pos 1) generators p)) g others
        other from)
        × ((to from : Matrix) → Describes (HasLeadingColumn b (n +ℤ pos 1) n (n -ℤ pos 1) generators p) other more g to
        → Describes (converse (HasLeadingColumn b (n +ℤ pos 1) n (n -ℤ pos 1) generators p)) g others other from
        → AreInverseModulo others more to from)
    inverse_given_maps =
        subst (λ (x : Matrix). IsPartOfHomology b n x p g others → IsPage b b.columns n p other more
        → ((to : Matrix) × Describes (HasLeadingColumn b (n +ℤ pos 1) n (n -ℤ pos 1) x p) other more g to)
        × ((from : Matrix) × Describes (converse (HasLeadingColumn b (n +ℤ pos 1) n (n -ℤ pos 1) x p)) g others other
        from)
        × ((to from : Matrix) → Describes (HasLeadingColumn b (n +ℤ pos 1) n (n -ℤ pos 1) x p) other more g to
        → Describes (converse (HasLeadingColumn b (n +ℤ pos 1) n (n -ℤ pos 1) x p)) g others other from
        → AreInverseModulo others more to from)) (sym known_same) known_maps

-- the homology of the total complex itself
module _ (b : Bicomplex) (h : IsBicomplex b) (prime : IsOverField b.ring) (n : ℤ) (generators relations : Matrix)
    (homology : IsTotalHomology b n generators relations) (p : ℕ) (inside : p < b.columns) where
  pub one_part : ((g : Matrix) × (others : Matrix) × IsPartOfHomology b n generators p g others)
      × ((g others other more : Matrix) → IsPartOfHomology b n generators p g others
      → IsPartOfHomology b n generators p other more → (g ≡ other) × (others ≡ more))
  one_part =
      one_given_part b h prime n generators relations (homology-given b h prime n generators relations homology) p inside

  pub inverse_part_maps : (g others other more : Matrix) → IsPartOfHomology b n generators p g others
      → IsPage b b.columns n p other more
      → ((to : Matrix) × Describes (HasLeadingColumn b (n +ℤ pos 1) n (n -ℤ pos 1) generators p) other more g to)
      × ((from : Matrix) × Describes (converse (HasLeadingColumn b (n +ℤ pos 1) n (n -ℤ pos 1) generators p)) g others
      other from)
      × ((to from : Matrix) → Describes (HasLeadingColumn b (n +ℤ pos 1) n (n -ℤ pos 1) generators p) other more g to
      → Describes (converse (HasLeadingColumn b (n +ℤ pos 1) n (n -ℤ pos 1) generators p)) g others other from
      → AreInverseModulo others more to from)
  inverse_part_maps =
      inverse_given_maps b h prime n generators relations (homology-given b h prime n generators relations homology) p
      inside
