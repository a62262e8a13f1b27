-- Purity parts exist, are one, and are the last page, as parts of homology are.
use Rattle.std.proofs.Common.{◌≡◌, ◌↔◌, ◌<◌, ◌≤◌, ℕ, suc, refl, sym, subst, arith, ℤ, pos, ◌-ℤ◌, ◌+ℤ◌}
use Rattle.std.proofs.lemmas.Int.{ints}
use Rattle.sf_algebra.specs.Matrices.{Matrix, row_degrees, IsMatrix}
use Rattle.sf_algebra.specs.Rings.{IsOverField}
use Rattle.sf_algebra.specs.Vectors.{Vector, IsVector}
use Rattle.sf_algebra.proofs.Operators.Correspondences.{converse}
use Rattle.sf_groebner.specs.Spans.{InSpan}
use Rattle.sf_presented.specs.Inverses.{AreInverseModulo}
use Rattle.sf_bicomplex.specs.Bicomplexes.{Bicomplex, IsBicomplex}
use Rattle.sf_bicomplex.specs.Descriptions.{Describes}
use Rattle.sf_bicomplex.specs.Pages.{IsBoundaryOfPage, IsCycleOfPage}
use Rattle.sf_bicomplex.specs.TotalColumns.{place}
use Rattle.sf_bicomplex.proofs.Filtrations.PartLaws as PartLaws
use Rattle.sf_bicomplex.proofs.Spans.Described.{described, described-inverse}
use Rattle.sf_bicomplex.proofs.Spans.PageSpans.{IsSpanned-boundaries, IsSpanned-cycles, IsSpanned-parts}
use Rattle.sf_bicomplex.proofs.Spans.PartMaps.{parts-class_map, parts-class_map_back}
use Rattle.sf_bicomplex.proofs.Spans.SpannedModules.{IsSpanned, IsSpanned-same, spanned-one_presentation, spanned-presentation}
use Rattle.sf_bidual.specs.Bidual.{IsBidualOf, bidual, bidual_augmentation}
use Rattle.sf_bidual.specs.CartanEilenberg.{CartanEilenberg}
use Rattle.sf_bidual.specs.Purity.{HasPurityColumn, IsLastPage, IsOfPurity, IsPurityPart, IsPuritySubmodule}
use Rattle.sf_bidual.proofs.BidualSpots.Bicomplex.{bidual_bicomplex}
use Rattle.sf_bidual.proofs.PurityParts.Presented.{augmentation-degrees, augmentation-matrix, presented}

module _ (relations : Matrix) (n : ℕ) (steps : ℕ → Matrix) (x : CartanEilenberg) (prime : IsOverField relations.ring)
    (matrix : IsMatrix relations) (d : IsBidualOf relations n steps x) where
  abbrev b : Bicomplex
  b = bidual relations.ring n x

  h : IsBicomplex (bidual relations.ring n x)
  h = bidual_bicomplex relations n steps x prime matrix d

  abbrev e : Matrix
  e = bidual_augmentation relations.ring n x

  abbrev above : ℤ
  above = pos n +ℤ pos 1

  abbrev below : ℤ
  below = pos n -ℤ pos 1

  first : pos n ≡ pos n +ℤ pos 1 -ℤ pos 1
  first = omega (arith, ints)

  -- the generators of the module
  same : row_degrees (bidual_augmentation relations.ring n x) ≡ relations.target
  same = augmentation-degrees relations n steps x prime matrix d

  facts-matrix : IsMatrix (bidual_augmentation relations.ring n x)
  facts-matrix = augmentation-matrix relations n steps x prime matrix d

  parts : (k : ℕ) → IsSpanned relations.ring (row_degrees (bidual_augmentation relations.ring n x))
      (IsOfPurity relations.ring n x k)
  parts k = IsSpanned-parts b h prime above (pos n) below first refl e refl refl facts-matrix k

  pub known_parts : (k : ℕ) → IsSpanned relations.ring relations.target (IsOfPurity relations.ring n x k)
  known_parts k = subst (λ ds. IsSpanned relations.ring ds (IsOfPurity relations.ring n x k)) same (parts k)

  pub rising : (k l : ℕ) → k ≤ l → (m : Vector)
      → (IsOfPurity relations.ring n x k m → IsOfPurity relations.ring n x l m)
      × (IsOfPurity relations.ring n x 0 m ↔ InSpan relations m)
      × (IsVector relations.ring relations.target m → IsOfPurity relations.ring n x (suc n) m)
  rising k l rises m =
      let all =
      PartLaws.rising_parts b h above (pos n) below first refl e.rows facts-matrix relations
      (presented relations n steps x prime matrix d) k l rises m in
      (all.0, all.1, λ v. all.2 (subst (λ ds. IsVector relations.ring ds m) (sym same) v))

  -- the relations themselves are the vectors of no columns
  relations_spanned : IsSpanned relations.ring relations.target (InSpan relations)
  relations_spanned =
      IsSpanned-same relations.ring relations.target (IsOfPurity relations.ring n x 0) (InSpan relations)
      (λ m. (rising 0 0 (omega arith) m).1) (known_parts 0)

  pub purity_submodules : (k : ℕ) → ((g : Matrix) × (r : Matrix) × IsPuritySubmodule relations n x k g r)
      × ((g r other others : Matrix) → IsPuritySubmodule relations n x k g r
      → IsPuritySubmodule relations n x k other others → (g ≡ other) × (r ≡ others))
  purity_submodules k = (
    spanned-presentation relations.ring prime relations.target (IsOfPurity relations.ring n x k) (InSpan relations)
        (known_parts k) relations_spanned,
    spanned-one_presentation relations.ring prime relations.target (IsOfPurity relations.ring n x k) (InSpan relations)
        (known_parts k) relations_spanned,
  )

  pub purity_parts : (p : ℕ) → ((g : Matrix) × (r : Matrix) × IsPurityPart relations n x p g r)
      × ((g r other others : Matrix) → IsPurityPart relations n x p g r → IsPurityPart relations n x p other others
      → (g ≡ other) × (r ≡ others))
  purity_parts p = (
    spanned-presentation relations.ring prime relations.target (IsOfPurity relations.ring n x (suc p))
        (IsOfPurity relations.ring n x p) (known_parts (suc p)) (known_parts p),
    spanned-one_presentation relations.ring prime relations.target (IsOfPurity relations.ring n x (suc p))
        (IsOfPurity relations.ring n x p) (known_parts (suc p)) (known_parts p),
  )

  pub purity_maps : (p : ℕ) → p < suc n → (g r other others : Matrix) → IsPurityPart relations n x p g r
      → IsLastPage relations n x p other others
      → ((to : Matrix) × Describes (HasPurityColumn relations n x p) other others g to)
      × ((from : Matrix) × Describes (λ z m. HasPurityColumn relations n x p m z) g r other from)
      × ((to from : Matrix) → Describes (HasPurityColumn relations n x p) other others g to
      → Describes (λ z m. HasPurityColumn relations n x p m z) g r other from → AreInverseModulo r others to from)
  purity_maps p inside g r other others part page =
      let F : Vector → Vector → Type 0 = HasPurityColumn relations n x p in
      let N : Vector → Type 0 = IsOfPurity relations.ring n x (suc p) in
      let B : Vector → Type 0 = IsOfPurity relations.ring n x p in
      let M : Vector → Type 0 = IsCycleOfPage b (suc n) (pos n) below p in
      let A : Vector → Type 0 = IsBoundaryOfPage b (suc n) above (pos n) p in
      let target = (place b (pos n) p).target in
      let spanned_m = IsSpanned-cycles b h prime (pos n) below refl (suc n) p inside in
      let spanned_a = IsSpanned-boundaries b h prime above (pos n) first (suc n) p inside in
      let facts = presented relations n steps x prime matrix d in
      let f =
      parts-class_map b h prime above (pos n) below first refl e.rows facts-matrix relations facts (suc n) p
      (omega arith) inside in
      let back =
      parts-class_map_back b h prime above (pos n) below first refl e.rows facts-matrix relations facts (suc n) p
      (omega arith) inside in (
        described relations.ring prime relations.target target N B M A (known_parts (suc p)) (known_parts p) spanned_m
            spanned_a F f g r other others part page,
        described relations.ring prime target relations.target M A N B spanned_m spanned_a (known_parts (suc p))
            (known_parts p) (converse F) back other others g r page part,
        λ to from. described-inverse relations.ring prime relations.target target N B M A (known_parts (suc p))
            (known_parts p) spanned_m spanned_a F f g r other others part page back to from,
      )
