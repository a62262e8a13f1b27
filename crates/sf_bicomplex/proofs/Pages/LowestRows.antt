-- The lowest row: there dv of anything is zero, so the image of a vector has dh of its highest column in the next lower one,
-- but for boundaries of the first page.
use Rattle.std.proofs.Common.{◌≡◌, ◌↔◌, ℕ, suc, ◌<◌, ◌≤◌, ◌+◌, [], refl, sym, ap, ◌∙◌, subst, arith, ℤ, pos, ◌-ℤ◌}
use Rattle.sf_algebra.specs.Matrices.{IsMatrix, Matrix}
use Rattle.sf_algebra.specs.Rings.{IsOverField}
use Rattle.sf_algebra.specs.VectorOperations.{row_difference, vector_difference}
use Rattle.sf_algebra.specs.Vectors.{IsCanonicalRow, IsVector, Vector}
use Rattle.sf_algebra.proofs.Basics.Lists.{AllByRecursion-weaken}
use Rattle.sf_algebra.proofs.Multiplying.Keys.{place_keys}
use Rattle.sf_algebra.proofs.Vectors.HomogeneousVectors.{IsVector-nil, IsVector-row_combination}
use Rattle.sf_algebra.proofs.Vectors.RowSums.{row_sum-nil}
use Rattle.sf_algebra.proofs.Vectors.Rows.{IsCanonical-row_combination, row_combination-nil}
use Rattle.sf_groebner.specs.Maps.{AreEqualModulo}
use Rattle.sf_groebner.specs.MinimalGenerators.{matrix_of}
use Rattle.sf_groebner.specs.Spans.{InSpan, combined, combined_rows}
use Rattle.sf_groebner.proofs.MapsOnHomology.EqualModulo.{AreEqualModulo-inside, combined-AreEqualModulo}
use Rattle.sf_groebner.proofs.Spanning.SpanCombinations.{span_submodule_of, zero-inside}
use Rattle.sf_groebner.proofs.Spanning.Submodules.{IsSubmodule}
use Rattle.sf_groebner.proofs.Uniqueness.Subtractions.{add-negative_front}
use Rattle.sf_presented.proofs.EqualModulo.{AreEqualModulo-refl, AreEqualModulo-sym, AreEqualModulo-trans}
use Rattle.sf_bicomplex.specs.Bicomplexes.{Bicomplex, IsBicomplex}
use Rattle.sf_bicomplex.specs.FirstPages.{down}
use Rattle.sf_bicomplex.specs.LowestRows.{left}
use Rattle.sf_bicomplex.specs.Pages.{HasDifferential, IsBoundaryOfPage, IsCycleOfPage, IsNear}
use Rattle.sf_bicomplex.specs.TotalColumns.{StandsBelow, column_part, column_start, place, total_map}
use Rattle.sf_bicomplex.proofs.Pages.FirstPages.{first_boundaries, first_cycles}
use Rattle.sf_bicomplex.proofs.Pages.PageLaws.{cycle_differential, kernel_as_next_cycles, values_as_next_boundaries}
use Rattle.sf_bicomplex.proofs.Spans.PageSpans.{IsSpanned-boundaries}
use Rattle.sf_bicomplex.proofs.Spans.SpannedModules.{IsSubmodule-spanned}
use Rattle.sf_bicomplex.proofs.TotalComplexes.Diagonals.{horizontal_matrix, horizontal_ring, horizontal_source, horizontal_target, row-left, vertical_ring, vertical_source, vertical_target}
use Rattle.sf_bicomplex.proofs.TotalComplexes.TotalLaws.{columns_in_places, columns_of_images, keeps_columns}
use Rattle.sf_bicomplex.proofs.TotalComplexes.TotalMaps.{no_generators}

module _ (b : Bicomplex) (h : IsBicomplex b) (n m : ℤ) (lower : m ≡ n -ℤ pos 1) (p : ℕ) where
  place_module : IsSubmodule b.ring (place b m p).target (InSpan (place b m p))
  place_module =
      let known = h.modules p (m -ℤ pos p) in
      span_submodule_of b.ring h.is_ring (place b m p).target (place b m p) known.ring_of refl known.matrix

  -- dv, with the generators where it goes
  abbrev K : Matrix
  K = matrix_of b.ring (place b m p).target (b.vertical p (n -ℤ pos p)).rows

  K_matrix : IsMatrix K
  K_matrix =
      subst IsMatrix
      (λ i. record {
        ring = vertical_ring b h n p i;
        target = vertical_target b h n m lower p i;
        rows = (b.vertical p (n -ℤ pos p)).rows;
      })
      (h.downward p (n -ℤ pos p)).matrix

  pub down-vector : (z : Vector) → IsVector b.ring (place b n p).target z → IsVector b.ring (place b m p).target (down b n p z)
  down-vector z v =
      IsVector-row_combination K h.is_ring.modulus K_matrix z
      (subst (λ ds. IsVector b.ring ds z) (sym (vertical_source b h n p)) v)

  pub lowest_cycles : p < b.columns → (place b m p).target ≡ [] → (z : Vector)
      → IsCycleOfPage b 1 n m p z ↔ IsVector b.ring (place b n p).target z
  lowest_cycles inside none z = (
    λ e. e.vector,
    λ v. (first_cycles b h n m lower p inside z).1 (
      v,
      subst (λ ts. InSpan (place b m p) (record { degree = z.degree; terms = ts }))
          (sym (no_generators b.ring (down b n p z)
          (subst (λ ds. IsVector b.ring ds (down b n p z)) none (down-vector z v))))
          (zero-inside b.ring h.is_ring (place b m p).target (InSpan (place b m p)) place_module z.degree),
    ),
  )

module _ (b : Bicomplex) (h : IsBicomplex b) (prime : IsOverField b.ring) (n m : ℤ) (lower : m ≡ n -ℤ pos 1) (p : ℕ)
    (inside : suc p < b.columns) where
  own : p < b.columns
  own = omega arith

  next : p + 1 ≡ suc p
  next = omega arith

  beside : p + 1 < b.columns
  beside = omega arith

  abbrev B : Vector → Type 0
  B = IsBoundaryOfPage b 1 n m p

  boundaries : IsSubmodule b.ring (place b m p).target (IsBoundaryOfPage b 1 n m p)
  boundaries =
      IsSubmodule-spanned b.ring (place b m p).target h.is_ring (IsBoundaryOfPage b 1 n m p)
      (IsSpanned-boundaries b h prime n m lower 1 p own)

  canonical : (v : Vector) → IsCanonicalRow b.ring (left b n p v).terms
  canonical v = IsCanonical-row_combination b.ring h.is_ring.modulus (b.horizontal (suc p) (n -ℤ pos (suc p))).rows v.terms

  -- what dv gives, and relations, are boundaries
  boundary-down : (x : Vector) → IsVector b.ring (place b n p).target x → B (down b n p x)
  boundary-down x v =
      (first_boundaries b h n m lower p own (down b n p x)).1
      (record {
        vector = down-vector b h n m lower p x v;
        source = x;
        inside = v;
        equal =
            AreEqualModulo-refl b.ring h.is_ring (place b m p).target (InSpan (place b m p))
            (place_module b h n m lower p) (down b n p x) (down-vector b h n m lower p x v).canonical;
      })

  relation-boundary : (v : Vector) → InSpan (place b m p) v → B v
  relation-boundary v k =
      let vector = (place_module b h n m lower p).module_like.vectors v k in
      let zero : Vector = record { degree = v.degree; terms = [] } in
      let nothing : row_difference b.ring v.terms (down b n p zero).terms ≡ v.terms =
      ap (row_difference b.ring v.terms) (row_combination-nil b.ring h.is_ring.modulus (b.vertical p (n -ℤ pos p)).rows)
      ∙ row_sum-nil b.ring h.is_ring.modulus v.terms vector.canonical in
      (first_boundaries b h n m lower p own v).1
      (record {
        vector = vector;
        source = zero;
        inside = IsVector-nil b.ring (place b n p).target v.degree;
        equal = record {
          degrees = refl;
          difference = subst (λ ts. InSpan (place b m p) (record { degree = v.degree; terms = ts })) (sym nothing) k;
        };
      })

  -- dh sends relations to boundaries
  abbrev L : Matrix
  L = matrix_of b.ring (place b m p).target (b.horizontal (suc p) (n -ℤ pos (suc p))).rows

  sends-relations : (v : Vector) → InSpan (place b n (suc p)) v → B (combined L v)
  sends-relations v k =
      relation-boundary (combined L v)
      (subst (λ (x : Matrix). InSpan x (combined L v)) (ap (b.relations p) (row-left n m p lower))
      (subst (λ r. InSpan (b.relations p (n -ℤ pos (suc p)))
      (combined_rows r (b.horizontal (suc p) (n -ℤ pos (suc p))).rows v)) (horizontal_ring b h n (suc p))
      ((h.leftward p (n -ℤ pos (suc p))).sends v k)))

  left-same : (u y : Vector) → IsCanonicalRow b.ring y.terms → AreEqualModulo b.ring (InSpan (place b n (suc p))) u y
      → AreEqualModulo b.ring B (left b n p u) (left b n p y)
  left-same u y k same =
      combined-AreEqualModulo L h.is_ring (InSpan (place b n (suc p))) B sends-relations u y k same

  pub left-vector : (u : Vector) → IsVector b.ring (place b n (suc p)).target u
      → IsVector b.ring (place b m p).target (left b n p u)
  left-vector u v =
      IsVector-row_combination L h.is_ring.modulus
      (subst IsMatrix
      (λ i. record {
        ring = horizontal_ring b h n (suc p) i;
        target = horizontal_target b h n m lower p i;
        rows = (b.horizontal (suc p) (n -ℤ pos (suc p))).rows;
      })
      (horizontal_matrix b h n (suc p))) u
      (subst (λ ds. IsVector b.ring ds u) (sym (horizontal_source b h n (suc p))) v)

  -- the column p of the image of what stands up to column p + 1
  module _ (a : Vector) (stands : StandsBelow b n (suc (suc p)) a) where
    anywhere : StandsBelow b n b.columns a
    anywhere = record {
      vector = stands.vector;
      below =
          AllByRecursion-weaken (λ t. column_start b n (suc (suc p)) ≤ t.at.position)
          (λ t. column_start b n b.columns ≤ t.at.position) (λ t x. omega arith) a.terms stands.below;
    }

    abbrev x : Vector
    x = column_part b n p a

    abbrev y : Vector
    y = column_part b n (suc p) a

    abbrev image : Vector
    image = column_part b m p (combined (total_map b n m) a)

    x-vector : IsVector b.ring (place b n p).target x
    x-vector = (columns_in_places b h n p own a).0 anywhere

    y-vector : IsVector b.ring (place b n (suc p)).target y
    y-vector = (columns_in_places b h n (suc p) inside a).0 anywhere

    image-vector : IsVector b.ring (place b m p).target image
    image-vector =
        (columns_in_places b h m p own (combined (total_map b n m) a)).0
        (keeps_columns b h n m lower b.columns a anywhere)

    image-left : AreEqualModulo b.ring B image (left b n p y)
    image-left =
        let column = columns_of_images b h n m lower p own a anywhere in
        let rest : vector_difference b.ring image (left b n p y) ≡ down b n p x =
        (λ i. vector_difference b.ring (column i) (left b n p y))
        ∙ (λ i. record {
          degree = a.degree;
          terms = add-negative_front (place_keys b.ring.weights) b.ring.modulus h.is_ring.modulus (down b n p x).terms
              (left b n p y).terms (down-vector b h n m lower p x x-vector).canonical (canonical y) i;
        }) in
        record { degrees = refl; difference = subst B (sym rest) (boundary-down x x-vector) }

  -- a differential of page 1 is dh, modulo boundaries
  differential-left : (u w : Vector) → HasDifferential b 1 n m p u w → AreEqualModulo b.ring B w (left b n p u)
  differential-left u w e =
      let a : Vector = e.through in
      let stands : StandsBelow b n (suc (suc p)) a = subst (λ k. StandsBelow b n (suc k) a) next e.falls.stands in
      let y : Vector = column_part b n (suc p) a in
      let image : Vector = column_part b m p (combined (total_map b n m) a) in
      let same : AreEqualModulo b.ring (InSpan (place b n (suc p))) u y =
      subst (λ k. AreEqualModulo b.ring (InSpan (place b n k)) u (column_part b n k a)) next e.start in
      let trans = AreEqualModulo-trans b.ring h.is_ring (place b m p).target B boundaries in
      trans w image (left b n p u) e.to_vector.canonical (image-vector a stands).canonical (canonical u) e.end
      (trans image (left b n p y) (left b n p u) (image-vector a stands).canonical (canonical y) (canonical u)
      (image-left a stands)
      (AreEqualModulo-sym b.ring h.is_ring (place b m p).target B boundaries (left b n p u) (left b n p y) (canonical u)
      (canonical y) (left-same u y (y-vector a stands).canonical same)))

  module _ (none : (place b m (suc p)).target ≡ []) where
    left-differential : (u w : Vector) → IsVector b.ring (place b n (suc p)).target u
        → IsVector b.ring (place b m p).target w → AreEqualModulo b.ring B w (left b n p u) → HasDifferential b 1 n m p u w
    left-differential u w hu hw same =
        let found =
        cycle_differential b h n m lower 1 p beside u
        (subst (λ k. IsCycleOfPage b 1 n m k u) (sym next) ((lowest_cycles b h n m lower (suc p) inside none u).1 hu)) in
        let v : Vector = found.0 in
        let e = found.1 in
        let trans = AreEqualModulo-trans b.ring h.is_ring (place b m p).target B boundaries in
        let back =
        AreEqualModulo-sym b.ring h.is_ring (place b m p).target B boundaries v (left b n p u) e.to_vector.canonical
        (canonical u) (differential-left u v e) in
        let a : Vector = e.through in
        let stands : StandsBelow b n (suc (suc p)) a = subst (λ k. StandsBelow b n (suc k) a) next e.falls.stands in
        record {
          from_vector = e.from_vector;
          to_vector = hw;
          through = a;
          falls = e.falls;
          start = e.start;
          end =
              trans w v (column_part b m p (combined (total_map b n m) a)) hw.canonical e.to_vector.canonical
              (image-vector a stands).canonical
              (trans w (left b n p u) v hw.canonical (canonical u) e.to_vector.canonical same back) e.end;
        }

    pub lowest_differentials : (u w : Vector) → HasDifferential b 1 n m p u w
        ↔ (IsVector b.ring (place b n (suc p)).target u × IsVector b.ring (place b m p).target w
        × AreEqualModulo b.ring (IsBoundaryOfPage b 1 n m p) w (left b n p u))
    lowest_differentials u w = (
      λ e. (
        subst (λ k. IsVector b.ring (place b n k).target u) next e.from_vector,
        e.to_vector,
        differential-left u w e,
      ),
      λ e. left-differential u w e.0 e.1 e.2,
    )

    pub second_cycles : (u : Vector) → IsCycleOfPage b 2 n m (suc p) u
        ↔ (IsVector b.ring (place b n (suc p)).target u × IsBoundaryOfPage b 1 n m p (left b n p u))
    second_cycles u =
        let zero : Vector = record { degree = u.degree; terms = [] } in
        let kernel = kernel_as_next_cycles b h n m lower 1 p beside u in
        let nothing = zero-inside b.ring h.is_ring (place b m p).target B boundaries u.degree in (
          λ e. (
            e.vector,
            AreEqualModulo-inside b.ring h.is_ring (place b m p).target B boundaries.module_like zero (left b n p u)
                (canonical u)
                (differential-left u zero (kernel.0 (subst (λ k. IsCycleOfPage b 2 n m k u) (sym next) e))) nothing,
          ),
          λ e.
              let same : AreEqualModulo b.ring B (left b n p u) zero = record {
                degrees = refl;
                difference =
                    subst (λ ts. B (record { degree = u.degree; terms = ts }))
                    (sym (row_sum-nil b.ring h.is_ring.modulus (left b n p u).terms (canonical u))) e.1;
              } in
              subst (λ k. IsCycleOfPage b 2 n m k u) next
              (kernel.1
              (left-differential u zero e.0 (IsVector-nil b.ring (place b m p).target u.degree)
              (AreEqualModulo-sym b.ring h.is_ring (place b m p).target B boundaries (left b n p u) zero (canonical u)
              (IsVector-nil b.ring (place b m p).target u.degree).canonical same))),
        )

    pub second_boundaries : (w : Vector) → IsBoundaryOfPage b 2 n m p w
        ↔ IsNear b.ring (place b m p).target (left b n p) (IsVector b.ring (place b n (suc p)).target)
        (IsBoundaryOfPage b 1 n m p) w
    second_boundaries w =
        let values = values_as_next_boundaries b h n m lower 1 p beside w in (
          λ e.
              let found = values.0 e in
              record {
                vector = found.1.to_vector;
                source = found.0;
                inside = subst (λ k. IsVector b.ring (place b n k).target found.0) next found.1.from_vector;
                equal = differential-left found.0 w found.1;
              },
          λ e. values.1 (e.source, left-differential e.source w e.inside e.vector e.equal),
        )
