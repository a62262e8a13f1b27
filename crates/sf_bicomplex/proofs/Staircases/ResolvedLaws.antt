-- The laws of resolved rows, from the staircase of groups in columns.
use Rattle.std.proofs.Common.{◌≡◌, ℕ, suc, ◌<◌, [], length, sym, ap, ◌∙◌, subst, refl, arith, ℤ, pos, ◌-ℤ◌, ◌+ℤ◌}
use Rattle.sf_algebra.specs.Matrices.{row_degrees}
use Rattle.sf_algebra.specs.MatrixOperations.{moved, row_combination}
use Rattle.sf_algebra.specs.VectorOperations.{vector_sum}
use Rattle.sf_algebra.specs.Vectors.{IsVector, Vector}
use Rattle.sf_algebra.proofs.Operators.Groups.{difference-plus}
use Rattle.sf_algebra.proofs.Vectors.VectorProps.{vector_unique}
use Rattle.sf_groebner.specs.Spans.{InSpan, IsSyzygy, combined}
use Rattle.sf_chase.proofs.Staircases.{boundary_image, cycle_image}
use Rattle.sf_chase.specs.Staircases.{IsExactRow}
use Rattle.sf_bicomplex.specs.Bicomplexes.{Bicomplex, IsBicomplex}
use Rattle.sf_bicomplex.specs.ResolvedRows.{Augmentation, ResolvesRows}
use Rattle.sf_bicomplex.specs.TotalColumns.{column_start, lowest_degrees, total_degrees, total_map}
use Rattle.sf_bicomplex.proofs.Filtrations.HomologyParts.{next-lower}
use Rattle.sf_bicomplex.proofs.Pages.PageLaws.{all_below}
use Rattle.sf_bicomplex.proofs.Staircases.ExactRows.{exact-row}
use Rattle.sf_bicomplex.proofs.Staircases.FreeTotals.{zero-after}
use Rattle.sf_bicomplex.proofs.Staircases.SetColumns.{augmentation, map_value, passes, resolves, set, set_group}
use Rattle.sf_bicomplex.proofs.TotalComplexes.TotalGroups.{total-differential, total_group, total_image}
use Rattle.sf_bicomplex.proofs.TotalComplexes.TotalSpans.{moved-nothing}

module _ (b : Bicomplex) (h : IsBicomplex b) (top : ℕ) (a : Augmentation) (resolved : ResolvesRows b top a) where
  -- the highest column comes first
  first-column : (n : ℤ) → column_start b n (suc top) ≡ 0
  first-column n =
      let size : length (lowest_degrees b n b.columns) ≡ length (lowest_degrees b n (suc top)) =
      ap (λ k. length (lowest_degrees b n k)) resolved.highest in
      omega arith

  -- so what is set has the terms that the matrix gives
  set-terms : (n d : ℤ) (c : (set_group b h top a resolved d n).V)
      → (set b h top a resolved d n c).0 ≡ row_combination b.ring (a.set (n -ℤ pos top)).rows c.0
  set-terms n d c =
      let terms = row_combination b.ring (a.set (n -ℤ pos top)).rows c.0 in
      ap (λ k. moved k terms) (first-column n) ∙ moved-nothing terms

  set-vector : (n : ℤ) (c : Vector) (x : IsVector b.ring (a.degrees (n -ℤ pos top)) c)
      → combined (a.set (n -ℤ pos top)) c
      ≡ record { degree = c.degree; terms = (set b h top a resolved c.degree n (c.terms, x)).0 }
  set-vector n c x =
      λ i. record {
        degree = c.degree;
        terms =
            (ap (λ r. row_combination r (a.set (n -ℤ pos top)).rows c.terms) (resolved.set_from (n -ℤ pos top)).ring_of
            ∙ sym (set-terms n c.degree (c.terms, x))) i;
      }

  map-vector : (n : ℤ) (c : Vector)
      → combined (a.map (n -ℤ pos top)) c
      ≡ record { degree = c.degree; terms = row_combination b.ring (a.map (n -ℤ pos top)).rows c.terms }
  map-vector n c = λ i. record {
    degree = c.degree;
    terms = row_combination ((resolved.map_from (n -ℤ pos top)).ring_of i) (a.map (n -ℤ pos top)).rows c.terms;
  }

  -- coefficients of the map
  over_map : (n d : ℤ) (c : (set_group b h top a resolved d n).V)
      → IsVector (a.map (n -ℤ pos top)).ring (row_degrees (a.map (n -ℤ pos top))) (record { degree = d; terms = c.0 })
  over_map n d c =
      let q = n -ℤ pos top in
      subst (λ r. IsVector r (row_degrees (a.map q)) (record { degree = d; terms = c.0 })) (sym (resolved.map_from q).ring_of)
      (subst (λ ds. IsVector b.ring ds (record { degree = d; terms = c.0 })) (sym (resolved.map_from q).source_of) c.1)

  pub sets_complex : (n m : ℤ) → m ≡ n -ℤ pos 1 → (c : Vector) → IsVector b.ring (a.degrees (n -ℤ pos top)) c
      → IsVector b.ring (total_degrees b n) (combined (a.set (n -ℤ pos top)) c)
      × (combined (total_map b n m) (combined (a.set (n -ℤ pos top)) c)
      ≡ combined (a.set (m -ℤ pos top)) (combined (a.map (n -ℤ pos top)) c))
  sets_complex n m lower c x =
      let d = c.degree in
      let element : (set_group b h top a resolved d n).V = (c.terms, x) in
      let there = set b h top a resolved d n element in
      let mapped = map_value b h top a resolved d n m lower element in
      let next : Vector = record { degree = d; terms = mapped.0 } in
      let same = passes b h top a resolved d n m lower element in (
        subst (IsVector b.ring (total_degrees b n)) (sym (set-vector n c x)) there.1,
        ap (combined (total_map b n m)) (set-vector n c x)
            ∙ (λ i. record { degree = d; terms = (same i).0 })
            ∙ sym (set-vector m next mapped.1)
            ∙ ap (combined (a.set (m -ℤ pos top))) (sym (map-vector n c)),
      )

  module _ (k n m : ℤ) (above : n ≡ k -ℤ pos 1) (lower : m ≡ n -ℤ pos 1) (d : ℤ) where
    exact-rows : (j : ℕ) → j < top
        → IsExactRow (total_group b h k d) (total_group b h n d) (total_group b h m d) (total_image b h k n above d)
        (total_image b h n m lower d) j
    exact-rows j before =
        let size = resolved.highest in
        exact-row b h k n m above lower d j (omega arith) (λ v. resolved.exact j (n -ℤ pos j) before v)

    all : (t : (total_group b h n d).group.V) → (total_group b h n d).below (suc top) t
    all t = subst (λ c. (total_group b h n d).below c t) resolved.highest (all_below b h n d t)

    -- an element whose image is set
    pub set-boundary : (t : (total_group b h n d).group.V) (c : (set_group b h top a resolved d m).V)
        → total_image b h n m lower d t ≡ set b h top a resolved d m c
        → (e : (set_group b h top a resolved d n).V) × (map_value b h top a resolved d n m lower e ≡ c)
    set-boundary =
        boundary_image (total_group b h k d) (total_group b h n d) (total_group b h m d) (total_image b h k n above d)
        (total_image b h n m lower d) (total-differential b h k n above d) (total-differential b h n m lower d)
        (zero-after b h resolved.free k n m above lower d) top all exact-rows (set_group b h top a resolved d n)
        (set_group b h top a resolved d m) (map_value b h top a resolved d n m lower) (set b h top a resolved d n)
        (set b h top a resolved d m) (augmentation b h top a resolved d m) (passes b h top a resolved d n m lower)
        (resolves b h top a resolved d n m lower)

    -- a cycle
    pub set-cycle : (t : (total_group b h n d).group.V)
        → total_image b h n m lower d t ≡ (total_group b h m d).group.zero
        → (e : (set_group b h top a resolved d n).V) × (u : (total_group b h k d).group.V)
        × ((total_group b h n d).group.plus t ((total_group b h n d).group.minus (total_image b h k n above d u))
        ≡ set b h top a resolved d n e)
        × (map_value b h top a resolved d n m lower e ≡ (set_group b h top a resolved d m).zero)
    set-cycle =
        cycle_image (total_group b h k d) (total_group b h n d) (total_group b h m d) (total_image b h k n above d)
        (total_image b h n m lower d) (total-differential b h k n above d) (total-differential b h n m lower d)
        (zero-after b h resolved.free k n m above lower d) top all exact-rows (set_group b h top a resolved d n)
        (set_group b h top a resolved d m) (map_value b h top a resolved d n m lower) (set b h top a resolved d n)
        (set b h top a resolved d m) (augmentation b h top a resolved d m) (passes b h top a resolved d n m lower)
        (resolves b h top a resolved d n m lower)

  pub boundaries_that_are_set : (n m : ℤ) → m ≡ n -ℤ pos 1 → (t c : Vector) → IsVector b.ring (total_degrees b n) t
      → IsVector b.ring (a.degrees (m -ℤ pos top)) c
      → combined (total_map b n m) t ≡ combined (a.set (m -ℤ pos top)) c → InSpan (a.map (n -ℤ pos top)) c
  boundaries_that_are_set n m lower t c x y same =
      let d = t.degree in
      let q = n -ℤ pos top in
      let degree : d ≡ c.degree = ap (λ (v : Vector). v.degree) same in
      let element : (set_group b h top a resolved d m).V = (
        c.terms,
        subst (λ g. IsVector b.ring (a.degrees (m -ℤ pos top)) (record { degree = g; terms = c.terms })) (sym degree)
            y,
      ) in
      let target : total_image b h n m lower d (t.terms, x) ≡ set b h top a resolved d m element =
      vector_unique b.ring (total_degrees b m) d _ _
      (ap (λ (v : Vector). v.terms) same
      ∙ ap (λ r. row_combination r (a.set (m -ℤ pos top)).rows c.terms) (resolved.set_from (m -ℤ pos top)).ring_of
      ∙ sym (set-terms m d element)) in
      let found = set-boundary (n +ℤ pos 1) n m (next-lower n (n +ℤ pos 1) refl) lower d (t.terms, x) element target in
      record {
        coefficients = record { degree = d; terms = found.0.0 };
        homogeneous = over_map n d found.0;
        value =
            map-vector n (record { degree = d; terms = found.0.0 })
            ∙ (λ i. record { degree = degree i; terms = (found.1 i).0 });
      }

  pub cycles_that_are_set : (k n m : ℤ) → n ≡ k -ℤ pos 1 → m ≡ n -ℤ pos 1 → (t : Vector)
      → IsVector b.ring (total_degrees b n) t → (combined (total_map b n m) t).terms ≡ []
      → (c u : Vector) × IsSyzygy (a.map (n -ℤ pos top)) c × IsVector b.ring (total_degrees b k) u × (u.degree ≡ t.degree)
      × (t ≡ vector_sum b.ring (combined (a.set (n -ℤ pos top)) c) (combined (total_map b k n) u))
  cycles_that_are_set k n m above lower t x cycle =
      let d = t.degree in
      let q = n -ℤ pos top in
      let Y = (total_group b h n d).group in
      let element : Y.V = (t.terms, x) in
      let found =
      set-cycle k n m above lower d element (vector_unique b.ring (total_degrees b m) d _ _ cycle) in
      let c : Vector = record { degree = d; terms = found.0.0 } in
      let u : Vector = record { degree = d; terms = found.1.0 } in
      let image = total_image b h k n above d found.1 in
      let sum : Y.plus (set b h top a resolved d n found.0) image ≡ element =
      ap (λ v. Y.plus v image) (sym found.2) ∙ difference-plus Y element image in (
        c,
        u,
        record {
          coefficients = over_map n d found.0;
          zero = subst (λ r. row_combination r (a.map q).rows found.0.0 ≡ []) (sym (resolved.map_from q).ring_of)
              (ap (λ (v : (set_group b h top a resolved d m).V). v.0) found.3);
        },
        found.1.1,
        refl,
        (λ i. record { degree = d; terms = (sym sum i).0 })
            ∙ ap (λ v. vector_sum b.ring v (combined (total_map b k n) u)) (sym (set-vector n c found.0.1)),
      )
