-- The next page: its cycles are the kernel of the differential, and its boundaries are the differential's values.
use Rattle.std.proofs.Common.{◌≡◌, ℕ, ◌≤◌, sym, ◌∙◌, ap, subst}
use Rattle.sf_algebra.specs.Groups.{Mod}
use Rattle.sf_algebra.proofs.Operators.Congruences.{Mod-from_zero, Mod-refl, Mod-sym, Mod-trans, Mod-zero}
use Rattle.sf_algebra.proofs.Operators.Groups.{map-difference}
use Rattle.sf_algebra.proofs.Operators.GroupMaps.{IsMap-id}
use Rattle.sf_algebra.proofs.Operators.Subgroups.{has_difference}
use Rattle.sf_chase.specs.Filtrations.{FallsTo, Filtered, HasDifferential, IsFilteredMap, PageBoundaries, PageCycles}
use Rattle.sf_chase.proofs.Links.{Mod-image_difference, difference-less}
use Rattle.sf_chase.proofs.Pages.PageGroups.{FallsTo-sub, PageBoundaries-sub, low-PageBoundaries}

module _ {R : Type 0} (Y W : Filtered R) (g : Y.group.V → W.group.V) (filtered : IsFilteredMap Y W g) (l p k s : ℕ) where
  -- cycles of the next page have the differential zero
  pub next_cycles-kernel : k ≤ s → (u : Y.group.V) → PageCycles Y W g l p k u
      → HasDifferential Y W g l p k s u W.group.zero
  next_cycles-kernel lower u h =
      let boundaries = PageBoundaries Y W g l k s in
      let sub = PageBoundaries-sub Y W g filtered l k s in (
        h.0,
        (h.1.0, W.rises k s lower (g h.0) h.1.1),
        h.2,
        Mod-sym W.group boundaries sub (g h.0) W.group.zero
            (Mod-zero W.group boundaries sub (g h.0) (low-PageBoundaries Y W g filtered l k s (g h.0) h.1.1)),
      )

  -- and what has the differential zero is a cycle of the next page: less the preimage of the boundary it falls further
  pub kernel-next_cycles : l ≤ p → (u : Y.group.V) → HasDifferential Y W g l p k s u W.group.zero
      → PageCycles Y W g l p k u
  kernel-next_cycles lower u h =
      let boundaries = PageBoundaries Y W g l k s in
      let sub = PageBoundaries-sub Y W g filtered l k s in
      let bound : boundaries (g h.0) =
      Mod-from_zero W.group boundaries sub (g h.0) (Mod-sym W.group boundaries sub W.group.zero (g h.0) h.3) in
      let less = Y.group.plus h.0 (Y.group.minus bound.0) in
      let low : Y.part p bound.0 = Y.rises l p lower bound.0 bound.1.0 in
      let falls : W.part k (g less) = subst (W.part k) (sym (map-difference Y.group W.group g filtered.map h.0
      bound.0)) bound.2 in
      let same : Mod Y.group (Y.part l) h.0 less =
      Mod-image_difference Y.group Y.group (λ v. v) (IsMap-id Y.group) (Y.part l) (Y.sub l) h.0 bound.0 bound.1.0 in (
        less,
        (has_difference Y.group (Y.part p) (Y.sub p) h.0 bound.0 h.1.0 low, falls),
        Mod-trans Y.group
            (Y.part l) (Y.sub l) u h.0 less h.2 same,
      )

module _ {R : Type 0} (X Y : Filtered R) (f : X.group.V → Y.group.V) (filtered : IsFilteredMap X Y f) (t w l p : ℕ) where
  -- a boundary of the next page is a differential
  pub next_boundaries-values : (v : Y.group.V) → PageBoundaries X Y f w l p v
      → (u : X.group.V) × HasDifferential X Y f t w l p u v
  next_boundaries-values v h =
      let boundaries = low-PageBoundaries X Y f filtered t l p in
      (h.0, (h.0, h.1, Mod-refl X.group (X.part t) (X.sub t) h.0, boundaries _ h.2))

  -- and a differential is a boundary of the next page
  pub values-next_boundaries : t ≤ w → (u : X.group.V) (v : Y.group.V) → HasDifferential X Y f t w l p u v
      → PageBoundaries X Y f w l p v
  values-next_boundaries higher u v h =
      let bound = h.3 in
      let sum = X.group.plus h.0 bound.0 in
      let falls : FallsTo X Y f w p sum =
      (FallsTo-sub X Y f filtered w p).has_plus h.0 bound.0 h.1 (X.rises t w higher bound.0 bound.1.0, bound.1.1) in
      let same : Y.group.plus (Y.group.plus v (Y.group.minus (f h.0))) (Y.group.minus (f bound.0))
      ≡ Y.group.plus v (Y.group.minus (f sum)) =
      difference-less Y.group v (f h.0) (f bound.0)
      ∙ ap (λ x. Y.group.plus v (Y.group.minus x)) (sym (filtered.map.to_plus h.0 bound.0)) in
      (sum, falls, subst (Y.part l) same bound.2)
