-- Staircases: an element whose image stands in its highest column is equal modulo images to one of that column, step by
-- step from the lowest column. So a total complex with exact rows has the homology of what is set into its column n.
use Rattle.std.proofs.Common.{◌≡◌, ℕ, zero, suc, ◌<◌, refl, sym, ◌∙◌, ap, subst, arith}
use Rattle.sf_algebra.specs.Groups.{Group, ImageOf, KernelOf, Whole}
use Rattle.sf_algebra.proofs.Operators.Congruences.{Mod-add, Mod-equal, Mod-trans}
use Rattle.sf_algebra.proofs.Operators.Groups.{difference-equal, difference-plus, difference-zero, map-difference, map-zero, minus_only, plus-difference_first}
use Rattle.sf_algebra.proofs.Operators.Quotients.{ActsOnQuotients, IsOneToOne, IsOnto}
use Rattle.sf_algebra.proofs.Operators.Subgroups.{ImageOf-sub, Whole-sub}
use Rattle.sf_chase.specs.Columns.{Columned, IsDifferential}
use Rattle.sf_chase.specs.Staircases.{IsAugmentation, IsExactRow, IsFlat, IsZeroAfter, ResolvesRow}
use Rattle.sf_chase.proofs.Links.{difference-less}

module _ {R : Type 0} (G : Group R) where
  -- one term of a sum and what is taken from the other
  pub difference-second : (u v w x : G.V)
      → G.plus u (G.plus (G.plus v (G.minus w)) (G.minus x)) ≡ G.plus (G.plus u v) (G.minus (G.plus w x))
  difference-second u v w x = ap (G.plus u) (difference-less G v w x) ∙ sym (G.assoc u v (G.minus (G.plus w x)))

  -- a sum of three less the first term
  pub rest-of_three : (u v w : G.V) → G.plus (G.plus (G.plus u v) w) (G.minus u) ≡ G.plus v w
  rest-of_three u v w = ap (λ x. G.plus x (G.minus u)) (G.assoc u v w) ∙ plus-difference_first G u (G.plus v w)

module _ {R : Type 0} (X Y W : Columned R) (d : X.group.V → Y.group.V) (e : Y.group.V → W.group.V)
    (first : IsDifferential X Y d) (second : IsDifferential Y W e) (zero_after : IsZeroAfter X Y W d e) where
  -- an image may be taken away before e
  pub less_image-same : (v : Y.group.V) (u : X.group.V) → e (Y.group.plus v (Y.group.minus (d u))) ≡ e v
  less_image-same v u =
      map-difference Y.group W.group e second.map v (d u)
      ∙ ap (λ w. W.group.plus (e v) (W.group.minus w)) (zero_after u) ∙ difference-zero W.group (e v)

  -- of a sum whose image stands in column j + 1 with its highest term, the rest has its image in column j
  pub rest-column : (j : ℕ) (x s : Y.group.V) → Y.column (suc j) x → Y.below (suc j) s
      → W.column (suc j) (e (Y.group.plus x s)) → W.column j (e s)
  rest-column j x s high low image =
      let parts = second.steps j x high in
      let a = parts.0 in
      let b = parts.1 in
      let H = W.group in
      let whole : e (Y.group.plus x s) ≡ H.plus (H.plus a b) (e s) =
      second.map.to_plus x s ∙ ap (λ y. H.plus y (e s)) (sym parts.4) in
      let rest : H.plus (e (Y.group.plus x s)) (H.minus a) ≡ H.plus b (e s) =
      ap (λ y. H.plus y (H.minus a)) whole ∙ rest-of_three H a b (e s) in
      let in_column : W.column (suc j) (H.plus b (e s)) =
      subst (W.column (suc j)) rest ((W.column_sub (suc j)).has_plus (e (Y.group.plus x s)) (H.minus a) image
      ((W.column_sub (suc j)).has_minus a parts.2)) in
      let lower : W.below (suc j) (H.plus b (e s)) =
      (W.below_sub (suc j)).has_plus b (e s) (W.column_below j b parts.3) (second.keeps (suc j) s low) in
      let negative : e s ≡ H.minus b = minus_only H b (e s) (W.apart (suc j) (H.plus b (e s)) in_column lower) in
      subst (W.column j) (sym negative) ((W.column_sub j).has_minus b parts.3)

  pub reaches : (n : ℕ) → ((j : ℕ) → j < n → IsExactRow X Y W d e j) → (t : Y.group.V) → Y.below (suc n) t
      → W.column n (e t) → (u : X.group.V) × Y.column n (Y.group.plus t (Y.group.minus (d u)))
  reaches zero exact t low image =
      let parts = Y.highest 0 t low in
      let alone : parts.0 ≡ t =
      sym (Y.group.unit parts.0) ∙ ap (Y.group.plus parts.0) (sym (Y.nothing_lower parts.1 parts.3)) ∙ parts.4 in
      let less : t ≡ Y.group.plus t (Y.group.minus (d X.group.zero)) =
      sym (difference-zero Y.group t) ∙ ap (λ y. Y.group.plus t (Y.group.minus y))
      (sym (map-zero X.group Y.group d first.map)) in
      (X.group.zero, subst (Y.column 0) (alone ∙ less) parts.2)
  reaches (suc n) exact t low image =
      let parts = Y.highest (suc n) t low in
      let G = Y.group in
      let x = parts.0 in
      let s = parts.1 in
      let rest : W.column n (e s) =
      rest-column n x s parts.2 parts.3 (subst (λ y. W.column (suc n) (e y)) (sym parts.4) image) in
      let below = reaches n (λ j h. exact j (omega (arith, h))) s parts.3 rest in
      let q = G.plus s (G.minus (d below.0)) in
      let flat : IsFlat Y W e n q = (below.1, subst (W.column n) (sym (less_image-same s below.0)) rest) in
      let step = exact n (omega arith) q flat in
      let sum = X.group.plus below.0 step.0 in
      let same : G.plus x (G.plus q (G.minus (d step.0))) ≡ G.plus t (G.minus (d sum)) =
      difference-second G x s (d below.0) (d step.0)
      ∙ (λ i. G.plus (parts.4 i) (G.minus (sym (first.map.to_plus below.0 step.0) i))) in (
        sum,
        subst (Y.column (suc n)) same ((Y.column_sub (suc n)).has_plus x (G.plus q (G.minus (d step.0))) parts.2
            step.2),
      )

  -- the other way up: an element with its image in column j, less one of the next higher column, has its image there
  pub lifts_up : (j : ℕ) → IsExactRow X Y W d e j → (t : X.group.V) → Y.column j (d t)
      → (u : X.group.V) × X.column (suc j) u × Y.column (suc j) (d (X.group.plus t (X.group.minus u)))
  lifts_up j exact t image =
      let step = exact (d t) (image, subst (W.column j) (sym (zero_after t)) (W.column_sub j).has_zero) in
      (step.0, step.1, subst (Y.column (suc j)) (sym (map-difference X.group Y.group d first.map t step.0)) step.2)

  -- groups set into the highest column, which has all columns below it
  module _ (n : ℕ) (all : (t : Y.group.V) → Y.below (suc n) t) (exact : (j : ℕ) → j < n → IsExactRow X Y W d e j)
      (B C : Group R) (b : B.V → C.V) (set : B.V → Y.group.V) (next_set : C.V → W.group.V)
      (next_augmentation : IsAugmentation C W n next_set)
      (passes : (m : B.V) → e (set m) ≡ next_set (b m)) (resolves : ResolvesRow Y W e n set) where
    -- an element whose image is set is equal modulo images to one that is set
    pub set_image : (t : Y.group.V) (c : C.V) → e t ≡ next_set c
        → (m : B.V) × (u : X.group.V) × (Y.group.plus t (Y.group.minus (d u)) ≡ set m) × (next_set (b m) ≡ next_set c)
    set_image t c h =
        let reached = reaches n exact t (all t) (subst (W.column n) (sym h) (next_augmentation.inside c)) in
        let u = reached.0 in
        let q = Y.group.plus t (Y.group.minus (d u)) in
        let image : e q ≡ next_set c = less_image-same t u ∙ h in
        let flat : IsFlat Y W e n q = (reached.1, subst (W.column n) (sym image) (next_augmentation.inside c)) in
        let m = resolves q flat in
        (m.0, u, m.1, sym (passes m.0) ∙ ap e (sym m.1) ∙ image)

    -- what is set and an image is set of an image
    pub boundary_image : (t : Y.group.V) (c : C.V) → e t ≡ next_set c → (m : B.V) × (b m ≡ c)
    boundary_image t c h =
        let found = set_image t c h in
        let H = W.group in
        let zero_difference : next_set (C.plus (b found.0) (C.minus c)) ≡ H.zero =
        map-difference C H next_set next_augmentation.map (b found.0) c
        ∙ ap (λ y. H.plus y (H.minus (next_set c))) found.3 ∙ H.inverse (next_set c) in (
          found.0,
          difference-equal C (b found.0) c (next_augmentation.one_to_one (C.plus (b found.0) (C.minus c))
              zero_difference),
        )

    -- a cycle is equal modulo images to a cycle that is set
    pub cycle_image : (t : Y.group.V) → e t ≡ W.group.zero
        → (m : B.V) × (u : X.group.V) × (Y.group.plus t (Y.group.minus (d u)) ≡ set m) × (b m ≡ C.zero)
    cycle_image t h =
        let zero_set = map-zero C W.group next_set next_augmentation.map in
        let found = set_image t C.zero (h ∙ sym zero_set) in
        (found.0, found.1, found.2, next_augmentation.one_to_one (b found.0) (found.3 ∙ zero_set))

    -- where the complex that is set is exact, a cycle is an image
    pub cycle_boundary : (A : Group R) (a : A.V → B.V) (before_set : A.V → X.group.V)
        → ((k : A.V) → d (before_set k) ≡ set (a k)) → ((m : B.V) → b m ≡ C.zero → (k : A.V) × (a k ≡ m))
        → (t : Y.group.V) → e t ≡ W.group.zero → (u : X.group.V) × (d u ≡ t)
    cycle_boundary A a before_set also_passes exact_at t h =
        let found = cycle_image t h in
        let source = exact_at found.0 found.3 in
        let image : d (before_set source.0) ≡ Y.group.plus t (Y.group.minus (d found.1)) =
        also_passes source.0 ∙ ap set source.1 ∙ sym found.2 in (
          X.group.plus (before_set source.0) found.1,
          first.map.to_plus (before_set source.0) found.1
              ∙ ap (λ y. Y.group.plus y (d found.1)) image ∙ difference-plus Y.group t (d found.1),
        )

    -- so what is set acts on homology,
    pub set-acts : (A : Group R) (a : A.V → B.V) (before_set : A.V → X.group.V)
        → ((k : A.V) → d (before_set k) ≡ set (a k))
        → ActsOnQuotients set (KernelOf C b) (ImageOf a Whole) (KernelOf W.group e) (ImageOf d Whole)
    set-acts A a before_set also_passes = record {
      elements = λ m h. passes m ∙ ap next_set h ∙ map-zero C W.group next_set next_augmentation.map;
      bounds = λ m h. (before_set h.0, tt, also_passes h.0 ∙ ap set h.2);
    }

    -- onto it,
    pub set-onto : IsOnto Y.group set (KernelOf C b) (KernelOf W.group e) (ImageOf d Whole)
    set-onto =
        let images = ImageOf-sub X.group Y.group d first.map Whole (Whole-sub X.group) in
        record {
          source = λ t h. (cycle_image t h).0;
          inside = λ t h. (cycle_image t h).3;
          image = λ t h.
              let found = cycle_image t h in
              let less = Y.group.plus t (Y.group.minus (d found.1)) in
              Mod-trans Y.group (ImageOf d Whole) images (set found.0) less t
              (Mod-equal Y.group (ImageOf d Whole) images (set found.0) less (sym found.2))
              (Mod-add Y.group (ImageOf d Whole) images t (Y.group.minus (d found.1))
              (images.has_minus (d found.1) (found.1, tt, refl)));
        }

    -- and one to one, since what is set and an image is set of an image one step before
    pub set-one_to_one : (A : Group R) (a : A.V → B.V)
        → ((u : X.group.V) (m : B.V) → d u ≡ set m → (k : A.V) × (a k ≡ m))
        → IsOneToOne set (KernelOf C b) (ImageOf a Whole) (ImageOf d Whole)
    set-one_to_one A a arrives = record {
      zero = λ m h k. let source = arrives k.0 m k.2 in (source.0, tt, source.1);
    }
