-- The unit vectors of generators in order are the rows of the identity at their positions.
use Rattle.std.proofs.Common.{◌≡◌, ℕ, suc, ◌+◌, ◌<◌, ◌≤◌, List, [], ◌∷◌, ◌++◌, length, map, take, Some, slice_get, slice_index_or, refl, sym, ◌∙◌, ap, subst, ℤ, pos, arith}
use Rattle.std.proofs.lemmas.List.{take_all}
use Rattle.std.proofs.lemmas.Option.{slice_get_within, slice_get-get_or}
use Rattle.std.specs.declared.cmp.Ordering.{Ordering}
use Rattle.std.specs.declared.cmp.Ordering.TheVariants.{Less, Equal, Greater}
use Rattle.std.specs.List.{AllByRecursion}
use Rattle.std.specs.Ordering.{int_cmp, match_ordering}
use Rattle.sf_algebra.specs.Matrices.{Matrix, IsMatrix}
use Rattle.sf_algebra.specs.MatrixOperations.{identity, unit_rows, unit_vector}
use Rattle.sf_algebra.specs.Rings.{Ring}
use Rattle.sf_algebra.specs.Vectors.{Vector, IsVector}
use Rattle.sf_algebra.proofs.Basics.Lists.{AllByRecursion-get, AllByRecursion-weaken}
use Rattle.sf_groebner.specs.MinimalGenerators.{matrix_of}
use Rattle.sf_matrix.proofs.Pieces.{map-take}
use Rattle.sf_presented.specs.FreeBases.{by_degree, insert_by_degree}
use Rattle.sf_genmor.specs.QuotientPlans.{units_over}
use Rattle.sf_genmor.specs.SortedPlaces.{insert_place, sorted_places}
use Rattle.sf_genmor.proofs.Places.{AllByRecursion-insert}

-- the unit vector of a generator
abbrev pub unit_at : ℤ × ℕ → Vector
unit_at p = unit_vector p.0 p.1

map-match_ordering : {X Y : Type 0} (f : X → Y) (o : Ordering) (a b : List X) (c : List Y) → map f b ≡ c
    → map f (match_ordering o a a b) ≡ match_ordering o (map f a) (map f a) c
map-match_ordering f Less a b c e = refl
map-match_ordering f Equal a b c e = refl
map-match_ordering f Greater a b c e = e

units-insert : (p : ℤ × ℕ) (qs : List (ℤ × ℕ)) → map unit_at (insert_place p qs) ≡ insert_by_degree (unit_at p) (map unit_at qs)
units-insert p [] = refl
units-insert p (q ∷ qs) =
    map-match_ordering unit_at (int_cmp p.0 q.0) (p ∷ q ∷ qs) (q ∷ insert_place p qs)
    (unit_at q ∷ insert_by_degree (unit_at p) (map unit_at qs)) (ap (λ vs. unit_at q ∷ vs) (units-insert p qs))

pub units-sorted_places : (i : ℕ) (ds : List ℤ) → map unit_at (sorted_places i ds) ≡ by_degree (unit_rows i ds)
units-sorted_places i [] = refl
units-sorted_places i (d ∷ ds) =
    units-insert (d, i) (sorted_places (suc i) ds) ∙ ap (insert_by_degree (unit_vector d i)) (units-sorted_places (suc i) ds)

-- the unit vector of a generator stands among those of all, the first of which stands at position i
record StandsAmong (i : ℕ) (ds : List ℤ) (p : ℤ × ℕ) : Type 0 where
  number : ℕ
  position : p.1 ≡ i + number
  here : slice_get (unit_rows i ds) number ≡ Some (unit_at p)

stand_among : (i : ℕ) (ds : List ℤ) → AllByRecursion (StandsAmong i ds) (sorted_places i ds)
stand_among i [] = tt
stand_among i (d ∷ ds) =
    AllByRecursion-insert (StandsAmong i (d ∷ ds)) (d, i) (sorted_places (suc i) ds)
    (record { number = 0; position = omega arith; here = refl })
    (AllByRecursion-weaken (StandsAmong (suc i) ds) (StandsAmong i (d ∷ ds))
    (λ p h. let later : p.1 ≡ suc i + h.number = h.position in record { number = suc h.number; position = omega (arith, later); here = h.here })
    (sorted_places (suc i) ds) (stand_among (suc i) ds))

-- at its position
pub unit_row-here : (ds : List ℤ) (k : ℕ) (p : ℤ × ℕ) → slice_get (sorted_places 0 ds) k ≡ Some p
    → slice_get (unit_rows 0 ds) p.1 ≡ Some (unit_at p)
unit_row-here ds k p here =
    let h = AllByRecursion-get (StandsAmong 0 ds) (sorted_places 0 ds) k p (stand_among 0 ds) here in
    let same : p.1 ≡ h.number = let position = h.position in omega (arith, position) in
    ap (slice_get (unit_rows 0 ds)) same ∙ h.here

-- the generator at a place of the sorted list
module _ (ds : List ℤ) (items : List (ℤ × ℕ)) (sorted : items ≡ sorted_places 0 ds) (k : ℕ) (within : k < length items) where
  abbrev pub place_here : ℤ × ℕ
  place_here = slice_index_or items k (pos 0, 0)

  pub item_here : slice_get items k ≡ Some place_here
  item_here = slice_get-get_or items k (pos 0, 0) within

  unit_here : slice_get (unit_rows 0 ds) place_here.1 ≡ Some (unit_at place_here)
  unit_here = unit_row-here ds k place_here (ap (λ ps. slice_get ps k) (sym sorted) ∙ item_here)

  module _ (ring : Ring) (units : Matrix) (same : units ≡ identity ring ds) where
    pub row_within : place_here.1 < length units.rows
    row_within =
        subst (λ (m : Matrix). place_here.1 < length m.rows) (sym same)
        (slice_get_within (unit_rows 0 ds) place_here.1 (unit_at place_here) unit_here)

    module _ (v w : Vector) (read : slice_get units.rows place_here.1 ≡ Some w) (copied : v ≡ w) where
      pub row_is : v ≡ unit_at place_here
      row_is =
          copied
          ∙ one w (unit_at place_here) (sym read ∙ ap (λ (m : Matrix). slice_get m.rows place_here.1) same ∙ unit_here)
        where
          one : (x y : Vector) → Some x ≡ Some y → x ≡ y
          one x y e = cc

      pub row_vector : IsMatrix units → (basis : Matrix) → (rows : List Vector) → basis ≡ matrix_of ring ds rows
          → IsVector basis.ring basis.target v
      row_vector matrix basis rows e =
          let here : IsVector units.ring units.target w = AllByRecursion-get _ units.rows place_here.1 w matrix read in
          subst (λ (x : Vector). IsVector basis.ring basis.target x) (sym copied)
          (subst (λ (x : Ring × List ℤ). IsVector x.0 x.1 w)
          (λ i. ((ap (λ (m : Matrix). m.ring) same ∙ (λ j. (sym e j).ring)) i, (ap (λ (m : Matrix). m.target) same ∙ (λ j. (sym e j).target)) i))
          here)

      -- one more row of the basis
      pub basis_more : (basis longer : Matrix) → basis ≡ matrix_of ring ds (map unit_at (take k items))
          → longer ≡ record basis { rows = basis.rows ++ v ∷ [] }
          → longer ≡ matrix_of ring ds (map unit_at (take (k + 1) items))
      basis_more basis longer e pushed =
          pushed ∙ (λ i. record (e i) { rows = (e i).rows ++ row_is i ∷ [] })
          ∙ ap (matrix_of ring ds) (sym (map-take unit_at items k place_here item_here))

-- the whole basis
pub basis_whole : (ring : Ring) (ds : List ℤ) (items : List (ℤ × ℕ)) → items ≡ sorted_places 0 ds → (k : ℕ) → length items ≤ k
    → (basis : Matrix) → basis ≡ matrix_of ring ds (map unit_at (take k items)) → basis ≡ units_over ring ds
basis_whole ring ds items sorted k past basis e =
    e ∙ ap (λ ps. matrix_of ring ds (map unit_at ps)) (take_all k items past ∙ sorted)
    ∙ ap (matrix_of ring ds) (units-sorted_places 0 ds)
