-- What `complex_fault` has met of its plan, one law after another.
use Rattle.std.proofs.Common.{◌≡◌, true, false, if◌then◌else◌, ℕ, suc, ◌+◌, ◌-◌, ◌≤◌, ◌<◌, get_or, List, ◌∷◌, length, drop, Option, Some, None, slice_get, is_some, Result, Ok, Err, refl, sym, ◌∙◌, ap, subst, arith}
use Rattle.std.proofs.lemmas.List.{drop_all}
use Rattle.std.proofs.lemmas.Option.{slice_get_read}
use Rattle.std.specs.List.{AllByRecursion}
use Rattle.sf_algebra.specs.Matrices.{Matrix}
use Rattle.sf_algebra.proofs.Basics.Drops.{drop-slice_get}
use Rattle.sf_algebra.proofs.Basics.Lists.{AllByRecursion-get}
use Rattle.sf_matrix.specs.declared.basis.BaseFault.{BaseFault}
use Rattle.sf_matrix.specs.Meets.{Meets}
use Rattle.sf_matrix.specs.Plans.{Plan, answer}
use Rattle.sf_matrix.specs.Tables.{Table}
use Rattle.sf_matrix.proofs.Plans.Rules.{meets_answer, meets_fails, meets_then}
use Rattle.sf_object.specs.declared.complex.Complex.{Complex}
use Rattle.sf_object.specs.declared.map.Map.{Map}
use Rattle.sf_object.specs.Complexes.{AreMeeting, HasSquareRoom, IsChain, Junction, complex_plan, junctions, laws_plan, square_of, square_plan}
use Rattle.sf_object.specs.Faults.{HasImageRoom, IsBetween, map_of, map_plan}
use Rattle.sf_object.proofs.Junctions.{junction_at, length-junctions}

-- the plan goes on from what one law answers
abbrev further : ℕ → List Junction → Option ℕ → Plan (Option ℕ)
further k js found = if is_some found then answer (Some k) else laws_plan (suc k) js

module _ {t u : Table} (k : ℕ) (j : Junction) (js : List Junction) where
  law_fails : {fault : BaseFault} → Meets t (map_plan (square_of j)) (Err fault) u → Meets t (laws_plan k (j ∷ js)) (Err fault) u
  unfolding square_plan
  law_fails h = meets_fails (further k js) h

  law_told : (found : Option ℕ) → is_some found ≡ true → Meets t (map_plan (square_of j)) (Ok found) u
      → Meets t (laws_plan k (j ∷ js)) (Ok (Some k)) u
  unfolding square_plan
  law_told None e h = absurd cc
  law_told (Some i) e h = meets_then (further k js) h (meets_answer refl)

  law_holds : {v : Table} {end : Result (Option ℕ) BaseFault} → (found : Option ℕ) → is_some found ≡ false
      → Meets t (map_plan (square_of j)) (Ok found) u → Meets u (laws_plan (suc k) js) end v
      → Meets t (laws_plan k (j ∷ js)) end v
  unfolding square_plan
  law_holds None e h rest = meets_then (further k js) h rest
  law_holds (Some i) e h rest = absurd cc

-- whatever meets what is left of the plan from law k on, from the table t on, meets the whole from s on
abbrev pub GoesOn : Complex → Table → ℕ → Table → Type 0
GoesOn c s k t =
    (end : Result (Option ℕ) BaseFault) (u : Table) → Meets t (laws_plan k (drop (k - 1) (junctions c.maps))) end u
    → Meets s (complex_plan c) end u

pub goes_on_first : (c : Complex) (t : Table) → GoesOn c t 1 t
unfolding complex_plan
goes_on_first c t end u h = h

-- where no law is left
pub all_hold : {s t : Table} (c : Complex) (k : ℕ) → length c.maps ≤ k → GoesOn c s k t → Meets s (complex_plan c) (Ok None) t
all_hold {s} {t} c k last on =
    on (Ok None) t
    (subst (λ js. Meets t (laws_plan k js) (Ok None) t)
    (sym (drop_all (k - 1) (junctions c.maps) (omega (arith, length-junctions c.maps))))
    (meets_answer refl))

-- law k is about maps k and k + 1, the second of which goes to a module with the relations m
pub record IsLawOf (c : Complex) (k : ℕ) (f g : Map) (m : Matrix) : Type 0 where
  pub counted : 1 ≤ k
  pub second : slice_get c.maps (k - 1) ≡ Some f
  pub first : slice_get c.maps k ≡ Some g
  pub target : m ≡ f.target

pub law_of : (c : Complex) (k : ℕ) (maps : List Map) (f g : Map) (m : Matrix) → maps ≡ c.maps → 1 ≤ k → k < length maps
    → g ≡ get_or maps k g → f ≡ get_or maps (k - 1) f → m ≡ f.target → IsLawOf c k f g m
law_of c k maps f g m same counted below first second target = record {
  counted = counted;
  second = ap (λ fs. slice_get fs (k - 1)) (sym same) ∙ slice_get_read maps (length maps) (k - 1) f refl (omega arith) second;
  first = ap (λ fs. slice_get fs k) (sym same) ∙ slice_get_read maps (length maps) k g refl below first;
  target = target;
}

module _ (c : Complex) (k : ℕ) (f g : Map) (m : Matrix) (law : IsLawOf c k f g m) where
  abbrev here : Junction
  here = record { first = g; second = f }

  next : suc (k - 1) ≡ k
  next = let counted = law.counted in omega arith

  junction : slice_get (junctions c.maps) (k - 1) ≡ Some here
  junction = junction_at c.maps (k - 1) f g law.second (ap (slice_get c.maps) next ∙ law.first)

  left : drop (k - 1) (junctions c.maps) ≡ here ∷ drop (suc k - 1) (junctions c.maps)
  left =
      drop-slice_get (junctions c.maps) (k - 1) here junction
      ∙ ap (λ i. here ∷ drop i (junctions c.maps)) (let counted = law.counted in omega arith)

  abbrev square : Map
  square = map_of g.matrix f.matrix m

  same_square : square_of here ≡ square
  same_square i = map_of g.matrix f.matrix (sym law.target i)

  -- the square of these maps stands between its modules
  pub square_stands : IsChain c → IsBetween square
  square_stands chain =
      let one = AllByRecursion-get IsBetween c.maps (k - 1) f chain.between law.second in
      let other = AllByRecursion-get IsBetween c.maps k g chain.between law.first in
      let meeting = AllByRecursion-get AreMeeting (junctions c.maps) (k - 1) here chain.meeting junction in
      subst IsBetween same_square
      (record {
        source_ring = one.source_ring ∙ (λ i. (meeting i).ring) ∙ sym other.target_ring;
        target_ring = one.target_ring;
        source_degrees = one.source_degrees ∙ (λ i. (meeting i).target) ∙ sym other.target_degrees;
        target_degrees = one.target_degrees;
      })

  pub square_room : AllByRecursion HasSquareRoom (junctions c.maps) → HasImageRoom square
  square_room room =
      subst HasImageRoom same_square (AllByRecursion-get HasSquareRoom (junctions c.maps) (k - 1) here room junction)

  module _ {s t u : Table} (on : GoesOn c s k t) where
    at_square : {end : Result (Option ℕ) BaseFault} → Meets t (map_plan square) end u → Meets t (map_plan (square_of here)) end u
    at_square {end} h = subst (λ x. Meets t (map_plan x) end u) (sym same_square) h

    pub complex_failed : {fault : BaseFault} → Meets t (map_plan square) (Err fault) u → Meets s (complex_plan c) (Err fault) u
    complex_failed {fault} h =
        on (Err fault) u
        (subst (λ js. Meets t (laws_plan k js) (Err fault) u) (sym left)
        (law_fails k here (drop (suc k - 1) (junctions c.maps)) (at_square h)))

    pub complex_told : (found : Option ℕ) → is_some found ≡ true → Meets t (map_plan square) (Ok found) u
        → Meets s (complex_plan c) (Ok (Some k)) u
    complex_told found e h =
        on (Ok (Some k)) u
        (subst (λ js. Meets t (laws_plan k js) (Ok (Some k)) u) (sym left)
        (law_told k here (drop (suc k - 1) (junctions c.maps)) found e (at_square h)))

    pub complex_goes_on : (found : Option ℕ) → is_some found ≡ false → Meets t (map_plan square) (Ok found) u
        → GoesOn c s (k + 1) u
    complex_goes_on found e h =
        let one : suc k ≡ k + 1 = omega arith in
        subst (λ n. GoesOn c s n u) one
        (λ end v rest.
        on end v
        (subst (λ js. Meets t (laws_plan k js) end v) (sym left)
        (law_holds k here (drop (suc k - 1) (junctions c.maps)) found e (at_square h) rest)))
