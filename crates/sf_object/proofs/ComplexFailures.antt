-- The plan of a complex's failure answers the first junction whose law fails, and there is none exactly of a complex.
use Rattle.std.proofs.Common.{◌≡◌, ◌↔◌, if◌then◌else◌, ℕ, zero, suc, ◌+◌, List, [], ◌∷◌, Option, Some, None, is_some, Ok, refl, sym, ◌∙◌, ap, subst, arith}
use Rattle.std.proofs.lemmas.Option.{none-some, same_Some}
use Rattle.std.specs.List.{AllByRecursion}
use Rattle.std.specs.Option.{option_map}
use Rattle.sf_algebra.specs.Matrices.{Matrix}
use Rattle.sf_algebra.proofs.Basics.Lists.{AllByRecursion-get}
use Rattle.sf_algebra.proofs.GradedMatrices.Stacks.{AllByRecursion-map}
use Rattle.sf_algebra.proofs.Monomials.Weights.{field_ring}
use Rattle.sf_groebner.specs.Spans.{InSpan, combined}
use Rattle.sf_matrix.specs.Plans.{Plan, answer}
use Rattle.sf_matrix.specs.Runs.{Run}
use Rattle.sf_matrix.proofs.Plans.Readings.{answer_is, bind_is}
use Rattle.sf_presented.proofs.RowMaps.{sends-rows}
use Rattle.sf_object.specs.declared.complex.Complex.{Complex}
use Rattle.sf_object.specs.declared.map.Map.{Map}
use Rattle.sf_object.specs.ComplexLaws.{IsOfMatrices}
use Rattle.sf_object.specs.Complexes.{AreMeeting, IsChain, IsComplex, IsFirstAmong, IsFirstFailure, IsFirstUnlawful, IsImageInKernel, IsLawful, Junction, complex_plan, junctions, junctions_behind, laws_plan, square_of, square_plan, squares_of}
use Rattle.sf_object.specs.Faults.{IsBetween, IsFirstFault}
use Rattle.sf_object.proofs.MapFaults.{answers_first_fault, no_fault_map}

-- the place of the first junction whose law fails, counted from 0, or none where there is none
abbrev IsPlace : List Junction → Option ℕ → Type 0
IsPlace js None = AllByRecursion IsLawful js
IsPlace js (Some i) = IsFirstUnlawful js i

-- behind a junction whose law holds
place-behind : (j : Junction) (js : List Junction) → IsLawful j → (found : Option ℕ) → IsPlace js found
    → IsPlace (j ∷ js) (option_map suc found)
place-behind j js lawful None h = (lawful, h)
place-behind j js lawful (Some i) h =
    record { junction = h.junction; here = h.here; unlawful = h.unlawful; before = (lawful, h.before) }

place-here : (j : Junction) (js : List Junction) → (IsLawful j → ⊥) → IsPlace (j ∷ js) (Some 0)
place-here j js unlawful = record { junction = j; here = refl; unlawful = unlawful; before = tt }

-- there is at most one
unlawful_at : (j : Junction) (js : List Junction) → IsFirstUnlawful (j ∷ js) zero → IsLawful j → ⊥
unlawful_at j js h lawful = h.unlawful (subst IsLawful (same_Some j h.junction h.here) lawful)

later : (j : Junction) (js : List Junction) (i : ℕ) → IsFirstUnlawful (j ∷ js) (suc i) → IsFirstUnlawful js i
later j js i h = record { junction = h.junction; here = h.here; unlawful = h.unlawful; before = h.before.1 }

place-unique : (js : List Junction) (a b : Option ℕ) → IsPlace js a → IsPlace js b → a ≡ b
place-unique [] None None h k = refl
place-unique [] None (Some i) h k = absurd (none-some k.junction k.here)
place-unique [] (Some i) b h k = absurd (none-some h.junction h.here)
place-unique (j ∷ js) None None h k = refl
place-unique (j ∷ js) None (Some zero) h k = absurd (unlawful_at j js k h.0)
place-unique (j ∷ js) None (Some (suc i)) h k = ap (option_map suc) (place-unique js None (Some i) h.1 (later j js i k))
place-unique (j ∷ js) (Some zero) None h k = absurd (unlawful_at j js h k.0)
place-unique (j ∷ js) (Some zero) (Some zero) h k = refl
place-unique (j ∷ js) (Some zero) (Some (suc i)) h k = absurd (unlawful_at j js h k.before.0)
place-unique (j ∷ js) (Some (suc i)) None h k = ap (option_map suc) (place-unique js (Some i) None (later j js i h) k.1)
place-unique (j ∷ js) (Some (suc i)) (Some zero) h k = absurd (unlawful_at j js k h.before.0)
place-unique (j ∷ js) (Some (suc i)) (Some (suc l)) h k =
    ap (option_map suc) (place-unique js (Some i) (Some l) (later j js i h) (later j js l k))

-- the numbers count from k
abbrev from : ℕ → Option ℕ → Option ℕ
from k found = option_map (λ i. k + i) found

from-next : (k : ℕ) (found : Option ℕ) → from (suc k) found ≡ from k (option_map suc found)
from-next k None = refl
from-next k (Some i) = ap Some (omega arith)

abbrev further : ℕ → List Junction → Option ℕ → Plan (Option ℕ)
further k js found = if is_some found then answer (Some k) else laws_plan (suc k) js

-- one law holds exactly where the first row outside is none
fails-law : (j : Junction) (i : ℕ) → IsFirstFault (square_of j) (Some i) → IsLawful j → ⊥
fails-law j i h lawful = h.outside (AllByRecursion-get (InSpan j.second.target) (squares_of j) i h.vector lawful h.here)

square_is : (limit : ℕ) (j : Junction) (looked : List Matrix) (found : Option ℕ) → Run limit (square_plan j) looked (Ok found)
    → IsFirstFault (square_of j) found
unfolding square_plan
square_is limit j looked found run = (answers_first_fault limit (square_of j) looked found run).0

-- the answer of a run, whose numbers count from k
abbrev IsPlaceFrom : ℕ → List Junction → Option ℕ → Type 0
IsPlaceFrom k js end = (found : Option ℕ) × (end ≡ from k found) × IsPlace js found

laws_behind : (limit k : ℕ) (j : Junction) (js : List Junction) (looked : List Matrix) (end : Option ℕ)
    → (Run limit (laws_plan (suc k) js) looked (Ok end) → IsPlaceFrom (suc k) js end)
    → (found : Option ℕ) → IsFirstFault (square_of j) found → Run limit (further k js found) looked (Ok end)
    → IsPlaceFrom k (j ∷ js) end
laws_behind limit k j js looked end more None h run =
    let behind = more run in
    (option_map suc behind.0, behind.1 ∙ from-next k behind.0, place-behind j js h behind.0 behind.2)
laws_behind limit k j js looked end more (Some i) h run = (
  Some 0,
  answer_is limit (Some k) looked end run ∙ ap Some (omega arith),
  place-here j js (fails-law j i h),
)

laws_are : (limit k : ℕ) (js : List Junction) (looked : List Matrix) (end : Option ℕ)
    → Run limit (laws_plan k js) looked (Ok end) → IsPlaceFrom k js end
laws_are limit k [] looked end run = (None, answer_is limit None looked end run, tt)
laws_are limit k (j ∷ js) looked end run =
    let parts = bind_is limit (square_plan j) (further k js) looked end run in
    laws_behind limit k j js parts.2 end (laws_are limit (suc k) js parts.2 end) parts.0
    (square_is limit j parts.1 parts.0 parts.3) parts.4

-- counted from 1
counted : (js : List Junction) (found : Option ℕ) → IsPlace js found → IsFirstAmong js (from 1 found)
counted js None h = h
counted js (Some i) h = (i, omega arith, h)

uncounted : (js : List Junction) (end : Option ℕ) → IsFirstAmong js end → IsPlaceFrom 1 js end
uncounted js None h = (None, refl, h)
uncounted js (Some k) h = (Some h.0, ap Some (h.1 ∙ omega arith), h.2)

pub answers_first_failure : (limit : ℕ) (c : Complex) (looked : List Matrix) (found : Option ℕ)
    → Run limit (complex_plan c) looked (Ok found)
    → IsFirstFailure c found × ((other : Option ℕ) → IsFirstFailure c other → other ≡ found)
unfolding complex_plan
answers_first_failure limit c looked found run =
    let js : List Junction = junctions c.maps in
    let is = laws_are limit 1 js looked found run in (
      subst (IsFirstAmong js) (sym is.1) (counted js is.0 is.2),
      λ other h.
          let place = uncounted js other h in
          place.1 ∙ ap (from 1) (place-unique js place.0 is.0 place.2 is.2) ∙ sym is.1,
    )

-- the law of one junction
square_between : (j : Junction) → IsBetween j.second → IsBetween j.first → AreMeeting j → IsBetween (square_of j)
square_between j one other meeting = record {
  source_ring = one.source_ring ∙ (λ i. (meeting i).ring) ∙ sym other.target_ring;
  target_ring = one.target_ring;
  source_degrees = one.source_degrees ∙ (λ i. (meeting i).target) ∙ sym other.target_degrees;
  target_degrees = one.target_degrees;
}

lawful_is : (j : Junction) → IsOfMatrices j.second → IsOfMatrices j.first → IsBetween (square_of j) → IsLawful j ↔ IsImageInKernel j
lawful_is j one other between = (
  λ h. ((no_fault_map (square_of j) one.field other.matrix one.target one.matrix between).0 h).sends,
  λ h.
      AllByRecursion-map (InSpan j.second.target) (combined j.second.matrix) j.first.matrix.rows
      (sends-rows j.first.matrix j.second.target j.second.matrix (field_ring one.field) between.source_ring between.target_ring
      one.field.prime.above_one other.matrix h),
)

-- and of all
all_behind : (f : Map) (fs : List Map) → AllByRecursion IsOfMatrices (f ∷ fs) → AllByRecursion IsBetween (f ∷ fs)
    → AllByRecursion AreMeeting (junctions_behind f fs)
    → AllByRecursion IsLawful (junctions_behind f fs) ↔ AllByRecursion IsImageInKernel (junctions_behind f fs)
all_behind f [] matrices between meeting = (λ h. tt, λ h. tt)
all_behind f (g ∷ fs) matrices between meeting =
    let j : Junction = record { first = g; second = f } in
    let one = lawful_is j matrices.0 matrices.1.0 (square_between j between.0 between.1.0 meeting.0) in
    let more = all_behind g fs matrices.1 between.1 meeting.1 in
    (λ h. (one.0 h.0, more.0 h.1), λ h. (one.1 h.0, more.1 h.1))

pub no_failure_complex : (c : Complex) → AllByRecursion IsOfMatrices c.maps → IsChain c → IsFirstFailure c None ↔ IsComplex c
no_failure_complex c matrices chain = by c.maps matrices chain.between chain.meeting
  where
    by : (fs : List Map) → AllByRecursion IsOfMatrices fs → AllByRecursion IsBetween fs
        → AllByRecursion AreMeeting (junctions fs)
        → AllByRecursion IsLawful (junctions fs) ↔ AllByRecursion IsImageInKernel (junctions fs)
    by [] matrices between meeting = (λ h. tt, λ h. tt)
    by (f ∷ fs) matrices between meeting = all_behind f fs matrices between meeting
