-- A division step by step, as a loop goes: what is left, the rest and the steps so far.
use Rattle.std.proofs.Common.{◌≡◌, false, ℕ, ◌<◌, List, [], ◌∷◌, ◌++◌, length, sym, subst, ℤ, append-nil, append_assoc}
use Rattle.std.specs.List.{AllByRecursion}
use Rattle.sf_algebra.specs.Rings.{Ring, IsOverField}
use Rattle.sf_algebra.specs.Terms.{Term}
use Rattle.sf_algebra.specs.Vectors.{Place, Vector, IsVector}
use Rattle.sf_groebner.specs.Criterion.{lead_at}
use Rattle.sf_groebner.specs.Divisions.{IsDivided, IsDividing, left_over, step}
use Rattle.sf_groebner.specs.Leads.{PlaceDivides}
use Rattle.sf_groebner.specs.ReducedBases.{is_divided}
use Rattle.sf_groebner.proofs.Constructions.Divisions.{IsVector-tail, divided_hit, divided_miss, divided_none, left_over-vector}
use Rattle.sf_groebner.proofs.Constructions.MonicVectors.{IsMonicVector}

module _ (ring : Ring) (prime : IsOverField ring) (target : List ℤ) (rows : List Vector)
    (monic : AllByRecursion (IsMonicVector ring target) rows) (d : ℤ) (terms : List (Term Place)) where
  pub IsDividing-start : IsVector ring target (record { degree = d; terms = terms })
      → IsDividing ring target rows d terms terms [] []
  IsDividing-start h = record { vector = h; further = λ others quotients e. e }

  -- the first term that is left goes to the rest
  pub IsDividing-miss : (t : Term Place) (ts rest steps : List (Term Place)) → is_divided rows t.at ≡ false
      → IsDividing ring target rows d terms (t ∷ ts) rest steps
      → IsDividing ring target rows d terms ts (rest ++ t ∷ []) steps
  IsDividing-miss t ts rest steps none h = record {
    vector = IsVector-tail ring target d t ts h.vector;
    further = λ others quotients e.
        subst (λ us. IsDivided ring target rows d terms us (steps ++ quotients)) (sym (append_assoc rest (t ∷ []) others))
        (h.further (t ∷ others) quotients (divided_miss ring prime target rows monic d t ts h.vector others quotients none e));
  }

  -- a row takes it away
  pub IsDividing-hit : (t : Term Place) (ts rest steps : List (Term Place)) (i : ℕ) → i < length rows
      → PlaceDivides (lead_at rows i) t.at → IsDividing ring target rows d terms (t ∷ ts) rest steps
      → IsDividing ring target rows d terms (left_over ring rows i t ts) rest (steps ++ step rows i t ∷ [])
  IsDividing-hit t ts rest steps i within divides h = record {
    vector = left_over-vector ring prime target rows monic d t ts h.vector i within divides;
    further = λ others quotients e.
        subst (IsDivided ring target rows d terms (rest ++ others)) (sym (append_assoc steps (step rows i t ∷ []) quotients))
        (h.further others (step rows i t ∷ quotients) (divided_hit ring prime target rows monic d t ts h.vector i within divides others quotients e));
  }

  pub IsDividing-end : (rest steps : List (Term Place)) → IsDividing ring target rows d terms [] rest steps
      → IsDivided ring target rows d terms rest steps
  IsDividing-end rest steps h =
      subst (λ us. IsDivided ring target rows d terms us steps) (append-nil rest)
      (subst (IsDivided ring target rows d terms (rest ++ [])) (append-nil steps) (h.further [] [] (divided_none ring prime target rows monic d)))
