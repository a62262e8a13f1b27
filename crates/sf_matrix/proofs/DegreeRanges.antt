-- Bounds of degrees, one degree after another.
use Rattle.std.proofs.Common.{◌≡◌, inl, inr, List, [], ◌∷◌, ◌++◌, ℤ, pos, ◌≤ℤ◌, int_lt, refl, sym, subst, arith}
use Rattle.std.proofs.lemmas.Int.{ints, clamps}
use Rattle.std.specs.Int.{int_max, int_min}
use Rattle.sf_algebra.specs.Bounds.{AreFrom, IsOneOf}
use Rattle.sf_algebra.proofs.Basics.Filters.{cond_cases}
use Rattle.sf_algebra.proofs.Basics.Lists.{AllByRecursion-append, AllByRecursion-weaken}

IsOneOf-front : (d : ℤ) (ds es : List ℤ) → IsOneOf d ds → IsOneOf d (ds ++ es)
IsOneOf-front d [] es h = absurd h
IsOneOf-front d (e ∷ ds) es (inl same) = inl same
IsOneOf-front d (e ∷ ds) es (inr other) = inr (IsOneOf-front d ds es other)

IsOneOf-last : (d : ℤ) (ds : List ℤ) → IsOneOf d (ds ++ d ∷ [])
IsOneOf-last d [] = inl refl
IsOneOf-last d (e ∷ ds) = inr (IsOneOf-last d ds)

pub AreFrom-nil : AreFrom (pos 0) (pos 0) []
AreFrom-nil = record { between = tt; least = inl refl; greatest = inl refl }

AreFrom-push : (low high d : ℤ) (ds : List ℤ) → AreFrom low high ds
    → AreFrom (int_min low d) (int_max high d) (ds ++ d ∷ [])
AreFrom-push low high d ds h = record {
  between =
      AllByRecursion-append (λ (e : ℤ). (int_min low d ≤ℤ e) × (e ≤ℤ int_max high d)) ds (d ∷ [])
      (AllByRecursion-weaken _ _ wider ds h.between) ((omega (arith, ints, clamps), omega (arith, ints, clamps)), tt);
  least =
      cond_cases (int_lt d low) d low (λ e. IsOneOf e (pos 0 ∷ (ds ++ d ∷ []))) (λ _. inr (IsOneOf-last d ds))
      (λ _. IsOneOf-front low (pos 0 ∷ ds) (d ∷ []) h.least);
  greatest =
      cond_cases (int_lt d high) high d (λ e. IsOneOf e (pos 0 ∷ (ds ++ d ∷ [])))
      (λ _. IsOneOf-front high (pos 0 ∷ ds) (d ∷ []) h.greatest) (λ _. inr (IsOneOf-last d ds));
}
  where
    wider : (e : ℤ) → (low ≤ℤ e) × (e ≤ℤ high) → (int_min low d ≤ℤ e) × (e ≤ℤ int_max high d)
    wider e k =
        let above = k.0 in let below = k.1 in (omega (arith, ints, clamps), omega (arith, ints, clamps))

-- one degree more
pub AreFrom-more : (low high d least greatest : ℤ) (ds es : List ℤ) → AreFrom low high ds → least ≡ int_min low d
    → greatest ≡ int_max high d → es ≡ ds ++ d ∷ [] → AreFrom least greatest es
AreFrom-more low high d least greatest ds es h a b e =
    subst (λ (r : ℤ × ℤ × List ℤ). AreFrom r.0 r.1 r.2) (λ i. (sym a i, sym b i, sym e i)) (AreFrom-push low high d ds h)
