-- What a plan asks of matrices and of vectors is decided.
use Rattle.std.proofs.Common.{◌≡◌, ◌≢◌, inl, inr, ℕ, zero, suc, ◌%◌, ◌<◌, List, [], ◌∷◌, length, refl, ap, ℤ, arith}
use Rattle.std.proofs.lemmas.Int.{ints, by_lt_z}
use Rattle.std.proofs.lemmas.Bool.{cases_eq, cases_lt}
use Rattle.std.specs.List.{AllByRecursion}
use Rattle.std.specs.declared.cmp.Ordering.{Ordering}
use Rattle.std.specs.declared.cmp.Ordering.TheVariants.{Less, Equal, Greater}
use Rattle.sf_algebra.specs.Matrices.{Matrix, IsMatrix}
use Rattle.sf_algebra.specs.Primes.{IsPrime}
use Rattle.sf_algebra.specs.Rings.{Ring, Weights, IsPositive, IsOverField}
use Rattle.sf_algebra.specs.Terms.{Term, IsDescending, IsNonzeroResidue}
use Rattle.sf_algebra.specs.Vectors.{Place, Vector, IsCanonicalRow, IsHomogeneous, IsTermOfDegree, IsVector, place_cmp, place_degree}
use Rattle.sf_groebner.proofs.Basics.Decisions.{IsDecided, decide_both, decide_each, decide_from, decide_small_size}
use Rattle.sf_matrix.specs.Questions.{Question, IsSensible, kept, rest}
use Rattle.sf_matrix.specs.Runs.{IsRowless, IsFit}

decide_three : (P Q R : Type 0) → IsDecided P → IsDecided Q → IsDecided R → IsDecided (P × Q × R)
decide_three P Q R p q r =
    decide_from (P × (Q × R)) (P × Q × R) (λ h. (h.0, h.1.0, h.1.1)) (λ h. (h.0, (h.1, h.2)))
    (decide_both P (Q × R) p (decide_both Q R q r))

decide_lt : (a b : ℕ) → IsDecided (a < b)
decide_lt a b = elim (cases_lt a b) [ inl less ↦ inl less | inr le ↦ inr (λ less. omega arith) ]

decide_same_degree : (d e : ℤ) → IsDecided (d ≡ e)
decide_same_degree d e =
    by_lt_z d e (λ less. inr (λ same. omega (arith, ints)))
    (λ le. by_lt_z e d (λ less. inr (λ same. omega (arith, ints))) (λ ge. inl (omega (arith, ints))))

-- no number from 2 on and below n divides p
abbrev IsUndivided : ℕ → ℕ → Type 0
IsUndivided p n = (d : ℕ) → 1 < d → d < n → p % d ≢ 0

decide_undivided : (p n : ℕ) → IsDecided (IsUndivided p n)
decide_undivided p zero = inl (λ d above below divides. omega arith)
decide_undivided p (suc n) = elim (decide_undivided p n) [
  | inr fails ↦ inr (λ all. fails (λ d above below. all d above (omega arith)))
  | inl held ↦ elim (cases_lt 1 n) [
    | inr low ↦ inl (λ d above below divides. omega arith)
    | inl above_one ↦ elim (cases_eq (p % n) 0) [
      | inl divides ↦ inr (λ all. all n above_one (omega arith) divides)
      | inr undivided ↦ inl (λ d above below. elim (cases_eq d n) [
        | inl last ↦ rw last undivided
        | inr earlier ↦ held d above (omega arith)
      ])
    ]
  ]
]

decide_prime : (p : ℕ) → IsDecided (IsPrime p)
decide_prime p =
    decide_from _ _ (λ h. record { above_one = h.0; undivided = h.1 }) (λ h. (h.above_one, h.undivided))
    (decide_both (1 < p) (IsUndivided p p) (decide_lt 1 p) (decide_undivided p p))

decide_positive : (w : Weights) → IsDecided (IsPositive w)
decide_positive w =
    decide_from _ _
    (λ h. record { first = h.0.0; second = h.0.1; third = h.0.2; fourth = h.1.0; fifth = h.1.1; sixth = h.1.2 })
    (λ h. ((h.first, h.second, h.third), (h.fourth, h.fifth, h.sixth)))
    (decide_both ((0 < w.w1) × (0 < w.w2) × (0 < w.w3)) ((0 < w.w4) × (0 < w.w5) × (0 < w.w6))
    (decide_three _ _ _ (decide_lt 0 w.w1) (decide_lt 0 w.w2) (decide_lt 0 w.w3))
    (decide_three _ _ _ (decide_lt 0 w.w4) (decide_lt 0 w.w5) (decide_lt 0 w.w6)))

pub decide_field : (ring : Ring) → IsDecided (IsOverField ring)
decide_field ring =
    decide_from _ _ (λ h. record { prime = h.0; weights = h.1 }) (λ h. (h.prime, h.weights))
    (decide_both (IsPrime ring.modulus) (IsPositive ring.weights) (decide_prime ring.modulus) (decide_positive ring.weights))

decide_less : (o : Ordering) → IsDecided (o ≡ Less)
decide_less Less = inl refl
decide_less Equal = inr (λ e. cc)
decide_less Greater = inr (λ e. cc)

decide_descending : (weights : Weights) (ts : List (Term Place)) → IsDecided (IsDescending (place_cmp weights) ts)
decide_descending weights [] = inl tt
decide_descending weights (t ∷ ts) =
    decide_both _ (IsDescending (place_cmp weights) ts)
    (decide_each (λ (u : Term Place). place_cmp weights u.at t.at ≡ Less) (λ u. decide_less (place_cmp weights u.at t.at)) ts)
    (decide_descending weights ts)

module _ (ring : Ring) where
  decide_canonical : (ts : List (Term Place)) → IsDecided (IsCanonicalRow ring ts)
  decide_canonical ts =
      decide_from _ _ (λ h. record { descending = h.0; residues = h.1 }) (λ h. (h.descending, h.residues))
      (decide_both (IsDescending (place_cmp ring.weights) ts) (AllByRecursion (IsNonzeroResidue ring.modulus) ts)
      (decide_descending ring.weights ts)
      (decide_each (IsNonzeroResidue ring.modulus) residue ts))
    where
      residue : (t : Term Place) → IsDecided (IsNonzeroResidue ring.modulus t)
      residue t = decide_both _ _ (decide_lt 0 t.coefficient) (decide_lt t.coefficient ring.modulus)

  decide_term : (degrees : List ℤ) (d : ℤ) (t : Term Place) → IsDecided (IsTermOfDegree ring.weights degrees d t)
  decide_term degrees d t =
      decide_both _ _ (decide_lt t.at.position (length degrees))
      (decide_same_degree d (place_degree ring.weights degrees t.at))

  decide_vector : (degrees : List ℤ) (v : Vector) → IsDecided (IsVector ring degrees v)
  decide_vector degrees v =
      decide_from _ _ (λ h. record { canonical = h.0; homogeneous = h.1 }) (λ h. (h.canonical, h.homogeneous))
      (decide_both (IsCanonicalRow ring v.terms) (IsHomogeneous ring.weights degrees v.degree v.terms)
      (decide_canonical v.terms)
      (decide_each (IsTermOfDegree ring.weights degrees v.degree) (decide_term degrees v.degree) v.terms))

decide_matrix : (m : Matrix) → IsDecided (IsMatrix m)
decide_matrix m = decide_each (IsVector m.ring m.target) (decide_vector m.ring m.target) m.rows

decide_none : (vs : List Vector) → IsDecided (vs ≡ [])
decide_none [] = inl refl
decide_none (v ∷ vs) = inr (λ e. absurd (omega (arith, ap length e)))

pub decide_rowless : (m : Matrix) → IsDecided (IsRowless m)
decide_rowless m =
    decide_from _ _ (λ h. record { field = h.0; none = h.1 }) (λ h. (h.field, h.none))
    (decide_both _ _ (decide_field m.ring) (decide_none m.rows))

pub decide_fit : (m : Matrix) → IsDecided (IsFit m)
decide_fit m =
    decide_from _ _ (λ h. record { row = h.0.0; field = h.0.1; matrix = h.1.0; size = h.1.1 })
    (λ h. ((h.row, h.field), (h.matrix, h.size)))
    (decide_both ((0 < length m.rows) × IsOverField m.ring) _
    (decide_both _ _ (decide_lt 0 (length m.rows)) (decide_field m.ring))
    (decide_both _ _ (decide_matrix m) (decide_small_size m)))

pub decide_sensible : (q : Question) → IsDecided (IsSensible q)
decide_sensible (kept base vs) =
    decide_three (IsOverField base.ring) (IsMatrix base) (AllByRecursion (IsVector base.ring base.target) vs) (decide_field base.ring)
    (decide_matrix base) (decide_each (IsVector base.ring base.target) (decide_vector base.ring base.target) vs)
decide_sensible (rest m v) =
    decide_three (IsOverField m.ring) (IsMatrix m) (IsVector m.ring m.target v) (decide_field m.ring) (decide_matrix m)
    (decide_vector m.ring m.target v)
