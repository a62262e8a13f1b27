-- The terms of a vector at a range of positions.
use Rattle.std.proofs.Common.{◌≡◌, refl, ℕ, ◌+◌, ◌-◌, ◌<◌, ◌≤◌, ◌⊎◌, true, false, ◌&&◌, cond, List, [], ◌∷◌, ◌++◌, map, filter, length, ℤ, pos, ◌+ℤ◌, slice_range, drop, sym, ap, ◌∙◌, subst, inl, inr, arith, length-take, length-drop}
use Rattle.std.proofs.Math.Nat.{sub-zero}
use Rattle.std.specs.declared.cmp.Ordering.TheVariants.{Less}
use Rattle.std.specs.List.{AllByRecursion}
use Rattle.std.specs.Ordering.{nat_cmp, ordering_then}
use Rattle.std.specs.Prelude.{nat_le, nat_lt}
use Rattle.std.proofs.lemmas.Bool.{cases_eq, cases_lt}
use Rattle.std.proofs.lemmas.Bool.Decides.{nat_tests}
use Rattle.std.proofs.lemmas.List.{get_or-take, get_or-drop, map-append}
use Rattle.std.proofs.lemmas.List.Elements.{filter-append}
use Rattle.sf_algebra.specs.MatrixOperations.{part_terms}
use Rattle.sf_algebra.specs.Monomials.{monomial_cmp, monomial_degree}
use Rattle.sf_algebra.specs.Rings.{Ring, Weights}
use Rattle.sf_algebra.specs.Terms.{Term, IsDescending, IsNonzeroResidue}
use Rattle.sf_algebra.specs.Vectors.{Place, Vector, place_cmp, entry, generator_degree, IsTermOfDegree, IsVector, IsCanonicalRow}
use Rattle.sf_algebra.proofs.GradedMatrices.Columns.{AllByRecursion-always}
use Rattle.sf_algebra.proofs.GradedMatrices.MatrixRows.{StandsWithin}
use Rattle.sf_algebra.proofs.Vectors.Entries.{without_position, entry-here, entry-elsewhere}

-- a term that stands so many positions earlier
abbrev pub moved_back : ℕ → Term Place → Term Place
moved_back by t = record {
  at = record { position = t.at.position - by; monomial = t.at.monomial };
  coefficient = t.coefficient;
}

-- the position is in the range from `from` to before `to`
abbrev pub IsBetween : ℕ → ℕ → ℕ → Type 0
IsBetween from to i = (from ≤ i) × (i < to)

pub cases_between : (from to i : ℕ) → (IsBetween from to i) ⊎ ((i < from) ⊎ (to ≤ i))
cases_between from to i = elim (cases_lt i from) [
  | inl before ↦ inr (inl before)
  | inr reached ↦ elim (cases_lt i to) [
    | inl within ↦ inl (reached, within)
    | inr past ↦ inr (inr past)
  ]
]

-- the terms at the positions in the range
abbrev between : ℕ → ℕ → List (Term Place) → List (Term Place)
between from to = filter (λ (t : Term Place). nat_le from t.at.position && nat_lt t.at.position to)

module _ (from to : ℕ) (t : Term Place) (ts : List (Term Place)) where
  pub part_terms-inside : from ≤ t.at.position → t.at.position < to
      → part_terms from to (t ∷ ts) ≡ moved_back from t ∷ part_terms from to ts
  part_terms-inside reached within =
      let yes : (nat_le from t.at.position && nat_lt t.at.position to) ≡ true = grind (arith, nat_tests) in
      ap (λ b. map (moved_back from) (cond b (t ∷ between from to ts) (between from to ts))) yes

  pub part_terms-outside : (t.at.position < from) ⊎ (to ≤ t.at.position)
      → part_terms from to (t ∷ ts) ≡ part_terms from to ts
  part_terms-outside outside =
      let no : (nat_le from t.at.position && nat_lt t.at.position to) ≡ false =
      elim outside [ inl before ↦ grind (arith, nat_tests) | inr past ↦ grind (arith, nat_tests) ] in
      ap (λ b. map (moved_back from) (cond b (t ∷ between from to ts) (between from to ts))) no

pub part_terms-append : (from to : ℕ) (ts us : List (Term Place))
    → part_terms from to (ts ++ us) ≡ part_terms from to ts ++ part_terms from to us
part_terms-append from to ts us =
    ap (map (moved_back from))
    (filter-append (λ (t : Term Place). nat_le from t.at.position && nat_lt t.at.position to) ts us)
    ∙ map-append (moved_back from) (between from to ts) (between from to us)

-- what follows for each term in the range, once moved
pub AllByRecursion-part_terms : (P Q : Term Place → Type 0) (from to : ℕ)
    → ((t : Term Place) → from ≤ t.at.position → t.at.position < to → P t → Q (moved_back from t))
    → (ts : List (Term Place)) → AllByRecursion P ts → AllByRecursion Q (part_terms from to ts)
AllByRecursion-part_terms P Q from to f [] h = tt
AllByRecursion-part_terms P Q from to f (t ∷ ts) h =
    let others = AllByRecursion-part_terms P Q from to f ts h.1 in
    elim (cases_between from to t.at.position) [
      | inl inside ↦ subst (AllByRecursion Q) (sym (part_terms-inside from to t ts inside.0 inside.1))
          (f t inside.0 inside.1 h.0, others)
      | inr outside ↦ subst (AllByRecursion Q) (sym (part_terms-outside from to t ts outside)) others
    ]

-- the entry so many positions further on
pub entry-part_terms : (from to j : ℕ) (ts : List (Term Place)) → from + j < to
    → entry j (part_terms from to ts) ≡ entry (from + j) ts
entry-part_terms from to j [] h = refl
entry-part_terms from to j (t ∷ ts) h =
    let others = entry-part_terms from to j ts h in
    elim (cases_between from to t.at.position) [
      | inl inside ↦
          let reached : from ≤ t.at.position = inside.0 in
          ap (entry j) (part_terms-inside from to t ts inside.0 inside.1)
          ∙ elim (cases_eq t.at.position (from + j)) [
            | inl here ↦
                entry-here j (moved_back from t) (part_terms from to ts) (omega arith)
                ∙ ap (λ es. without_position t ∷ es) others
                ∙ sym (entry-here (from + j) t ts here)
            | inr elsewhere ↦
                entry-elsewhere j (moved_back from t) (part_terms from to ts) (λ e. elsewhere (omega arith))
                ∙ others
                ∙ sym (entry-elsewhere (from + j) t ts elsewhere)
          ]
      | inr outside ↦
          ap (entry j) (part_terms-outside from to t ts outside)
          ∙ others
          ∙ sym (entry-elsewhere (from + j) t ts (λ e. elim outside [ inl before ↦ omega arith | inr past ↦ omega arith ]))
    ]

-- past the range there is nothing
pub IsWithin-part_terms : (from to : ℕ) (ts : List (Term Place)) → StandsWithin (to - from) (part_terms from to ts)
IsWithin-part_terms from to ts =
    AllByRecursion-part_terms (λ _. Unit {0}) _ from to (λ t reached within h. omega arith) ts
    (AllByRecursion-always _ (λ t. tt) ts)

-- a vector all of whose terms stand in the range
pub part_terms-whole : (n : ℕ) (ts : List (Term Place)) → StandsWithin n ts → part_terms 0 n ts ≡ ts
part_terms-whole n [] h = refl
part_terms-whole n (t ∷ ts) h =
    part_terms-inside 0 n t ts (omega arith) h.0
    ∙ (λ i. record { at = record { position = sub-zero t.at.position i; monomial = t.at.monomial }; coefficient = t.coefficient } ∷ part_terms-whole n ts h.1 i)

nat_cmp-sub : (k m n : ℕ) → k ≤ m → k ≤ n → nat_cmp (m - k) (n - k) ≡ nat_cmp m n
nat_cmp-sub k m n first second = grind (arith, nat_tests)

pub IsDescending-part_terms : (weights : Weights) (from to : ℕ) (ts : List (Term Place))
    → IsDescending (place_cmp weights) ts → IsDescending (place_cmp weights) (part_terms from to ts)
IsDescending-part_terms weights from to [] h = tt
IsDescending-part_terms weights from to (t ∷ ts) h =
    let others = IsDescending-part_terms weights from to ts h.1 in
    elim (cases_between from to t.at.position) [
      | inl inside ↦ subst (IsDescending (place_cmp weights)) (sym (part_terms-inside from to t ts inside.0 inside.1)) (
        AllByRecursion-part_terms (λ u. place_cmp weights u.at t.at ≡ Less)
            (λ u. place_cmp weights u.at (moved_back from t).at ≡ Less) from to
            (λ u reached within less. ap (λ o. ordering_then o (monomial_cmp weights u.at.monomial t.at.monomial)) (nat_cmp-sub from t.at.position u.at.position inside.0 reached) ∙ less)
            ts h.0,
        others,
      )
      | inr outside ↦ subst (IsDescending (place_cmp weights)) (sym (part_terms-outside from to t ts outside)) others
    ]

pub IsCanonical-part_terms : (ring : Ring) (from to : ℕ) (ts : List (Term Place)) → IsCanonicalRow ring ts
    → IsCanonicalRow ring (part_terms from to ts)
IsCanonical-part_terms ring from to ts h = record {
  descending = IsDescending-part_terms ring.weights from to ts h.descending;
  residues =
      AllByRecursion-part_terms (IsNonzeroResidue ring.modulus) (IsNonzeroResidue ring.modulus) from to
      (λ t reached within k. k) ts h.residues;
}

-- the degrees of the generators in the range
pub generator_degree-slice_range : (degrees : List ℤ) (from to i : ℕ) → from ≤ i → i < to
    → generator_degree (slice_range degrees from to) (i - from) ≡ generator_degree degrees i
generator_degree-slice_range degrees from to i reached within =
    get_or-take (to - from) (drop from degrees) (i - from) (pos 0) (omega arith)
    ∙ get_or-drop from degrees (i - from) (pos 0)
    ∙ ap (generator_degree degrees) (let same : from + (i - from) ≡ i = omega arith in same)

-- the terms in the range, over the generators in the range
pub IsVector-part_terms : (ring : Ring) (degrees : List ℤ) (from to : ℕ) (v : Vector) → IsVector ring degrees v
    → IsVector ring (slice_range degrees from to) (record { degree = v.degree; terms = part_terms from to v.terms })
IsVector-part_terms ring degrees from to v h = record {
  canonical = IsCanonical-part_terms ring from to v.terms h.canonical;
  homogeneous =
      AllByRecursion-part_terms (IsTermOfDegree ring.weights degrees v.degree)
      (IsTermOfDegree ring.weights (slice_range degrees from to) v.degree) from to moves v.terms h.homogeneous;
}
  where
    moves : (t : Term Place) → from ≤ t.at.position → t.at.position < to
        → IsTermOfDegree ring.weights degrees v.degree t
        → IsTermOfDegree ring.weights (slice_range degrees from to) v.degree (moved_back from t)
    moves t reached within k =
        let inside : t.at.position < length degrees = k.0 in (
          rw (length-take, length-drop) (omega arith),
          k.1 ∙ ap (λ d. d +ℤ pos (monomial_degree ring.weights t.at.monomial))
              (sym (generator_degree-slice_range degrees from to t.at.position reached within)),
        )
