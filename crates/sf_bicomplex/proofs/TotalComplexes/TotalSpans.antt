-- The relations of the total complex are those of each column: a relation of a column is one of the total complex, and
-- the columns of a relation are relations.
use Rattle.std.proofs.Common.{◌≡◌, ℕ, zero, suc, ◌+◌, ◌<◌, List, [], ◌∷◌, ◌++◌, length, sym, ap, ◌∙◌, subst, refl, arith, ℤ, pos, inl, inr, append-nil, ◌-ℤ◌}
use Rattle.std.proofs.lemmas.Bool.{cases_eq}
use Rattle.std.proofs.lemmas.List.{length-append}
use Rattle.sf_algebra.specs.Matrices.{Matrix, IsMatrix}
use Rattle.sf_algebra.specs.MatrixOperations.{moved, part_terms}
use Rattle.sf_algebra.specs.Rings.{Ring, IsRing}
use Rattle.sf_algebra.specs.Terms.{Term}
use Rattle.sf_algebra.specs.Vectors.{Place, IsVector}
use Rattle.sf_algebra.proofs.GradedMatrices.MatrixRows.{StandsWithin}
use Rattle.sf_algebra.proofs.GradedMatrices.PartTerms.{IsVector-part_terms}
use Rattle.sf_algebra.proofs.GradedMatrices.Parts.{part_terms-part_terms}
use Rattle.sf_algebra.proofs.GradedMatrices.Ranges.{slice_range-first, slice_range-second}
use Rattle.sf_algebra.proofs.Vectors.HomogeneousVectors.{IsVector-nil}
use Rattle.sf_groebner.specs.Spans.{InSpan}
use Rattle.sf_groebner.proofs.PartsOfBases.PairedVectors.{paired_terms-parts}
use Rattle.sf_groebner.proofs.Spanning.SpanCombinations.{span_submodule, zero-inside}
use Rattle.sf_groebner.proofs.Spanning.Submodules.{IsSubmodule}
use Rattle.sf_blocks.specs.DirectSums.{direct_sum}
use Rattle.sf_blocks.proofs.DirectSums.SummandSpans.{InSpan-direct_sum, InSpan-summands}
use Rattle.sf_blocks.proofs.SideBySide.PairEntries.{moved-moved}
use Rattle.sf_bicomplex.specs.Bicomplexes.{Bicomplex, IsBicomplex}
use Rattle.sf_bicomplex.specs.TotalColumns.{lowest_degrees, place}
use Rattle.sf_bicomplex.proofs.Columns.Splits.{StandsWithin-vector}
use Rattle.sf_bicomplex.proofs.TotalComplexes.TotalModules.{IsTo-lowest, length-lowest, length-lowest_rises, lowest_module, start}

-- both parts of a vector over two free modules together
pub vector-parts : (ring : Ring) (first last : List ℤ) (d : ℤ) (ts : List (Term Place))
    → IsVector ring (first ++ last) (record { degree = d; terms = ts })
    → IsVector ring first (record { degree = d; terms = part_terms 0 (length first) ts })
    × IsVector ring last
    (record { degree = d; terms = part_terms (length first) (length first + length last) ts })
    × (part_terms 0 (length first) ts ++ moved (length first)
    (part_terms (length first) (length first + length last) ts) ≡ ts)
vector-parts ring first last d ts v =
    let n = length first in
    let k = length last in (
      subst (λ es. IsVector ring es (record { degree = d; terms = part_terms 0 n ts }))
          (slice_range-first first last n refl) (IsVector-part_terms ring (first ++ last) 0 n _ v),
      subst (λ es. IsVector ring es (record { degree = d; terms = part_terms n (n + k) ts }))
          (slice_range-second first last n (n + k) refl (omega arith))
          (IsVector-part_terms ring (first ++ last) n (n + k) _ v),
      paired_terms-parts ring.weights n k ts v.canonical.descending
          (subst (λ m. StandsWithin m ts) (length-append first last) (StandsWithin-vector ring (first ++ last) _ v)),
    )

module _ (a b : Matrix) (is_ring : IsRing a.ring) (rings : a.ring ≡ b.ring) (ma : IsMatrix a) (mb : IsMatrix b) (d : ℤ)
    (ts : List (Term Place)) where
  -- both parts of a vector in the span of a direct sum are in the spans of its parts
  pub InSpan-parts : IsVector a.ring (a.target ++ b.target) (record { degree = d; terms = ts })
      → InSpan (direct_sum a b) (record { degree = d; terms = ts })
      → InSpan a (record { degree = d; terms = part_terms 0 (length a.target) ts })
      × InSpan b
      (record { degree = d; terms = part_terms (length a.target) (length a.target + length b.target) ts })
  InSpan-parts v h =
      let parts = vector-parts a.ring a.target b.target d ts v in
      InSpan-summands a b is_ring rings ma mb d _ _ parts.0 parts.1
      (subst (λ us. InSpan (direct_sum a b) (record { degree = d; terms = us })) (sym parts.2) h)

pub moved-nothing : (ts : List (Term Place)) → moved 0 ts ≡ ts
moved-nothing [] = refl
moved-nothing (t ∷ ts) =
    let same : 0 + t.at.position ≡ t.at.position = omega arith in
    λ i. record { at = record { position = same i; monomial = t.at.monomial }; coefficient = t.coefficient }
    ∷ moved-nothing ts i

module _ (b : Bicomplex) (h : IsBicomplex b) (n : ℤ) (d : ℤ) where
  pub place_ring : (p : ℕ) → (place b n p).ring ≡ b.ring
  place_ring p = (h.modules p (n -ℤ pos p)).ring_of

  pub here_ring : (p : ℕ) → IsRing (place b n p).ring
  here_ring p = subst (λ q. IsRing q) (sym (place_ring p)) h.is_ring

  module _ (m : ℕ) where
    next_rings : (place b n m).ring ≡ (lowest_module b n m).ring
    next_rings = place_ring m ∙ sym (IsTo-lowest b h n m).ring_of

    next_ring : IsRing (lowest_module b n m).ring
    next_ring = subst (λ q. IsRing q) next_rings (here_ring m)

    pub here_zero : InSpan (place b n m) (record { degree = d; terms = [] })
    here_zero =
        zero-inside (place b n m).ring (here_ring m) (place b n m).target (InSpan (place b n m))
        (span_submodule (place b n m) (here_ring m) (h.modules m (n -ℤ pos m)).matrix) d

    rest_module : IsSubmodule (lowest_module b n m).ring (lowest_module b n m).target (InSpan (lowest_module b n m))
    rest_module = span_submodule (lowest_module b n m) next_ring (IsTo-lowest b h n m).matrix

    pub put-summands : (us vs : List (Term Place))
        → IsVector b.ring (place b n m).target (record { degree = d; terms = us })
        → InSpan (place b n m) (record { degree = d; terms = us })
        → InSpan (lowest_module b n m) (record { degree = d; terms = vs })
        → InSpan (lowest_module b n (suc m)) (record { degree = d; terms = us ++ moved (length (place b n m).target) vs })
    put-summands us vs v first second =
        InSpan-direct_sum (place b n m) (lowest_module b n m) (here_ring m) next_rings
        (h.modules m (n -ℤ pos m)).matrix (IsTo-lowest b h n m).matrix d us vs
        (subst (λ q. IsVector q (place b n m).target (record { degree = d; terms = us })) (sym (place_ring m)) v)
        (subst (λ q. IsVector q (lowest_module b n m).target (record { degree = d; terms = vs })) (sym next_rings)
        (rest_module.module_like.vectors (record { degree = d; terms = vs }) second)) first second

    put-top : (ts : List (Term Place)) → IsVector b.ring (place b n m).target (record { degree = d; terms = ts })
        → InSpan (place b n m) (record { degree = d; terms = ts })
        → InSpan (lowest_module b n (suc m)) (record { degree = d; terms = moved (start b n (suc m) (suc m)) ts })
    put-top ts v k =
        let none : start b n (suc m) (suc m) ≡ 0 = omega arith in
        subst (λ us. InSpan (lowest_module b n (suc m)) (record { degree = d; terms = us }))
        (append-nil ts ∙ sym (moved-nothing ts) ∙ ap (λ k. moved k ts) (sym none))
        (put-summands ts [] v k
        (zero-inside (lowest_module b n m).ring next_ring (lowest_module b n m).target (InSpan (lowest_module b n m))
        rest_module d))

    put-lower : (p : ℕ) → p < m → (ts : List (Term Place))
        → InSpan (lowest_module b n m) (record { degree = d; terms = moved (start b n m (suc p)) ts })
        → InSpan (lowest_module b n (suc m)) (record { degree = d; terms = moved (start b n (suc m) (suc p)) ts })
    put-lower p before ts k =
        let size = length (place b n m).target in
        let total = length-lowest b n m in
        let below = length-lowest_rises b n (suc p) m (omega arith) in
        let further : size + start b n m (suc p) ≡ start b n (suc m) (suc p) = omega arith in
        subst (λ us. InSpan (lowest_module b n (suc m)) (record { degree = d; terms = us }))
        (moved-moved size (start b n m (suc p)) ts ∙ ap (λ k. moved k ts) further)
        (put-summands [] (moved (start b n m (suc p)) ts)
        (IsVector-nil b.ring (place b n m).target d) here_zero k)

  pub relations-put : (m p : ℕ) → p < m → (ts : List (Term Place))
      → IsVector b.ring (place b n p).target (record { degree = d; terms = ts })
      → InSpan (place b n p) (record { degree = d; terms = ts })
      → InSpan (lowest_module b n m) (record { degree = d; terms = moved (start b n m (suc p)) ts })
  relations-put zero p before ts v k = absurd (omega arith)
  relations-put (suc m) p before ts v k = elim (cases_eq p m) [
    | inl top ↦ subst
        (λ q. IsVector b.ring (place b n q).target (record { degree = d; terms = ts })
        → InSpan (place b n q) (record { degree = d; terms = ts })
        → InSpan (lowest_module b n (suc m)) (record { degree = d; terms = moved (start b n (suc m) (suc q)) ts }))
        (sym top) (put-top m ts) v k
    | inr lower ↦ put-lower m p (omega arith) ts (relations-put m p (omega arith) ts v k)
  ]

  pub relations-taken : (m p : ℕ) → p < m → (ts : List (Term Place))
      → IsVector b.ring (lowest_degrees b n m) (record { degree = d; terms = ts })
      → InSpan (lowest_module b n m) (record { degree = d; terms = ts })
      → InSpan (place b n p) (record { degree = d; terms = part_terms (start b n m (suc p)) (start b n m p) ts })
  relations-taken zero p before ts v k = absurd (omega arith)
  relations-taken (suc m) p before ts v k =
      let here = place b n m in
      let rest = lowest_module b n m in
      let size = length here.target in
      let more = length rest.target in
      let matrices = (h.modules m (n -ℤ pos m)).matrix in
      let others = IsTo-lowest b h n m in
      let v' = subst (λ q. IsVector q (here.target ++ rest.target) (record { degree = d; terms = ts })) (sym (place_ring m)) v in
      let parts = InSpan-parts here rest (here_ring m) (next_rings m) matrices others.matrix d ts v' k in
      let total = length-lowest b n m in
      elim (cases_eq p m) [
        | inl top ↦
            let first : start b n (suc m) (suc m) ≡ 0 = omega arith in
            let last : start b n (suc m) m ≡ size = omega arith in
            subst
            (λ q. InSpan (place b n q)
            (record { degree = d; terms = part_terms (start b n (suc m) (suc q)) (start b n (suc m) q) ts })) (sym top)
            (subst (λ us. InSpan here (record { degree = d; terms = us }))
            (λ i. part_terms (sym first i) (sym last i) ts) parts.0)
        | inr lower ↦
            let inside : p < m = omega arith in
            let below = length-lowest_rises b n (suc p) m inside in
            let also_below = length-lowest_rises b n p m (omega arith) in
            let first : size + start b n m (suc p) ≡ start b n (suc m) (suc p) = omega arith in
            let last : size + start b n m p ≡ start b n (suc m) p = omega arith in
            let vector =
            subst (λ es. IsVector b.ring es (record { degree = d; terms = part_terms size (size + more) ts }))
            (slice_range-second here.target rest.target size (size + more) refl (omega arith))
            (IsVector-part_terms b.ring (here.target ++ rest.target) size (size + more) _ v) in
            subst (λ us. InSpan (place b n p) (record { degree = d; terms = us }))
            (part_terms-part_terms b.ring size (size + more) (start b n m (suc p)) (start b n m p) ts (omega arith) v.canonical
            ∙ (λ i. part_terms (first i) (last i) ts))
            (relations-taken m p inside (part_terms size (size + more) ts) vector parts.1)
      ]
