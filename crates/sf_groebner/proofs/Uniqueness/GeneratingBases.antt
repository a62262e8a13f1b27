-- A reduced basis generates its module; so do minimal generators, modulo the part modulo which they are taken.
use Rattle.std.proofs.Common.{◌≡◌, inl, inr, List, [], ◌∷◌, ◌++◌, refl, sym, ◌∙◌, ap, subst, ℤ, append-nil, append_assoc}
use Rattle.sf_algebra.specs.MatrixOperations.{row_combination}
use Rattle.sf_algebra.specs.Rings.{Ring, IsRing, IsOverField}
use Rattle.sf_algebra.specs.VectorOperations.{row_sum}
use Rattle.sf_algebra.specs.Vectors.{Vector}
use Rattle.sf_algebra.proofs.Monomials.Weights.{field_ring}
use Rattle.sf_algebra.proofs.Vectors.RowSums.{row_sum-nil_first}
use Rattle.sf_algebra.proofs.Vectors.Rows.{IsCanonical-row_combination}
use Rattle.sf_groebner.specs.MinimalGenerators.{IsInSum, matrix_of, AreKept, AreMinimal}
use Rattle.sf_groebner.specs.ReducedBases.{IsMonic, IsReducedBasis}
use Rattle.sf_groebner.proofs.Basics.Items.{AllByRecursion-both}
use Rattle.sf_groebner.proofs.Constructions.Divisions.{Division, divide}
use Rattle.sf_groebner.proofs.Constructions.MonicVectors.{IsMonicVector}
use Rattle.sf_groebner.proofs.Spanning.Generators.{IsCombination}
use Rattle.sf_groebner.proofs.Spanning.SpanCombinations.{InSpan-IsCombination, IsCombination-InSpan, zero-inside, submodule_closed}
use Rattle.sf_groebner.proofs.Spanning.Submodules.{IsSubmodule, rest_inside}
use Rattle.sf_groebner.proofs.Spanning.SumsAndMultiples.{HasSumsAndMultiples}
use Rattle.sf_groebner.proofs.Uniqueness.KeptGenerators.{IsSumAt-to, IsSumAt-from, HasSameSums, left_out, taken_in}
use Rattle.sf_groebner.proofs.Uniqueness.Remainders.{IsReducedBy-none}

module _ (ring : Ring) (prime : IsOverField ring) (target : List ℤ) (N : Vector → Type 0)
    (submodule : IsSubmodule ring target N) where
  -- the rest of a division by the basis is 0
  pub IsCombination-basis : (basis : List Vector) → IsReducedBasis ring.weights N basis → (v : Vector) → N v
      → IsCombination ring basis v
  IsCombination-basis basis h v inside =
      let positive : IsRing ring = field_ring prime in
      let rows = AllByRecursion-both N (λ (w : Vector). IsMonic w.terms) (IsMonicVector ring target) (λ w a b. record { vector = submodule.module_like.vectors w a; monic = b }) basis h.inside h.monic in
      let e : Division ring target basis v =
      divide ring prime target basis rows v (submodule.module_like.vectors v inside) in
      let none : e.rest ≡ [] = IsReducedBy-none basis e.rest e.divided.reduced (h.complete (record { degree = v.degree; terms = e.rest }) (rest_inside ring positive target N submodule basis h.inside v.degree v.terms e.rest e.quotients inside e.divided)) in
      record {
        coefficients = e.quotients;
        homogeneous = e.divided.homogeneous;
        value =
            sym (row_sum-nil_first ring positive.modulus (row_combination ring basis e.quotients) (IsCanonical-row_combination ring positive.modulus basis e.quotients))
            ∙ ap (λ ts. row_sum ring ts (row_combination ring basis e.quotients)) (sym none)
            ∙ e.divided.sum;
      }

module _ (ring : Ring) (positive : IsRing ring) (target : List ℤ) (B : Vector → Type 0)
    (closed : HasSumsAndMultiples ring B) where
  -- the kept vectors have with B the sums of all
  HasSameSums-kept : (earlier before vs kept : List Vector) → HasSameSums ring target B positive closed earlier before
      → AreKept ring B earlier vs kept
      → HasSameSums ring target B positive closed (earlier ++ vs) (before ++ kept)
  HasSameSums-kept earlier before [] kept h k =
      subst (λ ws. HasSameSums ring target B positive closed ws (before ++ kept)) (sym (append-nil earlier))
      (subst (HasSameSums ring target B positive closed earlier) (sym (ap (λ ws. before ++ ws) k ∙ append-nil before)) h)
  HasSameSums-kept earlier before (v ∷ vs) kept h (inl k) =
      subst (λ ws. HasSameSums ring target B positive closed ws (before ++ kept)) (append_assoc earlier (v ∷ []) vs)
      (HasSameSums-kept (earlier ++ v ∷ []) before vs kept
      (left_out ring target B positive closed earlier before v h k.0) k.1)
  HasSameSums-kept earlier before (v ∷ vs) kept h (inr k) =
      subst (λ ws. HasSameSums ring target B positive closed ws (before ++ kept)) (append_assoc earlier (v ∷ []) vs)
      (subst (HasSameSums ring target B positive closed ((earlier ++ v ∷ []) ++ vs)) (append_assoc before (v ∷ []) k.1.0 ∙ ap (λ ws. before ++ ws) (sym k.1.1))
      (HasSameSums-kept (earlier ++ v ∷ []) (before ++ v ∷ []) vs k.1.0 (taken_in ring target B positive closed earlier before v h) k.1.2))

  pub AreKept-sums : (vs kept : List Vector) → AreKept ring B [] vs kept
      → HasSameSums ring target B positive closed vs kept
  AreKept-sums vs kept h = HasSameSums-kept [] [] vs kept (record { to = λ d ts k. k; from = λ d ts k. k }) h

module _ (ring : Ring) (prime : IsOverField ring) (target : List ℤ) (N B : Vector → Type 0)
    (submodule : IsSubmodule ring target N) (part : IsSubmodule ring target B) (generators : List Vector)
    (minimal : AreMinimal ring N B generators) where
  -- each vector of N is the sum of one of B and a combination of the generators
  pub AreMinimal-generate : (v : Vector) → N v → IsInSum ring generators B v
  AreMinimal-generate v h =
      let positive : IsRing ring = field_ring prime in
      let closed = submodule_closed ring positive target B part in
      let c = InSpan-IsCombination (matrix_of ring target minimal.basis) positive v (IsCombination-basis ring prime target N submodule minimal.basis minimal.reduced v h) in
      let whole : IsInSum ring minimal.basis B v = record {
        first = record { degree = v.degree; terms = [] };
        second = v;
        in_module = zero-inside ring positive target B part v.degree;
        in_span = c;
        first_degree = refl;
        second_degree = refl;
        sum = row_sum-nil_first ring positive.modulus v.terms (submodule.module_like.vectors v h).canonical;
      } in
      IsSumAt-to ring target B generators v
      ((AreKept-sums ring positive target B closed minimal.basis generators minimal.kept).to v.degree v.terms (IsSumAt-from ring target B minimal.basis v whole))

  -- and only these are, where B is in N
  pub AreMinimal-inside : ((v : Vector) → B v → N v) → (v : Vector) → IsInSum ring generators B v → N v
  AreMinimal-inside within v h =
      let positive : IsRing ring = field_ring prime in
      let closed = submodule_closed ring positive target B part in
      let whole = IsSumAt-to ring target B minimal.basis v ((AreKept-sums ring positive target B closed minimal.basis generators minimal.kept).from v.degree v.terms (IsSumAt-from ring target B generators v h)) in
      let e = IsCombination-InSpan (matrix_of ring target minimal.basis) positive whole.second whole.in_span in
      let second : N whole.second = subst (λ ts. N (record { degree = whole.second.degree; terms = ts })) e.value
      (submodule.combinations minimal.basis minimal.reduced.inside whole.second.degree e.coefficients e.homogeneous) in
      subst (λ ts. N (record { degree = v.degree; terms = ts })) whole.sum
      ((submodule_closed ring positive target N submodule).sums v.degree whole.first.terms whole.second.terms
      (subst (λ d. N (record { degree = d; terms = whole.first.terms })) whole.first_degree (within whole.first whole.in_module))
      (subst (λ d. N (record { degree = d; terms = whole.second.terms })) whole.second_degree second))
