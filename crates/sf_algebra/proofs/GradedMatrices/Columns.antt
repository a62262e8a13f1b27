-- The columns of a matrix: what stands in each, and that it is a homogeneous vector.
use Rattle.std.proofs.Common.{◌≡◌, refl, ℕ, zero, suc, ◌+◌, ◌<◌, ◌≤◌, List, [], ◌∷◌, ◌++◌, map, length, ℤ, pos, ◌+ℤ◌, neg_ℤ, sym, ap, ◌∙◌, subst, arith, append_assoc, append-nil}
use Rattle.std.specs.declared.cmp.Ordering.{Ordering}
use Rattle.std.specs.declared.cmp.Ordering.TheVariants.{Less}
use Rattle.std.specs.List.{AllByRecursion}
use Rattle.std.proofs.lemmas.Int.{ints}
use Rattle.std.proofs.lemmas.List.{get_or_at}
use Rattle.std.proofs.Math.ListN.{length-append}
use Rattle.sf_algebra.specs.MatrixOperations.{row_at, at_position, column_terms}
use Rattle.sf_algebra.specs.Monomials.{Monomial, monomial_degree}
use Rattle.sf_algebra.specs.Rings.{Ring, Weights}
use Rattle.sf_algebra.specs.Terms.{Term, IsDescending, IsNonzeroResidue}
use Rattle.sf_algebra.specs.Vectors.{Vector, place_cmp, entry, generator_degree, IsTermOfDegree, IsHomogeneous, IsVector}
use Rattle.sf_algebra.proofs.Basics.Lists.{AllByRecursion-append, AllByRecursion-weaken}
use Rattle.sf_algebra.proofs.Vectors.Entries.{entry-past}
use Rattle.sf_algebra.proofs.Vectors.Positions.{with_position, entry-append, entry-at_position, entry-at_position_other, AllByRecursion-entry, AllByRecursion-at_position, IsDescending-entry, IsDescending-at_position, place_cmp-later}

pub IsDescending-append : {K : Type 0} (cmp : K → K → Ordering) (ts us : List (Term K)) → IsDescending cmp ts
    → IsDescending cmp us
    → AllByRecursion (λ t. AllByRecursion (λ u. cmp u.at t.at ≡ Less) us) ts → IsDescending cmp (ts ++ us)
IsDescending-append cmp [] us h k less = k
IsDescending-append cmp (t ∷ ts) us h k less =
    (AllByRecursion-append _ ts us h.0 less.0, IsDescending-append cmp ts us h.1 k less.1)

-- a fact of each term of a polynomial that holds of every term
pub AllByRecursion-always : {X : Type 0} (P : X → Type 0) → ((x : X) → P x) → (xs : List X) → AllByRecursion P xs
AllByRecursion-always P h [] = tt
AllByRecursion-always P h (x ∷ xs) = (h x, AllByRecursion-always P h xs)

module _ (j : ℕ) where
  pub column_terms-append : (i : ℕ) (us vs : List Vector) (n : ℕ) → n ≡ i + length us
      → column_terms j i (us ++ vs) ≡ column_terms j i us ++ column_terms j n vs
  column_terms-append i [] vs n e = ap (λ m. column_terms j m vs) (let same : i ≡ n = omega arith in same)
  column_terms-append i (u ∷ us) vs n e =
      ap (λ l. at_position i (entry j u.terms) ++ l) (column_terms-append (suc i) us vs n (omega arith))
      ∙ sym (append_assoc (at_position i (entry j u.terms)) (column_terms j (suc i) us) (column_terms j n vs))

  -- with one more row
  pub column_terms-push : (i : ℕ) (vs : List Vector) (w : Vector) (n : ℕ) → n ≡ i + length vs
      → column_terms j i (vs ++ w ∷ []) ≡ column_terms j i vs ++ at_position n (entry j w.terms)
  column_terms-push i vs w n e =
      column_terms-append i vs (w ∷ []) n e
      ∙ ap (λ l. column_terms j i vs ++ l) (append-nil (at_position n (entry j w.terms)))

  pub positions-column_terms : (i : ℕ) (vs : List Vector)
      → AllByRecursion (λ t. i ≤ t.at.position) (column_terms j i vs)
  positions-column_terms i [] = tt
  positions-column_terms i (v ∷ vs) =
      AllByRecursion-append _ (at_position i (entry j v.terms)) (column_terms j (suc i) vs)
      (AllByRecursion-at_position _ i (entry j v.terms) (AllByRecursion-always _ (λ e. omega arith) (entry j v.terms)))
      (AllByRecursion-weaken _ _ (λ t h. omega arith) (column_terms j (suc i) vs) (positions-column_terms (suc i) vs))

  -- the entries of a column are the rows' entries in it
  pub entry-column_terms : (i : ℕ) (vs : List Vector) (k n : ℕ) → n ≡ i + k
      → entry n (column_terms j i vs) ≡ entry j (row_at vs k)
  entry-column_terms i [] k n e = refl
  entry-column_terms i (v ∷ vs) zero n e =
      entry-append n (at_position i (entry j v.terms)) (column_terms j (suc i) vs)
      ∙ (λ k. entry-at_position i n (entry j v.terms) (omega arith) k
      ++ entry-past n (column_terms j (suc i) vs)
      (AllByRecursion-weaken _ _ (λ t h. omega arith) (column_terms j (suc i) vs) (positions-column_terms (suc i) vs)) k)
      ∙ append-nil (entry j v.terms)
  entry-column_terms i (v ∷ vs) (suc k) n e =
      entry-append n (at_position i (entry j v.terms)) (column_terms j (suc i) vs)
      ∙ (λ l. entry-at_position_other i n (entry j v.terms) (λ same. omega arith) l ++ entry-column_terms (suc i) vs k n (omega arith) l)

  pub IsDescending-column_terms : (weights : Weights) (i : ℕ) (vs : List Vector)
      → AllByRecursion (λ v. IsDescending (place_cmp weights) v.terms) vs
      → IsDescending (place_cmp weights) (column_terms j i vs)
  IsDescending-column_terms weights i [] h = tt
  IsDescending-column_terms weights i (v ∷ vs) h =
      IsDescending-append (place_cmp weights) (at_position i (entry j v.terms)) (column_terms j (suc i) vs)
      (IsDescending-at_position weights i (entry j v.terms) (IsDescending-entry weights j v.terms h.0))
      (IsDescending-column_terms weights (suc i) vs h.1)
      (AllByRecursion-at_position _ i (entry j v.terms)
      (AllByRecursion-always _ (λ e. AllByRecursion-weaken _ _ (λ t later. place_cmp-later weights t.at (with_position i e).at (omega arith)) (column_terms j (suc i) vs) (positions-column_terms (suc i) vs)) (entry j v.terms)))

  pub residues-column_terms : (p i : ℕ) (vs : List Vector)
      → AllByRecursion (λ v. AllByRecursion (IsNonzeroResidue p) v.terms) vs
      → AllByRecursion (IsNonzeroResidue p) (column_terms j i vs)
  residues-column_terms p i [] h = tt
  residues-column_terms p i (v ∷ vs) h =
      AllByRecursion-append _ (at_position i (entry j v.terms)) (column_terms j (suc i) vs)
      (AllByRecursion-at_position _ i (entry j v.terms) (AllByRecursion-entry _ j v.terms h.0))
      (residues-column_terms p (suc i) vs h.1)

  -- a column of rows over the degrees is homogeneous over the negatives of the rows' degrees
  IsHomogeneous-column_terms : (ring : Ring) (degrees : List ℤ) (d : ℤ) → generator_degree degrees j ≡ d
      → (front : List ℤ) (i : ℕ) (vs : List Vector) → i ≡ length front → AllByRecursion (IsVector ring degrees) vs
      → IsHomogeneous ring.weights (front ++ map neg_ℤ (map (λ (v : Vector). v.degree) vs)) (neg_ℤ d)
      (column_terms j i vs)
  IsHomogeneous-column_terms ring degrees d here front i [] e h = tt
  IsHomogeneous-column_terms ring degrees d here front i (v ∷ vs) e h =
      let rest = map neg_ℤ (map (λ (w : Vector). w.degree) vs) in
      let all = front ++ neg_ℤ v.degree ∷ rest in
      let inside : i < length all = rw length-append (omega arith) in
      let size : suc i ≡ length (front ++ neg_ℤ v.degree ∷ []) = rw length-append (omega arith) in
      let found : generator_degree all i ≡ neg_ℤ v.degree = get_or_at front (neg_ℤ v.degree) rest (pos 0) i (sym e) in
      AllByRecursion-append _ (at_position i (entry j v.terms)) (column_terms j (suc i) vs)
      (AllByRecursion-at_position (IsTermOfDegree ring.weights all (neg_ℤ d)) i (entry j v.terms)
      (AllByRecursion-weaken _ _
      (λ t k. (inside, degree t v.degree all i found (k.1 ∙ ap (λ c. c +ℤ pos (monomial_degree ring.weights t.at)) here)))
      (entry j v.terms)
      (AllByRecursion-entry (IsTermOfDegree ring.weights degrees v.degree) j v.terms h.0.homogeneous)))
      (subst (λ es. IsHomogeneous ring.weights es (neg_ℤ d) (column_terms j (suc i) vs)) (append_assoc front (neg_ℤ v.degree ∷ []) rest)
      (IsHomogeneous-column_terms ring degrees d here (front ++ neg_ℤ v.degree ∷ []) (suc i) vs size h.1))
    where
      sums : (d e : ℤ) (n : ℕ) → e ≡ d +ℤ pos n → neg_ℤ d ≡ neg_ℤ e +ℤ pos n
      sums d e n same = omega (arith, ints)

      degree : (t : Term Monomial) (e : ℤ) (all : List ℤ) (i : ℕ) → generator_degree all i ≡ neg_ℤ e
          → e ≡ d +ℤ pos (monomial_degree ring.weights t.at)
          → neg_ℤ d ≡ generator_degree all i +ℤ pos (monomial_degree ring.weights t.at)
      degree t e all i found same = rw found (sums d e (monomial_degree ring.weights t.at) same)

  pub IsVector-column : (ring : Ring) (degrees : List ℤ) (d : ℤ) (vs : List Vector) → generator_degree degrees j ≡ d
      → AllByRecursion (IsVector ring degrees) vs
      → IsVector ring (map neg_ℤ (map (λ (v : Vector). v.degree) vs))
      (record { degree = neg_ℤ d; terms = column_terms j 0 vs })
  IsVector-column ring degrees d vs here h = record {
    canonical = record {
      descending =
          IsDescending-column_terms ring.weights 0 vs (AllByRecursion-weaken _ _ (λ v k. k.canonical.descending) vs h);
      residues = residues-column_terms ring.modulus 0 vs (AllByRecursion-weaken _ _ (λ v k. k.canonical.residues) vs h);
    };
    homogeneous = IsHomogeneous-column_terms ring degrees d here [] 0 vs refl h;
  }
