-- The terms of a combination, gathered one row after another.
use Rattle.std.proofs.Common.{◌≡◌, ℕ, ◌+◌, ◌<◌, ◌≤◌, zero, suc, List, [], ◌∷◌, ◌++◌, Some, map, length, take, get_or, refl, sym, subst, ap, ◌∙◌, append-nil}
use Rattle.std.specs.declared.cmp.Ordering.{Ordering}
use Rattle.std.specs.List.{slice_get, flat_map, AllByRecursion}
use Rattle.std.proofs.lemmas.List.{take_all}
use Rattle.std.proofs.lemmas.Option.{slice_get_read}
use Rattle.std.proofs.lemmas.Grind.{flat_map-append}
use Rattle.sf_algebra.specs.MatrixOperations.{row_at}
use Rattle.sf_algebra.specs.Monomials.{Monomial}
use Rattle.sf_algebra.specs.Multiples.{term_product, multiple, combination_terms, combination}
use Rattle.sf_algebra.specs.Sums.{normal}
use Rattle.sf_algebra.specs.Terms.{Term}
use Rattle.sf_algebra.specs.Vectors.{Place, Vector}
use Rattle.sf_algebra.proofs.Basics.Lists.{take-slice_get, AllByRecursion-get}

module _ {C K : Type 0} (act : Monomial → K → K) (p : ℕ) (monomial : C → Monomial) (row : C → List (Term K)) where
  pub combination_terms-nil : combination_terms act p monomial row [] ≡ []
  unfolding combination_terms
  combination_terms-nil = refl

  -- the next term of c brings its multiple
  pub combination_terms-take : (c : List (Term C)) (i : ℕ) (t : Term C) → slice_get c i ≡ Some t
      → combination_terms act p monomial row (take (i + 1) c)
      ≡ combination_terms act p monomial row (take i c) ++ map
      (term_product act p (record { at = monomial t.at; coefficient = t.coefficient })) (row t.at)
  unfolding combination_terms
  combination_terms-take c i t read =
      let multiple =
      λ (s : Term C). map (term_product act p (record { at = monomial s.at; coefficient = s.coefficient }))
      (row s.at) in
      ap (flat_map multiple) (take-slice_get c i t read)
      ∙ flat_map-append multiple (take i c) (t ∷ [])
      ∙ ap (λ ts. flat_map multiple (take i c) ++ ts) (append-nil (multiple t))

-- the row at a position where there is one
pub row_at-slice_get : (rows : List Vector) (i : ℕ) (v : Vector) → slice_get rows i ≡ Some v → row_at rows i ≡ v.terms
row_at-slice_get [] i v read = cc
row_at-slice_get (w ∷ ws) zero v read = let same : w ≡ v = cc in ap (λ u. u.terms) same
row_at-slice_get (w ∷ ws) (suc i) v read = row_at-slice_get ws i v read

-- once all terms are gathered, they mean the combination
pub combination-gathered : {C K : Type 0} (cmp : K → K → Ordering) (act : Monomial → K → K) (p : ℕ)
    (monomial : C → Monomial) (row : C → List (Term K)) (c : List (Term C)) (i : ℕ) (products : List (Term K))
    → length c ≤ i
    → products ≡ combination_terms act p monomial row (take i c)
    → normal cmp p products ≡ combination cmp act p monomial row c
unfolding combination
combination-gathered cmp act p monomial row c i products all gathered =
    ap (normal cmp p) (gathered ∙ ap (combination_terms act p monomial row) (take_all i c all))

-- a term of c that a loop reads, and the row that it reads for it
pub read_row : (rows : List Vector) (c : List (Term Place)) (i : ℕ) (t : Term Place) (position : ℕ) (v : Vector)
    → AllByRecursion (λ (u : Term Place). u.at.position < length rows) c
    → i < length c → t ≡ get_or c i t → position ≡ t.at.position → v ≡ get_or rows position v
    → (slice_get c i ≡ Some t) × (v.terms ≡ row_at rows t.at.position)
read_row rows c i t position v positions within item same row =
    let read = slice_get_read c (length c) i t refl within item in
    let below : position < length rows =
    subst (λ n. n < length rows) (sym same) (AllByRecursion-get _ c i t positions read) in
    (read, sym (row_at-slice_get rows position v (slice_get_read rows (length rows) position v refl below row)) ∙ ap (row_at rows) same)

-- a multiple is what its terms mean
pub multiple-gathered : {K : Type 0} (cmp : K → K → Ordering) (act : Monomial → K → K) (p : ℕ) (s : Term Monomial)
    (ts products : List (Term K)) → products ≡ map (term_product act p s) ts
    → normal cmp p products ≡ multiple cmp act p s ts
unfolding multiple
multiple-gathered cmp act p s ts products gathered = ap (normal cmp p) gathered
