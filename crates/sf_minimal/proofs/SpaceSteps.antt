-- Sums over the places of a degree: how they begin, what is added, and a place at which something stands.
use Rattle.std.proofs.Common.{◌≡◌, true, false, Bool, ℕ, zero, suc, ◌%◌, ◌<◌, List, [], ◌∷◌, ◌++◌, length, map, replicate, slice_index, slice_index_or, refl, sym, ◌∙◌, ap, subst, arith, ℤ}
use Rattle.std.specs.Prelude.{MatchBool}
use Rattle.std.proofs.lemmas.List.{length-replicate}
use Rattle.std.specs.List.{AllByRecursion}
use Rattle.sf_algebra.specs.Matrices.{IsMatrix, Matrix}
use Rattle.sf_algebra.specs.MatrixOperations.{row_at}
use Rattle.sf_algebra.specs.Monomials.{Monomial, one}
use Rattle.sf_algebra.specs.Residues.{negative_mod}
use Rattle.sf_algebra.specs.Rings.{IsOverField, Ring, ones, plain}
use Rattle.sf_algebra.specs.Sums.{add, put}
use Rattle.sf_algebra.specs.Terms.{IsCanonical, Term}
use Rattle.sf_algebra.specs.VectorOperations.{row_multiple, row_sum}
use Rattle.sf_algebra.specs.Vectors.{IsTermOfDegree, Place, Vector, place_cmp}
use Rattle.sf_algebra.proofs.Multiplying.Keys.{place_keys}
use Rattle.sf_algebra.proofs.Multiplying.MultipleLaws.{multiple-one}
use Rattle.sf_algebra.proofs.Monomials.Orders.{place_cmp_linear}
use Rattle.sf_algebra.proofs.Monomials.Weights.{field_ring}
use Rattle.sf_algebra.proofs.Terms.Normal.{EachPlace, IsCanonical-normal}
use Rattle.sf_algebra.proofs.Vectors.RowSums.{row_sum-nil}
use Rattle.sf_groebner.specs.ReducedBases.{IsMonic}
use Rattle.sf_dense.specs.Entries.{Entry, added, cell_terms, column_at, dense, placed}
use Rattle.sf_dense.specs.MonicEntries.{AreWithin}
use Rattle.sf_dense.specs.Walks.{times_monomial}
use Rattle.sf_dense.proofs.DenseSums.Additions.{dense-added, dense-zero, length-added}
use Rattle.sf_dense.proofs.DenseSums.PlacedEntries.{AllByRecursion-column, multiple-placed}
use Rattle.sf_dense.proofs.DenseSums.Residues.{dense-residue_terms, residue_terms}
use Rattle.sf_variables.specs.Columns.{AreFalling}
use Rattle.sf_minimal.specs.Spaces.{GoesOn, IsAdded, IsPlaceOfDegree, IsSpace, IsTakenAway, sum_of}
use Rattle.sf_minimal.specs.declared.spaces.Space.{Space}
use Rattle.sf_minimal.proofs.ProperPairs.{positive_number}
use Rattle.sf_minimal.proofs.Reducing.{IsReducing, IsReducing-step}

module _ (m : Matrix) where
  pub GoesOn-same : (s : Space) → IsSpace m s → GoesOn m s s
  GoesOn-same s h = record { space = h; degree = refl; places = refl }

  pub GoesOn-trans : {s t u : Space} → GoesOn m s t → GoesOn m t u → GoesOn m s u
  GoesOn-trans h k = record { space = k.space; degree = k.degree ∙ h.degree; places = k.places ∙ h.places }

  -- the sums are other ones
  pub GoesOn-cells : (s : Space) → IsSpace m s → (cs : List ℕ) → length cs ≡ length s.cells
      → GoesOn m s (record s { cells = cs })
  GoesOn-cells s h cs size = record {
    space = record { falling = h.falling; inside = h.inside; size = size ∙ h.size };
    degree = refl;
    places = refl;
  }

-- what is read at a number of the list is the place with this number
pub column-read : (ks : List Place) (i : ℕ) (k : Place) → i < length ks → k ≡ slice_index_or ks i k → k ≡ column_at ks i
column-read ks i k within e = e ∙ any ks i k (record { position = 0; monomial = one }) within
  where
    any : (ls : List Place) (j : ℕ) (x y : Place) → j < length ls → slice_index_or ls j x ≡ slice_index_or ls j y
    any [] j x y inside = absurd (omega arith)
    any (l ∷ ls) zero x y inside = refl
    any (l ∷ ls) (suc j) x y inside = any ls j x y (omega arith)

-- what holds where a test says yes
pub if_true : (X Y : Type 0) (b : Bool) → b ≡ true → MatchBool b X Y → X
if_true X Y true e h = h
if_true X Y false e h = cc

-- entries are added, or nothing is
pub length-maybe_added : (a : ℕ) (es : List Entry) (old cs : List ℕ) (is_added : Bool)
    → MatchBool is_added (cs ≡ added a old es) (cs ≡ old) → length cs ≡ length old
length-maybe_added a es old cs true same = ap length same ∙ length-added a old es
length-maybe_added a es old cs false same = ap length same

module _ (p : ℕ) (positive : 0 < p) where
  -- the sums that begin as a vector
  pub dense-loaded : (ks : List Place) (n : ℕ) (es : List Entry) (ts : List (Term Place)) → length ks ≡ n
      → AreWithin (length ks) es → placed ks es ≡ map (times_monomial one) ts → IsCanonical (place_cmp ones) p ts
      → dense p ks (added 1 (replicate n 0) es) ≡ ts
  dense-loaded ks n es ts size within same canonical =
      dense-added p positive ks 1 (replicate n 0) es (size ∙ sym (length-replicate n 0)) within
      ∙ (λ i. add (place_cmp ones) p ((multiple-placed p 1 one ks es ts same ∙ multiple-one (place_keys ones) p positive ts canonical) i) (dense-zero p positive ks n i))
      ∙ row_sum-nil (plain p) positive ts canonical

  -- something stands at a place where the sum isn't 0
  pub EachPlace-dense : (P : Place → Type 0) (ks : List Place) (cs : List ℕ) (i : ℕ) → AreFalling ones ks → i < length ks
      → length cs ≡ length ks → 0 < slice_index cs i % p → EachPlace P (dense p ks cs) → P (column_at ks i)
  unfolding residue_terms
  EachPlace-dense P ks cs i falling within size nonzero each =
      found ks cs i within size nonzero (subst (EachPlace P) (dense-residue_terms p positive ks cs falling) each)
    where
      first : (k : Place) (r : ℕ) (us : List (Term Place)) → 0 < r → EachPlace P (put k r us) → P k
      first k zero us h e = absurd (omega arith)
      first k (suc r) us h e = e.0

      behind : (k : Place) (r : ℕ) (us : List (Term Place)) → EachPlace P (put k r us) → EachPlace P us
      behind k zero us e = e
      behind k (suc r) us e = e.1

      found : (ks : List Place) (cs : List ℕ) (i : ℕ) → i < length ks → length cs ≡ length ks → 0 < slice_index cs i % p
          → EachPlace P (residue_terms p ks cs) → P (column_at ks i)
      found [] cs i within size nonzero e = absurd (omega arith)
      found (k ∷ ks) [] i within size nonzero e = absurd (omega arith)
      found (k ∷ ks) (c ∷ cs) zero within size nonzero e = first k (c % p) (residue_terms p ks cs) nonzero e
      found (k ∷ ks) (c ∷ cs) (suc i) within size nonzero e =
          found ks cs i (omega arith) (omega arith) nonzero (behind k (c % p) (residue_terms p ks cs) e)

-- a multiple of a row is subtracted
pub dense-subtracted : (m : Matrix) → m.ring ≡ plain m.ring.modulus → 0 < m.ring.modulus → (ks : List Place) (cs : List ℕ)
    (es : List Entry) (i c : ℕ) (a : Monomial) → length cs ≡ length ks → AreWithin (length ks) es
    → placed ks es ≡ map (times_monomial a) (row_at m.rows i)
    → IsAdded m i a c (dense m.ring.modulus ks cs) (dense m.ring.modulus ks (added (negative_mod m.ring.modulus c) cs es))
dense-subtracted m rings positive ks cs es i c a size within same =
    let p = m.ring.modulus in
    let s = negative_mod p c in
    subst
    (λ (r : Ring). dense p ks (added s cs es) ≡ row_sum r (row_multiple r (record { at = a; coefficient = s }) (row_at m.rows i)) (dense p ks cs))
    (sym rings)
    (dense-added p positive ks s cs es (sym size) within
    ∙ ap (λ us. add (place_cmp ones) p us (dense p ks cs)) (multiple-placed p s a ks es (row_at m.rows i) same))

-- something is taken away at a place where the sum isn't 0
pub IsReducing-taken : (m : Matrix) → IsOverField m.ring → m.ring ≡ plain m.ring.modulus → IsMatrix m
    → AllByRecursion (λ (v : Vector). IsMonic v.terms) m.rows → (d : ℤ) (terms : List (Term Place)) (s : Space) → IsSpace m s
    → d ≡ s.degree → (cell r : ℕ) → cell < length s.places.items → r ≡ slice_index s.cells cell % m.ring.modulus
    → (r ≡ 0 → ⊥) → r < m.ring.modulus → (new steps : List (Term Place)) (u : Term Place)
    → IsReducing m d terms (sum_of m s) steps
    → IsTakenAway m (sum_of m s) new (record { at = column_at s.places.items cell; coefficient = r }) u
    → IsReducing m d terms new (steps ++ u ∷ [])
IsReducing-taken m prime rings matrix monic d terms s space same cell r within residue nonzero below new steps u h taken =
    let positive = (field_ring prime).modulus in
    let t : Term Place = record { at = column_at s.places.items cell; coefficient = r } in
    let some : 0 < r = positive_number r nonzero in
    let there : IsTermOfDegree m.ring.weights m.target d t =
    subst (λ (q : Ring). IsTermOfDegree q.weights m.target d t) (sym rings)
    (subst (λ e. IsTermOfDegree ones m.target e t) (sym same)
    (AllByRecursion-column (IsPlaceOfDegree m.target s.degree) s.places.items cell space.inside within)) in
    IsReducing-step m prime matrix monic d terms (sum_of m s) new steps t u h
    (subst (λ (q : Ring). IsCanonical (place_cmp q.weights) m.ring.modulus (sum_of m s)) (sym rings)
    (IsCanonical-normal (place_cmp ones) (place_cmp_linear ones) m.ring.modulus positive (cell_terms s.places.items s.cells)))
    (some, below) there
    (λ P each. EachPlace-dense m.ring.modulus positive P s.places.items s.cells cell space.falling within space.size
    (subst (λ n. 0 < n) residue some) each)
    taken
