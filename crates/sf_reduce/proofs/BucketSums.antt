-- The sum of lists of terms, when one of the lists is exchanged.
use Rattle.std.proofs.Common.{◌≡◌, ℕ, zero, suc, ◌+◌, ◌<◌, List, [], ◌∷◌, ◌++◌, Some, length, slice_set, refl, sym, ◌∙◌, ap, arith}
use Rattle.std.specs.declared.cmp.Ordering.TheVariants.{Less, Greater}
use Rattle.std.specs.List.{AllByRecursion, slice_get}
use Rattle.std.specs.Ordering.{ordering_reverse}
use Rattle.sf_algebra.specs.Residues.{sum_mod}
use Rattle.sf_algebra.specs.Rings.{ones, plain}
use Rattle.sf_algebra.specs.Sums.{put}
use Rattle.sf_algebra.specs.Terms.{Term, IsCanonical}
use Rattle.sf_algebra.specs.VectorOperations.{row_sum}
use Rattle.sf_algebra.specs.Vectors.{Place, place_cmp}
use Rattle.sf_algebra.proofs.Arithmetic.Residues.{sum_mod-zero, sum_mod-zero_first}
use Rattle.sf_algebra.proofs.Monomials.Orders.{place_cmp_linear}
use Rattle.sf_algebra.proofs.Terms.Merge.{add-Equal, add-Greater}
use Rattle.sf_algebra.proofs.Terms.Normal.{EachPlace-add, IsDescending-put, residues-put}
use Rattle.sf_algebra.proofs.Vectors.RowSums.{IsCanonical-row_sum, row_sum-assoc, row_sum-comm, row_sum-nil, row_sum-nil_first}
use Rattle.std.proofs.Math.Nat.{mod-eq_of_lt}
use Rattle.std.proofs.lemmas.Cmp.{tied_itself}
use Rattle.sf_groebner.specs.Divisions.{AreBelow}
use Rattle.sf_reduce.specs.Buckets.{count_of_terms, sum_of_lists}

-- an item exchanged for one of which the fact holds
pub AllByRecursion-slice_set : {X : Type 0} (P : X → Type 0) (xs : List X) (i : ℕ) (x : X) → AllByRecursion P xs → P x
    → AllByRecursion P (slice_set xs i x)
AllByRecursion-slice_set P [] i x h k = tt
AllByRecursion-slice_set P (y ∷ ys) zero x h k = (k, h.1)
AllByRecursion-slice_set P (y ∷ ys) (suc i) x h k = (h.0, AllByRecursion-slice_set P ys i x h.1 k)

-- an item exchanged for itself
pub slice_set-same : {X : Type 0} (xs : List X) (i : ℕ) (x : X) → slice_get xs i ≡ Some x → slice_set xs i x ≡ xs
slice_set-same [] i x e = refl
slice_set-same (y ∷ ys) zero x e = let same : y ≡ x = cc in λ l. sym same l ∷ ys
slice_set-same (y ∷ ys) (suc i) x e = ap (λ zs. y ∷ zs) (slice_set-same ys i x e)

pub count_of_terms-slice_set : (bs : List (List (Term Place))) (i : ℕ) (b c : List (Term Place)) → slice_get bs i ≡ Some b
    → count_of_terms (slice_set bs i c) + length b ≡ count_of_terms bs + length c
count_of_terms-slice_set [] i b c e = cc
count_of_terms-slice_set (a ∷ bs) zero b c e = let same : length a ≡ length b = cc in omega arith
count_of_terms-slice_set (a ∷ bs) (suc i) b c e = omega (arith, count_of_terms-slice_set bs i b c e)

pub AreBelow-sum_of_lists : (p : ℕ) (k : Place) (bs : List (List (Term Place))) → AllByRecursion (AreBelow ones k) bs
    → AreBelow ones k (sum_of_lists p bs)
AreBelow-sum_of_lists p k [] h = tt
AreBelow-sum_of_lists p k (b ∷ bs) h =
    EachPlace-add (λ l. place_cmp ones l k ≡ Less) (place_cmp ones) p b (sum_of_lists p bs) h.0 (AreBelow-sum_of_lists p k bs h.1)

pub IsCanonical-nil : (p : ℕ) → IsCanonical (place_cmp ones) p []
IsCanonical-nil p = record { descending = tt; residues = tt }

module _ (p : ℕ) (positive : 0 < p) where
  abbrev plus : List (Term Place) → List (Term Place) → List (Term Place)
  plus us vs = row_sum (plain p) us vs

  pub IsCanonical-sum_of_lists : (bs : List (List (Term Place))) → IsCanonical (place_cmp ones) p (sum_of_lists p bs)
  IsCanonical-sum_of_lists [] = IsCanonical-nil p
  IsCanonical-sum_of_lists (b ∷ bs) = IsCanonical-row_sum (plain p) positive b (sum_of_lists p bs)

  pub sum_of_lists-nil : (bs : List (List (Term Place))) → AllByRecursion (λ b. b ≡ []) bs → sum_of_lists p bs ≡ []
  sum_of_lists-nil [] h = refl
  sum_of_lists-nil (b ∷ bs) h = (λ i. plus (h.0 i) (sum_of_lists-nil bs h.1 i)) ∙ row_sum-nil (plain p) positive [] (IsCanonical-nil p)

  -- of three parts the first two exchanged
  pub row_sum-exchange : (us vs ws : List (Term Place)) → plus us (plus vs ws) ≡ plus vs (plus us ws)
  row_sum-exchange us vs ws =
      sym (row_sum-assoc (plain p) positive us vs ws)
      ∙ ap (λ l. plus l ws) (row_sum-comm (plain p) positive us vs)
      ∙ row_sum-assoc (plain p) positive vs us ws

  -- the list at a place apart from the others
  pub sum_of_lists-slice_set : (bs : List (List (Term Place))) (i : ℕ) (c : List (Term Place)) → i < length bs
      → sum_of_lists p (slice_set bs i c) ≡ plus c (sum_of_lists p (slice_set bs i []))
  sum_of_lists-slice_set [] i c h = absurd (omega arith)
  sum_of_lists-slice_set (b ∷ bs) zero c h =
      ap (plus c) (sym (row_sum-nil_first (plain p) positive (sum_of_lists p bs) (IsCanonical-sum_of_lists bs)))
  sum_of_lists-slice_set (b ∷ bs) (suc i) c h =
      ap (plus b) (sum_of_lists-slice_set bs i c (omega arith))
      ∙ row_sum-exchange b c (sum_of_lists p (slice_set bs i []))

  -- a list that loses a part
  pub sum_of_lists-part : (bs : List (List (Term Place))) (i : ℕ) (b part c : List (Term Place)) → i < length bs
      → slice_get bs i ≡ Some b → b ≡ plus part c
      → sum_of_lists p bs ≡ plus part (sum_of_lists p (slice_set bs i c))
  sum_of_lists-part bs i b part c within read parts =
      let others = sum_of_lists p (slice_set bs i []) in
      ap (sum_of_lists p) (sym (slice_set-same bs i b read))
      ∙ sum_of_lists-slice_set bs i b within
      ∙ ap (λ l. plus l others) parts
      ∙ row_sum-assoc (plain p) positive part c others
      ∙ ap (plus part) (sym (sum_of_lists-slice_set bs i c within))

  pub sum_of_lists-append : (bs : List (List (Term Place))) (c : List (Term Place)) → IsCanonical (place_cmp ones) p c
      → sum_of_lists p (bs ++ c ∷ []) ≡ plus c (sum_of_lists p bs)
  sum_of_lists-append [] c h = refl
  sum_of_lists-append (b ∷ bs) c h =
      ap (plus b) (sum_of_lists-append bs c h) ∙ row_sum-exchange b c (sum_of_lists p bs)

  IsCanonical-put : (k : Place) (x : ℕ) → x < p → IsCanonical (place_cmp ones) p (put k x [])
  IsCanonical-put k x below = record {
    descending = IsDescending-put (place_cmp ones) k x [] tt tt;
    residues = residues-put p k x [] below tt;
  }

  -- a first term apart from those below it
  pub row_sum-put : (k : Place) (x : ℕ) (us : List (Term Place)) → x < p → IsCanonical (place_cmp ones) p us
      → AreBelow ones k us → put k x us ≡ plus (put k x []) us
  row_sum-put k zero us below h low = sym (row_sum-nil_first (plain p) positive us h)
  row_sum-put k (suc x) [] below h low =
      sym (row_sum-nil (plain p) positive (put k (suc x) []) (IsCanonical-put k (suc x) below))
  row_sum-put k (suc x) (u ∷ us) below h low =
      let greater : place_cmp ones k u.at ≡ Greater =
      (place_cmp_linear ones).total.antisymm k u.at ∙ ap ordering_reverse low.0 in
      let first : Term Place = record { at = k; coefficient = suc x } in
      sym
      (add-Greater (place_cmp ones) (place_cmp_linear ones) p first [] u us (IsCanonical-put k (suc x) below) h greater
      ∙ ap (λ l. first ∷ l) (row_sum-nil_first (plain p) positive (u ∷ us) h))

  -- two terms at one place
  pub put-put : (k : Place) (x y : ℕ) → x < p → y < p
      → plus (put k x []) (put k y []) ≡ put k (sum_mod p x y) []
  put-put k zero y below less =
      row_sum-nil_first (plain p) positive (put k y []) (IsCanonical-put k y less)
      ∙ ap (λ n. put k n []) (sym (sum_mod-zero_first p y ∙ mod-eq_of_lt less))
  put-put k (suc x) zero below less =
      row_sum-nil (plain p) positive (put k (suc x) []) (IsCanonical-put k (suc x) below)
      ∙ ap (λ n. put k n []) (sym (sum_mod-zero p (suc x) ∙ mod-eq_of_lt below))
  put-put k (suc x) (suc y) below less =
      let equal = tied_itself (place_cmp_linear ones).total k in
      add-Equal (place_cmp ones) (place_cmp_linear ones) p (record { at = k; coefficient = suc x }) [] (record { at = k; coefficient = suc y }) [] (IsCanonical-put k (suc x) below) (IsCanonical-put k (suc y) less) equal
      ∙ ap (put k (sum_mod p (suc x) (suc y))) (row_sum-nil (plain p) positive [] (IsCanonical-nil p))
