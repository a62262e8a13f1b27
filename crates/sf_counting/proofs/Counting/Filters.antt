-- How many items of a list pass a test; those of a falling list still fall.
use Rattle.std.proofs.Common.{◌≡◌, inl, inr, ℕ, zero, suc, ◌+◌, ◌<◌, ◌≤◌, cond, Bool, true, false, ◌||◌, List, [], ◌∷◌, ◌++◌, length, filter, slice_index_or, Contains, refl, sym, ◌∙◌, ap, subst, arith}
use Rattle.std.proofs.lemmas.List.Folds.{list_any-append}
use Rattle.sf_algebra.specs.Rings.{Weights}
use Rattle.sf_algebra.specs.Vectors.{Place, Vector}
use Rattle.sf_algebra.proofs.Basics.Filters.{AllByRecursion-filter_keeps, cond_cases}
use Rattle.sf_groebner.specs.ReducedBases.{is_divided, lead_divides}
use Rattle.sf_groebner.proofs.Basics.Items.{IsItem}
use Rattle.sf_variables.specs.Columns.{AreFalling}

-- 1 for what passes
abbrev counted : Bool → ℕ
counted b = cond b 1 0

length-filter_cons : {X : Type 0} (test : X → Bool) (x : X) (xs : List X)
    → length (filter test (x ∷ xs)) ≡ counted (test x) + length (filter test xs)
length-filter_cons test x xs = chosen (test x) (filter test xs)
  where
    chosen : (b : Bool) (ys : List _) → length (cond b (x ∷ ys) ys) ≡ counted b + length ys
    chosen true ys = omega arith
    chosen false ys = omega arith

counted_more : (a b : Bool) → (a ≡ true → b ≡ true) → counted a ≤ counted b
counted_more true true f = omega arith
counted_more true false f = let wrong : false ≡ true = f refl in cc
counted_more false true f = omega arith
counted_more false false f = omega arith

module _ {X : Type 0} (test weaker : X → Bool) (passes : (x : X) → test x ≡ true → weaker x ≡ true) where
  -- no fewer pass a weaker test
  pub length-filter_le : (xs : List X) → length (filter test xs) ≤ length (filter weaker xs)
  length-filter_le [] = omega arith
  length-filter_le (x ∷ xs) =
      let fewer = length-filter_le xs in
      let here = counted_more (test x) (weaker x) (passes x) in
      omega (arith, fewer, here, length-filter_cons test x xs, length-filter_cons weaker x xs)

  -- more do where an item passes that one alone
  pub length-filter_lt : (x : X) → test x ≡ false → weaker x ≡ true → (xs : List X) → IsItem x xs
      → length (filter test xs) < length (filter weaker xs)
  length-filter_lt x fails passed [] item = absurd item
  length-filter_lt x fails passed (y ∷ ys) (inl same) =
      let fewer = length-filter_le ys in
      let none : counted (test y) ≡ 0 = ap (λ z. counted (test z)) (sym same) ∙ ap counted fails in
      let one : counted (weaker y) ≡ 1 = ap (λ z. counted (weaker z)) (sym same) ∙ ap counted passed in
      omega (arith, fewer, none, one, length-filter_cons test y ys, length-filter_cons weaker y ys)
  length-filter_lt x fails passed (y ∷ ys) (inr item) =
      let fewer = length-filter_lt x fails passed ys item in
      let here = counted_more (test y) (weaker y) (passes y) in
      omega (arith, fewer, here, length-filter_cons test y ys, length-filter_cons weaker y ys)

pub AreFalling-filter : (weights : Weights) (test : Place → Bool) (ks : List Place) → AreFalling weights ks
    → AreFalling weights (filter test ks)
AreFalling-filter weights test [] h = tt
AreFalling-filter weights test (k ∷ ks) h =
    let rest = AreFalling-filter weights test ks h.1 in
    cond_cases (test k) (k ∷ filter test ks) (filter test ks) (AreFalling weights)
    (λ e. (AllByRecursion-filter_keeps _ test ks h.0, rest)) (λ e. rest)

-- an item by its place
IsItem-at : {X : Type 0} (xs : List X) (k : ℕ) (d : X) → k < length xs → IsItem (slice_index_or xs k d) xs
IsItem-at [] k d h = absurd (omega arith)
IsItem-at (x ∷ xs) zero d h = inl refl
IsItem-at (x ∷ xs) (suc k) d h = inr (IsItem-at xs k d (omega arith))

pub IsItem-Contains : {X : Type 0} (xs : List X) (x : X) → Contains xs x → IsItem x xs
IsItem-Contains xs x h = subst (λ y. IsItem y xs) h.2 (IsItem-at xs h.0 x h.1)

-- what the leads of rows divide, those of more rows do
pub is_divided-more : (rows more : List Vector) (k : Place) → is_divided rows k ≡ true
    → is_divided (rows ++ more) k ≡ true
is_divided-more rows more k h =
    list_any-append (λ (v : Vector). lead_divides v.terms k) rows more ∙ ap (λ b. b || is_divided more k) h
