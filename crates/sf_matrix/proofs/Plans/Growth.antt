-- Tables that grow by the matrices that have no entry yet: nothing stands twice, and what stands there stays.
use Rattle.std.proofs.Common.{◌≡◌, Bool, true, false, cond, ◌||◌, inl, inr, ℕ, zero, suc, List, [], ◌∷◌, ◌++◌, Some, slice_get, refl, sym, ◌∙◌, ap, subst, append-nil, append_assoc}
use Rattle.std.proofs.lemmas.Bool.{or_cases}
use Rattle.std.proofs.lemmas.Option.{none-some}
use Rattle.std.specs.List.{AllByRecursion}
use Rattle.sf_algebra.specs.Matrices.{Matrix}
use Rattle.sf_algebra.proofs.Basics.Lists.{AllByRecursion-weaken}
use Rattle.sf_algebra.proofs.Basics.Filters.{cond_cases}
use Rattle.sf_algebra.proofs.GradedMatrices.Equality.{Decides-same_matrix, same_matrix}
use Rattle.sf_matrix.specs.Tables.{Entry, Table, IsGrown, add_all, add_once, is_among, matrices_of}

or_second : (b c : Bool) → c ≡ true → (b || c) ≡ true
or_second true c e = refl
or_second false c e = e

module _ (m : Matrix) where
  -- behind others
  pub is_among-front : (ms ns : List Matrix) → is_among m ms ≡ true → is_among m (ms ++ ns) ≡ true
  is_among-front [] ns h = cc
  is_among-front (k ∷ ms) ns h = elim (or_cases (same_matrix m k) (is_among m ms) h) [
    | inl here ↦ ap (λ b. b || is_among m (ms ++ ns)) here
    | inr there ↦ or_second (same_matrix m k) (is_among m (ms ++ ns)) (is_among-front ms ns there)
  ]

  is_among-last : (ms : List Matrix) → is_among m (ms ++ m ∷ []) ≡ true
  is_among-last [] = ap (λ b. b || false) ((Decides-same_matrix m m).1 refl)
  is_among-last (k ∷ ms) = or_second (same_matrix m k) (is_among m (ms ++ m ∷ [])) (is_among-last ms)

-- what is there isn't added
pub add_once-there : (ms : List Matrix) (n : Matrix) → is_among n ms ≡ true → add_once ms n ≡ ms
add_once-there ms n h = ap (λ b. cond b ms (ms ++ n ∷ [])) h

-- what was added is there
pub is_among-add_once : (ms : List Matrix) (n : Matrix) → is_among n (add_once ms n) ≡ true
is_among-add_once ms n =
    cond_cases (is_among n ms) ms (ms ++ n ∷ []) (λ ks. is_among n ks ≡ true) (λ h. h) (λ h. is_among-last n ms)

-- and what was there stays
pub is_among-add_once_other : (ms : List Matrix) (n k : Matrix) → is_among k ms ≡ true → is_among k (add_once ms n) ≡ true
is_among-add_once_other ms n k h =
    cond_cases (is_among n ms) ms (ms ++ n ∷ []) (λ ks. is_among k ks ≡ true) (λ e. h) (λ e. is_among-front k ms (n ∷ []) h)

pub is_among-add_all : (ms ns : List Matrix) (k : Matrix) → is_among k ms ≡ true → is_among k (add_all ms ns) ≡ true
is_among-add_all ms [] k h = h
is_among-add_all ms (n ∷ ns) k h = is_among-add_all (add_once ms n) ns k (is_among-add_once_other ms n k h)

-- each of some matrices is among others
abbrev pub AreAmong : List Matrix → List Matrix → Type 0
AreAmong ns ms = AllByRecursion (λ (n : Matrix). is_among n ms ≡ true) ns

-- all that were added are there
pub AreAmong-add_all : (ms ns : List Matrix) → AreAmong ns (add_all ms ns)
AreAmong-add_all ms [] = tt
AreAmong-add_all ms (n ∷ ns) =
    (is_among-add_all (add_once ms n) ns n (is_among-add_once ms n), AreAmong-add_all (add_once ms n) ns)

-- where all are there, none is added
pub add_all-there : (ms ns : List Matrix) → AreAmong ns ms → add_all ms ns ≡ ms
add_all-there ms [] h = refl
add_all-there ms (n ∷ ns) h = ap (λ ks. add_all ks ns) (add_once-there ms n h.0) ∙ add_all-there ms ns h.1

pub add_all-again : (ms ns : List Matrix) → add_all (add_all ms ns) ns ≡ add_all ms ns
add_all-again ms ns = add_all-there (add_all ms ns) ns (AreAmong-add_all ms ns)

pub add_all-append : (ms ns ks : List Matrix) → add_all ms (ns ++ ks) ≡ add_all (add_all ms ns) ks
add_all-append ms [] ks = refl
add_all-append ms (n ∷ ns) ks = add_all-append (add_once ms n) ns ks

-- a table grows by nothing, by what it has, and step by step
pub grown_none : (t : Table) → IsGrown t [] t
grown_none t = record { limit = refl; more = []; entries = sym (append-nil t.entries); matrices = refl }

pub grown_there : (t : Table) (ms : List Matrix) → AreAmong ms (matrices_of t.entries) → IsGrown t ms t
grown_there t ms h = record {
  limit = refl;
  more = [];
  entries = sym (append-nil t.entries);
  matrices = sym (add_all-there (matrices_of t.entries) ms h);
}

pub grown_then : (t u v : Table) (ms ns : List Matrix) → IsGrown t ms u → IsGrown u ns v → IsGrown t (ms ++ ns) v
grown_then t u v ms ns h k = record {
  limit = k.limit ∙ h.limit;
  more = h.more ++ k.more;
  entries = k.entries ∙ ap (λ es. es ++ k.more) h.entries ∙ append_assoc t.entries h.more k.more;
  matrices =
      k.matrices ∙ ap (λ ks. add_all ks ns) h.matrices ∙ sym (add_all-append (matrices_of t.entries) ms ns);
}

-- after it has grown its matrices are there
pub grown_among : (t u : Table) (ms : List Matrix) → IsGrown t ms u → AreAmong ms (matrices_of u.entries)
grown_among t u ms h = subst (AreAmong ms) (sym h.matrices) (AreAmong-add_all (matrices_of t.entries) ms)

pub grown_stays : (t u : Table) (ms ns : List Matrix) → IsGrown t ms u → AreAmong ns (matrices_of t.entries)
    → AreAmong ns (matrices_of u.entries)
grown_stays t u ms ns h there =
    subst (AreAmong ns) (sym h.matrices)
    (AllByRecursion-weaken _ _ (λ n e. is_among-add_all (matrices_of t.entries) ms n e) ns there)

-- what stands in a list stands at the same place with others behind it
slice_get-front : {X : Type 0} (xs ys : List X) (k : ℕ) (x : X) → slice_get xs k ≡ Some x → slice_get (xs ++ ys) k ≡ Some x
slice_get-front [] ys k x read = absurd (none-some x read)
slice_get-front (y ∷ xs) ys zero x read = read
slice_get-front (y ∷ xs) ys (suc k) x read = slice_get-front xs ys k x read

-- an entry keeps its number
pub entry_stays : (t u : Table) (ms : List Matrix) → IsGrown t ms u → (k : ℕ) (e : Entry)
    → slice_get t.entries k ≡ Some e → slice_get u.entries k ≡ Some e
entry_stays t u ms h k e read =
    ap (λ es. slice_get es k) h.entries
    ∙ slice_get-front t.entries h.more k e read
