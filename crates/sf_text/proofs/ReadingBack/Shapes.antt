-- A matrix that was read back has an entry for each column, and no variable but the ring's.
use Rattle.std.proofs.Common.{◌≡◌, ℕ, List, [], ◌∷◌, length, map, ◌==◌, ◌||◌, Bool, true, false, cond, None, refl, ap, arith}
use Rattle.std.specs.List.{AllByRecursion, list_all, range_with_len}
use Rattle.std.specs.Str.{bytes_eq}
use Rattle.std.proofs.lemmas.Bool.Decides.{nat_tests}
use Rattle.std.proofs.lemmas.List.{length-map}
use Rattle.std.proofs.lemmas.List.FromFn.{length-range_with_len}
use Rattle.sf_algebra.specs.Monomials.{Monomial, exponents}
use Rattle.sf_algebra.specs.Terms.{Term}
use Rattle.sf_algebra.specs.Vectors.{Vector, entry}
use Rattle.sf_algebra.proofs.Basics.Lists.{AllByRecursion-weaken}
use Rattle.sf_text.specs.Placed.{has_shape}
use Rattle.sf_text.specs.Unknowns.{is_among, knows_factor, knows_term, knows_entry, knows_row, first_failing, first_unknown}
use Rattle.sf_text.proofs.ReadingBack.Exponents.{bytes_eq-same}
use Rattle.sf_text.proofs.ReadingBack.Factors.{raw_factors}
use Rattle.sf_text.proofs.ReadingBack.Rows.{raw_row}
use Rattle.sf_text.proofs.ReadingBack.Terms.{raw_term, raw_entry}

pub has_shape-raw : (names : List (List ℕ)) (columns : ℕ) (rows : List Vector)
    → has_shape columns (map (raw_row names columns) rows) ≡ true
has_shape-raw names columns [] = refl
has_shape-raw names columns (v ∷ vs) =
    let size : length (raw_row names columns v) ≡ columns = rw (length-map, length-range_with_len) in
    let same : (length (raw_row names columns v) == columns) ≡ true = grind (arith, nat_tests) in
    rw same (has_shape-raw names columns vs)

list_all-true : {X : Type 0} (p : X → Bool) (xs : List X) → AllByRecursion (λ x. p x ≡ true) xs → list_all p xs ≡ true
list_all-true p [] h = refl
list_all-true p (x ∷ xs) h = rw h.0 (list_all-true p xs h.1)

list_all-map : {X Y : Type 0} (p : Y → Bool) (f : X → Y) → ((x : X) → p (f x) ≡ true) → (xs : List X)
    → list_all p (map f xs) ≡ true
list_all-map p f h [] = refl
list_all-map p f h (x ∷ xs) = rw (h x) (list_all-map p f h xs)

either : (a b : Bool) → b ≡ true → (a || b) ≡ true
either true b e = refl
either false b e = e

-- names are among themselves
among : (names : List (List ℕ)) → AllByRecursion (λ name. is_among names name ≡ true) names
among [] = tt
among (name ∷ names) =
    let others =
    AllByRecursion-weaken _ _ (λ other e. either (bytes_eq name other) (is_among names other) e) names (among names) in
    (ap (λ b. b || is_among names name) (bytes_eq-same name), others)

knows_factors : (all names : List (List ℕ)) (es : List ℕ) → AllByRecursion (λ name. is_among all name ≡ true) names
    → list_all (knows_factor all) (raw_factors names es) ≡ true
knows_factors all [] es h = refl
knows_factors all (name ∷ names) [] h = refl
knows_factors all (name ∷ names) (e ∷ es) h = by (e == 0) (knows_factors all names es h.1)
  where
    by : (t : Bool) → list_all (knows_factor all) (raw_factors names es) ≡ true
        → list_all (knows_factor all) (cond t (raw_factors names es) ((name, e) ∷ raw_factors names es)) ≡ true
    by true rest = rest
    by false rest = rw h.0 rest

knows_raw_entry : (names : List (List ℕ)) (ts : List (Term Monomial)) → knows_entry names (raw_entry names ts) ≡ true
knows_raw_entry names [] = refl
knows_raw_entry names (t ∷ ts) =
    list_all-map (knows_term names) (raw_term names) (λ u. knows_factors names names (exponents u.at) (among names)) (t ∷ ts)

knows_raw_row : (names : List (List ℕ)) (columns : ℕ) (v : Vector) → knows_row names (raw_row names columns v) ≡ true
knows_raw_row names columns v =
    list_all-map (knows_entry names) (λ i. raw_entry names (entry i v.terms)) (λ i. knows_raw_entry names (entry i v.terms))
    (range_with_len 0 columns)

first_failing-map : {X Y : Type 0} (test : Y → Bool) (f : X → Y) → ((x : X) → test (f x) ≡ true) → (xs : List X)
    → first_failing test (map f xs) ≡ None
first_failing-map test f h [] = refl
first_failing-map test f h (x ∷ xs) = rw (h x) (first_failing-map test f h xs)

pub first_unknown-raw : (names : List (List ℕ)) (columns : ℕ) (rows : List Vector)
    → first_unknown names (map (raw_row names columns) rows) ≡ None
first_unknown-raw names columns rows =
    rw (first_failing-map (knows_row names) (raw_row names columns) (knows_raw_row names columns) rows)
