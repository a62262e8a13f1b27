-- The vector that a written row means.
use Rattle.std.proofs.Common.{◌≡◌, ℕ, ◌+◌, ◌<◌, true, List, [], ◌∷◌, length, map, subst, sym, arith, ℤ}
use Rattle.std.specs.List.{list_all}
use Rattle.std.specs.Ordering.{int_eq}
use Rattle.std.proofs.lemmas.Bool.Decides.{Decides-int_eq}
use Rattle.sf_algebra.specs.Rings.{plain, ones}
use Rattle.sf_algebra.specs.Sums.{normal}
use Rattle.sf_algebra.specs.Terms.{Term, IsCanonical}
use Rattle.sf_algebra.specs.Vectors.{Place, place_cmp, place_degree, IsHomogeneous, IsVector}
use Rattle.sf_algebra.proofs.Basics.Lists.{AllByRecursion-append}
use Rattle.sf_algebra.proofs.Terms.Normal.{EachPlace, EachPlace-normal}
use Rattle.sf_text.specs.Placed.{placed_term, placed_terms}
use Rattle.sf_text.specs.Raw.{RawTerm}
use Rattle.sf_text.specs.declared.ring.Ring.{Ring}
use Rattle.sf_text.proofs.Digits.{&&-true}

-- each term stands at one of the columns before n
abbrev pub IsBeforeColumn : ℕ → List (Term Place) → Type 0
IsBeforeColumn n ts = EachPlace (λ (k : Place). k.position < n) ts

-- the terms of some entries stand at the columns of these
pub placed_terms-columns : (ring : Ring) (column n : ℕ) (entries : List (List RawTerm)) → column + length entries ≡ n
    → IsBeforeColumn n (placed_terms ring column entries)
placed_terms-columns ring column n [] e = tt
placed_terms-columns ring column n (entry ∷ entries) e =
    AllByRecursion-append _ (map (placed_term ring column) entry) (placed_terms ring (column + 1) entries) (here entry)
    (placed_terms-columns ring (column + 1) n entries (omega arith))
  where
    here : (ts : List RawTerm) → IsBeforeColumn n (map (placed_term ring column) ts)
    here [] = tt
    here (t ∷ ts) = (omega arith, here ts)

-- terms that pass the test of their degree
IsHomogeneous-tested : (degrees : List ℤ) (d : ℤ) (ts : List (Term Place)) → IsBeforeColumn (length degrees) ts
    → list_all (λ t. int_eq (place_degree ones degrees t.at) d) ts ≡ true → IsHomogeneous ones degrees d ts
IsHomogeneous-tested degrees d [] h e = tt
IsHomogeneous-tested degrees d (t ∷ ts) h e =
    let both =
    &&-true (int_eq (place_degree ones degrees t.at) d)
    (list_all (λ u. int_eq (place_degree ones degrees u.at) d) ts) e in
    ((h.0, sym ((Decides-int_eq (place_degree ones degrees t.at) d).0 both.0)), IsHomogeneous-tested degrees d ts h.1 both.1)

-- terms of one degree make a homogeneous vector
pub IsVector-tested : (p : ℕ) (degrees : List ℤ) (d : ℤ) (ts us : List (Term Place)) → us ≡ normal (place_cmp ones) p ts
    → IsCanonical (place_cmp ones) p us → IsBeforeColumn (length degrees) ts
    → list_all (λ t. int_eq (place_degree ones degrees t.at) d) us ≡ true
    → IsVector (plain p) degrees (record { degree = d; terms = us })
IsVector-tested p degrees d ts us sum canonical columns tested =
    let kept = EachPlace-normal (λ (k : Place). k.position < length degrees) (place_cmp ones) p ts columns in
    record {
      canonical = canonical;
      homogeneous = IsHomogeneous-tested degrees d us
          (subst (IsBeforeColumn (length degrees)) (sym sum) kept) tested;
    }
