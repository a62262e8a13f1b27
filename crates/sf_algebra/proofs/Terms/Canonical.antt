-- Whether a list is canonical, term by term.
use Rattle.std.proofs.Common.{◌≡◌, ◌↔◌, ℕ, List, [], ◌∷◌, sym, subst}
use Rattle.std.specs.declared.cmp.Ordering.{Ordering}
use Rattle.sf_algebra.specs.Orders.{IsLinearOrder}
use Rattle.sf_algebra.specs.Terms.{Term, IsCanonical, IsNonzeroResidue, IsAboveFirst}
use Rattle.sf_algebra.proofs.Terms.Coefficients.{IsCanonical-tail}
use Rattle.sf_algebra.proofs.Terms.Normal.{IsAboveEach-trans}

-- a term before a canonical list, by the first term of that list
pub IsCanonical-cons : {K : Type 0} (cmp : K → K → Ordering) (order : IsLinearOrder cmp) (p : ℕ) (t : Term K)
    (ts : List (Term K)) → IsNonzeroResidue p t → IsAboveFirst cmp t.at ts → IsCanonical cmp p ts
    → IsCanonical cmp p (t ∷ ts)
IsCanonical-cons cmp order p t [] residue above h = record { descending = (tt, tt); residues = (residue, tt) }
IsCanonical-cons cmp order p t (u ∷ us) residue above h =
    record {
      descending = ((above, IsAboveEach-trans cmp order t.at u.at us above h.descending.0), h.descending);
      residues = (residue, h.residues);
    }

pub IsAboveFirst-canonical : {K : Type 0} (cmp : K → K → Ordering) (p : ℕ) (t : Term K) (ts : List (Term K))
    → IsCanonical cmp p (t ∷ ts) → IsAboveFirst cmp t.at ts
IsAboveFirst-canonical cmp p t [] h = tt
IsAboveFirst-canonical cmp p t (u ∷ us) h = h.descending.0.0

-- a test of one term after another, as far as it has come
pub record IsTesting {K : Type 0} (cmp : K → K → Ordering) (p : ℕ) (rest whole : List (Term K)) : Type 0 where
  pub test : IsCanonical cmp p rest ↔ IsCanonical cmp p whole

module _ {K : Type 0} (cmp : K → K → Ordering) (order : IsLinearOrder cmp) (p : ℕ) (rest whole : List (Term K))
    (h : IsTesting cmp p rest whole) (t : Term K) (ts : List (Term K)) (first : rest ≡ t ∷ ts) where
  -- a term that passes
  pub IsTesting-next : IsNonzeroResidue p t → IsAboveFirst cmp t.at ts → IsTesting cmp p ts whole
  IsTesting-next residue above = record {
    test = (
      λ k. h.test.0 (subst (IsCanonical cmp p) (sym first) (IsCanonical-cons cmp order p t ts residue above k)),
      λ k. IsCanonical-tail cmp p t ts (subst (IsCanonical cmp p) first (h.test.1 k)),
    );
  }

  -- what a canonical list's first term passes
  pub IsTesting-passes : IsCanonical cmp p whole → IsNonzeroResidue p t × IsAboveFirst cmp t.at ts
  IsTesting-passes k =
      let c : IsCanonical cmp p (t ∷ ts) = subst (IsCanonical cmp p) first (h.test.1 k) in
      (c.residues.0, IsAboveFirst-canonical cmp p t ts c)

-- where nothing is left
pub IsTesting-end : {K : Type 0} (cmp : K → K → Ordering) (p : ℕ) (rest whole : List (Term K))
    → IsTesting cmp p rest whole → rest ≡ [] → IsCanonical cmp p whole
IsTesting-end cmp p rest whole h none =
    h.test.0 (subst (IsCanonical cmp p) (sym none) (record { descending = tt; residues = tt }))
