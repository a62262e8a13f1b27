-- The sum of two canonical lists, by their first terms: one step of a merge.
use Rattle.std.proofs.Common.{◌≡◌, ◌⊎◌, inl, inr, ℕ, zero, suc, ◌<◌, List, [], ◌∷◌, ◌++◌, length, refl, sym, ◌∙◌, ap, subst, arith, append_assoc, append-nil}
use Rattle.std.specs.declared.cmp.Ordering.{Ordering}
use Rattle.std.specs.declared.cmp.Ordering.TheVariants.{Less, Equal, Greater}
use Rattle.std.specs.Ordering.{ordering_reverse}
use Rattle.sf_algebra.specs.Orders.{IsLinearOrder}
use Rattle.sf_algebra.specs.Residues.{sum_mod}
use Rattle.sf_algebra.specs.Sums.{put, normal, add, total}
use Rattle.sf_algebra.specs.Terms.{Term, IsCanonical}
use Rattle.sf_algebra.proofs.Arithmetic.Residues.{sum_mod-assoc, sum_mod-below, sum_mod-exchange, sum_mod-first}
use Rattle.sf_algebra.proofs.Terms.Coefficients.{IsCanonical-tail, same_from_total}
use Rattle.sf_algebra.proofs.Terms.Normal.{EachPlace-add, IsAboveEach, IsAboveEach-trans, IsDescending-put, residues-put, IsCanonical-add}
use Rattle.sf_algebra.proofs.Terms.Sums.{add_comm, add-nil, add-nil_first}
use Rattle.sf_algebra.proofs.Terms.Totals.{total-add, total-cons, total-put}

-- a modulus of which there is a nonzero residue is positive
positive_modulus : {K : Type 0} (cmp : K → K → Ordering) (p : ℕ) (t : Term K) (ts : List (Term K))
    → IsCanonical cmp p (t ∷ ts) → 0 < p
positive_modulus cmp p t ts h = let below : t.coefficient < p = h.residues.0.1 in omega arith

module _ {K : Type 0} (cmp : K → K → Ordering) (order : IsLinearOrder cmp) (p : ℕ) where
  -- a first term that is greater than each term of the other list
  add-above : (t : Term K) (ts us : List (Term K)) → IsCanonical cmp p (t ∷ ts) → IsAboveEach cmp t.at us
      → add cmp p (t ∷ ts) us ≡ t ∷ add cmp p ts us
  add-above t ts us h above =
      let positive = positive_modulus cmp p t ts h in
      let sum = IsCanonical-add cmp order p positive ts us in
      let canonical : IsCanonical cmp p (t ∷ add cmp p ts us) =
      record {
        descending = (EachPlace-add (λ l. cmp l t.at ≡ Less) cmp p ts us h.descending.0 above, sum.descending);
        residues = (h.residues.0, sum.residues);
      } in
      same_from_total cmp order p positive _ _ (IsCanonical-add cmp order p positive (t ∷ ts) us) canonical
      (λ g additive.
      total-add cmp order p g additive (t ∷ ts) us
      ∙ ap (λ n. sum_mod p n (total p g us)) (total-cons p g t ts)
      ∙ sum_mod-assoc p _ _ _
      ∙ ap (sum_mod p (g t)) (sym (total-add cmp order p g additive ts us))
      ∙ sym (total-cons p g t (add cmp p ts us)))

  -- where the first list begins with the greater term
  pub add-Greater : (t : Term K) (ts : List (Term K)) (u : Term K) (us : List (Term K)) → IsCanonical cmp p (t ∷ ts)
      → IsCanonical cmp p (u ∷ us) → cmp t.at u.at ≡ Greater → add cmp p (t ∷ ts) (u ∷ us) ≡ t ∷ add cmp p ts (u ∷ us)
  add-Greater t ts u us h k greater =
      let less : cmp u.at t.at ≡ Less = order.total.antisymm u.at t.at ∙ ap ordering_reverse greater in
      add-above t ts (u ∷ us) h (less, IsAboveEach-trans cmp order t.at u.at us less k.descending.0)

  -- where the second does
  pub add-Less : (t : Term K) (ts : List (Term K)) (u : Term K) (us : List (Term K)) → IsCanonical cmp p (t ∷ ts)
      → IsCanonical cmp p (u ∷ us) → cmp t.at u.at ≡ Less → add cmp p (t ∷ ts) (u ∷ us) ≡ u ∷ add cmp p (t ∷ ts) us
  add-Less t ts u us h k less =
      let positive = positive_modulus cmp p t ts h in
      add_comm cmp order p positive (t ∷ ts) (u ∷ us)
      ∙ add-above u us (t ∷ ts) k (less, IsAboveEach-trans cmp order u.at t.at ts less h.descending.0)
      ∙ ap (λ l. u ∷ l) (add_comm cmp order p positive us (t ∷ ts))

  -- where the first terms meet
  pub add-Equal : (t : Term K) (ts : List (Term K)) (u : Term K) (us : List (Term K)) → IsCanonical cmp p (t ∷ ts)
      → IsCanonical cmp p (u ∷ us) → cmp t.at u.at ≡ Equal
      → add cmp p (t ∷ ts) (u ∷ us) ≡ put t.at (sum_mod p t.coefficient u.coefficient) (add cmp p ts us)
  add-Equal t ts u us h k equal =
      let positive = positive_modulus cmp p t ts h in
      let place : u.at ≡ t.at = sym (order.apart t.at u.at equal) in
      let above : IsAboveEach cmp t.at us = subst (λ l. IsAboveEach cmp l us) place k.descending.0 in
      let sum = IsCanonical-add cmp order p positive ts us in
      let coefficient = sum_mod p t.coefficient u.coefficient in
      let canonical : IsCanonical cmp p (put t.at coefficient (add cmp p ts us)) =
      record {
        descending =
            IsDescending-put cmp t.at coefficient (add cmp p ts us)
            (EachPlace-add (λ l. cmp l t.at ≡ Less) cmp p ts us h.descending.0 above) sum.descending;
        residues =
            residues-put p t.at coefficient (add cmp p ts us)
            (sum_mod-below p t.coefficient u.coefficient positive) sum.residues;
      } in
      same_from_total cmp order p positive _ _ (IsCanonical-add cmp order p positive (t ∷ ts) (u ∷ us)) canonical
      (λ g additive.
      total-add cmp order p g additive (t ∷ ts) (u ∷ us)
      ∙ (λ i. sum_mod p (total-cons p g t ts i) (total-cons p g u us i))
      ∙ sum_mod-exchange p (g t) (total p g ts) (g u) (total p g us)
      ∙ ap (λ l. sum_mod p (sum_mod p (g t) (g (record { at = l; coefficient = u.coefficient }))) (sum_mod p (total p g ts) (total p g us))) place
      ∙ ap (λ n. sum_mod p n (sum_mod p (total p g ts) (total p g us)))
      (sym (additive.at_sum t.at t.coefficient u.coefficient))
      ∙ sum_mod-first p _ _
      ∙ ap (sum_mod p (g (record { at = t.at; coefficient = coefficient })))
      (sym (total-add cmp order p g additive ts us))
      ∙ sym (total-put p g additive t.at coefficient (add cmp p ts us)))

-- the sum of canonical lists is canonical, whatever the modulus
pub canonical_sum : {K : Type 0} (cmp : K → K → Ordering) (order : IsLinearOrder cmp) (p : ℕ) (us vs : List (Term K))
    → IsCanonical cmp p us → IsCanonical cmp p vs → IsCanonical cmp p (add cmp p us vs)
unfolding add normal
canonical_sum cmp order p [] [] h k = h
canonical_sum cmp order p [] (v ∷ vs) h k = IsCanonical-add cmp order p (positive_modulus cmp p v vs k) [] (v ∷ vs)
canonical_sum cmp order p (u ∷ us) vs h k = IsCanonical-add cmp order p (positive_modulus cmp p u us h) (u ∷ us) vs

-- where one of two canonical lists is empty
add-append : {K : Type 0} (cmp : K → K → Ordering) (order : IsLinearOrder cmp) (p : ℕ) (ts us : List (Term K))
    → IsCanonical cmp p ts → IsCanonical cmp p us → (length ts ≡ 0) ⊎ (length us ≡ 0) → ts ++ us ≡ add cmp p ts us
unfolding add normal
add-append cmp order p [] [] h k over = refl
add-append cmp order p [] (u ∷ us) h k over = sym (add-nil_first cmp order p (positive_modulus cmp p u us k) (u ∷ us) k)
add-append cmp order p (t ∷ ts) [] h k over =
    append-nil (t ∷ ts) ∙ sym (add-nil cmp order p (positive_modulus cmp p t ts h) (t ∷ ts) h)
add-append cmp order p (t ∷ ts) (u ∷ us) h k over = absurd (elim over [ inl e ↦ omega arith | inr e ↦ omega arith ])

pub put-append : {K : Type 0} (k : K) (c : ℕ) (us : List (Term K)) → put k c [] ++ us ≡ put k c us
put-append k zero us = refl
put-append k (suc c) us = refl

-- a merge of two canonical lists, as far as it has come: what is done, and the sum of what is left, make the whole sum
pub record IsMerging {K : Type 0} (cmp : K → K → Ordering) (p : ℕ) (done us vs sum : List (Term K)) : Type 0 where
  pub merged : done ++ add cmp p us vs ≡ sum
  pub left : IsCanonical cmp p us
  pub right : IsCanonical cmp p vs

module _ {K : Type 0} (cmp : K → K → Ordering) (order : IsLinearOrder cmp) (p : ℕ) (done us vs sum : List (Term K))
    (h : IsMerging cmp p done us vs sum) where
  pub IsMerging-end : (length us ≡ 0) ⊎ (length vs ≡ 0) → (done ++ us) ++ vs ≡ sum
  IsMerging-end over =
      append_assoc done us vs ∙ ap (λ l. done ++ l) (add-append cmp order p us vs h.left h.right over) ∙ h.merged

  module _ (t u : Term K) (ts ws : List (Term K)) (left : us ≡ t ∷ ts) (right : vs ≡ u ∷ ws) where
    first : IsCanonical cmp p (t ∷ ts)
    first = subst (IsCanonical cmp p) left h.left

    second : IsCanonical cmp p (u ∷ ws)
    second = subst (IsCanonical cmp p) right h.right

    whole : done ++ add cmp p (t ∷ ts) (u ∷ ws) ≡ sum
    whole = sym (λ i. done ++ add cmp p (left i) (right i)) ∙ h.merged

    pub IsMerging-Greater : (x : Term K) → x ≡ t → cmp t.at u.at ≡ Greater → IsMerging cmp p (done ++ x ∷ []) ts vs sum
    IsMerging-Greater x is greater =
        record {
          merged =
              append_assoc done (x ∷ []) (add cmp p ts vs)
              ∙ (λ i. done ++ is i ∷ add cmp p ts (right i))
              ∙ ap (λ l. done ++ l) (sym (add-Greater cmp order p t ts u ws first second greater))
              ∙ whole;
          left = IsCanonical-tail cmp p t ts first;
          right = h.right;
        }

    pub IsMerging-Less : (x : Term K) → x ≡ u → cmp t.at u.at ≡ Less → IsMerging cmp p (done ++ x ∷ []) us ws sum
    IsMerging-Less x is less =
        record {
          merged =
              append_assoc done (x ∷ []) (add cmp p us ws)
              ∙ (λ i. done ++ is i ∷ add cmp p (left i) ws)
              ∙ ap (λ l. done ++ l) (sym (add-Less cmp order p t ts u ws first second less))
              ∙ whole;
          left = h.left;
          right = IsCanonical-tail cmp p u ws second;
        }

    pub IsMerging-Equal : (x : Term K) → x.at ≡ t.at → x.coefficient ≡ sum_mod p t.coefficient u.coefficient
        → cmp t.at u.at ≡ Equal → IsMerging cmp p (done ++ put x.at x.coefficient []) ts ws sum
    IsMerging-Equal x at coefficient equal =
        record {
          merged =
              append_assoc done (put x.at x.coefficient []) (add cmp p ts ws)
              ∙ ap (λ l. done ++ l) (put-append x.at x.coefficient (add cmp p ts ws))
              ∙ (λ i. done ++ put (at i) (coefficient i) (add cmp p ts ws))
              ∙ ap (λ l. done ++ l) (sym (add-Equal cmp order p t ts u ws first second equal))
              ∙ whole;
          left = IsCanonical-tail cmp p t ts first;
          right = IsCanonical-tail cmp p u ws second;
        }
