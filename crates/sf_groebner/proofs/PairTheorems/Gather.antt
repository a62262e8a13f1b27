-- What stands in a combination at places with the greatest image is gathered at one of them, where pairs are settled.
use Rattle.std.proofs.Common.{◌≡◌, ℕ, ◌%◌, List, [], ◌∷◌, ◌++◌, if◌then◌else◌, map, subst, sym, ◌∙◌, ap}
use Rattle.std.specs.Ordering.{is_eq}
use Rattle.std.proofs.lemmas.List.{map-append}
use Rattle.sf_algebra.specs.Multiples.{place_product, term_product}
use Rattle.sf_algebra.specs.Residues.{sum_mod}
use Rattle.sf_algebra.specs.Rings.{Ring}
use Rattle.sf_algebra.specs.Sums.{total}
use Rattle.sf_algebra.specs.Terms.{Term}
use Rattle.sf_algebra.specs.Vectors.{Place, place_cmp}
use Rattle.sf_algebra.proofs.Arithmetic.Residues.{sum_mod-assoc, sum_mod-first, sum_mod-zero, sum_mod-zero_first}
use Rattle.sf_algebra.proofs.Basics.Lists.{AllByRecursion-append}
use Rattle.sf_algebra.proofs.Monomials.Orders.{ordering_cases, place_cmp-Equal}
use Rattle.sf_algebra.proofs.Terms.Normal.{EachPlace}
use Rattle.sf_algebra.proofs.Terms.SameTotals.{SameTotals, SameTotals-append, SameTotals-equal, SameTotals-products, SameTotals-refl, SameTotals-sym, SameTotals-trans}
use Rattle.sf_algebra.proofs.Terms.Totals.{total-append, total-cons, total-nil, total-reduced}
use Rattle.sf_groebner.specs.Criterion.{lead_multiple}
use Rattle.sf_groebner.proofs.PairTheorems.Exchanges.{sum_mod-left_comm}
use Rattle.sf_groebner.proofs.PairTheorems.LeadMultiples.{IsAllSettled, IsAtMost, IsModule, IsSettled, IsUnder, at_place, top_part}
use Rattle.sf_groebner.proofs.PairTheorems.Multiplied.{EachPlace-constant, SameTotals-constant, constant_term}

-- a combination as what is less than b, a coefficient y at r, and a member of S
pub record IsGathered (ring : Ring) (In : Place → Type 0) (lead : ℕ → Place) (S : List (Term Place) → Type 0)
    (r b : Place) (c : List (Term Place)) (y : ℕ) : Type 0 where
  pub lower : List (Term Place)
  pub rest : List (Term Place)
  pub under : EachPlace (IsUnder ring.weights In lead b) lower
  pub inside : S rest
  pub same : SameTotals ring.modulus c (lower ++ (record { at = r; coefficient = y } ∷ rest))

module _ (ring : Ring) (In : Place → Type 0) (lead : ℕ → Place) (S : List (Term Place) → Type 0)
    (is_module : IsModule ring.modulus S) (r b : Place) where
  gather_none : IsGathered ring In lead S r b [] 0
  gather_none = record {
    lower = [];
    rest = [];
    under = tt;
    inside = is_module.has_none;
    same = record {
      totals = λ g additive.
          total-nil ring.modulus g
          ∙ sym (total-cons ring.modulus g (record { at = r; coefficient = 0 }) [] ∙ ap (sum_mod ring.modulus _) (total-nil ring.modulus g) ∙ sum_mod-zero ring.modulus _ ∙ additive.at_zero r);
    };
  }

  -- a term with a smaller image
  gather_less : (t : Term Place) (c : List (Term Place)) (y : ℕ) → IsUnder ring.weights In lead b t.at
      → IsGathered ring In lead S r b c y → IsGathered ring In lead S r b (t ∷ c) y
  gather_less t c y h k = record {
    lower = t ∷ k.lower;
    rest = k.rest;
    under = (h, k.under);
    inside = k.inside;
    same = SameTotals-append ring.modulus (SameTotals-refl ring.modulus (t ∷ [])) k.same;
  }

  -- a term with the image b
  gather_equal : (t : Term Place) (c : List (Term Place)) (y : ℕ) → IsSettled ring In lead S t.at r
      → lead_multiple lead r ≡ b → IsGathered ring In lead S r b c y
      → IsGathered ring In lead S r b (t ∷ c) (sum_mod ring.modulus t.coefficient y)
  gather_equal t c y s e k =
      let x = t.coefficient in
      let times : List (Term Place) → List (Term Place) =
      map (term_product place_product ring.modulus (constant_term x)) in
      let first : SameTotals ring.modulus (t ∷ []) (times (at_place r) ++ (times s.lower ++ times s.rest)) =
      SameTotals-trans ring.modulus (SameTotals-sym ring.modulus (SameTotals-constant ring.modulus x t.at))
      (SameTotals-trans ring.modulus (SameTotals-products ring.modulus place_product (constant_term x) s.same)
      (SameTotals-equal ring.modulus _ _ (map-append (term_product place_product ring.modulus (constant_term x)) (at_place r) (s.lower ++ s.rest) ∙ ap (λ us. times (at_place r) ++ us) (map-append (term_product place_product ring.modulus (constant_term x)) s.lower s.rest)))) in
      record {
        lower = times s.lower ++ k.lower;
        rest = times s.rest ++ k.rest;
        under =
            AllByRecursion-append _ (times s.lower) k.lower
            (EachPlace-constant _ ring.modulus x s.lower (subst (λ l. EachPlace (IsUnder ring.weights In lead l) s.lower) e s.under)) k.under;
        inside = is_module.has_sums _ _ (is_module.has_products (constant_term x) s.rest s.inside) k.inside;
        same =
            SameTotals-trans ring.modulus (SameTotals-append ring.modulus first k.same)
            (regrouped (times s.lower) (times s.rest) k.lower k.rest x);
      }
    where
      regrouped : (e u d s : List (Term Place)) (x : ℕ)
          → SameTotals ring.modulus
          ((map (term_product place_product ring.modulus (constant_term x)) (at_place r) ++ (e ++ u))
          ++ (d ++ (record { at = r; coefficient = y } ∷ s)))
          ((e ++ d) ++ (record { at = r; coefficient = sum_mod ring.modulus x y } ∷ (u ++ s)))
      regrouped e u d s x = record {
        totals = λ g additive.
            let gx = g (record { at = r; coefficient = x }) in
            let gy = g (record { at = r; coefficient = y }) in
            let te = total ring.modulus g e in
            let tu = total ring.modulus g u in
            let td = total ring.modulus g d in
            let ts = total ring.modulus g s in
            let times_r : List (Term Place) =
            map (term_product place_product ring.modulus (constant_term x)) (at_place r) in
            let one_x : total ring.modulus g times_r ≡ gx % ring.modulus =
            (SameTotals-constant ring.modulus x r).totals g additive
            ∙ total-cons ring.modulus g (record { at = r; coefficient = x }) []
            ∙ ap (sum_mod ring.modulus gx) (total-nil ring.modulus g) ∙ sum_mod-zero ring.modulus gx in
            let left : total ring.modulus g ((map (term_product place_product ring.modulus (constant_term x)) (at_place r) ++ (e ++ u)) ++ (d ++ (record { at = r; coefficient = y } ∷ s)))
            ≡ sum_mod ring.modulus (sum_mod ring.modulus gx (sum_mod ring.modulus te tu))
            (sum_mod ring.modulus td (sum_mod ring.modulus gy ts)) =
            total-append ring.modulus g (times_r ++ (e ++ u)) (d ++ (record { at = r; coefficient = y } ∷ s))
            ∙ (λ i.
            sum_mod ring.modulus
            ((total-append ring.modulus g times_r (e ++ u) ∙ (λ j. sum_mod ring.modulus (one_x j) (total-append ring.modulus g e u j)) ∙ sum_mod-first ring.modulus gx (sum_mod ring.modulus te tu)) i)
            ((total-append ring.modulus g d (record { at = r; coefficient = y } ∷ s) ∙ ap (sum_mod ring.modulus td) (total-cons ring.modulus g (record { at = r; coefficient = y }) s)) i)) in
            let right : total ring.modulus g ((e ++ d) ++ (record { at = r; coefficient = sum_mod ring.modulus x y } ∷ (u ++ s)))
            ≡ sum_mod ring.modulus (sum_mod ring.modulus te td)
            (sum_mod ring.modulus (sum_mod ring.modulus gx gy) (sum_mod ring.modulus tu ts)) =
            total-append ring.modulus g (e ++ d) (record { at = r; coefficient = sum_mod ring.modulus x y } ∷ (u ++ s))
            ∙ (λ i.
            sum_mod ring.modulus (total-append ring.modulus g e d i)
            ((total-cons ring.modulus g (record { at = r; coefficient = sum_mod ring.modulus x y }) (u ++ s) ∙ sym (sum_mod-first ring.modulus (g (record { at = r; coefficient = sum_mod ring.modulus x y })) (total ring.modulus g (u ++ s))) ∙ (λ j. sum_mod ring.modulus (additive.at_sum r x y j) (total-append ring.modulus g u s j))) i)) in
            left ∙ sorted gx gy te tu td ts ∙ sym right;
      }
        where
          sorted : (gx gy te tu td ts : ℕ)
              → sum_mod ring.modulus (sum_mod ring.modulus gx (sum_mod ring.modulus te tu))
              (sum_mod ring.modulus td (sum_mod ring.modulus gy ts))
              ≡ sum_mod ring.modulus (sum_mod ring.modulus te td)
              (sum_mod ring.modulus (sum_mod ring.modulus gx gy) (sum_mod ring.modulus tu ts))
          sorted gx gy te tu td ts = simp (sum_mod-assoc, sum_mod-left_comm)

  pub gather : IsAllSettled ring In lead S → In r → lead_multiple lead r ≡ b → (c : List (Term Place))
      → EachPlace (IsAtMost ring.weights In lead b) c
      → IsGathered ring In lead S r b c (total ring.modulus (top_part ring.weights lead b) c)
  gather settled inside e [] h =
      subst (IsGathered ring In lead S r b []) (sym (total-nil ring.modulus (top_part ring.weights lead b))) gather_none
  gather settled inside e (t ∷ c) h =
      let rest = gather settled inside e c h.1 in
      let top = top_part ring.weights lead b in
      ordering_cases (place_cmp ring.weights (lead_multiple lead t.at) b)
      (λ less.
      subst (IsGathered ring In lead S r b (t ∷ c))
      (sym (total-cons ring.modulus top t c ∙ ap (λ o. sum_mod ring.modulus (if is_eq o then t.coefficient else 0) (total ring.modulus top c)) less ∙ sum_mod-zero_first ring.modulus _ ∙ total-reduced ring.modulus top c))
      (gather_less t c (total ring.modulus top c) (h.0.0, less) rest))
      (λ equal.
      subst (IsGathered ring In lead S r b (t ∷ c))
      (sym (total-cons ring.modulus top t c ∙ ap (λ o. sum_mod ring.modulus (if is_eq o then t.coefficient else 0) (total ring.modulus top c)) equal))
      (gather_equal t c (total ring.modulus top c) (settled t.at r h.0.0 inside (place_cmp-Equal ring.weights _ _ equal ∙ sym e)) e rest))
      (λ greater. absurd (h.0.1 greater))
