-- Constant terms of relations: the coefficients by which the rows give combinations of other rows.
use Rattle.std.proofs.Common.{◌≡◌, true, false, ⊎_elim, ℕ, ◌<◌, List, [], ◌∷◌, ◌++◌, length, append_assoc, refl, sym, ◌∙◌, ap}
use Rattle.std.proofs.lemmas.List.{map-append}
use Rattle.std.specs.List.{AllByRecursion}
use Rattle.sf_algebra.specs.Matrices.{Matrix}
use Rattle.sf_algebra.specs.MatrixOperations.{row_combination}
use Rattle.sf_algebra.specs.Monomials.{Monomial, exponent_sum}
use Rattle.sf_algebra.specs.Multiples.{place_product, term_product}
use Rattle.sf_algebra.specs.Rings.{IsRing}
use Rattle.sf_algebra.specs.Terms.{Term}
use Rattle.sf_algebra.specs.Vectors.{Place, Vector}
use Rattle.sf_algebra.proofs.Basics.Lists.{AllByRecursion-append}
use Rattle.sf_algebra.proofs.Terms.SameTotals.{SameTotals, SameTotals-append, SameTotals-equal, SameTotals-refl, SameTotals-swap, SameTotals-sym, SameTotals-trans}
use Rattle.sf_groebner.proofs.PairTheorems.LeadMultiples.{IsModule}
use Rattle.sf_groebner.proofs.PairTheorems.Multiplied.{EachPlace-products}
use Rattle.sf_groebner.proofs.PairTheorems.Schreyer.{IsSpanned, IsSpanned-module}
use Rattle.sf_minimal.specs.Constants.{StandWithin, constants, is_constant, turned}
use Rattle.sf_minimal.proofs.ConstantTerms.{IsNotConstant, SameTotals-turned, all_turned, constant_cases, constants-first, constants-other, not_constant-product, products, turned-turned}
use Rattle.sf_minimal.proofs.Modules.{combination-module}

module _ (p : ℕ) where
  -- four lists, the two in the middle exchanged
  SameTotals-exchange : (a b c d : List (Term Place)) → SameTotals p ((a ++ b) ++ (c ++ d)) ((a ++ c) ++ (b ++ d))
  SameTotals-exchange a b c d =
      SameTotals-trans p (SameTotals-equal p _ _ (append_assoc a b (c ++ d)))
      (SameTotals-trans p (SameTotals-append p (SameTotals-refl p a) inner)
      (SameTotals-equal p _ _ (sym (append_assoc a c (b ++ d)))))
    where
      inner : SameTotals p (b ++ (c ++ d)) (c ++ (b ++ d))
      inner =
          SameTotals-trans p (SameTotals-equal p _ _ (sym (append_assoc b c d)))
          (SameTotals-trans p (SameTotals-append p (SameTotals-swap p b c) (SameTotals-refl p d))
          (SameTotals-equal p _ _ (append_assoc c b d)))

  -- terms are their constant terms, turned round twice, and others
  pub record IsSplit (n : ℕ) (ts : List (Term Place)) : Type 0 where
    pub others : List (Term Place)
    pub within : StandWithin n others
    pub not_constant : AllByRecursion IsNotConstant others
    pub same : SameTotals p (all_turned n (constants n ts) ++ others) ts

  pub split : (n : ℕ) (ts : List (Term Place)) → StandWithin n ts → IsSplit n ts
  split n [] h = record { others = []; within = tt; not_constant = tt; same = SameTotals-refl p [] }
  split n (t ∷ ts) h =
      let rest = split n ts h.1 in
      ⊎_elim
      (λ (k : is_constant t ≡ true × (exponent_sum t.at.monomial ≡ 0)). record {
        others = rest.others;
        within = rest.within;
        not_constant = rest.not_constant;
        same = SameTotals-trans p
            (SameTotals-equal p _ _
            (ap (λ us. all_turned n us ++ rest.others) (constants-first n t ts k.1)
            ∙ ap (λ u. u ∷ (all_turned n (constants n ts) ++ rest.others)) (turned-turned n t h.0)))
            (SameTotals-append p (SameTotals-refl p (t ∷ [])) rest.same);
      })
      (λ (k : is_constant t ≡ false × IsNotConstant t). record {
        others = t ∷ rest.others;
        within = (h.0, rest.within);
        not_constant = (k.1, rest.not_constant);
        same = SameTotals-trans p
            (SameTotals-equal p _ _ (ap (λ us. all_turned n us ++ (t ∷ rest.others)) (constants-other n t ts k.1)))
            (SameTotals-trans p (SameTotals-exchange [] (all_turned n (constants n ts)) (t ∷ []) rest.others)
            (SameTotals-append p (SameTotals-refl p (t ∷ [])) rest.same));
      })
      (constant_cases t)

  all_turned-products : (n : ℕ) (s : Term Monomial) (us : List (Term Place))
      → all_turned n (products p s us) ≡ products p s (all_turned n us)
  all_turned-products n s [] = refl
  all_turned-products n s (u ∷ us) = ap (λ vs. turned n (term_product place_product p s u) ∷ vs) (all_turned-products n s us)

module _ (m : Matrix) (positive : IsRing m.ring) (others : List Vector) where
  -- the combination of the rows is one of the other rows
  abbrev pub IsRelation : List (Term Place) → Type 0
  IsRelation c = IsSpanned m.ring others (row_combination m.ring m.rows c)

  pub relation-module : IsModule m.ring.modulus IsRelation
  relation-module =
      combination-module m.ring positive (IsSpanned m.ring others) (IsSpanned-module m.ring positive others) m.rows

  -- e turned round is a relation, up to terms that aren't constant
  pub record IsConstantPart (e : List (Term Place)) : Type 0 where
    pub rest : List (Term Place)
    pub within : StandWithin (length m.rows) rest
    pub not_constant : AllByRecursion IsNotConstant rest
    pub relation : IsRelation (all_turned (length m.rows) e ++ rest)

  pub constant_part-module : IsModule m.ring.modulus IsConstantPart
  constant_part-module =
      let n = length m.rows in
      let p = m.ring.modulus in
      record {
        has_none = record { rest = []; within = tt; not_constant = tt; relation = relation-module.has_none };
        has_sums = λ us vs h k. record {
          rest = h.rest ++ k.rest;
          within = AllByRecursion-append _ h.rest k.rest h.within k.within;
          not_constant = AllByRecursion-append IsNotConstant h.rest k.rest h.not_constant k.not_constant;
          relation = relation-module.has_same _ _
              (SameTotals-trans p (SameTotals-exchange p (all_turned n us) h.rest (all_turned n vs) k.rest)
              (SameTotals-equal p _ _ (ap (λ xs. xs ++ (h.rest ++ k.rest)) (sym (map-append (turned n) us vs)))))
              (relation-module.has_sums _ _ h.relation k.relation);
        };
        has_products = λ s us h. record {
          rest = products p s h.rest;
          within = EachPlace-products (λ k. k.position < n) (λ k. k.position < n) p s (λ k e. e) h.rest h.within;
          not_constant = not_constant-product p s h.rest h.not_constant;
          relation = relation-module.has_same _ _
              (SameTotals-equal p _ _
              (map-append (term_product place_product p s) (all_turned n us) h.rest
              ∙ ap (λ xs. xs ++ products p s h.rest) (sym (all_turned-products p n s us))))
              (relation-module.has_products s _ h.relation);
        };
        has_same = λ us vs same h. record {
          rest = h.rest;
          within = h.within;
          not_constant = h.not_constant;
          relation = relation-module.has_same _ _
              (SameTotals-append p (SameTotals-turned p n us vs same) (SameTotals-refl p h.rest)) h.relation;
        };
      }

  -- the constant terms of a relation, up to terms that aren't constant
  pub constants-part : (c more : List (Term Place)) → StandWithin (length m.rows) c → StandWithin (length m.rows) more
      → AllByRecursion IsNotConstant more → IsRelation (c ++ more) → IsConstantPart (constants (length m.rows) c)
  constants-part c more h within not_constant relation =
      let n = length m.rows in
      let p = m.ring.modulus in
      let parts = split p n c h in
      record {
        rest = parts.others ++ more;
        within = AllByRecursion-append _ parts.others more parts.within within;
        not_constant = AllByRecursion-append IsNotConstant parts.others more parts.not_constant not_constant;
        relation = relation-module.has_same _ _
            (SameTotals-trans p
            (SameTotals-append p (SameTotals-sym p parts.same) (SameTotals-refl p more))
            (SameTotals-equal p _ _ (append_assoc (all_turned n (constants n c)) parts.others more)))
            relation;
      }
