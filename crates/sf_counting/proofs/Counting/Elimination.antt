-- Elimination: vectors that are zero everywhere where they are zero at given places have no more leads than these places
-- are. Vectors are whatever has a value modulo a prime at each place; a lead is the greatest place of a nonzero value.
use Rattle.std.proofs.Common.{◌≡◌, ◌⊎◌, inl, inr, ℕ, suc, ◌<◌, ◌≤◌, List, [], ◌∷◌, length, refl, ◌∙◌, ap, arith}
use Rattle.std.proofs.Math.Nat.{mod-eq_of_lt}
use Rattle.std.proofs.lemmas.Bool.{cases_eq}
use Rattle.std.specs.declared.cmp.Ordering.TheVariants.{Less}
use Rattle.std.specs.List.{AllByRecursion}
use Rattle.sf_algebra.specs.Primes.{IsPrime}
use Rattle.sf_algebra.specs.Residues.{sum_mod, product_mod, negative_mod}
use Rattle.sf_algebra.specs.Rings.{Weights}
use Rattle.sf_algebra.specs.Vectors.{Place, place_cmp}
use Rattle.sf_algebra.proofs.Arithmetic.Inverses.{inverse_exists}
use Rattle.sf_algebra.proofs.Arithmetic.Residues.{negative_mod-below, product_mod-assoc, product_mod-comm, product_mod-one, product_mod-zero, sum_mod-negative, sum_mod-zero}
use Rattle.sf_algebra.proofs.Monomials.Orders.{place_cmp_total}
use Rattle.sf_variables.specs.Columns.{AreFalling}

module _ {X : Type 0} (weights : Weights) (p : ℕ) (prime : IsPrime p) (value : X → Place → ℕ) where
  -- values are residues, and a vector with a multiple of another added is one of them
  pub record IsClosed (In : X → Type 0) : Type 0 where
    pub below : (v : X) → In v → (k : Place) → value v k < p
    pub combined : (x : ℕ) (u v : X) → In u → In v
        → (w : X) × In w × ((k : Place) → value w k ≡ sum_mod p (value u k) (product_mod p x (value v k)))

  -- l is the greatest place of a nonzero value of v
  pub record IsLead (v : X) (l : Place) : Type 0 where
    pub nonzero : 0 < value v l
    pub greatest : (k : Place) → place_cmp weights l k ≡ Less → value v k ≡ 0

  abbrev pub HasLead : (X → Type 0) → Place → Type 0
  HasLead In l = (v : X) × In v × IsLead v l

  -- those of the vectors that are zero at c
  abbrev IsZeroAt : (X → Type 0) → Place → X → Type 0
  IsZeroAt In c v = In v × (value v c ≡ 0)

  zero_combined : (x a b : ℕ) → a ≡ 0 → b ≡ 0 → sum_mod p a (product_mod p x b) ≡ 0
  zero_combined x a b h k =
      (λ i. sum_mod p (h i) (product_mod p x (k i))) ∙ ap (sum_mod p 0) (product_mod-zero p x) ∙ sum_mod-zero p 0
      ∙ mod-eq_of_lt (omega (arith, prime.above_one))

  IsClosed-zero : (In : X → Type 0) (c : Place) → IsClosed In → IsClosed (IsZeroAt In c)
  IsClosed-zero In c closed = record {
    below = λ v h. closed.below v h.0;
    combined = λ x u v h k.
        let w = closed.combined x u v h.0 k.0 in
        (w.0, (w.1, w.2 c ∙ zero_combined x (value u c) (value v c) h.1 k.1), w.2);
  }

  -- a multiple of a nonzero residue cancels another one
  cancels : (a b : ℕ) → a < p → 0 < b → b < p → (x : ℕ) × (sum_mod p a (product_mod p x b) ≡ 0)
  cancels a b a_below positive b_below =
      let inverse = inverse_exists p prime b positive b_below in
      let above = prime.above_one in
      let opposite : ℕ = negative_mod p a in
      let opposite_below : opposite < p = negative_mod-below p a (omega arith) in (
        product_mod p opposite inverse.0,
        ap (sum_mod p a)
            (product_mod-assoc p opposite inverse.0 b
            ∙ ap (product_mod p opposite) (product_mod-comm p inverse.0 b ∙ inverse.2)
            ∙ product_mod-one p opposite
            ∙ mod-eq_of_lt opposite_below)
            ∙ sum_mod-negative p a a_below,
      )

  -- the least lead whose vector isn't zero at c, the pivot, and the others, whose vectors may be taken to be zero there
  record Pivot (In : X → Type 0) (c : Place) (ls : List Place) : Type 0 where
    pivot : X
    inside : In pivot
    lead : Place
    is_lead : IsLead pivot lead
    nonzero : 0 < value pivot c
    others : List Place
    falling : AreFalling weights others
    leads : AllByRecursion (HasLead (IsZeroAt In c)) others
    below : (b : Place) → AllByRecursion (λ l. place_cmp weights l b ≡ Less) ls
        → (place_cmp weights lead b ≡ Less) × AllByRecursion (λ l. place_cmp weights l b ≡ Less) others
    size : length ls ≡ suc (length others)

  module _ (In : X → Type 0) (c : Place) (closed : IsClosed In) where
    -- a greater lead keeps its place where a multiple of the pivot is added
    cleared : (v q : X) (l lead : Place) → In v → IsLead v l → In q → IsLead q lead → 0 < value q c
        → place_cmp weights lead l ≡ Less → HasLead (IsZeroAt In c) l
    cleared v q l lead inside is_lead q_inside q_lead nonzero less =
        let found =
        cancels (value v c) (value q c) (closed.below v inside c) nonzero (closed.below q q_inside c) in
        let w = closed.combined found.0 v q inside q_inside in
        let kept : value w.0 l ≡ value v l =
        w.2 l ∙ ap (λ n. sum_mod p (value v l) (product_mod p found.0 n)) (q_lead.greatest l less)
        ∙ ap (sum_mod p (value v l)) (product_mod-zero p found.0) ∙ sum_mod-zero p (value v l)
        ∙ mod-eq_of_lt (closed.below v inside l) in (
          w.0,
          (w.1, w.2 c ∙ found.1),
          record {
            nonzero = omega (arith, kept, is_lead.nonzero);
            greatest = λ k above.
                w.2 k
                ∙ zero_combined found.0 (value v k) (value q k) (is_lead.greatest k above)
                (q_lead.greatest k ((place_cmp_total weights).trans lead l k less above));
          },
        )

    eliminated : (ls : List Place) → AreFalling weights ls → AllByRecursion (HasLead In) ls
        → AllByRecursion (HasLead (IsZeroAt In c)) ls ⊎ Pivot In c ls
    eliminated [] falling leads = inl tt
    eliminated (l ∷ ls) falling leads =
        let v : X = leads.0.0 in
        let inside : In v = leads.0.1 in
        let is_lead : IsLead v l = leads.0.2 in
        elim (eliminated ls falling.1 leads.1) [
          | inl zero ↦ elim (cases_eq (value v c) 0) [
            | inl none ↦ inl ((v, (inside, none), is_lead), zero)
            | inr some ↦ inr (record {
              pivot = v;
              inside = inside;
              lead = l;
              is_lead = is_lead;
              nonzero = omega (arith, some);
              others = ls;
              falling = falling.1;
              leads = zero;
              below = λ b h. h;
              size = refl;
            })
          ]
          | inr q ↦ let under = q.below l falling.0 in inr (record {
            pivot = q.pivot;
            inside = q.inside;
            lead = q.lead;
            is_lead = q.is_lead;
            nonzero = q.nonzero;
            others = l ∷ q.others;
            falling = (under.1, q.falling);
            leads = (cleared v q.pivot l q.lead inside is_lead q.inside q.is_lead q.nonzero under.0, q.leads);
            below = λ b h. let lower = q.below b h.1 in (lower.0, (h.0, lower.1));
            size = ap suc q.size;
          })
        ]

  pub count_leads : (cs : List Place) (In : X → Type 0) → IsClosed In
      → ((v : X) → In v → AllByRecursion (λ c. value v c ≡ 0) cs → (k : Place) → value v k ≡ 0)
      → (ls : List Place) → AreFalling weights ls → AllByRecursion (HasLead In) ls → length ls ≤ length cs
  count_leads [] In closed zero [] falling leads = omega arith
  count_leads [] In closed zero (l ∷ ls) falling leads =
      let none = zero leads.0.0 leads.0.1 tt l in
      let some = leads.0.2.nonzero in
      absurd (omega (arith, none, some))
  count_leads (c ∷ cs) In closed zero ls falling leads =
      let further = count_leads cs (IsZeroAt In c) (IsClosed-zero In c closed) (λ v h none. zero v h.0 (h.1, none)) in
      elim (eliminated In c closed ls falling leads) [
        | inl all ↦ let fewer = further ls falling all in omega (arith, fewer)
        | inr q ↦ let fewer = further q.others q.falling q.leads in omega (arith, fewer, q.size)
      ]
