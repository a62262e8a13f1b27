-- All places of a degree, with those at one more generator.
use Rattle.std.proofs.Common.{◌≡◌, inl, inr, ℕ, ◌+◌, ◌<◌, ◌≤◌, List, [], ◌∷◌, ◌++◌, length, take, get_or, ℤ, pos, ◌+ℤ◌, ◌<ℤ◌, sym, ◌∙◌, ap, subst, arith, length-append, length-take-le}
use Rattle.std.specs.List.{Contains}
use Rattle.std.proofs.Math.Seq.{get_or-append_seam}
use Rattle.std.proofs.lemmas.Bool.{cases_lt}
use Rattle.std.proofs.lemmas.Int.{ints}
use Rattle.std.proofs.lemmas.List.{get_or_append_left, take_more}
use Rattle.std.proofs.lemmas.List.Elements.{Contains-append_left, Contains-append_right}
use Rattle.sf_algebra.specs.Monomials.{Monomial, VARIABLES, one, exponent_sum, monomial_degree}
use Rattle.sf_algebra.specs.Multiples.{place_product}
use Rattle.sf_algebra.specs.Rings.{ones}
use Rattle.sf_algebra.specs.Vectors.{Place, generator_degree}
use Rattle.sf_algebra.proofs.Basics.Lists.{AllByRecursion-append, AllByRecursion-weaken}
use Rattle.sf_algebra.proofs.Monomials.Products.{product-comm, product-one_first}
use Rattle.sf_algebra.proofs.Monomials.Weights.{degree_by_ones}
use Rattle.sf_algebra.proofs.Vectors.Positions.{place_cmp-later}
use Rattle.sf_variables.specs.Columns.{IsColumn, AreColumns}
use Rattle.sf_dense.specs.PlaceLists.{multiples_of}
use Rattle.sf_dense.proofs.PlacesOfDegree.AllMultiples.{IsMultiple, AreFalling-append, multiples_of-inside, multiples_of-all, multiples_of-falling}
use Rattle.sf_dense.proofs.PlacesOfDegree.LastVariables.{IsOfDegree}

-- a monomial times the generator
times_generator : (i : ℕ) (a : Monomial)
    → place_product a (record { position = i; monomial = one }) ≡ record { position = i; monomial = a }
times_generator i a = ap (λ b. record { position = i; monomial = b }) (product-comm a one ∙ product-one_first a)

module _ (n : ℕ) (gs : List ℤ) (g d : ℤ) where
  -- the places at the generators so far stay
  IsColumn-more : (k : Place) → IsColumn ones n gs d k → IsColumn ones n (gs ++ g ∷ []) d k
  IsColumn-more k h =
      let same = get_or_append_left gs (g ∷ []) (pos 0) k.position h.generator in
      let more = length-append gs (g ∷ []) in
      let before = h.generator in
      record {
        generator = omega arith;
        degree = h.degree ∙ ap (λ e. e +ℤ pos (monomial_degree ones k.monomial)) (sym same);
        variables = h.variables;
      }

  -- a place with another generator is at one of those so far
  IsColumn-fewer : (k : Place) → k.position < length gs → IsColumn ones n (gs ++ g ∷ []) d k → IsColumn ones n gs d k
  IsColumn-fewer k before h =
      let same = get_or_append_left gs (g ∷ []) (pos 0) k.position before in
      record {
        generator = before;
        degree = h.degree ∙ ap (λ e. e +ℤ pos (monomial_degree ones k.monomial)) same;
        variables = h.variables;
      }

  -- one at the last generator has what its monomial lacks to the degree
  last_degree : (k : Place) → length gs ≤ k.position → IsColumn ones n (gs ++ g ∷ []) d k
      → (k.position ≡ length gs) × (d ≡ g +ℤ pos (exponent_sum k.monomial))
  last_degree k from h =
      let more = length-append gs (g ∷ []) in
      let inside = h.generator in
      let here : k.position ≡ length gs = omega arith in
      let degree = ap (λ i. generator_degree (gs ++ g ∷ []) i) here ∙ get_or-append_seam gs g [] (pos 0) in (
        here,
        h.degree ∙ ap (λ e. e +ℤ pos (monomial_degree ones k.monomial)) degree
            ∙ ap (λ e. g +ℤ pos e) (sym (degree_by_ones k.monomial)),
      )

  -- a generator of a greater degree has no places
  pub AreColumns-skip : (ks : List Place) → d <ℤ g → AreColumns ones n gs d ks
      → AreColumns ones n (gs ++ g ∷ []) d ks
  AreColumns-skip ks above h = record {
    falling = h.falling;
    inside = AllByRecursion-weaken (IsColumn ones n gs d) (IsColumn ones n (gs ++ g ∷ []) d) IsColumn-more ks h.inside;
    all = λ k column.
        elim (cases_lt k.position (length gs)) [
          | inl before ↦ h.all k (IsColumn-fewer k before column)
          | inr from ↦ let e = (last_degree k from column).1 in absurd (omega (arith, ints))
        ];
  }

  -- a monomial of what the last generator lacks to the degree
  last_column : (r : ℕ) (a : Monomial) → d ≡ g +ℤ pos r → IsOfDegree r n a
      → IsColumn ones n (gs ++ g ∷ []) d (record { position = length gs; monomial = a })
  last_column r a degree h =
      let more = length-append gs (g ∷ []) in
      record {
        generator = omega arith;
        degree =
            degree ∙ ap (λ e. g +ℤ pos e) (sym h.degree ∙ degree_by_ones a)
            ∙ ap (λ e. e +ℤ pos (monomial_degree ones a)) (sym (get_or-append_seam gs g [] (pos 0)));
        variables = h.variables;
      }

  -- the places at a generator of degree d - r are its multiples by the monomials of degree r
  pub AreColumns-add : (ks : List Place) (r : ℕ) → n ≤ VARIABLES → d ≡ g +ℤ pos r → AreColumns ones n gs d ks
      → AreColumns ones n (gs ++ g ∷ []) d (ks ++ multiples_of (record { position = length gs; monomial = one }) r n)
  AreColumns-add ks r room degree h =
      let at : Place = record { position = length gs; monomial = one } in
      let new = multiples_of at r n in
      record {
        falling =
            AreFalling-append ones (λ k. k.position < length gs) (IsMultiple at r n)
            (λ k l before w.
            let here : l.position ≡ length gs = ap (λ m. m.position) (sym w.2) in
            place_cmp-later ones l k (omega arith))
            ks
            new
            h.falling
            (AllByRecursion-weaken (IsColumn ones n gs d) (λ k. k.position < length gs) (λ k c. c.generator) ks h.inside)
            (multiples_of-falling at r n room)
            (multiples_of-inside at r n room);
        inside =
            AllByRecursion-append (IsColumn ones n (gs ++ g ∷ []) d) ks new
            (AllByRecursion-weaken (IsColumn ones n gs d) (IsColumn ones n (gs ++ g ∷ []) d) IsColumn-more ks h.inside)
            (AllByRecursion-weaken (IsMultiple at r n) (IsColumn ones n (gs ++ g ∷ []) d)
            (λ l w. subst (IsColumn ones n (gs ++ g ∷ []) d) (sym (times_generator (length gs) w.0) ∙ w.2)
            (last_column r w.0 degree w.1))
            new
            (multiples_of-inside at r n room));
        all = λ k column.
            elim (cases_lt k.position (length gs)) [
              | inl before ↦ Contains-append_left ks new k (h.all k (IsColumn-fewer k before column))
              | inr from ↦
                  let e = last_degree k from column in
                  let lacks = e.1 in
                  let whole : place_product k.monomial at ≡ k =
                  times_generator (length gs) k.monomial
                  ∙ ap (λ i. record { position = i; monomial = k.monomial }) (sym e.0) in
                  Contains-append_right ks new k
                  (subst (Contains new) whole
                  (multiples_of-all at r n room k.monomial
                  (record { degree = omega (arith, ints); variables = column.variables })))
            ];
      }

-- of some generators those up to a place, and then with the one at this place
module _ (n : ℕ) (gs : List ℤ) (i : ℕ) (e d : ℤ) (ks : List Place) (inside : i < length gs)
    (h : AreColumns ones n (take i gs) d ks) where
  pub AreColumns-next_skip : d <ℤ get_or gs i e → AreColumns ones n (take (i + 1) gs) d ks
  AreColumns-next_skip above =
      subst (λ l. AreColumns ones n l d ks) (sym (take_more gs i e inside))
      (AreColumns-skip n (take i gs) (get_or gs i e) d ks above h)

  pub AreColumns-next_add : (r : ℕ) (a : Monomial) (new : List Place) → n ≤ VARIABLES → d ≡ get_or gs i e +ℤ pos r
      → a ≡ one → new ≡ ks ++ multiples_of (record { position = i; monomial = a }) r n
      → AreColumns ones n (take (i + 1) gs) d new
  AreColumns-next_add r a new room degree unit added =
      let size : length (take i gs) ≡ i = length-take-le i gs (omega arith) in
      let whole : ks ++ multiples_of (record { position = length (take i gs); monomial = one }) r n ≡ new =
      (λ j. ks ++ multiples_of (record { position = size j; monomial = sym unit j }) r n) ∙ sym added in
      subst (λ l. AreColumns ones n l d new) (sym (take_more gs i e inside))
      (subst (AreColumns ones n (take i gs ++ get_or gs i e ∷ []) d) whole
      (AreColumns-add n (take i gs) (get_or gs i e) d ks r room degree h))
