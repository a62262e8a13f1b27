-- The part of a vector at a product b of the variables past n: its terms whose outer part is b, divided by b.
use Rattle.std.proofs.Common.{◌≡◌, ℕ, ◌+◌, Bool, List, [], ◌∷◌, map, filter, sym, ◌∙◌, ap, arith, ℤ, pos, ◌+ℤ◌, neg_ℤ}
use Rattle.std.specs.declared.cmp.Ordering.TheVariants.{Less}
use Rattle.std.specs.List.{AllByRecursion}
use Rattle.std.proofs.lemmas.Int.{ints}
use Rattle.sf_algebra.specs.Monomials.{Monomial, product, monomial_degree}
use Rattle.sf_algebra.specs.Multiples.{place_product}
use Rattle.sf_algebra.specs.Rings.{Ring, Weights}
use Rattle.sf_algebra.specs.Terms.{Term, IsDescending, IsNonzeroResidue}
use Rattle.sf_algebra.specs.Vectors.{Place, Vector, place_cmp, place_degree, IsHomogeneous, IsCanonicalRow, IsVector}
use Rattle.sf_algebra.proofs.Basics.Filters.{AllByRecursion-filter, AllByRecursion-filter_keeps, IsCanonical-filter}
use Rattle.sf_algebra.proofs.Monomials.MonomialEquality.{same_exponents, Decides-same_exponents}
use Rattle.sf_algebra.proofs.Monomials.Places.{place_cmp-place_product}
use Rattle.sf_algebra.proofs.Monomials.Products.{monomial_degree-product}
use Rattle.sf_variables.proofs.OuterParts.Splitting.{inner, outer, product-outer_inner}

-- a place whose monomial is the inner part
abbrev pub inner_place : ℕ → Place → Place
inner_place n k = record { position = k.position; monomial = inner n k.monomial }

abbrev pub inner_term : ℕ → Term Place → Term Place
inner_term n t = record { at = inner_place n t.at; coefficient = t.coefficient }

-- whether b is the outer part
abbrev pub is_at_outer : ℕ → Monomial → Term Place → Bool
is_at_outer n b t = same_exponents (outer n t.at.monomial) b

abbrev pub outer_terms : ℕ → Monomial → List (Term Place) → List (Term Place)
outer_terms n b ts = map (inner_term n) (filter (is_at_outer n b) ts)

-- the part of a vector, whose degree is less by that of b
abbrev pub outer_part : Weights → ℕ → Monomial → Vector → Vector
outer_part weights n b v = record {
  degree = v.degree +ℤ neg_ℤ (pos (monomial_degree weights b));
  terms = outer_terms n b v.terms;
}

module _ (n : ℕ) (b : Monomial) where
  abbrev HasOuter : Term Place → Type 0
  HasOuter t = outer n t.at.monomial ≡ b

  pub AllByRecursion-at_outer : (ts : List (Term Place)) → AllByRecursion HasOuter (filter (is_at_outer n b) ts)
  AllByRecursion-at_outer ts =
      AllByRecursion-filter HasOuter (is_at_outer n b) ts (λ t e. (Decides-same_exponents (outer n t.at.monomial) b).0 e)

  pub place_product-inner : (k : Place) → outer n k.monomial ≡ b → place_product b (inner_place n k) ≡ k
  place_product-inner k e =
      let whole : product b (inner n k.monomial) ≡ k.monomial =
      ap (λ c. product c (inner n k.monomial)) (sym e) ∙ product-outer_inner n k.monomial in
      λ i. record { position = k.position; monomial = whole i }

  -- places with one outer part compare as their inner parts
  place_cmp-inner : (weights : Weights) (j k : Place) → outer n j.monomial ≡ b → outer n k.monomial ≡ b
      → place_cmp weights (inner_place n j) (inner_place n k) ≡ place_cmp weights j k
  place_cmp-inner weights j k d e =
      sym (place_cmp-place_product weights b (inner_place n j) (inner_place n k))
      ∙ (λ i. place_cmp weights (place_product-inner j d i) (place_product-inner k e i))

  each_below : (weights : Weights) (t : Term Place) (us : List (Term Place)) → HasOuter t → AllByRecursion HasOuter us
      → AllByRecursion (λ (u : Term Place). place_cmp weights u.at t.at ≡ Less) us
      → AllByRecursion (λ (u : Term Place). place_cmp weights u.at (inner_place n t.at) ≡ Less) (map (inner_term n) us)
  each_below weights t [] e each h = tt
  each_below weights t (u ∷ us) e each h =
      (place_cmp-inner weights u.at t.at each.0 e ∙ h.0, each_below weights t us e each.1 h.1)

  IsDescending-inner : (weights : Weights) (ts : List (Term Place)) → AllByRecursion HasOuter ts
      → IsDescending (place_cmp weights) ts → IsDescending (place_cmp weights) (map (inner_term n) ts)
  IsDescending-inner weights [] each h = tt
  IsDescending-inner weights (t ∷ ts) each h =
      (each_below weights t ts each.0 each.1 h.0, IsDescending-inner weights ts each.1 h.1)

  residues-inner : (p : ℕ) (ts : List (Term Place)) → AllByRecursion (IsNonzeroResidue p) ts
      → AllByRecursion (IsNonzeroResidue p) (map (inner_term n) ts)
  residues-inner p [] h = tt
  residues-inner p (t ∷ ts) h = (h.0, residues-inner p ts h.1)

  pub IsCanonical-outer_terms : (ring : Ring) (ts : List (Term Place)) → IsCanonicalRow ring ts
      → IsCanonicalRow ring (outer_terms n b ts)
  IsCanonical-outer_terms ring ts h =
      let canonical = IsCanonical-filter (is_at_outer n b) (place_cmp ring.weights) ring.modulus ts h in
      record {
        descending = IsDescending-inner ring.weights _ (AllByRecursion-at_outer ts) canonical.descending;
        residues = residues-inner ring.modulus _ canonical.residues;
      }

  place_degree-inner : (weights : Weights) (degrees : List ℤ) (k : Place) → outer n k.monomial ≡ b
      → place_degree weights degrees (inner_place n k)
      ≡ place_degree weights degrees k +ℤ neg_ℤ (pos (monomial_degree weights b))
  place_degree-inner weights degrees k e =
      let whole : monomial_degree weights k.monomial ≡ monomial_degree weights b + monomial_degree weights
      (inner n k.monomial) =
      ap (λ (l : Place). monomial_degree weights l.monomial) (sym (place_product-inner k e))
      ∙ monomial_degree-product weights b (inner n k.monomial) in
      omega (arith, ints, whole)

  IsHomogeneous-inner : (weights : Weights) (degrees : List ℤ) (d : ℤ) (ts : List (Term Place))
      → AllByRecursion HasOuter ts → IsHomogeneous weights degrees d ts
      → IsHomogeneous weights degrees (d +ℤ neg_ℤ (pos (monomial_degree weights b))) (map (inner_term n) ts)
  IsHomogeneous-inner weights degrees d [] each h = tt
  IsHomogeneous-inner weights degrees d (t ∷ ts) each h = (
    (
      h.0.0,
      ap (λ e. e +ℤ neg_ℤ (pos (monomial_degree weights b))) h.0.1 ∙ sym
          (place_degree-inner weights degrees t.at each.0),
    ),
    IsHomogeneous-inner weights degrees d ts each.1 h.1,
  )

  pub IsVector-outer_part : (ring : Ring) (degrees : List ℤ) (v : Vector) → IsVector ring degrees v
      → IsVector ring degrees (outer_part ring.weights n b v)
  IsVector-outer_part ring degrees v h = record {
    canonical = IsCanonical-outer_terms ring v.terms h.canonical;
    homogeneous =
        IsHomogeneous-inner ring.weights degrees v.degree _ (AllByRecursion-at_outer v.terms)
        (AllByRecursion-filter_keeps _ (is_at_outer n b) v.terms h.homogeneous);
  }
