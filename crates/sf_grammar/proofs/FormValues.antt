-- Those lines of a form can be read that fit it.
use Rattle.std.proofs.Common.{◌≡◌, ℕ, List, [], ◌∷◌, Bool, true, false, cond, Option, Some, None, is_some, option_map, option_and_then, refl, sym, ap, ◌∙◌, bytes_eq}
use Rattle.std.specs.Option.{option_map_or}
use Rattle.sf_grammar.specs.Forms.{Item, Kinds, left_after, fits}
use Rattle.sf_grammar.specs.Forms.Item.{word, one, many, anything}
use Rattle.sf_grammar.specs.FormValues.{leading, Values, values}

is_some-map : {X Y : Type 0} (f : X → Y) (o : Option X) → is_some (option_map f o) ≡ is_some o
is_some-map f None = refl
is_some-map f (Some x) = refl

module _ {K : Type 0} (kinds : Kinds K) (Value : K → Type 0) (read : (k : K) → List ℕ → Option (Value k))
    (same : (k : K) (w : List ℕ) → is_some (read k w) ≡ kinds.is_of k w) where
  -- as many words of a kind as there are fit, and then the others
  fits-leading : (k : K) (items : List (Item K)) (ws : List (List ℕ))
      → fits kinds items (leading (read k) ws).1 ≡ fits kinds (many k ∷ items) ws
  fits-leading k items [] = refl
  fits-leading k items (w ∷ ws) = by (read k w) refl (fits-leading k items ws)
    where
      by : (o : Option (Value k)) → read k w ≡ o → fits kinds items (leading (read k) ws).1 ≡ fits kinds (many k ∷ items) ws
          → fits kinds items (option_map_or {U = List (Value k) × List (List ℕ)} (λ v. (v ∷ (leading (read k) ws).0, (leading (read k) ws).1)) o
          ([], w ∷ ws)).1
          ≡ option_map_or (λ left. fits kinds left ws)
          (cond (kinds.is_of k w) (Some (many k ∷ items)) (left_after kinds items w)) false
      by None e later = rw (sym (same k w) ∙ ap is_some e) refl
      by (Some v) e later = rw (sym (same k w) ∙ ap is_some e) later

  pub fits-anything : (items : List (Item K)) (ws : List (List ℕ)) → fits kinds (anything ∷ items) ws ≡ true
  fits-anything items [] = refl
  fits-anything items (w ∷ ws) = fits-anything items ws

  pub values-some : (items : List (Item K)) (ws : List (List ℕ))
      → is_some (values Value read items ws) ≡ fits kinds items ws
  values-some [] [] = refl
  values-some [] (w ∷ ws) = refl
  values-some (word spelling ∷ items) [] = refl
  values-some (word spelling ∷ items) (w ∷ ws) = by (bytes_eq w spelling) (values-some items ws)
    where
      by : (x : Bool) → is_some (values Value read items ws) ≡ fits kinds items ws
          → is_some (option_and_then (values Value read items) (cond x (Some ws) None))
          ≡ option_map_or (λ left. fits kinds left ws) (cond x (Some items) None) false
      by true later = later
      by false later = refl
  values-some (one k ∷ items) [] = refl
  values-some (one k ∷ items) (w ∷ ws) = by (read k w) refl (values-some items ws)
    where
      by : (o : Option (Value k)) → read k w ≡ o → is_some (values Value read items ws) ≡ fits kinds items ws
          → is_some {T = Value k × Values Value items}
          (option_and_then {T = Value k × List (List ℕ)} (λ p. option_map (λ vs. (p.0, vs)) (values Value read items p.1))
          (option_map (λ v. (v, ws)) o))
          ≡ option_map_or (λ left. fits kinds left ws) (cond (kinds.is_of k w) (Some items) None) false
      by None e later = rw (sym (same k w) ∙ ap is_some e) refl
      by (Some v) e later =
          rw (sym (same k w) ∙ ap is_some e) (is_some-map (λ vs. (v, vs)) (values Value read items ws) ∙ later)
  values-some (many k ∷ items) ws =
      is_some-map (λ vs. ((leading (read k) ws).0, vs)) (values Value read items (leading (read k) ws).1)
      ∙ (values-some items (leading (read k) ws).1 ∙ fits-leading k items ws)
  values-some (anything ∷ items) ws = sym (fits-anything items ws)
