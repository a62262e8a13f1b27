-- What the words of a line of a form are read as: a value for each word of a kind, and none for the fixed words. (This project's
-- own.)
use Rattle.std.specs.Prelude.{ℕ, Bool, true, false, if◌then◌else◌, Option, Some, None, option_and_then, List, [], ◌∷◌}
use Rattle.std.specs.Option.{option_map, option_map_or}
use Rattle.std.specs.Str.{bytes_eq}
use Rattle.sf_grammar.specs.Forms.{Item}
use Rattle.sf_grammar.specs.Forms.Item.{word, one, many, anything}

-- no word is left
abbrev pub is_end : List (List ℕ) → Bool
is_end [] = true
is_end (w ∷ ws) = false

-- the words behind this word, with which they begin
abbrev pub after : List ℕ → List (List ℕ) → Option (List (List ℕ))
after spelling [] = None
after spelling (w ∷ ws) = if bytes_eq w spelling then Some ws else None

-- what the first word is read as, and the words behind it
abbrev pub first_of : {V : Type 0} → (List ℕ → Option V) → List (List ℕ) → Option (V × List (List ℕ))
first_of read [] = None
first_of read (w ∷ ws) = option_map (λ v. (v, ws)) (read w)

-- what as many words at the front are read as as can be, and the words behind them
abbrev pub leading : {V : Type 0} → (List ℕ → Option V) → List (List ℕ) → List V × List (List ℕ)
leading read [] = ([], [])
leading read (w ∷ ws) = option_map_or (λ v. (v ∷ (leading read ws).0, (leading read ws).1)) (read w) ([], w ∷ ws)

-- the values of a form's words, where there is a type of values for each kind
abbrev pub Values : {K : Type 0} → (K → Type 0) → List (Item K) → Type 0
Values Value [] = Unit {0}
Values Value (word spelling ∷ items) = Values Value items
Values Value (one k ∷ items) = Value k × Values Value items
Values Value (many k ∷ items) = List (Value k) × Values Value items
Values Value (anything ∷ items) = Unit {0}

-- and how they are read off some words, where it is known what a word of a kind is read as
abbrev pub values : {K : Type 0} (Value : K → Type 0) → ((k : K) → List ℕ → Option (Value k)) → (items : List (Item K))
    → List (List ℕ) → Option (Values Value items)
values Value read [] ws = if is_end ws then Some tt else None
values Value read (word spelling ∷ items) ws = option_and_then (values Value read items) (after spelling ws)
values Value read (one k ∷ items) ws =
    option_and_then (λ p. option_map (λ vs. (p.0, vs)) (values Value read items p.1)) (first_of (read k) ws)
values Value read (many k ∷ items) ws =
    option_map (λ vs. ((leading (read k) ws).0, vs)) (values Value read items (leading (read k) ws).1)
values Value read (anything ∷ items) ws = Some tt
