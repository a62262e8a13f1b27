-- Texts that are cut at separators and read part by part, from one state to the next: which texts are in such a language, and how
-- far a text reaches into it. (This project's own.)
use Rattle.std.specs.Prelude.{ℕ, ◌+◌, Bool, false, ◌||◌, Option, is_some, List, [], ◌∷◌, length, IsTrue, IsFalse, ◌≡◌, Some}
use Rattle.std.specs.Option.{option_map_or}
use Rattle.std.specs.List.{slice_split}
use Rattle.sf_grammar.specs.Reaches.{Free, Begins, Reaches}

-- whether a part may be the last one in a state, and in which state the text goes on behind a part, if it may
pub record Machine (S : Type 0) : Type 0 where
  pub last : S → List ℕ → Bool
  pub next : S → List ℕ → Option S

-- the parts are read one after the other
abbrev pub runs : {S : Type 0} → Machine S → S → List (List ℕ) → Bool
runs machine state [] = false
runs machine state (part ∷ []) = machine.last state part
runs machine state (part ∷ other ∷ others) =
    option_map_or (λ after. runs machine after (other ∷ others)) (machine.next state part) false

-- the text is in the language of this state: its parts between the separators are read one after the other
abbrev pub accepts : {S : Type 0} → Machine S → (ℕ → Bool) → S → List ℕ → Bool
accepts machine separates state text = runs machine state (slice_split separates text)

-- a text of this state's language may have this as its first part
abbrev pub takes : {S : Type 0} → Machine S → S → List ℕ → Bool
takes machine state part = machine.last state part || is_some (machine.next state part)

-- how far parts reach, where it is known how far a single part does: behind each part that the text may go on after, as far as the
-- others reach
abbrev pub parts_reach : {S : Type 0} → Machine S → (S → List ℕ → ℕ) → S → List (List ℕ) → ℕ
parts_reach machine reach state [] = 0
parts_reach machine reach state (part ∷ []) = reach state part
parts_reach machine reach state (part ∷ other ∷ others) =
    option_map_or (λ after. length part + 1 + parts_reach machine reach after (other ∷ others)) (machine.next state part)
    (reach state part)

-- how far a text reaches into the language of this state
abbrev pub reach_of : {S : Type 0} → Machine S → (ℕ → Bool) → (S → List ℕ → ℕ) → S → List ℕ → ℕ
reach_of machine separates reach state text = parts_reach machine reach state (slice_split separates text)

-- a byte of one of two kinds
abbrev pub either : (ℕ → Bool) → (ℕ → Bool) → ℕ → Bool
either p q b = p b || q b

-- it is known how far single parts reach from the states that stand: some separator isn't one of the bytes apart, a text may be
-- completed from each such state, behind a part the state stands as well, and `reach` is right for each single part
pub record IsRight {S : Type 0} (apart separates : ℕ → Bool) (machine : Machine S) (stands : S → Bool)
    (reach : S → List ℕ → ℕ) : Type 0 where
  pub byte : ℕ
  pub separated : IsTrue (separates byte)
  pub inside : IsFalse (apart byte)
  pub completed : (state : S) → IsTrue (stands state) → Begins apart (accepts machine separates state) []
  pub kept : (state after : S) (part : List ℕ) → IsTrue (stands state) → machine.next state part ≡ Some after
      → IsTrue (stands after)
  pub reached : (state : S) (part : List ℕ) → IsTrue (stands state) → Free (either apart separates) part
      → Reaches (either apart separates) (takes machine state) part (reach state part)

-- so it is known how far texts reach
abbrev pub PartsReach : {S : Type 0} → (ℕ → Bool) → (ℕ → Bool) → Machine S → (S → Bool) → (S → List ℕ → ℕ) → Type 0
PartsReach {S} apart separates machine stands reach =
    (state : S) (text : List ℕ) → IsTrue (stands state) → Free apart text
    → Reaches apart (accepts machine separates state) text (reach_of machine separates reach state text)
