-- Forms of lines as data: which words stand in a line one after the other, and how far a text reaches into the lines of some forms.
-- (This project's own.)
use Rattle.std.specs.Prelude.{ℕ, max, Bool, true, false, not, ◌&&◌, if◌then◌else◌, Option, Some, None, List, [], ◌∷◌, length, IsTrue, IsFalse}
use Rattle.std.specs.Option.{option_map, option_map_or}
use Rattle.std.specs.List.{list_all, list_any}
use Rattle.std.specs.Str.{bytes_eq}
use Rattle.sf_grammar.specs.Parts.{Machine, reach_of}
use Rattle.sf_grammar.specs.Reaches.{Free, Reaches, nothing}
use Rattle.sf_grammar.specs.WordReaches.{word_reach, greatest_by}
use Rattle.sf_grammar.specs.Words.{words, begins_with, is_space, is_filled}

-- what stands in a line: this word, a word of a kind, as many words of a kind as there are, or anything up to the line's end
pub data Item (K : Type 0) : Type 0 where
  word : List ℕ → Item K
  one : K → Item K
  many : K → Item K
  anything : Item K

-- no word has to follow
abbrev pub may_end : {K : Type 0} → List (Item K) → Bool
may_end [] = true
may_end (word spelling ∷ items) = false
may_end (one k ∷ items) = false
may_end (many k ∷ items) = may_end items
may_end (anything ∷ items) = true

-- a form of lines begins with a word
abbrev pub begins_with_word : {K : Type 0} → List (Item K) → Bool
begins_with_word [] = false
begins_with_word (word spelling ∷ items) = true
begins_with_word (one k ∷ items) = true
begins_with_word (many k ∷ items) = false
begins_with_word (anything ∷ items) = false

-- a word that is filled and has no space
abbrev pub is_solid : List ℕ → Bool
is_solid text = is_filled text && list_all (λ b. not (is_space b)) text

-- the items that are left in a line, and whether nothing of the line was read yet
pub record LinePlace (K : Type 0) : Type 0 where
  pub at_front : Bool
  pub left : List (Item K)

abbrev pub items_behind : {K : Type 0} → List (Item K) → LinePlace K
items_behind items = record { at_front = false; left = items }

abbrev pub front : {K : Type 0} → List (Item K) → LinePlace K
front items = record { at_front = true; left = items }

-- which words are of a kind, and how far a text reaches into these
pub record Kinds (K : Type 0) : Type 0 where
  pub is_of : K → List ℕ → Bool
  pub reach : K → List ℕ → ℕ

-- no word of a kind is empty, and it is known how far a text without spaces reaches into these words
pub record IsRightKind {K : Type 0} (kinds : Kinds K) (k : K) : Type 0 where
  pub filled : IsFalse (kinds.is_of k [])
  pub reached : (text : List ℕ) → Free is_space text → Reaches is_space (kinds.is_of k) text (kinds.reach k text)

module _ {K : Type 0} (kinds : Kinds K) where
  -- the items behind a word, if it may stand where these items do
  abbrev pub left_after : List (Item K) → List ℕ → Option (List (Item K))
  left_after [] w = None
  left_after (word spelling ∷ items) w = if bytes_eq w spelling then Some items else None
  left_after (one k ∷ items) w = if kinds.is_of k w then Some items else None
  left_after (many k ∷ items) w = if kinds.is_of k w then Some (many k ∷ items) else left_after items w
  left_after (anything ∷ items) w = Some (anything ∷ items)

  -- these words stand as the items say
  abbrev pub fits : List (Item K) → List (List ℕ) → Bool
  fits items [] = may_end items
  fits items (w ∷ ws) = option_map_or (λ left. fits left ws) (left_after items w) false

  -- a line of a form has its words, and doesn't begin with a space
  abbrev pub fits_line : List (Item K) → List ℕ → Bool
  fits_line form line = not (begins_with 32 line) && fits form (words line)

  -- a line of one of these forms
  abbrev pub fits_some : List (List (Item K)) → List ℕ → Bool
  fits_some forms line = list_any (λ form. fits_line form line) forms

  -- behind as many words of a kind as there are, the line ends or has a fixed word that isn't of the kind
  abbrev pub may_follow : K → List (Item K) → Bool
  may_follow k [] = true
  may_follow k (word spelling ∷ items) = not (kinds.is_of k spelling)
  may_follow k (one j ∷ items) = false
  may_follow k (many j ∷ items) = false
  may_follow k (anything ∷ items) = false

  -- some words stand as the items say
  abbrev pub are_items : List (Item K) → Bool
  are_items [] = true
  are_items (word spelling ∷ items) = is_solid spelling && are_items items
  are_items (one k ∷ items) = are_items items
  are_items (many k ∷ items) = may_follow k items && are_items items
  are_items (anything ∷ items) = true

  abbrev pub is_form : List (Item K) → Bool
  is_form form = begins_with_word form && are_items form

  -- how far a text reaches into the words that may stand where these items do
  abbrev pub items_reach : List (Item K) → List ℕ → ℕ
  items_reach [] text = 0
  items_reach (word spelling ∷ items) text = word_reach spelling text
  items_reach (one k ∷ items) text = kinds.reach k text
  items_reach (many k ∷ items) text = max (kinds.reach k text) (items_reach items text)
  items_reach (anything ∷ items) text = length text

  -- a line is read word by word; behind the first word parts between spaces may be empty
  abbrev pub line_machine : Machine (LinePlace K)
  line_machine =
      record {
        last = λ place w. if is_filled w then option_map_or may_end (left_after place.left w) false
            else (not place.at_front && may_end place.left);
        next = λ place w. if is_filled w then option_map items_behind (left_after place.left w)
            else (if place.at_front then None else Some place);
      }

  -- how far a text reaches into the lines of a form
  abbrev pub form_reach : List (Item K) → List ℕ → ℕ
  form_reach form text =
      reach_of line_machine is_space (λ place w. items_reach place.left w) (front form) text

  -- and into the lines of some forms
  abbrev pub line_reach : List (List (Item K)) → List ℕ → ℕ
  line_reach forms text = greatest_by (λ form. form_reach form text) forms

-- where it is known how far a text reaches into each kind of words, it is known for lines of one form and more
abbrev pub FormsReach : Type 0 → Type 0
FormsReach K =
    (kinds : Kinds K) → ((k : K) → IsRightKind kinds k) → (form : List (Item K)) (forms : List (List (Item K)))
    → IsTrue (list_all (is_form kinds) (form ∷ forms)) → (text : List ℕ)
    → Reaches nothing (fits_some kinds (form ∷ forms)) text (line_reach kinds (form ∷ forms) text)
