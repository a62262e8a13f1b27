-- How far a text reaches into the lines of some forms.
use Rattle.std.proofs.Common.{◌≡◌, ℕ, ◌≤◌, max, List, [], ◌∷◌, ◌++◌, length, Bool, true, false, not, ◌||◌, ◌&&◌, cond, Option, Some, None, is_some, option_map, filter, refl, sym, ap, ◌∙◌, subst, arith, append-nil, length-append, bytes_eq}
use Rattle.std.specs.List.{list_all, slice_split, AllByRecursion}
use Rattle.std.specs.Option.{option_map_or}
use Rattle.std.proofs.lemmas.Bool.{true≢false, and_parts, or_right, not-true}
use Rattle.std.proofs.lemmas.Slice.Eq.{bytes_eq-Decides}
use Rattle.sf_grammar.specs.Forms.{Item, may_end, begins_with_word, is_solid, LinePlace, items_behind, front, Kinds, IsRightKind, left_after, fits, fits_line, may_follow, are_items, is_form, items_reach, line_machine, form_reach, FormsReach}
use Rattle.sf_grammar.specs.Forms.Item.{word, one, many, anything}
use Rattle.sf_grammar.specs.Parts.{runs, accepts, takes, IsRight}
use Rattle.sf_grammar.specs.Reaches.{Free, Begins, Reaches, nothing}
use Rattle.sf_grammar.specs.WordReaches.{word_reach}
use Rattle.sf_grammar.specs.Words.{is_space, is_filled}
use Rattle.sf_grammar.proofs.Cutting.{Filled, slice_split-filled}
use Rattle.sf_grammar.proofs.Languages.{same_language, Reaches-nothing, Begins-nothing, union_reached, some_reached}
use Rattle.sf_grammar.proofs.Parts.{parts_reached, accepts-parted}
use Rattle.sf_grammar.proofs.WordReaches.{word_reached}

-- a solid word has no space
Free_solid : (spelling : List ℕ) → list_all (λ b. not (is_space b)) spelling ≡ true → Free is_space spelling
Free_solid [] e = tt
Free_solid (b ∷ bs) e =
    let parts = and_parts (not (is_space b)) (list_all (λ c. not (is_space c)) bs) e in
    (not-true (is_space b) parts.0, Free_solid bs parts.1)

Free-nothing : (text : List ℕ) → Free nothing text
Free-nothing [] = tt
Free-nothing (b ∷ bs) = (refl, Free-nothing bs)

bytes_eq_refl : (text : List ℕ) → bytes_eq text text ≡ true
bytes_eq_refl text = (bytes_eq-Decides text text).1 refl

module _ {K : Type 0} (kinds : Kinds K) where
  -- from behind the first word on, a text is cut at spaces into words and empty parts
  runs-behind : (parts : List (List ℕ)) (w : List ℕ) (items : List (Item K))
      → runs (line_machine kinds) (items_behind items) (w ∷ parts) ≡ fits kinds items (filter is_filled (w ∷ parts))
  runs-behind [] [] items = refl
  runs-behind [] (b ∷ bs) items = refl
  runs-behind (v ∷ vs) [] items = runs-behind vs v items
  runs-behind (v ∷ vs) (b ∷ bs) items =
      by (left_after kinds items (b ∷ bs)) (λ left. runs-behind vs v left)
    where
      by : (o : Option (List (Item K)))
          → ((left : List (Item K)) → runs (line_machine kinds) (items_behind left) (v ∷ vs) ≡ fits kinds left (filter is_filled (v ∷ vs)))
          → option_map_or (λ after. runs (line_machine kinds) after (v ∷ vs)) (option_map items_behind o) false
          ≡ option_map_or (λ left. fits kinds left (filter is_filled (v ∷ vs))) o false
      by None later = refl
      by (Some left) later = later left

  runs-front : (b : ℕ) (bs : List ℕ) (parts : List (List ℕ)) (items : List (Item K))
      → runs (line_machine kinds) (front items) ((b ∷ bs) ∷ parts) ≡ runs (line_machine kinds) (items_behind items) ((b ∷ bs) ∷ parts)
  runs-front b bs [] items = refl
  runs-front b bs (v ∷ vs) items = refl

  runs-front_empty : (parts : List (List ℕ)) → Filled parts → (items : List (Item K))
      → runs (line_machine kinds) (front items) ([] ∷ parts) ≡ false
  runs-front_empty parts f items = rw f.are refl

  no_end : (items : List (Item K)) → begins_with_word items ≡ true → may_end items ≡ false
  no_end [] e = absurd (true≢false (sym e))
  no_end (word spelling ∷ items) e = refl
  no_end (one k ∷ items) e = refl
  no_end (many k ∷ items) e = absurd (true≢false (sym e))
  no_end (anything ∷ items) e = absurd (true≢false (sym e))

  -- the machine reads the lines of a form
  accepts-front : (items : List (Item K)) → begins_with_word items ≡ true → (line : List ℕ)
      → accepts (line_machine kinds) is_space (front items) line ≡ fits_line kinds items line
  accepts-front items e [] = sym (no_end items e)
  accepts-front items e (b ∷ bs) = by (is_space b) refl (slice_split-filled is_space bs)
    where
      by : (x : Bool) → is_space b ≡ x → Filled (slice_split is_space bs)
          → accepts (line_machine kinds) is_space (front items) (b ∷ bs) ≡ fits_line kinds items (b ∷ bs)
      by true at f = rw at (runs-front_empty (slice_split is_space bs) f items)
      by false at f = rw (at, f.are) (runs-front b f.first f.others items ∙ runs-behind f.others (b ∷ f.first) items)

  -- the words that may stand where these items do
  abbrev admits : List (Item K) → List ℕ → Bool
  admits items w = is_some (left_after kinds items w)

  if_some : {X : Type 0} (b : Bool) (x : X) → is_some (cond b (Some x) None) ≡ b
  if_some true x = refl
  if_some false x = refl

  if_some_or : {X : Type 0} (b : Bool) (x : X) (o : Option X) → is_some (cond b (Some x) o) ≡ (b || is_some o)
  if_some_or true x o = refl
  if_some_or false x o = refl

  or_swap : (a b c : Bool) → (b || (a || c)) ≡ (a || (b || c))
  or_swap true true c = refl
  or_swap true false c = refl
  or_swap false true c = refl
  or_swap false false c = refl

  nothing_reached : (text : List ℕ) → Reaches is_space (λ t. not (is_filled t)) text 0
  nothing_reached text =
      Reaches-nothing is_space (λ t. not (is_filled t)) text (record { rest = []; free = tt; accepted = refl })
      (λ more less e b. by more b.rest b.accepted)
    where
      by : (more rest : List ℕ) → not (is_filled (more ++ rest)) ≡ true → length more ≤ 0
      by [] rest e = omega arith
      by (x ∷ more) rest e = absurd (true≢false (sym e))

  module _ (right : (k : K) → IsRightKind kinds k) where
    spelling_reached : (spelling : List ℕ) → is_solid spelling ≡ true → (text : List ℕ)
        → Reaches is_space (λ t. bytes_eq t spelling) text (word_reach spelling text)
    spelling_reached spelling solid text =
        word_reached is_space spelling
        (Free_solid spelling (and_parts (is_filled spelling) (list_all (λ b. not (is_space b)) spelling) solid).1) text

    -- behind the first word, parts may also be empty
    behind_reached : (items : List (Item K)) → are_items kinds items ≡ true → (text : List ℕ) → Free is_space text
        → Reaches is_space (λ t. not (is_filled t) || admits items t) text (items_reach kinds items text)
    behind_reached [] e text free =
        same_language is_space (λ t. not (is_filled t)) (λ t. not (is_filled t) || false) (λ t. same (not (is_filled t))) text 0
        (nothing_reached text)
      where
        same : (b : Bool) → b ≡ (b || false)
        same true = refl
        same false = refl
    behind_reached (word spelling ∷ items) e text free =
        same_language is_space (λ t. not (is_filled t) || bytes_eq t spelling) (λ t. not (is_filled t) || admits (word spelling ∷ items) t)
        (λ t. ap (λ x. not (is_filled t) || x) (sym (if_some (bytes_eq t spelling) items))) text (word_reach spelling text)
        (subst (λ n. Reaches is_space (λ t. not (is_filled t) || bytes_eq t spelling) text n) (omega arith)
        (union_reached is_space (λ t. not (is_filled t)) (λ t. bytes_eq t spelling) text 0 (word_reach spelling text)
        (nothing_reached text)
        (spelling_reached spelling (and_parts (is_solid spelling) (are_items kinds items) e).0 text)))
    behind_reached (one k ∷ items) e text free =
        same_language is_space (λ t. not (is_filled t) || kinds.is_of k t) (λ t. not (is_filled t) || admits (one k ∷ items) t)
        (λ t. ap (λ x. not (is_filled t) || x) (sym (if_some (kinds.is_of k t) items))) text (kinds.reach k text)
        (subst (λ n. Reaches is_space (λ t. not (is_filled t) || kinds.is_of k t) text n) (omega arith)
        (union_reached is_space (λ t. not (is_filled t)) (kinds.is_of k) text 0 (kinds.reach k text)
        (nothing_reached text) ((right k).reached text free)))
    behind_reached (many k ∷ items) e text free =
        same_language is_space (λ t. kinds.is_of k t || (not (is_filled t) || admits items t))
        (λ t. not (is_filled t) || admits (many k ∷ items) t) (λ t. same t) text
        (max (kinds.reach k text) (items_reach kinds items text))
        (union_reached is_space (kinds.is_of k) (λ t. not (is_filled t) || admits items t) text (kinds.reach k text)
        (items_reach kinds items text) ((right k).reached text free)
        (behind_reached items (and_parts (may_follow kinds k items) (are_items kinds items) e).1 text free))
      where
        same : (t : List ℕ) → (kinds.is_of k t || (not (is_filled t) || admits items t))
            ≡ (not (is_filled t) || admits (many k ∷ items) t)
        same t =
            or_swap (not (is_filled t)) (kinds.is_of k t) (admits items t)
            ∙ ap (λ x. not (is_filled t) || x) (sym (if_some_or (kinds.is_of k t) (many k ∷ items) (left_after kinds items t)))
    behind_reached (anything ∷ items) e text free =
        record {
          front = text;
          back = [];
          split = sym (append-nil text);
          size = refl;
          begins = record { rest = []; free = tt; accepted = or_right (not (is_filled (text ++ []))) true refl };
          longest = λ more less e b. omega (arith, ap length e ∙ length-append more less);
        }

    -- a form begins with a word, so its first part isn't empty
    front_reached : (items : List (Item K)) → begins_with_word items ≡ true → are_items kinds items ≡ true → (text : List ℕ)
        → Free is_space text → Reaches is_space (admits items) text (items_reach kinds items text)
    front_reached [] begins e text free = absurd (true≢false (sym begins))
    front_reached (word spelling ∷ items) begins e text free =
        same_language is_space (λ t. bytes_eq t spelling) (admits (word spelling ∷ items))
        (λ t. sym (if_some (bytes_eq t spelling) items)) text (word_reach spelling text)
        (spelling_reached spelling (and_parts (is_solid spelling) (are_items kinds items) e).0 text)
    front_reached (one k ∷ items) begins e text free =
        same_language is_space (kinds.is_of k) (admits (one k ∷ items)) (λ t. sym (if_some (kinds.is_of k t) items)) text
        (kinds.reach k text) ((right k).reached text free)
    front_reached (many k ∷ items) begins e text free = absurd (true≢false (sym begins))
    front_reached (anything ∷ items) begins e text free = absurd (true≢false (sym begins))

    -- an empty part is no word of a form
    admits_empty : (items : List (Item K)) → begins_with_word items ≡ true → are_items kinds items ≡ true
        → admits items [] ≡ false
    admits_empty [] begins e = refl
    admits_empty (word [] ∷ items) begins e = absurd (true≢false (sym e))
    admits_empty (word (c ∷ cs) ∷ items) begins e = refl
    admits_empty (one k ∷ items) begins e = if_some (kinds.is_of k []) items ∙ (right k).filled
    admits_empty (many k ∷ items) begins e = absurd (true≢false (sym begins))
    admits_empty (anything ∷ items) begins e = absurd (true≢false (sym begins))

  -- a place of a line that can be completed
  abbrev stands : LinePlace K → Bool
  stands place = (not place.at_front || begins_with_word place.left) && are_items kinds place.left

  takes_filled : (o : Option (List (Item K)))
      → (option_map_or may_end o false || is_some (option_map items_behind o)) ≡ is_some o
  takes_filled None = refl
  takes_filled (Some left) = or_right (may_end left) true refl

  takes-behind : (items : List (Item K)) (t : List ℕ)
      → takes (line_machine kinds) (items_behind items) t ≡ (not (is_filled t) || admits items t)
  takes-behind items [] = or_right (may_end items) true refl
  takes-behind items (b ∷ bs) = takes_filled (left_after kinds items (b ∷ bs))

  takes-front : (items : List (Item K)) (t : List ℕ) → admits items [] ≡ false
      → takes (line_machine kinds) (front items) t ≡ admits items t
  takes-front items [] e = sym e
  takes-front items (b ∷ bs) e = takes_filled (left_after kinds items (b ∷ bs))

  -- what is left behind a word are items
  are_items_left : (items left : List (Item K)) (w : List ℕ) → are_items kinds items ≡ true
      → left_after kinds items w ≡ Some left → are_items kinds left ≡ true
  are_items_left [] left w e goes = cc
  are_items_left (word spelling ∷ items) left w e goes = by (bytes_eq w spelling) goes
    where
      by : (x : Bool) → cond x (Some items) None ≡ Some left → are_items kinds left ≡ true
      by true goes =
          let same : items ≡ left = cc in
          subst (λ xs. are_items kinds xs ≡ true) same (and_parts (is_solid spelling) (are_items kinds items) e).1
      by false goes = cc
  are_items_left (one k ∷ items) left w e goes = by (kinds.is_of k w) goes
    where
      by : (x : Bool) → cond x (Some items) None ≡ Some left → are_items kinds left ≡ true
      by true goes = let same : items ≡ left = cc in subst (λ xs. are_items kinds xs ≡ true) same e
      by false goes = cc
  are_items_left (many k ∷ items) left w e goes =
      by (kinds.is_of k w) goes (λ further. are_items_left items left w (and_parts (may_follow kinds k items) (are_items kinds items) e).1 further)
    where
      by : (x : Bool) → cond x (Some (many k ∷ items)) (left_after kinds items w) ≡ Some left
          → (left_after kinds items w ≡ Some left → are_items kinds left ≡ true) → are_items kinds left ≡ true
      by true goes later = let same : many k ∷ items ≡ left = cc in subst (λ xs. are_items kinds xs ≡ true) same e
      by false goes later = later goes
  are_items_left (anything ∷ items) left w e goes =
      let same : anything ∷ items ≡ left = cc in subst (λ xs. are_items kinds xs ≡ true) same refl

  -- the line goes on behind a word
  through : (at : Bool) (items left : List (Item K)) (w line : List ℕ) → is_filled w ≡ true → Free is_space w
      → left_after kinds items w ≡ Some left → accepts (line_machine kinds) is_space (items_behind left) line ≡ true
      → accepts (line_machine kinds) is_space (record { at_front = at; left = items }) (w ++ 32 ∷ line) ≡ true
  through at items left w line filled free goes onward =
      accepts-parted is_space (line_machine kinds) (record { at_front = at; left = items }) w 32 line free refl
      ∙ rw (filled, goes) onward

  module _ (right : (k : K) → IsRightKind kinds k) where
    spelled : (at : Bool) (spelling : List ℕ) (items : List (Item K)) → is_solid spelling ≡ true
        → Begins nothing (accepts (line_machine kinds) is_space (items_behind items)) []
        → Begins nothing (accepts (line_machine kinds) is_space (record { at_front = at; left = word spelling ∷ items })) []
    spelled at spelling items solid later =
        let parts = and_parts (is_filled spelling) (list_all (λ b. not (is_space b)) spelling) solid in
        record {
          rest = spelling ++ 32 ∷ later.rest;
          free = Free-nothing (spelling ++ 32 ∷ later.rest);
          accepted = through at (word spelling ∷ items) items spelling later.rest parts.0 (Free_solid spelling parts.1)
              (rw (bytes_eq_refl spelling) refl) later.accepted;
        }

    of_kind : (at : Bool) (k : K) (items : List (Item K))
        → Begins nothing (accepts (line_machine kinds) is_space (items_behind items)) []
        → Begins nothing (accepts (line_machine kinds) is_space (record { at_front = at; left = one k ∷ items })) []
    of_kind at k items later =
        by (Begins-nothing is_space (kinds.is_of k) (kinds.reach k []) ((right k).reached [] tt))
      where
        by_word : (w : List ℕ) → Free is_space w → kinds.is_of k w ≡ true
            → Begins nothing (accepts (line_machine kinds) is_space (record { at_front = at; left = one k ∷ items })) []
        by_word [] free e = absurd (true≢false (sym e ∙ (right k).filled))
        by_word (b ∷ bs) free e =
            record {
              rest = (b ∷ bs) ++ 32 ∷ later.rest;
              free = Free-nothing ((b ∷ bs) ++ 32 ∷ later.rest);
              accepted = through at (one k ∷ items) items (b ∷ bs) later.rest refl free (rw e refl) later.accepted;
            }

        by : Begins is_space (kinds.is_of k) []
            → Begins nothing (accepts (line_machine kinds) is_space (record { at_front = at; left = one k ∷ items })) []
        by b = by_word b.rest b.free b.accepted

    -- some line goes on so
    completed : (at : Bool) (items : List (Item K)) → (not at || begins_with_word items) ≡ true
        → are_items kinds items ≡ true
        → Begins nothing (accepts (line_machine kinds) is_space (record { at_front = at; left = items })) []
    completed true [] begins e = absurd (true≢false (sym begins))
    completed false [] begins e = record { rest = []; free = tt; accepted = refl }
    completed at (word spelling ∷ items) begins e =
        let parts = and_parts (is_solid spelling) (are_items kinds items) e in
        spelled at spelling items parts.0 (completed false items refl parts.1)
    completed at (one k ∷ items) begins e = of_kind at k items (completed false items refl e)
    completed true (many k ∷ items) begins e = absurd (true≢false (sym begins))
    completed false (many k ∷ []) begins e = record { rest = []; free = tt; accepted = refl }
    completed false (many k ∷ word spelling ∷ items) begins e =
        let parts = and_parts (not (kinds.is_of k spelling)) (is_solid spelling && are_items kinds items) e in
        let others = and_parts (is_solid spelling) (are_items kinds items) parts.1 in
        let spelled_parts = and_parts (is_filled spelling) (list_all (λ b. not (is_space b)) spelling) others.0 in
        let later = completed false items refl others.1 in
        record {
          rest = spelling ++ 32 ∷ later.rest;
          free = Free-nothing (spelling ++ 32 ∷ later.rest);
          accepted = through false (many k ∷ word spelling ∷ items) items spelling later.rest spelled_parts.0
              (Free_solid spelling spelled_parts.1)
              (rw (not-true (kinds.is_of k spelling) parts.0, bytes_eq_refl spelling) refl) later.accepted;
        }
    completed false (many k ∷ one j ∷ items) begins e = absurd (true≢false (sym e))
    completed false (many k ∷ many j ∷ items) begins e = absurd (true≢false (sym e))
    completed false (many k ∷ anything ∷ items) begins e = absurd (true≢false (sym e))
    completed true (anything ∷ items) begins e = absurd (true≢false (sym begins))
    completed false (anything ∷ items) begins e = record { rest = []; free = tt; accepted = refl }

    kept : (place after : LinePlace K) (w : List ℕ) → stands place ≡ true → (line_machine kinds).next place w ≡ Some after
        → stands after ≡ true
    kept place after [] e goes = by place.at_front refl goes
      where
        by : (x : Bool) → place.at_front ≡ x → cond x None (Some place) ≡ Some after → stands after ≡ true
        by true at goes = cc
        by false at goes = let same : place ≡ after = cc in subst (λ p. stands p ≡ true) same e
    kept place after (b ∷ bs) e goes = by (left_after kinds place.left (b ∷ bs)) refl goes
      where
        by : (o : Option (List (Item K))) → left_after kinds place.left (b ∷ bs) ≡ o → option_map items_behind o ≡ Some after
            → stands after ≡ true
        by None left goes = cc
        by (Some items) left goes =
            let same : items_behind items ≡ after = cc in
            subst (λ p. stands p ≡ true) same
            (are_items_left place.left items (b ∷ bs)
            (and_parts (not place.at_front || begins_with_word place.left) (are_items kinds place.left) e).1 left)

    place_reached : (at : Bool) (items : List (Item K)) → (not at || begins_with_word items) ≡ true
        → are_items kinds items ≡ true → (text : List ℕ) → Free is_space text
        → Reaches is_space (takes (line_machine kinds) (record { at_front = at; left = items })) text
        (items_reach kinds items text)
    place_reached true items begins e text free =
        same_language is_space (admits items) (takes (line_machine kinds) (front items))
        (λ t. sym (takes-front items t (admits_empty right items begins e))) text (items_reach kinds items text)
        (front_reached right items begins e text free)
    place_reached false items begins e text free =
        same_language is_space (λ t. not (is_filled t) || admits items t) (takes (line_machine kinds) (items_behind items))
        (λ t. sym (takes-behind items t)) text (items_reach kinds items text) (behind_reached right items e text free)

    right_machine : IsRight nothing is_space (line_machine kinds) stands (λ place w. items_reach kinds place.left w)
    right_machine =
        record {
          byte = 32;
          separated = refl;
          inside = refl;
          completed = λ place e. let parts = and_parts (not place.at_front || begins_with_word place.left)
              (are_items kinds place.left) e in completed place.at_front place.left parts.0 parts.1;
          kept = λ place after w e goes. kept place after w e goes;
          reached = λ place w e free. let parts = and_parts (not place.at_front || begins_with_word place.left)
              (are_items kinds place.left) e in place_reached place.at_front place.left parts.0 parts.1 w free;
        }

    form_reached : (form : List (Item K)) → is_form kinds form ≡ true → (text : List ℕ)
        → Reaches nothing (fits_line kinds form) text (form_reach kinds form text)
    form_reached form e text =
        same_language nothing (accepts (line_machine kinds) is_space (front form)) (fits_line kinds form)
        (accepts-front form (and_parts (begins_with_word form) (are_items kinds form) e).0) text (form_reach kinds form text)
        (parts_reached nothing is_space (line_machine kinds) stands (λ place w. items_reach kinds place.left w) right_machine
        (front form) text e (Free-nothing text))

    each_reached : (forms : List (List (Item K))) → list_all (is_form kinds) forms ≡ true → (text : List ℕ)
        → AllByRecursion (λ (form : List (Item K)). Reaches nothing (fits_line kinds form) text (form_reach kinds form text)) forms
    each_reached [] e text = tt
    each_reached (form ∷ forms) e text =
        let parts = and_parts (is_form kinds form) (list_all (is_form kinds) forms) e in
        (form_reached form parts.0 text, each_reached forms parts.1 text)

-- how far a text reaches into the lines of some forms
pub lines_reached : {K : Type 0} → FormsReach K
lines_reached {K} kinds right form forms e text =
    some_reached nothing (fits_line kinds) (λ f. form_reach kinds f text) text form forms
    (each_reached kinds right (form ∷ forms) e text)
