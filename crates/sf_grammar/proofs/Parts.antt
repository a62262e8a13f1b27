-- How far a text reaches that is read part by part.
use Rattle.std.proofs.Common.{◌≡◌, ℕ, zero, suc, ◌+◌, ◌≤◌, List, [], ◌∷◌, ◌++◌, length, Bool, true, false, ◌||◌, Option, Some, None, is_some, refl, sym, ap, ◌∙◌, subst, IsTrue, arith, append_assoc, length-append}
use Rattle.std.specs.Option.{option_map_or}
use Rattle.std.specs.List.{slice_split}
use Rattle.std.proofs.lemmas.Bool.{true≢false, or_left, or_right}
use Rattle.sf_grammar.specs.Reaches.{Free, Begins, Reaches}
use Rattle.sf_grammar.specs.Parts.{Machine, runs, accepts, takes, parts_reach, reach_of, either, IsRight, PartsReach}
use Rattle.sf_grammar.proofs.Cutting.{Free-append, Free_left, Free_right, Free-either, Free_either_left, Free_either_right, Cut, cut, slice_split-whole, slice_split-parted, Filled, slice_split-filled, Front, front}
use Rattle.sf_grammar.proofs.Cutting.Cut.{whole, parted}
use Rattle.sf_grammar.proofs.Cutting.Front.{within, beyond}

module _ {S : Type 0} (separates : ℕ → Bool) (machine : Machine S) where
  runs-parted : (s : S) (part : List ℕ) (parts : List (List ℕ)) → Filled parts
      → runs machine s (part ∷ parts) ≡ option_map_or (λ t. runs machine t parts) (machine.next s part) false
  runs-parted s part parts f = rw f.are refl

  pub accepts-whole : (s : S) (text : List ℕ) → Free separates text
      → accepts machine separates s text ≡ machine.last s text
  accepts-whole s text free = ap (runs machine s) (slice_split-whole separates text free)

  pub accepts-parted : (s : S) (part : List ℕ) (b : ℕ) (rest : List ℕ) → Free separates part → IsTrue (separates b)
      → accepts machine separates s (part ++ b ∷ rest)
      ≡ option_map_or (λ t. accepts machine separates t rest) (machine.next s part) false
  accepts-parted s part b rest free separated =
      ap (runs machine s) (slice_split-parted separates part b rest free separated)
      ∙ runs-parted s part (slice_split separates rest) (slice_split-filled separates rest)

module _ {S : Type 0} (apart separates : ℕ → Bool) (machine : Machine S) (stands : S → Bool) (reach : S → List ℕ → ℕ) where
  parts_reach-parted : (s : S) (part : List ℕ) (parts : List (List ℕ)) → Filled parts
      → parts_reach machine reach s (part ∷ parts)
      ≡ option_map_or (λ t. length part + 1 + parts_reach machine reach t parts) (machine.next s part) (reach s part)
  parts_reach-parted s part parts f = rw f.are refl

  reach_of-whole : (s : S) (text : List ℕ) → Free separates text
      → reach_of machine separates reach s text ≡ reach s text
  reach_of-whole s text free = ap (parts_reach machine reach s) (slice_split-whole separates text free)

  reach_of-parted : (s : S) (part : List ℕ) (b : ℕ) (rest : List ℕ) → Free separates part → IsTrue (separates b)
      → reach_of machine separates reach s (part ++ b ∷ rest)
      ≡ option_map_or (λ t. length part + 1 + reach_of machine separates reach t rest) (machine.next s part) (reach s part)
  reach_of-parted s part b rest free separated =
      ap (parts_reach machine reach s) (slice_split-parted separates part b rest free separated)
      ∙ parts_reach-parted s part (slice_split separates rest) (slice_split-filled separates rest)

  module _ (right : IsRight apart separates machine stands reach) where
    -- a beginning of a part that the state takes is a beginning of a text
    begins_of_taken : (s : S) (f : List ℕ) → IsTrue (stands s) → Free separates f
        → Begins (either apart separates) (takes machine s) f → Begins apart (accepts machine separates s) f
    begins_of_taken s f standing free b =
        by (machine.last s (f ++ b.rest)) refl (machine.next s (f ++ b.rest)) refl
      where
        no_apart : Free apart b.rest
        no_apart = Free_either_left apart separates b.rest b.free

        one_part : Free separates (f ++ b.rest)
        one_part = Free-append separates f b.rest free (Free_either_right apart separates b.rest b.free)

        by : (x : Bool) → machine.last s (f ++ b.rest) ≡ x → (o : Option S) → machine.next s (f ++ b.rest) ≡ o
            → Begins apart (accepts machine separates s) f
        by true e o goes =
            record { rest = b.rest; free = no_apart; accepted = accepts-whole separates machine s (f ++ b.rest) one_part ∙ e }
        by false e None goes =
            let taken : (machine.last s (f ++ b.rest) || is_some (machine.next s (f ++ b.rest))) ≡ true = b.accepted in
            let never : false ≡ true = rw (e, goes) at taken in absurd (true≢false (sym never))
        by false e (Some t) goes =
            let c = right.completed t (right.kept s t (f ++ b.rest) standing goes) in
            record {
              rest = b.rest ++ right.byte ∷ c.rest;
              free = Free-append apart b.rest (right.byte ∷ c.rest) no_apart (right.inside, c.free);
              accepted = ap (accepts machine separates s) (sym (append_assoc f b.rest (right.byte ∷ c.rest)))
                  ∙ (accepts-parted separates machine s (f ++ b.rest) right.byte c.rest one_part right.separated
                  ∙ (ap (λ o. option_map_or (λ u. accepts machine separates u c.rest) o false) goes ∙ c.accepted));
            }

    -- a beginning of a text that has no separator is a beginning of a part that the state takes
    taken_of_begins : (s : S) (f : List ℕ) → Free separates f → Begins apart (accepts machine separates s) f
        → Begins (either apart separates) (takes machine s) f
    taken_of_begins s f free b = by (cut separates b.rest)
      where
        by_next : (part : List ℕ) (byte : ℕ) (rest : List ℕ) → b.rest ≡ part ++ byte ∷ rest → Free separates part
            → IsTrue (separates byte) → (o : Option S) → machine.next s (f ++ part) ≡ o
            → Begins (either apart separates) (takes machine s) f
        by_next part byte rest split no_sep separated None goes =
            let more : accepts machine separates s ((f ++ part) ++ byte ∷ rest) ≡ true =
            ap (accepts machine separates s) (append_assoc f part (byte ∷ rest) ∙ ap (λ r. f ++ r) (sym split)) ∙ b.accepted in
            let never : false ≡ true =
            ap (λ o. option_map_or (λ u. accepts machine separates u rest) o false) (sym goes)
            ∙ (sym (accepts-parted separates machine s (f ++ part) byte rest (Free-append separates f part free no_sep) separated) ∙ more) in
            absurd (true≢false (sym never))
        by_next part byte rest split no_sep separated (Some t) goes =
            record {
              rest = part;
              free = Free-either apart separates part
                  (Free_left apart part (byte ∷ rest) (subst (Free apart) split b.free)) no_sep;
              accepted = or_right (machine.last s (f ++ part)) (is_some (machine.next s (f ++ part))) (ap is_some goes);
            }

        by : Cut separates b.rest → Begins (either apart separates) (takes machine s) f
        by (whole no_sep) =
            record {
              rest = b.rest;
              free = Free-either apart separates b.rest b.free no_sep;
              accepted = or_left (machine.last s (f ++ b.rest)) (is_some (machine.next s (f ++ b.rest)))
                  (sym (accepts-whole separates machine s (f ++ b.rest) (Free-append separates f b.rest free no_sep)) ∙ b.accepted);
            }
        by (parted part byte rest split no_sep separated) =
            by_next part byte rest split no_sep separated (machine.next s (f ++ part)) refl

    one_part : (s : S) (text : List ℕ) → IsTrue (stands s) → Free apart text → Free separates text
        → Reaches apart (accepts machine separates s) text (reach_of machine separates reach s text)
    one_part s text standing no_apart no_sep =
        let r = right.reached s text standing (Free-either apart separates text no_apart no_sep) in
        record {
          front = r.front;
          back = r.back;
          split = r.split;
          size = r.size ∙ sym (reach_of-whole s text no_sep);
          begins = begins_of_taken s r.front standing (Free_left separates r.front r.back (subst (Free separates) r.split no_sep))
              r.begins;
          longest = λ more less e b. subst (λ n. length more ≤ n) (sym (reach_of-whole s text no_sep))
              (r.longest more less e (taken_of_begins s more (Free_left separates more less (subst (Free separates) e no_sep)) b));
        }

    -- what a text with a first part says of the others
    beyond_first : (s : S) (part : List ℕ) (b : ℕ) (others : List ℕ) → Free separates part → IsTrue (separates b)
        → (begins : Begins apart (accepts machine separates s) (part ++ b ∷ others))
        → option_map_or (λ t. accepts machine separates t (others ++ begins.rest)) (machine.next s part) false ≡ true
    beyond_first s part b others no_sep separated begins =
        sym (accepts-parted separates machine s part b (others ++ begins.rest) no_sep separated)
        ∙ (ap (accepts machine separates s) (sym (append_assoc part (b ∷ others) begins.rest)) ∙ begins.accepted)

    bad_first : (s : S) (part : List ℕ) (b : ℕ) (rest : List ℕ) → IsTrue (stands s) → Free apart part
        → Free separates part → IsTrue (separates b) → machine.next s part ≡ None
        → Reaches apart (accepts machine separates s) (part ++ b ∷ rest)
        (reach_of machine separates reach s (part ++ b ∷ rest))
    bad_first s part b rest standing no_apart no_sep separated goes =
        record {
          front = r.front;
          back = r.back ++ b ∷ rest;
          split = ap (λ xs. xs ++ b ∷ rest) r.split ∙ append_assoc r.front r.back (b ∷ rest);
          size = r.size ∙ sym size;
          begins = begins_of_taken s r.front standing (Free_left separates r.front r.back (subst (Free separates) r.split no_sep))
              r.begins;
          longest = λ more less e begins. subst (λ n. length more ≤ n) (sym size) (by more less begins (front more less part b rest e));
        }
      where
        r : Reaches (either apart separates) (takes machine s) part (reach s part)
        r = right.reached s part standing (Free-either apart separates part no_apart no_sep)

        size : reach_of machine separates reach s (part ++ b ∷ rest) ≡ reach s part
        size = reach_of-parted s part b rest no_sep separated ∙ rw goes refl

        by : (more less : List ℕ) → Begins apart (accepts machine separates s) more → Front more less part b rest
            → length more ≤ reach s part
        by more less begins (within gap fits) =
            r.longest more gap fits
            (taken_of_begins s more (Free_left separates more gap (subst (Free separates) fits no_sep)) begins)
        by more less begins (beyond others is_more left) =
            let over = subst (Begins apart (accepts machine separates s)) is_more begins in
            let never : false ≡ true = rw goes at (beyond_first s part b others no_sep separated over) in
            absurd (true≢false (sym never))

    good_first : (s t : S) (part : List ℕ) (b : ℕ) (rest : List ℕ) → IsTrue (stands s) → Free separates part
        → Free apart (b ∷ []) → Free apart part → IsTrue (separates b) → machine.next s part ≡ Some t
        → Reaches apart (accepts machine separates t) rest (reach_of machine separates reach t rest)
        → Reaches apart (accepts machine separates s) (part ++ b ∷ rest)
        (reach_of machine separates reach s (part ++ b ∷ rest))
    good_first s t part b rest standing no_sep inside no_apart separated goes r =
        record {
          front = part ++ b ∷ r.front;
          back = r.back;
          split = ap (λ xs. part ++ b ∷ xs) r.split ∙ sym (append_assoc part (b ∷ r.front) r.back);
          size = length-append part (b ∷ r.front) ∙ (omega (arith, r.size) ∙ sym size);
          begins = record {
            rest = r.begins.rest;
            free = r.begins.free;
            accepted = ap (accepts machine separates s) (append_assoc part (b ∷ r.front) r.begins.rest)
                ∙ (accepts-parted separates machine s part b (r.front ++ r.begins.rest) no_sep separated
                ∙ (ap (λ o. option_map_or (λ u. accepts machine separates u (r.front ++ r.begins.rest)) o false) goes
                ∙ r.begins.accepted));
          };
          longest = λ more less e begins. subst (λ n. length more ≤ n) (sym size) (by more less begins (front more less part b rest e));
        }
      where
        size : reach_of machine separates reach s (part ++ b ∷ rest)
            ≡ length part + 1 + reach_of machine separates reach t rest
        size = reach_of-parted s part b rest no_sep separated ∙ rw goes refl

        by : (more less : List ℕ) → Begins apart (accepts machine separates s) more → Front more less part b rest
            → length more ≤ length part + 1 + reach_of machine separates reach t rest
        by more less begins (within gap fits) =
            let longer : length part ≡ length more + length gap = ap length fits ∙ length-append more gap in
            omega (arith, longer)
        by more less begins (beyond others is_more left) =
            let over = subst (Begins apart (accepts machine separates s)) is_more begins in
            let onward : accepts machine separates t (others ++ over.rest) ≡ true =
            rw goes at (beyond_first s part b others no_sep separated over) in
            let below = r.longest others less left (record { rest = over.rest; free = over.free; accepted = onward }) in
            let size_of : length more ≡ length part + length (b ∷ others) = ap length is_more ∙ length-append part (b ∷ others) in
            omega (arith, below, size_of)

    reached_within : (k : ℕ) (s : S) (text : List ℕ) → length text ≤ k → IsTrue (stands s) → Free apart text
        → Reaches apart (accepts machine separates s) text (reach_of machine separates reach s text)
    reached_within zero s [] short standing no_apart = one_part s [] standing no_apart tt
    reached_within zero s (b ∷ bs) short standing no_apart = absurd (omega (arith, short))
    reached_within (suc k) s text short standing no_apart =
        by (cut separates text) (λ t rest less stood free. reached_within k t rest less stood free)
      where
        by_next : (part : List ℕ) (b : ℕ) (rest : List ℕ) → text ≡ part ++ b ∷ rest → Free separates part
            → IsTrue (separates b)
            → ((t : S) (more : List ℕ) → length more ≤ k → IsTrue (stands t) → Free apart more
            → Reaches apart (accepts machine separates t) more (reach_of machine separates reach t more))
            → (o : Option S) → machine.next s part ≡ o
            → Reaches apart (accepts machine separates s) text (reach_of machine separates reach s text)
        by_next part b rest split no_sep separated later None goes =
            let free = subst (Free apart) split no_apart in
            subst (λ x. Reaches apart (accepts machine separates s) x (reach_of machine separates reach s x)) (sym split)
            (bad_first s part b rest standing (Free_left apart part (b ∷ rest) free) no_sep separated goes)
        by_next part b rest split no_sep separated later (Some t) goes =
            let free = subst (Free apart) split no_apart in
            let behind = Free_right apart part (b ∷ rest) free in
            let size : length text ≡ length part + length (b ∷ rest) = ap length split ∙ length-append part (b ∷ rest) in
            subst (λ x. Reaches apart (accepts machine separates s) x (reach_of machine separates reach s x)) (sym split)
            (good_first s t part b rest standing no_sep (behind.0, tt) (Free_left apart part (b ∷ rest) free) separated goes
            (later t rest (omega (arith, size, short)) (right.kept s t part standing goes) behind.1))

        by : Cut separates text
            → ((t : S) (more : List ℕ) → length more ≤ k → IsTrue (stands t) → Free apart more
            → Reaches apart (accepts machine separates t) more (reach_of machine separates reach t more))
            → Reaches apart (accepts machine separates s) text (reach_of machine separates reach s text)
        by (whole no_sep) later = one_part s text standing no_apart no_sep
        by (parted part b rest split no_sep separated) later =
            by_next part b rest split no_sep separated later (machine.next s part) refl

-- where it is known how far single parts reach, it is known how far texts do
pub parts_reached : {S : Type 0} (apart separates : ℕ → Bool) (machine : Machine S) (stands : S → Bool)
    (reach : S → List ℕ → ℕ) → IsRight apart separates machine stands reach
    → PartsReach apart separates machine stands reach
parts_reached apart separates machine stands reach right s text standing no_apart =
    reached_within apart separates machine stands reach right (length text) s text (omega arith) standing no_apart
