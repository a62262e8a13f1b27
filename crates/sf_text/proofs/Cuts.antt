-- Where a script's first line and a line's first word end.
use Rattle.std.proofs.Common.{◌≡◌, ℕ, zero, suc, ◌+◌, ◌<◌, ◌≤◌, List, [], ◌∷◌, length, take, drop, get_or, drop-cons, add-one, ◌==◌, Bool, true, false, cond, ltb, not, Option, Some, None, refl, sym, ap, ◌∙◌, arith, position, unwrap_or, subst}
use Rattle.std.specs.List.{slice_split, position_or_len, prefix_len, filter}
use Rattle.std.specs.Str.Lines.{lines_of_parts, strip_carriage_return}
use Rattle.std.proofs.lemmas.Bool.{ltb-true, ltb-false, not-true, not-false}
use Rattle.std.proofs.lemmas.List.Splits.{slice_split_first, slice_split_none, length-slice_split, slice_split-cons_yes}
use Rattle.std.proofs.lemmas.List.Sums.{prefix_len-le-length, prefix_len_passes, prefix_len_stops}
use Rattle.std.proofs.lemmas.Bool.Decides.{nat_tests}
use Rattle.std.proofs.Math.Nat.{le_antisymm}
use Rattle.std.proofs.Math.Seq.{take-length, drop-length}
use Rattle.sf_grammar.specs.Words.{script_lines, words, parts, before, is_space, is_filled}

cond-Some : {X : Type 0} (t : Bool) (a i : X) → cond t (Some a) None ≡ Some i → (t ≡ true) × (a ≡ i)
cond-Some true a i e = (refl, cc)
cond-Some false a i e = cc

cond-None : {X : Type 0} (t : Bool) (a : X) → cond t (Some a) None ≡ None → t ≡ false
cond-None true a e = cc
cond-None false a e = refl

-- where some element passes, the first that does is at i
pub position-Some : {X : Type 0} (p : X → Bool) (xs : List X) (i : ℕ) → position p xs ≡ Some i
    → (position_or_len p xs ≡ i) × (i < length xs)
position-Some p xs i e =
    let h = cond-Some (ltb (position_or_len p xs) (length xs)) (position_or_len p xs) i e in
    let below = ltb-true _ _ h.0 in
    (h.1, omega (arith, h.1))

-- where none does
pub position-None : {X : Type 0} (p : X → Bool) (xs : List X) → position p xs ≡ None → length xs ≤ position_or_len p xs
position-None p xs e = ltb-false _ _ (cond-None (ltb (position_or_len p xs) (length xs)) (position_or_len p xs) e)

-- a list in which no element passes is one part
pub slice_split-None : {X : Type 0} (p : X → Bool) (xs : List X) → position p xs ≡ None → slice_split p xs ≡ xs ∷ []
slice_split-None p xs e =
    slice_split_none p xs
    (λ i d h. not-true _ (prefix_len_passes (λ x. not (p x)) xs i d (omega (arith, position-None p xs e, h))))

-- the first part ends before the first element that passes
pub slice_split-Some : {X : Type 0} (p : X → Bool) (xs : List X) (i : ℕ) (d : X) → position p xs ≡ Some i
    → slice_split p xs ≡ take i xs ∷ slice_split p (drop (i + 1) xs)
slice_split-Some p xs i d e =
    let h = position-Some p xs i e in
    let below : position_or_len p xs < length xs = omega (arith, h.0, h.1) in
    slice_split_first p xs d below ∙ ap (λ n. take n xs ∷ slice_split p (drop (n + 1) xs)) h.0

-- the same of a text
pub cut-Some : (separates : ℕ → Bool) (text : List ℕ) (i : ℕ) → position separates text ≡ Some i
    → slice_split separates text ≡ take i text ∷ slice_split separates (drop (i + 1) text)
cut-Some separates text i e = slice_split-Some separates text i 0 e

pub ruleset cut_rules = (slice_split-None, cut-Some)

-- the same of a text and the byte that separates its parts
pub parts-Some : (separator : ℕ) (text : List ℕ) (i : ℕ) → position (λ b. b == separator) text ≡ Some i
    → parts separator text ≡ take i text ∷ parts separator (drop (i + 1) text)
parts-Some separator text i e = cut-Some (λ b. b == separator) text i e

pub parts-None : (separator : ℕ) (text : List ℕ) → position (λ b. b == separator) text ≡ None
    → parts separator text ≡ text ∷ []
parts-None separator text e = slice_split-None (λ b. b == separator) text e

pub before-Some : (separator : ℕ) (text : List ℕ) (i : ℕ) → position (λ b. b == separator) text ≡ Some i
    → before separator text ≡ take i text
before-Some separator text i e = ap (λ n. take n text) (position-Some (λ b. b == separator) text i e).0

pub before-None : (separator : ℕ) (text : List ℕ) → position (λ b. b == separator) text ≡ None
    → before separator text ≡ text
before-None separator text e =
    ap (λ n. take n text)
    (le_antisymm (prefix_len-le-length (λ b. not (b == separator)) text) (position-None (λ b. b == separator) text e))
    ∙ take-length text

pub ruleset parts_rules = (parts-Some, parts-None, before-Some, before-None)

-- there is always a first part
slice_split-filled : {X : Type 0} (p : X → Bool) (xs : List X) → 0 < length (slice_split p xs)
slice_split-filled p xs = omega (arith, length-slice_split p xs)

lines_of_parts-more : (line : List ℕ) (parts : List (List ℕ)) → 0 < length parts
    → lines_of_parts (line ∷ parts) ≡ strip_carriage_return line ∷ lines_of_parts parts
lines_of_parts-more line [] h = absurd (omega arith)
lines_of_parts-more line (part ∷ parts) h = refl

-- a script in which an LF stands at i
pub script_lines-Some : (script : List ℕ) (i : ℕ) → position (λ b. b == 10) script ≡ Some i
    → script_lines script ≡ strip_carriage_return (take i script) ∷ script_lines (drop (i + 1) script)
script_lines-Some script i e =
    ap lines_of_parts (slice_split-Some (λ b. b == 10) script i 0 e)
    ∙ lines_of_parts-more (take i script) (slice_split (λ b. b == 10) (drop (i + 1) script))
    (slice_split-filled (λ b. b == 10) (drop (i + 1) script))

-- a script in which none stands
pub script_lines-None : (script : List ℕ) → 0 < length script → position (λ b. b == 10) script ≡ None
    → script_lines script ≡ script ∷ []
script_lines-None (b ∷ bs) h e =
    ap lines_of_parts (slice_split-None (λ b. b == 10) (b ∷ bs) e) ∙ grind (arith, nat_tests)
script_lines-None [] h e = absurd (omega arith)

pub words-space : (b : ℕ) (bs : List ℕ) → is_space b ≡ true → words (b ∷ bs) ≡ words bs
words-space b bs e = ap (filter is_filled) (slice_split-cons_yes is_space b bs e)

-- a line that begins with a byte other than the space, and in which no space stands
pub words-None : (b : ℕ) (bs : List ℕ) → position is_space (b ∷ bs) ≡ None → words (b ∷ bs) ≡ (b ∷ bs) ∷ []
words-None b bs e = ap (filter is_filled) (slice_split-None is_space (b ∷ bs) e)

-- the same, where the first space stands at i
pub words-Some : (b : ℕ) (bs : List ℕ) (i : ℕ) → is_space b ≡ false → position is_space (b ∷ bs) ≡ Some i
    → words (b ∷ bs) ≡ take i (b ∷ bs) ∷ words (drop i (b ∷ bs))
words-Some b bs zero solid e =
    let at_once : cond (not (is_space b)) (1 + prefix_len (λ x. not (is_space x)) bs) 0 ≡ 0 =
    (position-Some is_space (b ∷ bs) 0 e).0 in
    let later : 1 + prefix_len (λ x. not (is_space x)) bs ≡ 0 = rw (solid) at at_once in
    absurd (omega arith)
words-Some b bs (suc j) solid e =
    let h = position-Some is_space (b ∷ bs) (suc j) e in
    let stop = prefix_len_stops (λ x. not (is_space x)) (b ∷ bs) 0 (omega (arith, h.0, h.1)) in
    let gap : is_space (get_or (b ∷ bs) (suc j) 0) ≡ true = not-false _ (rw h.0 at stop) in
    let rest : words (drop (suc j) (b ∷ bs)) ≡ words (drop (suc (suc j)) (b ∷ bs)) =
    ap words (drop-cons (b ∷ bs) (suc j) 0 h.1) ∙ words-space _ (drop (suc (suc j)) (b ∷ bs)) gap in
    ap (filter is_filled) (slice_split-Some is_space (b ∷ bs) (suc j) 0 e)
    ∙ ap (λ ws. (b ∷ take j bs) ∷ ws) (rw add-one (sym rest))

-- how far the first word of a line goes that begins with one
pub words-first : (line : List ℕ) (b end : ℕ) (bs : List ℕ) → line ≡ b ∷ bs → is_space b ≡ false
    → end ≡ unwrap_or (position is_space line) (length line)
    → words line ≡ take end line ∷ words (drop end line)
words-first line b end bs starts solid e =
    subst (λ (l : List ℕ). end ≡ unwrap_or (position is_space l) (length l) → words l ≡ take end l ∷ words (drop end l))
    (sym starts)
    (λ ends. from_found (position is_space (b ∷ bs)) refl ends) e
  where
    from_found : (found : Option ℕ) → position is_space (b ∷ bs) ≡ found → end ≡ unwrap_or found (length (b ∷ bs))
        → words (b ∷ bs) ≡ take end (b ∷ bs) ∷ words (drop end (b ∷ bs))
    from_found None found ends =
        rw (ends, take-length, drop-length) (words-None b bs found)
    from_found (Some i) found ends = rw ends (words-Some b bs i solid found)

pub ruleset lines_rules = (script_lines-Some, script_lines-None)
