-- What is written at each level of a matrix is what is read part by part.
use Rattle.std.proofs.Common.{◌≡◌, ℕ, zero, suc, List, [], ◌∷◌, ◌++◌, length, map, drop, Bool, true, false, not, ◌&&◌, ◌||◌, ◌==◌, cond, nat_le, nat_lt, Option, Some, None, is_some, refl, sym, ap, ◌∙◌, IsTrue, arith}
use Rattle.std.specs.Char.{is_ascii_digit}
use Rattle.std.specs.List.{list_all, slice_split, onto_first}
use Rattle.std.specs.Option.{option_map, option_and_then, option_map_or}
use Rattle.std.proofs.lemmas.Bool.{and_right}
use Rattle.std.proofs.lemmas.Bool.Decides.{nat_tests}
use Rattle.std.proofs.lemmas.List.Folds.{list_all-map}
use Rattle.std.proofs.lemmas.List.Splits.{slice_split-cons_yes, slice_split-cons_no}
use Rattle.sf_algebra.specs.Printing.{comma, semicolon, star}
use Rattle.sf_algebra.proofs.Basics.Lists.{AllByRecursion-weaken}
use Rattle.sf_grammar.specs.Parts.{Machine, runs, accepts}
use Rattle.sf_grammar.specs.Reaches.{Free}
use Rattle.sf_grammar.specs.WordReaches.{is_led, signed}
use Rattle.sf_grammar.specs.Words.{parts, before, behind, begins_with, is_filled, is_name, is_number, are_digits, number_value}
use Rattle.sf_grammar.proofs.Cutting.{Cut, cut, slice_split-filled, slice_split-whole, slice_split-parted}
use Rattle.sf_grammar.proofs.Cutting.Cut.{whole, parted}
use Rattle.sf_text.specs.MatrixText.{minus, caret, opening, closing, is_sign, all_of, exponent_of, factor_written, with_factors, term_of_parts, term_written, onto_first_text, signed_parts, entry_of, row_of, rows_of, ends}
use Rattle.sf_text.specs.MatrixReaches.{is_factor, is_term, is_entry, is_row, are_rows, is_matrix, each, factor_machine, factor_next, term_machine, matrix_machine, matrix_next}
use Rattle.sf_text.specs.Raw.{RawTerm}
use Rattle.sf_text.specs.declared.matrix_reaches.FactorPart.{FactorPart}
use Rattle.sf_text.specs.declared.matrix_reaches.FactorPart.TheVariants.{Name, Exponent}
use Rattle.sf_text.specs.declared.matrix_reaches.TermPart.TheVariants.{First, Factor}
use Rattle.sf_text.specs.declared.matrix_reaches.EntryPart.TheVariants.{Term}
use Rattle.sf_text.specs.declared.matrix_reaches.RowPart.TheVariants.{Entry}
use Rattle.sf_text.specs.declared.matrix_reaches.RowsPart.TheVariants.{Row}
use Rattle.sf_text.specs.declared.matrix_reaches.MatrixPart.{MatrixPart}
use Rattle.sf_text.specs.declared.raw.RawMatrix.{RawMatrix}
use Rattle.sf_text.specs.declared.matrix_reaches.MatrixPart.TheVariants.{Rows, End}
use Rattle.sf_text.proofs.PartSteps.{accepts-last, accepts-more}
use Rattle.sf_text.proofs.Signs.{signed_parts-sign, signed_parts-other}
use Rattle.sf_text.proofs.ReadingBack.Joined.{Lacks, before-first, behind-first, before-whole, behind-whole}

pub and-true : (t : Bool) → t ≡ (t && true)
and-true true = refl
and-true false = refl

pub or-false : (t : Bool) → t ≡ (t || false)
or-false true = refl
or-false false = refl

-- all can be read where each can
all_of-test : {X Y : Type 0} (read : X → Option Y) (xs : List X)
    → is_some (all_of read xs) ≡ list_all (λ x. is_some (read x)) xs
all_of-test read [] = refl
all_of-test {X} {Y} read (x ∷ xs) = by (read x) (all_of read xs) (all_of-test read xs)
  where
    by : (o : Option Y) (os : Option (List Y)) → is_some os ≡ list_all (λ y. is_some (read y)) xs
        → is_some (option_and_then (λ y. option_map (λ ys. y ∷ ys) os) o)
        ≡ (is_some o && list_all (λ y. is_some (read y)) xs)
    by None os e = refl
    by (Some y) None e = e
    by (Some y) (Some ys) e = e

-- and as many are read
all_of-length : {X Y : Type 0} (read : X → Option Y) (xs : List X) (ys : List Y) → all_of read xs ≡ Some ys
    → length ys ≡ length xs
all_of-length read [] ys e = let none : [] ≡ ys = cc in ap length (sym none)
all_of-length {X} {Y} read (x ∷ xs) ys e = by (read x) (all_of read xs) refl (all_of-length read xs) e
  where
    by : (o : Option Y) (os : Option (List Y)) → all_of read xs ≡ os
        → ((zs : List Y) → all_of read xs ≡ Some zs → length zs ≡ length xs)
        → option_and_then (λ y. option_map (λ zs. y ∷ zs) os) o ≡ Some ys → length ys ≡ length (x ∷ xs)
    by None os are rest found = cc
    by (Some y) None are rest found = cc
    by (Some y) (Some zs) are rest found =
        let same : y ∷ zs ≡ ys = cc in
        sym (ap length same) ∙ omega (arith, rest zs are)

list_all-same : {X : Type 0} (p q : X → Bool) → ((x : X) → p x ≡ q x) → (xs : List X)
    → list_all p xs ≡ list_all q xs
list_all-same p q same [] = refl
list_all-same p q same (x ∷ xs) = (λ i. same x i && list_all-same p q same xs i)

-- parts that pass one test
runs-each : {S : Type 0} (passes : List ℕ → Bool) (s : S) (x : List ℕ) (xs : List (List ℕ))
    → runs (each passes) s (x ∷ xs) ≡ list_all passes (x ∷ xs)
runs-each passes s x [] = and-true (passes x)
runs-each {S} passes s x (y ∷ ys) = by (passes x) (runs-each passes s y ys)
  where
    by : (t : Bool) → runs (each passes) s (y ∷ ys) ≡ list_all passes (y ∷ ys)
        → option_map_or (λ after. runs (each passes) after (y ∷ ys)) (cond t (Some s) None) false
        ≡ (t && list_all passes (y ∷ ys))
    by true e = e
    by false e = refl

pub accepts-each : {S : Type 0} (passes : List ℕ → Bool) (separates : ℕ → Bool) (s : S) (text : List ℕ)
    → accepts (each passes) separates s text ≡ list_all passes (slice_split separates text)
accepts-each passes separates s text =
    let filled = slice_split-filled separates text in
    rw filled.are (runs-each passes s filled.first filled.others)

-- a state that is the last, where no text with a separator may be
accepts-final : {S : Type 0} (machine : Machine S) (separates : ℕ → Bool) (s : S)
    → ((part : List ℕ) → machine.next s part ≡ None)
    → ((front : List ℕ) (byte : ℕ) (back : List ℕ) → IsTrue (separates byte)
    → machine.last s (front ++ byte ∷ back) ≡ false) → (text : List ℕ)
    → accepts machine separates s text ≡ machine.last s text
accepts-final {S} machine separates s ending never text = by (cut separates text)
  where
    by : Cut separates text → accepts machine separates s text ≡ machine.last s text
    by (whole free) = ap (runs machine s) (slice_split-whole separates text free)
    by (parted front byte back split free separated) =
        accepts-more machine separates (λ t part. 0) s text front back
        (ap (slice_split separates) split ∙ slice_split-parted separates front byte back free separated) None (ending front)
        ∙ sym (ap (machine.last s) split ∙ never front byte back separated)

unequal : (c : ℕ) (b : ℕ) → (b == c) ≡ false → b ≡ c → ⊥
unequal c b e is = grind (arith, nat_tests)

lacks : (c : ℕ) (text : List ℕ) → Free (λ b. b == c) text → Lacks c text
lacks c text free = AllByRecursion-weaken _ _ (unequal c) text free

-- what has a caret is no digits
no_digits : (most : ℕ) (front : List ℕ) (byte : ℕ) (back : List ℕ) → IsTrue (byte == caret)
    → are_digits most (front ++ byte ∷ back) ≡ false
no_digits most front byte back e =
    let n = length (front ++ byte ∷ back) in
    rw (other front) (and_right (nat_lt 0 n) _ (and_right (nat_le n most) false refl))
  where
    other : (front : List ℕ) → list_all is_ascii_digit (front ++ byte ∷ back) ≡ false
    other [] = let no_digit : is_ascii_digit byte ≡ false = grind (arith, nat_tests) in rw no_digit
    other (b ∷ bs) = and_right (is_ascii_digit b) (list_all is_ascii_digit (bs ++ byte ∷ back)) (other bs)

pub is_factor-accepted : (text : List ℕ) → accepts factor_machine (λ b. b == caret) Name text ≡ is_factor text
is_factor-accepted text = by (cut (λ b. b == caret) text)
  where
    named_factor : List ℕ → Bool → Option ℕ → Option (List ℕ × ℕ)
    named_factor name named exponent = option_and_then (λ e. cond named (Some (name, e)) None) exponent

    with_exponent : (named digits : Bool) (name rest : List ℕ)
        → option_map_or (λ (t : FactorPart). digits) (cond named (Some Exponent) None) false
        ≡ is_some (named_factor name named (cond digits (Some (number_value rest)) None))
    with_exponent true true name rest = refl
    with_exponent true false name rest = refl
    with_exponent false true name rest = refl
    with_exponent false false name rest = refl

    bare : (named : Bool) → named ≡ is_some (named_factor text named (Some 1))
    bare true = refl
    bare false = refl

    same_states : (name rest : List ℕ)
        → option_map_or (λ t. accepts factor_machine (λ b. b == caret) t rest) (factor_next Name name) false
        ≡ option_map_or (λ (t : FactorPart). are_digits 3 rest) (factor_next Name name) false
    same_states name rest = at (is_name name)
      where
        at : (named : Bool)
            → option_map_or (λ t. accepts factor_machine (λ b. b == caret) t rest) (cond named (Some Exponent) None) false
            ≡ option_map_or (λ (t : FactorPart). are_digits 3 rest) (cond named (Some Exponent) None) false
        at true =
            accepts-final factor_machine (λ b. b == caret) Exponent (λ part. refl)
            (λ front byte back e. no_digits 3 front byte back e) rest
        at false = refl

    by : Cut (λ b. b == caret) text → accepts factor_machine (λ b. b == caret) Name text ≡ is_factor text
    by (whole free) =
        let none = lacks caret text free in
        ap (runs factor_machine Name) (slice_split-whole (λ b. b == caret) text free)
        ∙ bare (is_name text)
        ∙ (λ i. is_some (named_factor (sym (before-whole caret text none) i) (is_name (sym (before-whole caret text none) i))
        (exponent_of (sym (behind-whole caret text none) i))))
    by (parted name byte rest split free separated) =
        let none = lacks caret name free in
        let at_caret : byte ≡ caret = grind (arith, nat_tests) in
        let whole_text : text ≡ name ++ caret ∷ rest = split ∙ ap (λ b. name ++ b ∷ rest) at_caret in
        let front : before caret text ≡ name = ap (before caret) whole_text ∙ before-first caret name rest none in
        let back : behind caret text ≡ Some rest = ap (behind caret) whole_text ∙ behind-first caret name rest none in
        accepts-more factor_machine (λ b. b == caret) (λ t part. 0) Name text name rest
        (ap (slice_split (λ b. b == caret)) split ∙ slice_split-parted (λ b. b == caret) name byte rest free separated)
        (factor_next Name name) refl
        ∙ same_states name rest
        ∙ with_exponent (is_name name) (are_digits 3 rest) name rest
        ∙ (λ i. is_some (named_factor (sym front i) (is_name (sym front i)) (exponent_of (sym back i))))

-- at most so many factors
abbrev are_factors : ℕ → List (List ℕ) → Bool
are_factors most texts = nat_le (length texts) most && list_all is_factor texts

with_factors-test : (negative : Bool) (coefficient : ℕ) (texts : List (List ℕ))
    → is_some (with_factors negative coefficient texts) ≡ are_factors 6 texts
with_factors-test negative coefficient texts =
    by (all_of factor_written texts) refl
    ∙ ap (λ b. nat_le (length texts) 6 && b) (all_of-test factor_written texts)
  where
    few : (t : Bool) (r : RawTerm) → is_some (cond t (Some r) None) ≡ (t && true)
    few true r = refl
    few false r = refl

    made : List (List ℕ × ℕ) → RawTerm
    made factors = record { minus = negative; coefficient = coefficient; factors = factors }

    by : (o : Option (List (List ℕ × ℕ))) → all_of factor_written texts ≡ o
        → is_some (option_and_then (λ factors. cond (nat_le (length factors) 6) (Some (made factors)) None) o)
        ≡ (nat_le (length texts) 6 && is_some o)
    by None e = sym (and_right (nat_le (length texts) 6) false refl)
    by (Some factors) e =
        few (nat_le (length factors) 6) (made factors)
        ∙ ap (λ n. nat_le n 6 && true) (all_of-length factor_written texts factors e)

term_of_parts-test : (negative : Bool) (x : List ℕ) (xs : List (List ℕ))
    → is_some (term_of_parts negative (x ∷ xs)) ≡ cond (is_number x) (are_factors 6 xs) (are_factors 6 (x ∷ xs))
term_of_parts-test negative x xs = by (is_number x)
  where
    by : (t : Bool)
        → is_some (cond t (with_factors negative (number_value x) xs) (with_factors negative 1 (x ∷ xs)))
        ≡ cond t (are_factors 6 xs) (are_factors 6 (x ∷ xs))
    by true = with_factors-test negative (number_value x) xs
    by false = with_factors-test negative 1 (x ∷ xs)

nat_le-suc : (m n : ℕ) → nat_le (suc m) (suc n) ≡ nat_le m n
nat_le-suc m n = grind (arith, nat_tests)

-- a factor, and so many behind it
runs-factors : (more : ℕ) (x : List ℕ) (xs : List (List ℕ))
    → runs term_machine (Factor more) (x ∷ xs) ≡ are_factors (suc more) (x ∷ xs)
runs-factors more x [] =
    let one : nat_le 1 (suc more) ≡ true = grind (arith, nat_tests) in
    rw one (and-true (is_factor x))
runs-factors zero x (y ∷ ys) =
    let few : nat_le (length (x ∷ y ∷ ys)) 1 ≡ false = grind (arith, nat_tests) in
    rw few (by (is_factor x))
  where
    by : (t : Bool)
        → option_map_or (λ after. runs term_machine after (y ∷ ys)) (cond t None None) false ≡ false
    by true = refl
    by false = refl
runs-factors (suc more) x (y ∷ ys) = by (is_factor x) (runs-factors more y ys)
  where
    by : (t : Bool) → runs term_machine (Factor more) (y ∷ ys) ≡ are_factors (suc more) (y ∷ ys)
        → option_map_or (λ after. runs term_machine after (y ∷ ys)) (cond t (Some (Factor more)) None) false
        ≡ (nat_le (length (x ∷ y ∷ ys)) (suc (suc more)) && (t && list_all is_factor (y ∷ ys)))
    by true e = e ∙ ap (λ b. b && list_all is_factor (y ∷ ys)) (sym (nat_le-suc (length (y ∷ ys)) (suc more)))
    by false e = sym (and_right (nat_le (length (x ∷ y ∷ ys)) (suc (suc more))) false refl)

runs-term : (x : List ℕ) (xs : List (List ℕ))
    → runs term_machine First (x ∷ xs) ≡ cond (is_number x) (are_factors 6 xs) (are_factors 6 (x ∷ xs))
runs-term x [] = by (is_number x) (is_factor x)
  where
    by : (n f : Bool) → (n || f) ≡ cond n true (f && true)
    by true f = refl
    by false true = refl
    by false false = refl
runs-term x (y ∷ ys) = by (is_number x) (is_factor x)
  where
    by : (n f : Bool)
        → option_map_or (λ after. runs term_machine after (y ∷ ys))
        (cond n (Some (Factor 5)) (cond f (Some (Factor 4)) None)) false
        ≡ cond n (are_factors 6 (y ∷ ys)) (nat_le (length (x ∷ y ∷ ys)) 6 && (f && list_all is_factor (y ∷ ys)))
    by true f = runs-factors 5 y ys
    by false true = runs-factors 4 y ys ∙ ap (λ b. b && list_all is_factor (y ∷ ys)) (sym (nat_le-suc (length (y ∷ ys)) 5))
    by false false = sym (and_right (nat_le (length (x ∷ y ∷ ys)) 6) false refl)

pub is_term-accepted : (text : List ℕ) → accepts term_machine (λ b. b == star) First text ≡ is_term text
is_term-accepted text =
    let filled = slice_split-filled (λ b. b == star) text in
    ap (runs term_machine First) filled.are
    ∙ runs-term filled.first filled.others
    ∙ sym (term_of_parts-test false filled.first filled.others)
    ∙ ap (λ texts. is_some (term_of_parts false texts)) (sym filled.are)

-- whatever its sign
term_written-sign : (signed_text : Bool × List ℕ) → is_some (term_written signed_text) ≡ is_term signed_text.1
term_written-sign signed_text =
    let filled = slice_split-filled (λ b. b == star) signed_text.1 in
    ap (λ texts. is_some (term_of_parts signed_text.0 texts)) filled.are
    ∙ term_of_parts-test signed_text.0 filled.first filled.others
    ∙ sym (term_of_parts-test false filled.first filled.others)
    ∙ ap (λ texts. is_some (term_of_parts false texts)) (sym filled.are)

onto_first-texts : (b : ℕ) (xs : List (Bool × List ℕ)) (y : List ℕ) (ys : List (List ℕ))
    → map (λ (s : Bool × List ℕ). s.1) xs ≡ y ∷ ys
    → map (λ (s : Bool × List ℕ). s.1) (onto_first_text b xs) ≡ (b ∷ y) ∷ ys
onto_first-texts b [] y ys e = cc
onto_first-texts b (x ∷ xs) y ys e = cc

-- the texts between the signs, whatever these are
signed_parts-texts : (negative : Bool) (text : List ℕ)
    → map (λ (s : Bool × List ℕ). s.1) (signed_parts negative text) ≡ slice_split is_sign text
signed_parts-texts negative [] = refl
signed_parts-texts negative (b ∷ bs) = by (is_sign b) refl (λ sign. signed_parts-texts sign bs)
  where
    by : (t : Bool) → is_sign b ≡ t
        → ((sign : Bool) → map (λ (s : Bool × List ℕ). s.1) (signed_parts sign bs) ≡ slice_split is_sign bs)
        → map (λ (s : Bool × List ℕ). s.1) (signed_parts negative (b ∷ bs)) ≡ slice_split is_sign (b ∷ bs)
    by true e others =
        ap (map (λ (s : Bool × List ℕ). s.1)) (signed_parts-sign b bs negative e)
        ∙ ap (λ xs. [] ∷ xs) (others (b == minus))
        ∙ sym (slice_split-cons_yes is_sign b bs e)
    by false e others =
        let filled = slice_split-filled is_sign bs in
        ap (map (λ (s : Bool × List ℕ). s.1)) (signed_parts-other b bs negative e)
        ∙ onto_first-texts b (signed_parts negative bs) filled.first filled.others (others negative ∙ filled.are)
        ∙ ap (onto_first b) (sym filled.are)
        ∙ sym (slice_split-cons_no is_sign b bs e)

all_terms : (negative : Bool) (text : List ℕ)
    → is_some (all_of term_written (signed_parts negative text)) ≡ accepts (each is_term) is_sign Term text
all_terms negative text =
    all_of-test term_written (signed_parts negative text)
    ∙ list_all-same (λ s. is_some (term_written s)) (λ s. is_term s.1) term_written-sign (signed_parts negative text)
    ∙ sym (list_all-map is_term (λ (s : Bool × List ℕ). s.1) (signed_parts negative text))
    ∙ ap (list_all is_term) (signed_parts-texts negative text)
    ∙ sym (accepts-each is_term is_sign Term text)

pub is_entry-signed : (text : List ℕ) → signed (accepts (each is_term) is_sign Term) text ≡ is_entry text
is_entry-signed text = by (begins_with minus text)
  where
    by : (t : Bool)
        → cond t (accepts (each is_term) is_sign Term (drop 1 text)) (accepts (each is_term) is_sign Term text)
        ≡ is_some (all_of term_written (cond t (signed_parts true (drop 1 text)) (signed_parts false text)))
    by true = sym (all_terms true (drop 1 text))
    by false = sym (all_terms false text)

-- terms that nothing precedes don't begin with a minus
pub terms-unsigned : (text : List ℕ) → begins_with minus text ≡ true → accepts (each is_term) is_sign Term text ≡ false
terms-unsigned [] e = cc
terms-unsigned (b ∷ bs) e =
    let is_one : is_sign b ≡ true = grind (arith, nat_tests) in
    accepts-each is_term is_sign Term (b ∷ bs) ∙ ap (list_all is_term) (slice_split-cons_yes is_sign b bs is_one)

pub is_row-accepted : (text : List ℕ) → accepts (each is_entry) (λ b. b == comma) Entry text ≡ is_row text
is_row-accepted text =
    accepts-each is_entry (λ b. b == comma) Entry text ∙ sym (all_of-test entry_of (parts comma text))

pub are_rows-accepted : (text : List ℕ)
    → (accepts (each is_row) (λ b. b == semicolon) Row text || not (is_filled text)) ≡ are_rows text
are_rows-accepted [] = by (accepts (each is_row) (λ b. b == semicolon) Row [])
  where
    by : (t : Bool) → (t || true) ≡ true
    by true = refl
    by false = refl
are_rows-accepted (b ∷ bs) =
    sym (or-false (accepts (each is_row) (λ b. b == semicolon) Row (b ∷ bs)))
    ∙ accepts-each is_row (λ b. b == semicolon) Row (b ∷ bs)
    ∙ sym (all_of-test row_of (parts semicolon (b ∷ bs)))

filled-behind : (front : List ℕ) (byte : ℕ) (back : List ℕ) → not (is_filled (front ++ byte ∷ back)) ≡ false
filled-behind [] byte back = refl
filled-behind (b ∷ bs) byte back = refl

pub is_matrix-led : (text : List ℕ)
    → is_led (λ b. b == opening) (accepts matrix_machine (λ b. b == closing) Rows) text ≡ is_matrix text
is_matrix-led [] = refl
is_matrix-led (b ∷ bs) = by (cut (λ c. c == closing) bs)
  where
    as_matrix : List (List (List RawTerm)) → RawMatrix
    as_matrix rows = record { rows = rows }

    read : Bool → Option (List ℕ) → List ℕ → Bool
    read opened back front =
        is_some (option_and_then (λ between. option_map as_matrix (rows_of between))
        (cond (opened && ends back) (Some front) None))

    same_states : (rows rest : List ℕ)
        → option_map_or (λ t. accepts matrix_machine (λ c. c == closing) t rest) (matrix_next Rows rows) false
        ≡ option_map_or (λ (t : MatrixPart). not (is_filled rest)) (matrix_next Rows rows) false
    same_states rows rest = at (are_rows rows)
      where
        at : (some : Bool)
            → option_map_or (λ t. accepts matrix_machine (λ c. c == closing) t rest) (cond some (Some End) None) false
            ≡ option_map_or (λ (t : MatrixPart). not (is_filled rest)) (cond some (Some End) None) false
        at true =
            accepts-final matrix_machine (λ c. c == closing) End (λ part. refl)
            (λ front byte back e. filled-behind front byte back) rest
        at false = refl

    none : (opened : Bool) (front : List ℕ) → (opened && false) ≡ read opened None front
    none true front = refl
    none false front = refl

    some : (opened : Bool) (rows rest : List ℕ)
        → (opened && option_map_or (λ (t : MatrixPart). not (is_filled rest)) (matrix_next Rows rows) false)
        ≡ read opened (Some rest) rows
    some opened rows rest = at opened (is_filled rest)
      where
        readable : (o : Option (List (List (List RawTerm)))) (t : Bool)
            → option_map_or (λ (state : MatrixPart). t) (cond (is_some o) (Some End) None) false
            ≡ (t && is_some (option_map as_matrix o))
        readable None true = refl
        readable None false = refl
        readable (Some x) true = refl
        readable (Some x) false = refl

        at : (opened more : Bool)
            → (opened && option_map_or (λ (state : MatrixPart). not more) (matrix_next Rows rows) false)
            ≡ is_some (option_and_then (λ between. option_map as_matrix (rows_of between))
            (cond (opened && not more) (Some rows) None))
        at true true = readable (rows_of rows) false
        at true false = readable (rows_of rows) true
        at false more = refl

    by : Cut (λ c. c == closing) bs
        → (b == opening && accepts matrix_machine (λ c. c == closing) Rows bs)
        ≡ read (b == opening) (behind closing bs) (before closing bs)
    by (whole free) =
        ap (λ t. b == opening && t) (accepts-last matrix_machine (λ c. c == closing) (λ t part. 0) Rows bs bs
        (slice_split-whole (λ c. c == closing) bs free))
        ∙ none (b == opening) (before closing bs)
        ∙ ap (λ back. read (b == opening) back (before closing bs)) (sym (behind-whole closing bs (lacks closing bs free)))
    by (parted rows byte rest split free separated) =
        let no_closing = lacks closing rows free in
        let at_closing : byte ≡ closing = grind (arith, nat_tests) in
        let whole_text : bs ≡ rows ++ closing ∷ rest = split ∙ ap (λ c. rows ++ c ∷ rest) at_closing in
        let front : before closing bs ≡ rows = ap (before closing) whole_text ∙ before-first closing rows rest no_closing in
        let back : behind closing bs ≡ Some rest =
        ap (behind closing) whole_text ∙ behind-first closing rows rest no_closing in
        ap (λ t. b == opening && t)
        (accepts-more matrix_machine (λ c. c == closing) (λ t part. 0) Rows bs rows rest
        (ap (slice_split (λ c. c == closing)) split ∙ slice_split-parted (λ c. c == closing) rows byte rest free separated)
        (matrix_next Rows rows) refl ∙ same_states rows rest)
        ∙ some (b == opening) rows rest
        ∙ (λ i. read (b == opening) (sym back i) (sym front i))

pub ruleset language_rules =
    (is_factor-accepted, is_term-accepted, is_entry-signed, is_row-accepted, are_rows-accepted, is_matrix-led)
