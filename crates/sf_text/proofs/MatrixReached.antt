-- How far a text reaches into a matrix is known at each level, from the exponents up to the brackets.
use Rattle.std.proofs.Common.{◌≡◌, ℕ, ◌+◌, ◌≤◌, List, [], ◌∷◌, ◌++◌, length, Bool, true, false, not, ◌&&◌, ◌||◌, ◌==◌, cond, codes, Option, Some, None, is_some, refl, sym, ap, ◌∙◌, subst, IsTrue, arith}
use Rattle.std.specs.List.{list_all}
use Rattle.sf_algebra.specs.Printing.{comma, semicolon, plus, star}
use Rattle.sf_grammar.specs.Parts.{accepts, takes, reach_of, either, IsRight}
use Rattle.sf_grammar.specs.Reaches.{Free, Begins, Reaches, IsColumn, nothing}
use Rattle.sf_grammar.specs.WordReaches.{name_reach, digits_reach, number_reach, is_led, signed}
use Rattle.sf_grammar.specs.Words.{is_filled, is_name, is_number, are_digits}
use Rattle.sf_grammar.proofs.Cutting.{Free-either, slice_split-whole}
use Rattle.sf_grammar.proofs.Languages.{same_language, union_reached, Reaches-nothing, led_reached_at, signed_reached_at}
use Rattle.sf_grammar.proofs.Parts.{parts_reached}
use Rattle.sf_grammar.proofs.WordReaches.{name_reached, digits_reached, number_reached}
use Rattle.sf_text.specs.MatrixText.{caret, opening, closing, is_sign}
use Rattle.sf_text.specs.MatrixReaches.{is_factor, is_term, is_entry, is_row, are_rows, is_matrix, each, factor_machine, factor_part_reach, factor_reach, factor_after, term_machine, term_part_reach, term_reach, entry_reach, row_reach, rows_reach, matrix_machine, matrix_part_reach, matrix_reach, matrix_bytes, MatricesReach}
use Rattle.sf_text.specs.declared.matrix_reaches.FactorPart.{FactorPart}
use Rattle.sf_text.specs.declared.matrix_reaches.FactorPart.TheVariants.{Name, Exponent}
use Rattle.sf_text.specs.declared.matrix_reaches.TermPart.{TermPart}
use Rattle.sf_text.specs.declared.matrix_reaches.TermPart.TheVariants.{First, Factor}
use Rattle.sf_text.specs.declared.matrix_reaches.EntryPart.TheVariants.{Term}
use Rattle.sf_text.specs.declared.matrix_reaches.RowPart.TheVariants.{Entry}
use Rattle.sf_text.specs.declared.matrix_reaches.RowsPart.TheVariants.{Row}
use Rattle.sf_text.specs.declared.matrix_reaches.MatrixPart.{MatrixPart}
use Rattle.sf_text.specs.declared.matrix_reaches.MatrixPart.TheVariants.{Rows, End}
use Rattle.sf_text.proofs.MatrixLanguages.{or-false, accepts-each, is_factor-accepted, is_term-accepted, is_entry-signed, terms-unsigned, is_row-accepted, are_rows-accepted, is_matrix-led}

-- a test beside the same test
same_test : {S : Type 0} (t : Bool) (o : Option S) → is_some o ≡ t → t ≡ (t || is_some o)
same_test true o e = refl
same_test false o e = sym e

is_some-cond : {S : Type 0} (t : Bool) (s : S) → is_some (cond t (Some s) None) ≡ t
is_some-cond true s = refl
is_some-cond false s = refl

-- parts that pass one test
module _ {S : Type 0} (apart separates : ℕ → Bool) (passes : List ℕ → Bool) (reach : List ℕ → ℕ) (byte : ℕ)
    (separated : IsTrue (separates byte)) (inside : Free apart (byte ∷ codes "a")) (letter : Free separates (codes "a"))
    (sample : passes (codes "a") ≡ true)
    (reached : (part : List ℕ) → Free (either apart separates) part
    → Reaches (either apart separates) passes part (reach part)) where
  sample-accepted : (s : S) → accepts (each passes) separates s (codes "a") ≡ true
  sample-accepted s =
      accepts-each passes separates s (codes "a")
      ∙ ap (list_all passes) (slice_split-whole separates (codes "a") letter)
      ∙ ap (λ t. t && true) sample

  each_right : IsRight apart separates (each {S = S} passes) (λ s. true) (λ s. reach)
  each_right =
      record {
        byte = byte;
        separated = separated;
        inside = inside.0;
        completed = λ s standing. record { rest = codes "a"; free = inside.1; accepted = sample-accepted s };
        kept = λ s after part standing goes. refl;
        reached = λ s part standing free.
            same_language (either apart separates) passes (takes (each passes) s)
            (λ x. same_test (passes x) (cond (passes x) (Some s) None) (is_some-cond (passes x) s)) part (reach part)
            (reached part free);
      }

  each_reached : (s : S) (text : List ℕ) → Free apart text
      → Reaches apart (accepts (each passes) separates s) text (reach_of (each passes) separates (λ t. reach) s text)
  each_reached s text free =
      parts_reached apart separates (each passes) (λ t. true) (λ t. reach) each_right s text refl free

-- nothing
nothing_reached : (apart : ℕ → Bool) (text : List ℕ) → Reaches apart (λ t. not (is_filled t)) text 0
nothing_reached apart text =
    Reaches-nothing apart (λ t. not (is_filled t)) text (record { rest = []; free = tt; accepted = refl })
    (λ more less e b. by more b.rest b.accepted)
  where
    by : (more rest : List ℕ) → not (is_filled (more ++ rest)) ≡ true → length more ≤ 0
    by [] rest e = omega arith
    by (x ∷ more) rest e = cc

module _ (apart : ℕ → Bool) (h : Free apart (codes "^0a")) where
  in_factor : Free (either apart (λ b. b == caret)) (codes "0a")
  in_factor = Free-either apart (λ b. b == caret) (codes "0a") h.1 (refl, (refl, tt))

  factor_part_reached : (s : FactorPart) (part : List ℕ)
      → Reaches (either apart (λ b. b == caret)) (takes factor_machine s) part (factor_part_reach s part)
  factor_part_reached Name part =
      same_language (either apart (λ b. b == caret)) is_name (takes factor_machine Name)
      (λ x. same_test (is_name x) (cond (is_name x) (Some Exponent) None) (is_some-cond (is_name x) Exponent)) part
      (name_reach part)
      (name_reached (either apart (λ b. b == caret)) in_factor.1.0 part)
  factor_part_reached Exponent part =
      same_language (either apart (λ b. b == caret)) (are_digits 3) (takes factor_machine Exponent)
      (λ x. or-false (are_digits 3 x)) part (digits_reach 3 part)
      (digits_reached (either apart (λ b. b == caret)) in_factor.0 3 (omega arith) part)

  factor_completed : (s : FactorPart) → Begins apart (accepts factor_machine (λ b. b == caret) s) []
  factor_completed Name = record { rest = codes "a"; free = h.1.1; accepted = refl }
  factor_completed Exponent = record { rest = codes "0"; free = (h.1.0, tt); accepted = refl }

  factor_reached : (text : List ℕ) → Free apart text → Reaches apart is_factor text (factor_reach text)
  factor_reached text free =
      same_language apart (accepts factor_machine (λ b. b == caret) Name) is_factor is_factor-accepted text (factor_reach text)
      (parts_reached apart (λ b. b == caret) factor_machine (λ s. true) factor_part_reach
      (record {
        byte = caret;
        separated = refl;
        inside = h.0;
        completed = λ s standing. factor_completed s;
        kept = λ s after part standing goes. refl;
        reached = λ s part standing free. factor_part_reached s part;
      }) Name text refl free)

module _ (apart : ℕ → Bool) (h : Free apart (codes "*^0a")) where
  in_term : Free (either apart (λ b. b == star)) (codes "^0a")
  in_term = Free-either apart (λ b. b == star) (codes "^0a") h.1 (refl, (refl, (refl, tt)))

  factor_taken : (t : Bool) (more : ℕ) → t ≡ (t || is_some (cond t (factor_after more) None))
  factor_taken true more = refl
  factor_taken false more = refl

  first_taken : (n f : Bool)
      → (n || f) ≡ ((n || f) || is_some (cond n (factor_after 6) (cond f (factor_after 5) None)))
  first_taken true f = refl
  first_taken false true = refl
  first_taken false false = refl

  term_part_reached : (s : TermPart) (part : List ℕ) → Free (either apart (λ b. b == star)) part
      → Reaches (either apart (λ b. b == star)) (takes term_machine s) part (term_part_reach s part)
  term_part_reached First part free =
      same_language (either apart (λ b. b == star)) (λ x. is_number x || is_factor x) (takes term_machine First)
      (λ x. first_taken (is_number x) (is_factor x)) part (term_part_reach First part)
      (union_reached (either apart (λ b. b == star)) is_number is_factor part (number_reach part) (factor_reach part)
      (number_reached (either apart (λ b. b == star)) in_term.1.0 part)
      (factor_reached (either apart (λ b. b == star)) in_term part free))
  term_part_reached (Factor more) part free =
      same_language (either apart (λ b. b == star)) is_factor (takes term_machine (Factor more))
      (λ x. factor_taken (is_factor x) more) part (factor_reach part)
      (factor_reached (either apart (λ b. b == star)) in_term part free)

  term_completed : (s : TermPart) → Begins apart (accepts term_machine (λ b. b == star) s) []
  term_completed First = record { rest = codes "a"; free = h.1.1.1; accepted = refl }
  term_completed (Factor more) = record { rest = codes "a"; free = h.1.1.1; accepted = refl }

  term_reached : (text : List ℕ) → Free apart text → Reaches apart is_term text (term_reach text)
  term_reached text free =
      same_language apart (accepts term_machine (λ b. b == star) First) is_term is_term-accepted text (term_reach text)
      (parts_reached apart (λ b. b == star) term_machine (λ s. true) term_part_reach
      (record {
        byte = star;
        separated = refl;
        inside = h.0;
        completed = λ s standing. term_completed s;
        kept = λ s after part standing goes. refl;
        reached = λ s part standing free. term_part_reached s part free;
      }) First text refl free)

module _ (apart : ℕ → Bool) (h : Free apart (codes "+*^0a")) where
  in_entry : Free (either apart is_sign) (codes "*^0a")
  in_entry = Free-either apart is_sign (codes "*^0a") h.1 (refl, (refl, (refl, (refl, tt))))

  terms_reached : (text : List ℕ) → Free apart text
      → Reaches apart (accepts (each is_term) is_sign Term) text (reach_of (each is_term) is_sign (λ t. term_reach) Term text)
  terms_reached =
      each_reached apart is_sign is_term term_reach plus refl (h.0, h.1.1.1.1) (refl, tt) refl
      (term_reached (either apart is_sign) in_entry) Term

  entry_reached : (text : List ℕ) → Free apart text → Reaches apart is_entry text (entry_reach text)
  entry_reached text free =
      same_language apart (signed (accepts (each is_term) is_sign Term)) is_entry is_entry-signed text (entry_reach text)
      (signed_reached_at apart (accepts (each is_term) is_sign Term) terms-unsigned
      (reach_of (each is_term) is_sign (λ t. term_reach) Term) text (terms_reached text free)
      (λ c cs e. terms_reached cs (subst (Free apart) e free).1))

module _ (apart : ℕ → Bool) (h : Free apart (codes ",+*^0a")) where
  in_row : Free (either apart (λ b. b == comma)) (codes "+*^0a")
  in_row = Free-either apart (λ b. b == comma) (codes "+*^0a") h.1 (refl, (refl, (refl, (refl, (refl, tt)))))

  row_reached : (text : List ℕ) → Free apart text → Reaches apart is_row text (row_reach text)
  row_reached text free =
      same_language apart (accepts (each is_entry) (λ b. b == comma) Entry) is_row is_row-accepted text (row_reach text)
      (each_reached apart (λ b. b == comma) is_entry entry_reach comma refl (h.0, h.1.1.1.1.1) (refl, tt) refl
      (entry_reached (either apart (λ b. b == comma)) in_row) Entry text free)

module _ (apart : ℕ → Bool) (h : Free apart (codes ";,+*^0a")) where
  in_rows : Free (either apart (λ b. b == semicolon)) (codes ",+*^0a")
  in_rows =
      Free-either apart (λ b. b == semicolon) (codes ",+*^0a") h.1 (refl, (refl, (refl, (refl, (refl, (refl, tt))))))

  rows_reached : (text : List ℕ) → Free apart text → Reaches apart are_rows text (rows_reach text)
  rows_reached text free =
      same_language apart (λ t. accepts (each is_row) (λ b. b == semicolon) Row t || not (is_filled t)) are_rows
      are_rows-accepted text (rows_reach text)
      (subst (λ n. Reaches apart (λ t. accepts (each is_row) (λ b. b == semicolon) Row t || not (is_filled t)) text n)
      (omega arith)
      (union_reached apart (accepts (each is_row) (λ b. b == semicolon) Row) (λ t. not (is_filled t)) text (rows_reach text) 0
      (each_reached apart (λ b. b == semicolon) is_row row_reach semicolon refl (h.0, h.1.1.1.1.1.1) (refl, tt) refl
      (row_reached (either apart (λ b. b == semicolon)) in_rows) Row text free)
      (nothing_reached apart text)))

module _ (apart : ℕ → Bool) (h : Free apart (codes "];,+*^0a")) where
  in_matrix : Free (either apart (λ b. b == closing)) (codes ";,+*^0a")
  in_matrix =
      Free-either apart (λ b. b == closing) (codes ";,+*^0a") h.1
      (refl, (refl, (refl, (refl, (refl, (refl, (refl, tt)))))))

  matrix_part_reached : (s : MatrixPart) (part : List ℕ) → Free (either apart (λ b. b == closing)) part
      → Reaches (either apart (λ b. b == closing)) (takes matrix_machine s) part (matrix_part_reach s part)
  matrix_part_reached Rows part free =
      same_language (either apart (λ b. b == closing)) are_rows (takes matrix_machine Rows)
      (λ x. sym (is_some-cond (are_rows x) End)) part (rows_reach part)
      (rows_reached (either apart (λ b. b == closing)) in_matrix part free)
  matrix_part_reached End part free =
      same_language (either apart (λ b. b == closing)) (λ x. not (is_filled x)) (takes matrix_machine End)
      (λ x. or-false (not (is_filled x))) part 0
      (nothing_reached (either apart (λ b. b == closing)) part)

  matrix_completed : (s : MatrixPart) → Begins apart (accepts matrix_machine (λ b. b == closing) s) []
  matrix_completed Rows = record { rest = codes "]"; free = (h.0, tt); accepted = refl }
  matrix_completed End = record { rest = []; free = tt; accepted = refl }

  behind_opening : (text : List ℕ) → Free apart text
      → Reaches apart (accepts matrix_machine (λ b. b == closing) Rows) text
      (reach_of matrix_machine (λ b. b == closing) matrix_part_reach Rows text)
  behind_opening text free =
      parts_reached apart (λ b. b == closing) matrix_machine (λ s. true) matrix_part_reach
      (record {
        byte = closing;
        separated = refl;
        inside = h.0;
        completed = λ s standing. matrix_completed s;
        kept = λ s after part standing goes. refl;
        reached = λ s part standing free. matrix_part_reached s part free;
      }) Rows text refl free

pub matrices_reach : MatricesReach
matrices_reach apart h text free =
    same_language apart (is_led (λ b. b == opening) (accepts matrix_machine (λ b. b == closing) Rows)) is_matrix is_matrix-led
    text (matrix_reach text)
    (led_reached_at apart (λ b. b == opening) (accepts matrix_machine (λ b. b == closing) Rows)
    (reach_of matrix_machine (λ b. b == closing) matrix_part_reach Rows) opening refl h.0 (matrix_completed apart h.1 Rows) text
    (λ c cs e. behind_opening apart h.1 cs (subst (Free apart) e free).1))

nothing-apart : (text : List ℕ) → Free nothing text
nothing-apart [] = tt
nothing-apart (b ∷ bs) = (refl, nothing-apart bs)

-- the column at which a text leaves the matrices
pub matrix_column : (text : List ℕ) → IsColumn is_matrix text (1 + matrix_reach text)
matrix_column text =
    (matrix_reach text, matrices_reach nothing (nothing-apart matrix_bytes) text (nothing-apart text), refl)
