-- How a matrix is written. Its text is cut at the semicolons into rows, at the commas into entries, at the signs into
-- terms, at the stars into factors, and at the caret into a name and its exponent.
use Rattle.std.specs.Prelude.{ℕ, Bool, true, false, not, ◌&&◌, ◌||◌, ◌==◌, nat_le, if◌then◌else◌, Option, Some, None, option_and_then, List, [], ◌∷◌, length, drop}
use Rattle.std.specs.Option.{option_map}
use Rattle.sf_algebra.specs.Printing.{comma, semicolon, plus, star}
use Rattle.sf_text.specs.Raw.{RawTerm}
use Rattle.sf_grammar.specs.Words.{parts, before, behind, begins_with, is_filled, is_name, is_number, are_digits, number_value}
use Rattle.sf_text.specs.declared.raw.RawMatrix.{RawMatrix}

abbrev pub minus : ℕ
minus = 45

abbrev pub caret : ℕ
caret = 94

-- what each element is read as, where all can be read
abbrev pub all_of : {X Y : Type 0} → (X → Option Y) → List X → Option (List Y)
all_of read [] = Some []
all_of read (x ∷ xs) = option_and_then (λ y. option_map (λ ys. y ∷ ys) (all_of read xs)) (read x)

-- an exponent of 1 to 3 digits, and 1 where none is written
abbrev pub exponent_of : Option (List ℕ) → Option ℕ
exponent_of None = Some 1
exponent_of (Some digits) = if are_digits 3 digits then Some (number_value digits) else None

-- NAME, or NAME^EXPONENT; what stands after the first caret is the exponent
abbrev pub factor_written : List ℕ → Option (List ℕ × ℕ)
factor_written text =
    option_and_then (λ exponent. if is_name (before caret text) then Some (before caret text, exponent) else None)
    (exponent_of (behind caret text))

-- at most six factors
abbrev pub with_factors : Bool → ℕ → List (List ℕ) → Option RawTerm
with_factors negative coefficient texts =
    option_and_then (λ factors.
    if nat_le (length factors) 6 then Some
    (record { minus = negative; coefficient = coefficient; factors = factors }) else None)
    (all_of factor_written texts)

-- a number, factors, or a number and factors, joined by stars
abbrev pub term_of_parts : Bool → List (List ℕ) → Option RawTerm
term_of_parts negative [] = None
term_of_parts negative (text ∷ texts) =
    if is_number text then with_factors negative (number_value text) texts else with_factors negative 1 (text ∷ texts)

-- a term behind its sign
abbrev pub term_written : Bool × List ℕ → Option RawTerm
term_written signed = term_of_parts signed.0 (parts star signed.1)

abbrev pub is_sign : ℕ → Bool
is_sign b = b == plus || b == minus

-- a byte more in front of the first of some signed texts
abbrev pub onto_first_text : ℕ → List (Bool × List ℕ) → List (Bool × List ℕ)
onto_first_text b [] = []
onto_first_text b (signed ∷ others) = (signed.0, b ∷ signed.1) ∷ others

-- the texts between the signs, each with the sign before it; the first has this sign
abbrev pub signed_parts : Bool → List ℕ → List (Bool × List ℕ)
signed_parts negative [] = (negative, []) ∷ []
signed_parts negative (b ∷ bs) =
    if b == plus then (negative, []) ∷ signed_parts false bs
    else (if b == minus then (negative, []) ∷ signed_parts true bs else onto_first_text b (signed_parts negative bs))

-- the signed texts of what is left behind a sign, if anything is
abbrev pub signed_left : Option (Bool × List ℕ) → List (Bool × List ℕ)
signed_left None = []
signed_left (Some rest) = signed_parts rest.0 rest.1

-- a sum of terms, the first of which may have a minus
abbrev pub entry_of : List ℕ → Option (List RawTerm)
entry_of text =
    all_of term_written (if begins_with minus text then signed_parts true (drop 1 text) else signed_parts false text)

abbrev pub row_of : List ℕ → Option (List (List RawTerm))
row_of text = all_of entry_of (parts comma text)

abbrev pub opening : ℕ
opening = 91

abbrev pub closing : ℕ
closing = 93

-- nothing is left behind a separator
abbrev pub ends : Option (List ℕ) → Bool
ends None = false
ends (Some rest) = not (is_filled rest)

-- what stands between the opening bracket, which is the first byte, and the first closing one, which is the last byte
abbrev pub in_brackets : List ℕ → Option (List ℕ)
in_brackets [] = None
in_brackets (b ∷ bs) = if b == opening && ends (behind closing bs) then Some (before closing bs) else None

-- the rows between the brackets; none where nothing stands there
abbrev pub rows_of : List ℕ → Option (List (List (List RawTerm)))
rows_of [] = Some []
rows_of (b ∷ bs) = all_of row_of (parts semicolon (b ∷ bs))

abbrev pub matrix_written : List ℕ → Option RawMatrix
matrix_written text =
    option_and_then (λ between. option_map (λ rows. record { rows = rows }) (rows_of between)) (in_brackets text)
