-- How a script is cut into lines, and a line into words, names and numbers.
use Rattle.std.specs.Prelude.{ℕ, Bool, true, false, ◌&&◌, ◌||◌, ◌==◌, nat_lt, nat_le, if◌then◌else◌, Option, Some, None, List, [], ◌∷◌, length, drop, filter, position, ◌+◌, ℤ, pos, neg_ℤ}
use Rattle.std.specs.Option.{option_map}
use Rattle.std.specs.List.{slice_split, list_all, before_first}
use Rattle.std.specs.Char.{is_ascii_alphabetic, is_ascii_alphanumeric, is_ascii_digit}
use Rattle.std.specs.Str.Lines.{lines}
use Rattle.std.specs.Str.Parse.{digits_value}

-- the lines of a script: it is cut at each LF, and a CR before an LF is dropped; a last part that is empty is no line
abbrev pub script_lines : List ℕ → List (List ℕ)
script_lines = lines

-- the text's first byte is this one
abbrev pub begins_with : ℕ → List ℕ → Bool
begins_with byte [] = false
begins_with byte (b ∷ bs) = b == byte

abbrev pub is_space : ℕ → Bool
is_space b = b == 32

abbrev pub is_filled : List ℕ → Bool
is_filled [] = false
is_filled (b ∷ bs) = true

-- the words of a line: its longest runs of bytes other than the space
abbrev pub words : List ℕ → List (List ℕ)
words line = filter is_filled (slice_split is_space line)

-- the parts of a text between the bytes that separate them
abbrev pub parts : ℕ → List ℕ → List (List ℕ)
parts separator text = slice_split (λ b. b == separator) text

-- what stands before the first separator, or the whole text where there is none
abbrev pub before : ℕ → List ℕ → List ℕ
before separator text = before_first (λ b. b == separator) text

-- what stands behind the first separator, where there is one
abbrev pub behind : ℕ → List ℕ → Option (List ℕ)
behind separator text =
    option_map (λ i. drop (i + 1) text) (position (λ b. b == separator) text)

-- the parts of what is left of a text, if anything is
abbrev pub parts_left : ℕ → Option (List ℕ) → List (List ℕ)
parts_left separator None = []
parts_left separator (Some text) = parts separator text

-- a byte that may stand in a name after the first
abbrev pub is_name_byte : ℕ → Bool
is_name_byte b = is_ascii_alphanumeric b || b == 95

-- a name: a letter, and then at most 31 letters, digits and underscores
abbrev pub is_name : List ℕ → Bool
is_name [] = false
is_name (b ∷ bs) = is_ascii_alphabetic b && (nat_le (length bs) 31 && list_all is_name_byte bs)

-- at least one decimal digit, and at most this many
abbrev pub are_digits : ℕ → List ℕ → Bool
are_digits most word = nat_lt 0 (length word) && (nat_le (length word) most && list_all is_ascii_digit word)

-- a number: 1 to 18 digits
abbrev pub is_number : List ℕ → Bool
is_number = are_digits 18

abbrev pub number_value : List ℕ → ℕ
number_value = digits_value 10

-- an integer: 1 to 6 digits, which a minus may precede
abbrev pub is_integer : List ℕ → Bool
is_integer word = if begins_with 45 word then are_digits 6 (drop 1 word) else are_digits 6 word

abbrev pub integer_value : List ℕ → ℤ
integer_value word = if begins_with 45 word then neg_ℤ (pos (number_value (drop 1 word))) else pos (number_value word)
