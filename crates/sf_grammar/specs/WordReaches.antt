-- How far a text reaches into the names, the numbers, the integers and a fixed word.
use Rattle.std.specs.Prelude.{ℕ, ◌+◌, min, max, Bool, false, ◌&&◌, ◌==◌, nat_le, if◌then◌else◌, List, [], ◌∷◌, length, drop}
use Rattle.std.specs.List.{list_all, prefix_len}
use Rattle.std.specs.Char.{is_ascii_alphabetic, is_ascii_digit}
use Rattle.sf_grammar.specs.Words.{begins_with, is_name_byte}

-- at most this many bytes, each of which passes
abbrev pub is_run : (ℕ → Bool) → ℕ → List ℕ → Bool
is_run passes most text = nat_le (length text) most && list_all passes text

abbrev pub run_reach : (ℕ → Bool) → ℕ → List ℕ → ℕ
run_reach passes most text = min most (prefix_len passes text)

-- a byte that leads, and behind it a text of this language
abbrev pub is_led : (ℕ → Bool) → (List ℕ → Bool) → List ℕ → Bool
is_led leads language [] = false
is_led leads language (b ∷ bs) = leads b && language bs

abbrev pub led_reach : (ℕ → Bool) → (List ℕ → ℕ) → List ℕ → ℕ
led_reach leads reach [] = 0
led_reach leads reach (b ∷ bs) = if leads b then 1 + reach bs else 0

abbrev pub name_reach : List ℕ → ℕ
name_reach = led_reach is_ascii_alphabetic (run_reach is_name_byte 31)

abbrev pub digits_reach : ℕ → List ℕ → ℕ
digits_reach most = run_reach is_ascii_digit most

abbrev pub number_reach : List ℕ → ℕ
number_reach = digits_reach 18

-- a text of this language, which a minus may precede
abbrev pub signed : (List ℕ → Bool) → List ℕ → Bool
signed language text = if begins_with 45 text then language (drop 1 text) else language text

abbrev pub signed_reach : (List ℕ → ℕ) → List ℕ → ℕ
signed_reach reach text = if begins_with 45 text then 1 + reach (drop 1 text) else reach text

abbrev pub integer_reach : List ℕ → ℕ
integer_reach = signed_reach (digits_reach 6)

-- how far a text is as this word
abbrev pub word_reach : List ℕ → List ℕ → ℕ
word_reach [] text = 0
word_reach (c ∷ word) text = led_reach (λ b. b == c) (word_reach word) text

-- the greatest of these numbers, and 0 of none
abbrev pub greatest_by : {X : Type 0} → (X → ℕ) → List X → ℕ
greatest_by number [] = 0
greatest_by number (x ∷ xs) = max (number x) (greatest_by number xs)
