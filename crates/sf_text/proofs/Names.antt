-- Names are ASCII texts, so they are UTF-8.
use Rattle.std.proofs.Common.{ℕ, zero, suc, ◌<◌, ◌≡◌, List, [], ◌∷◌, length, true, arith, nat_le, ◌&&◌}
use Rattle.std.specs.Str.{IsAscii, IsUtf8}
use Rattle.std.specs.Char.{is_ascii_alphabetic}
use Rattle.std.specs.List.{list_all}
use Rattle.std.proofs.lemmas.Str.{IsUtf8-from_ascii}
use Rattle.std.proofs.lemmas.Bool.Decides.{nat_tests}
use Rattle.sf_grammar.specs.Words.{is_name, is_name_byte}
use Rattle.sf_text.proofs.Digits.{&&-true}

is_name_byte-ascii : (b : ℕ) → is_name_byte b ≡ true → b < 128
is_name_byte-ascii b e = grind (arith, nat_tests)

letter-ascii : (b : ℕ) → is_ascii_alphabetic b ≡ true → b < 128
letter-ascii b e = grind (arith, nat_tests)

IsAscii-name_bytes : (bs : List ℕ) → list_all is_name_byte bs ≡ true → IsAscii bs
IsAscii-name_bytes [] e i = omega arith
IsAscii-name_bytes (b ∷ bs) e zero = is_name_byte-ascii b (&&-true (is_name_byte b) (list_all is_name_byte bs) e).0
IsAscii-name_bytes (b ∷ bs) e (suc i) =
    IsAscii-name_bytes bs (&&-true (is_name_byte b) (list_all is_name_byte bs) e).1 i

pub IsAscii-name : (word : List ℕ) → is_name word ≡ true → IsAscii word
IsAscii-name [] e i = omega arith
IsAscii-name (b ∷ bs) e zero =
    letter-ascii b (&&-true (is_ascii_alphabetic b) (nat_le (length bs) 31 && list_all is_name_byte bs) e).0
IsAscii-name (b ∷ bs) e (suc i) =
    let others = (&&-true (is_ascii_alphabetic b) (nat_le (length bs) 31 && list_all is_name_byte bs) e).1 in
    IsAscii-name_bytes bs (&&-true (nat_le (length bs) 31) (list_all is_name_byte bs) others).1 i

pub IsUtf8-name : (word : List ℕ) → is_name word ≡ true → IsUtf8 word
IsUtf8-name word e = IsUtf8-from_ascii word (IsAscii-name word e)
