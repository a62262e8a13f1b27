-- How far a text reaches into the names, the numbers, the integers and a fixed word.
use Rattle.std.proofs.Common.{◌≡◌, ℕ, zero, suc, ◌+◌, ◌≤◌, ◌<◌, List, [], ◌∷◌, ◌++◌, length, take, drop, Bool, true, false, ◌&&◌, ◌==◌, nat_le, nat_lt, refl, sym, IsFalse, arith, take-append-drop, bytes_eq, leb-true, le-leb, length-append, append-nil, eq-eqb, eqb-true}
use Rattle.std.specs.Char.{is_ascii_alphabetic, is_ascii_digit}
use Rattle.std.specs.List.{list_all, prefix_len}
use Rattle.std.proofs.lemmas.Bool.{true≢false, and_from, and_parts, and_right}
use Rattle.sf_grammar.specs.Reaches.{Free, Begins, Reaches}
use Rattle.sf_grammar.specs.WordReaches.{is_run, run_reach, is_led, name_reach, digits_reach, number_reach, integer_reach, word_reach}
use Rattle.sf_grammar.specs.Words.{is_name, is_name_byte, are_digits, is_number, is_integer, begins_with}
use Rattle.sf_grammar.proofs.Languages.{same_language, led_reached, filled_reached, signed_reached, Reaches-nothing}

list_all-front : (passes : ℕ → Bool) (xs ys : List ℕ) → list_all passes (xs ++ ys) ≡ true → list_all passes xs ≡ true
list_all-front passes [] ys e = refl
list_all-front passes (x ∷ xs) ys e =
    let parts = and_parts (passes x) (list_all passes (xs ++ ys)) e in
    and_from (passes x) (list_all passes xs) parts.0 (list_all-front passes xs ys parts.1)

-- the bytes up to the first that doesn't pass do
list_all-take : (passes : ℕ → Bool) (n : ℕ) (text : List ℕ) → n ≤ prefix_len passes text
    → (list_all passes (take n text) ≡ true) × (length (take n text) ≡ n)
list_all-take passes zero text h = (refl, refl)
list_all-take passes (suc n) [] h = absurd (omega (arith, h))
list_all-take passes (suc n) (b ∷ bs) h = by (passes b) refl (λ less. list_all-take passes n bs less)
  where
    by : (x : Bool) → passes b ≡ x
        → (n ≤ prefix_len passes bs → (list_all passes (take n bs) ≡ true) × (length (take n bs) ≡ n))
        → (list_all passes (take (suc n) (b ∷ bs)) ≡ true) × (length (take (suc n) (b ∷ bs)) ≡ suc n)
    by true e later =
        let below : suc n ≤ 1 + prefix_len passes bs = rw e at h in
        let others = later (omega (arith, below)) in
        (and_from (passes b) (list_all passes (take n bs)) e others.0, omega (arith, others.1))
    by false e later = let below : suc n ≤ 0 = rw e at h in absurd (omega (arith, below))

-- as many bytes as pass at the front are up to the first that doesn't
length-le-prefix_len : (passes : ℕ → Bool) (more less : List ℕ) → list_all passes more ≡ true
    → length more ≤ prefix_len passes (more ++ less)
length-le-prefix_len passes [] less e = omega arith
length-le-prefix_len passes (m ∷ more) less e =
    let parts = and_parts (passes m) (list_all passes more) e in
    let others = length-le-prefix_len passes more less parts.1 in
    rw (parts.0) (omega (arith, others))

pub run_reached : (apart passes : ℕ → Bool) (most : ℕ) (text : List ℕ)
    → Reaches apart (is_run passes most) text (run_reach passes most text)
run_reached apart passes most text =
    record {
      front = take n text;
      back = drop n text;
      split = sym (take-append-drop n text);
      size = passing.1;
      begins = record {
        rest = [];
        free = tt;
        accepted = rw (append-nil) (and_from (nat_le (length (take n text)) most) (list_all passes (take n text))
            (le-leb _ _ (omega (arith, passing.1))) passing.0);
      };
      longest = λ more less e b. longest more less e b;
    }
  where
    n : ℕ
    n = run_reach passes most text

    passing : (list_all passes (take n text) ≡ true) × (length (take n text) ≡ n)
    passing = list_all-take passes n text (omega arith)

    longest : (more less : List ℕ) → text ≡ more ++ less → Begins apart (is_run passes most) more
        → length more ≤ run_reach passes most text
    longest more less e b =
        let parts = and_parts (nat_le (length (more ++ b.rest)) most) (list_all passes (more ++ b.rest)) b.accepted in
        let few = leb-true _ _ parts.0 in
        let total = length-append more b.rest in
        let all = length-le-prefix_len passes more less (list_all-front passes more b.rest parts.1) in
        let here : length more ≤ prefix_len passes text = rw e all in
        omega (arith, few, total, here)

pub name_reached : (apart : ℕ → Bool) → IsFalse (apart 97) → (text : List ℕ)
    → Reaches apart is_name text (name_reach text)
name_reached apart inside text =
    same_language apart (is_led is_ascii_alphabetic (is_run is_name_byte 31)) is_name same text (name_reach text)
    (led_reached apart is_ascii_alphabetic (is_run is_name_byte 31) (run_reach is_name_byte 31) 97 refl inside
    (run_reached apart is_name_byte 31) text)
  where
    same : (t : List ℕ) → is_led is_ascii_alphabetic (is_run is_name_byte 31) t ≡ is_name t
    same [] = refl
    same (b ∷ bs) = refl

pub digits_reached : (apart : ℕ → Bool) → IsFalse (apart 48) → (most : ℕ) → 0 < most → (text : List ℕ)
    → Reaches apart (are_digits most) text (digits_reach most text)
digits_reached apart inside most room text =
    filled_reached apart (is_run is_ascii_digit most) text (digits_reach most text)
    (record {
      rest = 48 ∷ [];
      free = (inside, tt);
      accepted = and_from (nat_le 1 most) true (le-leb _ _ (omega (arith, room))) refl;
    }) (run_reached apart is_ascii_digit most text)

pub number_reached : (apart : ℕ → Bool) → IsFalse (apart 48) → (text : List ℕ)
    → Reaches apart is_number text (number_reach text)
number_reached apart inside text = digits_reached apart inside 18 (omega arith) text

pub word_reached : (apart : ℕ → Bool) (word : List ℕ) → Free apart word → (text : List ℕ)
    → Reaches apart (λ t. bytes_eq t word) text (word_reach word text)
word_reached apart [] free text =
    Reaches-nothing apart (λ t. bytes_eq t []) text (record { rest = []; free = tt; accepted = refl })
    (λ more less e b. by more b.rest b.accepted)
  where
    by : (more rest : List ℕ) → bytes_eq (more ++ rest) [] ≡ true → length more ≤ 0
    by [] rest e = omega arith
    by (x ∷ more) rest e = absurd (true≢false (sym e))
word_reached apart (c ∷ cs) free text =
    same_language apart (is_led (λ b. b == c) (λ t. bytes_eq t cs)) (λ t. bytes_eq t (c ∷ cs)) same text
    (word_reach (c ∷ cs) text)
    (led_reached apart (λ b. b == c) (λ t. bytes_eq t cs) (word_reach cs) c (eq-eqb c c refl) free.0
    (word_reached apart cs free.1) text)
  where
    same : (t : List ℕ) → is_led (λ b. b == c) (λ u. bytes_eq u cs) t ≡ bytes_eq t (c ∷ cs)
    same [] = refl
    same (b ∷ bs) = refl

-- digits don't begin with a minus
are_digits-minus : (most : ℕ) (t : List ℕ) → begins_with 45 t ≡ true → are_digits most t ≡ false
are_digits-minus most [] e = cc
are_digits-minus most (b ∷ bs) e =
    let minus = eqb-true b 45 e in
    rw minus (and_right (nat_lt 0 (length (45 ∷ bs))) (nat_le (length (45 ∷ bs)) most && false)
    (and_right (nat_le (length (45 ∷ bs)) most) false refl))

pub integer_reached : (apart : ℕ → Bool) → IsFalse (apart 48) → (text : List ℕ)
    → Reaches apart is_integer text (integer_reach text)
integer_reached apart inside text =
    signed_reached apart (are_digits 6) (are_digits-minus 6) (digits_reach 6)
    (λ t. digits_reached apart inside 6 (omega arith) t) text
