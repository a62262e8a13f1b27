-- How far a text reaches into languages that are made of others.
use Rattle.std.proofs.Common.{◌≡◌, ℕ, ◌+◌, ◌≤◌, ◌<◌, max, ◌⊎◌, inl, inr, List, [], ◌∷◌, ◌++◌, length, Bool, true, false, ◌||◌, ◌&&◌, cond, refl, sym, ap, ◌∙◌, subst, IsTrue, IsFalse, arith, append_assoc, nat_lt, lt-ltb, ◌==◌}
use Rattle.std.specs.List.{list_any, AllByRecursion}
use Rattle.std.proofs.lemmas.Bool.{true≢false, or_left, or_right, or_cases, and_from, and_parts, cases_lt}
use Rattle.sf_grammar.specs.Reaches.{Free, Begins, Reaches}
use Rattle.sf_grammar.specs.WordReaches.{is_led, led_reach, greatest_by, signed, signed_reach}
use Rattle.sf_grammar.specs.Words.{begins_with}
use Rattle.sf_grammar.proofs.Cutting.{Free-append}

Begins-same : (apart : ℕ → Bool) (p q : List ℕ → Bool) → ((t : List ℕ) → p t ≡ q t) → (f : List ℕ) → Begins apart p f
    → Begins apart q f
Begins-same apart p q same f b = record { rest = b.rest; free = b.free; accepted = sym (same (f ++ b.rest)) ∙ b.accepted }

-- two languages of the same texts
pub same_language : (apart : ℕ → Bool) (p q : List ℕ → Bool) → ((t : List ℕ) → p t ≡ q t) → (text : List ℕ) (n : ℕ)
    → Reaches apart p text n → Reaches apart q text n
same_language apart p q same text n r =
    record {
      front = r.front;
      back = r.back;
      split = r.split;
      size = r.size;
      begins = Begins-same apart p q same r.front r.begins;
      longest = λ more less e b. r.longest more less e (Begins-same apart q p (λ t. sym (same t)) more b);
    }

-- a beginning of a beginning
pub Begins_shorter : (apart : ℕ → Bool) (p : List ℕ → Bool) (xs ys : List ℕ) → Free apart ys → Begins apart p (xs ++ ys)
    → Begins apart p xs
Begins_shorter apart p xs ys free b =
    record {
      rest = ys ++ b.rest;
      free = Free-append apart ys b.rest free b.free;
      accepted = ap p (sym (append_assoc xs ys b.rest)) ∙ b.accepted;
    }

-- a language with a text has the empty beginning
pub Begins-nothing : (apart : ℕ → Bool) (p : List ℕ → Bool) (n : ℕ) → Reaches apart p [] n → Begins apart p []
Begins-nothing apart p n r = by r.front r.back r.split r.begins
  where
    by : (front back : List ℕ) → [] ≡ front ++ back → Begins apart p front → Begins apart p []
    by [] back split b = b
    by (x ∷ front) back split b = cc

module _ (apart : ℕ → Bool) (p q : List ℕ → Bool) (text : List ℕ) where
  Begins-left : (f : List ℕ) → Begins apart p f → Begins apart (λ t. p t || q t) f
  Begins-left f b =
      record { rest = b.rest; free = b.free; accepted = or_left (p (f ++ b.rest)) (q (f ++ b.rest)) b.accepted }

  Begins-right : (f : List ℕ) → Begins apart q f → Begins apart (λ t. p t || q t) f
  Begins-right f b =
      record { rest = b.rest; free = b.free; accepted = or_right (p (f ++ b.rest)) (q (f ++ b.rest)) b.accepted }

  below : (n m : ℕ) → Reaches apart p text n → Reaches apart q text m → (more less : List ℕ) → text ≡ more ++ less
      → Begins apart (λ t. p t || q t) more → length more ≤ max n m
  below n m left right more less e b = by (or_cases (p (more ++ b.rest)) (q (more ++ b.rest)) b.accepted)
    where
      by : (p (more ++ b.rest) ≡ true) ⊎ (q (more ++ b.rest) ≡ true) → length more ≤ max n m
      by (inl accepted) =
          let h = left.longest more less e (record { rest = b.rest; free = b.free; accepted = accepted }) in
          omega (arith, h)
      by (inr accepted) =
          let h = right.longest more less e (record { rest = b.rest; free = b.free; accepted = accepted }) in
          omega (arith, h)

  -- the texts of two languages
  pub union_reached : (n m : ℕ) → Reaches apart p text n → Reaches apart q text m
      → Reaches apart (λ t. p t || q t) text (max n m)
  union_reached n m left right = by (cases_lt n m)
    where
      by : (n < m) ⊎ (m ≤ n) → Reaches apart (λ t. p t || q t) text (max n m)
      by (inl less) =
          record {
            front = right.front;
            back = right.back;
            split = right.split;
            size = omega (arith, right.size, less);
            begins = Begins-right right.front right.begins;
            longest = below n m left right;
          }
      by (inr less) =
          record {
            front = left.front;
            back = left.back;
            split = left.split;
            size = omega (arith, left.size, less);
            begins = Begins-left left.front left.begins;
            longest = below n m left right;
          }

-- the texts of any number of languages, at least one
pub some_reached : {X : Type 0} (apart : ℕ → Bool) (p : X → List ℕ → Bool) (number : X → ℕ) (text : List ℕ) (x : X)
    (xs : List X) → AllByRecursion (λ (y : X). Reaches apart (p y) text (number y)) (x ∷ xs)
    → Reaches apart (λ t. list_any (λ y. p y t) (x ∷ xs)) text (greatest_by number (x ∷ xs))
some_reached apart p number text x [] rs =
    subst (λ n. Reaches apart (λ t. p x t || false) text n) (omega arith)
    (same_language apart (p x) (λ t. p x t || false) (λ t. unit (p x t)) text (number x) rs.0)
  where
    unit : (b : Bool) → b ≡ (b || false)
    unit true = refl
    unit false = refl
some_reached apart p number text x (y ∷ ys) rs =
    union_reached apart (p x) (λ t. list_any (λ z. p z t) (y ∷ ys)) text (number x) (greatest_by number (y ∷ ys)) rs.0
    (some_reached apart p number text y ys rs.1)

-- no text reaches less far than nothing
pub Reaches-nothing : (apart : ℕ → Bool) (p : List ℕ → Bool) (text : List ℕ) → Begins apart p []
    → ((more less : List ℕ) → text ≡ more ++ less → Begins apart p more → length more ≤ 0) → Reaches apart p text 0
Reaches-nothing apart p text begins longest =
    record { front = []; back = text; split = refl; size = refl; begins = begins; longest = longest }

-- an empty text has no other beginning
pub length-front_of_nothing : (more less : List ℕ) (n : ℕ) → [] ≡ more ++ less → length more ≤ n
length-front_of_nothing [] less n e = omega arith
length-front_of_nothing (x ∷ more) less n e = cc

-- a byte that leads in front of a text of a language
module _ (apart leads : ℕ → Bool) (language : List ℕ → Bool) where
  Begins-led : (b : ℕ) (f : List ℕ) → IsTrue (leads b) → Begins apart language f
      → Begins apart (is_led leads language) (b ∷ f)
  Begins-led b f is_lead begins =
      record {
        rest = begins.rest;
        free = begins.free;
        accepted = and_from (leads b) (language (f ++ begins.rest)) is_lead begins.accepted;
      }

  Begins-led_nothing : (byte : ℕ) → IsTrue (leads byte) → IsFalse (apart byte) → Begins apart language []
      → Begins apart (is_led leads language) []
  Begins-led_nothing byte is_lead inside begins =
      Begins_shorter apart (is_led leads language) [] (byte ∷ []) (inside, tt) (Begins-led byte [] is_lead begins)

  -- what is known where a text of the language begins
  Begins_led : (b : ℕ) (f : List ℕ) → Begins apart (is_led leads language) (b ∷ f)
      → IsTrue (leads b) × Begins apart language f
  Begins_led b f begins =
      let parts = and_parts (leads b) (language (f ++ begins.rest)) begins.accepted in
      (parts.0, record { rest = begins.rest; free = begins.free; accepted = parts.1 })

  -- where it is known how far the text behind the first byte reaches
  pub led_reached_at : (reach : List ℕ → ℕ) (byte : ℕ) → IsTrue (leads byte) → IsFalse (apart byte)
      → Begins apart language [] → (text : List ℕ)
      → ((c : ℕ) (cs : List ℕ) → text ≡ c ∷ cs → Reaches apart language cs (reach cs))
      → Reaches apart (is_led leads language) text (led_reach leads reach text)
  led_reached_at reach byte is_lead inside begins text reached = by text reached
    where
      empty : Begins apart (is_led leads language) []
      empty = Begins-led_nothing byte is_lead inside begins

      after : (c : ℕ) (cs : List ℕ) → Reaches apart language cs (reach cs) → (more less : List ℕ) → leads c ≡ true
          → c ∷ cs ≡ more ++ less → Begins apart (is_led leads language) more → length more ≤ 1 + reach cs
      after c cs r [] less e split b = omega arith
      after c cs r (m ∷ more) less e split b =
          let tails : cs ≡ more ++ less = cc in
          let h = r.longest more less tails (Begins_led m more b).1 in
          omega (arith, h)

      never : (c : ℕ) (cs : List ℕ) (more less : List ℕ) → leads c ≡ false → c ∷ cs ≡ more ++ less
          → Begins apart (is_led leads language) more → length more ≤ 0
      never c cs [] less e split b = omega arith
      never c cs (m ∷ more) less e split b =
          let heads : c ≡ m = cc in
          let is_one = (Begins_led m more b).0 in
          absurd (true≢false (sym is_one ∙ (ap leads (sym heads) ∙ e)))

      led : (c : ℕ) (cs : List ℕ) → Reaches apart language cs (reach cs) → (x : Bool) → leads c ≡ x
          → Reaches apart (is_led leads language) (c ∷ cs) (cond x (1 + reach cs) 0)
      led c cs r true e =
          record {
            front = c ∷ r.front;
            back = r.back;
            split = ap (λ xs. c ∷ xs) r.split;
            size = omega (arith, r.size);
            begins = Begins-led c r.front e r.begins;
            longest = λ more less split b. after c cs r more less e split b;
          }
      led c cs r false e =
          Reaches-nothing apart (is_led leads language) (c ∷ cs) empty
          (λ more less split b. never c cs more less e split b)

      by : (t : List ℕ) → ((c : ℕ) (cs : List ℕ) → t ≡ c ∷ cs → Reaches apart language cs (reach cs))
          → Reaches apart (is_led leads language) t (led_reach leads reach t)
      by [] known =
          Reaches-nothing apart (is_led leads language) [] empty
          (λ more less split b. length-front_of_nothing more less 0 split)
      by (c ∷ cs) known = led c cs (known c cs refl) (leads c) refl

  pub led_reached : (reach : List ℕ → ℕ) (byte : ℕ) → IsTrue (leads byte) → IsFalse (apart byte)
      → ((t : List ℕ) → Reaches apart language t (reach t)) → (text : List ℕ)
      → Reaches apart (is_led leads language) text (led_reach leads reach text)
  led_reached reach byte is_lead inside reached text =
      led_reached_at reach byte is_lead inside (Begins-nothing apart language (reach []) (reached [])) text
      (λ c cs e. reached cs)

-- the texts of a language that aren't empty
pub filled_reached : (apart : ℕ → Bool) (p : List ℕ → Bool) (text : List ℕ) (n : ℕ)
    → Begins apart (λ t. nat_lt 0 (length t) && p t) [] → Reaches apart p text n
    → Reaches apart (λ t. nat_lt 0 (length t) && p t) text n
filled_reached apart p text n empty r =
    record {
      front = r.front;
      back = r.back;
      split = r.split;
      size = r.size;
      begins = by r.front r.begins;
      longest = λ more less e b. r.longest more less e (record {
        rest = b.rest;
        free = b.free;
        accepted = (and_parts (nat_lt 0 (length (more ++ b.rest))) (p (more ++ b.rest)) b.accepted).1;
      });
    }
  where
    by : (f : List ℕ) → Begins apart p f → Begins apart (λ t. nat_lt 0 (length t) && p t) f
    by [] b = empty
    by (x ∷ xs) b =
        record {
          rest = b.rest;
          free = b.free;
          accepted = and_from (nat_lt 0 (length (x ∷ (xs ++ b.rest)))) (p (x ∷ (xs ++ b.rest))) (lt-ltb _ _ (omega arith)) b.accepted;
        }

-- a language of texts that don't begin with a minus, with an optional minus in front
module _ (apart : ℕ → Bool) (language : List ℕ → Bool) (plain : (t : List ℕ) → begins_with 45 t ≡ true → language t ≡ false) where
  -- what the language accepts, it accepts without a minus
  accepts-unsigned : (t : List ℕ) → language t ≡ true → signed language t ≡ true
  accepts-unsigned t e = by (begins_with 45 t) refl
    where
      by : (x : Bool) → begins_with 45 t ≡ x → signed language t ≡ true
      by true minus = absurd (true≢false (sym e ∙ plain t minus))
      by false minus = rw minus e

  Begins-unsigned : (f : List ℕ) → Begins apart language f → Begins apart (signed language) f
  Begins-unsigned f b = record { rest = b.rest; free = b.free; accepted = accepts-unsigned (f ++ b.rest) b.accepted }

  Begins-minus : (c : ℕ) (f : List ℕ) → (c == 45) ≡ true → Begins apart language f
      → Begins apart (signed language) (c ∷ f)
  Begins-minus c f e b = record { rest = b.rest; free = b.free; accepted = rw e b.accepted }

  Begins_minus : (c : ℕ) (f : List ℕ) → (c == 45) ≡ true → Begins apart (signed language) (c ∷ f)
      → Begins apart language f
  Begins_minus c f e b =
      record { rest = b.rest; free = b.free; accepted = rw e at b.accepted }

  Begins_plain : (c : ℕ) (f : List ℕ) → (c == 45) ≡ false → Begins apart (signed language) (c ∷ f)
      → Begins apart language (c ∷ f)
  Begins_plain c f e b = record { rest = b.rest; free = b.free; accepted = rw e at b.accepted }

  -- where it is known how far the text reaches without a minus, and how far what stands behind its first byte does
  pub signed_reached_at : (reach : List ℕ → ℕ) (text : List ℕ) → Reaches apart language text (reach text)
      → ((c : ℕ) (cs : List ℕ) → text ≡ c ∷ cs → Reaches apart language cs (reach cs))
      → Reaches apart (signed language) text (signed_reach reach text)
  signed_reached_at reach [] r reached =
      record {
        front = r.front;
        back = r.back;
        split = r.split;
        size = r.size;
        begins = Begins-unsigned r.front r.begins;
        longest = λ more less e b. length-front_of_nothing more less (reach []) e;
      }
  signed_reached_at reach (c ∷ cs) r reached = by (c == 45) refl
    where
      behind : Reaches apart language cs (reach cs)
      behind = reached c cs refl

      within_minus : (c == 45) ≡ true → (more less : List ℕ) → c ∷ cs ≡ more ++ less → Begins apart (signed language) more
          → length more ≤ 1 + reach cs
      within_minus e [] less split b = omega arith
      within_minus e (m ∷ more) less split b =
          let heads : c ≡ m = cc in
          let tails : cs ≡ more ++ less = cc in
          let h = behind.longest more less tails (Begins_minus m more (subst (λ x. (x == 45) ≡ true) heads e) b) in
          omega (arith, h)

      within_plain : (c == 45) ≡ false → (more less : List ℕ) → c ∷ cs ≡ more ++ less → Begins apart (signed language) more
          → length more ≤ reach (c ∷ cs)
      within_plain e [] less split b = omega arith
      within_plain e (m ∷ more) less split b =
          let heads : c ≡ m = cc in
          r.longest (m ∷ more) less split (Begins_plain m more (subst (λ x. (x == 45) ≡ false) heads e) b)

      by : (x : Bool) → (c == 45) ≡ x
          → Reaches apart (signed language) (c ∷ cs) (cond x (1 + reach cs) (reach (c ∷ cs)))
      by true e =
          record {
            front = c ∷ behind.front;
            back = behind.back;
            split = ap (λ xs. c ∷ xs) behind.split;
            size = omega (arith, behind.size);
            begins = Begins-minus c behind.front e behind.begins;
            longest = λ more less split b. within_minus e more less split b;
          }
      by false e =
          record {
            front = r.front;
            back = r.back;
            split = r.split;
            size = r.size;
            begins = Begins-unsigned r.front r.begins;
            longest = λ more less split b. within_plain e more less split b;
          }

  pub signed_reached : (reach : List ℕ → ℕ) → ((t : List ℕ) → Reaches apart language t (reach t)) → (text : List ℕ)
      → Reaches apart (signed language) text (signed_reach reach text)
  signed_reached reach reached text = signed_reached_at reach text (reached text) (λ c cs e. reached cs)
