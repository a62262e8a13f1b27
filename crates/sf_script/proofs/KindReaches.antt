-- It is known how far a text reaches into each kind of words.
use Rattle.std.proofs.Common.{◌≡◌, ℕ, ◌+◌, List, [], ◌∷◌, length, Bool, true, false, cond, ◌&&◌, Some, None, is_some, ◌==◌, refl, sym, ap, ◌∙◌, subst, arith, append-nil, length-append}
use Rattle.sf_grammar.proofs.Languages.{same_language, led_reached}
use Rattle.sf_grammar.proofs.WordReaches.{name_reached, number_reached, integer_reached}
use Rattle.sf_grammar.specs.Forms.{IsRightKind}
use Rattle.sf_text.proofs.MatrixReached.{matrices_reach}
use Rattle.sf_grammar.specs.Reaches.{Reaches}
use Rattle.sf_grammar.specs.WordReaches.{is_led, led_reach}
use Rattle.sf_grammar.specs.Words.{is_space, begins_with, is_name, is_number, is_integer}
use Rattle.sf_script.specs.Kinds.{word_value, kind_reach, kinds}
use Rattle.sf_script.specs.declared.forms.Kind.TheVariants.{Name, Number, Integer, Matrix, Client}
use Rattle.sf_script.specs.declared.forms.Kind.{Kind}

any_reached : (text : List ℕ) → Reaches is_space (λ t. true) text (length text)
any_reached text =
    record {
      front = text;
      back = [];
      split = sym (append-nil text);
      size = refl;
      begins = record { rest = []; free = tt; accepted = refl };
      longest = λ more less e b. let size = ap length e ∙ length-append more less in omega (arith, size);
    }

client_reached : (text : List ℕ) → Reaches is_space (begins_with 64) text (kind_reach Client text)
client_reached text =
    subst (λ n. Reaches is_space (begins_with 64) text n) (size text)
    (same_language is_space (is_led (λ b. b == 64) (λ t. true)) (begins_with 64) same text
    (led_reach (λ b. b == 64) length text)
    (led_reached is_space (λ b. b == 64) (λ t. true) length 64 refl refl any_reached text))
  where
    same : (t : List ℕ) → is_led (λ b. b == 64) (λ u. true) t ≡ begins_with 64 t
    same [] = refl
    same (b ∷ bs) = by (b == 64)
      where
        by : (x : Bool) → (x && true) ≡ x
        by true = refl
        by false = refl

    size : (t : List ℕ) → led_reach (λ b. b == 64) length t ≡ kind_reach Client t
    size [] = refl
    size (b ∷ bs) = by (b == 64)
      where
        by : (x : Bool) → cond x (1 + length bs) 0 ≡ cond x (length (b ∷ bs)) 0
        by true = omega arith
        by false = refl

pub right_kinds : (k : Kind) → IsRightKind kinds k
right_kinds Name = record { filled = refl; reached = λ text free. name_reached is_space refl text }
right_kinds Number = record { filled = refl; reached = λ text free. number_reached is_space refl text }
right_kinds Integer = record { filled = refl; reached = λ text free. integer_reached is_space refl text }
right_kinds Matrix =
    record { filled = refl; reached = λ text free. matrices_reach is_space (refl, (refl, (refl, (refl, (refl, (refl, (refl, (refl, (refl, tt))))))))) text free }
right_kinds Client = record { filled = refl; reached = λ text free. client_reached text }

if_some : {X : Type 0} (b : Bool) (x : X) → is_some (cond b (Some x) None) ≡ b
if_some true x = refl
if_some false x = refl

-- the words of a kind are those that can be read
pub readable : (k : Kind) (w : List ℕ) → is_some (word_value k w) ≡ kinds.is_of k w
readable Name w = if_some (is_name w) w
readable Number w = if_some (is_number w) _
readable Integer w = if_some (is_integer w) _
readable Matrix w = refl
readable Client w = if_some (begins_with 64 w) tt
