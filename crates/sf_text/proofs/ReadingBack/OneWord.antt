-- A text without spaces and ends of lines is one word of one line.
use Rattle.std.proofs.Common.{ℕ, ◌<◌, ◌≤◌, List, [], ◌∷◌, length, arith}
use Rattle.std.specs.List.{AllByRecursion}
use Rattle.sf_algebra.proofs.Basics.Lists.{AllByRecursion-weaken}
use Rattle.sf_text.specs.ReadingBack.{IsOneWord}
use Rattle.sf_text.proofs.Cuts.{script_lines-None, words-None}
use Rattle.sf_text.proofs.ReadingBack.Joined.{Lacks, position-whole}

-- a byte other than the space, past all that end lines
abbrev pub IsPrintedByte : ℕ → Type 0
IsPrintedByte b = 33 ≤ b

abbrev pub IsPrinted : List ℕ → Type 0
IsPrinted text = AllByRecursion IsPrintedByte text

pub one_word : (text : List ℕ) → IsPrinted text → 0 < length text → IsOneWord text
one_word [] h some = absurd (omega arith)
one_word (b ∷ bs) h some =
    let no_end : Lacks 10 (b ∷ bs) = AllByRecursion-weaken _ _ (λ c k is. omega arith) (b ∷ bs) h in
    let no_space : Lacks 32 (b ∷ bs) = AllByRecursion-weaken _ _ (λ c k is. omega arith) (b ∷ bs) h in
    record {
      line = script_lines-None (b ∷ bs) some (position-whole 10 (b ∷ bs) no_end);
      word = words-None b bs (position-whole 32 (b ∷ bs) no_space);
    }
