use Rattle.std.proofs.Common.{◌≡◌, List, [], ◌∷◌, ℕ, length, drop, refl, arith}
use Rattle.sf_grammar.specs.WordReaches.{word_reach}
use Rattle.sf_text.proofs.reaches.word_reach.Goals as goal

word_reach-nothing : (word left : List ℕ) → length left ≡ 0 → word_reach word left ≡ 0
word_reach-nothing [] left e = refl
word_reach-nothing (c ∷ word) [] e = refl
word_reach-nothing (c ∷ word) (b ∷ bs) e = absurd (omega (arith, e))

pub returns-in_default-2-clause-value : goal.returns-in_default-2-clause-value
returns-in_default-2-clause-value c =
    let empty : length c.loop-byte.left.now ≡ 0 = rw c.in_default.is at c.split_first.ensures.cases in
    let none = word_reach-nothing (drop c.loop-byte.byte-index c.args.word.now) c.loop-byte.left.now empty in
    omega (arith, c.loop-byte.invariant.reached, none)
