-- A text has one column at most.
use Rattle.std.proofs.Common.{◌≡◌, ℕ, ◌≤◌, List, Bool, subst, arith}
use Rattle.sf_grammar.specs.Reaches.{Reaches, IsColumn, nothing}

-- a text reaches no further than it does
pub Reaches-le : (apart : ℕ → Bool) (language : List ℕ → Bool) (text : List ℕ) (n m : ℕ) → Reaches apart language text n
    → Reaches apart language text m → n ≤ m
Reaches-le apart language text n m r s =
    subst (λ k. k ≤ m) r.size (s.longest r.front r.back r.split r.begins)

pub Reaches-one : (apart : ℕ → Bool) (language : List ℕ → Bool) (text : List ℕ) (n m : ℕ) → Reaches apart language text n
    → Reaches apart language text m → n ≡ m
Reaches-one apart language text n m r s =
    let below = Reaches-le apart language text n m r s in
    let above = Reaches-le apart language text m n s r in
    omega (arith, below, above)

pub column_one : (language : List ℕ → Bool) (text : List ℕ) (c d : ℕ) → IsColumn language text c → IsColumn language text d
    → c ≡ d
column_one language text c d first second =
    let same = Reaches-one nothing language text first.0 second.0 first.1 second.1 in
    omega (arith, same, first.2, second.2)
