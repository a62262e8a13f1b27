-- What is asked of a test of equality.
use Rattle.std.specs.Prelude.{◌≡◌, ◌↔◌, Bool, IsTrue}

-- a test that is true exactly of equal values
abbrev pub DecidesEquality : {K : Type 0} → (K → K → Bool) → Type 0
DecidesEquality {K} test = (a b : K) → IsTrue (test a b) ↔ (a ≡ b)
