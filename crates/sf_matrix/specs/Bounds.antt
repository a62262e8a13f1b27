-- What keeps products of terms within the room of a monomial.
use Rattle.std.specs.Prelude.{ℕ, ◌+◌, ◌*◌, ◌^◌, ◌<◌, ◌≤◌, List, ℤ, pos, neg_ℤ, ◌+ℤ◌, ◌≤ℤ◌}
use Rattle.std.specs.List.{AllByRecursion}
use Rattle.sf_algebra.specs.Bounds.{GREATEST_SUM}
use Rattle.sf_algebra.specs.Monomials.{Monomial, exponent_sum}
use Rattle.sf_algebra.specs.Terms.{Term}
use Rattle.sf_algebra.specs.Vectors.{Place, Vector}

-- the products of a monomial with each term of a list have room
abbrev pub HasRoom : Monomial → List (Term Place) → Type 0
HasRoom a ts = AllByRecursion (λ (u : Term Place). exponent_sum a + exponent_sum u.at.monomial ≤ GREATEST_SUM) ts

-- the products of each term of c with the row for which it stands have room
abbrev pub CombinationFits : (ℕ → List (Term Place)) → List (Term Place) → Type 0
CombinationFits row c = AllByRecursion (λ (t : Term Place). HasRoom t.at.monomial (row t.at.position)) c

-- a degree is at most so far above each degree of a free module that a vector of this degree has room
abbrev pub DegreeFits : List ℤ → ℤ → Type 0
DegreeFits degrees d = AllByRecursion (λ (e : ℤ). d ≤ℤ (e +ℤ pos GREATEST_SUM)) degrees

-- the greatest number of 32 bits with a sign
abbrev pub GREATEST_I32 : ℤ
GREATEST_I32 = pos 2147483647

-- the negative of a degree has room in 32 bits
abbrev pub HasNegative : ℤ → Type 0
HasNegative d = neg_ℤ GREATEST_I32 ≤ℤ d

-- a degree has room in 32 bits
abbrev pub IsDegree : ℤ → Type 0
IsDegree d = (neg_ℤ (pos 2147483648) ≤ℤ d) × (d ≤ℤ GREATEST_I32)

-- the sums of a degree of the first list and one of the second have room
abbrev pub SumsFit : List ℤ → List ℤ → Type 0
SumsFit ds es = AllByRecursion (λ (d : ℤ). AllByRecursion (λ (e : ℤ). IsDegree (d +ℤ e)) es) ds

-- the products of each term of one list with each of another have room
abbrev pub TermsFit : List (Term Place) → List (Term Place) → Type 0
TermsFit ts us = AllByRecursion (λ (t : Term Place). HasRoom t.at.monomial us) ts

-- the positions of tensor products with terms over n columns have room
abbrev pub PositionsFit : ℕ → List (Term Place) → List (Term Place) → Type 0
PositionsFit n ts us =
    AllByRecursion (λ (t : Term Place). (t.at.position * n < 2 ^ 64) × AllByRecursion (λ (u : Term Place). t.at.position * n + u.at.position < 2 ^ 64) us) ts

-- the products of each term of each row with each term of each of the others have room
abbrev pub KroneckerFits : List Vector → List Vector → Type 0
KroneckerFits rows others =
    AllByRecursion (λ (v : Vector). AllByRecursion (λ (w : Vector). TermsFit v.terms w.terms) others) rows
