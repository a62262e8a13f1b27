-- What holds of the numbers of monomials and of places. (Knuth, "The Art of Computer Programming", volume 2, section
-- 4.1.)
use Rattle.std.specs.Prelude.{◌≡◌, ◌^◌, ◌<◌}
use Rattle.std.specs.Ordering.{nat_cmp}
use Rattle.sf_algebra.specs.Monomials.{Monomial, monomial_cmp}
use Rattle.sf_algebra.specs.Numbers.{monomial_number, HasDigits, place_number, HasPlaceDigits}
use Rattle.sf_algebra.specs.Rings.{ones}
use Rattle.sf_algebra.specs.Vectors.{Place, place_cmp}

-- a monomial's number has seven digits
abbrev pub FitsSevenDigits : Type 0
FitsSevenDigits = (a : Monomial) → HasDigits a → monomial_number a < 2 ^ 112

-- numbers compare as their monomials do
abbrev pub ComparesLikeMonomials : Type 0
ComparesLikeMonomials =
    (a b : Monomial) → HasDigits a → HasDigits b → nat_cmp (monomial_number a)
    (monomial_number b) ≡ monomial_cmp ones a b

-- monomials with one number are equal
abbrev pub TellsMonomialsApart : Type 0
TellsMonomialsApart = (a b : Monomial) → HasDigits a → HasDigits b → monomial_number a ≡ monomial_number b → a ≡ b

-- a place's number is below 2^192
abbrev pub FitsPlaces : Type 0
FitsPlaces = (k : Place) → HasPlaceDigits k → place_number k < 2 ^ 192

-- numbers compare as their places do
abbrev pub ComparesLikePlaces : Type 0
ComparesLikePlaces =
    (k l : Place) → HasPlaceDigits k → HasPlaceDigits l → nat_cmp (place_number k) (place_number l) ≡ place_cmp ones k l

-- places with one number are equal
abbrev pub TellsPlacesApart : Type 0
TellsPlacesApart = (k l : Place) → HasPlaceDigits k → HasPlaceDigits l → place_number k ≡ place_number l → k ≡ l
