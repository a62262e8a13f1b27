-- Places that are less, and places that are not greater.
use Rattle.std.proofs.Common.{◌≡◌, ◌≢◌, sym, subst}
use Rattle.std.proofs.lemmas.Cmp.{tied_itself}
use Rattle.std.specs.declared.cmp.Ordering.{Ordering}
use Rattle.std.specs.declared.cmp.Ordering.TheVariants.{Less, Equal, Greater}
use Rattle.sf_algebra.specs.Rings.{Weights}
use Rattle.sf_algebra.specs.Vectors.{Place, place_cmp}
use Rattle.sf_algebra.proofs.Monomials.Orders.{ordering_cases, place_cmp-Equal, place_cmp_total}

pub Less-not_Greater : (o : Ordering) → o ≡ Less → o ≢ Greater
Less-not_Greater o less greater = cc

pub Equal-not_Greater : (o : Ordering) → o ≡ Equal → o ≢ Greater
Equal-not_Greater o equal greater = cc

-- no place is greater than itself
pub not_greater_itself : (weights : Weights) (k : Place) → place_cmp weights k k ≢ Greater
not_greater_itself weights k = Equal-not_Greater _ (tied_itself (place_cmp_total weights) k)

-- what is less than k is less than what k is not greater than
pub less_not_greater : (weights : Weights) (j k b : Place) → place_cmp weights j k ≡ Less
    → place_cmp weights k b ≢ Greater → place_cmp weights j b ≡ Less
less_not_greater weights j k b less most =
    ordering_cases (place_cmp weights k b)
    (λ below. (place_cmp_total weights).trans j k b less below)
    (λ equal. subst (λ l. place_cmp weights j l ≡ Less) (place_cmp-Equal weights k b equal) less)
    (λ greater. absurd (most greater))

-- what is not greater than k is less than what k is less than
pub not_greater_less : (weights : Weights) (j k b : Place) → place_cmp weights j k ≢ Greater
    → place_cmp weights k b ≡ Less → place_cmp weights j b ≡ Less
not_greater_less weights j k b most less =
    ordering_cases (place_cmp weights j k)
    (λ below. (place_cmp_total weights).trans j k b below less)
    (λ equal. subst (λ l. place_cmp weights l b ≡ Less) (sym (place_cmp-Equal weights j k equal)) less)
    (λ greater. absurd (most greater))
