use Rattle.std.proofs.Common.{subst, sym}
use Rattle.sf_algebra.specs.Rings.{ones}
use Rattle.sf_algebra.specs.Vectors.{place_cmp}
use Rattle.sf_algebra.proofs.Basics.Descending.{IsBelowEach, IsDescending-push}
use Rattle.sf_algebra.proofs.Basics.Lists.{AllByRecursion-append}
use Rattle.sf_matrix.specs.Places.{place_of}
use Rattle.sf_matrix.proofs.vector.Vector.push.Goals as goal

pub invariant_of-self-2 : goal.invariant_of-self-2
invariant_of-self-2 c =
    let last =
    subst (λ v. IsBelowEach (place_cmp ones) (place_of c.args.position c.args.a) v.terms)
    (sym c.self.view_is) c.requires.last in
    rw c.in_ok-push.ensures.items
    (IsDescending-push (place_cmp ones) _ _ c.self.invariant.0 last, AllByRecursion-append _ _ _ c.self.invariant.1 (c.requires.nonzero, tt))
