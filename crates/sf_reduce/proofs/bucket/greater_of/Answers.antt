use Rattle.std.proofs.Common.{◌≡◌, ◌≢◌, [], ◌∷◌, ◌++◌, Some, drop, rules, sym, subst}
use Rattle.std.specs.declared.cmp.Ordering.TheVariants.{Greater}
use Rattle.sf_algebra.specs.Rings.{ones}
use Rattle.sf_algebra.specs.Terms.{IsDescending}
use Rattle.sf_algebra.specs.Vectors.{place_cmp}
use Rattle.sf_reduce.specs.Buckets.{GreatestOf}
use Rattle.sf_reduce.proofs.Greatest.{GreatestOf-first, GreatestOf-greater, GreatestOf-kept, GreatestOf-nil}
use Rattle.sf_reduce.proofs.bucket.greater_of.Goals as goal

pub returns-in_default : goal.returns-in_default
returns-in_default c = record {
  greatest = λ bs h. subst (λ b. GreatestOf c.args.greatest (bs ++ b ∷ [])) (sym c.in_default.ensures.first) (GreatestOf-nil c.args.greatest bs h);
}

pub returns-in_default-greatest : goal.returns-in_default-greatest
returns-in_default-greatest c =
    let t = c.in-Some.first.now in
    let shape = c.in-Some.ensures.first in
    let descending = subst (IsDescending (place_cmp ones)) shape c.requires.descending in
    record {
      greatest = λ bs h. subst (λ b. GreatestOf (Some t) (bs ++ b ∷ [])) (sym shape) (GreatestOf-first bs t (drop 1 c.args.bucket.now) descending (subst (λ o. GreatestOf o bs) c.in_default-greatest.is h));
    }

pub returns-then-eq : goal.returns-then-eq
returns-then-eq c =
    let t = c.in-Some.first.now in
    let s = c.in-Some-greatest.term in
    let shape = c.in-Some.ensures.first in
    let descending = subst (IsDescending (place_cmp ones)) shape c.requires.descending in
    let greater : place_cmp ones t.at s.at ≡ Greater = search rules in
    record {
      greatest = λ bs h. subst (λ b. GreatestOf (Some t) (bs ++ b ∷ [])) (sym shape) (GreatestOf-greater bs t (drop 1 c.args.bucket.now) descending s greater (subst (λ o. GreatestOf o bs) c.in-Some-greatest.is h));
    }

pub returns-else-eq : goal.returns-else-eq
returns-else-eq c =
    let t = c.in-Some.first.now in
    let s = c.in-Some-greatest.term in
    let shape = c.in-Some.ensures.first in
    let descending = subst (IsDescending (place_cmp ones)) shape c.requires.descending in
    let most : place_cmp ones t.at s.at ≢ Greater = search rules in
    record {
      greatest = λ bs h. subst (λ b. GreatestOf (Some s) (bs ++ b ∷ [])) (sym shape) (GreatestOf-kept bs t (drop 1 c.args.bucket.now) descending s most (subst (λ o. GreatestOf o bs) c.in-Some-greatest.is h));
    }
