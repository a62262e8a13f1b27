use Rattle.std.proofs.Common.{◌≡◌, ◌≢◌, drop, rules, sym, subst}
use Rattle.std.specs.declared.cmp.Ordering.TheVariants.{Equal}
use Rattle.sf_algebra.specs.Rings.{ones}
use Rattle.sf_algebra.specs.Terms.{IsCanonical}
use Rattle.sf_algebra.specs.Vectors.{place_cmp}
use Rattle.sf_algebra.proofs.Terms.Coefficients.{IsCanonical-tail}
use Rattle.sf_groebner.specs.Divisions.{AreBelow}
use Rattle.sf_reduce.specs.Buckets.{IsUpTo}
use Rattle.sf_reduce.proofs.Greatest.{AreBelow-first, AreBelow-tail}
use Rattle.sf_reduce.proofs.bucket.Bucket.take_at.Goals as goal

pub returns-then-ne-clause-below : goal.returns-then-ne-clause-below
returns-then-ne-clause-below c =
    let k = c.args.place.now.at in
    let shape = c.in-Some.ensures.first in
    let t = c.in-Some.first.now in
    let ts = drop 1 c.args.self.now in
    let canonical = subst (IsCanonical (place_cmp ones) c.args.modulus) shape c.requires.canonical in
    let above = subst (IsUpTo k) shape c.requires.above in
    let apart : place_cmp ones t.at k ≢ Equal = search rules in
    subst (AreBelow ones k) (sym shape) (AreBelow-first k t ts canonical.descending above.0 apart)

pub returns-clause-canonical : goal.returns-clause-canonical
returns-clause-canonical c =
    let canonical =
    subst (IsCanonical (place_cmp ones) c.args.modulus) c.in-Some.ensures.first c.requires.canonical in
    subst (IsCanonical (place_cmp ones) c.args.modulus) (sym c.drop_first.ensures.rest)
    (IsCanonical-tail (place_cmp ones) c.args.modulus c.in-Some.first.now (drop 1 c.args.self.now) canonical)

pub returns-clause-below : goal.returns-clause-below
returns-clause-below c =
    let canonical =
    subst (IsCanonical (place_cmp ones) c.args.modulus) c.in-Some.ensures.first c.requires.canonical in
    let equal : place_cmp ones c.in-Some.first.now.at c.args.place.now.at ≡ Equal = search rules in
    subst (AreBelow ones c.args.place.now.at) (sym c.drop_first.ensures.rest)
    (AreBelow-tail c.args.place.now.at c.in-Some.first.now (drop 1 c.args.self.now) canonical.descending equal)
