-- What holds of inverse maps of presented modules. (Textbook; the choice of the inverse matrix is this project's own.)
use Rattle.std.specs.Prelude.{◌≡◌, ◌↔◌, ◌<◌}
use Rattle.std.specs.List.{AllByRecursion}
use Rattle.sf_algebra.specs.Matrices.{Matrix, IsMatrix}
use Rattle.sf_algebra.specs.Rings.{IsRing, IsOverField}
use Rattle.sf_groebner.specs.Presentations.{IsReducedByRelations, AreRelationsModulo}
use Rattle.sf_presented.specs.Coordinates.{IsDescription}
use Rattle.sf_presented.specs.Inverses.{IsIdentityModulo, GivesUnitsBack, AreInverseModulo}

-- whether a matrix is the identity modulo relations is seen at the unit vectors
abbrev pub HasIdentityByUnits : Type 0
HasIdentityByUnits =
    (relations m : Matrix) → IsRing relations.ring → 1 < relations.ring.modulus → m.ring ≡ relations.ring
    → IsMatrix relations → IsIdentityModulo relations m ↔ GivesUnitsBack relations m

-- a map with an inverse has one whose rows are reduced by the relations to which it goes
abbrev pub HasReducedInverse : Type 0
HasReducedInverse =
    (first second to from : Matrix) → IsOverField first.ring → IsMatrix first → IsMatrix second
    → AreInverseModulo first second to from
    → (inverse : Matrix) × AreInverseModulo first second to inverse × AllByRecursion (IsReducedByRelations first) inverse.rows

-- and only one
abbrev pub HasOneReducedInverse : Type 0
HasOneReducedInverse =
    (first second to a b : Matrix) → IsOverField first.ring → IsMatrix first
    → AreInverseModulo first second to a → AreInverseModulo first second to b
    → AllByRecursion (IsReducedByRelations first) a.rows → AllByRecursion (IsReducedByRelations first) b.rows → a ≡ b

-- where two lists of generators have coordinates in one another, modulo one base, the matrices of these are inverse
abbrev pub HasInverseDescriptions : Type 0
HasInverseDescriptions =
    (generators others base relations other_relations to from : Matrix) → IsOverField generators.ring
    → AreRelationsModulo generators base relations → AreRelationsModulo others base other_relations
    → IsDescription others base other_relations generators to → IsDescription generators base relations others from
    → AreInverseModulo relations other_relations to from
