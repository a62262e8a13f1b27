-- What holds of the states that lines leave: what names stand for are modules in the ring, maps of such modules, and complexes of such
-- maps.
use Rattle.std.specs.Prelude.{◌≡◌, ℕ, List, [], IsTrue, ◌≤ℤ◌, ℤ, pos, neg_ℤ}
use Rattle.std.specs.List.{AllByRecursion}
use Rattle.sf_algebra.specs.Matrices.{Matrix, IsMatrix}
use Rattle.sf_algebra.specs.Rings.{plain}
use Rattle.sf_algebra.specs.Vectors.{Vector}
use Rattle.sf_field.specs.Moduli.{is_modulus}
use Rattle.sf_groebner.specs.Presentations.{IsModuleMap}
use Rattle.sf_object.specs.declared.complex.Complex.{Complex}
use Rattle.sf_object.specs.declared.map.Map.{Map}
use Rattle.sf_object.specs.Complexes.{AreMeeting, junctions}
use Rattle.sf_text.specs.declared.ring.Ring.{Ring}
use Rattle.sf_script.specs.Headings.{HasFewVariables, HasLimit}
use Rattle.sf_script.specs.Names.{Env}
use Rattle.sf_script.specs.declared.heads.Heads.TheVariants.{Unopened, Opened, Within}
use Rattle.sf_script.specs.declared.heads.Heads.{Heads}
use Rattle.sf_script.specs.declared.named.Named.TheVariants.{Module, Mapping, Chain}
use Rattle.sf_script.specs.declared.named.Named.{Named}

-- a degree that a generator of a module may have, be it given or that of a query's generator
abbrev pub IsGeneratorDegree : ℤ → Type 0
IsGeneratorDegree d = (neg_ℤ (pos 8060) ≤ℤ d) × (d ≤ℤ pos 8060)

-- the relations of a module in a ring: a matrix over this ring, whose columns have moderate degrees
pub record IsModuleIn (ring : Ring) (m : Matrix) : Type 0 where
  pub matrix : IsMatrix m
  pub modulus : m.ring ≡ plain ring.modulus
  pub generators : AllByRecursion IsGeneratorDegree m.target

-- a map between two such modules
pub record IsMapIn (ring : Ring) (f : Map) : Type 0 where
  pub source : IsModuleIn ring f.source
  pub target : IsModuleIn ring f.target
  pub map : IsModuleMap f.source f.target f.matrix

-- such maps, each of which goes on from the one behind it
pub record IsChainIn (ring : Ring) (c : Complex) : Type 0 where
  pub maps : AllByRecursion (IsMapIn ring) c.maps
  pub meeting : AllByRecursion AreMeeting (junctions c.maps)

abbrev pub IsNamedIn : Ring → Named → Type 0
IsNamedIn ring (Module m) = IsModuleIn ring m
IsNamedIn ring (Mapping f) = IsMapIn ring f
IsNamedIn ring (Chain c) = IsChainIn ring c

-- all that a client's names stand for is in the ring
abbrev pub AreNamesIn : Ring → List ℕ × List (List ℕ × Named) → Type 0
AreNamesIn ring client = AllByRecursion (λ (n : List ℕ × Named). IsNamedIn ring n.1) client.1

-- before the ring is given no name stands for anything; within it its modulus is listed, and all names are in it
abbrev pub HasNamesIn : Heads → List (List ℕ × List (List ℕ × Named)) → Type 0
HasNamesIn Unopened clients = clients ≡ []
HasNamesIn Opened clients = clients ≡ []
HasNamesIn (Within setting) clients =
    IsTrue (is_modulus setting.ring.modulus) × AllByRecursion (AreNamesIn setting.ring) clients

pub record IsSound (env : Env) : Type 0 where
  pub few : HasFewVariables env.heads
  pub limit : HasLimit env.heads
  pub names : HasNamesIn env.heads env.clients

-- the greatest degree of a relation
abbrev pub GREATEST_RELATION_DEGREE : ℤ
GREATEST_RELATION_DEGREE = pos 45000

-- the relations of a module have no greater degree
abbrev pub HasLowRelations : Named → Type 0
HasLowRelations (Module m) = AllByRecursion (λ (v : Vector). v.degree ≤ℤ GREATEST_RELATION_DEGREE) m.rows
HasLowRelations (Mapping f) = Unit {0}
HasLowRelations (Chain c) = Unit {0}

abbrev pub HasLowNames : List (List ℕ × List (List ℕ × Named)) → Type 0
HasLowNames clients =
    AllByRecursion (λ (c : List ℕ × List (List ℕ × Named)). AllByRecursion (λ (n : List ℕ × Named). HasLowRelations n.1) c.1) clients
