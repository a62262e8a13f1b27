-- What a line asks for that no test refuses, where what names stand for is sound.
use Rattle.std.specs.Prelude.{◌≡◌, ℕ, ◌≤◌, false, List, length, IsTrue, ℤ}
use Rattle.std.specs.List.{AllByRecursion}
use Rattle.sf_algebra.specs.Matrices.{Matrix, IsMatrix}
use Rattle.sf_algebra.specs.Rings.{ones}
use Rattle.sf_algebra.specs.Vectors.{Vector, IsVector, row_degree}
use Rattle.sf_field.specs.Moduli.{is_modulus}
use Rattle.sf_object.specs.declared.complex.Complex as complexes
use Rattle.sf_object.specs.declared.map.Map as maps
use Rattle.sf_object.specs.Faults.{IsBetween}
use Rattle.sf_text.specs.declared.ring.Ring as rings
use Rattle.sf_script.specs.Names.{Env}
use Rattle.sf_script.specs.declared.checked.Checked.TheVariants as checks
use Rattle.sf_script.specs.declared.checked.Checked.{Checked}
use Rattle.sf_script.specs.declared.checked.CheckedQuery.{CheckedQuery}
use Rattle.sf_script.specs.declared.heads.Heads.TheVariants.{Unopened, Opened, Within}
use Rattle.sf_script.specs.declared.heads.Setting.{Setting}
use Rattle.sf_session.specs.Sound.{IsModuleIn, IsMapIn, IsChainIn}
use Rattle.sf_session.specs.Tasks.{map_of}

-- the ring is given, with this setting
abbrev pub IsWithin : Env → Setting → Type 0
IsWithin env setting = env.heads ≡ Within setting

-- a ring is given
abbrev pub IsGiven : Env → Type 0
IsGiven env = (setting : Setting) × IsWithin env setting

-- the degree of each row is that of its terms
abbrev pub HaveOwnDegrees : List ℤ → List Vector → Type 0
HaveOwnDegrees degrees rows = AllByRecursion (λ (v : Vector). v.degree ≡ row_degree ones degrees v.terms) rows

-- relations in a ring, which are written with their own degrees
pub record IsDefined (env : Env) (m : Matrix) : Type 0 where
  pub setting : Setting
  pub within : IsWithin env setting
  pub module_in : IsModuleIn setting.ring m
  pub own : HaveOwnDegrees m.target m.rows

-- a matrix between two modules in a ring
pub record IsMatrixIn (env : Env) (f : maps.Map) : Type 0 where
  pub setting : Setting
  pub within : IsWithin env setting
  pub source : IsModuleIn setting.ring f.source
  pub target : IsModuleIn setting.ring f.target
  pub between : IsBetween f
  pub matrix : IsMatrix f.matrix

-- maps in a ring that meet
pub record IsChained (env : Env) (c : complexes.Complex) : Type 0 where
  pub setting : Setting
  pub within : IsWithin env setting
  pub chain_in : IsChainIn setting.ring c

-- a map in a ring
pub record IsAsked (env : Env) (q : CheckedQuery) : Type 0 where
  pub setting : Setting
  pub within : IsWithin env setting
  pub map_in : IsMapIn setting.ring (map_of q)

-- a vector over a module in a ring
pub record IsVectorOf (env : Env) (m : Matrix) (v : Vector) : Type 0 where
  pub setting : Setting
  pub within : IsWithin env setting
  pub module_in : IsModuleIn setting.ring m
  pub vector : IsVector m.ring m.target v
  pub own : v.degree ≡ row_degree ones m.target v.terms

-- a limit that may be given
pub record IsLimited (env : Env) (n : ℕ) : Type 0 where
  pub setting : Setting
  pub within : IsWithin env setting
  pub least : 1 ≤ n
  pub greatest : n ≤ 60
  pub early : setting.noted ≡ false

-- a ring that may be given
pub record IsRing (env : Env) (ring : rings.Ring) : Type 0 where
  pub opened : env.heads ≡ Opened
  pub listed : IsTrue (is_modulus ring.modulus)
  pub some : 1 ≤ length ring.names
  pub few : length ring.names ≤ 6

abbrev pub IsSoundCheck : Env → Checked → Type 0
IsSoundCheck env checks.Opens = env.heads ≡ Unopened
IsSoundCheck env (checks.Enters ring) = IsRing env ring
IsSoundCheck env (checks.Limits n) = IsLimited env n
IsSoundCheck env (checks.Defines name m) = IsDefined env m
IsSoundCheck env (checks.Maps name f) = IsMatrixIn env f
IsSoundCheck env (checks.Chains name c) = IsChained env c
IsSoundCheck env (checks.Lets name q) = IsAsked env q
IsSoundCheck env (checks.Asks q) = IsAsked env q
IsSoundCheck env (checks.Shows what) = IsGiven env
IsSoundCheck env (checks.Basis m) = IsGiven env
IsSoundCheck env (checks.Syz m) = IsGiven env
IsSoundCheck env (checks.Member m v) = IsVectorOf env m v
IsSoundCheck env (checks.Lift m v) = IsVectorOf env m v
IsSoundCheck env (checks.Resolves m k) = IsGiven env
