-- Why a line of the grammar is refused, before any matrix is looked at.
use Rattle.std.specs.Prelude.{ℕ, Bool, true, is_none, ◌&&◌, if◌then◌else◌, Option, Some, None, Result, Ok, Err, List, [], ◌∷◌, length, ℤ, pos, neg_ℤ, int_le, unsigned_abs, IsTrue}
use Rattle.std.specs.List.{AllByRecursion, list_all}
use Rattle.sf_algebra.specs.Matrices.{Matrix}
use Rattle.sf_algebra.specs.Vectors.{Vector}
use Rattle.sf_algebra.proofs.GradedMatrices.Equality.{same_matrix}
use Rattle.sf_object.specs.declared.complex.Complex as complexes
use Rattle.sf_object.specs.declared.map.Map as maps
use Rattle.sf_text.specs.Placed.{has_shape, has_size, relations_of, matrix_between, first_fault, row_vector, is_single_row, first_row, is_homogeneous, is_written_degree}
use Rattle.sf_text.specs.Raw.{RawTerm}
use Rattle.sf_text.specs.Unknowns.{first_unknown}
use Rattle.sf_text.specs.declared.ring.Ring as rings
use Rattle.sf_script.specs.Headings.{ring_of, opens, enters, limit_entered}
use Rattle.sf_script.specs.Names.{Env, named}
use Rattle.sf_script.specs.declared.checked.Checked.TheVariants as checks
use Rattle.sf_script.specs.declared.checked.Checked.{Checked}
use Rattle.sf_script.specs.declared.checked.CheckedQuery.TheVariants as asked
use Rattle.sf_script.specs.declared.checked.CheckedQuery.{CheckedQuery}
use Rattle.sf_script.specs.declared.command.Command.TheVariants.{Spectral, Ring, Limit, Module, Map, Complex, Let, Ask, Show, Basis, Syz, Member, Lift, Resolve, Later}
use Rattle.sf_script.specs.declared.command.Command.{Command}
use Rattle.sf_script.specs.declared.command.Query.TheVariants.{Kernel, Image, Coker}
use Rattle.sf_script.specs.declared.command.Query.{Query}
use Rattle.sf_script.specs.declared.fault.LineFault.TheVariants as faults
use Rattle.sf_script.specs.declared.fault.LineFault.{LineFault}
use Rattle.sf_script.specs.declared.named.Named.TheVariants as names
use Rattle.sf_script.specs.declared.named.Named.{Named}

-- one test after another: the first that fails gives the refusal
infixl 10 ◌>>=◌
abbrev pub ◌>>=◌ : {A B : Type 0} → Result A LineFault → (A → Result B LineFault) → Result B LineFault
Ok a >>= further = further a
Err fault >>= further = Err fault

-- there is a value, else this is the refusal
abbrev pub otherwise : {A : Type 0} → LineFault → Option A → Result A LineFault
otherwise fault None = Err fault
otherwise fault (Some a) = Ok a

-- there is no reason to refuse
abbrev pub unless_some : {A : Type 0} → (A → LineFault) → Option A → Result (Unit {0}) LineFault
unless_some fault None = Ok tt
unless_some fault (Some a) = Err (fault a)

-- this holds, else this is the refusal
abbrev pub provided : LineFault → Bool → Result (Unit {0}) LineFault
provided fault b = if b then Ok tt else Err fault

-- the ring is given
abbrev pub ring_given : Env → Result rings.Ring LineFault
ring_given env = otherwise faults.Ring (ring_of env.heads)

-- a name is known
abbrev pub known : Env → List ℕ → List ℕ → Result Named LineFault
known env client name = otherwise (faults.Unknown name) (named client env name)

-- a name isn't known yet
abbrev pub is_new : Env → List ℕ → List ℕ → Result (Unit {0}) LineFault
is_new env client name = provided (faults.Taken name) (is_none (named client env name))

-- what a name stands for is a module
abbrev pub as_module : List ℕ → Named → Result Matrix LineFault
as_module name (names.Module relations) = Ok relations
as_module name (names.Mapping f) = Err (faults.Kind name)
as_module name (names.Chain c) = Err (faults.Kind name)

-- it is a map
abbrev pub as_map : List ℕ → Named → Result maps.Map LineFault
as_map name (names.Module relations) = Err (faults.Kind name)
as_map name (names.Mapping f) = Ok f
as_map name (names.Chain c) = Err (faults.Kind name)

-- the variables of a matrix are the ring's
abbrev pub are_variables : rings.Ring → List (List (List RawTerm)) → Result (Unit {0}) LineFault
are_variables ring rows = unless_some faults.Unknown (first_unknown ring.names rows)

-- the rows are homogeneous
abbrev pub are_homogeneous : Matrix → Result (Unit {0}) LineFault
are_homogeneous m = unless_some faults.Degree (first_fault 1 m.target m.rows)

-- a degree that a generator may be given
abbrev pub is_degree : ℤ → Bool
is_degree d = int_le (neg_ℤ (pos 2000)) d && int_le d (pos 2000)

-- the relations of a module with a new name
abbrev pub checked_module : Env → List ℕ → List ℕ → List ℤ → List (List (List RawTerm)) → Result Matrix LineFault
checked_module env client name degrees rows = do
  ring ← ring_given env
  _ ← are_variables ring rows
  _ ← is_new env client name
  _ ← provided faults.Shape (has_shape (length degrees) rows)
  _ ← are_homogeneous (relations_of ring degrees rows)
  _ ← provided faults.Range (list_all is_degree degrees)
  Ok (relations_of ring degrees rows)

-- a map with a new name between two modules
abbrev pub checked_map : Env → List ℕ → List ℕ → List ℕ → List ℕ → List (List (List RawTerm)) → Result maps.Map LineFault
checked_map env client name source target rows = do
  ring ← ring_given env
  from ← known env client source
  to ← known env client target
  _ ← are_variables ring rows
  m ← as_module source from
  n ← as_module target to
  _ ← is_new env client name
  _ ← provided faults.Shape (has_size (length m.target) (length n.target) rows)
  _ ← are_homogeneous (matrix_between ring m.target n.target rows)
  Ok (record { source = m; target = n; matrix = matrix_between ring m.target n.target rows })

-- what a known name stands for, in a ring
abbrev pub checked_name : Env → List ℕ → List ℕ → Result Named LineFault
checked_name env client name = do
  _ ← ring_given env
  known env client name

-- a known module
abbrev pub module_named : Env → List ℕ → List ℕ → Result Matrix LineFault
module_named env client name = do
  found ← checked_name env client name
  as_module name found

-- a known map
abbrev pub map_named : Env → List ℕ → List ℕ → Result maps.Map LineFault
map_named env client name = do
  found ← checked_name env client name
  as_map name found

-- all names are known, else the first that isn't gives the refusal
abbrev pub are_known : Env → List ℕ → List (List ℕ) → Result (Unit {0}) LineFault
are_known env client [] = Ok tt
are_known env client (name ∷ names) = do
  _ ← known env client name
  are_known env client names

-- the maps that names stand for, in order
abbrev pub maps_named : Env → List ℕ → List (List ℕ) → Result (List maps.Map) LineFault
maps_named env client [] = Ok []
maps_named env client (name ∷ names) = do
  f ← map_named env client name
  others ← maps_named env client names
  Ok (f ∷ others)

-- a map, and then the next of a complex: the second goes to where the first comes from
abbrev pub do_meet : List maps.Map → Bool
do_meet [] = true
do_meet (f ∷ []) = true
do_meet (f ∷ g ∷ others) = same_matrix f.source g.target && do_meet (g ∷ others)

-- a complex with a new name of maps that meet
abbrev pub checked_complex : Env → List ℕ → List ℕ → List (List ℕ) → Result complexes.Complex LineFault
checked_complex env client name names = do
  _ ← ring_given env
  _ ← are_known env client names
  fs ← maps_named env client names
  _ ← is_new env client name
  _ ← provided faults.Shape (do_meet fs)
  Ok (record { maps = fs })

-- so many steps of a resolution may be asked for
abbrev pub steps_asked : ℤ → Option ℕ
steps_asked k = if int_le (pos 1) k && int_le k (pos 16) then Some (unsigned_abs k) else None

-- a known module, and how many steps of its resolution are asked for
abbrev pub checked_resolve : Env → List ℕ → List ℕ → ℤ → Result (Matrix × ℕ) LineFault
checked_resolve env client name steps = do
  m ← module_named env client name
  k ← otherwise faults.Range (steps_asked steps)
  Ok (m, k)

-- a known module, and a vector over its generators, which a matrix of one row writes
abbrev pub checked_vector : Env → List ℕ → List ℕ → List (List (List RawTerm)) → Result (Matrix × Vector) LineFault
checked_vector env client name rows = do
  ring ← ring_given env
  found ← known env client name
  _ ← are_variables ring rows
  m ← as_module name found
  _ ← provided faults.Shape (is_single_row (length m.target) rows)
  _ ← provided (faults.Degree 1) (is_homogeneous m.target (row_vector ring m.target (first_row rows)))
  Ok (m, row_vector ring m.target (first_row rows))

-- what a query asks for
abbrev pub checked_query : Env → List ℕ → Query → Result CheckedQuery LineFault
checked_query env client (Kernel name) = do
  f ← map_named env client name
  Ok (asked.Kernel f)
checked_query env client (Image name) = do
  f ← map_named env client name
  Ok (asked.Image f)
checked_query env client (Coker name) = do
  f ← map_named env client name
  Ok (asked.Coker f)

-- what a command of a client asks for, or the first reason to refuse it
abbrev pub checked : Env → List ℕ → Command → Result Checked LineFault
checked env client (Spectral version) = do
  _ ← provided faults.Ring (opens env.heads version)
  Ok checks.Opens
checked env client (Ring modulus names) = do
  _ ← provided faults.Ring (enters env.heads modulus names)
  Ok (checks.Enters (record { modulus = modulus; names = names }))
checked env client (Limit limit) = do
  n ← limit_entered env.heads limit
  Ok (checks.Limits n)
checked env client (Module name degrees relations) = do
  m ← checked_module env client name degrees relations.rows
  Ok (checks.Defines name m)
checked env client (Map name source target matrix) = do
  f ← checked_map env client name source target matrix.rows
  Ok (checks.Maps name f)
checked env client (Complex name names) = do
  c ← checked_complex env client name names
  Ok (checks.Chains name c)
checked env client (Let name query) = do
  q ← checked_query env client query
  _ ← is_new env client name
  Ok (checks.Lets name q)
checked env client (Ask query) = do
  q ← checked_query env client query
  Ok (checks.Asks q)
checked env client (Show name) = do
  found ← checked_name env client name
  Ok (checks.Shows found)
checked env client (Basis name) = do
  m ← module_named env client name
  Ok (checks.Basis m)
checked env client (Syz name) = do
  m ← module_named env client name
  Ok (checks.Syz m)
checked env client (Member name vector) = do
  given ← checked_vector env client name vector.rows
  Ok (checks.Member given.0 given.1)
checked env client (Lift name vector) = do
  given ← checked_vector env client name vector.rows
  Ok (checks.Lift given.0 given.1)
checked env client (Resolve name steps) = do
  given ← checked_resolve env client name steps
  Ok (checks.Resolves given.0 given.1)
checked env client Later = Err faults.Later

-- the degrees of the generators of a module that a name stands for have at most six digits
abbrev pub HasWrittenDegrees : Named → Type 0
HasWrittenDegrees (names.Module m) = IsTrue (list_all is_written_degree m.target)
HasWrittenDegrees (names.Mapping f) = Unit {0}
HasWrittenDegrees (names.Chain c) = Unit {0}

-- so it is with all names
abbrev pub HasWrittenModules : Env → Type 0
HasWrittenModules env =
    AllByRecursion (λ (c : List ℕ × List (List ℕ × Named)). AllByRecursion (λ (n : List ℕ × Named). HasWrittenDegrees n.1) c.1) env.clients
