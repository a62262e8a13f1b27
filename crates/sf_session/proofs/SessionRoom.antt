-- What a session gives to the calls: room for what they make and reduce.
use Rattle.std.proofs.Common.{◌≡◌, ℕ, List, [], ◌∷◌, Ok, length, sym, subst, ℤ, pos, ◌≤ℤ◌, arith}
use Rattle.std.proofs.lemmas.Int.{ints}
use Rattle.std.specs.List.{AllByRecursion}
use Rattle.sf_algebra.specs.Matrices.{Matrix, degrees_of}
use Rattle.sf_algebra.specs.Rings.{ones}
use Rattle.sf_algebra.specs.Vectors.{Vector, row_degree}
use Rattle.sf_matrix.specs.Bounds.{DegreeFits}
use Rattle.sf_matrix.specs.Tables.{GREATEST_REDUCED_DEGREE}
use Rattle.sf_object.specs.declared.complex.Complex as complexes
use Rattle.sf_object.specs.declared.map.Map as maps
use Rattle.sf_object.specs.Complexes.{HasSquareRoom, IsChain, junctions, junctions_behind}
use Rattle.sf_object.specs.Faults.{HasImageRoom, IsBetween, map_of}
use Rattle.sf_text.specs.declared.ring.Ring as rings
use Rattle.sf_text.specs.Placed.{IsWrittenTerm, has_size, matrix_between}
use Rattle.sf_text.specs.Raw.{RawTerm}
use Rattle.sf_script.specs.Headings.{opens, enters, limit_entered}
use Rattle.sf_script.specs.Names.{Env, named}
use Rattle.sf_script.specs.Refusals.{ring_given, known, is_new, as_module, are_variables, are_homogeneous, provided, checked_module, checked_map, checked_name, module_named, checked_vector, checked_query, checked_complex, checked_resolve, checked, HasWrittenDegrees, HasWrittenModules}
use Rattle.sf_script.specs.SmallTerms.{HasSmallTerms, HasWrittenRows}
use Rattle.sf_script.specs.declared.checked.Checked.TheVariants as checks
use Rattle.sf_script.specs.declared.checked.Checked.{Checked}
use Rattle.sf_script.specs.declared.command.Command.TheVariants.{Spectral, Ring, Limit, Module, Map, Complex, Let, Ask, Show, Basis, Syz, Member, Lift, Resolve, Later}
use Rattle.sf_script.specs.declared.command.Command.{Command}
use Rattle.sf_script.specs.declared.fault.LineFault.TheVariants as faults
use Rattle.sf_script.specs.declared.heads.Heads.TheVariants.{Unopened, Opened, Within}
use Rattle.sf_script.specs.declared.heads.Heads.{Heads}
use Rattle.sf_script.specs.declared.heads.Setting.{Setting}
use Rattle.sf_script.specs.declared.named.Named.TheVariants as names
use Rattle.sf_script.specs.declared.named.Named.{Named}
use Rattle.sf_session.specs.Settling.{HasCallRoom, HasLowSource}
use Rattle.sf_session.specs.Sound.{GREATEST_RELATION_DEGREE, HasLowNames, HasLowRelations, HasNamesIn, IsChainIn, IsGeneratorDegree, IsMapIn, IsNamedIn, IsSound}
use Rattle.sf_session.specs.SoundChecks.{HaveOwnDegrees, IsSoundCheck}
use Rattle.sf_session.proofs.Checks.{both_ok, otherwise_ok, same_accepted}
use Rattle.sf_session.proofs.Degrees.{generators_written, row_degree-high}
use Rattle.sf_session.proofs.NamesIn.{named_all}
use Rattle.sf_session.proofs.SoundStates.{map_between}

-- the generators of sound modules have degrees of at most six digits
named_written : (setting : Setting) (what : Named) → IsNamedIn setting.ring what → HasWrittenDegrees what
named_written setting (names.Module m) h = generators_written m.target h.generators
named_written setting (names.Mapping f) h = tt
named_written setting (names.Chain c) h = tt

pub written_modules : (env : Env) → IsSound env → HasWrittenModules env
written_modules env sound = by env.heads sound.names
  where
    one : (setting : Setting) (ns : List (List ℕ × Named)) → AllByRecursion (λ (n : List ℕ × Named). IsNamedIn setting.ring n.1) ns
        → AllByRecursion (λ (n : List ℕ × Named). HasWrittenDegrees n.1) ns
    one setting [] h = tt
    one setting (n ∷ ns) h = (named_written setting n.1 h.0, one setting ns h.1)

    all : (setting : Setting) (cs : List (List ℕ × List (List ℕ × Named)))
        → AllByRecursion (λ (c : List ℕ × List (List ℕ × Named)). AllByRecursion (λ (n : List ℕ × Named). IsNamedIn setting.ring n.1) c.1) cs
        → AllByRecursion (λ (c : List ℕ × List (List ℕ × Named)). AllByRecursion (λ (n : List ℕ × Named). HasWrittenDegrees n.1) c.1) cs
    all setting [] h = tt
    all setting (c ∷ cs) h = (one setting c.1 h.0, all setting cs h.1)

    by : (heads : Heads) → HasNamesIn heads env.clients → HasWrittenModules env
    by Unopened h = rw h tt
    by Opened h = rw h tt
    by (Within setting) h = all setting env.clients h.1

module _ (env : Env) (low : HasLowNames env.clients) (client : List ℕ) where
  module_low : (name : List ℕ) (what : Named) (m : Matrix) → as_module name what ≡ Ok m → HasLowRelations what
      → HasLowRelations (names.Module m)
  module_low name (names.Module other) m e h = let same : other ≡ m = cc in subst (λ (n : Matrix). HasLowRelations (names.Module n)) same h
  module_low name (names.Mapping f) m e h = cc
  module_low name (names.Chain c) m e h = cc

  map_low : (name source target : List ℕ) (rows : List (List (List RawTerm))) (f : maps.Map)
      → checked_map env client name source target rows ≡ Ok f → HasLowRelations (names.Module f.source)
  map_low name source target rows f e =
      let given = both_ok (ring_given env) _ f e in
      let from = both_ok (known env client source) _ f given.2 in
      let to = both_ok (known env client target) _ f from.2 in
      let variables = both_ok (are_variables given.0 rows) _ f to.2 in
      let first = both_ok (as_module source from.0) _ f variables.2 in
      let second = both_ok (as_module target to.0) _ f first.2 in
      let m = first.0 in
      let n = second.0 in
      let new = both_ok (is_new env client name) _ f second.2 in
      let size = both_ok (provided faults.Shape (has_size (length m.target) (length n.target) rows)) _ f new.2 in
      let matrix = matrix_between given.0 m.target n.target rows in
      let homogeneous = both_ok (are_homogeneous matrix) _ f size.2 in
      let same = same_accepted (record { source = m; target = n; matrix = matrix }) f homogeneous.2 in
      let found = named_all HasLowRelations client source env from.0
      (otherwise_ok (faults.Unknown source) (named client env source) from.0 from.1) low in
      subst (λ (g : maps.Map). HasLowRelations (names.Module g.source)) same (module_low source from.0 m first.1 found)

  -- the source of a map has moderate relations, as all modules have
  pub low_source : (command : Command) (c : Checked) → checked env client command ≡ Ok c → HasLowSource c
  low_source (Spectral version) c e = let u = both_ok (provided faults.Ring (opens env.heads version)) _ c e in let same : checks.Opens ≡ c = cc in subst HasLowSource same tt
  low_source (Ring modulus names) c e =
      let u = both_ok (provided faults.Ring (enters env.heads modulus names)) _ c e in
      let same : checks.Enters (record { modulus = modulus; names = names }) ≡ c = cc in subst HasLowSource same tt
  low_source (Limit limit) c e =
      let u = both_ok (limit_entered env.heads limit) _ c e in let same : checks.Limits u.0 ≡ c = cc in subst HasLowSource same tt
  low_source (Module name degrees relations) c e =
      let u = both_ok (checked_module env client name degrees relations.rows) _ c e in let same : checks.Defines name u.0 ≡ c = cc in subst HasLowSource same tt
  low_source (Map name source target matrix) c e =
      let f = both_ok (checked_map env client name source target matrix.rows) _ c e in
      let same : checks.Maps name f.0 ≡ c = cc in
      subst HasLowSource same (map_low name source target matrix.rows f.0 f.1)
  low_source (Complex name names) c e =
      let u = both_ok (checked_complex env client name names) _ c e in let same : checks.Chains name u.0 ≡ c = cc in subst HasLowSource same tt
  low_source (Let name query) c e =
      let q = both_ok (checked_query env client query) _ c e in
      let new = both_ok (is_new env client name) _ c q.2 in
      let same : checks.Lets name q.0 ≡ c = cc in subst HasLowSource same tt
  low_source (Ask query) c e =
      let u = both_ok (checked_query env client query) _ c e in let same : checks.Asks u.0 ≡ c = cc in subst HasLowSource same tt
  low_source (Show name) c e =
      let u = both_ok (checked_name env client name) _ c e in let same : checks.Shows u.0 ≡ c = cc in subst HasLowSource same tt
  low_source (Basis name) c e =
      let u = both_ok (module_named env client name) _ c e in let same : checks.Basis u.0 ≡ c = cc in subst HasLowSource same tt
  low_source (Syz name) c e =
      let u = both_ok (module_named env client name) _ c e in let same : checks.Syz u.0 ≡ c = cc in subst HasLowSource same tt
  low_source (Member name vector) c e =
      let u = both_ok (checked_vector env client name vector.rows) _ c e in let same : checks.Member u.0.0 u.0.1 ≡ c = cc in subst HasLowSource same tt
  low_source (Lift name vector) c e =
      let u = both_ok (checked_vector env client name vector.rows) _ c e in let same : checks.Lift u.0.0 u.0.1 ≡ c = cc in subst HasLowSource same tt
  low_source (Resolve name steps) c e =
      let u = both_ok (checked_resolve env client name steps) _ c e in let same : checks.Resolves u.0.0 u.0.1 ≡ c = cc in subst HasLowSource same tt
  low_source Later c e = cc

-- a row of moderate degree fits over generators of moderate degrees
degree_fits : (d : ℤ) → d ≤ℤ GREATEST_RELATION_DEGREE → (degrees : List ℤ) → AllByRecursion IsGeneratorDegree degrees
    → DegreeFits degrees d
degree_fits d high [] h = tt
degree_fits d high (e ∷ es) h = let low = h.0.0 in (omega (arith, ints, high, low), degree_fits d high es h.1)

image_room : (f : maps.Map) → AllByRecursion IsGeneratorDegree f.target.target → HasLowRelations (names.Module f.source) → HasImageRoom f
image_room f generators low = record { made = made f.source.rows low; reduced = reduced f.source.rows low }
  where
    made : (vs : List Vector) → AllByRecursion (λ (v : Vector). v.degree ≤ℤ GREATEST_RELATION_DEGREE) vs
        → AllByRecursion (λ (v : Vector). DegreeFits f.target.target v.degree) vs
    made [] h = tt
    made (v ∷ vs) h = (degree_fits v.degree h.0 f.target.target generators, made vs h.1)

    reduced : (vs : List Vector) → AllByRecursion (λ (v : Vector). v.degree ≤ℤ GREATEST_RELATION_DEGREE) vs
        → AllByRecursion (λ (v : Vector). v.degree ≤ℤ GREATEST_REDUCED_DEGREE) vs
    reduced [] h = tt
    reduced (v ∷ vs) h = let high = h.0 in (omega (arith, ints, high), reduced vs h.1)

-- the rows of a map in a ring have the degrees of generators
rows_moderate : (vs : List Vector) → AllByRecursion IsGeneratorDegree (degrees_of vs)
    → AllByRecursion (λ (v : Vector). v.degree ≤ℤ GREATEST_RELATION_DEGREE) vs
rows_moderate [] h = tt
rows_moderate (v ∷ vs) h = let high = h.0.1 in (omega (arith, ints, high), rows_moderate vs h.1)

-- the squares of maps that meet have room
squares_room : (ring : rings.Ring) (fs : List maps.Map) → AllByRecursion (IsMapIn ring) fs
    → AllByRecursion HasSquareRoom (junctions fs)
squares_room ring [] h = tt
squares_room ring (f ∷ fs) h = behind f fs h.0 h.1
  where
    behind : (f : maps.Map) (gs : List maps.Map) → IsMapIn ring f → AllByRecursion (IsMapIn ring) gs
        → AllByRecursion HasSquareRoom (junctions_behind f gs)
    behind f [] first others = tt
    behind f (g ∷ gs) first others = (
      image_room (map_of g.matrix f.matrix f.target) first.target.generators
          (rows_moderate g.matrix.rows
          (subst (AllByRecursion IsGeneratorDegree) (sym others.0.map.source_degrees) others.0.source.generators)),
      behind g gs others.0 others.1,
    )

chain_room : (c : complexes.Complex) (ring : rings.Ring) → IsChainIn ring c → IsChain c × AllByRecursion HasSquareRoom (junctions c.maps)
chain_room c ring h =
    (record { between = between c.maps h.maps; meeting = h.meeting }, squares_room ring c.maps h.maps)
  where
    between : (fs : List maps.Map) → AllByRecursion (IsMapIn ring) fs → AllByRecursion IsBetween fs
    between [] h = tt
    between (f ∷ fs) h = (map_between f.source f.target f.matrix h.0.map, between fs h.1)

vector_room : (degrees : List ℤ) (v : Vector) → AllByRecursion IsGeneratorDegree degrees → v.degree ≡ row_degree ones degrees v.terms
    → AllByRecursion IsWrittenTerm v.terms → v.degree ≤ℤ pos 44024
vector_room degrees v generators own written =
    subst (λ (d : ℤ). d ≤ℤ pos 44024) (sym own) (row_degree-high degrees v.terms generators written)

-- the calls have what they ask for
pub call_room : (env : Env) (c : Checked) → IsSoundCheck env c → HasSmallTerms c → HasLowSource c → HasCallRoom c
call_room env checks.Opens h small low = tt
call_room env (checks.Enters ring) h small low = tt
call_room env (checks.Limits n) h small low = tt
call_room env (checks.Defines name m) h small low = tt
call_room env (checks.Maps name f) h small low = (h.between, image_room f h.target.generators low)
call_room env (checks.Chains name c) h small low = chain_room c h.setting.ring h.chain_in
call_room env (checks.Lets name q) h small low = h.map_in.map
call_room env (checks.Asks q) h small low = h.map_in.map
call_room env (checks.Shows what) h small low = tt
call_room env (checks.Basis m) h small low = tt
call_room env (checks.Syz m) h small low = tt
call_room env (checks.Member m v) h small low =
    let high = vector_room m.target v h.module_in.generators h.own small in (h.vector, omega (arith, ints, high))
call_room env (checks.Lift m v) h small low =
    let high = vector_room m.target v h.module_in.generators h.own small in (h.vector, omega (arith, ints, high))
call_room env (checks.Resolves m k) h small low = tt

-- the relations of a module that is defined are moderate
pub defined_low : (m : Matrix) → AllByRecursion IsGeneratorDegree m.target → HaveOwnDegrees m.target m.rows → HasWrittenRows m
    → HasLowRelations (names.Module m)
defined_low m generators own written = by m.rows own written
  where
    by : (vs : List Vector) → HaveOwnDegrees m.target vs → AllByRecursion (λ (v : Vector). AllByRecursion IsWrittenTerm v.terms) vs
        → AllByRecursion (λ (v : Vector). v.degree ≤ℤ GREATEST_RELATION_DEGREE) vs
    by [] h k = tt
    by (v ∷ vs) h k = let high = vector_room m.target v generators h.0 k.0 in (omega (arith, ints, high), by vs h.1 k.1)
