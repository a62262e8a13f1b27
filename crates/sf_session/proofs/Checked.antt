-- What a line asks for that no test refuses is sound, where what names stand for is.
use Rattle.std.proofs.Common.{pos, negsuc, int_le, ◌||◌, ◌≡◌, ℕ, ◌≤◌, ◌&&◌, nat_le, Bool, true, false, List, [], ◌∷◌, Some, Ok, Err, length, map, refl, sym, ap, ◌∙◌, subst, ℤ, IsTrue, arith}
use Rattle.std.proofs.lemmas.Bool.{and_parts, leb-true}
use Rattle.std.proofs.lemmas.Int.{ints}
use Rattle.std.specs.List.{AllByRecursion, list_all}
use Rattle.std.specs.Prelude.{if◌then◌else◌, unsigned_abs}
use Rattle.sf_algebra.specs.Matrices.{Matrix}
use Rattle.sf_algebra.specs.Rings.{plain}
use Rattle.sf_algebra.specs.Vectors.{Vector, IsVector}
use Rattle.sf_field.specs.Moduli.{is_modulus}
use Rattle.sf_algebra.proofs.GradedMatrices.Equality.{same_matrix, Decides-same_matrix}
use Rattle.sf_object.specs.declared.complex.Complex as complexes
use Rattle.sf_object.specs.declared.map.Map as maps
use Rattle.sf_object.specs.Complexes.{AreMeeting, junctions}
use Rattle.sf_text.specs.Placed.{first_fault, first_row, has_shape, has_size, is_homogeneous, is_single_row, matrix_between, relations_of, row_vector}
use Rattle.sf_text.specs.Raw.{RawTerm}
use Rattle.sf_text.specs.declared.ring.Ring as rings
use Rattle.sf_script.specs.Headings.{ring_of, opens, enters, limit_entered, is_limit, are_distinct}
use Rattle.sf_script.specs.Names.{Env, named}
use Rattle.sf_script.specs.Refusals.{provided, ring_given, known, is_new, as_module, as_map, are_variables, are_homogeneous, is_degree, checked_module, checked_map, checked_name, module_named, map_named, checked_vector, checked_query, checked, are_known, maps_named, do_meet, checked_complex, checked_resolve}
use Rattle.sf_script.specs.declared.checked.Checked.TheVariants as checks
use Rattle.sf_script.specs.declared.checked.Checked.{Checked}
use Rattle.sf_script.specs.declared.checked.CheckedQuery.TheVariants as asked
use Rattle.sf_script.specs.declared.checked.CheckedQuery.{CheckedQuery}
use Rattle.sf_script.specs.declared.command.Command.TheVariants.{Spectral, Ring, Limit, Module, Map, Complex, Let, Ask, Show, Basis, Syz, Member, Lift, Resolve, Later}
use Rattle.sf_script.specs.declared.command.Command.{Command}
use Rattle.sf_script.specs.declared.command.Query.TheVariants.{Kernel, Image, Coker}
use Rattle.sf_script.specs.declared.command.Query.{Query}
use Rattle.sf_script.specs.declared.fault.LineFault.TheVariants as faults
use Rattle.sf_script.specs.declared.heads.Heads.TheVariants.{Unopened, Opened, Within}
use Rattle.sf_script.specs.declared.heads.Heads.{Heads}
use Rattle.sf_script.specs.declared.heads.Setting.{Setting}
use Rattle.sf_script.specs.declared.named.Named.TheVariants as names
use Rattle.sf_script.specs.declared.named.Named.{Named}
use Rattle.sf_session.specs.SoundChecks.{IsWithin, IsGiven, HaveOwnDegrees, IsDefined, IsMatrixIn, IsChained, IsAsked, IsVectorOf, IsLimited, IsRing, IsSoundCheck}
use Rattle.sf_session.specs.Sound.{IsSound, IsModuleIn, IsMapIn, IsNamedIn}
use Rattle.sf_session.proofs.Checks.{both_ok, same_accepted, otherwise_ok, provided_ok, unless_some_ok}
use Rattle.sf_session.proofs.Degrees.{are_generator_degrees}
use Rattle.sf_session.proofs.Lines.{HasVariables}
use Rattle.sf_session.proofs.NamesIn.{named_all}
use Rattle.sf_session.proofs.Placed.{placed_rows, placed_single, placed_between, size-entries, degrees_given}

is_limit-bounds : (limit : ℤ) → is_limit limit ≡ true → (1 ≤ unsigned_abs limit) × (unsigned_abs limit ≤ 60)
is_limit-bounds (pos n) e =
    let both = and_parts (int_le (pos 1) (pos n)) (int_le (pos n) (pos 60)) e in
    let low = both.0 in
    let high = both.1 in
    (grind (arith, ints), grind (arith, ints))
is_limit-bounds (negsuc n) e =
    let both = and_parts (int_le (pos 1) (negsuc n)) (int_le (negsuc n) (pos 60)) e in
    let low : int_le (pos 1) (negsuc n) ≡ true = both.0 in
    absurd (grind (arith, ints))

-- the setting with which a ring is given
ring_setting : (env : Env) (ring : rings.Ring) → ring_given env ≡ Ok ring → (setting : Setting) × IsWithin env setting × (setting.ring ≡ ring)
ring_setting env ring e = by env.heads refl (otherwise_ok faults.Ring (ring_of env.heads) ring e)
  where
    same : (x y : rings.Ring) → Some x ≡ Some y → x ≡ y
    same x y f = cc

    by : (heads : Heads) → env.heads ≡ heads → ring_of heads ≡ Some ring → (setting : Setting) × IsWithin env setting × (setting.ring ≡ ring)
    by Unopened e f = cc
    by Opened e f = cc
    by (Within setting) e f = (setting, e, same setting.ring ring f)

module _ (env : Env) (sound : IsSound env) (client : List ℕ) where
  -- what names stand for, within a setting
  names_in : (setting : Setting) → IsWithin env setting
      → IsTrue (is_modulus setting.ring.modulus) × AllByRecursion (λ (c : List ℕ × List (List ℕ × Named)). AllByRecursion (λ (n : List ℕ × Named). IsNamedIn setting.ring n.1) c.1) env.clients
  names_in setting e = rw e at sound.names

  found_in : (setting : Setting) → IsWithin env setting → (name : List ℕ) (what : Named) → known env client name ≡ Ok what
      → IsNamedIn setting.ring what
  found_in setting e name what f =
      named_all (IsNamedIn setting.ring) client name env what
      (otherwise_ok (faults.Unknown name) (named client env name) what f) (names_in setting e).1

  module_found : (ring : rings.Ring) (name : List ℕ) (what : Named) (m : Matrix) → as_module name what ≡ Ok m
      → IsNamedIn ring what → IsModuleIn ring m
  module_found ring name (names.Module other) m e h = let same : other ≡ m = cc in subst (IsModuleIn ring) same h
  module_found ring name (names.Mapping f) m e h = cc
  module_found ring name (names.Chain c) m e h = cc

  map_found : (ring : rings.Ring) (name : List ℕ) (what : Named) (f : maps.Map) → as_map name what ≡ Ok f
      → IsNamedIn ring what → IsMapIn ring f
  map_found ring name (names.Module other) f e h = cc
  map_found ring name (names.Chain c) f e h = cc
  map_found ring name (names.Mapping other) f e h = let same : other ≡ f = cc in subst (IsMapIn ring) same h

  -- a map that a query names
  asked_map : (name : List ℕ) (f : maps.Map) → map_named env client name ≡ Ok f
      → (setting : Setting) × IsWithin env setting × IsMapIn setting.ring f
  asked_map name f e =
      let found = both_ok (checked_name env client name) (as_map name) f e in
      let given = both_ok (ring_given env) (λ _. known env client name) found.0 found.1 in
      let setting = ring_setting env given.0 given.1 in
      (setting.0, setting.1, map_found setting.0.ring name found.0 f found.2 (found_in setting.0 setting.1 name found.0 given.2))

  asked_sound : (query : Query) (q : CheckedQuery) → checked_query env client query ≡ Ok q → IsAsked env q
  asked_sound (Kernel name) q e =
      let found = both_ok (map_named env client name) (λ f. Ok (asked.Kernel f)) q e in
      let f = asked_map name found.0 found.1 in
      let same : asked.Kernel found.0 ≡ q = cc in
      subst (IsAsked env) same (record { setting = f.0; within = f.1; map_in = f.2 })
  asked_sound (Image name) q e =
      let found = both_ok (map_named env client name) (λ f. Ok (asked.Image f)) q e in
      let f = asked_map name found.0 found.1 in
      let same : asked.Image found.0 ≡ q = cc in
      subst (IsAsked env) same (record { setting = f.0; within = f.1; map_in = f.2 })
  asked_sound (Coker name) q e =
      let found = both_ok (map_named env client name) (λ f. Ok (asked.Coker f)) q e in
      let f = asked_map name found.0 found.1 in
      let same : asked.Coker found.0 ≡ q = cc in
      subst (IsAsked env) same (record { setting = f.0; within = f.1; map_in = f.2 })

  -- a module that is defined
  defined_sound : (name : List ℕ) (degrees : List ℤ) (rows : List (List (List RawTerm))) (m : Matrix)
      → checked_module env client name degrees rows ≡ Ok m → IsDefined env m
  defined_sound name degrees rows m e =
      let given = both_ok (ring_given env) _ m e in
      let ring = given.0 in
      let variables = both_ok (are_variables ring rows) _ m given.2 in
      let new = both_ok (is_new env client name) _ m variables.2 in
      let shape = both_ok (provided faults.Shape (has_shape (length degrees) rows)) _ m new.2 in
      let homogeneous = both_ok (are_homogeneous (relations_of ring degrees rows)) _ m shape.2 in
      let range = both_ok (provided faults.Range (list_all is_degree degrees)) _ m homogeneous.2 in
      let same : relations_of ring degrees rows ≡ m = cc in
      let setting = ring_setting env ring given.1 in
      let listed : IsTrue (is_modulus ring.modulus) =
      subst (λ (r : rings.Ring). IsTrue (is_modulus r.modulus)) setting.2 (names_in setting.0 setting.1).0 in
      let shaped = provided_ok faults.Shape (has_shape (length degrees) rows) shape.0 shape.1 in
      let none = unless_some_ok faults.Degree (first_fault 1 degrees (relations_of ring degrees rows).rows) homogeneous.0 homogeneous.1 in
      let small = provided_ok faults.Range (list_all is_degree degrees) range.0 range.1 in
      let inside : IsModuleIn ring (relations_of ring degrees rows) = record {
        matrix = placed_rows ring listed 1 degrees rows shaped none;
        modulus = refl;
        generators = are_generator_degrees degrees small;
      } in
      record {
        setting = setting.0;
        within = setting.1;
        module_in = subst (λ (r : rings.Ring). IsModuleIn r m) (sym setting.2) (subst (IsModuleIn ring) same inside);
        own = subst (λ (n : Matrix). HaveOwnDegrees n.target n.rows) same (own_degrees ring degrees rows);
      }
    where
      own_degrees : (ring : rings.Ring) (ds : List ℤ) (rs : List (List (List RawTerm)))
          → HaveOwnDegrees ds (map (row_vector ring ds) rs)
      own_degrees ring ds [] = tt
      own_degrees ring ds (r ∷ rs) = (refl, own_degrees ring ds rs)

  -- a map that is defined
  matrix_sound : (name source target : List ℕ) (rows : List (List (List RawTerm))) (f : maps.Map)
      → checked_map env client name source target rows ≡ Ok f → IsMatrixIn env f
  matrix_sound name source target rows f e =
      let given = both_ok (ring_given env) _ f e in
      let ring = given.0 in
      let from = both_ok (known env client source) _ f given.2 in
      let to = both_ok (known env client target) _ f from.2 in
      let variables = both_ok (are_variables ring rows) _ f to.2 in
      let first = both_ok (as_module source from.0) _ f variables.2 in
      let second = both_ok (as_module target to.0) _ f first.2 in
      let m = first.0 in
      let n = second.0 in
      let new = both_ok (is_new env client name) _ f second.2 in
      let size = both_ok (provided faults.Shape (has_size (length m.target) (length n.target) rows)) _ f new.2 in
      let matrix = matrix_between ring m.target n.target rows in
      let homogeneous = both_ok (are_homogeneous matrix) _ f size.2 in
      let same = same_accepted (record { source = m; target = n; matrix = matrix }) f homogeneous.2 in
      let setting = ring_setting env ring given.1 in
      let listed : IsTrue (is_modulus ring.modulus) =
      subst (λ (r : rings.Ring). IsTrue (is_modulus r.modulus)) setting.2 (names_in setting.0 setting.1).0 in
      let source_in = module_found setting.0.ring source from.0 m first.1 (found_in setting.0 setting.1 source from.0 from.1) in
      let target_in = module_found setting.0.ring target to.0 n second.1 (found_in setting.0 setting.1 target to.0 to.1) in
      let sized = provided_ok faults.Shape (has_size (length m.target) (length n.target) rows) size.0 size.1 in
      let none = unless_some_ok faults.Degree (first_fault 1 n.target matrix.rows) homogeneous.0 homogeneous.1 in
      let one_ring : plain setting.0.ring.modulus ≡ plain ring.modulus = ap (λ (r : rings.Ring). plain r.modulus) setting.2 in
      subst (IsMatrixIn env) same
      (record {
        setting = setting.0;
        within = setting.1;
        source = source_in;
        target = target_in;
        between = record {
          source_ring = sym (source_in.modulus ∙ one_ring);
          target_ring = sym (target_in.modulus ∙ one_ring);
          source_degrees = degrees_given ring rows 0 m.target;
          target_degrees = refl;
        };
        matrix = placed_between ring listed rows n.target 1 0 m.target
            (λ j less. size-entries (length m.target) (length n.target) rows sized j (omega (arith, less))) none;
      })

  -- a vector that is given
  vector_sound : (name : List ℕ) (rows : List (List (List RawTerm))) (given : Matrix × Vector)
      → checked_vector env client name rows ≡ Ok given → IsVectorOf env given.0 given.1
  vector_sound name rows result e =
      let given = both_ok (ring_given env) _ result e in
      let ring = given.0 in
      let found = both_ok (known env client name) _ result given.2 in
      let variables = both_ok (are_variables ring rows) _ result found.2 in
      let first = both_ok (as_module name found.0) _ result variables.2 in
      let m = first.0 in
      let shape = both_ok (provided faults.Shape (is_single_row (length m.target) rows)) _ result first.2 in
      let v = row_vector ring m.target (first_row rows) in
      let homogeneous = both_ok (provided (faults.Degree 1) (is_homogeneous m.target v)) _ result shape.2 in
      let same : (m, v) ≡ result = cc in
      let setting = ring_setting env ring given.1 in
      let listed : IsTrue (is_modulus ring.modulus) =
      subst (λ (r : rings.Ring). IsTrue (is_modulus r.modulus)) setting.2 (names_in setting.0 setting.1).0 in
      let module_in = module_found setting.0.ring name found.0 m first.1 (found_in setting.0 setting.1 name found.0 found.1) in
      let one_ring : plain setting.0.ring.modulus ≡ plain ring.modulus = ap (λ (r : rings.Ring). plain r.modulus) setting.2 in
      let shaped = provided_ok faults.Shape (is_single_row (length m.target) rows) shape.0 shape.1 in
      let tested = provided_ok (faults.Degree 1) (is_homogeneous m.target v) homogeneous.0 homogeneous.1 in
      subst (λ (p : Matrix × Vector). IsVectorOf env p.0 p.1) same
      (record {
        setting = setting.0;
        within = setting.1;
        module_in = module_in;
        vector = subst (λ r. IsVector r m.target v) (sym (module_in.modulus ∙ one_ring)) (placed_single ring listed m.target rows shaped tested);
        own = refl;
      })

  -- maps that a line names, within the setting in which a ring is given
  maps_sound : (setting : Setting) → IsWithin env setting → (names : List (List ℕ)) (fs : List maps.Map)
      → maps_named env client names ≡ Ok fs → AllByRecursion (IsMapIn setting.ring) fs
  maps_sound setting within [] fs e =
      let same : [] ≡ fs = cc in subst (AllByRecursion (IsMapIn setting.ring)) same tt
  maps_sound setting within (name ∷ names) fs e =
      let first = both_ok (map_named env client name) _ fs e in
      let others = both_ok (maps_named env client names) _ fs first.2 in
      let f = asked_map name first.0 first.1 in
      let same : first.0 ∷ others.0 ≡ fs = cc in
      let one : f.0 ≡ setting = within_one f.0 setting f.1 within in
      subst (AllByRecursion (IsMapIn setting.ring)) same
      (subst (λ (s : Setting). IsMapIn s.ring first.0) one f.2, maps_sound setting within names others.0 others.1)
    where
      within_one : (s t : Setting) → IsWithin env s → IsWithin env t → s ≡ t
      within_one s t h k = let both : Within s ≡ Within t = sym h ∙ k in cc

  -- maps that meet in equal modules
  maps_meet : (fs : List maps.Map) → do_meet fs ≡ true → AllByRecursion AreMeeting (junctions fs)
  maps_meet [] e = tt
  maps_meet (f ∷ []) e = tt
  maps_meet (f ∷ g ∷ fs) e =
      let both = and_parts (same_matrix f.source g.target) (do_meet (g ∷ fs)) e in
      ((Decides-same_matrix f.source g.target).0 both.0, maps_meet (g ∷ fs) both.1)

  -- a complex that is defined
  complex_sound : (name : List ℕ) (names : List (List ℕ)) (c : complexes.Complex)
      → checked_complex env client name names ≡ Ok c → IsChained env c
  complex_sound name names c e =
      let given = both_ok (ring_given env) _ c e in
      let setting = ring_setting env given.0 given.1 in
      let all_known = both_ok (are_known env client names) _ c given.2 in
      let fs = both_ok (maps_named env client names) _ c all_known.2 in
      let new = both_ok (is_new env client name) _ c fs.2 in
      let meet = both_ok (provided faults.Shape (do_meet fs.0)) _ c new.2 in
      let same : record { maps = fs.0 } ≡ c = cc in
      subst (IsChained env) same
      (record {
        setting = setting.0;
        within = setting.1;
        chain_in = record {
          maps = maps_sound setting.0 setting.1 names fs.0 fs.1;
          meeting = maps_meet fs.0 (provided_ok faults.Shape (do_meet fs.0) meet.0 meet.1);
        };
      })

  -- where a name is found a ring is given
  given_ring : (name : List ℕ) (what : Named) → checked_name env client name ≡ Ok what → IsGiven env
  given_ring name what e =
      let given = both_ok (ring_given env) (λ _. known env client name) what e in
      let setting = ring_setting env given.0 given.1 in (setting.0, setting.1)

  -- what a command asks for
  pub checked_sound : (command : Command) (c : Checked) → HasVariables command → checked env client command ≡ Ok c → IsSoundCheck env c
  checked_sound (Spectral version) c written e =
      let opened = both_ok (provided faults.Ring (opens env.heads version)) _ c e in
      let unopened = opens_unopened env.heads version (provided_ok faults.Ring (opens env.heads version) opened.0 opened.1) in
      let same : checks.Opens ≡ c = cc in
      subst (IsSoundCheck env) same unopened
    where
      opens_unopened : (heads : Heads) (n : ℤ) → opens heads n ≡ true → heads ≡ Unopened
      opens_unopened Unopened n f = refl
      opens_unopened Opened n f = cc
      opens_unopened (Within setting) n f = cc
  checked_sound (Ring modulus names) c written e =
      let entered = both_ok (provided faults.Ring (enters env.heads modulus names)) _ c e in
      let ring : rings.Ring = record { modulus = modulus; names = names } in
      let sound_ring : IsRing env ring =
      given env.heads refl (provided_ok faults.Ring (enters env.heads modulus names) entered.0 entered.1) in
      let same : checks.Enters (record { modulus = modulus; names = names }) ≡ c = cc in
      subst (IsSoundCheck env) same sound_ring
    where
      given : (heads : Heads) → env.heads ≡ heads → enters heads modulus names ≡ true
          → IsRing env (record { modulus = modulus; names = names })
      given Unopened f g = cc
      given Opened f g =
          let both = and_parts (is_modulus modulus) (nat_le (length names) 6 && are_distinct names) g in
          let few = and_parts (nat_le (length names) 6) (are_distinct names) both.1 in
          record { opened = f; listed = both.0; some = written; few = leb-true (length names) 6 few.0 }
      given (Within setting) f g = cc
  checked_sound (Limit limit) c written e =
      let entered = both_ok (limit_entered env.heads limit) _ c e in
      let same : checks.Limits entered.0 ≡ c = cc in
      subst (IsSoundCheck env) same (limit_sound env.heads refl limit entered.0 entered.1)
    where
      limit_sound : (heads : Heads) → env.heads ≡ heads → (l : ℤ) (n : ℕ) → limit_entered heads l ≡ Ok n → IsLimited env n
      limit_sound Unopened f l n g = cc
      limit_sound Opened f l n g = cc
      limit_sound (Within setting) f l n g = by setting.limited setting.noted (is_limit l) refl refl g
        where
          by : (given noted small : Bool) → setting.noted ≡ noted → is_limit l ≡ small
              → (if given || noted then Err faults.Ring else (if small then Ok (unsigned_abs l) else Err faults.Range)) ≡ Ok n
              → IsLimited env n
          by true noted small h k j = cc
          by false true small h k j = cc
          by false false false h k j = cc
          by false false true h k j =
              let bounds = is_limit-bounds l k in
              let same : unsigned_abs l ≡ n = cc in
              subst (IsLimited env) same
              (record { setting = setting; within = f; least = bounds.0; greatest = bounds.1; early = h })
  checked_sound (Module name degrees relations) c written e =
      let m = both_ok (checked_module env client name degrees relations.rows) _ c e in
      let same : checks.Defines name m.0 ≡ c = cc in
      subst (IsSoundCheck env) same (defined_sound name degrees relations.rows m.0 m.1)
  checked_sound (Map name source target matrix) c written e =
      let f = both_ok (checked_map env client name source target matrix.rows) _ c e in
      let same : checks.Maps name f.0 ≡ c = cc in
      subst (IsSoundCheck env) same (matrix_sound name source target matrix.rows f.0 f.1)
  checked_sound (Complex name names) c written e =
      let chain = both_ok (checked_complex env client name names) _ c e in
      let same : checks.Chains name chain.0 ≡ c = cc in
      subst (IsSoundCheck env) same (complex_sound name names chain.0 chain.1)
  checked_sound (Let name query) c written e =
      let q = both_ok (checked_query env client query) _ c e in
      let new = both_ok (is_new env client name) _ c q.2 in
      let same : checks.Lets name q.0 ≡ c = cc in
      subst (IsSoundCheck env) same (asked_sound query q.0 q.1)
  checked_sound (Ask query) c written e =
      let q = both_ok (checked_query env client query) _ c e in
      let same : checks.Asks q.0 ≡ c = cc in
      subst (IsSoundCheck env) same (asked_sound query q.0 q.1)
  checked_sound (Show name) c written e =
      let what = both_ok (checked_name env client name) _ c e in
      let same : checks.Shows what.0 ≡ c = cc in
      subst (IsSoundCheck env) same (given_ring name what.0 what.1)
  checked_sound (Basis name) c written e =
      let m = both_ok (module_named env client name) _ c e in
      let found = both_ok (checked_name env client name) _ m.0 m.1 in
      let same : checks.Basis m.0 ≡ c = cc in
      subst (IsSoundCheck env) same (given_ring name found.0 found.1)
  checked_sound (Syz name) c written e =
      let m = both_ok (module_named env client name) _ c e in
      let found = both_ok (checked_name env client name) _ m.0 m.1 in
      let same : checks.Syz m.0 ≡ c = cc in
      subst (IsSoundCheck env) same (given_ring name found.0 found.1)
  checked_sound (Member name vector) c written e =
      let given = both_ok (checked_vector env client name vector.rows) _ c e in
      let same : checks.Member given.0.0 given.0.1 ≡ c = cc in
      subst (IsSoundCheck env) same (vector_sound name vector.rows given.0 given.1)
  checked_sound (Lift name vector) c written e =
      let given = both_ok (checked_vector env client name vector.rows) _ c e in
      let same : checks.Lift given.0.0 given.0.1 ≡ c = cc in
      subst (IsSoundCheck env) same (vector_sound name vector.rows given.0 given.1)
  checked_sound (Resolve name steps) c written e =
      let given = both_ok (checked_resolve env client name steps) _ c e in
      let m = both_ok (module_named env client name) _ given.0 given.1 in
      let found = both_ok (checked_name env client name) _ m.0 m.1 in
      let same : checks.Resolves given.0.0 given.0.1 ≡ c = cc in
      subst (IsSoundCheck env) same (given_ring name found.0 found.1)
  checked_sound Later c written e = cc
