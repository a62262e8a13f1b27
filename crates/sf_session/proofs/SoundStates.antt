-- Each line leaves a sound state where it found one.
use Rattle.std.proofs.Common.{◌≡◌, ℕ, List, [], ◌∷◌, Some, None, Ok, sym, ◌∙◌, subst, ℤ, IsTrue, arith}
use Rattle.std.proofs.lemmas.Int.{ints}
use Rattle.std.specs.List.{AllByRecursion}
use Rattle.sf_algebra.specs.Bounds.{IsSmallDegree}
use Rattle.sf_algebra.specs.Matrices.{Matrix, row_degrees}
use Rattle.sf_algebra.specs.Rings.{IsOverField}
use Rattle.sf_field.specs.Moduli.{is_modulus}
use Rattle.sf_genmor.specs.declared.presentation.Presentation.{Presentation}
use Rattle.sf_matrix.specs.Runs.{Run}
use Rattle.sf_genmor.specs.SoundPresentations.{IsSoundOver}
use Rattle.sf_module.proofs.ModuleAnswers.{kernel_sound, image_sound, cokernel_sound}
use Rattle.sf_object.specs.Faults.{IsBetween}
use Rattle.sf_object.proofs.MapFaults.{no_fault_map}
use Rattle.sf_groebner.specs.Presentations.{IsModuleMap}
use Rattle.sf_text.specs.declared.ring.Ring as rings
use Rattle.sf_script.specs.Headings.{HasFewVariables, HasLimit, noted, limited, ring_entered}
use Rattle.sf_script.specs.Names.{Env, with_name}
use Rattle.sf_script.specs.declared.checked.Checked.TheVariants as checks
use Rattle.sf_script.specs.declared.checked.Checked.{Checked}
use Rattle.sf_script.specs.declared.checked.CheckedQuery.TheVariants as asked
use Rattle.sf_script.specs.declared.checked.CheckedQuery.{CheckedQuery}
use Rattle.sf_script.specs.declared.heads.Heads.TheVariants.{Unopened, Opened, Within}
use Rattle.sf_script.specs.declared.heads.Heads.{Heads}
use Rattle.sf_script.specs.declared.heads.Setting.{Setting}
use Rattle.sf_script.specs.declared.named.Named.TheVariants as names
use Rattle.sf_script.specs.declared.named.Named.{Named}
use Rattle.sf_session.specs.Outcomes.{outcome, state_after}
use Rattle.sf_session.specs.Sound.{IsSound, IsGeneratorDegree, IsModuleIn, IsMapIn, IsNamedIn, HasNamesIn}
use Rattle.sf_session.specs.State.{State}
use Rattle.sf_session.specs.Tasks.{Found, map_of, plan_of, query_plan}
use Rattle.sf_session.specs.SoundChecks.{IsSoundCheck, IsWithin, IsLimited, IsRing}
use Rattle.sf_session.proofs.NamesIn.{with_name_all}
use Rattle.sf_session.proofs.Placed.{over_field}
use Rattle.sf_session.proofs.TaskAnswers.{IsReady, task_fixed}

abbrev with_other_heads : Heads → Env → Env
with_other_heads heads env = record env { heads = heads }

-- a map stands between its modules
pub map_between : (source target map : Matrix) → IsModuleMap source target map
    → IsBetween (record { source = source; target = target; matrix = map })
map_between source target map h = record {
  source_ring = h.source_ring;
  target_ring = h.target_ring;
  source_degrees = h.source_degrees;
  target_degrees = h.target_degrees;
}

-- what a sound check asks for is ready
pub check_ready : (env : Env) (c : Checked) → IsSoundCheck env c → IsReady c
check_ready env checks.Opens h = tt
check_ready env (checks.Enters ring) h = tt
check_ready env (checks.Limits n) h = tt
check_ready env (checks.Defines name m) h = tt
check_ready env (checks.Maps name f) h = tt
check_ready env (checks.Chains name c) h = tt
check_ready env (checks.Lets name q) h =
    map_between (map_of q).source (map_of q).target (map_of q).matrix h.map_in.map
check_ready env (checks.Asks q) h = map_between (map_of q).source (map_of q).target (map_of q).matrix h.map_in.map
check_ready env (checks.Shows what) h = tt
check_ready env (checks.Basis m) h = tt
check_ready env (checks.Syz m) h = tt
check_ready env (checks.Member m v) h = tt
check_ready env (checks.Lift m v) h = tt
check_ready env (checks.Resolves m k) h = tt

-- a line is noted
pub noted_sound : (env : Env) → IsSound env → IsSound (with_other_heads (noted env.heads) env)
noted_sound env h = by env.heads h.few h.limit h.names
  where
    by : (heads : Heads) → HasFewVariables heads → HasLimit heads → HasNamesIn heads env.clients
        → IsSound (with_other_heads (noted heads) env)
    by Unopened few limit names = record { few = few; limit = limit; names = names }
    by Opened few limit names = record { few = few; limit = limit; names = names }
    by (Within setting) few limit names = record { few = few; limit = limit; names = names }

module _ (env : Env) (sound : IsSound env) where
  -- a name is defined
  defined_name : (client name : List ℕ) (what : Named) (setting : Setting) → IsWithin env setting → IsNamedIn setting.ring what
      → IsSound (with_name client name what env)
  defined_name client name what setting within h = record {
    few = sound.few;
    limit = sound.limit;
    names =
        let names : HasNamesIn (Within setting) env.clients = rw within at sound.names in
        subst (λ heads. HasNamesIn heads (with_name client name what env).clients) (sym within)
        (names.0, with_name_all (IsNamedIn setting.ring) client name what env h names.1);
  }

  -- the version is accepted
  opened : env.heads ≡ Unopened → IsSound (with_other_heads Opened env)
  opened e = record { few = tt; limit = tt; names = rw e at sound.names }

  -- the ring is accepted
  entered : (ring : rings.Ring) → IsRing env ring → IsSound (with_other_heads (ring_entered ring) env)
  entered ring h =
      let none : HasNamesIn Opened env.clients = rw h.opened at sound.names in
      record {
        few = (h.some, h.few);
        limit = (omega arith, omega arith);
        names = (h.listed, rw none tt);
      }

  -- a limit is accepted
  limited_sound : (n : ℕ) → IsLimited env n → IsSound (with_other_heads (limited n env.heads) env)
  limited_sound n h =
      let few : HasFewVariables (Within h.setting) = rw h.within at sound.few in
      let names : HasNamesIn (Within h.setting) env.clients = rw h.within at sound.names in
      rw h.within (record { few = few; limit = (h.least, h.greatest); names = names })

-- the presentation that a query's plan answers is that of a module in the ring
pub query_sound : (limit : ℕ) (q : CheckedQuery) (looked : List Matrix) (p : Presentation) → IsBetween (map_of q)
    → Run limit (query_plan q) looked (Ok p) → IsSoundOver (map_of q).matrix.ring limit p
query_sound limit (asked.Kernel f) looked p between run = kernel_sound limit f looked p between run
query_sound limit (asked.Image f) looked p between run = image_sound limit f looked p between run
query_sound limit (asked.Coker f) looked p between run = cokernel_sound limit f looked p between run

generator_degrees : (degrees : List ℤ) → AllByRecursion IsSmallDegree degrees → AllByRecursion IsGeneratorDegree degrees
generator_degrees [] h = tt
generator_degrees (d ∷ ds) h =
    let low = h.0.0 in
    let high = h.0.1 in
    ((omega (arith, ints, low), omega (arith, ints, high)), generator_degrees ds h.1)

presented_in : (ring : rings.Ring) (limit : ℕ) (q : CheckedQuery) (p : Presentation) → IsMapIn ring (map_of q)
    → IsSoundOver (map_of q).matrix.ring limit p → IsModuleIn ring p.rels
presented_in ring limit q p within h = record {
  matrix = h.relations;
  modulus = h.relations_ring ∙ within.map.source_ring ∙ within.source.modulus;
  generators = subst (AllByRecursion IsGeneratorDegree) (sym h.relations_target)
      (generator_degrees (row_degrees p.gens) h.degrees.generators);
}

module _ (client : List ℕ) (old : State) (sound : IsSound old.env) where
  -- what comes of what was found
  pub outcome_sound : (c : Checked) → IsSoundCheck old.env c → (limit : ℕ) (looked : List Matrix) (a : Found c)
      → Run limit (plan_of c) looked (Ok a) → (ms : List Matrix)
      → IsSound (state_after client (outcome c a) (record old { looked = ms })).env
  outcome_sound checks.Opens h limit looked a run ms = opened old.env sound h
  outcome_sound (checks.Enters ring) h limit looked a run ms = entered old.env sound ring h
  outcome_sound (checks.Limits n) h limit looked a run ms = limited_sound old.env sound n h
  outcome_sound (checks.Defines name m) h limit looked a run ms =
      noted_sound (with_name client name (names.Module m) old.env)
      (defined_name old.env sound client name (names.Module m) h.setting h.within h.module_in)
  outcome_sound (checks.Maps name f) h limit looked None run ms =
      let between = h.between in
      let field : IsOverField f.matrix.ring =
      subst IsOverField (sym (between.source_ring ∙ h.source.modulus))
      (over_field h.setting.ring (within_listed h.setting h.within)) in
      let map = (no_fault_map f field h.source.matrix h.target.matrix h.matrix between).0
      (task_fixed limit (checks.Maps name f) tt looked None run).0 in
      noted_sound (with_name client name (names.Mapping f) old.env)
      (defined_name old.env sound client name (names.Mapping f) h.setting h.within
      (record { source = h.source; target = h.target; map = map }))
    where
      within_listed : (setting : Setting) → IsWithin old.env setting → IsTrue (is_modulus setting.ring.modulus)
      within_listed setting e = let names : HasNamesIn (Within setting) old.env.clients = rw e at sound.names in names.0
  outcome_sound (checks.Maps name f) h limit looked (Some relation) run ms = noted_sound old.env sound
  outcome_sound (checks.Chains name c) h limit looked None run ms =
      noted_sound (with_name client name (names.Chain c) old.env)
      (defined_name old.env sound client name (names.Chain c) h.setting h.within h.chain_in)
  outcome_sound (checks.Chains name c) h limit looked (Some place) run ms = noted_sound old.env sound
  outcome_sound (checks.Lets name q) h limit looked p run ms =
      let between = map_between (map_of q).source (map_of q).target (map_of q).matrix h.map_in.map in
      noted_sound (with_name client name (names.Module p.rels) old.env)
      (defined_name old.env sound client name (names.Module p.rels) h.setting h.within
      (presented_in h.setting.ring limit q p h.map_in (query_sound limit q looked p between run)))
  outcome_sound (checks.Asks q) h limit looked a run ms = noted_sound old.env sound
  outcome_sound (checks.Shows what) h limit looked a run ms = noted_sound old.env sound
  outcome_sound (checks.Basis m) h limit looked a run ms = noted_sound old.env sound
  outcome_sound (checks.Syz m) h limit looked a run ms = noted_sound old.env sound
  outcome_sound (checks.Member m v) h limit looked a run ms = noted_sound old.env sound
  outcome_sound (checks.Lift m v) h limit looked None run ms = noted_sound old.env sound
  outcome_sound (checks.Lift m v) h limit looked (Some c) run ms = noted_sound old.env sound
  outcome_sound (checks.Resolves m k) h limit looked a run ms = noted_sound old.env sound
