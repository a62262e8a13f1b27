-- What a call over a table settles of a line. (This project's own.)
use Rattle.std.specs.Prelude.{◌≡◌, ◌≤◌, [], Result, Ok, Err, ◌≤ℤ◌}
use Rattle.std.specs.List.{AllByRecursion}
use Rattle.sf_matrix.specs.Meets.{Meets}
use Rattle.sf_matrix.specs.Tables.{Table, GREATEST_REDUCED_DEGREE, matrices_of}
use Rattle.sf_matrix.specs.declared.basis.BaseFault.{BaseFault}
use Rattle.sf_algebra.specs.Vectors.{IsVector}
use Rattle.sf_module.specs.ModulePlans.{IsWellDefined}
use Rattle.sf_object.specs.Complexes.{HasSquareRoom, IsChain, junctions}
use Rattle.sf_object.specs.Faults.{HasImageRoom, IsBetween}
use Rattle.sf_script.specs.declared.checked.Checked.TheVariants.{Opens, Enters, Limits, Defines, Maps, Chains, Lets, Asks, Shows, Basis, Syz, Member, Lift, Resolves}
use Rattle.sf_script.specs.declared.checked.Checked.{Checked}
use Rattle.sf_session.specs.Outcomes.{outcome}
use Rattle.sf_script.specs.Headings.{DEFAULT_LIMIT, limited}
use Rattle.sf_script.specs.declared.named.Named.TheVariants.{Module}
use Rattle.sf_session.specs.Sound.{HasLowRelations}
use Rattle.sf_session.specs.State.{State, limit_of, looking}
use Rattle.sf_session.specs.Tasks.{Found, has_list, map_of, plan_of}
use Rattle.sf_session.specs.declared.outcome.Outcome.TheVariants as outs
use Rattle.sf_session.specs.declared.outcome.Outcome.TheVariants.{Tells, Refuses, Bars}
use Rattle.sf_session.specs.declared.outcome.Outcome.{Outcome}

-- what comes of the end of a plan's run
abbrev pub IsOutcomeOf : (c : Checked) → Result (Found c) BaseFault → Result Outcome BaseFault → Type 0
IsOutcomeOf c (Ok a) (Ok out) = out ≡ outcome c a
IsOutcomeOf c (Ok a) (Err fault) = ⊥
IsOutcomeOf c (Err end) (Ok out) = ⊥
IsOutcomeOf c (Err end) (Err fault) = fault ≡ end

-- the plan of a line was run to an end, of which this comes
pub record Settles (c : Checked) (before : Table) (result : Result Outcome BaseFault) (after : Table) : Type 0 where
  pub end : Result (Found c) BaseFault
  pub met : Meets before (plan_of c) end after
  pub told : IsOutcomeOf c end result

-- what the calls ask for: matrices that fit, and room for what is reduced
abbrev pub HasCallRoom : Checked → Type 0
HasCallRoom Opens = Unit {0}
HasCallRoom (Enters ring) = Unit {0}
HasCallRoom (Limits limit) = Unit {0}
HasCallRoom (Defines name m) = Unit {0}
HasCallRoom (Maps name f) = IsBetween f × HasImageRoom f
HasCallRoom (Chains name c) = IsChain c × AllByRecursion HasSquareRoom (junctions c.maps)
HasCallRoom (Lets name q) = IsWellDefined (map_of q)
HasCallRoom (Asks q) = IsWellDefined (map_of q)
HasCallRoom (Shows what) = Unit {0}
HasCallRoom (Basis m) = Unit {0}
HasCallRoom (Syz m) = Unit {0}
HasCallRoom (Member m v) = IsVector m.ring m.target v × (v.degree ≤ℤ GREATEST_REDUCED_DEGREE)
HasCallRoom (Lift m v) = IsVector m.ring m.target v × (v.degree ≤ℤ GREATEST_REDUCED_DEGREE)
HasCallRoom (Resolves m k) = Unit {0}

-- what else has to hold of what comes of a line: as long as headings are given nothing was looked at
abbrev pub MayCome : Outcome → State → Type 0
MayCome (Tells reply) s = Unit {0}
MayCome outs.Opens s = (s.looked ≡ []) × (limit_of s.env.heads ≡ DEFAULT_LIMIT)
MayCome (outs.Enters ring) s = (s.looked ≡ []) × (limit_of s.env.heads ≡ DEFAULT_LIMIT)
MayCome (outs.Limits limit) s = (s.looked ≡ []) × (limit_of (limited limit s.env.heads) ≡ limit) × (1 ≤ limit) × (limit ≤ 60)
MayCome (outs.Defines name what) s = HasLowRelations what
MayCome (Refuses fault) s = Unit {0}
MayCome (Bars fault) s = Unit {0}

-- the relations of the source of a map that is given have moderate degrees
abbrev pub HasLowSource : Checked → Type 0
HasLowSource Opens = Unit {0}
HasLowSource (Enters ring) = Unit {0}
HasLowSource (Limits limit) = Unit {0}
HasLowSource (Defines name m) = Unit {0}
HasLowSource (Maps name f) = HasLowRelations (Module f.source)
HasLowSource (Chains name c) = Unit {0}
HasLowSource (Lets name q) = Unit {0}
HasLowSource (Asks q) = Unit {0}
HasLowSource (Shows what) = Unit {0}
HasLowSource (Basis m) = Unit {0}
HasLowSource (Syz m) = Unit {0}
HasLowSource (Member m v) = Unit {0}
HasLowSource (Lift m v) = Unit {0}
HasLowSource (Resolves m k) = Unit {0}

-- what comes of a line was found through the session's table, and of the rest of the state only this changed, that a line with a
-- working list is noted
pub record Finds (c : Checked) (old : State) (result : Result Outcome BaseFault) (new : State) : Type 0 where
  pub before : Table
  pub after : Table
  pub limit : before.limit ≡ limit_of old.env.heads
  pub looked : matrices_of before.entries ≡ old.looked
  pub settled : Settles c before result after
  pub state : new ≡ looking (has_list c) (record old { looked = matrices_of after.entries })
