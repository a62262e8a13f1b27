-- What the plan of a map's fault answers. (Textbook; that the first is told is this project's own.)
use Rattle.std.specs.Prelude.{◌≡◌, ◌↔◌, ℕ, List, Option, None, Ok}
use Rattle.sf_algebra.specs.Matrices.{Matrix, IsMatrix}
use Rattle.sf_algebra.specs.Rings.{IsOverField}
use Rattle.sf_groebner.specs.Presentations.{IsModuleMap}
use Rattle.sf_matrix.specs.Runs.{Run}
use Rattle.sf_object.specs.declared.map.Map.{Map}
use Rattle.sf_object.specs.Faults.{IsBetween, IsFirstFault, map_plan}

-- the first relation that isn't sent into relations, or none; nothing else is it
abbrev pub AnswersFirstFault : Type 0
AnswersFirstFault =
    (limit : ℕ) (f : Map) (looked : List Matrix) (found : Option ℕ) → Run limit (map_plan f) looked (Ok found)
    → IsFirstFault f found × ((other : Option ℕ) → IsFirstFault f other → other ≡ found)

-- there is none exactly where the matrix is a map
abbrev pub HasNoFaultAsMap : Type 0
HasNoFaultAsMap =
    (f : Map) → IsOverField f.matrix.ring → IsMatrix f.source → IsMatrix f.target → IsMatrix f.matrix → IsBetween f
    → IsFirstFault f None ↔ IsModuleMap f.source f.target f.matrix
