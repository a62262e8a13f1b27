-- The plan of a presentation of a module N modulo a module B, both given by their reduced bases: at which matrix it looks and
-- what it asks. (Textbook; the choice of generators and relations is this project's own.)
use Rattle.std.specs.Prelude.{◌≡◌, ℕ, List, [], ◌∷◌}
use Rattle.std.specs.List.{AllByRecursion}
use Rattle.sf_algebra.specs.Matrices.{Matrix, row_degrees}
use Rattle.sf_algebra.specs.Vectors.{Vector}
use Rattle.sf_groebner.specs.MinimalGenerators.{matrix_of}
use Rattle.sf_groebner.specs.Small.{IsSmallReducedBasis}
use Rattle.sf_matrix.specs.KeptNumbers.{IsModerate, SpansInto}
use Rattle.sf_matrix.specs.Plans.{Plan, answer, ask, bind}
use Rattle.sf_matrix.specs.Questions.{kept}
use Rattle.sf_presented.specs.FreeBases.{unit_basis}
use Rattle.sf_genmor.specs.declared.presentation.Presentation.{Presentation}
use Rattle.sf_genmor.specs.LookPlans.{blocks_plan}

-- a matrix without rows over the same target, the basis of the module 0
abbrev pub without_rows : Matrix → Matrix
without_rows m = matrix_of m.ring m.target []

-- those rows of n that aren't in the span of the base and the earlier rows
unfoldable pub generators_plan : Matrix → Matrix → Plan Matrix
generators_plan n base = ask (kept base n.rows) (λ rows. answer (matrix_of n.ring n.target rows))

-- the reduced basis of the relations of these rows modulo the span of the base; where there is no row, nothing is looked at
abbrev pub relations_plan_of : Matrix → Matrix → List Vector → Plan Matrix
relations_plan_of generators base [] = answer (matrix_of generators.ring (row_degrees generators) [])
relations_plan_of generators base (v ∷ vs) = blocks_plan generators base

unfoldable pub relations_plan : Matrix → Matrix → Plan Matrix
relations_plan generators base = relations_plan_of generators base generators.rows

-- the minimal generators of N modulo B, their reduced relations, and of these the minimal ones
unfoldable pub present_plan : Matrix → Matrix → Plan Presentation
present_plan n base =
    bind (generators_plan n base) (λ generators.
    bind (relations_plan generators base) (λ reduced.
    bind (generators_plan reduced (without_rows reduced)) (λ relations.
    answer (record { gens = generators; rels = relations; reduced_rels = reduced }))))

-- which rows may be candidates for generators: those of a small reduced basis, none, or all unit vectors modulo 0
pub data HasCandidates (limit : ℕ) (n base : Matrix) : Type 0 where
  small_rows : IsSmallReducedBasis limit n → AllByRecursion IsModerate n.target → HasCandidates limit n base
  no_rows : n.rows ≡ [] → HasCandidates limit n base
  all_units : n.rows ≡ unit_basis n.target → base.rows ≡ [] → HasCandidates limit n base

-- the span of n may be presented modulo that of the base: they stand in one free module, the first holds the second, and the
-- rows of n may be candidates
pub record IsPresentable (limit : ℕ) (n base : Matrix) : Type 0 where
  pub ring : base.ring ≡ n.ring
  pub target : base.target ≡ n.target
  pub inside : SpansInto base n
  pub candidates : HasCandidates limit n base
