-- The plan of the steps of a resolution: at which matrices it looks. (Weibel, "An Introduction to Homological Algebra", section 2.2;
-- the choice of generators is this project's own.)
use Rattle.std.specs.Prelude.{ℕ, zero, suc, List, [], ◌∷◌, ◌++◌}
use Rattle.sf_algebra.specs.Matrices.{Matrix}
use Rattle.sf_groebner.specs.MinimalGenerators.{matrix_of}
use Rattle.sf_matrix.specs.Plans.{Plan, answer, look, ask, bind}
use Rattle.sf_matrix.specs.Questions.{kept}
use Rattle.sf_matrix.specs.Tables.{graph_of}

-- the minimal generators of the span of a reduced basis: those of its rows that aren't in the span of the earlier ones
abbrev pub minimal_plan : Matrix → Plan Matrix
minimal_plan basis =
    ask (kept (matrix_of basis.ring basis.target []) basis.rows) (λ rows. answer (matrix_of basis.ring basis.target rows))

-- the first step: a look at the relations, and the minimal generators of their span
unfoldable pub first_step_plan : Matrix → Plan Matrix
first_step_plan relations = look relations (λ elements. minimal_plan (graph_of relations elements).basis)

-- a further one: a look at the step before, and the minimal generators of its syzygies
unfoldable pub next_step_plan : Matrix → Plan Matrix
next_step_plan before = look before (λ elements. minimal_plan (graph_of before elements).syzygies)

-- the last of a matrix and some more
abbrev pub last_of : Matrix → List Matrix → Matrix
last_of m [] = m
last_of m (n ∷ ns) = last_of n ns

-- the step behind some steps
abbrev pub step_plan : Matrix → List Matrix → Plan Matrix
step_plan relations [] = first_step_plan relations
step_plan relations (step ∷ steps) = next_step_plan (last_of step steps)

-- the steps 1 to k of the resolution of the module with these relations, one after another: nothing is looked at for none; else the
-- relations, and then each step but the last
unfoldable pub resolution_plan : Matrix → ℕ → Plan (List Matrix)
resolution_plan relations zero = answer []
resolution_plan relations (suc k) =
    bind (resolution_plan relations k) (λ steps. bind (step_plan relations steps) (λ step. answer (steps ++ step ∷ [])))
