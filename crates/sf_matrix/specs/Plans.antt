-- Plans: at which matrices a query looks, one after another, and what it asks. A plan goes on from what it was given so far. (This
-- project's own.)
use Rattle.std.specs.Prelude.{List}
use Rattle.sf_algebra.specs.Matrices.{Matrix}
use Rattle.sf_algebra.specs.Vectors.{Vector}
use Rattle.sf_matrix.specs.Questions.{Question, Answer}

-- an answer; or a look at a matrix, which gives the reduced basis of its graph, and what comes then; or a question, and what comes
-- then
pub data Plan (A : Type 0) : Type 0 where
  answer : A → Plan A
  look : Matrix → (List Vector → Plan A) → Plan A
  ask : (q : Question) → (Answer q → Plan A) → Plan A

-- a plan, and then one that goes on from its answer
abbrev pub bind : {A B : Type 0} → Plan A → (A → Plan B) → Plan B
bind (answer a) further = further a
bind (look m next) further = look m (λ elements. bind (next elements) further)
bind (ask q next) further = ask q (λ x. bind (next x) further)

-- one look
abbrev pub look_plan : Matrix → Plan (List Vector)
look_plan m = look m answer

-- one question
abbrev pub ask_plan : (q : Question) → Plan (Answer q)
ask_plan q = ask q answer
