use Rattle.sf_matrix.proofs.Plans.Existence.{run_exists}
use Rattle.sf_matrix.proofs.Plans.Uniqueness.{run_unique}
use Rattle.sf_matrix.proofs.laws.plans_have_one_run.Goals as goal

pub returns : goal.returns
returns c = record {
  vectors_exist = λ limit plan. run_exists limit plan;
  vectors_unique = λ limit plan looked others end other. run_unique limit plan looked others end other;
  matrices_exist = λ limit plan. run_exists limit plan;
  matrices_unique = λ limit plan looked others end other. run_unique limit plan looked others end other;
}
