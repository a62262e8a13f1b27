use Rattle.sf_bidual.proofs.Bounded.Modules.{bidual_of_variables, one_purity_filtration, purity_filtration}
use Rattle.sf_bidual.proofs.Bounded.Resolutions.{no_step_past_variables}
use Rattle.sf_bidual.proofs.bound.purity_filtrations_exist.Goals as goal

pub returns : goal.returns
returns c = record {
  end = λ n some few ring maps x prime complex keeps h. no_step_past_variables n some few ring prime maps complex keeps x h;
  modules = bidual_of_variables;
  filtrations = purity_filtration;
  one = λ n relations prime matrix steps others x y. one_purity_filtration n relations prime matrix steps others x y;
}
