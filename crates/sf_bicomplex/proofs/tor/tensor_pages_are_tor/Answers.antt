use Rattle.sf_bicomplex.proofs.Tensors.ExactLists.{exact_resolutions}
use Rattle.sf_bicomplex.proofs.Tensors.HigherRows.{nothing_above}
use Rattle.sf_bicomplex.proofs.Tensors.TensorPages.{first_page}
use Rattle.sf_bicomplex.proofs.Tensors.TorPages.{second_page}
use Rattle.sf_bicomplex.proofs.tor.tensor_pages_are_tor.Goals as goal

pub returns : goal.returns
returns c = record { first = first_page; second = second_page; above = nothing_above; resolutions = exact_resolutions }
