use Rattle.sf_bidual.proofs.PurityParts.Parts.{purity_maps, purity_parts, purity_submodules, rising}
use Rattle.sf_bidual.proofs.purity.modules_have_purity_filtrations.Goals as goal

pub returns : goal.returns
returns c = record {
  rising = rising;
  submodules = purity_submodules;
  parts = purity_parts;
  inverse = purity_maps;
}
