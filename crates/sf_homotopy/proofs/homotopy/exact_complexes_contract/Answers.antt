use Rattle.sf_homotopy.proofs.Contracting.Contractions.{contractions}
use Rattle.sf_homotopy.proofs.Contracting.ExactTransposes.{exact_transposes}
use Rattle.sf_homotopy.proofs.Contracting.Identities.{exact_identities}
use Rattle.sf_homotopy.proofs.Contracting.Splitting.{exact_by_homotopy}
use Rattle.sf_homotopy.proofs.Contracting.Transposes.{transposed_homotopy}
use Rattle.sf_homotopy.proofs.Exactness.ZeroProducts.{zero_products}
use Rattle.sf_homotopy.proofs.homotopy.exact_complexes_contract.Goals as goal

pub returns : goal.returns
returns c = record {
  contractions = contractions;
  transposes = transposed_homotopy;
  exact = exact_by_homotopy;
  zero = zero_products;
  exact_transposes = exact_transposes;
  identities = λ ring degrees above. exact_identities ring above degrees;
}
