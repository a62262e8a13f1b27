use Rattle.sf_bidual.proofs.Existing.CartanEilenberg.{bidual_exists, cartan_eilenberg_exists}
use Rattle.sf_bidual.proofs.Existing.Uniqueness.{one_resolution}
use Rattle.sf_bidual.proofs.existence.cartan_eilenberg_resolutions_exist.Goals as goal

pub returns : goal.returns
returns c = record { complexes = cartan_eilenberg_exists; one = one_resolution; modules = bidual_exists }
