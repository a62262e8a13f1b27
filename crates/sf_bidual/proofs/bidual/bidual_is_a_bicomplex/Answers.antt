use Rattle.sf_bidual.proofs.BidualSpots.Bicomplex.{bidual_bicomplex}
use Rattle.sf_bidual.proofs.bidual.bidual_is_a_bicomplex.Goals as goal

pub returns : goal.returns
returns c = record { bicomplex = bidual_bicomplex }
