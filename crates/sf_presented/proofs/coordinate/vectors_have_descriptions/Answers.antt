use Rattle.sf_presented.proofs.PresentedCoordinates.{description_exists, unique_description}
use Rattle.sf_presented.proofs.coordinate.vectors_have_descriptions.Goals as goal

pub returns : goal.returns
returns c = record {
  exist = λ generators base relations described prime given. description_exists generators base relations prime given described;
  unique = λ generators base relations described prime given. unique_description generators base relations prime given described;
}
