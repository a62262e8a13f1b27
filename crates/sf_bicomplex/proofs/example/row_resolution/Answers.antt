use Rattle.sf_bicomplex.proofs.Examples.ResolvedExample.{class-that-is-set, gives-quotient, multiple-that-bounds, resolves-example}
use Rattle.sf_bicomplex.proofs.Examples.ResolvedSpots.{resolving-bicomplex}
use Rattle.sf_bicomplex.proofs.example.row_resolution.Goals as goal

pub returns : goal.returns
returns c = record {
  bicomplex = resolving-bicomplex;
  resolves = resolves-example;
  class = class-that-is-set;
  multiple = multiple-that-bounds;
  quotient = gives-quotient;
}
