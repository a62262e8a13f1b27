use Rattle.sf_bicomplex.proofs.Examples.TensorSpots.{koszul-complex, no-residue_differential, residue-bicomplex}
use Rattle.sf_bicomplex.proofs.Examples.TensorNext.{identity-from_homology, identity-to_homology, last-residue_page, residue-leading_columns, residue-page_homology}
use Rattle.sf_bicomplex.proofs.Examples.TensorPages.{residue-page}
use Rattle.sf_bicomplex.proofs.Examples.TensorParts.{residue-parts}
use Rattle.sf_bicomplex.proofs.Examples.TensorTotal.{residue-homology}
use Rattle.sf_bicomplex.proofs.example.residue_field.Goals as goal

pub returns : goal.returns
returns c = record {
  complex = koszul-complex;
  bicomplex = residue-bicomplex;
  page = residue-page;
  differential = no-residue_differential;
  last_page = last-residue_page;
  homology = residue-page_homology;
  to_homology = identity-to_homology;
  from_homology = identity-from_homology;
  leading = residue-leading_columns;
  total = residue-homology;
  parts = residue-parts;
}
