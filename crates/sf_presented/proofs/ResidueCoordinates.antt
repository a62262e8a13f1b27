-- The coordinates of x in the residue field: 0, and no others.
use Rattle.std.proofs.Common.{◌≡◌, [], ◌∷◌, refl, ap, arith}
use Rattle.std.proofs.lemmas.Int.{ints}
use Rattle.sf_algebra.specs.Multiples.{combination, combination_terms}
use Rattle.sf_algebra.specs.Residues.{sum_mod, product_mod}
use Rattle.sf_algebra.specs.Rings.{plain, IsOverField}
use Rattle.sf_algebra.specs.Sums.{add, normal, insert}
use Rattle.sf_algebra.specs.Vectors.{Vector}
use Rattle.sf_algebra.proofs.Arithmetic.Primes.{no_factor, prime_from}
use Rattle.sf_groebner.specs.Examples.{term, vector}
use Rattle.sf_groebner.specs.ResolutionExamples.{two_variables, x_row, y_row}
use Rattle.sf_groebner.proofs.WorkedExamples.KoszulSteps.{variables-matrix, variables-span}
use Rattle.sf_presented.specs.ResidueField.{residue_field, one_map, HasCoordinatesOfX, RefusesXAsCoordinates}
use Rattle.sf_presented.proofs.Coordinates.{unique_coordinates}
use Rattle.sf_presented.proofs.ResidueFieldMaps.{residue-relations}

pub x-coordinates : HasCoordinatesOfX
unfolding add combination combination_terms normal insert sum_mod product_mod
x-coordinates = record {
  coefficients = search (arith, ints);
  reduced = record { basis = x_row ∷ y_row ∷ []; reduced_basis = variables-span; reduced = tt };
  value = record {
    degrees = refl;
    difference = record {
      coefficients = vector 1 (term 1 0 [] ∷ []);
      homogeneous = search (arith, ints);
      value = refl;
    };
  };
}

field : IsOverField (plain 101)
unfolding no_factor
field = record { prime = prime_from 101 9 (omega arith) refl (omega arith); weights = omega arith }

pub refuses_x_as_coordinates : RefusesXAsCoordinates
refuses_x_as_coordinates h =
    let same : vector 1 [] ≡ x_row =
    unique_coordinates one_map two_variables residue_field field residue-relations x_row variables-matrix.0.canonical
    (vector 1 []) x_row x-coordinates h in
    let terms : [] ≡ x_row.terms = ap (λ (v : Vector). v.terms) same in
    cc
