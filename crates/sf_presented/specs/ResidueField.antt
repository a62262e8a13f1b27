-- The map 1 from the ring to its residue field, over the residues modulo 101 and in two variables x and y: a kernel, an
-- image, a cokernel and coordinates where the target has relations. (The example is this project's own; its kernel is
-- resolved by the Koszul complex: Weibel, "An Introduction to Homological Algebra", section 4.5.)
use Rattle.std.specs.Prelude.{[], ◌∷◌, pos}
use Rattle.sf_algebra.specs.Matrices.{Matrix}
use Rattle.sf_algebra.specs.MatrixOperations.{identity}
use Rattle.sf_algebra.specs.Rings.{plain}
use Rattle.sf_groebner.specs.Examples.{vector}
use Rattle.sf_groebner.specs.Homology.{IsCokernel, IsImage, IsKernel}
use Rattle.sf_groebner.specs.HomologyExamples.{no_rows_at_all, no_rows_below, no_rows_between}
use Rattle.sf_groebner.specs.Presentations.{AreRelationsModulo, IsModuleMap}
use Rattle.sf_groebner.specs.ResolutionExamples.{koszul, two_variables, x_row}
use Rattle.sf_presented.specs.Coordinates.{AreCoordinates}

-- the ring as a free module: one generator of degree 0, no relations
abbrev pub whole_ring : Matrix
whole_ring = no_rows_below

-- the residue field: the same generator, with the relations x and y
abbrev pub residue_field : Matrix
residue_field = two_variables

-- the generator goes to the generator
abbrev pub one_map : Matrix
one_map = identity (plain 101) (pos 0 ∷ [])

abbrev pub IsMapOntoResidueField : Type 0
IsMapOntoResidueField = IsModuleMap whole_ring residue_field one_map

-- the other way it is no map: the relation x doesn't go to 0
abbrev pub RefusesMapIntoRing : Type 0
RefusesMapIntoRing = IsModuleMap residue_field whole_ring one_map → ⊥

-- the kernel is the ideal of x and y, with the Koszul relation between them
abbrev pub HasIdealAsKernel : Type 0
HasIdealAsKernel = IsKernel whole_ring residue_field one_map two_variables koszul

-- x and y aren't without a relation
abbrev pub RefusesFreeKernel : Type 0
RefusesFreeKernel = IsKernel whole_ring residue_field one_map two_variables no_rows_between → ⊥

-- and aren't the kernel where the target has no relations
abbrev pub RefusesKernelInRing : Type 0
RefusesKernelInRing = (relations : Matrix) → IsKernel whole_ring whole_ring one_map two_variables relations → ⊥

-- the image is the residue field
abbrev pub HasResidueFieldAsImage : Type 0
HasResidueFieldAsImage = IsImage residue_field one_map one_map residue_field

-- the cokernel is 0
abbrev pub HasNoCokernel : Type 0
HasNoCokernel = IsCokernel residue_field one_map no_rows_below no_rows_at_all

-- x and y are the relations of the generator modulo x and y
abbrev pub HasResidueRelations : Type 0
HasResidueRelations = AreRelationsModulo one_map two_variables residue_field

-- so the coordinates of x are 0
abbrev pub HasCoordinatesOfX : Type 0
HasCoordinatesOfX = AreCoordinates one_map two_variables residue_field x_row (vector 1 [])

-- and not x, which the relation x reduces
abbrev pub RefusesXAsCoordinates : Type 0
RefusesXAsCoordinates = AreCoordinates one_map two_variables residue_field x_row x_row → ⊥
