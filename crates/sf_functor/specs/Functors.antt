-- Hom and tensor of a free module with a presented one, and what a map of free modules gives between them. A free module D is the list
-- of the degrees of its generators, and N is given by its relations. (Atiyah, Macdonald, "Introduction to Commutative Algebra",
-- chapter 2; in homalg's convention. The order of the generators is this project's own.)
use Rattle.std.specs.Prelude.{List, map, ℤ, neg_ℤ}
use Rattle.sf_algebra.specs.Matrices.{Matrix}
use Rattle.sf_algebra.specs.MatrixOperations.{identity, kronecker, transposed}

-- the relations of the tensor product of D and N, which is as many copies of N as D has generators
abbrev pub tensor_relations : List ℤ → Matrix → Matrix
tensor_relations degrees n = kronecker (identity n.ring degrees) n

-- a x 1, from the tensor product of the source of a and N to that of its target and N
abbrev pub tensor_matrix : Matrix → Matrix → Matrix
tensor_matrix a n = kronecker a (identity a.ring n.target)

-- the dual of a free module
abbrev pub dual_degrees : List ℤ → List ℤ
dual_degrees degrees = map neg_ℤ degrees

-- the relations of the module of maps from D to N, which is the tensor product of the dual of D and N
abbrev pub hom_relations : List ℤ → Matrix → Matrix
hom_relations degrees n = tensor_relations (dual_degrees degrees) n

-- from the maps of the target of a to N to those of its source: a first
abbrev pub hom_matrix : Matrix → Matrix → Matrix
hom_matrix a n = tensor_matrix (transposed a) n
