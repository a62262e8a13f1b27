-- Places of complexes that are made of complexes of free modules. (Weibel, "An Introduction to Homological Algebra", sections 2.5 and
-- 2.6, in homalg's convention.)
use Rattle.std.specs.Prelude.{ℕ, suc}
use Rattle.sf_algebra.specs.Matrices.{Matrix, row_degrees}
use Rattle.sf_groebner.specs.Homology.{ComplexPlace}
use Rattle.sf_bicomplex.specs.TensorBicomplexes.{FreeComplex}
use Rattle.sf_functor.specs.Functors.{hom_matrix, hom_relations, tensor_matrix, tensor_relations}
use Rattle.sf_module.specs.HomologyPlans.{place_between}

-- of two maps of free modules, one after the other, between the tensor products with N: the place between them
abbrev pub tensor_place : Matrix → Matrix → Matrix → ComplexPlace
tensor_place a b n =
    place_between (tensor_matrix a n) (tensor_relations (row_degrees b) n) (tensor_matrix b n) (tensor_relations b.target n)

-- Hom(D, N) of a complex D of free modules: between the maps that leave place i - 1 and place i
abbrev pub hom_place : FreeComplex → Matrix → ℕ → ComplexPlace
hom_place c n i =
    place_between (hom_matrix (c.map i) n) (hom_relations (c.degrees i) n) (hom_matrix (c.map (suc i)) n)
    (hom_relations (c.degrees (suc i)) n)

-- D x N: between the map from place i + 1 and that to place i - 1, which is 0 where i is 0
abbrev pub product_place : FreeComplex → Matrix → ℕ → ComplexPlace
product_place c n i =
    place_between (tensor_matrix (c.map (suc i)) n) (tensor_relations (c.degrees i) n) (tensor_matrix (c.map i) n)
    (tensor_relations (c.map i).target n)
