-- The generators, the relations and the entries at pairs.
use Rattle.std.proofs.Common.{◌≡◌, ◌<◌, ◌==◌, if◌then◌else◌, [], ℤ, pos, ◌+ℤ◌, ◌-ℤ◌, neg_ℤ, refl, sym, ap, ◌∙◌, subst, arith}
use Rattle.std.proofs.lemmas.Int.{ints}
use Rattle.std.proofs.lemmas.List.{get_or-map, length-map}
use Rattle.sf_algebra.specs.MatrixOperations.{transposed}
use Rattle.sf_algebra.specs.Vectors.{generator_degree}
use Rattle.sf_algebra.proofs.GradedMatrices.Transposes.{IsMatrix-transposed, entry-transposed}
use Rattle.sf_algebra.proofs.Tensors.KroneckerIdentities.{entry-kronecker_identity, row_at-kronecker_identity_first}
use Rattle.sf_algebra.proofs.Tensors.KroneckerVectors.{generator_degree-degree_sums}
use Rattle.sf_functor.specs.FunctorLaws.{AddsDegrees, RepeatsRelations, SpreadsEntries, SpreadsTransposedEntries, SubtractsDegrees}
use Rattle.sf_functor.specs.Functors.{dual_degrees}

pub adds_degrees : AddsDegrees
adds_degrees degrees n i j first second = generator_degree-degree_sums degrees n.target i j _ first second refl

difference : (x y : ℤ) → neg_ℤ x +ℤ y ≡ y -ℤ x
difference x y = omega (arith, ints)

pub subtracts_degrees : SubtractsDegrees
subtracts_degrees degrees n i j first second =
    generator_degree-degree_sums (dual_degrees degrees) n.target i j _
    (subst (λ k. i < k) (sym (length-map degrees neg_ℤ)) first) second refl
    ∙ ap (λ d. d +ℤ generator_degree n.target j) (get_or-map neg_ℤ degrees i (pos 0) (pos 0) first)
    ∙ difference (generator_degree degrees i) (generator_degree n.target j)

pub repeats_relations : RepeatsRelations
repeats_relations degrees n positive h i k first second =
    row_at-kronecker_identity_first degrees n positive h i k first second

pub spreads_entries : SpreadsEntries
spreads_entries a n above h i j k l first second = entry-kronecker_identity a n.target above h i k j l first second

pub spreads_transposed_entries : SpreadsTransposedEntries
spreads_transposed_entries a n above h i j k l first second =
    entry-kronecker_identity (transposed a) n.target above (IsMatrix-transposed a h) j k i l first second
    ∙ ap (λ ts. if k == l then ts else []) (entry-transposed a h i j)
