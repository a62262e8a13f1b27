-- What `tensor` has met of its plan at each of its exits.
use Rattle.std.proofs.Common.{◌≡◌, ◌+◌, ◌*◌, Err, Result, length, ap, ◌∙◌, subst}
use Rattle.std.proofs.lemmas.List.{length-append}
use Rattle.sf_algebra.specs.Matrices.{Matrix}
use Rattle.sf_algebra.specs.MatrixOperations.{identity, stacked}
use Rattle.sf_algebra.specs.Rings.{IsOverField}
use Rattle.sf_algebra.proofs.GradedMatrices.Identities.{length-unit_rows}
use Rattle.sf_algebra.proofs.Tensors.KroneckerTransposes.{length-kronecker}
use Rattle.sf_algebra.proofs.Tensors.KroneckerVectors.{length-degree_sums}
use Rattle.sf_matrix.specs.declared.basis.BaseFault.{BaseFault}
use Rattle.sf_matrix.specs.Meets.{Meets}
use Rattle.sf_matrix.specs.Tables.{Table}
use Rattle.sf_genmor.specs.declared.presentation.Presentation.{Presentation}
use Rattle.sf_genmor.specs.QuotientLaws.{EndsBySize}
use Rattle.sf_genmor.specs.QuotientPlans.{quotient_plan}
use Rattle.sf_functor.specs.Functors.{tensor_matrix, tensor_relations}
use Rattle.sf_functor.specs.TensorPlans.{relations_between, tensor_plan}

-- the numbers of rows and columns of all relations
pub length-relations_between : (m n : Matrix)
    → length (relations_between m n).rows ≡ length m.rows * length n.target + length m.target * length n.rows
length-relations_between m n =
    let first : length (tensor_matrix m n).rows ≡ length m.rows * length n.target =
    length-kronecker m (identity m.ring n.target) ∙ ap (λ k. length m.rows * k) (length-unit_rows 0 n.target) in
    let second : length (tensor_relations m.target n).rows ≡ length m.target * length n.rows =
    length-kronecker (identity n.ring m.target) n ∙ ap (λ k. k * length n.rows) (length-unit_rows 0 m.target) in
    length-append (tensor_matrix m n).rows (tensor_relations m.target n).rows ∙ (λ i. first i + second i)

-- they alone may tell how the plan ends, where code reads the relations of both modules
pub tensor_ends : (t : Table) (m n : Matrix) {a b : Matrix} (fault : BaseFault) → IsOverField m.ring → a ≡ m → b ≡ n
    → EndsBySize (length a.rows * length b.target + length a.target * length b.rows) (length a.target * length b.target) fault
    → Meets t (tensor_plan m n) (Err fault) t
unfolding tensor_plan
tensor_ends t m n fault field same_m same_n ends =
    subst (λ (x : Matrix × Matrix). EndsBySize (length x.0.rows * length x.1.target + length x.0.target * length x.1.rows)
    (length x.0.target * length x.1.target) fault) (λ i. (same_m i, same_n i)) ends
    t (relations_between m n) field (length-relations_between m n) (length-degree_sums m.target n.target)

-- else the relations are stacked
pub tensor_found : {t u : Table} (m n : Matrix) {first second rows : Matrix} → first ≡ tensor_matrix m n
    → second ≡ tensor_relations m.target n → rows ≡ stacked first second → {r : Result Presentation BaseFault}
    → Meets t (quotient_plan rows) r u → Meets t (tensor_plan m n) r u
unfolding tensor_plan
tensor_found {t} {u} m n same_first same_second same {r} h =
    subst (λ rows. Meets t (quotient_plan rows) r u) (same ∙ (λ i. stacked (same_first i) (same_second i))) h
