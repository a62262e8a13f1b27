use Rattle.sf_algebra.proofs.Monomials.Weights.{field_ring}
use Rattle.sf_genmor.proofs.LookAnswers.{IsMatrix-base, basis_is, basis_look, blocks_is, blocks_look, syzygies_is, syzygies_look, unique_basis, unique_relations, unique_syzygies}
use Rattle.sf_genmor.proofs.laws.looks_answer_bases.Goals as goal

pub returns : goal.returns
returns c = record {
  basis = λ limit m looked b run.
      let found = basis_look limit m looked b run in
      let answer = basis_is limit m looked b run in
      (answer, λ other. unique_basis m (field_ring found.1.field) found.1.matrix b other answer);
  syzygies = λ limit m looked b run.
      let found = syzygies_look limit m looked b run in
      let answer = syzygies_is limit m looked b run in
      (answer, λ other. unique_syzygies m (field_ring found.1.field) b other answer);
  relations = λ limit m base looked b rings targets run.
      let found = blocks_look limit m base looked b run in
      let answer = blocks_is limit m base looked b rings run in
      (answer, λ other. unique_relations m base rings (field_ring found.1.field) (IsMatrix-base m base rings targets found.1.matrix) b other answer);
}
