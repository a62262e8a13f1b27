-- What a call over a table has met of a plan of one look, at each of its exits.
use Rattle.std.proofs.Common.{◌≡◌, ℕ, List, [], Option, Some, None, Ok, Err, sym, ap, subst, ◌∙◌}
use Rattle.sf_algebra.specs.Matrices.{Matrix, degrees_of}
use Rattle.sf_algebra.specs.Vectors.{Vector}
use Rattle.sf_groebner.specs.MinimalGenerators.{matrix_of}
use Rattle.sf_matrix.specs.Tables.{Table, graph_at}
use Rattle.sf_matrix.specs.declared.basis.BaseFault.TheVariants.{Memory}
use Rattle.sf_matrix.specs.declared.basis.BaseFault.{BaseFault}
use Rattle.sf_matrix.specs.declared.basis.Graph.{Graph}
use Rattle.sf_matrix.specs.Meets.{Meets, IsLookOf, Looked}
use Rattle.sf_matrix.proofs.Plans.Rules.{look_cut, look_fails, look_finds, look_skips, looked_now, meets_answer}
use Rattle.sf_genmor.specs.LookPlans.{basis_plan, syzygies_plan}

module _ {t u : Table} {m : Matrix} where
  pub basis_failed : {fault : BaseFault} → Looked t m (Err fault) u → Meets t (basis_plan m) (Err fault) u
  unfolding basis_plan
  basis_failed h = look_fails h

  pub basis_cut : {o : Option ℕ} → Looked t m (Ok o) u → Meets t (basis_plan m) (Err Memory) u
  unfolding basis_plan
  basis_cut h = look_cut h

  pub basis_none : {o : Option ℕ} {b : Matrix} → o ≡ None → Looked t m (Ok o) u → b ≡ matrix_of m.ring m.target []
      → Meets t (basis_plan m) (Ok b) u
  unfolding basis_plan
  basis_none none h e = look_skips none h (meets_answer e)

  pub basis_found : {o : Option ℕ} {k : ℕ} {graph : Graph} {b : Matrix} → o ≡ Some k → Looked t m (Ok o) u
      → graph_at u k ≡ Some graph → b ≡ graph.basis → Meets t (basis_plan m) (Ok b) u
  unfolding basis_plan
  basis_found some h read e =
      look_finds some h read (λ elements same. meets_answer (e ∙ ap (λ (g : Graph). g.basis) same))

  pub syzygies_failed : {fault : BaseFault} → Looked t m (Err fault) u → Meets t (syzygies_plan m) (Err fault) u
  unfolding syzygies_plan
  syzygies_failed h = look_fails h

  pub syzygies_cut : {o : Option ℕ} → Looked t m (Ok o) u → Meets t (syzygies_plan m) (Err Memory) u
  unfolding syzygies_plan
  syzygies_cut h = look_cut h

  -- a look that found no entry was at no rows
  pub rowless : {o : Option ℕ} → o ≡ None → Looked t m (Ok o) u → m.rows ≡ []
  rowless {o} none h = subst (IsLookOf u m) none (looked_now h)

  -- so there are no degrees
  pub syzygies_none : {o : Option ℕ} {b : Matrix} → o ≡ None → m.rows ≡ [] → Looked t m (Ok o) u
      → b ≡ matrix_of m.ring [] [] → Meets t (syzygies_plan m) (Ok b) u
  unfolding syzygies_plan
  syzygies_none none rowless h e =
      look_skips none h (meets_answer (e ∙ ap (λ (rows : List Vector). matrix_of m.ring (degrees_of rows) []) (sym rowless)))

  pub syzygies_found : {o : Option ℕ} {k : ℕ} {graph : Graph} {b : Matrix} → o ≡ Some k → Looked t m (Ok o) u
      → graph_at u k ≡ Some graph → b ≡ graph.syzygies → Meets t (syzygies_plan m) (Ok b) u
  unfolding syzygies_plan
  syzygies_found some h read e =
      look_finds some h read (λ elements same. meets_answer (e ∙ ap (λ (g : Graph). g.syzygies) same))
