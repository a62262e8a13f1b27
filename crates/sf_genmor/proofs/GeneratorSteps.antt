-- What a call over a table has met of the plan of minimal generators, at each of its exits.
use Rattle.std.proofs.Common.{◌≡◌, ℕ, List, [], map, Err, Ok, sym, subst}
use Rattle.std.specs.List.{AllByRecursion}
use Rattle.sf_algebra.specs.Matrices.{Matrix, IsMatrix}
use Rattle.sf_algebra.specs.Rings.{IsOverField}
use Rattle.sf_algebra.specs.Vectors.{Vector, IsVector}
use Rattle.sf_groebner.specs.MinimalGenerators.{AreKept, matrix_of}
use Rattle.sf_groebner.specs.Spans.{InSpan}
use Rattle.sf_matrix.specs.declared.basis.BaseFault.TheVariants.{Memory}
use Rattle.sf_matrix.specs.KeptNumbers.{AreKeptNumbers, vector_at}
use Rattle.sf_matrix.specs.Meets.{Meets}
use Rattle.sf_matrix.specs.Plans.{Plan}
use Rattle.sf_matrix.specs.Questions.{IsSensible, kept}
use Rattle.sf_matrix.specs.Tables.{Table}
use Rattle.sf_matrix.proofs.Plans.Rules.{meets_answer, meets_asks, meets_memory}
use Rattle.sf_genmor.specs.PresentationPlans.{IsPresentable, generators_plan}
use Rattle.sf_genmor.specs.UnitLeads.{HasFreeRows}
use Rattle.sf_genmor.proofs.UnitLeads.{kept_free}

-- memory is wanting where the table stays as it was
pub meets_memory_at : {A : Type 0} {t u : Table} {plan : Plan A} → u ≡ t → Meets t plan (Err Memory) u
meets_memory_at {t = t} {plan = plan} stays = subst (Meets t plan (Err Memory)) (sym stays) meets_memory

-- the question makes sense
sensible : (limit : ℕ) (n base : Matrix) → IsOverField n.ring → IsMatrix n → IsMatrix base → IsPresentable limit n base
    → IsSensible (kept base n.rows)
sensible limit n base field matrix base_matrix h = (
  subst IsOverField (sym h.ring) field,
  base_matrix,
  subst (λ ring. AllByRecursion (IsVector ring base.target) n.rows) (sym h.ring)
      (subst (λ ds. AllByRecursion (IsVector n.ring ds) n.rows) (sym h.target) matrix),
)

module _ {t : Table} {n base : Matrix} (field : IsOverField n.ring) (matrix : IsMatrix n) (base_matrix : IsMatrix base)
    (h : IsPresentable t.limit n base) where
  generators_kept : (rows : List Vector) (g : Matrix) → AreKept base.ring (InSpan base) [] n.rows rows
      → g ≡ matrix_of n.ring n.target rows → Meets t (generators_plan n base) (Ok g) t
  unfolding generators_plan
  generators_kept rows g kept_rows same = meets_asks rows (sensible t.limit n base field matrix base_matrix h) kept_rows (meets_answer same)

  -- all are kept
  pub generators_free : {g : Matrix} → HasFreeRows n base → g ≡ n → Meets t (generators_plan n base) (Ok g) t
  generators_free {g} free same = generators_kept n.rows g (kept_free t.limit n base h field free) same

  -- those with the numbers that a table gives
  pub generators_picked : {u : Table} {g : Matrix} (numbers : List ℕ) → u ≡ t → AreKeptNumbers (InSpan base) n numbers
      → g ≡ matrix_of n.ring n.target (map (vector_at n.rows) numbers) → Meets t (generators_plan n base) (Ok g) u
  generators_picked {u} {g} numbers stays found same =
      subst (λ x. Meets t (generators_plan n base) (Ok g) x) (sym stays)
      (generators_kept (map (vector_at n.rows) numbers) g
      (subst (λ ring. AreKept ring (InSpan base) [] n.rows (map (vector_at n.rows) numbers)) (sym h.ring) found.kept) same)
